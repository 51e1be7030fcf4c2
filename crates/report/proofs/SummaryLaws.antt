-- Laws of what the program that prints a summary prints.
use Prim.Native.Nat.{ℕ, zero, suc, ◌+◌, ◌-◌, ◌*◌, ◌<◌, ◌≤◌}
use mathlib.Core.Path.{◌≡◌, refl, sym, ap, subst, ◌∙◌}
use mathlib.Core.Bool.{Bool, true, false}
use mathlib.Core.List.{List, [], ◌++◌, flatten, append-nil}
use native.Mathlib.Omega.{arith}
use native.Mathlib.Numerals.{add-one}
use native.Mathlib.Nat.{sub-zero}
use lib.ListN.{length, get_or, take, replicate, length-append, length-replicate}
use lib.Seq.{sets, length-sets}
use borrow.Author.Tests.{le-ltb}
use Rattle.usage.specs.Limits.{policies}
use Rattle.usage.specs.Tables.{from, edges_of, nodes_of, EdgeTable, NodeTable}
use Rattle.automaton.specs.Mask.{has}
use Rattle.sheet_lines.specs.Sheet.{Result, accepted, refused, sheet}
use Rattle.sheet_lines.specs.Sheets.{policy_sheet, is_local, outline_sheet}
use Rattle.sheet_reader.specs.Readers.{policies_read, ruled_result}
use Rattle.sheet_reader.proofs.AnswerLaws.{Holds, HoldsNodes, accepted-edges, accepted-nodes}
use Rattle.checker.specs.Summary.{Summary, Exact, Summarized, mark_bits}
use Rattle.checker.proofs.SummaryLaws.{exact-unique}
use Rattle.report_lines.specs.Lines.{names_line, row, mark_row_lem}
use Rattle.report_lines.proofs.PutLaws.{sets-append}
use Rattle.report_lines.proofs.RowLaws.{mark-five}
use Rattle.report.specs.Output.{fronted, length_put, put}
use Rattle.report.specs.Summary.{RightMarks, RightMarksOf, RightSummary, text_if, bit_text, policy_text, marks_text, summary_text}
use Rattle.report.specs.Summary.{nodes_summary, sheets_summary, summary_printed, longest_mark_row, summary_room, PrintsMarks}
use Rattle.report.proofs.OutputLaws.{no_room}

-- ── Texts f 0, f 1 and on, one after the other ──

-- those from i on, of n in all
abbrev pub texts_left : (ℕ → List ℕ) → ℕ → ℕ → List ℕ
texts_left f n i = flatten (from f i (n - i))

module _ (f : ℕ → List ℕ) (n : ℕ) where
  pub all_left : flatten (from f 0 n) ≡ texts_left f n 0
  all_left = let e : n - 0 ≡ n = omega arith in rw e

  pub none_left : (i : ℕ) → n ≤ i → texts_left f n i ≡ []
  unfolding from flatten
  none_left i h = let e : n - i ≡ 0 = omega arith in rw e

  pub next-left : (i : ℕ) → i < n → texts_left f n i ≡ f i ++ texts_left f n (i + 1)
  unfolding from flatten
  next-left i h = let k : n - i ≡ suc (n - (i + 1)) = omega arith in rw (k, add-one i)

-- what is stored and what is left make the whole, and the whole has room
abbrev pub Writing : (ℕ → List ℕ) → ℕ → List ℕ → ℕ → List ℕ → ℕ → ℕ → Type 0
Writing f n out₀ at out next i =
    (length out ≡ length out₀) × ((at + length (texts_left f n 0) ≤ length out₀)
    × ((next + length (texts_left f n i) ≡ at + length (texts_left f n 0))
    × (sets out next (texts_left f n i) ≡ sets out₀ at (texts_left f n 0))))

module _ (f : ℕ → List ℕ) (n : ℕ) (out₀ : List ℕ) (at : ℕ) where
  pub writing-begun : at + length (flatten (from f 0 n)) ≤ length out₀ → Writing f n out₀ at out₀ at 0
  writing-begun h = let e = ap length (all_left f n) in (refl, (omega arith, (refl, refl)))

  module _ (out : List ℕ) (next i : ℕ) (w : Writing f n out₀ at out next i) where
    pub writing-fits : i < n → next + length (f i) ≤ length out
    writing-fits h =
        let g = ap length (next-left f n i h) ∙ length-append (f i) (texts_left f n (i + 1)) in
        let k = w.0 in
        let m = w.1.0 in
        let l = w.1.1.0 in
        omega arith

    pub writing_more : {r : ℕ} {after : List ℕ} → i < n → r ≡ next + length (f i) → after ≡ sets out next (f i)
        → Writing f n out₀ at after r (i + 1)
    writing_more h er eo =
        let e = next-left f n i h in
        let g = ap length e ∙ length-append (f i) (texts_left f n (i + 1)) in
        let k = w.0 in
        let m = w.1.1.0 in
        let l = ap length eo ∙ length-sets out next (f i) in
        let kept = sym (sets-append out next (f i) (texts_left f n (i + 1))) ∙ ap (sets out next) (sym e) ∙ w.1.1.1 in
        (omega arith, (w.1.0, (omega arith, rw (eo, er) kept)))

    pub writing-done : n ≤ i → (next ≡ at + length (flatten (from f 0 n))) × (out ≡ sets out₀ at (flatten (from f 0 n)))
    writing-done h =
        let z = none_left f n i h in
        let g = ap length z in
        let m = w.1.1.0 in
        rw (all_left f n) (omega arith, ap (sets out next) (sym z) ∙ w.1.1.1)

-- where each has at most k bytes
texts-short : (f : ℕ → List ℕ) (k i n : ℕ) → ((j : ℕ) → j < i + n → length (f j) ≤ k) → length (flatten (from f i n)) ≤ n * k
unfolding from flatten
texts-short f k i zero h = omega arith
texts-short f k i (suc n) h =
    let l = h i (omega arith) in
    let m = texts-short f k (suc i) n (λ j b. h j (omega arith)) in
    omega (arith, length-append (f i) (flatten (from f (suc i) n)))

-- ── A bit's line ──

pub bit-set : (n p i : ℕ) → has n i ≡ true → bit_text n p i ≡ mark_row_lem p i
unfolding bit_text
bit-set n p i e = rw e

pub bit-clear : (n p i : ℕ) → has n i ≡ false → bit_text n p i ≡ []
unfolding bit_text
bit-clear n p i e = rw e

-- ── The room ──

text-if-short : (b : Bool) (t : List ℕ) (k : ℕ) → length t ≤ k → length (text_if b t) ≤ k
text-if-short true t k h = h
text-if-short false t k h = omega arith

bit-short : (n p i : ℕ) → p < policies → i < mark_bits → length (bit_text n p i) ≤ longest_mark_row
unfolding bit_text
bit-short n p i hp hi = text-if-short (has n i) (mark_row_lem p i) longest_mark_row (mark-five p i (omega arith) (omega arith))

policy-short : (n p : ℕ) → p < policies → length (policy_text n p) ≤ mark_bits * longest_mark_row
unfolding policy_text
policy-short n p hp = texts-short (bit_text n p) longest_mark_row 0 mark_bits (λ i h. bit-short n p i hp (omega arith))

pub marks-short : (m : Summary) → length (marks_text m) ≤ policies * (mark_bits * longest_mark_row)
unfolding marks_text
marks-short m =
    texts-short (λ p. policy_text (get_or m p 0) p) (mark_bits * longest_mark_row) 0 policies (λ p h. policy-short (get_or m p 0) p (omega arith))

-- ── What the summary tells, with a table of zeros ──

pub summarized-exact : {local : Bool} {e n t : List ℕ} {k : ℕ} → EdgeTable e → NodeTable n
    → Summarized local e n (replicate policies 0) k t → Exact local (edges_of e) (nodes_of n) t
summarized-exact he hn (Summarized.too_small l) = absurd (omega (arith, length-replicate {A = ℕ} policies 0))
summarized-exact he hn (Summarized.no_edges l f) = absurd (f he)
summarized-exact he hn (Summarized.no_nodes l f) = absurd (f hn)
summarized-exact {local} {e} {n} he hn (Summarized.told {m} l a b x) =
    subst (Exact local (edges_of e) (nodes_of n)) (sym (append-nil m)) x

-- ── From the tables to the sheets ──

-- the nodes of an accepted outline
pub nodes-marks : (local : Bool) (edges text table : List ℕ) (n : ℕ) (buffer : List ℕ) {r : ℕ} {after : List ℕ} → HoldsNodes text table n
    → PrintsMarks (Exact local (edges_of edges) (nodes_of (take (n * 3 - 0) table))) summary_text buffer r after
    → PrintsMarks (RightMarks local edges (ruled_result (sheet outline_sheet text)))
    (nodes_summary (ruled_result (sheet outline_sheet text))) buffer r after
unfolding RightMarks nodes_summary
nodes-marks local edges text table n buffer h p = rw h.result (rw (sub-zero (n * 3), h.flat) at p)

-- its table
pub nodes-table : (text table : List ℕ) (n : ℕ) → HoldsNodes text table n → NodeTable (take (n * 3 - 0) table)
nodes-table text table n h = rw (sub-zero (n * 3), h.flat) (accepted-nodes text h.rows h.result)

-- of a refused one any summary is right
pub nodes-no-marks : (local : Bool) (edges text : List ℕ) (line number : ℕ) (buffer : List ℕ) {r : ℕ} {after : List ℕ}
    → ruled_result (sheet outline_sheet text) ≡ refused record { line = line; number = number }
    → (r ≡ length (names_line ++ row line 5 number)) × (after ≡ fronted buffer (names_line ++ row line 5 number))
    → PrintsMarks (RightMarks local edges (ruled_result (sheet outline_sheet text)))
    (nodes_summary (ruled_result (sheet outline_sheet text))) buffer r after
unfolding RightMarks nodes_summary
nodes-no-marks local edges text line number buffer e (er, eo) =
    rw e (record { summary = []; right = tt; told = er; holds = eo })

pub edges-table : (text table : List ℕ) (n : ℕ) → Holds (policy_sheet (is_local text)) text table n → EdgeTable (take (n * 6 - 0) table)
edges-table text table n h = rw (sub-zero (n * 6), h.flat) (accepted-edges text h.rows h.result)

-- What the function ensures of its result r and the buffer that it leaves.
abbrev pub SummaryPut : List ℕ → List ℕ → List ℕ → ℕ → List ℕ → Type 0
SummaryPut policies-text outline-text buffer r after =
    ((m : Summary) → RightSummary policies-text outline-text m
    → r ≡ length_put summary_room buffer (summary_printed policies-text outline-text m))
    × (((m : Summary) → RightSummary policies-text outline-text m
    → after ≡ put summary_room buffer (summary_printed policies-text outline-text m))
    × (0 < r → (m : Summary) × RightSummary policies-text outline-text m))

-- Two sheets have one output, whichever summary is right.
pub summary-unique : (policies-text outline-text : List ℕ) (m w : Summary) → RightSummary policies-text outline-text m
    → RightSummary policies-text outline-text w
    → summary_printed policies-text outline-text m ≡ summary_printed policies-text outline-text w
unfolding RightMarksOf RightMarks nodes_summary sheets_summary
summary-unique policies-text outline-text m w h k = go (is_local policies-text)
    (policies_read policies-text) (ruled_result (sheet outline_sheet outline-text)) h k
  where
    go : (local : Bool) (p o : Result) → RightMarksOf local p o m → RightMarksOf local p o w → sheets_summary p o m ≡ sheets_summary p o w
    go local (refused r) o h k = refl
    go local (accepted edges) (refused r) h k = refl
    go local (accepted edges) (accepted nodes) h k =
        ap summary_text (exact-unique local (edges_of (flatten edges)) (nodes_of (flatten nodes)) m w h k)

module _ (policies-text outline-text buffer : List ℕ) where
  pub summary-no-room : length buffer < summary_room → SummaryPut policies-text outline-text buffer 0 buffer
  summary-no-room l = (
    (λ m h. (no_room summary_room buffer (summary_printed policies-text outline-text m) l).0),
    ((λ m h. (no_room summary_room buffer (summary_printed policies-text outline-text m) l).1), (λ p. absurd (omega arith))),
  )

  -- by a summary that is right
  pub summary-put : {r : ℕ} {after : List ℕ} → summary_room ≤ length buffer
      → PrintsMarks (RightSummary policies-text outline-text) (summary_printed policies-text outline-text) buffer r after
      → SummaryPut policies-text outline-text buffer r after
  unfolding length_put put
  summary-put {r} {after} l p =
      let same : (m : Summary) → RightSummary policies-text outline-text m
      → summary_printed policies-text outline-text p.summary ≡ summary_printed policies-text outline-text m =
      λ m h. summary-unique policies-text outline-text p.summary m p.right h in
      rw (le-ltb (length buffer) summary_room l) (
        (λ m h. p.told ∙ ap length (same m h)),
        ((λ m h. p.holds ∙ ap (fronted buffer) (same m h)), (λ k. (p.summary, p.right))),
      )

  -- the edges of an accepted sheet of policies
  pub edges-marks : (table : List ℕ) (n : ℕ) {r : ℕ} {after : List ℕ} → Holds (policy_sheet (is_local policies-text)) policies-text table n
      → PrintsMarks (RightMarks (is_local policies-text) (take (n * 6 - 0) table) (ruled_result (sheet outline_sheet outline-text)))
      (nodes_summary (ruled_result (sheet outline_sheet outline-text))) buffer r after
      → PrintsMarks (RightSummary policies-text outline-text) (summary_printed policies-text outline-text) buffer r after
  unfolding RightMarksOf sheets_summary
  edges-marks table n h p = rw h.result (rw (sub-zero (n * 6), h.flat) at p)

  pub edges-no-marks : (line number : ℕ) {r : ℕ} {after : List ℕ}
      → policies_read policies-text ≡ refused record { line = line; number = number }
      → (r ≡ length (names_line ++ row line 3 number)) × (after ≡ fronted buffer (names_line ++ row line 3 number))
      → PrintsMarks (RightSummary policies-text outline-text) (summary_printed policies-text outline-text) buffer r after
  unfolding RightMarksOf sheets_summary
  edges-no-marks line number e (er, eo) =
      rw e (record { summary = []; right = tt; told = er; holds = eo })
