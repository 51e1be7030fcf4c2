-- Laws of what the third program prints.
use Prim.Native.Nat.{ℕ, suc, ◌+◌, ◌-◌, ◌*◌, ◌<◌, ◌≤◌}
use mathlib.Core.Path.{◌≡◌, refl, sym, ap, ◌∙◌}
use mathlib.Core.Bool.{Bool}
use mathlib.Core.List.{List, [], ◌∷◌, ◌++◌, append-nil, append_assoc}
use mathlib.Core.Logic.{inl, inr}
use native.Mathlib.Omega.{arith}
use native.Mathlib.Numerals.{add-one}
use native.Mathlib.Nat.{add-zero, zero-add, sub-zero}
use lib.ListN.{length, get_or, take, drop, length-append, length-replicate}
use lib.Seq.{get_or-append-add}
use Rattle.usage.specs.declared.RawStep.{RawStep}
use Rattle.usage.specs.Limits.{most_shown}
use Rattle.usage.specs.Past.{Step, event, opening, closing, retiring, Past, Numbered}
use Rattle.usage.specs.Check.{Shortest, this}
use Rattle.usage.specs.Tables.{from, step_at_lem, edges_of, nodes_of, NodeTable}
use Rattle.usage.specs.Answers.{Verdict, violated}
use Rattle.usage.proofs.Logic.{clash}
use Rattle.usage.proofs.JudgeLaws.{Fits}
use Rattle.usage.proofs.TableLaws.{from-snoc}
use Rattle.usage.proofs.TraceLaws.{StepOk, PastOk, trace-ok}
use Rattle.sheet_lines.specs.Sheet.{refused, sheet}
use Rattle.sheet_lines.specs.Sheets.{policy_sheet, is_local, outline_sheet}
use Rattle.sheet_reader.specs.Readers.{policies_read, ruled_result}
use Rattle.sheet_reader.proofs.AnswerLaws.{Holds, HoldsNodes}
use Rattle.checker_trace.specs.Steps.{three, numbers, laid}
use Rattle.checker_trace.specs.Answer.{most_numbers}
use Rattle.checker_trace.proofs.StepLaws.{numbers_length, laid-length}
use Rattle.std.specs.Prelude.{Result as Returned, Ok, Err}
use Rattle.usage.specs.declared.Reason.{Reason}
use Rattle.usage.specs.declared.Reason.TheVariants.{Room}
use Rattle.checker_counterexample.specs.declared.Explanation.{Explanation}
use Rattle.checker_counterexample.specs.declared.Explanation.TheVariants as told
use Rattle.checker.specs.Accepted.{raw_of}
use Rattle.checker.specs.Promise.{RightVerdict, no_edges, no_nodes, checked, CheckPromise}
use Rattle.checker_counterexample.specs.Explained.{Explained, steps_written_lem}
use Rattle.checker.proofs.PromiseLaws.{promised-right}
use Rattle.report_lines.specs.Lines.{names_line, row}
use Rattle.report_lines.proofs.RowLaws.{step-nine}
use Rattle.report.specs.Output.{fronted}
use Rattle.report.specs.Counterexample.{no_steps, RightTrace, RightTraceOf, RightExplanation, step_row, step_rows, shown_sheet}
use Rattle.report.specs.Counterexample.{nodes_sheet, sheets_sheet, counterexample_printed, longest_shown_row, Prints}
use Rattle.report.proofs.NumberedLaws.{creates-few, created-low}

-- ── The lines of steps ──

-- of the steps from i on, of n in all
abbrev pub rows_left : List ℕ → ℕ → ℕ → List ℕ
rows_left t n i = step_rows (from (step_at_lem t) i (n - i))

module _ (t : List ℕ) (n : ℕ) where
  pub all-rows-left : step_rows (from (step_at_lem t) 0 n) ≡ rows_left t n 0
  all-rows-left = let e : n - 0 ≡ n = omega arith in rw e

  pub no-row-left : (i : ℕ) → n ≤ i → rows_left t n i ≡ []
  unfolding step_rows from
  no-row-left i h = let e : n - i ≡ 0 = omega arith in rw e

  pub next-row-left : (i : ℕ) (s : RawStep) → s ≡ step_at_lem t i → i < n → rows_left t n i ≡ step_row s ++ rows_left t n (i + 1)
  unfolding step_rows from
  next-row-left i s e h = let k : n - i ≡ suc (n - (i + 1)) = omega arith in rw (e, k, add-one i)

rows_snoc : (steps : List RawStep) (s : RawStep) → step_rows (steps ++ (s ∷ [])) ≡ step_rows steps ++ step_row s
unfolding step_rows
rows_snoc [] s = append-nil (step_row s)
rows_snoc (u ∷ steps) s =
    ap (λ (l : List ℕ). step_row u ++ l) (rows_snoc steps s) ∙ sym (append_assoc (step_row u) (step_rows steps) (step_row s))

-- ── The steps of a past, the oldest first ──

unfoldable pub raws_of : Past → List RawStep
raws_of [] = []
raws_of (s ∷ past) = raws_of past ++ (raw_of s ∷ [])

-- number j of what follows the numbers of a past
number_at : (past : Past) (more : List ℕ) (j : ℕ) → get_or (numbers past ++ more) (3 * length past + j) 0 ≡ get_or more j 0
number_at past more j =
    ap (λ (k : ℕ). get_or (numbers past ++ more) (k + j) 0) (sym (numbers_length past)) ∙ get_or-append-add (numbers past) more j 0

first-at : (past : Past) (more : List ℕ) → get_or (numbers past ++ more) (3 * length past) 0 ≡ get_or more 0 0
first-at past more = ap (λ (k : ℕ). get_or (numbers past ++ more) k 0) (sym (add-zero (3 * length past))) ∙ number_at past more 0

next-step : (past : Past) (s : Step) (more : List ℕ) → step_at_lem (numbers past ++ (three s ++ more)) (length past) ≡ raw_of s
next-step past s more = rw (
  first-at past (three s ++ more),
  number_at past (three s ++ more) 1,
  number_at past (three s ++ more) 2,
) (own s)
  where
    own : (s : Step) → ◌≡◌ {A = RawStep} (record {
      kind = get_or (three s ++ more) 0 0;
      a = get_or (three s ++ more) 1 0;
      b = get_or (three s ++ more) 2 0;
    }) (raw_of s)
    own (event a r) = refl
    own (opening p) = refl
    own (closing p) = refl
    own (retiring r) = refl

past-steps : (past : Past) (more : List ℕ) → from (step_at_lem (numbers past ++ more)) 0 (length past) ≡ raws_of past
unfolding numbers raws_of from
past-steps [] more = refl
past-steps (s ∷ past) more =
    let t = numbers past ++ (three s ++ more) in
    ap (λ (u : List ℕ). from (step_at_lem u) 0 (suc (length past))) (append_assoc (numbers past) (three s) more)
    ∙ from-snoc (step_at_lem t) 0 (length past)
    ∙ ap (λ (l : List RawStep). l ++ (step_at_lem t (0 + length past) ∷ [])) (past-steps past (three s ++ more))
    ∙ ap (λ (i : ℕ). raws_of past ++ (step_at_lem t i ∷ [])) (zero-add (length past))
    ∙ ap (λ (r : RawStep). raws_of past ++ (r ∷ [])) (next-step past s more)

-- the table that the check leaves holds the steps of the trace
pub shown-steps : (t : List ℕ) (past : Past) → from (step_at_lem (laid t past)) 0 (length past) ≡ raws_of past
unfolding laid
shown-steps t past = past-steps past (drop (3 * length past) t)

-- ── The room ──

-- a step of a trace that is numbered so: its numbers are in range, and a resource is one of the lowest
pub record LowStep (s : Step) : Type 0 where
  pub fits : Fits s
  pub a : (raw_of s).a < 32
  pub b : (raw_of s).b < 217

step-low : (s : Step) (past : Past) → StepOk s past → Numbered (s ∷ past) → length past ≤ most_shown → LowStep s
step-low (event a r) past (inl (e, l, new)) h few =
    let k = h.0 e in
    let c = creates-few past in
    record { fits = (omega arith, omega arith); a = omega arith; b = omega arith }
step-low (event a r) past (inr (one, two, inl low)) h few = record { fits = (two, omega arith); a = omega arith; b = omega arith }
step-low (event a r) past (inr (one, two, inr made)) h few =
    let k = created-low past r h.1 made in
    let c = creates-few past in
    record { fits = (two, omega arith); a = omega arith; b = omega arith }
step-low (opening p) past o h few = record { fits = o; a = omega arith; b = omega arith }
step-low (closing p) past (o, last, l) h few = record { fits = l; a = omega arith; b = omega arith }
step-low (retiring r) past o h few = absurd o

step-short : (s : Step) → LowStep s → length (step_row (raw_of s)) ≤ longest_shown_row
step-short (event a r) l =
    let h = l.fits.0 in
    let k = l.b in
    step-nine 0 a r (omega arith) (omega arith) (omega arith)
step-short (opening p) l = let h = l.fits in step-nine 1 p 0 (omega arith) (omega arith) (omega arith)
step-short (closing p) l = let h = l.fits in step-nine 2 p 0 (omega arith) (omega arith) (omega arith)
step-short (retiring r) l = let h = l.a in step-nine 3 r 0 (omega arith) (omega arith) (omega arith)

numbered-tail : (s : Step) (past : Past) → Numbered (s ∷ past) → Numbered past
numbered-tail (event a r) past h = h.1
numbered-tail (opening p) past h = h
numbered-tail (closing p) past h = h
numbered-tail (retiring r) past h = h

pub data Low : Past → Type 0 where
  no_step : Low []
  one_more : {s : Step} {past : Past} → LowStep s → Low past → Low (s ∷ past)

past-low : (past : Past) → PastOk past → Numbered past → length past ≤ most_shown → Low past
past-low [] o h few = no_step
past-low (s ∷ past) (o, os) h few =
    one_more (step-low s past o h (omega arith)) (past-low past os (numbered-tail s past h) (omega arith))

low-short : {past : Past} → Low past → length (step_rows (raws_of past)) ≤ length past * longest_shown_row
unfolding raws_of step_rows
low-short no_step = omega arith
low-short (one_more {s} {past} l ls) =
    let h = step-short s l in
    let m = low-short ls in
    omega (arith, ap length (rows_snoc (raws_of past) (raw_of s)), length-append (step_rows (raws_of past)) (step_row (raw_of s)))

-- ── What the check tells, with the table of zeros ──

-- where it names a policy, the nodes are those of an outline
named-nodes : {local : Bool} {e n : List ℕ} {p : ℕ} {v : Verdict} → RightVerdict local e n v → v ≡ violated p → NodeTable n
named-nodes (no_edges f) e = clash (cc)
named-nodes (no_nodes f) e = clash (cc)
named-nodes (checked edges nodes c) e = nodes

-- the steps that are shown are in the table, and are those of a past with low numbers
pub record HoldsSteps (x : Returned Explanation Reason) (t : List ℕ) : Type 0 where
  pub places : length t ≡ most_numbers
  pub few : steps_written_lem x ≤ most_shown
  pub past : Past
  pub low : Low past
  pub count : length past ≡ steps_written_lem x
  pub steps : from (step_at_lem t) 0 (steps_written_lem x) ≡ raws_of past

none-held : (x : Returned Explanation Reason) → steps_written_lem x ≡ 0 → HoldsSteps x no_steps
unfolding from raws_of
none-held x e = record {
  places = length-replicate {A = ℕ} most_numbers 0;
  few = omega arith;
  past = [];
  low = no_step;
  count = sym e;
  steps = rw e;
}

shown-held : {local : Bool} {e n : List ℕ} {p : ℕ} {past : Past}
    → CheckPromise local e n (violated p) → Shortest local (edges_of e) (nodes_of n) p past
    → length past ≤ most_shown → HoldsSteps (Ok (told.Shown p (length past))) (laid no_steps past)
shown-held {n = n} {past = past} h s few =
    let l = length-replicate {A = ℕ} most_numbers 0 in
    let ok = trace-ok (nodes_of n) (named-nodes (promised-right h) refl).outline s.trace in
    record {
      places = laid-length no_steps past (omega arith) ∙ l;
      few = few;
      past = past;
      low = past-low past ok s.numbered few;
      count = refl;
      steps = shown-steps no_steps past;
    }

pub explained-held : {local : Bool} {e n t : List ℕ} {x : Returned Explanation Reason} → Explained local e n no_steps x t → HoldsSteps x t
explained-held (Explained.too_small l) = none-held (Err Room) refl
explained-held (Explained.refused_with {r} l h) = none-held (Err r) refl
explained-held (Explained.accepted l h) = none-held (Ok told.Accepted) refl
explained-held (Explained.longer {p} l h s) = none-held (Ok (told.Longer p)) refl
explained-held (Explained.this_long l h (this s few)) = shown-held h s few

-- their lines are short enough
pub held-short : {x : Returned Explanation Reason} {t : List ℕ} → HoldsSteps x t
    → length (step_rows (from (step_at_lem t) 0 (steps_written_lem x))) ≤ most_shown * longest_shown_row
held-short h =
    let k = low-short h.low in
    let c = h.count in
    let f = h.few in
    rw h.steps (omega arith)

-- ── From the tables to the sheets ──

-- the nodes of an accepted outline
pub nodes-held : (local : Bool) (edges text table : List ℕ) (n : ℕ) (buffer : List ℕ) {r : ℕ} {after : List ℕ} → HoldsNodes text table n
    → Prints (Explained local edges (take (n * 3 - 0) table) no_steps) shown_sheet buffer r after
    → Prints (RightTrace local edges (ruled_result (sheet outline_sheet text)))
    (nodes_sheet (ruled_result (sheet outline_sheet text))) buffer r after
unfolding RightTrace nodes_sheet
nodes-held local edges text table n buffer h p = rw h.result (rw (sub-zero (n * 3), h.flat) at p)

-- of a refused one any explanation is right
pub nodes-none : (local : Bool) (edges text : List ℕ) (line number : ℕ) (buffer : List ℕ) {r : ℕ} {after : List ℕ}
    → ruled_result (sheet outline_sheet text) ≡ refused record { line = line; number = number }
    → (r ≡ length (names_line ++ row line 5 number)) × (after ≡ fronted buffer (names_line ++ row line 5 number))
    → Prints (RightTrace local edges (ruled_result (sheet outline_sheet text)))
    (nodes_sheet (ruled_result (sheet outline_sheet text))) buffer r after
unfolding RightTrace nodes_sheet
nodes-none local edges text line number buffer e (er, eo) =
    rw e (record { explanation = Ok told.Accepted; trace = []; right = tt; told = er; holds = eo })

module _ (policies-text outline-text buffer : List ℕ) where
  -- the edges of an accepted sheet of policies
  pub edges-held : (table : List ℕ) (n : ℕ) {r : ℕ} {after : List ℕ} → Holds (policy_sheet (is_local policies-text)) policies-text table n
      → Prints (RightTrace (is_local policies-text) (take (n * 6 - 0) table) (ruled_result (sheet outline_sheet outline-text)))
      (nodes_sheet (ruled_result (sheet outline_sheet outline-text))) buffer r after
      → Prints (RightExplanation policies-text outline-text) (counterexample_printed policies-text outline-text) buffer r after
  unfolding RightTraceOf sheets_sheet
  edges-held table n h p = rw h.result (rw (sub-zero (n * 6), h.flat) at p)

  pub edges_none : (line number : ℕ) {r : ℕ} {after : List ℕ}
      → policies_read policies-text ≡ refused record { line = line; number = number }
      → (r ≡ length (names_line ++ row line 3 number)) × (after ≡ fronted buffer (names_line ++ row line 3 number))
      → Prints (RightExplanation policies-text outline-text) (counterexample_printed policies-text outline-text) buffer r after
  unfolding RightTraceOf sheets_sheet
  edges_none line number e (er, eo) =
      rw e (record { explanation = Ok told.Accepted; trace = []; right = tt; told = er; holds = eo })
