-- Laws of what the second program prints.
use Prim.Native.Nat.{ℕ, ◌+◌, ◌-◌, ◌*◌, ◌<◌, ◌≤◌}
use mathlib.Core.Path.{◌≡◌, refl, sym, ap, ◌∙◌}
use mathlib.Core.Bool.{Bool}
use mathlib.Core.Logic.{◌↔◌}
use mathlib.Core.List.{List, flatten}
use native.Mathlib.Nat.{sub-zero}
use native.Mathlib.Omega.{arith}
use lib.ListN.{length, take}
use lib.Seq.{sets}
use Rattle.usage.specs.Answers.{Verdict, answer, detail}
use Rattle.usage.specs.Check.{Checked}
use Rattle.usage.specs.Tables.{edges_of, nodes_of}
use Rattle.sheet_lines.specs.Sheet.{Result, accepted, refused, sheet}
use Rattle.sheet_lines.specs.Sheets.{policy_sheet, is_local, outline_sheet}
use Rattle.sheet_reader.specs.Readers.{policies_read, ruled_result}
use Rattle.sheet_reader.proofs.AnswerLaws.{Holds, HoldsNodes, accepted-edges, accepted-nodes}
use Rattle.sheet_reader.proofs.RefusalLaws.{outline-low}
use Rattle.checker.specs.Promise.{checked, CheckPromise}
use Rattle.checker.proofs.PromiseLaws.{right_unique, right-checked, promised-right}
use Rattle.report_lines.specs.Lines.{row, verdict_row}
use Rattle.report_lines.specs.Put.{put_at, end_at}
use Rattle.report_lines.proofs.RowLaws.{row-nine, verdict-eight}
use Rattle.report_lines.proofs.FitLaws.{stored_at}
use Rattle.report.specs.Output.{printed, longest_outline_row, outline_room, length_put, put}
use Rattle.report.specs.Outline.{RightNodes, RightSheets, RightTexts, nodes_row, outline_printed}
use Rattle.report.proofs.OutputLaws.{Printed, no_room}

-- ── The line of an outline ──

-- that of a refused one is short
pub outline-short : (text : List ℕ) (line number : ℕ)
    → ruled_result (sheet outline_sheet text) ≡ refused record { line = line; number = number }
    → length (row line 5 number) ≤ longest_outline_row
outline-short text line number e =
    let w = outline-low text record { line = line; number = number } e in
    row-nine line 5 number (let h = w.line in omega arith) (omega arith) w.number

-- What the function ensures of its result r and the buffer that it leaves.
abbrev pub RowPut : Bool → List ℕ → Result → List ℕ → ℕ → ℕ → List ℕ → Type 0
RowPut local edges o buffer at r after = ((v : Verdict) → RightNodes local edges o v → r ≡ at + length (nodes_row o v))
    × (((v : Verdict) → RightNodes local edges o v → after ≡ sets buffer at (nodes_row o v))
    × (((v : Verdict) × RightNodes local edges o v) × (r ≤ at + longest_outline_row)))

module _ (local : Bool) (edges text buffer after : List ℕ) (at r : ℕ) (room : at + longest_outline_row ≤ length buffer) where
  -- one line was stored, whichever verdict is right
  row_put : (o : Result) (line : List ℕ) → ((v : Verdict) → RightNodes local edges o v → nodes_row o v ≡ line) → (v : Verdict)
      → RightNodes local edges o v
      → length line ≤ longest_outline_row → r ≡ end_at buffer at line → after ≡ put_at buffer at line → RowPut local edges o buffer at r after
  row_put o line same v right l er eo =
      let z = stored_at buffer at line (omega arith) er eo in
      let e = z.0 in (
        (λ w h. e ∙ ap (λ (t : List ℕ). at + length t) (sym (same w h))),
        ((λ w h. z.1 ∙ ap (sets buffer at) (sym (same w h))), ((v, right), omega arith)),
      )

  -- by the two numbers of the verdict q that the check tells
  pub put-checked : (table : List ℕ) (n : ℕ) → HoldsNodes text table n → (q : Verdict) (a d : ℕ)
      → CheckPromise local edges (take (n * 3 - 0) table) q
      → a ≡ answer q → d ≡ detail q → d < 256
      → r ≡ end_at buffer at (row 0 a d) → after ≡ put_at buffer at (row 0 a d)
      → RowPut local edges (ruled_result (sheet outline_sheet text)) buffer at r after
  unfolding RightNodes nodes_row
  put-checked table n h q a d p ea ed small er eo =
      let e = ap (λ (k : ℕ). take k table) (sub-zero (n * 3)) ∙ h.flat in
      let v : row 0 a d ≡ verdict_row 0 q = rw (ea, ed) in
      let right = rw e at (promised-right p) in
      rw h.result (row_put (accepted h.rows) (row 0 a d) (λ w k. ap (verdict_row 0) (right_unique k right) ∙ sym v) q right
      (let l = verdict-eight q (rw ed at small) in let k = ap length v in omega arith) er eo)

  pub put_refused : (line number : ℕ) → ruled_result (sheet outline_sheet text) ≡ refused record { line = line; number = number }
      → (v : Verdict)
      → r ≡ end_at buffer at (row line 5 number) → after ≡ put_at buffer at (row line 5 number)
      → RowPut local edges (ruled_result (sheet outline_sheet text)) buffer at r after
  unfolding RightNodes nodes_row
  put_refused line number e v er eo =
      let l = outline-short text line number e in
      rw e (row_put (refused record { line = line; number = number }) (row line 5 number) (λ w k. refl) v tt l er eo)

-- ── The whole output ──

-- with the edges of an accepted sheet of policies
pub right-held : (policies-text outline-text table : List ℕ) (n : ℕ)
    → Holds (policy_sheet (is_local policies-text)) policies-text table n → (v : Verdict)
    → RightTexts policies-text outline-text v ↔ RightNodes (is_local policies-text)
    (take (n * 6 - 0) table) (ruled_result (sheet outline_sheet outline-text)) v
unfolding RightSheets
right-held policies-text outline-text table n h v = rw (h.result, sub-zero (n * 6), h.flat) (λ k. k, λ k. k)

-- with a refused one any verdict will do
pub right-refused : (policies-text outline-text : List ℕ) (line number : ℕ)
    → policies_read policies-text ≡ refused record { line = line; number = number } → (v : Verdict)
    → RightTexts policies-text outline-text v
unfolding RightSheets
right-refused policies-text outline-text line number e v = rw e tt

-- What the function ensures of its result r and the buffer that it leaves.
abbrev pub OutlinePut : List ℕ → List ℕ → List ℕ → ℕ → List ℕ → Type 0
OutlinePut policies-text outline-text buffer r after =
    ((v : Verdict) → RightTexts policies-text outline-text v → r ≡ length_put outline_room buffer
    (outline_printed policies-text outline-text v))
    × (((v : Verdict) → RightTexts policies-text outline-text v → after ≡ put outline_room buffer
    (outline_printed policies-text outline-text v))
    × (0 < r → (v : Verdict) × RightTexts policies-text outline-text v))

module _ (policies-text outline-text buffer : List ℕ) where
  pub outline-no-room : length buffer < outline_room → OutlinePut policies-text outline-text buffer 0 buffer
  outline-no-room l = (
    (λ v h. (no_room outline_room buffer (outline_printed policies-text outline-text v) l).0),
    ((λ v h. (no_room outline_room buffer (outline_printed policies-text outline-text v) l).1), (λ p. absurd (omega arith))),
  )

  -- by a verdict that is right
  pub outline-put : (r : ℕ) (after : List ℕ) (w : Verdict) → RightTexts policies-text outline-text w
      → ((v : Verdict) → RightTexts policies-text outline-text v → Printed outline_room buffer (outline_printed policies-text outline-text v)
      r after)
      → OutlinePut policies-text outline-text buffer r after
  outline-put r after w right e = ((λ v h. (e v h).0), ((λ v h. (e v h).1), (λ p. (w, right))))

-- Two sheets have one output, whichever verdict is right.
pub printed-unique : (policies-text outline-text : List ℕ) (v w : Verdict) → RightTexts policies-text outline-text v
    → RightTexts policies-text outline-text w
    → outline_printed policies-text outline-text v ≡ outline_printed policies-text outline-text w
unfolding RightSheets RightNodes nodes_row outline_printed printed
printed-unique policies-text outline-text v w h k = go (is_local policies-text)
    (policies_read policies-text) (ruled_result (sheet outline_sheet outline-text)) h k
  where
    go : (local : Bool) (p o : Result) → RightSheets local p o v → RightSheets local p o w
        → printed p (λ edges. nodes_row o v) ≡ printed p (λ edges. nodes_row o w)
    go local (refused r) o h k = refl
    go local (accepted edges) (refused r) h k = refl
    go local (accepted edges) (accepted nodes) h k = ap
        (λ (x : Verdict). printed (accepted edges) (λ edges. verdict_row 0 x)) (right_unique h k)

-- Of two accepted sheets the verdict that is right is the check's, of the outline under the edges.
pub outline_right : (policies-text outline-text : List ℕ) (edges nodes : List (List ℕ))
    → policies_read policies-text ≡ accepted edges → ruled_result (sheet outline_sheet outline-text) ≡ accepted nodes → (v : Verdict)
    → RightTexts policies-text outline-text v ↔ Checked (is_local policies-text) (edges_of (flatten edges)) (nodes_of (flatten nodes)) v
unfolding RightSheets RightNodes
outline_right policies-text outline-text edges nodes p o v =
    let e = accepted-edges policies-text edges p in
    let n = accepted-nodes outline-text nodes o in
    rw (p, o) (λ h. right-checked e n h, λ c. checked e n c)
