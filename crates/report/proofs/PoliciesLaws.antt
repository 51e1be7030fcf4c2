-- What is printed of a policy sheet, by what its writer answers and writes.
use Prim.Native.Nat.{ℕ, ◌+◌, ◌≤◌}
use native.Mathlib.Omega.{arith}
use mathlib.Core.Path.{◌≡◌, refl, ap, ◌∙◌}
use mathlib.Core.List.{List, ◌++◌}
use lib.ListN.{length}
use borrow.Author.Tests.{le-ltb}
use Rattle.usage.specs.Answers.{Refusal}
use Rattle.usage.proofs.Logic.{clash}
use Rattle.report_lines.specs.Lines.{names_line, names_room, row}
use Rattle.sheet_writer.specs.Writer.{Rewriting, is_written, not_written, written_again, written_into, has_length, has_none}
use Rattle.sheet_writer.specs.Writer.{rewriting_answer, rewritten_in}
use Rattle.sheet_writer.proofs.WriterLaws.{within, one_way}
use Rattle.report.specs.Output.{fronted, length_put, put}
use Rattle.report.specs.Policies.{rewriting_printed, policies_printed, policies_room}
use Rattle.report.proofs.OutputLaws.{Printed, policies-short}

refusal_is : (w : Rewriting) (line number : ℕ) → has_none record { line = line; number = number } ≡ rewriting_answer w
    → w ≡ not_written record { line = line; number = number }
unfolding rewriting_answer
refusal_is (is_written t) line number e = clash (cc)
refusal_is (not_written r) line number e = cc

module _ (out : List ℕ) (room : policies_room ≤ length out) where
  all-put : (output : List ℕ) → Printed policies_room out output (length output) (fronted out output)
  unfolding length_put put
  all-put output = (rw (le-ltb (length out) policies_room room), rw (le-ltb (length out) policies_room room))

  sheet-put : (w : Rewriting) (n : ℕ) → has_length n ≡ rewriting_answer w
      → Printed policies_room out (rewriting_printed w) n (rewritten_in w out)
  unfolding rewriting_answer rewritten_in rewriting_printed
  sheet-put (is_written t) n e = let q : n ≡ length t = cc in rw q (all-put t)
  sheet-put (not_written r) n e = clash (cc)

  refusal-put : (w : Rewriting) (line number : ℕ) → has_none record { line = line; number = number } ≡ rewriting_answer w
      → (rewriting_printed w ≡ names_line ++ row line 3 number) × (rewritten_in w out ≡ out)
  unfolding rewriting_answer rewritten_in rewriting_printed
  refusal-put (is_written t) line number e = clash (cc)
  refusal-put (not_written r) line number e =
      let q : r ≡ record { line = line; number = number } = cc in
      (ap (λ (x : Refusal). names_line ++ row x.line 3 x.number) q, refl)

  module _ (text : List ℕ) where
    pub sheet-printed : {after : List ℕ} (n : ℕ) → has_length n ≡ rewriting_answer (written_into (length out) text)
        → after ≡ rewritten_in (written_into (length out) text) out → Printed policies_room out (policies_printed text) n after
    sheet-printed n e t =
        let w = within text out room in rw (t, w) (sheet-put (written_again text) n (e ∙ ap rewriting_answer w))

    -- where it is refused the lent buffer is as it was, and the names and the line are put
    pub refusal-printed : {kept after : List ℕ} {r : ℕ} (line number : ℕ)
        → has_none record { line = line; number = number } ≡ rewriting_answer (written_into (length out) text)
        → kept ≡ rewritten_in (written_into (length out) text) out → r ≡ length (names_line ++ row line 3 number)
        → after ≡ fronted kept (names_line ++ row line 3 number) → Printed policies_room out (policies_printed text) r after
    refusal-printed {kept} line number e k er eo =
        let w = within text out room in
        let z = refusal-put (written_again text) line number (e ∙ ap rewriting_answer w) in
        let same : kept ≡ out = k ∙ ap (λ (v : Rewriting). rewritten_in v out) w ∙ z.1 in
        rw (er, eo, same, z.0) (all-put (names_line ++ row line 3 number))

    -- so its length stays, and the line is that of a sheet that reading refuses
    pub refusal-fits : {kept : List ℕ} (line number : ℕ)
        → has_none record { line = line; number = number } ≡ rewriting_answer (written_into (length out) text)
        → kept ≡ rewritten_in (written_into (length out) text) out → names_room + length (row line 3 number) ≤ length kept
    refusal-fits {kept} line number e k =
        let w = within text out room in
        let told = e ∙ ap rewriting_answer w in
        let same : length kept ≡ length out =
        ap length (k ∙ ap (λ (v : Rewriting). rewritten_in v out) w ∙ (refusal-put (written_again text) line number told).1) in
        let again = refusal_is (written_again text) line number told in
        let short = policies-short text line number ((one_way.refuses text record { line = line; number = number }).0 again) in
        omega arith
