-- From what the loops leave in the buffer to the contract of `sheet`.
use Prim.Native.Nat.{ℕ, ◌*◌, ◌<◌, ◌≤◌}
use mathlib.Core.Path.{◌≡◌, refl, sym, ap, ◌∙◌}
use mathlib.Core.Bool.{true, false}
use mathlib.Core.List.{List, [], ◌++◌, flatten}
use lib.ListN.{length, take, drop, replicate, take-append-drop}
use borrow.Author.Tests.{lt-ltb, le-ltb}
use Rattle.usage.specs.Limits.{longest_sheet}
use Rattle.sheet_bytes.specs.Line.{lines_of}
use Rattle.usage.specs.declared.SheetRefusal.{SheetRefusal}
use Rattle.usage.specs.Reasons.{number_of, refusal_of}
use Rattle.sheet_lines.specs.Sheet.{Sheet, Result, refuse_at, value_lines, starts_with, sheet}
use Rattle.sheet_lines.specs.Answer.{most_values, Answer, count, refusal, answered, filled}
use Rattle.sheet_lines.specs.Code.{held, refusing, held_onto}
use Rattle.sheet_lines.proofs.AcceptLaws.{sheet-accepted, flat-length, held_rows, refusing-result}

-- what must be answered, and left in the buffer
pub record Fills (r : Result) (a : Answer) (before rest_after : List ℕ) : Type 0 where
  pub answers : a ≡ answered r
  pub buffer : rest_after ≡ filled r before

pub refused-fills : (r : Result) (line number : ℕ) (t : List ℕ) → r ≡ refuse_at line number
    → Fills r (refusal record { line = line; number = number }) t t
unfolding answered filled
refused-fills r line number t e = rw e (record { answers = refl; buffer = refl })

abbrev zeros : List ℕ
zeros = replicate most_values 0

module _ (s : Sheet) (text : List ℕ) where
  pub too_long : (t : List ℕ) → longest_sheet < length text → Fills (sheet s text) (refusal record { line = 0; number = 5 }) t t
  unfolding sheet
  too_long t h = refused-fills (sheet s text) 0 5 t (simp (lt-ltb _ _ h))

  module _ (h : length text ≤ longest_sheet) where
    pub other-names : (t : List ℕ) → starts_with s.names text ≡ false
        → Fills (sheet s text) (refusal record { line = 1; number = 1 }) t t
    unfolding sheet
    other-names t e = refused-fills (sheet s text) 1 1 t (simp (le-ltb _ _ h, e))

    pub after-names : starts_with s.names text ≡ true
        → sheet s text ≡ value_lines s 2 s.most (lines_of (drop (length s.names) text))
    unfolding sheet
    after-names e = simp (le-ltb _ _ h, e)

  module _ (first last : List ℕ) where
    -- the buffer is kept where lines were stored
    pub values-stored : (n : ℕ) → held n (take (n * s.fields) last) ≡ held_onto 0 [] (sheet s text)
        → drop (n * s.fields) last ≡ drop (n * s.fields) zeros → Fills (sheet s text) (count n) first last
    unfolding answered filled
    values-stored n e d =
        let k = held_rows (sheet s text) n (take (n * s.fields) last) e in
        let size : length (flatten k.rows) ≡ n * s.fields = flat-length s (sheet-accepted s text k.rows k.result).each
        ∙ ap (λ m. m * s.fields) (sym k.count) in
        record {
          answers = ap count k.count ∙ sym (ap answered k.result);
          buffer =
              sym (take-append-drop (n * s.fields) last) ∙ ap (λ l. l ++ drop (n * s.fields) last) k.flat
              ∙ ap (λ l. flatten k.rows ++ l) d
              ∙ ap (λ m. flatten k.rows ++ drop m zeros) (sym size) ∙ sym (ap (λ r. filled r first) k.result);
        }

    -- a refusal leaves the buffer as it was
    pub leaves : (r : SheetRefusal) → refusing r.line (number_of r.reason) ≡ held_onto 0 [] (sheet s text)
        → Fills (sheet s text) (refusal (refusal_of r)) first first
    leaves r e = refused-fills (sheet s text) r.line (number_of r.reason) first (refusing-result (sheet s text) r.line (number_of r.reason) e)
