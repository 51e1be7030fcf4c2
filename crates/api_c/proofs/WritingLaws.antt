-- The numbers that tell what the sheet writer answers.
use Prim.Native.Nat.{ℕ}
use mathlib.Core.Path.{◌≡◌, refl, ap}
use mathlib.Core.List.{List}
use lib.ListN.{set}
use Rattle.usage.specs.Answers.{Refusal}
use Rattle.usage.proofs.Logic.{clash}
use Rattle.sheet_writer.specs.Writer.{Rewriting, is_written, not_written, has_length, has_none, rewriting_answer}
use Rattle.api_c.specs.Writing.{length_in, told_in}

pub told-length : (w : Rewriting) (n : ℕ) → has_length n ≡ rewriting_answer w → (told : List ℕ) → (n ≡ length_in w) × (told ≡ told_in w told)
unfolding rewriting_answer length_in told_in
told-length (is_written t) n e told = (cc, refl)
told-length (not_written r) n e told = clash (cc)

pub told-refusal : (w : Rewriting) (line number : ℕ) → has_none record { line = line; number = number } ≡ rewriting_answer w
    → (told : List ℕ) → (0 ≡ length_in w) × (set (set told 0 line) 1 number ≡ told_in w told)
unfolding rewriting_answer length_in told_in
told-refusal (is_written t) line number e told = clash (cc)
told-refusal (not_written r) line number e told =
    let q : record { line = line; number = number } ≡ r = cc in
    (refl, ap (λ (x : Refusal). set (set told 0 x.line) 1 x.number) q)
