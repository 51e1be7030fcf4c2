-- A number that is printed, with the byte after it, is a value of a line.
use Prim.Native.Nat.{ℕ, zero, suc, ◌+◌, ◌-◌, ◌*◌, ◌/◌, ◌%◌, ◌<◌, ◌≤◌}
use mathlib.Core.Path.{◌≡◌, refl, sym, ap, subst, ◌∙◌}
use mathlib.Core.Bool.{Bool, true, false}
use mathlib.Core.List.{List, [], ◌∷◌, ◌++◌, append-nil}
use native.Mathlib.Omega.{arith}
use lib.Dec.{ltb}
use lib.ListN.{length, length-append}
use lib.Seq.{append_snoc}
use borrow.Author.Tests.{ltb-true, ltb-false}
use Rattle.usage.specs.Limits.{most_digits}
use Rattle.sheet_bytes.specs.Class.{class_of}
use Rattle.sheet_bytes.specs.Code.{value_limit}
use Rattle.sheet_bytes.specs.Line.{Line, prefixed, lines_of}
use Rattle.sheet_bytes.specs.Grammar.{Digits, no_digit, one_more, Value}
use Rattle.sheet_lines.proofs.ScanLaws.{fed}
use Rattle.sheet_reader.proofs.WrittenLaws.{digit-class, digits-lines}
use Rattle.report_lines.specs.Decimal.{digit_byte, decimal}
use Rattle.report_lines.specs.Lines.{field}
use Rattle.report_lines.proofs.DecimalLaws.{tens, decimal-one, decimal-more, length-one, length_more, length-below}

digits-one : (n : ℕ) → n < 10 → Digits (length (decimal n)) n (decimal n)
digits-one n h =
    let e : 0 * 10 + (48 + n - 48) ≡ n = omega arith in
    subst (λ (bs : List ℕ). Digits (length bs) n bs) (sym (decimal-one n h))
    (subst (λ (v : ℕ). Digits 1 v (digit_byte n ∷ [])) e (one_more (48 + n) (digit-class n h) no_digit))

digits_more : (n : ℕ) → 10 ≤ n → Digits (length (decimal (n / 10))) (n / 10) (decimal (n / 10)) → Digits (length (decimal n)) n (decimal n)
digits_more n h d =
    let xs = decimal (n / 10) ++ (digit_byte (n % 10) ∷ []) in
    let e : n / 10 * 10 + (48 + n % 10 - 48) ≡ n = omega arith in
    let k : length (decimal (n / 10)) + 1 ≡ length xs = omega (arith, length-append (decimal (n / 10)) (digit_byte (n % 10) ∷ [])) in
    subst (λ (bs : List ℕ). Digits (length bs) n bs) (sym (decimal-more n h))
    (subst (λ (c : ℕ). Digits c n xs) k
    (subst (λ (v : ℕ). Digits (length (decimal (n / 10)) + 1) v xs) e (one_more (48 + n % 10) (digit-class (n % 10) (omega arith)) d)))

-- of at most k + 1 digits
decimal-digits : (k n : ℕ) → n < tens (suc k) → Digits (length (decimal n)) n (decimal n)
decimal-digits zero n h = digits-one n (omega arith)
decimal-digits (suc k) n h = go (ltb n 10) refl (decimal-digits k (n / 10))
  where
    go : (b : Bool) → ltb n 10 ≡ b → (n / 10 < tens (suc k) → Digits (length (decimal (n / 10))) (n / 10) (decimal (n / 10)))
        → Digits (length (decimal n)) n (decimal n)
    go true e ih = digits-one n (ltb-true n 10 e)
    go false e ih = digits_more n (ltb-false n 10 e) (ih (omega arith))

some_digit : (n : ℕ) → 0 < length (decimal n)
some_digit n = go (ltb n 10) refl
  where
    go : (b : Bool) → ltb n 10 ≡ b → 0 < length (decimal n)
    go true e = omega (arith, length-one n (ltb-true n 10 e))
    go false e = omega (arith, length_more n (ltb-false n 10 e))

-- what a value may be, in tens
few-tens : (n : ℕ) → n < value_limit → n < tens (suc (most_digits - 1))
few-tens n h = omega arith

pub decimal-value : (n : ℕ) → n < value_limit → Value n (decimal n)
decimal-value n h = record {
  count = length (decimal n);
  some_digit = some_digit n;
  few = omega (arith, length-below (most_digits - 1) n (few-tens n h));
  digits = decimal-digits (most_digits - 1) n (few-tens n h);
}

-- before a space
pub space-line : (n : ℕ) → n < value_limit → (bs cs : List ℕ) (ls : List Line) → lines_of bs ≡ fed cs ∷ ls
    → lines_of (field n 32 ++ bs) ≡ fed (decimal n ++ (32 ∷ cs)) ∷ ls
unfolding field lines_of class_of
space-line n h bs cs ls e =
    ap lines_of (append_snoc (decimal n) 32 bs)
    ∙ digits-lines (decimal-value n h).digits (32 ∷ bs) (fed (32 ∷ cs)) ls (ap (prefixed 32) e)

-- before a line feed
pub feed-line : (n : ℕ) → n < value_limit → (bs : List ℕ) → lines_of (field n 10 ++ bs) ≡ fed (decimal n) ∷ lines_of bs
unfolding field lines_of class_of
feed-line n h bs =
    ap lines_of (append_snoc (decimal n) 10 bs)
    ∙ digits-lines (decimal-value n h).digits (10 ∷ bs) (fed []) (lines_of bs) refl
    ∙ ap (λ (xs : List ℕ). fed xs ∷ lines_of bs) (append-nil (decimal n))
