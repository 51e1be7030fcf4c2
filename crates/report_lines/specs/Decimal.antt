-- Numbers as they are printed.
use Rattle.std.specs.Prelude.{ℕ, zero, suc, ◌+◌, ◌/◌, ◌%◌, Bool, true, false, List, [], ◌∷◌, ◌++◌, ltb}

-- the byte of a digit
abbrev pub digit_byte : ℕ → ℕ
digit_byte d = 48 + d

-- The digits of n, the highest first: k bounds how many there are after the first, and the Bool says whether there are none.
unfoldable pub spelled : ℕ → Bool → ℕ → List ℕ
spelled zero b n = digit_byte n ∷ []
spelled (suc k) true n = digit_byte n ∷ []
spelled (suc k) false n = spelled k (ltb (n / 10) 10) (n / 10) ++ (digit_byte (n % 10) ∷ [])

-- "All numbers are decimal." 0 is one digit; no other number starts with a zero.
unfoldable pub decimal : ℕ → List ℕ
decimal n = spelled n (ltb n 10) n
