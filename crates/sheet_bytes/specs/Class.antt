-- "The class of a byte (digit, space, line feed, other)"
use Rattle.std.specs.Prelude.{ℕ, cond, eqb, ltb}

-- 48 to 57, the digits: 0; a space: 1; a line feed: 2; any other: 3
unfoldable pub class_of : ℕ → ℕ
class_of b = cond (ltb b 48) (cond (eqb b 32) 1 (cond (eqb b 10) 2 3)) (cond (ltb b 58) 0 3)
