-- A code tells which answer it is of: no two answers have the same one, where a policy and a number are below 256.
use Prim.Native.Nat.{ℕ, ◌+◌, ◌*◌, ◌<◌}
use mathlib.Core.Path.{◌≡◌, refl, ap}
use native.Mathlib.Omega.{arith}
use Rattle.usage.specs.Answers.{Verdict, allowed, violated, refused, detail}
use Rattle.api_c.specs.Codes.{code_of}

pub code_one : (v w : Verdict) → detail v < 256 → detail w < 256 → code_of v ≡ code_of w → v ≡ w
code_one allowed allowed h k e = refl
code_one allowed (violated q) h k e = absurd (omega arith)
code_one allowed (refused n) h k e = absurd (omega arith)
code_one (violated p) allowed h k e = absurd (omega arith)
code_one (violated p) (violated q) h k e = ap violated (omega arith)
code_one (violated p) (refused n) h k e = absurd (omega arith)
code_one (refused m) allowed h k e = absurd (omega arith)
code_one (refused m) (violated q) h k e = absurd (omega arith)
code_one (refused m) (refused n) h k e = ap refused (omega arith)

code-small : (v : Verdict) → detail v < 256 → code_of v < 65536
code-small allowed h = omega arith
code-small (violated p) h = omega arith
code-small (refused n) h = omega arith

-- so does one with a number of steps before it
pub code-with-steps-one : (m n : ℕ) (v w : Verdict) → detail v < 256 → detail w < 256 → 65536 * m + code_of v ≡ 65536 * n + code_of w
    → (m ≡ n) × (v ≡ w)
code-with-steps-one m n v w h k e =
    let l : code_of v < 65536 = code-small v h in
    let r : code_of w < 65536 = code-small w k in
    (omega arith, code_one v w h k (omega arith))
