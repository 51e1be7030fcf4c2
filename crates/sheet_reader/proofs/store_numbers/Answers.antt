use Prim.Native.Nat.{◌*◌}
use mathlib.Core.Path.{◌≡◌, sym, ap, ◌∙◌}
use mathlib.Core.List.{List, ◌++◌}
use Prim.Native.Nat.{ℕ}
use native.Mathlib.Omega.{arith}
use lib.ListN.{length, take, drop, length-take, take-append-drop}
use Rattle.usage.specs.Limits.{step_fields}
use Rattle.sheet_reader.proofs.StoreLaws.{from_front}
use Rattle.sheet_reader.proofs.store_numbers.Goals as goal

pub returns : goal.returns
returns c =
    let a = c.args in
    let l = a.buffer.now in
    let m = a.n * step_fields in
    let long : length (take m l) ≡ m = omega (arith, length-take m l, c.told-buffer) in
    let copied = from_front l (take m l) (drop m l) m (sym (take-append-drop m l)) long in
    ap (λ (s : List ℕ). s ++ drop m a.table.now) (c.copy_from_slice.ensures.after ∙ sym copied)
