use native.Mathlib.Omega.{arith}
use mathlib.Core.Path.{refl, ◌∙◌}
use Prim.Native.Nat.{◌+◌}
use Rattle.desk_positions.proofs.CopyLaws.{slice_is}
use Rattle.desk.proofs.bytes.bytes_at.Goals as goal

pub returns : goal.returns
returns g c =
    let a = c.args in
    c.copy_from_slice.ensures.after ∙ slice_is a.b.now a.place g.row.N (a.place + g.row.N) refl (omega arith)
