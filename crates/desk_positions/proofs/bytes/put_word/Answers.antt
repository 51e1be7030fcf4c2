use Rattle.desk_positions.proofs.CopyLaws.{word-written}
use native.Mathlib.Omega.{arith}
use mathlib.Core.Path.{refl, ◌∙◌}
use Rattle.desk_positions.proofs.bytes.put_word.Goals as goal

pub returns : goal.returns
returns c =
    let a = c.args in
    word-written a.b.now _ a.i _ a.x c.requires refl (c.copy_from_slice.ensures.after ∙ c.to_le_bytes.ensures) (omega arith)
