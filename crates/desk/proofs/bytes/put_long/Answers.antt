use Rattle.desk_positions.proofs.CopyLaws.{wide-put}
use Rattle.desk.proofs.bytes.put_long.Goals as goal

-- src/bytes.rt:105:1
pub returns : goal.returns
returns c =
    let a = c.args in
    wide-put a.b.now _ _ a.i a.x c.put_word.ensures c.put_word-2.ensures
