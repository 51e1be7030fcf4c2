use mathlib.Core.Path.{refl}
use lib.ListN.{get_or}
use Rattle.desk.specs.Layout.{word_at}
use Rattle.desk_positions.proofs.CopyLaws.{words-local, put_next}
use Rattle.desk.proofs.bytes.words_out.Goals as goal

pub loop-i-preserved : goal.loop-i-preserved
loop-i-preserved g c =
    let a = c.args in
    let t = c.loop-i in
    put_next word_at 4 words-local a.b.now a.place a.l.now t.i t.b _ (get_or a.l.now t.i 0) t.invariant c.put_word.ensures refl
