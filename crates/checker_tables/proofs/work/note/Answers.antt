use mathlib.Core.Path.{ap}
use Prim.Native.Nat.{ℕ}
use lib.Bits.{bit_or}
use lib.ListN.{get_or, set}
use Rattle.checker_account.specs.Tables.{joined_at}
use Rattle.checker_tables.proofs.WorkLaws.{shl-node}
use Rattle.checker_tables.proofs.work.note.Goals as goal

pub returns : goal.returns
unfolding joined_at
returns c =
    let a = c.args in
    let t = a.masks.now in
    ap (λ (n : ℕ). set t a.j (bit_or (get_or t a.j 0) n)) (shl-node a.k c.requires.k_lt_most_nodes)
