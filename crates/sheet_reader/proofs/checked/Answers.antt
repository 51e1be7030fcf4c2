use native.Mathlib.Nat.{sub-zero}
use Prim.Native.Nat.{◌*◌}
use Rattle.usage.specs.Limits.{node_fields}
use Rattle.usage.proofs.TableLaws.{length_from}
use Rattle.sheet_reader.specs.Code.{number_place, node_place, picked}
use Rattle.sheet_reader.proofs.OutlineLaws.{front}
use mathlib.Core.Path.{sym, ◌∙◌}
use Prim.Native.Nat.{◌-◌}
use Rattle.sheet_reader.proofs.checked.Goals as goal

pub returns : goal.returns
returns c =
    let a = c.args in
    let n = a.n in
    let numbers = picked number_place a.buffer.now n in
    let nodes = picked node_place a.buffer.now (n * node_fields) in
    let p = front _ numbers _ (n - 0)
    c.store_bytes.ensures
    (length_from _ 0 n ∙ sym (sub-zero n)) in
    let q = front _ nodes _ (n * node_fields - 0) c.store_nodes.ensures
    (length_from _ 0 (n * node_fields) ∙ sym (sub-zero (n * node_fields))) in
    rw (← p, ← q) c.ruled_sheet.ensures
