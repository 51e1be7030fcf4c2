use Rattle.sheet_reader.specs.Code.{node_place}
use Rattle.sheet_reader.proofs.store_nodes.Given as goal

abbrev pub ghost-store_bytes : goal.ghost-store_bytes
ghost-store_bytes a = node_place
