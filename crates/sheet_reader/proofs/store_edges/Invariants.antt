use Rattle.sheet_reader.specs.Code.{edge_place}
use Rattle.sheet_reader.proofs.store_edges.Given as goal

abbrev pub ghost-store_bytes : goal.ghost-store_bytes
ghost-store_bytes a = edge_place
