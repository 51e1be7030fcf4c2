use Rattle.sheet_reader.specs.Code.{number_place}
use Rattle.sheet_reader.proofs.checked.Given as goal

abbrev pub ghost-store_bytes : goal.ghost-store_bytes
ghost-store_bytes a = number_place
