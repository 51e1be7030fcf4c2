-- "The judge and the check are lent the edges as a slice of records": the judge over the list of the records, under a choice of past.
use Rattle.std.specs.Prelude.{Bool, List}
use Rattle.usage.specs.declared.Edge.{Edge}
use Rattle.usage.specs.declared.RawStep.{RawStep}
use Rattle.usage.specs.Policy.{EdgesOk}
use Rattle.usage.specs.Past.{Past}
use Rattle.monitor_state.specs.declared.State.{State}
use Rattle.monitor_state.specs.declared.Judgement.{Judgement}
use Rattle.monitor_state.specs.Judge.{judge_of}
use Rattle.monitor_state.specs.Represents.{Represents}
use Rattle.monitor_state.specs.Promise.{Promised}
use Rattle.api_records.specs.Flat.{flat}

-- The judge, lent the edges as records: the judge over their flat table. So more than 256 are "a table lent to be used that, taken
-- whole, no accepted sheet gives" (41).
unfoldable pub judge_records_lem : List Edge → Bool → State → RawStep → Judgement
judge_records_lem es local s raw = judge_of (flat es) local s raw

-- The promise of a step, over the past alone: for every past that the state stands for, under the edges of an accepted sheet.
abbrev pub KeepsRecords : List Edge → Bool → State → RawStep → Judgement → Type 0
KeepsRecords es local s raw j = (past : Past) (h : Bool) → EdgesOk es → Represents local es past h s → Promised local es past h s raw j
