-- What the judge and the check promise, they promise of the edges lent as records.
use mathlib.Core.Bool.{Bool}
use Prim.Native.Nat.{ℕ}
use mathlib.Core.Path.{◌≡◌, sym, subst}
use mathlib.Core.Logic.{◌↔◌}
use mathlib.Core.List.{List}
use Rattle.usage.specs.declared.Edge.{Edge}
use Rattle.usage.specs.declared.RawStep.{RawStep}
use Rattle.usage.specs.declared.Reason.TheVariants.{Table}
use Rattle.usage.specs.Policy.{EdgesOk}
use Rattle.usage.specs.Answers.{Verdict}
use Rattle.usage.specs.Check.{Checked}
use Rattle.usage.specs.Tables.{nodes_of, NodeTable}
use Rattle.usage.specs.Tests.{edges_ok}
use Rattle.usage.proofs.Decides.{refuted}
use Rattle.usage.proofs.ValidLaws.{decides-edges}
use Rattle.usage.proofs.TableLaws.{decides-edge-table}
use Rattle.checker.specs.Promise.{CheckPromise}
use Rattle.checker.proofs.PromiseLaws.{promise-checked}
use Rattle.monitor_state.specs.declared.State.{State}
use Rattle.monitor_state.specs.Judge.{refuse, judge_of}
use Rattle.monitor_state.specs.Represents.{Represents}
use Rattle.monitor_state.specs.Promise.{Promised}
use Rattle.monitor_state.proofs.Verdict.{judge-promised}
use Rattle.api_records.specs.Flat.{flat}
use Rattle.api_records.specs.Records.{judge_records_lem, KeepsRecords}
use Rattle.api_records.proofs.FlatLaws.{edges-flat, table-flat}
use Rattle.api_records.proofs.TableLaws.{flat-refused}

-- From every state that stands for a past under these edges: the answer is right, and the state that is returned stands for the past
-- with the step, if it was allowed, and for the same past if not.
pub records-promised : (es : List Edge) (local : Bool) (s : State) (raw : RawStep)
    → KeepsRecords es local s raw (judge_records_lem es local s raw)
unfolding judge_records_lem
records-promised es local s raw past h ok R =
    subst (λ (l : List Edge). Promised local l past h s raw (judge_of (flat es) local s raw)) (edges-flat es)
    (judge-promised (flat es) (rw (table-flat es) ((decides-edges es).1 ok)) local past h s
    (subst (λ (l : List Edge). Represents local l past h s) (sym (edges-flat es)) R) raw)

-- "41 a table lent to be used that, taken whole, no accepted sheet gives": and the state is returned as it was
pub records-refused : (es : List Edge) → (EdgesOk es → ⊥) → (local : Bool) (s : State) (raw : RawStep)
    → judge_records_lem es local s raw ≡ refuse Table s
unfolding judge_records_lem
records-refused es no_sheet local s raw = flat-refused es local s raw (refuted (edges_ok es) (decides-edges es) no_sheet)

-- The check's answer, said of the records themselves: a verdict is right of an accepted sheet's edges and nodes exactly where it is told.
pub records-checked : (local : Bool) (es : List Edge) (ns : List ℕ) (v : Verdict) → CheckPromise local (flat es) ns v → EdgesOk es
    → NodeTable ns
    → (w : Verdict) → Checked local es (nodes_of ns) w ↔ (v ≡ w)
records-checked local es ns v h ok nodes w =
    subst (λ (l : List Edge). Checked local l (nodes_of ns) w ↔ (v ≡ w)) (edges-flat es)
    (promise-checked h ((decides-edge-table (flat es)).0 (rw (table-flat es) ((decides-edges es).1 ok))) nodes w)
