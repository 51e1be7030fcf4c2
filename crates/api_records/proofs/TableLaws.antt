-- The table of the records is their flat table.
use Prim.Native.Nat.{ℕ, ◌<◌, ◌≤◌}
use mathlib.Core.Path.{◌≡◌, sym, ap, ◌∙◌}
use mathlib.Core.Bool.{Bool, false}
use mathlib.Core.List.{List}
use native.Mathlib.Omega.{arith}
use lib.ListN.{length}
use Rattle.usage.specs.declared.Edge.{Edge}
use Rattle.usage.specs.declared.RawStep.{RawStep}
use Rattle.usage.specs.declared.Reason.TheVariants.{Table}
use Rattle.usage.specs.Limits.{most_edges}
use Rattle.usage.specs.Answers.{refused}
use Rattle.usage.specs.Tests.{edges_ok}
use Rattle.checker.specs.Promise.{CheckPromise}
use Rattle.checker.proofs.PromiseLaws.{edges-refused, right-promised}
use Rattle.monitor_state.specs.declared.State.{State}
use Rattle.monitor_state.specs.Judge.{refuse, judge_of}
use Rattle.api_records.specs.declared.flat.Flat.{Flat}
use Rattle.api_records.specs.Flat.{flat}
use Rattle.api_records.proofs.FlatLaws.{table-flat, too_many, loop-few, few-flat}
use Rattle.api_records.specs.Records.{judge_records_lem}
use Rattle.api_records.specs.Code.{zeros, flat_of, flat_held}

-- where the edges are not those of an accepted sheet, the judge answers 41
pub flat-refused : (es : List Edge) (local : Bool) (s : State) (raw : RawStep) → edges_ok es ≡ false
    → judge_of (flat es) local s raw ≡ refuse Table s
unfolding judge_of
flat-refused es local s raw h = rw (table-flat es, h)

-- more records than a sheet has
pub many-judged : (es : List Edge) (local : Bool) (s : State) (raw : RawStep) → most_edges < length es
    → refuse Table s ≡ judge_records_lem es local s raw
unfolding judge_records_lem
many-judged es local s raw h = sym (flat-refused es local s raw (too_many es h))

pub many-checked : (local : Bool) (es : List Edge) (ns : List ℕ) → most_edges < length es → CheckPromise local (flat es) ns (refused 41)
many-checked local es ns h =
    right-promised local (flat es) ns (refused 41) (edges-refused local (flat es) ns (table-flat es ∙ too_many es h))

-- what the table of at most as many holds
module _ (es : List Edge) (few : length es ≤ most_edges) (f : Flat) (e : f ≡ flat_of zeros es) where
  pub few-held : f.count ≤ most_edges
  few-held = let k = (few-flat es (loop-few es few)).0 in let c = ap (λ (g : Flat). g.count) e in omega arith

  pub held-flat : flat_held f ≡ flat es
  held-flat = ap flat_held e ∙ (few-flat es (loop-few es few)).1

  pub few-judged : (local : Bool) (s : State) (raw : RawStep) → judge_of (flat_held f) local s raw ≡ judge_records_lem es local s raw
  unfolding judge_records_lem
  few-judged local s raw = ap (λ (t : List ℕ). judge_of t local s raw) held-flat
