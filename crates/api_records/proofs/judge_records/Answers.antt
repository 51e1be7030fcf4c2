use mathlib.Core.Path.{◌≡◌, sym, ap, subst, ◌∙◌}
use mathlib.Core.List.{List}
use Prim.Native.Nat.{ℕ}
use Rattle.usage.specs.declared.Reason.TheVariants.{Table}
use Rattle.monitor_state.specs.declared.Judgement.{Judgement}
use Rattle.monitor_state.specs.Judge.{judge_of, refuse}
use Rattle.api_records.specs.Records.{KeepsRecords, judge_records_lem}
use Rattle.api_records.proofs.TableLaws.{few-held, few-judged, many-judged}
use Rattle.api_records.proofs.Promises.{records-promised}
use Rattle.api_records.proofs.judge_records.Goals as goal

pub held-requires : goal.held-requires
held-requires c = let h = c.in-Some.ensures in few-held c.args.edges.now h.0 c.in-Some.table h.1

pub returns-in_default : goal.returns-in_default
unfolding refuse
returns-in_default c =
    let a = c.args in
    let es = a.edges.now in
    let value : refuse Table a.s ≡ judge_records_lem es a.local a.s a.step = many-judged es a.local a.s a.step c.in_default.ensures in
    record {
      value = value;
      keeps_records = subst (λ (j : Judgement). KeepsRecords es a.local a.s a.step j) (sym value) (records-promised es a.local a.s a.step);
    }

pub returns : goal.returns
returns c =
    let a = c.args in
    let es = a.edges.now in
    let h = c.in-Some.ensures in
    let value : c.judge.result ≡ judge_records_lem es a.local a.s a.step =
    c.judge.ensures.value ∙ ap (λ (t : List ℕ). judge_of t a.local a.s a.step) c.held.ensures
    ∙ few-judged es h.0 c.in-Some.table h.1 a.local a.s a.step in
    record {
      value = value;
      keeps_records = subst (λ (j : Judgement). KeepsRecords es a.local a.s a.step j) (sym value) (records-promised es a.local a.s a.step);
    }
