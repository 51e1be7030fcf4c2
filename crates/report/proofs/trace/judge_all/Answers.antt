use native.Mathlib.Omega.{arith}
use mathlib.Core.Path.{refl, sym, ap, ◌∙◌}
use Prim.Native.Nat.{◌/◌}
use lib.ListN.{length}
use lib.Seq.{sets}
use Rattle.monitor_state.specs.Lent.{lent_of, state_of, judgement_of}
use Rattle.report.proofs.TraceLaws.{going_on, all_left, none_left}
use Rattle.report.proofs.trace.judge_all.Goals as goal

pub loop-i-init : goal.loop-i-init
loop-i-init c =
    let e = c.start-s.ensures.value in
    record { within = omega arith; long = refl; room = omega arith; end = rw e; put = rw e }

pub overflow_add-i : goal.overflow_add-i
overflow_add-i c =
    let p = c.requires.steps_len_bound in
    let t = c.loop-i in
    let q = c.loop-i-test.true in
    record { fits = omega arith }

pub loop-i-preserved : goal.loop-i-preserved
loop-i-preserved c =
    let p = c.requires.steps_len_bound in
    let k = c.judge_lent-t in
    let r = c.row-next in
    going_on c.loop-i.invariant
    (judgement_of k.result (lent_of k.new.sets k.new.pairs k.new.possible k.new.created k.new.unclosed k.new.order))
    c.step_at.ensures
    k.ensures c.number_of.ensures c.detail_of.ensures
    r.ensures.value r.ensures.out_after
    c.loop-i-test.true
    (omega arith)

pub returns : goal.returns
returns c =
    let a = c.args in
    let t = c.loop-i in
    let s = state_of (lent_of t.s.tracked.sets t.s.tracked.pairs t.s.tracked.possible t.s.created.numbers t.s.unclosed.counts t.s.unclosed.order) t.sizes in
    let e = all_left a.edges.now a.local a.steps.now in
    let z = none_left a.edges.now a.local a.steps.now (length a.steps.now / 3) s t.i c.loop-i-test.false in
    let g = ap length z in
    record { value = rw e (omega arith); out_after = rw e (ap (sets t.out t.next) (sym z) ∙ t.invariant.put) }
