use Prim.Native.Nat.{◌-◌, ◌%◌}
use mathlib.Core.Bool.{true}
use mathlib.Core.Path.{◌≡◌, sym, ap, ◌∙◌}
use native.Mathlib.Omega.{arith}
use lib.ListN.{get_or, length-set}
use Rattle.monitor_sets.specs.Created.{listed}
use Rattle.monitor_sets.specs.Code.{endings}
use Rattle.monitor_sets.proofs.CreatedLaws.{
  behind-part,
  sound-end,
  low-unsound,
  high-unsound,
  sound-again,
  sound-next,
  unseen-unlisted,
  seen_more,
}
use borrow.Author.Rules.{rules}
use Rattle.monitor_sets.proofs.created.all_sound.Goals as goal
use Rattle.monitor_sets.proofs.created.all_sound.Goals.{
  then-x-lt-STATICS-via-then-x-lt-STATICS,
  then-x-lt-STATICS-via-else-x-lt-STATICS+then-x-gt-LAST_RESOURCE,
  else-seen-e-via-then-seen-e+else-listed_in,
  else-seen-e-via-else-seen-e,
}

pub loop-i-init : goal.loop-i-init
loop-i-init c = (sound-end c.args.live.now _ (omega arith), (search rules, λ j g h. absurd (omega arith)))

pub returns-then-x-lt-STATICS : goal.returns-then-x-lt-STATICS
returns-then-x-lt-STATICS c =
    let l = c.args.live.now in
    let t = c.loop-i in
    elim c.then-x-lt-STATICS.branch [
      | then-x-lt-STATICS-via-then-x-lt-STATICS w ↦ sym (low-unsound l (t.i - 1) (omega arith) w.if-x-lt-STATICS.true)
      | then-x-lt-STATICS-via-else-x-lt-STATICS+then-x-gt-LAST_RESOURCE w ↦ sym (high-unsound l (t.i - 1) (omega arith) w.if-x-gt-LAST_RESOURCE.true)
    ]

pub returns-then-listed_in : goal.returns-then-listed_in
returns-then-listed_in c =
    let l = c.args.live.now in
    let t = c.loop-i in
    sym (sound-again l t.i (omega arith) (omega arith) c.if-x-lt-STATICS.false (omega (arith, c.if-x-gt-LAST_RESOURCE.false))
    (ap (listed (get_or l (t.i - 1) 0)) (sym (behind-part l t.i (omega arith))) ∙ sym c.listed_in.ensures ∙ c.if-listed_in.true))

pub loop-i-preserved : goal.loop-i-preserved
loop-i-preserved c =
    let l = c.args.live.now in
    let t = c.loop-i in
    let next = sound-next l t.i (omega arith) (omega arith) t.invariant.0 c.if-x-lt-STATICS.false
    (omega (arith, c.if-x-gt-LAST_RESOURCE.false)) in
    let seen = t.invariant.1 in (
      elim c.else-seen-e.branch [
        | else-seen-e-via-then-seen-e+else-listed_in w ↦ next
            (ap (listed (get_or l (t.i - 1) 0)) (sym (behind-part l t.i (omega arith))) ∙ sym w.listed_in.ensures ∙ w.if-listed_in.false)
        | else-seen-e-via-else-seen-e w ↦ next (unseen-unlisted l t.seen t.i (get_or l (t.i - 1) 0) (omega arith) seen.1 w.if-seen-e.false)
      ],
      (
        length-set t.seen (get_or l (t.i - 1) 0 % endings) true ∙ seen.0,
        seen_more l t.seen t.i (omega arith) seen.0 seen.1,
      ),
    )

pub returns : goal.returns
returns c =
    let t = c.loop-i in
    let z : t.i ≡ 0 = omega arith in
    sym (rw z at t.invariant.0)
