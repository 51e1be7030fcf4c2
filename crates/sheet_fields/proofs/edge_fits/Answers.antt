use borrow.Author.Tests.{lt-ltb, le-ltb, eq-eqb, ne_eqb}
use Rattle.usage.specs.Tests.{edge_ok}
use Rattle.sheet_fields.proofs.edge_fits.Goals as goal

pub returns-then-policy-ge-POLICIES : goal.returns-then-policy-ge-POLICIES
unfolding edge_ok
returns-then-policy-ge-POLICIES c = simp (le-ltb _ _ c.if-policy-ge-POLICIES.true)

pub returns-then-from-ge-STATES : goal.returns-then-from-ge-STATES
unfolding edge_ok
returns-then-from-ge-STATES c = simp (lt-ltb _ _ c.if-policy-ge-POLICIES.false, le-ltb _ _ c.if-from-ge-STATES.true)

pub returns-then-action-ge-ACTIONS : goal.returns-then-action-ge-ACTIONS
unfolding edge_ok
returns-then-action-ge-ACTIONS c = simp (lt-ltb _ _ c.if-policy-ge-POLICIES.false, lt-ltb _ _ c.if-from-ge-STATES.false, le-ltb _ _ c.if-action-ge-ACTIONS.true)

pub returns-then-to-ge-STATES : goal.returns-then-to-ge-STATES
unfolding edge_ok
returns-then-to-ge-STATES c =
    simp (
      lt-ltb _ _ c.if-policy-ge-POLICIES.false,
      lt-ltb _ _ c.if-from-ge-STATES.false,
      lt-ltb _ _ c.if-action-ge-ACTIONS.false,
      le-ltb _ _ c.if-to-ge-STATES.true,
    )

pub returns-then-on-ge-KINDS_OF_ON : goal.returns-then-on-ge-KINDS_OF_ON
unfolding edge_ok
returns-then-on-ge-KINDS_OF_ON c =
    simp (
      lt-ltb _ _ c.if-policy-ge-POLICIES.false,
      lt-ltb _ _ c.if-from-ge-STATES.false,
      lt-ltb _ _
          c.if-action-ge-ACTIONS.false,
      lt-ltb _ _ c.if-to-ge-STATES.false,
      le-ltb _ _ c.if-on-ge-KINDS_OF_ON.true,
    )

pub returns-then-on-eq0 : goal.returns-then-on-eq0
unfolding edge_ok
returns-then-on-eq0 c =
    simp (
      lt-ltb _ _ c.if-policy-ge-POLICIES.false,
      lt-ltb _ _ c.if-from-ge-STATES.false,
      lt-ltb _ _ c.if-action-ge-ACTIONS.false,
      lt-ltb _ _ c.if-to-ge-STATES.false,
      lt-ltb _ _ c.if-on-ge-KINDS_OF_ON.false,
      eq-eqb _ _ c.if-on-eq0.true,
    )

pub returns : goal.returns
unfolding edge_ok
returns c =
    simp (
      lt-ltb _ _ c.if-policy-ge-POLICIES.false,
      lt-ltb _ _ c.if-from-ge-STATES.false,
      lt-ltb _ _ c.if-action-ge-ACTIONS.false,
      lt-ltb _ _ c.if-to-ge-STATES.false,
      lt-ltb _ _ c.if-on-ge-KINDS_OF_ON.false,
      ne_eqb _ _ c.if-on-eq0.false,
    )
