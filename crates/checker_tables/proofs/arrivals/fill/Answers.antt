use native.Mathlib.Omega.{arith}
use mathlib.Core.Path.{◌≡◌, sym, ap, ap₂, ◌∙◌, subst}
use mathlib.Core.Bool.{Bool, false}
use mathlib.Core.List.{List}
use Prim.Native.Nat.{ℕ, ◌/◌}
use lib.ListN.{length, replicate, length-replicate}
use Rattle.usage.specs.Limits.{node_fields}
use Rattle.usage.proofs.Logic.{not-true, not-false}
use Rattle.checker_account.specs.declared.Resources.{Resources}
use Rattle.checker_account.specs.Tables.{first_code_lem, places_of, joined_at, rows_in, place}
use Rattle.checker_account.specs.Filling.{forms_in, by_open, begins, Derived, start, Filled}
use Rattle.checker_tables.specs.Search.{comes_round, ComesBy}
use Rattle.checker_account.proofs.GrowsLaws.{Grows, Filling, joined-grows, grown-false, filling-length, nearer}
use Rattle.checker_account.proofs.PassLaws.{pass-round-grows, pass-round-derived, pass-round-closed}
use Rattle.checker_account.proofs.SearchLaws.{begins-wide}
use Rattle.checker_account.proofs.EntryBounds.{first-code-lt}
use Rattle.checker_tables.proofs.NumberLaws.{code-room, place-room}
use Rattle.checker_tables.proofs.arrivals.fill.Goals as goal

abbrev grows : (t : Bool → List ℕ) (nodes rows : List ℕ) (local : Bool) (p : ℕ) (x : Resources) (u : List ℕ)
    → Grows u (comes_round nodes local rows t p x u)
grows t nodes rows local p x = pass-round-grows local (rows_in rows) p x t (length nodes / node_fields) (forms_in nodes)

begins-length : (x : Resources) → length (begins x) ≡ places_of x
begins-length x = (joined-grows (replicate (places_of x) 0) (place 0 false (first_code_lem x)) 1).len ∙ length-replicate {A = ℕ} (places_of x) 0

pub place-i-requires : goal.place-i-requires
place-i-requires c =
    let a = c.args in
    let r = code-room a.w.resources c.first_code-c.result (omega (arith, c.first_code-c.ensures, first-code-lt a.w.resources)) in
    record { k_lt_most_nodes = omega arith; c_bound = r.0 }

pub join-requires : goal.join-requires
join-requires c =
    let a = c.args in
    let p = c.requires in
    let l = ap length p.u_value ∙ length-replicate {A = ℕ} (places_of a.w.resources) 0 in
    let r = code-room a.w.resources c.first_code-c.result (omega (arith, c.first_code-c.ensures, first-code-lt a.w.resources)) in
    omega (arith, l, c.place-i.ensures, place-room 0 false c.first_code-c.result (places_of a.w.resources) (omega arith) r.1)

pub loop-w-init : goal.loop-w-init
loop-w-init c =
    let a = c.args in
    let t = by_open a.ends.opened.now a.ends.shut.now in
    let r = ComesBy a.nodes.now a.w.local a.rows.now t a.w.policy a.w.resources in
    let m : c.join.new.t ≡ begins a.w.resources =
    c.join.ensures.t_after ∙ ap₂ (λ (u : List ℕ) (i : ℕ). joined_at u i 1) c.requires.u_value
    (c.place-i.ensures ∙ ap (place 0 false) c.first_code-c.ensures) in
    subst (Filling r (begins a.w.resources)) (sym m) (record { derived = start; wide = begins-wide a.w.resources })

pub returns-then-not-pass_round : goal.returns-then-not-pass_round
returns-then-not-pass_round c =
    let a = c.args in
    let t = by_open a.ends.opened.now a.ends.shut.now in
    let g = grows t a.nodes.now a.rows.now a.w.local a.w.policy a.w.resources in
    let l = c.loop-w in
    let s = c.pass_round in
    let same : s.new.u ≡ l.u =
    grown-false (subst (Grows l.u) (sym s.ensures.u_after) (g l.u)) (sym s.ensures.value ∙ not-true s.result c.if-not-pass_round.true-raw) in
    subst (Filled (ComesBy a.nodes.now a.w.local a.rows.now t a.w.policy a.w.resources) (begins a.w.resources)) (sym same) (record {
      derived = l.invariant.derived;
      closed =
          pass-round-closed a.w.local (rows_in a.rows.now) a.w.policy a.w.resources t (length
          a.nodes.now / node_fields)
          (forms_in a.nodes.now) l.u
          (sym s.ensures.u_after ∙ same);
    })

pub loop-w-smaller : goal.loop-w-smaller
loop-w-smaller c =
    let a = c.args in
    let t = by_open a.ends.opened.now a.ends.shut.now in
    let r = ComesBy a.nodes.now a.w.local a.rows.now t a.w.policy a.w.resources in
    let g = grows t a.nodes.now a.rows.now a.w.local a.w.policy a.w.resources in
    let l = c.loop-w in
    let s = c.pass_round in
    let len = (subst (Grows l.u) (sym s.ensures.u_after) (g l.u)).len
    ∙ filling-length (places_of a.w.resources) r (begins a.w.resources) l.u (begins-length a.w.resources) l.invariant in
    nearer (places_of a.w.resources) l.u s.new.u len (s.ensures.wide l.invariant.wide) (sym s.ensures.value ∙ not-false s.result c.if-not-pass_round.false-raw)

pub loop-w-preserved : goal.loop-w-preserved
loop-w-preserved c =
    let a = c.args in
    let t = by_open a.ends.opened.now a.ends.shut.now in
    let l = c.loop-w in
    let s = c.pass_round in
    record {
      derived =
          subst (Derived (ComesBy a.nodes.now a.w.local a.rows.now t a.w.policy a.w.resources) (begins a.w.resources)) (sym s.ensures.u_after)
          (pass-round-derived a.w.local (rows_in a.rows.now) a.w.policy a.w.resources t (length
          a.nodes.now / node_fields)
          (forms_in a.nodes.now) (begins a.w.resources)
          l.u l.invariant.derived);
      wide = s.ensures.wide l.invariant.wide;
    }
