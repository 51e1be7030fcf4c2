-- What each way of writing an entry writes.
use Prim.Native.Nat.{ℕ, suc, ◌/◌, ◌<◌, ◌≤◌}
use mathlib.Core.Path.{◌≡◌, refl, sym, ap, ap₂, ◌∙◌, subst}
use mathlib.Core.Bool.{Bool, true}
use mathlib.Core.Option.{Option, none, some}
use mathlib.Core.List.{List, ◌∷◌}
use mathlib.Core.Logic.{◌⊎◌, inl, inr}
use native.Mathlib.Omega.{arith}
use lib.Dec.{eqb}
use lib.ListN.{length, get_or}
use Rattle.usage.specs.declared.Edge.{Edge}
use Rattle.usage.specs.Limits.{most_shown, most_nodes, node_fields}
use Rattle.usage.specs.Past.{event, Past}
use Rattle.usage.specs.Outline as outline
use Rattle.usage.specs.Outline.{Form, Is, static_event, named_event}
use Rattle.usage.specs.Valid.{Scope}
use Rattle.usage.specs.Tables.{nodes_of}
use Rattle.checker_account.specs.Single.{watching}
use Rattle.checker_account.specs.Account.{Aim, ended, broken, each, Goes}
use Rattle.checker_account.specs.Written.{Written}
use Rattle.checker_account.specs.Least.{Begun, Leads, PassesAll, ending}
use Rattle.checker_account.proofs.MaskLaws.{offends-has}
use Rattle.checker_account.proofs.ScopedLaws.{scoped}
use Rattle.checker_account.proofs.OntoLaws.{goes-still, passes-all, passes-among}
use Rattle.checker_account.proofs.BegunLaws.{begun-ended}
use Rattle.checker_account.proofs.SingleLaws.{watching-keeps}
use Rattle.checker_account.proofs.CounterexampleLaws.{idle-written, passes-written}
use Rattle.checker_lengths.specs.declared.Entry.{Entry}
use Rattle.checker_lengths.specs.declared.WatchOne.{WatchOne}
use Rattle.checker_lengths.specs.Entries.{all_lengths, entry_of, held}
use Rattle.checker_lengths.specs.Offers.{offer_of, offer_from, moved, ending_of as ends_by, breaking}
use Rattle.checker_lengths.specs.Filling.{form_here}
use Rattle.checker_lengths.specs.Held.{aim_at, meaning_of}
use Rattle.checker_lengths.proofs.Inversion.{ending-inv, breaking-inv, event-inv}
use Rattle.checker_lengths.proofs.RuledLaws.{offending-small, break-is, end_is, static-moves, name-moves}
use Rattle.checker_lengths.proofs.EntryLaws.{bounds, held-is}
use Rattle.checker_lengths.proofs.FullLaws.{here-form, run-followed}
use Rattle.checker_trace.specs.declared.Spot.{Spot}
use Rattle.checker_trace.specs.declared.Names.{Names}
use Rattle.std.specs.Prelude.{None}
use Rattle.checker_trace.specs.Code.{OntoIs, onto, stored_step, onward, Spotted, Coming, Ready, Tells, NamesAt, Writes}
use Rattle.checker_trace.proofs.LeadLaws.{closure-passes, never-nothing}
use Rattle.checker_trace.proofs.StepLaws.{laid_more, spotted-event}

module _ (w : WatchOne) (rows nodes t : List ℕ) (e : Entry) where
  -- the entry, as the account tells it
  abbrev told : ℕ → Bool → Aim Bool → Entry
  told m c aim = entry_of e.node e.opened (meaning_of m c) e.state (aim_at aim)

  pub tells_is : {es : List Edge} {m : ℕ} {c : Bool} {aim : Aim Bool} → Tells w es nodes e m c aim → e ≡ told m c aim
  tells_is h = ap₂ (λ (i j : ℕ). entry_of e.node e.opened i e.state j) h.meaning h.number

  -- where the entry is an end, that end occurs
  end-occurs : {es : List Edge} (n m : ℕ) (c : Bool) (aim : Aim Bool) → Ready w es rows nodes t → Tells w es nodes e m c aim
      → held t all_lengths e ≡ n → n ≤ most_shown → (c' : Bool) (q' : ℕ) → aim ≡ ended c' q' → Begun (watching w.resource) m c' q'
  end-occurs {es} n m c aim ready tells h few c' q' f =
      let here : held t all_lengths (told m c aim) ≡ n = sym (ap (held t all_lengths) (tells_is tells)) ∙ h in
      begun-ended w.local es (nodes_of nodes) w.policy (watching w.resource) ready.source.edges (watching-keeps w.resource)
      tells.begun
      (subst (λ (u : Aim Bool). Goes w.local es (nodes_of nodes) w.policy (watching w.resource) n e.opened e.node m c
      e.state u) f
      (ready.least.lengths.sound tells.begun tells.aimed (here, few)))

  -- ── The node to go on at ──

  pub record Arrived (es : List Edge) (n m : ℕ) (c : Bool) (aim : Aim Bool) (j r : ℕ) (f : Form) : Type 0 where
    pub passes : PassesAll (nodes_of nodes) (ending aim) e.node j
    pub is : Is (nodes_of nodes) j f
    pub come : Coming w es nodes e.opened j m c e.state
    pub gives : offer_of w rows (held t n) (entry_of j e.opened (meaning_of m c) e.state (aim_at aim)) r f ≡ n

  pub arrive : (n j r : ℕ) (f : Form) → length nodes / node_fields ≤ most_nodes
      → OntoIs w rows nodes t e n (onto j r) → form_here nodes j ≡ some f
      → {es : List Edge} {m : ℕ} {c : Bool} {aim : Aim Bool} → Ready w es rows nodes t
      → Tells w es nodes e m c aim → n ≤ most_shown → held t all_lengths e ≡ n → Arrived es n m c aim j r f
  arrive n j r f few on g {es} {m} {c} {aim} ready tells steps there =
      let (s, closed, l, h, offer) = subst (λ (y : Entry). OntoIs w rows nodes t y n (onto j r)) (tells_is tells) on in
      let passes = closure-passes w.local es nodes w.policy w.resource rows t ready.source ready.least e.opened
      e.node m c e.state aim tells.begun tells.aimed (end-occurs n m c aim ready tells there steps) s closed j
      (omega arith) h in
      record {
        passes = passes;
        come = passes-among w.local es (nodes_of nodes) w.policy (watching w.resource) (Coming w es nodes)
            (run-followed w.local es nodes w.policy w.resource rows ready.source) tells.come passes;
        is = here-form w.local es nodes w.policy w.resource rows ready.source j f l g;
        gives = subst (λ (y : Option Form). offer_from w rows (held t n)
            (entry_of j e.opened (meaning_of m c) e.state (aim_at aim)) r y ≡ n) g offer;
      }

  -- the names that are in scope where a node leads to
  leads-scope : {es : List Edge} → Ready w es rows nodes t → {whole : Bool} {i j : ℕ} → Leads (nodes_of nodes) whole i j → (m : ℕ)
      → Scope (nodes_of nodes) j m → Scope (nodes_of nodes) i m
  leads-scope ready (Leads.first is h) = (scoped (nodes_of nodes) ready.source.outline).first is
  leads-scope ready (Leads.second is h) = (scoped (nodes_of nodes) ready.source.outline).second is
  leads-scope ready (Leads.left is) = (scoped (nodes_of nodes) ready.source.outline).left is
  leads-scope ready (Leads.right is) = (scoped (nodes_of nodes) ready.source.outline).right is
  leads-scope ready (Leads.body is) = (scoped (nodes_of nodes) ready.source.outline).body is
  leads-scope ready (Leads.again is) = (scoped (nodes_of nodes) ready.source.outline).again is

  pub passes-names : {es : List Edge} → Ready w es rows nodes t → {whole : Bool} {k j : ℕ} {names : outline.Names}
      → PassesAll (nodes_of nodes) whole k j → NamesAt (nodes_of nodes) k names → NamesAt (nodes_of nodes) j names
  passes-names ready {whole} {k} {j} {names} d h =
      passes-all (λ (i : ℕ). NamesAt (nodes_of nodes) i names) (λ a b g l m u. g m (leads-scope ready l m u)) h d

  module _ (n : ℕ) (g : Names) (s : Spot) (trace : List ℕ) where
    abbrev Wrote : Spot → List ℕ → Type 0
    Wrote r trace' = Writes w rows nodes t e n g s trace r trace'

    -- no step
    pub wrote_none : n ≡ 0 → Wrote s trace
    wrote_none z es m c aim names t₀ past ready tells h named agree spotted same room =
        let L = ready.least.lengths in
        let here : held t all_lengths (told m c aim) ≡ n = sym (ap (held t all_lengths) (tells_is tells)) ∙ h in
        let d = goes-still w.local es (nodes_of nodes) w.policy (watching w.resource)
        (L.sound tells.begun tells.aimed (here, omega arith)) z in (
          past,
          subst (λ (u : Aim Bool). Written w.local es (nodes_of nodes) w.policy (watching w.resource) n e.opened
              e.node names m c
              e.state past u past) (sym d.same)
              (subst (λ (i : ℕ). Written w.local es (nodes_of nodes) w.policy (watching w.resource) i e.opened
              e.node names m c
              e.state past (ended c e.state) past) (sym z)
              (idle-written w.local es (nodes_of nodes) w.policy (watching w.resource) d.idle)),
          spotted,
          same,
        )

    -- there always is a rule
    pub wrote-nowhere : OntoIs w rows nodes t e n None → n ≤ most_shown → 1 ≤ n → (r : Spot) (trace' : List ℕ) → Wrote r trace'
    wrote-nowhere on few one r trace' es m c aim names t₀ past ready tells h named agree spotted same room =
        absurd (never-nothing w.local es nodes w.policy w.resource rows t ready.source ready.least e.opened e.node m c
        e.state aim tells.begun tells.aimed (end-occurs n m c aim ready tells h few) tells.come n
        (sym (ap (held t all_lengths) (tells_is tells)) ∙ h) few one
        (subst (λ (y : Entry). OntoIs w rows nodes t y n None) (tells_is tells) on))

    module _ (few_nodes : length nodes / node_fields ≤ most_nodes) (few : n ≤ most_shown)
        (j r : ℕ) (on : OntoIs w rows nodes t e n (onto j r)) where
      abbrev at-node : Bool → ℕ → Aim Bool → ℕ → Entry
      at-node c m aim k = entry_of k e.opened (meaning_of m c) e.state (aim_at aim)

      -- the aim has a number, since the entry is in the table
      pub range-of : {es : List Edge} {m : ℕ} {c : Bool} {aim : Aim Bool} → held t all_lengths e ≡ n → Tells w es nodes e m c aim
          → aim_at aim < 17
      range-of h tells = let (i, y, l) = held-is t all_lengths e n h (omega arith) in
          subst (λ (y : ℕ). y < 17) tells.number (bounds e i).aim

      -- the number of steps of an event
      event-steps : (z : ℕ) (y : Entry) → (ends_by z y ≡ n) ⊎ (breaking z y ≡ n) → n ≡ 1
      event-steps z y (inl g) = (ending-inv y n few z g).0
      event-steps z y (inr g) = (breaking-inv y n few z g).0

      module _ (es : List Edge) (m : ℕ) (c : Bool) (aim : Aim Bool) (names : outline.Names) (past : Past) (ready : Ready w es rows nodes t)
          (tells : Tells w es nodes e m c aim) (range : aim_at aim < 17) where
        abbrev Here : Past → Type 0
        Here after =
            Written w.local es (nodes_of nodes) w.policy (watching w.resource) n e.opened j names m c e.state past aim after

        written-end : (q : ℕ) (after : Past) → n ≡ 1 → aim ≡ ended c q
            → Written w.local es (nodes_of nodes) w.policy (watching w.resource) 1 e.opened j names m c e.state past
            (ended c q) after
            → Here after
        written-end q after z f d =
            subst (λ (u : Aim Bool). Written w.local es (nodes_of nodes) w.policy (watching w.resource) n e.opened j names m c
            e.state past u after) (sym f)
            (subst (λ (i : ℕ). Written w.local es (nodes_of nodes) w.policy (watching w.resource) i e.opened j names m c
            e.state past
            (ended c q) after) (sym z) d)

        written-break : (after : Past) → n ≡ 1 → e.opened ≡ true → aim ≡ broken none
            → Written w.local es (nodes_of nodes) w.policy (watching w.resource) 1 true j names m c e.state past
            (broken none) after
            → Here after
        written-break after z o f d =
            subst (λ (u : Aim Bool). Written w.local es (nodes_of nodes) w.policy (watching w.resource) n e.opened j names m c
            e.state past u after) (sym f)
            (subst (λ (i : ℕ). Written w.local es (nodes_of nodes) w.policy (watching w.resource) i e.opened j names m c
            e.state past
            (broken none) after) (sym z)
            (subst (λ (y : Bool). Written w.local es (nodes_of nodes) w.policy (watching w.resource) 1 y j names m c e.state past
            (broken none) after) (sym o) d))

        at_static : (d i : ℕ) → Is (nodes_of nodes) j (static_event d i)
            → (ends_by (moved rows (at-node c m aim j) (eqb i w.resource)) (at-node c m aim j) ≡ n)
            ⊎ (breaking (moved rows (at-node c m aim j) (eqb i w.resource)) (at-node c m aim j) ≡ n)
            → Here (event d i ∷ past)
        at_static d i is (inl g) =
            let (z, y, l, h, f) = ending-inv (at-node c m aim j) n few (moved rows (at-node c m aim j) (eqb i w.resource)) g in
            written-end y (event d i ∷ past) z (end_is aim m c y tells.aimed range l f)
            (Written.fires_static is (static-moves w.local es (nodes_of nodes) w.policy w.resource rows ready.source j
            e.opened (aim_at aim) y tells.begun l is h))
        at_static d i is (inr g) =
            let (z, f, o, v) = breaking-inv (at-node c m aim j) n few (moved rows (at-node c m aim j) (eqb i w.resource)) g in
            let (y, off, h) = offends-has (moved rows (at-node c m aim j) (eqb i w.resource)) v in
            written-break (event d i ∷ past) z o (break-is aim tells.aimed f)
            (Written.breaks_static is (static-moves w.local es (nodes_of nodes) w.policy w.resource rows ready.source j
            e.opened (aim_at aim) y tells.begun (offending-small y off) is h) off each)

        at_name : (d i v : ℕ) → Is (nodes_of nodes) j (named_event d i) → names i ≡ some v
            → (ends_by (moved rows (at-node c m aim j) (eqb (meaning_of m c) (suc i))) (at-node c m aim j) ≡ n)
            ⊎ (breaking (moved rows (at-node c m aim j) (eqb (meaning_of m c) (suc i))) (at-node c m aim j) ≡ n)
            → Here (event d v ∷ past)
        at_name d i v is nm (inl g) =
            let (z, y, l, h, f) = ending-inv (at-node c m aim j) n few (moved rows (at-node c m aim j) (eqb (meaning_of m c) (suc i))) g in
            written-end y (event d v ∷ past) z (end_is aim m c y tells.aimed range l f)
            (Written.fires_name is nm (name-moves w.local es (nodes_of nodes) w.policy w.resource rows ready.source j e.opened
            (aim_at aim) y tells.begun l is h))
        at_name d i v is nm (inr g) =
            let (z, f, o, u) = breaking-inv (at-node c m aim j) n few (moved rows (at-node c m aim j) (eqb (meaning_of m c) (suc i))) g in
            let (y, off, h) = offends-has (moved rows (at-node c m aim j) (eqb (meaning_of m c) (suc i))) u in
            written-break (event d v ∷ past) z o (break-is aim tells.aimed f)
            (Written.breaks_name is nm (name-moves w.local es (nodes_of nodes) w.policy w.resource rows ready.source j
            e.opened (aim_at aim) y tells.begun (offending-small y off) is h) off each)

      -- an event on a static resource
      pub wrote_static : (d i : ℕ) → form_here nodes j ≡ some (static_event d i) → (r' : Spot) → r' ≡ onward s → (trace' : List ℕ)
          → trace' ≡ stored_step trace s.at 0 d i → Wrote r' trace'
      unfolding offer_of
      wrote_static d i form r' er trace' et es m c aim names t₀ past ready tells h named agree spotted same room =
          let v = arrive n j r (static_event d i) few_nodes on form ready tells few h in
          let u = event-inv (at-node c m aim j) n few (moved rows (at-node c m aim j) (eqb i w.resource)) r v.gives in
          let z = event-steps (moved rows (at-node c m aim j) (eqb i w.resource)) (at-node c m aim j) u in (
            event d i ∷ past,
            passes-written w.local es (nodes_of nodes) w.policy (watching w.resource) aim v.passes
                (at_static es m c aim names past ready tells (range-of h tells) d i v.is u),
            subst (Spotted (event d i ∷ past)) (sym er)
                (spotted-event past s d i ((scoped (nodes_of nodes) ready.source.outline).static-acts v.is) spotted),
            et ∙ laid_more t₀ past (event d i) 0 d i s.at trace refl spotted.at same (omega arith),
          )

      -- on what a name means
      pub wrote-name : (d i : ℕ) → form_here nodes j ≡ some (named_event d i) → (r' : Spot) → r' ≡ onward s → (trace' : List ℕ)
          → trace' ≡ stored_step trace s.at 0 d (get_or g.numbers i 0) → Wrote r' trace'
      unfolding offer_of
      wrote-name d i form r' er trace' et es m c aim names t₀ past ready tells h named agree spotted same room =
          let v = arrive n j r (named_event d i) few_nodes on form ready tells few h in
          let u = event-inv (at-node c m aim j) n few (moved rows (at-node c m aim j) (eqb (meaning_of m c) (suc i))) r v.gives in
          let z = event-steps (moved rows (at-node c m aim j) (eqb (meaning_of m c) (suc i))) (at-node c m aim j) u in
          let (x, nm) = passes-names ready v.passes named i ((scoped (nodes_of nodes) ready.source.outline).used v.is) in (
            event d x ∷ past,
            passes-written w.local es (nodes_of nodes) w.policy (watching w.resource) aim v.passes
                (at_name es m c aim names past ready tells (range-of h tells) d i x v.is nm u),
            subst (Spotted (event d x ∷ past)) (sym er)
                (spotted-event past s d x ((scoped (nodes_of nodes) ready.source.outline).name-acts v.is) spotted),
            et ∙ ap (λ (y : ℕ). stored_step trace s.at 0 d y) (agree i x nm)
                ∙ laid_more t₀ past (event d x) 0 d x s.at trace refl spotted.at same (omega arith),
          )
