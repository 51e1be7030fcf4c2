-- What is written for a fresh node: its creation, and then what is written for its body.
use Prim.Native.Nat.{ℕ, suc, ◌-◌, ◌/◌, ◌%◌, ◌<◌, ◌≤◌}
use mathlib.Core.Path.{◌≡◌, refl, sym, ap, ◌∙◌, subst}
use mathlib.Core.Bool.{Bool, true, false}
use mathlib.Core.Option.{none, some}
use mathlib.Core.List.{List, ◌∷◌}
use native.Mathlib.Omega.{arith}
use native.Mathlib.Decide.{dec_le}
use lib.Dec.{leb}
use lib.ListN.{length}
use borrow.Author.Tests.{le-leb, lt-leb}
use Rattle.usage.specs.declared.Edge.{Edge}
use Rattle.usage.specs.Limits.{most_shown, create, most_nodes, node_fields}
use Rattle.usage.specs.Past.{event, Past}
use Rattle.usage.specs.Outline as outline
use Rattle.usage.specs.Outline.{Is, fresh, give}
use Rattle.usage.specs.Valid.{Scope}
use Rattle.usage.specs.Tables.{nodes_of}
use Rattle.usage.proofs.Logic.{by_cases, false-true}
use Rattle.usage.proofs.FormLaws.{form-ok}
use Rattle.automaton.specs.Mask.{has}
use Rattle.checker_account.specs.Account.{Aim, broken, each}
use Rattle.checker_account.specs.Single.{forget, MakesOne, watching}
use Rattle.checker_account.specs.Written.{next, Written}
use Rattle.checker_account.specs.Least.{Begun}
use Rattle.checker_account.proofs.MaskLaws.{offends-has}
use Rattle.checker_account.proofs.ScopedLaws.{scoped}
use Rattle.checker_account.proofs.SingleLaws.{watching-keeps}
use Rattle.checker_account.proofs.BegunLaws.{begun-new}
use Rattle.checker_account.proofs.Writing.{given-fresh}
use Rattle.checker_lengths.specs.declared.Entry.{Entry}
use Rattle.checker_lengths.specs.declared.WatchOne.{WatchOne}
use Rattle.checker_lengths.specs.Entries.{all_lengths, entry_of, held}
use Rattle.checker_lengths.specs.Offers.{body_entry, named, born, breaking, offer_of}
use Rattle.checker_lengths.specs.Held.{aim_at, meaning_of}
use Rattle.checker_lengths.proofs.FullLaws.{run-followed}
use Rattle.checker_lengths.proofs.Inversion.{fresh-inv, breaking-inv}
use Rattle.checker_lengths.proofs.Numbers.{forgotten-of}
use Rattle.checker_lengths.proofs.RuleLaws.{named-low, named-high}
use Rattle.checker_lengths.proofs.RuledLaws.{offending-small, break-is, born-first, other-moves, own-moves}
use Rattle.checker_trace.specs.declared.Spot.{Spot}
use Rattle.checker_trace.specs.declared.Names.{Names}
use Rattle.checker_trace.specs.Code.{stored_step, created, given, Spotted, Ready, Coming, Tells, Agree, Writes, Chosen}
use Rattle.checker_trace.proofs.LeadLaws.{held_cut}
use Rattle.checker_trace.proofs.StepLaws.{laid_more, spotted-create, agree-give}
use Rattle.checker_trace.proofs.PartLaws.{Run, run_in, back_to, chosen-fresh}
use Rattle.checker_trace.proofs.WriteLaws.{arrive, passes-names}

module _ (w : WatchOne) (rows nodes t : List ℕ) (e : Entry) (n r : ℕ)
    (few_nodes : length nodes / node_fields ≤ most_nodes) (few : n ≤ most_shown) where
  abbrev Here : List Edge → ℕ → Bool → ℕ → outline.Names → ℕ → Bool → ℕ → Past → Aim Bool → Past → Type 0
  Here es i o k names m c q past aim after = Run w rows nodes t e n r few_nodes few es i o k names m c q past aim after

  -- ── A creation that breaks the policy ──

  born-run : {es : List Edge} (j i b : ℕ) (names : outline.Names) (m : ℕ) (c : Bool) (past : Past) (aim : Aim Bool)
      → Ready w es rows nodes t
      → Begun (watching w.resource) m c e.state → Is (nodes_of nodes) j (fresh i b) → (own : Bool)
      → breaking (born rows (entry_of j e.opened (meaning_of m c) e.state (aim_at aim)) own)
      (entry_of j e.opened (meaning_of m c) e.state (aim_at aim)) ≡ n
      → Here es 1 true j names m c e.state past (broken none) (event create (next past) ∷ past)
  born-run {es} j i b names m c past aim ready begun is false h =
      let y = entry_of j e.opened (meaning_of m c) e.state (aim_at aim) in
      let (z, f, o, v) = breaking-inv y n few (born rows y false) h in
      let (q, off, g) = offends-has (born rows y false) v in
      Written.breaks_fresh is MakesOne.other
      (other-moves w.local es (nodes_of nodes) w.policy w.resource rows ready.source j e.opened
      (aim_at aim) q begun (offending-small q off) is g) off each
  born-run {es} j i b names m true past aim ready begun is true h =
      let y = entry_of j e.opened (suc m) e.state (aim_at aim) in
      let (z, f, o, v) = breaking-inv y n few (born rows y true) h in
      let (q, off, g) = offends-has (born rows y true) v in
      false-true (sym (born-first rows y q g))
  born-run {es} j i b names m false past aim ready begun is true h =
      let y = entry_of j e.opened 0 e.state (aim_at aim) in
      let (z, f, o, v) = breaking-inv y n few (born rows y true) h in
      let (q, off, g) = offends-has (born rows y true) v in
      Written.breaks_fresh is MakesOne.own
      (own-moves w.local es (nodes_of nodes) w.policy w.resource rows ready.source j e.opened
      (aim_at aim) q begun (offending-small q off) is g) off each

  pub wrote-born : (a b : ℕ) → Chosen w rows nodes t e n (some (fresh a b)) r → 16 ≤ r → (g : Names) (s : Spot) (trace : List ℕ) (r' : Spot)
      → r' ≡ created s → (trace' : List ℕ)
      → trace' ≡ stored_step trace s.at 0 0 s.next → Writes w rows nodes t e n g s trace r' trace'
  unfolding offer_of
  wrote-born a b ch big g s trace r' er trace' et es m c aim names t₀ past ready tells h named agree spotted same room =
      let u = arrive w rows nodes t e n ch.0 r (fresh a b) few_nodes ch.1 ch.2 ready tells few h in
      let y = entry_of ch.0 e.opened (meaning_of m c) e.state (aim_at aim) in
      by_cases (fresh-inv y n few rows (held t n) a b r u.gives)
      (λ v. let z = v.0 in absurd (omega arith))
      (λ v.
      let (z, f, o, k) = breaking-inv y n few (born rows y (leb 17 r)) v.1 in
      let d = born-run ch.0 a b names m c past aim ready tells.begun u.is (leb 17 r) v.1 in
      let d' = subst (λ (x : Bool). Here es 1 x ch.0 names m c e.state past (broken none) (event create (next past) ∷ past))
      (sym o) d in (
        event create (next past) ∷ past,
        back_to w rows nodes t e n r few_nodes few u
            (run_in w rows nodes t e n r few_nodes few (sym z) (sym (break-is aim tells.aimed f)) d'),
        subst (Spotted (event create (next past) ∷ past)) (sym er) (spotted-create past s (next past) spotted),
        et ∙ ap (λ (i : ℕ). stored_step trace s.at 0 0 i) spotted.next
            ∙ laid_more t₀ past (event create (next past)) 0 0 (next past) s.at trace refl spotted.at same (omega arith),
      ))

  -- ── A creation, and the body ──

  -- how the body is told, and the run that begins with the creation
  pub record Body (es : List Edge) (a b j : ℕ) (names : outline.Names) (m : ℕ) (c : Bool) (past : Past) (aim : Aim Bool) : Type 0 where
    pub name : ℕ
    pub made : Bool
    pub tells : Tells w es nodes (body_entry e a b r) name made aim
    pub run : (after : Past) → Here es (n - 1) e.opened b (give names a (next past)) name made (r % 8)
        (event create (next past) ∷ past) aim after → Here es n e.opened j names m c e.state past aim after

  body-other : {es : List Edge} (a b j : ℕ) (names : outline.Names) (m : ℕ) (c : Bool) (past : Past) (aim : Aim Bool)
      → Ready w es rows nodes t
      → Tells w es nodes e m c aim → Is (nodes_of nodes) j (fresh a b) → Coming w es nodes e.opened j m c e.state → r < 8 → 1 ≤ n
      → has (born rows (entry_of j e.opened (meaning_of m c) e.state (aim_at aim)) (leb 8 r)) (r % 8) ≡ true
      → Body es a b j names m c past aim
  body-other {es} a b j names m c past aim ready tells is come low one h =
      let y = entry_of j e.opened (meaning_of m c) e.state (aim_at aim) in
      let hs : has (born rows y false) (r % 8) ≡ true = sym (ap (λ (z : Bool). has (born rows y z) (r % 8)) (lt-leb 8 r low)) ∙ h in
      let small = (form-ok ready.source.outline is).0 in
      let l : r % 8 < 8 = omega arith in
      let all : suc (n - 1) ≡ n = omega arith in
      record {
        name = forget m a;
        made = c;
        tells = record {
          meaning = ap (λ (i : ℕ). named i a r) tells.meaning ∙ named-low (meaning_of m c) a r low
              ∙ forgotten-of m a c small tells.begun.view.unmade;
          number = tells.number;
          come = (run-followed w.local es nodes w.policy w.resource rows ready.source).created is MakesOne.other
              (other-moves w.local es (nodes_of nodes) w.policy w.resource rows ready.source j
              e.opened (aim_at aim) (r % 8) tells.begun l is hs) come;
          begun = begun-new (watching-keeps w.resource) tells.begun (r % 8) small MakesOne.other l;
          aimed = tells.aimed;
        };
        run = λ after d. run_in w rows nodes t e n r few_nodes few all refl
            (Written.makes is MakesOne.other (other-moves w.local es (nodes_of nodes) w.policy w.resource rows ready.source j
            e.opened (aim_at aim) (r % 8) tells.begun l is hs) d);
      }

  body_own : {es : List Edge} (a b j : ℕ) (names : outline.Names) (m : ℕ) (c : Bool) (past : Past) (aim : Aim Bool)
      → Ready w es rows nodes t
      → Tells w es nodes e m c aim → Is (nodes_of nodes) j (fresh a b) → Coming w es nodes e.opened j m c e.state → 8 ≤ r → r < 16
      → 1 ≤ n
      → has (born rows (entry_of j e.opened (meaning_of m c) e.state (aim_at aim)) (leb 8 r)) (r % 8) ≡ true
      → Body es a b j names m c past aim
  body_own {es} a b j names m true past aim ready tells is come low high one h =
      let y = entry_of j e.opened (suc m) e.state (aim_at aim) in
      false-true (sym (born-first rows y (r % 8) (sym (ap (λ (z : Bool). has (born rows y z) (r % 8)) (le-leb 8 r low)) ∙ h)))
  body_own {es} a b j names m false past aim ready tells is come low high one h =
      let y = entry_of j e.opened 0 e.state (aim_at aim) in
      let hs : has (born rows y true) (r % 8) ≡ true = sym (ap (λ (z : Bool). has (born rows y z) (r % 8)) (le-leb 8 r low)) ∙ h in
      let small = (form-ok ready.source.outline is).0 in
      let l : r % 8 < 8 = omega arith in
      let all : suc (n - 1) ≡ n = omega arith in
      record {
        name = a;
        made = true;
        tells = record {
          meaning = named-high e.meaning a r low;
          number = tells.number;
          come = (run-followed w.local es nodes w.policy w.resource rows ready.source).created is MakesOne.own
              (own-moves w.local es (nodes_of nodes) w.policy w.resource rows ready.source j
              e.opened (aim_at aim) (r % 8) tells.begun l is hs) come;
          begun = begun-new (watching-keeps w.resource) tells.begun (r % 8) small MakesOne.own l;
          aimed = tells.aimed;
        };
        run = λ after d. run_in w rows nodes t e n r few_nodes few all refl
            (Written.makes is MakesOne.own
            (own-moves w.local es (nodes_of nodes) w.policy w.resource rows ready.source j e.opened
            (aim_at aim) (r % 8) tells.begun l is hs) d);
      }

  body_of : {es : List Edge} (a b j : ℕ) (names : outline.Names) (m : ℕ) (c : Bool) (past : Past) (aim : Aim Bool) → Ready w es rows nodes t
      → Tells w es nodes e m c aim → Is (nodes_of nodes) j (fresh a b) → Coming w es nodes e.opened j m c e.state → r < 16 → 1 ≤ n
      → has (born rows (entry_of j e.opened (meaning_of m c) e.state (aim_at aim)) (leb 8 r)) (r % 8) ≡ true
      → Body es a b j names m c past aim
  body_of {es} a b j names m c past aim ready tells is come high one h = go (dec_le 8 r)
    where
      go : Dec (8 ≤ r) → Body es a b j names m c past aim
      go (yes l) = body_own a b j names m c past aim ready tells is come l high one h
      go (no l) = body-other a b j names m c past aim ready tells is come (omega arith) one h

  pub wrote-fresh : (a b : ℕ) → Chosen w rows nodes t e n (some (fresh a b)) r → r < 16 → (g : Names) → length g.numbers ≡ 4
      → (s : Spot) (trace : List ℕ) (r' : Spot) (trace' : List ℕ)
      → Writes w rows nodes t (body_entry e a b r) (n - 1) (given g a s.next) (created s)
      (stored_step trace s.at 0 0 s.next) r' trace' → Writes w rows nodes t e n g s trace r' trace'
  unfolding offer_of
  wrote-fresh a b ch low g four s trace r' trace' inside es m c aim names t₀ past ready tells h named agree spotted same room =
      let sum = chosen-fresh w rows nodes t e n r few a b ch low in
      let u = arrive w rows nodes t e n ch.0 r (fresh a b) few_nodes ch.1 ch.2 ready tells few h in
      let y = entry_of ch.0 e.opened (meaning_of m c) e.state (aim_at aim) in
      let small = (form-ok ready.source.outline u.is).0 in
      let hs : has (born rows y (leb 8 r)) (r % 8) ≡ true =
      by_cases (fresh-inv y n few rows (held t n) a b r u.gives) (λ v. v.1) (λ v. let z = v.0 in absurd (omega arith)) in
      let body = body_of a b ch.0 names m c past aim ready tells u.is u.come low (omega arith) hs in
      let v : held t n (body_entry e a b r) ≡ n - 1 = omega arith in
      let at_j = passes-names w rows nodes t e ready u.passes named in
      let given-b = given-fresh w.local es (nodes_of nodes) w.policy (watching w.resource) (Scope (nodes_of nodes))
      (scoped (nodes_of nodes) ready.source.outline) ch.0 a (next past) b
      ((scoped (nodes_of nodes) ready.source.outline).given u.is) at_j in
      let agrees : Agree (give names a (next past)) (given g a s.next) =
      subst (λ (i : ℕ). Agree (give names a i) (given g a s.next)) spotted.next
      (agree-give names g a s.next four small agree) in
      let (after, d, spot, laid-is) = inside es body.name body.made aim (give names a (next past)) t₀
      (event create (next past) ∷ past) ready body.tells
      (held_cut t n all_lengths (body_entry e a b r) (n - 1) v (omega arith) (omega arith)) given-b agrees
      (spotted-create past s (next past) spotted)
      (ap (λ (i : ℕ). stored_step trace s.at 0 0 i) spotted.next
      ∙ laid_more t₀ past (event create (next past)) 0 0 (next past) s.at trace refl spotted.at same (omega arith)) (omega arith) in
      (after, back_to w rows nodes t e n r few_nodes few u (body.run after d), spot, laid-is)
