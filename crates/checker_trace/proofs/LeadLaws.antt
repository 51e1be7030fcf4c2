-- The closure that the code gathers is what a node leads to with no step; and where there is an entry of a step or more, the code finds
-- where to go on.
use Prim.Native.Nat.{ℕ, ◌+◌, ◌/◌, ◌%◌, ◌<◌, ◌≤◌}
use mathlib.Core.Path.{◌≡◌, refl, sym, ap, ap₂, ◌∙◌, subst}
use mathlib.Core.Bool.{Bool, true, false, ◌||◌}
use mathlib.Core.Option.{Option, none, some}
use mathlib.Core.List.{List}
use native.Mathlib.Omega.{arith}
use lib.Dec.{eqb, leb}
use lib.ListN.{length}
use borrow.Author.Tests.{eqb-true, eq-eqb}
use Rattle.usage.specs.declared.Edge.{Edge}
use Rattle.usage.specs.Limits.{most_shown, most_nodes, node_fields}
use Rattle.usage.specs.Outline.{Form, Is, end, static_event, named_event, sequence, choice, loop, back, fresh, sandbox}
use Rattle.usage.specs.Valid.{Scope}
use Rattle.usage.specs.Tables.{nodes_of}
use Rattle.usage.proofs.Logic.{by_cases, false-true, or_left, or_right, or_cases}
use Rattle.usage.proofs.FormLaws.{form-ok}
use Rattle.usage.proofs.TableLaws.{nodes-length}
use Rattle.automaton.specs.Mask.{has}
use Rattle.checker_account.specs.Account.{Aim, ended, Goes}
use Rattle.checker_account.specs.Single.{watching}
use Rattle.checker_account.specs.Tables.{at}
use Rattle.checker_account.specs.Least.{Begun, Aimed, at_end, at_break, Least, Less, Idle, Leads, PassesAll, ending}
use Rattle.checker_account.proofs.SingleLaws.{watching-keeps}
use Rattle.checker_account.proofs.LeastLaws.{less-lengths, rule-sound}
use Rattle.checker_account.proofs.MaskLaws.{has_left, has_right, has_either, has_none}
use Rattle.checker_account.proofs.ScopedLaws.{scoped}
use Rattle.checker_account.proofs.OntoLaws.{passes-toward, passes-more, found, idle-sound, idle-exact}
use Rattle.checker_lengths.specs.declared.Entry.{Entry}
use Rattle.checker_lengths.specs.Entries.{no_length, all_lengths, entry_of, linear, held}
use Rattle.checker_lengths.specs.Offers.{low_end_lem, heir, second_entry, ways_of, offer_from}
use Rattle.checker_lengths.specs.Filling.{form_here}
use Rattle.checker_lengths.specs.Held.{aim_at, meaning_of, entries_in, watch_of, Source}
use Rattle.checker_lengths.proofs.EntryLaws.{bounds, held-is, held-less}
use Rattle.checker_lengths.proofs.Numbers.{aim-end, aim-ended, heir-of, name-of, at-made, at-state}
use Rattle.checker_lengths.proofs.RuleLaws.{Reads, offered}
use Rattle.checker_lengths.proofs.RuledLaws.{break-is}
use Rattle.checker_lengths.proofs.FullLaws.{form-here, here-form, Run, run-followed}
use Rattle.checker_trace.specs.Code.{idle_in, idle_after_lem, end_in, bit_of, bit_if_lem, sequence_leads, leads_of, leads_from, Closure, OntoIs}
use Rattle.std.specs.Prelude.{None}
use Rattle.checker_trace.proofs.BitLaws.{bit_at, bit_is, spread-still, spreads-all, spreads-node}

-- a length that the table holds, read with another bound
pub held_cut : (t : List ℕ) (most most' : ℕ) (e : Entry) (n : ℕ) → held t most e ≡ n → n ≤ most_shown → n < most' → held t most' e ≡ n
held_cut t most most' e n h few l =
    let (i, g, k) = held-is t most e n h (omega arith) in
    sym (held-less t most' e (linear e) i refl (omega arith)) ∙ g

bit-if-at : (b : Bool) (k : ℕ) → b ≡ true → k < most_nodes → has (bit_if_lem b k) k ≡ true
bit-if-at b k e l = ap (λ (z : Bool). has (bit_if_lem z k) k) e ∙ bit_at k l

bit-if-is : (b : Bool) (k j : ℕ) → j < most_nodes → has (bit_if_lem b k) j ≡ true → (b ≡ true) × (k ≡ j)
bit-if-is true k j l h = (refl, bit_is k j l h)
bit-if-is false k j l h = has_none j h

module _ (local : Bool) (es : List Edge) (nodes : List ℕ) (p x : ℕ) (rows t : List ℕ) (src : Source es (nodes_of nodes) p x rows)
    (least : Least local es (nodes_of nodes) p (watching x) (Run local es nodes p x rows src) most_shown (entries_in t all_lengths))
    (o : Bool) (k m : ℕ) (c : Bool) (q : ℕ) (aim : Aim Bool) (b : Begun (watching x) m c q) (a : Aimed aim)
    (after : (c' : Bool) (q' : ℕ) → aim ≡ ended c' q' → Begun (watching x) m c' q') where
  abbrev At : Bool → ℕ → ℕ → Bool → ℕ → Type 0
  At = Run local es nodes p x rows src

  abbrev here : Entry
  here = entry_of k o (meaning_of m c) q (aim_at aim)

  -- ── Idle nodes ──

  end-aim : low_end_lem (meaning_of m c) + q % 8 ≡ aim_at (ended c q)
  end-aim = let l = b.state in omega (arith, aim-end m c q b.state)

  same_end : (j : ℕ) → end_in here j ≡ entry_of j o (meaning_of m c) q (aim_at (ended c q))
  same_end j = ap (λ (i : ℕ). entry_of j o (meaning_of m c) q i) end-aim

  pub idle-at : (j : ℕ) → idle_in t here j ≡ true → Idle (nodes_of nodes) j
  unfolding idle_in
  idle-at j h =
      let e = held_cut t 1 all_lengths (end_in here j) 0 (eqb-true (held t 1 (end_in here j)) 0 h) (omega arith) (omega arith) in
      idle-sound local es (nodes_of nodes) p (watching x) {o = o} least.lengths b
      (sym (ap (held t all_lengths) (same_end j)) ∙ e, omega arith)

  pub at-idle : (j : ℕ) → At o j m c q → Idle (nodes_of nodes) j → idle_in t here j ≡ true
  unfolding idle_in
  at-idle j come d =
      let e = (idle-exact local es (nodes_of nodes) p (watching x) At (run-followed local es nodes p x rows src) most_shown
      (entries_in t all_lengths) least come).1 d in
      eq-eqb (held t 1 (end_in here j)) 0 (held_cut t all_lengths 1 (end_in here j) 0 (ap (held t all_lengths) (same_end j) ∙ e.0)
      (omega arith) (omega arith))

  -- the same at the start that the aim is
  module _ (j : ℕ) (c' : Bool) (q' : ℕ) (e : aim ≡ ended c' q') where
    same_after : second_entry here j (aim_at aim) ≡ entry_of j o (meaning_of m c') q' (aim_at (ended c' q'))
    same_after =
        let l = (after c' q' e).state in
        let r : aim_at aim ≡ at c' q' = ap aim_at e ∙ aim-ended c' q' l in
        let em : heir (meaning_of m c) (aim_at aim) ≡ meaning_of m c' =
        heir-of (meaning_of m c) m (aim_at aim) (name-of b) ∙ ap (λ (i : ℕ). meaning_of m (leb 8 i)) r
        ∙ ap (meaning_of m) (at-made c' q' l) in
        let eq : aim_at aim % 8 ≡ q' = ap (λ (i : ℕ). i % 8) r ∙ at-state c' q' l in
        ap₂ (λ (i y : ℕ). entry_of j o i y (aim_at aim)) em eq ∙ ap (λ (u : Aim Bool). entry_of j o (meaning_of m c') q' (aim_at u)) e

    idle_then : idle_after_lem t here j ≡ true → Idle (nodes_of nodes) j
    unfolding idle_after_lem
    idle_then h =
        let y = second_entry here j (aim_at aim) in
        let g = held_cut t 1 all_lengths y 0 (eqb-true (held t 1 y) 0 h) (omega arith) (omega arith) in
        idle-sound local es (nodes_of nodes) p (watching x) {o = o} least.lengths (after c' q' e)
        (sym (ap (held t all_lengths) same_after) ∙ g, omega arith)

    then-idle : At o j m c' q' → Idle (nodes_of nodes) j → idle_after_lem t here j ≡ true
    unfolding idle_after_lem
    then-idle come d =
        let y = second_entry here j (aim_at aim) in
        let g = (idle-exact local es (nodes_of nodes) p (watching x) At (run-followed local es nodes p x rows src) most_shown
        (entries_in t all_lengths) least come).1 d in
        eq-eqb (held t 1 y) 0 (held_cut t all_lengths 1 y 0 (ap (held t all_lengths) same_after ∙ g.0) (omega arith) (omega arith))

  -- ── One move ──

  first-idle : (j : ℕ) → (eqb (aim_at aim) 16 || idle_after_lem t here j) ≡ true → ending aim ≡ true → Idle (nodes_of nodes) j
  first-idle j h e =
      by_cases (or_cases (eqb (aim_at aim) 16) (idle_after_lem t here j) h)
      (λ g. false-true (sym (ap ending (break-is aim a (eqb-true (aim_at aim) 16 g))) ∙ e))
      (λ g. go aim a refl g)
    where
      go : (u : Aim Bool) → Aimed u → aim ≡ u → idle_after_lem t here j ≡ true → Idle (nodes_of nodes) j
      go u (at_end {c = c'} {q = q'}) f g = idle_then j c' q' f g
      go u at_break f g = false-true (sym (ap ending f) ∙ e)

  idle-first : (j : ℕ) → ((c' : Bool) (q' : ℕ) → aim ≡ ended c' q' → At o j m c' q') → (ending aim ≡ true → Idle (nodes_of nodes) j)
      → (eqb (aim_at aim) 16 || idle_after_lem t here j) ≡ true
  idle-first j come h = go aim a refl
    where
      go : (u : Aim Bool) → Aimed u → aim ≡ u → (eqb (aim_at aim) 16 || idle_after_lem t here j) ≡ true
      go u (at_end {c = c'} {q = q'}) e = or_right (eqb (aim_at aim) 16) (idle_after_lem t here j)
          (then-idle j c' q' e (come c' q' e) (h (ap ending e)))
      go u at_break e = or_left (eqb (aim_at aim) 16) (idle_after_lem t here j) (eq-eqb (aim_at aim) 16 (ap aim_at e))

  pub leads-of : (i j : ℕ) (f : Form) → Is (nodes_of nodes) i f → j < most_nodes → has (leads_of t here f) j ≡ true
      → Leads (nodes_of nodes) (ending aim) i j
  unfolding leads_of sequence_leads
  leads-of i j end is l h = has_none j h
  leads-of i j (static_event d s) is l h = has_none j h
  leads-of i j (named_event d n) is l h = has_none j h
  leads-of i j (sequence d s) is l h =
      by_cases (has_either (bit_if_lem (eqb (aim_at aim) 16 || idle_after_lem t here s) d) (bit_if_lem (idle_in t here d) s) j h)
      (λ g. let (u, e) = bit-if-is (eqb (aim_at aim) 16 || idle_after_lem t here s) d j l g in
      subst (λ (y : ℕ). Leads (nodes_of nodes) (ending aim) i y) e (Leads.first is (first-idle s u)))
      (λ g. let (u, e) = bit-if-is (idle_in t here d) s j l g in
      subst (λ (y : ℕ). Leads (nodes_of nodes) (ending aim) i y) e (Leads.second is (idle-at d u)))
  leads-of i j (choice d s) is l h =
      by_cases (has_either (bit_of d) (bit_of s) j h)
      (λ g. subst (λ (y : ℕ). Leads (nodes_of nodes) (ending aim) i y) (bit_is d j l g) (Leads.left is))
      (λ g. subst (λ (y : ℕ). Leads (nodes_of nodes) (ending aim) i y) (bit_is s j l g) (Leads.right is))
  leads-of i j (loop d) is l h = subst (λ (y : ℕ). Leads (nodes_of nodes) (ending aim) i y) (bit_is d j l h) (Leads.body is)
  leads-of i j (back d) is l h = subst (λ (y : ℕ). Leads (nodes_of nodes) (ending aim) i y) (bit_is d j l h) (Leads.again is)
  leads-of i j (fresh n s) is l h = has_none j h
  leads-of i j (sandbox d s) is l h = has_none j h

  from-form : (i j : ℕ) (f : Form) → Is (nodes_of nodes) i f → has (leads_of t here f) j ≡ true
      → has (leads_from t here (form_here nodes i)) j ≡ true
  from-form i j f is h = subst (λ (y : Option Form). has (leads_from t here y) j ≡ true)
      (sym (form-here local es nodes p x rows src i f is).1) h

  pub of-leads : (n i j : ℕ) → At o i m c q → Goes local es (nodes_of nodes) p (watching x) n o j m c q aim
      → Leads (nodes_of nodes) (ending aim) i j → has (leads_from t here (form_here nodes i)) j ≡ true
  unfolding leads_of sequence_leads
  of-leads n i j come goes (Leads.first {a = d} {b = s} is h) =
      from-form i j (sequence d s) is (has_left (bit_if_lem (eqb (aim_at aim) 16 || idle_after_lem t here s) d) (bit_if_lem (idle_in t here d) s) j
      (bit-if-at (eqb (aim_at aim) 16 || idle_after_lem t here s) d (idle-first s
      (λ c' q' e. (run-followed local es nodes p x rows src).second is come
      (subst (λ (u : Aim Bool). Goes local es (nodes_of nodes) p (watching x) n o j m c q u) e goes)) h) (form-ok src.outline is).0))
  of-leads n i j come goes (Leads.second {a = d} {b = s} is h) =
      from-form i j (sequence d s) is (has_right (bit_if_lem (eqb (aim_at aim) 16 || idle_after_lem t here s) d) (bit_if_lem (idle_in t here d) s) j
      (bit-if-at (idle_in t here d) s (at-idle d ((run-followed local es nodes p x rows src).first is come) h)
      (form-ok src.outline is).1))
  of-leads n i j come goes (Leads.left {a = d} {b = s} is) = from-form i j (choice d s) is
      (has_left (bit_of d) (bit_of s) j (bit_at d (form-ok src.outline is).0))
  of-leads n i j come goes (Leads.right {a = d} {b = s} is) = from-form i j (choice d s) is
      (has_right (bit_of d) (bit_of s) j (bit_at s (form-ok src.outline is).1))
  of-leads n i j come goes (Leads.body {a = d} is) = from-form i j (loop d) is (bit_at d (form-ok src.outline is))
  of-leads n i j come goes (Leads.again {a = d} is) = from-form i j (back d) is (bit_at d (form-ok src.outline is))

  -- ── Any number of moves ──

  few_nodes : length nodes / node_fields ≤ most_nodes
  few_nodes = let l = src.outline.few in let n = nodes-length nodes in omega arith

  pub closure-passes : (s : ℕ) → Closure t nodes here s → (j : ℕ) → j < most_nodes
      → has s j ≡ true → PassesAll (nodes_of nodes) (ending aim) k j
  closure-passes s h j l g =
      spreads-all t nodes here (PassesAll (nodes_of nodes) (ending aim) k) h.spreads few_nodes PassesAll.here
      (λ i u d j v w. passes-more d (go i j u v (form_here nodes i) refl w)) j l g
    where
      go : (i j : ℕ) → i < length nodes / node_fields → j < most_nodes
          → (f : Option Form) → form_here nodes i ≡ f → has (leads_from t here f) j ≡ true
          → Leads (nodes_of nodes) (ending aim) i j
      go i j u v none e w = has_none j w
      go i j u v (some f) e w = leads-of i j f (here-form local es nodes p x rows src i f u e) v w

  pub passes-closure : (s : ℕ) → Closure t nodes here s → k < most_nodes → At o k m c q
      → (n j : ℕ) → PassesAll (nodes_of nodes) (ending aim) k j → Goes local es (nodes_of nodes) p (watching x) n o j m c q aim
      → has s j ≡ true
  passes-closure s h l come n j d goes =
      passes-toward local es (nodes_of nodes) p (watching x) At (run-followed local es nodes p x rows src) aim (λ (i : ℕ). has s i ≡ true)
      (λ i y g at u on. spread-still t nodes here (length nodes / node_fields) s h.still i (leads-node u) g y
      (of-leads n i y at on u)) (spreads-node t nodes here h.spreads l) come d goes
    where
      node_of : (i : ℕ) (f : Form) → Is (nodes_of nodes) i f → i < length nodes / node_fields
      node_of i f is = (form-here local es nodes p x rows src i f is).0

      leads-node : {i y : ℕ} → Leads (nodes_of nodes) (ending aim) i y → i < length nodes / node_fields
      leads-node (Leads.first is g) = node_of _ _ is
      leads-node (Leads.second is g) = node_of _ _ is
      leads-node (Leads.left is) = node_of _ _ is
      leads-node (Leads.right is) = node_of _ _ is
      leads-node (Leads.body is) = node_of _ _ is
      leads-node (Leads.again is) = node_of _ _ is

  -- ── Where to go on ──

  reads-below : (n : ℕ) → Reads local es (nodes_of nodes) p x rows src (held t n) (Less n (entries_in t all_lengths))
  reads-below n = record {
    read = λ {n = i} {o = o'} {k = k'} {w = w'} {c = c'} {q = q'} {t = u} e.
        let y = entry_of k' o' (meaning_of w' c') q' (aim_at u) in
        let (inside, g, l) = held-is t all_lengths y i e.1.0 (below_none i e.1.1) in
        (held_cut t all_lengths n y i e.1.0 e.1.1 e.0, e.1.1, (bounds y inside).aim);
  }
    where
      below_none : (i : ℕ) → i ≤ most_shown → i < no_length
      below_none i l = omega arith

  -- an entry of a step or more is not without a rule
  pub never-nothing : At o k m c q → (n : ℕ) → held t all_lengths here ≡ n → n ≤ most_shown → 1 ≤ n
      → OntoIs (watch_of local p x) rows nodes t here n None → ⊥
  never-nothing come n h few one (s, closed, dead) =
      let on = found local es (nodes_of nodes) p (watching x) At (run-followed local es nodes p x rows src) most_shown
      (entries_in t all_lengths) least come a (h, few) one in
      let goes = rule-sound local es (nodes_of nodes) p (watching x) (watching-keeps x) (Scope (nodes_of nodes)) src.edges
      (scoped (nodes_of nodes) src.outline) most_shown (Less n (entries_in t all_lengths)) (less-lengths n least.lengths) b a
      on.rule in
      let f = offered local es (nodes_of nodes) p x rows src (held t n) (Less n (entries_in t all_lengths)) (reads-below n) b a
      on.rule few in
      let j = on.node in
      let (l, e) = form-here local es nodes p x rows src j f.form f.is in
      let (inside, g, u) = held-is t all_lengths here n h (omega arith) in
      dead j l (passes-closure s closed (bounds here inside).node come n j on.passes goes) f.rule
      (subst (λ (y : Option Form). f.rule < ways_of y) (sym e) f.listed)
      (subst (λ (y : Option Form). offer_from (watch_of local p x) rows (held t n) (entry_of j o (meaning_of m c) q (aim_at aim))
      f.rule y ≡ n) (sym e) f.gives)
