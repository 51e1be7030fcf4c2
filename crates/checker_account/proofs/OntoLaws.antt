-- From an entry of a table of least lengths one can always go on, to entries of fewer steps; so a trace is read from the table.
use Prim.Native.Nat.{ℕ, suc, ◌+◌, ◌<◌, ◌≤◌}
use mathlib.Core.Path.{◌≡◌, refl, sym, ◌∙◌, subst}
use mathlib.Core.Bool.{Bool, true}
use mathlib.Core.Option.{Option}
use mathlib.Core.List.{List}
use mathlib.Core.Logic.{◌↔◌}
use native.Mathlib.Omega.{arith}
use native.Mathlib.Decide.{ℕ_discrete, dec_le}
use Rattle.usage.specs.declared.Edge.{Edge}
use Rattle.usage.specs.declared.Node.{Node}
use Rattle.usage.specs.Outline.{Is, sequence}
use Rattle.usage.proofs.Logic.{clash, false-true}
use Rattle.checker_account.specs.Account.{Sight, Last, Aim, ended, broken, Goes}
use Rattle.checker_account.specs.Least.{Entries, Starts, Followed, Begun, Aimed, at_end, Rule}
use Rattle.checker_account.specs.Least.{Lengths, Least, Less, Idle, Leads, PassesAll, ending, Onto}
use Rattle.checker_account.proofs.Ahead.{goes_in}

same_left : {L : Type 0} (c c' : L) (q q' : ℕ) → ended c q ≡ ended c' q' → c ≡ c'
same_left c c' q q' e = cc

same-state : {L : Type 0} (c c' : L) (q q' : ℕ) → ended c q ≡ ended c' q' → q ≡ q'
same-state c c' q q' e = cc

one_more : (n : ℕ) → n < suc n
one_more n = omega arith

two-more : (n : ℕ) → n < suc (suc n)
two-more n = omega arith

never_both : {A L : Type 0} {u : Option Last} {c : L} {q : ℕ} → broken u ≡ ended c q → A
never_both e = clash (cc)

-- what holds of k, and of whatever a node leads to that it holds of, holds of all that k leads to; and one more move
pub passes-all : {ns : List Node} {whole : Bool} {k j : ℕ} (P : ℕ → Type 0) → ((a b : ℕ) → P a → Leads ns whole a b → P b) → P k
    → PassesAll ns whole k j → P j
passes-all P f h PassesAll.here = h
passes-all P f h (PassesAll.on {k = k} {i = i} l s) = passes-all P f (f k i h l) s

pub passes-more : {ns : List Node} {whole : Bool} {k i j : ℕ} → PassesAll ns whole k i → Leads ns whole i j → PassesAll ns whole k j
passes-more PassesAll.here l = PassesAll.on l PassesAll.here
passes-more (PassesAll.on m s) l = PassesAll.on m (passes-more s l)

module _ (local : Bool) (es : List Edge) (ns : List Node) (p : ℕ) (S : Sight) where
  -- ── Nodes that take no step ──

  idle-goes : {o : Bool} {k : ℕ} {w : S.Meaning} {c : S.Left} {q : ℕ} → Idle ns k → Goes local es ns p S 0 o k w c q (ended c q)
  idle-goes (Idle.ends i) = Goes.ends i
  idle-goes (Idle.sequences i d f) = goes_in local es ns p S (omega arith) (Goes.sequences i (idle-goes d) (idle-goes f))
  idle-goes (Idle.chooses_left i d) = Goes.chooses_left i (idle-goes d)
  idle-goes (Idle.chooses_right i d) = Goes.chooses_right i (idle-goes d)
  idle-goes (Idle.enters i d) = Goes.enters i (idle-goes d)
  idle-goes (Idle.repeats i d) = Goes.repeats i (idle-goes d)

  -- a node that takes no step leaves (c, q) as it is
  pub record Still (k : ℕ) (c : S.Left) (q : ℕ) (t : Aim S.Left) : Type 0 where
    pub idle : Idle ns k
    pub same : t ≡ ended c q

  pub goes-still : {n : ℕ} {o : Bool} {k : ℕ} {w : S.Meaning} {c : S.Left} {q : ℕ} {t : Aim S.Left}
      → Goes local es ns p S n o k w c q t → n ≡ 0 → Still k c q t
  goes-still (Goes.ends i) e = record { idle = Idle.ends i; same = refl }
  goes-still (Goes.fires_static i v) e = absurd (omega arith)
  goes-still (Goes.fires_name i v) e = absurd (omega arith)
  goes-still (Goes.sequences {q = q} {q₁ = q₁} {c = c} {c₁ = c₁} i d f) e =
      let a = goes-still d (omega arith) in
      let b = goes-still f (omega arith) in
      record { idle = Idle.sequences i a.idle b.idle; same = b.same ∙ a.same }
  goes-still (Goes.chooses_left i d) e = let a = goes-still d e in record { idle = Idle.chooses_left i a.idle; same = a.same }
  goes-still (Goes.chooses_right i d) e = let a = goes-still d e in record { idle = Idle.chooses_right i a.idle; same = a.same }
  goes-still (Goes.enters i d) e = let a = goes-still d e in record { idle = Idle.enters i a.idle; same = a.same }
  goes-still (Goes.repeats i d) e = let a = goes-still d e in record { idle = Idle.repeats i a.idle; same = a.same }
  goes-still (Goes.makes i y v d) e = absurd (omega arith)
  goes-still (Goes.sandboxes i d) e = absurd (omega arith)
  goes-still (Goes.breaks_static i v f z) e = absurd (omega arith)
  goes-still (Goes.breaks_name i v f z) e = absurd (omega arith)
  goes-still (Goes.breaks_fresh i y v f z) e = absurd (omega arith)
  goes-still (Goes.breaks_opening i f z) e = absurd (omega arith)
  goes-still (Goes.breaks_first i d) e = let a = goes-still d e in never_both a.same
  goes-still (Goes.breaks_inside i d) e = absurd (omega arith)

  -- ── Nodes that lead to another with no step ──

  first_goes : {n : ℕ} {o : Bool} {k a b : ℕ} {w : S.Meaning} {c : S.Left} {q : ℕ} (t : Aim S.Left) → Is ns k (sequence a b)
      → (ending t ≡ true → Idle ns b)
      → Goes local es ns p S n o a w c q t → Goes local es ns p S n o k w c q t
  first_goes (ended c q) i idle d = goes_in local es ns p S (omega arith) (Goes.sequences i d (idle-goes (idle refl)))
  first_goes (broken u) i idle d = Goes.breaks_first i d

  leads_goes : {n : ℕ} {o : Bool} {k j : ℕ} {w : S.Meaning} {c : S.Left} {q : ℕ} (t : Aim S.Left) → Leads ns (ending t) k j
      → Goes local es ns p S n o j w c q t
      → Goes local es ns p S n o k w c q t
  leads_goes t (Leads.first i idle) d = first_goes t i idle d
  leads_goes t (Leads.second i idle) d = goes_in local es ns p S (omega arith) (Goes.sequences i (idle-goes idle) d)
  leads_goes t (Leads.left i) d = Goes.chooses_left i d
  leads_goes t (Leads.right i) d = Goes.chooses_right i d
  leads_goes t (Leads.body i) d = Goes.enters i d
  leads_goes t (Leads.again i) d = Goes.repeats i d

  passes-goes : (t : Aim S.Left) {n : ℕ} {o : Bool} {k j : ℕ} {w : S.Meaning} {c : S.Left} {q : ℕ} → PassesAll ns (ending t) k j
      → Goes local es ns p S n o j w c q t
      → Goes local es ns p S n o k w c q t
  passes-goes t PassesAll.here d = d
  passes-goes t (PassesAll.on l s) d = leads_goes t l (passes-goes t s d)

  -- ── A step is taken somewhere ──

  -- the same, told by equal numbers
  onto-in : {E : Entries S.Meaning S.Left} {n n' : ℕ} {o : Bool} {k : ℕ} {w : S.Meaning} {c c' : S.Left} {q q' : ℕ} {t : Aim
      S.Left} → n ≡ n' → c ≡ c' → q ≡ q'
      → Onto local es ns p S E n o k w c q t → Onto local es ns p S E n' o k w c' q' t
  onto-in {E} {n} {n'} {o} {k} {w} {c} {c'} {q} {q'} {t} e f g r =
      subst (λ (i : ℕ). Onto local es ns p S E i o k w c' q' t) e
      (subst (λ (i : S.Left). Onto local es ns p S E n o k w i q' t) f (subst (λ (i : ℕ). Onto local es ns p S E n o k w c i t) g r))

  module _ {n₁ n₂ : ℕ} {o : Bool} {k a b : ℕ} {w : S.Meaning} {c c₁ : S.Left} {q q₁ : ℕ} {t : Aim S.Left} (i : Is ns k (sequence a b))
      (d : Goes local es ns p S n₁ o a w c q (ended c₁ q₁)) (f : Goes local es ns p S n₂ o b w c₁ q₁ t)
      (left : 1 ≤ n₁ → Onto local es ns p S (Goes local es ns p S) n₁ o a w c q (ended c₁ q₁))
      (right : 1 ≤ n₂ → Onto local es ns p S (Goes local es ns p S) n₂ o b w c₁ q₁ t) (some-step : 1 ≤ n₁ + n₂) where
    -- the first node takes no step, the second none, or each takes fewer
    acts-second : n₁ ≡ 0 → Onto local es ns p S (Goes local es ns p S) (n₁ + n₂) o k w c q t
    acts-second e =
        let s = goes-still d e in
        let m : n₂ ≡ n₁ + n₂ = omega arith in
        let r = onto-in m (same_left c₁ c q₁ q s.same) (same-state c₁ c q₁ q s.same) (right (omega arith)) in
        record { node = r.node; passes = PassesAll.on (Leads.second i s.idle) r.passes; rule = r.rule }

    acts-first : n₂ ≡ 0 → Onto local es ns p S (Goes local es ns p S) (n₁ + n₂) o k w c q t
    acts-first e =
        let s = goes-still f e in
        let r = subst (λ (u : Aim S.Left). Onto local es ns p S (Goes local es ns p S) n₁ o a w c q u) (sym s.same)
        (left (omega arith)) in
        let m : n₁ ≡ n₁ + n₂ = omega arith in
        let v = onto-in m refl refl r in
        record { node = v.node; passes = PassesAll.on (Leads.first i (λ _. s.idle)) v.passes; rule = v.rule }

    acts-both : (n₁ ≡ 0 → ⊥) → (n₂ ≡ 0 → ⊥) → Onto local es ns p S (Goes local es ns p S) (n₁ + n₂) o k w c q t
    acts-both l m =
        let u : n₁ < n₁ + n₂ = omega arith in
        let v : n₂ < n₁ + n₂ = omega arith in
        record { node = k; passes = PassesAll.here; rule = Rule.sequences i (u, d) (v, f) }

    acts-sequence : Dec (n₁ ≡ 0) → Dec (n₂ ≡ 0) → Onto local es ns p S (Goes local es ns p S) (n₁ + n₂) o k w c q t
    acts-sequence (yes e) h = acts-second e
    acts-sequence (no l) (yes e) = acts-first e
    acts-sequence (no l) (no m) = acts-both l m

  acts : {n : ℕ} {o : Bool} {k : ℕ} {w : S.Meaning} {c : S.Left} {q : ℕ} {t : Aim S.Left} → Goes local es ns p S n o k w c q t → 1 ≤ n
      → Onto local es ns p S (Goes local es ns p S) n o k w c q t
  acts (Goes.ends i) l = absurd (omega arith)
  acts (Goes.fires_static {k = k} i v) l = record { node = k; passes = PassesAll.here; rule = Rule.fires_static i v }
  acts (Goes.fires_name {k = k} i v) l = record { node = k; passes = PassesAll.here; rule = Rule.fires_name i v }
  acts (Goes.sequences {n₁ = n₁} {n₂ = n₂} i d f) l =
      acts-sequence i d f (λ m. acts d m) (λ m. acts f m) l (ℕ_discrete n₁ 0) (ℕ_discrete n₂ 0)
  acts (Goes.chooses_left i d) l =
      let r = acts d l in record { node = r.node; passes = PassesAll.on (Leads.left i) r.passes; rule = r.rule }
  acts (Goes.chooses_right i d) l =
      let r = acts d l in record { node = r.node; passes = PassesAll.on (Leads.right i) r.passes; rule = r.rule }
  acts (Goes.enters i d) l = let r = acts d l in record { node = r.node; passes = PassesAll.on (Leads.body i) r.passes; rule = r.rule }
  acts (Goes.repeats i d) l = let r = acts d l in record {
    node = r.node;
    passes = PassesAll.on (Leads.again i) r.passes;
    rule = r.rule;
  }
  acts (Goes.makes {n = n} {k = k} i y v d) l =
      record { node = k; passes = PassesAll.here; rule = Rule.makes i y v (one_more n, d) }
  acts (Goes.sandboxes {n = n} {k = k} i d) l = record { node = k; passes = PassesAll.here; rule = Rule.sandboxes i (two-more n, d) }
  acts (Goes.breaks_static {k = k} i v f z) l = record { node = k; passes = PassesAll.here; rule = Rule.breaks_static i v f z }
  acts (Goes.breaks_name {k = k} i v f z) l = record { node = k; passes = PassesAll.here; rule = Rule.breaks_name i v f z }
  acts (Goes.breaks_fresh {k = k} i y v f z) l = record { node = k; passes = PassesAll.here; rule = Rule.breaks_fresh i y v f z }
  acts (Goes.breaks_opening {k = k} i f z) l = record { node = k; passes = PassesAll.here; rule = Rule.breaks_opening i f z }
  acts (Goes.breaks_first i d) l =
      let r = acts d l in record { node = r.node; passes = PassesAll.on (Leads.first i (λ e. false-true e)) r.passes; rule = r.rule }
  acts (Goes.breaks_inside {n = n} {k = k} i d) l =
      record { node = k; passes = PassesAll.here; rule = Rule.breaks_inside i (one_more n, d) }

  -- the nodes that end with no step, read from a table: each that stands there as such is one
  pub idle-sound : {cap : ℕ} {E : Entries S.Meaning S.Left} {o : Bool} {k : ℕ} {w : S.Meaning} {c : S.Left} {q : ℕ}
      → Lengths local es ns p S cap E → Begun S w c q → E 0 o k w c q (ended c q) → Idle ns k
  idle-sound h b e = (goes-still (h.sound b at_end e) refl).idle

  -- ── Where a node leads that is among the starts of a set ──

  module _ (A : Starts S) (on : Followed local es ns p S A) where
    pub leads-among : {whole o : Bool} {k j : ℕ} {w : S.Meaning} {c : S.Left} {q : ℕ} → A o k w c q → Leads ns whole k j → A o j w c q
    leads-among b (Leads.first i idle) = on.first i b
    leads-among b (Leads.second i idle) = on.second i b (idle-goes idle)
    leads-among b (Leads.left i) = on.left i b
    leads-among b (Leads.right i) = on.right i b
    leads-among b (Leads.body i) = on.body i b
    leads-among b (Leads.again i) = on.again i b

    pub passes-among : {whole o : Bool} {k j : ℕ} {w : S.Meaning} {c : S.Left} {q : ℕ} → A o k w c q → PassesAll ns whole k j
        → A o j w c q
    passes-among b PassesAll.here = b
    passes-among b (PassesAll.on l s) = passes-among (leads-among b l) s

    -- What holds of k holds of a node that k leads to, where each move keeps it from a start of the set to a node that comes to the aim.
    pub passes-toward : (t : Aim S.Left) {n : ℕ} {o : Bool} {k j : ℕ} {w : S.Meaning} {c : S.Left} {q : ℕ} (P : ℕ → Type 0)
        → ((i y : ℕ) → P i → A o i w c q → Leads ns (ending t) i y → Goes local es ns p S n o y w c q t → P y) → P k → A o k w c q
        → PassesAll ns (ending t) k j → Goes local es ns p S n o j w c q t → P j
    passes-toward t P f h b PassesAll.here d = h
    passes-toward t P f h b (PassesAll.on {k = k} {i = i} l s) d =
        passes-toward t P f (f k i h b l (passes-goes t s d)) (leads-among b l) s d

  -- ── From an entry to entries of fewer steps ──

  module _ (A : Starts S) (on : Followed local es ns p S A) (cap : ℕ) (E : Entries S.Meaning S.Left)
      (h : Least local es ns p S A cap E) where
    -- an entry is not more than any length
    pub entry-least : {n m : ℕ} {o : Bool} {k : ℕ} {w : S.Meaning} {c : S.Left} {q : ℕ} {t : Aim S.Left} → A o k w c q → Aimed t
        → E n o k w c q t
        → Goes local es ns p S m o k w c q t → n ≤ m
    entry-least {n} {m} {o} {k} {w} {c} {q} {t} b a e d = go (dec_le m cap)
      where
        go : Dec (m ≤ cap) → n ≤ m
        go (yes l) = let (i, j, f) = h.full b a d l in omega (arith, h.lengths.one e f)
        go (no l) = omega (arith, h.lengths.capped e)

    entry_in : {n m : ℕ} {o : Bool} {k : ℕ} {w : S.Meaning} {c : S.Left} {q : ℕ} {t : Aim S.Left} → n ≡ m → E n o k w c q t
        → E m o k w c q t
    entry_in {o = o} {k = k} {w = w} {c = c} {q = q} {t = t} e d = subst (λ (n : ℕ). E n o k w c q t) e d

    -- the rule that a least derivation begins with, over the entries
    entries : {n m : ℕ} {o : Bool} {k j : ℕ} {w : S.Meaning} {c : S.Left} {q : ℕ} {t : Aim S.Left} → A o k w c q → A o j w c q
        → Aimed t
        → E n o k w c q t
        → PassesAll ns (ending t) k j
        → Rule local es ns p S (Less n (Goes local es ns p S)) m o j w c q t → m ≡ n → Rule local es ns p S (Less n E) m o j w c q t
    entries b y a e s (Rule.ends i) f = Rule.ends i
    entries b y a e s (Rule.fires_static i v) f = Rule.fires_static i v
    entries b y a e s (Rule.fires_name i v) f = Rule.fires_name i v
    entries {n} {t = t} b z a e s (Rule.sequences {n₁ = n₁} {n₂ = n₂} i (l₁, d₁) (l₂, d₂)) f =
        let top = h.lengths.capped e in
        let z₁ = on.first i z in
        let b₁ = on.second i z d₁ in
        let (m₁, k₁, e₁) = h.full z₁ at_end d₁ (omega arith) in
        let (m₂, k₂, e₂) = h.full b₁ a d₂ (omega arith) in
        let low = entry-least b a e (passes-goes t s (Goes.sequences i (h.lengths.sound (on.occurs z₁) at_end e₁)
        (h.lengths.sound (on.occurs b₁) a e₂))) in
        let same₁ : m₁ ≡ n₁ = omega arith in
        let same₂ : m₂ ≡ n₂ = omega arith in
        Rule.sequences i (l₁, entry_in same₁ e₁) (l₂, entry_in same₂ e₂)
    entries b y a e s (Rule.chooses_left i (l, d)) f = absurd (omega arith)
    entries b y a e s (Rule.chooses_right i (l, d)) f = absurd (omega arith)
    entries b y a e s (Rule.enters i (l, d)) f = absurd (omega arith)
    entries b y a e s (Rule.repeats i (l, d)) f = absurd (omega arith)
    entries {n} {t = t} b z a e s (Rule.makes {n = n₁} i y v (l, d)) f =
        let top = h.lengths.capped e in
        let b₁ = on.created i y v z in
        let (m₁, k₁, e₁) = h.full b₁ a d (omega arith) in
        let low = entry-least b a e (passes-goes t s (Goes.makes i y v (h.lengths.sound (on.occurs b₁) a e₁))) in
        let same : m₁ ≡ n₁ = omega arith in
        Rule.makes i y v (l, entry_in same e₁)
    entries {n} {t = t} b z a e s (Rule.sandboxes {n = n₁} i (l, d)) f =
        let top = h.lengths.capped e in
        let b₁ = on.inside i z in
        let (m₁, k₁, e₁) = h.full b₁ at_end d (omega arith) in
        let low = entry-least b a e (passes-goes t s (Goes.sandboxes i (h.lengths.sound (on.occurs b₁) at_end e₁))) in
        let same : m₁ ≡ n₁ = omega arith in
        Rule.sandboxes i (l, entry_in same e₁)
    entries b y a e s (Rule.breaks_static i v f z) g = Rule.breaks_static i v f z
    entries b y a e s (Rule.breaks_name i v f z) g = Rule.breaks_name i v f z
    entries b x a e s (Rule.breaks_fresh i y v f z) g = Rule.breaks_fresh i y v f z
    entries b y a e s (Rule.breaks_opening i f z) g = Rule.breaks_opening i f z
    entries b y a e s (Rule.breaks_first i (l, d)) f = absurd (omega arith)
    entries {n} {t = t} b z a e s (Rule.breaks_inside {n = n₁} i (l, d)) f =
        let top = h.lengths.capped e in
        let b₁ = on.inside i z in
        let (m₁, k₁, e₁) = h.full b₁ a d (omega arith) in
        let low = entry-least b a e (passes-goes t s (Goes.breaks_inside i (h.lengths.sound (on.occurs b₁) a e₁))) in
        let same : m₁ ≡ n₁ = omega arith in
        Rule.breaks_inside i (l, entry_in same e₁)

    -- The key to reading: an entry of a step or more leads on to entries of fewer steps, which add up.
    pub found : {n : ℕ} {o : Bool} {k : ℕ} {w : S.Meaning} {c : S.Left} {q : ℕ} {t : Aim S.Left} → A o k w c q → Aimed t
        → E n o k w c q t → 1 ≤ n
        → Onto local es ns p S E n o k w c q t
    found b a e l =
        let r = acts (h.lengths.sound (on.occurs b) a e) l in
        record { node = r.node; passes = r.passes; rule = entries b (passes-among A on b r.passes) a e r.passes r.rule refl }

    -- the nodes that can end with no step are read from the table
    pub idle-exact : {o : Bool} {k : ℕ} {w : S.Meaning} {c : S.Left} {q : ℕ} → A o k w c q → E 0 o k w c q (ended c q) ↔ Idle ns k
    idle-exact {o} {k} {w} {c} {q} b = (
      λ e. idle-sound h.lengths (on.occurs b) e,
      λ d. let (m, l, e) = h.full {o = o} b at_end (idle-goes d) (omega arith) in let z : m ≡ 0 = omega arith in entry_in z e,
    )
