-- A trace is read from a table of least lengths, entry by entry, each of fewer steps than the last. What is read is what L1 asks for.
use Prim.Native.Nat.{ℕ, zero, suc, ◌+◌, ◌<◌, ◌≤◌}
use mathlib.Core.Path.{◌≡◌, refl, sym, ◌∙◌, ap, subst}
use mathlib.Core.Bool.{Bool, true, false}
use mathlib.Core.Option.{none, some}
use mathlib.Core.List.{List, [], ◌∷◌}
use native.Mathlib.Omega.{arith}
use native.Mathlib.Decide.{ℕ_discrete, dec_le}
use lib.ListN.{length}
use Rattle.usage.specs.declared.Edge.{Edge}
use Rattle.usage.specs.declared.Node.{Node}
use Rattle.usage.specs.Limits.{create, most_shown}
use Rattle.usage.specs.Policy.{EdgesOk}
use Rattle.usage.specs.Past.{Step, event, opening, Past, Violates}
use Rattle.usage.specs.Outline.{Is, sequence, Names, no_names, give, IsTrace}
use Rattle.usage.specs.Check.{Shown, this}
use Rattle.checker_account.specs.Account.{Sight, Last, each, Aim, ended, broken}
use Rattle.checker_account.specs.Views.{views}
use Rattle.checker_account.specs.Written.{next, Written}
use Rattle.checker_account.specs.Least.{Entries, Starts, Followed, Aimed, at_end, at_break}
use Rattle.checker_account.specs.Least.{Rule, Least, Less, Idle, Leads, PassesAll, ending}
use Rattle.checker_account.proofs.Scoped.{Scoped}
use Rattle.checker_account.proofs.Ahead.{Root, hits-exact}
use Rattle.checker_account.proofs.Writing.{Given, given-child, given-fresh, written-length}
use Rattle.checker_account.proofs.WrittenTrace.{written-struck}
use Rattle.checker_account.proofs.RendersLaws.{root-written}
use Rattle.checker_account.proofs.SightsLaws.{Sights, HitsAt, shortest-sights, all-longer-sights}
use Rattle.checker_account.proofs.OntoLaws.{passes-all, goes-still, passes-among, found}

module _ (local : Bool) (es : List Edge) (ns : List Node) (p : ℕ) (S : Sight) where
  -- ── What is written at a node that k leads to is written at k ──

  written_in : {n m : ℕ} {o : Bool} {k : ℕ} {names : Names} {w : S.Meaning} {c : S.Left} {q : ℕ} {past : Past} {t : Aim
      S.Left} {after : Past} → n ≡ m
      → Written local es ns p S n o k names w c q past t after → Written local es ns p S m o k names w c q past t after
  written_in {o = o} {k = k} {names = names} {w = w} {c = c} {q = q} {past = past} {t = t} {after = after} e d =
      subst (λ (n : ℕ). Written local es ns p S n o k names w c q past t after) e d

  pub idle-written : {o : Bool} {k : ℕ} {names : Names} {w : S.Meaning} {c : S.Left} {q : ℕ} {past : Past} → Idle ns k
      → Written local es ns p S 0 o k names w c q past (ended c q) past
  idle-written (Idle.ends i) = Written.ends i
  idle-written (Idle.sequences i d f) = written_in (omega arith) (Written.sequences i (idle-written d) (idle-written f))
  idle-written (Idle.chooses_left i d) = Written.chooses_left i (idle-written d)
  idle-written (Idle.chooses_right i d) = Written.chooses_right i (idle-written d)
  idle-written (Idle.enters i d) = Written.enters i (idle-written d)
  idle-written (Idle.repeats i d) = Written.repeats i (idle-written d)

  first-written : {n : ℕ} {o : Bool} {k a b : ℕ} {names : Names} {w : S.Meaning} {c : S.Left} {q : ℕ} {past : Past} {after : Past}
      (t : Aim S.Left)
      → Is ns k (sequence a b)
      → (ending t ≡ true → Idle ns b) → Written local es ns p S n o a names w c q past t after
      → Written local es ns p S n o k names w c q past t after
  first-written (ended c q) i idle d = written_in (omega arith) (Written.sequences i d (idle-written (idle refl)))
  first-written (broken u) i idle d = Written.breaks_first i d

  leads-written : {n : ℕ} {o : Bool} {k j : ℕ} {names : Names} {w : S.Meaning} {c : S.Left} {q : ℕ} {past : Past} {after : Past}
      (t : Aim S.Left)
      → Leads ns (ending t) k j
      → Written local es ns p S n o j names w c q past t after → Written local es ns p S n o k names w c q past t after
  leads-written t (Leads.first i idle) d = first-written t i idle d
  leads-written t (Leads.second i idle) d = written_in (omega arith) (Written.sequences i (idle-written idle) d)
  leads-written t (Leads.left i) d = Written.chooses_left i d
  leads-written t (Leads.right i) d = Written.chooses_right i d
  leads-written t (Leads.body i) d = Written.enters i d
  leads-written t (Leads.again i) d = Written.repeats i d

  pub passes-written : (t : Aim S.Left) {n : ℕ} {o : Bool} {k j : ℕ} {names : Names} {w : S.Meaning} {c : S.Left} {q : ℕ} {past : Past}
      {after : Past}
      → PassesAll ns (ending t) k j
      → Written local es ns p S n o j names w c q past t after → Written local es ns p S n o k names w c q past t after
  passes-written t PassesAll.here d = d
  passes-written t (PassesAll.on l s) d = leads-written t l (passes-written t s d)

  module _ (scope : ℕ → ℕ → Type 0) (outline : Scoped ns scope) where
    abbrev Names-at : ℕ → Names → Type 0
    Names-at k names = Given local es ns p S scope outline k names

    leads-given : {whole : Bool} {k j : ℕ} {names : Names} → Leads ns whole k j → Names-at k names → Names-at j names
    leads-given (Leads.first {k = k} {a = a} i idle) g = given-child local es ns p S scope outline k a (outline.first i) g
    leads-given (Leads.second {k = k} {b = b} i idle) g = given-child local es ns p S scope outline k b (outline.second i) g
    leads-given (Leads.left {k = k} {a = a} i) g = given-child local es ns p S scope outline k a (outline.left i) g
    leads-given (Leads.right {k = k} {b = b} i) g = given-child local es ns p S scope outline k b (outline.right i) g
    leads-given (Leads.body {k = k} {a = a} i) g = given-child local es ns p S scope outline k a (outline.body i) g
    leads-given (Leads.again {k = k} {a = a} i) g = given-child local es ns p S scope outline k a (outline.again i) g

    passes-given : {whole : Bool} {k j : ℕ} {names : Names} → PassesAll ns whole k j → Names-at k names → Names-at j names
    passes-given {names = names} s g = passes-all (λ (i : ℕ). Names-at i names) (λ a b h l. leads-given l h) g s

    module _ (A : Starts S) (on : Followed local es ns p S A) (cap : ℕ) (E : Entries S.Meaning S.Left)
        (h : Least local es ns p S A cap E) where
      -- every entry of fewer steps than this can be written
      abbrev Writes : ℕ → Type 0
      Writes most = (n : ℕ) (o : Bool) (k : ℕ) (w : S.Meaning) (c : S.Left) (q : ℕ) (t : Aim S.Left) → n < most → A o k w c q
          → Aimed t → E n o k w c q t
          → (names : Names) → Names-at k names → (past : Past) → (after : Past) × Written local es ns p S n o k names w c q past t after

      -- one rule, the entries of which can be written
      by_rule : {most n : ℕ} {o : Bool} {k : ℕ} {w : S.Meaning} {c : S.Left} {q : ℕ} {t : Aim S.Left} → Writes most → A o k w c q
          → Aimed t
          → Rule local es ns p S (Less most E) n o k w c q t
          → (names : Names) → Names-at k names → (past : Past) → (after : Past) × Written local es ns p S n o k names w c q past t after
      by_rule r b a (Rule.ends i) names g past = (past, Written.ends i)
      by_rule r b a (Rule.fires_static i v) names g past = (_, Written.fires_static i v)
      by_rule r b a (Rule.fires_name {m = m} i v) names g past = let (s, e) = g m (outline.used i) in (_, Written.fires_name i e v)
      by_rule r b a (Rule.sequences {n₁ = n₁} {n₂ = n₂} {k = k} {w = w} {q = q} {a = a₁} {b = b₁} {q₁ = q₁} {o = o} {c = c} {c₁ = c₁} {t =
          t} i (l₁, e₁) (l₂, e₂)) names g past =
          let b₀ = on.first i b in
          let d = h.lengths.sound (on.occurs b₀) at_end e₁ in
          let (mid, u) =
          r n₁ o a₁ w c q (ended c₁ q₁) l₁ b₀ at_end e₁ names (given-child local es ns p S scope outline k a₁ (outline.first i) g) past in
          let (after, v) =
          r n₂ o b₁ w c₁ q₁ t l₂ (on.second i b d) a e₂ names
          (given-child local es ns p S scope outline k b₁ (outline.second i) g) mid in
          (after, Written.sequences i u v)
      by_rule r b a (Rule.chooses_left {n = n} {k = k} {w = w} {q = q} {a = a₁} {o = o} {c = c} {t = t} i (l, e)) names g past =
          let (after, u) = r n o a₁ w c q t l (on.left i b) a e names
          (given-child local es ns p S scope outline k a₁ (outline.left i) g) past in
          (after, Written.chooses_left i u)
      by_rule r b a (Rule.chooses_right {n = n} {k = k} {w = w} {q = q} {b = b₁} {o = o} {c = c} {t = t} i (l, e)) names g past =
          let (after, u) = r n o b₁ w c q t l (on.right i b) a e names
          (given-child local es ns p S scope outline k b₁ (outline.right i) g) past in
          (after, Written.chooses_right i u)
      by_rule r b a (Rule.enters {n = n} {k = k} {w = w} {q = q} {a = a₁} {o = o} {c = c} {t = t} i (l, e)) names g past =
          let (after, u) = r n o a₁ w c q t l (on.body i b) a e names
          (given-child local es ns p S scope outline k a₁ (outline.body i) g) past in
          (after, Written.enters i u)
      by_rule r b a (Rule.repeats {n = n} {k = k} {w = w} {q = q} {a = a₁} {o = o} {c = c} {t = t} i (l, e)) names g past =
          let (after, u) = r n o a₁ w c q t l (on.again i b) a e names
          (given-child local es ns p S scope outline k a₁ (outline.again i) g) past in
          (after, Written.repeats i u)
      by_rule r b a (Rule.makes {n = n} {k = k} {m = m} {b = b₁} {q₁ = q₁} {t = t} i y v (l, e)) names g past =
          let (after, u) = r n _ b₁ _ _ q₁ t l (on.created i y v b) a e (give names m (next past))
          (given-fresh local es ns p S scope outline k m (next past) b₁ (outline.given i) g) (event create (next past) ∷ past) in
          (after, Written.makes i y v u)
      by_rule r b a (Rule.sandboxes {n = n} {k = k} {s = s} {b = b₁} i (l, e)) names g past =
          let (after, u) =
          r n _ b₁ _ _ _ _ l (on.inside i b) at_end e names
          (given-child local es ns p S scope outline k b₁ (outline.inside i) g) (opening s ∷ past) in
          (_, Written.sandboxes i u)
      by_rule r b a (Rule.breaks_static i v f z) names g past = (_, Written.breaks_static i v f z)
      by_rule r b a (Rule.breaks_name {m = m} i v f z) names g past =
          let (s, e) = g m (outline.used i) in (_, Written.breaks_name i e v f z)
      by_rule r b a (Rule.breaks_fresh i y v f z) names g past = (_, Written.breaks_fresh i y v f z)
      by_rule r b a (Rule.breaks_opening i f z) names g past = (_, Written.breaks_opening i f z)
      by_rule r b a (Rule.breaks_first {n = n} {k = k} {w = w} {q = q} {a = a₁} {o = o} {c = c} {u = u} i (l, e)) names g past =
          let (after, d) = r n o a₁ w c q (broken u) l (on.first i b) a e names
          (given-child local es ns p S scope outline k a₁ (outline.first i) g) past in (after, Written.breaks_first i d)
      by_rule r b a (Rule.breaks_inside {n = n} {k = k} {s = s} {b = b₁} {u = u} i (l, e)) names g past =
          let (after, d) =
          r n _ b₁ _ _ _ (broken u) l (on.inside i b) a e names
          (given-child local es ns p S scope outline k b₁ (outline.inside i) g) (opening s ∷ past) in
          (after, Written.breaks_inside i d)

      -- An entry of no step writes nothing. Any other: a node that k leads to with no step, and there a rule whose entries have fewer
      -- steps.
      pub reads : (most : ℕ) → Writes most
      reads zero n o k w c q t l b a e names g past = absurd (omega arith)
      reads (suc most) n o k w c q t l b a e names g past = go (ℕ_discrete n 0) (λ m o k w c q t s. reads most m o k w c q t (omega arith))
        where
          fewer : Writes n → 1 ≤ n → (after : Past) × Written local es ns p S n o k names w c q past t after
          fewer r s =
              let to = found local es ns p S A on cap E h b a e s in
              let (after, u) =
              by_rule r (passes-among local es ns p S A on b to.passes) a to.rule names (passes-given to.passes g) past in
              (after, passes-written t to.passes u)

          go : Dec (n ≡ 0) → Writes n → (after : Past) × Written local es ns p S n o k names w c q past t after
          go (yes f) r =
              let s = goes-still local es ns p S (h.lengths.sound (on.occurs b) a e) f in (
                past,
                subst (λ (u : Aim S.Left). Written local es ns p S n o k names w c q past u past) (sym s.same)
                    (written_in (sym f) (idle-written s.idle)),
              )
          go (no d) r = fewer r (omega arith)

-- ── What L1 asks for ──

module _ (local : Bool) (es : List Edge) (ns : List Node) (scope : ℕ → ℕ → Type 0) (p : ℕ) (edges : EdgesOk es)
    (outline : Scoped ns scope) (all : Sights es p) where
  -- what some sight tells of from the root on
  abbrev pub RootAt : all.Choice → ℕ → Type 0
  RootAt i n = Root local es ns p (all.sight i) n none

  abbrev pub WrittenAt : all.Choice → ℕ → Past → Type 0
  WrittenAt i n after =
      Written local es ns p (all.sight i) n false 0 no_names (all.sight i).first_meaning (all.sight i).first_left 0 []
      (broken none) after

  -- What is written from the root on is shown, where no sight tells of fewer steps.
  pub written-shown : (i : all.Choice) {n : ℕ} {after : Past} → WrittenAt i n after → n ≤ most_shown
      → ((j : all.Choice) (m : ℕ) → RootAt j m → n ≤ m) → Shown local es ns p (some after)
  written-shown i {n} {after} u few low =
      let t = root-written local es ns p (all.sight i) (views (all.stand-ins i)) (all.keeps i) (all.renders i) edges
      (record { static = outline.static-small; used = outline.name-small; given = outline.fresh-small }) u in
      let d = written-struck local es ns p (all.stand-ins i) scope edges outline (all.chosen i) t in
      let e : length after ≡ n = written-length local es ns p (all.sight i) u ∙ zero-steps in
      subst (λ (t : Past). Shown local es ns p (some t)) d.same
      (this (record {
        trace = d.trace;
        numbered = d.numbered;
        violates = d.violates;
        least = λ another t v. at_most (d.step ∷ d.past) (ap length d.same ∙ e) another t v;
      })
      (at-200 (d.step ∷ d.past) (ap length d.same ∙ e)))
    where
      zero-steps : length {A = Step} [] + n ≡ n
      zero-steps = omega arith

      at-200 : (past : Past) → length past ≡ n → length past ≤ most_shown
      at-200 past e = omega arith

      at_most : (past : Past) → length past ≡ n → (another : Past) → IsTrace ns another → Violates local es p another
          → length past ≤ length another
      at_most past e another t v =
          let (m, l, j, by, k) = shortest-sights local es ns scope p edges outline all another t v in
          omega (arith, low j m ((hits-exact local es ns p (all.sight j) m none).0 (by, each, k)))

  -- what is known of one sight: it does not hit, and no table is filled; or a table of the least lengths at these starts
  pub data Looked (i : all.Choice) (A : Starts (all.sight i)) (E : Entries (all.sight i).Meaning (all.sight i).Left) : Type 0 where
    never_hits : ((n : ℕ) (last : Last) → HitsAt local es ns scope p edges outline all i n last → ⊥) → Looked i A E
    tabled : Least local es ns p (all.sight i) A most_shown E → Looked i A E

  -- with a table for each sight that hits, least at starts among which the root's is
  module _ (E : (i : all.Choice) → Entries (all.sight i).Meaning (all.sight i).Left) (A : (i : all.Choice) → Starts (all.sight i))
      (on : (i : all.Choice) → Followed local es ns p (all.sight i) (A i))
      (begun : (i : all.Choice) → A i false 0 (all.sight i).first_meaning (all.sight i).first_left 0)
      (h : (i : all.Choice) → Looked i (A i) (E i)) where
    -- the entry of the root
    abbrev Told : all.Choice → ℕ → Type 0
    Told i n = E i n false 0 (all.sight i).first_meaning (all.sight i).first_left 0 (broken none)

    root_told : (j : all.Choice) (m : ℕ) → RootAt j m → m ≤ most_shown → (k : ℕ) × (k ≤ m) × Told j k
    root_told j m d l = go (h j)
      where
        go : Looked j (A j) (E j) → (k : ℕ) × (k ≤ m) × Told j k
        go (never_hits f) = let (by, z, k) = (hits-exact local es ns p (all.sight j) m none).1 d in absurd (f m by k)
        go (tabled g) = g.full (begun j) at_break d l

    told-least : {n : ℕ} → ((j : all.Choice) (m : ℕ) → Told j m → n ≤ m) → n ≤ most_shown → (j : all.Choice) (m : ℕ) → RootAt j m → n ≤ m
    told-least {n} low few j m d = go (dec_le m most_shown)
      where
        go : Dec (m ≤ most_shown) → n ≤ m
        go (yes l) = let (k, s, e) = root_told j m d l in omega (arith, low j k e)
        go (no l) = omega arith

    pub tables-shown : (i : all.Choice) {n : ℕ} → Least local es ns p (all.sight i) (A i) most_shown (E i) → Told i n
        → ((j : all.Choice) (m : ℕ) → Told j m → n ≤ m)
        → (after : Past) × Shown local es ns p (some after) × (length after ≡ n)
    tables-shown i {n} least e low =
        let few = least.lengths.capped e in
        let (after, u) = reads local es ns p (all.sight i) scope outline (A i) (on i) most_shown (E i) least (suc n) n false 0
        (all.sight i).first_meaning (all.sight i).first_left 0 (broken none) (omega arith)
        (begun i) at_break e no_names (λ m s. absurd (outline.root s)) [] in
        (after, written-shown i u few (told-least low few), written-length local es ns p (all.sight i) u ∙ zero-steps)
      where
        zero-steps : length {A = Step} [] + n ≡ n
        zero-steps = omega arith

    pub tables-longer : ((j : all.Choice) (m : ℕ) → Told j m → ⊥) → Shown local es ns p none
    tables-longer never =
        all-longer-sights local es ns scope p edges outline all
        (λ j m by k. go j m ((hits-exact local es ns p (all.sight j) m none).0 (by, each, k)) (dec_le m most_shown))
      where
        go : (j : all.Choice) (m : ℕ) → RootAt j m → Dec (m ≤ most_shown) → most_shown < m
        go j m d (yes l) = let (k, s, e) = root_told j m d l in absurd (never j k e)
        go j m d (no l) = omega arith
