-- What a numbered rule gives by a table, a rule of the account gives over the entries.
use Prim.Native.Nat.{ℕ, suc, ◌+◌, ◌%◌, ◌<◌, ◌≤◌}
use mathlib.Core.Path.{◌≡◌, refl, sym, ap, ◌∙◌, subst}
use mathlib.Core.Bool.{Bool, true, false, ◌||◌, cond}
use mathlib.Core.Option.{none}
use mathlib.Core.List.{List, [], ◌∷◌}
use mathlib.Core.Logic.{◌⊎◌, inl, inr}
use native.Mathlib.Omega.{arith}
use native.Mathlib.Decide.{ℕ_discrete, dec_le}
use lib.Dec.{eqb, leb}
use borrow.Author.Tests.{le-leb, lt-leb, eq-eqb, ne_eqb}
use Rattle.usage.specs.declared.Edge.{Edge}
use Rattle.usage.specs.declared.Node.{Node}
use Rattle.usage.specs.Limits.{create, most_shown, states}
use Rattle.usage.specs.Policy.{Sees, Moves, Offending}
use Rattle.usage.specs.Past.{reopened}
use Rattle.usage.specs.Outline.{Form, Is, end, static_event, named_event, sequence, choice, loop, back, fresh, sandbox}
use Rattle.usage.proofs.Logic.{by_cases, false-true}
use Rattle.usage.proofs.FormLaws.{form-ok}
use Rattle.automaton.specs.Mask.{has}
use Rattle.checker_account.specs.Account.{others, Aim, ended, broken, each}
use Rattle.checker_account.specs.Single.{meant, MakesOne, watching}
use Rattle.checker_account.specs.Tables.{made}
use Rattle.checker_account.specs.Least.{Entries, Begun, Aimed, at_end, at_break, Rule}
use Rattle.checker_account.proofs.MaskLaws.{has_none, offends-has}
use Rattle.checker_account.proofs.Starts.{meant_is}
use Rattle.checker_account.proofs.OneLaws.{one-static, one_name, one-created}
use Rattle.checker_account.proofs.NodeLaws.{names-ok}
use Rattle.checker_account.proofs.BegunLaws.{begun_opened}
use Rattle.checker_lengths.specs.declared.Entry.{Entry}
use Rattle.checker_lengths.specs.Entries.{entry_of, aims}
use Rattle.checker_lengths.specs.Offers.{low_end_lem, moved, born, ending_of, breaking, first_entry, second_entry, body_entry, inner_entry, state_in, around, offer_of}
use Rattle.checker_lengths.specs.Held.{aim_at, meaning_of, watch_of, Source}
use Rattle.checker_lengths.proofs.Inversion.{still-inv, ending-inv, breaking-inv, event-inv, sequence-inv, fresh-inv, sandbox-inv}
use Rattle.checker_lengths.proofs.Numbers.{aim-end, aim-one, name-of, own-watched, heir-of, way-aim, forgotten-of}
use Rattle.checker_lengths.proofs.RuleLaws.{moved_in, born-in, small-node, dynamic, named-low, named-high}

pub offending-small : (q : ℕ) → Offending q → q < states
offending-small q (inl e) = omega arith
offending-small q (inr e) = omega arith

pub offending-of : (q : ℕ) → 6 ≤ q → q < states → Offending q
offending-of q l h = go (ℕ_discrete q 6)
  where
    go : Dec (q ≡ 6) → Offending q
    go (yes e) = inl e
    go (no d) = inr (omega arith)

pub break-is : (t : Aim Bool) → Aimed t → aim_at t ≡ 16 → t ≡ broken none
break-is t a e = aim-one t (broken none) a at_break (omega arith) e

pub end_is : (t : Aim Bool) (w : ℕ) (c : Bool) (q : ℕ) → Aimed t → aim_at t < aims
    → q < states → aim_at t ≡ low_end_lem (meaning_of w c) + q → t ≡ ended c q
end_is t w c q a h l e = aim-one t (ended c q) a at_end h (e ∙ sym (aim-end w c q l))

-- no second creation of the watched resource
pub born-first : (rows : List ℕ) (e : Entry) (j : ℕ) → has (born rows e true) j ≡ true → made e.meaning ≡ false
unfolding born
born-first rows e j h = go (made e.meaning) refl h
  where
    go : (b : Bool) → made e.meaning ≡ b → has (cond b 0 (moved rows e true)) j ≡ true → made e.meaning ≡ false
    go true f g = has_none j g
    go false f g = f

module _ (local : Bool) (es : List Edge) (ns : List Node) (p x : ℕ) (rows : List ℕ) (src : Source es ns p x rows) where
  -- ── The rows ──

  module _ (k : ℕ) {w : ℕ} {c : Bool} {q : ℕ} (o : Bool) (i q' : ℕ) (b : Begun (watching x) w c q) (l : q' < 8) where
    abbrev here : Entry
    here = entry_of k o (meaning_of w c) q i

    pub static-moves : {a s : ℕ} → Is ns k (static_event a s) → has (moved rows here (eqb s x)) q' ≡ true → Moves es p a (Sees (x ∷ []) s) q q'
    static-moves {s = s} is h =
        (one-static src.moves (names-ok ns src.outline) src.small is q q' b.state l).0
        (sym (ap (λ (n : ℕ). has n q') (moved_in rows here (eqb s x) (small-node local es ns p x rows src (λ e. 0) is) b.state)) ∙ h)

    pub name-moves : {a n : ℕ} → Is ns k (named_event a n) → has (moved rows here (eqb (meaning_of w c) (suc n))) q' ≡ true
        → Moves es p a (Sees (x ∷ []) (meant x w n)) q q'
    name-moves {a = a} {n = n} is h =
        let own = eqb (meaning_of w c) (suc n) in
        let small = (form-ok src.outline is).2 in
        let m : meant x w n ≡ cond own x others = ap (λ (u : ℕ). meant x u n) (sym (name-of b)) ∙ meant_is x (meaning_of w c) n small in
        subst (λ (r : ℕ). Moves es p a (Sees (x ∷ []) r) q q') (sym m)
        ((one_name src.moves (names-ok ns src.outline) src.small is own (λ g. own-watched b n src.small small g) q q' b.state l).0
        (sym (ap (λ (r : ℕ). has r q') (moved_in rows here own (small-node local es ns p x rows src (λ e. 0) is) b.state)) ∙ h))

    pub other-moves : {n d : ℕ} → Is ns k (fresh n d) → has (born rows here false) q' ≡ true → Moves es p create (Sees (x ∷ []) others) q q'
    other-moves is h =
        (one-created src.moves (names-ok ns src.outline) src.small is false (λ g. false-true g) q q' b.state l).0
        (sym (ap (λ (r : ℕ). has r q') (born-in rows here false (λ g. false-true g)
        ∙ moved_in rows here false (small-node local es ns p x rows src (λ e. 0) is) b.state)) ∙ h)

  pub own-moves : (k : ℕ) {w q : ℕ} (o : Bool) (i q' : ℕ) → Begun (watching x) w false q → q' < 8 → {n d : ℕ} → Is ns k (fresh n d)
      → has (born rows (entry_of k o 0 q i) true) q' ≡ true
      → Moves es p create (Sees (x ∷ []) x) q q'
  own-moves k {w} {q} o i q' b l is h =
      (one-created src.moves (names-ok ns src.outline) src.small is true (λ g. dynamic local es ns p x rows src (λ e. 0) b) q q' b.state l).0
      (sym (ap (λ (r : ℕ). has r q') (born-in rows (entry_of k o 0 q i) true (λ g. refl)
      ∙ moved_in rows (entry_of k o 0 q i) true (small-node local es ns p x rows src (λ e. 0) is) b.state)) ∙ h)

  module _ (look : Entry → ℕ) where
    -- what `look` tells is an entry of E
    pub record Stands (E : Entries ℕ Bool) : Type 0 where
      pub stand : (n : ℕ) (o : Bool) (k w : ℕ) (c : Bool) (q : ℕ) (t : Aim Bool)
          → look (entry_of k o (meaning_of w c) q (aim_at t)) ≡ n → n ≤ most_shown
          → E n o k w c q t

    module _ (E : Entries ℕ Bool) (stands : Stands E) where
      abbrev Ruled : ℕ → Bool → ℕ → ℕ → Bool → ℕ → Aim Bool → Type 0
      Ruled n o k w c q t = Rule local es ns p (watching x) E n o k w c q t

      rule-in : {n n' : ℕ} {o : Bool} {k w : ℕ} {c : Bool} {q : ℕ} {t t' : Aim Bool} → n ≡ n' → t ≡ t' → Ruled n o k w c q t
          → Ruled n' o k w c q t'
      rule-in {n} {n'} {o} {k} {w} {c} {q} {t} {t'} e f r =
          subst (λ (u : Aim Bool). Ruled n' o k w c q u) f (subst (λ (m : ℕ). Ruled m o k w c q t) e r)

      rule-break : {n : ℕ} {o : Bool} {k w : ℕ} {c : Bool} {q : ℕ} {t : Aim Bool} → n ≡ 1 → o ≡ true → t ≡ broken none
          → Ruled 1 true k w c q (broken none) → Ruled n o k w c q t
      rule-break {n} {o} {k} {w} {c} {q} {t} e f g r = subst (λ (d : Bool). Ruled n d k w c q t) (sym f) (rule-in (sym e) (sym g) r)

      module _ (n : ℕ) (o : Bool) (k w : ℕ) (c : Bool) (q : ℕ) (t : Aim Bool) (b : Begun (watching x) w c q) (a : Aimed t)
          (in_range_lem : aim_at t < aims)
          (few : n ≤ most_shown) where
        abbrev at_entry : Entry
        at_entry = entry_of k o (meaning_of w c) q (aim_at t)

        ruled-static : {d s : ℕ} → Is ns k (static_event d s) → (ending_of (moved rows at_entry (eqb s x)) at_entry ≡ n)
            ⊎ (breaking (moved rows at_entry (eqb s x)) at_entry ≡ n) → Ruled n o k w c q t
        ruled-static {s = s} i (inl h) =
            let (z, j, l, g, e) = ending-inv at_entry n few (moved rows at_entry (eqb s x)) h in
            rule-in (sym z) (sym (end_is t w c j a in_range_lem l e)) (Rule.fires_static i (static-moves k o (aim_at t) j b l i g))
        ruled-static {s = s} i (inr h) =
            let (z, g, f, v) = breaking-inv at_entry n few (moved rows at_entry (eqb s x)) h in
            let (j, off, m) = offends-has (moved rows at_entry (eqb s x)) v in
            rule-break z f (break-is t a g) (Rule.breaks_static i (static-moves k o (aim_at t) j b (offending-small j off) i m) off each)

        ruled-name : {d s : ℕ} → Is ns k (named_event d s)
            → (ending_of (moved rows at_entry (eqb (meaning_of w c) (suc s))) at_entry ≡ n)
            ⊎ (breaking (moved rows at_entry (eqb (meaning_of w c) (suc s))) at_entry ≡ n) → Ruled n o k w c q t
        ruled-name {s = s} i (inl h) =
            let (z, j, l, g, e) = ending-inv at_entry n few (moved rows at_entry (eqb (meaning_of w c) (suc s))) h in
            rule-in (sym z) (sym (end_is t w c j a in_range_lem l e)) (Rule.fires_name i (name-moves k o (aim_at t) j b l i g))
        ruled-name {s = s} i (inr h) =
            let (z, g, f, v) = breaking-inv at_entry n few (moved rows at_entry (eqb (meaning_of w c) (suc s))) h in
            let (j, off, m) = offends-has (moved rows at_entry (eqb (meaning_of w c) (suc s))) v in
            rule-break z f (break-is t a g) (Rule.breaks_name i (name-moves k o (aim_at t) j b (offending-small j off) i m) off each)

        ruled-sequence : {d s : ℕ} (r : ℕ) → Is ns k (sequence d s)
            → ((r < 16) × (look (first_entry at_entry d r) + look (second_entry at_entry s r) ≡ n))
            ⊎ ((aim_at t ≡ 16) × (look (entry_of d o (meaning_of w c) q (aim_at t)) ≡ n))
            → Ruled n o k w c q t
        ruled-sequence {d} {s} r i (inl (l, e)) =
            rule-in e refl (Rule.sequences i
            (stands.stand (look (first_entry at_entry d r)) o d w c q (ended (leb 8 r) (r % 8))
            (ap (λ (j : ℕ). look (entry_of d o (meaning_of w c) q j)) (way-aim r l)) (omega arith))
            (stands.stand (look (second_entry at_entry s r)) o s w (leb 8 r) (r % 8) t
            (ap (λ (j : ℕ). look (entry_of s o j (r % 8) (aim_at t))) (sym (heir-of (meaning_of w c) w r (name-of b)))) (omega arith)))
        ruled-sequence {d} {s} r i (inr (g, e)) =
            let f = break-is t a g in
            subst (λ (u : Aim Bool). Ruled n o k w c q u) (sym f)
            (Rule.breaks_first i (subst (λ (u : Aim Bool). E n o d w c q u) f (stands.stand n o d w c q t e few)))

        ruled-choice : {d s : ℕ} (z : Bool) → Is ns k (choice d s) → look (entry_of (cond z d s) o (meaning_of w c) q (aim_at t)) ≡ n
            → Ruled n o k w c q t
        ruled-choice {d} {s} true i h = Rule.chooses_left i (stands.stand n o d w c q t h few)
        ruled-choice {d} {s} false i h = Rule.chooses_right i (stands.stand n o s w c q t h few)

        ruled-other : {m d : ℕ} (r : ℕ) → Is ns k (fresh m d) → r < 8 → has (born rows at_entry (leb 8 r)) (r % 8) ≡ true
            → 1 + look (body_entry at_entry m d r) ≡ n → Ruled n o k w c q t
        ruled-other {m} {d} r i l h e =
            let g : has (born rows at_entry false) (r % 8) ≡ true =
            sym (ap (λ (z : Bool). has (born rows at_entry z) (r % 8)) (lt-leb 8 r l)) ∙ h in
            let v = look (body_entry at_entry m d r) in
            let s : suc v ≡ n = omega arith in
            let small = (form-ok src.outline i).0 in
            rule-in s refl (Rule.makes i MakesOne.other (other-moves k o (aim_at t) (r % 8) b (omega arith) i g)
            (stands.stand v o d _ c (r % 8) t (ap (λ (j : ℕ). look (entry_of d o j (r % 8) (aim_at t)))
            (sym (named-low (meaning_of w c) m r l ∙ forgotten-of w m c small b.view.unmade))) (omega arith)))

        ruled-sandbox : {s d : ℕ} (r : ℕ) → Is ns k (sandbox s d)
            → ((r ≡ 0) × (around at_entry + look (inner_entry (watch_of local p x) at_entry s d) ≡ n))
            ⊎ ((r ≡ 0 → ⊥) × (n ≡ 1) × (aim_at t ≡ 16) × (s ≡ p) × (6 ≤ state_in (watch_of local p x) at_entry s)) → Ruled n o k w c q t
        ruled-sandbox {s} {d} r i (inl (z, e)) = go (ℕ_discrete (aim_at t) 16)
          where
            v : ℕ
            v = look (inner_entry (watch_of local p x) at_entry s d)

            go : Dec (aim_at t ≡ 16) → Ruled n o k w c q t
            go (yes g) =
                let f = break-is t a g in
                let one : around at_entry ≡ 1 = ap (λ (y : Bool). cond y 1 2) (eq-eqb (aim_at t) 16 g) in
                let m : suc (look (inner_entry (watch_of local p x) at_entry s d)) ≡ n = omega arith in
                let h = stands.stand (look (inner_entry (watch_of local p x) at_entry s d)) (o || eqb s p) d w c
                (reopened local p s o q) t refl (omega arith) in
                rule-in m (sym f) (Rule.breaks_inside i
                (subst (λ (u : Aim Bool). E (look (inner_entry (watch_of local p x) at_entry s d)) (o || eqb s p) d w c
                (reopened local p s o q) u) f h))
            go (no g) = ended-case t a refl g
              where
                ended-case : (u : Aim Bool) → Aimed u → t ≡ u → (aim_at t ≡ 16 → ⊥) → Ruled n o k w c q t
                ended-case u at_break f y = absurd (y (ap aim_at f))
                ended-case u (at_end {c = c₂} {q = q₂}) f y =
                    let two : around at_entry ≡ 2 = ap (λ (y : Bool). cond y 1 2) (ne_eqb (aim_at t) 16 y) in
                    let m : suc (suc (look (inner_entry (watch_of local p x) at_entry s d))) ≡ n = omega arith in
                    let h = stands.stand (look (inner_entry (watch_of local p x) at_entry s d)) (o || eqb s p) d w c
                    (reopened local p s o q) t refl (omega arith) in
                    rule-in m (sym f) (Rule.sandboxes i
                    (subst (λ (u : Aim Bool). E (look (inner_entry (watch_of local p x) at_entry s d)) (o || eqb s p) d w c
                    (reopened local p s o q) u) f h))
        ruled-sandbox {s} {d} r i (inr (z, m, g, e, l)) =
            let f = break-is t a g in
            let j = subst (λ (u : ℕ). Is ns k (sandbox u d)) e i in
            let h : 6 ≤ reopened local p p o q = subst (λ (u : ℕ). 6 ≤ reopened local p u o q) e l in
            rule-in (sym m) (sym f) (Rule.breaks_opening j
            (offending-of (reopened local p p o q) h (begun_opened b local p p o).state) each)

      -- the creation of the watched resource, which was not created before
      ruled-own : (n : ℕ) (o : Bool) (k w : ℕ) (c : Bool) (q : ℕ) (t : Aim Bool) → Begun (watching x) w c q → n ≤ most_shown
          → {m d : ℕ} (r : ℕ)
          → Is ns k (fresh m d) → 8 ≤ r → r < 16
          → has (born rows (entry_of k o (meaning_of w c) q (aim_at t)) (leb 8 r)) (r % 8) ≡ true
          → 1 + look (body_entry (entry_of k o (meaning_of w c) q (aim_at t)) m d r) ≡ n → Ruled n o k w c q t
      ruled-own n o k w true q t b few {m} {d} r i l u h e =
          let g = sym (ap (λ (z : Bool). has (born rows (entry_of k o (suc w) q (aim_at t)) z) (r % 8)) (le-leb 8 r l)) ∙ h in
          false-true (sym (born-first rows (entry_of k o (suc w) q (aim_at t)) (r % 8) g))
      ruled-own n o k w false q t b few {m} {d} r i l u h e =
          let here = entry_of k o 0 q (aim_at t) in
          let g : has (born rows here true) (r % 8) ≡ true = sym (ap (λ (z : Bool). has (born rows here z) (r % 8)) (le-leb 8 r l)) ∙ h in
          let v = look (body_entry here m d r) in
          let s : suc v ≡ n = omega arith in
          rule-in s refl (Rule.makes i MakesOne.own (own-moves k o (aim_at t) (r % 8) b (omega arith) i g)
          (stands.stand v o d m true (r % 8) t (ap (λ (j : ℕ). look (entry_of d o j (r % 8) (aim_at t))) (sym (named-high 0 m r l)))
          (omega arith)))

      -- a creation that breaks the policy
      ruled-born : (n : ℕ) (o : Bool) (k w : ℕ) (c : Bool) (q : ℕ) (t : Aim Bool)
          → Begun (watching x) w c q → Aimed t → n ≤ most_shown → {m d : ℕ} (own : Bool)
          → Is ns k (fresh m d)
          → breaking (born rows (entry_of k o (meaning_of w c) q (aim_at t)) own) (entry_of k o (meaning_of w c) q (aim_at t)) ≡ n
          → Ruled n o k w c q t
      ruled-born n o k w c q t b a few false i h =
          let here = entry_of k o (meaning_of w c) q (aim_at t) in
          let (z, g, f, v) = breaking-inv here n few (born rows here false) h in
          let (j, off, s) = offends-has (born rows here false) v in
          rule-break z f (break-is t a g)
          (Rule.breaks_fresh i MakesOne.other (other-moves k o (aim_at t) j b (offending-small j off) i s) off each)
      ruled-born n o k w true q t b a few true i h =
          let here = entry_of k o (suc w) q (aim_at t) in
          let (z, g, f, v) = breaking-inv here n few (born rows here true) h in
          let (j, off, s) = offends-has (born rows here true) v in
          false-true (sym (born-first rows here j s))
      ruled-born n o k w false q t b a few true i h =
          let here = entry_of k o 0 q (aim_at t) in
          let (z, g, f, v) = breaking-inv here n few (born rows here true) h in
          let (j, off, s) = offends-has (born rows here true) v in
          rule-break z f (break-is t a g)
          (Rule.breaks_fresh i MakesOne.own (own-moves k o (aim_at t) j b (offending-small j off) i s) off each)

      pub ruled : (n : ℕ) (o : Bool) (k w : ℕ) (c : Bool) (q : ℕ) (t : Aim Bool) → Begun (watching x) w c q → Aimed t → aim_at t < aims
          → n ≤ most_shown
          → (f : Form) (r : ℕ) → Is ns k f
          → offer_of (watch_of local p x) rows look (entry_of k o (meaning_of w c) q (aim_at t)) r f ≡ n → Ruled n o k w c q t
      unfolding offer_of
      ruled n o k w c q t b a h few end r i e =
          let (z, g) = still-inv (entry_of k o (meaning_of w c) q (aim_at t)) n few e in
          rule-in (sym z) (sym (end_is t w c q a h b.state g)) (Rule.ends i)
      ruled n o k w c q t b a h few (static_event d s) r i e =
          ruled-static n o k w c q t b a h few i (event-inv (entry_of k o (meaning_of w c) q (aim_at t)) n few _ r e)
      ruled n o k w c q t b a h few (named_event d s) r i e =
          ruled-name n o k w c q t b a h few i (event-inv (entry_of k o (meaning_of w c) q (aim_at t)) n few _ r e)
      ruled n o k w c q t b a h few (sequence d s) r i e =
          ruled-sequence n o k w c q t b a h few r i (sequence-inv (entry_of k o (meaning_of w c) q (aim_at t)) n few look d s r e)
      ruled n o k w c q t b a h few (choice d s) r i e = ruled-choice n o k w c q t b a h few (eqb r 0) i e
      ruled n o k w c q t b a h few (loop d) r i e = Rule.enters i (stands.stand n o d w c q t e few)
      ruled n o k w c q t b a h few (back d) r i e = Rule.repeats i (stands.stand n o d w c q t e few)
      ruled n o k w c q t b a h few (fresh m d) r i e =
          by_cases (fresh-inv (entry_of k o (meaning_of w c) q (aim_at t)) n few rows look m d r e)
          (λ v. by_cases (low_or_high r) (λ l. ruled-other n o k w c q t b a h few r i l v.1 v.2)
          (λ l. ruled-own n o k w c q t b few r i l v.0 v.1 v.2))
          (λ v. ruled-born n o k w c q t b a few (leb 17 r) i v.1)
        where
          low_or_high : (r : ℕ) → (r < 8) ⊎ (8 ≤ r)
          low_or_high r = go (dec_le 8 r)
            where
              go : Dec (8 ≤ r) → (r < 8) ⊎ (8 ≤ r)
              go (yes l) = inr l
              go (no l) = inl (omega arith)
      ruled n o k w c q t b a h few (sandbox s d) r i e =
          ruled-sandbox n o k w c q t b a h few r i
          (sandbox-inv (entry_of k o (meaning_of w c) q (aim_at t)) n few (watch_of local p x) look s d r e)
