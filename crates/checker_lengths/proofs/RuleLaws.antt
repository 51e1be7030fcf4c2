-- The rules of the account over entries, and what the numbered rules give by a table: the same.
use Prim.Native.Nat.{ℕ, suc, ◌+◌, ◌-◌, ◌%◌, ◌<◌, ◌≤◌}
use mathlib.Core.Path.{◌≡◌, refl, sym, ap, ap₂, ◌∙◌, subst}
use mathlib.Core.Bool.{Bool, true, false, ◌&&◌, cond}
use mathlib.Core.Option.{Option}
use mathlib.Core.List.{List, [], ◌∷◌}
use mathlib.Core.Logic.{inl, inr}
use native.Mathlib.Omega.{arith}
use native.Mathlib.Decide.{dec_le}
use lib.Dec.{eqb, ltb, leb, lit<}
use borrow.Author.Tests.{lt-ltb, le-ltb, le-leb, lt-leb, eq-eqb, ne_eqb}
use Rattle.usage.specs.declared.Edge.{Edge}
use Rattle.usage.specs.declared.Node.{Node}
use Rattle.usage.specs.Limits.{statics, create, states, most_nodes, most_shown}
use Rattle.usage.specs.Policy.{Sees, Moves, Offending}
use Rattle.usage.specs.Outline.{Form, Is, end, static_event, named_event, sequence, choice, loop, back, fresh, sandbox}
use Rattle.usage.proofs.Logic.{false-true, and_both}
use Rattle.usage.proofs.FormLaws.{exists, form-ok}
use Rattle.automaton.specs.Mask.{has, offends}
use Rattle.checker_account.specs.Account.{watched, others, Last, Aim, ended, broken}
use Rattle.checker_account.specs.Single.{meant, MakesOne, watching}
use Rattle.checker_account.specs.Tables.{made, forgotten, at, rows_in, half}
use Rattle.checker_account.specs.Least.{Entries, Begun, Aimed, Rule}
use Rattle.checker_account.proofs.MaskLaws.{has-offends}
use Rattle.checker_account.proofs.Starts.{meant_is}
use Rattle.checker_account.proofs.OneLaws.{one-static, one_name, one-created}
use Rattle.checker_account.proofs.NodeLaws.{names-ok}
use Rattle.checker_account.proofs.BegunLaws.{moves-states}
use Rattle.checker_lengths.specs.declared.Entry.{Entry}
use Rattle.checker_lengths.specs.Entries.{entry_of, plus, aims}
use Rattle.checker_lengths.specs.Offers.{low_end_lem, one_if, moved, born, ending_of, breaking, event_of, heir, named, first_entry, second_entry, body_entry, around, offer_of, ways}
use Rattle.checker_lengths.specs.Held.{aim_at, meaning_of, watch_of, Source}
use Rattle.checker_lengths.proofs.EntryLaws.{plus-some}
use Rattle.checker_lengths.proofs.OfferLaws.{
  ending-by,
  still-here,
  sequence-first,
  sequence-both,
  fresh-breaks,
  fresh_on,
  sandbox-on,
  sandbox-hits,
}
use Rattle.checker_lengths.proofs.Numbers.{aim-ended, at_lt, aim-end, aim-state, aim-break, name-of, own-watched, heir-of, at-made, at-state, forgotten-of}

-- ── One step ──

pub ending_at : (v : ℕ) (e : Entry) (q : ℕ) → q < states → e.aim ≡ low_end_lem e.meaning + q → has v q ≡ true → ending_of v e ≡ 1
ending_at v e q l a h =
    let j : e.aim - low_end_lem e.meaning ≡ q = omega arith in
    sym (ending-by v e (low_end_lem e.meaning) refl true (omega arith) (omega arith) (ap (has v) j ∙ h))

pub breaking-at : (v : ℕ) (e : Entry) → e.aim ≡ 16 → e.opened ≡ true → offends (half false v) ≡ true → breaking v e ≡ 1
unfolding breaking
breaking-at v e a o h = ap one_if (and_both (eqb e.aim 16) (e.opened && offends (half false v)) (eq-eqb e.aim 16 a)
    (and_both e.opened (offends (half false v)) o h))

pub one_more : (n : ℕ) → suc n ≤ most_shown → plus 1 n ≡ suc n
one_more n l = sym (plus-some 1 n (omega arith)) ∙ omega arith

pub two-more : (n : ℕ) → suc (suc n) ≤ most_shown → plus 2 n ≡ suc (suc n)
two-more n l = sym (plus-some 2 n (omega arith)) ∙ omega arith

pub named-low : (m n r : ℕ) → r < 8 → named m n r ≡ forgotten m n
unfolding named
named-low m n r l = ap (λ (b : Bool). cond b (forgotten m n) (suc n)) (lt-ltb r 8 l)

pub named-high : (m n r : ℕ) → 8 ≤ r → named m n r ≡ suc n
unfolding named
named-high m n r l = ap (λ (b : Bool). cond b (forgotten m n) (suc n)) (le-ltb r 8 l)

pub end-range : (c : Bool) (q : ℕ) → q < states → aim_at (ended c q) < 17
end-range c q l = omega (arith, aim-ended c q l, at_lt c q l)

pub offending-least : (q : ℕ) → Offending q → 6 ≤ q
offending-least q (inl e) = omega arith
offending-least q (inr e) = omega arith

pub moved_in : (rows : List ℕ) (e : Entry) (own : Bool) → e.node < most_nodes → e.state < states
    → moved rows e own ≡ rows_in rows e.node own false e.state
unfolding moved
moved_in rows e own k q = ap (λ (b : Bool). cond b (rows_in rows e.node own false e.state) 0)
    (and_both (ltb e.node most_nodes) (ltb e.state states) (lt-ltb e.node most_nodes k) (lt-ltb e.state states q))

pub born-in : (rows : List ℕ) (e : Entry) (own : Bool) → (own ≡ true → made e.meaning ≡ false) → born rows e own ≡ moved rows e own
unfolding born
born-in rows e false h = refl
born-in rows e true h = ap (λ (b : Bool). cond b 0 (moved rows e true)) (h refl)

module _ (local : Bool) (es : List Edge) (ns : List Node) (p x : ℕ) (rows : List ℕ) (src : Source es ns p x rows) (look : Entry → ℕ) where
  -- what some numbered rule of node k gives
  pub record Offered (n : ℕ) (o : Bool) (k w : ℕ) (c : Bool) (q : ℕ) (t : Aim Bool) : Type 0 where
    pub form : Form
    pub is : Is ns k form
    pub rule : ℕ
    pub listed : rule < ways form
    pub in_range_lem : aim_at t < aims
    pub gives : offer_of (watch_of local p x) rows look (entry_of k o (meaning_of w c) q (aim_at t)) rule form ≡ n

  pub small-node : {k : ℕ} {f : Form} → Is ns k f → k < most_nodes
  small-node i = let l = exists i in let few = src.outline.few in omega arith

  pub state-lt : {a q q' : ℕ} {sees : ℕ → ℕ → Type 0} → Moves es p a sees q q' → q < states → q' < 8
  state-lt v l = moves-states src.edges v l

  -- ── The rows ──

  module _ (k : ℕ) {w : ℕ} {c : Bool} {q : ℕ} (o : Bool) (i : ℕ) (b : Begun (watching x) w c q) where
    abbrev here : Entry
    here = entry_of k o (meaning_of w c) q i

    pub static-row : {a s q' : ℕ} → Is ns k (static_event a s) → Moves es p a (Sees (x ∷ []) s) q q'
        → has (moved rows here (eqb s x)) q' ≡ true
    static-row {s = s} {q' = q'} is v =
        ap (λ (n : ℕ). has n q') (moved_in rows here (eqb s x) (small-node is) b.state)
        ∙ (one-static src.moves (names-ok ns src.outline) src.small is q q' b.state (state-lt v b.state)).1 v

    pub name-row : {a n q' : ℕ} → Is ns k (named_event a n) → Moves es p a (Sees (x ∷ []) (meant x w n)) q q'
        → has (moved rows here (eqb (meaning_of w c) (suc n))) q' ≡ true
    name-row {a = a} {n = n} {q' = q'} is v =
        let own = eqb (meaning_of w c) (suc n) in
        let small = (form-ok src.outline is).2 in
        let m : meant x w n ≡ cond own x others = ap (λ (u : ℕ). meant x u n) (sym (name-of b)) ∙ meant_is x (meaning_of w c) n small in
        ap (λ (r : ℕ). has r q') (moved_in rows here own (small-node is) b.state)
        ∙ (one_name src.moves (names-ok ns src.outline) src.small is own (λ g. own-watched b n src.small small g) q q' b.state (state-lt v b.state)).1
        (subst (λ (r : ℕ). Moves es p a (Sees (x ∷ []) r) q q') m v)

    pub other_row : {n d q' : ℕ} → Is ns k (fresh n d) → Moves es p create (Sees (x ∷ []) others) q q'
        → has (born rows here false) q' ≡ true
    other_row {q' = q'} is v =
        ap (λ (r : ℕ). has r q') (born-in rows here false (λ g. false-true g) ∙ moved_in rows here false (small-node is) b.state)
        ∙ (one-created src.moves (names-ok ns src.outline) src.small is false (λ g. false-true g) q q' b.state (state-lt v b.state)).1 v

  pub dynamic : {w q : ℕ} → Begun (watching x) w false q → x ≡ watched
  dynamic b = go (dec_le statics x)
    where
      go : Dec (statics ≤ x) → x ≡ watched
      go (yes l) = let m = src.small in omega arith
      go (no l) = false-true (b.view.static (omega arith)).1

  pub own_row : {k w q : ℕ} (o : Bool) (i : ℕ) → Begun (watching x) w false q → {n d q' : ℕ} → Is ns k (fresh n d)
      → Moves es p create (Sees (x ∷ []) x) q q'
      → has (born rows (entry_of k o 0 q i) true) q' ≡ true
  own_row {k} {w} {q} o i b {q' = q'} is v =
      ap (λ (r : ℕ). has r q') (born-in rows (entry_of k o 0 q i) true (λ g. refl)
      ∙ moved_in rows (entry_of k o 0 q i) true (small-node is) b.state)
      ∙ (one-created src.moves (names-ok ns src.outline) src.small is true (λ g. dynamic b) q q' b.state (state-lt v b.state)).1 v

  -- ── From the rules to the numbers ──

  -- an entry of E is what `look` tells of it
  pub record Reads (E : Entries ℕ Bool) : Type 0 where
    pub read : {n : ℕ} {o : Bool} {k w : ℕ} {c : Bool} {q : ℕ} {t : Aim Bool} → E n o k w c q t
        → (look (entry_of k o (meaning_of w c) q (aim_at t)) ≡ n) × (n ≤ most_shown) × (aim_at t < aims)

  module _ (E : Entries ℕ Bool) (reads : Reads E) where
    break-aim : {u : Option Last} → Aimed {L = Bool} (broken u) → aim_at (broken u) ≡ 16
    break-aim {u} a = aim-break (broken u) a u refl

    -- a fresh node, by what it makes
    offered-made : {m w : ℕ} {c : Bool} {d' w₁ : ℕ} {c₁ : Bool} {n k : ℕ} {o : Bool} {q : ℕ} {t : Aim Bool} {b₁ q₁ : ℕ} → Begun (watching x) w c q
        → Is ns k (fresh m b₁) → MakesOne x m d' w c w₁ c₁ → Moves es p create (Sees (x ∷ []) d') q q₁ → E n o b₁ w₁ c₁ q₁ t
        → suc n ≤ most_shown → Offered (suc n) o k w c q t
    unfolding offer_of event_of
    offered-made {m = m} {w = w} {c = c} {n = n} {k = k} {o = o} {q = q} {t = t} {b₁ = b₁} {q₁ = q₁} b i MakesOne.other v d l =
        let here = entry_of k o (meaning_of w c) q (aim_at t) in
        let s : q₁ < 8 = state-lt v b.state in
        let small = (form-ok src.outline i).0 in
        let own : leb 8 q₁ ≡ false = lt-leb 8 q₁ s in
        let st : q₁ % 8 ≡ q₁ = omega arith in
        let is : has (born rows here (leb 8 q₁)) (q₁ % 8) ≡ true = ap₂ (λ (z : Bool) (j : ℕ). has (born rows here z) j) own st
        ∙ other_row k o (aim_at t) b i v in
        let body : look (body_entry here m b₁ q₁) ≡ n =
        ap₂ (λ (j u : ℕ). look (entry_of b₁ o j u (aim_at t)))
        (named-low (meaning_of w c) m q₁ s ∙ forgotten-of w m c small b.view.unmade) st ∙ (reads.read d).0 in
        record {
          form = fresh m b₁;
          is = i;
          rule = q₁;
          in_range_lem = (reads.read d).2;
          listed = omega arith;
          gives = sym (fresh_on rows look here m b₁ q₁ (omega arith) is) ∙ ap (plus 1) body ∙ one_more n l;
        }
    offered-made {m = m} {w = w} {n = n} {k = k} {o = o} {q = q} {t = t} {b₁ = b₁} {q₁ = q₁} b i MakesOne.own v d l =
        let here = entry_of k o 0 q (aim_at t) in
        let s : q₁ < 8 = state-lt v b.state in
        let own : leb 8 (8 + q₁) ≡ true = le-leb 8 (8 + q₁) (omega arith) in
        let st : (8 + q₁) % 8 ≡ q₁ = omega arith in
        let is : has (born rows here (leb 8 (8 + q₁))) ((8 + q₁) % 8) ≡ true = ap₂ (λ (z : Bool) (j : ℕ). has (born rows here z) j) own st
        ∙ own_row o (aim_at t) b i v in
        let body : look (body_entry here m b₁ (8 + q₁)) ≡ n =
        ap₂ (λ (j u : ℕ). look (entry_of b₁ o j u (aim_at t))) (named-high 0 m (8 + q₁) (omega arith)) st ∙ (reads.read d).0 in
        record {
          form = fresh m b₁;
          is = i;
          rule = 8 + q₁;
          in_range_lem = (reads.read d).2;
          listed = omega arith;
          gives = sym (fresh_on rows look here m b₁ (8 + q₁) (omega arith) is) ∙ ap (plus 1) body ∙ one_more n l;
        }

    offered-broken : {m w : ℕ} {c : Bool} {d' w₁ : ℕ} {c₁ : Bool} {k q : ℕ} {u : Option Last} {b₁ q' : ℕ} → Begun (watching x) w c q
        → Aimed {L = Bool} (broken u) → Is ns k (fresh m b₁) → MakesOne x m d' w c w₁ c₁ → Moves es p create (Sees (x ∷ []) d') q q'
        → Offending q' → Offered 1 true k w c q (broken u)
    unfolding offer_of event_of
    offered-broken {m = m} {w = w} {c = c} {k = k} {q = q} {u = u} {b₁ = b₁} {q' = q'} b a i MakesOne.other v f =
        let here = entry_of k true (meaning_of w c) q (aim_at (broken u)) in
        record {
          form = fresh m b₁;
          is = i;
          rule = 16;
          in_range_lem = omega (arith, break-aim a);
          listed = lit< tt;
          gives = sym (fresh-breaks rows look here m b₁ 16 (omega arith))
              ∙ breaking-at (born rows here false) here (break-aim a) refl (has-offends _ q' f (other_row k true (aim_at (broken u)) b i v));
        }
    offered-broken {m = m} {w = w} {k = k} {q = q} {u = u} {b₁ = b₁} {q' = q'} b a i MakesOne.own v f =
        let here = entry_of k true 0 q (aim_at (broken u)) in
        record {
          form = fresh m b₁;
          is = i;
          rule = 17;
          in_range_lem = omega (arith, break-aim a);
          listed = lit< tt;
          gives = sym (fresh-breaks rows look here m b₁ 17 (omega arith))
              ∙ breaking-at (born rows here true) here (break-aim a) refl (has-offends _ q' f (own_row true (aim_at (broken u)) b i v));
        }

    pub offered : {n : ℕ} {o : Bool} {k w : ℕ} {c : Bool} {q : ℕ} {t : Aim Bool} → Begun (watching x) w c q → Aimed t
        → Rule local es ns p (watching x) E n o k w c q t
        → n ≤ most_shown → Offered n o k w c q t
    unfolding offer_of event_of
    offered {o = o} {k} {w} {c} {q} b a (Rule.ends i) l = record {
      form = end;
      is = i;
      rule = 0;
      in_range_lem = end-range c q b.state;
      listed = lit< tt;
      gives =
          let e = aim-end w c q b.state in
          sym (still-here 0 (entry_of k o (meaning_of w c) q (aim_at (ended c q))) (low_end_lem (meaning_of w c)) refl (omega arith) (omega arith));
    }
    offered {o = o} {k} {w} {c} {q} b a (Rule.fires_static {q' = q'} i v) l = record {
      form = static_event _ _;
      is = i;
      rule = 0;
      in_range_lem = end-range c q' (state-lt v b.state);
      listed = lit< tt;
      gives = let s = state-lt v b.state in ending_at _ (entry_of k o (meaning_of w c) q (aim_at (ended c q'))) q' s (aim-end w c q' s)
          (static-row k o (aim_at (ended c q')) b i v);
    }
    offered {o = o} {k} {w} {c} {q} b a (Rule.fires_name {q' = q'} i v) l = record {
      form = named_event _ _;
      is = i;
      rule = 0;
      in_range_lem = end-range c q' (state-lt v b.state);
      listed = lit< tt;
      gives = let s = state-lt v b.state in ending_at _ (entry_of k o (meaning_of w c) q (aim_at (ended c q'))) q' s (aim-end w c q' s)
          (name-row k o (aim_at (ended c q')) b i v);
    }
    offered {o = o} {k} {w} {c} {q} {t} b a (Rule.sequences {n₁ = n₁} {n₂ = n₂} {a = a₁} {b = b₁} {q₁ = q₁} {c₁ = c₁} i d f) l =
        let (e₁, l₁, h₁) = reads.read d in
        let (e₂, l₂, h₂) = reads.read f in
        let s = aim-state c₁ q₁ h₁ in
        let r = at c₁ q₁ in
        let here = entry_of k o (meaning_of w c) q (aim_at t) in
        let first : look (first_entry here a₁ r) ≡ n₁ = ap (λ (j : ℕ). look (entry_of a₁ o (meaning_of w c) q j)) (sym (aim-ended c₁ q₁ s))
        ∙ e₁ in
        let m : heir (meaning_of w c) r ≡ meaning_of w c₁ = heir-of (meaning_of w c) w r (name-of b) ∙ ap (meaning_of w) (at-made c₁ q₁ s) in
        let second : look (second_entry here b₁ r) ≡ n₂ = ap₂ (λ (j u : ℕ). look (entry_of b₁ o j u (aim_at t))) m (at-state c₁ q₁ s) ∙ e₂ in
        let small : r < 16 = at_lt c₁ q₁ s in
        record {
          form = sequence a₁ b₁;
          is = i;
          rule = r;
          in_range_lem = h₂;
          listed = omega arith;
          gives = sym (sequence-both look here a₁ b₁ r small) ∙ ap₂ plus first second ∙ sym (plus-some n₁ n₂ l);
        }
    offered b a (Rule.chooses_left i d) l = record {
      form = choice _ _;
      is = i;
      rule = 0;
      in_range_lem = (reads.read d).2;
      listed = lit< tt;
      gives = (reads.read d).0;
    }
    offered b a (Rule.chooses_right i d) l = record {
      form = choice _ _;
      is = i;
      rule = 1;
      in_range_lem = (reads.read d).2;
      listed = lit< tt;
      gives = (reads.read d).0;
    }
    offered b a (Rule.enters i d) l = record {
      form = loop _;
      is = i;
      rule = 0;
      in_range_lem = (reads.read d).2;
      listed = lit< tt;
      gives = (reads.read d).0;
    }
    offered b a (Rule.repeats i d) l = record {
      form = back _;
      is = i;
      rule = 0;
      in_range_lem = (reads.read d).2;
      listed = lit< tt;
      gives = (reads.read d).0;
    }
    offered b a (Rule.makes i y v d) l = offered-made b i y v d l
    offered {o = o} {k} {w} {c} {q} {t} b a (Rule.sandboxes {n = n} {s = s} {b = b₁} {q₂ = q₂} {c₂ = c₂} i d) l =
        let here = entry_of k o (meaning_of w c) q (aim_at (ended c₂ q₂)) in
        let (e, few, h) = reads.read d in
        let u = aim-state c₂ q₂ h in
        let two : around here ≡ 2 = ap (λ (z : Bool). cond z 1 2)
        (ne_eqb (aim_at (ended c₂ q₂)) 16 (λ g. absurd (omega (arith, at_lt c₂ q₂ u, aim-ended c₂ q₂ u)))) in
        record {
          form = sandbox s b₁;
          is = i;
          rule = 0;
          in_range_lem = h;
          listed = lit< tt;
          gives = sym (sandbox-on (watch_of local p x) look here s b₁ 0 refl) ∙ ap₂ plus two e ∙ two-more n l;
        }
    offered {o = o} {k} {w} {c} {q} b a (Rule.breaks_static {q' = q'} {u = u} i v f z) l = record {
      form = static_event _ _;
      is = i;
      rule = 1;
      in_range_lem = omega (arith, break-aim a);
      listed = lit< tt;
      gives = breaking-at _ (entry_of k true (meaning_of w c) q (aim_at (broken u))) (break-aim a) refl
          (has-offends _ q' f (static-row k true (aim_at (broken u)) b i v));
    }
    offered {o = o} {k} {w} {c} {q} b a (Rule.breaks_name {q' = q'} {u = u} i v f z) l = record {
      form = named_event _ _;
      is = i;
      rule = 1;
      in_range_lem = omega (arith, break-aim a);
      listed = lit< tt;
      gives = breaking-at _ (entry_of k true (meaning_of w c) q (aim_at (broken u))) (break-aim a) refl
          (has-offends _ q' f (name-row k true (aim_at (broken u)) b i v));
    }
    offered b a (Rule.breaks_fresh i y v f z) l = offered-broken b a i y v f
    offered {o = o} {k} {w} {c} {q} b a (Rule.breaks_opening {b = b₁} {u = u} i f z) l =
        let here = entry_of k o (meaning_of w c) q (aim_at (broken u)) in
        record {
          form = sandbox p b₁;
          is = i;
          rule = 1;
          in_range_lem = omega (arith, break-aim a);
          listed = lit< tt;
          gives = sym (sandbox-hits (watch_of local p x) look here p b₁ 1 _ (λ g. absurd (omega arith)) (break-aim a) refl refl
              (offending-least _ f));
        }
    offered {o = o} {k} {w} {c} {q} b a (Rule.breaks_first {a = a₁} {b = b₁} {u = u} i d) l =
        let here = entry_of k o (meaning_of w c) q (aim_at (broken u)) in
        record {
          form = sequence a₁ b₁;
          is = i;
          rule = 16;
          in_range_lem = (reads.read d).2;
          listed = lit< tt;
          gives = sym (sequence-first look here a₁ b₁ 16 (omega arith) (break-aim a)) ∙ (reads.read d).0;
        }
    offered {o = o} {k} {w} {c} {q} b a (Rule.breaks_inside {n = n} {s = s} {b = b₁} {u = u} i d) l =
        let here = entry_of k o (meaning_of w c) q (aim_at (broken u)) in
        let one : around here ≡ 1 = ap (λ (z : Bool). cond z 1 2) (eq-eqb (aim_at (broken u)) 16 (break-aim a)) in
        record {
          form = sandbox s b₁;
          is = i;
          rule = 0;
          in_range_lem = (reads.read d).2;
          listed = lit< tt;
          gives = sym (sandbox-on (watch_of local p x) look here s b₁ 0 refl) ∙ ap₂ plus one (reads.read d).0 ∙ one_more n l;
        }
