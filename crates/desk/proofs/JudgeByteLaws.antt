-- The judge's state as it is written into the bytes and read from them.
use Prim.Native.Nat.{ℕ, ◌+◌, ◌*◌, ◌-◌, ◌<◌, ◌≤◌}
use mathlib.Core.Path.{◌≡◌, refl, sym, ap, ◌∙◌, subst}
use mathlib.Core.Bool.{Bool, true, false, cond}
use mathlib.Core.List.{List, ◌++◌}
use mathlib.Core.Logic.{◌⊎◌, inl, inr}
use native.Mathlib.Omega.{arith}
use lib.Dec.{eqb, ltb}
use borrow.Author.Tests.{ltb-true, ltb-false}
use lib.ListN.{length, get_or, take, drop}
use lib.Seq.{ext_get_or}
use Rattle.usage.specs.Limits.{policies, most_created, most_unclosed}
use Rattle.usage.proofs.Logic.{false-true}
use Rattle.usage.proofs.TableLaws.{length_from, get_d-from}
use Rattle.monitor_sets.specs.Instances.{set_places}
use Rattle.monitor_state.specs.declared.State.{State}
use Rattle.monitor_state.specs.declared.Sizes.{Sizes}
use Rattle.monitor_state.specs.Judge.{pair_sets}
use Rattle.usage.specs.declared.Reason.{Reason}
use Rattle.monitor_state.specs.declared.Answer.{Answer}
use Rattle.monitor_state.specs.declared.Answer.TheVariants.{Allowed, Violated, Refused}
use Rattle.monitor_state.specs.declared.Judgement.{Judgement}
use Rattle.monitor_state.specs.declared.Told.{Told}
use Rattle.monitor_state.specs.Lent.{state_of, judgement_of, sizes_of}
use Rattle.desk.specs.Promise.{is_refusal_lem}
use Rattle.desk.specs.declared.Head.{Head}
use Rattle.desk.specs.declared.Held.{Held}
use Rattle.desk.specs.Layout.{desk_bytes, edges_at, created_at, possible_at, unclosed_at, order_at, sets_at, pairs_at, rows_at, byte_at, word_at, numbers_in}
use Rattle.desk.specs.Layout.{bytes_in, head_in_lem, Put, Within}
use Rattle.desk.specs.JudgeBytes.{held_in_lem, pairs_in, judge_in, lent_by, sizes_in_lem, head_with, held_of, Copied, Arrays, JudgedIn, Stored}
use Rattle.desk_positions.proofs.CopyLaws.{bytes-local, words-local, put_all, numbers-kept, slice_is, part-put}
use Rattle.desk.proofs.HeadLaws.{put-within}

-- ── Out of the bytes ──

pub judge-is : (b : List ℕ) (h : Head) (k : Held) (z : Sizes) → k ≡ held_in_lem b → z ≡ sizes_in_lem h → state_of (lent_by k (pairs_in b)) z ≡ judge_in b h
unfolding judge_in
judge-is b h k z e f = rw (e, f)

-- they are the same where their bytes are
pub held_kept : (b b' : List ℕ) → ((m : ℕ) → created_at ≤ m → m < pairs_at → get_or b' m 0 ≡ get_or b m 0) → held_in_lem b' ≡ held_in_lem b
unfolding held_in_lem
held_kept b b' same =
    rw (
      numbers-kept byte_at 1 bytes-local b b' sets_at set_places (λ m f g. same m (omega arith) (omega arith)),
      numbers-kept byte_at 1 bytes-local b b' possible_at policies (λ m f g. same m (omega arith) (omega arith)),
      numbers-kept word_at 4 words-local b b' created_at most_created (λ m f g. same m (omega arith) (omega arith)),
      numbers-kept byte_at 1 bytes-local b b' unclosed_at policies (λ m f g. same m (omega arith) (omega arith)),
      numbers-kept byte_at 1 bytes-local b b' order_at most_unclosed (λ m f g. same m (omega arith) (omega arith)),
    )

pub pairs-kept : (b b' : List ℕ) → ((m : ℕ) → pairs_at ≤ m → m < rows_at → get_or b' m 0 ≡ get_or b m 0) → pairs_in b' ≡ pairs_in b
unfolding pairs_in
pairs-kept b b' same = numbers-kept byte_at 1 bytes-local b b' pairs_at pair_sets (λ m f g. same m (omega arith) (omega arith))

-- ── Into the bytes ──

-- bytes at a place stay where another part is put
bytes-stay : {read : _} {w : ℕ} {b b' l : List ℕ} {to k : ℕ} (place n : ℕ) → Put read w b to k l b'
    → (place + 1 * n ≤ to) ⊎ (to + w * k ≤ place) → bytes_in place n b' ≡ bytes_in place n b
bytes-stay {b = b} {b' = b'} place n p apart = numbers-kept byte_at 1 bytes-local b b' place n (λ m f g. p.outside m (side m f g apart))
  where
    side : (m : ℕ) → place ≤ m → m < place + 1 * n → {to x : ℕ} → (place + 1 * n ≤ to) ⊎ (x ≤ place) → (m < to) ⊎ (x ≤ m)
    side m f g (inl h) = inl (omega arith)
    side m f g (inr h) = inr (omega arith)

module _ (k : Held) (b b₁ b₂ b₃ b₄ b₅ : List ℕ) (p₁ : Put byte_at 1 b sets_at set_places k.sets b₁)
    (p₂ : Put byte_at 1 b₁ possible_at policies k.possible b₂) (p₃ : Put word_at 4 b₂ created_at most_created k.numbers b₃)
    (p₄ : Put byte_at 1 b₃ unclosed_at policies k.counts b₄) (p₅ : Put byte_at 1 b₄ order_at most_unclosed k.order b₅) where
  all-within : Within b created_at pairs_at b₅
  all-within = record {
    long = p₅.long ∙ p₄.long ∙ p₃.long ∙ p₂.long ∙ p₁.long;
    outside = λ m o.
        p₅.outside m (side m order_at (order_at + 1 * most_unclosed) (omega arith) (omega arith) o)
        ∙ p₄.outside m (side m unclosed_at (unclosed_at + 1 * policies) (omega arith) (omega arith) o)
        ∙ p₃.outside m (side m created_at (created_at + 4 * most_created) (omega arith) (omega arith) o)
        ∙ p₂.outside m (side m possible_at (possible_at + 1 * policies) (omega arith) (omega arith) o)
        ∙ p₁.outside m (side m sets_at (sets_at + 1 * set_places) (omega arith) (omega arith) o);
  }
    where
      side : (m x y : ℕ) → created_at ≤ x → y ≤ pairs_at → (m < created_at) ⊎ (pairs_at ≤ m) → (m < x) ⊎ (y ≤ m)
      side m x y f g (inl h) = inl (omega arith)
      side m x y f g (inr h) = inr (omega arith)

  pub held-put : length k.sets ≡ set_places → length k.possible ≡ policies → length k.numbers ≡ most_created
      → length k.counts ≡ policies → length k.order ≡ most_unclosed → Copied b k b₅
  unfolding held_in_lem
  held-put l₁ l₂ l₃ l₄ l₅ = record {
    within = all-within;
    held = rw (
      bytes-stay sets_at set_places p₅ (inr (omega arith)) ∙ bytes-stay sets_at set_places p₄ (inr (omega arith))
          ∙ bytes-stay sets_at set_places p₃ (inr (omega arith)) ∙ bytes-stay sets_at set_places p₂ (inr (omega arith))
          ∙ put_all byte_at 1 b sets_at set_places k.sets b₁ p₁ l₁,
      bytes-stay possible_at policies p₅ (inl (omega arith)) ∙ bytes-stay possible_at policies p₄ (inl (omega arith))
          ∙ bytes-stay possible_at policies p₃ (inr (omega arith)) ∙ put_all byte_at 1 b₁ possible_at policies k.possible b₂ p₂ l₂,
      numbers-kept word_at 4 words-local b₃ b₅ created_at most_created
          (λ m f g. p₅.outside m (inl (omega arith)) ∙ p₄.outside m (inl (omega arith)))
          ∙ put_all word_at 4 b₂ created_at most_created k.numbers b₃ p₃ l₃,
      bytes-stay unclosed_at policies p₅ (inl (omega arith)) ∙ put_all byte_at 1 b₃ unclosed_at policies k.counts b₄ p₄ l₄,
      put_all byte_at 1 b₄ order_at most_unclosed k.order b₅ p₅ l₅,
    );
  }

-- the sets of pairs are put, and then the others
side-in : (m : ℕ) {x y : ℕ} → created_at ≤ x → y ≤ rows_at → (m < created_at) ⊎ (rows_at ≤ m) → (m < x) ⊎ (y ≤ m)
side-in m f g (inl h) = inl (omega arith)
side-in m f g (inr h) = inr (omega arith)

-- the bytes when the sets of pairs come back as they were left, and then the others are put
pub arrays-left : (b b₁ b₂ : List ℕ) (s : State) → Within b pairs_at rows_at b₁ → pairs_in b₁ ≡ s.tracked.pairs → Copied b₁ (held_of s) b₂
    → Arrays b s b₂
arrays-left b b₁ b₂ s w e c = record {
  within = record {
    long = c.within.long ∙ w.long;
    outside = λ m o. c.within.outside m (side-in m (omega arith) (omega arith) o) ∙ w.outside m (side-in m (omega arith) (omega arith) o);
  };
  held = c.held;
  pairs = pairs-kept b₁ b₂ (λ m f g. c.within.outside m (inr f)) ∙ e;
}

pub pairs-put : (b b₁ : List ℕ) (l : List ℕ) → Put byte_at 1 b pairs_at pair_sets l b₁ → length l ≡ pair_sets
    → Within b pairs_at rows_at b₁ × (pairs_in b₁ ≡ l)
unfolding pairs_in
pairs-put b b₁ l p h = (put-within rows_at p refl, put_all byte_at 1 b pairs_at pair_sets l b₁ p h)

-- ── The sets of pairs, lent where they stand ──

pub pairs-lent : (b : List ℕ) → desk_bytes ≤ length b → take (rows_at - pairs_at) (drop pairs_at b) ≡ pairs_in b
unfolding pairs_in
pairs-lent b h = slice_is b pairs_at pair_sets rows_at refl (omega arith)

pub pairs-long : (b : List ℕ) → length (pairs_in b) ≡ pair_sets
unfolding pairs_in numbers_in
pairs-long b = length_from (λ i. byte_at b (pairs_at + 1 * i)) 0 pair_sets

module _ (b t : List ℕ) (h : desk_bytes ≤ length b) (l : length t ≡ pair_sets) where
  abbrev back : List ℕ
  back = take pairs_at b ++ (t ++ drop (rows_at - pairs_at) (drop pairs_at b))

  put_back : Put byte_at 1 b pairs_at pair_sets t back
  put_back = part-put b t pairs_at pair_sets rows_at refl (omega arith) l

  pub pairs-back : Within b pairs_at rows_at back × (pairs_in back ≡ t)
  pairs-back = pairs-put b back t put_back l

  -- where they are as they were, so are the bytes
  pub same_back : t ≡ pairs_in b → back ≡ b
  unfolding pairs_in numbers_in byte_at
  same_back e = ext_get_or 0 back b put_back.long (λ m x. go m (ltb m pairs_at) refl (ltb m rows_at) refl)
    where
      inside : (i : ℕ) → i < pair_sets → get_or back (pairs_at + 1 * i) 0 ≡ get_or b (pairs_at + 1 * i) 0
      inside i x =
          put_back.inside i x ∙ ap (λ (u : List ℕ). get_or u i 0) e ∙ get_d-from (λ i. get_or b (pairs_at + 1 * i) 0) 0 pair_sets i 0 x
          ∙ ap (λ (j : ℕ). get_or b (pairs_at + 1 * j) 0) (let z : 0 + i ≡ i = omega arith in z)

      go : (m : ℕ) (x : Bool) → ltb m pairs_at ≡ x → (y : Bool) → ltb m rows_at ≡ y → get_or back m 0 ≡ get_or b m 0
      go m true p y q = put_back.outside m (inl (ltb-true m pairs_at p))
      go m false p false q = put_back.outside m (inr (let z = ltb-false m rows_at q in omega arith))
      go m false p true q =
          let l = ltb-false m pairs_at p in
          let r = ltb-true m rows_at q in
          subst (λ (j : ℕ). get_or back j 0 ≡ get_or b j 0) (let z : pairs_at + 1 * (m - pairs_at) ≡ m = omega arith in z) (inside (m - pairs_at) (omega arith))

-- ── With the head ──

flag-read : (x : Bool) → eqb (cond x 1 0) 1 ≡ x
flag-read true = refl
flag-read false = refl

pub all-stored : (b b₁ b₂ : List ℕ) (h : Head) (s : State) (positions : ℕ) → Arrays b s b₁ → Within b₁ 0 edges_at b₂
    → head_in_lem b₂ ≡ head_with h s positions → Stored b h s positions b₂
unfolding judge_in head_with
all-stored b b₁ b₂ h s positions a w e = record {
  long = w.long ∙ a.within.long;
  head = e;
  judge = rw (
    held_kept b₁ b₂ (λ m f g. w.outside m (inr (omega arith))) ∙ a.held,
    pairs-kept b₁ b₂ (λ m f g. w.outside m (inr (omega arith))) ∙ a.pairs,
    flag-read s.halted,
  );
  between = λ m f g. w.outside m (inr f) ∙ a.within.outside m (inl g);
  behind = λ m f. w.outside m (inr (omega arith)) ∙ a.within.outside m (inr f);
}

-- what stands behind the judge's part can change between
pub arrays-kept : (b b₁ b₂ : List ℕ) (s : State) → Arrays b s b₁ → Within b₁ rows_at desk_bytes b₂ → Arrays b₂ s b₂
arrays-kept b b₁ b₂ s a w = record {
  within = record { long = refl; outside = λ m o. refl };
  held = held_kept b₁ b₂ (λ m f g. w.outside m (inl (omega arith))) ∙ a.held;
  pairs = pairs-kept b₁ b₂ (λ m f g. w.outside m (inl g)) ∙ a.pairs;
}

-- ── One step ──

refused-by : (a : Answer Reason) → is_refusal_lem a ≡ true → (n : Reason) × (a ≡ Refused n)
refused-by Allowed e = false-true e
refused-by (Violated p) e = false-true e
refused-by (Refused n) e = (n, refl)

module _ (b : List ℕ) (l : desk_bytes ≤ length b) (j : Judgement) (t : Told Reason) (k : Held) (pairs : List ℕ) (n : length pairs ≡ pair_sets)
    (is : judgement_of t (lent_by k pairs) ≡ j) where
  pub judged-refused : (h : Head) → ((m : Reason) → j.answer ≡ Refused m → j.state ≡ judge_in b h) → is_refusal_lem t.answer ≡ true
      → JudgedIn j b t (take pairs_at b ++ (pairs ++ drop (rows_at - pairs_at) (drop pairs_at b)))
  unfolding judge_in
  judged-refused h kept r = record {
    answer = ap (λ (i : Judgement). i.answer) is;
    sizes = ap (λ (i : Judgement). sizes_of i.state) is;
    refused = λ e. let (m, q) = refused-by t.answer r in
        same_back b pairs l n (ap (λ (i : Judgement). i.state.tracked.pairs) is
        ∙ ap (λ (s : State). s.tracked.pairs) (kept m (ap (λ (i : Judgement). i.answer) (sym is) ∙ q)));
    taken = λ e. false-true (sym e ∙ r);
  }

  pub judged-taken : (b' : List ℕ) → is_refusal_lem t.answer ≡ false
      → Copied (take pairs_at b ++ (pairs ++ drop (rows_at - pairs_at) (drop pairs_at b))) k b' → JudgedIn j b t b'
  judged-taken b' r c = record {
    answer = ap (λ (i : Judgement). i.answer) is;
    sizes = ap (λ (i : Judgement). sizes_of i.state) is;
    refused = λ e. false-true (sym r ∙ e);
    taken = λ e. let w = pairs-back b pairs l n in
        arrays-left b _ b' j.state w.0 (w.1 ∙ ap (λ (i : Judgement). i.state.tracked.pairs) is)
        (subst (λ (x : Held). Copied (take pairs_at b ++ (pairs ++ drop (rows_at - pairs_at) (drop pairs_at b))) x b')
        (ap (λ (i : Judgement). held_of i.state) is) c);
  }
