-- Numbers that are copied one after the other out of bytes and into them, over how many bytes a number has.
use Prim.Native.Nat.{ℕ, zero, suc, ◌+◌, ◌-◌, ◌*◌, ◌/◌, ◌%◌, ◌<◌, ◌≤◌}
use mathlib.Core.Path.{◌≡◌, refl, sym, ap, ap₂, ◌∙◌, subst}
use mathlib.Core.List.{List, [], ◌∷◌, ◌++◌}
use mathlib.Core.Logic.{◌⊎◌, inl, inr}
use native.Mathlib.Omega.{arith}
use native.Mathlib.Nat.{mul-suc, add-zero}
use native.Mathlib.Numerals.{add-one}
use native.Mathlib.Decide.{ℕ_discrete}
use lib.ListN.{length, get_or, set, take, drop, length-set, length-drop, length-append, get_or-append}
use lib.Seq.{get_or-set_same, get_or-set_other, length-take-le, get_or-take, get_or-drop, get_or-append-add}
use borrow.Author.Rules.{rules}
use borrow.Rule.Slice.PartMut.{put_mid}
use Rattle.std.specs.Int.{w32, to_le_bytes}
use Rattle.std.proofs.lemmas.List.{places}
use Rattle.usage.proofs.Logic.{by_cases, last-or-lower}
use Rattle.usage.proofs.TableLaws.{from-ext, is-from}
use Rattle.desk_positions.specs.Bytes.{Read, byte_at, word_at, wide_at, numbers_in, Got, Put}

-- ── Places ──

pub pos : (n : ℕ) → (n ≡ 0 → ⊥) → 0 < n
pos zero h = absurd (h refl)
pos (suc n) h = omega arith

turn : (w k i : ℕ) → k < i → w * k + w ≤ w * i
turn w k zero h = absurd (omega arith)
turn w k (suc i) h = go (last-or-lower k i h) (turn w k i)
  where
    go : (k ≡ i) ⊎ (k < i) → (k < i → w * k + w ≤ w * i) → w * k + w ≤ w * suc i
    go (inl e) ih = rw (mul-suc w i, e) (omega arith)
    go (inr l) ih = let h = ih l in rw (mul-suc w i) (omega arith)

-- where the next number begins
next_place : (w place i : ℕ) → place + w * (i + 1) ≡ place + w * i + w
next_place w place i = rw (add-one i, mul-suc w i) (omega arith)

-- ── Reading ──

-- what is read at a place depends on `width` bytes from there on
pub record Local (read : Read) (w : ℕ) : Type 0 where
  pub same : (b b' : List ℕ) (i : ℕ) → ((k : ℕ) → k < w → get_or b (i + k) 0 ≡ get_or b' (i + k) 0) → read b i ≡ read b' i

first : (b b' : List ℕ) (i : ℕ) → get_or b (i + 0) 0 ≡ get_or b' (i + 0) 0 → get_or b i 0 ≡ get_or b' i 0
first b b' i e = ap (λ (k : ℕ). get_or b k 0) (sym (add-zero i)) ∙ e ∙ ap (λ (k : ℕ). get_or b' k 0) (add-zero i)

pub bytes-local : Local byte_at 1
unfolding byte_at
bytes-local = record { same = λ b b' i h. first b b' i (h 0 (omega arith)) }

pub words-local : Local word_at 4
unfolding word_at
words-local = record {
  same = λ b b' i h.
      ap₂ (λ (x y : ℕ). x + y)
      (ap₂ (λ (x y : ℕ). x + y) (ap₂ (λ (x y : ℕ). x + y) (first b b' i (h 0 (omega arith))) (ap (λ (x : ℕ). 256 * x) (h 1 (omega arith))))
      (ap (λ (x : ℕ). 65536 * x) (h 2 (omega arith))))
      (ap (λ (x : ℕ). 16777216 * x) (h 3 (omega arith)));
}

pub wides-local : Local wide_at 8
unfolding wide_at
wides-local = record {
  same = λ b b' i h.
      ap₂ (λ (x y : ℕ). x + 4294967296 * y)
      (words-local.same b b' i (λ k l. h k (omega arith)))
      (words-local.same b b' (i + 4) (λ k l. later b b' i k (h (4 + k) (omega arith))));
}
  where
    later : (b b' : List ℕ) (i k : ℕ) → get_or b (i + (4 + k)) 0 ≡ get_or b' (i + (4 + k)) 0 → get_or b (i + 4 + k) 0 ≡ get_or b' (i + 4 + k) 0
    later b b' i k e =
        let s : i + 4 + k ≡ i + (4 + k) = omega arith in
        ap (λ (m : ℕ). get_or b m 0) s ∙ e ∙ ap (λ (m : ℕ). get_or b' m 0) (sym s)

-- ── Out of the state ──

module _ (read : Read) (w : ℕ) (b : List ℕ) (place : ℕ) where
  pub got-none : (t : List ℕ) → Got read w b place 0 t t
  got-none t = record { long = refl; inside = λ i h. absurd (omega arith); behind = λ i h. refl }

  pub got-next : (i : ℕ) (t₀ t : List ℕ) (v : ℕ) → Got read w b place i t₀ t → i < length t₀ → v ≡ read b (place + w * i)
      → Got read w b place (i + 1) t₀ (set t i v)
  got-next i t₀ t v g h e = record {
    long = length-set t i v ∙ g.long;
    inside = λ k l. at k (ℕ_discrete k i) l;
    behind = λ k l. get_or-set_other t i k v 0 (λ q. omega arith) ∙ g.behind k (omega arith);
  }
    where
      at : (k : ℕ) → Dec (k ≡ i) → k < i + 1 → get_or (set t i v) k 0 ≡ read b (place + w * k)
      at k (yes q) l =
          ap (λ (j : ℕ). get_or (set t i v) j 0) q ∙ get_or-set_same t i v 0 (omega (arith, g.long)) ∙ e ∙ ap (λ (j : ℕ). read b (place + w * j)) (sym q)
      at k (no d) l = get_or-set_other t i k v 0 d ∙ g.inside k (omega arith)

  -- a table that is filled whole
  pub got-all : (n : ℕ) (t₀ t : List ℕ) → Got read w b place n t₀ t → length t₀ ≡ n → t ≡ numbers_in read w place n b
  unfolding numbers_in
  got-all n t₀ t g h = is-from (λ i. read b (place + w * i)) 0 n t (g.long ∙ h) (λ i l. g.inside i l)

-- ── Into the state ──

module _ (read : Read) (w : ℕ) (near : Local read w) (b₀ : List ℕ) (place : ℕ) (l : List ℕ) where
  pub put-none : Put read w b₀ place 0 l b₀
  put-none = record { long = refl; inside = λ i h. absurd (omega arith); outside = λ m h. refl }

  pub put_next : (i : ℕ) (b b' : List ℕ) (v : ℕ) → Put read w b₀ place i l b → Put read w b (place + w * i) 1 (v ∷ []) b' → v ≡ get_or l i 0
      → Put read w b₀ place (i + 1) l b'
  put_next i b b' v p q e = record {
    long = q.long ∙ p.long;
    inside = λ k h. at k (last-or-lower k i (rw (add-one i) at h));
    outside = λ m h. q.outside m (out m h) ∙ p.outside m (before m h);
  }
    where
      one : w * 1 ≡ w
      one = omega arith

      here : read b' (place + w * i) ≡ v
      here = ap (read b') (let z : place + w * i ≡ place + w * i + w * 0 = omega arith in z) ∙ q.inside 0 (omega arith)

      at : (k : ℕ) → (k ≡ i) ⊎ (k < i) → read b' (place + w * k) ≡ get_or l k 0
      at k (inl z) = ap (λ (j : ℕ). read b' (place + w * j)) z ∙ here ∙ e ∙ ap (λ (j : ℕ). get_or l j 0) (sym z)
      at k (inr h) =
          near.same b' b (place + w * k) (λ m s. let z = turn w k i h in q.outside (place + w * k + m) (inl (omega arith)))
          ∙ p.inside k h

      out : (m : ℕ) → (m < place) ⊎ (place + w * (i + 1) ≤ m) → (m < place + w * i) ⊎ (place + w * i + w * 1 ≤ m)
      out m (inl h) = inl (omega arith)
      out m (inr h) = inr (let z = next_place w place i in omega (arith, one))

      before : (m : ℕ) → (m < place) ⊎ (place + w * (i + 1) ≤ m) → (m < place) ⊎ (place + w * i ≤ m)
      before m (inl h) = inl h
      before m (inr h) = inr (let z = next_place w place i in omega arith)

-- ── One number ──

pub byte_put : (b : List ℕ) (i x : ℕ) → i < length b → Put byte_at 1 b i 1 (x ∷ []) (set b i x)
unfolding byte_at
byte_put b i x h = record {
  long = length-set b i x;
  inside = λ k l. at k (let e : k ≡ 0 = omega arith in e);
  outside = λ m o. get_or-set_other b i m x 0 (λ e. off m e o);
}
  where
    at : (k : ℕ) → k ≡ 0 → get_or (set b i x) (i + 1 * k) 0 ≡ get_or (x ∷ []) k 0
    at k e =
        ap (λ (j : ℕ). get_or (set b i x) j 0) (let z : i + 1 * k ≡ i = omega arith in z) ∙ get_or-set_same b i x 0 h
        ∙ ap (λ (j : ℕ). get_or (x ∷ []) j 0) (sym e)

    off : (m : ℕ) → m ≡ i → (m < i) ⊎ (i + 1 * 1 ≤ m) → ⊥
    off m e (inl h) = omega arith
    off m e (inr h) = omega arith

-- at the place of number i
pub byte-here : (b : List ℕ) (place i : ℕ) → get_or b (place + i) 0 ≡ byte_at b (place + 1 * i)
unfolding byte_at
byte-here b place i = ap (λ (j : ℕ). get_or b j 0) (let z : place + i ≡ place + 1 * i = omega arith in z)

pub byte-at : (b : List ℕ) (place i x : ℕ) → place + i < length b → Put byte_at 1 b (place + 1 * i) 1 (x ∷ []) (set b (place + i) x)
byte-at b place i x h =
    let z : place + i ≡ place + 1 * i = omega arith in
    subst (λ (j : ℕ). Put byte_at 1 b j 1 (x ∷ []) (set b (place + i) x)) z (byte_put b (place + i) x h)

-- four bytes one after the other
pub word-put : (b : List ℕ) (i x : ℕ) → i + 4 ≤ length b
    → Put word_at 4 b i 1 (x ∷ [])
    (set (set (set (set b i (x % 256)) (i + 1) (x / 256 % 256)) (i + 2) (x / 65536 % 256)) (i + 3) (x / 16777216))
unfolding word_at
word-put b i x h = record {
  long = l4 ∙ l3 ∙ l2 ∙ l1;
  inside = λ k l. at k (let e : k ≡ 0 = omega arith in e);
  outside = λ m o.
      get_or-set_other b3 (i + 3) m _ 0 (λ e. off m 3 e o (omega arith)) ∙ get_or-set_other b2 (i + 2) m _ 0 (λ e. off m 2 e o (omega arith))
      ∙ get_or-set_other b1 (i + 1) m _ 0 (λ e. off m 1 e o (omega arith))
      ∙ get_or-set_other b i m _ 0 (λ e. off m 0 (e ∙ sym (add-zero i)) o (omega arith));
}
  where
    b1 : List ℕ
    b1 = set b i (x % 256)

    b2 : List ℕ
    b2 = set b1 (i + 1) (x / 256 % 256)

    b3 : List ℕ
    b3 = set b2 (i + 2) (x / 65536 % 256)

    b4 : List ℕ
    b4 = set b3 (i + 3) (x / 16777216)

    l1 : length b1 ≡ length b
    l1 = length-set b i (x % 256)

    l2 : length b2 ≡ length b1
    l2 = length-set b1 (i + 1) (x / 256 % 256)

    l3 : length b3 ≡ length b2
    l3 = length-set b2 (i + 2) (x / 65536 % 256)

    l4 : length b4 ≡ length b3
    l4 = length-set b3 (i + 3) (x / 16777216)

    off : (m j : ℕ) → m ≡ i + j → (m < i) ⊎ (i + 4 * 1 ≤ m) → j < 4 → ⊥
    off m j e (inl h) l = omega arith
    off m j e (inr h) l = omega arith

    g0 : get_or b4 i 0 ≡ x % 256
    g0 =
        get_or-set_other b3 (i + 3) i _ 0 (λ e. omega arith) ∙ get_or-set_other b2 (i + 2) i _ 0 (λ e. omega arith)
        ∙ get_or-set_other b1 (i + 1) i _ 0 (λ e. omega arith) ∙ get_or-set_same b i _ 0 (omega arith)

    g1 : get_or b4 (i + 1) 0 ≡ x / 256 % 256
    g1 =
        get_or-set_other b3 (i + 3) (i + 1) _ 0 (λ e. omega arith) ∙ get_or-set_other b2 (i + 2) (i + 1) _ 0 (λ e. omega arith)
        ∙ get_or-set_same b1 (i + 1) _ 0 (omega (arith, l1))

    g2 : get_or b4 (i + 2) 0 ≡ x / 65536 % 256
    g2 = get_or-set_other b3 (i + 3) (i + 2) _ 0 (λ e. omega arith) ∙ get_or-set_same b2 (i + 2) _ 0 (omega (arith, l1, l2))

    g3 : get_or b4 (i + 3) 0 ≡ x / 16777216
    g3 = get_or-set_same b3 (i + 3) _ 0 (omega (arith, l1, l2, l3))

    whole : x % 256 + 256 * (x / 256 % 256) + 65536 * (x / 65536 % 256) + 16777216 * (x / 16777216) ≡ x
    whole = omega arith

    at : (k : ℕ) → k ≡ 0
        → get_or b4 (i + 4 * k) 0 + 256 * get_or b4 (i + 4 * k + 1) 0 + 65536 * get_or b4 (i + 4 * k + 2) 0 + 16777216 * get_or b4 (i + 4 * k + 3) 0
        ≡ get_or (x ∷ []) k 0
    at k e =
        ap (λ (j : ℕ). get_or b4 j 0 + 256 * get_or b4 (j + 1) 0 + 65536 * get_or b4 (j + 2) 0 + 16777216 * get_or b4 (j + 3) 0)
        (let z : i + 4 * k ≡ i = omega arith in z)
        ∙ rw (g0, g1, g2, g3) whole
        ∙ ap (λ (j : ℕ). get_or (x ∷ []) j 0) (sym e)

-- the four bytes of a number, written over four
pub word-written : (b ys : List ℕ) (i k x : ℕ) → i + 4 ≤ length b → k ≡ i + 4 - i → ys ≡ to_le_bytes w32 x → x < 4294967296
    → Put word_at 4 b i 1 (x ∷ []) (put_mid i k b ys)
unfolding word_at
word-written b ys i k x h e f u = record {
  long = search (rules, places);
  inside = λ j l. at j (let z : j ≡ 0 = omega arith in z);
  outside = λ m o. other m o;
}
  where
    long : length ys ≡ 4
    long = ap length f

    whole : x % 256 + 256 * (x / 256 % 256) + 65536 * (x / 65536 % 256) + 16777216 * (x / 16777216 % 256) ≡ x
    whole = omega arith

    other : (m : ℕ) → (m < i) ⊎ (i + 4 * 1 ≤ m) → get_or (put_mid i k b ys) m 0 ≡ get_or b m 0
    other m (inl l) = search (rules, places)
    other m (inr l) = search (rules, places)

    own : (j : ℕ) → j < 4 → get_or (put_mid i k b ys) (i + j) 0 ≡ get_or ys j 0
    own j l = search (rules, places)

    at : (j : ℕ) → j ≡ 0
        → get_or (put_mid i k b ys) (i + 4 * j) 0 + 256 * get_or (put_mid i k b ys) (i + 4 * j + 1) 0
        + 65536 * get_or (put_mid i k b ys) (i + 4 * j + 2) 0 + 16777216 * get_or (put_mid i k b ys) (i + 4 * j + 3) 0
        ≡ get_or (x ∷ []) j 0
    at j z =
        ap (λ (m : ℕ). get_or (put_mid i k b ys) m 0 + 256 * get_or (put_mid i k b ys) (m + 1) 0 + 65536 * get_or (put_mid i k b ys) (m + 2) 0
        + 16777216 * get_or (put_mid i k b ys) (m + 3) 0)
        (let q : i + 4 * j ≡ i = omega arith in q)
        ∙ rw (
          ap (λ (m : ℕ). get_or (put_mid i k b ys) m 0) (sym (add-zero i)) ∙ own 0 (omega arith) ∙ ap (λ (l : List ℕ). get_or l 0 0) f,
          own 1 (omega arith) ∙ ap (λ (l : List ℕ). get_or l 1 0) f,
          own 2 (omega arith) ∙ ap (λ (l : List ℕ). get_or l 2 0) f,
          own 3 (omega arith) ∙ ap (λ (l : List ℕ). get_or l 3 0) f,
        ) whole
        ∙ ap (λ (m : ℕ). get_or (x ∷ []) m 0) (sym z)

-- two words one after the other
pub wide-put : (b b' b'' : List ℕ) (i x : ℕ) → Put word_at 4 b i 1 (x % 4294967296 ∷ []) b'
    → Put word_at 4 b' (i + 4) 1 (x / 4294967296 ∷ []) b'' → Put wide_at 8 b i 1 (x ∷ []) b''
unfolding wide_at
wide-put b b' b'' i x p q = record {
  long = q.long ∙ p.long;
  inside = λ k l. at k (let e : k ≡ 0 = omega arith in e);
  outside = λ m o. q.outside m (upper m o) ∙ p.outside m (lower m o);
}
  where
    upper : (m : ℕ) → (m < i) ⊎ (i + 8 * 1 ≤ m) → (m < i + 4) ⊎ (i + 4 + 4 * 1 ≤ m)
    upper m (inl h) = inl (omega arith)
    upper m (inr h) = inr (omega arith)

    lower : (m : ℕ) → (m < i) ⊎ (i + 8 * 1 ≤ m) → (m < i) ⊎ (i + 4 * 1 ≤ m)
    lower m (inl h) = inl h
    lower m (inr h) = inr (omega arith)

    low : word_at b'' i ≡ x % 4294967296
    low =
        words-local.same b'' b' i (λ k l. q.outside (i + k) (inl (omega arith)))
        ∙ ap (word_at b') (let z : i ≡ i + 4 * 0 = omega arith in z) ∙ p.inside 0 (omega arith)

    high : word_at b'' (i + 4) ≡ x / 4294967296
    high = ap (word_at b'') (let z : i + 4 ≡ i + 4 + 4 * 0 = omega arith in z) ∙ q.inside 0 (omega arith)

    whole : x % 4294967296 + 4294967296 * (x / 4294967296) ≡ x
    whole = omega arith

    at : (k : ℕ) → k ≡ 0 → word_at b'' (i + 8 * k) + 4294967296 * word_at b'' (i + 8 * k + 4) ≡ get_or (x ∷ []) k 0
    at k e =
        ap (λ (j : ℕ). word_at b'' j + 4294967296 * word_at b'' (j + 4)) (let z : i + 8 * k ≡ i = omega arith in z)
        ∙ rw (low, high) whole ∙ ap (λ (j : ℕ). get_or (x ∷ []) j 0) (sym e)

-- ── What is read after copying ──

-- a list that is put whole
pub put_all : (read : Read) (w : ℕ) (b₀ : List ℕ) (place n : ℕ) (l b : List ℕ) → Put read w b₀ place n l b → length l ≡ n
    → numbers_in read w place n b ≡ l
unfolding numbers_in
put_all read w b₀ place n l b p h = sym (is-from (λ i. read b (place + w * i)) 0 n l h (λ i k. sym (p.inside i k)))

-- what stands elsewhere
pub numbers-kept : (read : Read) (w : ℕ) → Local read w → (b₀ b : List ℕ) (place n : ℕ)
    → ((m : ℕ) → place ≤ m → m < place + w * n → get_or b m 0 ≡ get_or b₀ m 0) → numbers_in read w place n b ≡ numbers_in read w place n b₀
unfolding numbers_in
numbers-kept read w near b₀ b place n same =
    from-ext (λ i. read b (place + w * i)) (λ i. read b₀ (place + w * i)) 0 n (λ i h.
    near.same b b₀ (place + w * (0 + i)) (λ k l.
    let z = turn w i n h in
    let e : 0 + i ≡ i = omega arith in
    ap (λ (j : ℕ). get_or b (place + w * j + k) 0) e ∙ same (place + w * i + k) (omega arith) (omega arith)
    ∙ sym (ap (λ (j : ℕ). get_or b₀ (place + w * j + k) 0) e)))

-- a part of the bytes that is lent as a slice
pub slice_is : (b : List ℕ) (place n e : ℕ) → place + n ≡ e → e ≤ length b → take (e - place) (drop place b) ≡ numbers_in byte_at 1 place n b
unfolding numbers_in byte_at
slice_is b place n e h l =
    is-from (λ i. get_or b (place + 1 * i) 0) 0 n (take (e - place) (drop place b))
    (length-take-le (e - place) (drop place b) (omega (arith, length-drop place b)) ∙ (let z : e - place ≡ n = omega arith in z))
    (λ i k. get_or-take (e - place) (drop place b) i 0 (omega arith) ∙ get_or-drop place b i 0
    ∙ ap (λ (j : ℕ). get_or b j 0) (let z : place + i ≡ place + 1 * i = omega arith in z))

-- and what it makes of the bytes when it comes back
pub part-put : (b ys : List ℕ) (place n e : ℕ) → place + n ≡ e → e ≤ length b → length ys ≡ n
    → Put byte_at 1 b place n ys (take place b ++ (ys ++ drop (e - place) (drop place b)))
unfolding byte_at
part-put b ys place n e h l k = record {
  long = length-append (take place b) (ys ++ rest) ∙ (let z = length-append ys rest in omega (arith, front, behind));
  inside = λ i x.
      ap (λ (j : ℕ). get_or (take place b ++ (ys ++ rest)) j 0) (let z : place + 1 * i ≡ length (take place b) + i = omega (arith, front) in z)
      ∙ get_or-append-add (take place b) (ys ++ rest) i 0 ∙ get_or-append ys rest 0 i (omega arith);
  outside = λ m o. by_cases o (low m) (high m);
}
  where
    rest : List ℕ
    rest = drop (e - place) (drop place b)

    front : length (take place b) ≡ place
    front = length-take-le place b (omega arith)

    behind : length rest ≡ length b - place - (e - place)
    behind = length-drop (e - place) (drop place b) ∙ ap (λ (j : ℕ). j - (e - place)) (length-drop place b)

    low : (m : ℕ) → m < place → get_or (take place b ++ (ys ++ rest)) m 0 ≡ get_or b m 0
    low m x = get_or-append (take place b) (ys ++ rest) 0 m (omega (arith, front)) ∙ get_or-take place b m 0 x

    high : (m : ℕ) → place + 1 * n ≤ m → get_or (take place b ++ (ys ++ rest)) m 0 ≡ get_or b m 0
    high m x =
        ap (λ (j : ℕ). get_or (take place b ++ (ys ++ rest)) j 0)
        (let z : m ≡ length (take place b) + (length ys + (m - e)) = omega (arith, front) in z)
        ∙ get_or-append-add (take place b) (ys ++ rest) (length ys + (m - e)) 0 ∙ get_or-append-add ys rest (m - e) 0
        ∙ get_or-drop (e - place) (drop place b) (m - e) 0 ∙ get_or-drop place b (e - place + (m - e)) 0
        ∙ ap (λ (j : ℕ). get_or b j 0) (let z : place + (e - place + (m - e)) ≡ m = omega arith in z)
