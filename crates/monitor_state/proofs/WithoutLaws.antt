-- Laws of the list of live resources where one of them is taken away (02, L8).
use Prim.Native.Nat.{ℕ, zero, suc, ◌+◌, ◌-◌, ◌<◌, ◌≤◌}
use mathlib.Core.Path.{◌≡◌, refl, sym, ap, ◌∙◌}
use mathlib.Core.Bool.{Bool, true, false, not, ◌&&◌, ◌||◌, cond}
use mathlib.Core.List.Memᴰ
use mathlib.Core.List.{List, [], ◌∷◌, Memᴰ}
use mathlib.Core.Logic.{◌⊎◌, inl, inr, ◌↔◌}
use native.Mathlib.Nat.{zero-add}
use native.Mathlib.Numerals.{add-one}
use native.Mathlib.Omega.{arith}
use lib.Dec.{eqb, leb, ltb}
use lib.ListN.{length, get_or, take}
use lib.Seq.{ext_get_or, length-take-le, get_or-take}
use borrow.Author.Tests.{eq-eqb, ne_eqb, eqb-true, eqb-false, le-leb, lt-leb, leb-true, leb-false, lt-ltb, le-ltb}
use Rattle.usage.specs.Limits.{most_created}
use Rattle.usage.specs.Past.{without}
use Rattle.usage.specs.Tests.{every}
use Rattle.usage.proofs.Logic.{false-true, or_left, or_right, or_cases, and_left, and_right, and_both}
use Rattle.usage.proofs.TableLaws.{length_from, get_d-from}
use Rattle.monitor_sets.specs.Instances.{unseen}
use Rattle.monitor_sets.specs.Created.{behind}
use Rattle.monitor_sets.proofs.RetiredLaws.{lowered}
use Rattle.monitor_state.specs.Judge.{listed, distinct, place_from, closed_up}
use Rattle.monitor_state.proofs.ListLaws.{place-absent, place-present}

-- ── What is listed ──

pub listed-member : (x : ℕ) (l : List ℕ) → (listed x l ≡ true) ↔ Memᴰ x l
unfolding listed
listed-member x [] = (λ e. false-true e, λ m. absurd (Memᴰ.not-nil m))
listed-member x (y ∷ l) =
    let rest = listed-member x l in
    (λ e. to rest.0 (or_cases (eqb y x) (listed x l) e), λ m. back rest.1 (Memᴰ.cases_cons m))
  where
    to : (listed x l ≡ true → Memᴰ x l) → (eqb y x ≡ true) ⊎ (listed x l ≡ true) → Memᴰ x (y ∷ l)
    to rest (inl e) = Memᴰ.head (sym (eqb-true y x e))
    to rest (inr e) = Memᴰ.tail (rest e)

    back : (Memᴰ x l → listed x l ≡ true) → (x ≡ y) ⊎ Memᴰ x l → (eqb y x || listed x l) ≡ true
    back rest (inl e) = or_left (eqb y x) (listed x l) (eq-eqb y x (sym e))
    back rest (inr m) = or_right (eqb y x) (listed x l) (rest m)

pub without_other : (x r : ℕ) (l : List ℕ) → eqb r x ≡ false → listed x (without r l) ≡ listed x l
unfolding listed without
without_other x r [] d = refl
without_other x r (y ∷ l) d = go (eqb y r) refl (without_other x r l d)
  where
    go : (b : Bool) → eqb y r ≡ b → listed x (without r l) ≡ listed x l → listed x (cond b l (y ∷ without r l)) ≡ (eqb y x || listed x l)
    go true e ih = sym (ap (λ (c : Bool). c || listed x l) (ne_eqb y x (λ q. eqb-false r x d (sym (eqb-true y r e) ∙ q))))
    go false e ih = ap (λ (c : Bool). eqb y x || c) ih

pub without_gone : (r : ℕ) (l : List ℕ) → distinct l ≡ true → listed r (without r l) ≡ false
unfolding listed without distinct
without_gone r [] d = refl
without_gone r (y ∷ l) d = go (eqb y r) refl (without_gone r l (and_right (not (listed y l)) (distinct l) d))
  where
    off : (b : Bool) → not b ≡ true → b ≡ false
    off true e = sym e
    off false e = refl

    go : (b : Bool) → eqb y r ≡ b → listed r (without r l) ≡ false → listed r (cond b l (y ∷ without r l)) ≡ false
    go true e ih =
        ap (λ (x : ℕ). listed x l) (sym (eqb-true y r e)) ∙ off (listed y l) (and_left (not (listed y l)) (distinct l) d)
    go false e ih = ap (λ (b : Bool). b || listed r (without r l)) e ∙ ih

pub every-without : (test : ℕ → Bool) (r : ℕ) (l : List ℕ) → every test l ≡ true → every test (without r l) ≡ true
unfolding every without
every-without test r [] h = refl
every-without test r (y ∷ l) h = go (eqb y r) (every-without test r l (and_right (test y) (every test l) h))
  where
    go : (b : Bool) → every test (without r l) ≡ true → every test (cond b l (y ∷ without r l)) ≡ true
    go true ih = and_right (test y) (every test l) h
    go false ih = and_both (test y) (every test (without r l)) (and_left (test y) (every test l) h) ih

pub distinct_without : (r : ℕ) (l : List ℕ) → distinct l ≡ true → distinct (without r l) ≡ true
unfolding distinct without
distinct_without r [] h = refl
distinct_without r (y ∷ l) h = go (eqb y r) refl (distinct_without r l (and_right (not (listed y l)) (distinct l) h))
  where
    go : (b : Bool) → eqb y r ≡ b → distinct (without r l) ≡ true → distinct (cond b l (y ∷ without r l)) ≡ true
    go true e ih = and_right (not (listed y l)) (distinct l) h
    go false e ih =
        and_both (not (listed y (without r l))) (distinct (without r l))
        (ap not (without_other y r l (ne_eqb r y (λ q. eqb-false y r e (sym q)))) ∙ and_left (not (listed y l)) (distinct l) h) ih

-- ── Where each of the others stands ──

place-suc : (x n : ℕ) (l : List ℕ) → listed x l ≡ true → place_from x (suc n) l ≡ suc (place_from x n l)
unfolding place_from listed
place-suc x n [] h = false-true h
place-suc x n (y ∷ l) h = go (eqb y x) h (place-suc x (suc n) l)
  where
    go : (b : Bool) → (b || listed x l) ≡ true → (listed x l ≡ true → place_from x (suc (suc n)) l ≡ suc (place_from x (suc n) l))
        → cond b (suc n) (place_from x (suc (suc n)) l) ≡ suc (cond b n (place_from x (suc n) l))
    go true h ih = refl
    go false h ih = ih h

pub place-from : (x n : ℕ) (l : List ℕ) → listed x l ≡ true → n ≤ place_from x n l
place-from x n l h = let p = place-present x n l h in omega (arith, p.place)

-- counted from one further on
place-further : (x n : ℕ) (l : List ℕ) → unseen < n → lowered n (place_from x (suc n) l) ≡ place_from x n l
place-further x n l u = go (listed x l) refl
  where
    go : (b : Bool) → listed x l ≡ b → lowered n (place_from x (suc n) l) ≡ place_from x n l
    go true e =
        ap (lowered n) (place-suc x n l e)
        ∙ ap (λ (b : Bool). cond b (suc (place_from x n l) - 1) (suc (place_from x n l)))
        (lt-ltb n (suc (place_from x n l)) (omega (arith, place-from x n l e)))
        ∙ omega arith
    go false e =
        ap (lowered n) (place-absent x (suc n) l e) ∙ ap (λ (b : Bool). cond b (unseen - 1) unseen) (le-ltb n unseen (omega arith))
        ∙ sym (place-absent x n l e)

pub place-without : (x r n : ℕ) (l : List ℕ) → unseen < n → eqb r x ≡ false → listed r l ≡ true
    → place_from x n (without r l) ≡ lowered (place_from r n l) (place_from x n l)
unfolding place_from listed without
place-without x r n [] u d h = false-true h
place-without x r n (y ∷ l) u d h = go (eqb y r) refl (eqb y x) refl h (place-without x r (suc n) l (omega arith) d)
  where
    go : (b : Bool) → eqb y r ≡ b → (c : Bool) → eqb y x ≡ c → (b || listed r l) ≡ true
        → (listed r l ≡ true → place_from x (suc n) (without r l) ≡ lowered (place_from r (suc n) l) (place_from x (suc n) l))
        → place_from x n (cond b l (y ∷ without r l)) ≡ lowered (cond b n (place_from r (suc n) l)) (cond c n (place_from x (suc n) l))
    go true e true f h ih = absurd (eqb-false r x d (sym (eqb-true y r e) ∙ eqb-true y x f))
    go true e false f h ih = sym (place-further x n l u)
    go false e true f h ih =
        ap (λ (b : Bool). cond b n (place_from x (suc n) (without r l))) f
        ∙ sym (ap (λ (b : Bool). cond b (n - 1) n) (le-ltb (place_from r (suc n) l) n (omega (arith, place-from r (suc n) l h))))
    go false e false f h ih = ap (λ (b : Bool). cond b n (place_from x (suc n) (without r l))) f ∙ ih h

-- ── The list as the array has it ──

pub without-length : (r : ℕ) (l : List ℕ) → listed r l ≡ true → suc (length (without r l)) ≡ length l
unfolding listed without
without-length r [] h = false-true h
without-length r (y ∷ l) h = go (eqb y r) h (without-length r l)
  where
    go : (b : Bool) → (b || listed r l) ≡ true → (listed r l ≡ true → suc (length (without r l)) ≡ length l)
        → suc (length (cond b l (y ∷ without r l))) ≡ suc (length l)
    go true h ih = refl
    go false h ih = ap suc (ih h)

-- i is the place of r in the list
without_at : (r n i : ℕ) (l : List ℕ) → listed r l ≡ true → place_from r n l ≡ n + i → (k : ℕ)
    → get_or (without r l) k 0 ≡ get_or l (cond (leb i k) (suc k) k) 0
unfolding place_from listed without
without_at r n i [] h e k = false-true h
without_at r n i (y ∷ l) h e k = go (eqb y r) h e (λ j. without_at r (suc n) j l) k
  where
    next : (m : ℕ) → 0 < i → (b : Bool) → leb (i - 1) m ≡ b
        → get_or l (cond b (suc m) m) 0 ≡ get_or (y ∷ l) (cond (leb i (suc m)) (suc (suc m)) (suc m)) 0
    next m pos true q =
        let z = leb-true (i - 1) m q in
        sym (ap (λ (b : Bool). get_or (y ∷ l) (cond b (suc (suc m)) (suc m)) 0) (le-leb i (suc m) (omega arith)))
    next m pos false q =
        let z = leb-false (i - 1) m q in
        sym (ap (λ (b : Bool). get_or (y ∷ l) (cond b (suc (suc m)) (suc m)) 0) (lt-leb i (suc m) (omega arith)))

    go : (b : Bool) → (b || listed r l) ≡ true → cond b n (place_from r (suc n) l) ≡ n + i
        → ((j : ℕ) → listed r l ≡ true → place_from r (suc n) l ≡ suc n + j
        → (m : ℕ) → get_or (without r l) m 0 ≡ get_or l (cond (leb j m) (suc m) m) 0)
        → (k : ℕ) → get_or (cond b l (y ∷ without r l)) k 0 ≡ get_or (y ∷ l) (cond (leb i k) (suc k) k) 0
    go true h e ih k = sym (ap (λ (b : Bool). get_or (y ∷ l) (cond b (suc k) k) 0) (le-leb i k (omega arith)))
    go false h e ih zero =
        sym (ap (λ (b : Bool). get_or (y ∷ l) (cond b 1 0) 0) (lt-leb i 0 (omega (arith, place-from r (suc n) l h))))
    go false h e ih (suc m) =
        let pos : 0 < i = omega (arith, place-from r (suc n) l h) in
        ih (i - 1) h (omega arith) m ∙ next m pos (leb (i - 1) m) refl

-- the first n - 1 numbers once the place of r is closed up
pub closed-up : (r m i n : ℕ) (created : List ℕ) → length created ≡ most_created → n ≤ most_created → listed r (take n created) ≡ true
    → place_from r m (take n created) ≡ m + i → take (n - 1) (closed_up i n created) ≡ without r (take n created)
unfolding closed_up
closed-up r m i n created long few h e =
    ext_get_or 0 (take (n - 1) (closed_up i n created)) (without r (take n created)) same_length at
  where
    whole : length (take n created) ≡ n
    whole = length-take-le n created (omega arith)

    fewer : suc (length (without r (take n created))) ≡ n
    fewer = without-length r (take n created) h ∙ whole

    left : length (take (n - 1) (closed_up i n created)) ≡ n - 1
    left = length-take-le (n - 1) (closed_up i n created) (omega (arith, length_from (λ k. get_or created (behind i n k) 0) 0 most_created))

    same_length : length (take (n - 1) (closed_up i n created)) ≡ length (without r (take n created))
    same_length = left ∙ omega (arith, fewer)

    at : (k : ℕ) → k < length (take (n - 1) (closed_up i n created)) → get_or (take (n - 1) (closed_up i n created)) k 0 ≡ get_or (without r (take n created)) k 0
    at k l =
        let b : k < n - 1 = omega (arith, left) in
        get_or-take (n - 1) (closed_up i n created) k 0 b
        ∙ get_d-from (λ k. get_or created (behind i n k) 0) 0 most_created k 0 (omega arith)
        ∙ ap (λ (j : ℕ). get_or created (behind i n j) 0) (zero-add k)
        ∙ go (leb i k) b
        ∙ sym (without_at r m i (take n created) h e k)
      where
        go : (b : Bool) → k < n - 1 → get_or created (cond (b && ltb (k + 1) n) (k + 1) k) 0 ≡ get_or (take n created) (cond b (suc k) k) 0
        go true m =
            ap (λ (c : Bool). get_or created (cond c (k + 1) k) 0) (lt-ltb (k + 1) n (omega arith))
            ∙ ap (λ (j : ℕ). get_or created j 0) (add-one k) ∙ sym (get_or-take n created (suc k) 0 (omega arith))
        go false m = sym (get_or-take n created k 0 (omega arith))
