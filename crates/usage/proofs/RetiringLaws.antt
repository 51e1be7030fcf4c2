-- The laws of retirings (02, L8): what is live, and how instances move on whose resources are in no further event.
use Prim.Native.Nat.{ℕ, zero, suc, ◌≤◌}
use mathlib.Core.Path.{◌≡◌, refl, sym, ap, ◌∙◌}
use mathlib.Core.Bool.{Bool, true, false, cond}
use mathlib.Core.List.Memᴰ
use mathlib.Core.List.{List, [], ◌∷◌, Memᴰ}
use mathlib.Core.Logic.{◌⊎◌, inl, inr, ◌↔◌}
use native.Mathlib.Omega.{arith}
use lib.Dec.{eqb}
use lib.ListN.{length}
use borrow.Author.Tests.{eqb-true}
use Rattle.usage.specs.declared.Edge.{Edge}
use Rattle.usage.specs.Policy.{Sees, Moves}
use Rattle.usage.specs.Past.{event, opening, closing, retiring, Past, without, live_in, Live, highest, May, moved, Created, Retired}
use Rattle.usage.proofs.Logic.{by_cases}
use Rattle.usage.proofs.SeesLaws.{place-one, moves-alike, sees-alike}
use Rattle.usage.proofs.PastLaws.{before-event, member-event, member-opening, member-closing}
use Rattle.usage.proofs.PastLaws.{member-retiring}

-- ── Taking a number away ──

pub member-without : (r x : ℕ) (l : List ℕ) → Memᴰ x (without r l) → Memᴰ x l
unfolding without
member-without r x [] m = m
member-without r x (y ∷ l) m = go (eqb y r) (member-without r x l) m
  where
    go : (b : Bool) → (Memᴰ x (without r l) → Memᴰ x l) → Memᴰ x (cond b l (y ∷ without r l)) → Memᴰ x (y ∷ l)
    go true ih m = Memᴰ.tail m
    go false ih m = by_cases (Memᴰ.cases_cons m) (λ (e : x ≡ y). Memᴰ.head e) (λ i. Memᴰ.tail (ih i))

pub without-member : (r x : ℕ) (l : List ℕ) → (x ≡ r → ⊥) → Memᴰ x l → Memᴰ x (without r l)
unfolding without
without-member r x [] d m = m
without-member r x (y ∷ l) d m = go (eqb y r) refl (without-member r x l d) (Memᴰ.cases_cons m)
  where
    go : (b : Bool) → eqb y r ≡ b → (Memᴰ x l → Memᴰ x (without r l)) → (x ≡ y) ⊎ Memᴰ x l
        → Memᴰ x (cond b l (y ∷ without r l))
    go true e ih (inl i) = absurd (d (i ∙ eqb-true y r e))
    go true e ih (inr m) = m
    go false e ih (inl i) = Memᴰ.head i
    go false e ih (inr m) = Memᴰ.tail (ih m)

pub without-shorter : (r : ℕ) (l : List ℕ) → length (without r l) ≤ length l
unfolding without
without-shorter r [] = omega arith
without-shorter r (y ∷ l) = go (eqb y r) (without-shorter r l)
  where
    go : (b : Bool) → length (without r l) ≤ length l → length (cond b l (y ∷ without r l)) ≤ suc (length l)
    go true h = omega arith
    go false h = omega arith

-- ── What is live ──

-- what is live was created
pub live-created : (r : ℕ) (past : Past) → Live r past → Created r past
unfolding live_in
live-created r [] m = absurd (Memᴰ.not-nil m)
live-created r (event zero x ∷ past) m =
    by_cases (Memᴰ.append_cases (live_in past) m) (λ i. Memᴰ.tail (live-created r past i))
    (λ i. Memᴰ.head (ap (event 0) (Memᴰ.eq_of_singleton i)))
live-created r (event (suc a) x ∷ past) m = Memᴰ.tail (live-created r past m)
live-created r (opening p ∷ past) m = Memᴰ.tail (live-created r past m)
live-created r (closing p ∷ past) m = Memᴰ.tail (live-created r past m)
live-created r (retiring x ∷ past) m = Memᴰ.tail (live-created r past (member-without x r (live_in past) m))

-- and what was created and is not retired is live
pub created-live : (r : ℕ) (past : Past) → Created r past → (Retired r past → ⊥) → Live r past
unfolding live_in
created-live r [] m n = absurd (Memᴰ.not-nil m)
created-live r (event zero x ∷ past) m n =
    by_cases (member-event m) (λ (e : (0 ≡ 0) × (r ≡ x)). Memᴰ.append_right (live_in past) (Memᴰ.head e.1))
    (λ i. Memᴰ.append_left (x ∷ []) (created-live r past i (λ d. n (Memᴰ.tail d))))
created-live r (event (suc a) x ∷ past) m n =
    by_cases (member-event m) (λ (e : (0 ≡ suc a) × (r ≡ x)). absurd (let z = e.0 in omega arith))
    (λ i. created-live r past i (λ d. n (Memᴰ.tail d)))
created-live r (opening p ∷ past) m n = created-live r past (member-opening m) (λ d. n (Memᴰ.tail d))
created-live r (closing p ∷ past) m n = created-live r past (member-closing m) (λ d. n (Memᴰ.tail d))
created-live r (retiring x ∷ past) m n =
    without-member x r (live_in past) (λ e. n (Memᴰ.head (ap retiring e)))
    (created-live r past (member-retiring m) (λ d. n (Memᴰ.tail d)))

-- `highest` is above all that was created
pub created-below : (r : ℕ) (past : Past) → Created r past → r ≤ highest past
unfolding highest
created-below r [] m = absurd (Memᴰ.not-nil m)
created-below r (event zero x ∷ past) m =
    by_cases (member-event m) (λ (e : (0 ≡ 0) × (r ≡ x)). let z = e.1 in omega arith) (λ i. let h = created-below r past i in omega arith)
created-below r (event (suc a) x ∷ past) m =
    by_cases (member-event m) (λ (e : (0 ≡ suc a) × (r ≡ x)). absurd (let z = e.0 in omega arith)) (λ i. created-below r past i)
created-below r (opening p ∷ past) m = created-below r past (member-opening m)
created-below r (closing p ∷ past) m = created-below r past (member-closing m)
created-below r (retiring x ∷ past) m = created-below r past (member-retiring m)

-- ── Instances whose resources are in no further event ──

-- They are told by what they see alone, so that one set of states serves any family of them, of one resource or of two.
module _ {A : Type 0} (In : A → Type 0) (sees : A → ℕ → ℕ → ℕ → Type 0) (local : Bool) (es : List Edge) (p : ℕ) where
  -- some instance of the family may be in q
  abbrev pub Joined : Past → ℕ → Type 0
  Joined past q = (x : A) × In x × May local es p (sees x) past q

  -- where all of them see an event alike, they move as one
  pub joined-event : (a r : ℕ) (views : ℕ → ℕ → Type 0) → ((x : A) → In x → (k who : ℕ) → sees x r k who ↔ views k who)
      → (past : Past) (q' : ℕ) → Joined (event a r ∷ past) q' ↔ ((q : ℕ) × Joined past q × Moves es p a views q q')
  joined-event a r views same past q' = (to, back)
    where
      to : Joined (event a r ∷ past) q' → (q : ℕ) × Joined past q × Moves es p a views q q'
      to (x, i, m) = let (q, b, v) = before-event m in (q, (x, i, b), moves-alike (λ e k. same x i e.on e.who) v)

      back : ((q : ℕ) × Joined past q × Moves es p a views q q') → Joined (event a r ∷ past) q'
      back (q, (x, i, m), v) = (
        x,
        i,
        moved m (moves-alike (λ e k. ((same x i e.on e.who).1, (same x i e.on e.who).0)) v),
      )

-- an event on neither x nor y is seen alike by their instances: as one "other than any resource used"
pub sees-other-alike : {x y r : ℕ} → (r ≡ x → ⊥) → (r ≡ y → ⊥) → (k who : ℕ) → Sees (x ∷ []) r k who ↔ Sees (y ∷ []) r k who
sees-other-alike {x} {y} {r} nx ny k who = (
  sees-alike (λ i. (λ e. absurd (nx (sym (place-one x i r e))), λ e. absurd (ny (sym (place-one y i r e))))),
  sees-alike (λ i. (λ e. absurd (ny (sym (place-one y i r e))), λ e. absurd (nx (sym (place-one x i r e))))),
)
