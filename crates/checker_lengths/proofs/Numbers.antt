-- The numbers of aims, of starts and of the ways in which a node ends.
use Prim.Native.Nat.{ℕ, zero, suc, ◌+◌, ◌%◌, ◌<◌, ◌≤◌}
use mathlib.Core.Path.{◌≡◌, refl, sym, ap, ◌∙◌, subst}
use mathlib.Core.Bool.{Bool, true, false, cond}
use native.Mathlib.Omega.{arith}
use native.Mathlib.Decide.{dec_le}
use lib.Dec.{eqb, ltb, leb}
use borrow.Author.Tests.{eqb-true, ltb-true, lt-ltb, le-leb, lt-leb}
use Rattle.usage.specs.Limits.{statics}
use Rattle.checker_account.specs.Account.{watched, Aim, ended, broken}
use Rattle.checker_account.specs.Single.{no_name, forget, watching}
use Rattle.checker_account.specs.Tables.{one_resource, unnamed, name_of, made, forgotten, at}
use Rattle.checker_account.specs.Holds.{Start}
use Rattle.checker_account.specs.Least.{Begun, Aimed, at_end, at_break}
use Rattle.checker_account.proofs.Starts.{forgotten-name, forgotten-made}
use Rattle.checker_account.proofs.OneLaws.{start-unnamed, start-any}
use Rattle.checker_lengths.specs.Offers.{low_end_lem, heir}
use Rattle.checker_lengths.specs.Held.{no_aim, aim_at, meaning_of}

-- ── Aims ──

pub aim-ended : (c : Bool) (q : ℕ) → q < 8 → aim_at (ended c q) ≡ at c q
aim-ended c q l = ap (λ (b : Bool). cond b (at c q) no_aim) (lt-ltb q 8 l)

pub at_lt : (c : Bool) (q : ℕ) → q < 8 → at c q < 16
at_lt false q l = omega arith
at_lt true q l = omega arith

-- an end as it is reckoned from the first that the start can come to
pub aim-end : (w : ℕ) (c : Bool) (q : ℕ) → q < 8 → aim_at (ended c q) ≡ low_end_lem (meaning_of w c) + q
aim-end w false q l = aim-ended false q l ∙ omega arith
aim-end w true q l = aim-ended true q l

pub aim-state : (c : Bool) (q : ℕ) → aim_at (ended c q) < 17 → q < 8
aim-state c q h = go (ltb q 8) refl h
  where
    go : (b : Bool) → ltb q 8 ≡ b → cond b (at c q) no_aim < 17 → q < 8
    go true e l = ltb-true q 8 e
    go false e l = absurd (omega arith)

pub aim-break : (t : Aim Bool) → Aimed t → (u : _) → t ≡ broken u → aim_at t ≡ 16
aim-break t at_end u e = absurd (omega (arith, apart e))
  where
    apart : {c : Bool} {q : ℕ} → ended c q ≡ broken u → ◌≡◌ {A = ℕ} 0 1
    apart e = cc
aim-break t at_break u e = refl

same_at : (c c' : Bool) (q q' : ℕ) → q < 8 → q' < 8 → at c q ≡ at c' q' → ended c q ≡ ended c' q'
same_at false false q q' l l' e = ap (ended false) e
same_at false true q q' l l' e = absurd (omega arith)
same_at true false q q' l l' e = absurd (omega arith)
same_at true true q q' l l' e = let f : q ≡ q' = omega arith in ap (ended true) f

-- aims with the same number are the same
pub aim-one : (t t' : Aim Bool) → Aimed t → Aimed t' → aim_at t < 17 → aim_at t ≡ aim_at t' → t ≡ t'
aim-one t t' (at_end {c = c} {q = q}) (at_end {c = c'} {q = q'}) h e =
    let l = aim-state c q h in
    let l' = aim-state c' q' (subst (λ (n : ℕ). n < 17) e h) in
    same_at c c' q q' l l' (sym (aim-ended c q l) ∙ e ∙ aim-ended c' q' l')
aim-one t t' (at_end {c} {q}) at_break h e = let l = aim-state c q h in absurd (omega (arith, at_lt c q l, aim-ended c q l))
aim-one t t' at_break (at_end {c} {q}) h e = let l = aim-state c q (subst (λ (n : ℕ). n < 17) e h) in
    absurd (omega (arith, at_lt c q l, aim-ended c q l))
aim-one t t' at_break at_break h e = refl

-- ── Starts ──

module _ {x w : ℕ} {c : Bool} {q : ℕ} (b : Begun (watching x) w c q) where
  pub name-of : name_of (meaning_of w c) ≡ w
  name-of = go c refl
    where
      go : (d : Bool) → c ≡ d → name_of (meaning_of w d) ≡ w
      go false e = sym (b.view.unmade e)
      go true e = refl

  pub meaning-lt : meaning_of w c < 6
  meaning-lt = go c
    where
      go : (d : Bool) → meaning_of w d < 6
      go false = omega arith
      go true = let l = b.view.name in omega arith

  -- of a static resource it is the last meaning
  static-is : x < statics → meaning_of w c ≡ unnamed
  static-is l = let (f, g) = b.view.static l in ap (meaning_of w) g ∙ ap suc f

  pub start_of : x ≤ watched → Start (one_resource x) (meaning_of w c)
  start_of small = go (dec_le statics x)
    where
      go : Dec (statics ≤ x) → Start (one_resource x) (meaning_of w c)
      go (yes l) = start-any x (meaning_of w c) l small meaning-lt
      go (no l) = subst (Start (one_resource x)) (sym (static-is (omega arith))) (start-unnamed x)

  -- x is meant by a name: it is the watched dynamic resource
  pub own-watched : (n : ℕ) → x ≤ watched → n < no_name → eqb (meaning_of w c) (suc n) ≡ true → x ≡ watched
  own-watched n small l e = go (dec_le statics x)
    where
      go : Dec (statics ≤ x) → x ≡ watched
      go (yes k) = omega arith
      go (no k) = absurd (let f = static-is (omega arith) in let g = eqb-true (meaning_of w c) (suc n) e in omega arith)

pub made_of : (w : ℕ) (c : Bool) → made (meaning_of w c) ≡ c
made_of w false = refl
made_of w true = refl

-- a start is told by its name and by whether the watched resource was created
pub meaning-is : (m : ℕ) → meaning_of (name_of m) (made m) ≡ m
meaning-is zero = refl
meaning-is (suc m) = refl

-- ── What follows ──

pub heir-of : (m w r : ℕ) → name_of m ≡ w → heir m r ≡ meaning_of w (leb 8 r)
unfolding heir
heir-of m w r e = go (leb 8 r) ∙ ap (λ (v : ℕ). meaning_of v (leb 8 r)) e
  where
    go : (b : Bool) → cond b (suc (name_of m)) 0 ≡ meaning_of (name_of m) b
    go true = refl
    go false = refl

-- way r, below 16, is an end
pub way-aim : (r : ℕ) → r < 16 → aim_at (ended (leb 8 r) (r % 8)) ≡ r
way-aim r l = go (dec_le 8 r)
  where
    go : Dec (8 ≤ r) → aim_at (ended (leb 8 r) (r % 8)) ≡ r
    go (yes k) = ap (λ (b : Bool). aim_at (ended b (r % 8))) (le-leb 8 r k) ∙ aim-ended true (r % 8) (omega arith) ∙ omega arith
    go (no k) = ap (λ (b : Bool). aim_at (ended b (r % 8))) (lt-leb 8 r (omega arith)) ∙ aim-ended false (r % 8) (omega arith) ∙ omega arith

pub at-made : (c : Bool) (q : ℕ) → q < 8 → leb 8 (at c q) ≡ c
at-made false q l = lt-leb 8 q l
at-made true q l = le-leb 8 (8 + q) (omega arith)

pub at-state : (c : Bool) (q : ℕ) → q < 8 → at c q % 8 ≡ q
at-state false q l = omega arith
at-state true q l = omega arith

-- the meaning once a name is given to another resource
pub forgotten-of : (w n : ℕ) (c : Bool) → n < no_name → (c ≡ false → w ≡ no_name) → forgotten (meaning_of w c) n ≡ meaning_of (forget w n) c
forgotten-of w n c l u =
    sym (meaning-is (forgotten (meaning_of w c) n))
    ∙ ap (meaning_of (name_of (forgotten (meaning_of w c) n))) (forgotten-made (meaning_of w c) n ∙ made_of w c)
    ∙ ap (λ (v : ℕ). meaning_of v c) (forgotten-name (meaning_of w c) n l ∙ ap (λ (v : ℕ). forget v n) (go c u))
  where
    go : (d : Bool) → (d ≡ false → w ≡ no_name) → name_of (meaning_of w d) ≡ w
    go false f = sym (f refl)
    go true f = refl
