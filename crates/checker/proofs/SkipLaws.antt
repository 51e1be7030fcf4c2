-- A policy that is skipped is never left open and not respected.
use Prim.Native.Nat.{ℕ, ◌*◌, ◌/◌}
use mathlib.Core.Path.{◌≡◌, refl, sym, ap, ◌∙◌, subst}
use mathlib.Core.Bool.{Bool, true, false, not, ◌&&◌, ◌||◌, cond}
use mathlib.Core.List.{List, Memᴰ}
use mathlib.Core.Logic.{inl, inr}
use native.Mathlib.Omega.{arith}
use lib.Dec.{eqb}
use lib.ListN.{length, get_or}
use borrow.Author.Tests.{eq-eqb, ne_eqb}
use Rattle.usage.specs.declared.Edge.{Edge}
use Rattle.usage.specs.declared.Node.{Node}
use Rattle.usage.specs.Policy.{Sees, Moves, along, stays, Offending}
use Rattle.usage.specs.Past.{Past, is_open, May, start, moved, opened, closed, retired, Broken}
use Rattle.usage.specs.Outline.{sandbox, Is}
use Rattle.usage.specs.Tables.{edges_of, nodes_of}
use Rattle.usage.specs.Check.{Leaves}
use Rattle.usage.proofs.Logic.{not-both}
use Rattle.usage.proofs.TableLaws.{edges-member}
use Rattle.automaton.proofs.MaskLaws.{some_at}
use Rattle.checker_account.specs.Account.{Sight, Comes, Last, Hits}
use Rattle.checker.specs.Code.{is_opening_lem, opens, has_edge_lem}
use Rattle.checker_account.specs.Filling.{forms_in}
use Rattle.outline_nodes.specs.declared.NodeForm.{NodeForm}
use Rattle.outline_nodes.specs.declared.NodeForm.TheVariants.{End, OnStatic, OnName, Sequence, Choice, Loop, Back, Fresh, Sandbox}
use Rattle.outline_nodes.specs.Said.{said_by}
use Rattle.checker_account.proofs.NodeLaws.{forms-of}

-- ── No sandbox ──

module _ (local : Bool) (es : List Edge) (ns : List Node) (p : ℕ) (S : Sight) (shut : (k b : ℕ) → Is ns k (sandbox p b) → ⊥) where
  never-open : {n : ℕ} {o : Bool} {k : ℕ} {w : S.Meaning} {c : S.Left} {q : ℕ} → Comes local es ns p S n o k w c q → o ≡ false
  never-open Comes.begins = refl
  never-open (Comes.first i e) = never-open e
  never-open (Comes.second i e f) = never-open e
  never-open (Comes.left i e) = never-open e
  never-open (Comes.right i e) = never-open e
  never-open (Comes.body i e) = never-open e
  never-open (Comes.again i e) = never-open e
  never-open (Comes.created i y e v) = never-open e
  never-open (Comes.inside {k = k} {s = s} {b = b} i e) =
      ap (λ (o : Bool). o || eqb s p) (never-open e) ∙ ne_eqb s p (λ d. shut k b (subst (λ (r : ℕ). Is ns k (sandbox r b)) d i))

  pub no-hits : {n : ℕ} {last : Last} → Hits local es ns p S n last → ⊥
  no-hits (Hits.at_static i c v f) = not-both true refl (never-open c)
  no-hits (Hits.at_name i c v f) = not-both true refl (never-open c)
  no-hits (Hits.at_fresh i y c v f) = not-both true refl (never-open c)
  no-hits (Hits.at_opening {k = k} {b = b} i c f) = shut k b i

pub not_opened : (t : List ℕ) (p : ℕ) → opens t p ≡ false → (k b : ℕ) → Is (nodes_of t) k (sandbox p b) → ⊥
unfolding opens
not_opened t p h k b i =
    let (l, e) = (forms-of t).has k (sandbox p b) i in
    not-both (opens t p)
    (some_at (length t / 3) (λ k. is_opening_lem p (forms_in t k)) k l (ap (is_opening_lem p) e ∙ eq-eqb p p refl)) h

-- a node that is no sandbox opens none
pub not_opening : (p : ℕ) (f : NodeForm) → ((s b : ℕ) → f ≡ Sandbox s b → ⊥) → false ≡ is_opening_lem p (said_by f)
not_opening p End h = refl
not_opening p (OnStatic a s) h = refl
not_opening p (OnName a n) h = refl
not_opening p (Sequence a b) h = refl
not_opening p (Choice a b) h = refl
not_opening p (Loop a) h = refl
not_opening p (Back a) h = refl
not_opening p (Fresh n b) h = refl
not_opening p (Sandbox s b) h = absurd (h s b refl)

-- ── No edge ──

module _ (local : Bool) (es : List Edge) (p : ℕ) (bare : (e : Edge) → Memᴰ e es → e.policy ≡ p → ⊥) where
  unmoved : {a : ℕ} {sees : ℕ → ℕ → Type 0} {q q' : ℕ} → Moves es p a sees q q' → q ≡ q'
  unmoved (along e m f) = absurd (bare e m f.policy)
  unmoved (stays n) = refl

  at-start : {xs : List ℕ} {past : Past} {q : ℕ} → May local es p (Sees xs) past q → 0 ≡ q
  at-start start = refl
  at-start (moved m v) = at-start m ∙ unmoved v
  at-start (opened {s = s} {past = past} m) = go (local && (eqb s p && not (is_open p past))) (at-start m)
    where
      go : {q : ℕ} (b : Bool) → 0 ≡ q → 0 ≡ cond b 0 q
      go true e = refl
      go false e = e
  at-start (closed m) = at-start m
  at-start (retired m) = at-start m

  start-good : {q : ℕ} → 0 ≡ q → Offending q → ⊥
  start-good e (inl f) = omega arith
  start-good e (inr f) = omega arith

  pub never-broken : {past : Past} → Broken local es p past → ⊥
  never-broken (xs, i, q, m, f) = start-good (at-start m) f

pub no_edge : (t : List ℕ) (p : ℕ) → has_edge_lem t p ≡ false → (e : Edge) → Memᴰ e (edges_of t) → e.policy ≡ p → ⊥
unfolding has_edge_lem
no_edge t p h e m d =
    let (i, l, f) = (edges-member t e).0 m in
    not-both (has_edge_lem t p) (some_at (length t / 6) (λ i. eqb (get_or t (6 * i) 0) p) i l
    (eq-eqb (get_or t (6 * i) 0) p (ap (λ (g : Edge). g.policy) (sym f) ∙ d))) h

-- a policy without an edge leaves no trace
pub bare-leaves : (local : Bool) (t : List ℕ) (ns : List Node) (p : ℕ) → has_edge_lem t p ≡ false → Leaves local (edges_of t) ns p → ⊥
bare-leaves local t ns p h l = never-broken local (edges_of t) p (no_edge t p h) l.2.1
