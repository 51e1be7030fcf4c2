-- What some run comes to (`Comes`, `Hits`) and what the root can come to (`Goes`) are the same.
use Prim.Native.Nat.{ℕ, suc, ◌+◌}
use mathlib.Core.Path.{◌≡◌, subst}
use mathlib.Core.Bool.{Bool, false}
use mathlib.Core.Option.{Option}
use mathlib.Core.List.{List}
use mathlib.Core.Logic.{◌↔◌}
use native.Mathlib.Omega.{arith}
use Rattle.usage.specs.declared.Edge.{Edge}
use Rattle.usage.specs.declared.Node.{Node}
use Rattle.usage.specs.Limits.{create}
use Rattle.checker_account.specs.Account.{Sight, Last, by_action, by_opening, Counts, Aim, Goes, Breaks, Comes, Hits}

module _ (local : Bool) (es : List Edge) (ns : List Node) (p : ℕ) (S : Sight) where
  abbrev pub Root : ℕ → Option Last → Type 0
  Root n u = Breaks local es ns p S n false 0 S.first_meaning S.first_left 0 u

  pub goes_in : {n m : ℕ} {o : Bool} {k : ℕ} {w : S.Meaning} {c : S.Left} {q : ℕ} {t : Aim S.Left} → n ≡ m
      → Goes local es ns p S n o k w c q t
      → Goes local es ns p S m o k w c q t
  goes_in {o = o} {k = k} {w = w} {c = c} {q = q} {t = t} e d = subst (λ (n : ℕ). Goes local es ns p S n o k w c q t) e d

  -- a node that is come to and can break p: so can the root
  from-root : {n m : ℕ} {o : Bool} {k : ℕ} {w : S.Meaning} {c : S.Left} {q : ℕ} {u : Option Last} → Comes local es ns p S n o k w c q
      → Breaks local es ns p S m o k w c q u → Root (n + m) u
  from-root Comes.begins d = goes_in (omega arith) d
  from-root (Comes.first i e) d = from-root e (Goes.breaks_first i d)
  from-root (Comes.second i e f) d = goes_in (omega arith) (from-root e (Goes.sequences i f d))
  from-root (Comes.left i e) d = from-root e (Goes.chooses_left i d)
  from-root (Comes.right i e) d = from-root e (Goes.chooses_right i d)
  from-root (Comes.body i e) d = from-root e (Goes.enters i d)
  from-root (Comes.again i e) d = from-root e (Goes.repeats i d)
  from-root (Comes.created i y e v) d = goes_in (omega arith) (from-root e (Goes.makes i y v d))
  from-root (Comes.inside i e) d = goes_in (omega arith) (from-root e (Goes.breaks_inside i d))

  hits-root : {n : ℕ} {last : Last} (u : Option Last) → Counts u last → Hits local es ns p S n last → Root n u
  hits-root u z (Hits.at_static i e v f) = goes_in (omega arith) (from-root e (Goes.breaks_static i v f z))
  hits-root u z (Hits.at_name i e v f) = goes_in (omega arith) (from-root e (Goes.breaks_name i v f z))
  hits-root u z (Hits.at_fresh i y e v f) = goes_in (omega arith) (from-root e (Goes.breaks_fresh i y v f z))
  hits-root u z (Hits.at_opening i e f) = goes_in (omega arith) (from-root e (Goes.breaks_opening i f z))

  -- and the other way: it hits, by a step that counts
  abbrev pub Hit : ℕ → Option Last → Type 0
  Hit n u = (last : Last) × Counts u last × Hits local es ns p S n last

  hit-in : {n m : ℕ} {u : Option Last} → n ≡ m → Hit n u → Hit m u
  hit-in {u = u} e d = subst (λ (n : ℕ). Hit n u) e d

  to-hits : {n m : ℕ} {o : Bool} {k : ℕ} {w : S.Meaning} {c : S.Left} {q : ℕ} {u : Option Last} → Breaks local es ns p S m o k w c q u
      → Comes local es ns p S n o k w c q → Hit (n + m) u
  to-hits {n} (Goes.sequences {n₁ = n₁} {n₂ = n₂} i f d) e = hit-in (omega arith) (to-hits {n = n + n₁} d (Comes.second i e f))
  to-hits (Goes.chooses_left i d) e = to-hits d (Comes.left i e)
  to-hits (Goes.chooses_right i d) e = to-hits d (Comes.right i e)
  to-hits (Goes.enters i d) e = to-hits d (Comes.body i e)
  to-hits (Goes.repeats i d) e = to-hits d (Comes.again i e)
  to-hits {n} (Goes.makes i y v d) e = hit-in (omega arith) (to-hits {n = suc n} d (Comes.created i y e v))
  to-hits (Goes.breaks_static {a = a} i v f z) e = hit-in (omega arith) (by_action a, z, Hits.at_static i e v f)
  to-hits (Goes.breaks_name {a = a} i v f z) e = hit-in (omega arith) (by_action a, z, Hits.at_name i e v f)
  to-hits (Goes.breaks_fresh i y v f z) e = hit-in (omega arith) (by_action create, z, Hits.at_fresh i y e v f)
  to-hits (Goes.breaks_opening i f z) e = hit-in (omega arith) (by_opening, z, Hits.at_opening i e f)
  to-hits (Goes.breaks_first i d) e = to-hits d (Comes.first i e)
  to-hits {n} (Goes.breaks_inside i d) e = hit-in (omega arith) (to-hits {n = suc n} d (Comes.inside i e))

  pub hits-exact : (n : ℕ) (u : Option Last) → Hit n u ↔ Root n u
  hits-exact n u = (λ h. hits-root u h.1 h.2, λ d. hit-in (omega arith) (to-hits d Comes.begins))
