-- What the theorem asks can be met: an outline with a sandbox, a fresh name and an event on it, and one edge that it breaks.
use Prim.Native.Nat.{ℕ, zero, suc}
use mathlib.Core.Bool.{Bool, true, false}
use mathlib.Core.Path.{◌≡◌, refl, sym, subst}
use mathlib.Core.Option.{some}
use mathlib.Core.List.Memᴰ
use mathlib.Core.List.{List, [], ◌∷◌}
use mathlib.Core.Logic.{◌⊎◌, inl, inr}
use native.Mathlib.Omega.{arith}
use lib.ListN.{length}
use Rattle.usage.specs.declared.Edge.{Edge}
use Rattle.usage.specs.declared.Node.{Node}
use Rattle.usage.specs.Policy.{PairPolicy, single, Sees, own, Fires, Moves, along, stays, EdgeOk, EdgesOk}
use Rattle.usage.specs.Past.{Past, Violates, Numbered}
use Rattle.usage.specs.Tests.{some_of}
use Rattle.usage.specs.Outline.{Form, form_of, form_at, Is, end, static_event, named_event, sequence, choice, loop, back, fresh, sandbox, IsTrace}
use Rattle.usage.specs.Check.{Leaves}
use Rattle.usage.proofs.Logic.{clash}
use Rattle.checker_account.specs.Account.{Comes, by_action, Hits}
use Rattle.checker_account.specs.Views.{Watched, Chosen, stand_in, keep_if, awaited, views, given}
use Rattle.checker_account.proofs.Scoped.{Scoped}
use Rattle.checker_account.proofs.Exact.{exact, shortest-sound}

-- policy 0: action 2 on x is an offence
abbrev edge : Edge
edge = record { policy = 0; «from» = 0; action = 2; on = 1; who = 0; to = 6 }

abbrev es : List Edge
es = edge ∷ []

-- sandbox 0 { fresh n; 2(n) }
abbrev ns : List Node
ns = record { kind = 8; a = 0; b = 1 } ∷ record { kind = 7; a = 0; b = 2 } ∷ record { kind = 2; a = 2; b = 0 } ∷ []

abbrev scope : ℕ → ℕ → Type 0
scope k m = (k ≡ 2) × (m ≡ 0)

edge-ok : EdgeOk edge
edge-ok = record {
  policy = omega arith;
  «from» = omega arith;
  action = omega arith;
  on = omega arith;
  who_static = λ e. omega arith;
  who_unused = λ d. refl;
  to = omega arith;
}

no-pair : (p : ℕ) → PairPolicy es p → ⊥
no-pair p h = let g : h.edge ≡ edge = Memᴰ.eq_of_singleton h.listed in let a : h.edge.on ≡ 1 = cc in omega (arith, h.second)

edges : EdgesOk es
edges = record {
  few = omega arith;
  each = λ e m. subst EdgeOk (sym (Memᴰ.eq_of_singleton m)) edge-ok;
  few_pairs = λ a b c l k i j h. no-pair a i;
}

Three : ℕ → Form → Type 0
Three k f = ((k ≡ 0) × (f ≡ sandbox 0 1)) ⊎ (((k ≡ 1) × (f ≡ fresh 0 2)) ⊎ ((k ≡ 2) × (f ≡ named_event 2 0)))

is : (k : ℕ) (f : Form) → form_at ns k ≡ some f → Three k f
unfolding Three form_of
is zero f e = inl (refl, cc)
is (suc zero) f e = inr (inl (refl, cc))
is (suc (suc zero)) f e = inr (inr (refl, cc))
is (suc (suc (suc k))) f e = clash (cc)

Other : Form → Type 0
Other end = Unit {0}
Other (static_event a s) = Unit {0}
Other (named_event a n) = ⊥
Other (sequence a b) = Unit {0}
Other (choice a b) = Unit {0}
Other (loop a) = Unit {0}
Other (back a) = Unit {0}
Other (fresh n b) = ⊥
Other (sandbox s b) = ⊥

none_other : (k : ℕ) (f : Form) → Other f → Three k f → ⊥
unfolding Three Other
none_other k f o (inl (d, e)) = subst Other e o
none_other k f o (inr (inl (d, e))) = subst Other e o
none_other k f o (inr (inr (d, e))) = subst Other e o

at_name : (k a n : ℕ) → Three k (named_event a n) → (k ≡ 2) × (n ≡ 0)
unfolding Three
at_name k a n (inl (d, e)) = clash (cc)
at_name k a n (inr (inl (d, e))) = clash (cc)
at_name k a n (inr (inr (d, e))) = (d, cc)

acts : (k a n : ℕ) → Three k (named_event a n) → a ≡ 2
unfolding Three
acts k a n (inl (d, e)) = clash (cc)
acts k a n (inr (inl (d, e))) = clash (cc)
acts k a n (inr (inr (d, e))) = cc

at_fresh : (k n b : ℕ) → Three k (fresh n b) → (n ≡ 0)
unfolding Three
at_fresh k n b (inl (d, e)) = clash (cc)
at_fresh k n b (inr (inl (d, e))) = cc
at_fresh k n b (inr (inr (d, e))) = clash (cc)

at-sandbox : (k s b : ℕ) → Three k (sandbox s b) → (b ≡ 1)
unfolding Three
at-sandbox k s b (inl (d, e)) = cc
at-sandbox k s b (inr (inl (d, e))) = clash (cc)
at-sandbox k s b (inr (inr (d, e))) = clash (cc)

outline : Scoped ns scope
unfolding Other
outline = record {
  static-acts = λ {k} i. absurd (none_other k _ tt (is k _ i.form));
  name-acts = λ {k} i. let h = acts k _ _ (is k _ i.form) in omega arith;
  static-small = λ {k} i. absurd (none_other k _ tt (is k _ i.form));
  name-small = λ {k} i. let h = at_name k _ _ (is k _ i.form) in omega arith;
  fresh-small = λ {k} i. let h = at_fresh k _ _ (is k _ i.form) in omega arith;
  root = λ s. omega arith;
  used = λ {k} i. at_name k _ _ (is k _ i.form);
  first = λ {k} i m s. absurd (none_other k _ tt (is k _ i.form));
  second = λ {k} i m s. absurd (none_other k _ tt (is k _ i.form));
  left = λ {k} i m s. absurd (none_other k _ tt (is k _ i.form));
  right = λ {k} i m s. absurd (none_other k _ tt (is k _ i.form));
  body = λ {k} i m s. absurd (none_other k _ tt (is k _ i.form));
  again = λ {k} i m s. absurd (none_other k _ tt (is k _ i.form));
  given = λ {k} i m s. let h = at_fresh k _ _ (is k _ i.form) in inl (omega arith);
  inside = λ {k} i m s. let h = at-sandbox k _ _ (is k _ i.form) in absurd (omega arith);
}

-- creating x moves nothing
created : Moves es 0 0 (Sees (16 ∷ []) 16) 0 0
created = stays (λ e m (f : Fires e 0 0 (Sees (16 ∷ []) 16) 0). let g : e ≡ edge = Memᴰ.eq_of_singleton m in let a : e.action
    ≡ 2 = cc in let b : e.action ≡ 0 = f.action in omega arith)

-- action 2 on x does
used : Moves es 0 2 (Sees (16 ∷ []) (stand_in (16 ∷ 18 ∷ 18 ∷ 18 ∷ []) 0)) 0 6
used = along edge (Memᴰ.head refl) (record { policy = refl; «from» = refl; action = refl; label = own refl })

at-0 : Is ns 0 (sandbox 0 1)
unfolding form_of
at-0 = record { form = refl }

at_1 : Is ns 1 (fresh 0 2)
unfolding form_of
at_1 = record { form = refl }

at-2 : Is ns 2 (named_event 2 0)
unfolding form_of
at-2 = record { form = refl }

-- after the opening and the creation, under both meanings: the sandbox is the first to open the policy
comes : (local : Bool) → Comes local es ns 0 (views (16 ∷ [])) 2 true 2 (16 ∷ 18 ∷ 18 ∷ 18 ∷ []) [] 0
unfolding keep_if some_of
comes true = Comes.created at_1 (given (awaited (Memᴰ.head refl))) (Comes.inside at-0 Comes.begins) created
comes false = Comes.created at_1 (given (awaited (Memᴰ.head refl))) (Comes.inside at-0 Comes.begins) created

hits : (local : Bool) → Hits local es ns 0 (views (16 ∷ [])) 3 (by_action 2)
hits local = Hits.at_name at-2 (comes local) used (inl refl)

chosen : Chosen es 0 (16 ∷ [])
chosen = record { watches = Watched.one {x = 16} (omega arith); fits = single (no-pair 0) }

pub leaves : (local : Bool) → Leaves local es ns 0
leaves local = (exact local es ns scope 0 edges outline).1 (16 ∷ [], chosen, 3, by_action 2, hits local)

-- by just three steps, the resource being 16
pub three : (local : Bool) → (past : Past) × IsTrace ns past × Numbered past × Violates local es 0 past × (length past ≡ 3)
three local = shortest-sound local es ns scope 0 edges outline chosen (hits local)
