-- Refusal 3 is about the numbers that are written: those of children and loops are in range where there are at most 64 nodes.
use Prim.Native.Nat.{ℕ, suc, ◌+◌, ◌<◌, ◌≤◌}
use mathlib.Core.Path.{◌≡◌, refl, sym, subst}
use mathlib.Core.Option.{Option, none, some, some-injective}
use mathlib.Core.List.Memᴰ
use mathlib.Core.List.{
  List,
  [],
  ◌∷◌,
  ◌++◌,
  Memᴰ,
}
use mathlib.Core.Logic.{◌↔◌}
use native.Mathlib.Omega.{arith}
use native.Mathlib.Decide.{ℕ_discrete}
use borrow.Author.Tests.{eq-eqb, ne_eqb}
use Rattle.usage.specs.declared.Node.{Node}
use Rattle.usage.specs.Limits.{most_nodes}
use Rattle.usage.specs.Outline.{no_names, give}
use Rattle.usage.specs.Valid.{NodeOk}
use Rattle.usage.proofs.Logic.{by_cases, none-some}
use Rattle.sheet_grammar.specs.Tree.{Tree, end, static_event, named_event, sequence, choice, loop, back, fresh, sandbox}
use Rattle.sheet_grammar.specs.Nodes.{tree_size, Loops, LoopsBelow, back_to, nodes_from, tree_nodes, InRange}
use Rattle.sheet_grammar.proofs.NodeLaws.{size-pos}

abbrev AllOk : List Node → Type 0
AllOk ns = (n : Node) → Memᴰ n ns → NodeOk n

ok-cons : {n : Node} {ns : List Node} → NodeOk n → AllOk ns → AllOk (n ∷ ns)
ok-cons x f m i = by_cases (Memᴰ.cases_cons i) (λ e. subst NodeOk (sym e) x) (λ j. f m j)

ok-nil : AllOk []
ok-nil m i = absurd (Memᴰ.not-nil i)

ok-append : {xs ys : List Node} → AllOk xs → AllOk ys → AllOk (xs ++ ys)
ok-append {xs} f g m i = by_cases (Memᴰ.append_cases xs i) (λ j. f m j) (λ j. g m j)

ok-first : {n : Node} {ns : List Node} → AllOk (n ∷ ns) → NodeOk n
ok-first f = f _ (Memᴰ.head refl)

ok-rest : {n : Node} {ns : List Node} → AllOk (n ∷ ns) → AllOk ns
ok-rest f m i = f m (Memᴰ.tail i)

pub below_more : {loops : Loops} {k m : ℕ} → LoopsBelow loops k → k ≤ m → LoopsBelow loops m
below_more f h l i e = let g = f l i e in omega arith

pub below-give : {loops : Loops} {k : ℕ} (m : ℕ) → LoopsBelow loops k → LoopsBelow (give loops m k) (suc k)
unfolding give
below-give {loops} {k} m f l i e = go (ℕ_discrete l m)
  where
    go : Dec (l ≡ m) → i < suc k
    go (yes x) = let z : k ≡ i = some-injective k i (rw (eq-eqb l m x) at e) in omega arith
    go (no x) = let h = f l i (rw (ne_eqb l m x) at e) in omega arith

meant_small : (o : Option ℕ) (k : ℕ) → k ≤ 63 → ((i : ℕ) → o ≡ some i → i < k) → back_to o k ≤ 63
meant_small none k h f = h
meant_small (some i) k h f = let g = f i refl in omega arith

pub in_range_lem : (loops : Loops) (k : ℕ) (t : Tree) → k + tree_size t ≤ most_nodes → LoopsBelow loops k → InRange t
    → AllOk (nodes_from loops k t)
unfolding nodes_from tree_size InRange NodeOk
in_range_lem loops k end h b r = ok-cons (omega arith) ok-nil
in_range_lem loops k (static_event a s) h b r = ok-cons r ok-nil
in_range_lem loops k (named_event a n) h b r = ok-cons r ok-nil
in_range_lem loops k (sequence t u) h b r =
    let p = size-pos t in
    let q = size-pos u in
    ok-cons (omega arith) (ok-append (in_range_lem loops (suc k) t (omega arith) (below_more b (omega arith)) r.0)
    (in_range_lem loops (suc k + tree_size t) u (omega arith) (below_more b (omega arith)) r.1))
in_range_lem loops k (choice t u) h b r =
    let p = size-pos t in
    let q = size-pos u in
    ok-cons (omega arith) (ok-append (in_range_lem loops (suc k) t (omega arith) (below_more b (omega arith)) r.0)
    (in_range_lem loops (suc k + tree_size t) u (omega arith) (below_more b (omega arith)) r.1))
in_range_lem loops k (loop l t) h b r =
    let p = size-pos t in ok-cons (omega arith) (in_range_lem (give loops l k) (suc k) t (omega arith) (below-give l b) r)
in_range_lem loops k (back l) h b r = let m = meant_small (loops l) k (omega arith) (λ i e. b l i e) in ok-cons (omega arith) ok-nil
in_range_lem loops k (fresh n t) h b r =
    let p = size-pos t in let x = r.0 in ok-cons (omega arith) (in_range_lem loops (suc k) t (omega arith) (below_more b (omega arith))
    r.1)
in_range_lem loops k (sandbox n t) h b r =
    let p = size-pos t in let x = r.0 in ok-cons (omega arith) (in_range_lem loops (suc k) t (omega arith) (below_more b (omega arith))
    r.1)

pub ranged : (loops : Loops) (k : ℕ) (t : Tree) → AllOk (nodes_from loops k t) → InRange t
unfolding nodes_from tree_size InRange NodeOk
ranged loops k end f = tt
ranged loops k (static_event a s) f = ok-first f
ranged loops k (named_event a n) f = ok-first f
ranged loops k (sequence t u) f =
    let g = ok-rest f in (
      ranged loops (suc k) t (λ n m. g n (Memᴰ.append_left _ m)),
      ranged loops (suc k + tree_size t) u
          (λ n m. g n (Memᴰ.append_right (nodes_from loops (suc k) t) m)),
    )
ranged loops k (choice t u) f =
    let g = ok-rest f in (
      ranged loops (suc k) t (λ n m. g n (Memᴰ.append_left _ m)),
      ranged loops (suc k + tree_size t) u
          (λ n m. g n (Memᴰ.append_right (nodes_from loops (suc k) t) m)),
    )
ranged loops k (loop l t) f = ranged (give loops l k) (suc k) t (ok-rest f)
ranged loops k (back l) f = tt
ranged loops k (fresh n t) f = ((ok-first f).0, ranged loops (suc k) t (ok-rest f))
ranged loops k (sandbox p t) f = ((ok-first f).0, ranged loops (suc k) t (ok-rest f))

-- "3 a value outside its field's range"
pub fields : (t : Tree) → tree_size t ≤ most_nodes → ((n : Node) → Memᴰ n (tree_nodes t) → NodeOk n) ↔ InRange t
fields t h = (λ f. ranged no_names 0 t f, λ r. in_range_lem no_names 0 t (omega arith) (λ l i e. none-some e) r)
