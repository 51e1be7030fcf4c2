-- Laws of what the readers answer: of nodes that are added, of what a sign joins, and of what a bracket holds.
use Prim.Native.Nat.{ℕ, zero, suc, ◌+◌, ◌-◌, ◌<◌, ◌≤◌}
use mathlib.Core.Path.{◌≡◌, refl, sym, ap, ap₂, subst, subst₂, fun_ext, ◌∙◌}
use mathlib.Core.Bool.{Bool, true, false, cond}
use mathlib.Core.List.{List, [], ◌∷◌, ◌++◌, map, append_assoc, append-nil}
use native.Mathlib.Omega.{arith}
use native.Mathlib.Nat.{add-zero}
use native.Mathlib.Numerals.{add-one}
use lib.ListN.{get_elem?, length, take, drop}
use lib.Seq.{take_at, drop_at}
use borrow.Author.Tests.{lt-ltb}
use Rattle.std.specs.Prelude.{Option as Maybe, Result, Ok, Err}
use Rattle.usage.specs.declared.Node.{Node}
use Rattle.usage.specs.declared.Reason.{Reason}
use Rattle.usage.specs.declared.Reason.TheVariants.{ExpressionByte, NestedTooDeep}
use Rattle.usage.specs.Tables.{node_at_lem}
use Rattle.usage.specs.Outline.{give}
use Rattle.usage.proofs.TableLaws.{length_from}
use Rattle.sheet_grammar.specs.Tree.{Tree}
use Rattle.sheet_grammar.specs.Grammar.{Bracket, closer, bracketed, Sign, sign_byte, joined_by, Phrase, many, item, choice_phrase, each}
use Rattle.sheet_grammar.specs.Outcome.{Out, ok, bad}
use Rattle.sheet_grammar.specs.Reader.{byte_is, head_at, Head, opens, read, more}
use Rattle.sheet_grammar.specs.Rules.{Reads}
use Rattle.sheet_grammar.specs.Nodes.{tree_size, Loops, LoopsBelow, node_with, nodes_from}
use Rattle.sheet_grammar.proofs.NodeLaws.{size-pos}
use Rattle.sheet_grammar.proofs.SizeLaws.{sized, joined-size, opens-label}
use Rattle.sheet_expression.specs.declared.numbering.NodeList.{NodeList}
use Rattle.sheet_expression.specs.Code.{
  listed_nodes,
  shifted,
  loops_of,
  Grown,
  bracket_nodes,
  inside_of,
  Opened,
  LabelOk,
  Bound,
  closed_by,
  Joined,
  Fits,
  PhraseAnswer,
  next_number,
}
use Rattle.sheet_expression.proofs.ShiftLaws.{kind_of, joins}
use Rattle.sheet_expression.specs.declared.phrases.Read.{Read}

-- ── One node ──

pub grown-one : {loops : Loops} {a r : NodeList} {t : Tree} → tree_size t ≡ 1 → r.count ≡ a.count + 1
    → (a.count < 64 → listed_nodes r ≡ listed_nodes a ++ nodes_from loops a.count t) → Grown loops a r t
grown-one e f g = record { count = omega arith; nodes = λ l. g (omega arith) }

pub next-is : (k : ℕ) → k < 64 → next_number k ≡ suc k
next-is k l = rw (lt-ltb k 64 l, add-one k)

pub opened-none : (a : NodeList) → Opened Bracket.round a a
opened-none a = record { count = sym (add-zero a.count); nodes = λ l. sym (append-nil (listed_nodes a)) }

pub opened_one : {b : Bracket} {a r : NodeList} (n : Node) → bracket_nodes b a.count ≡ n ∷ [] → r.count ≡ a.count + 1
    → (a.count < 64 → listed_nodes r ≡ listed_nodes a ++ (n ∷ [])) → Opened b a r
opened_one {b} {a} {r} n e f g =
    let z : length (bracket_nodes b a.count) ≡ 1 = ap length e in
    record { count = omega arith; nodes = λ l. g (omega arith) ∙ ap (λ (xs : List Node). listed_nodes a ++ xs) (sym e) }

-- ── What a sign joins ──

-- the nodes before, and then those of two trees, with a node put between
listing : (a : NodeList) (loops : Loops) (l : Sign) (t u : Tree) (ns : List Node)
    → ns ≡ listed_nodes a ++ (nodes_from loops a.count t ++ nodes_from loops (a.count + tree_size t) u)
    → a.count + tree_size t + tree_size u < 64 → LoopsBelow loops a.count
    → take a.count ns ++ (node_with (kind_of l) (a.count + 1) (a.count + tree_size t + 1) ∷ map (shifted a.count) (drop a.count ns))
    ≡ listed_nodes a ++ nodes_from loops a.count (joined_by l t u)
listing a loops l t u ns e h b =
    let n = count-is a in
    let x : take a.count ns ≡ listed_nodes a = ap (λ (xs : List Node). take a.count xs) e
    ∙ take_at (listed_nodes a) (nodes_from loops a.count t ++ nodes_from loops (a.count + tree_size t) u) a.count n in
    let y : drop a.count ns ≡ nodes_from loops a.count t ++ nodes_from loops (a.count + tree_size t) u = ap
    (λ (xs : List Node). drop a.count xs) e ∙ drop_at (listed_nodes a)
    (nodes_from loops a.count t ++ nodes_from loops (a.count + tree_size t) u) a.count n in
    ap₂ (λ (xs ys : List Node). xs ++ (node_with (kind_of l) (a.count + 1) (a.count + tree_size t + 1) ∷ map (shifted a.count) ys)) x y
    ∙ ap (λ (xs : List Node). listed_nodes a ++ xs) (joins l loops a.count t u h b)
  where
    count-is : (a : NodeList) → length (listed_nodes a) ≡ a.count
    count-is a = unfold listed_nodes in length_from (node_at_lem a.table) 0 a.count

module _ (l : Sign) (s : List ℕ) (at nest : ℕ) (loops : List (Maybe ℕ)) (a : NodeList) where
  -- r is what was read so far
  pub record Going (r : Read) : Type 0 where
    pub tree : Tree
    pub came : (out : Out) → Reads s (more l tree) r.at nest out → Reads s (read (many l)) at nest out
    pub grown : Grown (loops_of loops) a r.nodes tree
    pub past : at + tree_size tree ≤ r.at
    pub within : r.at ≤ length s

  pub going-first : {r : Read} → PhraseAnswer (each l) s at nest loops a (Ok r) → Going r
  going-first {r} x = go x.out x.reads x.fits
    where
      go : (out : Out) → Reads s (read (each l)) at nest out → Fits (loops_of loops) a out (Ok r) → Going r
      go (ok t e) p (v, g) =
          let h = sized p in
          let i = h.0 in
          let j = h.1 in
          record {
            tree = t;
            came = λ out q. Reads.first p (subst (λ (k : ℕ). Reads s (more l t) k nest out) v q);
            grown = g;
            past = omega arith;
            within = omega arith;
          }
      go (bad c i) p f = absurd f

  pub first-refused : {c : Reason} → PhraseAnswer (each l) s at nest loops a (Err c) → PhraseAnswer (many l) s at nest loops a (Err c)
  first-refused {c} x = go x.out x.reads x.fits
    where
      go : (out : Out) → Reads s (read (each l)) at nest out → Fits (loops_of loops) a out (Err c)
          → PhraseAnswer (many l) s at nest loops a (Err c)
      go (ok t e) p f = absurd f
      go (bad d i) p f = record { out = bad d i; reads = Reads.first_bad p; fits = f }

  pub going_done : {r : Read} → Going r → byte_is (get_elem? s r.at) (sign_byte l) ≡ false → PhraseAnswer (many l) s at nest loops a (Ok r)
  going_done {r} g x = record { out = ok g.tree r.at; reads = g.came _ (Reads.done x); fits = (refl, g.grown) }

  pub next-refused : {r : Read} {c : Reason} → Going r → byte_is (get_elem? s r.at) (sign_byte l) ≡ true
      → PhraseAnswer (each l) s (r.at + 1) nest loops r.nodes (Err c) → PhraseAnswer (many l) s at nest loops a (Err c)
  next-refused {r} {c} g x y = go y.out y.reads y.fits
    where
      go : (out : Out) → Reads s (read (each l)) (r.at + 1) nest out → Fits (loops_of loops) r.nodes out (Err c)
          → PhraseAnswer (many l) s at nest loops a (Err c)
      go (ok t e) p f = absurd f
      go (bad d i) p f =
          record {
            out = bad d i;
            reads = g.came _ (Reads.next_bad x
                (subst (λ (k : ℕ). Reads s (read (each l)) k nest (bad d i)) (add-one r.at) p));
            fits = f;
          }

  pub going_next : {r n : Read} {q : NodeList} → Going r → byte_is (get_elem? s r.at) (sign_byte l) ≡ true
      → LoopsBelow (loops_of loops) a.count → PhraseAnswer (each l) s (r.at + 1) nest loops r.nodes (Ok n)
      → Joined (kind_of l) a.count r.nodes.count n.nodes q → Going (record { nodes = q; at = n.at })
  going_next {r} {n} {q} g x b y j = go y.out y.reads y.fits
    where
      go : (out : Out) → Reads s (read (each l)) (r.at + 1) nest out → Fits (loops_of loops) r.nodes out (Ok n)
          → Going (record { nodes = q; at = n.at })
      go (ok u e) p (v, h) =
          let t = g.tree in
          let i = sized p in
          let i₀ = i.0 in
          let i₁ = i.1 in
          let k = g.past in
          let c₁ = g.grown.count in
          let c₂ = h.count in
          let c₃ = j.count in
          let m = joined-size l t u in
          let p' : Reads s (read (each l)) (suc r.at) nest (ok u e) = subst (λ (k : ℕ). Reads s (read (each l)) k nest (ok u e))
          (add-one r.at) p in
          record {
            tree = joined_by l t u;
            came = λ out o. g.came out (Reads.next x p' (subst (λ (k : ℕ). Reads s (more l (joined_by l t u)) k nest out) v o));
            grown = record { count = omega arith; nodes = λ f. grew u h (omega arith) };
            past = omega arith;
            within = omega arith;
          }
        where
          grew : (u : Tree) → Grown (loops_of loops) r.nodes n.nodes u → n.nodes.count < 64
              → listed_nodes q ≡ listed_nodes a ++ nodes_from (loops_of loops) a.count (joined_by l g.tree u)
          grew u h f =
              let c₁ = g.grown.count in
              let c₂ = h.count in
              let x₁ = g.grown.nodes (omega arith) in
              let x₂ = h.nodes (omega arith) in
              j.nodes f
              ∙ ap (λ (k : ℕ). take a.count (listed_nodes n.nodes) ++
              (node_with (kind_of l) (a.count + 1) (k + 1) ∷ map (shifted a.count) (drop a.count (listed_nodes n.nodes)))) c₁
              ∙ listing a (loops_of loops) l g.tree u (listed_nodes n.nodes)
              (x₂ ∙ ap₂ (λ (xs : List Node) (k : ℕ). xs ++ nodes_from (loops_of loops) k u) x₁ c₁
              ∙ append_assoc (listed_nodes a) (nodes_from (loops_of loops) a.count g.tree)
              (nodes_from (loops_of loops) (a.count + tree_size g.tree) u))
              (omega arith) b
      go (bad c i) p f = absurd f

-- ── What a bracket holds ──

around-nodes : (b : Bracket) (loops : Loops) (k : ℕ) (t : Tree)
    → nodes_from loops k (bracketed b t) ≡ bracket_nodes b k ++ nodes_from (inside_of b loops k) (k + length (bracket_nodes b k)) t
unfolding nodes_from
around-nodes Bracket.round loops k t = ap (λ (j : ℕ). nodes_from loops j t) (sym (add-zero k))
around-nodes (Bracket.loop l) loops k t = ap (λ (j : ℕ). node_with 5 (suc k) 0 ∷ nodes_from (give loops l k) j t) (sym (add-one k))
around-nodes (Bracket.fresh n) loops k t = ap (λ (j : ℕ). node_with 7 n (suc k) ∷ nodes_from loops j t) (sym (add-one k))
around-nodes (Bracket.sandbox p) loops k t = ap (λ (j : ℕ). node_with 8 p (suc k) ∷ nodes_from loops j t) (sym (add-one k))

around-count : (b : Bracket) (k : ℕ) (t : Tree) → length (bracket_nodes b k) + tree_size t ≡ tree_size (bracketed b t)
unfolding tree_size
around-count Bracket.round k t = omega arith
around-count (Bracket.loop l) k t = omega arith
around-count (Bracket.fresh n) k t = omega arith
around-count (Bracket.sandbox p) k t = omega arith

pub bracket-small : (b : Bracket) (k : ℕ) → length (bracket_nodes b k) ≤ 1
bracket-small Bracket.round k = omega arith
bracket-small (Bracket.loop l) k = omega arith
bracket-small (Bracket.fresh n) k = omega arith
bracket-small (Bracket.sandbox p) k = omega arith

grown-around : {b : Bracket} {loops around' : List (Maybe ℕ)} {a inner r : NodeList} {t : Tree} → Opened b a inner
    → Bound b loops a.count around' → LabelOk b → Grown (loops_of around') inner r t → Grown (loops_of loops) a r (bracketed b t)
grown-around {b} {loops} {around'} {a} {inner} {r} {t} o d k g =
    let c₁ = o.count in
    let c₂ = g.count in
    let m = around-count b a.count t in
    let z = size-pos t in
    record {
      count = omega arith;
      nodes = λ h.
          let f : loops_of around' ≡ inside_of b (loops_of loops) a.count = fun_ext (λ l. d.means k (omega arith) l) in
          g.nodes h
          ∙ ap₂ (λ (xs : List Node) (ys : List Node). xs ++ ys) (o.nodes (omega arith)) (ap₂ (λ (e : Loops) (j : ℕ). nodes_from e j t) f c₁)
          ∙ append_assoc (listed_nodes a) (bracket_nodes b a.count) (nodes_from (inside_of b (loops_of loops) a.count)
          (a.count + length (bracket_nodes b a.count)) t)
          ∙ ap (λ (xs : List Node). listed_nodes a ++ xs) (sym (around-nodes b (loops_of loops) a.count t));
    }

-- one level of nesting less
less : (P : ℕ → Type 0) (n : ℕ) → (n ≡ 0 → ⊥) → ((m : ℕ) → n - 1 ≡ m → P (suc m)) → P n
less P zero h f = absurd (h refl)
less P (suc m) h f = f m (omega arith)

module _ (s : List ℕ) (at nest : ℕ) (loops : List (Maybe ℕ)) (a : NodeList) where
  pub item-wrong : {i : ℕ} → head_at s at ≡ Head.wrong i → PhraseAnswer item s at nest loops a (Err ExpressionByte)
  item-wrong {i} x = record { out = bad 15 i; reads = Reads.wrong x; fits = refl }

  pub item-atom : {t : Tree} {e : ℕ} {n : NodeList} → head_at s at ≡ Head.atom t e → Grown (loops_of loops) a n t
      → PhraseAnswer item s at nest loops a (Ok (record { nodes = n; at = e }))
  item-atom {t} {e} x g = record { out = ok t e; reads = Reads.atom x; fits = (refl, g) }

  pub item-deep : {b : Bracket} {i : ℕ} → head_at s at ≡ opens b i → nest ≡ 0 → PhraseAnswer item s at nest loops a (Err NestedTooDeep)
  item-deep {b} {i} x e =
      record { out = bad 16 i; reads = subst (λ (n : ℕ). Reads s (read item) at n (bad 16 i)) (sym e) (Reads.deep x); fits = refl }

  module _ (b : Bracket) (i : ℕ) (x : head_at s at ≡ opens b i) (h : nest ≡ 0 → ⊥) (around' : List (Maybe ℕ)) (inner : NodeList) where
    deeper : (out out' : Out) → ((m : ℕ) → Reads s (read choice_phrase) (suc i) m out → Reads s (read item) at (suc m) out')
        → Reads s (read choice_phrase) (i + 1) (nest - 1) out → Reads s (read item) at nest out'
    deeper out out' f p =
        less (λ (n : ℕ). Reads s (read item) at n out') nest h (λ m e. f m
        (subst₂ (λ (j k : ℕ). Reads s (read choice_phrase) j k out) (add-one i) e p))

    pub inner-refused : {c : Reason} → PhraseAnswer choice_phrase s (i + 1) (nest - 1) around' inner (Err c)
        → PhraseAnswer item s at nest loops a (Err c)
    inner-refused {c} y = go y.out y.reads y.fits
      where
        go : (out : Out) → Reads s (read choice_phrase) (i + 1) (nest - 1) out → Fits (loops_of around') inner out (Err c)
            → PhraseAnswer item s at nest loops a (Err c)
        go (ok t e) p f = absurd f
        go (bad d j) p f = record { out = bad d j; reads = deeper (bad d j) (bad d j) (λ m q. Reads.inner_bad x q) p; fits = f }

    module _ (r : Read) (y : PhraseAnswer choice_phrase s (i + 1) (nest - 1) around' inner (Ok r)) where
      by-inner : (Q : Type 0) → ((t : Tree) → Reads s (read choice_phrase) (i + 1) (nest - 1) (ok t r.at)
          → Grown (loops_of around') inner r.nodes t → Q) → Q
      by-inner Q f = go y.out y.reads y.fits
        where
          go : (out : Out) → Reads s (read choice_phrase) (i + 1) (nest - 1) out → Fits (loops_of around') inner out (Ok r) → Q
          go (ok t e) p (v, g) = f t (subst (λ (j : ℕ). Reads s (read choice_phrase) (i + 1) (nest - 1) (ok t j)) (sym v) p) g
          go (bad c j) p u = absurd u

      -- where the choice in it ends
      pub inner-end : r.at ≤ length s
      inner-end = by-inner _ (λ t p g. let k = (sized p).1 in omega arith)

      pub item-bracket : {q : Result Read Reason} → Opened b a inner → Bound b loops a.count around' → LabelOk b → q ≡ closed_by s b r
          → PhraseAnswer item s at nest loops a q
      item-bracket {q} o d k w = by-inner _ (λ t p g. closes t p g (byte_is (get_elem? s r.at) (closer b)) refl w)
        where
          closes : (t : Tree) → Reads s (read choice_phrase) (i + 1) (nest - 1) (ok t r.at) → Grown (loops_of around') inner r.nodes t
              → (c : Bool) → byte_is (get_elem? s r.at) (closer b) ≡ c
              → q ≡ cond c (Ok (record { nodes = r.nodes; at = r.at + 1 })) (Err ExpressionByte) → PhraseAnswer item s at nest loops a q
          closes t p g true c f =
              rw f (record {
                out = ok (bracketed b t) (suc r.at);
                reads = deeper (ok t r.at) (ok (bracketed b t) (suc r.at)) (λ m n. Reads.bracket x n c) p;
                fits = (add-one r.at, grown-around o d k g);
              })
          closes t p g false c f =
              rw f (record {
                out = bad 15 r.at;
                reads = deeper (ok t r.at) (bad 15 r.at) (λ m n. Reads.unclosed x n c) p;
                fits = refl;
              })

-- ── How far ──

pub record Far (s : List ℕ) (at : ℕ) (a : NodeList) (r : Read) : Type 0 where
  pub tree : Tree
  pub some_node : 0 < tree_size tree
  pub count : r.nodes.count ≡ a.count + tree_size tree
  pub past : at + tree_size tree ≤ r.at
  pub within : r.at ≤ length s

-- how far an answer that is no refusal goes
pub far : {p : Phrase} {s : List ℕ} {at n : ℕ} {loops : List (Maybe ℕ)} {a : NodeList} {r : Read}
    → PhraseAnswer p s at n loops a (Ok r) → Far s at a r
far {p} {s} {at} {n} {loops} {a} {r} x = go x.out x.reads x.fits
  where
    go : (out : Out) → Reads s (read p) at n out → Fits (loops_of loops) a out (Ok r) → Far s at a r
    go (ok t e) q (v, g) =
        let h = sized q in
        let i = h.0 in
        let j = h.1 in
        record { tree = t; some_node = size-pos t; count = g.count; past = omega arith; within = omega arith }
    go (bad c i) q f = absurd f

pub label-ok : (s : List ℕ) (at i : ℕ) (b : Bracket) → head_at s at ≡ opens b i → LabelOk b
label-ok s at i Bracket.round x = tt
label-ok s at i (Bracket.loop l) x = opens-label s at l i x
label-ok s at i (Bracket.fresh n) x = tt
label-ok s at i (Bracket.sandbox p) x = tt
