-- The reader answers what 02, L13 says, and what it says is one answer.
use Prim.Native.Nat.{ℕ, suc, ◌+◌, ◌<◌, ◌≤◌}
use mathlib.Core.Path.{◌≡◌, refl, sym, ap, subst, ◌∙◌}
use mathlib.Core.Bool.{true}
use mathlib.Core.List.{List}
use mathlib.Core.Logic.{◌⊎◌, inl, inr, ◌↔◌}
use native.Mathlib.Omega.{arith}
use native.Mathlib.Decide.{dec_lt}
use lib.ListN.{get_elem?, length}
use Rattle.usage.proofs.Logic.{by_cases}
use Rattle.sheet_grammar.specs.Tree.{Tree}
use Rattle.sheet_grammar.specs.Grammar.{choice_phrase, ExpressionLine}
use Rattle.sheet_grammar.specs.Places.{Could, Wrong, AfterDigit, Nests, among, opens_bracket, closes_bracket}
use Rattle.sheet_grammar.specs.Outcome.{Out, ok, bad, Shallow, Outcome}
use Rattle.sheet_grammar.specs.Reader.{byte_is, read, line_of}
use Rattle.sheet_grammar.specs.Rules.{Reads}
use Rattle.sheet_grammar.proofs.ByteLaws.{is_true}
use Rattle.sheet_grammar.proofs.RuleLaws.{in_text, past_end, codes}
use Rattle.sheet_grammar.proofs.EvenLaws.{no-nests}
use Rattle.sheet_grammar.proofs.ViableLaws.{could-less}
use Rattle.sheet_grammar.proofs.ExactLaws.{Lined, lined, lined-is, line-of, could-so-far, contradicts, accepts, unambiguous}
use Rattle.sheet_grammar.proofs.DepthLaws.{keeps}

module _ (n : ℕ) (s : List ℕ) where
  -- what is read of the text from its beginning on
  start-level : among opens_bracket s 0 ≡ 0 + among closes_bracket s 0
  unfolding among
  start-level = refl

  start-ready : AfterDigit s 0 → ⊥
  start-ready (j, d, e, l, h) = omega arith

  read-flat : {t : Tree} {e : ℕ} → Reads s (read choice_phrase) 0 n (ok t e) → Shallow n s e
  read-flat p j m l x = (keeps s p n 0 (omega arith) start-level start-ready).1 j m (omega arith) l x

  refused-flat : {c i : ℕ} → Reads s (read choice_phrase) 0 n (bad c i) → Shallow n s i
  refused-flat p j m l x = (keeps s p n 0 (omega arith) start-level start-ready).0 j m (omega arith) l x

  -- at the line feed no bracket opens
  feed-flat : {e : ℕ} → Shallow n s e → byte_is (get_elem? s e) 10 ≡ true → Shallow n s (suc e)
  feed-flat {e} f x j m l y = go (dec_lt j e)
    where
      go : Dec (j < e) → m ≤ n
      go (yes h) = f j m h y
      go (no h) =
          let z : j ≡ e = omega arith in
          absurd (no-nests s (is_true _ _ x) (omega arith) (omega arith) m (subst (λ (k : ℕ). Nests s k m) z y))

  -- ── The answer is as L13 says ──

  by_code : {c i : ℕ} → Reads s (read choice_phrase) 0 n (bad c i) → (c ≡ 15) ⊎ (c ≡ 16) → Outcome n s (bad c i)
  by_code {c} {i} p (inl e) =
      subst (λ (x : ℕ). Outcome n s (bad x i)) (sym e) (fifteen (subst (λ (x : ℕ). Reads s (read choice_phrase) 0 n (bad x i)) e p))
    where
      fifteen : Reads s (read choice_phrase) 0 n (bad 15 i) → Outcome n s (bad 15 i)
      fifteen q =
          let l = Lined.not-read q in Outcome.wrong (record {
            before = (could-so-far l).before;
            here = λ c. contradicts l c.is_line
                c.like;
          }) (refused-flat q)
  by_code {c} {i} p (inr e) =
      subst (λ (x : ℕ). Outcome n s (bad x i)) (sym e) (sixteen (subst (λ (x : ℕ). Reads s (read choice_phrase) 0 n (bad x i)) e p))
    where
      sixteen : Reads s (read choice_phrase) 0 n (bad 16 i) → Outcome n s (bad 16 i)
      sixteen q =
          Outcome.too_deep ((keeps s q n 0 (omega arith) start-level start-ready).1 refl) ((could-so-far (Lined.not-read q)).deep refl)
          (refused-flat q)

  lined-outcome : {o : Out} → Lined n s o → Outcome n s o
  lined-outcome (Lined.not-read p) = by_code p (codes p)
  lined-outcome (Lined.no_feed p x) =
      let l = Lined.no_feed p x in
      Outcome.wrong (record { before = (could-so-far l).before; here = λ c. contradicts l c.is_line c.like }) (read-flat p)
  lined-outcome (Lined.not-ended p x y) =
      let l = Lined.not-ended p x y in
      Outcome.wrong (record { before = (could-so-far l).before; here = λ c. contradicts l c.is_line c.like })
      (feed-flat (read-flat p) x)
  lined-outcome (Lined.ended {t} {e} p x y) =
      let l = line-of (Lined.ended p x y) in
      let z : ok t (length s) ≡ ok t (suc e) = sym (accepts l) ∙ lined-is n s (Lined.ended p x y) in
      subst (λ (o : Out). Outcome n s o) z (Outcome.is_line l)

  pub outcome : Outcome n s (line_of n s)
  outcome = lined-outcome (lined n s)

  -- ── It says one thing ──

  -- a line could be what it is, and none of its brackets is too deep
  line-could : {t : Tree} → ExpressionLine n s t → (i : ℕ) → Could s i
  line-could l i = record { deep = n; line = s; tree = _; is_line = l; like = λ k h. refl }

  nests-in-text : {j m : ℕ} → Nests s j m → j < length s
  nests-in-text {j} x = by_cases x.bracket (λ p. in_text s j 40 p.0) (λ p. in_text s j 123 p)

  lined_flat : {t : Tree} {e : ℕ} → Lined n s (ok t e) → (j m : ℕ) → Nests s j m → m ≤ n
  lined_flat (Lined.ended {e} p x y) j m z =
      let a = nests-in-text z in
      let b = past_end s (suc e) y in
      feed-flat (read-flat p) x j m (omega arith) z

  line-flat : {t : Tree} → ExpressionLine n s t → (j m : ℕ) → Nests s j m → m ≤ n
  line-flat l j m x = lined_flat (subst (λ (o : Out). Lined n s o) (accepts l) (lined n s)) j m x

  same-wrong : {i j : ℕ} → Wrong s i → Wrong s j → i < j → ⊥
  same-wrong {i} {j} p q l = p.here (could-less (suc i) l q.before)

  same-deep : {i j : ℕ} → Nests s i (suc n) → Shallow n s j → i < j → ⊥
  same-deep {i} p f l = let h = f i (suc n) l p in omega arith

  -- of two places neither of which is left of the other
  one_place : (i j : ℕ) → (i < j → ⊥) → (j < i → ⊥) → i ≡ j
  one_place i j a b = go (dec_lt i j) (dec_lt j i)
    where
      go : Dec (i < j) → Dec (j < i) → i ≡ j
      go (yes l) d = absurd (a l)
      go (no x) (yes l) = absurd (b l)
      go (no x) (no y) = omega arith

  -- 15 and 16 exclude each other
  not-both : {i j : ℕ} → Wrong s i → Shallow n s i → Nests s j (suc n) → Could s (suc j) → ⊥
  not-both {i} {j} w f p c = go (dec_lt j i)
    where
      go : Dec (j < i) → ⊥
      go (yes l) = same-deep p f l
      go (no l) = w.here (could-less (suc i) (omega arith) c)

  pub one-outcome : {o o' : Out} → Outcome n s o → Outcome n s o' → o ≡ o'
  one-outcome (Outcome.is_line l) (Outcome.is_line k) = ap (λ (t : Tree). ok t (length s)) (unambiguous l k)
  one-outcome (Outcome.is_line l) (Outcome.wrong {i} w f) = absurd (w.here (line-could l (suc i)))
  one-outcome (Outcome.is_line l) (Outcome.too_deep {i} p c f) = absurd (let h = line-flat l i (suc n) p in let z : ⊥ = omega arith in z)
  one-outcome (Outcome.wrong {i} w f) (Outcome.is_line l) = absurd (w.here (line-could l (suc i)))
  one-outcome (Outcome.wrong {i} w f) (Outcome.wrong {i = j} v g) =
      ap (λ (k : ℕ). bad 15 k) (one_place i j (same-wrong w v) (same-wrong v w))
  one-outcome (Outcome.wrong w f) (Outcome.too_deep p c g) = absurd (not-both w f p c)
  one-outcome (Outcome.too_deep {i} p c f) (Outcome.is_line l) = absurd (let h = line-flat l i (suc n) p in let z : ⊥ = omega arith in z)
  one-outcome (Outcome.too_deep p c f) (Outcome.wrong w g) = absurd (not-both w g p c)
  one-outcome (Outcome.too_deep {i} p c f) (Outcome.too_deep {i = j} q d g) =
      ap (λ (k : ℕ). bad 16 k) (one_place i j (same-deep p g) (same-deep q f))

  pub decided : (o : Out) → (line_of n s ≡ o) ↔ Outcome n s o
  decided o = (λ e. subst (λ (x : Out). Outcome n s x) e outcome, λ x. one-outcome outcome x)

-- ── Depth ──

-- the depth that the grammar counts is that of the brackets: a line of any depth is one of depth n exactly where no bracket of it is deeper
pub depth_is : (m n : ℕ) (s : List ℕ) (t : Tree) → ExpressionLine m s t → ExpressionLine n s t ↔ ((j k : ℕ) → Nests s j k → k ≤ n)
depth_is m n s t l = (λ k. line-flat n s k, λ f. go f (outcome n s))
  where
    go : ((j k : ℕ) → Nests s j k → k ≤ n) → {o : Out} → Outcome n s o → ExpressionLine n s t
    go f (Outcome.is_line k) = subst (λ (u : Tree). ExpressionLine n s u) (unambiguous k l) k
    go f (Outcome.wrong {i} w x) = absurd (w.here (line-could m s l (suc i)))
    go f (Outcome.too_deep {i} p c x) = absurd (let h = f i (suc n) p in let z : ⊥ = omega arith in z)
