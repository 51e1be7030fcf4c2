-- The reader accepts exactly the lines of the grammar, each in one way, and refuses with 15 exactly at the first place that no line could
-- have.
use Prim.Native.Nat.{ℕ, suc, ◌≤◌, max}
use mathlib.Core.Path.{◌≡◌, refl, sym, subst, ◌∙◌}
use mathlib.Core.Bool.{Bool, true, false, cond}
use mathlib.Core.Option.{Option, none, some}
use mathlib.Core.List.{List, [], ◌∷◌, ◌++◌, append-nil}
use native.Mathlib.Omega.{arith}
use lib.ListN.{get_elem?, length, length-append}
use Rattle.usage.proofs.Logic.{none-some, clash}
use Rattle.sheet_grammar.specs.Tree.{Tree}
use Rattle.sheet_grammar.specs.Grammar.{choice_phrase, Spells, ExpressionLine}
use Rattle.sheet_grammar.specs.Places.{Like, Wrong}
use Rattle.sheet_grammar.specs.Outcome.{Out, ok, bad}
use Rattle.sheet_grammar.specs.Reader.{byte_is, and_then, read, read_by, calls, ended_by as ended-with, feed_at, line_of}
use Rattle.sheet_grammar.specs.Rules.{Reads}
use Rattle.sheet_grammar.proofs.SliceLaws.{nil, slice-byte, slice_front, slice_all}
use Rattle.sheet_grammar.proofs.ByteLaws.{is_true, is_false, is_some}
use Rattle.sheet_grammar.proofs.RuleLaws.{whole-allowed, whole-computes, one_answer}
use Rattle.sheet_grammar.proofs.SoundLaws.{sound}
use Rattle.sheet_grammar.proofs.CompleteLaws.{found, feed-follows}
use Rattle.sheet_grammar.proofs.PlaceLaws.{weaken, deeper, local}
use Rattle.sheet_grammar.proofs.ViableLaws.{Fails, fails, refused, begins}

-- ── The rules of a line ──

pub data Lined (n : ℕ) (s : List ℕ) : Out → Type 0 where
  not-read : {c i : ℕ} → Reads s (read choice_phrase) 0 n (bad c i) → Lined n s (bad c i)
  no_feed : {t : Tree} {e : ℕ} → Reads s (read choice_phrase) 0 n (ok t e) → byte_is (get_elem? s e) 10 ≡ false → Lined n s (bad 15 e)
  not-ended : {t : Tree} {e b : ℕ} → Reads s (read choice_phrase) 0 n (ok t e) → byte_is (get_elem? s e) 10 ≡ true
      → get_elem? s (suc e) ≡ some b → Lined n s (bad 15 (suc e))
  ended : {t : Tree} {e : ℕ} → Reads s (read choice_phrase) 0 n (ok t e) → byte_is (get_elem? s e) 10 ≡ true → get_elem? s (suc e) ≡ none
      → Lined n s (ok t (suc e))

module _ (n : ℕ) (s : List ℕ) where
  ended_by_lem : (t : Tree) (e : ℕ) → Reads s (read choice_phrase) 0 n (ok t e) → byte_is (get_elem? s e) 10 ≡ true → (o : Option ℕ)
      → get_elem? s (suc e) ≡ o → Lined n s (ended-with o t (suc e))
  ended_by_lem t e p x none y = Lined.ended p x y
  ended_by_lem t e p x (some b) y = not-ended p x y

  feed-by : (t : Tree) (e : ℕ) → Reads s (read choice_phrase) 0 n (ok t e) → (x : Bool) → byte_is (get_elem? s e) 10 ≡ x
      → Lined n s (cond x (ended-with (get_elem? s (suc e)) t (suc e)) (bad 15 e))
  feed-by t e p true x = ended_by_lem t e p x (get_elem? s (suc e)) refl
  feed-by t e p false x = no_feed p x

  pub lined : Lined n s (line_of n s)
  unfolding line_of
  lined = go (read_by (calls s) s (read choice_phrase) 0 n) (whole-allowed s n)
    where
      go : (o : Out) → Reads s (read choice_phrase) 0 n o → Lined n s (and_then o (λ t e. feed_at s t e))
      go (ok t e) p = feed-by t e p (byte_is (get_elem? s e) 10) refl
      go (bad c i) p = not-read p

  pub lined-is : {o : Out} → Lined n s o → line_of n s ≡ o
  unfolding line_of
  lined-is (not-read p) = rw (whole-computes s n _ p)
  lined-is (no_feed p x) = rw (whole-computes s n _ p, x)
  lined-is (not-ended p x y) = rw (whole-computes s n _ p, x, y)
  lined-is (Lined.ended p x y) = rw (whole-computes s n _ p, x, y)

-- ── Lines are read ──

feed-at : (w : List ℕ) → (get_elem? (w ++ (10 ∷ [])) (length w) ≡ some 10) × (get_elem? (w ++ (10 ∷ [])) (suc (length w)) ≡ none)
feed-at [] = (refl, refl)
feed-at (b ∷ w) = feed-at w

-- a line, read to its line feed
pub record ReadTo (s : List ℕ) (n : ℕ) (t : Tree) : Type 0 where
  pub last : ℕ
  pub reads : Reads s (read choice_phrase) 0 n (ok t last)
  pub fed : get_elem? s last ≡ some 10
  pub over : get_elem? s (suc last) ≡ none
  pub whole : suc last ≡ length s

pub line_read : {n : ℕ} {s : List ℕ} {t : Tree} → ExpressionLine n s t → (m : ℕ) → n ≤ m → ReadTo s m t
line_read {n} {s} {t} l m h = subst (λ (x : List ℕ). ReadTo x m t) (sym l.ended) (go l.word (weaken l.is_choice m h))
  where
    go : (w : List ℕ) → Spells choice_phrase m w t → ReadTo (w ++ (10 ∷ [])) m t
    go w p =
        let f = feed-at w in
        record {
          last = length w;
          reads = found p (slice_front w (10 ∷ [])) (rw f.0 feed-follows);
          fed = f.0;
          over = f.1;
          whole = omega
              (arith, length-append w (10 ∷ []));
        }

same-tree : {t u : Tree} {e f : ℕ} → ok t e ≡ ok u f → t ≡ u
same-tree p = cc

-- "each in one way"
pub unambiguous : {m n : ℕ} {s : List ℕ} {t u : Tree} → ExpressionLine m s t → ExpressionLine n s u → t ≡ u
unambiguous {m} {n} l k = same-tree (one_answer (line_read l (max m n) (omega arith)).reads (line_read k (max m n) (omega arith)).reads)

-- ── "Exactly the lines of this grammar are read" ──

pub accepts : {n : ℕ} {s : List ℕ} {t : Tree} → ExpressionLine n s t → line_of n s ≡ ok t (length s)
accepts {n} {s} {t} l =
    let r = line_read l n (omega arith) in
    subst (λ (e : ℕ). line_of n s ≡ ok t e) r.whole (lined-is n s (Lined.ended r.reads (is_some _ _ r.fed) r.over))

pub line-of : {n : ℕ} {s : List ℕ} {t : Tree} {e : ℕ} → Lined n s (ok t e) → ExpressionLine n s t
line-of (Lined.ended p x y) =
    let m = sound p in record { word = m.word; is_choice = m.spells; ended = slice_all (slice-byte m.slice (is_true _ _ x)) y }

pub accepted : (n : ℕ) (s : List ℕ) (t : Tree) (e : ℕ) → line_of n s ≡ ok t e → ExpressionLine n s t
accepted n s t e x = line-of (subst (λ (o : Out). Lined n s o) x (lined n s))

-- ── 15 ──

-- a line of the grammar that is like the text up to the place of a refusal, refused too
pub contradicts : {n m i : ℕ} {s line : List ℕ} {t : Tree} → Lined n s (bad 15 i) → ExpressionLine m line t → Like line s (suc i) → ⊥
contradicts {n} {m} {i} {s} {line} (not-read p) l f =
    let r = line_read l (max m n) (omega arith) in
    clash (bad-ok (one_answer (deeper (local p line i (λ k h. sym (f k h)) (omega arith)) (λ e. absurd (let z : ⊥ = omega arith in z))
    (max m n) (omega arith)) r.reads))
  where
    bad-ok : {t : Tree} {e c i : ℕ} → bad c i ≡ ok t e → ◌≡◌ {A = ℕ} 0 1
    bad-ok p = cc
contradicts {n} {m} {s} {line} (no_feed {e} p x) l f =
    let r = line_read l (max m n) (omega arith) in
    let q = one_answer (deeper (local p line e (λ k h. sym (f k h)) (omega arith)) tt (max m n) (omega arith)) r.reads in
    is_false _ _ x (sym (f e (omega arith)) ∙ subst (λ (j : ℕ). get_elem? line j ≡ some 10) (sym (same_place q)) r.fed)
  where
    same_place : {t u : Tree} {e f : ℕ} → ok t e ≡ ok u f → e ≡ f
    same_place p = cc
contradicts {n} {m} {s} {line} (not-ended {e} p x y) l f =
    let r = line_read l (max m n) (omega arith) in
    let q = one_answer (deeper (local p line (suc e) (λ k h. sym (f k h)) (omega arith)) tt (max m n) (omega arith)) r.reads in
    none-some (sym (subst (λ (j : ℕ). get_elem? line (suc j) ≡ none) (sym (same_place q)) r.over) ∙ f (suc e) (omega arith) ∙ y)
  where
    same_place : {t u : Tree} {e f : ℕ} → ok t e ≡ ok u f → e ≡ f
    same_place p = cc

pub could-so-far : {n c i : ℕ} {s : List ℕ} → Lined n s (bad c i) → Fails s c i
could-so-far (not-read p) = refused p [] nil begins
could-so-far (no_feed p x) = let m = sound p in fails m.slice (begins m.word _ _ m.spells)
could-so-far (not-ended p x y) =
    let m = sound p in
    fails (slice-byte m.slice (is_true _ _ x)) (record {
      rest = [];
      deep = _;
      tree = _;
      is_line =
          record { word = m.word; is_choice = m.spells; ended = append-nil _ };
    })

pub first-wrong : (n : ℕ) (s : List ℕ) (i : ℕ) → line_of n s ≡ bad 15 i → Wrong s i
first-wrong n s i x =
    let l = subst (λ (o : Out). Lined n s o) x (lined n s) in
    record { before = (could-so-far l).before; here = λ c. contradicts l c.is_line c.like }
