-- The beginning of an item: what `head_at` says is so.
use Prim.Native.Nat.{ℕ, suc, ◌+◌}
use mathlib.Core.Path.{◌≡◌, refl, subst}
use mathlib.Core.Bool.{Bool, true, false, cond}
use mathlib.Core.Option.{Option, none, some}
use mathlib.Core.List.{List, [], ◌∷◌, ◌++◌, append_assoc}
use native.Mathlib.Omega.{arith}
use native.Mathlib.Bridge.{le_by_compare, IsLe}
use lib.Dec.{eqb}
use lib.Seq.{append_snoc}
use lib.ListN.{get_elem?}
use borrow.Author.Tests.{eqb-true}
use Rattle.sheet_grammar.specs.Tree.{Tree}
use Rattle.sheet_grammar.specs.Grammar.{
  Label,
  label,
  Number,
  one,
  two,
  Atom,
  Bracket,
  Opener,
  closer,
  bracketed,
  Spells,
  alone,
  atom,
  bracket,
  item,
}
use Rattle.sheet_grammar.specs.Reader.{
  byte_is,
  digit_value,
  Num,
  number,
  missing,
  one_digit,
  two_digits,
  label_at,
  number_at,
  Head,
  opens,
  wrong,
  First,
  item_first,
  begins_number,
  event_letter,
  curly_head,
  back_head,
  event_end_lem,
  event_from_lem,
  event_head,
  head_by,
  head_at,
}
use Rattle.sheet_grammar.proofs.SliceLaws.{Slice, nil, cons, slice-append, slice-byte}
use Rattle.sheet_grammar.proofs.EvenLaws.{
  Silent,
  silent-nil,
  silent-append,
  silent-place,
  no-nests,
  event-nests,
  even-label,
  even-number,
}
use Rattle.sheet_grammar.proofs.ByteLaws.{is_true, Digit, digit-byte}

-- ── Numbers ──

-- a number of the kind N, or the place at which its first digit is missing
abbrev pub NumSays : (List ℕ → ℕ → Type 0) → List ℕ → ℕ → Num → Type 0
NumSays N s i (number v e) = (w : List ℕ) × Slice s i w e × N w v
NumSays N s i (missing j) = j ≡ i

pub label-says : (s : List ℕ) (i : ℕ) → NumSays Label s i (label_at s i)
unfolding label_at
label-says s i = go (digit_value (get_elem? s i)) refl
  where
    go : (x : Option ℕ) → digit_value (get_elem? s i) ≡ x → NumSays Label s i (one_digit x i)
    go none p = refl
    go (some d) p = let h = digit-byte (get_elem? s i) d p in ((48 + d) ∷ [], cons h.byte nil, label h.small)

pub number-says : (s : List ℕ) (i : ℕ) → NumSays Number s i (number_at s i)
unfolding number_at
number-says s i = go (digit_value (get_elem? s i)) (digit_value (get_elem? s (suc i))) refl refl
  where
    go : (x y : Option ℕ) → digit_value (get_elem? s i) ≡ x → digit_value (get_elem? s (suc i)) ≡ y → NumSays Number s i (two_digits x y i)
    go none y p q = refl
    go (some d) none p q = let h = digit-byte (get_elem? s i) d p in ((48 + d) ∷ [], cons h.byte nil, one h.small)
    go (some c) (some d) p q =
        let h = digit-byte (get_elem? s i) c p in
        let g = digit-byte (get_elem? s (suc i)) d q in
        ((48 + c) ∷ (48 + d) ∷ [], cons h.byte (cons g.byte nil), two h.small g.small)

-- the number 0 of one digit
only-nought : {s v : List ℕ} {at a e : ℕ} → Number v a → Slice s at v e → e ≡ suc at → a ≡ 0 → Slice s at (48 ∷ []) e
only-nought {s} {at} {e} (one {d} l) p x y = subst (λ (b : ℕ). Slice s at (b ∷ []) e) (let z : 48 + d ≡ 48 = omega arith in z) p
only-nought (two l m) (cons h (cons g nil)) x y = absurd (let z : ⊥ = omega arith in z)

-- ── The beginning of an item ──

-- what the first byte says of it
abbrev pub FirstSays : Option ℕ → First → Type 0
FirstSays o First.round = o ≡ some 40
FirstSays o First.loop = o ≡ some 109
FirstSays o First.fresh = o ≡ some 102
FirstSays o First.sandbox = o ≡ some 112
FirstSays o First.back = o ≡ some 104
FirstSays o First.number = (d : ℕ) × Digit o d
FirstSays o First.nothing = Unit {0}

pub first_says : (o : Option ℕ) → FirstSays o (item_first o)
unfolding item_first
first_says o = go (byte_is o 40) (byte_is o 109) (byte_is o 102) (byte_is o 112) (byte_is o 104) (digit_value o) refl refl refl refl refl refl
  where
    go : (x y z u v : Bool) (d : Option ℕ) → byte_is o 40 ≡ x → byte_is o 109 ≡ y → byte_is o 102 ≡ z → byte_is o 112 ≡ u → byte_is o 104 ≡ v
        → digit_value o ≡ d
        → FirstSays o (cond x First.round (cond y First.loop (cond z First.fresh
        (cond u First.sandbox (cond v First.back (begins_number d))))))
    go true y z u v d p₁ p₂ p₃ p₄ p₅ p₆ = is_true _ _ p₁
    go false true z u v d p₁ p₂ p₃ p₄ p₅ p₆ = is_true _ _ p₂
    go false false true u v d p₁ p₂ p₃ p₄ p₅ p₆ = is_true _ _ p₃
    go false false false true v d p₁ p₂ p₃ p₄ p₅ p₆ = is_true _ _ p₄
    go false false false false true d p₁ p₂ p₃ p₄ p₅ p₆ = is_true _ _ p₅
    go false false false false false none p₁ p₂ p₃ p₄ p₅ p₆ = tt
    go false false false false false (some d) p₁ p₂ p₃ p₄ p₅ p₆ = (d, digit-byte o d p₆)

-- the text from `at` up to i begins an item, and no bracket in it nests
pub record Begun (s : List ℕ) (at i : ℕ) : Type 0 where
  pub read : List ℕ
  pub left : List ℕ
  pub tree : Tree
  pub slice : Slice s at read i
  pub whole : Spells item 1 (read ++ left) tree
  pub silent : Silent s at i

abbrev pub Says : List ℕ → ℕ → Head → Type 0
Says s at (Head.atom t e) = (w : List ℕ) × Slice s at w e × Atom w t
Says s at (opens b i) = (w : List ℕ) × Slice s at w (suc i) × Opener w b
Says s at (wrong i) = Begun s at i

-- `0` in a bracket
shut : {v : List ℕ} {b : Bracket} → Opener v b → Spells item 1 (v ++ (48 ∷ closer b ∷ [])) (bracketed b Tree.end)
shut o = bracket o (alone (alone (atom Atom.end)))

pub nought : Number (48 ∷ []) 0
unfolding IsLe
nought = one (le_by_compare 1 10 tt)

pub no_label : Label (48 ∷ []) 0
unfolding IsLe
no_label = label (le_by_compare 1 10 tt)

module _ (s : List ℕ) (at : ℕ) where
  module _ (c : ℕ) (N : List ℕ → ℕ → Type 0) (k : ℕ → Bracket) (none' : N (48 ∷ []) 0)
      (op : (w : List ℕ) (v : ℕ) → N w v → Opener (c ∷ (w ++ (123 ∷ []))) (k v))
      (quiet : (w : List ℕ) (v e : ℕ) → N w v → Slice s (suc at) w e → Silent s (suc at) e) (x : c ≡ 40 → ⊥) (y : c ≡ 123 → ⊥)
      (h : get_elem? s at ≡ some c) where
    letter-silent : Silent s at (suc at)
    letter-silent = silent-place s (no-nests s h x y)

    curly-says : (m : Num) → NumSays N s (suc at) m → Says s at (curly_head s k m)
    curly-says (missing i) p =
        record {
          read = c ∷ [];
          left = 48 ∷ 123 ∷ 48 ∷ closer (k 0) ∷ [];
          tree = bracketed (k 0) Tree.end;
          slice = rw p (cons h nil);
          whole = shut (op (48 ∷ []) 0 none');
          silent = rw p letter-silent;
        }
    curly-says (number v e) (w, p, q) = go (byte_is (get_elem? s e) 123) refl
      where
        go : (t : Bool) → byte_is (get_elem? s e) 123 ≡ t → Says s at (cond t (opens (k v) e) (wrong e))
        go true x = (c ∷ (w ++ (123 ∷ [])), cons h (slice-byte p (is_true _ _ x)), op w v q)
        go false x =
            record {
              read = c ∷ w;
              left = 123 ∷ 48 ∷ closer (k v) ∷ [];
              tree = bracketed (k v) Tree.end;
              slice = cons h p;
              whole =
                  rw append_snoc at (shut (op w v q));
              silent = silent-append s letter-silent (quiet w v e q p);
            }

  back-says : get_elem? s at ≡ some 104 → (m : Num) → NumSays Label s (suc at) m → Says s at (back_head m)
  back-says h (missing i) p =
      record {
        read = 104 ∷ [];
        left = 48 ∷ [];
        tree = Tree.back 0;
        slice = rw p (cons h nil);
        whole = atom (Atom.back no_label);
        silent =
            rw p (silent-place s (no-nests s h (omega arith) (omega arith)));
      }
  back-says h (number l e) (w, p, q) = (104 ∷ w, cons h p, Atom.back q)

  -- an event whose action a is the number v, which ends at e
  module _ (v : List ℕ) (a e : ℕ) (p : Slice s at v e) (q : Number v a) (h : get_elem? s e ≡ some 40) where
    round-silent : Silent s at (suc e)
    round-silent = let n = even-number s q p in silent-append s n.0.silent (silent-place s (event-nests s h n.1))

    module _ (c : ℕ) (k : ℕ → Tree) (at' : (w : List ℕ) (r : ℕ) → Number w r → Atom (v ++ (40 ∷ c ∷ (w ++ (41 ∷ [])))) (k r))
        (c₁ : c ≡ 40 → ⊥) (c₂ : c ≡ 123 → ⊥) (g : get_elem? s (suc e) ≡ some c) where
      so_far : Silent s at (suc (suc e))
      so_far = silent-append s round-silent (silent-place s (no-nests s g c₁ c₂))

      event-end-says : (m : Num) → NumSays Number s (suc (suc e)) m → Says s at (event_end_lem s k m)
      event-end-says (missing i) x =
          record {
            read = v ++ (40 ∷ c ∷ []);
            left = 48 ∷ 41 ∷ [];
            tree = k 0;
            slice = rw x (slice-append p (cons h (cons g nil)));
            whole =
                rw append_assoc (atom (at' (48 ∷ []) 0 nought));
            silent = rw x so_far;
          }
      event-end-says (number r f) (w, x, y) = go (byte_is (get_elem? s f) 41) refl
        where
          go : (t : Bool) → byte_is (get_elem? s f) 41 ≡ t → Says s at (cond t (Head.atom (k r) (suc f)) (wrong f))
          go true z = (v ++ (40 ∷ c ∷ (w ++ (41 ∷ []))), slice-append p (cons h (cons g (slice-byte x (is_true _ _ z)))), at' w r y)
          go false z =
              record {
                read = v ++ (40 ∷ c ∷ w);
                left = 41 ∷ [];
                tree = k r;
                slice = slice-append p (cons h (cons g x));
                whole =
                    rw append_assoc (atom (at' w r y));
                silent = silent-append s so_far (even-number s y x).0.silent;
              }

    event-from-says : Says s at (event_from_lem s a (suc e) (event_letter (get_elem? s (suc e))))
    event-from-says = go (byte_is (get_elem? s (suc e)) 115) (byte_is (get_elem? s (suc e)) 110) refl refl
      where
        go : (x y : Bool) → byte_is (get_elem? s (suc e)) 115 ≡ x → byte_is (get_elem? s (suc e)) 110 ≡ y
            → Says s at (event_from_lem s a (suc e) (cond x (some (λ a r. Tree.static_event a r)) (cond y (some (λ a n. Tree.named_event a n)) none)))
        go true y i j =
            event-end-says 115 (λ r. Tree.static_event a r) (λ w r n. Atom.static_event q n) (omega arith) (omega arith) (is_true _ _ i)
            (number_at s (suc (suc e))) (number-says s (suc (suc e)))
        go false true i j =
            event-end-says 110 (λ r. Tree.named_event a r) (λ w r n. Atom.named_event q n) (omega arith) (omega arith) (is_true _ _ j)
            (number_at s (suc (suc e))) (number-says s (suc (suc e)))
        go false false i j =
            record {
              read = v ++ (40 ∷ []);
              left = 115 ∷ 48 ∷ 41 ∷ [];
              tree = Tree.static_event a 0;
              slice = slice-byte p h;
              whole =
                  rw append_snoc (atom (Atom.static_event q nought));
              silent = round-silent;
            }

  event-says : (m : Num) → NumSays Number s at m → Says s at (event_head s at m)
  event-says (missing i) x =
      record { read = []; left = 48 ∷ []; tree = Tree.end; slice = rw x nil; whole = atom Atom.end; silent = rw x (silent-nil s at) }
  event-says (number a e) (v, p, q) = go (byte_is (get_elem? s e) 40) (eqb e (suc at)) (eqb a 0) refl refl refl
    where
      none' : Begun s at e
      none' =
          record {
            read = v;
            left = 40 ∷ 115 ∷ 48 ∷ 41 ∷ [];
            tree = Tree.static_event a 0;
            slice = p;
            whole = atom (Atom.static_event q nought);
            silent = (even-number s q p).0.silent;
          }

      go : (x y z : Bool) → byte_is (get_elem? s e) 40 ≡ x → eqb e (suc at) ≡ y → eqb a 0 ≡ z
          → Says s at (cond x (event_from_lem s a (suc e) (event_letter (get_elem? s (suc e))))
          (cond y (cond z (Head.atom Tree.end e) (wrong e)) (wrong e)))
      go true y z i j k = event-from-says v a e p q (is_true _ _ i)
      go false true true i j k = (48 ∷ [], only-nought q p (eqb-true _ _ j) (eqb-true _ _ k), Atom.end)
      go false true false i j k = none'
      go false false z i j k = none'

  head-by-says : (f : First) → FirstSays (get_elem? s at) f → Says s at (head_by s at f)
  head-by-says First.round h = (40 ∷ [], cons h nil, Opener.round)
  head-by-says First.loop h =
      curly-says 109 Label (λ l. Bracket.loop l) no_label (λ w v n. Opener.loop n) (λ w v e n r. (even-label s n r).silent) (omega arith)
      (omega arith) h (label_at s (suc at)) (label-says s (suc at))
  head-by-says First.fresh h =
      curly-says 102 Number (λ l. Bracket.fresh l) nought (λ w v n. Opener.fresh n) (λ w v e n r. (even-number s n r).0.silent)
      (omega arith) (omega arith) h (number_at s (suc at)) (number-says s (suc at))
  head-by-says First.sandbox h =
      curly-says 112 Number (λ l. Bracket.sandbox l) nought (λ w v n. Opener.sandbox n) (λ w v e n r. (even-number s n r).0.silent)
      (omega arith) (omega arith) h (number_at s (suc at)) (number-says s (suc at))
  head-by-says First.back h = back-says h (label_at s (suc at)) (label-says s (suc at))
  head-by-says First.number h = event-says (number_at s at) (number-says s at)
  head-by-says First.nothing h =
      record { read = []; left = 48 ∷ []; tree = Tree.end; slice = nil; whole = atom Atom.end; silent = silent-nil s at }

  pub head-says : Says s at (head_at s at)
  unfolding head_at
  head-says = head-by-says (item_first (get_elem? s at)) (first_says (get_elem? s at))
