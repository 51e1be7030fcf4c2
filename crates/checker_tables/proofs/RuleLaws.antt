-- The rules of the table of ends, eight starts at once: what the code computes is what they say.
use Prim.Native.Nat.{ℕ, zero, suc, ◌+◌, ◌/◌, ◌%◌}
use mathlib.Core.Path.{◌≡◌, refl, sym, ap, ap₂, ◌∙◌}
use mathlib.Core.Bool.{Bool, true, false, cond}
use mathlib.Core.List.{List}
use native.Mathlib.Omega.{arith}
use lib.Bits.{bit_or, or_zero_r}
use lib.ListN.{get_or, replicate, get_or-replicate}
use Rattle.usage.specs.Limits.{states}
use Rattle.checker_account.specs.Account.{watched, watched_too, others}
use Rattle.checker_account.specs.declared.Resources.{Resources}
use Rattle.checker_account.specs.Tables.{over, base, unnamed, made, meaning_after, numbered, meaning_in, group_in, waiting_group, in_group_lem, is_late_lem}
use Rattle.checker_account.specs.Tables.{entry_after, forgotten_in, first_named_lem, second_named_lem, kept, kept_in, begun, Rows, row_on, second_ends}
use Rattle.checker_account.specs.Tables.{in_turn, sequence_ends_lem, fresh_ends_lem}
use Rattle.checker_account.proofs.CodeLaws.{made_none, made_some, after-false}
use Rattle.checker_account.proofs.EntryLaws.{numbered-parts}
use Rattle.checker_tables.specs.ByState.{ByState}
use Rattle.checker_tables.specs.Search.{first_ends_lem}
use Rattle.checker_tables.proofs.ByStateLaws.{by_as, over-or, over-low}

-- ── The entry after a node ──

after_kept : (e : ℕ) (h : Bool) → meaning_after (meaning_in e) h ≡ meaning_in e → entry_after e h ≡ e
after_kept e h k = ap (λ (m : ℕ). numbered m (group_in e)) k ∙ numbered-parts e

pub after_same : (e : ℕ) → entry_after e false ≡ e
after_same e = after_kept e false (after-false (meaning_in e))

made-stays : (m : ℕ) (h : Bool) → (m ≡ 0 → ⊥) → meaning_after m h ≡ m
made-stays zero h d = absurd (d refl)
made-stays (suc m) h d = refl

made-now : (m : ℕ) → m ≡ 0 → meaning_after m true ≡ unnamed
made-now zero e = refl
made-now (suc m) e = absurd (omega arith)

after-made : (e : ℕ) (h : Bool) → (meaning_in e ≡ 0 → ⊥) → entry_after e h ≡ e
after-made e h d = after_kept e h (made-stays (meaning_in e) h d)

after-unmade : (e : ℕ) → meaning_in e ≡ 0 → entry_after e true ≡ e + unnamed
after-unmade e z =
    let k : numbered unnamed (group_in e) ≡ e + unnamed = omega arith in
    ap (λ (m : ℕ). numbered m (group_in e)) (made-now (meaning_in e) z) ∙ k

-- ── What follows on a node that ended in v ──

module _ (t : List ℕ) (b e v : ℕ) where
  second_unmade : meaning_in e ≡ 0
      → bit_or (over (λ q. get_or t (base b e + q) 0) v) (over (λ q. get_or t (base b (e + unnamed) + q) 0) (v / 256)) ≡ second_ends t b e v
  second_unmade z =
      ap₂ (λ (x y : ℕ). bit_or x y)
      (over-low (λ q. get_or t (base b e + q) 0) v ∙ ap (λ (j : ℕ). begun t b j (v % 256)) (sym (after_same e)))
      (ap (λ (j : ℕ). begun t b j (v / 256)) (sym (after-unmade e z)))

  second-made : (meaning_in e ≡ 0 → ⊥) → over (λ q. get_or t (base b e + q) 0) (bit_or v (v / 256)) ≡ second_ends t b e v
  second-made d =
      over-or (λ q. get_or t (base b e + q) 0) v (v / 256)
      ∙ ap₂ (λ (x y : ℕ). bit_or x y)
      (over-low (λ q. get_or t (base b e + q) 0) v ∙ ap (λ (j : ℕ). begun t b j (v % 256)) (sym (after_same e)))
      (ap (λ (j : ℕ). begun t b j (v / 256)) (sym (after-made e true d)))

-- ── A sequence ──

module _ (t : List ℕ) (a b f e : ℕ) (v high r : List ℕ) (at_a : ByState states (λ q. get_or t (base a f + q) 0) v)
    (upper : ByState states (λ q. get_or v q 0 / 256) high) where
  pub turn-unmade : (same made : List ℕ) → meaning_in e ≡ 0 → ByState states (λ q. over (λ j. get_or t (base b e + j) 0) (get_or v q 0)) same
      → ByState states (λ q. over (λ j. get_or t (base b (e + unnamed) + j) 0) (get_or high q 0)) made
      → ByState states (λ q. bit_or (get_or same q 0) (get_or made q 0)) r
      → ByState states (in_turn t a b f e) r
  turn-unmade same made z s w h =
      by_as (in_turn t a b f e) (λ q. bit_or (get_or same q 0) (get_or made q 0)) r h (λ q l.
      ap₂ (λ (x y : ℕ). bit_or x y) (s.held q l)
      (w.held q l ∙ ap (over (λ j. get_or t (base b (e + unnamed) + j) 0)) (upper.held q l))
      ∙ second_unmade t b e (get_or v q 0) z
      ∙ ap (second_ends t b e) (at_a.held q l))

  pub turn-made : (both : List ℕ) → (meaning_in e ≡ 0 → ⊥) → ByState states (λ q. bit_or (get_or v q 0) (get_or high q 0)) both
      → ByState states (λ q. over (λ j. get_or t (base b e + j) 0) (get_or both q 0)) r
      → ByState states (in_turn t a b f e) r
  turn-made both z s h =
      by_as (in_turn t a b f e) (λ q. over (λ j. get_or t (base b e + j) 0) (get_or both q 0)) r h (λ q l.
      ap (over (λ j. get_or t (base b e + j) 0)) (s.held q l ∙ ap (bit_or (get_or v q 0)) (upper.held q l))
      ∙ second-made t b e (get_or v q 0) z
      ∙ ap (second_ends t b e) (at_a.held q l))

module _ (t : List ℕ) (a b e : ℕ) (r : List ℕ) where
  pub sequence-late : (waiting created : ℕ) (later earlier : List ℕ) → is_late_lem e ≡ true → waiting ≡ in_group_lem waiting_group e
      → created ≡ in_group_lem 0 e
      → ByState states (in_turn t a b waiting e) later → ByState states (in_turn t a b e created) earlier
      → ByState states (λ q. bit_or (get_or later q 0) (get_or earlier q 0)) r → ByState states (sequence_ends_lem t a b e) r
  unfolding sequence_ends_lem
  sequence-late waiting created later earlier d ew ec s w h =
      by_as (sequence_ends_lem t a b e) (λ q. bit_or (get_or later q 0) (get_or earlier q 0)) r h (λ q l.
      ap₂ (λ (x y : ℕ). bit_or x y) (s.held q l ∙ ap (λ (j : ℕ). in_turn t a b j e q) ew) (w.held q l ∙ ap (λ (j : ℕ). in_turn t a b e j q) ec)
      ∙ ap (λ (c : Bool). cond c (bit_or (in_turn t a b (in_group_lem waiting_group e) e q) (in_turn t a b e (in_group_lem 0 e) q)) (in_turn t a b e e q))
      (sym d))

  pub sequence-else : is_late_lem e ≡ false → ByState states (in_turn t a b e e) r → ByState states (sequence_ends_lem t a b e) r
  unfolding sequence_ends_lem
  sequence-else d h =
      by_as (sequence_ends_lem t a b e) (in_turn t a b e e) r h (λ q l.
      ap (λ (c : Bool). cond c (bit_or (in_turn t a b (in_group_lem waiting_group e) e q) (in_turn t a b e (in_group_lem 0 e) q)) (in_turn t a b e e q))
      (sym d))

-- ── A fresh node ──

pub created-is : (t : List ℕ) (rows : Rows) (x : Resources) (k d b e : ℕ) (v r : List ℕ) → ByState states (row_on rows x k d) v
    → ByState states (λ q. over (λ j. get_or t (base b e + j) 0) (get_or v q 0)) r
    → ByState states (λ q. begun t b e (row_on rows x k d q)) r
created-is t rows x k d b e v r from h =
    by_as (λ q. begun t b e (row_on rows x k d q)) (λ q. over (λ j. get_or t (base b e + j) 0) (get_or v q 0)) r h
    (λ q l. ap (begun t b e) (from.held q l))

module _ (t : List ℕ) (rows : Rows) (x : Resources) (k n b e : ℕ) where
  abbrev Created : ℕ → ℕ → List ℕ → Type 0
  Created d f l = ByState states (λ q. begun t b f (row_on rows x k d q)) l

  abbrev with_first : Bool → ℕ → ℕ
  with_first c q =
      bit_or (begun t b (forgotten_in e n) (row_on rows x k others q)) (cond c 0 (begun t b (first_named_lem e n) (row_on rows x k watched q)))

  pub first_made : (f : ℕ) (other : List ℕ) → f ≡ forgotten_in e n → Created others f other → (meaning_in e ≡ 0 → ⊥)
      → ByState states (first_ends_lem rows x t k n b e) other
  first_made f other to h d =
      by_as (first_ends_lem rows x t k n b e) (λ q. begun t b f (row_on rows x k others q)) other h (λ q l.
      ap (λ (j : ℕ). begun t b j (row_on rows x k others q)) to
      ∙ sym (or_zero_r (begun t b (forgotten_in e n) (row_on rows x k others q)))
      ∙ ap (λ (c : Bool). with_first c q) (sym (made_some (meaning_in e) d)))

  pub first_unmade : (f g : ℕ) (other first r : List ℕ) → f ≡ forgotten_in e n → g ≡ first_named_lem e n → Created others f other
      → Created watched g first → ByState states (λ q. bit_or (get_or other q 0) (get_or first q 0)) r → meaning_in e ≡ 0
      → ByState states (first_ends_lem rows x t k n b e) r
  first_unmade f g other first r to named h o s z =
      by_as (first_ends_lem rows x t k n b e) (λ q. bit_or (get_or other q 0) (get_or first q 0)) r s (λ q l.
      ap₂ (λ (y z : ℕ). bit_or y z) (h.held q l ∙ ap (λ (j : ℕ). begun t b j (row_on rows x k others q)) to)
      (o.held q l ∙ ap (λ (j : ℕ). begun t b j (row_on rows x k watched q)) named)
      ∙ ap (λ (c : Bool). with_first c q) (sym (made_none (meaning_in e) z)))

  pub fresh-else : (first : List ℕ) → ByState states (first_ends_lem rows x t k n b e) first → is_late_lem e ≡ false
      → ByState states (fresh_ends_lem rows x t k n b e) first
  unfolding fresh_ends_lem
  fresh-else first h d =
      by_as (fresh_ends_lem rows x t k n b e) (first_ends_lem rows x t k n b e) first h (λ q l.
      sym (or_zero_r (first_ends_lem rows x t k n b e q))
      ∙ ap (λ (c : Bool). bit_or (first_ends_lem rows x t k n b e q) (cond c (begun t b (second_named_lem e n) (row_on rows x k watched_too q)) 0))
      (sym d))

  pub fresh-late : (g : ℕ) (first second r : List ℕ) → g ≡ second_named_lem e n → ByState states (first_ends_lem rows x t k n b e) first
      → Created watched_too g second → ByState states (λ q. bit_or (get_or first q 0) (get_or second q 0)) r → is_late_lem e ≡ true
      → ByState states (fresh_ends_lem rows x t k n b e) r
  unfolding fresh_ends_lem
  fresh-late g first second r named h o s d =
      by_as (fresh_ends_lem rows x t k n b e) (λ q. bit_or (get_or first q 0) (get_or second q 0)) r s (λ q l.
      ap₂ (λ (y z : ℕ). bit_or y z) (h.held q l)
      (o.held q l ∙ ap (λ (j : ℕ). begun t b j (row_on rows x k watched_too q)) named)
      ∙ ap (λ (c : Bool). bit_or (first_ends_lem rows x t k n b e q) (cond c (begun t b (second_named_lem e n) (row_on rows x k watched_too q)) 0))
      (sym d))

-- ── Sets as ends ──

pub kept-late : (e : ℕ) (v : List ℕ) → is_late_lem e ≡ true → ByState states (λ q. kept_in e (get_or v q 0)) (replicate states 0)
unfolding kept_in
kept-late e v d = record {
  len = refl;
  held = λ q l. get_or-replicate states q 0 0 l ∙ ap (λ (c : Bool). cond c 0 (kept (meaning_in e) (get_or v q 0))) (sym d);
}

pub kept-else : (e : ℕ) (v r : List ℕ) → is_late_lem e ≡ false → ByState states (λ q. kept (meaning_in e) (get_or v q 0)) r
    → ByState states (λ q. kept_in e (get_or v q 0)) r
unfolding kept_in
kept-else e v r d h =
    by_as (λ q. kept_in e (get_or v q 0)) (λ q. kept (meaning_in e) (get_or v q 0)) r h
    (λ q l. ap (λ (c : Bool). cond c 0 (kept (meaning_in e) (get_or v q 0))) (sym d))

pub kept-as : (e : ℕ) (g : ℕ → ℕ) (v r : List ℕ) → ByState states g v → ByState states (λ q. kept_in e (get_or v q 0)) r
    → ByState states (λ q. kept_in e (g q)) r
kept-as e g v r from h = by_as (λ q. kept_in e (g q)) (λ q. kept_in e (get_or v q 0)) r h (λ q l. ap (kept_in e) (from.held q l))
