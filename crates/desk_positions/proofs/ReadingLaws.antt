-- Rows that are read: one that passes is the row of the position that is read from it, and the row of a position passes and tells it.
use Prim.Native.Nat.{ℕ, zero, suc, ◌+◌, ◌-◌, ◌/◌, ◌%◌, ◌<◌, ◌≤◌}
use mathlib.Core.Path.{◌≡◌, refl, sym, ap, ap₂, ◌∙◌, subst}
use mathlib.Core.Bool.{Bool, true, false, ◌&&◌, cond}
use mathlib.Core.Option.{some, some-injective}
use mathlib.Core.List.{List, [], ◌∷◌, map}
use mathlib.Core.Logic.{◌⊎◌, inl, inr}
use native.Mathlib.Omega.{arith}
use native.Mathlib.Nat.{zero-add}
use native.Mathlib.Numerals.{add-one}
use native.Mathlib.Decide.{ℕ_discrete}
use lib.Dec.{lit<, leb, ltb}
use lib.ListN.{length, get_or, get_elem?}
use lib.Seq.{ext_get_or}
use borrow.Author.Tests.{ltb-true, ltb-false, lt-ltb, le-ltb, leb-true, le-leb}
use Rattle.usage.specs.Limits.{most_nodes}
use Rattle.usage.specs.Tables.{from}
use Rattle.usage.proofs.Logic.{and_left, and_right, and_both, none-some, last-or-lower}
use Rattle.usage.proofs.TableLaws.{length_from, from-ext, member-from, is-from}
use Rattle.desk_positions.specs.Positions.{most_positions, most_parts, Item, at, shut, Position, same_meanings}
use Rattle.desk_positions.specs.Rows.{row_width, base, part_code, meant_in, pushed, row_of, row_in, Coded, AllCoded}
use Rattle.desk_positions.specs.Growth.{Fine, Tabled}
use Rattle.desk_positions.specs.Reading.{item_in, parts_in, position_in, PartFits, ZerosFrom, row_ok, rows_ok_lem, positions_in}
use Rattle.desk_positions.proofs.RowLaws.{cell, length-row, row-depth, row-behind, row-top, row_under}
use Rattle.desk_positions.proofs.PositionLaws.{same-meanings}
use Rattle.desk_positions.proofs.SettleLaws.{here}

-- ── Parts ──

pub parts-length : (row : List ℕ) (n : ℕ) → length (parts_in row n) ≡ n
unfolding parts_in
parts-length row zero = refl
parts-length row (suc n) = ap suc (parts-length row n)

item-coded : (row : List ℕ) (j : ℕ) → Coded (item_in row j)
item-coded row j = go (ltb (get_or row (base j) 0) most_nodes) refl
  where
    go : (b : Bool) → ltb (get_or row (base j) 0) most_nodes ≡ b
        → Coded (cond b
        (at (get_or row (base j) 0)
        (get_or row (base j + 1) 0 ∷ get_or row (base j + 2) 0 ∷ get_or row (base j + 3) 0 ∷ get_or row (base j + 4) 0 ∷ []))
        (shut (get_or row (base j) 0 - most_nodes)))
    go true e = (ltb-true (get_or row (base j) 0) most_nodes e, refl)
    go false e = tt

parts-coded : (row : List ℕ) (n : ℕ) → AllCoded (parts_in row n)
unfolding parts_in
parts-coded row zero = tt
parts-coded row (suc n) = (item-coded row n, parts-coded row n)

-- a node, or a closing, on top of the row of a position
pub pushed-node : (row s : List ℕ) (j : ℕ) (c : Position) → length c ≡ j → s ≡ row_of c → get_or row (base j) 0 < most_nodes
    → pushed s j (get_or row (base j) 0) (get_or row (base j + 1) 0) (get_or row (base j + 2) 0) (get_or row (base j + 3) 0) (get_or row (base j + 4) 0)
    ≡ row_of (item_in row j ∷ c)
unfolding row_of
pushed-node row s j c d e h = rw (e, ← d) (simp (lt-ltb _ _ (rw (← d) at h)))

pub pushed-closing : (row s : List ℕ) (j : ℕ) (c : Position) → length c ≡ j → s ≡ row_of c → most_nodes ≤ get_or row (base j) 0
    → pushed s j (get_or row (base j) 0) 0 0 0 0 ≡ row_of (item_in row j ∷ c)
unfolding row_of
pushed-closing row s j c d e h =
    rw (e, ← d) (simp (le-ltb _ _ (rw (← d) at h)) (ap (λ (k : ℕ). pushed (row_of c) (length c) k 0 0 0 0) (whole _ (rw (← d) at h))))
  where
    whole : (k : ℕ) → most_nodes ≤ k → k ≡ most_nodes + (k - most_nodes)
    whole k h = omega arith

-- ── A row ──

pub row_reads : (row : List ℕ) → row_ok row ≡ true → (row_of (position_in row) ≡ row) × Fine (position_in row)
unfolding row_ok
row_reads row e =
    let few = and_left (leb (get_or row 0 0) most_parts) (same_meanings (row_of (position_in row)) row) e in
    let same = and_right (leb (get_or row 0 0) most_parts) (same_meanings (row_of (position_in row)) row) e in
    ((same-meanings _ _).0 same, (short, parts-coded row (get_or row 0 0)))
  where
    short : length (position_in row) ≤ most_parts
    short =
        let h : get_or row 0 0 ≤ most_parts =
        leb-true _ _ (and_left (leb (get_or row 0 0) most_parts) (same_meanings (row_of (position_in row)) row) e) in
        rw (parts-length row (get_or row 0 0)) h

-- the five numbers of a part are those of the item
item-read : (row : List ℕ) (j : ℕ) (i : Item) → Coded i
    → ((m n : ℕ) → m ≡ base j + n → n < 5 → get_or row m 0 ≡ cell (part_code i) (meant_in i 0) (meant_in i 1) (meant_in i 2) (meant_in i 3) n)
    → item_in row j ≡ i
item-read row j (at k l) (h, four) f =
    let e : get_or row (base j) 0 ≡ k = f (base j) 0 (omega arith) (lit< tt) in
    let m : (get_or row (base j + 1) 0 ∷ get_or row (base j + 2) 0 ∷ get_or row (base j + 3) 0 ∷ get_or row (base j + 4) 0 ∷ []) ≡ l =
    ext_get_or 0 _ l (sym four) (λ n b. meant n (omega arith)) in
    rw (lt-ltb (get_or row (base j) 0) most_nodes (rw e h)) (ap₂ at e m)
  where
    meant : (n : ℕ) → n < 4
        → get_or (get_or row (base j + 1) 0 ∷ get_or row (base j + 2) 0 ∷ get_or row (base j + 3) 0 ∷ get_or row (base j + 4) 0 ∷ []) n 0 ≡ get_or l n 0
    meant zero b = f (base j + 1) 1 refl (lit< tt)
    meant (suc zero) b = f (base j + 2) 2 refl (lit< tt)
    meant (suc (suc zero)) b = f (base j + 3) 3 refl (lit< tt)
    meant (suc (suc (suc zero))) b = f (base j + 4) 4 refl (lit< tt)
    meant (suc (suc (suc (suc n)))) b = absurd (omega arith)
item-read row j (shut p) h f =
    let e : get_or row (base j) 0 ≡ most_nodes + p = f (base j) 0 (omega arith) (lit< tt) in
    rw (le-ltb (get_or row (base j) 0) most_nodes (omega arith)) (ap shut (omega arith))

parts-read : (row : List ℕ) (c : Position) → length c ≤ most_parts → AllCoded c
    → ((m : ℕ) → (m ≡ 0 → ⊥) → m < base (length c) → get_or row m 0 ≡ get_or (row_of c) m 0) → parts_in row (length c) ≡ c
unfolding parts_in
parts-read row [] h q same = refl
parts-read row (i ∷ c) h (q, qs) same =
    ap₂ (λ (x : Item) (y : Position). x ∷ y)
    (item-read row (length c) i q (λ m n e l. same m (λ z. omega arith) (omega arith) ∙ row-top i c m n (omega arith) e l))
    (parts-read row c (omega arith) qs (λ m d l. same m d (omega arith) ∙ row_under i c m d (inl l)))

pub row_read : (c : Position) → Fine c → position_in (row_of c) ≡ c
row_read c (h, q) = ap (parts_in (row_of c)) (row-depth c) ∙ parts-read (row_of c) c h q (λ m d l. refl)

row-passes : (c : Position) → Fine c → row_ok (row_of c) ≡ true
unfolding row_ok
row-passes c (h, q) =
    and_both (leb (get_or (row_of c) 0 0) most_parts) (same_meanings (row_of (position_in (row_of c))) (row_of c))
    (le-leb (get_or (row_of c) 0 0) most_parts (rw (row-depth c) h)) ((same-meanings _ _).1 (ap row_of (row_read c (h, q))))

-- ── A row by its numbers ──

-- number k of part j
parts-cell : (row : List ℕ) (n : ℕ) → n ≤ most_parts → (j : ℕ) → j < n → (m k : ℕ) → m ≡ base j + k → k < 5
    → get_or (row_of (parts_in row n)) m 0
    ≡ cell (part_code (item_in row j)) (meant_in (item_in row j) 0) (meant_in (item_in row j) 1) (meant_in (item_in row j) 2) (meant_in (item_in row j) 3) k
unfolding parts_in
parts-cell row zero h j l m k e q = absurd (omega arith)
parts-cell row (suc n) h j l m k e q = go (last-or-lower j n l) (parts-cell row n (omega arith) j)
  where
    z : length (parts_in row n) ≡ n
    z = parts-length row n

    is : ℕ → ℕ
    is x = cell (part_code (item_in row x)) (meant_in (item_in row x) 0) (meant_in (item_in row x) 1) (meant_in (item_in row x) 2) (meant_in (item_in row x) 3) k

    go : (j ≡ n) ⊎ (j < n)
        → (j < n → (m k : ℕ) → m ≡ base j + k → k < 5 → get_or (row_of (parts_in row n)) m 0
        ≡ cell (part_code (item_in row j)) (meant_in (item_in row j) 0) (meant_in (item_in row j) 1) (meant_in (item_in row j) 2) (meant_in (item_in row j) 3) k)
        → get_or (row_of (item_in row n ∷ parts_in row n)) m 0 ≡ is j
    go (inl p) ih = row-top (item_in row n) (parts_in row n) m k (omega (arith, z)) (omega (arith, z, p)) q ∙ ap is (sym p)
    go (inr p) ih = row_under (item_in row n) (parts_in row n) m (λ w. omega arith) (inl (omega (arith, z))) ∙ ih p m k e q

-- a part that fits is written as it is
item-fits : (row : List ℕ) (j : ℕ) → PartFits row j → (m k : ℕ) → m ≡ base j + k → k < 5
    → cell (part_code (item_in row j)) (meant_in (item_in row j) 0) (meant_in (item_in row j) 1) (meant_in (item_in row j) 2) (meant_in (item_in row j) 3) k
    ≡ get_or row m 0
item-fits row j f m k e q = go (ltb (get_or row (base j) 0) most_nodes) refl k e q
  where
    x : ℕ
    x = get_or row (base j) 0

    item : Bool → Item
    item b = cond b
        (at x (get_or row (base j + 1) 0 ∷ get_or row (base j + 2) 0 ∷ get_or row (base j + 3) 0 ∷ get_or row (base j + 4) 0 ∷ [])) (shut (x - most_nodes))

    place : (n : ℕ) → m ≡ n → get_or row n 0 ≡ get_or row m 0
    place n p = ap (λ (y : ℕ). get_or row y 0) (sym p)

    go : (b : Bool) → ltb x most_nodes ≡ b → (k : ℕ) → m ≡ base j + k → k < 5
        → cell (part_code (item b)) (meant_in (item b) 0) (meant_in (item b) 1) (meant_in (item b) 2) (meant_in (item b) 3) k ≡ get_or row m 0
    go true p zero e q = place (base j) (omega arith)
    go true p (suc zero) e q = place (base j + 1) (omega arith)
    go true p (suc (suc zero)) e q = place (base j + 2) (omega arith)
    go true p (suc (suc (suc zero))) e q = place (base j + 3) (omega arith)
    go true p (suc (suc (suc (suc zero)))) e q = place (base j + 4) (omega arith)
    go true p (suc (suc (suc (suc (suc k))))) e q = absurd (omega arith)
    go false p zero e q =
        (let h = ltb-false x most_nodes p in let y : most_nodes + (x - most_nodes) ≡ x = omega arith in y) ∙ place (base j) (omega arith)
    go false p (suc zero) e q = sym (f (ltb-false x most_nodes p) 0 (omega arith)) ∙ place (base j + 1 + 0) (omega arith)
    go false p (suc (suc zero)) e q = sym (f (ltb-false x most_nodes p) 1 (omega arith)) ∙ place (base j + 1 + 1) (omega arith)
    go false p (suc (suc (suc zero))) e q = sym (f (ltb-false x most_nodes p) 2 (omega arith)) ∙ place (base j + 1 + 2) (omega arith)
    go false p (suc (suc (suc (suc zero)))) e q = sym (f (ltb-false x most_nodes p) 3 (omega arith)) ∙ place (base j + 1 + 3) (omega arith)
    go false p (suc (suc (suc (suc (suc k))))) e q = absurd (omega arith)

-- a closing is written without meanings
item-closing : (row : List ℕ) (j : ℕ) → most_nodes ≤ get_or row (base j) 0 → (k : ℕ) → k < 4
    → cell (part_code (item_in row j)) (meant_in (item_in row j) 0) (meant_in (item_in row j) 1) (meant_in (item_in row j) 2) (meant_in (item_in row j) 3) (suc k) ≡ 0
item-closing row j h k q =
    subst (λ (b : Bool). cell (part_code (item b)) (meant_in (item b) 0) (meant_in (item b) 1) (meant_in (item b) 2) (meant_in (item b) 3) (suc k) ≡ 0)
    (sym (le-ltb (get_or row (base j) 0) most_nodes h)) (go k q)
  where
    item : Bool → Item
    item b = cond b
        (at (get_or row (base j) 0) (get_or row (base j + 1) 0 ∷ get_or row (base j + 2) 0 ∷ get_or row (base j + 3) 0 ∷ get_or row (base j + 4) 0 ∷ []))
        (shut (get_or row (base j) 0 - most_nodes))

    go : (k : ℕ) → k < 4 → cell (most_nodes + (get_or row (base j) 0 - most_nodes)) 0 0 0 0 (suc k) ≡ 0
    go zero q = refl
    go (suc zero) q = refl
    go (suc (suc zero)) q = refl
    go (suc (suc (suc zero))) q = refl
    go (suc (suc (suc (suc k)))) q = absurd (omega arith)

pub part-fits : (row : List ℕ) (j : ℕ) → get_or row (base j + 1) 0 ≡ 0 → get_or row (base j + 2) 0 ≡ 0 → get_or row (base j + 3) 0 ≡ 0
    → get_or row (base j + 4) 0 ≡ 0 → PartFits row j
part-fits row j a b c d h k q = go k q
  where
    place : (m n : ℕ) → m ≡ n → get_or row n 0 ≡ 0 → get_or row m 0 ≡ 0
    place m n e z = ap (λ (x : ℕ). get_or row x 0) e ∙ z

    go : (k : ℕ) → k < 4 → get_or row (base j + 1 + k) 0 ≡ 0
    go zero q = place (base j + 1 + 0) (base j + 1) (omega arith) a
    go (suc zero) q = place (base j + 1 + 1) (base j + 2) (omega arith) b
    go (suc (suc zero)) q = place (base j + 1 + 2) (base j + 3) (omega arith) c
    go (suc (suc (suc zero))) q = place (base j + 1 + 3) (base j + 4) (omega arith) d
    go (suc (suc (suc (suc k)))) q = absurd (omega arith)

pub part-misfits : (row : List ℕ) (j k m : ℕ) → k < 4 → m ≡ base j + 1 + k → most_nodes ≤ get_or row (base j) 0 → (get_or row m 0 ≡ 0 → ⊥)
    → PartFits row j → ⊥
part-misfits row j k m q e h d f = d (ap (λ (x : ℕ). get_or row x 0) e ∙ f h k q)

pub parts_more : (row : List ℕ) (j : ℕ) → ((k : ℕ) → k < j → PartFits row k) → PartFits row j → (k : ℕ) → k < j + 1 → PartFits row k
parts_more row j all here k l = go (last-or-lower k j (subst (λ (m : ℕ). k < m) (add-one j) l))
  where
    go : (k ≡ j) ⊎ (k < j) → PartFits row k
    go (inl e) = subst (PartFits row) (sym e) here
    go (inr h) = all k h

pub zeros-more : (row : List ℕ) (n k : ℕ) → ((m : ℕ) → n ≤ m → m < k → get_or row m 0 ≡ 0) → get_or row k 0 ≡ 0
    → (m : ℕ) → n ≤ m → m < k + 1 → get_or row m 0 ≡ 0
zeros-more row n k all here m h l = go (last-or-lower m k (subst (λ (x : ℕ). m < x) (add-one k) l))
  where
    go : (m ≡ k) ⊎ (m < k) → get_or row m 0 ≡ 0
    go (inl e) = ap (λ (x : ℕ). get_or row x 0) e ∙ here
    go (inr q) = all m h q

module _ (row : List ℕ) (long : length row ≡ row_width) where
  abbrev Fits : Type 0
  Fits = ((j : ℕ) → j < get_or row 0 0 → PartFits row j) × ZerosFrom row (base (get_or row 0 0))

  pub row_fits : get_or row 0 0 ≤ most_parts → Fits → true ≡ row_ok row
  unfolding row_ok
  row_fits h (f, z) =
      sym (and_both (leb (get_or row 0 0) most_parts) (same_meanings (row_of (position_in row)) row) (le-leb _ _ h)
      ((same-meanings _ _).1 (ext_get_or 0 (row_of (position_in row)) row (length-row (position_in row) ∙ sym long)
      (λ m l. at m (omega (arith, length-row (position_in row))) (ℕ_discrete m 0)))))
    where
      n : length (position_in row) ≡ get_or row 0 0
      n = parts-length row (get_or row 0 0)

      at : (m : ℕ) → m < row_width → Dec (m ≡ 0) → get_or (row_of (position_in row)) m 0 ≡ get_or row m 0
      at m l (yes e) =
          ap (λ (y : ℕ). get_or (row_of (position_in row)) y 0) e ∙ row-depth (position_in row) ∙ n ∙ ap (λ (y : ℕ). get_or row y 0) (sym e)
      at m l (no d) = go (ltb m (base (get_or row 0 0))) refl
        where
          go : (b : Bool) → ltb m (base (get_or row 0 0)) ≡ b → get_or (row_of (position_in row)) m 0 ≡ get_or row m 0
          go true e =
              let q = ltb-true m (base (get_or row 0 0)) e in
              let j = (m - 1) / 5 in
              let k = (m - 1) % 5 in
              let w : m ≡ base j + k = omega arith in
              let x : j < get_or row 0 0 = omega arith in
              parts-cell row (get_or row 0 0) h j x m k w (omega arith) ∙ item-fits row j (f j x) m k w (omega arith)
          go false e =
              let q = ltb-false m (base (get_or row 0 0)) e in
              row-behind (position_in row) m (omega (arith, n)) ∙ sym (z m q l)

  pub row-misfits : (Fits → ⊥) → false ≡ row_ok row
  row-misfits d = go (row_ok row) refl
    where
      go : (b : Bool) → row_ok row ≡ b → false ≡ b
      go false e = refl
      go true e = absurd (d (parts, zeros))
        where
          h : get_or row 0 0 ≤ most_parts
          h = let x = (row_reads row e).1.0 in let y = parts-length row (get_or row 0 0) in omega (arith, x, y)

          same : (m : ℕ) → get_or row m 0 ≡ get_or (row_of (position_in row)) m 0
          same m = ap (λ (l : List ℕ). get_or l m 0) (sym (row_reads row e).0)

          parts : (j : ℕ) → j < get_or row 0 0 → PartFits row j
          parts j l c k q = same (base j + 1 + k) ∙ parts-cell row (get_or row 0 0) h j l (base j + 1 + k) (suc k) (omega arith) (omega arith) ∙ item-closing row j c k q

          zeros : ZerosFrom row (base (get_or row 0 0))
          zeros m l q = same m ∙ row-behind (position_in row) m (let y = parts-length row (get_or row 0 0) in omega (arith, l, y))

  -- d is how many parts there are
  module _ (d : ℕ) (e : d ≡ get_or row 0 0) where
    pub part-fails : (((j : ℕ) → j < d → PartFits row j) → ⊥) → false ≡ row_ok row
    part-fails n = row-misfits (λ f. n (λ j l. f.0 j (subst (λ (x : ℕ). j < x) e l)))

    pub row-decided : d ≤ most_parts → ((j : ℕ) → j < d → PartFits row j) → (r : Bool) → (r ≡ true → ZerosFrom row (base d))
        → (r ≡ false → ZerosFrom row (base d) → ⊥) → r ≡ row_ok row
    row-decided h p true y n =
        row_fits (subst (λ (x : ℕ). x ≤ most_parts) e h)
        (λ j l. p j (subst (λ (x : ℕ). j < x) (sym e) l), subst (λ (x : ℕ). ZerosFrom row (base x)) e (y refl))
    row-decided h p false y n = row-misfits (λ f. n refl (subst (λ (x : ℕ). ZerosFrom row (base x)) (sym e) f.1))

-- ── A table ──

rows-zero : (t : List ℕ) → rows_ok_lem t 0 ≡ true
unfolding rows_ok_lem
rows-zero t = refl

rows-suc : (t : List ℕ) (n : ℕ) → rows_ok_lem t (suc n) ≡ (row_ok (row_in t n) && rows_ok_lem t n)
unfolding rows_ok_lem
rows-suc t n = refl

row-passed : (t : List ℕ) (n i : ℕ) → rows_ok_lem t n ≡ true → i < n → row_ok (row_in t i) ≡ true
unfolding rows_ok_lem
row-passed t zero i e h = absurd (omega arith)
row-passed t (suc n) i e h = go (last-or-lower i n h) (row-passed t n i (and_right (row_ok (row_in t n)) (rows_ok_lem t n) e))
  where
    go : (i ≡ n) ⊎ (i < n) → (i < n → row_ok (row_in t i) ≡ true) → row_ok (row_in t i) ≡ true
    go (inl p) ih = ap (λ (k : ℕ). row_ok (row_in t k)) p ∙ and_left (row_ok (row_in t n)) (rows_ok_lem t n) e
    go (inr l) ih = ih l

-- row by row, from the last one
module _ (t : List ℕ) (i : ℕ) where
  rows-down : 0 < i → rows_ok_lem t i ≡ (row_ok (row_in t (i - 1)) && rows_ok_lem t (i - 1))
  rows-down h = ap (rows_ok_lem t) (let e : i ≡ suc (i - 1) = omega arith in e) ∙ rows-suc t (i - 1)

  pub test-fails : 0 < i → row_ok (row_in t (i - 1)) ≡ false → rows_ok_lem t i ≡ false
  test-fails h e = rows-down h ∙ ap (λ b. b && rows_ok_lem t (i - 1)) e

  pub test-passes : 0 < i → row_ok (row_in t (i - 1)) ≡ true → rows_ok_lem t i ≡ rows_ok_lem t (i - 1)
  test-passes h e = rows-down h ∙ ap (λ b. b && rows_ok_lem t (i - 1)) e

  pub test-ends : i ≤ 0 → rows_ok_lem t i ≡ true
  test-ends h = ap (rows_ok_lem t) (let e : i ≡ 0 = omega arith in e) ∙ rows-zero t

map-from : {A B : Type 0} (g : A → B) (f : ℕ → A) (k n : ℕ) → map g (from f k n) ≡ from (λ i. g (f i)) k n
unfolding from
map-from g f k zero = refl
map-from {B = B} g f k (suc n) = ap (λ (l : List B). g (f k) ∷ l) (map-from g f (suc k) n)

pub reads-tabled : (t : List ℕ) (n : ℕ) → n ≤ most_positions → rows_ok_lem t n ≡ true → Tabled (positions_in t n) n t
unfolding positions_in
reads-tabled t n h e = record {
  few = rw (length_from (λ i. position_in (row_in t i)) 0 n) h;
  fine = λ c m.
      let (i, l, q) = member-from (λ i. position_in (row_in t i)) 0 n c m in
      subst Fine (sym (q ∙ ap (λ (j : ℕ). position_in (row_in t j)) (zero-add i))) (row_reads (row_in t i) (row-passed t n i e l)).1;
  number = sym (length_from (λ i. position_in (row_in t i)) 0 n);
  rows = from-ext (row_in t) (λ i. row_of (position_in (row_in t i))) 0 n (λ i l. sym
      (row_reads (row_in t (0 + i)) (row-passed t n (0 + i) e (rw (zero-add i) l))).0)
      ∙ sym (map-from row_of (λ i. position_in (row_in t i)) 0 n);
}

place_is : (l : List Position) (i : ℕ) (c : Position) → get_elem? l i ≡ some c → get_or l i [] ≡ c
place_is [] i c e = none-some e
place_is (d ∷ l) zero c e = some-injective _ _ e
place_is (d ∷ l) (suc i) c e = place_is l i c e

rows_pass : {l : List Position} {n : ℕ} {t : List ℕ} → Tabled l n t → (k : ℕ) → k ≤ n → rows_ok_lem t k ≡ true
unfolding rows_ok_lem
rows_pass w zero h = refl
rows_pass {t = t} w (suc k) h =
    let x = here w k h in
    and_both (row_ok (row_in t k)) (rows_ok_lem t k) (ap row_ok x.row ∙ row-passes x.position x.fine) (rows_pass w k (omega arith))

pub tabled-passes : {l : List Position} {n : ℕ} {t : List ℕ} → Tabled l n t → rows_ok_lem t n ≡ true
tabled-passes {n = n} w = rows_pass w n (omega arith)

pub tabled-reads : {l : List Position} {n : ℕ} {t : List ℕ} → Tabled l n t → positions_in t n ≡ l
unfolding positions_in
tabled-reads {l} {n} {t} w = sym (is-from (λ i. position_in (row_in t i)) [] n l (sym w.number) (λ i h.
    let x = here w i h in
    place_is l i x.position x.place ∙ sym (ap position_in x.row ∙ row_read x.position x.fine)))

-- what is read of a table are its first n rows
rows-tested : (t u : List ℕ) (n : ℕ) → ((i : ℕ) → i < n → row_in t i ≡ row_in u i) → rows_ok_lem t n ≡ rows_ok_lem u n
unfolding rows_ok_lem
rows-tested t u zero same = refl
rows-tested t u (suc n) same =
    ap₂ (λ a b. a && b) (ap row_ok (same n (omega arith))) (rows-tested t u n (λ i h. same i (omega arith)))

pub rows_alike : (t u : List ℕ) (n : ℕ) → ((i : ℕ) → i < n → row_in t i ≡ row_in u i)
    → (rows_ok_lem t n ≡ rows_ok_lem u n) × (positions_in t n ≡ positions_in u n)
unfolding positions_in
rows_alike t u n same = (
  rows-tested t u n same,
  from-ext (λ i. position_in (row_in t i)) (λ i. position_in (row_in u i)) 0 n (λ i h. ap position_in (same (0 + i) (rw (zero-add i) h))),
)
