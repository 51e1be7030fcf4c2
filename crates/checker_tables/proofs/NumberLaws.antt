-- The numbers of entries as the code computes them, and the places of a table up to a group.
use Prim.Native.Nat.{ℕ, suc, ◌*◌, ◌<◌, ◌≤◌}
use mathlib.Core.Path.{◌≡◌, ap}
use mathlib.Core.Bool.{Bool, true, false, cond}
use native.Mathlib.Omega.{arith}
use lib.Dec.{eqb}
use borrow.Author.Tests.{eqb-true, eq-eqb, ne_eqb}
use Rattle.usage.specs.Limits.{most_nodes}
use Rattle.checker_account.specs.Account.{watched_too}
use Rattle.checker_account.specs.declared.Resources.{Resources}
use Rattle.checker_account.specs.Tables.{unnamed, meanings, numbered, group_in, waiting_group, late_group, waits, layer, places_of}
use Rattle.checker_account.specs.Tables.{places, entries_of_lem, codes_of, place}
use Rattle.checker_tables.specs.Search.{lost, group_end, pair_places}

-- ── Losing a meaning ──

pub lost-lt : (m n : ℕ) → m < meanings → lost m n < meanings
unfolding lost
lost-lt m n l = go (eqb m n)
  where
    go : (b : Bool) → cond b unnamed m < meanings
    go true = omega arith
    go false = l

-- ── A table has the groups of its entries and codes ──

counted-room : (b : Bool) (e top : ℕ) → top ≤ late_group → e < cond b (numbered 0 (suc top)) meanings
    → (group_in e ≤ late_group) × (group_end (group_in e) ≤ cond b (numbered 0 (suc late_group)) meanings * layer)
counted-room true e top h l = (omega arith, omega arith)
counted-room false e top h l = (omega arith, omega arith)

pub entry-room : (x : Resources) (e : ℕ) → e < entries_of_lem x → (group_in e ≤ late_group) × (group_end (group_in e) ≤ places_of x)
unfolding entries_of_lem
entry-room x e l = counted-room (eqb x.second watched_too) e late_group (omega arith) l

pub code-room : (x : Resources) (c : ℕ) → c < codes_of x → (group_in c ≤ late_group) × (group_end (group_in c) ≤ places_of x)
unfolding entries_of_lem codes_of
code-room x c l = counted-room (eqb x.second watched_too) c waiting_group (omega arith) l

-- where a code tells that 17 can still be created, the table has all groups
pub waiting-room : (x : Resources) (c : ℕ) → c < codes_of x → waits c ≡ true → group_end late_group ≤ places_of x
unfolding entries_of_lem codes_of
waiting-room x c l w = go (eqb x.second watched_too) l
  where
    go : (b : Bool) → c < cond b (numbered 0 late_group) meanings → group_end late_group ≤ cond b (numbered 0 (suc late_group)) meanings * layer
    go true l = omega arith
    go false l = let f = eqb-true (group_in c) waiting_group w in absurd (omega arith)

pub codes-most : (x : Resources) → codes_of x ≤ numbered 0 late_group
unfolding codes_of
codes-most x = go (eqb x.second watched_too)
  where
    go : (b : Bool) → cond b (numbered 0 late_group) meanings ≤ numbered 0 late_group
    go true = omega arith
    go false = omega arith

-- ── Tables of one dynamic resource, and of both ──

pub places-one : (x : Resources) → (x.second ≡ watched_too → ⊥) → places_of x ≡ places
unfolding entries_of_lem
places-one x d = ap (λ (b : Bool). cond b (numbered 0 (suc late_group)) meanings * layer) (ne_eqb x.second watched_too d)

pub places-both : (x : Resources) → x.second ≡ watched_too → places_of x ≡ pair_places
unfolding entries_of_lem
places-both x e = ap (λ (b : Bool). cond b (numbered 0 (suc late_group)) meanings * layer) (eq-eqb x.second watched_too e)

pub places-most : (x : Resources) → places_of x ≤ pair_places
unfolding entries_of_lem
places-most x = go (eqb x.second watched_too)
  where
    go : (b : Bool) → cond b (numbered 0 (suc late_group)) meanings * layer ≤ pair_places
    go true = omega arith
    go false = omega arith

-- ── Places of the table of what is come to ──

pub place-room : (k : ℕ) (o : Bool) (c n : ℕ) → k < most_nodes → group_end (group_in c) ≤ n → place k o c < n
place-room k false c n l h = omega arith
place-room k true c n l h = omega arith

pub place-small : (k : ℕ) (o : Bool) (c : ℕ) → k < most_nodes → group_in c ≤ late_group → place k o c < pair_places
place-small k false c l h = omega arith
place-small k true c l h = omega arith
