-- The outline that the bytes hold, off it and on it, and what a step makes of it.
use Prim.Native.Nat.{ℕ, zero, suc, ◌+◌, ◌-◌, ◌*◌, ◌≤◌}
use mathlib.Core.Path.{◌≡◌, refl, sym, ap, ap₂, ◌∙◌}
use mathlib.Core.Bool.{Bool, true, false, ◌&&◌, cond}
use mathlib.Core.Option.{Option, none, some}
use mathlib.Core.List.{List, [], ◌++◌}
use mathlib.Core.Logic.{◌⊎◌, inl, inr}
use native.Mathlib.Omega.{arith}
use native.Mathlib.Decide.{ℕ_discrete}
use lib.Dec.{eqb}
use lib.ListN.{length, get_elem?, take, drop}
use borrow.Author.Tests.{eq-eqb, ne_eqb, le-leb, lt-ltb}
use Rattle.usage.specs.declared.Node.{Node}
use Rattle.usage.specs.declared.RawStep.{RawStep}
use Rattle.usage.specs.Limits.{policies}
use Rattle.usage.specs.Past.{Step, event, opening, closing, retiring}
use Rattle.usage.specs.Judge.{step_of, guard, in_range, step_kinds}
use Rattle.usage.specs.Limits.{within, Kind, ◌until◌, unused, actions, resources}
use Rattle.usage.specs.Tables.{from, nodes_of}
use Rattle.usage.proofs.Logic.{false-true, none-some}
use Rattle.usage.proofs.TableLaws.{length_from}
use Rattle.usage.specs.declared.Reason.{Reason}
use Rattle.monitor_state.specs.declared.Answer.{Answer}
use Rattle.monitor_state.specs.declared.Answer.TheVariants.{Allowed, Violated, Refused}
use Rattle.monitor_lean.specs.Lean.{at_all}
use Rattle.desk_positions.specs.Positions.{Position, most_positions, stride_all}
use Rattle.desk_positions.specs.Rows.{table_bytes}
use Rattle.desk_positions.specs.Growth.{Settles, step_from}
use Rattle.desk_positions.specs.Reading.{rows_ok_lem, positions_in}
use Rattle.desk_positions.proofs.ReadingLaws.{tabled-passes, tabled-reads}
use Rattle.desk.specs.declared.Head.{Head}
use Rattle.desk.specs.Layout.{desk_bytes, rows_at, byte_at, numbers_in, Put, Within}
use Rattle.desk.specs.State.{nodes_in, summary_in, table_in, listed_in, outlined_in, is_listed_lem, exceeded, looks_of}
use Rattle.desk_positions.specs.Positions.{is_any}
use Rattle.desk.specs.Desk.{Outlined, on_positions, stays_on, looks_by, positions_after, outline_after, outline_for}
use Rattle.desk.specs.Code.{SettledIn}
use Rattle.desk_positions.proofs.CopyLaws.{slice_is, part-put, put_all}
use Rattle.desk.proofs.HeadLaws.{put-within}
use Rattle.desk.proofs.DeskLaws.{stray-next}

-- ── Off the outline ──

abbrev Off : Option Outlined → Type 0
Off none = Unit {0}
Off (some u) = (u.positions ≡ none) ⊎ (u.positions ≡ some [])

no-stride : (ns : List Node) (step : Step) → is_any (stride_all ns step []) ≡ false
unfolding stride_all
no-stride ns step = refl

none-on : (ns : List Node) (o : Option Step) → on_positions ns (some []) o ≡ false
none-on ns none = refl
none-on ns (some (event a r)) = no-stride ns (event a r)
none-on ns (some (opening p)) = no-stride ns (opening p)
none-on ns (some (closing p)) = no-stride ns (closing p)
none-on ns (some (retiring r)) = refl

none_after : (ns : List Node) (o : Option Step) → positions_after ns (some []) o ≡ some []
none_after ns none = refl
none_after ns (some (event a r)) = stray-next ns (event a r)
none_after ns (some (opening p)) = stray-next ns (opening p)
none_after ns (some (closing p)) = stray-next ns (closing p)
none_after ns (some (retiring r)) = refl

pub off-stays : (u : Option Outlined) → Off u → (o : Option Step) → stays_on u o ≡ false
unfolding stays_on
off-stays none f o = refl
off-stays (some u) (inl e) o = ap (λ (p : Option (List Position)). on_positions (nodes_of u.nodes) p o) e
off-stays (some u) (inr e) o = ap (λ (p : Option (List Position)). on_positions (nodes_of u.nodes) p o) e ∙ none-on (nodes_of u.nodes) o

with-positions : Outlined → Option (List Position) → Option Outlined
with-positions u p = some record { nodes = u.nodes; summary = u.summary; positions = p }

off-after : (u : Option Outlined) → Off u → (o : Option Step) → outline_after u o ≡ u
unfolding with-positions
off-after none f o = refl
off-after (some u) (inl e) o =
    ap (with-positions u) (ap (λ (p : Option (List Position)). positions_after (nodes_of u.nodes) p o) e ∙ sym e)
off-after (some u) (inr e) o =
    ap (with-positions u)
    (ap (λ (p : Option (List Position)). positions_after (nodes_of u.nodes) p o) e ∙ none_after (nodes_of u.nodes) o ∙ sym e)

pub off-for : (a : Answer Reason) (u : Option Outlined) → Off u → (o : Option Step) → outline_for a u o ≡ u
off-for Allowed u f o = off-after u f o
off-for (Violated p) u f o = refl
off-for (Refused n) u f o = refl

pub looks-off : (u : Option Outlined) (x : Bool) → x ≡ false → looks_by x u ≡ at_all
looks-off none x e = refl
looks-off (some u) true e = false-true (sym e)
looks-off (some u) false e = refl

empty : (t : List ℕ) → listed_in t 0 ≡ some []
unfolding listed_in positions_in from
empty t = refl

over : (t : List ℕ) → listed_in t exceeded ≡ none
unfolding listed_in
over t = refl

pub off_head : (b : List ℕ) (h : Head) → is_listed_lem h ≡ false → h.positions ≤ exceeded → Off (outlined_in b h)
unfolding outlined_in is_listed_lem
off_head b h e l = go (ℕ_discrete h.nodes 0) (ℕ_discrete h.positions 0) (ℕ_discrete h.positions exceeded)
  where
    u : Outlined
    u = record { nodes = nodes_in b h; summary = summary_in b; positions = listed_in (table_in b) h.positions }

    go : Dec (h.nodes ≡ 0) → Dec (h.positions ≡ 0) → Dec (h.positions ≡ exceeded) → Off (cond (eqb h.nodes 0) none (some u))
    go (yes p) y z = rw (eq-eqb _ _ p) tt
    go (no p) (yes q) z = rw (ne_eqb _ _ p) (inr (ap (listed_in (table_in b)) q ∙ empty (table_in b)))
    go (no p) (no q) (yes z) = rw (ne_eqb _ _ p) (inl (ap (listed_in (table_in b)) z ∙ over (table_in b)))
    go (no p) (no q) (no z) =
        false-true (sym e ∙ ap₂ (λ x y. x && y) (lt-ltb 0 h.nodes (omega arith))
        (ap₂ (λ x y. x && y) (lt-ltb 0 h.positions (omega arith)) (le-leb h.positions most_positions (omega arith))))

-- ── On the outline ──

-- the step of these numbers
pub step_from_lem : (raw : RawStep) (step : Step) → step_of raw ≡ some step → step ≡ step_from raw.kind raw.a raw.b
unfolding step_of
step_from_lem raw step e = go raw.kind e
  where
    guarded : (x : Bool) (s : Step) → guard x s ≡ some step → step ≡ s
    guarded true s e = let z : s ≡ step = cc in sym z
    guarded false s e = none-some e

    said-is : (k : Kind Step) → guard (within k.a raw.a && within k.b raw.b) (k.says raw.a raw.b) ≡ some step
        → step ≡ k.says raw.a raw.b
    said-is k e = guarded (within k.a raw.a && within k.b raw.b) (k.says raw.a raw.b) e

    go : (k : ℕ) → in_range (get_elem? step_kinds k) raw.a raw.b ≡ some step → step ≡ step_from k raw.a raw.b
    go zero e = said-is (record { a = 0 until actions; b = 0 until resources; says = λ a r. event a r }) e
    go (suc zero) e = said-is (record { a = 0 until policies; b = unused; says = λ p z. opening p }) e
    go (suc (suc zero)) e = said-is (record { a = 0 until policies; b = unused; says = λ p z. closing p }) e
    go (suc (suc (suc zero))) e = said-is (record { a = 0 until resources; b = unused; says = λ r z. retiring r }) e
    go (suc (suc (suc (suc k)))) e = none-some e

pub kind-low : (raw : RawStep) (step : Step) → step_of raw ≡ some step → raw.kind ≤ 3
unfolding step_of
kind-low raw step e = go raw.kind e
  where
    go : (k : ℕ) → in_range (get_elem? step_kinds k) raw.a raw.b ≡ some step → k ≤ 3
    go zero e = omega arith
    go (suc zero) e = omega arith
    go (suc (suc zero)) e = omega arith
    go (suc (suc (suc zero))) e = omega arith
    go (suc (suc (suc (suc k)))) e = none-some e

pub looks_on : (u : Outlined) (lean : Bool) → looks_by lean (some u) ≡ looks_of lean u.summary
looks_on u true = refl
looks_on u false = refl

-- ── Rows ──

-- the part of the bytes that is lent as the table
pub table-lent : (b : List ℕ) → desk_bytes ≤ length b → take (desk_bytes - rows_at) (drop rows_at b) ≡ table_in b
unfolding table_in
table-lent b h = slice_is b rows_at table_bytes desk_bytes refl h

pub table-long : (b : List ℕ) → length (table_in b) ≡ table_bytes
unfolding table_in numbers_in
table-long b = length_from (λ i. byte_at b (rows_at + 1 * i)) 0 table_bytes

-- and the bytes when it comes back
module _ (b t : List ℕ) (h : desk_bytes ≤ length b) (l : length t ≡ table_bytes) where
  abbrev back : List ℕ
  back = take rows_at b ++ (t ++ drop (desk_bytes - rows_at) (drop rows_at b))

  put_back : Put byte_at 1 b rows_at table_bytes t back
  put_back = part-put b t rows_at table_bytes desk_bytes refl h l

  pub table-back : table_in back ≡ t
  unfolding table_in
  table-back = put_all byte_at 1 b rows_at table_bytes t back put_back l

  pub within-back : Within b rows_at desk_bytes back
  within-back = put-within desk_bytes put_back refl

pub listed-few : (t : List ℕ) (k : ℕ) → k ≤ most_positions → listed_in t k ≡ some (positions_in t k)
unfolding listed_in
listed-few t k h = rw (ne_eqb k exceeded (λ e. omega arith))

-- what is told of a table is read from the bytes
pub rows_settled : (b t : List ℕ) (o : Option (List Position)) (k : ℕ) → table_in b ≡ t → k ≤ suc most_positions → Settles o k t → SettledIn o k b
rows_settled b t none k e h s = record {
  few = h;
  lists = ap (listed_in (table_in b)) s ∙ over (table_in b);
  rows = λ q. absurd (omega arith);
}
rows_settled b t (some ls) k e h w =
    let q : k ≤ most_positions = let x = w.few in let y = w.number in omega arith in
    record {
      few = h;
      lists = listed-few (table_in b) k q ∙ ap some (ap (λ (x : List ℕ). positions_in x k) e ∙ tabled-reads w);
      rows = λ z. ap (λ (x : List ℕ). rows_ok_lem x k) e ∙ tabled-passes w;
    }
