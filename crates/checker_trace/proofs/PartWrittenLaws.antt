-- What each of the writer's functions promises, way by way: its part is written where those that it calls have written theirs, and there
-- is room for them.
use Prim.Native.Nat.{ℕ, ◌+◌, ◌-◌, ◌*◌, ◌<◌, ◌≤◌}
use mathlib.Core.Path.{◌≡◌, refl, ap, ◌∙◌, subst}
use mathlib.Core.Option.{some}
use mathlib.Core.List.{List}
use native.Mathlib.Omega.{arith}
use lib.ListN.{length, get_or}
use Rattle.usage.specs.Limits.{step_fields}
use Rattle.usage.specs.Outline.{static_event, named_event, sequence, fresh, sandbox}
use Rattle.checker_account.specs.Single.{no_name}
use Rattle.checker_lengths.specs.declared.WatchOne.{WatchOne}
use Rattle.checker_lengths.specs.Entries.{at_break, held}
use Rattle.checker_lengths.specs.Offers.{first_entry}
use Rattle.checker_lengths.specs.Filling.{form_here}
use Rattle.std.specs.Prelude.{None}
use Rattle.checker_trace.specs.declared.Part.{Part}
use Rattle.checker_trace.specs.declared.Spot.{Spot}
use Rattle.checker_trace.specs.declared.Way.{Way}
use Rattle.checker_trace.specs.Code.{OntoIs, onto, stored_step, onward, created, first_part_lem, second_part_lem, body_part_lem, inner_part_lem}
use Rattle.checker_trace.specs.Code.{Writes, Room, Picked, PartWritten}
use Rattle.checker_trace.proofs.StepLaws.{stored-length}
use Rattle.checker_trace.proofs.WriteLaws as laws
use Rattle.checker_trace.proofs.PartLaws.{chosen-sequence, chosen-sandbox, around-end}
use Rattle.checker_trace.proofs.PartLaws.{wrote-sequence, wrote-opening, wrote-inside, wrote-sandbox}
use Rattle.checker_trace.proofs.FreshLaws.{wrote-born, wrote-fresh}

module _ (w : WatchOne) (rows nodes t : List ℕ) (p : Part) (trace : List ℕ) (room : Room nodes p trace) where
  abbrev Whole : Spot → List ℕ → Type 0
  Whole r trace' = PartWritten w rows nodes t p trace r trace'

  -- it is written where all is that belongs to it
  abbrev Told : Spot → List ℕ → Type 0
  Told r trace' = Writes w rows nodes t p.entry p.steps p.names p.spot trace r trace'

  -- ── No step ──

  pub none_written : p.steps ≡ 0 → Whole p.spot trace
  none_written h = record {
    length_kept = refl;
    within = record { at = omega arith; next = omega arith };
    writes = laws.wrote_none w rows nodes t p.entry p.steps p.names p.spot trace h;
  }

  pub nowhere-written : OntoIs w rows nodes t p.entry p.steps None → 1 ≤ p.steps → Whole p.spot trace
  nowhere-written on one = record {
    length_kept = refl;
    within = record { at = omega arith; next = omega arith };
    writes = laws.wrote-nowhere w rows nodes t p.entry p.steps p.names p.spot trace on room.few one p.spot trace;
  }

  -- ── One step ──

  pub step_room : 1 ≤ p.steps → step_fields * p.spot.at + step_fields ≤ length trace
  step_room one = let l = room.long in omega arith

  module _ (one : 1 ≤ p.steps) (r : Spot) (is : r ≡ onward p.spot) (kind a b : ℕ) (trace' : List ℕ)
      (stored : trace' ≡ stored_step trace p.spot.at kind a b) where
    step-written : Told r trace' → Whole r trace'
    step-written h =
        let at = ap (λ (y : Spot). y.at) is in
        let nx = ap (λ (y : Spot). y.next) is in
        record {
          length_kept = ap length stored ∙ stored-length trace p.spot.at kind a b;
          within = record { at = omega arith; next = omega arith };
          writes = h;
        }

  module _ (one : 1 ≤ p.steps) (k c : ℕ) (on : OntoIs w rows nodes t p.entry p.steps (onto k c)) (r : Spot)
      (is : r ≡ onward p.spot) (trace' : List ℕ) (d i : ℕ) where
    pub static-written : form_here nodes k ≡ some (static_event d i) → trace' ≡ stored_step trace p.spot.at 0 d i → Whole r trace'
    static-written form stored =
        step-written one r is 0 d i trace' stored
        (laws.wrote_static w rows nodes t p.entry p.steps p.names p.spot trace room.few_nodes room.few k c on d i form
        r is trace' stored)

    pub name-written : form_here nodes k ≡ some (named_event d i)
        → trace' ≡ stored_step trace p.spot.at 0 d (get_or p.names.numbers i 0) → Whole r trace'
    name-written form stored =
        step-written one r is 0 d (get_or p.names.numbers i 0) trace' stored
        (laws.wrote-name w rows nodes t p.entry p.steps p.names p.spot trace room.few_nodes room.few k c on d i form
        r is trace' stored)

  -- ── A sequence ──

  module _ (y : Way) (picked : Picked w rows nodes t p (some (sequence y.a y.b)) y.rule) (v : ℕ)
      (is : v ≡ held t p.steps (first_entry p.entry y.a y.rule)) where
    pub first-fewer : v < p.steps
    first-fewer =
        let l = (chosen-sequence w rows nodes t p.entry p.steps y.rule room.few y.a y.b picked.chosen).2 in
        omega arith

    pub second-fewer : p.steps - v < p.steps
    second-fewer =
        let split = chosen-sequence w rows nodes t p.entry p.steps y.rule room.few y.a y.b picked.chosen in
        let sum = split.1 in
        let l = split.3 in
        omega arith

    pub first-room : Room nodes (first_part_lem p y v) trace
    first-room =
        let l = first-fewer in
        let f = room.few in
        let s = room.long in
        let n = room.numbered in
        record { few_nodes = room.few_nodes; few = omega arith; long = omega arith; numbered = omega arith }

    module _ (mid : Spot) (trace₁ : List ℕ) (first : PartWritten w rows nodes t (first_part_lem p y v) trace mid trace₁) where
      pub second-room : Room nodes (second_part_lem p y v mid) trace₁
      second-room =
          let l = first-fewer in
          let f = room.few in
          let s = room.long in
          let n = room.numbered in
          let e = first.length_kept in
          let at = first.within.at in
          let nx = first.within.next in
          record { few_nodes = room.few_nodes; few = omega arith; long = omega arith; numbered = omega arith }

      pub sequence-written : (r : Spot) (trace₂ : List ℕ) → PartWritten w rows nodes t (second_part_lem p y v mid) trace₁ r trace₂
          → Whole r trace₂
      sequence-written r trace₂ second =
          let l = first-fewer in
          let at = first.within.at in
          let nx = first.within.next in
          let at₂ = second.within.at in
          let nx₂ = second.within.next in
          record {
            length_kept = second.length_kept ∙ first.length_kept;
            within = record { at = omega arith; next = omega arith };
            writes = wrote-sequence w rows nodes t p.entry p.steps y.rule room.few_nodes room.few y.a y.b
                picked.chosen p.names p.spot trace v is mid trace₁ first.writes r trace₂ second.writes;
          }

  -- ── A fresh node ──

  module _ (y : Way) (picked : Picked w rows nodes t p (some (fresh y.a y.b)) y.rule) (made : Spot)
      (is : made ≡ created p.spot) (trace₁ : List ℕ) (stored : trace₁ ≡ stored_step trace p.spot.at 0 0 p.spot.next) where
    kept : length trace₁ ≡ length trace
    kept = ap length stored ∙ stored-length trace p.spot.at 0 0 p.spot.next

    pub born-written : at_break ≤ y.rule → Whole made trace₁
    born-written big =
        let one = picked.one in
        let at = ap (λ (z : Spot). z.at) is in
        let nx = ap (λ (z : Spot). z.next) is in
        record {
          length_kept = kept;
          within = record { at = omega arith; next = omega arith };
          writes = wrote-born w rows nodes t p.entry p.steps y.rule room.few_nodes room.few y.a y.b
              picked.chosen big
              p.names p.spot trace made is trace₁ stored;
        }

    pub body-room : Room nodes (body_part_lem p y made) trace₁
    body-room =
        let one = picked.one in
        let at = ap (λ (z : Spot). z.at) is in
        let nx = ap (λ (z : Spot). z.next) is in
        let f = room.few in
        let s = room.long in
        let n = room.numbered in
        let e = kept in
        record { few_nodes = room.few_nodes; few = omega arith; long = omega arith; numbered = omega arith }

    pub fresh-written : y.rule < at_break → length p.names.numbers ≡ no_name → (r : Spot) (trace₂ : List ℕ)
        → PartWritten w rows nodes t (body_part_lem p y made) trace₁ r trace₂ → Whole r trace₂
    fresh-written low four r trace₂ body =
        let one = picked.one in
        let at = ap (λ (z : Spot). z.at) is in
        let nx = ap (λ (z : Spot). z.next) is in
        let at₂ = body.within.at in
        let nx₂ = body.within.next in
        record {
          length_kept = body.length_kept ∙ kept;
          within = record { at = omega arith; next = omega arith };
          writes = wrote-fresh w rows nodes t p.entry p.steps y.rule room.few_nodes room.few y.a y.b
              picked.chosen low
              p.names four p.spot trace r trace₂
              (subst (λ (s : Spot). Writes w rows nodes t (body_part_lem p y made).entry (p.steps - 1) (body_part_lem p y made).names s
              (stored_step trace p.spot.at 0 0 p.spot.next) r trace₂) is
              (subst (λ (u : List ℕ). Writes w rows nodes t (body_part_lem p y made).entry (p.steps - 1)
              (body_part_lem p y made).names made u r trace₂)
              stored body.writes));
        }

  -- ── A sandbox ──

  module _ (y : Way) (picked : Picked w rows nodes t p (some (sandbox y.a y.b)) y.rule) (begun : Spot)
      (is : begun ≡ onward p.spot) (trace₁ : List ℕ) (stored : trace₁ ≡ stored_step trace p.spot.at 1 y.a 0) where
    pub opening-written : 0 < y.rule → Whole begun trace₁
    opening-written pos =
        step-written picked.one begun is 1 y.a 0 trace₁ stored
        (wrote-opening w rows nodes t p.entry p.steps y.rule room.few_nodes room.few y.a y.b picked.chosen pos
        p.names p.spot trace begun is trace₁ stored)

    -- the opening, and what else there is around the body
    pub inside-room : (n : ℕ) → 1 ≤ n → n ≤ p.steps → Room nodes (inner_part_lem w p y n begun) trace₁
    inside-room n pos all =
        let at = ap (λ (z : Spot). z.at) is in
        let nx = ap (λ (z : Spot). z.next) is in
        let f = room.few in
        let s = room.long in
        let u = room.numbered in
        let e : length trace₁ ≡ length trace = ap length stored ∙ stored-length trace p.spot.at 1 y.a 0 in
        record { few_nodes = room.few_nodes; few = omega arith; long = omega arith; numbered = omega arith }

    -- the body as it is written from the opening on
    from-opening : (n : ℕ) (r : Spot) (trace₂ : List ℕ) → PartWritten w rows nodes t (inner_part_lem w p y n begun) trace₁ r trace₂
        → Writes w rows nodes t (inner_part_lem w p y n begun).entry (p.steps - n) p.names (onward p.spot)
        (stored_step trace p.spot.at 1 y.a 0) r trace₂
    from-opening n r trace₂ body =
        subst (λ (s : Spot). Writes w rows nodes t (inner_part_lem w p y n begun).entry (p.steps - n) p.names s
        (stored_step trace p.spot.at 1 y.a 0) r trace₂) is
        (subst (λ (u : List ℕ). Writes w rows nodes t (inner_part_lem w p y n begun).entry (p.steps - n) p.names begun u r trace₂) stored
        body.writes)

    pub inside-written : y.rule ≡ 0 → p.entry.aim ≡ at_break → (r : Spot) (trace₂ : List ℕ)
        → PartWritten w rows nodes t (inner_part_lem w p y 1 begun) trace₁ r trace₂ → Whole r trace₂
    inside-written first breaks r trace₂ body =
        let one = picked.one in
        let at = ap (λ (z : Spot). z.at) is in
        let nx = ap (λ (z : Spot). z.next) is in
        let at₂ = body.within.at in
        let nx₂ = body.within.next in
        record {
          length_kept = body.length_kept ∙ ap length stored ∙ stored-length trace p.spot.at 1 y.a 0;
          within = record { at = omega arith; next = omega arith };
          writes = wrote-inside w rows nodes t p.entry p.steps y.rule room.few_nodes room.few y.a y.b
              picked.chosen
              first breaks p.names p.spot trace r trace₂ (from-opening 1 r trace₂ body);
        }

    -- where the body ends there is the closing too
    module _ (first : y.rule ≡ 0) (ends : p.entry.aim ≡ at_break → ⊥) where
      pub two_steps : 2 ≤ p.steps
      two_steps =
          let sum = chosen-sandbox w rows nodes t p.entry p.steps y.rule room.few y.a y.b picked.chosen first in
          let two = around-end w rows nodes t p.entry p.steps y.rule room.few_nodes room.few ends in
          omega arith

      module _ (mid : Spot) (trace₂ : List ℕ) (body : PartWritten w rows nodes t (inner_part_lem w p y 2 begun) trace₁ mid trace₂) where
        pub closing-room : step_fields * mid.at + step_fields ≤ length trace₂
        closing-room =
            let two = two_steps in
            let at = ap (λ (z : Spot). z.at) is in
            let at₂ = body.within.at in
            let s = room.long in
            let e = body.length_kept ∙ ap length stored ∙ stored-length trace p.spot.at 1 y.a 0 in
            omega arith

        pub sandbox-written : (r : Spot) → r ≡ onward mid → (trace₃ : List ℕ) → trace₃ ≡ stored_step trace₂ mid.at 2 y.a 0
            → Whole r trace₃
        sandbox-written r last trace₃ closed =
            let two = two_steps in
            let at = ap (λ (z : Spot). z.at) is in
            let nx = ap (λ (z : Spot). z.next) is in
            let at₂ = body.within.at in
            let nx₂ = body.within.next in
            let at₃ = ap (λ (z : Spot). z.at) last in
            let nx₃ = ap (λ (z : Spot). z.next) last in
            record {
              length_kept = ap length closed ∙ stored-length trace₂ mid.at 2 y.a 0 ∙ body.length_kept ∙ ap length stored
                  ∙ stored-length trace p.spot.at 1 y.a 0;
              within = record { at = omega arith; next = omega arith };
              writes = wrote-sandbox w rows nodes t p.entry p.steps y.rule room.few_nodes room.few y.a y.b
                  picked.chosen
                  first ends p.names p.spot trace mid trace₂ (from-opening 2 mid trace₂ body) r last trace₃ closed;
            }
