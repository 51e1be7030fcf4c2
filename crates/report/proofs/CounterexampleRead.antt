-- What is printed of a counterexample is an accepted trace sheet, and reading it gives the steps that were written.
use Prim.Native.Nat.{ℕ, zero, suc, ◌-◌, ◌<◌, ◌≤◌}
use mathlib.Core.Path.{◌≡◌, refl, ap, ◌∙◌}
use mathlib.Core.Bool.{Bool, true}
use mathlib.Core.List.{List, [], ◌∷◌, ◌++◌, map, append_assoc}
use native.Mathlib.Omega.{arith}
use lib.ListN.{length, length-append}
use borrow.Author.Tests.{le-leb}
use Rattle.usage.specs.declared.RawStep.{RawStep}
use Rattle.usage.specs.Limits.{resources, most_steps}
use Rattle.usage.specs.Past.{Step, event, opening, closing, retiring, Past}
use Rattle.usage.specs.Tables.{from, step_at_lem}
use Rattle.usage.proofs.Logic.{clash}
use Rattle.usage.proofs.JudgeLaws.{Fits}
use Rattle.sheet_fields.specs.Fields.{step_line_lem, step_ok}
use Rattle.sheet_bytes.specs.Class.{class_of}
use Rattle.sheet_bytes.specs.Code.{value_limit}
use Rattle.sheet_bytes.specs.Line.{lines_of}
use Rattle.sheet_bytes.specs.Grammar.{one_space, Values, last_value, next_value}
use Rattle.sheet_bytes.proofs.FaultLaws.{decides-values}
use Rattle.sheet_lines.specs.Sheet.{Result, accepted, refused, followed, value_lines, sheet}
use Rattle.sheet_lines.specs.Sheets.{trace_sheet, outline_sheet, is_local}
use Rattle.sheet_lines.proofs.ScanLaws.{fed}
use Rattle.sheet_reader.specs.Readers.{policies_read, ruled_result}
use Rattle.sheet_reader.proofs.WrittenLaws.{nothing_left, names-read}
use Rattle.std.specs.Prelude.{Result as Returned}
use Rattle.usage.specs.declared.Reason.{Reason}
use Rattle.checker_counterexample.specs.declared.Explanation.{Explanation}
use Rattle.checker.specs.Accepted.{raw_of}
use Rattle.checker_counterexample.specs.Explained.{Explained, steps_written_lem}
use Rattle.report_lines.specs.Decimal.{decimal}
use Rattle.report_lines.specs.Lines.{field, three, row, trace_names_line}
use Rattle.sheet_writer.proofs.FieldLaws.{decimal-value, space-line, feed-line}
use Rattle.report.specs.Counterexample.{
  no_steps,
  RightTrace,
  RightTraceOf,
  RightExplanation,
  step_row,
  step_rows,
  shown_sheet,
  nodes_sheet,
}
use Rattle.report.specs.Counterexample.{sheets_sheet, counterexample_printed}
use Rattle.report.proofs.CounterexampleLaws.{raws_of, LowStep, Low, no_step, one_more as low-more, explained-held, held-short}

-- ── A printed row is one line ──

-- the bytes of a line of three numbers
abbrev pub three_bytes : ℕ → ℕ → ℕ → List ℕ
three_bytes a b c = decimal a ++ (32 ∷ (decimal b ++ (32 ∷ decimal c)))

pub row_line : (a b c : ℕ) → a < value_limit → b < value_limit → c < value_limit → (bs : List ℕ)
    → lines_of (row a b c ++ bs) ≡ fed (three_bytes a b c) ∷ lines_of bs
unfolding row three
row_line a b c ha hb hc bs =
    ap lines_of (append_assoc (field a 32) (field b 32 ++ field c 10) bs)
    ∙ space-line a ha ((field b 32 ++ field c 10) ++ bs) (decimal b ++ (32 ∷ decimal c)) (lines_of bs)
    (ap lines_of (append_assoc (field b 32) (field c 10) bs)
    ∙ space-line b hb (field c 10 ++ bs) (decimal c) (lines_of bs) (feed-line c hc bs))

pub three-values : (a b c : ℕ) → a < value_limit → b < value_limit → c < value_limit → Values (a ∷ b ∷ c ∷ []) (three_bytes a b c)
unfolding class_of
three-values a b c ha hb hc =
    next_value (decimal-value a ha) (one_space 32 refl)
    (next_value (decimal-value b hb) (one_space 32 refl) (last_value (decimal-value c hc)))

-- ── The lines of a trace sheet ──

-- the values of a step's line
abbrev pub step_values : RawStep → List ℕ
step_values s = s.kind ∷ s.a ∷ s.b ∷ []

record Readable (s : RawStep) : Type 0 where
  kind : s.kind < value_limit
  a : s.a < value_limit
  b : s.b < value_limit
  ranged : step_line_lem (step_values s) ≡ true

step-read : (line left : ℕ) (s : RawStep) (bs : List ℕ) → Readable s
    → value_lines trace_sheet line (suc left) (lines_of (step_row s ++ bs)) ≡ followed (step_values s)
    (value_lines trace_sheet (suc line) left (lines_of bs))
unfolding value_lines
step-read line left s bs h =
    let w = (decides-values trace_sheet.fields (fed (three_bytes s.kind s.a s.b)) (step_values s)).1 record {
      is_ended = refl;
      has = three-values s.kind s.a s.b h.kind h.a h.b;
      all_fields = refl;
    } in
    ap (value_lines trace_sheet line (suc left)) (row_line s.kind s.a s.b h.kind h.a h.b bs) ∙ rw (w, h.ranged) refl

data AllReadable : List RawStep → Type 0 where
  none_left : AllReadable []
  and-more : {s : RawStep} {steps : List RawStep} → Readable s → AllReadable steps → AllReadable (s ∷ steps)

readable-snoc : {steps : List RawStep} {s : RawStep} → AllReadable steps → Readable s → AllReadable (steps ++ (s ∷ []))
readable-snoc none_left h = and-more h none_left
readable-snoc (and-more k ks) h = and-more k (readable-snoc ks h)

steps-read : (line left : ℕ) {steps : List RawStep} → AllReadable steps → length steps ≤ left
    → value_lines trace_sheet line left (lines_of (step_rows steps)) ≡ accepted (map step_values steps)
unfolding step_rows
steps-read line left none_left few = nothing_left trace_sheet line left
steps-read line zero (and-more h hs) few = absurd (omega arith)
steps-read line (suc left) (and-more {s} {steps} h hs) few =
    step-read line left s (step_rows steps) h ∙ ap (followed (step_values s)) (steps-read (suc line) left hs (omega arith))

-- ── The steps of a counterexample ──

step-ranged : (s : Step) → Fits s → step_line_lem (step_values (raw_of s)) ≡ true
unfolding step_ok
step-ranged (event a r) (l, k) =
    rw (le-leb 0 a (omega arith), le-leb a 31 (omega arith), le-leb 0 r (omega arith), le-leb r (resources - 1) (omega arith))
step-ranged (opening p) l = rw (le-leb 0 p (omega arith), le-leb p 7 (omega arith))
step-ranged (closing p) l = rw (le-leb 0 p (omega arith), le-leb p 7 (omega arith))
step-ranged (retiring r) l = rw (le-leb 0 r (omega arith), le-leb r (resources - 1) (omega arith))

step-readable : (s : Step) → LowStep s → Readable (raw_of s)
step-readable (event a r) l =
    let h = l.fits.0 in
    let k = l.b in
    record { kind = omega arith; a = omega arith; b = omega arith; ranged = step-ranged (event a r) l.fits }
step-readable (opening p) l =
    let h = l.fits in
    record { kind = omega arith; a = omega arith; b = omega arith; ranged = step-ranged (opening p) l.fits }
step-readable (closing p) l =
    let h = l.fits in
    record { kind = omega arith; a = omega arith; b = omega arith; ranged = step-ranged (closing p) l.fits }
step-readable (retiring r) l =
    let h = l.a in
    record { kind = omega arith; a = omega arith; b = omega arith; ranged = step-ranged (retiring r) l.fits }

low-readable : {past : Past} → Low past → AllReadable (raws_of past)
unfolding raws_of
low-readable no_step = none_left
low-readable (low-more {s} l ls) = readable-snoc (low-readable ls) (step-readable s l)

raws-length : (past : Past) → length (raws_of past) ≡ length past
unfolding raws_of
raws-length [] = refl
raws-length (s ∷ past) = omega (arith, length-append (raws_of past) (raw_of s ∷ []), raws-length past)

-- The text of a counterexample is a trace sheet that is accepted, and its values are the steps of the table.
pub shown_read : {local : Bool} {e n t : List ℕ} {x : Returned Explanation Reason} → Explained local e n no_steps x t
    → sheet trace_sheet (shown_sheet x t) ≡ accepted (map step_values (from (step_at_lem t) 0 (steps_written_lem x)))
unfolding trace_names_line
shown_read {t = t} {x = x} d =
    let h = explained-held d in
    let short = held-short h in
    let rows = step_rows (from (step_at_lem t) 0 (steps_written_lem x)) in
    let l = length-append trace_sheet.names rows in
    let m = raws-length h.past in
    let c = h.count in
    let f = h.few in
    names-read trace_sheet rows (omega arith)
    ∙ rw h.steps (steps-read 2 most_steps (low-readable h.low) (omega arith))

-- the same of what is printed for two accepted sheets: the first program can judge it as it is
pub counterexample-read : (policies-text outline-text : List ℕ) (edges nodes : List (List ℕ))
    → policies_read policies-text ≡ accepted edges
    → ruled_result (sheet outline_sheet outline-text) ≡ accepted nodes → (x : Returned Explanation Reason) (t : List ℕ)
    → RightExplanation policies-text outline-text x t
    → sheet trace_sheet (counterexample_printed policies-text outline-text x t) ≡ accepted
    (map step_values (from (step_at_lem t) 0 (steps_written_lem x)))
unfolding RightTrace RightTraceOf nodes_sheet sheets_sheet
counterexample-read policies-text outline-text edges nodes p o x t h =
    go (is_local policies-text) (policies_read policies-text) (ruled_result (sheet outline_sheet outline-text)) p o h
  where
    go : (local : Bool) (a b : Result) → a ≡ accepted edges → b ≡ accepted nodes → RightTraceOf local a b x t
        → sheet trace_sheet (sheets_sheet a b x t) ≡ accepted (map step_values (from (step_at_lem t) 0 (steps_written_lem x)))
    go local (accepted es) (accepted ns) e f h = shown_read h
    go local (accepted es) (refused r) e f h = clash (cc)
    go local (refused r) b e f h = clash (cc)
