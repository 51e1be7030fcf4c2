-- Laws of what the first program prints.
use Prim.Native.Nat.{ℕ, suc, ◌+◌, ◌-◌, ◌*◌, ◌/◌, ◌≤◌, ◌<◌}
use mathlib.Core.Bool.{Bool}
use mathlib.Core.Path.{◌≡◌, refl, sym, ap, ◌∙◌}
use mathlib.Core.List.{List, [], ◌∷◌, ◌++◌, flatten}
use native.Mathlib.Omega.{arith}
use native.Mathlib.Numerals.{add-one}
use native.Mathlib.Nat.{sub-zero}
use lib.ListN.{length, take, length-append}
use lib.Seq.{sets, length-sets}
use Rattle.usage.specs.declared.RawStep.{RawStep}
use Rattle.usage.specs.Limits.{most_steps}
use Rattle.usage.specs.Tables.{from, step_at_lem, steps_of}
use Rattle.usage.specs.Answers.{answer, detail}
use Rattle.usage.proofs.TableLaws.{steps-length}
use Rattle.sheet_lines.specs.Sheet.{Result, accepted, refused, sheet}
use Rattle.sheet_lines.specs.Sheets.{trace_sheet}
use Rattle.sheet_lines.proofs.AcceptLaws.{sheet-accepted, flat-length}
use Rattle.sheet_reader.proofs.AnswerLaws.{Holds}
use Rattle.sheet_reader.proofs.RefusalLaws.{sheet-low}
use Rattle.monitor_state.specs.declared.State.{State}
use Rattle.monitor_state.specs.declared.Judgement.{Judgement}
use Rattle.monitor_state.specs.Judge.{verdict_of, start_state, judge_of, answers_of}
use Rattle.report_lines.specs.Lines.{row, verdict_row, rows}
use Rattle.report_lines.specs.Put.{put_at, end_at}
use Rattle.report_lines.proofs.PutLaws.{sets-append}
use Rattle.report_lines.proofs.FitLaws.{stored_at}
use Rattle.report_lines.proofs.RowLaws.{row-short, verdict-short}
use Rattle.report.specs.Output.{longest_step_row, steps_room}
use Rattle.report.specs.Trace.{judged_rows, trace_rows}
use Rattle.report.proofs.DetailLaws.{detail-small}

-- the rows of the steps from i on, of n in all, judged from the state s on
abbrev pub left : List ℕ → Bool → List ℕ → ℕ → State → ℕ → List ℕ
left edges local steps n s i = judged_rows edges local s (i + 2) (from (step_at_lem steps) i (n - i))

module _ (edges : List ℕ) (local : Bool) (steps : List ℕ) where
  pub all_left : judged_rows edges local start_state 2 (steps_of steps) ≡ left edges local steps (length steps / 3) start_state 0
  unfolding steps_of
  all_left =
      let e : length steps / 3 - 0 ≡ length steps / 3 = omega arith in
      rw e

  module _ (n : ℕ) (s : State) (i : ℕ) where
    pub none_left : n ≤ i → left edges local steps n s i ≡ []
    unfolding judged_rows from rows answers_of
    none_left h = let e : n - i ≡ 0 = omega arith in rw e

    pub next-left : i < n
        → left edges local steps n s i
        ≡ verdict_row (i + 2) (verdict_of (judge_of edges local s (step_at_lem steps i)).answer)
        ++ left edges local steps n (judge_of edges local s (step_at_lem steps i)).state (i + 1)
    unfolding judged_rows from rows answers_of
    next-left h =
        let e : n - i ≡ suc (n - (i + 1)) = omega arith in
        let k : i + 1 + 2 ≡ suc (i + 2) = omega arith in
        rw (e, k, add-one i)

    -- the same, of the numbers that the functions return
    next_row : (j : Judgement) (a d : ℕ) → j ≡ judge_of edges local s (step_at_lem steps i) → a ≡ answer (verdict_of j.answer)
        → d ≡ detail (verdict_of j.answer) → i < n
        → left edges local steps n s i ≡ row (i + 2) a d ++ left edges local steps n j.state (i + 1)
    next_row j a d ej ea ed h = rw (ea, ed, ej) (next-left h)

    row-ten : (j : Judgement) (a d : ℕ) → j ≡ judge_of edges local s (step_at_lem steps i) → a ≡ answer (verdict_of j.answer)
        → d ≡ detail (verdict_of j.answer) → i < most_steps → length (row (i + 2) a d) ≤ longest_step_row
    row-ten j a d ej ea ed h =
        rw (ea, ed, ej) (verdict-short (i + 2) (verdict_of (judge_of edges local s (step_at_lem steps i)).answer) (omega arith)
        (detail-small edges local s (step_at_lem steps i)))

-- i of n steps are judged, from `at` on, and led to the state s: the rows that are left stand from `next` on in what `out` has become
pub record Going (edges : List ℕ) (local : Bool) (steps : List ℕ) (n : ℕ)
    (out₀ : List ℕ) (at : ℕ) (out : List ℕ) (s : State) (next i : ℕ) : Type 0 where
  pub within : i ≤ n
  pub long : length out ≡ length out₀
  pub room : next + longest_step_row * (n - i) ≤ length out
  pub end : next + length (left edges local steps n s i) ≡ at + length (left edges local steps n start_state 0)
  pub put : sets out next (left edges local steps n s i) ≡ sets out₀ at (left edges local steps n start_state 0)

pub going_on : {edges : List ℕ} {local : Bool} {steps : List ℕ} {n : ℕ} {out₀ : List ℕ} {at : ℕ} {out : List ℕ} {s : State} {next i : ℕ}
    → Going edges local steps n out₀ at out s next i → {raw : RawStep} {a d r : ℕ} {after : List ℕ} (j : Judgement) → raw ≡ step_at_lem steps i
    → j ≡ judge_of edges local s raw → a ≡ answer (verdict_of j.answer) → d ≡ detail (verdict_of j.answer)
    → r ≡ end_at out next (row (i + 2) a d) → after ≡ put_at out next (row (i + 2) a d) → i < n → n ≤ most_steps
    → Going edges local steps n out₀ at after j.state r (i + 1)
going_on {edges} {local} {steps} {n} {out = out} {s} {next} {i} g {raw} {a} {d} {r} {after} j er ej ea ed en ep h few =
    let line = row (i + 2) a d in
    let rest = left edges local steps n j.state (i + 1) in
    let e : j ≡ judge_of edges local s (step_at_lem steps i) = ej ∙ ap (judge_of edges local s) er in
    let ten = row-ten edges local steps n s i j a d e ea ed (omega arith) in
    let e = next_row edges local steps n s i j a d e ea ed h in
    let room = g.room in
    let z = stored_at out next line (omega arith) en ep in
    let l = ap length z.1 ∙ length-sets out next line in
    let k = ap length e ∙ length-append line rest in
    let m = g.end in
    record {
      within = omega arith;
      long = omega arith;
      room = omega arith;
      end = omega arith;
      put = rw (z.1, z.0) (sym (sets-append out next line rest) ∙ ap (sets out next) (sym e) ∙ g.put);
    }

-- ── The rows of the sheets ──

module _ (edges : List ℕ) (local : Bool) (text table : List ℕ) where
  pub rows-held : (n : ℕ) → Holds trace_sheet text table n
      → trace_rows edges local (sheet trace_sheet text) ≡ judged_rows edges local start_state 2 (steps_of (take (n * 3 - 0) table))
  unfolding trace_rows
  rows-held n h = rw (h.result, sub-zero (n * 3)) (ap (λ (t : List ℕ). judged_rows edges local start_state 2 (steps_of t)) (sym h.flat))

  pub row-refused : (line number : ℕ) → sheet trace_sheet text ≡ refused record { line = line; number = number }
      → trace_rows edges local (sheet trace_sheet text) ≡ row line 4 number
  unfolding trace_rows
  row-refused line number e = rw e

-- ── The room ──

-- each step has a row of at most ten bytes
judged-short : (edges : List ℕ) (local : Bool) (s : State) (line : ℕ) (steps : List RawStep) → line + length steps ≤ 10000
    → length (judged_rows edges local s line steps) ≤ longest_step_row * length steps
unfolding judged_rows rows answers_of
judged-short edges local s line [] h = omega arith
judged-short edges local s line (raw ∷ steps) h =
    let j = judge_of edges local s raw in
    let f = verdict-short line (verdict_of j.answer) (omega arith) (detail-small edges local s raw) in
    let g = judged-short edges local j.state (suc line) steps (omega arith) in
    omega (arith, length-append (verdict_row line (verdict_of j.answer)) (judged_rows edges local j.state (suc line) steps))

pub rows_fit : (edges : List ℕ) (local : Bool) (text : List ℕ) → length (trace_rows edges local (sheet trace_sheet text)) ≤ steps_room
unfolding trace_rows
rows_fit edges local text = go (sheet trace_sheet text) refl
  where
    go : (r : Result) → sheet trace_sheet text ≡ r → length (trace_rows edges local r) ≤ steps_room
    go (accepted steps) e =
        let a = sheet-accepted trace_sheet text steps e in
        let f : length steps ≤ most_steps = a.few in
        let l = flat-length trace_sheet a.each in
        let n = steps-length (flatten steps) in
        let k = judged-short edges local start_state 2 (steps_of (flatten steps)) (omega arith) in
        omega arith
    go (refused r) e =
        let l = sheet-low trace_sheet text r e in
        let h = l.line in
        let n = l.number in
        let k = row-short r.line 4 r.number (omega arith) (omega arith) (omega arith) in
        omega arith
