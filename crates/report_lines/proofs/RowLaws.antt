-- How long a line is at most.
use Prim.Native.Nat.{ℕ, suc, ◌+◌, ◌≤◌, ◌<◌}
use mathlib.Core.Path.{◌≡◌, refl, ap, ◌∙◌}
use mathlib.Core.List.{List, [], ◌∷◌}
use native.Mathlib.Nat.{zero-add}
use native.Mathlib.Omega.{arith}
use lib.ListN.{length, length-append}
use lib.Seq.{sets}
use Rattle.usage.specs.Answers.{Verdict, allowed, violated, refused, answer, detail}
use Rattle.report_lines.specs.Lines.{names_line, names_room, trace_names_line, trace_names_room, node_names_line, node_names_room}
use Rattle.report_lines.specs.Lines.{three, row, numbered_row_lem, verdict_row, values_text, values_room}
use Rattle.report_lines.specs.Lines.{mark_names_line, mark_names_room, desk_names_line, desk_names_room, mark_row_lem}
use Rattle.report_lines.specs.Decimal.{decimal}
use Rattle.report_lines.proofs.DecimalLaws.{tens, length-below}
use Rattle.report_lines.specs.Put.{put_at, end_at}
use Rattle.report_lines.proofs.PutLaws.{length-field, length_three, length-row, length-numbered, length-mark, six-fields}
use Rattle.report_lines.proofs.FitLaws.{stored_at}

-- of numbers below ten to the powers i + 1, j + 1 and k + 1: their digits, and a byte after each
row_below : (i j k line answer detail : ℕ) → line < tens (suc i) → answer < tens (suc j) → detail < tens (suc k)
    → length (row line answer detail) ≤ i + j + k + 6
row_below i j k line a d hl ha hd =
    let l = length-below i line hl in
    let m = length-below j a ha in
    let n = length-below k d hd in
    omega (arith, length-row line a d)

-- a value of 32 bits
pub ten-digits : (n : ℕ) → n < 4294967296 → length (decimal n) ≤ 10
ten-digits n h = length-below 9 n (omega arith)

-- three of six values: half of the room
three-fits : (a b c end : ℕ) → a < 4294967296 → b < 4294967296 → c < 4294967296 → length (three a b c end) ≤ 33
three-fits a b c end ha hb hc = omega (arith, length_three a b c end, ten-digits a ha, ten-digits b hb, ten-digits c hc)

pub six-fits : (a b c d e f : ℕ) → a < 4294967296 → b < 4294967296 → c < 4294967296 → d < 4294967296 → e < 4294967296 → f < 4294967296
    → length (values_text a (b ∷ c ∷ d ∷ e ∷ f ∷ [])) ≤ values_room
six-fits a b c d e f ha hb hc hd he hf =
    omega (
      arith,
      ap length (six-fields a b c d e f),
      length-append (three a b c 32) (three d e f 10),
      three-fits a b c 32 ha hb hc,
      three-fits d e f 10 hd he hf,
    )

-- the numbers of any line that the functions print fit in 64, 8 and 8 bits
pub row_fits : (line answer detail : ℕ) → line < 18446744073709551616 → answer < 10 → detail < 256 → length (row line answer detail) ≤ 27
row_fits line a d hl ha hd = row_below 19 0 2 line a d (omega arith) (omega arith) (omega arith)

-- those of a step's are at most 2001, 2 and two digits
pub row-short : (line answer detail : ℕ) → line < 10000 → answer < 10 → detail < 100 → length (row line answer detail) ≤ 10
row-short line a d hl ha hd = row_below 3 0 1 line a d (omega arith) (omega arith) (omega arith)

-- that of an outline is 0 with a verdict, or a sheet's refusal
pub row-nine : (line answer detail : ℕ) → line < 1000 → answer < 10 → detail < 100 → length (row line answer detail) ≤ 9
row-nine line a d hl ha hd = row_below 2 0 1 line a d (omega arith) (omega arith) (omega arith)

-- those of a step of a counterexample are a kind, an action or a policy, and a resource
pub step-nine : (kind a b : ℕ) → kind < 10 → a < 100 → b < 1000 → length (row kind a b) ≤ 9
step-nine kind a b hk ha hb = row_below 0 1 2 kind a b (omega arith) (omega arith) (omega arith)

-- those of a node are its number, a kind, and two fields
pub numbered-eleven : (number kind a b : ℕ) → number < 100 → kind < 10 → a < 100 → b < 100 → length (numbered_row_lem number kind a b) ≤ 11
numbered-eleven number kind a b hn hk ha hb =
    let l = length-below 1 number (omega arith) in
    let m = row_below 0 1 1 kind a b (omega arith) (omega arith) (omega arith) in
    omega (arith, length-numbered number kind a b, length-field number 32)

-- those of a call of the desk are a line, and what its number tells
pub numbered-sixteen : (number kind a b : ℕ) → number < 100000 → kind < 1000 → a < 1000 → b < 10
    → length (numbered_row_lem number kind a b) ≤ 16
numbered-sixteen number kind a b hn hk ha hb =
    let l = length-below 4 number (omega arith) in
    let m = row_below 2 2 0 kind a b (omega arith) (omega arith) (omega arith) in
    omega (arith, length-numbered number kind a b, length-field number 32)

-- those of a mark are a policy, and an action or 32
pub mark-five : (policy action : ℕ) → policy < 10 → action < 100 → length (mark_row_lem policy action) ≤ 5
mark-five policy action hp ha =
    let l = length-below 0 policy (omega arith) in
    let m = length-below 1 action (omega arith) in
    omega (arith, length-mark policy action)

answer-small : (v : Verdict) → answer v < 10
answer-small allowed = omega arith
answer-small (violated p) = omega arith
answer-small (refused n) = omega arith

pub verdict-short : (line : ℕ) (v : Verdict) → line < 10000 → detail v < 100 → length (verdict_row line v) ≤ 10
verdict-short line v h l = row-short line (answer v) (detail v) h (answer-small v) l

pub length-names : length names_line ≡ names_room
unfolding names_line
length-names = refl

pub length-trace-names : length trace_names_line ≡ trace_names_room
unfolding trace_names_line
length-trace-names = refl

pub length-node-names : length node_names_line ≡ node_names_room
unfolding node_names_line
length-node-names = refl

pub length-mark-names : length mark_names_line ≡ mark_names_room
unfolding mark_names_line
length-mark-names = refl

pub length-desk-names : length desk_names_line ≡ desk_names_room
unfolding desk_names_line
length-desk-names = refl

-- a text at the start, of the numbers that the functions return
pub begin-stored : {r : ℕ} {after : List ℕ} (buffer text : List ℕ) → length text ≤ length buffer → r ≡ end_at buffer 0 text → after
    ≡ put_at buffer 0 text
    → (r ≡ length text) × (after ≡ sets buffer 0 text)
begin-stored buffer text h e t =
    let z = stored_at buffer 0 text (rw (zero-add (length text)) h) e t in
    (z.0 ∙ zero-add (length text), z.1)

pub names-stored : {r : ℕ} {after : List ℕ} (buffer : List ℕ) → names_room ≤ length buffer → r ≡ end_at buffer 0 names_line → after
    ≡ put_at buffer 0 names_line
    → (r ≡ length names_line) × (after ≡ sets buffer 0 names_line)
names-stored buffer h e t = begin-stored buffer names_line (rw length-names h) e t

pub verdict-eight : (v : Verdict) → detail v < 256 → length (verdict_row 0 v) ≤ 8
verdict-eight v h = row_below 0 0 2 0 (answer v) (detail v) (omega arith) (answer-small v) (omega arith)
