-- Laws of what the programs print, and of the lent buffer.
use Prim.Native.Nat.{ℕ, ◌+◌, ◌-◌, ◌*◌, ◌≤◌, ◌<◌}
use mathlib.Core.Path.{◌≡◌, sym, ap, ◌∙◌}
use mathlib.Core.List.{List, ◌++◌}
use native.Mathlib.Nat.{zero-add, sub-zero}
use native.Mathlib.Omega.{arith}
use lib.ListN.{length, take, length-append}
use lib.Seq.{sets, length-sets}
use borrow.Author.Tests.{lt-ltb, le-ltb}
use Rattle.sheet_lines.specs.Sheet.{refused}
use Rattle.sheet_lines.specs.Sheets.{policy_sheet, is_local}
use Rattle.sheet_reader.specs.Readers.{policies_read}
use Rattle.sheet_reader.proofs.AnswerLaws.{Holds}
use Rattle.sheet_reader.proofs.RefusalLaws.{sheet-low}
use Rattle.report_lines.specs.Lines.{names_line, names_room, row}
use Rattle.report_lines.specs.Put.{put_at, end_at}
use Rattle.report_lines.proofs.PutLaws.{sets-append, sets-front}
use Rattle.report_lines.proofs.RowLaws.{row-nine, length-names, begin-stored, names-stored}
use Rattle.report_lines.proofs.FitLaws.{stored_at}
use Rattle.report.specs.Output.{after_policies, printed, longest_outline_row, outline_room, fronted, length_put, put}

-- a function's result r and the buffer that it leaves are those of an output
abbrev pub Printed : ℕ → List ℕ → List ℕ → ℕ → List ℕ → Type 0
Printed room buffer output r after = (r ≡ length_put room buffer output) × (after ≡ put room buffer output)

-- two parts that are stored one after the other
joined : (buffer first second : List ℕ) → length first + length second ≤ length buffer
    → sets (sets buffer 0 first) (length first) second ≡ fronted buffer (first ++ second)
joined buffer first second l =
    let k = length-append first second in
    ap (λ (i : ℕ). sets (sets buffer 0 first) i second) (sym (zero-add (length first)))
    ∙ sym (sets-append buffer 0 first second)
    ∙ sets-front (first ++ second) buffer (omega arith)

module _ (room : ℕ) (buffer : List ℕ) where
  pub no_room : (output : List ℕ) → length buffer < room → Printed room buffer output 0 buffer
  unfolding length_put put
  no_room output h = (rw (lt-ltb (length buffer) room h), rw (lt-ltb (length buffer) room h))

  two-parts : (first second after : List ℕ) (r : ℕ) → room ≤ length buffer → r ≡ length first + length second → r ≤ length buffer
      → after ≡ sets (sets buffer 0 first) (length first) second → Printed room buffer (first ++ second) r after
  unfolding length_put put
  two-parts first second after r h e l t =
      rw (le-ltb (length buffer) room h) (e ∙ sym (length-append first second), t ∙ joined buffer first second (omega arith))

-- the same from what the functions return: the place `at` after the first part, and the buffer `named` that holds it
module _ (buffer first : List ℕ) (at : ℕ) (named : List ℕ) (ea : at ≡ end_at buffer 0 first) (en : named ≡ put_at buffer 0 first)
    (fits : length first ≤ length buffer) where
  pub first-end : at ≡ length first
  first-end = (begin-stored buffer first fits ea en).0

  pub first-length : length named ≡ length buffer
  first-length = ap length (begin-stored buffer first fits ea en).1 ∙ length-sets buffer 0 first

  pub then-stored : (second : List ℕ) {r : ℕ} {after : List ℕ} → length first + length second ≤ length buffer → r ≡ at + length second
      → after ≡ sets named at second → (r ≡ length (first ++ second)) × (after ≡ fronted buffer (first ++ second))
  then-stored second l er eo =
      let o = begin-stored buffer first fits ea en in
      (rw o.0 at er ∙ sym (length-append first second), (rw (o.0, o.1) at eo) ∙ joined buffer first second l)

  pub then-put : (second : List ℕ) {r : ℕ} {after : List ℕ} → length first + length second ≤ length buffer → r ≡ end_at named at second
      → after ≡ put_at named at second → (r ≡ length (first ++ second)) × (after ≡ fronted buffer (first ++ second))
  then-put second l er eo =
      let k = first-end in
      let m = first-length in
      let z = stored_at named at second (omega arith) er eo in
      then-stored second l z.0 z.1

-- the line of a refused sheet of policies is no longer than that of an outline
pub policies-short : (text : List ℕ) (line number : ℕ) → policies_read text ≡ refused record { line = line; number = number }
    → length (row line 3 number) ≤ longest_outline_row
policies-short text line number e =
    let l = sheet-low (policy_sheet (is_local text)) text record { line = line; number = number } e in
    row-nine line 3 number (let h = l.line in omega arith) (omega arith) l.number

-- ── After the names, from what the functions return: the place `at` after them, and the buffer `named` that holds them ──

module _ (buffer : List ℕ) (fits : names_room ≤ length buffer) (at : ℕ) (named : List ℕ) (ea : at ≡ end_at buffer 0 names_line)
    (en : named ≡ put_at buffer 0 names_line) where
  pub names-end : at ≡ names_room
  names-end = (names-stored buffer fits ea en).0 ∙ length-names

  pub names-length : length named ≡ length buffer
  names-length = ap length (names-stored buffer fits ea en).1 ∙ length-sets buffer 0 names_line

  module _ (room : ℕ) (text : List ℕ) (rest : List ℕ → List ℕ) (enough : room ≤ length buffer) (least : outline_room ≤ room) where
    -- a part that is stored after the names
    then-part : (part after : List ℕ) (r : ℕ) → after_policies (policies_read text) rest ≡ part → r ≡ at + length part → after
        ≡ sets named at part
        → names_room + length part ≤ room → Printed room buffer (printed (policies_read text) rest) r after
    unfolding printed
    then-part part after r e er eo l =
        let o = names-stored buffer fits ea en in
        let k = names-end in
        rw e (two-parts room buffer names_line part after r enough (rw o.0 at er) (omega arith) (rw (o.0, o.1) at eo))

    -- the rest, with the edges of an accepted sheet of policies
    pub printed-held : (table : List ℕ) (n : ℕ) → Holds (policy_sheet (is_local text)) text table n → {r : ℕ} {after : List ℕ}
        → r ≡ at + length (rest (take (n * 6 - 0) table)) → after ≡ sets named at (rest (take (n * 6 - 0) table))
        → names_room + length (rest (take (n * 6 - 0) table)) ≤ room → Printed room buffer (printed (policies_read text) rest) r after
    printed-held table n h {r} {after} er eo l =
        then-part (rest (take (n * 6 - 0) table)) after r (rw (h.result, sub-zero (n * 6)) (ap rest (sym h.flat))) er eo l

    -- the line of a refused one
    pub printed-refused : (line number : ℕ) → policies_read text ≡ refused record { line = line; number = number }
        → {r : ℕ} {after : List ℕ}
        → r ≡ end_at named at (row line 3 number) → after ≡ put_at named at (row line 3 number)
        → Printed room buffer (printed (policies_read text) rest) r after
    printed-refused line number e {r} {after} er eo =
        let f = policies-short text line number e in
        let k = names-end in
        let m = names-length in
        let b = stored_at named at (row line 3 number) (omega arith) er eo in
        then-part (row line 3 number) after r (rw e) b.0 b.1 (omega arith)
