-- What is printed of a sheet is what is printed of the bytes that a program reads of it: one more than the longest sheet has.
use Prim.Native.Nat.{ℕ, zero, suc, ◌≤◌}
use mathlib.Core.Path.{◌≡◌, refl, ap, sym, ◌∙◌}
use mathlib.Core.Bool.{Bool, true, false, ◌&&◌}
use mathlib.Core.List.{List, [], ◌∷◌}
use native.Mathlib.Omega.{arith}
use lib.Dec.{eqb, leb}
use lib.ListN.{length, take}
use lib.Seq.{take_all, length-take-le}
use borrow.Author.Tests.{leb-true, leb-false, lt-ltb}
use Rattle.usage.specs.Limits.{longest_sheet, edge_places, node_places}
use Rattle.sheet_lines.specs.Sheet.{Sheet, starts_with, sheet}
use Rattle.sheet_lines.specs.Sheets.{policy_names_lem, is_local, trace_sheet, policy_sheet, outline_sheet}
use Rattle.sheet_reader.specs.Readers.{policies_read, ruled_result, roomy, policies_into, outline_into}
use Rattle.report_desk.proofs.ReadLaws.{desk-alike}
use Rattle.report.specs.Output.{sheet_room}
use Rattle.report.specs.Trace.{trace_printed}
use Rattle.report.specs.Outline.{outline_printed}
use Rattle.promises.specs.Demands.{seen, ReadEnough}

-- a longer sheet is longer also by the bytes that are read of it
sheet-seen : (s : Sheet) (text : List ℕ) → sheet s (seen text) ≡ sheet s text
unfolding sheet
sheet-seen s text = go (leb (length text) longest_sheet) refl
  where
    go : (b : Bool) → leb (length text) longest_sheet ≡ b → sheet s (seen text) ≡ sheet s text
    go true e =
        let l = leb-true (length text) longest_sheet e in
        ap (sheet s) (take_all sheet_room text (omega arith))
    go false e =
        let l = leb-false (length text) longest_sheet e in
        let k : length (seen text) ≡ sheet_room = length-take-le sheet_room text (omega arith) in
        rw (lt-ltb longest_sheet (length text) l, lt-ltb longest_sheet (length (seen text)) (omega arith)) refl

-- a names line is seen whole
begins-seen : (names text : List ℕ) (n : ℕ) → length names ≤ n → starts_with names (take n text) ≡ starts_with names text
unfolding starts_with
begins-seen [] text n h = refl
begins-seen (b ∷ bs) text zero h = absurd (omega arith)
begins-seen (b ∷ bs) [] (suc n) h = refl
begins-seen (b ∷ bs) (c ∷ cs) (suc n) h = ap (λ (x : Bool). eqb b c && x) (begins-seen bs cs n (omega arith))

local-seen : (text : List ℕ) → is_local (seen text) ≡ is_local text
unfolding is_local
local-seen text = begins-seen (policy_names_lem true) text sheet_room (omega arith)

policies-seen : (text : List ℕ) → policies_read (seen text) ≡ policies_read text
policies-seen text = ap (λ (b : Bool). sheet (policy_sheet b) (seen text)) (local-seen text) ∙ sheet-seen (policy_sheet (is_local text)) text

outline-seen : (text : List ℕ) → ruled_result (sheet outline_sheet (seen text)) ≡ ruled_result (sheet outline_sheet text)
outline-seen text = ap ruled_result (sheet-seen outline_sheet text)

-- the same of a table with room
policies-into : (text : List ℕ) → policies_into edge_places (seen text) ≡ policies_into edge_places text
unfolding policies_into
policies-into text = ap (roomy edge_places edge_places) (policies-seen text)

outline-into : (text : List ℕ) → outline_into node_places (seen text) ≡ outline_into node_places text
unfolding outline_into
outline-into text = ap (roomy node_places node_places) (outline-seen text)

pub read_enough : ReadEnough
unfolding trace_printed outline_printed
read_enough = record {
  trace = λ p t. rw (policies-seen p, local-seen p, sheet-seen trace_sheet t) refl;
  outline = λ p o v. rw (policies-seen p, outline-seen o) refl;
  outline_right = λ p o v. rw (policies-seen p, local-seen p, outline-seen o) (λ h. h, λ h. h);
  counterexample = λ p o x t. rw (policies-seen p, outline-seen o) refl;
  counterexample_right = λ p o x t. rw (policies-seen p, local-seen p, outline-seen o) (λ h. h, λ h. h);
  summary = λ p o m. rw (policies-seen p, outline-seen o) refl;
  summary_right = λ p o m. rw (policies-seen p, local-seen p, outline-seen o) (λ h. h, λ h. h);
  desk = λ p o t out. (
    desk-alike (seen p) p (seen o) o (seen t) t (policies-into p) (local-seen p) (outline-into o) (sheet-seen trace_sheet t) out,
    desk-alike p (seen p) o (seen o) t (seen t) (sym (policies-into p)) (sym (local-seen p)) (sym (outline-into o)) (sym (sheet-seen trace_sheet t)) out,
  );
}
