-- Each reader refuses in the stated case of its refusal's number, and in no other.
use Prim.Native.Nat.{ℕ, ◌≤◌}
use mathlib.Core.Path.{◌≡◌, refl, sym, ap, subst, ◌∙◌}
use mathlib.Core.Bool.{Bool, true, false, cond}
use mathlib.Core.Option.{Option, none, some}
use mathlib.Core.List.{List, map, tail, flatten}
use mathlib.Core.Logic.{◌↔◌}
use lib.Dec.{ltb}
use lib.ListN.{get_or}
use borrow.Author.Tests.{ltb-true, ltb-false, lt-ltb, le-ltb}
use Rattle.usage.specs.Limits.{edge_places, node_places, step_places}
use Rattle.usage.specs.Answers.{Refusal}
use Rattle.usage.specs.Tests.{ruled_sheet}
use Rattle.usage.specs.Valid.{TreeOk, PlaceOk, Ruled}
use Rattle.usage.specs.Tables.{nodes_of}
use Rattle.usage.proofs.Logic.{clash}
use Rattle.usage.proofs.RuledLaws.{sheet-answers, answers-sheet}
use Rattle.sheet_lines.specs.Sheet.{Sheet, Result, accepted, refused, refuse_at, sheet}
use Rattle.sheet_lines.specs.Sheets.{policy_sheet, is_local, trace_sheet, outline_sheet}
use Rattle.sheet_lines.specs.Cases.{SheetRefuses}
use Rattle.sheet_lines.proofs.CaseLaws.{sheet-refuses}
use Rattle.sheet_reader.specs.Readers.{policies_read, ruled_rows, ruled_result, roomy, policies_into, trace_into, outline_into}
use Rattle.sheet_reader.specs.Cases.{ReaderCase, no_room, in_sheet, by_rule, no_rule, OutlineRule, PoliciesCase, TraceCase, OutlineCase}

-- what is left of a reading where the table has the room
module _ (needed : ℕ) (s : Sheet) (Rule : List (List ℕ) → Refusal → Type 0) (places : ℕ) (text : List ℕ) (read : Result) (r : Refusal)
    (to : read ≡ refused r → needed ≤ places → ReaderCase needed s Rule places text r)
    (back-sheet : SheetRefuses s text r → read ≡ refused r)
    (back-rule : (rows : List (List ℕ)) → sheet s text ≡ accepted rows → Rule rows r → read ≡ refused r) where
  with-room : (roomy places needed read ≡ refused r) ↔ ReaderCase needed s Rule places text r
  with-room = (λ e. there (ltb places needed) refl e, back)
    where
      there : (b : Bool) → ltb places needed ≡ b → cond b (refuse_at 0 40) read ≡ refused r → ReaderCase needed s Rule places text r
      there true q e = no_room (ltb-true places needed q) (sym (same e))
        where
          same : refuse_at 0 40 ≡ refused r → record { line = 0; number = 40 } ≡ r
          same e = cc
      there false q e = to e (ltb-false places needed q)

      back : ReaderCase needed s Rule places text r → roomy places needed read ≡ refused r
      back (no_room h e) = rw (lt-ltb places needed h, e) refl
      back (in_sheet h k) = rw (le-ltb places needed h) (back-sheet k)
      back (by_rule {rows} h e k) = rw (le-ltb places needed h) (back-rule rows e k)

module _ (places : ℕ) (text : List ℕ) (r : Refusal) where
  pub policies-cases : (policies_into places text ≡ refused r) ↔ PoliciesCase places text r
  unfolding policies_into
  policies-cases =
      let h = sheet-refuses (policy_sheet (is_local text)) text r in
      with-room edge_places (policy_sheet (is_local text)) no_rule places text (policies_read text) r (λ e l. in_sheet l (h.0 e)) h.1
      (λ rows e k. absurd k)

  pub trace-cases : (trace_into places text ≡ refused r) ↔ TraceCase places text r
  unfolding trace_into
  trace-cases =
      let h = sheet-refuses trace_sheet text r in
      with-room step_places trace_sheet no_rule places text (sheet trace_sheet text) r (λ e l. in_sheet l (h.0 e)) h.1 (λ rows e k. absurd k)

  -- the rules of an outline, of an accepted sheet
  abbrev ruled : List (List ℕ) → Option Refusal
  ruled rows = ruled_sheet (map (λ vs. get_or vs 0 0) rows) (nodes_of (flatten (map tail rows)))

  by_rows : (rows : List (List ℕ)) → (ruled_rows (ruled rows) rows ≡ refused r) ↔ OutlineRule rows r
  by_rows rows =
      let ns = nodes_of (flatten (map tail rows)) in
      let places = map (λ vs. get_or vs 0 0) rows in (
        λ e. subst (Ruled ns (λ k. PlaceOk places k × TreeOk ns k)) (there (ruled rows) e) (sheet-answers ns places),
        λ h. ap (λ (o : Option Refusal). ruled_rows o rows) (answers-sheet ns places h),
      )
    where
      there : (o : Option Refusal) → ruled_rows o rows ≡ refused r → o ≡ some r
      there none e = clash (cc)
      there (some q) e = cc

  pub outline-cases : (outline_into places text ≡ refused r) ↔ OutlineCase places text r
  unfolding outline_into ruled_result
  outline-cases =
      with-room node_places outline_sheet OutlineRule places text (ruled_result (sheet outline_sheet text)) r
      (λ e l. there l (sheet outline_sheet text) refl e) (λ h. rw ((sheet-refuses outline_sheet text r).1 h) refl)
      (λ rows e k. rw e ((by_rows rows).1 k))
    where
      there : node_places ≤ places → (x : Result) → sheet outline_sheet text ≡ x → ruled_result x ≡ refused r → OutlineCase places text r
      there l (accepted rows) e q = by_rule l e ((by_rows rows).0 q)
      there l (refused q) e f = in_sheet l ((sheet-refuses outline_sheet text r).0 (e ∙ f))
