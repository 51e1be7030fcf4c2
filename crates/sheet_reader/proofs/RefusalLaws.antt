-- The line and the number of a sheet's refusal are small.
use Prim.Native.Nat.{ℕ, zero, suc, ◌+◌, ◌<◌, ◌≤◌}
use mathlib.Core.Path.{◌≡◌, refl, ap, ◌∙◌}
use mathlib.Core.Bool.{Bool, true, false, cond}
use mathlib.Core.Option.{Option, none, some}
use mathlib.Core.List.{List, [], ◌∷◌, map, tail, flatten}
use native.Mathlib.Omega.{arith}
use lib.Dec.{ltb}
use lib.ListN.{length, get_or, drop}
use Rattle.usage.specs.declared.Node.{Node}
use Rattle.usage.specs.Limits.{most_nodes, longest_sheet}
use Rattle.usage.specs.Answers.{Refusal}
use Rattle.usage.specs.Tests.{ruled_sheet}
use Rattle.usage.specs.Tables.{nodes_of}
use Rattle.usage.specs.Valid.{Ruled, no_node, bad_tree, bad_back, bad_name}
use Rattle.usage.specs.Valid.{accepted as all-ruled}
use Rattle.usage.proofs.Logic.{clash}
use Rattle.usage.proofs.RuledLaws.{sheet-answers}
use Rattle.usage.proofs.TableLaws.{nodes-length}
use Rattle.sheet_bytes.specs.Line.{Line, lines_of}
use Rattle.sheet_bytes.specs.Fault.{LineFault, no_feed, other_byte, overlong, form, LineRead, has_values, has_fault, read_line}
use Rattle.sheet_bytes.proofs.FaultLaws.{decides-fault}
use Rattle.sheet_lines.specs.Sheet.{Sheet, after_line, Result, accepted, refused, refuse_at, followed, entry, value_lines, starts_with, sheet}
use Rattle.sheet_lines.specs.Sheets.{outline_sheet}
use Rattle.sheet_reader.specs.Readers.{ruled_rows, ruled_result}
use Rattle.sheet_lines.proofs.AcceptLaws.{sheet-accepted}
use Rattle.sheet_reader.proofs.OutlineLaws.{nodes-size}

pub record Low (most : ℕ) (r : Refusal) : Type 0 where
  pub line : r.line ≤ most
  pub number : r.number < 100

-- a refusal that is written out
stated : (most line number : ℕ) (r : Refusal) → line ≤ most → number < 100 → refuse_at line number ≡ refused r → Low most r
stated most line number r h k e = let z : record { line = line; number = number } ≡ r = cc in rw (← z) (record { line = h; number = k })

fault-low : {n number : ℕ} {l : Line} → LineFault n l number → number < 100
fault-low (no_feed p) = omega arith
fault-low (other_byte p h) = omega arith
fault-low (overlong p f h) = omega arith
fault-low (form p f g w) = omega arith

lines-low : (s : Sheet) (line left : ℕ) (ls : List Line) (r : Refusal) → value_lines s line left ls ≡ refused r → Low (line + left) r
unfolding value_lines
lines-low s line left [] r e = clash (cc)
lines-low s line zero (l ∷ ls) r e = stated (line + 0) line 4 r (omega arith) (omega arith) e
lines-low s line (suc left) (l ∷ ls) r e = go (read_line s.fields l) refl (λ t. value_lines t (suc line) left ls)
    (λ t. lines-low t (suc line) left ls r) e
  where
    later : (vs : List ℕ) (rest : Result) → (rest ≡ refused r → Low (suc line + left) r) → followed vs rest ≡ refused r
        → Low (line + suc left) r
    later vs (accepted rows) ih e = clash (cc)
    later vs (refused q) ih e = let l = ih e in record { line = let h = l.line in omega arith; number = l.number }

    tested : (vs : List ℕ) (rest : Result) (x y : Bool) → (rest ≡ refused r → Low (suc line + left) r)
        → cond x (cond y (followed vs rest) (refuse_at line 14)) (refuse_at line 3) ≡ refused r → Low (line + suc left) r
    tested vs rest true true ih e = later vs rest ih e
    tested vs rest true false ih e = stated (line + suc left) line 14 r (omega arith) (omega arith) e
    tested vs rest false y ih e = stated (line + suc left) line 3 r (omega arith) (omega arith) e

    go : (o : LineRead) → read_line s.fields l ≡ o → (rest : Sheet → Result)
        → ((t : Sheet) → rest t ≡ refused r → Low (suc line + left) r) → entry s line o rest ≡ refused r → Low (line + suc left) r
    go (has_fault number) q rest ih e =
        stated (line + suc left) line number r (omega arith) (fault-low ((decides-fault s.fields l number).0 q)) e
    go (has_values vs) q rest ih e = tested vs (rest (after_line s vs)) (s.in_range_lem vs) (s.together (vs ∷ [])) (ih (after_line s vs)) e

module _ (s : Sheet) where
  pub sheet-low : (text : List ℕ) (r : Refusal) → sheet s text ≡ refused r → Low (2 + s.most) r
  unfolding sheet
  sheet-low text r e = go (ltb longest_sheet (length text)) (starts_with s.names text) e
    where
      go : (x y : Bool) → cond x (refuse_at 0 5) (cond y (value_lines s 2 s.most (lines_of (drop (length s.names) text))) (refuse_at 1 1))
          ≡ refused r → Low (2 + s.most) r
      go true y e = stated (2 + s.most) 0 5 r (omega arith) (omega arith) e
      go false true e = lines-low s 2 s.most (lines_of (drop (length s.names) text)) r e
      go false false e = stated (2 + s.most) 1 1 r (omega arith) (omega arith) e

-- ── Of an outline ──

ruled-low : {ns : List Node} {P : ℕ → Type 0} {o : Option Refusal} → Ruled ns P o → length ns ≤ most_nodes → (r : Refusal) → o ≡ some r
    → Low (2 + most_nodes) r
ruled-low (no_node e) f r q =
    let z : record { line = 2; number = 9 } ≡ r = cc in rw (← z) (record { line = omega arith; number = omega arith })
ruled-low (bad_tree {k} h w) f r q =
    let l = w.is_node in let z : record { line = k + 2; number = 6 } ≡ r = cc in
    rw (← z) (record { line = omega arith; number = omega arith })
ruled-low (bad_back {k} h t w) f r q =
    let l = w.is_node in let z : record { line = k + 2; number = 7 } ≡ r = cc in
    rw (← z) (record { line = omega arith; number = omega arith })
ruled-low (bad_name {k} h t b w) f r q =
    let l = w.is_node in let z : record { line = k + 2; number = 8 } ≡ r = cc in
    rw (← z) (record { line = omega arith; number = omega arith })
ruled-low (all-ruled h t b n) f r q = clash (cc)

pub outline-low : (text : List ℕ) (r : Refusal) → ruled_result (sheet outline_sheet text) ≡ refused r → Low (2 + most_nodes) r
unfolding ruled_result
outline-low text r e = go (sheet outline_sheet text) refl e
  where
    by : (lines : List (List ℕ)) → length (nodes_of (flatten (map tail lines))) ≤ most_nodes → (o : Option Refusal)
        → ruled_sheet (map (λ vs. get_or vs 0 0) lines) (nodes_of (flatten (map tail lines))) ≡ o → ruled_rows o lines ≡ refused r → Low
        (2 + most_nodes) r
    by lines f none q e = clash (cc)
    by lines f (some x) q e =
        let z : x ≡ r = cc in
        ruled-low (sheet-answers (nodes_of (flatten (map tail lines))) (map (λ vs. get_or vs 0 0) lines)) f r (q ∙ ap some z)

    go : (x : Result) → sheet outline_sheet text ≡ x → ruled_result x ≡ refused r → Low (2 + most_nodes) r
    go (accepted lines) k e =
        let a = sheet-accepted outline_sheet text lines k in
        let t = nodes-size a.each in
        let f : length lines ≤ most_nodes = a.few in
        by lines (rw (nodes-length (flatten (map tail lines))) (omega arith))
        (ruled_sheet (map (λ vs. get_or vs 0 0) lines) (nodes_of (flatten (map tail lines)))) refl e
    go (refused x) k e = sheet-low outline_sheet text r (k ∙ e)
