-- Which numbers the readers answer, for every text at all, and when they answer 40.
use Prim.Native.Nat.{ℕ, zero, suc, ◌<◌}
use mathlib.Core.Path.{◌≡◌, refl, subst}
use mathlib.Core.Bool.{Bool, true, false, cond}
use mathlib.Core.Option.{Option, none, some}
use mathlib.Core.List.Memᴰ
use mathlib.Core.List.{
  List,
  [],
  ◌∷◌,
  ◌++◌,
  map,
  tail,
  flatten,
  Memᴰ,
}
use mathlib.Core.Logic.{◌⊎◌, inl, inr, ◌↔◌}
use native.Mathlib.Omega.{arith}
use lib.Dec.{ltb, lit<}
use lib.ListN.{length, drop, get_or}
use borrow.Author.Tests.{ltb-true, lt-ltb}
use Rattle.usage.specs.Limits.{longest_sheet, edge_places, step_places, node_places}
use Rattle.usage.specs.declared.Node.{Node}
use Rattle.usage.specs.Answers.{Refusal}
use Rattle.usage.specs.Tables.{nodes_of}
use Rattle.usage.specs.Tests.{ruled_by, ruled_sheet, back_ok_lem, name_ok_lem, lowest_failing, or_else, numbered, no_nodes}
use Rattle.usage.proofs.Logic.{clash, by_cases}
use Rattle.sheet_bytes.specs.Line.{Line, lines_of}
use Rattle.sheet_bytes.specs.Fault.{LineFault, no_feed, other_byte, overlong, form, LineRead, has_values, has_fault, read_line}
use Rattle.sheet_bytes.proofs.FaultLaws.{decides-fault}
use Rattle.sheet_lines.specs.Sheet.{Sheet, after_line, Result, accepted, refused, refuse_at, followed, entry, value_lines, starts_with, sheet}
use Rattle.sheet_lines.specs.Sheets.{policy_sheet, is_local, trace_sheet, outline_sheet}
use Rattle.sheet_reader.specs.Readers.{policies_read, ruled_rows, ruled_result, roomy, policies_into, trace_into, outline_into, stored}
use Rattle.sheet_reader.specs.Cases.{PoliciesCase, TraceCase, OutlineCase}
use Rattle.sheet_reader.proofs.CaseLaws.{policies-cases, trace-cases, outline-cases}
use Rattle.promises.specs.Demands.{sheet_numbers, policy_numbers, outline_numbers, ReaderRefuses}
use Rattle.promises.proofs.JudgeNumbers.{nth}

-- the number of a refusal is in the list, and is not 40
abbrev pub Number : List ℕ → ℕ → Type 0
Number l n = Memᴰ n l × (n < 40)

pub data Numbers (l : List ℕ) : Result → Type 0 where
  no_number : {rows : List (List ℕ)} → Numbers l (accepted rows)
  a-number : {r : Refusal} → Number l r.number → Numbers l (refused r)

cond-numbers : {l : List ℕ} (b : Bool) {x y : Result} → Numbers l x → Numbers l y → Numbers l (cond b x y)
cond-numbers true f g = f
cond-numbers false f g = g

-- ── Reading a sheet ──

module _ (l : List ℕ) (in_List : (n : ℕ) → Memᴰ n sheet_numbers → Memᴰ n l) where
  followed-numbers : (vs : List ℕ) (r : Result) → Numbers l r → Numbers l (followed vs r)
  followed-numbers vs (accepted rows) n = no_number
  followed-numbers vs (refused r) n = n

  fault-number : {k number : ℕ} {x : Line} → LineFault k x number → Number l number
  fault-number (no_feed p) = (in_List 13 (nth 4 sheet_numbers refl), lit< tt)
  fault-number (other_byte p h) = (in_List 11 (nth 5 sheet_numbers refl), lit< tt)
  fault-number (overlong p f h) = (in_List 12 (nth 6 sheet_numbers refl), lit< tt)
  fault-number (form p f g w) = (in_List 2 (nth 7 sheet_numbers refl), lit< tt)

  -- 14 is in the list, unless the sheet asks nothing of its lines together
  abbrev Asks : Sheet → Type 0
  Asks s = ((rows : List (List ℕ)) → s.together rows ≡ true) ⊎ Memᴰ 14 l

  asks-after : (s : Sheet) (vs : List ℕ) → Asks s → Asks (after_line s vs)
  asks-after s vs (inl h) = inl (λ rows. h (vs ∷ rows))
  asks-after s vs (inr m) = inr m

  together-numbers : (s : Sheet) (line : ℕ) (vs : List ℕ) → Asks s → {r : Result} → Numbers l r
      → Numbers l (cond (s.together (vs ∷ [])) r (refuse_at line 14))
  together-numbers s line vs (inl h) n = rw (h (vs ∷ [])) n
  together-numbers s line vs (inr m) n = cond-numbers (s.together (vs ∷ [])) n (a-number (m, lit< tt))

  entry-numbers : (s : Sheet) → Asks s → (line : ℕ) (x : Line) (o : LineRead) → read_line s.fields x ≡ o → (rest : Sheet → Result)
      → ((t : Sheet) → Asks t → Numbers l (rest t)) → Numbers l (entry s line o rest)
  entry-numbers s a line x (has_fault number) q rest n = a-number (fault-number ((decides-fault s.fields x number).0 q))
  entry-numbers s a line x (has_values vs) q rest n =
      cond-numbers (s.in_range_lem vs)
      (together-numbers s line vs a (followed-numbers vs (rest (after_line s vs)) (n (after_line s vs) (asks-after s vs a))))
      (a-number (in_List 3 (nth 8 sheet_numbers refl), lit< tt))

  lines-numbers : (s : Sheet) → Asks s → (line left : ℕ) (ls : List Line) → Numbers l (value_lines s line left ls)
  unfolding value_lines
  lines-numbers s a line left [] = no_number
  lines-numbers s a line zero (x ∷ ls) = a-number (in_List 4 (nth 3 sheet_numbers refl), lit< tt)
  lines-numbers s a line (suc left) (x ∷ ls) =
      entry-numbers s a line x (read_line s.fields x) refl _ (λ t b. lines-numbers t b (suc line) left ls)

  pub sheet-numbers : (s : Sheet) → Asks s → (text : List ℕ) → Numbers l (sheet s text)
  unfolding sheet
  sheet-numbers s a text =
      cond-numbers (ltb longest_sheet (length text)) (a-number (in_List 5 (nth 1 sheet_numbers refl), lit< tt))
      (cond-numbers (starts_with s.names text) (lines-numbers s a 2 s.most (lines_of (drop (length s.names) text)))
      (a-number (in_List 1 (nth 2 sheet_numbers refl), lit< tt)))

-- ── The rules of an outline ──

pub data OfRules : Option Refusal → Type 0 where
  no-rule : OfRules none
  a-rule : {r : Refusal} → Number outline_numbers r.number → OfRules (some r)

or-else-rules : (x y : Option Refusal) → OfRules x → OfRules y → OfRules (or_else x y)
or-else-rules none y f g = g
or-else-rules (some r) y f g = f

numbered-rules : (number : ℕ) → Number outline_numbers number → (o : Option ℕ) → OfRules (numbered number o)
numbered-rules number m none = no-rule
numbered-rules number m (some k) = a-rule m

no-nodes-rules : (ns : List Node) → OfRules (no_nodes ns)
no-nodes-rules [] = a-rule (nth 9 outline_numbers refl, lit< tt)
no-nodes-rules (n ∷ ns) = no-rule

ruled-rules : (test : ℕ → Bool) (ns : List Node) → OfRules (ruled_by test ns)
unfolding ruled_by
ruled-rules test ns =
    let six : Option Refusal = numbered 6 (lowest_failing test 0 (length ns)) in
    let seven : Option Refusal = numbered 7 (lowest_failing (back_ok_lem ns) 0 (length ns)) in
    let eight : Option Refusal = numbered 8 (lowest_failing (name_ok_lem ns) 0 (length ns)) in
    or-else-rules (no_nodes ns) (or_else six (or_else seven eight)) (no-nodes-rules ns)
    (or-else-rules six (or_else seven eight) (numbered-rules 6 (nth 10 outline_numbers refl, lit< tt) (lowest_failing test 0 (length ns)))
    (or-else-rules seven eight (numbered-rules 7 (nth 11 outline_numbers refl, lit< tt) (lowest_failing (back_ok_lem ns) 0 (length ns)))
    (numbered-rules 8 (nth 12 outline_numbers refl, lit< tt) (lowest_failing (name_ok_lem ns) 0 (length ns)))))

ruled-by-numbers : (o : Option Refusal) (rows : List (List ℕ)) → OfRules o → Numbers outline_numbers (ruled_rows o rows)
ruled-by-numbers none rows f = no_number
ruled-by-numbers (some r) rows (a-rule m) = a-number m

result-numbers : (r : Result) → Numbers outline_numbers r → Numbers outline_numbers (ruled_result r)
unfolding ruled_result
result-numbers (accepted rows) n = ruled-by-numbers (ruled_sheet (map (λ vs. get_or vs 0 0) rows) (nodes_of (flatten (map tail rows)))) rows
    (ruled-rules _ (nodes_of (flatten (map tail rows))))
result-numbers (refused r) n = n

-- ── A reader ──

injective : {r u : Refusal} → refused r ≡ refused u → r ≡ u
injective e = cc

not-accepted : {rows : List (List ℕ)} {r : Refusal} {A : Type 0} → accepted rows ≡ refused r → A
not-accepted e = clash (cc)

keeps-any : (x : Result) (table : List ℕ) (r : Refusal) → x ≡ refused r → stored x table ≡ table
unfolding stored
keeps-any (accepted rows) table r e = not-accepted e
keeps-any (refused u) table r e = refl

pub number_in : {l : List ℕ} {x : Result} {r : Refusal} → Numbers l x → x ≡ refused r → Number l r.number
number_in no_number e = not-accepted e
number_in {l} (a-number n) e = subst (λ (v : Refusal). Number l v.number) (injective e) n

module _ (l : List ℕ) (forty : Memᴰ 40 l) (needed : ℕ) (read : List ℕ → Result)
    (numbers : (text : List ℕ) → Numbers l (read text)) where
  roomy-listed : (places : ℕ) (text : List ℕ) (r : Refusal) → roomy places needed (read text) ≡ refused r → Memᴰ r.number l
  roomy-listed places text r = go (ltb places needed)
    where
      go : (b : Bool) → cond b (refuse_at 0 40) (read text) ≡ refused r → Memᴰ r.number l
      go true e = subst (λ (v : Refusal). Memᴰ v.number l) (injective e) forty
      go false e = (number_in (numbers text) e).0

  roomy-40 : (places : ℕ) (text : List ℕ) → (roomy places needed (read text) ≡ refused record { line = 0; number = 40 }) ↔ (places < needed)
  roomy-40 places text = (go (ltb places needed) refl, λ h. rw (lt-ltb places needed h))
    where
      go : (b : Bool) → ltb places needed ≡ b → cond b (refuse_at 0 40) (read text) ≡ refused record { line = 0; number = 40 }
          → places < needed
      go true h e = ltb-true places needed h
      go false h e = let k = (number_in (numbers text) e).1 in absurd (omega arith)

  pub reader-refuses : (Case : ℕ → List ℕ → Refusal → Type 0)
      → ((places : ℕ) (text : List ℕ) (r : Refusal) → (roomy places needed (read text) ≡ refused r) ↔ Case places text r)
      → ReaderRefuses l needed (λ places text. roomy places needed (read text)) Case
  reader-refuses Case cases =
      record { listed = roomy-listed; keeps = λ places text table r e. keeps-any _ table r e; no_room = roomy-40; stated = cases }

same : (n : ℕ) → Memᴰ n sheet_numbers → Memᴰ n sheet_numbers
same n m = m

-- what is in a list is in a longer one
longer : (n : ℕ) (l more : List ℕ) → Memᴰ n l → Memᴰ n (l ++ more)
longer n [] more m = absurd (Memᴰ.not-nil m)
longer n (x ∷ l) more m = by_cases (Memᴰ.cases_cons m) (λ e. Memᴰ.head e) (λ i. Memᴰ.tail (longer n l more i))

wider : (n : ℕ) → Memᴰ n sheet_numbers → Memᴰ n outline_numbers
wider n m = longer n sheet_numbers (9 ∷ 6 ∷ 7 ∷ 8 ∷ []) m

pub policies-refuses : ReaderRefuses policy_numbers edge_places policies_into PoliciesCase
unfolding policies_into
policies-refuses =
    reader-refuses policy_numbers (nth 0 policy_numbers refl) _ policies_read
    (λ text. sheet-numbers policy_numbers (λ n m. longer n sheet_numbers (14 ∷ []) m) (policy_sheet (is_local text))
    (inr (nth 9 policy_numbers refl)) text) PoliciesCase policies-cases

pub trace-refuses : ReaderRefuses sheet_numbers step_places trace_into TraceCase
unfolding trace_into
trace-refuses =
    reader-refuses sheet_numbers (nth 0 sheet_numbers refl) _ (sheet trace_sheet)
    (sheet-numbers sheet_numbers same trace_sheet (inl (λ rows. refl))) TraceCase trace-cases

pub outline-refuses : ReaderRefuses outline_numbers node_places outline_into OutlineCase
unfolding outline_into
outline-refuses =
    reader-refuses outline_numbers (nth 0 outline_numbers refl) _ (λ text. ruled_result (sheet outline_sheet text))
    (λ text. result-numbers (sheet outline_sheet text) (sheet-numbers outline_numbers wider outline_sheet (inl (λ rows. refl)) text))
    OutlineCase outline-cases
