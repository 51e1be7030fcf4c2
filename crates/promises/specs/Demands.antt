-- The three demands on the product, and what later requests promise of the whole, stated over the definitions that the public functions'
-- contracts are equations with: the judge answers `judge_of` (`monitor::judge` and `judge_lent`, `api_records`, `api_c`), the readers answer
-- and store `policies_into`, `trace_into` and `outline_into` (`sheet_reader`) and `expression_into` (`sheet_expression`), the check answers the
-- one verdict that `Checked` holds of (`checker::check`), an explanation is one that `Explained` holds of (`check_with_counterexample`), the
-- sheet writer answers and writes `written_into` (`sheet_writer`), the programs print `trace_printed`, `outline_printed`,
-- `counterexample_printed` and `summary_printed` (`report`), and callers in C and Rust are told `code_of` a verdict (`api_c`). proofs/ has the
-- proof of each. That no function reads outside its memory or runs on without end is what the language asks of each before it is built.
use Rattle.std.specs.Prelude.{ℕ, Result as Returned, Ok, ◌<◌, ◌≤◌, ◌≡◌, Bool, true, false, ◌↔◌, ◌⊎◌, length, take, replicate}
use Rattle.std.proofs.Math.Option.{none, some}
use mathlib.Core.List.{List, [], ◌∷◌, ◌++◌, map, flatten, Memᴰ}
use Rattle.usage.specs.declared.Node.{Node}
use Rattle.usage.specs.declared.RawStep.{RawStep}
use Rattle.usage.specs.Limits.{policies, edge_places, step_places, node_places, most_shown}
use Rattle.usage.specs.Answers.{Verdict, allowed, violated, refused, Refusal}
use Rattle.usage.specs.Past.{Past, Violates}
use Rattle.usage.specs.Judge.{JudgedAll}
use Rattle.usage.specs.Outline.{IsTrace}
use Rattle.usage.specs.Check.{Checked, Shortest}
use Rattle.usage.specs.Tables.{edges_of, nodes_of, steps_of, EdgeTable, NodeTable}
use Rattle.monitor_state.specs.declared.State.{State}
use Rattle.usage.specs.declared.Reason.{Reason}
use Rattle.usage.specs.declared.Reason.TheVariants.{Table, State as Unfit}
use Rattle.monitor_state.specs.declared.Answer.TheVariants.{Violated, Refused}
use Rattle.monitor_state.specs.Judge.{verdict_of, halt, judge_of, answers_of, start_state}
use Rattle.monitor_state.specs.Sound.{StateOk}
use Rattle.monitor_state.specs.Stored.{JudgedByStored}
use Rattle.monitor_state.specs.Renamed.{Renaming, renamed_step, SameAnswers}
use Rattle.monitor_state.specs.Others.{OthersKept}
use Rattle.sheet_lines.specs.Sheet.{Result, accepted, refused as sheet-refused, sheet}
use Rattle.sheet_lines.specs.Sheets.{is_local, trace_sheet}
use Rattle.sheet_reader.specs.Readers.{policies_read, policies_into, trace_into, outline_into, stored}
use Rattle.sheet_reader.specs.Cases.{PoliciesCase, TraceCase, OutlineCase}
use Rattle.sheet_grammar.specs.Tree.{Tree}
use Rattle.sheet_grammar.specs.Grammar.{most_nested, ExpressionLine}
use Rattle.sheet_grammar.specs.Nodes.{tree_nodes}
use Rattle.sheet_grammar.specs.Meaning.{TreeTrace}
use Rattle.sheet_expression.specs.Expression.{table_rows, ReadAs, expression_of, expression_into}
use Rattle.checker_trace.specs.Answer.{most_numbers}
use Rattle.checker_trace.specs.Steps.{laid}
use Rattle.checker.specs.Accepted.{NeverHalted}
use Rattle.checker.specs.Promise.{RightVerdict, CheckPromise}
use Rattle.checker_counterexample.specs.declared.Explanation.{Explanation}
use Rattle.checker_counterexample.specs.declared.Explanation.TheVariants.{Shown, Longer}
use Rattle.checker_counterexample.specs.Explained.{Explained, explanation_verdict, steps_written_lem}
use Rattle.sheet_writer.specs.Writer.{is_written, written_again}
use Rattle.sheet_writer.specs.Promise.{OneWay}
use Rattle.checker.specs.Summary.{Exact}
use Rattle.monitor_lean.specs.Promise.{LeanAnswers, LeanAnswersAll}
use Rattle.desk.specs.Desk.{Loaded, Desk, is_busy_lem}
use Rattle.desk.specs.Promise.{outline_in}
use Rattle.desk.specs.Layout.{desk_bytes}
use Rattle.desk.specs.State.{desk_of}
use Rattle.desk.specs.Calls.{Given, desk_code, plain, Called, ByPolicies, ByOutline, ByStep}
use Rattle.desk.specs.Sequences.{Written, CallsPromise}
use Rattle.report.specs.Output.{sheet_room}
use Rattle.report.specs.Trace.{trace_printed}
use Rattle.report.specs.Outline.{RightTexts, outline_printed}
use Rattle.report.specs.Counterexample.{RightExplanation, counterexample_printed}
use Rattle.report_desk.specs.Printed.{DeskRows}
use Rattle.report.specs.Summary.{RightSummary, summary_printed}
use Rattle.api_c.specs.Codes.{code_of, explanation_code_lem}

-- ── Demand 1 ──

-- "The running routine, in order", with 27 "in the place of 23" and 28 "after 27" (02, L8), "The limits, last of all", "The calling
-- program": the numbers that the judge has
abbrev pub judge_numbers : List ℕ
judge_numbers = 20 ∷ 21 ∷ 22 ∷ 27 ∷ 28 ∷ 24 ∷ 25 ∷ 26 ∷ 30 ∷ 32 ∷ 41 ∷ 42 ∷ []

-- "The author of a sheet", 02, L2, and 40: the numbers that a sheet has, and those that one of policies (02, L10) or an outline has besides
abbrev pub sheet_numbers : List ℕ
sheet_numbers = 40 ∷ 5 ∷ 1 ∷ 4 ∷ 13 ∷ 11 ∷ 12 ∷ 2 ∷ 3 ∷ []

abbrev pub policy_numbers : List ℕ
policy_numbers = sheet_numbers ++ (14 ∷ [])

abbrev pub outline_numbers : List ℕ
outline_numbers = sheet_numbers ++ (9 ∷ 6 ∷ 7 ∷ 8 ∷ [])

-- those that a line of the grammar of expressions has, and those that any text read as one has: 02, L13, and 40
abbrev pub line_numbers : List ℕ
line_numbers = 5 ∷ 16 ∷ 17 ∷ 3 ∷ 7 ∷ 8 ∷ []

abbrev pub expression_numbers : List ℕ
expression_numbers = 40 ∷ 15 ∷ line_numbers

-- "answer outside its list": an answer of the judge is allowed, violated with one of the eight policies, or refused with one of the numbers
abbrev pub Listed : List ℕ → Verdict → Type 0
Listed numbers allowed = Unit {0}
Listed numbers (violated p) = p < policies
Listed numbers (refused n) = Memᴰ n numbers

-- "A refusal has its number, in its stated case only, and changes nothing in the state or in what the caller lent": of every table of
-- edges, every state and every step at all, whichever past counts.
pub record JudgeRefuses : Type 0 where
  pub listed : (t : List ℕ) (local : Bool) (s : State) (raw : RawStep) → Listed judge_numbers (verdict_of (judge_of t local s raw).answer)
  pub keeps : (t : List ℕ) (local : Bool) (s : State) (raw : RawStep) (n : Reason) → (judge_of t local s raw).answer ≡ Refused n
      → (judge_of t local s raw).state ≡ s
  -- "a halted state that is otherwise the one before the step"
  pub halts : (t : List ℕ) (local : Bool) (s : State) (raw : RawStep) (p : ℕ)
      → (judge_of t local s raw).answer ≡ Violated p → (judge_of t local s raw).state ≡ halt s
  -- the cases of the numbers that no past tells; those of the others are in demand 2
  pub no_table : (t : List ℕ) (local : Bool) (s : State) (raw : RawStep) → ((judge_of t local s raw).answer ≡ Refused Table) ↔ (EdgeTable t → ⊥)
  pub no_state : (t : List ℕ) (local : Bool) (s : State) (raw : RawStep)
      → ((judge_of t local s raw).answer ≡ Refused Unfit) ↔ (EdgeTable t × (StateOk s → ⊥))

-- The same of a reader, which is lent a table of so many places to fill and the bytes of a sheet. `Case` has the stated case of each number.
pub record ReaderRefuses (numbers : List ℕ) (needed : ℕ) (into : ℕ → List ℕ → Result) (Case : ℕ → List ℕ → Refusal → Type 0) : Type 0
  where
    pub listed : (places : ℕ) (text : List ℕ) (r : Refusal) → into places text ≡ sheet-refused r → Memᴰ r.number numbers
    pub keeps : (places : ℕ) (text table : List ℕ) (r : Refusal) → into places text ≡ sheet-refused r
        → stored (into places text) table ≡ table
    -- "40 a table lent to be filled that is smaller than its sheet's largest count"
    pub no_room : (places : ℕ) (text : List ℕ) → (into places text ≡ sheet-refused record { line = 0; number = 40 }) ↔ (places < needed)
    -- "in its stated case only"
    pub stated : (places : ℕ) (text : List ℕ) (r : Refusal) → (into places text ≡ sheet-refused r) ↔ Case places text r

-- of the reader of expressions (02, L13): "40" before all, then the case that the request states
pub data ExpressionCase (places : ℕ) (text : List ℕ) (r : Refusal) : Type 0 where
  no_room : places < node_places → r ≡ record { line = 0; number = 40 } → ExpressionCase places text r
  in_text : node_places ≤ places → ReadAs text (sheet-refused r) → ExpressionCase places text r

-- The same of the check, and of the check with a counterexample, which is lent a table to be filled besides: t before and t' after.
abbrev pub check_numbers : List ℕ
check_numbers = 41 ∷ []

abbrev pub explanation_numbers : List ℕ
explanation_numbers = 40 ∷ check_numbers

pub record CheckRefuses : Type 0 where
  pub listed : (local : Bool) (e n : List ℕ) (v : Verdict) → CheckPromise local e n v → Listed check_numbers v
  pub no_table : (local : Bool) (e n : List ℕ) (v : Verdict) → CheckPromise local e n v
      → (v ≡ refused 41) ↔ ((EdgeTable e → ⊥) ⊎ (NodeTable n → ⊥))
  pub explained_listed : (local : Bool) (e n t : List ℕ) (x : Returned Explanation Reason) (t' : List ℕ) → Explained local e n t x t'
      → Listed explanation_numbers (explanation_verdict x)
  -- "40 also covers a lent trace table below 200 places" (02, L1)
  pub no_room : (local : Bool) (e n t : List ℕ) (x : Returned Explanation Reason) (t' : List ℕ) → Explained local e n t x t'
      → (explanation_verdict x ≡ refused 40) ↔ (length t < most_numbers)
  pub keeps : (local : Bool) (e n t : List ℕ) (x : Returned Explanation Reason) (t' : List ℕ) (k : ℕ) → Explained local e n t x t'
      → explanation_verdict x ≡ refused k → t' ≡ t

-- "41 a table lent to be used that, taken whole, no accepted sheet gives": some sheet, read into a table of so many places, gives this
-- table
pub record GivenBy (needed : ℕ) (into : ℕ → List ℕ → Result) (table : List ℕ) : Type 0 where
  pub text : List ℕ
  pub rows : List (List ℕ)
  pub accepts : into needed text ≡ accepted rows
  pub table_is : flatten rows ≡ table

-- "No sheet, step, table or state, however malformed, makes it .. answer outside its list", and a refusal changes nothing.
pub record Demand1 : Type 0 where
  pub judge : JudgeRefuses
  pub policies_reader : ReaderRefuses policy_numbers edge_places policies_into PoliciesCase
  pub trace_reader : ReaderRefuses sheet_numbers step_places trace_into TraceCase
  pub outline_reader : ReaderRefuses outline_numbers node_places outline_into OutlineCase
  pub expression_reader : ReaderRefuses expression_numbers node_places expression_into ExpressionCase
  pub check : CheckRefuses
  -- the tables that 41 does not refuse are those that the sheets give; of edges, those of either names line (02, L7)
  pub edges_given : (local : Bool) (t : List ℕ) → EdgeTable t ↔ ((g : GivenBy edge_places policies_into t) × (is_local g.text ≡ local))
  pub nodes_given : (t : List ℕ) → NodeTable t ↔ GivenBy node_places outline_into t

-- ── Demand 2 ──

-- "Each step is judged as the published definition of usage policies says, over the whole past and every choice of the policy's resource":
-- from the judge's start, for every list of steps at all, the answers are the right ones after the past that the steps before left, and no
-- others are. "The judge's definition, the whole of demand 3 and the bad trace are given both meanings" (02, L7): so for each choice
-- of past.
abbrev pub Demand2 : Type 0
Demand2 = (local : Bool) (t : List ℕ) → EdgeTable t → (raws : List RawStep) (vs : List Verdict)
    → (map verdict_of (answers_of t local start_state raws) ≡ vs) ↔ JudgedAll local (edges_of t) [] false raws vs

-- ── Demand 3 ──

-- "What the check accepts, the judge never halts: one theorem over whole traces; and the check is exact, naming the lowest policy at
-- fault." The check tells v where `CheckPromise` holds of v. Then v is right, no other verdict is, and acceptance means what it says,
-- for each choice of past. Of all tables at all there is such a verdict.
pub record Demand3 : Type 0 where
  pub told : (local : Bool) (t n : List ℕ) → (v : Verdict) × CheckPromise local t n v
  pub right : (local : Bool) (t n : List ℕ) (v : Verdict) → CheckPromise local t n v → RightVerdict local t n v
  pub no_other : (local : Bool) (t n : List ℕ) (v w : Verdict) → CheckPromise local t n v → RightVerdict local t n w → v ≡ w
  pub never_halted : (local : Bool) (t n : List ℕ) → EdgeTable t → NodeTable n
      → Checked local (edges_of t) (nodes_of n) allowed → NeverHalted t local (nodes_of n)

-- ── The bad trace (02, L1) ──

-- Of every explanation that the check with a counterexample may give of the tables e and n, with the lent table t before and t' after.
pub record Counterexamples : Type 0 where
  -- the verdict is the check's, where the table has the room
  pub verdict : (local : Bool) (e n t : List ℕ) (x : Returned Explanation Reason) (t' : List ℕ) → Explained local e n t x t' → most_numbers ≤ length t
      → CheckPromise local e n (explanation_verdict x)
  -- "Any of several equally short traces will do: which one is left free", and nothing else is
  pub one_answer : (local : Bool) (e n t : List ℕ) (x y : Returned Explanation Reason) (t' u' : List ℕ) → Explained local e n t x t'
      → Explained local e n t y u' → x ≡ y
  -- "it is a trace of the outline, numbered so, that breaks the named policy while open, and no trace of the outline that does so has fewer
  -- steps"; "Places after the trace keep their contents"
  pub shown : (local : Bool) (e n t : List ℕ) (p s : ℕ) (t' : List ℕ) → Explained local e n t (Ok (Shown p s)) t'
      → (past : Past) × Shortest local (edges_of e) (nodes_of n) p past × (length past ≡ s) × (s ≤ most_shown) × (t' ≡ laid t past)
  -- "if every such trace is longer it says so"
  pub longer : (local : Bool) (e n t : List ℕ) (p : ℕ) (t' : List ℕ) → Explained local e n t (Ok (Longer p)) t'
      → (past : Past) → IsTrace (nodes_of n) past → Violates local (edges_of e) p past → most_shown < length past
  -- "and then, as on acceptance, nothing is written"
  pub nothing : (local : Bool) (e n t : List ℕ) (x : Returned Explanation Reason) (t' : List ℕ) → Explained local e n t x t' → steps_written_lem x ≡ 0
      → t' ≡ t

-- ── The numbers for callers in C and Rust ──

-- One number tells the answer, and where a trace is asked for how many steps of it were written: no two of what can be answered have the
-- same one.
pub record ToldByCodes : Type 0 where
  pub judge : (v w : Verdict) → Listed judge_numbers v → Listed judge_numbers w → code_of v ≡ code_of w → v ≡ w
  pub check : (v w : Verdict) → Listed check_numbers v → Listed check_numbers w → code_of v ≡ code_of w → v ≡ w
  pub counterexample : (x y : Returned Explanation Reason) → Listed explanation_numbers (explanation_verdict x) → Listed explanation_numbers (explanation_verdict y)
      → explanation_code_lem x ≡ explanation_code_lem y → (steps_written_lem x ≡ steps_written_lem y) × (explanation_verdict x ≡ explanation_verdict y)

-- ── Renumbered channels (02, L3, and L8) ──

-- "Let the dynamic numbers of a trace be renamed one to one among 16 to" 4,294,967,295 (02, L9); "then every step must get the same answer
-- as before": of renamings that keep the order (02, L8)
pub record Renumbered : Type 0 where
  -- "This holds from the judge's start, for traces of any length."
  pub answers : SameAnswers start_state
  -- so for the program: two accepted trace sheets whose steps differ by a renaming are printed the same, byte for byte
  pub printed : (policies-text trace-text renamed-text : List ℕ) (rows renamed_rows : List (List ℕ)) (f : ℕ → ℕ)
      → Renaming f (steps_of (flatten rows)) → sheet trace_sheet trace-text ≡ accepted rows
      → sheet trace_sheet renamed-text ≡ accepted renamed_rows
      → steps_of (flatten renamed_rows) ≡ map (renamed_step f) (steps_of (flatten rows))
      → trace_printed policies-text renamed-text ≡ trace_printed policies-text trace-text

-- ── Retired channels (02, L8) ──

-- "before the first 30 without them, the other steps get the answers they got without": from the judge's start, for every list of steps at
-- all. Of the traces of an outline that the check accepts, demand 3 speaks of retirings too.
abbrev pub RetiringsApart : Type 0
RetiringsApart = OthersKept start_state

-- ── Where it can go wrong (02, L11) ──

-- m is the exact summary of an outline, lent as a table of nodes, under a table of edges; `checker::summary` writes it.
abbrev pub ExactFor : Bool → List ℕ → List ℕ → List ℕ → Type 0
ExactFor local t n m = Exact local (edges_of t) (nodes_of n) m

pub record LeanJudge : Type 0 where
  pub one_summary : (local : Bool) (t n m k : List ℕ) → ExactFor local t n m → ExactFor local t n k → m ≡ k
  -- "With the exact one, from the judge's start, on every trace of that outline, with or without retirings added, it answers as the full
  -- judge does, step by step, up to and including the first refusal."
  pub answers : (local : Bool) (t n m : List ℕ) → EdgeTable t → NodeTable n → ExactFor local t n m → LeanAnswers t local (nodes_of n) m
  -- and beyond refusals, as long as the steps that are not refused are such a trace
  pub answers_all : (local : Bool) (t n m : List ℕ) → EdgeTable t → NodeTable n → ExactFor local t n m → LeanAnswersAll t local (nodes_of n) m
  -- "Accepted outlines have no mark", and no others
  pub accepted : (local : Bool) (t n m : List ℕ) → EdgeTable t → NodeTable n → ExactFor local t n m
      → Checked local (edges_of t) (nodes_of n) allowed ↔ (m ≡ replicate policies 0)

-- ── One way to write a policy sheet (02, L12) ──

-- of a sheet `text`, written again as t
pub record Verdicts (text t : List ℕ) : Type 0 where
  -- the table of each: "40", "41" and the numbers of a sheet refuse neither
  pub was : List (List ℕ)
  pub is : List (List ℕ)
  pub was_read : policies_read text ≡ accepted was
  pub is_read : policies_read t ≡ accepted is
  -- "and hence the same verdicts": the judge's answer and state, from every state at all, and the right verdict of the check, for every
  -- outline
  pub judged : (s : State) (raw : RawStep) → judge_of (flatten is) (is_local t) s raw ≡ judge_of (flatten was) (is_local text) s raw
  pub checked : (nodes : List ℕ) (v : Verdict)
      → RightVerdict (is_local t) (flatten is) nodes v ↔ RightVerdict (is_local text) (flatten was) nodes v

-- "Reading the result gives the same edges as a set and hence the same verdicts. Writing a second time changes no byte, and two sheets
-- with the same names line give equal bytes exactly when their edge sets are equal."
pub record Rewritten : Type 0 where
  pub way : OneWay
  pub verdicts : (text t : List ℕ) → written_again text ≡ is_written t → Verdicts text t

-- ── Outlines typed as expressions (02, L13) ──

pub record Expressions : Type 0 where
  -- every text has the one result that the request says, and no other
  pub result : (text : List ℕ) (r : Result) → (expression_of text ≡ r) ↔ ReadAs text r
  -- "Exactly the lines of this grammar are read, those that 5, 16, 17, 3, 7 or 8 refuses apart"
  pub only_lines : (text : List ℕ) (rows : List (List ℕ)) → expression_of text ≡ accepted rows
      → (t : Tree) × ExpressionLine most_nested text t × (rows ≡ table_rows (tree_nodes t))
  pub all_lines : (n : ℕ) (text : List ℕ) (t : Tree) (r : Refusal) → ExpressionLine n text t → expression_of text ≡ sheet-refused r
      → Memᴰ r.number line_numbers
  -- "each in one way"
  pub one_way : (m n : ℕ) (text : List ℕ) (t u : Tree) → ExpressionLine m text t → ExpressionLine n text u → t ≡ u
  -- "get the node table": one that an outline sheet gives too
  pub table : (text : List ℕ) (rows : List (List ℕ)) → expression_of text ≡ accepted rows → GivenBy node_places outline_into (flatten rows)
  -- the traces of the table are those of the expression, which has runs of its own
  pub traces : (text : List ℕ) (rows : List (List ℕ)) (t : Tree) → expression_of text ≡ accepted rows → ExpressionLine most_nested text t
      → (past : Past) → IsTrace (nodes_of (flatten rows)) past ↔ TreeTrace t past

-- ── The routine desk (02, L14) ──

-- The bytes hold a desk with an outline, and no routine that keeps to the outline is halted there: its full judge, which answers as the desk
-- does (`Served`), allows every step up to the limits.
pub record RunsFree (b : List ℕ) : Type 0 where
  pub desk : Loaded
  pub is : desk_of b ≡ some (some desk)
  pub nodes : List Node
  pub outline : outline_in desk.outline ≡ some nodes
  pub never_halted : NeverHalted desk.edges desk.local nodes

-- the desk's own numbers: "in this order, after 40 to 42 and ahead of 5 and 20"
abbrev pub desk_numbers : List ℕ
desk_numbers = 40 ∷ 42 ∷ 50 ∷ 51 ∷ 52 ∷ []

-- a refusal that has no line, as the number that a call returns
abbrev pub refused_by : ℕ → ℕ
refused_by n = desk_code (plain (refused n))

-- of a call on any bytes at all: "40 also covers a shorter state, and 42 bytes that encode no desk state"
pub record BytesRefuse (Does : Desk → Given → Desk → Type 0) : Type 0 where
  pub too_short : (b : List ℕ) (r : ℕ) (b' : List ℕ) → Called Does b r b' → length b < desk_bytes → (r ≡ refused_by 40) × (b' ≡ b)
  pub no_desk : (b : List ℕ) (r : ℕ) (b' : List ℕ) → Called Does b r b' → desk_bytes ≤ length b → desk_of b ≡ none
      → (r ≡ refused_by 42) × (b' ≡ b)

-- then, each in its case, "50 a step before policies are loaded, 51 an outline loaded before policies, 52 a load while a sandbox is open and
-- the judge is not halted"
pub record DeskRefuses : Type 0 where
  pub policies_bytes : (text : List ℕ) → BytesRefuse (ByPolicies text)
  pub outline_bytes : (text : List ℕ) → BytesRefuse (ByOutline text)
  pub step_bytes : (raw : RawStep) → BytesRefuse (ByStep raw)
  pub step_first : (raw : RawStep) (b : List ℕ) (r : ℕ) (b' : List ℕ) → Called (ByStep raw) b r b' → desk_bytes ≤ length b
      → desk_of b ≡ some none → (r ≡ refused_by 50) × (b' ≡ b)
  pub outline_first : (text b : List ℕ) (r : ℕ) (b' : List ℕ) → Called (ByOutline text) b r b' → desk_bytes ≤ length b
      → desk_of b ≡ some none → (r ≡ refused_by 51) × (b' ≡ b)
  pub policies_busy : (text b : List ℕ) (r : ℕ) (b' : List ℕ) → Called (ByPolicies text) b r b' → desk_bytes ≤ length b
      → (d : Desk) → desk_of b ≡ some d → is_busy_lem d ≡ true → (r ≡ refused_by 52) × (b' ≡ b)
  pub outline_busy : (text b : List ℕ) (r : ℕ) (b' : List ℕ) → Called (ByOutline text) b r b' → desk_bytes ≤ length b
      → (d : Desk) → desk_of b ≡ some d → is_busy_lem d ≡ true → (r ≡ refused_by 52) × (b' ≡ b)

pub record RoutineDesk : Type 0 where
  pub refuses : DeskRefuses
  -- "From the zero state, with only the desk writing it, its answers to any sequence of steps after a load are those of a full judge started
  -- there", and which judge gave each: over the calls and their bytes
  pub calls : CallsPromise
  -- with demand 3: of an outline that the desk accepts, which the number 0 tells
  pub accepted : (b b' text : List ℕ) (r : ℕ) → Written b → Called (ByOutline text) b r b' → r ≡ 0 → RunsFree b'

-- ── What the programs read ──

-- the bytes of a sheet that a program reads
abbrev pub seen : List ℕ → List ℕ
seen text = take sheet_room text

-- What a program prints of its sheets is what it prints of the bytes that it reads of them.
pub record ReadEnough : Type 0 where
  pub trace : (policies-text trace-text : List ℕ) → trace_printed (seen policies-text) (seen trace-text) ≡ trace_printed policies-text trace-text
  pub outline : (policies-text outline-text : List ℕ) (v : Verdict)
      → outline_printed (seen policies-text) (seen outline-text) v ≡ outline_printed policies-text outline-text v
  pub outline_right : (policies-text outline-text : List ℕ) (v : Verdict)
      → RightTexts (seen policies-text) (seen outline-text) v ↔ RightTexts policies-text outline-text v
  pub counterexample : (policies-text outline-text : List ℕ) (x : Returned Explanation Reason) (t : List ℕ)
      → counterexample_printed (seen policies-text) (seen outline-text) x t ≡ counterexample_printed policies-text outline-text x t
  pub counterexample_right : (policies-text outline-text : List ℕ) (x : Returned Explanation Reason) (t : List ℕ)
      → RightExplanation (seen policies-text) (seen outline-text) x t ↔ RightExplanation policies-text outline-text x t
  pub summary : (policies-text outline-text : List ℕ) (m : List ℕ)
      → summary_printed (seen policies-text) (seen outline-text) m ≡ summary_printed policies-text outline-text m
  pub summary_right : (policies-text outline-text : List ℕ) (m : List ℕ)
      → RightSummary (seen policies-text) (seen outline-text) m ↔ RightSummary policies-text outline-text m
  pub desk : (policies-text outline-text trace-text out : List ℕ)
      → DeskRows (seen policies-text) (seen outline-text) (seen trace-text) out ↔ DeskRows policies-text outline-text trace-text out

-- ── All of it ──

-- The three demands, and what the later requests promise of the whole.
pub record Demands : Type 0 where
  pub first : Demand1
  pub second : Demand2
  pub third : Demand3
  pub counterexamples : Counterexamples
  pub told_by_codes : ToldByCodes
  pub renumbered : Renumbered
  -- 02, L4: "At an opening or closing, a state not reached from the start is judged by its stored sets"
  pub by_stored_sets : JudgedByStored
  pub retirings_apart : RetiringsApart
  pub lean_judge : LeanJudge
  pub rewritten : Rewritten
  pub expressions : Expressions
  pub routine_desk : RoutineDesk
  pub read_enough : ReadEnough
