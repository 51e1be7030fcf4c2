-- What a call of the lean judge over lent arrays owes.
use Prim.Native.Nat.{ℕ}
use mathlib.Core.Path.{◌≡◌, refl, sym, ap, ◌∙◌}
use mathlib.Core.Bool.{false}
use lib.Dec.{eqb}
use mathlib.Core.List.{List}
use Rattle.usage.specs.declared.RawStep.{RawStep}
use Rattle.usage.specs.declared.Reason.{Reason}
use Rattle.usage.specs.declared.Reason.TheVariants.{NamesLine, Form, Range, TooManyLines, TooLong, Tree, Back, Name, NoNodes, OtherByte, Overlong, NoLineFeed, ThirdPair, ExpressionByte, NestedTooDeep, TooManyNodes, Halted, NoStep, CreateStatic, NotLive, NotOpen, NotNewest, NotAbove, RetireNotLive, TooManyLive, TooManyOpen, Room, Table, State, StepBeforePolicies, OutlineBeforePolicies, LoadWhileOpen}
use Rattle.usage.specs.Reasons.{number_of}
use Rattle.usage.specs.Answers.{refused}
use Rattle.monitor_lean.specs.Lean.{Summary}
use Rattle.monitor_lean.specs.Promise.{LeanPromise}
use Rattle.monitor_lean.proofs.LeanLaws.{lean-promise}
use Rattle.api_c.specs.Choice.{choice_of}
use Rattle.api_c.specs.Codes.{code_of}
use Rattle.api_c.specs.Parts.{Parts, Answered, refuse_parts, lean_parts}

module _ (m : Summary) (t : List ℕ) (choice : ℕ) (p : Parts) (raw : RawStep) (r : ℕ) (p' : Parts) where
  abbrev pub Owed : Type 0
  Owed = record {
    value : r ≡ code_of (lean_parts m t choice p raw).verdict;
    numbers_after : p' ≡ (lean_parts m t choice p raw).parts;
    lean_promise : LeanPromise t (choice_of choice) m;
  }

  pub parts-told : r ≡ code_of (lean_parts m t choice p raw).verdict → p' ≡ (lean_parts m t choice p raw).parts → Owed
  parts-told e f = record { value = e; numbers_after = f; lean_promise = lean-promise t (choice_of choice) m }

-- a refusal leaves the arrays as they were lent
pub refused-told : (m : Summary) (t : List ℕ) (choice : ℕ) (p : Parts) (raw : RawStep) (n r : ℕ)
    → lean_parts m t choice p raw ≡ refuse_parts n p → r ≡ code_of (refused n) → Owed m t choice p raw r p
refused-told m t choice p raw n r e k =
    parts-told m t choice p raw r p (k ∙ sym (ap (λ (x : Answered). code_of x.verdict) e)) (sym (ap (λ (x : Answered). x.parts) e))

-- no reason has the number 0
pub some_number : (r : Reason) → eqb (number_of r) 0 ≡ false
some_number NamesLine = refl
some_number Form = refl
some_number Range = refl
some_number TooManyLines = refl
some_number TooLong = refl
some_number Tree = refl
some_number Back = refl
some_number Name = refl
some_number NoNodes = refl
some_number OtherByte = refl
some_number Overlong = refl
some_number NoLineFeed = refl
some_number ThirdPair = refl
some_number ExpressionByte = refl
some_number NestedTooDeep = refl
some_number TooManyNodes = refl
some_number Halted = refl
some_number NoStep = refl
some_number CreateStatic = refl
some_number NotLive = refl
some_number NotOpen = refl
some_number NotNewest = refl
some_number NotAbove = refl
some_number RetireNotLive = refl
some_number TooManyLive = refl
some_number TooManyOpen = refl
some_number Room = refl
some_number Table = refl
some_number State = refl
some_number StepBeforePolicies = refl
some_number OutlineBeforePolicies = refl
some_number LoadWhileOpen = refl
