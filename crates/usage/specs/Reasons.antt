-- The numbers of the refusals, as documents, programs and callers in C have them.
use Rattle.std.specs.Prelude.{ℕ}
use Rattle.usage.specs.Answers.{Refusal}
use Rattle.usage.specs.declared.Reason.{Reason}
use Rattle.usage.specs.declared.Reason.TheVariants.{NamesLine, Form, Range, TooManyLines, TooLong, Tree, Back, Name, NoNodes, OtherByte, Overlong, NoLineFeed, ThirdPair, ExpressionByte, NestedTooDeep, TooManyNodes, Halted, NoStep, CreateStatic, NotLive, NotOpen, NotNewest, NotAbove, RetireNotLive, TooManyLive, TooManyOpen, Room, Table, State, StepBeforePolicies, OutlineBeforePolicies, LoadWhileOpen}
use Rattle.usage.specs.declared.SheetRefusal.{SheetRefusal}

abbrev pub number_of : Reason → ℕ
number_of NamesLine = 1
number_of Form = 2
number_of Range = 3
number_of TooManyLines = 4
number_of TooLong = 5
number_of Tree = 6
number_of Back = 7
number_of Name = 8
number_of NoNodes = 9
number_of OtherByte = 11
number_of Overlong = 12
number_of NoLineFeed = 13
number_of ThirdPair = 14
number_of ExpressionByte = 15
number_of NestedTooDeep = 16
number_of TooManyNodes = 17
number_of Halted = 20
number_of NoStep = 21
number_of CreateStatic = 22
number_of NotLive = 24
number_of NotOpen = 25
number_of NotNewest = 26
number_of NotAbove = 27
number_of RetireNotLive = 28
number_of TooManyLive = 30
number_of TooManyOpen = 32
number_of Room = 40
number_of Table = 41
number_of State = 42
number_of StepBeforePolicies = 50
number_of OutlineBeforePolicies = 51
number_of LoadWhileOpen = 52

-- a refusal of a sheet, as its line and number
abbrev pub refusal_of : SheetRefusal → Refusal
refusal_of r = record { line = r.line; number = number_of r.reason }
