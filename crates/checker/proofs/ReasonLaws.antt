-- Two reasons with the same number are the same.
use Prim.Native.Nat.{ℕ}
use mathlib.Core.Path.{◌≡◌, refl, sym, ap, ◌∙◌}
use mathlib.Core.Bool.{cond}
use lib.Dec.{eqb}
use Rattle.usage.specs.declared.Reason.{Reason}
use Rattle.usage.specs.declared.Reason.TheVariants.{NamesLine, Form, Range, TooManyLines, TooLong, Tree, Back, Name, NoNodes, OtherByte, Overlong, NoLineFeed, ThirdPair, ExpressionByte, NestedTooDeep, TooManyNodes, Halted, NoStep, CreateStatic, NotLive, NotOpen, NotNewest, NotAbove, RetireNotLive, TooManyLive, TooManyOpen, Room, Table, State, StepBeforePolicies, OutlineBeforePolicies, LoadWhileOpen}
use Rattle.usage.specs.Reasons.{number_of}

-- the reason of a number
abbrev reason_at : ℕ → Reason
reason_at n =
    cond (eqb n 1) NamesLine (
    cond (eqb n 2) Form (
    cond (eqb n 3) Range (
    cond (eqb n 4) TooManyLines (
    cond (eqb n 5) TooLong (
    cond (eqb n 6) Tree (
    cond (eqb n 7) Back (
    cond (eqb n 8) Name (
    cond (eqb n 9) NoNodes (
    cond (eqb n 11) OtherByte (
    cond (eqb n 12) Overlong (
    cond (eqb n 13) NoLineFeed (
    cond (eqb n 14) ThirdPair (
    cond (eqb n 15) ExpressionByte (
    cond (eqb n 16) NestedTooDeep (
    cond (eqb n 17) TooManyNodes (
    cond (eqb n 20) Halted (
    cond (eqb n 21) NoStep (
    cond (eqb n 22) CreateStatic (
    cond (eqb n 24) NotLive (
    cond (eqb n 25) NotOpen (
    cond (eqb n 26) NotNewest (
    cond (eqb n 27) NotAbove (
    cond (eqb n 28) RetireNotLive (
    cond (eqb n 30) TooManyLive (
    cond (eqb n 32) TooManyOpen (
    cond (eqb n 40) Room (
    cond (eqb n 41) Table (
    cond (eqb n 42) State (
    cond (eqb n 50) StepBeforePolicies (
    cond (eqb n 51) OutlineBeforePolicies (
    LoadWhileOpen)))))))))))))))))))))))))))))))

numbered : (r : Reason) → reason_at (number_of r) ≡ r
numbered NamesLine = refl
numbered Form = refl
numbered Range = refl
numbered TooManyLines = refl
numbered TooLong = refl
numbered Tree = refl
numbered Back = refl
numbered Name = refl
numbered NoNodes = refl
numbered OtherByte = refl
numbered Overlong = refl
numbered NoLineFeed = refl
numbered ThirdPair = refl
numbered ExpressionByte = refl
numbered NestedTooDeep = refl
numbered TooManyNodes = refl
numbered Halted = refl
numbered NoStep = refl
numbered CreateStatic = refl
numbered NotLive = refl
numbered NotOpen = refl
numbered NotNewest = refl
numbered NotAbove = refl
numbered RetireNotLive = refl
numbered TooManyLive = refl
numbered TooManyOpen = refl
numbered Room = refl
numbered Table = refl
numbered State = refl
numbered StepBeforePolicies = refl
numbered OutlineBeforePolicies = refl
numbered LoadWhileOpen = refl

pub reason-one : {r s : Reason} → number_of r ≡ number_of s → r ≡ s
reason-one {r} {s} e = sym (numbered r) ∙ ap reason_at e ∙ numbered s
