-- Renumbered channels (02, L3, and L8: "L3 now speaks of renamings that keep the order"): a trace whose dynamic numbers are renamed gets the
-- same answers.
use Rattle.std.specs.Prelude.{ℕ, ◌<◌, ◌≡◌, Bool, true, cond, ◌⊎◌, eqb}
use mathlib.Core.List.{List, map, Memᴰ}
use Rattle.usage.specs.declared.RawStep.{RawStep}
use Rattle.monitor_state.specs.declared.State.{State}
use Rattle.monitor_state.specs.Judge.{dynamic, answers_of}

-- "kind 0 event (action 0 to 31, resource ..)", "step kind 3, retire (a the resource, b 0)": no other kind names a resource
abbrev pub event_kind : ℕ
event_kind = 0

abbrev pub retiring_kind : ℕ
retiring_kind = 3

-- the step names the resource x
abbrev pub Names : RawStep → ℕ → Type 0
Names raw x = ((raw.kind ≡ event_kind) × (raw.b ≡ x)) ⊎ ((raw.kind ≡ retiring_kind) × (raw.a ≡ x))

-- x is a dynamic number that occurs in the trace, in a refused step or another
pub record Occurring (raws : List RawStep) (x : ℕ) : Type 0 where
  pub is_dynamic : dynamic x ≡ true
  pub step : RawStep
  pub inside : Memᴰ step raws
  pub names : Names step x

-- "Let the dynamic numbers of a trace be renamed one to one among 16 to" 4,294,967,295 (02, L9), in their order. It is a function on all
-- numbers, of which only its values at the dynamic numbers that occur matter.
pub record Renaming (f : ℕ → ℕ) (raws : List RawStep) : Type 0 where
  pub among : (x : ℕ) → Occurring raws x → dynamic (f x) ≡ true
  pub keeps_order : (x y : ℕ) → Occurring raws x → Occurring raws y → x < y → f x < f y

-- the number that a resource then has: statics, and numbers that no step may name, stay
unfoldable pub renamed : (ℕ → ℕ) → ℕ → ℕ
renamed f x = cond (dynamic x) (f x) x

unfoldable pub renamed_step : (ℕ → ℕ) → RawStep → RawStep
renamed_step f raw = record {
  kind = raw.kind;
  a = cond (eqb raw.kind retiring_kind) (renamed f raw.a) raw.a;
  b = cond (eqb raw.kind event_kind) (renamed f raw.b) raw.b;
}

-- "then every step must get the same answer as before, the state returned aside, refusals included, and the policy named is the same ..
-- for traces of any length": from this state, under every table of edges at all, whichever past counts, and for every list of steps at all.
abbrev pub SameAnswers : State → Type 0
SameAnswers s =
    (t : List ℕ) (local : Bool) (f : ℕ → ℕ) (raws : List RawStep) → Renaming f raws
    → answers_of t local s (map (renamed_step f) raws) ≡ answers_of t local s raws
