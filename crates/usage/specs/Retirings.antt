-- Retirings that are added to a trace (02, L8): what the promises on them are stated over.
use Rattle.std.specs.Prelude.{ℕ, zero, suc, ◌<◌, ◌≡◌}
use Rattle.std.proofs.Math.Option.{some}
use mathlib.Core.List.{List, [], ◌∷◌, Memᴰ}
use Rattle.usage.specs.declared.RawStep.{RawStep}
use Rattle.usage.specs.Past.{Step, event, opening, closing, retiring, Past, highest, Created, Retired}
use Rattle.usage.specs.Answers.{Verdict, refused}
use Rattle.usage.specs.Judge.{step_of}

-- the past with its retirings left out
unfoldable pub thinned : Past → Past
thinned [] = []
thinned (event a r ∷ past) = event a r ∷ thinned past
thinned (opening p ∷ past) = opening p ∷ thinned past
thinned (closing p ∷ past) = closing p ∷ thinned past
thinned (retiring r ∷ past) = thinned past

-- "traces that create in rising order"
abbrev pub Rises : Past → Type 0
Rises [] = Unit {0}
Rises (event zero r ∷ past) = (highest past < r) × Rises past
Rises (event (suc a) r ∷ past) = Rises past
Rises (opening p ∷ past) = Rises past
Rises (closing p ∷ past) = Rises past
Rises (retiring r ∷ past) = Rises past

-- "with at most one retiring added for each created resource, after the last step on it": the second list is the first one with such
-- retirings, both from here on. The past is that of the second list, so that it says what was created and what was retired.
pub data Added : Past → List Step → List Step → Type 0 where
  all_added : {past : Past} → Added past [] []
  step_kept : {past : Past} {step : Step} {steps more : List Step} → Added (step ∷ past) steps more → Added past (step ∷ steps) (step ∷ more)
  retiring_added : {past : Past} {r : ℕ} {steps more : List Step} → Created r past → (Retired r past → ⊥)
      → ((a : ℕ) → Memᴰ (event a r) steps → ⊥) → Added (retiring r ∷ past) steps more → Added past steps (retiring r ∷ more)

-- no event of these steps is on r
abbrev pub DoneWith : ℕ → List RawStep → Type 0
DoneWith r raws = (raw : RawStep) (a : ℕ) → Memᴰ raw raws → step_of raw ≡ some (event a r) → ⊥

-- The second list is the first, which has no retiring, with retirings after the last event on what they retire: of anything at all,
-- as often as one likes.
pub data Between : List RawStep → List RawStep → Type 0 where
  none_between : Between [] []
  other_step : {raw : RawStep} {raws more : List RawStep} → ((r : ℕ) → step_of raw ≡ some (retiring r) → ⊥) → Between raws more
      → Between (raw ∷ raws) (raw ∷ more)
  one_between : {r : ℕ} {raw : RawStep} {raws more : List RawStep} → step_of raw ≡ some (retiring r) → DoneWith r raws → Between raws more
      → Between raws (raw ∷ more)

-- "before the first 30 without them, the other steps get the answers they got without": the steps without retirings and their answers,
-- the steps with them and theirs
pub data SameOthers : List RawStep → List Verdict → List RawStep → List Verdict → Type 0 where
  none_other : SameOthers [] [] [] []
  same_answer : {raw : RawStep} {raws more : List RawStep} {v : Verdict} {vs ws : List Verdict} → ((r : ℕ) → step_of raw ≡ some (retiring r) → ⊥)
      → SameOthers raws vs more ws → SameOthers (raw ∷ raws) (v ∷ vs) (raw ∷ more) (v ∷ ws)
  first_30 : {raw : RawStep} {raws more : List RawStep} {vs ws : List Verdict} → SameOthers (raw ∷ raws) (refused 30 ∷ vs) (raw ∷ more) ws
  passed_over : {r : ℕ} {raw : RawStep} {raws more : List RawStep} {w : Verdict} {vs ws : List Verdict} → step_of raw ≡ some (retiring r)
      → SameOthers raws vs more ws → SameOthers raws vs (raw ∷ more) (w ∷ ws)
