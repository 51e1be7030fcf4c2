-- One step more in a trace of numbers.
use Prim.Native.Nat.{ℕ, suc, ◌+◌, ◌*◌, ◌<◌, ◌≤◌}
use mathlib.Core.Path.{◌≡◌, refl, sym, ap, ◌∙◌}
use mathlib.Core.Bool.{Bool}
use mathlib.Core.Option.{some}
use mathlib.Core.List.{List, [], ◌∷◌, ◌++◌}
use native.Mathlib.Omega.{arith}
use native.Mathlib.Decide.{ℕ_discrete}
use lib.ListN.{length, get_or, take, drop, set, length-set, length-append, length-drop}
use lib.Seq.{sets, sets-eq, take_at, drop-append-add, drop-drop, get_or-set_same, get_or-set_other}
use borrow.Author.Tests.{ne_eqb}
use Rattle.usage.specs.Limits.{create, statics, step_fields}
use Rattle.usage.specs.Past.{Step, event, opening, closing, retiring, Past, count, add_if, creates}
use Rattle.usage.specs.Outline as outline
use Rattle.usage.proofs.TraceLaws.{give-same, give-other}
use Rattle.checker_trace.specs.declared.Spot.{Spot}
use Rattle.checker_trace.specs.declared.Names.{Names}
use Rattle.checker_trace.specs.Steps.{three, numbers, laid}
use Rattle.checker_trace.specs.Code.{stored_step, onward, created, given, Spotted, Agree}

three-length : (s : Step) → length (three s) ≡ 3
three-length (event a r) = refl
three-length (opening p) = refl
three-length (closing p) = refl
three-length (retiring r) = refl

pub numbers_length : (past : Past) → length (numbers past) ≡ step_fields * length past
unfolding numbers
numbers_length [] = refl
numbers_length (s ∷ past) = length-append (numbers past) (three s) ∙ let l = numbers_length past in let k = three-length s in omega arith

pub laid_none : (t : List ℕ) → t ≡ laid t []
unfolding laid numbers
laid_none t = refl

pub laid-length : (t : List ℕ) (past : Past) → step_fields * length past ≤ length t → length (laid t past) ≡ length t
unfolding laid
laid-length t past h =
    length-append (numbers past) (drop (step_fields * length past) t)
    ∙ let l = numbers_length past in let k = length-drop (step_fields * length past) t in omega arith

laid-front : (t : List ℕ) (past : Past) → take (step_fields * length past) (laid t past) ≡ numbers past
unfolding laid
laid-front t past = take_at (numbers past) (drop (step_fields * length past) t) (step_fields * length past) (numbers_length past)

laid-rest : (t : List ℕ) (past : Past) (vs : List ℕ) → length vs ≡ step_fields
    → drop (step_fields * length past + length vs) (laid t past) ≡ drop (step_fields * length past + step_fields) t
unfolding laid
laid-rest t past vs e =
    ap (λ (i : ℕ). drop (step_fields * length past + i) (numbers past ++ drop (step_fields * length past) t)) e
    ∙ ap (λ (i : ℕ). drop (i + step_fields) (numbers past ++ drop (step_fields * length past) t)) (sym (numbers_length past))
    ∙ drop-append-add (numbers past) (drop (step_fields * length past) t) 3 ∙ drop-drop 3 (step_fields * length past) t

laid-step : (t : List ℕ) (past : Past) (s : Step)
    → (numbers past ++ three s) ++ drop (step_fields * length past + step_fields) t ≡ laid t (s ∷ past)
unfolding laid numbers
laid-step t past s = let e : step_fields * length past + step_fields ≡ step_fields * suc (length past) = omega arith in
    ap (λ (i : ℕ). (numbers past ++ three s) ++ drop i t) e

-- three numbers stored after those of a past are those of one step more
laid-set : (t : List ℕ) (past : Past) (vs : List ℕ) → length vs ≡ step_fields → step_fields * (length past + 1) ≤ length t
    → sets (laid t past) (step_fields * length past) vs ≡ (numbers past ++ vs) ++ drop (step_fields * length past + step_fields) t
laid-set t past vs e h =
    let l = numbers_length past in
    let room = laid-length t past (omega arith) in
    sets-eq vs (laid t past) (step_fields * length past) (omega arith)
    ∙ ap (λ (u : List ℕ). u ++ vs ++ drop (step_fields * length past + length vs) (laid t past)) (laid-front t past)
    ∙ ap (λ (u : List ℕ). numbers past ++ vs ++ u) (laid-rest t past vs e)

pub laid_more : (t : List ℕ) (past : Past) (s : Step) (kind a b i : ℕ) (trace : List ℕ) → three s ≡ kind ∷ a ∷ b ∷ [] → i ≡ length past
    → trace ≡ laid t past → step_fields * (length past + 1) ≤ length t
    → stored_step trace i kind a b ≡ laid t (s ∷ past)
laid_more t past s kind a b i trace e f g h =
    let one : step_fields * length past + 1 ≡ suc (step_fields * length past) = omega arith in
    let two : step_fields * length past + 2 ≡ suc (suc (step_fields * length past)) = omega arith in
    ap (λ (j : ℕ). stored_step trace j kind a b) f
    ∙ ap (λ (u : List ℕ). stored_step u (length past) kind a b) g
    ∙ ap (λ (j : ℕ). set (set (set (laid t past) (step_fields * length past) kind) j a) (step_fields * length past + 2) b) one
    ∙ ap (λ (j : ℕ). set (set (set (laid t past) (step_fields * length past) kind) (suc (step_fields * length past)) a) j b) two
    ∙ laid-set t past (kind ∷ a ∷ b ∷ []) refl h
    ∙ ap (λ (u : List ℕ). (numbers past ++ u) ++ drop (step_fields * length past + step_fields) t) (sym e)
    ∙ laid-step t past s

-- ── The place, and the number of the next fresh resource ──

pub spotted-event : (past : Past) (s : Spot) (a r : ℕ) → 1 ≤ a → Spotted past s → Spotted (event a r ∷ past) (onward s)
unfolding count
spotted-event past s a r l h = record {
  at = let e = h.at in omega arith;
  next = h.next ∙ ap (λ (b : Bool). statics + add_if b (creates past)) (sym (ne_eqb a create (λ e. absurd (omega arith))));
}

pub spotted-opening : (past : Past) (s : Spot) (p : ℕ) → Spotted past s → Spotted (opening p ∷ past) (onward s)
unfolding count
spotted-opening past s p h = record { at = let e = h.at in omega arith; next = h.next }

pub spotted-closing : (past : Past) (s : Spot) (p : ℕ) → Spotted past s → Spotted (closing p ∷ past) (onward s)
unfolding count
spotted-closing past s p h = record { at = let e = h.at in omega arith; next = h.next }

pub spotted-create : (past : Past) (s : Spot) (r : ℕ) → Spotted past s → Spotted (event create r ∷ past) (created s)
unfolding count
spotted-create past s r h = record { at = let e = h.at in omega arith; next = let e = h.next in omega arith }

-- ── Names ──

pub agree-give : (names : outline.Names) (g : Names) (m v : ℕ) → length g.numbers ≡ 4 → m < 4 → Agree names g
    → Agree (outline.give names m v) (given g m v)
agree-give names g m v len small h i r e = go (ℕ_discrete i m)
  where
    same_some : {a b : ℕ} → ◌≡◌ {A = _} (some a) (some b) → a ≡ b
    same_some f = cc

    go : Dec (i ≡ m) → get_or (set g.numbers m v) i 0 ≡ r
    go (yes f) = ap (λ (j : ℕ). get_or (set g.numbers m v) j 0) f ∙ get_or-set_same g.numbers m v 0 (omega arith)
        ∙ same_some (sym (give-same names m v i f) ∙ e)
    go (no f) = get_or-set_other g.numbers m i v 0 f ∙ h i r (sym (give-other names m v i f) ∙ e)

pub stored-length : (t : List ℕ) (i kind a b : ℕ) → length (stored_step t i kind a b) ≡ length t
stored-length t i kind a b = length-set (set (set t (step_fields * i) kind) (step_fields * i + 1) a) (step_fields * i + 2) b
    ∙ length-set (set t (step_fields * i) kind) (step_fields * i + 1) a ∙ length-set t (step_fields * i) kind
