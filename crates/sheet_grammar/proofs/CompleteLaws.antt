-- What is of the grammar is accepted.
use Prim.Native.Nat.{ℕ, zero, suc}
use mathlib.Core.Path.{◌≡◌, refl}
use mathlib.Core.Bool.{false}
use mathlib.Core.Option.{Option, some}
use mathlib.Core.List.{List, [], ◌∷◌, ◌++◌}
use native.Mathlib.Omega.{arith}
use lib.ListN.{get_elem?}
use Rattle.sheet_grammar.specs.Tree.{Tree}
use Rattle.sheet_grammar.specs.Grammar.{
  Bracket,
  closer,
  bracketed,
  Sign,
  plus,
  dot,
  sign_byte,
  Phrase,
  many,
  item,
  choice_phrase,
  each,
  Spells,
  Opener,
}
use Rattle.sheet_grammar.specs.Outcome.{Out, ok}
use Rattle.sheet_grammar.specs.Reader.{byte_is, read, more}
use Rattle.sheet_grammar.specs.Rules.{Reads}
use Rattle.sheet_grammar.proofs.SliceLaws.{Slice, slice-split, first_byte, last_byte}
use Rattle.sheet_grammar.proofs.ByteLaws.{is_some}
use Rattle.sheet_grammar.proofs.RuleLaws.{opener-past}
use Rattle.sheet_grammar.proofs.HeadFoundLaws.{Stops, atom-found, opener-found}

-- what may follow a part: nothing that would go on with it
abbrev pub Follows : Phrase → Option ℕ → Type 0
Follows item o = Stops o
Follows (many dot) o = Stops o × (byte_is o 46 ≡ false)
Follows (many plus) o = Stops o × (byte_is o 46 ≡ false) × (byte_is o 43 ≡ false)

-- the sign itself follows a part that it joins
sign-follows : (l : Sign) → Follows (each l) (some (sign_byte l))
sign-follows plus = (record { no_digit = refl; no-round = refl }, refl)
sign-follows dot = record { no_digit = refl; no-round = refl }

-- and a closing bracket, or the line feed, any part
closer-follows : (b : Bracket) → Follows choice_phrase (some (closer b))
closer-follows Bracket.round = (record { no_digit = refl; no-round = refl }, refl, refl)
closer-follows (Bracket.loop l) = (record { no_digit = refl; no-round = refl }, refl, refl)
closer-follows (Bracket.fresh l) = (record { no_digit = refl; no-round = refl }, refl, refl)
closer-follows (Bracket.sandbox l) = (record { no_digit = refl; no-round = refl }, refl, refl)

pub feed-follows : Follows choice_phrase (some 10)
feed-follows = (record { no_digit = refl; no-round = refl }, refl, refl)

each-follows : (l : Sign) (o : Option ℕ) → Follows (many l) o → Follows (each l) o
each-follows plus o f = (f.0, f.1)
each-follows dot o f = f.0

no_sign : (l : Sign) (o : Option ℕ) → Follows (many l) o → byte_is o (sign_byte l) ≡ false
no_sign plus o f = f.2
no_sign dot o f = f.1

-- what was found: an item; or what a sign joins, with whatever is then read of it
abbrev Found : List ℕ → Phrase → ℕ → ℕ → ℕ → Tree → Type 0
Found s item n at e t = Stops (get_elem? s e) → Reads s (read item) at n (ok t e)
Found s (many l) n at e t = Follows (each l) (get_elem? s e) → (out : Out) → Reads s (more l t) e n out → Reads s (read (many l)) at n out

finish : {s : List ℕ} {n at e : ℕ} {t : Tree} (p : Phrase) → Found s p n at e t → Follows p (get_elem? s e) → Reads s (read p) at n (ok t e)
finish item x f = x f
finish {s} {e} {t} (many l) x f = x (each-follows l _ f) (ok t e) (Reads.done (no_sign l _ f))

bracket-found : {s v : List ℕ} {b : Bracket} {at n m f : ℕ} {t : Tree} → Opener v b → Slice s at v m
    → Reads s (read choice_phrase) m n (ok t f) → get_elem? s f ≡ some (closer b)
    → Reads s (read item) at (suc n) (ok (bracketed b t) (suc f))
bracket-found {m = zero} o p r h = absurd (let z = opener-past o p in let y : ⊥ = omega arith in y)
bracket-found {m = suc i} o p r h = Reads.bracket (opener-found o p refl) r (is_some _ _ h)

part-found : {s w : List ℕ} {p : Phrase} {n at e : ℕ} {t : Tree} → Spells p n w t → Slice s at w e → Found s p n at e t
part-found (Spells.alone {l} p) q = λ f out r. Reads.first (finish (each l) (part-found p q) f) r
part-found (Spells.join {l} {v} {w} p p') q =
    let r = slice-split v (sign_byte l ∷ w) q in
    let h = first_byte r.right in
    λ f out x. part-found p r.left (rw h.0 (sign-follows l)) out
    (Reads.next (is_some _ _ h.0) (finish (each l) (part-found p' h.1) f) x)
part-found (Spells.atom p) q = λ f. Reads.atom (atom-found p q f)
part-found {s} (Spells.bracket {v} {w} {b} {t} p p') q =
    let r = slice-split v (w ++ (closer b ∷ [])) q in
    let u = slice-split w (closer b ∷ []) r.right in
    let h = last_byte u.right in
    λ f. rw h.1 (bracket-found p r.left (finish choice_phrase (part-found p' u.left) (rw h.0 (closer-follows b))) h.0)

pub found : {s w : List ℕ} {p : Phrase} {n at e : ℕ} {t : Tree} → Spells p n w t → Slice s at w e → Follows p (get_elem? s e)
    → Reads s (read p) at n (ok t e)
found {p} x q f = finish p (part-found x q) f
