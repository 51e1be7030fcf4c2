-- Laws of runs of stores.
use Prim.Native.Nat.{ℕ, suc, ◌+◌, ◌≤◌, ◌<◌}
use mathlib.Core.Path.{◌≡◌, sym, ap, ◌∙◌}
use mathlib.Core.List.{List, [], ◌∷◌, ◌++◌, append_assoc}
use native.Mathlib.Nat.{add-zero, add-suc, suc-add, zero-add}
use lib.ListN.{length, take, drop, set}
use lib.Seq.{sets, sets-eq, take-suc, length-take-le}
use lib.ListN.{length-append, get_or}
use native.Mathlib.Omega.{arith}
use Rattle.report_lines.specs.Decimal.{digit_byte, decimal}
use Rattle.report_lines.proofs.DecimalLaws.{decimal-one}
use Rattle.report_lines.specs.Lines.{field, three, row, numbered_row_lem, mark_row_lem, values_text, values_line}

-- one run after another
pub sets-append : (l : List ℕ) (i : ℕ) (vs ws : List ℕ) → sets l i (vs ++ ws) ≡ sets (sets l i vs) (i + length vs) ws
sets-append l i [] ws = ap (λ (k : ℕ). sets l k ws) (sym (add-zero i))
sets-append l i (v ∷ vs) ws =
    sets-append (set l i v) (suc i) vs ws
    ∙ ap (λ (k : ℕ). sets (sets (set l i v) (suc i) vs) k ws) (suc-add i (length vs) ∙ sym (add-suc i (length vs)))

-- and one store more
pub sets-snoc : (l : List ℕ) (i : ℕ) (vs : List ℕ) (v : ℕ) → sets l i (vs ++ (v ∷ [])) ≡ set (sets l i vs) (i + length vs) v
sets-snoc l i vs v = sets-append l i vs (v ∷ [])

-- a run from the start on
pub sets-front : (vs l : List ℕ) → length vs ≤ length l → sets l 0 vs ≡ vs ++ drop (length vs) l
sets-front vs l h = sets-eq vs l 0 (rw zero-add h) ∙ ap (λ (k : ℕ). vs ++ drop k l) (zero-add (length vs))

-- a run of a text, one byte further
pub sets-further : (l vs : List ℕ) (i : ℕ) → i < length vs → set (sets l 0 (take i vs)) i (get_or vs i 0) ≡ sets l 0 (take (suc i) vs)
sets-further l vs i h =
    let e : 0 + length (take i vs) ≡ i = zero-add (length (take i vs)) ∙ length-take-le i vs (omega arith) in
    ap (λ (k : ℕ). set (sets l 0 (take i vs)) k (get_or vs i 0)) (sym e)
    ∙ sym (sets-snoc l 0 (take i vs) (get_or vs i 0))
    ∙ ap (λ (t : List ℕ). sets l 0 t) (sym (take-suc vs i 0 h))

-- the length of a field and of a line
pub length-field : (n end : ℕ) → length (field n end) ≡ length (decimal n) + 1
unfolding field
length-field n end = length-append (decimal n) (end ∷ [])

pub length_three : (a b c end : ℕ)
    → length (three a b c end) ≡ length (decimal a) + length (decimal b) + length (decimal c) + 3
unfolding three
length_three a b c end =
    omega (
      arith,
      length-append (field a 32) (field b 32 ++ field c end),
      length-append (field b 32) (field c end),
      length-field a 32,
      length-field b 32,
      length-field c end,
    )

pub length-row : (line answer detail : ℕ)
    → length (row line answer detail) ≡ length (decimal line) + length (decimal answer) + length (decimal detail) + 3
unfolding row
length-row line answer detail = length_three line answer detail 10

-- a line is its three fields, one after the other
pub sets-field : (l : List ℕ) (i n end : ℕ) → sets l i (field n end) ≡ set (sets l i (decimal n)) (i + length (decimal n)) end
unfolding field
sets-field l i n end = sets-snoc l i (decimal n) end

-- that of one digit is two stores
pub sets-digit : (l : List ℕ) (i n end : ℕ) → n < 10 → set (set l i (digit_byte n)) (i + 1) end ≡ sets l i (field n end)
unfolding field
sets-digit l i n end h = sym (ap (λ (ds : List ℕ). sets l i (ds ++ (end ∷ []))) (decimal-one n h) ∙ sets-snoc l i (digit_byte n ∷ []) end)

pub sets-three : (l : List ℕ) (i a b c end : ℕ)
    → sets l i (three a b c end)
    ≡ sets (sets (sets l i (field a 32)) (i + length (decimal a) + 1) (field b 32))
    (i + length (decimal a) + 1 + length (decimal b) + 1) (field c end)
unfolding three
sets-three l i a b c end =
    let one : (k n z : ℕ) → k + length (field n z) ≡ k + length (decimal n) + 1 = λ k n z. omega (arith, length-field n z) in
    sets-append l i (field a 32) (field b 32 ++ field c end)
    ∙ sets-append (sets l i (field a 32)) (i + length (field a 32)) (field b 32) (field c end)
    ∙ rw (one i a 32, one (i + length (decimal a) + 1) b 32)

-- ── A line of six values ──

pub six-fields : (a b c d e f : ℕ) → values_text a (b ∷ c ∷ d ∷ e ∷ f ∷ []) ≡ three a b c 32 ++ three d e f 10
unfolding values_text three
six-fields a b c d e f =
    let rest = field d 32 ++ (field e 32 ++ field f 10) in
    sym (append_assoc (field a 32) (field b 32 ++ field c 32) rest
    ∙ ap (λ (l : List ℕ). field a 32 ++ l) (append_assoc (field b 32) (field c 32) rest))

-- of a list of six
pub six-threes : (v : List ℕ) → length v ≡ 6
    → values_line v ≡ three (get_or v 0 0) (get_or v 1 0) (get_or v 2 0) 32 ++ three (get_or v 3 0) (get_or v 4 0) (get_or v 5 0) 10
six-threes [] h = absurd (omega arith)
six-threes (a ∷ []) h = absurd (omega arith)
six-threes (a ∷ b ∷ []) h = absurd (omega arith)
six-threes (a ∷ b ∷ c ∷ []) h = absurd (omega arith)
six-threes (a ∷ b ∷ c ∷ d ∷ []) h = absurd (omega arith)
six-threes (a ∷ b ∷ c ∷ d ∷ e ∷ []) h = absurd (omega arith)
six-threes (a ∷ b ∷ c ∷ d ∷ e ∷ f ∷ []) h = six-fields a b c d e f
six-threes (a ∷ b ∷ c ∷ d ∷ e ∷ f ∷ g ∷ v) h = absurd (omega arith)

-- a line with a number before it
pub length-numbered : (number kind a b : ℕ) → length (numbered_row_lem number kind a b) ≡ length (field number 32) + length (row kind a b)
unfolding numbered_row_lem
length-numbered number kind a b = length-append (field number 32) (row kind a b)

pub sets-numbered : (l : List ℕ) (i number kind a b : ℕ)
    → sets l i (numbered_row_lem number kind a b) ≡ sets (sets l i (field number 32)) (i + length (decimal number) + 1) (row kind a b)
unfolding numbered_row_lem
sets-numbered l i number kind a b =
    let one : i + length (field number 32) ≡ i + length (decimal number) + 1 = omega (arith, length-field number 32) in
    sets-append l i (field number 32) (row kind a b) ∙ rw one

-- a line of two numbers
pub length-mark : (policy action : ℕ) → length (mark_row_lem policy action) ≡ length (decimal policy) + length (decimal action) + 2
unfolding mark_row_lem
length-mark policy action =
    omega (arith, length-append (field policy 32) (field action 10), length-field policy 32, length-field action 10)

pub sets-mark : (l : List ℕ) (i policy action : ℕ)
    → sets l i (mark_row_lem policy action) ≡ sets (sets l i (field policy 32)) (i + length (decimal policy) + 1) (field action 10)
unfolding mark_row_lem
sets-mark l i policy action =
    let one : i + length (field policy 32) ≡ i + length (decimal policy) + 1 = omega (arith, length-field policy 32) in
    sets-append l i (field policy 32) (field action 10) ∙ rw one
