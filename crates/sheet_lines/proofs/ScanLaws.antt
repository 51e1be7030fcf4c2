-- Reading a text of value lines from the left, byte by byte, is reading it line by line.
use Prim.Native.Nat.{ℕ, suc, ◌+◌, ◌<◌, ◌≤◌}
use mathlib.Core.Path.{◌≡◌, refl, sym, ap, ◌∙◌}
use mathlib.Core.Bool.{Bool, true, false, cond}
use mathlib.Core.List.{List, [], ◌∷◌, ◌++◌, append-nil}
use native.Mathlib.Numerals.{add-one}
use lib.Dec.{eqb}
use lib.ListN.{length, drop, get_or, drop_of_length-le}
use lib.Seq.{drop-cons, append_snoc}
use borrow.Author.Tests.{eq-eqb, ne_eqb}
use Rattle.sheet_bytes.specs.Class.{class_of}
use Rattle.sheet_bytes.specs.Line.{Line, lines_of, cut}
use Rattle.sheet_bytes.specs.Fault.{read_line}
use Rattle.sheet_lines.specs.Sheet.{Sheet, Result, refuse_at, entry, value_lines}

-- a line of these bytes that has its line feed
abbrev pub fed : List ℕ → Line
fed bs = record { bytes = bs; ended = true }

-- the value lines of a text, from within line `line` on, with the bytes of that line so far
unfoldable pub in-line : Sheet → ℕ → ℕ → List ℕ → List ℕ → Result
in-line s line left done [] = refuse_at line 13
in-line s line left done (b ∷ bs) = cond (eqb (class_of b) 2)
    (entry s line (read_line s.fields (fed done)) (λ t. value_lines t (suc line) left (lines_of bs)))
    (in-line s line left (done ++ (b ∷ [])) bs)

module _ (s : Sheet) (line left : ℕ) where
  -- the same after the text is split into lines
  abbrev goes_on : List ℕ → List Line → Result
  goes_on done [] = refuse_at line 13
  goes_on done (l ∷ ls) =
      entry s line (read_line s.fields record { bytes = done ++ l.bytes; ended = l.ended }) (λ t. value_lines t (suc line) left ls)

  split : (bs done : List ℕ) → in-line s line left done bs ≡ goes_on done (lines_of bs)
  unfolding in-line lines_of read_line
  split [] done = refl
  split (b ∷ bs) done = go (eqb (class_of b) 2) (lines_of bs) (split bs (done ++ (b ∷ [])))
    where
      go : (x : Bool) (ls : List Line) → in-line s line left (done ++ (b ∷ [])) bs ≡ goes_on (done ++ (b ∷ [])) ls
          → cond x (entry s line (read_line s.fields (fed done)) (λ t. value_lines t (suc line) left ls))
          (in-line s line left (done ++ (b ∷ [])) bs)
          ≡ goes_on done (cut x b ls)
      go true ls ih =
          ap (λ (bs : List ℕ). entry s line (read_line s.fields (fed bs)) (λ t. value_lines t (suc line) left ls)) (sym (append-nil done))
      go false [] ih = ih
      go false (l ∷ ls) ih =
          ih ∙ ap (λ (bs : List ℕ). entry s line (read_line s.fields record { bytes = bs; ended = l.ended })
          (λ t. value_lines t (suc line) left ls))
          (append_snoc done b l.bytes)

  first : (b : ℕ) (bs : List ℕ) → value_lines s line (suc left) (lines_of (b ∷ bs)) ≡ goes_on [] (lines_of (b ∷ bs))
  unfolding lines_of value_lines
  first b bs = go (eqb (class_of b) 2) (lines_of bs)
    where
      go : (x : Bool) (ls : List Line) → value_lines s line (suc left) (cut x b ls) ≡ goes_on [] (cut x b ls)
      go true ls = refl
      go false [] = refl
      go false (l ∷ ls) = refl

  -- one law for each way of the code, at what is left of a text from i on
  module _ (text : List ℕ) (i : ℕ) where
    pub starts : i < length text → value_lines s line (suc left) (lines_of (drop i text)) ≡ in-line s line left [] (drop i text)
    starts h =
        rw (drop-cons text i 0 h) (first (get_or text i 0) (drop (suc i) text) ∙ sym (split (get_or text i 0 ∷ drop (suc i) text) []))

    pub cut_off : (done : List ℕ) → length text ≤ i → in-line s line left done (drop i text) ≡ refuse_at line 13
    unfolding in-line
    cut_off done h = rw (drop_of_length-le text h)

    pub ends : (done : List ℕ) → i < length text → class_of (get_or text i 0) ≡ 2
        → in-line s line left done (drop i text) ≡ entry s line (read_line s.fields (fed done))
        (λ t. value_lines t (suc line) left (lines_of (drop (i + 1) text)))
    unfolding in-line
    ends done h e = rw (drop-cons text i 0 h, add-one i) (simp (eq-eqb _ _ e))

    pub more : (done : List ℕ) → i < length text → (class_of (get_or text i 0) ≡ 2 → ⊥)
        → in-line s line left done (drop i text) ≡ in-line s line left (done ++ (get_or text i 0 ∷ [])) (drop (i + 1) text)
    unfolding in-line
    more done h e = rw (drop-cons text i 0 h, add-one i) (simp (ne_eqb _ _ e))
