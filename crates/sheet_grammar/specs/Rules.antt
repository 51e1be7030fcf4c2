-- The reader as rules: what may be answered at a place of a text, with so much nesting left, one rule for each way to an answer. proofs/
-- has that the rules allow exactly what `read_by` answers.
use Rattle.std.specs.Prelude.{ℕ, zero, suc, ◌≡◌, true, false, List}
use Rattle.std.proofs.Math.ListN.{get_elem?}
use Rattle.sheet_grammar.specs.Tree.{Tree}
use Rattle.sheet_grammar.specs.Grammar.{Bracket, closer, bracketed, Sign, sign_byte, joined_by, many, item, choice_phrase, each}
use Rattle.sheet_grammar.specs.Outcome.{Out, ok, bad}
use Rattle.sheet_grammar.specs.Reader.{byte_is, head_at, Head, Task, read, more}

pub data Reads (s : List ℕ) : Task → ℕ → ℕ → Out → Type 0 where
  -- a choice or a sequence: its first part, and then what the sign joins to it
  first_bad : {l : Sign} {at n c i : ℕ} → Reads s (read (each l)) at n (bad c i) → Reads s (read (many l)) at n (bad c i)
  first : {l : Sign} {at n e : ℕ} {t : Tree} {out : Out} → Reads s (read (each l)) at n (ok t e) → Reads s (more l t) e n out
      → Reads s (read (many l)) at n out
  done : {l : Sign} {at n : ℕ} {t : Tree} → byte_is (get_elem? s at) (sign_byte l) ≡ false → Reads s (more l t) at n (ok t at)
  next_bad : {l : Sign} {at n c i : ℕ} {t : Tree} → byte_is (get_elem? s at) (sign_byte l) ≡ true
      → Reads s (read (each l)) (suc at) n (bad c i) → Reads s (more l t) at n (bad c i)
  next : {l : Sign} {at n e : ℕ} {t u : Tree} {out : Out} → byte_is (get_elem? s at) (sign_byte l) ≡ true
      → Reads s (read (each l)) (suc at) n (ok u e) → Reads s (more l (joined_by l t u)) e n out → Reads s (more l t) at n out
  -- an item
  wrong : {at n i : ℕ} → head_at s at ≡ Head.wrong i → Reads s (read item) at n (bad 15 i)
  atom : {at n e : ℕ} {t : Tree} → head_at s at ≡ Head.atom t e → Reads s (read item) at n (ok t e)
  deep : {at i : ℕ} {b : Bracket} → head_at s at ≡ Head.opens b i → Reads s (read item) at zero (bad 16 i)
  inner_bad : {at n i c j : ℕ} {b : Bracket} → head_at s at ≡ Head.opens b i → Reads s (read choice_phrase) (suc i) n (bad c j)
      → Reads s (read item) at (suc n) (bad c j)
  unclosed : {at n i e : ℕ} {b : Bracket} {t : Tree} → head_at s at ≡ Head.opens b i → Reads s (read choice_phrase) (suc i) n (ok t e)
      → byte_is (get_elem? s e) (closer b) ≡ false → Reads s (read item) at (suc n) (bad 15 e)
  bracket : {at n i e : ℕ} {b : Bracket} {t : Tree} → head_at s at ≡ Head.opens b i → Reads s (read choice_phrase) (suc i) n (ok t e)
      → byte_is (get_elem? s e) (closer b) ≡ true → Reads s (read item) at (suc n) (ok (bracketed b t) (suc e))
