-- Up to the place at which the reader refuses, the text begins a line of the grammar.
use Prim.Native.Nat.{ℕ, suc, ◌≤◌, max}
use mathlib.Core.Path.{◌≡◌, refl, subst}
use mathlib.Core.List.{List, [], ◌∷◌, ◌++◌, append_assoc}
use native.Mathlib.Omega.{arith}
use lib.ListN.{length}
use lib.Seq.{append_snoc}
use Rattle.sheet_grammar.specs.Tree.{Tree}
use Rattle.sheet_grammar.specs.Grammar.{
  Atom,
  Bracket,
  closer,
  Opener,
  Sign,
  sign_byte,
  joined_by,
  Phrase,
  many,
  item,
  choice_phrase,
  each,
  Spells,
  ExpressionLine,
}
use Rattle.sheet_grammar.specs.Places.{Could}
use Rattle.sheet_grammar.specs.Outcome.{Out, ok, bad}
use Rattle.sheet_grammar.specs.Reader.{Task, read, more}
use Rattle.sheet_grammar.specs.Rules.{Reads}
use Rattle.sheet_grammar.proofs.SliceLaws.{Slice, cons, slice-append, slice-byte, slice_front, slice-length, both-like}
use Rattle.sheet_grammar.proofs.ByteLaws.{is_true}
use Rattle.sheet_grammar.proofs.RuleLaws.{says_of}
use Rattle.sheet_grammar.proofs.SoundLaws.{sound}
use Rattle.sheet_grammar.proofs.PlaceLaws.{weaken, like-le}

-- some line of the grammar begins with these bytes
pub record Viable (z : List ℕ) : Type 0 where
  pub rest : List ℕ
  pub deep : ℕ
  pub tree : Tree
  pub is_line : ExpressionLine deep (z ++ rest) tree

pub viable-front : (x w : List ℕ) → Viable (x ++ w) → Viable x
viable-front x w v = record { rest = w ++ v.rest; deep = v.deep; tree = v.tree; is_line = rw append_assoc at v.is_line }

-- a text that has them could be one so far
pub could : {s z : List ℕ} {i : ℕ} → Slice s 0 z i → Viable z → Could s i
could {s} {z} {i} p v =
    let e : length z ≡ i = omega (arith, slice-length p) in
    record {
      deep = v.deep;
      line = z ++ v.rest;
      tree = v.tree;
      is_line = v.is_line;
      like = both-like
          (subst (λ (j : ℕ). Slice (z ++ v.rest) 0 z j) e (slice_front z v.rest)) p;
    }

pub could-less : {s : List ℕ} {i : ℕ} (j : ℕ) → j ≤ i → Could s i → Could s j
could-less {s} {i} j l c =
    record { deep = c.deep; line = c.line; tree = c.tree; is_line = c.is_line; like = like-le c.line s i j c.like l }

-- after these bytes a part may stand
abbrev pub Room : Phrase → List ℕ → Type 0
Room p x = (w : List ℕ) (n : ℕ) (t : Tree) → Spells p n w t → Viable (x ++ w)

-- and after these, more of what a sign joins to t
pub record Going (l : Sign) (t : Tree) (x : List ℕ) : Type 0 where
  pub front : List ℕ
  pub word : List ℕ
  pub deep : ℕ
  pub both : x ≡ front ++ word
  pub spells : Spells (many l) deep word t
  pub room : Room (many l) front

abbrev pub Place : Task → List ℕ → Type 0
Place (read p) x = Room p x
Place (more l t) x = Going l t x

room-each : (l : Sign) (x : List ℕ) → Room (many l) x → Room (each l) x
room-each l x f w n t p = f w n t (Spells.alone p)

-- what the sign joins makes a longer one
longer : {l : Sign} {m n : ℕ} {v w : List ℕ} {t u : Tree} → Spells (many l) m v t → Spells (each l) n w u
    → Spells (many l) (max m n) (v ++ (sign_byte l ∷ w)) (joined_by l t u)
longer {m} {n} p q = Spells.join (weaken p (max m n) (omega arith)) (weaken q (max m n) (omega arith))

room_next : {l : Sign} {t : Tree} {x : List ℕ} → Going l t x → Room (each l) (x ++ (sign_byte l ∷ []))
room_next {l} {t} {x} g w n u p =
    let v : Viable (g.front ++ (g.word ++ (sign_byte l ∷ w))) = g.room _ _ _ (longer g.spells p) in
    rw (append_snoc x (sign_byte l) w, g.both, append_assoc g.front g.word (sign_byte l ∷ w)) v

going_on : {l : Sign} {t u : Tree} {x w : List ℕ} {n : ℕ} → Going l t x → Spells (each l) n w u
    → Going l (joined_by l t u) (x ++ (sign_byte l ∷ w))
going_on {l} {w} g p =
    record {
      front = g.front;
      word = g.word ++ (sign_byte l ∷ w);
      deep = _;
      both = rw g.both
          (append_assoc g.front g.word (sign_byte l ∷ w));
      spells = longer g.spells p;
      room = g.room;
    }

room-inner : (x : List ℕ) {v : List ℕ} {b : Bracket} → Room item x → Opener v b → Room choice_phrase (x ++ v)
room-inner x {v} {b} f o w n t p =
    let h : Viable (x ++ (v ++ (w ++ (closer b ∷ [])))) = f _ _ _ (Spells.bracket o p) in
    viable-front ((x ++ v) ++ w) (closer b ∷ []) (rw (append_assoc (x ++ v) w (closer b ∷ []), append_assoc x v (w ++ (closer b ∷ []))) h)

-- where it is refused
pub record Fails (s : List ℕ) (c i : ℕ) : Type 0 where
  pub before : Could s i
  pub deep : c ≡ 16 → Could s (suc i)

pub fails : {s z : List ℕ} {i : ℕ} → Slice s 0 z i → Viable z → Fails s 15 i
fails p v = record { before = could p v; deep = λ e. absurd (let z : ⊥ = omega arith in z) }

abbrev Refused : List ℕ → Out → Type 0
Refused s (ok t e) = Unit {0}
Refused s (bad c i) = Fails s c i

deep-fails : {s : List ℕ} (x : List ℕ) {v : List ℕ} {i : ℕ} {b : Bracket} → Slice s 0 (x ++ v) (suc i) → Room item x → Opener v b
    → Fails s 16 i
deep-fails {s} x {v} {i} p f o =
    let c : Could s (suc i) = could p (viable-front (x ++ v) _ (room-inner x f o (48 ∷ []) 0 Tree.end
    (Spells.alone (Spells.alone (Spells.atom Atom.end))))) in
    record { before = could-less i (omega arith) c; deep = λ e. c }

pub refused : {s : List ℕ} {k : Task} {at n : ℕ} {out : Out} → Reads s k at n out → (x : List ℕ) → Slice s 0 x at → Place k x
    → Refused s out
refused (Reads.first_bad {l} p) x q f = refused p x q (room-each l x f)
refused {s} (Reads.first {l} p p') x q f =
    let m = sound p in
    refused p' (x ++ m.word) (slice-append q m.slice) (record {
      front = x;
      word = m.word;
      deep = _;
      both = refl;
      spells =
          Spells.alone m.spells;
      room = f;
    })
refused (Reads.done y) x q f = tt
refused (Reads.next_bad y p) x q f = refused p _ (slice-byte q (is_true _ _ y)) (room_next f)
refused (Reads.next y p p') x q f =
    let m = sound p in
    refused p' _ (slice-append q (cons (is_true _ _ y) m.slice)) (going_on f m.spells)
refused {s} {at} (Reads.wrong y) x q f =
    let b = says_of s at y in
    fails (slice-append q b.slice) (viable-front (x ++ b.read) b.left (rw append_assoc (f _ _ _ b.whole)))
refused (Reads.atom y) x q f = tt
refused {s} {at} (Reads.deep y) x q f = let (w, p, o) = says_of s at y in deep-fails x (slice-append q p) f o
refused {s} {at} (Reads.inner_bad y p) x q f = let (w, r, o) = says_of s at y in refused p (x ++ w) (slice-append q r) (room-inner x f o)
refused {s} {at} (Reads.unclosed y p z) x q f =
    let (w, r, o) = says_of s at y in
    let m = sound p in
    fails (slice-append (slice-append q r) m.slice) (room-inner x f o _ _ _ m.spells)
refused (Reads.bracket y p z) x q f = tt

-- at the beginning of a line
pub begins : Room choice_phrase []
begins w n t p = record { rest = 10 ∷ []; deep = n; tree = t; is_line = record { word = w; is_choice = p; ended = refl } }
