-- The laws of the two loops over lines and bytes: what holds at the start of a line and within a line, and what each way of the
-- code makes of it.
use Prim.Native.Nat.{ℕ, suc, ◌+◌, ◌-◌, ◌*◌, ◌<◌, ◌≤◌}
use mathlib.Core.Path.{◌≡◌, refl, sym, ap, ◌∙◌}
use mathlib.Core.Bool.{Bool, true, false}
use mathlib.Core.List.{List, [], ◌∷◌, ◌++◌, flatten, append-nil, append_assoc}
use native.Mathlib.Omega.{arith}
use native.Mathlib.Nat.{add-zero, add-suc, suc-add, suc-mul, zero-mul, sub-zero}
use native.Mathlib.Numerals.{add-one}
use lib.Dec.{eqb}
use lib.ListN.{length, take, drop, set, get_or, length-take, length-drop, length-set, drop_of_length-le}
use lib.Seq.{take-set-le, drop-set-add, drop-set-lt, drop-drop, take-suc-set, take-take, take-add}
use borrow.Author.Tests.{eq-eqb}
use Rattle.std.specs.Prelude.{Result as Returned}
use Rattle.usage.specs.Limits.{most_steps}
use Rattle.usage.specs.declared.Reason.{Reason}
use Rattle.usage.specs.Reasons.{number_of}
use Rattle.usage.proofs.Logic.{clash}
use Rattle.sheet_bytes.specs.declared.Part.{Part}
use Rattle.sheet_bytes.specs.declared.Next.TheVariants.{Goes, Ends, Malformed}
use Rattle.sheet_fields.specs.declared.Kind.{Kind}
use Rattle.sheet_fields.specs.declared.Kind.TheVariants.{Policies, Trace, Outline}
use Rattle.sheet_fields.specs.Fields.{line_fits_lem}
use Rattle.sheet_bytes.specs.Class.{class_of}
use Rattle.sheet_bytes.specs.Line.{Line, lines_of, cut, read}
use Rattle.sheet_bytes.specs.Fault.{has_other, has_overlong, LineRead, has_values, has_fault}
use Rattle.sheet_bytes.proofs.MoreLaws.{last-run}
use Rattle.sheet_lines.specs.Answer.{most_values}
use Rattle.sheet_lines.specs.Sheet.{Sheet, after_line, Result, accepted, refused, refuse_at, followed, entry, value_lines}
use Rattle.sheet_bytes.specs.Code.{end_step, byte_step}
use Rattle.sheet_lines.specs.Sheets.{sheet_of}
use Rattle.sheet_lines.specs.Code.{empty_part, answer_after_lem, Held, held, refusing, held_by, rest_after, held_onto}
use Rattle.sheet_lines.proofs.LargeLaws.{Bounded}
use Rattle.sheet_lines.proofs.ScanLaws.{in-line, starts, cut_off, ends, more}
use Rattle.sheet_lines.proofs.StepLaws.{Sound, Said, all-well, moved, says, read-end, said-end, ends-well, ends-malformed}
use Rattle.sheet_lines.proofs.StepLaws.{goes_on, at-feed}

-- the values of every line that is allowed have a place in the buffer
pub places : (k : Kind) (n : ℕ) → n < (sheet_of k).most → n * (sheet_of k).fields + (sheet_of k).fields ≤ most_values
places (Policies local) n h = omega arith
places Trace n h = omega arith
places Outline n h = omega arith

pub few-lines : (k : Kind) → (sheet_of k).most ≤ most_steps
few-lines (Policies local) = omega arith
few-lines Trace = omega arith
few-lines Outline = omega arith

abbrev pub whole : Sheet → List ℕ → Held
whole s rest = held_onto 0 [] (value_lines s 2 s.most (lines_of rest))

-- two lists that are the same from m on are the same from any later place on
drop-later : {A : Type 0} (m k : ℕ) (l r : List A) → m ≤ k → drop m l ≡ drop m r → drop k l ≡ drop k r
drop-later m k l r h e =
    let d : m + (k - m) ≡ k = omega arith in
    sym (drop-drop (k - m) m l ∙ ap (λ j. drop j l) d) ∙ ap (drop (k - m)) e ∙ (drop-drop (k - m) m r ∙ ap (λ j. drop j r) d)

-- At the start of value line n, at i in the text: the answer to what is left, after the lines before, is the answer to the whole.
-- In the buffer, the places after the values are as they were when it was lent.
pub record AtLine (s : Sheet) (text : List ℕ) (goal : Held) (lent buffer : List ℕ) (i n : ℕ) : Type 0 where
  pub few : n ≤ s.most
  pub size : length buffer ≡ most_values
  pub begun : i ≤ length text
  pub rest : drop (n * s.fields) buffer ≡ drop (n * s.fields) lent
  pub same : held_onto n (take (n * s.fields) buffer) (value_lines s (n + 2) (s.most - n) (lines_of (drop i text))) ≡ goal

-- the values before in line n
abbrev pub before : Sheet → List ℕ → ℕ → Part → List ℕ
before s buffer n p = take p.count (drop (n * s.fields) buffer)

-- Within value line n, at i in the text, after the bytes `done` of the line; `first` is the buffer at the start of the line.
pub record InLine (s : Sheet) (text : List ℕ) (goal : Held) (first buffer : List ℕ) (i n : ℕ) (p : Part) : Type 0 where
  pub room : n < s.most
  pub size : length buffer ≡ most_values
  pub begun : i ≤ length text
  pub sound : Sound s.fields p
  pub rest : drop (n * s.fields + p.count + 1) buffer ≡ drop (n * s.fields + p.count + 1) first
  pub done : List ℕ
  pub said : Said s.fields done (before s buffer n p) p
  pub same : held_onto n (take (n * s.fields) buffer) (in-line s (n + 2) (s.most - (n + 1)) done (drop i text)) ≡ goal

pub begin : (s : Sheet) (text : List ℕ) (from : ℕ) (buffer : List ℕ) → length buffer ≡ most_values → from ≤ length text
    → AtLine s text (whole s (drop from text)) buffer buffer from 0
begin s text from buffer l h =
    record { few = omega arith; size = l; begun = h; rest = refl; same = rw (zero-mul s.fields, sub-zero s.most) refl }

-- a line is not empty where a byte is left
first-line : (s : Sheet) (line : ℕ) (bs : List ℕ) → 0 < length bs → value_lines s line 0 (lines_of bs) ≡ refuse_at line 4
unfolding lines_of value_lines
first-line s line [] h = absurd (omega arith)
first-line s line (b ∷ bs) h = go (eqb (class_of b) 2) (lines_of bs)
  where
    go : (x : Bool) (ls : List Line) → value_lines s line 0 (cut x b ls) ≡ refuse_at line 4
    go true ls = refl
    go false [] = refl
    go false (l ∷ ls) = refl

module _ (s : Sheet) (text : List ℕ) (goal : Held) (lent buffer : List ℕ) (i n : ℕ) (inv : AtLine s text goal lent buffer i n) where
  -- the text has ended
  pub line-end : length text ≤ i → held n (take (n * s.fields) buffer) ≡ goal
  unfolding value_lines lines_of flatten
  line-end h = sym (rw (drop_of_length-le text h) (rw (add-zero n, append-nil (take (n * s.fields) buffer)) refl)) ∙ inv.same

  -- "4 more value lines than allowed"
  pub too_many : i < length text → n ≡ s.most → refusing (n + 2) 4 ≡ goal
  too_many h e =
      let z : s.most - n ≡ 0 = omega arith in
      let l : 0 < length (drop i text) = omega (arith, length-drop i text) in
      ap (held_onto n (take (n * s.fields) buffer))
      (sym (ap (λ m. value_lines s (n + 2) m (lines_of (drop i text))) z ∙ first-line s (n + 2) (drop i text) l)) ∙ inv.same

  pub enter : 0 < s.fields → i < length text → n < s.most → InLine s text goal buffer buffer i n empty_part
  unfolding has_other has_overlong last-run read
  enter f h r = record {
    room = r;
    size = inv.size;
    begun = inv.begun;
    sound = record { few = f; small = omega arith; short = omega arith; fits = omega arith };
    rest = refl;
    done = [];
    said = all-well refl record { no_other = refl; no-overlong = refl; run = refl } refl;
    same = ap (held_onto n (take (n * s.fields) buffer))
        (sym (ap (λ m. value_lines s (n + 2) m (lines_of (drop i text))) left ∙ starts s (n + 2) (s.most - (n + 1)) text i h)) ∙ inv.same;
  }
    where
      left : s.most - n ≡ suc (s.most - (n + 1))
      left = omega arith

-- every sheet has a field
pub some-field : (k : Kind) → 0 < (sheet_of k).fields
some-field (Policies local) = omega arith
some-field Trace = omega arith
some-field Outline = omega arith

-- a line of all its values is in range where it fits
pub fits-in-range : (k : Kind) (vs : List ℕ) → length vs ≡ (sheet_of k).fields → line_fits_lem k vs ≡ (sheet_of k).in_range_lem vs
fits-in-range (Policies local) vs h = simp (eq-eqb _ _ h)
fits-in-range Trace vs h = simp (eq-eqb _ _ h)
fits-in-range Outline vs h = simp (eq-eqb _ _ h)

-- one more line before the rest
onto-more : (n : ℕ) (done vs : List ℕ) (r : Result) → held_onto n done (followed vs r) ≡ held_onto (n + 1) (done ++ vs) r
unfolding flatten
onto-more n done vs (accepted rows) =
    rw (add-one n, add-suc n (length rows), suc-add n (length rows), append_assoc done vs (flatten rows)) refl
onto-more n done vs (refused r) = refl

module _ (s : Sheet) (text : List ℕ) (goal : Held) (first buffer : List ℕ) (i n : ℕ) (p : Part)
    (inv : InLine s text goal first buffer i n p) (fits : n * s.fields + s.fields ≤ most_values) where
  -- the buffer with the value so far in its place
  abbrev pub written : List ℕ
  written = set buffer (n * s.fields + p.count) p.value

  len : length (before s buffer n p) ≡ p.count
  len =
      let h = inv.sound.few in let l = inv.size in
      omega (arith, length-take p.count (drop (n * s.fields) buffer), length-drop (n * s.fields) buffer)

  done-same : take (n * s.fields) written ≡ take (n * s.fields) buffer
  done-same = take-set-le (n * s.fields) buffer (n * s.fields + p.count) p.value (omega arith)

  cells : take (p.count + 1) (drop (n * s.fields) written) ≡ before s buffer n p ++ (p.value ∷ [])
  cells =
      let h = inv.sound.few in
      let k = inv.size in
      let l : p.count < length (drop (n * s.fields) buffer) = omega (arith, length-drop (n * s.fields) buffer) in
      rw (add-one p.count, drop-set-add (n * s.fields) buffer p.count p.value)
      (take-suc-set (drop (n * s.fields) buffer) p.count p.value l)

  rest-same : drop (n * s.fields + p.count + 1) written ≡ drop (n * s.fields + p.count + 1) first
  rest-same = drop-set-lt (n * s.fields + p.count + 1) buffer (n * s.fields + p.count) p.value (omega arith) ∙ inv.rest

  -- "13 last line feed missing"
  pub unended : length text ≤ i → refusing (n + 2) 13 ≡ goal
  unended h = sym (ap (held_onto n (take (n * s.fields) buffer)) (cut_off s (n + 2) (s.most - (n + 1)) text i inv.done h)) ∙ inv.same

  module _ (h : i < length text) where
    -- a byte other than a line feed
    pub goes : (q : Part) → byte_step s.fields p (get_or text i 0) ≡ Goes q → InLine s text goal first written (i + 1) n q
    goes q g =
        let b = get_or text i 0 in
        let t = goes_on s.fields p b q g in
        let m = moved s.fields p inv.sound b in
        let v = says s.fields inv.done (before s buffer n p) p b len inv.sound t.0 inv.said in
        goes_to q t.0 (rw t.1 at m.0) (rw t.1 at m.1) (rw t.1 at v)
      where
        goes_to : (q : Part) → (class_of (get_or text i 0) ≡ 2 → ⊥) → Sound s.fields q → (q.count ≤ p.count + 1) × (p.count ≤ q.count)
            → Said s.fields (inv.done ++ (get_or text i 0 ∷ [])) (take q.count (before s buffer n p ++ (p.value ∷ []))) q
            → InLine s text goal first written (i + 1) n q
        goes_to q e o near v =
            let k : take q.count (before s buffer n p ++ (p.value ∷ [])) ≡ before s written n q = ap (take q.count) (sym cells)
            ∙ take-take q.count (p.count + 1) (drop (n * s.fields) written) near.0 in
            record {
              room = inv.room;
              size = length-set buffer (n * s.fields + p.count) p.value ∙ inv.size;
              begun = omega arith;
              sound = o;
              rest = drop-later (n * s.fields + p.count + 1) (n * s.fields + q.count + 1) written first
                  (omega (arith, near.1)) rest-same;
              done = inv.done ++ (get_or text i 0 ∷ []);
              said = rw k at v;
              same = rw done-same
                  (ap (held_onto n (take (n * s.fields) buffer)) (sym (more s (n + 2) (s.most - (n + 1)) text i inv.done h e))
                  ∙ inv.same);
            }

    -- the line feed
    closed : Bounded s → (r : LineRead) → class_of (get_or text i 0) ≡ 2 → read-end s.fields (before s buffer n p) p ≡ r
        → held_onto n (take (n * s.fields) written)
        (entry s (n + 2) r (λ t. value_lines t (suc (n + 2)) (s.most - (n + 1)) (lines_of (drop (i + 1) text)))) ≡ goal
    closed far r e q =
        let rest : Sheet → Result = λ t. value_lines t (suc (n + 2)) (s.most - (n + 1)) (lines_of (drop (i + 1) text)) in
        rw (done-same, ← q, ← (said-end s (before s buffer n p) p far (n + 2) rest inv.done len inv.said))
        (ap (held_onto n (take (n * s.fields) buffer)) (sym (ends s (n + 2) (s.most - (n + 1)) text i inv.done h e)) ∙ inv.same)

    module _ (far : Bounded s) (q : byte_step s.fields p (get_or text i 0) ≡ Ends) where
      feed : (class_of (get_or text i 0) ≡ 2) × (end_step s.fields p ≡ Ends)
      feed = at-feed s.fields p (get_or text i 0) Ends q (λ q e. clash (cc))

      all_read : p.count + 1 ≡ s.fields
      all_read = (ends-well s.fields (before s buffer n p) p feed.1).1

      ended : held_onto n (take (n * s.fields) written) (entry s (n + 2) (has_values (take s.fields (drop (n * s.fields) written)))
          (λ t. value_lines t (suc (n + 2)) (s.most - (n + 1)) (lines_of (drop (i + 1) text)))) ≡ goal
      ended =
          closed far (has_values (take s.fields (drop (n * s.fields) written))) feed.0
          ((ends-well s.fields (before s buffer n p) p feed.1).0
          ∙ ap has_values (sym cells ∙ ap (λ m. take m (drop (n * s.fields) written)) all_read))

      -- the values of the line
      abbrev pub line-values : List ℕ
      line-values = take s.fields (drop (n * s.fields) written)

      -- "3 a value outside its field's range"
      pub outside : s.in_range_lem line-values ≡ false → refusing (n + 2) 3 ≡ goal
      outside r = rw r at ended

      -- "14 an edge with on 3 that makes a third pair policy, at that line after 3"
      pub crowded : s.in_range_lem line-values ≡ true → s.together (line-values ∷ []) ≡ false → refusing (n + 2) 14 ≡ goal
      crowded r t = rw (r, t) at ended

      pub next-line : s.in_range_lem line-values ≡ true → s.together (line-values ∷ []) ≡ true → (lent : List ℕ)
          → drop (n * s.fields) first ≡ drop (n * s.fields) lent
          → AtLine (after_line s line-values) text goal lent written (i + 1) (n + 1)
      next-line r t lent z = record {
        few = let r = inv.room in omega arith;
        size = length-set buffer (n * s.fields + p.count) p.value ∙ inv.size;
        begun = omega arith;
        rest = drop-later (n * s.fields + p.count + 1) ((n + 1) * s.fields) written first (omega (arith, longer, all_read)) rest-same
            ∙ drop-later (n * s.fields) ((n + 1) * s.fields) first lent (omega (arith, longer)) z;
        same = rw (longer, take-add (n * s.fields) s.fields written, line)
            (sym (onto-more n (take (n * s.fields) written) line-values
            (value_lines (after_line s line-values) (suc (n + 2)) (s.most - (n + 1)) (lines_of (drop (i + 1) text)))) ∙ rw (r, t) at ended);
      }
        where
          longer : (n + 1) * s.fields ≡ n * s.fields + s.fields
          longer = rw (add-one n) (suc-mul n s.fields)

          line : n + 1 + 2 ≡ suc (n + 2)
          line = omega arith

-- what the loops leave: the answer, and the places after the values as they were
pub record Answers (s : Sheet) (text : List ℕ) (goal : Held) (lent buffer : List ℕ) (n : ℕ) (read : Returned ℕ Reason) : Type 0 where
  pub gives : held_by s.fields (answer_after_lem n read) buffer ≡ goal
  pub after : rest_after s.fields (answer_after_lem n read) buffer ≡ rest_after s.fields (answer_after_lem n read) lent

-- "11 byte that is no digit, space or line feed", 12, 2, and 3 where no field has such a value
pub malformed : (s : Sheet) (text : List ℕ) (goal : Held) (first buffer : List ℕ) (i n : ℕ) (p : Part)
    → InLine s text goal first buffer i n p → n * s.fields + s.fields ≤ most_values → i < length text → Bounded s
    → (reason : Reason) → byte_step s.fields p (get_or text i 0) ≡ Malformed reason → refusing (n + 2) (number_of reason) ≡ goal
malformed s text goal first buffer i n p inv fits h far reason q =
    let f = at-feed s.fields p (get_or text i 0) (Malformed reason) q (λ q e. clash (cc)) in
    closed s text goal first buffer i n p inv fits h far (has_fault (number_of reason)) f.0
    (ends-malformed s.fields (before s buffer n p) p reason f.1)
