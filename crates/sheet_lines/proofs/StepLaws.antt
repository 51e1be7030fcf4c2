-- The part that the code keeps of a line says what the definitions say of the line's bytes so far.
use Prim.Native.Nat.{ℕ, ◌+◌, ◌-◌, ◌*◌, ◌%◌, ◌^◌, ◌<◌, ◌≤◌}
use mathlib.Core.Path.{◌≡◌, refl, sym, ap, ◌∙◌}
use mathlib.Core.Bool.{Bool, true, false, cond, not, ◌&&◌}
use mathlib.Core.Option.{Option, none, some}
use mathlib.Core.List.{List, [], ◌∷◌, ◌++◌}
use native.Mathlib.Omega.{arith}
use lib.Dec.{eqb, ltb}
use lib.ListN.{length, take, length-append}
use lib.Seq.{take_at, take_all}
use borrow.Author.Tests.{eqb-true, eqb-false, ltb-true, ltb-false, lt-ltb, le-ltb}
use Rattle.sheet_bytes.specs.declared.Part.{Part}
use Rattle.sheet_bytes.specs.declared.Next.{Next}
use Rattle.sheet_bytes.specs.declared.Next.TheVariants.{Goes, Ends, Malformed}
use Rattle.sheet_bytes.specs.Class.{class_of}
use Rattle.sheet_bytes.specs.Line.{Progress, nothing, further, byte, read, complete, counted, values_of}
use Rattle.sheet_bytes.specs.Fault.{has_other, has_overlong, LineRead, has_values, has_fault, told, read_line}
use Rattle.sheet_bytes.specs.Code.{safe_digits, value_room, of_range, of_form, of_length, of_byte, fault_reason, with_fault_lem, with_digit, last_digit_lem}
use Rattle.sheet_bytes.specs.Code.{digit_step, space_step, is_complete, end_step, part_step, byte_step}
use Rattle.usage.specs.Limits.{most_digits}
use Rattle.usage.specs.declared.Reason.{Reason}
use Rattle.usage.specs.declared.Reason.TheVariants.{Form, Range}
use Rattle.usage.specs.Reasons.{number_of}
use Rattle.usage.proofs.Logic.{clash, or_right, and_right}
use Rattle.sheet_bytes.proofs.ByteLaws.{digit-byte, other-class, ten-le, safe-value, one_more}
use Rattle.sheet_bytes.proofs.MoreLaws.{last-run, run-snoc, other-snoc, overlong-snoc, read-snoc, Full, byte_full, ends-full}
use Rattle.sheet_lines.specs.Sheet.{Sheet, Result, entry}
use Rattle.sheet_lines.proofs.LargeLaws.{Large, large-new, large-grown, large-before, Bounded}
use Rattle.sheet_lines.proofs.ScanLaws.{fed}

abbrev progress : List ℕ → ℕ → ℕ → Progress
progress vs d v = record { values = vs; digits = d; value = v }

abbrev pub at : List ℕ → Part → Progress
at vs p = progress vs p.digits p.value

-- what holds of a part in a line of n fields
pub record Sound (n : ℕ) (p : Part) : Type 0 where
  pub few : p.count < n
  pub small : p.value < 10 ^ p.digits
  pub short : p.digits ≤ most_digits
  pub fits : p.value < value_room

-- ── What a part says of the bytes so far ──

-- nothing is wrong with the bytes themselves, and they end in so many digits
pub record Plain (done : List ℕ) (digits : ℕ) : Type 0 where
  pub no_other : has_other done ≡ false
  pub no-overlong : has_overlong 0 done ≡ false
  pub run : last-run 0 done ≡ digits

-- the line is well formed so far, and one of its values is large: so many stand before the last, which has so many digits
pub record Far (done : List ℕ) (count digits : ℕ) : Type 0 where
  pub values : List ℕ
  pub value : ℕ
  pub reads : read (some nothing) done ≡ some (progress values digits value)
  pub as_many : length values ≡ count
  pub has-large : Large (values ++ (value ∷ []))

-- the gravest fault of the bytes so far, with the values vs before the one that is being read where there is none
pub data Said (n : ℕ) (done vs : List ℕ) (p : Part) : Type 0 where
  a_byte : p.fault ≡ of_byte → has_other done ≡ true → Said n done vs p
  a-length : p.fault ≡ of_length → has_other done ≡ false → has_overlong 0 done ≡ true → Said n done vs p
  a-form : p.fault ≡ of_form → Plain done p.digits → Full n (read (some nothing) done) → Said n done vs p
  a-range : p.fault ≡ of_range → Plain done p.digits → Far done p.count p.digits → Said n done vs p
  all-well : p.fault ≡ 0 → Plain done p.digits → read (some nothing) done ≡ some (at vs p) → Said n done vs p

module _ (p : Part) where
  kept : (f : ℕ) → f ≤ p.fault → with_fault_lem p f ≡ p
  kept f h = rw (le-ltb p.fault f h)

  raised : (f : ℕ) → p.fault ≤ f → (with_fault_lem p f).fault ≡ f
  raised f h = go (ltb p.fault f) refl
    where
      go : (x : Bool) → ltb p.fault f ≡ x
          → (cond x record { count = p.count; digits = p.digits; value = p.value; fault = f } p).fault ≡ f
      go true e = refl
      go false e = omega (arith, ltb-false p.fault f e)

  digit-kept : (v : ℕ) → of_length ≤ p.fault → (last_digit_lem p v).fault ≡ p.fault
  digit-kept v h = go (ltb p.digits most_digits) (ltb v value_room)
    where
      go : (x y : Bool)
          → (cond x (cond y (with_digit p v) (with_fault_lem (with_digit p 0) of_range)) (with_fault_lem p of_length)).fault ≡ p.fault
      go true true = refl
      go true false = rw (le-ltb p.fault of_range (omega arith)) refl
      go false y = ap (λ (q : Part). q.fault) (kept of_length h)

  space-kept : (n : ℕ) → of_form ≤ p.fault → ((space_step n p).fault ≡ p.fault) × ((space_step n p).digits ≡ 0)
  space-kept n h = go (eqb p.digits 0) (eqb p.count 0) (ltb (p.count + 1) n) refl
    where
      go : (x y z : Bool) → eqb p.digits 0 ≡ x → ((cond x (cond y (with_fault_lem p of_form) p)
          (cond z record { count = p.count + 1; digits = 0; value = 0; fault = p.fault }
          (with_fault_lem record { count = p.count; digits = 0; value = 0; fault = p.fault } of_form))).fault ≡ p.fault)
          × ((cond x (cond y (with_fault_lem p of_form) p)
          (cond z record { count = p.count + 1; digits = 0; value = 0; fault = p.fault }
          (with_fault_lem record { count = p.count; digits = 0; value = 0; fault = p.fault } of_form))).digits ≡ 0)
      go true true z e = (
        ap (λ (q : Part). q.fault) (kept of_form h),
        ap (λ (q : Part). q.digits) (kept of_form h)
            ∙ eqb-true p.digits 0 e,
      )
      go true false z e = (refl, eqb-true p.digits 0 e)
      go false y true e = (refl, refl)
      go false y false e = rw (le-ltb p.fault of_form h) (refl, refl)

-- ── One more byte of the code ──

-- the counts and the value of the part after a step
module _ (n : ℕ) (p : Part) (ok : Sound n p) where
  abbrev pub Moved : Part → Type 0
  Moved q = Sound n q × ((q.count ≤ p.count + 1) × (p.count ≤ q.count))

  same-moved : (f : ℕ) → Moved record { count = p.count; digits = p.digits; value = p.value; fault = f }
  same-moved f = (record { few = ok.few; small = ok.small; short = ok.short; fits = ok.fits }, (omega arith, omega arith))

  empty-moved : (f : ℕ) → Moved record { count = p.count; digits = 0; value = 0; fault = f }
  empty-moved f = (record { few = ok.few; small = omega arith; short = omega arith; fits = omega arith }, (omega arith, omega arith))

  fault-moved : (f : ℕ) → Moved (with_fault_lem p f)
  fault-moved f = go (ltb p.fault f)
    where
      go : (x : Bool) → Moved (cond x record { count = p.count; digits = p.digits; value = p.value; fault = f } p)
      go true = same-moved f
      go false = same-moved p.fault

  -- the value with one more digit
  abbrev grown : ℕ → ℕ
  grown b = p.value * 10 + (b - 48)

  -- before the last digit that a value may have no test is needed, so the step is the same as with it
  digit-last : (b : ℕ) → class_of b ≡ 0 → digit_step p b ≡ last_digit_lem p (grown b)
  digit-last b k = rw whole (go (ltb p.digits safe_digits) refl)
    where
      whole : p.value % value_room ≡ p.value
      whole = let f = ok.fits in omega arith

      go : (x : Bool) → ltb p.digits safe_digits ≡ x → cond x (with_digit p (grown b)) (last_digit_lem p (grown b)) ≡ last_digit_lem p (grown b)
      go true e =
          let h = digit-byte b k in
          let d = ltb-true p.digits safe_digits e in
          let g = safe-value (p.digits + 1) (grown b) (omega arith) (one_more p.value p.digits (b - 48) ok.small (omega arith)) in
          rw (lt-ltb p.digits most_digits (omega arith), lt-ltb (grown b) value_room g) refl
      go false e = refl

  -- by what the tests of a digit and of a space tell
  abbrev digit-to : ℕ → Bool → Bool → Part
  digit-to b x y = cond x (cond y (with_digit p (grown b)) (with_fault_lem (with_digit p 0) of_range)) (with_fault_lem p of_length)

  abbrev space-to : Bool → Bool → Bool → Part
  space-to x y z =
      cond x (cond y (with_fault_lem p of_form) p) (cond z record { count = p.count + 1; digits = 0; value = 0; fault = p.fault }
      (with_fault_lem record { count = p.count; digits = 0; value = 0; fault = p.fault } of_form))

  digit-moved : (b : ℕ) → class_of b ≡ 0 → Moved (digit_step p b)
  digit-moved b k = rw (digit-last b k) (go (ltb p.digits most_digits) (ltb (grown b) value_room) refl refl)
    where
      far : (f : ℕ) → p.digits < most_digits → Moved record { count = p.count; digits = p.digits + 1; value = 0; fault = f }
      far f l =
          let t : 1 ≤ 10 ^ (p.digits + 1) = ten-le 0 (p.digits + 1) (omega arith) in
          (record { few = ok.few; small = omega arith; short = omega arith; fits = omega arith }, (omega arith, omega arith))

      out : (x : Bool) → p.digits < most_digits → Moved (cond x record {
        count = p.count;
        digits = p.digits + 1;
        value = 0;
        fault = of_range;
      } (with_digit p 0))
      out true l = far of_range l
      out false l = far p.fault l

      go : (x y : Bool) → ltb p.digits most_digits ≡ x → ltb (grown b) value_room ≡ y → Moved (digit-to b x y)
      go true true e f = let h = digit-byte b k in (
        record {
          few = ok.few;
          small = one_more p.value p.digits (b - 48) ok.small (omega arith);
          short = omega (arith, ltb-true p.digits most_digits e);
          fits = ltb-true (grown b) value_room f;
        },
        (omega arith, omega arith),
      )
      go true false e f = out (ltb p.fault of_range) (ltb-true p.digits most_digits e)
      go false y e f = fault-moved of_length

  space-moved : Moved (space_step n p)
  space-moved = go (eqb p.digits 0) (eqb p.count 0) (ltb (p.count + 1) n) refl
    where
      last : (x : Bool) → Moved (cond x record { count = p.count; digits = 0; value = 0; fault = of_form } record {
        count =
            p.count;
        digits = 0;
        value = 0;
        fault = p.fault;
      })
      last true = empty-moved of_form
      last false = empty-moved p.fault

      go : (x y z : Bool) → ltb (p.count + 1) n ≡ z → Moved (space-to x y z)
      go true true z e = fault-moved of_form
      go true false z e = same-moved p.fault
      go false y true e =
          (record { few = ltb-true (p.count + 1) n e; small = omega arith; short = omega arith; fits = omega arith }, (omega arith, omega arith))
      go false y false e = last (ltb p.fault of_form)

  pub moved : (b : ℕ) → Moved (part_step n p b)
  moved b = go (eqb (class_of b) 0) (eqb (class_of b) 1) refl
    where
      go : (x y : Bool) → eqb (class_of b) 0 ≡ x → Moved (cond x (digit_step p b) (cond y (space_step n p) (with_fault_lem p of_byte)))
      go true y e = digit-moved b (eqb-true (class_of b) 0 e)
      go false true e = space-moved
      go false false e = fault-moved of_byte

-- what the part after a step says
module _ (n : ℕ) (done vs : List ℕ) (p : Part) (b : ℕ) (len : length vs ≡ p.count) (ok : Sound n p) where
  abbrev Says : Part → Type 0
  Says q = Said n (done ++ (b ∷ [])) (take q.count (vs ++ (p.value ∷ []))) q

  same : take p.count (vs ++ (p.value ∷ [])) ≡ vs
  same = take_at vs (p.value ∷ []) p.count len

  all : take (p.count + 1) (vs ++ (p.value ∷ [])) ≡ vs ++ (p.value ∷ [])
  all = take_all (p.count + 1) (vs ++ (p.value ∷ [])) (omega (arith, length-append vs (p.value ∷ [])))

  byte-stays : has_other done ≡ true → has_other (done ++ (b ∷ [])) ≡ true
  byte-stays h = rw (other-snoc done b, h) refl

  length-stays : has_overlong 0 done ≡ true → has_overlong 0 (done ++ (b ∷ [])) ≡ true
  length-stays h = rw (overlong-snoc 0 done b, h) refl

  full-stays : Full n (read (some nothing) done) → Full n (read (some nothing) (done ++ (b ∷ [])))
  full-stays f = rw (read-snoc done b) (byte_full n (read (some nothing) done) b f)

  read_more : {q : Progress} → read (some nothing) done ≡ some q → read (some nothing) (done ++ (b ∷ [])) ≡ byte (some q) b
  read_more r = read-snoc done b ∙ ap (λ o. byte o b) r

  module _ (k : class_of b ≡ 0) where
    no-byte-0 : has_other done ≡ false → has_other (done ++ (b ∷ [])) ≡ false
    no-byte-0 h = rw (other-snoc done b, h, k) refl

    plain-digit : Plain done p.digits → ltb p.digits most_digits ≡ true → Plain (done ++ (b ∷ [])) (p.digits + 1)
    plain-digit pl l = record {
      no_other = no-byte-0 pl.no_other;
      no-overlong = rw (overlong-snoc 0 done b, pl.no-overlong, pl.run, k, l) refl;
      run = rw (run-snoc 0 done b, k, pl.run) refl;
    }

    too_long : Plain done p.digits → ltb p.digits most_digits ≡ false → p.fault ≤ of_length → Says (with_fault_lem p of_length)
    too_long pl l h =
        a-length (raised p of_length h) (no-byte-0 pl.no_other) (rw (overlong-snoc 0 done b, pl.no-overlong, pl.run, k, l) refl)

    far-digit : Far done p.count p.digits → ltb p.digits most_digits ≡ true → Far (done ++ (b ∷ [])) p.count (p.digits + 1)
    far-digit f l = record {
      values = f.values;
      value = f.value * 10 + (b - 48);
      reads = read_more f.reads ∙ rw (k, l) refl;
      as_many = f.as_many;
      has-large = large-grown f.values f.value (f.value * 10 + (b - 48)) (omega arith) f.has-large;
    }

    of-last : Said n done vs p → Says (last_digit_lem p (grown n p ok b))
    of-last (a_byte e h) = a_byte (digit-kept p (grown n p ok b) (omega arith) ∙ e) (byte-stays h)
    of-last (a-length e h l) = a-length (digit-kept p (grown n p ok b) (omega arith) ∙ e) (no-byte-0 h) (length-stays l)
    of-last (a-form e pl f) = go (ltb p.digits most_digits) (ltb (grown n p ok b) value_room) refl
      where
        go : (x y : Bool) → ltb p.digits most_digits ≡ x → Says (digit-to n p ok b x y)
        go true true l = a-form e (plain-digit pl l) (full-stays f)
        go true false l = rw (le-ltb p.fault of_range (omega arith)) (a-form e (plain-digit pl l) (full-stays f))
        go false y l = too_long pl l (omega arith)
    of-last (a-range e pl f) = go (ltb p.digits most_digits) (ltb (grown n p ok b) value_room) refl
      where
        go : (x y : Bool) → ltb p.digits most_digits ≡ x → Says (digit-to n p ok b x y)
        go true true l = a-range e (plain-digit pl l) (far-digit f l)
        go true false l = rw (le-ltb p.fault of_range (omega arith)) (a-range e (plain-digit pl l) (far-digit f l))
        go false y l = too_long pl l (omega arith)
    of-last (all-well e pl r) = go (ltb p.digits most_digits) (ltb (grown n p ok b) value_room) refl refl
      where
        go : (x y : Bool) → ltb p.digits most_digits ≡ x → ltb (grown n p ok b) value_room ≡ y → Says (digit-to n p ok b x y)
        go true true l q = all-well e (plain-digit pl l) (read_more r ∙ rw (k, l, same) refl)
        go true false l q = rw e (a-range refl (plain-digit pl l) record {
          values = vs;
          value = grown n p ok b;
          reads = read_more r ∙ rw (k, l) refl;
          as_many = len;
          has-large = large-new vs (grown n p ok b) (ltb-false (grown n p ok b) value_room q);
        })
        go false y l q = too_long pl l (omega arith)

    of-digit : Said n done vs p → Says (digit_step p b)
    of-digit t = rw (digit-last n p ok b k) (of-last t)

  module _ (k : class_of b ≡ 1) where
    no-byte-1 : has_other done ≡ false → has_other (done ++ (b ∷ [])) ≡ false
    no-byte-1 h = rw (other-snoc done b, h, k) refl

    plain-space : {d : ℕ} → Plain done d → Plain (done ++ (b ∷ [])) 0
    plain-space pl = record {
      no_other = no-byte-1 pl.no_other;
      no-overlong = rw (overlong-snoc 0 done b, pl.no-overlong, k) refl;
      run = rw (run-snoc 0 done b, k) refl;
    }

    -- a space where no value was read
    further-none : (q : Progress) (us : List ℕ) → length us ≡ 0 → Full n (further q us)
    further-none q [] e = tt
    further-none q (u ∷ us) e = absurd (omega arith)

    further-some : (q : Progress) (us : List ℕ) → (length us ≡ 0 → ⊥) → further q us ≡ some q
    further-some q [] e = absurd (e refl)
    further-some q (u ∷ us) e = refl

    -- what is read of a line that is well formed up to the space
    module _ (us : List ℕ) (u : ℕ) (r : read (some nothing) done ≡ some (progress us p.digits u)) (as_many : length us ≡ p.count) where
      abbrev After : Option Progress → Type 0
      After o = read (some nothing) (done ++ (b ∷ [])) ≡ o

      space-first : eqb p.digits 0 ≡ true → eqb p.count 0 ≡ true → Full n (read (some nothing) (done ++ (b ∷ [])))
      space-first q c = rw (read_more r, k, q) (further-none (progress us p.digits u) us (as_many ∙ eqb-true p.count 0 c))

      space-again : eqb p.digits 0 ≡ true → eqb p.count 0 ≡ false → After (some (progress us p.digits u))
      space-again q c =
          read_more r
          ∙ rw (k, q) (further-some (progress us p.digits u) us (λ e. eqb-false p.count 0 c (sym as_many ∙ e)))

      space-next : eqb p.digits 0 ≡ false → After (some (progress (us ++ (u ∷ [])) 0 0))
      space-next q = read_more r ∙ rw (k, q) refl

      space-last : eqb p.digits 0 ≡ false → ltb (p.count + 1) n ≡ false → Full n (read (some nothing) (done ++ (b ∷ [])))
      space-last q m = rw (read_more r, k, q) (omega (arith, length-append us (u ∷ []), ltb-false (p.count + 1) n m))

    of_space : Said n done vs p → Says (space_step n p)
    of_space (a_byte e h) = a_byte ((space-kept p n (omega arith)).0 ∙ e) (byte-stays h)
    of_space (a-length e h l) = a-length ((space-kept p n (omega arith)).0 ∙ e) (no-byte-1 h) (length-stays l)
    of_space (a-form e pl f) =
        let z = space-kept p n (omega arith) in a-form (z.0 ∙ e) (rw z.1 (plain-space pl)) (full-stays f)
    of_space (a-range e pl f) = go (eqb p.digits 0) (eqb p.count 0) (ltb (p.count + 1) n) refl refl refl
      where
        us : List ℕ
        us = f.values

        u : ℕ
        u = f.value

        go : (x y z : Bool) → eqb p.digits 0 ≡ x → eqb p.count 0 ≡ y → ltb (p.count + 1) n ≡ z → Says (space-to n p ok x y z)
        go true true z q c m =
            rw e (a-form refl (rw (eqb-true p.digits 0 q) (plain-space pl)) (space-first us u f.reads f.as_many q c))
        go true false z q c m = a-range e (rw (eqb-true p.digits 0 q) (plain-space pl)) record {
          values = us;
          value = u;
          reads = space-again us u f.reads f.as_many q c;
          as_many = f.as_many;
          has-large = f.has-large;
        }
        go false y true q c m = a-range e (plain-space pl) record {
          values = us ++ (u ∷ []);
          value = 0;
          reads = space-next us u f.reads f.as_many q;
          as_many = omega (arith, length-append us (u ∷ []), f.as_many);
          has-large = large-before (us ++ (u ∷ [])) 0 f.has-large;
        }
        go false y false q c m = rw e (a-form refl (plain-space pl) (space-last us u f.reads f.as_many q m))
    of_space (all-well e pl r) = go (eqb p.digits 0) (eqb p.count 0) (ltb (p.count + 1) n) refl refl refl
      where
        go : (x y z : Bool) → eqb p.digits 0 ≡ x → eqb p.count 0 ≡ y → ltb (p.count + 1) n ≡ z → Says (space-to n p ok x y z)
        go true true z q c m =
            rw e (a-form refl (rw (eqb-true p.digits 0 q) (plain-space pl)) (space-first vs p.value r len q c))
        go true false z q c m =
            all-well e (rw (eqb-true p.digits 0 q) (plain-space pl)) (space-again vs p.value r len q c ∙ rw same refl)
        go false y true q c m = all-well e (plain-space pl) (space-next vs p.value r len q ∙ rw all refl)
        go false y false q c m = rw e (a-form refl (plain-space pl) (space-last vs p.value r len q m))

  fault-le : Said n done vs p → p.fault ≤ of_byte
  fault-le (a_byte e h) = omega arith
  fault-le (a-length e h l) = omega arith
  fault-le (a-form e pl f) = omega arith
  fault-le (a-range e pl f) = omega arith
  fault-le (all-well e pl r) = omega arith

  of_other : class_of b ≡ 3 → Said n done vs p → Says (with_fault_lem p of_byte)
  of_other k t = a_byte (raised p of_byte (fault-le t)) (rw (other-snoc done b, k) (or_right (has_other done) true refl))

  pub says : (class_of b ≡ 2 → ⊥) → Said n done vs p → Says (part_step n p b)
  says f t = go (eqb (class_of b) 0) (eqb (class_of b) 1) refl refl
    where
      go : (x y : Bool) → eqb (class_of b) 0 ≡ x → eqb (class_of b) 1 ≡ y
          → Says (cond x (digit_step p b) (cond y (space_step n p) (with_fault_lem p of_byte)))
      go true y e m = of-digit (eqb-true (class_of b) 0 e) t
      go false true e m = of_space (eqb-true (class_of b) 1 m) t
      go false false e m = of_other (other-class b (eqb-false (class_of b) 0 e) (eqb-false (class_of b) 1 m) f) t

-- ── The line feed ──

-- how a line is read that has these values before the last; a large value is out of every field's range
abbrev pub read-end : ℕ → List ℕ → Part → LineRead
read-end n vs p =
    cond (eqb p.fault 0) (cond (is_complete n p) (has_values (vs ++ (p.value ∷ []))) (has_fault 2))
    (cond (eqb p.fault of_range) (cond (is_complete n p) (has_fault 3) (has_fault 2)) (has_fault (number_of (fault_reason p.fault))))

module _ (n : ℕ) (p : Part) where
  completes : (vs : List ℕ) (v : ℕ) → length vs ≡ p.count
      → counted n (complete (some (progress vs p.digits v))) ≡ cond (is_complete n p) (some (vs ++ (v ∷ []))) none
  completes vs v len = go (eqb p.digits 0)
    where
      longer : length (vs ++ (v ∷ [])) ≡ p.count + 1
      longer = omega (arith, length-append vs (v ∷ []))

      go : (z : Bool) → counted n (cond z none (some (vs ++ (v ∷ [])))) ≡ cond (not z && eqb (p.count + 1) n)
          (some (vs ++ (v ∷ []))) none
      go true = refl
      go false = rw longer refl

  form-at-end : (vs : List ℕ) (c : Bool) → told true false false (cond c (some vs) none) ≡ cond c (has_values vs) (has_fault 2)
  form-at-end vs true = refl
  form-at-end vs false = refl

  complete-length : (vs : List ℕ) (v : ℕ) → length vs ≡ p.count → is_complete n p ≡ true → length (vs ++ (v ∷ [])) ≡ n
  complete-length vs v len e =
      omega (arith, length-append vs (v ∷ []), eqb-true (p.count + 1) n (and_right (not (eqb p.digits 0)) (eqb (p.count + 1) n) e))

-- the line as it is read is entered as the code's part says
module _ (s : Sheet) (vs : List ℕ) (p : Part) (far : Bounded s) (line : ℕ) (rest : Sheet → Result) where
  abbrev Entered : LineRead → LineRead → Type 0
  Entered r q = entry s line r rest ≡ entry s line q rest

  far-end : (us : List ℕ) (u : ℕ) → length us ≡ p.count → Large (us ++ (u ∷ []))
      → Entered (cond (is_complete s.fields p) (has_values (us ++ (u ∷ []))) (has_fault 2))
      (cond (is_complete s.fields p) (has_fault 3) (has_fault 2))
  far-end us u len l = go (is_complete s.fields p) refl
    where
      go : (c : Bool) → is_complete s.fields p ≡ c
          → Entered (cond c (has_values (us ++ (u ∷ []))) (has_fault 2)) (cond c (has_fault 3) (has_fault 2))
      go true e = rw (far (us ++ (u ∷ [])) (complete-length s.fields p us u len e) l) refl
      go false e = refl

  pub said-end : (done : List ℕ) → length vs ≡ p.count → Said s.fields done vs p
      → Entered (read_line s.fields (fed done)) (read-end s.fields vs p)
  unfolding read_line values_of
  said-end done len (a_byte e h) = rw (h, e) refl
  said-end done len (a-length e h l) = rw (h, l, e) refl
  said-end done len (a-form e pl f) =
      rw (pl.no_other, pl.no-overlong, e, ends-full s.fields (read (some nothing) done) f) refl
  said-end done len (a-range e pl f) =
      rw (
        pl.no_other,
        pl.no-overlong,
        e,
        f.reads,
        completes s.fields p f.values f.value f.as_many,
        form-at-end s.fields p (f.values ++ (f.value ∷ [])) (is_complete s.fields p),
      )
      (far-end f.values f.value f.as_many f.has-large)
  said-end done len (all-well e pl r) =
      rw (
        pl.no_other,
        pl.no-overlong,
        e,
        r,
        completes s.fields p vs p.value len,
        form-at-end s.fields p (vs ++ (p.value ∷ [])) (is_complete s.fields p),
      ) refl

module _ (n : ℕ) (vs : List ℕ) (p : Part) where
  -- what the code answers at the end of a line
  pub ends-well : end_step n p ≡ Ends → (read-end n vs p ≡ has_values (vs ++ (p.value ∷ []))) × (p.count + 1 ≡ n)
  ends-well e = go (eqb p.fault 0) (eqb p.fault of_range) (eqb p.digits 0) (eqb (p.count + 1) n) refl e
    where
      go : (x r y z : Bool) → eqb (p.count + 1) n ≡ z
          → cond x (cond (not y && z) Ends (Malformed Form))
          (cond r (cond (not y && z) (Malformed Range) (Malformed Form)) (Malformed (fault_reason p.fault))) ≡ Ends
          → (cond x (cond (not y && z) (has_values (vs ++ (p.value ∷ []))) (has_fault 2))
          (cond r (cond (not y && z) (has_fault 3) (has_fault 2)) (has_fault (number_of (fault_reason p.fault))))
          ≡ has_values (vs ++ (p.value ∷ []))) × (p.count + 1 ≡ n)
      go true r true z q e = clash (cc)
      go true r false true q e = (refl, eqb-true (p.count + 1) n q)
      go true r false false q e = clash (cc)
      go false true true z q e = clash (cc)
      go false true false true q e = clash (cc)
      go false true false false q e = clash (cc)
      go false false y z q e = clash (cc)

  pub ends-malformed : (k : Reason) → end_step n p ≡ Malformed k → read-end n vs p ≡ has_fault (number_of k)
  ends-malformed k e = go (eqb p.fault 0) (eqb p.fault of_range) (is_complete n p) e
    where
      go : (x r y : Bool)
          → cond x (cond y Ends (Malformed Form)) (cond r (cond y (Malformed Range) (Malformed Form)) (Malformed (fault_reason p.fault))) ≡ Malformed k
          → (cond x (cond y (has_values (vs ++ (p.value ∷ []))) (has_fault 2))
          (cond r (cond y (has_fault 3) (has_fault 2)) (has_fault (number_of (fault_reason p.fault)))) ≡ has_fault (number_of k))
      go true r true e = clash (cc)
      go true r false e = let q : Form ≡ k = cc in rw (← q) refl
      go false true true e = let q : Range ≡ k = cc in rw (← q) refl
      go false true false e = let q : Form ≡ k = cc in rw (← q) refl
      go false false y e =
          let q : fault_reason p.fault ≡ k = cc in rw (← q) refl

-- ── Which way a step goes ──

module _ (n : ℕ) (p : Part) (b : ℕ) where
  -- a line goes on only at another byte
  pub goes_on : (q : Part) → byte_step n p b ≡ Goes q → (class_of b ≡ 2 → ⊥) × (part_step n p b ≡ q)
  unfolding byte_step
  goes_on q e = go (eqb (class_of b) 2) (eqb p.fault 0) (eqb p.fault of_range) (is_complete n p) refl e
    where
      go : (x y r z : Bool) → eqb (class_of b) 2 ≡ x
          → cond x (cond y (cond z Ends (Malformed Form)) (cond r (cond z (Malformed Range) (Malformed Form)) (Malformed (fault_reason p.fault))))
          (Goes (part_step n p b)) ≡ Goes q
          → (class_of b ≡ 2 → ⊥) × (part_step n p b ≡ q)
      go true true r true f e = clash (cc)
      go true true r false f e = clash (cc)
      go true false true true f e = clash (cc)
      go true false true false f e = clash (cc)
      go true false false z f e = clash (cc)
      go false y r z f e = (eqb-false (class_of b) 2 f, cc)

  -- it ends, or is malformed, only at its line feed
  pub at-feed : (next : Next) → byte_step n p b ≡ next → ((q : Part) → next ≡ Goes q → ⊥) → (class_of b ≡ 2) × (end_step n p ≡ next)
  unfolding byte_step
  at-feed next e other = go (eqb (class_of b) 2) refl e
    where
      go : (x : Bool) → eqb (class_of b) 2 ≡ x → cond x (end_step n p) (Goes (part_step n p b)) ≡ next → (class_of b ≡ 2) × (end_step n p ≡ next)
      go true f e = (eqb-true (class_of b) 2 f, e)
      go false f e = absurd (other (part_step n p b) (sym e))
