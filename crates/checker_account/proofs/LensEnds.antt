-- The table of ends through any lens: what the rules add to a sound table are ends, and a table to which they add nothing has every end.
use Prim.Native.Nat.{ℕ, ◌<◌}
use mathlib.Core.Path.{◌≡◌, refl, sym, ap, ◌∙◌, subst}
use mathlib.Core.Bool.{Bool, true, false, ◌&&◌, ◌||◌, cond}
use mathlib.Core.List.{List}
use mathlib.Core.Logic.{◌⊎◌, inl, inr}
use lib.Dec.{eqb, lit<}
use Rattle.usage.specs.declared.Edge.{Edge}
use Rattle.usage.specs.declared.Node.{Node}
use Rattle.usage.specs.Limits.{states}
use Rattle.usage.specs.Policy.{Sees, Moves, EdgesOk}
use Rattle.usage.specs.Outline.{Is, sandbox}
use Rattle.usage.specs.Past.{reopened}
use Rattle.usage.proofs.Logic.{false-true}
use Rattle.automaton.proofs.MoveLaws.{moves-lt, ends_of}
use Rattle.checker_account.specs.Account.{Sight, Goes, ended, Ends}
use Rattle.checker_account.specs.Tables.{is_reset}
use Rattle.checker_account.specs.Holds.{NamesOk}
use Rattle.checker_account.proofs.BegunLaws.{reopened-states}
use Rattle.checker_account.specs.Lens.{Lens, LensOk, EndTable, Adds}

-- what is left only becomes less
pub ends-later : {local : Bool} {es : List Edge} {ns : List Node} {p : ℕ} (S : Sight) (L : Lens S) → LensOk S L → {n k : ℕ} {o : Bool}
    {w : S.Meaning} {c c' : S.Left} {q q' : ℕ} → Ends local es ns p S n o k w c q c' q' → L.Later c c'
ends-later S L ok (Goes.ends {c = c} i) = ok.later_same c
ends-later S L ok (Goes.fires_static {c = c} i v) = ok.later_same c
ends-later S L ok (Goes.fires_name {c = c} i v) = ok.later_same c
ends-later S L ok (Goes.sequences {t = ended c₂ q₂} i f g) = ok.later_later (ends-later S L ok f) (ends-later S L ok g)
ends-later S L ok (Goes.chooses_left {t = ended c₂ q₂} i f) = ends-later S L ok f
ends-later S L ok (Goes.chooses_right {t = ended c₂ q₂} i f) = ends-later S L ok f
ends-later S L ok (Goes.enters {t = ended c₂ q₂} i f) = ends-later S L ok f
ends-later S L ok (Goes.repeats {t = ended c₂ q₂} i f) = ends-later S L ok f
ends-later S L ok (Goes.makes {t = ended c₂ q₂} i m v f) = ok.later_later (ok.makes_later m) (ends-later S L ok f)
ends-later S L ok (Goes.sandboxes i f) = ends-later S L ok f

-- the tables that are asked for: where the whole past counts, the one where p is open serves both
abbrev pub Served : Bool → Bool → Type 0
Served local o = (o ≡ true) ⊎ (local ≡ true)

-- an opening that does not reset leaves it as it was whether p is open
not-reset : (local : Bool) (p s : ℕ) (o : Bool) → Served local o → is_reset local p s o ≡ false → (o || eqb s p) ≡ o
not-reset local p s true served e = refl
not-reset local p s false (inl f) e = false-true f
not-reset true p s false (inr f) e = go (eqb s p) e
  where
    go : (b : Bool) → (b && true) ≡ false → b ≡ false
    go true h = h
    go false h = refl
not-reset false p s false (inr f) e = false-true f

is-reset : (local : Bool) (p s : ℕ) (o : Bool) → is_reset local p s o ≡ true → (o || eqb s p) ≡ true
is-reset local p s true e = refl
is-reset true p s false e = go (eqb s p) e
  where
    go : (b : Bool) → (b && true) ≡ true → b ≡ true
    go true h = refl
    go false h = h
is-reset false p s false e = false-true e

module _ (local : Bool) (es : List Edge) (ns : List Node) (p : ℕ) (S : Sight) (L : Lens S) where
  -- node k, begun in entry e and state q where p is open or not, can end in its half h and state q'
  abbrev pub EndsBy : Bool → EndTable L.Entry
  EndsBy o k e q h q' = (n : ℕ) × Ends local es ns p S n o k (L.meaning e) (L.left e) q (L.ended e h) q'

  abbrev pub Sound : Bool → EndTable L.Entry → Type 0
  Sound o H = (k : ℕ) (e : L.Entry) (q : ℕ) (h : Bool) (q' : ℕ) → L.Used e → H k e q h q' → EndsBy o k e q h q'

  abbrev pub Whole : Bool → EndTable L.Entry → Type 0
  Whole o H = (k : ℕ) (e : L.Entry) (q : ℕ) (h : Bool) (q' : ℕ) → L.Used e → q < states → EndsBy o k e q h q' →
      (q' < states) × H k e q h q'

  ends_as : {n k : ℕ} {o : Bool} {w w' : S.Meaning} {c c' d d' : S.Left} {q q' : ℕ} → w ≡ w' → c ≡ c' → d ≡ d'
      → Ends local es ns p S n o k w c q d q' → Ends local es ns p S n o k w' c' q d' q'
  ends_as {n} {k} {o} {w} {w'} {c} {c'} {d} {d'} {q} {q'} ew ec ed f =
      subst (λ (w : S.Meaning). Ends local es ns p S n o k w c' q d' q') ew
      (subst (λ (c : S.Left). Ends local es ns p S n o k w c q d' q') ec
      (subst (λ (d : S.Left). Ends local es ns p S n o k w c q d q') ed f))

  module _ (ok : LensOk S L) (names : NamesOk ns) (o : Bool) (served : Served local o) (O H : EndTable L.Entry) where
    abbrev Rules : EndTable L.Entry
    Rules = Adds es ns p S L (λ s. is_reset local p s o) O H

    -- ── What the rules add ──

    pub adds-sound : ((s : ℕ) → is_reset local p s o ≡ true → Sound true O) → Sound o H → Sound o Rules
    adds-sound opened sound k e q h q' u (Adds.at_end i s) = (0, ends_as refl refl (ok.still_right e h u s) (Goes.ends i))
    adds-sound opened sound k e q h q' u (Adds.at_static i s v) = (1, ends_as refl refl (ok.still_right e h u s) (Goes.fires_static i v))
    adds-sound opened sound k e q h q' u (Adds.at_name i s v) = (1, ends_as refl refl (ok.still_right e h u s) (Goes.fires_name i v))
    adds-sound opened sound k e q h q' u (Adds.is_in_turn {a = a} {b = b} {q₁ = q₁} {f = f} {g = g} {d = d} i s x y) =
        let r = ok.splits_right e f d g u s in
        let (n₁, x₁) = sound a f q d q₁ r.first_used x in
        let (n₂, y₁) = sound b g q₁ h q' r.second_used y in (
          _,
          Goes.sequences i (ends_as r.first_meaning r.first_left refl x₁)
              (ends_as r.second_meaning r.second_left (r.second_ended h) y₁),
        )
    adds-sound opened sound k e q h q' u (Adds.by_one {a = a} i x) = (_, Goes.chooses_left i (sound a e q h q' u x).1)
    adds-sound opened sound k e q h q' u (Adds.by_other {b = b} i x) = (_, Goes.chooses_right i (sound b e q h q' u x).1)
    adds-sound opened sound k e q h q' u (Adds.by_body {a = a} i x) = (_, Goes.enters i (sound a e q h q' u x).1)
    adds-sound opened sound k e q h q' u (Adds.by_loop {a = a} i x) = (_, Goes.repeats i (sound a e q h q' u x).1)
    adds-sound opened sound k e q h q' u (Adds.by_new {n = n} {b = b} {d = d} {q₁ = q₁} {g = g} i s v x) =
        let r = ok.gives_right e n d g u (names.given i) s in
        let (m, x₁) = sound b g q₁ h q' r.used x in
        (_, Goes.makes i r.makes v (ends_as refl refl (r.same_ended h) x₁))
    adds-sound opened sound k e q h q' u (Adds.by_inner {s = s} {b = b} i r x) =
        let (n, f) = sound b e q h q' u x in (
          _,
          Goes.sandboxes i
              (subst (λ (j : ℕ). Ends local es ns p S n (o || eqb s p) b (L.meaning e) (L.left e) j (L.ended e h) q')
              (ap (λ (d : Bool). cond d 0 q) (sym r))
              (subst (λ (a : Bool). Ends local es ns p S n a b (L.meaning e) (L.left e) q (L.ended e h) q')
              (sym (not-reset local p s o served r)) f)),
        )
    adds-sound opened sound k e q h q' u (Adds.by_reset {s = s} {b = b} i r x) =
        let (n, f) = opened s r b e 0 h q' u x in (
          _,
          Goes.sandboxes i
              (subst (λ (j : ℕ). Ends local es ns p S n (o || eqb s p) b (L.meaning e) (L.left e) j (L.ended e h) q')
              (ap (λ (d : Bool). cond d 0 q) (sym r))
              (subst (λ (a : Bool). Ends local es ns p S n a b (L.meaning e) (L.left e) 0 (L.ended e h) q')
              (sym (is-reset local p s o r)) f)),
        )

    -- ── A table to which they add nothing ──

    module _ (edges : EdgesOk es) (opened : (s : ℕ) → is_reset local p s o ≡ true → Whole true O)
        (closed : (k : ℕ) (e : L.Entry) (q : ℕ) (h : Bool)
        (q' : ℕ) → L.Used e → q < states → q' < states → Rules k e q h q' → H k e q h q') where
      abbrev Full : EndTable L.Entry
      Full k e q h q' = (q' < states) × H k e q h q'

      -- the body of a sandbox, whose opening resets or not, as d says
      full-inside : {n k s b q q' : ℕ} {w : S.Meaning} {c c' : S.Left} (d : Bool) → is_reset local p s o ≡ d → Is ns k (sandbox s b)
          → (e : L.Entry) (h : Bool) → L.Used e → L.meaning e ≡ w → L.left e ≡ c → L.ended e h ≡ c' → q < states
          → Ends local es ns p S n (o || eqb s p) b w c (reopened local p s o q) c' q'
          → ((o || eqb s p) ≡ o → reopened local p s o q ≡ q → Full b e q h q') → Full k e q h q'
      full-inside {n} {k} {s} {b} {q} {q'} {w} {c} {c'} true r i e h u ew ec ed l f table =
          let f₁ = subst (λ (a : Bool). Ends local es ns p S n a b w c (reopened local p s o q) c' q') (is-reset local p s o r) f in
          let f₂ = subst (λ (j : ℕ). Ends local es ns p S n true b w c j c' q') (ap (λ (d : Bool). cond d 0 q) r) f₁ in
          let (l', x) = opened s r b e 0 h q' u (lit< tt) (n, ends_as (sym ew) (sym ec) (sym ed) f₂) in
          (l', closed k e q h q' u l l' (Adds.by_reset i r x))
      full-inside {k = k} {s = s} {q = q} {q' = q'} false r i e h u ew ec ed l f table =
          let (l', x) = table (not-reset local p s o served r) (ap (λ (d : Bool). cond d 0 q) r) in
          (l', closed k e q h q' u l l' (Adds.by_inner i r x))

      full-ends : {n k q q' : ℕ} {a : Bool} {w : S.Meaning} {c c' : S.Left} → Ends local es ns p S n a k w c q c' q' → a ≡ o
          → (e : L.Entry) (h : Bool) → L.Used e → L.meaning e ≡ w → L.left e ≡ c → L.ended e h ≡ c' → q < states → Full k e q h q'
      full-ends (Goes.ends {k = k} {q = q} i) eo e h u ew ec ed l =
          (l, closed k e q h q u l l (Adds.at_end i (ok.still_full e h u (ec ∙ sym ed))))
      full-ends (Goes.fires_static {k = k} {q = q} {q' = q'} i v) eo e h u ew ec ed l =
          let l' = moves-lt (ends_of edges) l v in
          (l', closed k e q h q' u l l' (Adds.at_static i (ok.still_full e h u (ec ∙ sym ed)) v))
      full-ends (Goes.fires_name {k = k} {q = q} {a = a} {m = n} {q' = q'} i v) eo e h u ew ec ed l =
          let l' = moves-lt (ends_of edges) l v in
          let v₁ = subst (λ (w : S.Meaning). Moves es p a (Sees S.watches (S.stands w n)) q q') (sym ew) v in
          (l', closed k e q h q' u l l' (Adds.at_name i (ok.still_full e h u (ec ∙ sym ed)) v₁))
      full-ends (Goes.sequences {k = k} {q = q} {q₁ = q₁} {c₁ = c₁} {t = ended c₂ q₂} i f g) eo e h u ew ec ed l =
          let before = subst (λ (c : S.Left). L.Later c c₁) (sym ec) (ends-later S L ok f) in
          let after = subst (λ (c : S.Left). L.Later c₁ c) (sym ed) (ends-later S L ok g) in
          let s = ok.splits_full e h c₁ u before after in
          let r = ok.splits_right e s.first s.half s.second u s.splits in
          let (l₁, x) = full-ends f eo s.first s.half r.first_used (r.first_meaning ∙ ew) (r.first_left ∙ ec) s.ended l in
          let (l₂, y) = full-ends g eo s.second h r.second_used (r.second_meaning ∙ ew) (r.second_left ∙ s.ended)
          (r.second_ended h ∙ ed) l₁ in
          (l₂, closed k e q h q₂ u l l₂ (Adds.is_in_turn i s.splits x y))
      full-ends (Goes.chooses_left {k = k} {q = q} {t = ended c₂ q₂} i f) eo e h u ew ec ed l =
          let (l', x) = full-ends f eo e h u ew ec ed l in (l', closed k e q h q₂ u l l' (Adds.by_one i x))
      full-ends (Goes.chooses_right {k = k} {q = q} {t = ended c₂ q₂} i f) eo e h u ew ec ed l =
          let (l', x) = full-ends f eo e h u ew ec ed l in (l', closed k e q h q₂ u l l' (Adds.by_other i x))
      full-ends (Goes.enters {k = k} {q = q} {t = ended c₂ q₂} i f) eo e h u ew ec ed l =
          let (l', x) = full-ends f eo e h u ew ec ed l in (l', closed k e q h q₂ u l l' (Adds.by_body i x))
      full-ends (Goes.repeats {k = k} {q = q} {t = ended c₂ q₂} i f) eo e h u ew ec ed l =
          let (l', x) = full-ends f eo e h u ew ec ed l in (l', closed k e q h q₂ u l l' (Adds.by_loop i x))
      full-ends (Goes.makes {k = k} {w = w} {w₁ = w₁} {q = q} {m = n} {d = d} {c₁ = c₁} {t = ended c₂ q₂} i m v f) eo e h u ew ec ed l =
          let m₁ = subst (λ (w : S.Meaning). S.Makes n d w (L.left e) w₁ c₁) (sym ew)
          (subst (λ (c : S.Left). S.Makes n d w c w₁ c₁) (sym ec) m) in
          let after = subst (λ (c : S.Left). L.Later c₁ c) (sym ed) (ends-later S L ok f) in
          let g = ok.gives_full e h n d w₁ c₁ u (names.given i) m₁ after in
          let r = ok.gives_right e n d g.entry u (names.given i) g.gives in
          let (l₂, x) = full-ends f eo g.entry h r.used g.meaning g.left (r.same_ended h ∙ ed)
          (moves-lt (ends_of edges) l v) in
          (l₂, closed k e q h q₂ u l l₂ (Adds.by_new i g.gives v x))
      full-ends (Goes.sandboxes {n = n} {k = k} {w = w} {q = q} {s = s} {b = b} {q₂ = q₂} {o = a} {c = c} {c₂ = c₂} i f) eo e h u ew ec ed l =
          let f₁ = subst (λ (a : Bool). Ends local es ns p S n (a || eqb s p) b w c (reopened local p s a q) c₂ q₂) eo f in
          full-inside (is_reset local p s o) refl i e h u ew ec ed l f₁ (λ same still.
          subst (λ (j : ℕ). Full b e j h q₂) (ap (λ (a : Bool). reopened local p s a q) eo ∙ still)
          (full-ends f (ap (λ (a : Bool). a || eqb s p) eo ∙ same) e h u ew ec ed (reopened-states local p s a q l)))

      pub closed-whole : Whole o H
      closed-whole k e q h q' u l f = full-ends f.1 refl e h u refl refl refl l
