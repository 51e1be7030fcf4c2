-- The table of what is come to through any lens, and the hits that it shows: what the rules add to a sound table is come to, a table to
-- which they add nothing has all, and it strikes exactly where the account hits.
use Prim.Native.Nat.{ℕ, ◌<◌}
use mathlib.Core.Path.{◌≡◌, sym, ◌∙◌, subst}
use mathlib.Core.Bool.{Bool, true, false, ◌||◌}
use mathlib.Core.List.{List}
use mathlib.Core.Logic.{◌↔◌}
use lib.Dec.{eqb, lit<}
use Rattle.usage.specs.declared.Edge.{Edge}
use Rattle.usage.specs.declared.Node.{Node}
use Rattle.usage.specs.Limits.{states}
use Rattle.usage.specs.Limits.{create}
use Rattle.usage.specs.Policy.{Sees, Moves, EdgesOk}
use Rattle.usage.specs.Outline.{Is, sequence, fresh}
use Rattle.usage.specs.Past.{reopened}
use Rattle.automaton.proofs.MoveLaws.{moves-lt, ends_of}
use Rattle.checker_account.specs.Account.{Sight, Ends, Comes, Hits, Last}
use Rattle.checker_account.specs.Holds.{NamesOk}
use Rattle.checker_account.specs.Lens.{Lens, LensOk, EndTable, Codes, CodesOk, ComeTable, Leads, Strikes}
use Rattle.checker_account.proofs.BegunLaws.{reopened-states}
use Rattle.checker_account.proofs.LensEnds.{Sound, Whole, ends-later}

module _ (local : Bool) (es : List Edge) (ns : List Node) (p : ℕ) (S : Sight) (L : Lens S) (C : Codes S L) where
  abbrev pub ComesBy : ComeTable C.Code
  ComesBy k o c q = (n : ℕ) × Comes local es ns p S n o k (C.named c) (C.kept c) q

  abbrev pub SoundCome : ComeTable C.Code → Type 0
  SoundCome U = (k : ℕ) (o : Bool) (c : C.Code) (q : ℕ) → C.Occurs c → U k o c q → ComesBy k o c q

  -- a start of a node that the account tells by (w, l), in the table
  pub record Met (U : ComeTable C.Code) (o : Bool) (k : ℕ) (w : S.Meaning) (l : S.Left) (q : ℕ) : Type 0 where
    pub code : C.Code
    pub occurs : C.Occurs code
    pub named : C.named code ≡ w
    pub kept : C.kept code ≡ l
    pub state : q < states
    pub entered : U k o code q

  pub record WholeCome (U : ComeTable C.Code) : Type 0 where
    pub full : {n : ℕ} {o : Bool} {k : ℕ} {w : S.Meaning} {l : S.Left} {q : ℕ} → Comes local es ns p S n o k w l q → Met U o k w l q

  comes-as : {n k : ℕ} {o : Bool} {w w' : S.Meaning} {l l' : S.Left} {q : ℕ} → w ≡ w' → l ≡ l' → Comes local es ns p S n o k w l q
      → Comes local es ns p S n o k w' l' q
  comes-as {n} {k} {o} {w} {w'} {l} {l'} {q} ew el f =
      subst (λ (w : S.Meaning). Comes local es ns p S n o k w l' q) ew (subst (λ (l : S.Left). Comes local es ns p S n o k w l q) el f)

  makes-as : {m d : ℕ} {w w' w₁ : S.Meaning} {l l' l₁ : S.Left} → w ≡ w' → l ≡ l' → S.Makes m d w l w₁ l₁ → S.Makes m d w' l' w₁ l₁
  makes-as {m} {d} {w} {w'} {w₁} {l} {l'} {l₁} ew el f =
      subst (λ (w : S.Meaning). S.Makes m d w l' w₁ l₁) ew (subst (λ (l : S.Left). S.Makes m d w l w₁ l₁) el f)

  module _ (lens : LensOk S L) (ok : CodesOk S L C) (names : NamesOk ns) (H : Bool → EndTable L.Entry) (U : ComeTable C.Code) where
    abbrev Rules : ComeTable C.Code
    Rules = Leads local es ns p S L C H U

    -- ── What the rules add ──

    pub leads-sound : ((o : Bool) → Sound local es ns p S L o (H o)) → SoundCome U → (k : ℕ) (o : Bool) (c : C.Code) (q : ℕ)
        → Rules k o c q
        → ComesBy k o c q
    leads-sound ends sound k o c q Leads.begins = (0, comes-as (sym ok.first_named_law) (sym ok.first_kept) Comes.begins)
    leads-sound ends sound k o c q (Leads.to_first {k = j} i u x) = (_, Comes.first i (sound j o c q u x).1)
    leads-sound ends sound k o d q (Leads.to_second {k = j} {a = a} {q = q₀} {h = h} {c = c} {f = f} i u x t v y) =
        let (n, e) = ends o a f q₀ h q v y in
        let r = ok.then_right c f h d u t in (
          _,
          comes-as (sym r.second_named_law) (sym r.second_kept)
              (Comes.second i (sound j o c q₀ u x).1
              (ends_as r.first_meaning r.first_left e)),
        )
      where
        ends_as : {n k q q' : ℕ} {o : Bool} {w w' : S.Meaning} {l l' m : S.Left} → w ≡ w' → l ≡ l' → Ends local es ns p S n o k w l q m q'
            → Ends local es ns p S n o k w' l' q m q'
        ends_as {n} {k} {q} {q'} {o} {w} {w'} {l} {l'} {m} ew el f =
            subst (λ (w : S.Meaning). Ends local es ns p S n o k w l' q m q') ew
            (subst (λ (l : S.Left). Ends local es ns p S n o k w l q m q') el f)
    leads-sound ends sound k o c q (Leads.to_one {k = j} i u x) = (_, Comes.left i (sound j o c q u x).1)
    leads-sound ends sound k o c q (Leads.to_other {k = j} i u x) = (_, Comes.right i (sound j o c q u x).1)
    leads-sound ends sound k o c q (Leads.to_body {k = j} i u x) = (_, Comes.body i (sound j o c q u x).1)
    leads-sound ends sound k o c q (Leads.to_loop {k = j} i u x) = (_, Comes.again i (sound j o c q u x).1)
    leads-sound ends sound k o d q (Leads.to_new {k = j} {n = n} {r = r} {q = q₀} {c = c} i u x t v) =
        (_, Comes.created i (ok.new_right c n r d u (names.given i) t).makes (sound j o c q₀ u x).1 v)
    leads-sound ends sound k o c q (Leads.to_inner {k = j} {q = q₀} {o = a} i u x) = (_, Comes.inside i (sound j a c q₀ u x).1)

    -- ── A table to which they add nothing ──

    module _ (edges : EdgesOk es) (ends : (o : Bool) → Whole local es ns p S L o (H o))
        (closed : (k : ℕ) (o : Bool) (c : C.Code) (q : ℕ) → q < states → Rules k o c q → U k o c q) where
      met-child : {o o' : Bool} {k a : ℕ} {w : S.Meaning} {l : S.Left} {q q' : ℕ} → (h : Met U o k w l q) → q' < states
          → U a o' h.code q' → Met U o' a w l q'
      met-child h s e = record { code = h.code; occurs = h.occurs; named = h.named; kept = h.kept; state = s; entered = e }

      met-second : {n k a b q q₁ : ℕ} {o : Bool} {w : S.Meaning} {l l₁ : S.Left} → Is ns k (sequence a b) → Met U o k w l q
          → Ends local es ns p S n o a w l q l₁ q₁ → Met U o b w l₁ q₁
      met-second {n} {k} {a} {b} {q} {q₁} {o} {w} {l} {l₁} i h f =
          let c = h.code in
          let later = subst (λ (d : S.Left). L.Later d l₁) (sym h.kept) (ends-later S L lens f) in
          let t = ok.then_full c l₁ h.occurs later in
          let r = ok.then_right c t.entry t.half t.next h.occurs t.then in
          let f₁ = subst (λ (w : S.Meaning). Ends local es ns p S n o a w (L.left t.entry) q (L.ended t.entry t.half) q₁)
          (sym (r.first_meaning ∙ h.named))
          (subst (λ (d : S.Left). Ends local es ns p S n o a w d q (L.ended t.entry t.half) q₁) (sym (r.first_left ∙ h.kept))
          (subst (λ (d : S.Left). Ends local es ns p S n o a w l q d q₁) (sym t.ended) f)) in
          let (s, y) = ends o a t.entry q t.half q₁ r.used h.state (n, f₁) in
          record {
            code = t.next;
            occurs = r.occurs;
            named = r.second_named_law ∙ h.named;
            kept = r.second_kept ∙ t.ended;
            state = s;
            entered = closed b o t.next q₁ s (Leads.to_second i h.occurs h.entered t.then r.used y);
          }

      met-new : {k n b r q q₁ : ℕ} {o : Bool} {w w₁ : S.Meaning} {l l₁ : S.Left} → Is ns k (fresh n b) → Met U o k w l q
          → S.Makes n r w l w₁ l₁ → Moves es p create (Sees S.watches r) q q₁ → Met U o b w₁ l₁ q₁
      met-new {k} {n} {b} {r} {q} {q₁} {o} {w} {w₁} {l} {l₁} i h m v =
          let s = moves-lt (ends_of edges) h.state v in
          let t = ok.new_full h.code n r w₁ l₁ h.occurs (names.given i) (makes-as (sym h.named) (sym h.kept) m) in
          let g = ok.new_right h.code n r t.next h.occurs (names.given i) t.new in
          record {
            code = t.next;
            occurs = g.occurs;
            named = t.named;
            kept = t.kept;
            state = s;
            entered = closed b o t.next q₁ s (Leads.to_new i h.occurs h.entered t.new v);
          }

      full-come : {n : ℕ} {o : Bool} {k : ℕ} {w : S.Meaning} {l : S.Left} {q : ℕ} → Comes local es ns p S n o k w l q → Met U o k w l q
      full-come Comes.begins = record {
        code = C.first;
        occurs = ok.first_occurs;
        named = ok.first_named_law;
        kept = ok.first_kept;
        state = lit< tt;
        entered = closed 0 false C.first 0 (lit< tt) Leads.begins;
      }
      full-come (Comes.first {q = q} {a = a} {o = o} i e) =
          let h = full-come e in met-child h h.state (closed a o h.code q h.state (Leads.to_first i h.occurs h.entered))
      full-come (Comes.second i e f) = met-second i (full-come e) f
      full-come (Comes.left {q = q} {a = a} {o = o} i e) =
          let h = full-come e in met-child h h.state (closed a o h.code q h.state (Leads.to_one i h.occurs h.entered))
      full-come (Comes.right {q = q} {b = b} {o = o} i e) =
          let h = full-come e in met-child h h.state (closed b o h.code q h.state (Leads.to_other i h.occurs h.entered))
      full-come (Comes.body {q = q} {a = a} {o = o} i e) =
          let h = full-come e in met-child h h.state (closed a o h.code q h.state (Leads.to_body i h.occurs h.entered))
      full-come (Comes.again {q = q} {a = a} {o = o} i e) =
          let h = full-come e in met-child h h.state (closed a o h.code q h.state (Leads.to_loop i h.occurs h.entered))
      full-come (Comes.created i m e v) = met-new i (full-come e) m v
      full-come (Comes.inside {q = q} {s = s} {b = b} {o = o} i e) =
          let h = full-come e in
          let l = reopened-states local p s o q h.state in
          met-child h l (closed b (o || eqb s p) h.code (reopened local p s o q) l (Leads.to_inner i h.occurs h.entered))

      pub closed-come : WholeCome U
      closed-come = record { full = full-come }

  -- ── Hits ──

  module _ (ok : CodesOk S L C) (names : NamesOk ns) (U : ComeTable C.Code) where
    pub strikes-hit : SoundCome U → {last : Last} → Strikes local es ns p S L C U last → (n : ℕ) × Hits local es ns p S n last
    strikes-hit sound (Strikes.on_a_static {k = k} {q = q} {c = c} i u x v f) = (_, Hits.at_static i (sound k true c q u x).1 v f)
    strikes-hit sound (Strikes.on_a_name {k = k} {q = q} {c = c} i u x v f) = (_, Hits.at_name i (sound k true c q u x).1 v f)
    strikes-hit sound (Strikes.by_a_new {k = k} {n = n} {r = r} {q = q} {c = c} {d = d} i u x t v f) =
        (_, Hits.at_fresh i (ok.new_right c n r d u (names.given i) t).makes (sound k true c q u x).1 v f)
    strikes-hit sound (Strikes.by_its_opening {k = k} {q = q} {o = o} {c = c} i u x f) = (_, Hits.at_opening i (sound k o c q u x).1 f)

    pub hit-strikes : WholeCome U → {n : ℕ} {last : Last} → Hits local es ns p S n last → Strikes local es ns p S L C U last
    hit-strikes whole (Hits.at_static i c v f) = let h = whole.full c in Strikes.on_a_static i h.occurs h.entered v f
    hit-strikes whole (Hits.at_name {q = q} {a = a} {m = n} {q' = q'} i c v f) =
        let h = whole.full c in
        Strikes.on_a_name i h.occurs h.entered
        (subst (λ (w : S.Meaning). Moves es p a (Sees S.watches (S.stands w n)) q q') (sym h.named) v) f
    hit-strikes whole (Hits.at_fresh {w₁ = w₁} {m = n} {d = r} {c₁ = l₁} i m c v f) =
        let h = whole.full c in
        let t = ok.new_full h.code n r w₁ l₁ h.occurs (names.given i) (makes-as (sym h.named) (sym h.kept) m) in
        Strikes.by_a_new i h.occurs h.entered t.new v f
    hit-strikes whole (Hits.at_opening i c f) = let h = whole.full c in Strikes.by_its_opening i h.occurs h.entered f

    pub strikes-exact : SoundCome U → WholeCome U → (last : Last)
        → ((n : ℕ) × Hits local es ns p S n last) ↔ Strikes local es ns p S L C U last
    strikes-exact sound whole last = ((λ h. hit-strikes whole h.1), strikes-hit sound)
