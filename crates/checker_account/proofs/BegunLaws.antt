-- The starts that occur lead only to starts that occur, for every sight that keeps what occurs.
use Prim.Native.Nat.{ℕ, ◌<◌}
use mathlib.Core.Bool.{Bool, true, false, not, ◌&&◌, cond}
use mathlib.Core.List.{List}
use lib.Dec.{eqb, lit<}
use Rattle.usage.specs.declared.Edge.{Edge}
use Rattle.usage.specs.declared.Node.{Node}
use Rattle.usage.specs.Limits.{states, most_names}
use Rattle.usage.specs.Policy.{Moves, along, stays, EdgesOk}
use Rattle.usage.specs.Past.{reopened}
use Rattle.checker_account.specs.Account.{Sight, Aim, ended, Goes, Ends, Comes}
use Rattle.checker_account.specs.Holds.{NamesOk}
use Rattle.checker_account.specs.Least.{Begun, Followed, ComeTo, Anywhere}

pub moves-states : {es : List Edge} {p a : ℕ} {sees : ℕ → ℕ → Type 0} {q q' : ℕ} → EdgesOk es → Moves es p a sees q q' → q < states
    → q' < states
moves-states ok (along e m f) l = (ok.each e m).to
moves-states ok (stays none) l = l

pub reopened-states : (local : Bool) (p s : ℕ) (o : Bool) (q : ℕ) → q < states → reopened local p s o q < states
reopened-states local p s o q l = go (local && (eqb s p && not o))
  where
    go : (b : Bool) → cond b 0 q < states
    go true = lit< tt
    go false = l

-- What a sight keeps: what is at first occurs; so does what a creation leaves; and where a creation leaves less, any meaning that occurred
-- with what was left before occurs with it still.
pub record Keeps (S : Sight) : Type 0 where
  pub begins : S.Occurring S.first_meaning S.first_left
  pub makes : {m d : ℕ} {w w₁ : S.Meaning} {c c₁ : S.Left} → m < most_names → S.Makes m d w c w₁ c₁ → S.Occurring w c
      → S.Occurring w₁ c₁
  pub lasts : {m d : ℕ} {v w w₁ : S.Meaning} {c c₁ : S.Left} → S.Makes m d w c w₁ c₁ → S.Occurring v c → S.Occurring v c₁

pub begun-root : {S : Sight} → Keeps S → Begun S S.first_meaning S.first_left 0
begun-root k = record { view = k.begins; state = lit< tt }

pub begun-new : {S : Sight} → Keeps S → {w w₁ : S.Meaning} {c c₁ : S.Left} {m d q : ℕ} → Begun S w c q → (q₁ : ℕ) → m < most_names
    → S.Makes m d w c w₁ c₁ → q₁ < states → Begun S w₁ c₁ q₁
begun-new k h q₁ small y l = record { view = k.makes small y h.view; state = l }

pub begun_opened : {S : Sight} {w : S.Meaning} {c : S.Left} {q : ℕ} → Begun S w c q → (local : Bool) (p s : ℕ) (o : Bool)
    → Begun S w c (reopened local p s o q)
begun_opened {q = q} h local p s o = record { view = h.view; state = reopened-states local p s o q h.state }

module _ (local : Bool) (es : List Edge) (ns : List Node) (p : ℕ) (S : Sight) (edges : EdgesOk es) (keeps : Keeps S) where
  -- where the aim is an end: what occurred with what was left occurs with what is left then, and the state is one
  abbrev Kept : S.Left → ℕ → Aim S.Left → Type 0
  Kept c q (ended c' q') = ((v : S.Meaning) → S.Occurring v c → S.Occurring v c') × (q < states → q' < states)
  Kept c q (Aim.broken u) = Unit {0}

  kept_then : (c c₁ : S.Left) (q q₁ : ℕ) (t : Aim S.Left)
      → ((v : S.Meaning) → S.Occurring v c → S.Occurring v c₁) × (q < states → q₁ < states) → Kept c₁ q₁ t → Kept c q t
  kept_then c c₁ q q₁ (ended c' q') f g = (λ v e. g.0 v (f.0 v e), λ l. g.1 (f.1 l))
  kept_then c c₁ q q₁ (Aim.broken u) f g = tt

  goes_kept : {n : ℕ} {o : Bool} {k : ℕ} {w : S.Meaning} {c : S.Left} {q : ℕ} {t : Aim S.Left} → Goes local es ns p S n o k w c q t
      → Kept c q t
  goes_kept (Goes.ends i) = (λ v e. e, λ l. l)
  goes_kept (Goes.fires_static i v) = (λ v e. e, λ l. moves-states edges v l)
  goes_kept (Goes.fires_name i v) = (λ v e. e, λ l. moves-states edges v l)
  goes_kept (Goes.sequences {t = t} i d f) = kept_then _ _ _ _ t (goes_kept d) (goes_kept f)
  goes_kept (Goes.chooses_left i d) = goes_kept d
  goes_kept (Goes.chooses_right i d) = goes_kept d
  goes_kept (Goes.enters i d) = goes_kept d
  goes_kept (Goes.repeats i d) = goes_kept d
  goes_kept (Goes.makes {t = t} i y v d) = kept_then _ _ _ _ t (λ u e. keeps.lasts y e, λ l. moves-states edges v l) (goes_kept d)
  goes_kept (Goes.sandboxes {q = q} {s = s} {o = o} i d) = ((goes_kept d).0, λ l. (goes_kept d).1 (reopened-states local p s o q l))
  goes_kept (Goes.breaks_static i v f z) = tt
  goes_kept (Goes.breaks_name i v f z) = tt
  goes_kept (Goes.breaks_fresh i y v f z) = tt
  goes_kept (Goes.breaks_opening i f z) = tt
  goes_kept (Goes.breaks_first i d) = tt
  goes_kept (Goes.breaks_inside i d) = tt

  pub begun-ended : {n : ℕ} {o : Bool} {k : ℕ} {w : S.Meaning} {c : S.Left} {q : ℕ} {c' : S.Left} {q' : ℕ} → Begun S w c q
      → Ends local es ns p S n o k w c q c' q' → Begun S w c' q'
  begun-ended {w = w} h d = let g = goes_kept d in record { view = g.0 w h.view; state = g.1 h.state }

  -- ── What is come to, and all that occurs ──

  module _ (names : NamesOk ns) where
    pub come-begun : {n : ℕ} {o : Bool} {k : ℕ} {w : S.Meaning} {c : S.Left} {q : ℕ} → Comes local es ns p S n o k w c q → Begun S w c q
    come-begun Comes.begins = begun-root keeps
    come-begun (Comes.first i e) = come-begun e
    come-begun (Comes.second i e d) = begun-ended (come-begun e) d
    come-begun (Comes.left i e) = come-begun e
    come-begun (Comes.right i e) = come-begun e
    come-begun (Comes.body i e) = come-begun e
    come-begun (Comes.again i e) = come-begun e
    come-begun (Comes.created {q₁ = q₁} i y e v) =
        let b = come-begun e in begun-new keeps b q₁ (names.given i) y (moves-states edges v b.state)
    come-begun (Comes.inside {s = s} {o = o} i e) = begun_opened (come-begun e) local p s o

    -- The entries that a rule reads at a start that is come to belong to starts that are come to.
    pub come-followed : Followed local es ns p S (ComeTo local es ns p S)
    come-followed = record {
      occurs = λ (n, e). come-begun e;
      first = λ i (n, e). (n, Comes.first i e);
      second = λ i (n, e) d. (_, Comes.second i e d);
      left = λ i (n, e). (n, Comes.left i e);
      right = λ i (n, e). (n, Comes.right i e);
      body = λ i (n, e). (n, Comes.body i e);
      again = λ i (n, e). (n, Comes.again i e);
      created = λ i y v (n, e). (_, Comes.created i y e v);
      inside = λ i (n, e). (_, Comes.inside i e);
    }

    -- So do those of starts that occur, to starts that occur.
    pub begun-followed : Followed local es ns p S (Anywhere S)
    begun-followed = record {
      occurs = λ b. b;
      first = λ i b. b;
      second = λ i b d. begun-ended b d;
      left = λ i b. b;
      right = λ i b. b;
      body = λ i b. b;
      again = λ i b. b;
      created = λ {q₁ = q₁} i y v b. begun-new keeps b q₁ (names.given i) y (moves-states edges v b.state);
      inside = λ {s = s} {o = o} i b. begun_opened b local p s o;
    }

pub come-root : {local : Bool} {es : List Edge} {ns : List Node} {p : ℕ} {S : Sight}
    → ComeTo local es ns p S false 0 S.first_meaning S.first_left 0
come-root = (0, Comes.begins)
