-- Statics that no event node names need not be watched: they never occur, and a dynamic resource that is never created stands for them.
use Prim.Native.Nat.{ℕ, ◌<◌, ◌≤◌}
use mathlib.Core.Path.{◌≡◌, sym, ◌∙◌, subst}
use mathlib.Core.Bool.{Bool}
use mathlib.Core.Option.{some, none-ne-some}
use mathlib.Core.List.Memᴰ
use mathlib.Core.List.{List, [], ◌∷◌, map, Memᴰ}
use mathlib.Core.Logic.{◌⊎◌, inl, inr, ◌↔◌}
use native.Mathlib.Omega.{arith}
use native.Mathlib.Decide.{dec_lt}
use lib.ListN.{length}
use Rattle.usage.specs.declared.Edge.{Edge}
use Rattle.usage.specs.declared.Node.{Node}
use Rattle.usage.specs.Limits.{statics, create}
use Rattle.usage.specs.Policy.{EdgesOk}
use Rattle.usage.specs.Past.{event, Past, Occurs, Violates}
use Rattle.usage.specs.Outline.{Is, static_event, Names, give, Part, node, close, Run, Advance, Runs, IsTrace}
use Rattle.usage.proofs.PastLaws.{Told, more, broken-among}
use Rattle.usage.proofs.TraceLaws.{Given, give-cases}
use Rattle.usage.proofs.ProgressLaws.{bound, bound-dynamic, bound-new}
use Rattle.checker_account.specs.Account.{Last, Hits, LeavesBy}
use Rattle.checker_account.specs.Views.{Chosen, views}
use Rattle.checker_account.proofs.Scoped.{Scoped}
use Rattle.checker_account.proofs.Standing.{Stands, cast}
use Rattle.checker_account.proofs.ViolationLaws.{sound-at}
use Rattle.checker_account.proofs.WrittenTrace.{occurs-none, occurs-event, occurs-opening, occurs-closing}
use Rattle.checker_account.proofs.Exact.{exact-by, brought-about}

-- an event node names this static resource
abbrev pub NamedBy : List Node → ℕ → Type 0
NamedBy ns s = (k : ℕ) × (a : ℕ) × Is ns k (static_event a s)

-- the stand-ins worth a search: a static one is named by some node
abbrev pub Worth : List Node → List ℕ → Type 0
Worth ns us = (u : ℕ) → Memᴰ u us → u < statics → NamedBy ns u

-- ── Which statics occur ──

module _ (ns : List Node) where
  abbrev Dynamic : Names → Type 0
  Dynamic names = (m r : ℕ) → names m ≡ some r → statics ≤ r

  abbrev Dynamics : List Part → Type 0
  Dynamics [] = Unit {0}
  Dynamics (node k names ∷ rest) = Dynamic names × Dynamics rest
  Dynamics (close s ∷ rest) = Dynamics rest

  dynamic-give : {names : Names} (n r : ℕ) → statics ≤ r → Dynamic names → Dynamic (give names n r)
  dynamic-give {names} n r big h m t e = go (give-cases names n r m t e)
    where
      go : Given names n r m t → statics ≤ t
      go (inl (a, b)) = omega arith
      go (inr (a, b)) = h m t b

  record Plain (run : Run) : Type 0 where
    names : Dynamics run.parts
    statics-named : (s : ℕ) → s < statics → Occurs s run.past → NamedBy ns s

  event-named : (a r : ℕ) (past : Past) → (r < statics → NamedBy ns r) → ((s : ℕ) → s < statics → Occurs s past → NamedBy ns s)
      → (s : ℕ) → s < statics → Occurs s (event a r ∷ past) → NamedBy ns s
  event-named a r past here h s l o = go (occurs-event s a r past o)
    where
      go : (s ≡ r) ⊎ Occurs s past → NamedBy ns s
      go (inl e) = subst (NamedBy ns) (sym e) (here (omega arith))
      go (inr o) = h s l o

  plain-next : {run after : Run} → Advance ns run after → Plain run → Plain after
  plain-next (Advance.ends i) v = record { names = v.names.1; statics-named = v.statics-named }
  plain-next (Advance.fires_static {k = k} {a = a} {s = s} {past = past} i) v =
      record { names = v.names.1; statics-named = event-named a s past (λ l. (k, a, i)) v.statics-named }
  plain-next (Advance.fires_name {a = a} {n = n} {r = r} {past = past} i e) v = record {
    names = v.names.1;
    statics-named = event-named a r past (λ l. absurd (let b = v.names.0 n r e in omega arith)) v.statics-named;
  }
  plain-next (Advance.sequences i) v = record { names = (v.names.0, (v.names.0, v.names.1)); statics-named = v.statics-named }
  plain-next (Advance.chooses_left i) v = record { names = v.names; statics-named = v.statics-named }
  plain-next (Advance.chooses_right i) v = record { names = v.names; statics-named = v.statics-named }
  plain-next (Advance.enters i) v = record { names = v.names; statics-named = v.statics-named }
  plain-next (Advance.repeats i) v = record { names = v.names; statics-named = v.statics-named }
  plain-next (Advance.creates {n = n} {r = r} {past = past} i big unseen) v = record {
    names = (dynamic-give n r big v.names.0, v.names.1);
    statics-named = event-named create r past (λ l. absurd (omega arith)) v.statics-named;
  }
  plain-next (Advance.opens {p = s} {past = past} i) v =
      record { names = (v.names.0, v.names.1); statics-named = λ t l o. v.statics-named t l (occurs-opening t s past o) }
  plain-next (Advance.closes {p = s} {past = past}) v =
      record { names = v.names; statics-named = λ t l o. v.statics-named t l (occurs-closing t s past o) }

  plain : {run : Run} → Runs ns run → Plain run
  plain Runs.started = record { names = (λ m r e. absurd (none-ne-some r e), tt); statics-named = λ s l o. absurd (occurs-none s o) }
  plain (Runs.moved rs m) = plain-next m (plain rs)

  pub static-named : {past : Past} → IsTrace ns past → (s : ℕ) → s < statics → Occurs s past → NamedBy ns s
  static-named t s l o = (plain t.1).statics-named s l o

-- ── The account, with the others left out ──

module _ (local : Bool) (es : List Edge) (ns : List Node) (scope : ℕ → ℕ → Type 0) (p : ℕ) (edges : EdgesOk es)
    (outline : Scoped ns scope) where
  -- each of these resources occurs, or is a dynamic one
  told-worth : {past : Past} {xs : List ℕ} (role : ℕ → ℕ) → IsTrace ns past → Stands xs role → (ys : List ℕ)
      → Told past (bound past) (bound-new past) ys → Worth ns (map role ys)
  told-worth {past} role t h [] d u m l = absurd (Memᴰ.not-nil m)
  told-worth {past} role t h (y ∷ ys) (more o d) u m l = go (Memᴰ.cases_cons m) (λ i. told-worth role t h ys d u i l)
    where
      low : u ≡ role y → Dec (y < statics) → y ≡ u
      low e (yes k) = sym (e ∙ h.static y k)
      low e (no k) = absurd (let b = h.dynamic y (omega arith) in omega arith)

      here : y ≡ u → Occurs y past ⊎ (y ≡ bound past) → NamedBy ns u
      here e (inl i) = subst (NamedBy ns) e (static-named ns t y (omega arith) i)
      here e (inr i) = absurd (let b = bound-dynamic past in omega arith)

      go : (u ≡ role y) ⊎ Memᴰ u (map role ys) → (Memᴰ u (map role ys) → NamedBy ns u) → NamedBy ns u
      go (inl e) ih = here (low e (dec_lt y statics)) o
      go (inr i) ih = ih i

  pub exact-worth : (n : ℕ) (last : Last)
      → LeavesBy local es ns p n last ↔ ((us : List ℕ) × Chosen es p us × Worth ns us × Hits local es ns p (views us) n last)
  exact-worth n last = (to, λ h. (exact-by local es ns scope p edges outline n last).1 (h.0, h.1, h.3))
    where
      to : LeavesBy local es ns p n last → (us : List ℕ) × Chosen es p us × Worth ns us × Hits local es ns p (views us) n last
      to l =
          let past = l.step ∷ l.past in
          let (o, b) = l.violates in
          let (xs, i, d, (q, m, f)) = (broken-among past (bound past) (bound-new past) local es p).0 b in (
            map (cast i).role xs,
            (cast i).chosen,
            told-worth (cast i).role l.trace (cast i).stands xs d,
            subst (λ (t : ℕ). Hits local es ns p (views (map (cast i).role xs)) t last) l.steps
                (sound-at local es ns scope p edges outline l.made l.trace o i m f),
          )

  -- so no others need be searched to tell whether p is ever left open and not respected, and after how many steps at the least
  pub shortest-worth : (past : Past) → IsTrace ns past → Violates local es p past
      → (m : ℕ) × (m ≤ length past) × (us : List ℕ) × Chosen es p us × Worth ns us × (last : Last) × Hits local es ns p (views us) m last
  shortest-worth past t v =
      let (m, l, last, b) = brought-about local es ns p past t v in
      let (us, c, w, h) = (exact-worth m last).0 b in
      (m, l, us, c, w, last, h)
