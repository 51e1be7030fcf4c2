-- The desk answers as a full judge that is started at the load, and tells which judge answered.
use Prim.Native.Nat.{ℕ, zero, ◌<◌, ◌≤◌}
use mathlib.Core.Path.{◌≡◌, refl, sym, ap, ap₂, ◌∙◌, subst}
use mathlib.Core.Bool.{Bool, true, false}
use mathlib.Core.Option.{Option, none, some}
use mathlib.Core.List.Memᴰ
use mathlib.Core.List.{List, [], ◌∷◌, map, flatten, Memᴰ}
use mathlib.Core.Logic.{◌⊎◌, inl, inr, ◌↔◌}
use native.Mathlib.Omega.{arith}
use Rattle.usage.specs.declared.Edge.{Edge}
use Rattle.usage.specs.declared.Node.{Node}
use Rattle.usage.specs.declared.RawStep.{RawStep}
use Rattle.usage.specs.Limits.{statics, create, edge_places, node_places}
use Rattle.usage.specs.Past.{Step, event, opening, closing, retiring, Past, Occurs, Created}
use Rattle.usage.specs.Answers.{Verdict, allowed, violated, refused}
use Rattle.usage.specs.Judge.{step_of, then, Taken, creates_static, not_above, Judged, past_after, halted_after}
use Rattle.usage.specs.Judge as judge
use Rattle.usage.specs.Retirings.{thinned}
use Rattle.usage.specs.Outline.{IsTrace}
use Rattle.usage.specs.Valid.{OutlineOk}
use Rattle.usage.specs.Tests.{every}
use Rattle.usage.specs.Tables.{edges_of, nodes_of, is_edge_table, is_node_table}
use Rattle.usage.proofs.Logic.{clash, false-true}
use Rattle.usage.proofs.PastLaws.{occurs-none, occurs-event, occurs-opening, occurs-closing}
use Rattle.usage.proofs.RetiringLaws.{created-below}
use Rattle.usage.proofs.ThinnedLaws.{thinned-highest}
use Rattle.usage.proofs.TraceLaws.{StepOk, PastOk, trace-tail, trace-ok}
use Rattle.usage.proofs.TableLaws.{decides-node-table}
use Rattle.usage.specs.declared.Reason.{Reason}
use Rattle.sheet_lines.specs.Sheets.{is_local}
use Rattle.sheet_reader.proofs.TableLaws.{policies-valid, outline-valid}
use Rattle.monitor_state.specs.declared.State.{State}
use Rattle.monitor_state.specs.declared.Answer.{Answer}
use Rattle.monitor_state.specs.declared.Answer.TheVariants.{Allowed, Violated, Refused}
use Rattle.monitor_state.specs.declared.Judgement.{Judgement}
use Rattle.monitor_state.specs.Judge.{verdict_of, judge_of, answers_of, start_state}
use Rattle.monitor_state.specs.Represents.{Represents}
use Rattle.monitor_state.specs.Promise.{Promised}
use Rattle.monitor_state.proofs.StartLaws.{begin-represents}
use Rattle.monitor_state.proofs.Verdict.{judge-promised}
use Rattle.monitor_state.proofs.KeptLaws.{refused-kept}
use Rattle.monitor_lean.specs.Lean.{Summary, judge_by}
use Rattle.checker.specs.Summary.{Exact}
use Rattle.monitor_state.proofs.LookedLaws.{full-looks-at-all}
use Rattle.monitor_lean.proofs.LeanLaws.{Clean, lean-step, clean-next, clean-start, thinned-covers}
use Rattle.desk_positions.specs.Closure.{added_all, spread}
use Rattle.desk_positions.specs.Positions.{Position, Fresh, stride_all, settled_from, start_positions, next_positions, Lists, Told}
use Rattle.desk_positions.proofs.PositionLaws.{told-start, told-next, trace-strides, strides-trace, lists-trace, lists-stray, lists-within}
use Rattle.desk_positions.specs.Positions.{is_any}
use Rattle.desk.specs.Desk.{Outlined, Loaded, Desk, on_positions, stays_on, looks_by, positions_after, outline_after, outline_for}
use Rattle.desk.specs.Desk.{Reply, reply_with, step_loaded, step_desk, replies_of, Reached, zero, by_policies, by_outline, by_step}
use Rattle.desk.specs.Desk.{LoadAnswer, has_policies, has_outline, LoadsPolicies, LoadsOutline}
use Rattle.desk.specs.Promise.{Exceeded, NeverExceeded, Lean, is_refusal_lem, TellsWhich, Replies, done, next, outline_in, FreshDesk}
use Rattle.desk.specs.Promise.{DeskPromise}
use Rattle.desk.specs.Calls.{is_refused}

-- ── Limits ──

not-both : (ns : List Node) (past : Past) → Exceeded ns past → NeverExceeded ns past → ⊥
not-both ns [] e n = n e
not-both ns (s ∷ past) (inl e) (n, ns') = n e
not-both ns (s ∷ past) (inr e) (n, ns') = not-both ns past e ns'

-- ── A create that is not refused is of a resource that is in no step of the trace so far ──

occurs-created : (past : Past) → PastOk past → (r : ℕ) → statics ≤ r → Occurs r past → Created r past
occurs-created [] ok r high o = absurd (occurs-none r o)
occurs-created (event a x ∷ past) (step, ok) r high o = go (occurs-event r a x past o) (occurs-created past ok r high) step
  where
    go : (r ≡ x) ⊎ Occurs r past → (Occurs r past → Created r past) → StepOk (event a x) past → Created r (event a x ∷ past)
    go (inr p) ih s = Memᴰ.tail (ih p)
    go (inl e) ih (inl (c, h, n)) = Memᴰ.head (ap₂ event (sym c) e)
    go (inl e) ih (inr (l, m, inl k)) = absurd (omega arith)
    go (inl e) ih (inr (l, m, inr k)) = Memᴰ.tail (subst (λ (y : ℕ). Created y past) (sym e) k)
occurs-created (opening p ∷ past) (step, ok) r high o = Memᴰ.tail (occurs-created past ok r high (occurs-opening r p past o))
occurs-created (closing p ∷ past) (step, ok) r high o = Memᴰ.tail (occurs-created past ok r high (occurs-closing r p past o))
occurs-created (retiring x ∷ past) (step, ok) r high o = absurd step

-- The trace is what was not refused without its retirings, and the number is above all that were created before.
taken-fresh : (ns : List Node) → OutlineOk ns → (past : Past) → IsTrace ns (thinned past) → (h : Bool) (raw : RawStep) (step : Step)
    → step_of raw ≡ some step → Taken past h raw → Fresh step (thinned past)
taken-fresh ns ok past tr h raw step e k r is o =
    let e₁ : step_of raw ≡ some (event create r) = e ∙ ap some is in
    let high : statics ≤ r = high-of (λ l. k 22 (creates_static e₁ l)) in
    let made : Created r (thinned past) = occurs-created (thinned past) (trace-ok ns ok {past = thinned past} tr) r high o in
    k 27 (not_above e₁ (subst (λ (n : ℕ). r ≤ n) (thinned-highest past) (created-below r (thinned past) made)))
  where
    high-of : {r : ℕ} → (r < statics → ⊥) → statics ≤ r
    high-of n = omega arith

-- ── What holds of a desk's outline after the steps since the load ──

abbrev pub PositionsFit : List Node → Past → Option (List Position) → Type 0
PositionsFit ns past none = Exceeded ns past
PositionsFit ns past (some l) = Lists ns past l × NeverExceeded ns past

abbrev pub OutlineFit : Bool → List Edge → Past → Option Outlined → Type 0
OutlineFit local es past none = Unit {0}
OutlineFit local es past (some u) =
    OutlineOk (nodes_of u.nodes) × Exact local es (nodes_of u.nodes) u.summary
    × PositionsFit (nodes_of u.nodes) (thinned past) u.positions

pub record Fit (d : Loaded) (past : Past) (h : Bool) : Type 0 where
  pub edges : is_edge_table d.edges ≡ true
  pub judge : Represents d.local (edges_of d.edges) past h d.judge
  pub clean : h ≡ false → Clean d.local (edges_of d.edges) past
  pub outline : OutlineFit d.local (edges_of d.edges) past d.outline

-- ── The positions after a step that was allowed ──

pub stray-next : (ns : List Node) (step : Step) → next_positions ns step [] ≡ some []
unfolding settled_from stride_all spread added_all every
stray-next ns step = refl

stray-lists : {ns : List Node} {step : Step} {past : Past} → Lists ns past [] → Lists ns (step ∷ past) []
stray-lists {ns} {step} {past} w = record {
  sound = λ c m. absurd (Memᴰ.not-nil m);
  full = λ parts held. absurd (lists-stray w (trace-tail {s = step} {past = past} (parts, held)));
  well = λ c m. absurd (Memᴰ.not-nil m);
  different = tt;
  few = omega arith;
  brief = λ c m. absurd (Memᴰ.not-nil m);
}

any-member : (l : List Position) → is_any l ≡ true → (d : Position) × Memᴰ d l
any-member [] e = false-true e
any-member (c ∷ l) e = (c, Memᴰ.head refl)

member-any : (l : List Position) (d : Position) → Memᴰ d l → is_any l ≡ true
member-any [] d m = absurd (Memᴰ.not-nil m)
member-any (c ∷ l) d m = refl

-- A step that is no retiring, over the past without its retirings.
module _ (ns : List Node) (ok : OutlineOk ns) (past : Past) (step : Step) (new : IsTrace ns past → Fresh step past) where
  told_fit : (o : Option (List Position)) → Told ns (step ∷ past) o → NeverExceeded ns past → PositionsFit ns (step ∷ past) o
  told_fit none e n = inl e
  told_fit (some l) w n = (w, (λ e. lists-within w e, n))

  listed-fit : (l : List Position) → PositionsFit ns past (some l) → PositionsFit ns (step ∷ past) (next_positions ns step l)
  listed-fit [] (w, n) = subst (PositionsFit ns (step ∷ past)) (sym (stray-next ns step)) (told_fit (some []) (stray-lists {step = step} w) n)
  listed-fit (c ∷ l) (w, n) =
      told_fit (next_positions ns step (c ∷ l)) (told-next ns ok step past (c ∷ l) w (new (lists-trace c l w))) n

  strides-on : (l : List Position) → PositionsFit ns past (some l) → is_any (stride_all ns step l) ≡ true → IsTrace ns (step ∷ past)
  unfolding stride_all
  strides-on [] (w, n) q = false-true q
  strides-on (c ∷ l) (w, n) q =
      let (d, m) = any-member (stride_all ns step (c ∷ l)) q in
      strides-trace ns ok step past (c ∷ l) w (new (lists-trace c l w)) d m

  on-strides : (l : List Position) → PositionsFit ns past (some l) → IsTrace ns (step ∷ past) → is_any (stride_all ns step l) ≡ true
  on-strides l (w, k) t = let (d, m) = trace-strides ns ok step past l w t in member-any (stride_all ns step l) d m

-- the routine is on the outline exactly where a position is listed
any-trace : (ns : List Node) (past : Past) (l : List Position) → PositionsFit ns past (some l) → is_any l ≡ true → IsTrace ns past
any-trace ns past [] (w, n) q = false-true q
any-trace ns past (c ∷ l) (w, n) q = lists-trace c l w

trace-any : (ns : List Node) (past : Past) (l : List Position) → PositionsFit ns past (some l) → IsTrace ns past → is_any l ≡ true
trace-any ns past [] (w, n) t = absurd (lists-stray w t)
trace-any ns past (c ∷ l) (w, n) t = refl

module _ (ns : List Node) (ok : OutlineOk ns) (past : Past) (h : Bool) (raw : RawStep) where
  -- what a step that is taken asks of positions, and what it leaves
  new-on : (step : Step) → step_of raw ≡ some step → Taken past h raw → IsTrace ns (thinned past) → Fresh step (thinned past)
  new-on step reads taken tr = taken-fresh ns ok past tr h raw step reads taken

  positions-fit : (step : Step) → step_of raw ≡ some step → Taken past h raw → (o : Option (List Position)) → PositionsFit ns (thinned past) o
      → PositionsFit ns (thinned (step ∷ past)) (positions_after ns o (some step))
  unfolding thinned
  positions-fit (event a r) reads taken none e = inr e
  positions-fit (opening p) reads taken none e = inr e
  positions-fit (closing p) reads taken none e = inr e
  positions-fit (retiring r) reads taken none e = e
  positions-fit (event a r) reads taken (some l) f = listed-fit ns ok (thinned past) (event a r) (new-on (event a r) reads taken) l f
  positions-fit (opening p) reads taken (some l) f = listed-fit ns ok (thinned past) (opening p) (new-on (opening p) reads taken) l f
  positions-fit (closing p) reads taken (some l) f = listed-fit ns ok (thinned past) (closing p) (new-on (closing p) reads taken) l f
  positions-fit (retiring r) reads taken (some l) f = f

  -- ── Which judge ──

  on-listed : (step : Step) → step_of raw ≡ some step → Taken past h raw → (l : List Position) → PositionsFit ns (thinned past) (some l)
      → on_positions ns (some l) (some step) ≡ true → IsTrace ns (thinned (step ∷ past))
  unfolding thinned
  on-listed (event a r) reads taken l f q = strides-on ns ok (thinned past) (event a r) (new-on (event a r) reads taken) l f q
  on-listed (opening p) reads taken l f q = strides-on ns ok (thinned past) (opening p) (new-on (opening p) reads taken) l f q
  on-listed (closing p) reads taken l f q = strides-on ns ok (thinned past) (closing p) (new-on (closing p) reads taken) l f q
  on-listed (retiring r) reads taken l f q = any-trace ns (thinned past) l f q

  on-trace : (step : Step) → step_of raw ≡ some step → Taken past h raw → (o : Option (List Position)) → PositionsFit ns (thinned past) o
      → on_positions ns o (some step) ≡ true → IsTrace ns (thinned (step ∷ past))
  on-trace step reads taken none f q = false-true q
  on-trace step reads taken (some l) f q = on-listed step reads taken l f q

  on-never : (step : Step) (o : Option (List Position)) → PositionsFit ns (thinned past) o → on_positions ns o (some step) ≡ true
      → NeverExceeded ns (thinned past)
  on-never step none e q = false-true q
  on-never step (some l) (w, n) q = n

  listed-on : (step : Step) → step_of raw ≡ some step → Taken past h raw → (l : List Position) → PositionsFit ns (thinned past) (some l)
      → IsTrace ns (thinned (step ∷ past)) → on_positions ns (some l) (some step) ≡ true
  unfolding thinned
  listed-on (event a r) reads taken l f t = on-strides ns ok (thinned past) (event a r) (new-on (event a r) reads taken) l f t
  listed-on (opening p) reads taken l f t = on-strides ns ok (thinned past) (opening p) (new-on (opening p) reads taken) l f t
  listed-on (closing p) reads taken l f t = on-strides ns ok (thinned past) (closing p) (new-on (closing p) reads taken) l f t
  listed-on (retiring r) reads taken l f t = trace-any ns (thinned past) l f t

  trace-on : (step : Step) → step_of raw ≡ some step → Taken past h raw → (o : Option (List Position)) → PositionsFit ns (thinned past) o
      → IsTrace ns (thinned (step ∷ past)) → NeverExceeded ns (thinned past) → on_positions ns o (some step) ≡ true
  trace-on step reads taken none e t n = absurd (not-both ns (thinned past) e n)
  trace-on step reads taken (some l) f t n = listed-on step reads taken l f t

-- ── One step ──

module _ (d : Loaded) (past : Past) (h : Bool) (F : Fit d past h) (raw : RawStep) where
  abbrev es : List Edge
  es = edges_of d.edges

  abbrev full : Judgement
  full = judge_of d.edges d.local d.judge raw

  promised : Promised d.local es past h d.judge raw full
  promised = judge-promised d.edges F.edges d.local past h d.judge F.judge raw

  -- the judge that is asked answers as the full one
  same_by : (u : Option Outlined) → OutlineFit d.local es past u → (lean : Bool) → stays_on u (step_of raw) ≡ lean
      → judge_by (looks_by lean u) d.edges d.local d.judge raw ≡ full
  unfolding stays_on
  same_by none f lean e = full-looks-at-all d.edges d.local d.judge raw
  same_by (some u) f false e = full-looks-at-all d.edges d.local d.judge raw
  same_by (some u) (ok, exact, fit) true e =
      lean-step d.edges F.edges d.local u.summary past h d.judge F.judge F.clean raw
      (λ step reads taken. thinned-covers d.edges F.edges d.local (nodes_of u.nodes) ok u.summary exact step past
      (on-trace (nodes_of u.nodes) ok past false raw step reads taken u.positions fit
      (ap (on_positions (nodes_of u.nodes) u.positions) (sym reads) ∙ e)))

  reply-is : step_loaded d raw ≡ reply_with d (step_of raw) (stays_on d.outline (step_of raw)) full
  unfolding step_loaded
  reply-is =
      ap (reply_with d (step_of raw) (stays_on d.outline (step_of raw)))
      (same_by d.outline F.outline (stays_on d.outline (step_of raw)) refl)

  -- a refused step leaves the desk as it was
  pub refused-keeps : is_refused (verdict_of (step_desk (some d) raw).answer) ≡ true → (step_desk (some d) raw).desk ≡ some d
  refused-keeps e =
      ap (λ (r : Reply). r.desk) reply-is
      ∙ go full.answer refl (sym (ap (λ (r : Reply). is_refused (verdict_of r.answer)) reply-is) ∙ e)
    where
      go : (a : Answer Reason) → full.answer ≡ a → is_refused (verdict_of a) ≡ true
          → (reply_with d (step_of raw) (stays_on d.outline (step_of raw)) full).desk ≡ some d
      go Allowed q x = false-true x
      go (Violated p) q x = false-true x
      go (Refused n) q x =
          ap₂ (λ (u : Option Outlined) (s : State). some record { edges = d.edges; local = d.local; outline = u; judge = s })
          (ap (λ (a : Answer Reason). outline_for a d.outline (step_of raw)) q) (refused-kept d.edges d.local d.judge raw n q)

  -- the desk after it
  abbrev later : Loaded
  later = record {
    edges = d.edges;
    local = d.local;
    outline = outline_for full.answer d.outline (step_of raw);
    judge = full.state;
  }

  outline-after : (v : Verdict) → Judged d.local es past h raw v → (u : Option Outlined) → OutlineFit d.local es past u → v ≡ allowed
      → OutlineFit d.local es (then (step_of raw) past) (outline_after u (step_of raw))
  outline-after v j none f e = tt
  outline-after _ (judge.is_refused_with r) (some u) f e = clash (cc)
  outline-after _ (judge.is_violated k g x l) (some u) f e = clash (cc)
  outline-after _ (judge.is_allowed {step} k g x) (some u) (ok, exact, fit) e =
      subst (λ (o : Option Step). OutlineFit d.local es (then o past) (outline_after (some u) o)) (sym g)
      (ok, exact, positions-fit (nodes_of u.nodes) ok past h raw step g k u.positions fit)

  outline-fit : (a : Answer Reason) → Judged d.local es past h raw (verdict_of a)
      → OutlineFit d.local es (past_after past raw (verdict_of a)) (outline_for a d.outline (step_of raw))
  outline-fit Allowed j = outline-after allowed j d.outline F.outline refl
  outline-fit (Violated p) j = F.outline
  outline-fit (Refused n) j = F.outline

  pub later-fit : Fit later (past_after past raw (verdict_of full.answer)) (halted_after h (verdict_of full.answer))
  later-fit = record {
    edges = F.edges;
    judge = promised.state;
    clean = clean-next d.edges F.edges d.local past h d.judge F.judge F.clean raw (verdict_of full.answer) promised.answer;
    outline = outline-fit full.answer promised.answer;
  }

  -- a step that is not refused was taken
  taken_of : (a : Answer Reason) → Judged d.local es past h raw (verdict_of a) → is_refusal_lem a ≡ false → Taken past h raw
  taken_of a j e = go (verdict_of a) j (not-refused a e)
    where
      Plain : Verdict → Type 0
      Plain allowed = Unit {0}
      Plain (violated p) = Unit {0}
      Plain (refused n) = ⊥

      not-refused : (a : Answer Reason) → is_refusal_lem a ≡ false → Plain (verdict_of a)
      not-refused Allowed e = tt
      not-refused (Violated p) e = tt
      not-refused (Refused n) e = false-true (sym e)

      go : (v : Verdict) → Judged d.local es past h raw v → Plain v → Taken past h raw
      go _ (judge.is_refused_with r) p = absurd p
      go _ (judge.is_violated k g x l) p = k
      go _ (judge.is_allowed k g x) p = k

  which : (u : Option Outlined) → OutlineFit d.local es past u → (step : Step) → step_of raw ≡ some step → Taken past h raw
      → (stays_on u (step_of raw) ≡ true) ↔ Lean (outline_in u) past step
  unfolding stays_on
  which none f step reads taken = (λ e. false-true e, λ l. absurd l)
  which (some u) (ok, exact, fit) step reads taken =
      let ns = nodes_of u.nodes in
      let on : on_positions ns u.positions (step_of raw) ≡ on_positions ns u.positions (some step) =
      ap (on_positions ns u.positions) reads in (
        λ e. (
          on-trace ns ok past h raw step reads taken u.positions fit (sym on ∙ e),
          on-never ns ok past h raw step u.positions fit (sym on ∙ e),
        ),
        λ l. on ∙ trace-on ns ok past h raw step reads taken u.positions fit l.0 l.1,
      )

  pub step-tells : TellsWhich (outline_in d.outline) past raw (reply_with d (step_of raw) (stays_on d.outline (step_of raw)) full)
  step-tells plain step reads = which d.outline F.outline step reads (taken_of full.answer promised.answer plain)

-- the outline stays the one that was loaded
outline-kept : (a : Answer Reason) (u : Option Outlined) (o : Option Step) → outline_in (outline_for a u o) ≡ outline_in u
outline-kept Allowed none o = refl
outline-kept Allowed (some u) o = refl
outline-kept (Violated p) u o = refl
outline-kept (Refused n) u o = refl

-- ── Many steps ──

pub steps-answered : (raws : List RawStep) (d : Loaded) (past : Past) (h : Bool) → Fit d past h
    → map (λ (r : Reply). r.answer) (replies_of (some d) raws) ≡ answers_of d.edges d.local d.judge raws
unfolding replies_of answers_of
steps-answered [] d past h F = refl
steps-answered (raw ∷ raws) d past h F =
    ap (λ (r : Reply). r.answer ∷ map (λ (r : Reply). r.answer) (replies_of r.desk raws)) (reply-is d past h F raw)
    ∙ ap (λ (as₁ : List (Answer Reason)). (judge_of d.edges d.local d.judge raw).answer ∷ as₁)
    (steps-answered raws (later d past h F raw) _ _ (later-fit d past h F raw))

pub steps-replied : (raws : List RawStep) (d : Loaded) (past : Past) (h : Bool) → Fit d past h
    → Replies d.local (edges_of d.edges) (outline_in d.outline) past h raws (replies_of (some d) raws)
unfolding replies_of
steps-replied [] d past h F = done
steps-replied (raw ∷ raws) d past h F =
    subst (λ (r : Reply). Replies d.local (edges_of d.edges) (outline_in d.outline) past h (raw ∷ raws) (r ∷ replies_of r.desk raws))
    (sym (reply-is d past h F raw))
    (next (promised d past h F raw).answer (step-tells d past h F raw)
    (subst (λ (o : Option (List Node)). Replies d.local (edges_of d.edges) o
    (past_after past raw (verdict_of (judge_of d.edges d.local d.judge raw).answer))
    (halted_after h (verdict_of (judge_of d.edges d.local d.judge raw).answer)) raws
    (replies_of (some (later d past h F raw)) raws))
    (outline-kept (judge_of d.edges d.local d.judge raw).answer d.outline (step_of raw))
    (steps-replied raws (later d past h F raw) _ _ (later-fit d past h F raw))))

-- ── Loads ──

-- what every desk that is reached is
abbrev pub DeskFit : Desk → Type 0
DeskFit none = Unit {0}
DeskFit (some d) = (past : Past) × (h : Bool) × Fit d past h

policies-fit : (edges : List ℕ) (local : Bool) → is_edge_table edges ≡ true
    → Fit (record { edges = edges; local = local; outline = none; judge = start_state }) [] false
policies-fit edges local ok = record {
  edges = ok;
  judge = begin-represents local (edges_of edges);
  clean = λ e. clean-start local (edges_of edges);
  outline = tt;
}

start-fit : (ns : List Node) (o : Option (List Position)) → Told ns [] o → PositionsFit ns [] o
start-fit ns none e = e
start-fit ns (some l) w = (w, λ e. lists-within w e)

nodes-ok : (t : List ℕ) → is_node_table t ≡ true → OutlineOk (nodes_of t)
nodes-ok t e = ((decides-node-table t).0 e).outline

outline-fits : (edges : List ℕ) (local : Bool) → is_edge_table edges ≡ true → (nodes : List ℕ) → is_node_table nodes ≡ true → (m : Summary)
    → Exact local (edges_of edges) (nodes_of nodes) m
    → Fit (record {
      edges = edges;
      local = local;
      outline = some record { nodes = nodes; summary = m; positions = start_positions (nodes_of nodes) };
      judge = start_state;
    }) [] false
unfolding thinned
outline-fits edges local ok nodes valid m exact = record {
  edges = ok;
  judge = begin-represents local (edges_of edges);
  clean = λ e. clean-start local (edges_of edges);
  outline = (
    nodes-ok nodes valid,
    exact,
    start-fit (nodes_of nodes) (start_positions (nodes_of nodes)) (told-start (nodes_of nodes)
        (nodes-ok nodes valid)),
  );
}

fresh-fit : (d : Loaded) → d.judge ≡ start_state → Fit d [] false → FreshDesk (some d)
fresh-fit d e F = record {
  answers = λ raws. steps-answered raws d [] false F ∙ ap (λ (s : State). answers_of d.edges d.local s raws) e;
  replies = λ raws. steps-replied raws d [] false F;
}

load-policies-fit : {d : Desk} {text : List ℕ} {a : LoadAnswer} {d' : Desk} → DeskFit d → LoadsPolicies d text a d' → DeskFit d'
load-policies-fit f (LoadsPolicies.busy b) = f
load-policies-fit f (LoadsPolicies.no_sheet b e) = f
load-policies-fit {text = text} f (LoadsPolicies.loads {rows} b e) =
    ([], false, policies-fit (flatten rows) (is_local text) (policies-valid edge_places text rows e))

load-outline-fit : {text : List ℕ} {d : Desk} {a : LoadAnswer} {d' : Desk} → LoadsOutline text d a d' → DeskFit d → DeskFit d'
load-outline-fit LoadsOutline.no_policies f = tt
load-outline-fit (LoadsOutline.busy b) f = f
load-outline-fit (LoadsOutline.no_sheet b e) f = f
load-outline-fit {text = text} (LoadsOutline.loads {d} {rows} {v} {m} b e c x) (past, h, F) =
    ([], false, outline-fits d.edges d.local F.edges (flatten rows) (outline-valid node_places text rows e) m x)

step-fit : (d : Desk) (raw : RawStep) → DeskFit d → DeskFit (step_desk d raw).desk
step-fit none raw f = tt
step-fit (some d) raw (past, h, F) =
    subst (λ (r : Reply). DeskFit r.desk) (sym (reply-is d past h F raw)) (_, _, later-fit d past h F raw)

pub reached-fit : {d : Desk} → Reached d → DeskFit d
reached-fit zero = tt
reached-fit (by_policies r l) = load-policies-fit (reached-fit r) l
reached-fit (by_outline r l) = load-outline-fit l (reached-fit r)
reached-fit (by_step {d} raw r) = step-fit d raw (reached-fit r)

-- ── The promise ──

fresh-policies : {d : Desk} {text : List ℕ} {a : LoadAnswer} {d' : Desk} → LoadsPolicies d text a d' → a ≡ has_policies → FreshDesk d'
fresh-policies (LoadsPolicies.busy b) e = clash (cc)
fresh-policies (LoadsPolicies.no_sheet b f) e = clash (cc)
fresh-policies {text = text} (LoadsPolicies.loads {rows} b f) e =
    fresh-fit (record { edges = flatten rows; local = is_local text; outline = none; judge = start_state }) refl
    (policies-fit (flatten rows) (is_local text) (policies-valid edge_places text rows f))

fresh-outline : {text : List ℕ} {d : Desk} {a : LoadAnswer} {d' : Desk} → LoadsOutline text d a d' → DeskFit d → (v : Verdict)
    → a ≡ has_outline v → FreshDesk d'
fresh-outline LoadsOutline.no_policies f v e = clash (cc)
fresh-outline (LoadsOutline.busy b) f v e = clash (cc)
fresh-outline (LoadsOutline.no_sheet b g) f v e = clash (cc)
fresh-outline {text = text} (LoadsOutline.loads {d} {rows} {m = m} b g c x) (past, h, F) v e =
    fresh-fit (record {
      edges = d.edges;
      local = d.local;
      outline = some record { nodes = flatten rows; summary = m; positions = start_positions (nodes_of (flatten rows)) };
      judge = start_state;
    }) refl
    (outline-fits d.edges d.local F.edges (flatten rows) (outline-valid node_places text rows g) m x)

pub desk-promise : DeskPromise
desk-promise = record {
  policies = λ d d' text r l. fresh-policies l refl;
  outline = λ d d' text v r l. fresh-outline l (reached-fit r) v refl;
}
