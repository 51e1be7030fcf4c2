-- The desk that bytes encode, part by part.
use Prim.Native.Nat.{ℕ, ◌+◌, ◌-◌, ◌*◌, ◌<◌, ◌≤◌}
use mathlib.Core.Path.{◌≡◌, refl, ap, ◌∙◌}
use mathlib.Core.Bool.{Bool}
use mathlib.Core.Option.{some}
use mathlib.Core.List.{List}
use native.Mathlib.Omega.{arith}
use lib.ListN.{length, take, drop}
use lib.Seq.{length-take-le, get_or-take}
use Rattle.usage.specs.declared.RawStep.{RawStep}
use Rattle.usage.specs.Limits.{policies, most_edges, most_nodes, edge_fields, node_fields, edge_places, node_places}
use Rattle.usage.proofs.TableLaws.{is-from, length_from, get_d-from}
use Rattle.usage.specs.Past.{Step}
use Rattle.usage.specs.Judge.{step_of}
use Rattle.automaton.specs.Mask.{has}
use Rattle.monitor_state.specs.declared.Sizes.{Sizes}
use Rattle.monitor_state.specs.Lent.{state_of}
use Rattle.monitor_state.specs.Looked.{judge_by, judge_sized, looked_at}
use Rattle.monitor_state.proofs.LookedLaws.{sized-by, sized-alike}
use Rattle.desk.specs.declared.Head.{Head}
use Rattle.desk.specs.Layout.{desk_bytes, edges_at, nodes_at, numbers_in, bytes_in, byte_at}
use Rattle.desk.specs.declared.Held.{Held}
use Rattle.desk.specs.JudgeBytes.{held_in_lem, pairs_in, lent_by, sizes_in_lem, judge_in}
use Rattle.desk.specs.State.{edges_in, nodes_in, local_in, summary_in, looks_of}
use Rattle.desk_positions.proofs.CopyLaws.{slice_is}
use Rattle.desk.proofs.JudgeByteLaws.{pairs-long}

-- ── The tables that are lent ──

pub edges_lent : (b : List ℕ) (h : Head) → desk_bytes ≤ length b → h.edges ≤ most_edges
    → take (edges_at + edge_fields * h.edges - edges_at) (drop edges_at b) ≡ edges_in b h
unfolding edges_in
edges_lent b h l k = slice_is b edges_at (edge_fields * h.edges) (edges_at + edge_fields * h.edges) refl (omega arith)

pub nodes-lent : (b : List ℕ) (h : Head) → desk_bytes ≤ length b → h.nodes ≤ most_nodes
    → take (nodes_at + node_fields * h.nodes - nodes_at) (drop nodes_at b) ≡ nodes_in b h
unfolding nodes_in
nodes-lent b h l k = slice_is b nodes_at (node_fields * h.nodes) (nodes_at + node_fields * h.nodes) refl (omega arith)

-- the nodes and the edges in tables of their own
first-of : (b : List ℕ) (place n m k : ℕ) → n ≤ m → k ≡ n → take k (drop 0 (bytes_in place m b)) ≡ bytes_in place n b
unfolding numbers_in
first-of b place n m k h e =
    is-from (λ i. byte_at b (place + 1 * i)) 0 n (take k (drop 0 (bytes_in place m b)))
    (length-take-le k (bytes_in place m b) (let z = length_from (λ i. byte_at b (place + 1 * i)) 0 m in omega arith) ∙ e)
    (λ i x. get_or-take k (bytes_in place m b) i 0 (omega arith) ∙ get_d-from (λ i. byte_at b (place + 1 * i)) 0 m i 0 (omega arith)
    ∙ ap (λ (j : ℕ). byte_at b (place + 1 * j)) (let z : 0 + i ≡ i = omega arith in z))

pub nodes-got : (b : List ℕ) (h : Head) (t : List ℕ) (k : ℕ) → h.nodes ≤ most_nodes → t ≡ bytes_in nodes_at node_places b
    → k ≡ node_fields * h.nodes → take k (drop 0 t) ≡ nodes_in b h
unfolding nodes_in
nodes-got b h t k l f e = rw f (first-of b nodes_at (node_fields * h.nodes) node_places k (omega arith) e)

pub edges-got : (b : List ℕ) (h : Head) (t : List ℕ) (k : ℕ) → h.edges ≤ most_edges → t ≡ bytes_in edges_at edge_places b
    → k ≡ edge_fields * h.edges → take k (drop 0 t) ≡ edges_in b h
unfolding edges_in
edges-got b h t k l f e = rw f (first-of b edges_at (edge_fields * h.edges) edge_places k (omega arith) e)

-- ── The judge that is asked ──

pub judged-by : (b : List ℕ) (h : Head) (step : RawStep) (lean : Bool) (looked : ℕ) (edges : List ℕ) (held : Held) (pairs : List ℕ) (z : Sizes)
    → ((read : Step) → step_of step ≡ some read → (p : ℕ) → p < policies → has looked p ≡ looks_of lean (summary_in b) read p)
    → edges ≡ edges_in b h → held ≡ held_in_lem b → pairs ≡ pairs_in b → z ≡ sizes_in_lem h
    → judge_sized (looked_at looked) edges (local_in h) (state_of (lent_by held pairs) z) step
    ≡ judge_by (looks_of lean (summary_in b)) (edges_in b h) (local_in h) (judge_in b h) step
unfolding judge_in
judged-by b h step lean looked edges held pairs z alike e f g i =
    rw (e, f, g, i) (sized-alike (looked_at looked) (looks_of lean (summary_in b)) (edges_in b h) (local_in h) _ step alike
    ∙ sized-by (looks_of lean (summary_in b)) (edges_in b h) (local_in h) _ step (pairs-long b))
