-- The test of what the tables have room for says what the rules say, and the nodes of an accepted outline pass it.
use Prim.Native.Nat.{ℕ, ◌/◌, ◌<◌}
use mathlib.Core.Path.{◌≡◌, refl, sym, ap, ◌∙◌, subst}
use mathlib.Core.Bool.{Bool, true, false, not, ◌&&◌, cond}
use mathlib.Core.Option.{Option, none, some}
use mathlib.Core.List.{List}
use native.Mathlib.Omega.{arith}
use lib.Dec.{ltb, leb}
use lib.ListN.{length, replicate}
use borrow.Author.Tests.{ltb-true, lt-ltb, leb-true, le-leb}
use Rattle.usage.specs.Limits.{actions, most_nodes, node_fields}
use Rattle.usage.specs.Outline.{Form, end, static_event, named_event, sequence, choice, loop, back, fresh, sandbox}
use Rattle.usage.specs.Valid.{OutlineOk}
use Rattle.usage.specs.Tables.{node_at_lem, nodes_of}
use Rattle.usage.specs.Tests.{some_below}
use Rattle.usage.proofs.Logic.{and_left, and_right, and_both, false-true, not-true}
use Rattle.usage.proofs.FormLaws.{FormOk, formed}
use Rattle.usage.proofs.TableLaws.{nodes-length, nodes-member}
use Rattle.automaton.proofs.MaskLaws.{some_at, some-found}
use Rattle.outline_nodes.specs.declared.NodeForm.{NodeForm}
use Rattle.outline_nodes.specs.Said.{said_by}
use Rattle.checker_account.specs.Single.{no_name}
use Rattle.checker_account.specs.Filling.{forms_in}
use Rattle.checker_tables.specs.Search.{Small, small, NodesFit, has_room}
use Rattle.checker_tables.specs.Work.{readers_of, readers_in}

-- ── One node ──

-- two numbers, each with its own bound
both-lt : (a m b n : ℕ) → (ltb a m && ltb b n) ≡ true → (a < m) × (b < n)
both-lt a m b n h = (ltb-true a m (and_left (ltb a m) _ h), ltb-true b n (and_right (ltb a m) _ h))

lt_both : (a m b n : ℕ) → (a < m) × (b < n) → (ltb a m && ltb b n) ≡ true
lt_both a m b n h = and_both (ltb a m) _ (lt-ltb a m h.0) (lt-ltb b n h.1)

pub small-rule : (f : Option Form) → small f ≡ true → Small f
unfolding small
small-rule none h = tt
small-rule (some end) h = tt
small-rule (some (static_event a s)) h = ltb-true a actions h
small-rule (some (named_event a n)) h = ltb-true a actions h
small-rule (some (sequence a b)) h = both-lt a most_nodes b most_nodes h
small-rule (some (choice a b)) h = both-lt a most_nodes b most_nodes h
small-rule (some (loop a)) h = ltb-true a most_nodes h
small-rule (some (back a)) h = ltb-true a most_nodes h
small-rule (some (fresh n b)) h = both-lt n no_name b most_nodes h
small-rule (some (sandbox s b)) h = ltb-true b most_nodes h

small-test : (f : Option Form) → Small f → small f ≡ true
unfolding small
small-test none h = refl
small-test (some end) h = refl
small-test (some (static_event a s)) h = lt-ltb a actions h
small-test (some (named_event a n)) h = lt-ltb a actions h
small-test (some (sequence a b)) h = lt_both a most_nodes b most_nodes h
small-test (some (choice a b)) h = lt_both a most_nodes b most_nodes h
small-test (some (loop a)) h = lt-ltb a most_nodes h
small-test (some (back a)) h = lt-ltb a most_nodes h
small-test (some (fresh n b)) h = lt_both n no_name b most_nodes h
small-test (some (sandbox s b)) h = lt-ltb b most_nodes h

-- a node of nodes that fit
pub form-small : {t : List ℕ} → NodesFit t → (k : ℕ) → k < length t / node_fields → (f : NodeForm) → said_by f ≡ forms_in t k
    → small (said_by f) ≡ true
form-small {t} fit k l f e = ap small e ∙ small-test (forms_in t k) (fit.each_small k l)

-- ── All of them ──

module _ (t : List ℕ) where
  abbrev big : ℕ → Bool
  big k = not (small (forms_in t k))

  pub fits-rule : has_room t ≡ true → NodesFit t
  unfolding has_room
  fits-rule h =
      record { few = leb-true n most_nodes (and_left (leb n most_nodes) _ h); each_small = λ k l. go k l (small (forms_in t k)) refl }
    where
      n : ℕ
      n = length t / node_fields

      none-big : some_below big (length t / node_fields) ≡ false
      none-big = not-true (some_below big (length t / node_fields)) (and_right (leb (length t / node_fields) most_nodes) _ h)

      go : (k : ℕ) → k < length t / node_fields → (b : Bool) → small (forms_in t k) ≡ b → Small (forms_in t k)
      go k l true e = small-rule (forms_in t k) e
      go k l false e = false-true (sym none-big ∙ some_at (length t / node_fields) big k l (ap not e))

  -- they pass it
  pub fits-test : NodesFit t → has_room t ≡ true
  unfolding has_room
  fits-test f =
      and_both (leb (length t / node_fields) most_nodes) _ (le-leb (length t / node_fields) most_nodes f.few)
      (ap not (none-big (some_below big (length t / node_fields)) refl))
    where
      none-big : (b : Bool) → some_below big (length t / node_fields) ≡ b → b ≡ false
      none-big false e = refl
      none-big true e =
          let (k, l, g) = some-found (length t / node_fields) big e in
          sym (small-test (forms_in t k) (f.each_small k l)) ∙ not-true (small (forms_in t k)) g

  pub readers-fit : NodesFit t → readers_in t ≡ readers_of (length t / node_fields) (forms_in t)
  readers-fit f = ap (λ (b : Bool). cond b (readers_of (length t / node_fields) (forms_in t)) (replicate most_nodes 0)) (fits-test f)

-- ── The nodes of an accepted outline ──

form_small : (f : Form) → FormOk f → Small (some f)
form_small end h = tt
form_small (static_event a s) h = h.1
form_small (named_event a n) h = h.1
form_small (sequence a b) h = h
form_small (choice a b) h = h
form_small (loop a) h = h
form_small (back a) h = h
form_small (fresh n b) h = h
form_small (sandbox s b) h = h.1

module _ (t : List ℕ) (ok : OutlineOk (nodes_of t)) where
  small-nodes : (k : ℕ) → k < length t / node_fields → Small (forms_in t k)
  small-nodes k l =
      let n = node_at_lem t k in
      let (f, e, g) = formed n (ok.fields n ((nodes-member t n).1 (k, l, refl))) in
      subst Small (sym e) (form_small f g)

  pub outline-fits : has_room t ≡ true
  outline-fits = fits-test t (record { few = let l = ok.few in let n = nodes-length t in omega arith; each_small = small-nodes })
