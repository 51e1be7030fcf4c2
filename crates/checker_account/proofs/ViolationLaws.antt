-- The finite account misses nothing: of a trace that leaves p open and not respected, `Hits` tells, with its last step and its length.
use Prim.Native.Nat.{ℕ, suc, ◌+◌, ◌<◌, ◌≤◌}
use mathlib.Core.Path.{◌≡◌, refl, sym, ◌∙◌, ap, subst}
use mathlib.Core.Bool.{Bool, true}
use mathlib.Core.Option.{some}
use mathlib.Core.List.{List, [], ◌∷◌, map, Memᴰ}
use mathlib.Core.Logic.{◌⊎◌, inl, inr}
use native.Mathlib.Omega.{arith}
use lib.Dec.{eqb, ltb}
use lib.ListN.{length}
use borrow.Author.Tests.{lt-ltb}
use Rattle.usage.specs.declared.Edge.{Edge}
use Rattle.usage.specs.declared.Node.{Node}
use Rattle.usage.specs.Limits.{statics, create}
use Rattle.usage.specs.Policy.{Instance, Sees, Moves, Offending, EdgesOk}
use Rattle.usage.specs.Past.{Step, event, opening, closing, retiring, Past, add_if, count, Open, is_open, reopened, May, Occurs}
use Rattle.usage.specs.Outline.{Is, end, static_event, named_event, sequence, choice, loop, back, fresh, sandbox, Names, no_names, give, Part, node}
use Rattle.usage.specs.Outline.{close, Run, Advance, Runs, IsTrace}
use Rattle.usage.proofs.PastLaws.{before-all, before-event, before-opening, before-closing, occurs-later}
use Rattle.usage.proofs.TraceLaws.{closings-to-run}
use Rattle.checker_account.specs.Account.{others, Goes, Ends, Comes, Last, by_action, by_opening, Hits, Made, an_event, its_opening}
use Rattle.checker_account.specs.Account.{LeavesBy}
use Rattle.checker_account.specs.Views.{no_meaning, stand_in, means_now, dynamics, left_after, New, another, awaited, Chosen, views}
use Rattle.checker_account.specs.Views.{given}
use Rattle.checker_account.proofs.Scoped.{Scoped}
use Rattle.checker_account.proofs.Carry.{carry}
use Rattle.checker_account.proofs.Meaning.{still-left, Means, means-none, means-give, occurs-now, Known, known-none, known_more}
use Rattle.checker_account.proofs.Meaning.{known-give}
use Rattle.checker_account.proofs.Standing.{in-dynamics, Stands, same-stand, map-listed, cast}
use Rattle.checker_account.proofs.Unclosed.{open_more, open-unclosed, open-level}

-- the names of all parts mean what occurs
abbrev Givens : Past → List Part → Type 0
Givens past [] = Unit {0}
Givens past (node k names ∷ rest) = Known past names × Givens past rest
Givens past (close s ∷ rest) = Givens past rest

givens-more : (s : Step) (past : Past) (parts : List Part) → Givens past parts → Givens (s ∷ past) parts
givens-more s past [] h = tt
givens-more s past (node k names ∷ rest) h = (known_more s h.0, givens-more s past rest h.1)
givens-more s past (close t ∷ rest) h = givens-more s past rest h

module _ (local : Bool) (es : List Edge) (ns : List Node) (p : ℕ) (xs : List ℕ) (role : ℕ → ℕ) where
  -- the resources xs are watched, and each resource has its stand-in
  abbrev us : List ℕ
  us = map role xs

  abbrev As : ℕ → ℕ → Type 0
  As d r = d ≡ role r

  -- After i steps node k stands first, with n closings of p after it, in state q; Then holds of what it ends in.
  record Here (i n : ℕ) (c : List ℕ) (q k : ℕ) (names : Names) (Then : ℕ → List ℕ → ℕ → Type 0) : Type 0 where
    w : List ℕ
    means : Means As names w
    comes : Comes local es ns p (views us) i (ltb 0 n) k w c q
    goes : (j t : ℕ) (c' : List ℕ) (q' : ℕ) → t ≡ i + j → Ends local es ns p (views us) j (ltb 0 n) k w c q c' q' → Then t c' q'

  abbrev Stack : List Part → ℕ → List ℕ → ℕ → Type 0
  Stack [] i c q = Unit {0}
  Stack (node k names ∷ rest) i c q = Here i (closings-to-run p rest) c q k names (Stack rest)
  Stack (close s ∷ rest) i c q = Stack rest (suc i) c q

  -- a dynamic resource that does not occur is another than those watched, or it can still be created
  abbrev Left : Past → List ℕ → Type 0
  Left past c = (r : ℕ) → statics ≤ r → (Occurs r past → ⊥) → (role r ≡ others) ⊎ Memᴰ (role r) c

  record At (past : Past) (parts : List Part) (q : ℕ) : Type 0 where
    c : List ℕ
    left : Left past c
    stack : Stack parts (length past) c q

  record Inv (run : Run) : Type 0 where
    known : Givens run.past run.parts
    at : (q : ℕ) → May local es p (Sees xs) run.past q → At run.past run.parts q

  -- what is to be shown of a past, by its newest step
  abbrev Told : Past → Type 0
  Told [] = Unit {0}
  Told (event a r ∷ past) = Open p past → (q : ℕ) → May local es p (Sees xs) (event a r ∷ past) q → Offending q
      → Hits local es ns p (views us) (suc (length past)) (by_action a)
  Told (opening s ∷ past) = s ≡ p → (q : ℕ) → May local es p (Sees xs) (opening s ∷ past) q → Offending q
      → Hits local es ns p (views us) (suc (length past)) by_opening
  Told (closing s ∷ past) = Unit {0}
  Told (retiring r ∷ past) = Unit {0}

  module _ (scope : ℕ → ℕ → Type 0) (edges : EdgesOk es) (outline : Scoped ns scope) (roles : Stands xs role) where
    -- what each form of node hands on

    module _ {i n : ℕ} {c : List ℕ} {q k : ℕ} {names : Names} {T : ℕ → List ℕ → ℕ → Type 0} (h : Here i n c q k names T) where
      here_end : Is ns k end → T i c q
      here_end f = h.goes 0 i c q (omega arith) (Goes.ends f)

      here-first : {a b : ℕ} → Is ns k (sequence a b) → Here i n c q a names (λ t c₁ q₁. Here t n c₁ q₁ b names T)
      here-first f = record {
        w = h.w;
        means = h.means;
        comes = Comes.first f h.comes;
        goes = λ j t c₁ q₁ e d. record {
          w = h.w;
          means = h.means;
          comes = rw e (Comes.second f h.comes d);
          goes = λ j' t' c₂ q₂ e' d'. h.goes (j + j') t' c₂ q₂ (omega arith) (Goes.sequences f d d');
        };
      }

      here-left : {a b : ℕ} → Is ns k (choice a b) → Here i n c q a names T
      here-left f = record {
        w = h.w;
        means = h.means;
        comes = Comes.left f h.comes;
        goes = λ j t c₂ q₂ e d. h.goes j t c₂ q₂ e (Goes.chooses_left f d);
      }

      here-right : {a b : ℕ} → Is ns k (choice a b) → Here i n c q b names T
      here-right f = record {
        w = h.w;
        means = h.means;
        comes = Comes.right f h.comes;
        goes = λ j t c₂ q₂ e d. h.goes j t c₂ q₂ e (Goes.chooses_right f d);
      }

      here-body : {a : ℕ} → Is ns k (loop a) → Here i n c q a names T
      here-body f = record {
        w = h.w;
        means = h.means;
        comes = Comes.body f h.comes;
        goes = λ j t c₂ q₂ e d. h.goes j t c₂ q₂ e (Goes.enters f d);
      }

      here-again : {a : ℕ} → Is ns k (back a) → Here i n c q a names T
      here-again f = record {
        w = h.w;
        means = h.means;
        comes = Comes.again f h.comes;
        goes = λ j t c₂ q₂ e d. h.goes j t c₂ q₂ e (Goes.repeats f d);
      }

      here-inside : {s b : ℕ} → Is ns k (sandbox s b)
          → Here (suc i) (add_if (eqb s p) n) c (reopened local p s (ltb 0 n) q) b names (λ t c₂ q₂. T (suc t) c₂ q₂)
      here-inside {s} {b} f = record {
        w = h.w;
        means = h.means;
        comes = rw (open_more (eqb s p) n) (Comes.inside f h.comes);
        goes = λ j t c₂ q₂ e d. h.goes (suc (suc j)) (suc t) c₂ q₂ (omega arith) (Goes.sandboxes f (rw (open_more (eqb s p) n) at d));
      }

      static-move : {a s q' : ℕ} → Is ns k (static_event a s) → Moves es p a (Sees xs s) q q' → Moves es p a (Sees us s) q q'
      static-move {a} {s} {q'} i v =
          subst (λ (t : ℕ). Moves es p a (Sees us t) q q') (roles.static s (outline.static-small i)) (carry edges (same-stand roles s) v)

      name-move : {a m r q' : ℕ} → Is ns k (named_event a m) → names m ≡ some r → Moves es p a (Sees xs r) q q'
          → Moves es p a (Sees us (stand_in h.w m)) q q'
      name-move {a} {m} {r} {q'} i e v =
          subst (λ (t : ℕ). Moves es p a (Sees us t) q q') (sym (h.means.stands m r (outline.name-small i) e))
          (carry edges (same-stand roles r) v)

      here-static : {a s q' : ℕ} → Is ns k (static_event a s) → Moves es p a (Sees xs s) q q' → T (suc i) c q'
      here-static {q' = q'} f v = h.goes 1 (suc i) c q' (omega arith) (Goes.fires_static f (static-move f v))

      here-name : {a m r q' : ℕ} → Is ns k (named_event a m) → names m ≡ some r → Moves es p a (Sees xs r) q q' → T (suc i) c q'
      here-name {q' = q'} f e v = h.goes 1 (suc i) c q' (omega arith) (Goes.fires_name f (name-move f e v))

      here-created : {m b r q' : ℕ} → Is ns k (fresh m b) → New c (role r) → Moves es p create (Sees xs r) q q'
          → Here (suc i) n (left_after (role r) c) q' b (give names m r) T
      here-created {m = m} {r = r} f new v =
          let u = carry edges (same-stand roles r) v in
          record {
            w = means_now h.w m (role r);
            means = means-give {P = As} m (role r) r (outline.fresh-small f) refl h.means;
            comes = Comes.created f (given new) h.comes u;
            goes = λ j t c₂ q₂ e g. h.goes (suc j) t c₂ q₂ (omega arith) (Goes.makes f (given new) u g);
          }

    -- a new resource

    is-new : (past : Past) (c : List ℕ) → Left past c → (r : ℕ) → statics ≤ r → (Occurs r past → ⊥) → New c (role r)
    is-new past c left r big unseen = go (left r big unseen)
      where
        go : (role r ≡ others) ⊎ Memᴰ (role r) c → New c (role r)
        go (inl e) = subst (New c) (sym e) another
        go (inr m) = awaited m

    left-more : (s : Step) (past : Past) (c : List ℕ) → Left past c → Left (s ∷ past) c
    left-more s past c left r big unseen = left r big (λ o. unseen (occurs-later o))

    left-created : (past : Past) (c : List ℕ) (r : ℕ) → Left past c → Left (event create r ∷ past) (left_after (role r) c)
    left-created past c r left t big unseen = go (roles.among t big) (left t big (λ o. unseen (occurs-later o)))
      where
        go : (role t ≡ others) ⊎ ((role t < others) × Memᴰ t xs) → (role t ≡ others) ⊎ Memᴰ (role t) c → (role t ≡ others)
            ⊎ Memᴰ (role t) (left_after (role r) c)
        go (inl e) h = inl e
        go (inr m) (inl e) = inl e
        go (inr (l, m)) (inr i) = inr (still-left (role r) c (role t) i (λ e. unseen (occurs-now create r t past (roles.own t r m e))))

    -- what holds in one state, after each move

    at-event : {past : Past} {k : ℕ} {names : Names} {rest : List Part} {q : ℕ} (a r q' : ℕ) → (h : At past (node k names ∷ rest) q)
        → Stack rest (suc (length past)) h.c q' → At (event a r ∷ past) rest q'
    at-event {past} a r q' h t = record { c = h.c; left = left-more (event a r) past h.c h.left; stack = t }

    at-created : {past : Past} {k : ℕ} {names : Names} {rest : List Part} {q : ℕ} → At past (node k names ∷ rest) q
        → {m b r q' : ℕ} → Is ns k (fresh m b) → statics ≤ r → (Occurs r past → ⊥) → Moves es p create (Sees xs r) q q'
        → At (event create r ∷ past) (node b (give names m r) ∷ rest) q'
    at-created {past} h {r = r} i big unseen v = record {
      c = left_after (role r) h.c;
      left = left-created past h.c r h.left;
      stack = here-created h.stack i (is-new past h.c h.left r big unseen) v;
    }

    at-opened : {past : Past} {k : ℕ} {names : Names} {rest : List Part} {q q' s b : ℕ}
        → Runs ns (record { past = past; parts = node k names ∷ rest })
        → At past (node k names ∷ rest) q → Is ns k (sandbox s b) → reopened local p s (is_open p past) q ≡ q'
        → At (opening s ∷ past) (node b names ∷ close s ∷ rest) q'
    unfolding closings-to-run
    at-opened {past} {q = q} {s = s} rs h i e = record {
      c = h.c;
      left = left-more (opening s) past h.c h.left;
      stack = rw (sym e ∙ ap (λ (o : Bool). reopened local p s o q) (open-level ns p rs)) (here-inside h.stack i);
    }

    at-closed : {past : Past} {rest : List Part} {q s : ℕ} → At past (close s ∷ rest) q → At (closing s ∷ past) rest q
    at-closed {past} {s = s} h = record { c = h.c; left = left-more (closing s) past h.c h.left; stack = h.stack }

    step : {r r' : Run} → Runs ns r → Advance ns r r' → Inv r → Inv r'
    unfolding closings-to-run
    step rs (Advance.ends {k = k} i) v =
        record { known = v.known.1; at = λ q m. let h = v.at q m in record { c = h.c; left = h.left; stack = here_end h.stack i } }
    step rs (Advance.fires_static {k = k} {a = a} {s = s} {past = past} {rest = rest} i) v = record {
      known = givens-more (event a s) past rest v.known.1;
      at = λ q m. let (q₀, m₀, mv) = before-event m in let h = v.at q₀ m₀ in at-event a s q h (here-static h.stack i mv);
    }
    step rs (Advance.fires_name {k = k} {a = a} {n = n} {r = r} {past = past} {rest = rest} i e) v = record {
      known = givens-more (event a r) past rest v.known.1;
      at = λ q m. let (q₀, m₀, mv) = before-event m in let h = v.at q₀ m₀ in at-event a r q h (here-name h.stack i e mv);
    }
    step rs (Advance.sequences {k = k} i) v = record {
      known = (v.known.0, (v.known.0, v.known.1));
      at = λ q m. let h = v.at q m in record { c = h.c; left = h.left; stack = here-first h.stack i };
    }
    step rs (Advance.chooses_left {k = k} i) v =
        record { known = v.known; at = λ q m. let h = v.at q m in record { c = h.c; left = h.left; stack = here-left h.stack i } }
    step rs (Advance.chooses_right {k = k} i) v =
        record { known = v.known; at = λ q m. let h = v.at q m in record { c = h.c; left = h.left; stack = here-right h.stack i } }
    step rs (Advance.enters {k = k} i) v =
        record { known = v.known; at = λ q m. let h = v.at q m in record { c = h.c; left = h.left; stack = here-body h.stack i } }
    step rs (Advance.repeats {k = k} i) v =
        record { known = v.known; at = λ q m. let h = v.at q m in record { c = h.c; left = h.left; stack = here-again h.stack i } }
    step rs (Advance.creates {k = k} {n = n} {b = b} {r = r} {past = past} {rest = rest} i big unseen) v = record {
      known = (known-give n r big v.known.0, givens-more (event create r) past rest v.known.1);
      at = λ q m. let (q₀, m₀, mv) = before-event m in at-created (v.at q₀ m₀) i big unseen mv;
    }
    step rs (Advance.opens {k = k} {p = s} {b = b} {past = past} {rest = rest} i) v = record {
      known = (known_more (opening s) v.known.0, givens-more (opening s) past rest v.known.1);
      at = λ q m. let (q₀, m₀, e) = before-opening m in at-opened rs (v.at q₀ m₀) i e;
    }
    step rs (Advance.closes {p = s} {past = past} {rest = rest}) v = record {
      known = givens-more (closing s) past rest v.known;
      at = λ q m. at-closed (v.at q (before-closing m));
    }

    left-begin : Left [] (dynamics us)
    left-begin r big unseen = go (roles.among r big)
      where
        go : (role r ≡ others) ⊎ ((role r < others) × Memᴰ r xs) → (role r ≡ others) ⊎ Memᴰ (role r) (dynamics us)
        go (inl e) = inl e
        go (inr (l, m)) = inr (in-dynamics us (role r) (map-listed roles m) (roles.dynamic r big) l)

    at-begin : {q : ℕ} → 0 ≡ q → At [] (node 0 no_names ∷ []) q
    unfolding closings-to-run
    at-begin e = subst (λ (q : ℕ). At [] (node 0 no_names ∷ []) q) e (record {
      c = dynamics us;
      left = left-begin;
      stack = record { w = no_meaning; means = means-none As; comes = Comes.begins; goes = λ j t c q e f. tt };
    })

    invariant : {run : Run} → Runs ns run → Inv run
    invariant Runs.started = record { known = (known-none, tt); at = λ q m. at-begin (before-all m) }
    invariant (Runs.moved rs m) = step rs m (invariant rs)

    -- the first node, where p is open
    comes-open : {past : Past} {k : ℕ} {names : Names} {rest : List Part} {q : ℕ}
        → Runs ns (record { past = past; parts = node k names ∷ rest })
        → Open p past → (h : At past (node k names ∷ rest) q) → Comes local es ns p (views us) (length past) true k h.stack.w h.c q
    unfolding closings-to-run
    comes-open {rest = rest} rs o h = rw (lt-ltb 0 (closings-to-run p rest) (open-unclosed ns p rs o)) at h.stack.comes

    hit-created : {past : Past} {k : ℕ} {names : Names} {rest : List Part} {q : ℕ}
        → Runs ns (record { past = past; parts = node k names ∷ rest })
        → At past (node k names ∷ rest) q
        → {m b r q' : ℕ} → Is ns k (fresh m b) → statics ≤ r → (Occurs r past → ⊥) → Moves es p create (Sees xs r) q q'
        → Open p past → Offending q' → Hits local es ns p (views us) (suc (length past)) (by_action create)
    hit-created {past} rs h {r = r} i big unseen v o f =
        Hits.at_fresh i (given (is-new past h.c h.left r big unseen)) (comes-open rs o h) (carry edges (same-stand roles r) v) f

    opens-hit : {past : Past} {k : ℕ} {names : Names} {rest : List Part} {s b q : ℕ}
        → Runs ns (record { past = past; parts = node k names ∷ rest })
        → Is ns k (sandbox s b) → s ≡ p → May local es p (Sees xs) (opening s ∷ past) q → Offending q
        → Hits local es ns p (views us) (suc (length past)) by_opening
    unfolding closings-to-run
    opens-hit {past} {k} {rest = rest} {s = s} {b = b} rs i e m f =
        let (q₀, m₀, g) = before-opening m in
        let h = (invariant rs).at q₀ m₀ in
        Hits.at_opening (subst (λ (t : ℕ). Is ns k (sandbox t b)) e i) h.stack.comes
        (subst (λ (o : Bool). Offending (reopened local p p o q₀)) (open-level ns p rs)
        (subst (λ (t : ℕ). Offending (reopened local p t (is_open p past) q₀)) e (subst Offending (sym g) f)))

    told-next : {r r' : Run} → Runs ns r → Advance ns r r' → Told r.past → Told r'.past
    told-next rs (Advance.ends i) h = h
    told-next rs (Advance.fires_static i) h = λ o q m f.
        let (q₀, m₀, mv) = before-event m in let h = (invariant rs).at q₀ m₀ in Hits.at_static i (comes-open rs o h)
        (static-move h.stack i mv) f
    told-next rs (Advance.fires_name {n = n} {r = r} i e) h = λ o q m f.
        let (q₀, m₀, mv) = before-event m in let v = invariant rs in let h = v.at q₀ m₀ in
        Hits.at_name i (comes-open rs o h) (name-move h.stack i e mv) f
    told-next rs (Advance.sequences i) h = h
    told-next rs (Advance.chooses_left i) h = h
    told-next rs (Advance.chooses_right i) h = h
    told-next rs (Advance.enters i) h = h
    told-next rs (Advance.repeats i) h = h
    told-next rs (Advance.creates {r = r} i big unseen) h = λ o q m f.
        let (q₀, m₀, mv) = before-event m in hit-created rs ((invariant rs).at q₀ m₀) i big unseen mv o f
    told-next rs (Advance.opens {k = k} {p = s} {b = b} i) h = λ e q m f. opens-hit rs i e m f
    told-next rs Advance.closes h = tt

    told : {run : Run} → Runs ns run → Told run.past
    told Runs.started = tt
    told (Runs.moved rs m) = told-next rs m (told rs)

module _ (local : Bool) (es : List Edge) (ns : List Node) (scope : ℕ → ℕ → Type 0) (p : ℕ) (edges : EdgesOk es)
    (outline : Scoped ns scope) where
  -- of the instance that breaks p, by its stand-ins
  pub sound-at : {last : Last} {step : Step} {past : Past} {xs : List ℕ} {q : ℕ} → Made p last step → IsTrace ns (step ∷ past)
      → Open p (step ∷ past) → (i : Instance es p xs)
      → May local es p (Sees xs) (step ∷ past) q → Offending q → Hits local es ns p (views (map (cast i).role xs)) (suc (length past)) last
  unfolding count
  sound-at {xs = xs} {q = q} an_event t o i m f = told local es ns p xs (cast i).role scope edges outline (cast i).stands t.1 o q m f
  sound-at {xs = xs} {q = q} its_opening t o i m f =
      told local es ns p xs (cast i).role scope edges outline (cast i).stands t.1 refl q m f

  pub sound : {n : ℕ} {last : Last} → LeavesBy local es ns p n last → (us : List ℕ) × Chosen es p us × Hits local es ns p (views us) n last
  sound {last = last} l =
      let (o, (xs, i, q, m, f)) = l.violates in (
        map (cast i).role xs,
        (cast i).chosen,
        subst (λ (t : ℕ). Hits local es ns p (views (map (cast i).role xs)) t last) l.steps
            (sound-at l.made l.trace o i m f),
      )
