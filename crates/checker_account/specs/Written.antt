-- A trace written down along the account: `Goes`, with the steps that are taken. Fresh resources are numbered 16, 17 and on.
use Rattle.std.specs.Prelude.{ℕ, suc, ◌+◌, ◌≡◌, Bool, true, ◌||◌, List, ◌∷◌, eqb}
use Rattle.std.proofs.Math.Option.{Option, some}
use Rattle.usage.specs.declared.Edge.{Edge}
use Rattle.usage.specs.declared.Node.{Node}
use Rattle.usage.specs.Limits.{statics, create}
use Rattle.usage.specs.Policy.{Sees, Moves, Offending}
use Rattle.usage.specs.Past.{event, opening, closing, Past, creates, reopened}
use Rattle.usage.specs.Outline.{Is, end, static_event, named_event, sequence, choice, loop, back, fresh, sandbox, Names, give}
use Rattle.checker_account.specs.Account.{Sight, Last, by_action, by_opening, Counts, Aim, ended, broken}

-- the number of the next fresh resource
abbrev pub next : Past → ℕ
next past = statics + creates past

-- Node k, begun in (o, w, c, q) with these names after `past`, can come to the aim after the last past here, by n steps more.
pub data Written (local : Bool) (es : List Edge) (ns : List Node) (p : ℕ) (S : Sight)
    : ℕ → Bool → ℕ → Names → S.Meaning → S.Left → ℕ → Past → Aim S.Left → Past → Type 0 where
  ends : {k : ℕ} {w : S.Meaning} {q : ℕ} {names : Names} {o : Bool} {c : S.Left} {past : Past} → Is ns k end
      → Written local es ns p S 0 o k names w c q past (ended c q) past
  fires_static : {k : ℕ} {w : S.Meaning} {q a s q' : ℕ} {names : Names} {o : Bool} {c : S.Left} {past : Past} → Is ns k (static_event a s)
      → Moves es p a (Sees S.watches s) q q' → Written local es ns p S 1 o k names w c q past (ended c q') (event a s ∷ past)
  fires_name : {k : ℕ} {w : S.Meaning} {q a m r q' : ℕ} {names : Names} {o : Bool} {c : S.Left} {past : Past} → Is ns k (named_event a m)
      → names m ≡ some r
      → Moves es p a (Sees S.watches (S.stands w m)) q q'
      → Written local es ns p S 1 o k names w c q past (ended c q') (event a r ∷ past)
  sequences : {n₁ n₂ k : ℕ} {w : S.Meaning} {q a b q₁ : ℕ} {names : Names} {o : Bool} {c c₁ : S.Left} {past past₁ past₂ : Past} {t : Aim
      S.Left} → Is ns k (sequence a b)
      → Written local es ns p S n₁ o a names w c q past (ended c₁ q₁) past₁ → Written local es ns p S n₂ o b names w c₁ q₁ past₁ t past₂
      → Written local es ns p S (n₁ + n₂) o k names w c q past t past₂
  chooses_left : {n k : ℕ} {w : S.Meaning} {q a b : ℕ} {names : Names} {o : Bool} {c : S.Left} {past past₁ : Past} {t : Aim S.Left}
      → Is ns k (choice a b)
      → Written local es ns p S n o a names w c q past t past₁ → Written local es ns p S n o k names w c q past t past₁
  chooses_right : {n k : ℕ} {w : S.Meaning} {q a b : ℕ} {names : Names} {o : Bool} {c : S.Left} {past past₁ : Past} {t : Aim S.Left}
      → Is ns k (choice a b)
      → Written local es ns p S n o b names w c q past t past₁ → Written local es ns p S n o k names w c q past t past₁
  enters : {n k : ℕ} {w : S.Meaning} {q a : ℕ} {names : Names} {o : Bool} {c : S.Left} {past past₁ : Past} {t : Aim S.Left}
      → Is ns k (loop a)
      → Written local es ns p S n o a names w c q past t past₁ → Written local es ns p S n o k names w c q past t past₁
  repeats : {n k : ℕ} {w : S.Meaning} {q a : ℕ} {names : Names} {o : Bool} {c : S.Left} {past past₁ : Past} {t : Aim S.Left}
      → Is ns k (back a)
      → Written local es ns p S n o a names w c q past t past₁ → Written local es ns p S n o k names w c q past t past₁
  makes : {n k : ℕ} {w w₁ : S.Meaning} {q m b d q₁ : ℕ} {names : Names} {o : Bool} {c c₁ : S.Left} {past past₁ : Past} {t : Aim S.Left}
      → Is ns k (fresh m b) → S.Makes m d w c w₁ c₁ → Moves es p create (Sees S.watches d) q q₁
      → Written local es ns p S n o b (give names m (next past)) w₁ c₁ q₁ (event create (next past) ∷ past) t past₁
      → Written local es ns p S (suc n) o k names w c q past t past₁
  sandboxes : {n k : ℕ} {w : S.Meaning} {q s b q₂ : ℕ} {names : Names} {o : Bool} {c c₂ : S.Left} {past past₁ : Past}
      → Is ns k (sandbox s b)
      → Written local es ns p S n (o || eqb s p) b names w c (reopened local p s o q) (opening s ∷ past) (ended c₂ q₂) past₁
      → Written local es ns p S (suc (suc n)) o k names w c q past (ended c₂ q₂) (closing s ∷ past₁)
  breaks_static : {k : ℕ} {w : S.Meaning} {q a s q' : ℕ} {names : Names} {c : S.Left} {past : Past} {u : Option Last}
      → Is ns k (static_event a s)
      → Moves es p a (Sees S.watches s) q q' → Offending q' → Counts u (by_action a)
      → Written local es ns p S 1 true k names w c q past (broken u) (event a s ∷ past)
  breaks_name : {k : ℕ} {w : S.Meaning} {q a m r q' : ℕ} {names : Names} {c : S.Left} {past : Past} {u : Option Last}
      → Is ns k (named_event a m) → names m ≡ some r
      → Moves es p a (Sees S.watches (S.stands w m)) q q' → Offending q' → Counts u (by_action a)
      → Written local es ns p S 1 true k names w c q past (broken u) (event a r ∷ past)
  breaks_fresh : {k : ℕ} {w w₁ : S.Meaning} {q m b d q' : ℕ} {names : Names} {c c₁ : S.Left} {past : Past} {u : Option Last}
      → Is ns k (fresh m b) → S.Makes m d w c w₁ c₁
      → Moves es p create (Sees S.watches d) q q' → Offending q' → Counts u (by_action create)
      → Written local es ns p S 1 true k names w c q past (broken u) (event create (next past) ∷ past)
  breaks_opening : {k : ℕ} {w : S.Meaning} {q b : ℕ} {names : Names} {o : Bool} {c : S.Left} {past : Past} {u : Option Last}
      → Is ns k (sandbox p b)
      → Offending (reopened local p p o q) → Counts u by_opening
      → Written local es ns p S 1 o k names w c q past (broken u) (opening p ∷ past)
  breaks_first : {n k : ℕ} {w : S.Meaning} {q a b : ℕ} {names : Names} {o : Bool} {c : S.Left} {past past₁ : Past} {u : Option Last}
      → Is ns k (sequence a b)
      → Written local es ns p S n o a names w c q past (broken u) past₁ → Written local es ns p S n o k names w c q past (broken u) past₁
  breaks_inside : {n k : ℕ} {w : S.Meaning} {q s b : ℕ} {names : Names} {o : Bool} {c : S.Left} {past past₁ : Past} {u : Option Last}
      → Is ns k (sandbox s b)
      → Written local es ns p S n (o || eqb s p) b names w c (reopened local p s o q) (opening s ∷ past) (broken u) past₁
      → Written local es ns p S (suc n) o k names w c q past (broken u) past₁
