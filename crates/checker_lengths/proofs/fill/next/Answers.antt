use mathlib.Core.Path.{◌≡◌, sym, ap, ◌∙◌}
use mathlib.Core.Bool.{true}
use Prim.Native.Nat.{ℕ, ◌*◌, ◌%◌, ◌^◌, ◌<◌}
use native.Mathlib.Omega.{arith}
use native.Mathlib.Nat.{mod-lt}
use lib.Pow.{pow_pos}
use Rattle.automaton.specs.Mask.{has}
use Rattle.checker_tables.proofs.WorkLaws.{shl-node, has-low}
use Rattle.checker_lengths.proofs.MemberLaws.{highest-in, member-lt}
use Rattle.checker_lengths.proofs.fill.next.Goals as goal

-- a member of the part below k is one of the whole
of_part : (s k r : ℕ) → k < 64 → has (s % (1 * 2 ^ k % 2 ^ 64)) r ≡ true → has s r ≡ true
of_part s k r b h =
    let part : s % (1 * 2 ^ k % 2 ^ 64) ≡ s % 2 ^ k = ap (λ (n : ℕ). s % n) (shl-node k b) in
    let h' : has (s % 2 ^ k) r ≡ true = sym (ap (λ (n : ℕ). has n r) part) ∙ h in
    sym (has-low s r k (member-lt (s % 2 ^ k) r h' k (mod-lt s (pow_pos k)))) ∙ h'

positive : (s : ℕ) → (s ≡ 0 → ⊥) → 0 < s
positive s d = omega arith

pub returns-then-below-eq0 : goal.returns-then-below-eq0
returns-then-below-eq0 c =
    highest-in c.args.left c.highest.result
    (c.highest.ensures.result_bound c.requires.left_nonzero) c.highest.ensures.s_bound

pub returns-else-below-eq0 : goal.returns-else-below-eq0
returns-else-below-eq0 c =
    let a = c.args in
    let h = c.highest-else-below-eq0 in
    of_part a.left a.k h.result c.requires.k_lt_most_nodes
    (highest-in (a.left % (1 * 2 ^ a.k % 2 ^ 64)) h.result (h.ensures.result_bound (positive _ c.if-below-eq0.false)) h.ensures.s_bound)
