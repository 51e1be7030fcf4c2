use native.Mathlib.Omega.{arith}
use native.Mathlib.Numerals.{add-one}
use lib.Bits.{bit_and, bit_or}
use mathlib.Core.Path.{◌≡◌, refl, ap₂}
use Prim.Native.Nat.{ℕ}
use lib.ListN.{get_or}
use Rattle.sheet_fields.specs.Code.{block_bytes, faults}
use Rattle.sheet_fields.proofs.blocks.block_faults.Goals as goal

pub loop-j-init : goal.loop-j-init
unfolding faults
loop-j-init c = refl

pub loop-j-preserved : goal.loop-j-preserved
unfolding faults
loop-j-preserved c =
    let a = c.args in
    let t = c.loop-j in
    let m = get_or a.paired.now t.j 0 in
    rw (add-one t.j) (ap₂ (λ (u v : ℕ). bit_or u v) t.invariant (ap₂ (λ (u v : ℕ). bit_or u (bit_and v m)) c.saturating_sub-over.ensures c.min-both.ensures))

pub returns : goal.returns
returns c = let e : c.loop-j.j ≡ block_bytes = omega arith in rw (← e) c.loop-j.invariant
