use native.Mathlib.Omega.{arith}
use Rattle.monitor_sets.proofs.OrderLaws.{order-parts, count-few}
use Rattle.monitor.proofs.sandboxes.enter.Goals as goal

pub overflow_add-n : goal.overflow_add-n
overflow_add-n c =
    let a = c.args in
    let pre = c.requires in
    let w = order-parts a.depth a.order.now a.unclosed.now pre.unclosed_value in
    record { fits = omega (arith, count-few a.depth a.order.now a.unclosed.now w a.p pre.p_lt_policies, pre.depth_lt_most_unclosed) }
