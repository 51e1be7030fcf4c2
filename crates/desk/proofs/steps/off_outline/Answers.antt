use mathlib.Core.Path.{refl, sym, ◌∙◌}
use Rattle.desk.proofs.StepLaws.{head-parts, off-refused, off_small, off-stored}
use Rattle.desk.proofs.ToldLaws.{told-refusal, told-small, called-refused, called-taken, told-stored}
use Rattle.desk.proofs.steps.off_outline.Goals as goal

pub judged-t-requires : goal.judged-t-requires
judged-t-requires c = record { desk_bytes_in_bounds = c.requires.desk_bytes_in_bounds; edges_le_most_edges = (head-parts c.args.h c.requires.head_is_ok).edges }

pub returns-then-is_refusal : goal.returns-then-is_refusal
returns-then-is_refusal c =
    let a = c.args in
    let p = c.requires in
    let j = c.judged-t in
    let q = j.ensures.judged_in in
    let e = sym c.is_refusal.ensures ∙ c.if-is_refusal.true in
    called-refused a.b.now _ _ j.result q a.step _ _ c.reply_code.ensures e
    (off-refused a.b.now a.h a.step p.desk_bytes_in_bounds p.head_is_in p.policies_loaded p.head_is_ok p.none_listed _ refl
    (told-refusal a.b.now _ _ j.result q e))

pub sizes_out-requires : goal.sizes_out-requires
sizes_out-requires c =
    let a = c.args in
    let p = c.requires in
    let j = c.judged-t in
    let q = j.ensures.judged_in in
    let e = sym c.is_refusal.ensures ∙ c.if-is_refusal.false in record {
      desk_bytes_in_bounds = rw j.ensures.b_len_unchanged p.desk_bytes_in_bounds;
      small_sizes = told-small a.b.now _ _ j.result q
          (off_small a.b.now a.h a.step p.desk_bytes_in_bounds p.head_is_in p.policies_loaded p.head_is_ok p.none_listed _ refl
          (told-refusal a.b.now _ _ j.result q e));
    }

pub returns : goal.returns
returns c =
    let a = c.args in
    let p = c.requires in
    let j = c.judged-t in
    let q = j.ensures.judged_in in
    let o = c.sizes_out.ensures in
    let e = sym c.is_refusal.ensures ∙ c.if-is_refusal.false in
    called-taken a.b.now _ _ j.result q a.step _ _ c.reply_code-2.ensures _
    (off-stored a.b.now a.h a.step p.desk_bytes_in_bounds p.head_is_in p.policies_loaded p.head_is_ok p.none_listed _ refl
    (told-refusal a.b.now _ _ j.result q e) _ (told-stored a.b.now _ _ j.result q e _ a.h a.h.positions o.b_after o.within))
