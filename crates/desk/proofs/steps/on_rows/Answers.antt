use mathlib.Core.Path.{refl, sym, ◌∙◌}
use Rattle.desk.proofs.StepLaws.{head-parts, encoded-head, on-refused, on-small, on-moved, on-kept}
use Rattle.desk.proofs.ToldLaws.{told-refusal, told-small, called-refused, called-taken, told-stored, moved-stored, moved-within, told-settles}
use Rattle.desk.proofs.ToldLaws.{told-moves}
use Rattle.desk.proofs.steps.on_rows.Goals as goal

pub stays-lean-requires : goal.stays-lean-requires
stays-lean-requires c =
    let a = c.args in
    let p = c.requires in
    record { desk_bytes_in_bounds = p.desk_bytes_in_bounds; nodes_le_most_nodes = (head-parts a.h (encoded-head a.b.now a.h p.head_is_in p.policies_loaded p.is_encoded)).nodes }

pub judged-t-requires : goal.judged-t-requires
judged-t-requires c =
    let a = c.args in
    let p = c.requires in
    record { desk_bytes_in_bounds = p.desk_bytes_in_bounds; edges_le_most_edges = (head-parts a.h (encoded-head a.b.now a.h p.head_is_in p.policies_loaded p.is_encoded)).edges }

pub returns-then-is_refusal : goal.returns-then-is_refusal
returns-then-is_refusal c =
    let a = c.args in
    let p = c.requires in
    let j = c.judged-t in
    let q = j.ensures.judged_in in
    let e = sym c.is_refusal.ensures ∙ c.if-is_refusal.true in
    called-refused a.b.now _ _ j.result q a.step _ _ c.reply_code.ensures e
    (on-refused a.b.now a.h a.step p.desk_bytes_in_bounds p.head_is_in p.policies_loaded p.is_encoded p.listed
    c.stays-lean.result c.stays-lean.ensures.at_retiring c.stays-lean.ensures.at_others _ refl (told-refusal a.b.now _ _ j.result q e))

pub move_rows-k-requires : goal.move_rows-k-requires
move_rows-k-requires c =
    let a = c.args in
    let p = c.requires in
    record { desk_bytes_in_bounds = rw c.judged-t.ensures.b_len_unchanged p.desk_bytes_in_bounds; nodes_le_most_nodes = (head-parts a.h (encoded-head a.b.now a.h p.head_is_in p.policies_loaded p.is_encoded)).nodes }

pub sizes_out-requires : goal.sizes_out-requires
sizes_out-requires c =
    let a = c.args in
    let p = c.requires in
    let j = c.judged-t in
    let q = j.ensures.judged_in in
    let e = sym c.is_refusal.ensures ∙ c.if-is_refusal.false in record {
      desk_bytes_in_bounds = rw (c.move_rows-k.ensures.within.long ∙ j.ensures.b_len_unchanged) p.desk_bytes_in_bounds;
      small_sizes = told-small a.b.now _ _ j.result q (on-small a.b.now a.h a.step p.desk_bytes_in_bounds p.head_is_in p.policies_loaded p.is_encoded p.listed
          c.stays-lean.result c.stays-lean.ensures.at_retiring c.stays-lean.ensures.at_others _ refl (told-refusal a.b.now _ _ j.result q e));
    }

pub returns-then-moves : goal.returns-then-moves
returns-then-moves c =
    let a = c.args in
    let p = c.requires in
    let j = c.judged-t in
    let q = j.ensures.judged_in in
    let o = c.sizes_out.ensures in
    let r = c.move_rows-k.ensures in
    let e = sym c.is_refusal.ensures ∙ c.if-is_refusal.false in
    let few = (head-parts a.h (encoded-head a.b.now a.h p.head_is_in p.policies_loaded p.is_encoded)).nodes in
    called-taken a.b.now _ _ j.result q a.step _ _ c.reply_code-then-moves.ensures _
    (on-moved a.b.now a.h a.step p.desk_bytes_in_bounds p.head_is_in p.policies_loaded p.is_encoded p.listed
    c.stays-lean.result c.stays-lean.ensures.at_retiring c.stays-lean.ensures.at_others _ refl (told-refusal a.b.now _ _ j.result q e)
    (told-moves a.b.now _ _ j.result q a.step (sym c.moves.ensures ∙ c.if-moves.true)) _ _ c.move_rows-k.result
    (moved-within a.b.now _ _ j.result q e _ r.within) (told-settles a.b.now _ _ j.result q e a.h few _ _ _ r.settled_in)
    (moved-stored a.b.now _ _ j.result q e _ r.within _ a.h c.move_rows-k.result o.b_after o.within))

pub sizes_out-requires-2 : goal.sizes_out-requires-2
sizes_out-requires-2 c =
    let a = c.args in
    let p = c.requires in
    let j = c.judged-t in
    let q = j.ensures.judged_in in
    let e = sym c.is_refusal.ensures ∙ c.if-is_refusal.false in record {
      desk_bytes_in_bounds = rw j.ensures.b_len_unchanged p.desk_bytes_in_bounds;
      small_sizes = told-small a.b.now _ _ j.result q (on-small a.b.now a.h a.step p.desk_bytes_in_bounds p.head_is_in p.policies_loaded p.is_encoded p.listed
          c.stays-lean.result c.stays-lean.ensures.at_retiring c.stays-lean.ensures.at_others _ refl (told-refusal a.b.now _ _ j.result q e));
    }

pub returns : goal.returns
returns c =
    let a = c.args in
    let p = c.requires in
    let j = c.judged-t in
    let q = j.ensures.judged_in in
    let o = c.sizes_out-2.ensures in
    let e = sym c.is_refusal.ensures ∙ c.if-is_refusal.false in
    called-taken a.b.now _ _ j.result q a.step _ _ c.reply_code-2.ensures _
    (on-kept a.b.now a.h a.step p.desk_bytes_in_bounds p.head_is_in p.policies_loaded p.is_encoded p.listed
    c.stays-lean.result c.stays-lean.ensures.at_retiring c.stays-lean.ensures.at_others _ refl (told-refusal a.b.now _ _ j.result q e)
    (told-moves a.b.now _ _ j.result q a.step (sym c.moves.ensures ∙ c.if-moves.false)) _
    (told-stored a.b.now _ _ j.result q e _ a.h a.h.positions o.b_after o.within))
