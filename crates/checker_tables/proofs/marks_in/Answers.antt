use mathlib.Core.Path.{refl}
use Rattle.checker_tables.specs.Search.{has_room}
use Rattle.checker_tables.proofs.FitLaws.{fits-rule}
use Rattle.checker_tables.proofs.AnswerLaws.{arrives-length}
use native.Mathlib.Omega.{arith}
use Rattle.checker_tables.proofs.NumberLaws.{places-most}
use Rattle.checker_tables.proofs.MarkedLaws.{unmarked, found-room}
use Rattle.checker_tables.proofs.marks_in.Goals as goal

pub search-requires : goal.search-requires
search-requires g c =
    let m = places-most c.args.w.resources in (omega (arith, m, c.requires), (c.requires, refl))

pub shared_whole_as_slice-marks : goal.shared_whole_as_slice-marks
shared_whole_as_slice-marks g c =
    let m = places-most c.args.w.resources in omega (arith, m, c.requires)

pub marks-requires : goal.marks-requires
marks-requires g c =
    let a = c.args in
    let f = c.search in record {
      nodes_fit = fits-rule a.nodes.now (found-room (has_room a.nodes.now) a.nodes.now a.w.local a.rows.now a.w.policy
          a.w.resources f.new.u f.result c.if-search.true f.ensures);
      u_len = arrives-length (has_room a.nodes.now) a.nodes.now a.w.local a.rows.now a.w.policy a.w.resources
          f.new.u f.result f.ensures;
    }

pub returns : goal.returns
returns g c =
    let a = c.args in
    let f = c.search in
    unmarked (has_room a.nodes.now) a.nodes.now a.w.local a.rows.now a.w.policy a.w.resources f.new.u
    f.result c.if-search.false f.ensures
