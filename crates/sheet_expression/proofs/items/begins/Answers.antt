use Rattle.std.proofs.lemmas.Result.{err_from_is_err_and}
use Rattle.sheet_grammar.specs.Grammar.{Bracket}
use Rattle.sheet_grammar.specs.Reader.{curly_head, back_head, event_head}
use Rattle.sheet_expression.proofs.TextLaws.{
  head-over,
  head-round,
  head-loop,
  head-fresh,
  head-sandbox,
  head-back,
  head-number,
  head-other,
  low_digit,
  high_digit,
}
use mathlib.Core.Path.{ap, ◌∙◌}
use native.Mathlib.Omega.{arith}
use lib.ListN.{get_or}
use Rattle.sheet_expression.proofs.items.begins.Goals as goal

pub returns-then-text-at : goal.returns-then-text-at
returns-then-text-at c = head-over c.args.text.now c.args.at c.if-text-at.true

pub returns-in-40 : goal.returns-in-40
returns-in-40 c = head-round c.args.text.now c.args.at c.if-text-at.false c.in-40.is

pub returns-in_err-named-in-109 : goal.returns-in_err-named-in-109
returns-in_err-named-in-109 c =
    let a = c.args in
    let p = err_from_is_err_and c.from_residual.result c.from_residual.ensures.1 in
    rw (p.1, p.2) (ap (curly_head a.text.now (λ l. Bracket.loop l)) c.in_err-named-in-109.ensures ∙ head-loop a.text.now a.at c.if-text-at.false c.in-109.is)

pub returns-in_err-n-in-109 : goal.returns-in_err-n-in-109
returns-in_err-n-in-109 c =
    let a = c.args in
    let p = err_from_is_err_and c.from_residual-in_err-n-in-109.result c.from_residual-in_err-n-in-109.ensures.1 in
    rw (p.1, p.2) (c.in_err-n-in-109.ensures (λ l. Bracket.loop l) ∙ ap (curly_head a.text.now (λ l. Bracket.loop l)) c.in_ok-named-in-109.ensures
    ∙ head-loop a.text.now a.at c.if-text-at.false c.in-109.is)

pub returns-in_ok-n-in-109 : goal.returns-in_ok-n-in-109
returns-in_ok-n-in-109 c =
    let a = c.args in
    c.in_ok-n-in-109.ensures (λ l. Bracket.loop l) ∙ ap (curly_head a.text.now (λ l. Bracket.loop l)) c.in_ok-named-in-109.ensures
    ∙ head-loop a.text.now a.at c.if-text-at.false c.in-109.is

pub returns-in_err-named-in-102 : goal.returns-in_err-named-in-102
returns-in_err-named-in-102 c =
    let a = c.args in
    let p = err_from_is_err_and c.from_residual-in_err-named-in-102.result c.from_residual-in_err-named-in-102.ensures.1 in
    rw (p.1, p.2) (ap (curly_head a.text.now (λ l. Bracket.fresh l)) c.in_err-named-in-102.ensures ∙ head-fresh a.text.now a.at c.if-text-at.false c.in-102.is)

pub returns-in_err-n-in-102 : goal.returns-in_err-n-in-102
returns-in_err-n-in-102 c =
    let a = c.args in
    let p = err_from_is_err_and c.from_residual-in_err-n-in-102.result c.from_residual-in_err-n-in-102.ensures.1 in
    rw (p.1, p.2) (c.in_err-n-in-102.ensures (λ l. Bracket.fresh l) ∙ ap (curly_head a.text.now (λ l. Bracket.fresh l)) c.in_ok-named-in-102.ensures
    ∙ head-fresh a.text.now a.at c.if-text-at.false c.in-102.is)

pub returns-in_ok-n-in-102 : goal.returns-in_ok-n-in-102
returns-in_ok-n-in-102 c =
    let a = c.args in
    c.in_ok-n-in-102.ensures (λ l. Bracket.fresh l) ∙ ap (curly_head a.text.now (λ l. Bracket.fresh l)) c.in_ok-named-in-102.ensures
    ∙ head-fresh a.text.now a.at c.if-text-at.false c.in-102.is

pub returns-in_err-named-in-112 : goal.returns-in_err-named-in-112
returns-in_err-named-in-112 c =
    let a = c.args in
    let p = err_from_is_err_and c.from_residual-in_err-named-in-112.result c.from_residual-in_err-named-in-112.ensures.1 in
    rw (p.1, p.2) (ap (curly_head a.text.now (λ l. Bracket.sandbox l)) c.in_err-named-in-112.ensures ∙ head-sandbox a.text.now a.at c.if-text-at.false c.in-112.is)

pub returns-in_err-n-in-112 : goal.returns-in_err-n-in-112
returns-in_err-n-in-112 c =
    let a = c.args in
    let p = err_from_is_err_and c.from_residual-in_err-n-in-112.result c.from_residual-in_err-n-in-112.ensures.1 in
    rw (p.1, p.2) (c.in_err-n-in-112.ensures (λ l. Bracket.sandbox l) ∙ ap (curly_head a.text.now (λ l. Bracket.sandbox l)) c.in_ok-named-in-112.ensures
    ∙ head-sandbox a.text.now a.at c.if-text-at.false c.in-112.is)

pub returns-in_ok-n-in-112 : goal.returns-in_ok-n-in-112
returns-in_ok-n-in-112 c =
    let a = c.args in
    c.in_ok-n-in-112.ensures (λ l. Bracket.sandbox l) ∙ ap (curly_head a.text.now (λ l. Bracket.sandbox l)) c.in_ok-named-in-112.ensures
    ∙ head-sandbox a.text.now a.at c.if-text-at.false c.in-112.is

pub returns-in_err-n-in-104 : goal.returns-in_err-n-in-104
returns-in_err-n-in-104 c =
    let a = c.args in
    let p = err_from_is_err_and c.from_residual-in_err-n-in-104.result c.from_residual-in_err-n-in-104.ensures.1 in
    rw (p.1, p.2) (ap back_head c.in_err-n-in-104.ensures ∙ head-back a.text.now a.at c.if-text-at.false c.in-104.is)

pub returns-in-104 : goal.returns-in-104
returns-in-104 c =
    let a = c.args in
    ap back_head c.in_ok-n-in-104.ensures ∙ head-back a.text.now a.at c.if-text-at.false c.in-104.is

pub returns-in_err-number-in-48-to-57 : goal.returns-in_err-number-in-48-to-57
returns-in_err-number-in-48-to-57 c =
    let a = c.args in
    let p = err_from_is_err_and c.from_residual-in_err-number-in-48-to-57.result c.from_residual-in_err-number-in-48-to-57.ensures.1 in
    rw (p.1, p.2) (ap (event_head a.text.now a.at) c.in_err-number-in-48-to-57.ensures
    ∙ head-number a.text.now a.at c.if-text-at.false (omega arith) (omega arith))

pub returns-in-48-to-57 : goal.returns-in-48-to-57
returns-in-48-to-57 c =
    let a = c.args in
    c.event.ensures ∙ ap (event_head a.text.now a.at) c.in_ok-number-in-48-to-57.ensures
    ∙ head-number a.text.now a.at c.if-text-at.false (omega arith) (omega arith)

pub returns-in_default : goal.returns-in_default
returns-in_default c =
    let a = c.args in
    head-other a.text.now a.at c.if-text-at.false (λ e. omega arith) (λ e. omega arith) (λ e. omega arith) (λ e. omega arith)
    (λ e. omega arith) (low_digit a.text.now (get_or a.text.now a.at 0) (omega arith))

pub returns-in_default-2 : goal.returns-in_default-2
returns-in_default-2 c =
    let a = c.args in
    head-other a.text.now a.at c.if-text-at.false (λ e. omega arith) (λ e. omega arith) (λ e. omega arith) (λ e. omega arith)
    (λ e. omega arith) (high_digit a.text.now (get_or a.text.now a.at 0) (omega arith))
