-- The number is that of what the check with a counterexample answers.
use mathlib.Core.Path.{ap, ◌∙◌}
use Rattle.api_c.specs.Codes.{explanation_code_lem}
use Rattle.api_c.specs.Check.{refusal_without_choice, no_choice, chosen}
use Rattle.api_c.proofs.ChoiceLaws.{refusal-small, refusal-roomy}
use Rattle.api_c.proofs.wiforekun_counterexample.Goals as goal

pub returns-then-trace-lt-MOST_NUMBERS : goal.returns-then-trace-lt-MOST_NUMBERS
returns-then-trace-lt-MOST_NUMBERS c = record {
  explanation = refusal_without_choice _;
  explained = no_choice c.if-local-gt-MOST_CHOICE.true;
  told = c.explanation_code.ensures ∙ ap explanation_code_lem (refusal-small _ c.if-trace-lt-MOST_NUMBERS.true);
}

pub returns-then-local-gt-MOST_CHOICE : goal.returns-then-local-gt-MOST_CHOICE
returns-then-local-gt-MOST_CHOICE c = record {
  explanation = refusal_without_choice _;
  explained = no_choice c.if-local-gt-MOST_CHOICE.true;
  told = c.explanation_code-then-local-gt-MOST_CHOICE.ensures ∙ ap explanation_code_lem (refusal-roomy _ c.if-trace-lt-MOST_NUMBERS.false);
}

pub returns : goal.returns
returns c =
    let k = c.check_with_counterexample-e in
    record {
      explanation = k.result;
      explained = chosen c.if-local-gt-MOST_CHOICE.false k.ensures;
      told = c.explanation_code-2.ensures;
    }
