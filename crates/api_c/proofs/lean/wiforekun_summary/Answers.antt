-- The number is that of what the check's summary answers.
use mathlib.Core.Path.{ap, ◌∙◌}
use Rattle.checker.specs.Summary.{summary_number}
use Rattle.api_c.specs.Check.{no_choice, chosen}
use Rattle.api_c.specs.Summary.{summary_code_lem, number_without_choice}
use Rattle.api_c.proofs.ChoiceLaws.{number_small, number-roomy}
use Rattle.api_c.proofs.lean.wiforekun_summary.Goals as goal

pub returns-then-marks-lt-POLICIES : goal.returns-then-marks-lt-POLICIES
returns-then-marks-lt-POLICIES c = record {
  number = number_without_choice _;
  summarized = no_choice c.if-local-gt-MOST_CHOICE.true;
  told = c.summary_code.ensures ∙ ap summary_code_lem (number_small _ c.if-marks-lt-POLICIES.true);
}

pub returns-then-local-gt-MOST_CHOICE : goal.returns-then-local-gt-MOST_CHOICE
returns-then-local-gt-MOST_CHOICE c = record {
  number = number_without_choice _;
  summarized = no_choice c.if-local-gt-MOST_CHOICE.true;
  told = c.summary_code-then-local-gt-MOST_CHOICE.ensures ∙ ap summary_code_lem (number-roomy _ c.if-marks-lt-POLICIES.false);
}

pub returns : goal.returns
returns c =
    let k = c.summary in
    record {
      number = summary_number k.result;
      summarized = chosen c.if-local-gt-MOST_CHOICE.false k.ensures;
      told = c.summary_code-2.ensures;
    }
