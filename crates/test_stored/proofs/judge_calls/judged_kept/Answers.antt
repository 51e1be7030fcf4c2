use Rattle.test_stored.proofs.judge_calls.judged_kept.Goals as goal

pub returns : goal.returns
returns c = c.wiforekun_judge_parts.ensures.value
