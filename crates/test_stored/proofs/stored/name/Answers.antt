-- `name` meets its contract: each digit is the last one of what is left of the number.
use Rattle.test_stored.proofs.stored.name.Goals as goal

pub returns : goal.returns
returns c =
    simp (c.digit.ensures, c.digit-2.ensures, c.digit-3.ensures, c.digit-4.ensures)
