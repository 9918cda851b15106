-- What stands before the last digit is a smaller number.
use Rattle.text.proofs.numbers.+spell.Given as goal

abbrev pub decreases-spell : goal.decreases-spell
decreases-spell l = l.n
