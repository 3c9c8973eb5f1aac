-- The measure of `text::number`, which calls itself with the tenth, is the number.
use Rattle.decimal.proofs.text.+number.Given as goal

abbrev pub decreases-number : goal.decreases-number
decreases-number l = l.v
