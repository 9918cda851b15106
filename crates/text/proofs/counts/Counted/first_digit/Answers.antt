-- `first_digit` looks from the first digit down: those passed are zeros.
use borrow.Author.Rules.{rules}
use Rattle.text.proofs.Counting.{seek_first}
use Rattle.text.proofs.counts.Counted.first_digit.Goals as goal

pub returns : goal.returns
returns c =
    rw c.unwrap_or.ensures (seek_first c.rposition.result c.args.self.now.all_digits (λ i e. search rules) (λ i e. search rules) (λ i e. search rules) (λ e. search rules))
