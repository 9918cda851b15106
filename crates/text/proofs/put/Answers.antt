-- `put` copies the words.
use borrow.Author.Rules.{rules}
use Rattle.text.proofs.Printing.{copied}
use Rattle.text.proofs.put.Goals as goal

pub returns : goal.returns
returns c = copied (search rules) c.copy.ensures
