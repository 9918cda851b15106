-- `print_verdict` is safe: a file that passed has few persons.
use mathlib.Core.Path.{sym}
use native.Mathlib.Omega.{arith}
use Rattle.checking.proofs.Passed.{passed_rules, passed_fits}
use Rattle.row_views.proofs.print_verdict.Goals as goal

pub overflow_cast-counts : goal.overflow_cast-counts
overflow_cast-counts g c = let fits = passed_fits (passed_rules c.args.file.now (sym c.in-Ok.ensures)) in omega arith
