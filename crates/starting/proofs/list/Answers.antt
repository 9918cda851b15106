-- `list` meets its contract: the graph is the question's, the table is exact, and so the search's answer is the portion.
use native.Mathlib.Omega.{arith}
use Rattle.std.proofs.lemmas.Result.{err_from_is_err_and}
use Rattle.question.proofs.Answerable.{wanted_answerable}
use Rattle.question.proofs.Growing.{zeros_fillable}
use Rattle.starting.proofs.Starting.{refused_start, start_marked, found_portion}
use mathlib.Core.Path.{sym, ◌∙◌}
use Rattle.starting.proofs.list.Goals as goal

pub fill-requires : goal.fill-requires
fill-requires c =
    zeros_fillable (wanted_answerable c.args.file.now c.args.question c.requires.wanted c.requires.asked).faultless

pub fits-requires : goal.fits-requires
fits-requires c =
    (wanted_answerable c.args.file.now c.args.question c.requires.wanted c.requires.asked).proper.most

pub returns-in_err-unless : goal.returns-in_err-unless
returns-in_err-unless c =
    let p = err_from_is_err_and c.from_residual.result c.from_residual.ensures.1 in
    rw (p.1, p.2) (refused_start c.requires c.fill.ensures c.args.start (rw c.fits.ensures at c.in_err-unless.ensures.said))

pub overflow_cast-question-2 : goal.overflow_cast-question-2
overflow_cast-question-2 c =
    omega (arith, (wanted_answerable c.args.file.now c.args.question c.requires.wanted c.requires.asked).proper.most)

pub distances-fewest-requires : goal.distances-fewest-requires
distances-fewest-requires c =
    let a = wanted_answerable c.args.file.now c.args.question c.requires.wanted c.requires.asked in
    record { end = a.to; hops = a.proper.most }

pub list-found-requires : goal.list-found-requires
list-found-requires c =
    let a = wanted_answerable c.args.file.now c.args.question c.requires.wanted c.requires.asked in
    record {
      source = omega (arith, a.from);
      target = a.to;
      some = a.proper.some;
      few = a.proper.most;
      wide = c.distances-fewest.ensures.size;
      exact = c.distances-fewest.ensures.cell;
      marked = start_marked c.requires c.fill.ensures c.args.start (sym c.fits.ensures ∙ c.in_ok-unless.ensures.passes);
    }

pub returns : goal.returns
returns c =
    found_portion c.requires c.fill.ensures c.args.start (sym c.fits.ensures ∙ c.in_ok-unless.ensures.passes) c.list-found.ensures
