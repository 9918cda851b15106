-- `append` meets its contract. The loop's invariant: what is written, and what the links still to come add, are together what the row adds.
use mathlib.Core.Path.{sym, ap, ◌∙◌}
use native.Mathlib.Omega.{arith}
use Rattle.format.specs.declared.links.Link.{Link}
use Rattle.question.proofs.Growing.{append_lies, appending_starts, appending_fed, appending_person, appending_keeps, appending_adds, appending_ends, appended_none}
use Rattle.question.proofs.filling.append.Goals as goal
use Rattle.question.proofs.filling.append.Goals.{then-admits, else-admits}

pub returns-then-file-person : goal.returns-then-file-person
returns-then-file-person c = appended_none c.args.file.laid c.requires c.if-file-person.true

pub loop-number-init : goal.loop-number-init
loop-number-init c = appending_starts c.args.file.laid c.requires c.if-file-person.false c.entry-stop.ensures c.entry-first.ensures

pub admits-requires : goal.admits-requires
admits-requires c =
    appending_fed c.args.file.laid c.requires c.if-file-person.false c.entry-stop.ensures c.loop-number.invariant c.loop-number-test.true

pub link-requires : goal.link-requires
link-requires c =
    let fed = appending_fed c.args.file.laid c.requires c.if-file-person.false c.entry-stop.ensures c.loop-number.invariant c.loop-number-test.true in
    omega (arith, fed, c.args.file.laid)

pub overflow_cast-targets : goal.overflow_cast-targets
overflow_cast-targets c =
    let low = appending_person c.args.file.laid c.requires c.if-file-person.false c.entry-stop.ensures c.loop-number.invariant c.loop-number-test.true in let is = ap (λ (l : Link). l.target) c.link.ensures in omega (arith, low, is)

pub offset_bounds-targets-end : goal.offset_bounds-targets-end
offset_bounds-targets-end c =
    let lies = append_lies c.args.file.laid c.requires c.if-file-person.false in omega (arith, lies, c.entry-stop.ensures, c.loop-number.invariant.room, c.args.file.laid)

pub bounds-targets-end : goal.bounds-targets-end
bounds-targets-end c =
    let lies = append_lies c.args.file.laid c.requires c.if-file-person.false in omega (arith, lies, c.entry-stop.ensures, c.loop-number.invariant.room, c.loop-number.invariant.links, c.args.file.laid)

pub loop-number-preserved : goal.loop-number-preserved
loop-number-preserved c =
    elim c.if-admits.branch [
      | then-admits w ↦ appending_adds c.args.file.laid c.requires c.if-file-person.false c.entry-stop.ensures c.loop-number.invariant c.loop-number-test.true (sym c.admits.ensures ∙ w.if-admits.true) (ap (λ (l : Link). l.target) w.link.ensures) w.targets-is w.end-is
      | else-admits w ↦ appending_keeps c.args.file.laid c.requires c.if-file-person.false c.entry-stop.ensures c.loop-number.invariant c.loop-number-test.true (sym c.admits.ensures ∙ w.if-admits.false) w.targets-is w.end-is
    ]

pub returns : goal.returns
returns c =
    appending_ends c.args.file.laid c.requires c.if-file-person.false c.entry-stop.ensures c.loop-number.invariant c.loop-number-test.false
