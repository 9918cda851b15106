-- `is_bookmark` meets its contract: each test in its turn.
use mathlib.Core.Path.{◌≡◌, refl}
use mathlib.Core.Bool.{◌&&◌}
use Prim.Native.Nat.{◌+◌}
use native.Mathlib.Omega.{arith}
use lib.Dec.{eqb}
use lib.ListN.{get_or}
use lib.Seq.{slice}
use borrow.Author.Tests.{eq-eqb, ne_eqb}
use Rattle.ways.specs.Sizes.{record_size}
use Rattle.ways.proofs.Parts.{part_slice}
use Rattle.compact.specs.Links.{links_of}
use Rattle.starting.specs.Bookmark.{is_bookmark, leads_on}
use Rattle.starting.proofs.Cells.{behind_all}
use Rattle.starting.proofs.bookmark.is_bookmark.Goals as goal
use Rattle.starting.proofs.bookmark.is_bookmark.Goals.{then-cells-ne-RECORD-via-then-cells-ne-RECORD, then-cells-ne-RECORD-via-else-cells-ne-RECORD+then-not-within, then-cells-from, else-cells-from}

pub returns-then-cells-ne-RECORD : goal.returns-then-cells-ne-RECORD
unfolding is_bookmark
returns-then-cells-ne-RECORD c =
    elim c.then-cells-ne-RECORD.branch [
      | then-cells-ne-RECORD-via-then-cells-ne-RECORD w ↦ rw (ne_eqb _ record_size w.if-cells-ne-RECORD.true) refl
      | then-cells-ne-RECORD-via-else-cells-ne-RECORD+then-not-within w ↦ rw (eq-eqb _ record_size w.if-cells-ne-RECORD.false, ← w.within.ensures, w.if-not-within.true) refl
    ]

-- From, and who leads on after it; then what stands behind them
pub returns-then-leads_on : goal.returns-then-leads_on
unfolding is_bookmark
returns-then-leads_on c =
    let cells = c.args.cells.now in
    let on : c.if-cells-from.value ≡ (eqb (get_or cells 1 0) c.args.from && leads_on (links_of c.args.graph) c.args.from c.args.to (slice 2 (get_or cells 0 0 + 2) cells)) =
    elim c.if-cells-from.branch [ then-cells-from w ↦ rw (w.value-is, w.leads_on.ensures, eq-eqb _ _ w.if-cells-from.true, part_slice 2 (get_or cells 0 0 + 2) cells (omega arith)) refl | else-cells-from w ↦ rw (w.value-is, ne_eqb _ _ w.if-cells-from.false) refl ] in
    rw (eq-eqb _ record_size c.if-cells-ne-RECORD.false, ← c.within.ensures, c.if-not-within.false, ← on, c.if-leads_on.true) (rw (behind_all (get_or cells 0 0 + 2) cells) at c.blank.ensures)

pub returns-else-leads_on : goal.returns-else-leads_on
unfolding is_bookmark
returns-else-leads_on c =
    let cells = c.args.cells.now in
    let on : c.if-cells-from.value ≡ (eqb (get_or cells 1 0) c.args.from && leads_on (links_of c.args.graph) c.args.from c.args.to (slice 2 (get_or cells 0 0 + 2) cells)) =
    elim c.if-cells-from.branch [ then-cells-from w ↦ rw (w.value-is, w.leads_on.ensures, eq-eqb _ _ w.if-cells-from.true, part_slice 2 (get_or cells 0 0 + 2) cells (omega arith)) refl | else-cells-from w ↦ rw (w.value-is, ne_eqb _ _ w.if-cells-from.false) refl ] in
    rw (eq-eqb _ record_size c.if-cells-ne-RECORD.false, ← c.within.ensures, c.if-not-within.false, ← on, c.if-leads_on.false) refl
