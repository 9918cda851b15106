-- `run` meets its contract: what runs on from the present person decides.
use mathlib.Core.Path.{◌≡◌, refl, sym, ◌∙◌}
use mathlib.Core.Bool.{true, false}
use native.Mathlib.Omega.{arith}
use Prim.Native.Nat.{◌+◌, ◌-◌, ◌<◌}
use lib.ListN.{length, get_or, drop}
use Rattle.compact.specs.Links.{links_of}
use Rattle.starting.proofs.Cells.{holds, behind_all, run_on, run_last}
use Rattle.starting.proofs.bookmark.run.Goals as goal
use Rattle.starting.proofs.bookmark.run.Goals.{then-not-leads-via-then-not-leads, then-not-leads-via-else-not-leads+then-contains}

pub loop-at-init : goal.loop-at-init
loop-at-init c = refl

pub returns-then-not-leads : goal.returns-then-not-leads
returns-then-not-leads c =
    let on : c.loop-at.at + 1 < length c.args.way.now = omega (arith, c.loop-at-test.true, c.requires) in
    sym (c.loop-at.invariant ∙ rw (run_on (links_of c.args.graph) c.args.to c.args.way.now c.loop-at.at on, ← c.leads.ensures)
    (elim c.then-not-leads.branch [
      | then-not-leads-via-then-not-leads w ↦ rw w.if-not-leads.true refl
      | then-not-leads-via-else-not-leads+then-contains w ↦
          let again : holds (get_or c.args.way.now c.loop-at.at 0) (drop (c.loop-at.at + 1) c.args.way.now) ≡ true = rw (behind_all (c.loop-at.at + 1) c.args.way.now) at (sym w.contains.ensures.value ∙ w.if-contains.true) in
          rw (w.if-not-leads.false, again) refl
    ]))

pub loop-at-preserved : goal.loop-at-preserved
loop-at-preserved c =
    let on : c.loop-at.at + 1 < length c.args.way.now = omega (arith, c.loop-at-test.true, c.requires) in
    let once : holds (get_or c.args.way.now c.loop-at.at 0) (drop (c.loop-at.at + 1) c.args.way.now) ≡ false = rw (behind_all (c.loop-at.at + 1) c.args.way.now) at (sym c.contains.ensures.value ∙ c.if-contains.false) in
    c.loop-at.invariant ∙ run_on (links_of c.args.graph) c.args.to c.args.way.now c.loop-at.at on ∙ rw (← c.leads.ensures, c.if-not-leads.false, once) refl

pub returns : goal.returns
returns c =
    let end : c.loop-at.at ≡ length c.args.way.now - 1 = omega (arith, c.loop-at-test.false, c.loop-at.auto.at-end) in
    sym (c.loop-at.invariant ∙ rw end (run_last (links_of c.args.graph) c.args.to c.args.way.now (length c.args.way.now - 1) (omega (arith, c.requires))))
