-- `kin_held` meets its contract: the cells are read, moved on by the held listing's own step, and put back.
use mathlib.Core.Path.{refl, sym, ◌∙◌}
use mathlib.Core.Bool.{true≢false}
use native.Mathlib.Omega.{arith}
use Rattle.outside.proofs.Numbered.{portion_small}
use Rattle.outside.proofs.HeldCells.{whole_sizes}
use Rattle.outside.proofs.kin_held.Goals as goal

pub returns-then-not-is_held : goal.returns-then-not-is_held
returns-then-not-is_held c =
    let wrong = sym c.is_held.ensures ∙ c.if-not-is_held.true in
    record { wrong_size = λ n. (refl, refl, refl); moved = λ e. absurd (true≢false (sym e ∙ wrong)) }

pub held_of-before-requires : goal.held_of-before-requires
held_of-before-requires c = whole_sizes _ (sym c.is_held.ensures ∙ c.if-not-is_held.false)

pub keep-requires : goal.keep-requires
keep-requires c =
    whole_sizes _ (sym c.is_held.ensures ∙ c.if-not-is_held.false)

pub listed_number-requires : goal.listed_number-requires
listed_number-requires c =
    let at_moved = c.advanced-outcome in
    portion_small _ _ at_moved.ensures.portioned (omega (arith, c.type_inv))

pub returns : goal.returns
returns c =
    let at_moved = c.advanced-outcome in
    let whole = sym c.is_held.ensures ∙ c.if-not-is_held.false in
    record {
      wrong_size = λ n. absurd (true≢false (sym whole ∙ n));
      moved = λ e.
          record {
            answer = at_moved.result.answer;
            held = at_moved.result.held;
            moves = rw c.held_of-before.ensures at at_moved.ensures;
            small = portion_small _ _ at_moved.ensures.portioned (omega (arith, c.type_inv));
            answers = c.listed_number.ensures;
            keeps = c.keep.ensures;
          };
    }
