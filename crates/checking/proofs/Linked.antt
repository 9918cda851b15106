-- What is known of each link of a file that passed.
use mathlib.Core.Path.{◌≡◌}
use mathlib.Core.Bool.{true, not, ◌&&◌}
use mathlib.Core.List.{List}
use Prim.Native.Nat.{ℕ, ◌+◌, ◌-◌, ◌<◌, ◌≤◌}
use native.Mathlib.Omega.{arith}
use lib.Dec.{eqb, leb, ltb}
use borrow.Author.Tests.{ltb-true, eqb-false, leb-true, ne_eqb, not-true}
use Rattle.refusals.specs.Faults.{sound}
use Rattle.refusals.proofs.Faults.{first_none, unless_none}
use Rattle.format.specs.Format.{last_day, person_count, counts_in, row, target, link_in}
use Rattle.format.specs.Kinds.{class_of, known}
use Rattle.format.specs.declared.layout.Counts.{Counts}
use Rattle.format.specs.declared.links.Link.{Link}
use Rattle.format.proofs.Counted.{halves}
use Rattle.checking.specs.Places.{link_place}
use Rattle.checking.specs.Links.{rises, link_ruled, link_fault}
use Rattle.checking.specs.Checked.{before_in, link_fault_in, owned_fault}
use Rattle.std.specs.Prelude.{Option}
use Rattle.checking.proofs.Passed.{Passed, tables_sound}

-- the rules of refusals 7, 8 and 9, as facts
pub record Ruled (counts : Counts) (owner : ℕ) (before : Option Link) (link : Link) : Type 0 where
  pub person : link.target < counts.persons
  pub other : link.target ≡ owner → ⊥
  pub after : rises before link ≡ true
  pub fed : link.feed < counts.feeds
  pub classed : known (class_of link.kind) ≡ true
  pub dated : link.day ≤ last_day

-- a link without a fault
pub link_facts : (counts : Counts) (owner : ℕ) (before : Option Link) (link : Link) (number : ℕ) → link_fault counts owner before link number ≡ sound → Ruled counts owner before link
unfolding link_fault link_ruled
link_facts counts owner before link number e =
    let seven = unless_none (link_ruled counts owner before link) 7 (link_place counts number) e in
    let eight = unless_none (known (class_of link.kind)) 8 (link_place counts number) seven.1 in
    let nine = unless_none (leb link.day last_day) 9 (link_place counts number) eight.1 in
    let low = ltb link.target counts.persons in
    let self = not (eqb link.target owner) in
    let fed = ltb link.feed counts.feeds in
    let zeroed = halves (low && self && rises before link && fed) (eqb link.zero 0) seven.0 in
    let four = halves (low && self && rises before link) fed zeroed.0 in
    let three = halves (low && self) (rises before link) four.0 in
    let two = halves low self three.0 in
    record {
      person = ltb-true link.target counts.persons two.0;
      other = eqb-false link.target owner (not-true (eqb link.target owner) two.1);
      after = three.1;
      fed = ltb-true link.feed counts.feeds four.1;
      classed = eight.0;
      dated = leb-true link.day last_day nine.0;
    }

module _ {file : List ℕ} {n m f : ℕ} (p : Passed file n m f) (owner link : ℕ) (h : owner < n) (low : row file owner ≤ link) (high : link < row file (owner + 1)) where
  -- each link of each owner of a file that passed
  pub passed_link : Ruled (counts_in file) owner (before_in file owner link) (link_in file link)
  unfolding owned_fault link_fault_in
  passed_link =
      link_facts (counts_in file) owner (before_in file owner link) (link_in file link) link
      (first_none (link_fault_in file owner) (row file owner) (row file (owner + 1) - row file owner) link
      (first_none (owned_fault file) 0 (person_count file) owner (tables_sound file p.tables).links (omega arith) (omega (arith, p.persons)))
      low
      (omega arith))

  -- and a later one of a row leads to a higher person than the one before it
  pub passed_rises : (link ≡ row file owner → ⊥) → target file (link - 1) < target file link
  passed_rises later = ltb-true (target file (link - 1)) (target file link) (rw (ne_eqb link (row file owner) later) at passed_link.after)
