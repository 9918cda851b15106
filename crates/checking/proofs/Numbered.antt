-- A file is refused with one of its numbers, and its place is a number of 32 bits.
use mathlib.Core.Path.{◌≡◌, refl}
use mathlib.Core.List.{List}
use Prim.Native.Nat.{ℕ, ◌+◌, ◌-◌, ◌^◌, ◌≤◌, ◌<◌}
use native.Mathlib.Omega.{arith}
use lib.Dec.{leb}
use Rattle.ways.specs.Graph.{among}
use Rattle.ways.specs.Sizes.{most_persons, most_links, most_feeds}
use Rattle.ways.proofs.Members.{among_true}
use Rattle.refusals.specs.Faults.{sound, unless, first_of, first_among, Numbered}
use Rattle.refusals.proofs.Numbered.{numbered_where, numbered_unless, numbered_then, numbered_first, numbered_among}
use Rattle.format.specs.Numbers.{within}
use Rattle.format.specs.Format.{last_day, marked, counts_fit, laid_out, person_count, feed_count, counts_in, meaning, row, link_in}
use Rattle.format.specs.Kinds.{class_of, known}
use Rattle.format.specs.Laid.{Laid}
use Rattle.format.specs.declared.layout.Counts.{Counts}
use Rattle.format.specs.declared.links.Link.{Link}
use Rattle.format.proofs.Counted.{file_laid}
use Rattle.checking.specs.Places.{mark_place, counts_place, offsets_place, feed_place, entry_place, link_place}
use Rattle.checking.specs.Links.{link_ruled, link_fault}
use Rattle.checking.specs.Checked.{feed_ruled, feed_fault, row_ruled, row_fault, before_in, link_fault_in, owned_fault, tables_fault, file_fault, file_numbers}
use Rattle.std.specs.Prelude.{Option}
use Rattle.checking.proofs.Tabled.{rows_below}

-- ---- each place is a number of 32 bits
counts_placed : (file : List ℕ) → counts_place file < 2 ^ 32
unfolding counts_place
counts_placed file = omega arith

offsets_placed : (file : List ℕ) → offsets_place file < 2 ^ 32
unfolding offsets_place
offsets_placed file = omega arith

feed_placed : (counts : Counts) (feed : ℕ) → feed ≤ most_feeds → feed_place counts feed < 2 ^ 32
unfolding feed_place
feed_placed counts feed h = omega arith

entry_placed : (counts : Counts) (entry : ℕ) → counts.feeds ≤ most_feeds → entry ≤ most_persons + 1 → entry_place counts entry < 2 ^ 32
unfolding entry_place
entry_placed counts entry f h = omega arith

link_placed : (counts : Counts) (number : ℕ) → counts.persons ≤ most_persons → counts.feeds ≤ most_feeds → number ≤ most_links → link_place counts number < 2 ^ 32
unfolding link_place
link_placed counts number n f h = omega arith

-- ---- each look
feed_numbered : (file : List ℕ) (feed : ℕ) → feed_place (counts_in file) feed < 2 ^ 32 → Numbered file_numbers (feed_fault file feed)
unfolding feed_fault among
feed_numbered file feed h =
    let place = feed_place (counts_in file) feed in
    numbered_unless file_numbers (feed_ruled file feed) 4 place (unless (within 1 2 (meaning file feed)) 5 place sound) (among_true 4 file_numbers refl, h)
    (numbered_unless file_numbers (within 1 2 (meaning file feed)) 5 place sound (among_true 5 file_numbers refl, h) tt)

row_numbered : (file : List ℕ) (entry : ℕ) → entry_place (counts_in file) entry < 2 ^ 32 → Numbered file_numbers (row_fault file entry)
unfolding row_fault among
row_numbered file entry h = numbered_unless file_numbers (row_ruled file entry) 6 (entry_place (counts_in file) entry) sound (among_true 6 file_numbers refl, h) tt

link_numbered : (counts : Counts) (owner : ℕ) (before : Option Link) (link : Link) (number : ℕ) → link_place counts number < 2 ^ 32 → Numbered file_numbers (link_fault counts owner before link number)
unfolding link_fault among
link_numbered counts owner before link number h =
    let place = link_place counts number in
    numbered_unless file_numbers (link_ruled counts owner before link) 7 place (unless (known (class_of link.kind)) 8 place (unless (leb link.day last_day) 9 place sound)) (among_true 7 file_numbers refl, h)
    (numbered_unless file_numbers (known (class_of link.kind)) 8 place (unless (leb link.day last_day) 9 place sound) (among_true 8 file_numbers refl, h)
    (numbered_unless file_numbers (leb link.day last_day) 9 place sound (among_true 9 file_numbers refl, h) tt))

-- ---- the tables, then the file
module _ {file : List ℕ} (laid : Laid file (counts_in file)) where
  -- once the row table has passed, no row reaches past the links
  owned_numbered : first_among (row_fault file) 0 (person_count file + 1) ≡ sound → (owner : ℕ) → owner < person_count file → Numbered file_numbers (owned_fault file owner)
  unfolding owned_fault link_fault_in
  owned_numbered rows owner h =
      let below = rows_below laid rows in
      let low = below owner (omega (arith, laid.persons)) in
      let high = below (owner + 1) (omega (arith, laid.persons)) in
      numbered_among file_numbers (link_fault_in file owner) (row file owner) (row file (owner + 1) - row file owner) (λ link inside. link_numbered (counts_in file) owner (before_in file owner link) (link_in file link) link (link_placed (counts_in file) link laid.many_persons laid.many_feeds (omega (arith, laid.many_links))))

  tables_numbered : Numbered file_numbers (tables_fault file)
  unfolding tables_fault
  tables_numbered =
      numbered_first file_numbers (first_among (feed_fault file) 0 (feed_count file)) (first_of (first_among (row_fault file) 0 (person_count file + 1)) (first_among (owned_fault file) 0 (person_count file)))
      (numbered_among file_numbers (feed_fault file) 0 (feed_count file) (λ feed h. feed_numbered file feed (feed_placed (counts_in file) feed (omega (arith, laid.many_feeds)))))
      (numbered_then file_numbers (first_among (row_fault file) 0 (person_count file + 1)) (first_among (owned_fault file) 0 (person_count file))
      (numbered_among file_numbers (row_fault file) 0 (person_count file + 1) (λ entry h. row_numbered file entry (entry_placed (counts_in file) entry laid.many_feeds (omega (arith, laid.many_persons)))))
      (λ rows. numbered_among file_numbers (owned_fault file) 0 (person_count file) (λ owner h. owned_numbered rows owner (omega arith))))

pub file_numbered : (file : List ℕ) → Numbered file_numbers (file_fault file)
unfolding file_fault among
file_numbered file =
    let counts = counts_place file in
    let offsets = offsets_place file in
    numbered_unless file_numbers (marked file) 1 mark_place (unless (counts_fit file) 2 counts (unless (laid_out file) 3 offsets (tables_fault file))) (among_true 1 file_numbers refl, omega arith)
    (numbered_where file_numbers (counts_fit file) 2 counts (unless (laid_out file) 3 offsets (tables_fault file)) (among_true 2 file_numbers refl, counts_placed file)
    (λ fits. numbered_where file_numbers (laid_out file) 3 offsets (tables_fault file) (among_true 3 file_numbers refl, offsets_placed file) (λ lays. tables_numbered (file_laid file fits lays))))
