-- What is checked of a file, in the order of the refusal numbers. Definitions only.
use Rattle.std.specs.Prelude.{List, [], ◌∷◌, Bool, true, ◌&&◌, cond, ℕ, ◌+◌, ◌-◌, eqb, leb, ltb, Option, Some, None}
use Rattle.refusals.specs.Faults.{Fault, sound, unless, first_of, first_among}
use Rattle.format.specs.Numbers.{within}
use Rattle.format.specs.Format.{marked, counts_fit, laid_out, person_count, link_count, feed_count, counts_in, archive, meaning, feed_zero, row, link_in}
use Rattle.checking.specs.Places.{mark_place, counts_place, offsets_place, feed_place, entry_place}
use Rattle.checking.specs.Links.{link_fault}
use Rattle.checking.specs.Verdict.{Verdict, verdict}
use Rattle.format.specs.declared.links.Link.{Link}

-- A feed: archive number 1 or more, strictly rising, a zero byte.
unfoldable pub archive_rises : List ℕ → ℕ → Bool
archive_rises file feed = cond (eqb feed 0) true (ltb (archive file (feed - 1)) (archive file feed))

unfoldable pub feed_ruled : List ℕ → ℕ → Bool
feed_ruled file feed = leb 1 (archive file feed) && archive_rises file feed && eqb (feed_zero file feed) 0

-- Feeds are taken in file order, 4 before 5 in each. Meaning 1 is the day of the event, 2 the day of registration.
unfoldable pub feed_fault : List ℕ → ℕ → Fault
feed_fault file feed =
    unless (feed_ruled file feed) 4 (feed_place (counts_in file) feed)
    (unless (within 1 2 (meaning file feed)) 5 (feed_place (counts_in file) feed) sound)

-- The row table starts at 0, never falls, ends at m.
unfoldable pub row_starts_or_keeps : List ℕ → ℕ → Bool
row_starts_or_keeps file entry = cond (eqb entry 0) (eqb (row file entry) 0) (leb (row file (entry - 1)) (row file entry))

unfoldable pub row_closes : List ℕ → ℕ → Bool
row_closes file entry = cond (eqb entry (person_count file)) (eqb (row file entry) (link_count file)) true

unfoldable pub row_ruled : List ℕ → ℕ → Bool
row_ruled file entry = row_starts_or_keeps file entry && row_closes file entry

unfoldable pub row_fault : List ℕ → ℕ → Fault
row_fault file entry = unless (row_ruled file entry) 6 (entry_place (counts_in file) entry) sound

-- Links in file order: the first of a row has none before it that counts, any other has the one before it.
abbrev pub before_in : List ℕ → ℕ → ℕ → Option Link
before_in file owner link = cond (eqb link (row file owner)) None (Some (link_in file (link - 1)))

unfoldable pub link_fault_in : List ℕ → ℕ → ℕ → Fault
link_fault_in file owner link = link_fault (counts_in file) owner (before_in file owner link) (link_in file link) link

-- a person's links, from row[p] up to but without row[p+1]
unfoldable pub owned_fault : List ℕ → ℕ → Fault
owned_fault file owner = first_among (link_fault_in file owner) (row file owner) (row file (owner + 1) - row file owner)

-- the three tables
unfoldable pub tables_fault : List ℕ → Fault
tables_fault file =
    first_of (first_among (feed_fault file) 0 (feed_count file))
    (first_of (first_among (row_fault file) 0 (person_count file + 1)) (first_among (owned_fault file) 0 (person_count file)))

-- the first fault of a file: 1, 2, 3, then feeds, rows, links
unfoldable pub file_fault : List ℕ → Fault
file_fault file =
    unless (marked file) 1 mark_place (unless (counts_fit file) 2 (counts_place file) (unless (laid_out file) 3 (offsets_place file) (tables_fault file)))

-- the numbers that a file is refused with
abbrev pub file_numbers : List ℕ
file_numbers = 1 ∷ 2 ∷ 3 ∷ 4 ∷ 5 ∷ 6 ∷ 7 ∷ 8 ∷ 9 ∷ []

-- the verdict on a file
unfoldable pub checked : List ℕ → Verdict
checked file = verdict (file_fault file) (person_count file) (link_count file) (feed_count file)
