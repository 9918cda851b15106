-- The rules of a link, wherever it stands: over the link, the link before it that counts, its owner and the counts. Definitions only.
use Rattle.std.specs.Prelude.{Bool, true, ◌&&◌, not, ℕ, eqb, leb, ltb, Option, Some, None}
use Rattle.refusals.specs.Faults.{Fault, sound, unless}
use Rattle.format.specs.Format.{last_day}
use Rattle.format.specs.Kinds.{class_of, known}
use Rattle.format.specs.declared.layout.Counts.{Counts}
use Rattle.format.specs.declared.links.Link.{Link}
use Rattle.checking.specs.Places.{link_place}

-- In one row the targets strictly rise, and none is the row's own person.
abbrev pub rises : Option Link → Link → Bool
rises None link = true
rises (Some before) link = ltb before.target link.target

unfoldable pub link_ruled : Counts → ℕ → Option Link → Link → Bool
link_ruled counts owner before link =
    ltb link.target counts.persons
    && not (eqb link.target owner)
    && rises before link
    && ltb link.feed counts.feeds
    && eqb link.zero 0

-- 7, 8, 9 in each, by the link's number
unfoldable pub link_fault : Counts → ℕ → Option Link → Link → ℕ → Fault
link_fault counts owner before link number =
    unless (link_ruled counts owner before link) 7 (link_place counts number)
    (unless (known (class_of link.kind)) 8 (link_place counts number) (unless (leb link.day last_day) 9 (link_place counts number) sound))
