-- What the rules of the header say, as facts on numbers.
use mathlib.Core.Path.{◌≡◌, refl, ◌∙◌}
use mathlib.Core.Bool.{Bool, true, false, ◌&&◌, false≢true}
use mathlib.Core.List.{List}
use Prim.Native.Nat.{ℕ, ◌+◌, ◌*◌, ◌≤◌}
use lib.ListN.{length}
use lib.Dec.{leb, eqb}
use borrow.Author.Tests.{leb-true, eqb-true}
use Rattle.ways.specs.Sizes.{most_persons, most_links, most_feeds}
use Rattle.format.specs.Numbers.{byte, within}
use Rattle.format.specs.Format.{header_size, link_size, counts_in, offsets_in, marked, fit, counts_fit, agree, laid_out, person_count, link_count, feed_count, links_start, length_for, offsets_for, link_at}
use Rattle.format.specs.Laid.{Laid}
use Rattle.format.specs.declared.layout.Counts.{Counts}
use Rattle.format.specs.declared.layout.Offsets.{Offsets}

-- where the two ways of an `&&` meet its flag is both tests: the second where the first holds, else false
pub met : {a b r : Bool} → a ≡ true → r ≡ b → r ≡ (a && b)
met h e = rw h e

-- both halves of a rule that holds
pub halves : (a b : Bool) → (a && b) ≡ true → (a ≡ true) × (b ≡ true)
halves true b h = (refl, h)
halves false b h = absurd (false≢true h)

pub within_facts : (low high x : ℕ) → within low high x ≡ true → (low ≤ x) × (x ≤ high)
within_facts low high x h = let both = halves (leb low x) (leb x high) h in (leb-true low x both.0, leb-true x high both.1)

pub marked_long : (file : List ℕ) → marked file ≡ true → header_size ≤ length file
unfolding marked
marked_long file h = go (leb header_size (length file)) refl h
  where
    go : (t : Bool) → leb header_size (length file) ≡ t → (t && eqb (byte file 0) 0x4B && eqb (byte file 1) 0x4C && eqb (byte file 2) 0x46 && eqb (byte file 3) 0x31) ≡ true → header_size ≤ length file
    go true e h = leb-true header_size (length file) e
    go false e h = absurd (false≢true h)

-- 2's rule
pub record Fitting (n m f : ℕ) : Type 0 where
  pub some : 1 ≤ n
  pub persons : n ≤ most_persons
  pub links : m ≤ most_links
  pub feeds : f ≤ most_feeds

pub fit_facts : (counts : Counts) → fit counts ≡ true → Fitting counts.persons counts.links counts.feeds
unfolding fit
fit_facts counts h =
    let last = halves (within 1 most_persons counts.persons && within 0 most_links counts.links) (within 0 most_feeds counts.feeds) h in
    let first = halves (within 1 most_persons counts.persons) (within 0 most_links counts.links) last.0 in
    let n = within_facts 1 most_persons counts.persons first.0 in
    record { some = n.0; persons = n.1; links = (within_facts 0 most_links counts.links first.1).1; feeds = (within_facts 0 most_feeds counts.feeds last.1).1 }

pub counts_fit_lem : (file : List ℕ) → counts_fit file ≡ true → Fitting (person_count file) (link_count file) (feed_count file)
counts_fit_lem file h = fit_facts (counts_in file) h

-- 3's rule
pub laid_out_long : (file : List ℕ) → laid_out file ≡ true → length file ≡ length_for (person_count file) (link_count file) (feed_count file)
unfolding agree
laid_out_long file h = eqb-true (length file) derived.length (halves rest (eqb (length file) derived.length) h).1
  where
    stated : Offsets
    stated = offsets_in file

    derived : Offsets
    derived = offsets_for (counts_in file)

    rest : Bool
    rest = eqb stated.feeds derived.feeds && eqb stated.rows derived.rows && eqb stated.links derived.links && eqb stated.length derived.length

-- the offset of a link by the counts is its offset by the header
pub offset_is : {file : List ℕ} {counts : Counts} (link : ℕ) {at : ℕ} → Laid file counts → at ≡ links_start counts.persons counts.feeds + link_size * link → at ≡ link_at file link
offset_is link laid e = e ∙ rw (laid.persons, laid.feeds)

-- the counts that the tables are looked at with
pub file_laid : (file : List ℕ) → counts_fit file ≡ true → laid_out file ≡ true → Laid file (counts_in file)
file_laid file fits lays =
    let fit = counts_fit_lem file fits in
    record { persons = refl; links = refl; feeds = refl; some = fit.some; many_persons = fit.persons; many_links = fit.links; many_feeds = fit.feeds; whole = laid_out_long file lays }

pub counts_are : {file : List ℕ} {counts : Counts} → Laid file counts → counts ≡ counts_in file
counts_are laid = rw (← laid.persons, ← laid.links, ← laid.feeds)
