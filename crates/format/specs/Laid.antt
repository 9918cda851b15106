-- What the readers ask of their callers: the counts are the header's, and the file is as long as they say. Definitions only.
use Rattle.std.specs.Prelude.{◌≡◌, List, ℕ, ◌≤◌, length}
use Rattle.ways.specs.Sizes.{most_persons, most_links, most_feeds}
use Rattle.format.specs.Format.{person_count, link_count, feed_count, length_for}
use Rattle.format.specs.declared.layout.Counts.{Counts}

-- the file that passed 1, 2 and 3, and its counts
pub record Laid (file : List ℕ) (counts : Counts) : Type 0 where
  pub persons : counts.persons ≡ person_count file
  pub links : counts.links ≡ link_count file
  pub feeds : counts.feeds ≡ feed_count file
  pub some : 1 ≤ counts.persons
  pub many_persons : counts.persons ≤ most_persons
  pub many_links : counts.links ≤ most_links
  pub many_feeds : counts.feeds ≤ most_feeds
  pub whole : length file ≡ length_for counts.persons counts.links counts.feeds
