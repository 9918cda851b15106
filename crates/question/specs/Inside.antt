-- What the inner functions ask of their callers. Definitions only.
use Rattle.std.specs.Prelude.{List, ℕ, ◌<◌}
use Rattle.format.specs.Format.{feed_index, link_count, feed_count}

-- one link of the file, from one of its feeds
pub record Fed (file : List ℕ) (link : ℕ) : Type 0 where
  pub below : link < link_count file
  pub fed : feed_index file link < feed_count file
