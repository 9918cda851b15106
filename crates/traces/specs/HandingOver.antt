-- Handing over a sequence that is whole: what it asks, and what it does. Definitions only.
use Rattle.std.specs.Prelude.{◌≡◌, Bool, true, false, cond, List, [], ℕ, ◌+◌, ◌*◌, ◌≤◌, ◌<◌, length, eqb}
use Rattle.ways.specs.Sizes.{record_size}
use Rattle.pages.specs.Pages.{Page, emit, record_with}
use Rattle.pages.specs.declared.HandedOver.{HandedOver}
use Rattle.traces.specs.declared.tracing.Purpose.{Purpose}
use Rattle.traces.specs.declared.tracing.Purpose.TheVariants.{Count, Write}
use Rattle.traces.specs.declared.trace.Trace.{Trace}
use Rattle.traces.specs.declared.tracing.Tracing.{Tracing}

-- the page that was handed over so far
abbrev pub page : HandedOver → List ℕ → Page
page done cells = record { count = done.count; more = done.more; cells = cells }

-- whether records are written, or only counted
abbrev pub writes : Purpose → Bool
writes Count = false
writes Write = true

-- there are cells for the records, and in a record for the hops; and nothing is noted yet
pub record Room (w : Tracing) (out : List ℕ) (t : Trace) (behind : List ℕ) (before : HandedOver) : Type 0 where
  pub room : w.room * record_size ≤ length out
  pub long : length t.chain ≡ record_size
  pub some : 1 ≤ t.len
  pub short : t.len + length behind < record_size
  pub none : before.more ≡ false

-- what handing over does: the record of the chain with these persons of the half chain behind it
pub record Handed (w : Tracing) (out out' : List ℕ) (t : Trace) (behind : List ℕ) (before after : HandedOver) : Type 0 where
  pub right : page after out' ≡ emit (writes w.purpose) w.room (page before out) (record_with t.chain t.len behind)

-- a sequence without a right half behind it is handed over if To stands last
pub record Ended (w : Tracing) (out out' : List ℕ) (t : Trace) (before after : HandedOver) : Type 0 where
  pub right : page after out' ≡ cond (eqb t.last w.to) (emit (writes w.purpose) w.room (page before out) (record_with t.chain t.len [])) (page before out)
