-- The verdict on a file. Definitions only.
use Rattle.std.specs.Prelude.{ℕ}
use Rattle.refusals.specs.Faults.{Fault, sound, fault}

-- for every list of bytes: passed with n, m, f, or refused with number and place
pub data Verdict : Type 0 where
  passed : ℕ → ℕ → ℕ → Verdict
  refused : ℕ → ℕ → Verdict

abbrev pub verdict : Fault → ℕ → ℕ → ℕ → Verdict
verdict sound n m f = passed n m f
verdict (fault number place) n m f = refused number place
