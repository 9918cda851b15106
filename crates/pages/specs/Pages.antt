-- What is handed over: records one behind the other, while there is room. Definitions only.
use Rattle.std.specs.Prelude.{Bool, true, false, cond, List, [], ◌∷◌, ℕ, ◌+◌, ◌-◌, ◌*◌, set, replicate, ltb}
use Rattle.std.proofs.Math.Seq.{paste}
use Rattle.ways.specs.Sizes.{record_size}

-- so many chains were handed over, whether there was one more, and the cells
pub record Page : Type 0 where
  pub count : ℕ
  pub more : Bool
  pub cells : List ℕ

-- one more record: counted if there is room, and written unless they are only counted; else noted; and nothing once one was noted
abbrev pub emit : Bool → ℕ → Page → List ℕ → Page
emit writes room s r =
    cond s.more s
    (cond (ltb s.count room)
    (record { count = s.count + 1; more = false; cells = cond writes (paste s.cells (s.count * record_size) r record_size) s.cells })
    (record { count = s.count; more = true; cells = s.cells }))

-- so each of several
unfoldable pub emits : Bool → ℕ → Page → List (List ℕ) → Page
emits writes room s [] = s
emits writes room s (r ∷ rs) = emits writes room (emit writes room s r) rs

-- a chain that nobody stands in yet
abbrev pub blank : List ℕ
blank = replicate record_size 0

-- the record of the chain so far with w behind it. The chain has its persons from cell 1 on, and zeros behind them
unfoldable pub record_with : List ℕ → ℕ → List ℕ → List ℕ
record_with chain len [] = set chain 0 (len - 1)
record_with chain len (v ∷ w) = record_with (set chain (len + 1) v) (len + 1) w
