-- The last of several records that stand one behind the other.
use mathlib.Core.Path.{◌≡◌, refl}
use mathlib.Core.List.Memᴰ
use mathlib.Core.List.{List, [], ◌∷◌, ◌++◌, append_assoc}
use Prim.Native.Nat.{ℕ, suc, ◌+◌, ◌*◌}
use native.Mathlib.Nat.{suc-mul}
use native.Mathlib.Omega.{arith}
use lib.ListN.{length, take, drop}
use lib.Seq.{take_at, drop-append-add}
use Rattle.ways.specs.Graph.{◌∈◌}
use Rattle.ways.specs.Portions.{last_or}
use Rattle.ways.specs.Records.{Fits, record_of, cells_of}
use Rattle.ways.proofs.Records.{length-record_of}

module _ (size : ℕ) where
  pub last_record_lem : (c : List ℕ) (P : List (List ℕ)) (rest : List ℕ) → ((d : List ℕ) → d ∈ c ∷ P → Fits size d) → take size (drop (length P * size) (cells_of size (c ∷ P) ++ rest)) ≡ record_of size (last_or c P)
  unfolding cells_of
  last_record_lem c [] rest fits =
      let long = length-record_of size c (fits c (Memᴰ.head refl)).room in
      let none : 0 * size ≡ 0 = omega arith in
      rw (none, append_assoc) (take_at (record_of size c) rest size long)
  last_record_lem c (d ∷ P) rest fits =
      let long = length-record_of size c (fits c (Memᴰ.head refl)).room in
      let more : suc (length P) * size ≡ length (record_of size c) + length P * size = rw (long, suc-mul) (omega arith) in
      rw (more, append_assoc, drop-append-add (record_of size c) ((record_of size d ++ cells_of size P) ++ rest) (length P * size)) (last_record_lem d P rest (λ x m. fits x (Memᴰ.tail m)))
