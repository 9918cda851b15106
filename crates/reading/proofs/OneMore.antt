-- One more read: behind the bytes that were read before stand those of the read.
use mathlib.Core.Path.{◌≡◌, sym, ap, ◌∙◌}
use mathlib.Core.List.{List, ◌++◌, append_assoc}
use Prim.Native.Nat.{ℕ, ◌+◌, ◌≤◌}
use lib.ListN.{length, take}
use lib.Seq.{take-append-add, take-append-le, length-take-le}
use Rattle.std.proofs.Common.{Option, Some, None, Result, Ok, Err}
use Rattle.std.specs.Result.{result_unwrap_or}
use Rattle.std.specs.Io.{ReadsAtMost}
use Rattle.std.specs.Io.KnownBytes.{Consumes, ReadConsumes}

-- a part behind a front of so many
take_behind : (done more : ℕ) (space bytes rest : List ℕ) → done ≤ length space → more ≤ length bytes → take (done + more) (take done space ++ (bytes ++ rest)) ≡ take done space ++ take more bytes
take_behind done more space bytes rest h m =
    let l : length (take done space) ≡ done = length-take-le done space h in
    ap (λ (n : ℕ). take (n + more) (take done space ++ (bytes ++ rest))) (sym l) ∙ take-append-add (take done space) (bytes ++ rest) more ∙ ap (λ (t : List ℕ). take done space ++ t) (take-append-le more bytes rest m)

consumes_on : (old mid new : Option (List ℕ)) (first second : List ℕ) → Consumes old mid first → Consumes mid new second → Consumes old new (first ++ second)
consumes_on None mid new first second a b = tt
consumes_on (Some xs) None new first second a b = absurd a
consumes_on (Some xs) (Some ys) None first second a b = absurd b
consumes_on (Some xs) (Some ys) (Some zs) first second a b = a ∙ ap (λ (l : List ℕ). first ++ l) b ∙ sym (append_assoc first second zs)

-- what stands up to `done` was read, and so does what a read brings behind it
pub read_more : {E : Type 0} (old mid new : Option (List ℕ)) (r : Result ℕ E) (done more : ℕ) (space bytes rest : List ℕ) → Consumes old mid (take done space) → ReadsAtMost r bytes → ReadConsumes mid new r bytes → done ≤ length space
    → more ≡ result_unwrap_or r 0 → (more ≡ 0 → ⊥) → Consumes old new (take (done + more) (take done space ++ (bytes ++ rest)))
read_more old mid new (Ok n) done more space bytes rest before most now h e some =
    rw (e, take_behind done n space bytes rest h most.0) (consumes_on old mid new (take done space) (take n bytes) before now.0)
read_more old mid new (Err x) done more space bytes rest before most now h e some = absurd (some e)
