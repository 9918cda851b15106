-- When the input has a question.
use mathlib.Core.Path.{◌≡◌, refl}
use mathlib.Core.Bool.{Bool, true, false, cond}
use mathlib.Core.List.{List}
use Prim.Native.Nat.{ℕ, ◌≤◌}
use native.Mathlib.Omega.{arith}
use lib.Dec.{ltb}
use borrow.Author.Tests.{ltb-false}
use lib.ListN.{length}
use Rattle.question.specs.declared.Question.{Question}
use Rattle.chains.specs.Program.{question_size, question_in, asks, refused, heard_in}

-- 32 bytes at least, where there is a question; and it is the one in the input
pub asks_what : (bytes : List ℕ) {q : Question} → asks q ≡ heard_in bytes → (question_size ≤ length bytes) × (q ≡ question_in bytes)
asks_what bytes {q} e = go (ltb (length bytes) question_size) refl e
  where
    go : (t : Bool) → ltb (length bytes) question_size ≡ t → asks q ≡ cond t (refused 19 0) (asks (question_in bytes)) → (question_size ≤ length bytes) × (q ≡ question_in bytes)
    go true t e = let z : ◌≡◌ {A = ℕ} 0 1 = cc in absurd (omega arith)
    go false t e = (ltb-false (length bytes) question_size t, cc)
