-- Kinds and their class, decided by ranges of the kind number. Definitions only.
use Rattle.std.specs.Prelude.{Bool, true, false, ◌||◌, cond, ℕ, eqb, Option, Some, None}
use Rattle.format.specs.Numbers.{within}
use Rattle.format.specs.declared.kinds.Class as code

-- a class, or unknown
pub data Class : Type 0 where
  class : ℕ → Class
  unknown : Class

-- 1 parent of, 2 child of, 4 sibling of are class 1; 3 spouse of is class 2; 5 same person is class 4;
-- 16 to 31, named together in papers, are class 8. All others are unknown.
unfoldable pub class_of : ℕ → Class
class_of kind =
    cond (eqb kind 1 || eqb kind 2 || eqb kind 4) (class 1)
    (cond (eqb kind 3) (class 2) (cond (eqb kind 5) (class 4) (cond (within 16 31 kind) (class 8) unknown)))

-- the number of each of the code's classes
abbrev pub class_number : code.Class → ℕ
class_number code.TheVariants.Family = 1
class_number code.TheVariants.Spouse = 2
class_number code.TheVariants.SamePerson = 4
class_number code.TheVariants.Papers = 8

-- what the code says, in these words
abbrev pub class_said : Option code.Class → Class
class_said (Some c) = class (class_number c)
class_said None = unknown

abbrev pub known : Class → Bool
known (class c) = true
known unknown = false
