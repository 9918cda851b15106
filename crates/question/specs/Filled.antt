-- The compact graph of a file and a question. Definitions only.
use Rattle.std.specs.Prelude.{◌≡◌, List, ◌++◌, ℕ, suc, ◌+◌, ◌≤◌, ◌<◌, length, get_or, take}
use Rattle.format.specs.Format.{person_count, row}
use Rattle.refusals.specs.Faults.{sound}
use Rattle.checking.specs.Checked.{file_fault}
use Rattle.compact.specs.Compact.{persons, links as most_links, graph_of, Compact}
use Rattle.question.specs.Admission.{next}
use Rattle.question.specs.declared.Question.{Question}

-- once a file and a question have passed: read back, row starts and targets are `next`
pub record Filled (file : List ℕ) (q : Question) (starts targets : List ℕ) : Type 0 where
  pub graph : (person : ℕ) → graph_of starts targets person ≡ next file q person
  pub compact : Compact starts targets

-- each cell is the number of a person, as a zero is
abbrev pub People : List ℕ → Type 0
People targets = (i : ℕ) → i < length targets → get_or targets i 0 < persons

-- a file that passed, and room for its graph
pub record Fillable (file : List ℕ) (starts targets : List ℕ) : Type 0 where
  pub faultless : file_fault file ≡ sound
  pub rows : length starts ≡ suc persons
  pub links : length targets ≡ most_links
  pub people : People targets

-- the same while a person's row is added: no more targets were written than there are links before the row
pub record Appendable (file : List ℕ) (person start : ℕ) (targets : List ℕ) : Type 0 where
  pub faultless : file_fault file ≡ sound
  pub links : length targets ≡ most_links
  pub people : People targets
  pub within : start ≤ most_links
  pub room : person < person_count file → start ≤ row file person

-- behind the targets that were there stand those of the person's row
pub record Appended (file : List ℕ) (q : Question) (person start end : ℕ) (before after : List ℕ) : Type 0 where
  pub written : take end after ≡ take start before ++ next file q person
  pub people : People after
  pub within : end ≤ most_links
  pub room : person < person_count file → end ≤ row file (person + 1)
