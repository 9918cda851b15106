-- What the customer's first document says of a question of seven numbers, kept so that what is said now can be laid beside it: what is
-- named Before does not look at the eighth number. Definitions only.
use Rattle.std.specs.Prelude.{◌≡◌, List, Bool, not, ◌&&◌, ◌||◌, ℕ, eqb, ltb}
use Rattle.ways.specs.Graph.{Graph}
use Rattle.ways.specs.Sizes.{most_hops}
use Rattle.refusals.specs.Faults.{Fault, sound, unless, first_of}
use Rattle.format.specs.Numbers.{within}
use Rattle.format.specs.Format.{person_count, kind, link_in}
use Rattle.format.specs.Kinds.{class_of}
use Rattle.format.specs.declared.links.Link.{Link}
use Rattle.checking.specs.Checked.{file_fault}
use Rattle.question.specs.declared.Question.{Question}
use Rattle.question.specs.Asked.{ends_fault, days_fit, asked_fault, asked_of_fault}
use Rattle.question.specs.Admission.{in_sum, day_fits, admitted, leads, next}

-- "it is either undated or has a day from first to last, both included, from a feed whose meaning is the question's"
abbrev pub day_admitted_before : List ℕ → Question → Link → Bool
day_admitted_before file q link = eqb link.day 0 || day_fits file q link

-- "A link is admitted if its class is in the sum and" its day is
abbrev pub admitted_before : List ℕ → Question → ℕ → Bool
admitted_before file q link = in_sum (class_of (kind file link)) q.classes && day_admitted_before file q (link_in file link)

-- the persons that a person's admitted links lead to
abbrev pub next_before : List ℕ → Question → Graph
next_before file q = leads file (admitted_before file q)

-- 11 From equals To; 12 hops; 13 classes; 14 question's meaning; 15 days
abbrev pub rest_fault_before : Question → Fault
rest_fault_before q =
    unless (not (eqb q.from q.to)) 11 0
    (unless (within 1 most_hops q.hops) 12 0
    (unless (within 1 15 q.classes) 13 0 (unless (within 1 2 q.meaning) 14 0 (unless (days_fit q) 15 0 sound))))

-- the refusals of a file and a question; of one that names a person more
abbrev pub asked_before : List ℕ → Question → Fault
asked_before file q = first_of (file_fault file) (ends_fault (person_count file) q (rest_fault_before q))

abbrev pub asked_of_before : List ℕ → Question → ℕ → Fault
asked_of_before file q person =
    first_of (file_fault file) (ends_fault (person_count file) q (unless (ltb person (person_count file)) 10 2 (rest_fault_before q)))

-- what is refused, which links are admitted and whom they lead to are as they were: all that any answer is made of
pub record AsBefore (file : List ℕ) (q : Question) : Type 0 where
  pub asked : asked_fault file q ≡ asked_before file q
  pub asked_of : (person : ℕ) → asked_of_fault file q person ≡ asked_of_before file q person
  pub admits : (link : ℕ) → admitted file q link ≡ admitted_before file q link
  pub graph : next file q ≡ next_before file q
