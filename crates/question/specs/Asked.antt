-- A question, and when it is refused. Definitions only.
-- "From, to, hops k (1 to 8), classes (a sum of classes, 1 to 15), date meaning (1 or 2), first day, last day."
-- "The question gains an eighth number, 1 to admit undated links, 0 to leave them out."
use Rattle.std.specs.Prelude.{List, [], ◌∷◌, ◌++◌, Bool, not, ◌&&◌, ℕ, eqb, leb, ltb}
use Rattle.format.specs.Numbers.{within}
use Rattle.refusals.specs.Faults.{Fault, sound, unless, first_of}
use Rattle.refusals.specs.Answers.{room_fault}
use Rattle.format.specs.Format.{person_count, last_day}
use Rattle.checking.specs.Checked.{file_fault, file_numbers}
use Rattle.ways.specs.Sizes.{most_hops}
use Rattle.question.specs.declared.Question.{Question}
use Rattle.question.specs.declared.Wanted.{Wanted}
use Rattle.question.specs.declared.Wanted as code

-- 10: From (place 0, looked at first) or To (1) not below n
abbrev pub ends_fault : ℕ → Question → Fault → Fault
ends_fault n q after = unless (ltb q.from n) 10 0 (unless (ltb q.to n) 10 1 after)

-- 15: first day 0, last above 3,652,059, or first above last
unfoldable pub days_fit : Question → Bool
days_fit q = leb 1 q.first && leb q.last last_day && leb q.first q.last

-- 11 From equals To; where rings are wanted "21, in 11's place, if From and To differ"
abbrev pub pair_fault : Wanted → Question → Fault
pair_fault code.TheVariants.Chains q = unless (not (eqb q.from q.to)) 11 0 sound
pair_fault code.TheVariants.Rings q = unless (eqb q.from q.to) 21 0 sound

-- 12 hops; 13 classes; 14 question's meaning; 15 days; "20 for any other number there, after 15 and before 16"
unfoldable pub terms_fault : Question → Fault
terms_fault q =
    unless (within 1 most_hops q.hops) 12 0
    (unless (within 1 15 q.classes) 13 0
    (unless (within 1 2 q.meaning) 14 0 (unless (days_fit q) 15 0 (unless (within 0 1 q.undated) 20 0 sound))))

-- what a question may ask, whatever the file
unfoldable pub rest_fault : Wanted → Question → Fault
rest_fault wanted q = first_of (pair_fault wanted q) (terms_fault q)

-- the question's own faults, to a file of n persons
unfoldable pub question_fault : Wanted → ℕ → Question → Fault
question_fault wanted n q = ends_fault n q (rest_fault wanted q)

-- "Fewest hops reports its extra person as 10 with place 2, after From and To and before 11."
unfoldable pub person_fault : ℕ → Question → ℕ → Fault
person_fault n q person = ends_fault n q (unless (ltb person n) 10 2 (rest_fault code.TheVariants.Chains q))

-- the file's refusals come before the question's
abbrev pub asked_for : Wanted → List ℕ → Question → Fault
asked_for wanted file q = first_of (file_fault file) (question_fault wanted (person_count file) q)

-- of a question for chains, and of one for rings
abbrev pub asked_fault : List ℕ → Question → Fault
asked_fault = asked_for code.TheVariants.Chains

abbrev pub rings_asked_fault : List ℕ → Question → Fault
rings_asked_fault = asked_for code.TheVariants.Rings

-- the same for a question that names one person more
abbrev pub asked_of_fault : List ℕ → Question → ℕ → Fault
asked_of_fault file q person = first_of (file_fault file) (person_fault (person_count file) q person)

-- the same for so many output cells: 16 comes after the question's refusals
abbrev pub asked_for_room : Wanted → List ℕ → Question → ℕ → Fault
asked_for_room wanted file q cells = first_of (asked_for wanted file q) (room_fault cells sound)

abbrev pub asked_room_fault : List ℕ → Question → ℕ → Fault
asked_room_fault = asked_for_room code.TheVariants.Chains

-- the numbers that a question is refused with, in this order, and those of a file and a question
abbrev pub pair_number : Wanted → ℕ
pair_number code.TheVariants.Chains = 11
pair_number code.TheVariants.Rings = 21

abbrev pub own_numbers : Wanted → List ℕ
own_numbers wanted = 10 ∷ pair_number wanted ∷ 12 ∷ 13 ∷ 14 ∷ 15 ∷ 20 ∷ []

abbrev pub asked_numbers : List ℕ
asked_numbers = file_numbers ++ own_numbers code.TheVariants.Chains

abbrev pub rings_asked_numbers : List ℕ
rings_asked_numbers = file_numbers ++ own_numbers code.TheVariants.Rings
