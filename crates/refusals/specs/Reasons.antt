-- The number of each reason for a refusal. Definitions only.
use Rattle.std.specs.Prelude.{ℕ}
use Rattle.refusals.specs.declared.Reason as code

-- the document's numbers
abbrev pub number_of : code.Reason → ℕ
number_of code.TheVariants.Mark = 1
number_of code.TheVariants.Counts = 2
number_of code.TheVariants.Offsets = 3
number_of code.TheVariants.Feed = 4
number_of code.TheVariants.FeedMeaning = 5
number_of code.TheVariants.Entry = 6
number_of code.TheVariants.Link = 7
number_of code.TheVariants.Kind = 8
number_of code.TheVariants.Day = 9
number_of code.TheVariants.Person = 10
number_of code.TheVariants.OnePerson = 11
number_of code.TheVariants.Hops = 12
number_of code.TheVariants.Classes = 13
number_of code.TheVariants.Meaning = 14
number_of code.TheVariants.Window = 15
number_of code.TheVariants.Output = 16
number_of code.TheVariants.Bookmark = 17
number_of code.TheVariants.Working = 18
number_of code.TheVariants.Input = 19
number_of code.TheVariants.Undated = 20
number_of code.TheVariants.TwoPersons = 21

-- the highest of them
abbrev pub highest : ℕ
highest = 21
