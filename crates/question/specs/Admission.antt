-- Which links are admitted, and whom they lead to. Definitions only.
use Rattle.std.specs.Prelude.{◌≡◌, List, [], ◌∷◌, map, Bool, true, false, ◌&&◌, cond, ℕ, zero, suc, ◌+◌, ◌-◌, ◌/◌, ◌%◌, ◌≤◌, ◌<◌, eqb, ltb}
use Rattle.format.specs.Numbers.{within}
use Rattle.format.specs.Format.{person_count, meaning, row, target, kind, link_in}
use Rattle.format.specs.Kinds.{Class, class, unknown, class_of}
use Rattle.format.specs.declared.links.Link.{Link}
use Rattle.ways.specs.Graph.{Graph, keep}
use Rattle.question.specs.declared.Question.{Question}

-- "its class is in the sum": the classes are 1, 2, 4 and 8, so each is a binary digit of their sum
abbrev pub in_sum : Class → ℕ → Bool
in_sum (class c) sum = eqb (sum / c % 2) 1
in_sum unknown sum = false

-- "a day from first to last, both included, from a feed whose meaning is the question's"
abbrev pub day_fits : List ℕ → Question → Link → Bool
day_fits file q link = within q.first q.last link.day && eqb (meaning file link.feed) q.meaning

-- an undated link counts if the question wants it: "1 to admit undated links, 0 to leave them out"; a dated one by its day
unfoldable pub day_admitted : List ℕ → Question → Link → Bool
day_admitted file q link = cond (eqb link.day 0) (eqb q.undated 1) (day_fits file q link)

-- "A link is admitted if its class is in the sum and" its day is
unfoldable pub admitted : List ℕ → Question → ℕ → Bool
admitted file q link = in_sum (class_of (kind file link)) q.classes && day_admitted file q (link_in file link)

-- so many numbers from one on, rising
unfoldable pub numbers_from : ℕ → ℕ → List ℕ
numbers_from from zero = []
numbers_from from (suc count) = from ∷ numbers_from (suc from) count

-- "Person p owns links row[p] up to but without row[p+1]."
abbrev pub owned : List ℕ → ℕ → List ℕ
owned file person = numbers_from (row file person) (row file (person + 1) - row file person)

-- the persons that a person's links lead to, those of them that pass a test, in row order; nobody from a person who is not in the file
abbrev pub leads : List ℕ → (ℕ → Bool) → Graph
leads file test person = cond (ltb person (person_count file)) (map (target file) (keep test (owned file person))) []

-- the persons that a person's admitted links lead to
unfoldable pub next : List ℕ → Question → Graph
next file q = leads file (admitted file q)

-- the same by one link: a link of a person of the file that is admitted, and whose target is v
pub record AdmittedLink (file : List ℕ) (q : Question) (person v : ℕ) : Type 0 where
  pub link : ℕ
  pub inside : person < person_count file
  pub low : row file person ≤ link
  pub high : link < row file (person + 1)
  pub admits : admitted file q link ≡ true
  pub leads : v ≡ target file link
