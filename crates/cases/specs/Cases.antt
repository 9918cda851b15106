-- The cases P1 to P12 of the customer's document, and those of the requests: one table, and one statement about the definitions. Definitions only.
use Rattle.std.specs.Prelude.{◌≡◌, Bool, true, false, List, [], ◌∷◌, ◌++◌, ℕ, length, drop, replicate}
use Rattle.refusals.specs.Faults.{sound, fault}
use Rattle.ways.specs.Portions.{portion, ended_after}
use Rattle.ways.specs.Records.{written}
use Rattle.ways.specs.Sizes.{record_size}
use Rattle.question.specs.declared.Question.{Question}
use Rattle.question.specs.declared.Wanted.{Wanted}
use Rattle.question.specs.declared.Wanted as code
use Rattle.question.specs.Asked.{asked_for, asked_fault}
use Rattle.portion.specs.Listing.{listing_for}
use Rattle.rings.specs.Rings.{rings_for}
use Rattle.listing.specs.Portions.{Start, fresh, bookmarked, starts_after, start_fault, refusal_of}
use Rattle.join.specs.Lists.{halves_for, halves_fault}
use Rattle.cases.specs.SixPersons.{ask, ask_rings, Q}

-- what a case asks for, and what is listed then
abbrev pub chains : Wanted
chains = code.TheVariants.Chains

abbrev pub rings : Wanted
rings = code.TheVariants.Rings

abbrev pub list_for : Wanted → List ℕ → Question → List (List ℕ)
list_for code.TheVariants.Chains file q = listing_for file q
list_for code.TheVariants.Rings file q = rings_for file q

-- a portion of it, in so much room
abbrev pub portion_in : Wanted → List ℕ → Question → ℕ → Start → List (List ℕ)
portion_in wanted file q room start = portion room (starts_after start) (list_for wanted file q)

-- written to lent cells, whichever they are, the chains fill these from cell 0, and the other cells are unchanged
abbrev pub Fill : List (List ℕ) → List ℕ → Type 0
Fill listed cells = (lent : List ℕ) → written record_size listed lent ≡ cells ++ drop (length cells) lent

-- a row of the table: what is asked, and what must come out
pub data Case : Type 0 where
  -- the whole listing
  listing_is : (wanted : Wanted) (q : Question) (listed : List (List ℕ)) → Case
  -- a portion: how many, whether the listing has ended, which, and the cells that their records fill
  portion_is : (wanted : Wanted) (q : Question) (room : ℕ) (start : Start) (count : ℕ) (ended : Bool) (listed : List (List ℕ)) (cells : List ℕ) → Case
  -- a portion that is refused, with room for one record
  refused_is : (wanted : Wanted) (q : Question) (start : Start) (number place : ℕ) → Case
  -- the half chains, the cells that their records fill, how many working cells do, and how many are too few
  halves_are : (q : Question) (all_half_chains : List (List ℕ)) (cells : List ℕ) (enough too_few : ℕ) → Case

-- a case holds on a file: file and question pass, and what must come out does come out; or it is refused as it must be
abbrev pub Holds : List ℕ → Case → Type 0
Holds file (listing_is wanted q listed) = (asked_for wanted file q ≡ sound) × (list_for wanted file q ≡ listed)
Holds file (portion_is wanted q room start count ended listed cells) =
    (asked_for wanted file q ≡ sound)
    × (start_fault (list_for wanted file q) start ≡ sound)
    × (length (portion_in wanted file q room start) ≡ count)
    × (ended_after room (starts_after start) (list_for wanted file q) ≡ ended)
    × (portion_in wanted file q room start ≡ listed)
    × Fill (portion_in wanted file q room start) cells
Holds file (refused_is wanted q start number place) = refusal_of (asked_for wanted file q) (list_for wanted file q) start (replicate record_size 0) ≡ fault number place
Holds file (halves_are q all_half_chains cells enough too_few) =
    (asked_fault file q ≡ sound)
    × (halves_for file q ≡ all_half_chains)
    × Fill (halves_for file q) cells
    × (halves_fault record_size enough (halves_for file q) ≡ sound)
    × (halves_fault record_size too_few (halves_for file q) ≡ fault 18 0)

-- the one statement: every case of the table holds on the file
abbrev pub AllHold : List ℕ → List Case → Type 0
AllHold file [] = Unit {0}
AllHold file (case ∷ cases) = Holds file case × AllHold file cases

-- the three chains of P1, and their records
abbrev pub first : List ℕ
first = 0 ∷ 1 ∷ 3 ∷ 5 ∷ []

abbrev pub second : List ℕ
second = 0 ∷ 2 ∷ 1 ∷ 3 ∷ 5 ∷ []

abbrev pub third : List ℕ
third = 0 ∷ 2 ∷ 3 ∷ 5 ∷ []

abbrev pub first_record : List ℕ
first_record = 3 ∷ 0 ∷ 1 ∷ 3 ∷ 5 ∷ 0 ∷ 0 ∷ 0 ∷ 0 ∷ 0 ∷ []

abbrev pub second_record : List ℕ
second_record = 4 ∷ 0 ∷ 2 ∷ 1 ∷ 3 ∷ 5 ∷ 0 ∷ 0 ∷ 0 ∷ 0 ∷ []

abbrev pub third_record : List ℕ
third_record = 3 ∷ 0 ∷ 2 ∷ 3 ∷ 5 ∷ 0 ∷ 0 ∷ 0 ∷ 0 ∷ 0 ∷ []

-- the records of the half chains of P12
abbrev pub half_records : List ℕ
half_records =
    (0 ∷ 5 ∷ 0 ∷ 0 ∷ 0 ∷ 0 ∷ 0 ∷ 0 ∷ 0 ∷ 0 ∷ [])
    ++ (1 ∷ 3 ∷ 5 ∷ 0 ∷ 0 ∷ 0 ∷ 0 ∷ 0 ∷ 0 ∷ 0 ∷ [])
    ++ (1 ∷ 4 ∷ 5 ∷ 0 ∷ 0 ∷ 0 ∷ 0 ∷ 0 ∷ 0 ∷ 0 ∷ [])
    ++ (2 ∷ 1 ∷ 3 ∷ 5 ∷ 0 ∷ 0 ∷ 0 ∷ 0 ∷ 0 ∷ 0 ∷ [])
    ++ (2 ∷ 2 ∷ 3 ∷ 5 ∷ 0 ∷ 0 ∷ 0 ∷ 0 ∷ 0 ∷ 0 ∷ [])

-- the four rings of person 2, and their records
abbrev pub ring_by_one : List ℕ
ring_by_one = 2 ∷ 1 ∷ 3 ∷ 2 ∷ []

abbrev pub ring_by_one_and_five : List ℕ
ring_by_one_and_five = 2 ∷ 1 ∷ 3 ∷ 5 ∷ 0 ∷ 2 ∷ []

abbrev pub ring_there_and_back : List ℕ
ring_there_and_back = 2 ∷ 3 ∷ 2 ∷ []

abbrev pub ring_by_five : List ℕ
ring_by_five = 2 ∷ 3 ∷ 5 ∷ 0 ∷ 2 ∷ []

abbrev pub by_one_record : List ℕ
by_one_record = 3 ∷ 2 ∷ 1 ∷ 3 ∷ 2 ∷ 0 ∷ 0 ∷ 0 ∷ 0 ∷ 0 ∷ []

abbrev pub by_one_and_five_record : List ℕ
by_one_and_five_record = 5 ∷ 2 ∷ 1 ∷ 3 ∷ 5 ∷ 0 ∷ 2 ∷ 0 ∷ 0 ∷ 0 ∷ []

abbrev pub there_and_back_record : List ℕ
there_and_back_record = 2 ∷ 2 ∷ 3 ∷ 2 ∷ 0 ∷ 0 ∷ 0 ∷ 0 ∷ 0 ∷ 0 ∷ []

abbrev pub by_five_record : List ℕ
by_five_record = 4 ∷ 2 ∷ 3 ∷ 5 ∷ 0 ∷ 2 ∷ 0 ∷ 0 ∷ 0 ∷ 0 ∷ []

-- a chain from 2 that does not come back
abbrev pub open_record : List ℕ
open_record = 2 ∷ 2 ∷ 1 ∷ 3 ∷ 0 ∷ 0 ∷ 0 ∷ 0 ∷ 0 ∷ 0 ∷ []

-- the table; a question is Q, or says hops, classes, meaning, first day, last day and whether undated links are admitted
unfoldable pub table : List Case
table =
    -- P1 Q: (0 1 3 5), (0 2 1 3 5), (0 2 3 5).
    listing_is chains Q (first ∷ second ∷ third ∷ [])
    -- P2 hops 3: the first and third.
    ∷ listing_is chains (ask 3 15 1 1 3652059 1) (first ∷ third ∷ [])
    -- P3 hops 2: none.
    ∷ listing_is chains (ask 2 15 1 1 3652059 1) []
    -- P4 classes 1: (0 1 3 5).
    ∷ listing_is chains (ask 4 1 1 1 3652059 1) (first ∷ [])
    -- P5 meaning 2: none.
    ∷ listing_is chains (ask 4 15 2 1 3652059 1) []
    -- P6 first day 700001: the last two of P1.
    ∷ listing_is chains (ask 4 15 1 700001 3652059 1) (second ∷ third ∷ [])
    -- P7 last day 700400: as P1.
    ∷ listing_is chains (ask 4 15 1 1 700400 1) (first ∷ second ∷ third ∷ [])
    -- P8 last day 700399: none.
    ∷ listing_is chains (ask 4 15 1 1 700399 1) []
    -- P9 room 2: two chains, not ended.
    ∷ portion_is chains Q 2 fresh 2 false (first ∷ second ∷ []) (first_record ++ second_record)
    -- P10 room 2, after (0 2 1 3 5): (0 2 3 5), ended.
    ∷ portion_is chains Q 2 (bookmarked second_record) 1 true (third ∷ []) third_record
    -- P11 room 3: three, ended.
    ∷ portion_is chains Q 3 fresh 3 true (first ∷ second ∷ third ∷ []) (first_record ++ second_record ++ third_record)
    -- P12 half chains: (5), (3 5), (4 5), (1 3 5), (2 3 5). 50 working cells do; 49 give 18.
    ∷ halves_are Q ((5 ∷ []) ∷ (3 ∷ 5 ∷ []) ∷ (4 ∷ 5 ∷ []) ∷ (1 ∷ 3 ∷ 5 ∷ []) ∷ (2 ∷ 3 ∷ 5 ∷ []) ∷ []) half_records 50 49
    -- With 0, first day 700001 on the six-person file lists nothing.
    ∷ listing_is chains (ask 4 15 1 700001 3652059 0) []
    -- The rings of person 2: with hops 1 none, and then those of 2, 3, 4 and 5 hops.
    ∷ listing_is rings (ask_rings 2 1) []
    ∷ listing_is rings (ask_rings 2 2) (ring_there_and_back ∷ [])
    ∷ listing_is rings (ask_rings 2 3) (ring_by_one ∷ ring_there_and_back ∷ [])
    ∷ listing_is rings (ask_rings 2 4) (ring_by_one ∷ ring_there_and_back ∷ ring_by_five ∷ [])
    ∷ listing_is rings (ask_rings 2 5) (ring_by_one ∷ ring_by_one_and_five ∷ ring_there_and_back ∷ ring_by_five ∷ [])
    ∷ listing_is rings (ask_rings 2 8) (ring_by_one ∷ ring_by_one_and_five ∷ ring_there_and_back ∷ ring_by_five ∷ [])
    -- The rings of person 0: with hops 3 none, with 4 two, with 5 one more between them.
    ∷ listing_is rings (ask_rings 0 3) []
    ∷ listing_is rings (ask_rings 0 4) ((0 ∷ 1 ∷ 3 ∷ 5 ∷ 0 ∷ []) ∷ (0 ∷ 2 ∷ 3 ∷ 5 ∷ 0 ∷ []) ∷ [])
    ∷ listing_is rings (ask_rings 0 5) ((0 ∷ 1 ∷ 3 ∷ 5 ∷ 0 ∷ []) ∷ (0 ∷ 2 ∷ 1 ∷ 3 ∷ 5 ∷ 0 ∷ []) ∷ (0 ∷ 2 ∷ 3 ∷ 5 ∷ 0 ∷ []) ∷ [])
    -- Person 2, hops 5, room 2: two rings, not ended; after the second: the other two, ended.
    ∷ portion_is rings (ask_rings 2 5) 2 fresh 2 false (ring_by_one ∷ ring_by_one_and_five ∷ []) (by_one_record ++ by_one_and_five_record)
    ∷ portion_is rings (ask_rings 2 5) 2 (bookmarked by_one_and_five_record) 2 true (ring_there_and_back ∷ ring_by_five ∷ []) (there_and_back_record ++ by_five_record)
    -- A bookmark that does not come back is 17, and From and To that differ are 21.
    ∷ refused_is rings (ask_rings 2 5) (bookmarked open_record) 17 0
    ∷ refused_is rings Q fresh 21 0
    -- Where chains are asked for, From and To that are one person are 11, as before.
    ∷ refused_is chains (ask_rings 2 5) fresh 11 0
    ∷ []
