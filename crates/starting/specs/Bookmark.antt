-- A bookmark as it is tested: cell by cell, with no listing. Definitions only.
-- That the test says just whether the cells are the record of one that is listed, chain or ring, is the law `bookmark_is`.
use Rattle.std.specs.Prelude.{List, [], ◌∷◌, Bool, true, false, ◌&&◌, ◌||◌, not, ℕ, ◌+◌, length, get_or, drop, eqb}
use Rattle.std.proofs.Math.Seq.{slice}
use Rattle.format.specs.Numbers.{within}
use Rattle.ways.specs.Graph.{Graph, among}
use Rattle.ways.specs.Sizes.{record_size}
use Rattle.question.specs.declared.Question.{Question}
use Rattle.listing.specs.Portions.{Start, fresh, bookmarked}

-- from each person a link leads to the next, nobody comes again, and the last is To
unfoldable pub runs : Graph → ℕ → List ℕ → Bool
runs g t [] = false
runs g t (p ∷ []) = eqb p t
runs g t (p ∷ q ∷ c) = among q (g p) && not (among p (q ∷ c)) && runs g t (q ∷ c)

-- a link of From leads to the first of them, they run on to To, and From comes again only where From is To
unfoldable pub leads_on : Graph → ℕ → ℕ → List ℕ → Bool
leads_on g s t [] = false
leads_on g s t (q ∷ c) = among q (g s) && (eqb s t || not (among s (q ∷ c))) && runs g t (q ∷ c)

-- there is nothing but zeros
unfoldable pub zeros : List ℕ → Bool
zeros [] = true
zeros (x ∷ cells) = eqb x 0 && zeros cells

-- exactly so many cells; 1 to k hops; From first; who follows leads on to To; zeros behind them
unfoldable pub is_bookmark : ℕ → Graph → ℕ → ℕ → ℕ → List ℕ → Bool
is_bookmark size g s t k cells =
    eqb (length cells) size
    && within 1 k (get_or cells 0 0)
    && eqb (get_or cells 1 0) s
    && leads_on g s t (slice 2 (get_or cells 0 0 + 2) cells)
    && zeros (drop (get_or cells 0 0 + 2) cells)

-- a portion may start afresh, or after a bookmark
abbrev pub start_fits : Graph → Question → Start → Bool
start_fits g q fresh = true
start_fits g q (bookmarked cells) = is_bookmark record_size g q.from q.to q.hops cells
