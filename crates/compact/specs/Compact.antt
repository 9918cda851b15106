-- The compact graph. Definitions, and that there is one way at most in which arrays are well formed.
-- "Person p owns links row[p] up to but without row[p+1]." "In one row the targets strictly rise"
use Rattle.std.specs.Prelude.{◌≡◌, List, [], ◌∷◌, ℕ, suc, ◌+◌, ◌≤◌, ◌<◌, length, get_or}
use Rattle.std.proofs.Math.Seq.{slice}
use denote.Struct.Props as known
use Rattle.ways.specs.Sizes.{most_persons, most_links}
use Rattle.ways.specs.Graph.{Graph}
use Rattle.std.specs.Coded.{×_prop, Π_prop, Unit-prop, le_prop}
use Rattle.ways.specs.Order.{Rising}

-- as many persons as a file can have
abbrev pub persons : ℕ
persons = most_persons

-- as many links as a file can have
abbrev pub links : ℕ
links = most_links

-- the persons that p has admitted links to
abbrev pub graph_of : List ℕ → List ℕ → Graph
graph_of rows targets p = slice (get_or rows p 0) (get_or rows (p + 1) 0) targets

-- well formed: a start for each person and the last row's end, and a target for each link; the starts rise to at most the
-- number of targets; each target is a person; and each row strictly rises
pub record Compact (rows targets : List ℕ) : Type 0 where
  pub starts : length rows ≡ suc persons
  pub room : length targets ≡ links
  pub rise : (p : ℕ) → p < persons → get_or rows p 0 ≤ get_or rows (p + 1) 0
  pub ends : (p : ℕ) → p < persons → get_or rows (p + 1) 0 ≤ length targets
  pub people : (i : ℕ) → i < length targets → get_or targets i 0 < persons
  pub rising : (p : ℕ) → Rising ◌<◌ (graph_of rows targets p)

-- there is one way at most in which a list rises, and so in which arrays are well formed
pub Rising-prop : (l : List ℕ) → IsProp (Rising ◌<◌ l)
Rising-prop [] = Unit-prop
Rising-prop (x ∷ l) = ×_prop (Π_prop (λ y. Π_prop (λ m. le_prop))) (Rising-prop l)

pub Compact-prop : (rows targets : List ℕ) → IsProp (Compact rows targets)
Compact-prop rows targets = Prim.hlevel (known.props, Rising-prop)
