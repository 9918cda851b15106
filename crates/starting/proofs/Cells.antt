-- Going through cells one by one: what is still to come decides the whole.
use mathlib.Core.Path.{◌≡◌, refl, ap, ◌∙◌}
use mathlib.Core.Bool.{Bool, not, ◌&&◌, ◌||◌}
use mathlib.Core.List.{List, [], ◌∷◌}
use Prim.Native.Nat.{ℕ, suc, ◌+◌, ◌-◌, ◌≤◌, ◌<◌}
use native.Mathlib.Numerals.{add-one}
use native.Mathlib.Omega.{arith}
use lib.ListN.{length, get_or, take, drop, length-drop, drop_of_length-le}
use lib.Seq.{drop-cons, take_all}
use lib.Dec.{eqb}
use Rattle.std.specs.List.{list_all, list_any}
use Rattle.ways.specs.Graph.{Graph, among}
use Rattle.cells.proofs.Seeking.{contains_among}
use Rattle.starting.specs.Bookmark.{runs, leads_on, zeros}

-- what is behind a place, as the library takes it
pub behind_all : (at : ℕ) (cells : List ℕ) → take (length cells - at) (drop at cells) ≡ drop at cells
behind_all at cells = take_all (length cells - at) (drop at cells) (omega (arith, length-drop at cells))

-- whether a person is among them, as the library asks it
abbrev pub holds : ℕ → List ℕ → Bool
holds person cells = list_any (λ (c : ℕ). eqb c person) cells

module _ (g : Graph) (t : ℕ) (way : List ℕ) where
  -- the persons run on from `at` to the last
  pub run_on : (at : ℕ) → at + 1 < length way
      → runs g t (drop at way) ≡ (among (get_or way (at + 1) 0) (g (get_or way at 0)) && not (holds (get_or way at 0) (drop (at + 1) way)) && runs g t (drop (at + 1) way))
  unfolding runs
  run_on at h =
      let next : drop (at + 1) way ≡ get_or way (at + 1) 0 ∷ drop (suc (at + 1)) way = drop-cons way (at + 1) 0 h in
      let here : drop at way ≡ get_or way at 0 ∷ drop (at + 1) way = drop-cons way at 0 (omega arith) ∙ rw (add-one at) in
      rw (contains_among (get_or way at 0) (drop (at + 1) way), here, next)

  pub run_last : (last : ℕ) → last + 1 ≡ length way → runs g t (drop last way) ≡ eqb (get_or way last 0) t
  unfolding runs
  run_last last e =
      let none : drop (suc last) way ≡ [] = drop_of_length-le way {i = suc last} (omega arith) in
      let here : drop last way ≡ get_or way last 0 ∷ [] = drop-cons way last 0 (omega arith) ∙ rw none in
      rw here

-- From leads on by them
pub on_way : (g : Graph) (s t : ℕ) (way : List ℕ) → 1 ≤ length way → leads_on g s t way ≡ (among (get_or way 0 0) (g s) && (eqb s t || not (holds s way)) && runs g t way)
unfolding leads_on
on_way g s t [] h = absurd (omega arith)
on_way g s t (p ∷ way) h = rw (contains_among s (p ∷ way)) refl

-- there are zeros, where the library looks, and where the definition does
pub all_zeros : (cells : List ℕ) → list_all (λ (c : ℕ). eqb c 0) cells ≡ zeros cells
unfolding zeros
all_zeros [] = refl
all_zeros (c ∷ cells) = ap (λ (b : Bool). eqb c 0 && b) (all_zeros cells)
