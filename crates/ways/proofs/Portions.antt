-- Portions laid end to end give the list back, from the start or from any bookmark; the listing is one instance.
use mathlib.Core.Path.{◌≡◌, refl, sym, ap, subst, ◌∙◌}
use mathlib.Core.Logic.{◌↔◌, ◌⊎◌, inl, inr}
use mathlib.Core.Bool.{true}
use mathlib.Core.List.Memᴰ
use mathlib.Core.List.{List, [], ◌∷◌, cons≢nil}
use Prim.Native.Nat.{ℕ, zero, suc, ◌≤◌, ◌<◌}
use native.Mathlib.Omega.{arith}
use lib.ListN.{length, take, drop, length-drop, drop_of_length-le}
use lib.Seq.{take-add, drop-drop}
use borrow.Author.Tests.{leb-true, le-leb}
use Rattle.ways.specs.Graph.{Graph, ◌∈◌}
use Rattle.ways.specs.Order.{Before, short, Rising}
use Rattle.ways.specs.Listing.{ways, listing}
use Rattle.ways.specs.Portions.{after, portion, ended_after, last_or, laid, total, left}
use Rattle.ways.proofs.Members.{take_in}
use Rattle.ways.proofs.Ordered.{before_asym, false_before, ordered}
use Rattle.ways.proofs.After.{after_all, after_none, after_from, after_in, after_rising, after-after}

-- the last one, or what stood before: it is one of them
module _ {A : Type 0} where
  pub last_or_in : (x : A) (l : List A) → last_or x l ∈ x ∷ l
  last_or_in x [] = Memᴰ.head refl
  last_or_in x (y ∷ l) = Memᴰ.tail (last_or_in y l)

  pub last_or_cases : (b : A) (l : List A) → (last_or b l ≡ b) ⊎ (last_or b l ∈ l)
  last_or_cases b [] = inl refl
  last_or_cases b (x ∷ l) = inr (last_or_in x l)

-- after the last of the first r stands the rest
pub after_last : (b : List ℕ) (r : ℕ) (L : List (List ℕ)) → Rising Before L → ((c : List ℕ) → c ∈ L → Before b c) → after (last_or b (take r L)) L ≡ drop r L
unfolding after
after_last b zero L q h = after_all b L h
after_last b (suc r) [] q h = refl
after_last b (suc r) (c ∷ L) q h = rw (false_before (last_or c (take r L)) c (no (last_or_cases c (take r L)))) (after_last c r L q.1 q.0)
  where
    no : (last_or c (take r L) ≡ c) ⊎ (last_or c (take r L) ∈ take r L) → ¬ Before (last_or c (take r L)) c
    no (inl e) i = before_asym (subst (λ d. Before d c) e i) (subst (λ d. Before d c) e i)
    no (inr m) i = before_asym (q.0 (last_or c (take r L)) (take_in r L m)) i

-- any list that rises strictly, and any bookmark: a chain that was handed over, any other chain of the list, or the start
module _ (L : List (List ℕ)) (rises : Rising Before L) where
  -- what follows a portion
  pub after-portion : (b : List ℕ) (r : ℕ) → after (last_or b (portion r b L)) L ≡ drop r (after b L)
  after-portion b r = sym (after-after b (last_or b (portion r b L)) L (step (last_or_cases b (portion r b L)))) ∙ after_last b r (after b L) (after_rising b L rises) (λ c m. (after_from b L m).1)
    where
      step : (last_or b (portion r b L) ≡ b) ⊎ (last_or b (portion r b L) ∈ portion r b L) → (last_or b (portion r b L) ≡ b) ⊎ Before b (last_or b (portion r b L))
      step (inl e) = inl e
      step (inr m) = inr (after_from b L (take_in r (after b L) m)).1

  -- portions laid end to end are the first chains after the bookmark, as many as the rooms add up to, or all
  pub laid-after : (b : List ℕ) (rooms : List ℕ) → laid rooms b L ≡ take (total rooms) (after b L)
  laid-after b [] = refl
  laid-after b (r ∷ rooms) = rw (laid-after (last_or b (portion r b L)) rooms, after-portion b r, take-add r (total rooms) (after b L))

  -- and what follows the last chain handed over is the rest
  pub left_after : (b : List ℕ) (rooms : List ℕ) → after (left rooms b L) L ≡ drop (total rooms) (after b L)
  left_after b [] = refl
  left_after b (r ∷ rooms) = rw (left_after (last_or b (portion r b L)) rooms, after-portion b r, drop-drop)

  -- ended exactly if no chain of the list follows the last one handed over
  pub ended_iff : (r : ℕ) (b : List ℕ) → (ended_after r b L ≡ true) ↔ (after (last_or b (portion r b L)) L ≡ [])
  ended_iff r b = (λ e. after-portion b r ∙ drop_of_length-le (after b L) (leb-true (length (after b L)) r e), λ e. le-leb (length (after b L)) r (few (sym (after-portion b r) ∙ e)))
    where
      few : drop r (after b L) ≡ [] → length (after b L) ≤ r
      few e = omega (arith, simp length-drop at (ap length e))

  pub ended_none : (r : ℕ) (b : List ℕ) → (ended_after r b L ≡ true) ↔ ((c : List ℕ) → c ∈ L → ¬ Before (last_or b (portion r b L)) c)
  ended_none r b = (λ e c m h. Memᴰ.not-nil (subst (λ M. c ∈ M) ((ended_iff r b).0 e) (after_in m h)), λ n. (ended_iff r b).1 (after_none (last_or b (portion r b L)) L n))

  -- from the start of a list with no empty chain
  module _ (real : (c : List ℕ) → c ∈ L → Before [] c) where
    pub laid_all : (rooms : List ℕ) → laid rooms [] L ≡ take (total rooms) L
    laid_all rooms = laid-after [] rooms ∙ ap (take (total rooms)) (after_all [] L real)

    pub left_all : (rooms : List ℕ) → after (left rooms [] L) L ≡ drop (total rooms) L
    left_all rooms = left_after [] rooms ∙ ap (drop (total rooms)) (after_all [] L real)

-- with room for one, a portion is empty only where nothing is left
pub portion_empty : (r : ℕ) (b : List ℕ) (L : List (List ℕ)) → 1 ≤ r → portion r b L ≡ [] → after b L ≡ []
portion_empty r b L h e = go r (after b L) h e
  where
    go : (r : ℕ) (M : List (List ℕ)) → 1 ≤ r → take r M ≡ [] → M ≡ []
    go zero M h e = absurd (omega arith)
    go (suc r) [] h e = refl
    go (suc r) (c ∷ M) h e = absurd (cons≢nil e)

-- the listing in portions
module _ (g : Graph) (rows : (p : ℕ) → Rising ◌<◌ (g p)) (s t k : ℕ) where
  pub real_chains : (c : List ℕ) → c ∈ listing g s t k → Before [] c
  unfolding listing
  real_chains c m = let r = Memᴰ.of_map (◌∷◌ s) (ways g t k (s ∷ []) s) m in subst (Before []) r.2 short

  pub portions : (rooms : List ℕ) → laid rooms [] (listing g s t k) ≡ take (total rooms) (listing g s t k)
  portions = laid_all (listing g s t k) (ordered g rows s t k) real_chains
