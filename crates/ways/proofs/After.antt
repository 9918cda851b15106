-- What follows a bookmark: through the rows of the graph, and in the listing.
use mathlib.Core.Path.{◌≡◌, refl, sym, ap, subst, ◌∙◌}
use mathlib.Core.Logic.{◌⊎◌, inl, inr}
use mathlib.Core.Bool.{Bool, true, false, true≢false, cond}
use mathlib.Core.List.Memᴰ
use mathlib.Core.List.{List, [], ◌∷◌, ◌++◌, map}
use Prim.Native.Nat.{ℕ, ◌≤◌, ◌<◌}
use native.Mathlib.Omega.{arith}
use lib.ListN.{length}
use borrow.Author.Tests.{eq-eqb, le-ltb}
use Rattle.ways.specs.Graph.{Graph, ◌∈◌, keep}
use Rattle.ways.specs.Order.{Before, short, less, same, before, Rising}
use Rattle.ways.specs.Listing.{ways, listing}
use Rattle.ways.specs.Portions.{after}
use Rattle.ways.proofs.Members.{mem_split, keep_from, keep_in, keep_append}
use Rattle.ways.proofs.Rising.{rising_below, rising_above, rising_keep}
use Rattle.ways.proofs.Ordered.{before_trans, before_asym, before_true, true_before, false_before}

-- all of L, or none
pub after_all : (b : List ℕ) (L : List (List ℕ)) → ((c : List ℕ) → c ∈ L → Before b c) → after b L ≡ L
unfolding after
after_all b [] h = refl
after_all b (c ∷ L) h = rw (true_before (h c (Memᴰ.head refl))) (ap (◌∷◌ c) (after_all b L (λ d m. h d (Memᴰ.tail m))))

pub after_none : (b : List ℕ) (L : List (List ℕ)) → ((c : List ℕ) → c ∈ L → ¬ Before b c) → after b L ≡ []
unfolding after
after_none b [] h = refl
after_none b (c ∷ L) h = rw (false_before b c (h c (Memᴰ.head refl))) (after_none b L (λ d m. h d (Memᴰ.tail m)))

-- the fresh start: whatever has a person follows it
pub after_fresh : (L : List (List ℕ)) → ((c : List ℕ) → c ∈ L → 1 ≤ length c) → after [] L ≡ L
after_fresh L h = after_all [] L (λ c m. some c (h c m))
  where
    some : (c : List ℕ) → 1 ≤ length c → Before [] c
    some [] h = absurd (omega arith)
    some (p ∷ c) h = short

-- those that pass the test `before b`
pub after-keep : (b : List ℕ) (L : List (List ℕ)) → after b L ≡ keep (before b) L
unfolding after keep
after-keep b [] = refl
after-keep b (c ∷ L) = rw (after-keep b L)

pub after-append : (b : List ℕ) (L M : List (List ℕ)) → after b (L ++ M) ≡ after b L ++ after b M
after-append b L M = rw (after-keep b (L ++ M), after-keep b L, after-keep b M) (keep_append (before b) L M)

pub after_from : (b : List ℕ) (L : List (List ℕ)) {c : List ℕ} → c ∈ after b L → (c ∈ L) × Before b c
after_from b L {c} m = let r = keep_from (before b) L (rw (after-keep b L) at m) in (r.0, before_true b c r.1)

pub after_in : {b c : List ℕ} {L : List (List ℕ)} → c ∈ L → Before b c → c ∈ after b L
after_in {b} {c} {L} m r = rw (after-keep b L) (keep_in (before b) m (true_before r))

pub after_rising : (b : List ℕ) (L : List (List ℕ)) → Rising Before L → Rising Before (after b L)
after_rising b L r = rw (after-keep b L) (rising_keep Before (before b) L r)

-- what stands after d stands after b, which does not stand later
pub after-after : (b d : List ℕ) (L : List (List ℕ)) → (d ≡ b) ⊎ Before b d → after d (after b L) ≡ after d L
unfolding after
after-after b d [] h = refl
after-after b d (c ∷ L) h = go (before b c) (before d c) refl refl (after-after b d L h)
  where
    no : before b c ≡ false → before d c ≡ true → (d ≡ b) ⊎ Before b d → ⊥
    no e f (inl q) = true≢false (sym f ∙ ap (λ x. before x c) q ∙ e)
    no e f (inr q) = true≢false (sym (true_before (before_trans q (before_true d c f))) ∙ e)

    go : (t u : Bool) → before b c ≡ t → before d c ≡ u → after d (after b L) ≡ after d L → after d (cond t (c ∷ after b L) (after b L)) ≡ cond u (c ∷ after d L) (after d L)
    go true true e f i = rw f (ap (◌∷◌ c) i)
    go true false e f i = rw f i
    go false true e f i = absurd (no e f h)
    go false false e f i = i

-- the test looks past a common head
pub before_same : (x : ℕ) (a b : List ℕ) → before (x ∷ a) (x ∷ b) ≡ before a b
unfolding before
before_same x a b = rw (le-ltb x x (omega arith), eq-eqb x x refl)

pub before-nil : (b : List ℕ) → before b [] ≡ false
unfolding before
before-nil b = refl

pub after_map : (x : ℕ) (b : List ℕ) (L : List (List ℕ)) → after (x ∷ b) (map (◌∷◌ x) L) ≡ map (◌∷◌ x) (after b L)
unfolding after
after_map x b [] = refl
after_map x b (c ∷ L) = rw (before_same x b c, after_map x b L) (go (before b c))
  where
    go : (t : Bool) → cond t ((x ∷ c) ∷ map (◌∷◌ x) (after b L)) (map (◌∷◌ x) (after b L)) ≡ map (◌∷◌ x) (cond t (c ∷ after b L) (after b L))
    go true = refl
    go false = refl

-- the fresh start: chains that begin with s all follow it
pub after_start : (s : ℕ) (L : List (List ℕ)) → after [] (map (◌∷◌ s) L) ≡ map (◌∷◌ s) L
unfolding after before
after_start s [] = refl
after_start s (c ∷ L) = ap (◌∷◌ (s ∷ c)) (after_start s L)

-- whoever has the smaller number does not stand behind
less_not_behind : {x y : ℕ} {b w : List ℕ} → y < x → ¬ Before (x ∷ b) (y ∷ w)
less_not_behind l (less i) = omega arith
less_not_behind l (same e i) = omega arith

-- what goes on with v, who stands before the bookmark's next person, or behind that person
pub after-before : (x v : ℕ) (b : List ℕ) (ws : List (List ℕ)) → v < x → after (x ∷ b) (map (◌∷◌ v) ws) ≡ []
after-before x v b ws h = after_none (x ∷ b) (map (◌∷◌ v) ws) (λ c m. let r = Memᴰ.of_map (◌∷◌ v) ws m in λ q. less_not_behind h (subst (λ d. Before (x ∷ b) d) (sym r.2) q))

pub after-behind : (x v : ℕ) (b : List ℕ) (ws : List (List ℕ)) → x < v → after (x ∷ b) (map (◌∷◌ v) ws) ≡ map (◌∷◌ v) ws
after-behind x v b ws h = after_all (x ∷ b) (map (◌∷◌ v) ws) (λ c m. let r = Memᴰ.of_map (◌∷◌ v) ws m in subst (λ d. Before (x ∷ b) d) r.2 (less h))

-- the chains of a listing after a bookmark of it
pub after-listing : (g : Graph) (s t k : ℕ) (b : List ℕ) → after (s ∷ b) (listing g s t k) ≡ map (◌∷◌ s) (after b (ways g t k (s ∷ []) s))
unfolding listing
after-listing g s t k b = after_map s b (ways g t k (s ∷ []) s)

-- a chain of a rising list parts it: what stands up to the chain and it, and what stands after it
pub after_split : (b : List ℕ) (lo hi : List (List ℕ)) → Rising Before (lo ++ b ∷ hi) → after b (lo ++ b ∷ hi) ≡ hi
unfolding after
after_split b lo hi r = rw (after-append b lo (b ∷ hi), after_none b lo (λ c m. before_asym (rising_below Before hi m r)), false_before b b (λ i. before_asym i i), after_all b hi (rising_above Before b lo hi r))

pub after-part : (b : List ℕ) (L : List (List ℕ)) → Rising Before L → b ∈ L → (lo : List (List ℕ)) × (L ≡ lo ++ b ∷ after b L)
after-part b L r m =
    let q = mem_split m in
    (q.0, q.2 ∙ ap (λ M. q.0 ++ b ∷ M) (sym (after_split b q.0 q.1 (subst (Rising Before) q.2 r)) ∙ ap (after b) (sym q.2)))
