-- Half chains: `all_half_chains` lists just those of so many hops, in dictionary order; `halves` all of them, shorter first.
use mathlib.Core.Path.{◌≡◌, refl, sym, ap, subst}
use mathlib.Core.Logic.{◌≢◌, ◌↔◌, ◌⊎◌, inl, inr}
use mathlib.Core.Bool.{Bool, true, false, false≢true, cond}
use mathlib.Core.List.Memᴰ
use mathlib.Core.List.{List, [], ◌∷◌, ◌++◌, map}
use Prim.Native.Nat.{ℕ, zero, suc, ◌+◌, ◌*◌, ◌/◌, ◌≤◌, ◌<◌}
use native.Mathlib.Omega.{arith}
use native.Mathlib.Nat.{le-div_iff_mul-le}
use native.Mathlib.Decide.{dec_lt}
use lib.ListN.{length}
use lib.Dec.{eqb}
use borrow.Author.Tests.{eqb-false, ne_eqb, leb-true, le-leb}
use Rattle.ways.specs.Graph.{Graph, ◌∈◌, among, keep}
use Rattle.ways.specs.Chain.{hops}
use Rattle.ways.specs.Order.{Before, Rising}
use Rattle.ways.specs.Records.{Fits}
use Rattle.ways.specs.ByHops.{Sooner}
use Rattle.ways.specs.Halves.{HalfChain, persons_below, extends, all_half_chains, halves, halves_fit}
use Rattle.ways.proofs.Members.{flat_map_in, flat_map_from, among_true, mem_among, among_false, out_among, out, keep_from, keep_in}
use Rattle.ways.proofs.Rising.{rising_append, one_list, rising_keep}
use Rattle.ways.proofs.Ordered.{unless_from, unless-row}
use Rattle.ways.proofs.ByHops.{sooner_asym, shorter_first_from, shorter_first_in, shorter_first_rising}

-- the persons of a file
pub persons_below_lem : (n : ℕ) {p : ℕ} → p ∈ persons_below n → p < n
unfolding persons_below
persons_below_lem zero m = absurd (Memᴰ.not-nil m)
persons_below_lem (suc n) {p} m = step (λ i. persons_below_lem n i) (Memᴰ.append_cases (persons_below n) m)
  where
    step : (p ∈ persons_below n → p < n) → (p ∈ persons_below n) ⊎ (p ∈ n ∷ []) → p < suc n
    step on (inl i) = omega (arith, on i)
    step on (inr i) = omega (arith, Memᴰ.eq_of_singleton i)

pub below_persons : (n p : ℕ) → p < n → p ∈ persons_below n
unfolding persons_below
below_persons zero p l = absurd (omega arith)
below_persons (suc n) p l = go (dec_lt p n) (λ i. below_persons n p i)
  where
    go : Dec (p < n) → (p < n → p ∈ persons_below n) → p ∈ persons_below n ++ (n ∷ [])
    go (yes i) on = Memᴰ.append_left (n ∷ []) (on i)
    go (no o) on = Memᴰ.append_right (persons_below n) (Memᴰ.head (omega arith))

pub persons_rising : (n : ℕ) → Rising ◌<◌ (persons_below n)
unfolding persons_below
persons_rising zero = tt
persons_rising (suc n) = rising_append ◌<◌ (persons_below n) (n ∷ []) (persons_rising n) ((λ y m. absurd (Memᴰ.not-nil m)), tt) (λ x y i j. omega (arith, persons_below_lem n i, Memᴰ.eq_of_singleton j))

-- the test `extends`
pub extends_true : (g : Graph) (p q : ℕ) (h : List ℕ) → extends g p (q ∷ h) ≡ true → (q ∈ g p) × (¬ (p ∈ q ∷ h))
unfolding extends
extends_true g p q h e = go (among q (g p)) (among p (q ∷ h)) refl refl e
  where
    go : (a b : Bool) → among q (g p) ≡ a → among p (q ∷ h) ≡ b → cond a (cond b false true) false ≡ true → (q ∈ g p) × (¬ (p ∈ q ∷ h))
    go true true i j e = absurd (false≢true e)
    go true false i j e = (among_true q (g p) i, among_false j)
    go false b i j e = absurd (false≢true e)

pub true_extends : (g : Graph) (p q : ℕ) (h : List ℕ) → q ∈ g p → ¬ (p ∈ q ∷ h) → extends g p (q ∷ h) ≡ true
unfolding extends
true_extends g p q h m o = rw (mem_among m, out_among o)

-- what is listed is a half chain of j hops
module _ (g : Graph) (n s t : ℕ) (apart : s ≢ t) where
  pub all_half_chains_from : (j : ℕ) {h : List ℕ} → h ∈ all_half_chains g n s t j → HalfChain g s t j h
  unfolding all_half_chains
  all_half_chains_from zero {h} m = subst (HalfChain g s t 0) (sym (Memᴰ.eq_of_singleton m)) (record { last = refl; linked = tt; once = (Memᴰ.not-nil, tt); apart = out apart Memᴰ.not-nil; exactly = refl })
  all_half_chains_from (suc j) {h} m = step (λ w i. all_half_chains_from j i) (flat_map_from _ (persons_below n) m)
    where
      put : (p : ℕ) (w : List ℕ) → p ≢ s → extends g p w ≡ true → HalfChain g s t j w → HalfChain g s t (suc j) (p ∷ w)
      put p [] o e r = absurd r.last
      put p (q ∷ w) o e r =
          let x = extends_true g p q w e in
          record { last = r.last; linked = (x.0, r.linked); once = (x.1, r.once); apart = out (λ i. o (sym i)) r.apart; exactly = ap suc r.exactly }

      step : ((w : List ℕ) → w ∈ all_half_chains g n s t j → HalfChain g s t j w)
          → (p : ℕ) × (p ∈ persons_below n) × (h ∈ cond (eqb p s) [] (map (◌∷◌ p) (keep (extends g p) (all_half_chains g n s t j)))) → HalfChain g s t (suc j) h
      step on q =
          let r = unless_from q.0 (keep (extends g q.0) (all_half_chains g n s t j)) (eqb q.0 s) q.2 in
          let x = keep_from (extends g q.0) (all_half_chains g n s t j) r.2 in
          subst (HalfChain g s t (suc j)) r.3 (put q.0 r.1 (eqb-false q.0 s r.0) x.1 (on r.1 x.0))

-- in dictionary order
pub all_half_chains_rising : (g : Graph) (n s t j : ℕ) → Rising Before (all_half_chains g n s t j)
unfolding all_half_chains
all_half_chains_rising g n s t zero = ((λ y m. absurd (Memᴰ.not-nil m)), tt)
all_half_chains_rising g n s t (suc j) = unless-row (λ p. eqb p s) (λ p. keep (extends g p) (all_half_chains g n s t j)) (persons_below n) (persons_rising n) (λ p. rising_keep Before (extends g p) (all_half_chains g n s t j) (all_half_chains_rising g n s t j))

-- exact: all of them are, in a file that has n persons
module _ (g : Graph) (n s t : ℕ) (apart : s ≢ t) (low : (p v : ℕ) → v ∈ g p → p < n) where
  pub all_half_chains_in : (j : ℕ) (h : List ℕ) → HalfChain g s t j h → h ∈ all_half_chains g n s t j
  unfolding all_half_chains
  all_half_chains_in j [] r = absurd r.last
  all_half_chains_in zero (p ∷ []) r = Memᴰ.head (ap (λ x. x ∷ []) r.last)
  all_half_chains_in (suc j) (p ∷ []) r = absurd (omega arith)
  all_half_chains_in zero (p ∷ q ∷ h) r = absurd (omega arith)
  all_half_chains_in (suc j) (p ∷ q ∷ h) r =
      let rest = all_half_chains_in j (q ∷ h) (record { last = r.last; linked = r.linked.1; once = r.once.1; apart = λ i. r.apart (Memᴰ.tail i); exactly = omega arith }) in
      flat_map_in _ (below_persons n p (low p q r.linked.0))
      (rw (ne_eqb p s (λ e. r.apart (Memᴰ.head (sym e)))) (Memᴰ.map (◌∷◌ p) (keep_in (extends g p) rest (true_extends g p q h r.linked.0 r.once.0))))

  -- all half chains of at most k/2 hops; each once, shorter first; and the only such list
  pub halves_exact : (k : ℕ) (h : List ℕ) → h ∈ halves g n s t k ↔ (HalfChain g s t (hops h) h × (hops h ≤ k / 2))
  halves_exact k h = (λ m. to (shorter_first_from (all_half_chains g n s t) (k / 2) m), λ r. shorter_first_in (all_half_chains g n s t) (k / 2) (hops h) r.1 (all_half_chains_in (hops h) h r.0))
    where
      to : (j : ℕ) × (j ≤ k / 2) × (h ∈ all_half_chains g n s t j) → HalfChain g s t (hops h) h × (hops h ≤ k / 2)
      to q = let r = all_half_chains_from g n s t apart q.0 q.2 in (rw r.exactly r, omega (arith, r.exactly, q.1))

  pub halves_ordered : (k : ℕ) → Rising Sooner (halves g n s t k)
  halves_ordered k = shorter_first_rising (all_half_chains g n s t) (all_half_chains_rising g n s t) (λ j h m. (all_half_chains_from g n s t apart j m).exactly) (k / 2)

  pub halves_determined : (k : ℕ) (H : List (List ℕ)) → Rising Sooner H → ((h : List ℕ) → h ∈ H ↔ (HalfChain g s t (hops h) h × (hops h ≤ k / 2))) → H ≡ halves g n s t k
  halves_determined k H r i = one_list Sooner (λ a b. sooner_asym) (λ h. HalfChain g s t (hops h) h × (hops h ≤ k / 2)) H (halves g n s t k) r (halves_ordered k) i (halves_exact k)

  -- a half chain has a record
  pub half_fits : (k size : ℕ) → k / 2 + 2 ≤ size → (h : List ℕ) → h ∈ halves g n s t k → Fits size h
  half_fits k size l h m = let r = (halves_exact k h).0 m in go h r.0 r.1
    where
      go : (h : List ℕ) → HalfChain g s t (hops h) h → hops h ≤ k / 2 → Fits size h
      go [] r i = absurd r.last
      go (p ∷ h) r i = record { some = omega arith; room = omega arith }

-- refusal 18: none just where the working cells are as many as the records of the half chains together
pub halves_fit_iff : (size cells : ℕ) (H : List (List ℕ)) → 0 < size → (halves_fit size cells H ≡ true) ↔ (length H * size ≤ cells)
halves_fit_iff size cells H z = ((λ e. (le-div_iff_mul-le z).0 (leb-true (length H) (cells / size) e)), (λ l. le-leb (length H) (cells / size) ((le-div_iff_mul-le z).1 l)))
