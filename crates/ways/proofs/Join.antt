-- The join: a chain of L hops splits at one place only, every pair of halves that meet is a chain, and the joined list is the chains of L hops in dictionary order.
use mathlib.Core.Path.{◌≡◌, refl, sym, ap, ap₂, subst, subst₂, ◌∙◌, fun_ext}
use mathlib.Core.Logic.{◌≢◌, ◌⊎◌, inl, inr}
use mathlib.Core.Bool.{Bool, true, false, false≢true, cond}
use mathlib.Core.List.Memᴰ
use mathlib.Core.List.{List, [], ◌∷◌, ◌++◌, drop_last}
use Prim.Native.Nat.{ℕ, suc, ◌+◌, ◌/◌, ◌≤◌, ◌<◌}
use native.Mathlib.Omega.{arith}
use lib.ListN.{length, get_or, take, drop, length-append}
use lib.Seq.{split_at, append_snoc, take_at, drop_at, length-take-le}
use lib.Dec.{eqb}
use borrow.Author.Tests.{eqb-true, eq-eqb}
use Rattle.ways.specs.Graph.{Graph, ◌∈◌, among, keep}
use Rattle.ways.specs.Chain.{Last, Distinct, hops, Chain}
use Rattle.ways.specs.Order.{Before, less, same, Rising}
use Rattle.ways.specs.Portions.{last_or}
use Rattle.ways.specs.ByHops.{shorter_first, chains_of, by_hops}
use Rattle.ways.specs.Halves.{HalfChain, all_half_chains}
use Rattle.ways.specs.Join.{left_hops, right_hops, LeftHalf, left_halves, Meets, none_among, meets, glue, Split, joined}
use Rattle.ways.proofs.Members.{flat_map_in, flat_map_from, among_false, out_among, keep_from, keep_in}
use Rattle.ways.proofs.Cut.{linked_left, linked_right, last_right, last_snoc, last_behind, last_or_last, last_last_or, last_only, linked_append, last_append, distinct_left, distinct_right, distinct_apart, distinct_append}
use Rattle.ways.proofs.Listed.{exact}
use Rattle.ways.proofs.Rising.{only, rising_keep, rising_by, rising_across}
use Rattle.ways.proofs.Ordered.{before_asym, before-append, before_longer}
use Rattle.ways.proofs.ByHops.{chains_of_from, chains_of_in, chains_of_rising}
use Rattle.ways.proofs.Halves.{all_half_chains_rising, all_half_chains_from, all_half_chains_in}
use Rattle.ways.proofs.Onward.{left_halves_from, left_halves_in, left_halves_rising}

-- both halves together have L hops; the right half is a half chain of the question
pub left_right : (L : ℕ) → left_hops L + right_hops L ≡ L
left_right L = omega arith

pub right_within : (L k : ℕ) → L ≤ k → right_hops L ≤ k / 2
right_within L k l = omega arith

-- the tests
pub none_among_true : (a b : List ℕ) → none_among a b ≡ true → (x : ℕ) → x ∈ a → ¬ (x ∈ b)
unfolding none_among
none_among_true [] b e x m = absurd (Memᴰ.not-nil m)
none_among_true (y ∷ a) b e x m = go (among y b) refl e (λ i. none_among_true a b i x) (Memᴰ.cases_cons m)
  where
    go : (t : Bool) → among y b ≡ t → cond t false (none_among a b) ≡ true → (none_among a b ≡ true → x ∈ a → ¬ (x ∈ b)) → (x ≡ y) ⊎ (x ∈ a) → ¬ (x ∈ b)
    go true h i on q j = absurd (false≢true i)
    go false h i on (inl e) j = among_false h (Memᴰ.cast (sym e) j)
    go false h i on (inr n) j = on i n j

pub true_none_among : (a b : List ℕ) → ((x : ℕ) → x ∈ a → ¬ (x ∈ b)) → none_among a b ≡ true
unfolding none_among
true_none_among [] b h = refl
true_none_among (y ∷ a) b h = rw (out_among (h y (Memᴰ.head refl))) (true_none_among a b (λ x m. h x (Memᴰ.tail m)))

pub meets_true : (l h : List ℕ) → meets l h ≡ true → Meets l h
unfolding meets
meets_true l [] e = absurd (false≢true e)
meets_true [] (m ∷ h) e = absurd (false≢true e)
meets_true (p ∷ l) (m ∷ h) e = go (eqb (last_or p l) m) refl e
  where
    go : (t : Bool) → eqb (last_or p l) m ≡ t → cond t (none_among h (p ∷ l)) false ≡ true → Last m (p ∷ l) × ((x : ℕ) → x ∈ h → ¬ (x ∈ p ∷ l))
    go true i e = (subst (λ x. Last x (p ∷ l)) (eqb-true (last_or p l) m i) (last_or_last p l), none_among_true h (p ∷ l) e)
    go false i e = absurd (false≢true e)

pub true_meets : (l h : List ℕ) → Meets l h → meets l h ≡ true
unfolding meets
true_meets l [] r = absurd r
true_meets [] (m ∷ h) r = absurd r.0
true_meets (p ∷ l) (m ∷ h) r = rw (eq-eqb (last_or p l) m (last_last_or m p l r.0), true_none_among h (p ∷ l) r.1)

-- a chain of L hops splits
module _ {g : Graph} {s t k : ℕ} where
  cut_splits : (L : ℕ) (lo : List ℕ) (u : ℕ) (hi : List ℕ) → Chain g s t k (lo ++ u ∷ hi) → hops (lo ++ u ∷ hi) ≡ L → length lo ≡ left_hops L → Split g s t L (lo ++ (u ∷ [])) (u ∷ hi) (lo ++ u ∷ hi)
  cut_splits L [] u hi r e n = absurd (omega (arith, r.some))
  cut_splits L (q ∷ lo) u hi r e n =
      let d : Distinct (((q ∷ lo) ++ (u ∷ [])) ++ hi) = subst Distinct (sym (append_snoc (q ∷ lo) u hi)) r.once in
      let long = length-append lo (u ∷ hi) in
      let front = length-append lo (u ∷ []) in
      record {
        left = record { first = r.first; linked = linked_left g u (q ∷ lo) hi r.linked; once = distinct_left ((q ∷ lo) ++ (u ∷ [])) hi d; exactly = omega arith };
        right = record { last = last_right t u (q ∷ lo) hi r.last; linked = linked_right g u (q ∷ lo) hi r.linked; once = distinct_right (q ∷ lo) (u ∷ hi) r.once; apart = distinct_apart (u ∷ hi) (Memᴰ.head {xs = lo} (sym r.first)) r.once; exactly = omega arith };
        middle = (last_snoc u (q ∷ lo), (λ x i j. distinct_apart hi j d i));
        whole = append_snoc (q ∷ lo) u hi;
      }

  pub chain_splits : (L : ℕ) (c : List ℕ) → Chain g s t k c → hops c ≡ L → (l : List ℕ) × (h : List ℕ) × Split g s t L l h c
  chain_splits L [] r e = absurd r.first
  chain_splits L (p ∷ w) r e =
      let c = p ∷ w in
      let i = left_hops L in
      let at = split_at c i 0 (let j : i < length c = omega arith in j) in (
        take i c ++ (get_or c i 0 ∷ []),
        get_or c i 0 ∷ drop (suc i) c,
        subst (Split g s t L (take i c ++ (get_or c i 0 ∷ [])) (get_or c i 0 ∷ drop (suc i) c)) (sym at)
            (cut_splits L (take i c) (get_or c i 0) (drop (suc i) c) (subst (Chain g s t k) at r) (sym (ap hops at) ∙ e) (length-take-le i c (omega arith))),
      )

pub left-length : {g : Graph} {s i : ℕ} (l : List ℕ) → LeftHalf g s i l → length l ≡ suc i
left-length [] r = absurd r.first
left-length (p ∷ l) r = ap suc r.exactly

-- halves that meet are a chain
module _ {g : Graph} {s t : ℕ} where
  glued : (i j : ℕ) (lo : List ℕ) (m : ℕ) (h : List ℕ) → LeftHalf g s i (lo ++ (m ∷ [])) → HalfChain g s t j (m ∷ h) → ((x : ℕ) → x ∈ h → ¬ (x ∈ lo ++ (m ∷ []))) → Chain g s t (i + j) (lo ++ m ∷ h) × (hops (lo ++ m ∷ h) ≡ i + j)
  glued i j [] m h a b d = absurd (b.apart (Memᴰ.head (sym a.first)))
  glued i j (q ∷ lo) m h a b d =
      let long = length-append lo (m ∷ h) in
      let front = length-append lo (m ∷ []) in
      let all : length (lo ++ m ∷ h) ≡ i + j = omega (arith, a.exactly, b.exactly) in (
        record {
          first = a.first;
          last = last_append t m (q ∷ lo) h b.last;
          linked = linked_append g m (q ∷ lo) h a.linked b.linked;
          once = subst Distinct (append_snoc (q ∷ lo) m h) (distinct_append ((q ∷ lo) ++ (m ∷ [])) h a.once b.once.1 (λ x y z. d x z y));
          some = omega arith;
          few = omega arith;
        },
        all,
      )

  pub halves_chain : (L : ℕ) (l h c : List ℕ) → Split g s t L l h c → Chain g s t L c × (hops c ≡ L)
  halves_chain L l [] c r = absurd r.middle
  halves_chain L l (m ∷ h) c r = put (drop_last l) (last_behind m l r.middle.0)
    where
      put : (lo : List ℕ) → l ≡ lo ++ (m ∷ []) → Chain g s t L c × (hops c ≡ L)
      put lo e =
          let x = glued (left_hops L) (right_hops L) lo m h (subst (LeftHalf g s (left_hops L)) e r.left) r.right (λ y i j. r.middle.1 y i (subst (λ z. y ∈ z) (sym e) j)) in
          let whole : lo ++ m ∷ h ≡ c = sym (append_snoc lo m h) ∙ ap (λ z. z ++ h) (sym e) ∙ r.whole in
          subst (λ d. Chain g s t L d × (hops d ≡ L)) whole (subst (λ n. Chain g s t n (lo ++ m ∷ h) × (hops (lo ++ m ∷ h) ≡ n)) (left_right L) x)

  -- at one place only
  pub split_only : (L : ℕ) (l h l' h' c : List ℕ) → Split g s t L l h c → Split g s t L l' h' c → (l ≡ l') × (h ≡ h')
  split_only L l [] l' h' c a b = absurd a.middle
  split_only L l (m ∷ h) l' [] c a b = absurd b.middle
  split_only L l (m ∷ h) l' (m' ∷ h') c a b =
      let n = suc (left_hops L) in
      let x = left-length l a.left in
      let y = left-length l' b.left in
      let same_left : l ≡ l' = sym (take_at l h n x) ∙ ap (take n) (a.whole ∙ sym b.whole) ∙ take_at l' h' n y in
      let same-right : h ≡ h' = sym (drop_at l h n x) ∙ ap (drop n) (a.whole ∙ sym b.whole) ∙ drop_at l' h' n y in
      (same_left, ap₂ ◌∷◌ (last_only m m' l' (subst (Last m) same_left a.middle.0) b.middle.0) same-right)

-- the joined list: just what splits so
module _ (g : Graph) (n s t : ℕ) (ne : s ≢ t) where
  pub joined_from : (L : ℕ) {c : List ℕ} → c ∈ joined g n s t L → (l : List ℕ) × (h : List ℕ) × Split g s t L l h c
  unfolding joined
  joined_from L m =
      let q = flat_map_from _ (left_halves g s (left_hops L)) m in
      let r = Memᴰ.of_map (glue q.0) (keep (meets q.0) (all_half_chains g n s t (right_hops L))) q.2 in
      let k = keep_from (meets q.0) (all_half_chains g n s t (right_hops L)) r.1 in
      (q.0, r.0, record { left = left_halves_from g s (left_hops L) q.1; right = all_half_chains_from g n s t ne (right_hops L) k.0; middle = meets_true q.0 r.0 k.1; whole = r.2 })

  pub joined_in : ((p v : ℕ) → v ∈ g p → p < n) → (L : ℕ) (l h c : List ℕ) → Split g s t L l h c → c ∈ joined g n s t L
  unfolding joined
  joined_in low L l h c r =
      flat_map_in _ (left_halves_in g s (left_hops L) l r.left)
      (Memᴰ.cast (sym r.whole) (Memᴰ.map (glue l) (keep_in (meets l) (all_half_chains_in g n s t ne low (right_hops L) h r.right) (true_meets l h r.middle))))

-- and it rises
glue-before : (l h k : List ℕ) → Meets l h → Meets l k → Before h k → Before (glue l h) (glue l k)
glue-before l [] k x y r = absurd x
glue-before l (m ∷ h) [] x y r = absurd y
glue-before l (m ∷ h) (m' ∷ k) x y (less i) = absurd (omega (arith, last_only m m' l x.0 y.0))
glue-before l (m ∷ h) (m' ∷ k) x y (same e r) = before-append l r

glue_longer : (l l' h k : List ℕ) → Meets l h → Meets l' k → length l ≡ length l' → Before l l' → Before (glue l h) (glue l' k)
glue_longer l l' [] k x y e r = absurd x
glue_longer l l' (m ∷ h) [] x y e r = absurd y
glue_longer l l' (m ∷ h) (m' ∷ k) x y e r = before_longer h k r e

pub joined_rising : (g : Graph) → ((p : ℕ) → Rising ◌<◌ (g p)) → (n s t L : ℕ) → Rising Before (joined g n s t L)
unfolding joined
joined_rising g rows n s t L =
    rising_across Before Before _ (left_halves g s (left_hops L)) (left_halves_rising g s (left_hops L) rows)
    (λ l m. rising_by Before Before (glue l) (keep (meets l) H) (rising_keep Before (meets l) H (all_half_chains_rising g n s t (right_hops L)))
    (λ h k i j r. glue-before l h k (meets_true l h (keep_from (meets l) H i).1) (meets_true l k (keep_from (meets l) H j).1) r))
    (λ l l' m m' r a b i j. across l l' m m' r a b (Memᴰ.of_map (glue l) (keep (meets l) H) i) (Memᴰ.of_map (glue l') (keep (meets l') H) j))
  where
    H : List (List ℕ)
    H = all_half_chains g n s t (right_hops L)

    across : (l l' : List ℕ) → l ∈ left_halves g s (left_hops L) → l' ∈ left_halves g s (left_hops L) → Before l l' → (a b : List ℕ)
        → (h : List ℕ) × (h ∈ keep (meets l) H) × (glue l h ≡ a) → (k : List ℕ) × (k ∈ keep (meets l') H) × (glue l' k ≡ b) → Before a b
    across l l' m m' r a b x y =
        subst₂ Before x.2 y.2
        (glue_longer l l' x.0 y.0 (meets_true l x.0 (keep_from (meets l) H x.1).1) (meets_true l' y.0 (keep_from (meets l') H y.1).1)
        (left-length l (left_halves_from g s (left_hops L) m) ∙ sym (left-length l' (left_halves_from g s (left_hops L) m'))) r)

-- the join is the chains of L hops in dictionary order; all together, it is the listing by hops
module _ (g : Graph) (rows : (p : ℕ) → Rising ◌<◌ (g p)) (n : ℕ) (low : (p v : ℕ) → v ∈ g p → p < n) (s t : ℕ) (ne : s ≢ t) where
  pub join : (L : ℕ) → joined g n s t L ≡ chains_of g s t L
  join L = only Before (λ a b. before_asym) (joined g n s t L) (chains_of g s t L) (joined_rising g rows n s t L) (chains_of_rising g s t rows L) to from
    where
      to : (c : List ℕ) → c ∈ joined g n s t L → c ∈ chains_of g s t L
      to c m =
          let q = joined_from g n s t ne L m in
          let r = halves_chain L q.0 q.1 c q.2 in
          chains_of_in g s t L ((exact g s t L ne c).1 r.0) r.1

      from : (c : List ℕ) → c ∈ chains_of g s t L → c ∈ joined g n s t L
      from c m =
          let r = chains_of_from g s t L m in
          let q = chain_splits L c ((exact g s t L ne c).0 r.0) r.1 in
          joined_in g n s t ne low L q.0 q.1 c q.2

  pub join_all : (k : ℕ) → shorter_first (joined g n s t) k ≡ by_hops g s t k
  join_all k = ap (λ f. shorter_first f k) (fun_ext join)
