-- The test of a bookmark says just whether it is the record of one that is listed: a chain or, where From is To, a ring.
use mathlib.Core.Path.{◌≡◌, refl, sym, ap, subst, ◌∙◌}
use mathlib.Core.Logic.{◌≢◌}
use mathlib.Core.Bool.{Bool, true, false, not, ◌&&◌, ◌||◌, false≢true}
use mathlib.Core.List.Memᴰ
use mathlib.Core.List.{List, [], ◌∷◌}
use Prim.Native.Nat.{ℕ, zero, suc, ◌+◌, ◌-◌, ◌≤◌}
use native.Mathlib.Omega.{arith}
use lib.ListN.{length, get_or, drop, replicate, length-drop}
use lib.Seq.{slice, length-take-le}
use lib.Dec.{eqb}
use borrow.Author.Tests.{eqb-true, eqb-false, eq-eqb, ne_eqb, le-leb, not-true}
use Rattle.format.specs.Numbers.{within}
use Rattle.format.proofs.Counted.{halves, within_facts}
use Rattle.ways.specs.Graph.{Graph, ◌∈◌, among}
use Rattle.ways.specs.Chain.{Last, Linked, Distinct, hops}
use Rattle.ways.specs.Listing.{listing}
use Rattle.ways.specs.Records.{Shaped, chain_of, is_record_in}
use Rattle.ways.proofs.Members.{among_true, mem_among, among_false, out_among}
use Rattle.ways.proofs.Listed.{Listable, last_some}
use Rattle.ways.proofs.Records.{is_record_in_listed}
use Rattle.starting.specs.Bookmark.{runs, leads_on, zeros, is_bookmark}

-- two tests that hold together are one
pub same_test : (a b : Bool) → (a ≡ true → b ≡ true) → (b ≡ true → a ≡ true) → a ≡ b
same_test true b to from = sym (to refl)
same_test false true to from = absurd (false≢true (from refl))
same_test false false to from = refl

-- a run: to the end person, by links, nobody twice
pub runs_holds : (g : Graph) (t : ℕ) (c : List ℕ) → runs g t c ≡ true → Last t c × Linked g c × Distinct c
unfolding runs
runs_holds g t [] e = absurd (false≢true e)
runs_holds g t (p ∷ []) e = (eqb-true p t e, tt, (Memᴰ.not-nil, tt))
runs_holds g t (p ∷ q ∷ c) e =
    let last = halves (among q (g p) && not (among p (q ∷ c))) (runs g t (q ∷ c)) e in
    let first = halves (among q (g p)) (not (among p (q ∷ c))) last.0 in
    let rest = runs_holds g t (q ∷ c) last.1 in
    (rest.0, (among_true q (g p) first.0, rest.1), (among_false (not-true (among p (q ∷ c)) first.1), rest.2))

pub holds_runs : (g : Graph) (t : ℕ) (c : List ℕ) → Last t c → Linked g c → Distinct c → runs g t c ≡ true
unfolding runs
holds_runs g t [] last linked once = absurd last
holds_runs g t (p ∷ []) last linked once = eq-eqb p t last
holds_runs g t (p ∷ q ∷ c) last linked once = rw (mem_among linked.0, out_among once.0) (holds_runs g t (q ∷ c) last linked.1 once.1)

-- From leads on: by a link, to To, and comes again only where From is To
again : (s t : ℕ) (c : List ℕ) → (eqb s t || not (among s c)) ≡ true → s ≢ t → ¬ (s ∈ c)
again s t c e n = among_false (not-true (among s c) (rw (ne_eqb s t n) at e))

never_again : (s t : ℕ) (c : List ℕ) → (s ≢ t → ¬ (s ∈ c)) → (eqb s t || not (among s c)) ≡ true
never_again s t c h = go (eqb s t) refl
  where
    go : (same : Bool) → eqb s t ≡ same → (same || not (among s c)) ≡ true
    go true e = refl
    go false e = rw (out_among (h (eqb-false s t e)))

pub leads_on_holds : (g : Graph) (s t : ℕ) (c : List ℕ) → leads_on g s t c ≡ true → Last t c × Linked g (s ∷ c) × Distinct c × (s ≢ t → ¬ (s ∈ c))
unfolding leads_on
leads_on_holds g s t [] e = absurd (false≢true e)
leads_on_holds g s t (q ∷ c) e =
    let last = halves (among q (g s) && (eqb s t || not (among s (q ∷ c)))) (runs g t (q ∷ c)) e in
    let first = halves (among q (g s)) (eqb s t || not (among s (q ∷ c))) last.0 in
    let rest = runs_holds g t (q ∷ c) last.1 in
    (rest.0, (among_true q (g s) first.0, rest.1), rest.2, again s t (q ∷ c) first.1)

pub holds_leads_on : (g : Graph) (s t : ℕ) (c : List ℕ) → Last t c → Linked g (s ∷ c) → Distinct c → (s ≢ t → ¬ (s ∈ c)) → leads_on g s t c ≡ true
unfolding leads_on
holds_leads_on g s t [] last linked once apart = absurd last
holds_leads_on g s t (q ∷ c) last linked once apart = rw (mem_among linked.0, never_again s t (q ∷ c) apart) (holds_runs g t (q ∷ c) last linked.1 once)

-- nothing but zeros
pub zeros_holds : (cells : List ℕ) → zeros cells ≡ true → cells ≡ replicate (length cells) 0
unfolding zeros
zeros_holds [] e = refl
zeros_holds (x ∷ cells) e = let both = halves (eqb x 0) (zeros cells) e in rw (eqb-true x 0 both.0) (ap (◌∷◌ 0) (zeros_holds cells both.1))

pub zeros-replicate : (n : ℕ) → zeros (replicate n 0) ≡ true
unfolding zeros
zeros-replicate zero = refl
zeros-replicate (suc n) = zeros-replicate n

-- the persons of a record: the first stands in cell 1, the others from cell 2 on, and the hops are as many as these
chain_cells : (cells : List ℕ) → 2 ≤ length cells → chain_of cells ≡ get_or cells 1 0 ∷ slice 2 (get_or cells 0 0 + 2) cells
unfolding chain_of
chain_cells [] h = absurd (omega arith)
chain_cells (hop ∷ []) h = absurd (omega arith)
chain_cells (hop ∷ x ∷ cells) h = let e : hop + 2 ≡ suc (suc hop) = omega arith in rw e

chain_hops : (cells : List ℕ) → get_or cells 0 0 + 2 ≤ length cells → hops (chain_of cells) ≡ get_or cells 0 0
unfolding chain_of
chain_hops [] h = absurd (omega arith)
chain_hops (hop ∷ []) h = absurd (omega arith)
chain_hops (hop ∷ x ∷ cells) h = length-take-le hop cells (omega arith)

module _ (g : Graph) (s t k size : ℕ) (h : k + 2 ≤ size) (cells : List ℕ) where
  hop : ℕ
  hop = get_or cells 0 0

  others : List ℕ
  others = slice 2 (hop + 2) cells

  -- a bookmark that passes the test is a record, of one that is listed
  test_holds : is_bookmark size g s t k cells ≡ true → Shaped size cells × Listable g s t k (chain_of cells)
  unfolding is_bookmark hop others
  test_holds e =
      let blank = halves (eqb (length cells) size && within 1 k hop && eqb (get_or cells 1 0) s && leads_on g s t others) (zeros (drop (hop + 2) cells)) e in
      let on = halves (eqb (length cells) size && within 1 k hop && eqb (get_or cells 1 0) s) (leads_on g s t others) blank.0 in
      let starts = halves (eqb (length cells) size && within 1 k hop) (eqb (get_or cells 1 0) s) on.0 in
      let sized = halves (eqb (length cells) size) (within 1 k hop) starts.0 in
      let whole : length cells ≡ size = eqb-true (length cells) size sized.0 in
      let few = within_facts 1 k hop sized.1 in
      let hopped : hops (chain_of cells) ≡ hop = chain_hops cells (omega arith) in
      let rest : length cells - (hop + 2) ≡ size - (hop + 2) = omega arith in
      let persons : chain_of cells ≡ s ∷ others = chain_cells cells (omega arith) ∙ ap (λ (x : ℕ). x ∷ others) (eqb-true (get_or cells 1 0) s starts.1) in
      let way = leads_on_holds g s t others on.1 in (
        record { whole = whole; room = omega arith; zeros = zeros_holds (drop (hop + 2) cells) blank.1 ∙ rw (length-drop, rest) },
        record {
          first = rw persons refl;
          last = rw persons way.0;
          linked = rw persons way.1;
          once = rw persons way.2;
          apart = rw persons way.3;
          few = omega arith;
        },
      )

  -- and a record of one that is listed passes it
  holds_test : Shaped size cells → Listable g s t k (chain_of cells) → is_bookmark size g s t k cells ≡ true
  unfolding is_bookmark hop others
  holds_test shape stands =
      let hopped : hops (chain_of cells) ≡ hop = chain_hops cells (omega (arith, shape.room, shape.whole)) in
      let persons : chain_of cells ≡ get_or cells 1 0 ∷ others = chain_cells cells (omega (arith, shape.room, shape.whole)) in
      let first : get_or cells 1 0 ≡ s = rw persons at stands.first in
      let last : Last t others = rw persons at stands.last in
      let linked : Linked g (s ∷ others) = subst (λ (x : ℕ). Linked g (x ∷ others)) first (rw persons at stands.linked) in
      let once : Distinct others = rw persons at stands.once in
      let apart : s ≢ t → ¬ (s ∈ others) = rw persons at stands.apart in
      let long : length others ≡ hop = sym (ap hops persons) ∙ hopped in
      let low : 1 ≤ hop = omega (arith, last_some t others last) in
      let high : hop ≤ k = omega (arith, stands.few) in
      rw (eq-eqb (length cells) size shape.whole, le-leb 1 hop low, le-leb hop k high, eq-eqb (get_or cells 1 0) s first, holds_leads_on g s t others last linked once apart, shape.zeros)
      (zeros-replicate (size - (hop + 2)))

-- the law: 17 is found without listing
pub bookmark_is : (g : Graph) (s t k size : ℕ) → k + 2 ≤ size → (cells : List ℕ) → is_bookmark size g s t k cells ≡ is_record_in size (listing g s t k) cells
bookmark_is g s t k size h cells =
    let both = is_record_in_listed g s t k size h cells in
    same_test (is_bookmark size g s t k cells) (is_record_in size (listing g s t k) cells) (λ e. both.1 (test_holds g s t k size h cells e)) (λ e. let r = both.0 e in holds_test g s t k size h cells r.0 r.1)
