-- After a bookmark: what a person's side of it says of the ways through that person.
use mathlib.Core.Path.{◌≡◌, refl, sym, ap, ◌∙◌}
use mathlib.Core.Bool.{true, false, true≢false, false≢true}
use mathlib.Core.List.{List, [], ◌∷◌, ◌++◌, map}
use Prim.Native.Nat.{ℕ, ◌+◌, ◌<◌}
use lib.ListN.{get_or}
use lib.Seq.{slice, slice-cons}
use native.Mathlib.Omega.{arith}
use native.Mathlib.Numerals.{add-one}
use Rattle.std.specs.Prelude.{Some, None}
use Rattle.std.specs.Borrow.{Bor}
use Rattle.std.specs.declared.cmp.Ordering.{Ordering}
use Rattle.std.specs.declared.cmp.Ordering.TheVariants.{Less, Equal, Greater}
use Rattle.std.specs.Ordering.{MatchOrdering, nat_cmp, is_eq, is_gt}
use Rattle.std.proofs.lemmas.Cmp.{ranked}
use Rattle.ways.specs.Portions.{after}
use Rattle.ways.proofs.After.{after-append, after_map, after-before, after-behind, before-nil}
use Rattle.search.specs.Bookmarks.{rest_of, onward, kept, Beginning, Beside}
use Rattle.search.specs.Places.{Bookmark}

pub onward_none : (tight : Bookmark) (n : ℕ) → onward tight n [] ≡ []
unfolding onward after
onward_none None n = refl
onward_none (Some b) n = refl

pub onward-append : (tight : Bookmark) (n : ℕ) (xs ys : List (List ℕ)) → onward tight n (xs ++ ys) ≡ onward tight n xs ++ onward tight n ys
unfolding onward
onward-append None n xs ys = refl
onward-append (Some b) n xs ys = after-append (rest_of b.now n) xs ys

-- the end alone does not stand behind what is left of the bookmark
pub onward_end : (b : Bor (List ℕ)) (n : ℕ) → onward (Some b) n ([] ∷ []) ≡ []
unfolding onward after
onward_end b n = rw before-nil

-- whoever is not the bookmark's next person leaves it
pub onward_left : (tight : Bookmark) (side : Ordering) (n : ℕ) (ws : List (List ℕ)) → is_eq side ≡ false → onward (kept tight side) n ws ≡ ws
unfolding onward
onward_left tight side n ws e = rw e

pub behind_left : (side : Ordering) → is_gt side ≡ true → is_eq side ≡ false
behind_left Less e = refl
behind_left Equal e = absurd (false≢true e)
behind_left Greater e = refl

-- the bookmark is kept by its next person alone
pub kept_same : (tight : Bookmark) (side : Ordering) {b : Bor (List ℕ)} → kept tight side ≡ Some b → (is_eq side ≡ true) × (tight ≡ Some b)
kept_same tight Less e = cc
kept_same tight Equal e = (refl, e)
kept_same tight Greater e = cc

pub beside_loose : {n v : ℕ} → Beside None n v Greater
unfolding onward
beside_loose = record {
  skipped = λ e. absurd (false≢true e);
  on = λ e ws. refl;
  same = λ e. absurd (false≢true e);
}

module _ (b : Bor (List ℕ)) {n : ℕ} (k : Beginning b.now n) where
  -- the bookmark goes on with its next person
  goes_on : rest_of b.now n ≡ get_or b.now (n + 1) 0 ∷ rest_of b.now (n + 1)
  goes_on = slice-cons (n + 1) (get_or b.now 0 0 + 2) b.now 0 (omega (arith, k.on)) (omega (arith, k.cells, k.fits)) ∙ ap (λ (m : ℕ). get_or b.now (n + 1) 0 ∷ slice m (get_or b.now 0 0 + 2) b.now) (sym (add-one (n + 1)))

  by_next : (ws : List (List ℕ)) → onward (Some b) n ws ≡ after (get_or b.now (n + 1) 0 ∷ rest_of b.now (n + 1)) ws
  unfolding onward
  by_next ws = ap (λ (r : List ℕ). after r ws) goes_on

  pub beside_next : (v : ℕ) (side : Ordering) → side ≡ nat_cmp v (get_or b.now (n + 1) 0) → Beside (Some b) n v side
  unfolding onward
  beside_next v side e = go side (ranked v (get_or b.now (n + 1) 0) side e)
    where
      go : (s : Ordering) → MatchOrdering s (v < get_or b.now (n + 1) 0) (v ≡ get_or b.now (n + 1) 0) (get_or b.now (n + 1) 0 < v) → Beside (Some b) n v s
      go Less h = record {
        skipped = λ e ws. by_next _ ∙ after-before _ v _ ws h;
        on = λ e. absurd (true≢false e);
        same = λ e. absurd (false≢true e);
      }
      go Equal h = record {
        skipped = λ e. absurd (false≢true e);
        on = λ e ws. by_next _ ∙ ap (λ (x : ℕ). after (x ∷ rest_of b.now (n + 1)) (map (◌∷◌ v) ws)) (sym h) ∙ after_map v _ ws;
        same = λ e. (b, refl, h);
      }
      go Greater h = record {
        skipped = λ e. absurd (false≢true e);
        on = λ e ws. by_next _ ∙ after-behind _ v _ ws h;
        same = λ e. absurd (false≢true e);
      }
