-- The record that is put together cell by cell is the record of the chain.
use mathlib.Core.Path.{◌≡◌, refl, sym, ap, ◌∙◌}
use mathlib.Core.List.Memᴰ
use mathlib.Core.List.{List, [], ◌∷◌, ◌++◌, map, append_assoc, append-nil}
use Prim.Native.Nat.{ℕ, zero, suc, ◌+◌, ◌-◌, ◌≤◌, ◌<◌}
use lib.ListN.{length, take, drop, set, replicate, length-set, length-append}
use lib.Seq.{paste, paste-zero, take-suc-set, drop-set-lt, append_snoc, set_at}
use native.Mathlib.Omega.{arith}
use native.Mathlib.Nat.{add-zero, sub-zero}
use native.Mathlib.Numerals.{add-one}
use Rattle.ways.specs.Graph.{◌∈◌}
use Rattle.ways.specs.Records.{record_of, Fits}
use Rattle.ways.specs.Sizes.{record_size}
use Rattle.pages.specs.Pages.{blank, record_with}

-- ---- all at once

-- the persons pasted behind the chain so far, and the hops
pub record_with_paste : (chain : List ℕ) (len : ℕ) (w : List ℕ) → len + length w < length chain → record_with chain len w ≡ set (paste chain (len + 1) w (length w)) 0 (len + length w - 1)
unfolding record_with
record_with_paste chain len [] h = ap (λ (n : ℕ). set chain 0 (n - 1)) (sym (add-zero len)) ∙ ap (λ (c : List ℕ). set c 0 (len + 0 - 1)) (paste-zero chain (len + 1) [])
record_with_paste chain len (v ∷ w) h =
    let n = length w in
    let front : take (len + 1 + 1) (set chain (len + 1) v) ≡ take (len + 1) chain ++ (v ∷ []) = rw (add-one (len + 1)) (take-suc-set chain (len + 1) v (omega arith)) in
    let i : len + 1 + 1 + n ≡ len + 1 + suc n = omega arith in
    let back : drop (len + 1 + 1 + n) (set chain (len + 1) v) ≡ drop (len + 1 + suc n) chain = drop-set-lt (len + 1 + 1 + n) chain (len + 1) v (omega arith) ∙ ap (λ (j : ℕ). drop j chain) i in
    let hops : len + 1 + n - 1 ≡ len + suc n - 1 = omega arith in
    record_with_paste (set chain (len + 1) v) (len + 1) w (rw length-set (omega arith))
    ∙ ap (λ (x : List ℕ). set (x ++ take n w ++ drop (len + 1 + 1 + n) (set chain (len + 1) v)) 0 (len + 1 + n - 1)) front
    ∙ ap (λ (x : List ℕ). set (take (len + 1) chain ++ (v ∷ []) ++ take n w ++ x) 0 (len + 1 + n - 1)) back
    ∙ ap (λ (x : List ℕ). set (x ++ drop (len + 1 + suc n) chain) 0 (len + 1 + n - 1)) (append_snoc (take (len + 1) chain) v (take n w))
    ∙ ap (λ (m : ℕ). set (take (len + 1) chain ++ (v ∷ take n w) ++ drop (len + 1 + suc n) chain) 0 m) hops

-- ---- from a blank chain on

set_after : (h : ℕ) (xs : List ℕ) (y : ℕ) (ys : List ℕ) (v : ℕ) → set (h ∷ (xs ++ y ∷ ys)) (length xs + 1) v ≡ h ∷ ((xs ++ (v ∷ [])) ++ ys)
set_after h xs y ys v =
    ap (λ (n : ℕ). set (h ∷ (xs ++ y ∷ ys)) n v) (add-one (length xs))
    ∙ ap (◌∷◌ h) (set_at xs y ys v (length xs) refl ∙ sym (append_assoc xs (v ∷ []) ys))

record_with-row : (w : List ℕ) (h : ℕ) (xs : List ℕ) (m : ℕ) → length w ≤ m
    → record_with (h ∷ (xs ++ replicate m 0)) (length xs) w ≡ (length xs + length w - 1) ∷ ((xs ++ w) ++ replicate (m - length w) 0)
unfolding record_with
record_with-row [] h xs m l = rw (add-zero, append-nil, sub-zero)
record_with-row (v ∷ w) h xs zero l = absurd (omega arith)
record_with-row (v ∷ w) h xs (suc m) l =
    let long : length xs + 1 ≡ length (xs ++ (v ∷ [])) = sym (length-append xs (v ∷ [])) in
    let hops : length (xs ++ (v ∷ [])) + length w - 1 ≡ length xs + suc (length w) - 1 = omega (arith, long) in
    let zeros : suc m - suc (length w) ≡ m - length w = omega arith in
    ap (λ (l : List ℕ). record_with l (length xs + 1) w) (set_after h xs 0 (replicate m 0) v)
    ∙ ap (λ (n : ℕ). record_with (h ∷ ((xs ++ (v ∷ [])) ++ replicate m 0)) n w) long
    ∙ record_with-row w h (xs ++ (v ∷ [])) m (omega arith)
    ∙ ap (λ (n : ℕ). n ∷ (((xs ++ (v ∷ [])) ++ w) ++ replicate (m - length w) 0)) hops
    ∙ ap (λ (l : List ℕ). (length xs + suc (length w) - 1) ∷ (l ++ replicate (m - length w) 0)) (append_assoc xs (v ∷ []) w)
    ∙ ap (λ (n : ℕ). (length xs + suc (length w) - 1) ∷ ((xs ++ v ∷ w) ++ replicate n 0)) (sym zeros)

record_with-first : (from : ℕ) (w : List ℕ) → Fits record_size (from ∷ w) → record_with (set blank 1 from) 1 w ≡ record_of record_size (from ∷ w)
unfolding record_of
record_with-first from w f =
    let hops : 1 + length w - 1 ≡ length w = omega arith in
    let zeros : record_size - 2 - length w ≡ record_size - suc (suc (length w)) = omega arith in
    record_with-row w 0 (from ∷ []) (record_size - 2) (omega (arith, f.room))
    ∙ ap (λ (n : ℕ). n ∷ (((from ∷ []) ++ w) ++ replicate (record_size - 2 - length w) 0)) hops
    ∙ ap (λ (n : ℕ). length w ∷ ((from ∷ w) ++ replicate n 0)) zeros

-- records of chains that begin with the person at the first place, and of any chains
pub records_first : (from : ℕ) (ws : List (List ℕ)) → ((c : List ℕ) → c ∈ map (◌∷◌ from) ws → Fits record_size c) → map (record_with (set blank 1 from) 1) ws ≡ map (record_of record_size) (map (◌∷◌ from) ws)
records_first from [] f = refl
records_first from (w ∷ ws) f = rw (record_with-first from w (f (from ∷ w) (Memᴰ.head refl)), records_first from ws (λ d m. f d (Memᴰ.tail m)))

record_with-blank : (c : List ℕ) → Fits record_size c → record_with blank 0 c ≡ record_of record_size c
unfolding record_with
record_with-blank [] f = absurd (omega (arith, f.some))
record_with-blank (p ∷ c) f = record_with-first p c f

pub records_blank : (L : List (List ℕ)) → ((c : List ℕ) → c ∈ L → Fits record_size c) → map (record_with blank 0) L ≡ map (record_of record_size) L
records_blank [] f = refl
records_blank (c ∷ L) f = rw (record_with-blank c (f c (Memᴰ.head refl)), records_blank L (λ d m. f d (Memᴰ.tail m)))
