-- Handing over records while there is room: what was handed over in parts was handed over at once, nothing more once one was noted, and
-- of chains the first are written where there is room.
use mathlib.Core.Path.{◌≡◌, refl, sym, ap, ◌∙◌}
use mathlib.Core.Bool.{Bool, true, false, cond, false≢true}
use mathlib.Core.List.Memᴰ
use mathlib.Core.List.{List, [], ◌∷◌, ◌++◌, map, append_assoc}
use mathlib.Core.Logic.{◌⊎◌, inl, inr, ⊎_elim}
use Prim.Native.Nat.{ℕ, zero, suc, ◌+◌, ◌*◌, ◌/◌, ◌≤◌, ◌<◌, min}
use lib.ListN.{length, take, drop, length-append, length-drop, length-take}
use lib.Seq.{paste, take-nil, take_all, take_at, drop-append-add, drop-drop}
use lib.Dec.{ltb}
use native.Mathlib.Omega.{arith}
use native.Mathlib.Nat.{add-zero, zero-add, zero-min, min-zero, suc-min-suc}
use borrow.Author.Tests.{lt-ltb, le-ltb}
use Rattle.ways.specs.Graph.{◌∈◌}
use Rattle.ways.specs.Records.{record_of, Fits, cells_of, written}
use Rattle.ways.specs.Sizes.{record_size}
use Rattle.ways.proofs.Cases.{lt_or_le}
use Rattle.ways.proofs.Records.{length-record_of}
use Rattle.pages.specs.Pages.{Page, emit, emits}

-- what is handed over in two parts
pub emits-append : (writes : Bool) (room : ℕ) (s : Page) (xs ys : List (List ℕ)) → emits writes room s (xs ++ ys) ≡ emits writes room (emits writes room s xs) ys
unfolding emits
emits-append writes room s [] ys = refl
emits-append writes room s (x ∷ xs) ys = emits-append writes room (emit writes room s x) xs ys

-- once one more was noted, nothing is
pub emits_more : (writes : Bool) (room : ℕ) (s : Page) (xs : List (List ℕ)) → s.more ≡ true → emits writes room s xs ≡ s
unfolding emits
emits_more writes room s [] e = refl
emits_more writes room s (x ∷ xs) e =
    let same : emit writes room s x ≡ s = rw e in
    rw same (emits_more writes room s xs e)

-- with nothing noted, all were counted
pub emits_counted : (writes : Bool) (room : ℕ) (s : Page) (xs : List (List ℕ)) → (emits writes room s xs).more ≡ false → (emits writes room s xs).count ≡ s.count + length xs
unfolding emits
emits_counted writes room s [] m = sym (add-zero s.count)
emits_counted writes room s (x ∷ xs) m = go s.more refl (lt_or_le s.count room) (emits_counted writes room (emit writes room s x) xs m)
  where
    go : (noted : Bool) → s.more ≡ noted → (s.count < room) ⊎ (room ≤ s.count) → (emits writes room (emit writes room s x) xs).count ≡ (emit writes room s x).count + length xs
        → (emits writes room (emit writes room s x) xs).count ≡ s.count + suc (length xs)
    go false e (inl l) rest =
        let one : (emit writes room s x).count ≡ s.count + 1 = rw (e, lt-ltb s.count room l) in
        omega (arith, rest, one)
    go false e (inr l) rest =
        let one : (emit writes room s x).more ≡ true = rw (e, le-ltb s.count room l) in
        absurd (false≢true (sym m ∙ ap (λ (q : Page). q.more) (emits_more writes room (emit writes room s x) xs one) ∙ one))
    go true e h rest =
        let one : (emit writes room s x).more ≡ true = rw e in
        absurd (false≢true (sym m ∙ ap (λ (q : Page). q.more) (emits_more writes room (emit writes room s x) xs one) ∙ one))

-- nothing more was counted or noted, so there was nothing to hand over
pub emits_none : (writes : Bool) (room : ℕ) (s : Page) (xs : List (List ℕ)) → (emits writes room s xs).more ≡ false → (emits writes room s xs).count ≡ s.count → xs ≡ []
emits_none writes room s [] m c = refl
emits_none writes room s (x ∷ xs) m c = absurd (omega (arith, emits_counted writes room s (x ∷ xs) m, c))

-- ---- only counting: as when writing, and no cell changes

pub emits_cells : (room : ℕ) (s : Page) (xs : List (List ℕ)) → (emits false room s xs).cells ≡ s.cells
unfolding emits
emits_cells room s [] = refl
emits_cells room s (x ∷ xs) = emits_cells room (emit false room s x) xs ∙ go s.more (ltb s.count room)
  where
    go : (a b : Bool) → (cond a s (cond b (record { count = s.count + 1; more = false; cells = s.cells }) (record { count = s.count; more = true; cells = s.cells }))).cells ≡ s.cells
    go true b = refl
    go false true = refl
    go false false = refl

pub emits-noted : (room : ℕ) (xs : List (List ℕ)) (count : ℕ) (more : Bool) (cells cells' : List ℕ)
    → (emits false room (record { count = count; more = more; cells = cells }) xs).more ≡ (emits true room (record { count = count; more = more; cells = cells' }) xs).more
unfolding emits
emits-noted room [] count more cells cells' = refl
emits-noted room (x ∷ xs) count more cells cells' = go more (ltb count room) (λ c n d. emits-noted room xs c n cells d)
  where
    go : (a b : Bool) → ((c : ℕ) (n : Bool) (d : List ℕ) → (emits false room (record { count = c; more = n; cells = cells }) xs).more ≡ (emits true room (record { count = c; more = n; cells = d }) xs).more)
        → (emits false room (cond a (record { count = count; more = more; cells = cells }) (cond b (record { count = count + 1; more = false; cells = cells }) (record { count = count; more = true; cells = cells }))) xs).more
        ≡ (emits true room (cond a (record { count = count; more = more; cells = cells' }) (cond b (record { count = count + 1; more = false; cells = paste cells' (count * record_size) x record_size }) (record { count = count; more = true; cells = cells' }))) xs).more
    go true b on = on count more cells'
    go false true on = on (count + 1) false (paste cells' (count * record_size) x record_size)
    go false false on = on count true cells'

-- ---- writing: the first records where there is room, and one more is noted if there is one

page_eq : {a b : ℕ} {m n : Bool} {x y : List ℕ} → a ≡ b → m ≡ n → x ≡ y → ◌≡◌ {A = Page} (record { count = a; more = m; cells = x }) (record { count = b; more = n; cells = y })
page_eq p q r = rw (p, q, r)

ltb_suc : (a b : ℕ) → ltb (suc a) (suc b) ≡ ltb a b
ltb_suc a b = ⊎_elim (λ l. lt-ltb (suc a) (suc b) (omega arith) ∙ sym (lt-ltb a b l)) (λ l. le-ltb (suc a) (suc b) (omega arith) ∙ sym (le-ltb a b l)) (lt_or_le a b)

pasted : (c : ℕ) (front rest r : List ℕ) → length front ≡ c * record_size → length r ≡ record_size → paste (front ++ rest) (c * record_size) r record_size ≡ (front ++ r) ++ drop record_size rest
pasted c front rest r lf h =
    ap (λ (x : List ℕ). x ++ take record_size r ++ drop (c * record_size + record_size) (front ++ rest)) (take_at front rest (c * record_size) lf)
    ∙ ap (λ (x : List ℕ). front ++ x ++ drop (c * record_size + record_size) (front ++ rest)) (take_all record_size r (omega (arith, h)))
    ∙ ap (λ (n : ℕ). (front ++ r) ++ drop (n + record_size) (front ++ rest)) (sym lf)
    ∙ ap (λ (x : List ℕ). (front ++ r) ++ x) (drop-append-add front rest record_size)

-- with room for d more behind c that are written
emits-chains : (d c : ℕ) (front rest : List ℕ) (L : List (List ℕ)) → length front ≡ c * record_size → d * record_size ≤ length rest → ((x : List ℕ) → x ∈ L → Fits record_size x)
    → emits true (c + d) (record { count = c; more = false; cells = front ++ rest }) (map (record_of record_size) L)
    ≡ record { count = c + min d (length L); more = ltb d (length L); cells = front ++ (cells_of record_size (take d L) ++ drop (min d (length L) * record_size) rest) }
unfolding emits cells_of
emits-chains d c front rest [] lf lr f =
    page_eq (rw min-zero (sym (add-zero c))) (rw (le-ltb d 0 (omega arith))) (rw (take-nil, min-zero))
emits-chains zero c front rest (x ∷ L) lf lr f =
    let one : emit true (c + 0) (record { count = c; more = false; cells = front ++ rest }) (record_of record_size x) ≡ record { count = c; more = true; cells = front ++ rest } = rw (le-ltb c (c + 0) (omega arith)) in
    ap (λ (q : Page). emits true (c + 0) q (map (record_of record_size) L)) one
    ∙ (emits_more true (c + 0) (record { count = c; more = true; cells = front ++ rest }) (map (record_of record_size) L) refl
    ∙ page_eq (rw zero-min (sym (add-zero c))) (rw (lt-ltb 0 (suc (length L)) (omega arith))) (rw zero-min))
emits-chains (suc d) c front rest (x ∷ L) lf lr f =
    let r = record_of record_size x in
    let h : length r ≡ record_size = length-record_of record_size x (f x (Memᴰ.head refl)).room in
    let room : c + suc d ≡ c + 1 + d = omega arith in
    let start : emit true (c + suc d) (record { count = c; more = false; cells = front ++ rest }) r ≡ record { count = c + 1; more = false; cells = (front ++ r) ++ drop record_size rest }
    = rw (lt-ltb c (c + suc d) (omega arith)) (page_eq refl refl (pasted c front rest r lf h)) in
    let goes = emits-chains d (c + 1) (front ++ r) (drop record_size rest) L (rw (length-append, h) (omega (arith, lf))) (rw length-drop (omega arith)) (λ y m. f y (Memᴰ.tail m)) in
    let n : min (suc d) (suc (length L)) ≡ suc (min d (length L)) = suc-min-suc d (length L) in
    let cells : record_size + min d (length L) * record_size ≡ suc (min d (length L)) * record_size = omega arith in
    ap (λ (q : Page). emits true (c + suc d) q (map (record_of record_size) L)) start
    ∙ ap (λ (i : ℕ). emits true i (record { count = c + 1; more = false; cells = (front ++ r) ++ drop record_size rest }) (map (record_of record_size) L)) room
    ∙ (goes
    ∙ page_eq
    (rw n (omega arith))
    (rw ltb_suc)
    (append_assoc front r _
    ∙ ap (λ (y : List ℕ). front ++ y) (sym (append_assoc r (cells_of record_size (take d L)) _)
    ∙ ap (λ (y : List ℕ). (r ++ cells_of record_size (take d L)) ++ y) (drop-drop (min d (length L) * record_size) record_size rest ∙ ap (λ (i : ℕ). drop i rest) (cells ∙ ap (λ (i : ℕ). i * record_size) (sym n))))))

-- all at once: how many, whether one more, and the cells
pub emits-written : (out : List ℕ) (L : List (List ℕ)) → ((x : List ℕ) → x ∈ L → Fits record_size x)
    → emits true (length out / record_size) (record { count = 0; more = false; cells = out }) (map (record_of record_size) L)
    ≡ record { count = length (take (length out / record_size) L); more = ltb (length out / record_size) (length L); cells = written record_size (take (length out / record_size) L) out }
unfolding written
emits-written out L f =
    let room = length out / record_size in
    ap (λ (n : ℕ). emits true n (record { count = 0; more = false; cells = out }) (map (record_of record_size) L)) (sym (zero-add room))
    ∙ emits-chains room 0 [] out L refl (omega arith) f
    ∙ page_eq (zero-add _ ∙ sym (length-take room L)) refl (ap (λ (i : ℕ). cells_of record_size (take room L) ++ drop (i * record_size) out) (sym (length-take room L)))
