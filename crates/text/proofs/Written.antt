-- Records that were written one behind the other, as the text reads them.
use mathlib.Core.Path.{◌≡◌, refl, sym, ap, ap₂, ◌∙◌}
use mathlib.Core.List.Memᴰ
use mathlib.Core.List.{List, [], ◌∷◌, ◌++◌, append_assoc}
use Prim.Native.Nat.{ℕ, zero, suc, ◌+◌, ◌-◌, ◌*◌, ◌≤◌, ◌<◌}
use native.Mathlib.Omega.{arith}
use native.Mathlib.Nat.{zero-add}
use lib.ListN.{length, get_or, take, drop, replicate, length-append}
use lib.Seq.{take-append_seam, drop_at, get_or-drop}
use Rattle.ways.specs.Graph.{◌∈◌}
use Rattle.ways.specs.Records.{Fits, record_of, chain_of, cells_of}
use Rattle.ways.specs.Sizes.{record_size, most_hops}
use Rattle.ways.proofs.Records.{length-record_of}
use Rattle.text.specs.Lines.{chains_at, RecordAt, Records}

-- the record at the head of cells
chain_head : (c rest : List ℕ) → Fits record_size c → chain_of (record_of record_size c ++ rest) ≡ c
unfolding chain_of record_of
chain_head [] rest f = absurd (omega (arith, f.some))
chain_head (p ∷ c) rest f =
    let zeros = replicate {A = ℕ} (record_size - suc (suc (length c))) 0 in
    ap (◌∷◌ p) (ap (take (length c)) (append_assoc c zeros rest) ∙ take-append_seam c (zeros ++ rest))

hops_head : (c rest : List ℕ) → Fits record_size c → get_or (record_of record_size c ++ rest) 0 0 ≤ most_hops
unfolding record_of
hops_head [] rest f = absurd (omega (arith, f.some))
hops_head (p ∷ c) rest f = omega (arith, f.room)

-- `front` stands before the records of L
module _ (front : List ℕ) (n : ℕ) (c : List ℕ) (L : List (List ℕ)) (rest : List ℕ) (l : length front ≡ n * record_size) (f : Fits record_size c) where
  regroup : front ++ ((record_of record_size c ++ cells_of record_size L) ++ rest) ≡ (front ++ record_of record_size c) ++ (cells_of record_size L ++ rest)
  regroup = simp append_assoc

  longer : length (front ++ record_of record_size c) ≡ suc n * record_size
  longer = rw (length-append, length-record_of record_size c f.room, l) (omega arith)

  at_front : drop (n * record_size) (front ++ ((record_of record_size c ++ cells_of record_size L) ++ rest)) ≡ record_of record_size c ++ (cells_of record_size L ++ rest)
  at_front = rw append_assoc (drop_at front (record_of record_size c ++ (cells_of record_size L ++ rest)) (n * record_size) l)

  record_front : RecordAt (front ++ ((record_of record_size c ++ cells_of record_size L) ++ rest)) (n + 0)
  record_front =
      let whole = ap length regroup ∙ length-append (front ++ record_of record_size c) (cells_of record_size L ++ rest) in
      let first : get_or (front ++ ((record_of record_size c ++ cells_of record_size L) ++ rest)) (n * record_size + 0) 0 ≡ get_or (record_of record_size c ++ (cells_of record_size L ++ rest)) 0 0
      = sym (get_or-drop (n * record_size) (front ++ ((record_of record_size c ++ cells_of record_size L) ++ rest)) 0 0) ∙ ap (λ (m : List ℕ). get_or m 0 0) at_front in
      let zero-off : n * record_size + 0 ≡ n * record_size = omega arith in
      let same : n + 0 ≡ n = omega arith in
      rw same (record { whole = omega (arith, whole, longer); few = rw zero-off at (rw (sym first) at (hops_head c (cells_of record_size L ++ rest) f)) })

-- they are the chains from its end on
pub chains_are : (front : List ℕ) (n : ℕ) (L : List (List ℕ)) (rest : List ℕ) → length front ≡ n * record_size → ((c : List ℕ) → c ∈ L → Fits record_size c) → chains_at (front ++ (cells_of record_size L ++ rest)) n (length L) ≡ L
unfolding chains_at cells_of
chains_are front n [] rest l f = refl
chains_are front n (c ∷ L) rest l f =
    let fit = f c (Memᴰ.head refl) in
    ap₂ ◌∷◌ (ap chain_of (at_front front n c L rest l fit) ∙ chain_head c (cells_of record_size L ++ rest) fit)
    (ap (λ (cells : List ℕ). chains_at cells (suc n) (length L)) (regroup front n c L rest l fit) ∙ chains_are (front ++ record_of record_size c) (suc n) L rest (longer front n c L rest l fit) (λ d m. f d (Memᴰ.tail m)))

pub records_are : (front : List ℕ) (n : ℕ) (L : List (List ℕ)) (rest : List ℕ) → length front ≡ n * record_size → ((c : List ℕ) → c ∈ L → Fits record_size c) → (i : ℕ) → i < length L → RecordAt (front ++ (cells_of record_size L ++ rest)) (n + i)
unfolding cells_of
records_are front n [] rest l f i h = absurd (omega arith)
records_are front n (c ∷ L) rest l f zero h = record_front front n c L rest l (f c (Memᴰ.head refl))
records_are front n (c ∷ L) rest l f (suc i) h =
    let fit = f c (Memᴰ.head refl) in
    let e : n + suc i ≡ suc n + i = omega arith in
    rw (e, regroup front n c L rest l fit) (records_are (front ++ record_of record_size c) (suc n) L rest (longer front n c L rest l fit) (λ d m. f d (Memᴰ.tail m)) i (omega arith))

-- the same with nothing in front
pub chains-written : (L : List (List ℕ)) (rest : List ℕ) → ((c : List ℕ) → c ∈ L → Fits record_size c) → chains_at (cells_of record_size L ++ rest) 0 (length L) ≡ L
chains-written L rest f = chains_are [] 0 L rest (omega arith) f

pub records_written : (L : List (List ℕ)) (rest : List ℕ) → ((c : List ℕ) → c ∈ L → Fits record_size c) → Records (cells_of record_size L ++ rest) (length L)
records_written L rest f i h = rw zero-add at (records_are [] 0 L rest (omega arith) f i h)
