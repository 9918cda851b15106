-- Records as lines.
use mathlib.Core.Path.{◌≡◌, refl, ap, ◌∙◌}
use mathlib.Core.List.{List, [], ◌∷◌, ◌++◌, append_assoc, append-nil}
use Prim.Native.Nat.{ℕ, zero, suc, ◌+◌, ◌-◌, ◌*◌, ◌≤◌, ◌<◌, ◌^◌}
use native.Mathlib.Omega.{arith}
use mathlib.Core.Bool.{Bool, true, false}
use lib.Dec.{ltb}
use borrow.Author.Tests.{ltb-true, ltb-false}
use native.Mathlib.Nat.{add-zero, zero-add, suc-add}
use native.Mathlib.Numerals.{add-one}
use lib.ListN.{length, get_or, take, drop, set, length-take, length-drop, length-append, drop_of_length-le}
use lib.Seq.{drop-cons, length-take-le, get_or-take, get_or-drop}
use Rattle.std.proofs.Common.{Fits, w32}
use Rattle.ways.specs.Chain.{hops}
use Rattle.ways.specs.Records.{chain_of}
use Rattle.ways.specs.Sizes.{record_size}
use Rattle.text.specs.declared.Reached.{Reached}
use Rattle.text.specs.Decimal.{decimal}
use Rattle.text.specs.Lines.{spaced, chain_line, chain_lines, end_line, refusal_line, chain_at, chains_at, RecordAt}
use Rattle.text.specs.Printed.{Printed, LinesReach, longest_line}
use Rattle.text.proofs.Printing.{Printing, starts, byte, part, done, same_bytes, behind, two_bytes, nothing, printed-length}
use Rattle.text.proofs.Spelling.{decimal_one, number_length}

hops-take : (h : ℕ) (l : List ℕ) → h < length l → hops (take (suc h) l) ≡ h
hops-take h [] lt = absurd (omega arith)
hops-take h (x ∷ l) lt = length-take-le h l (omega arith)

-- ---- a chain's line
-- the persons of the record of a number, as the loop over its cells goes through them
abbrev pub persons_at : List ℕ → ℕ → List ℕ
persons_at cells chain =
    take (chain * record_size + 2 + get_or cells (chain * record_size) 0 - (chain * record_size + 1)) (drop (chain * record_size + 1) cells)

module _ {cells : List ℕ} {chain : ℕ} (r : RecordAt cells chain) where
  pub line_cells : chain * record_size + 2 + get_or cells (chain * record_size) 0 ≤ length cells
  line_cells = omega (arith, r.whole, r.few)

  line_persons : chain_at cells chain ≡ persons_at cells chain
  unfolding chain_of
  line_persons =
      let inside : chain * record_size < length cells = omega (arith, r.whole) in
      let many : chain * record_size + 2 + get_or cells (chain * record_size) 0 - (chain * record_size + 1) ≡ suc (get_or cells (chain * record_size) 0) = omega arith in
      rw (drop-cons cells (chain * record_size) 0, many, add-one)

  line_hops : hops (persons_at cells chain) ≡ get_or cells (chain * record_size) 0
  line_hops =
      let h = get_or cells (chain * record_size) 0 in
      let many : chain * record_size + 2 + h - (chain * record_size + 1) ≡ suc h = omega arith in
      rw many (hops-take h (drop (chain * record_size + 1) cells) (omega (arith, length-drop (chain * record_size + 1) cells, line_cells)))

  pub line_text : chain_line (chain_at cells chain) ≡ (48 + get_or cells (chain * record_size) 0) ∷ 58 ∷ (spaced (persons_at cells chain) ++ 10 ∷ [])
  unfolding chain_line
  line_text = rw (line_persons, line_hops, decimal_one (get_or cells (chain * record_size) 0) (omega (arith, r.few)))

-- what is small among the cells is small among these
pub person_small : (cells : List ℕ) (chain index : ℕ) → ((i : ℕ) → Fits w32 (get_or cells i 0)) → index < length (persons_at cells chain) → get_or (persons_at cells chain) index 0 < 2 ^ 32
person_small cells chain index all h =
    let first = chain * record_size + 1 in
    let many = chain * record_size + 2 + get_or cells (chain * record_size) 0 - first in
    let inside : index < many = omega (arith, length-take {A = ℕ}) in
    rw (get_or-take many (drop first cells) index 0 inside, get_or-drop first cells index 0) (all (first + index)).fits

-- the persons from an index on are still to come
pub record Lining (persons out₀ : List ℕ) (next₀ : ℕ) (out : List ℕ) (index next : ℕ) : Type 0 where
  pub room : next + 11 * (length persons - index) ≤ next₀ + 99
  pub fits : next₀ + 100 ≤ length out₀
  pub printing : Printing out₀ next₀ (spaced persons ++ 10 ∷ []) out next (spaced (drop index persons) ++ 10 ∷ [])

module _ {persons out₀ : List ℕ} {next₀ : ℕ} {out : List ℕ} {index next : ℕ} (k : Lining persons out₀ next₀ out index next) where
  pub lining_bytes : length out ≡ length out₀
  lining_bytes = same_bytes k.printing

  pub lining_room : index < length persons → next + 11 < length out
  lining_room h = omega (arith, k.room, k.fits, lining_bytes)

  pub lining_turn : {out' : List ℕ} {next' : ℕ} → index < length persons → get_or persons index 0 < 2 ^ 32 → Printed (set out next 32) (next + 1) (decimal (get_or persons index 0)) out' next' → Lining persons out₀ next₀ out' (index + 1) next'
  unfolding spaced
  lining_turn {out'} {next'} h small p =
      let l = number_length (get_or persons index 0) small in
      record {
        room = omega (arith, k.room, p.place, l);
        fits = k.fits;
        printing = rw add-one (part (byte (rw (drop-cons persons index 0, append_assoc) at k.printing)) p);
      }

  pub lining_ends : length persons ≤ index → Printed out₀ next₀ (spaced persons ++ 10 ∷ []) (set out next 10) (next + 1)
  unfolding spaced
  lining_ends h =
      let none : drop index persons ≡ [] = drop_of_length-le persons h in
      done (byte (rw none at k.printing))

pub line_done : {cells : List ℕ} {chain : ℕ} {out : List ℕ} {at a : ℕ} {out' : List ℕ} {index next : ℕ} → RecordAt cells chain → a ≡ 48 + get_or cells (chain * record_size) 0
    → Lining (persons_at cells chain) (set (set out at a) (at + 1) 58) (at + 2) out' index next
    → length (persons_at cells chain) ≤ index → Printed out at (chain_line (chain_at cells chain)) (set out' next 10) (next + 1) × (next + 1 ≤ at + longest_line)
line_done r ea k h = (rw (line_text r, ← ea) (behind two_bytes (lining_ends k h)), omega (arith, k.room))

-- ---- many lines
-- so many chains in two parts
pub chains_split : (cells : List ℕ) (first m n : ℕ) → chains_at cells first (m + n) ≡ chains_at cells first m ++ chains_at cells (first + m) n
unfolding chains_at
chains_split cells first zero n = rw (zero-add, add-zero)
chains_split cells first (suc m) n =
    let e : first + suc m ≡ suc first + m = omega arith in
    rw (suc-add, e) (ap (◌∷◌ (chain_at cells first)) (chains_split cells (suc first) m n))

chains_one : (cells : List ℕ) (first n : ℕ) → chains_at cells first (n + 1) ≡ chains_at cells first n ++ chain_at cells (first + n) ∷ []
unfolding chains_at
chains_one cells first n = chains_split cells first n 1

pub lines_append : (L M : List (List ℕ)) → chain_lines (L ++ M) ≡ chain_lines L ++ chain_lines M
unfolding chain_lines
lines_append [] M = refl
lines_append (c ∷ L) M = rw (lines_append L M, append_assoc)

lines_one : (L : List (List ℕ)) (c : List ℕ) → chain_lines (L ++ c ∷ []) ≡ chain_lines L ++ chain_line c
unfolding chain_lines
lines_one L c = lines_append L (c ∷ []) ∙ ap (λ (t : List ℕ). chain_lines L ++ t) (append-nil (chain_line c))

pub record Reaching (cells : List ℕ) (first count : ℕ) (out₀ out : List ℕ) (next bytes : ℕ) : Type 0 where
  pub from : first ≤ next
  pub to : next ≤ count
  pub within : bytes ≤ length out₀
  pub lines : Printed out₀ 0 (chain_lines (chains_at cells first (next - first))) out bytes

pub reach_starts : {cells : List ℕ} {first count : ℕ} {out : List ℕ} → first ≤ count → Reaching cells first count out out first 0
unfolding chains_at chain_lines
reach_starts {cells} {first} h =
    let e : first - first ≡ 0 = omega arith in
    record { from = omega arith; to = h; within = omega arith; lines = rw e nothing }

module _ {cells : List ℕ} {first count : ℕ} {out₀ out : List ℕ} {next bytes : ℕ} (k : Reaching cells first count out₀ out next bytes) where
  pub reach_bytes : length out ≡ length out₀
  reach_bytes = printed-length k.lines

  pub reach_turn : {out' : List ℕ} {bytes' : ℕ} → next < count → bytes + longest_line ≤ length out → Printed out bytes (chain_line (chain_at cells next)) out' bytes' → bytes' ≤ bytes + longest_line → Reaching cells first count out₀ out' (next + 1) bytes'
  reach_turn h room p far =
      let n = next - first in
      let more : next + 1 - first ≡ n + 1 = omega (arith, k.from) in
      let at : first + n ≡ next = omega (arith, k.from) in
      record {
        from = omega (arith, k.from);
        to = omega arith;
        within = omega (arith, reach_bytes);
        lines = rw (more, chains_one cells first n, lines_one (chains_at cells first n) (chain_at cells (first + n)), at) (behind k.lines p);
      }

-- with room for a line, there is one
pub reach_moves : {cells : List ℕ} {first count : ℕ} {out out' : List ℕ} {reached : Reached} → LinesReach cells first count out out' reached → first < count → longest_line ≤ length out → first < reached.next
unfolding chains_at chain_lines
reach_moves {cells} {first} {count} {out} {out'} {reached} k h room = go (ltb first reached.next) refl
  where
    stuck : reached.next ≤ first → ⊥
    stuck le =
        let none : reached.next - first ≡ 0 = omega arith in
        let empty : reached.bytes ≡ 0 = omega (arith, rw none at k.lines.place) in
        let full = k.full (omega arith) in
        omega arith

    go : (t : Bool) → ltb first reached.next ≡ t → first < reached.next
    go true e = ltb-true first reached.next e
    go false e = absurd (stuck (ltb-false first reached.next e))

-- ---- the last line, and a refusal's
pub end_done : (n : ℕ) {out one two : List ℕ} {at last : ℕ} → Printed out 0 (101 ∷ 110 ∷ 100 ∷ 32 ∷ []) one at → Printed one at (decimal n) two last → Printed out 0 (end_line n) (set two last 10) (last + 1)
unfolding end_line
end_done n p q = done (byte (part (part starts p) q))

pub refusal_done : (number place : ℕ) {out one two three four : List ℕ} {a b d e : ℕ} → Printed out 0 (114 ∷ 101 ∷ 102 ∷ 117 ∷ 115 ∷ 101 ∷ 100 ∷ 32 ∷ []) one a → Printed one a (decimal number) two b
    → Printed two b (32 ∷ 97 ∷ 116 ∷ 32 ∷ []) three d → Printed three d (decimal place) four e → Printed out 0 (refusal_line number place) (set four e 10) (e + 1)
unfolding refusal_line
refusal_done number place p q r s = done (byte (part (part (part (part starts p) q) r) s))

-- ---- no line is empty
pub end_some : (n : ℕ) → 1 ≤ length (end_line n)
unfolding end_line
end_some n = omega arith

pub refusal_some : (number place : ℕ) → 1 ≤ length (refusal_line number place)
unfolding refusal_line
refusal_some number place = omega arith

pub lines_some : (cells : List ℕ) (first n : ℕ) → 1 ≤ n → 1 ≤ length (chain_lines (chains_at cells first n))
unfolding chains_at chain_lines chain_line
lines_some cells first zero h = absurd (omega arith)
lines_some cells first (suc n) h =
    let c = chain_at cells first in
    let line = length-append (decimal (hops c)) (58 ∷ (spaced c ++ 10 ∷ [])) in
    omega (arith, line, length-append (chain_line c) (chain_lines (chains_at cells (suc first) n)))
