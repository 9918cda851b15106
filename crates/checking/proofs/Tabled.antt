-- What the row table says once it has passed: the rows keep on, and none reaches past the links.
use mathlib.Core.Path.{◌≡◌, sym, ◌∙◌}
use mathlib.Core.Bool.{true, ◌&&◌}
use mathlib.Core.List.{List}
use Prim.Native.Nat.{ℕ, zero, suc, ◌+◌, ◌-◌, ◌<◌, ◌≤◌}
use native.Mathlib.Omega.{arith}
use borrow.Author.Tests.{leb-true, eqb-true, ne_eqb, eq-eqb}
use Rattle.format.specs.Format.{person_count, link_count, counts_in, row, link_in}
use Rattle.refusals.specs.Faults.{Fault, sound}
use Rattle.checking.specs.Places.{entry_place}
use Rattle.checking.specs.Checked.{row_starts_or_keeps, row_closes, row_ruled, row_fault, before_in, link_fault_in, owned_fault}
use Rattle.checking.specs.Inside.{Rowed}
use Rattle.format.specs.declared.layout.Counts.{Counts}
use Rattle.refusals.proofs.Faults.{Looking, look_starts, look_on, first_none, unless_none}
use Rattle.format.specs.Laid.{Laid}
use Rattle.format.specs.declared.links.Link.{Link}
use Rattle.format.proofs.Counted.{halves, counts_are}
use Rattle.checking.specs.Links.{link_fault}
use Rattle.std.specs.Prelude.{Option, Some, None}

module _ {file : List ℕ} {counts : Counts} (laid : Laid file counts) (rows : Rowed file) where
  row_holds : (entry : ℕ) → entry ≤ counts.persons → (row_starts_or_keeps file entry ≡ true) × (row_closes file entry ≡ true)
  unfolding row_fault row_ruled
  row_holds entry h = halves (row_starts_or_keeps file entry) (row_closes file entry) (unless_none (row_starts_or_keeps file entry && row_closes file entry) 6 (entry_place (counts_in file) entry) (first_none (row_fault file) 0 (person_count file + 1) entry rows (omega arith) (omega (arith, laid)))).0

  pub rows-keep : (owner : ℕ) → owner < counts.persons → row file owner ≤ row file (owner + 1)
  unfolding row_starts_or_keeps
  rows-keep owner h =
      let e : owner + 1 - 1 ≡ owner = omega arith in
      leb-true (row file owner) (row file (owner + 1)) (rw (ne_eqb (owner + 1) 0 (λ z. omega arith), e) at (row_holds (owner + 1) (omega arith)).0)

  pub rows_end : row file counts.persons ≡ counts.links
  unfolding row_closes
  rows_end =
      eqb-true (row file counts.persons) (link_count file) (rw (eq-eqb counts.persons (person_count file) laid.persons) at (row_holds counts.persons (omega arith)).1) ∙ sym laid.links

  rows_from_end : (left entry : ℕ) → entry + left ≡ counts.persons → row file entry ≤ counts.links
  rows_from_end zero entry e = let same : entry ≡ counts.persons = omega arith in rw same (omega (arith, rows_end))
  rows_from_end (suc left) entry e = omega (arith, rows-keep entry (omega arith), rows_from_end left (entry + 1) (omega arith))

  pub rows_below : (entry : ℕ) → entry ≤ counts.persons → row file entry ≤ counts.links
  rows_below entry h = rows_from_end (counts.persons - entry) entry (omega arith)

-- Going through the links of an owner: what is still to be looked at decides, and the link before the next one is the one that counts.
pub record Going (file : List ℕ) (owner end number : ℕ) (before : Option Link) : Type 0 where
  pub from : row file owner ≤ number
  pub earlier : before ≡ before_in file owner number
  pub looking : Looking (link_fault_in file owner) (owned_fault file owner) number end

pub going_starts : {file : List ℕ} {counts : Counts} {owner end number : ℕ} → Laid file counts → Rowed file → owner < counts.persons → end ≡ row file (owner + 1) → number ≡ row file owner → Going file owner end number None
unfolding owned_fault
going_starts {file} {owner = owner} laid rows h e n = record {
  from = omega arith;
  earlier = rw (eq-eqb _ _ n);
  looking = rw n (look_starts (link_fault_in file owner) (row file owner) (row file (owner + 1) - row file owner) (omega (arith, rows-keep laid rows owner h)));
}

module _ {file : List ℕ} {owner end number : ℕ} {before : Option Link} (g : Going file owner end number before) where
  -- what a look at the next link finds
  pub going_finds : {counts : Counts} {link : Link} {found : Fault} → Laid file counts → link ≡ link_in file number → found ≡ link_fault counts owner before link number → link_fault_in file owner number ≡ found
  unfolding link_fault_in
  going_finds laid is e = sym (e ∙ rw (counts_are laid, g.earlier, is))

  pub going_on : {link : Link} → number < end → link ≡ link_in file number → link_fault_in file owner number ≡ sound → Going file owner end (number + 1) (Some link)
  going_on h is e =
      let back : number + 1 - 1 ≡ number = omega arith in
      record { from = omega (arith, g.from); earlier = rw (ne_eqb (number + 1) (row file owner) (λ same. omega (arith, g.from)), back, is); looking = look_on g.looking h e }
