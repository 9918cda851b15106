-- The six-person file passes, every case of the table holds on it, and nothing refuses it: computed from its 188 bytes.
use mathlib.Core.Path.{◌≡◌, refl}
use mathlib.Core.List.{flat_map}
use Prim.Native.Nat.{ℕ}
use native.Mathlib.Omega.{arith}
use lib.ListN.{length, replicate}
use Rattle.format.specs.Numbers.{number16, number32}
use Rattle.format.specs.Format.{marked, fit, agree}
use Rattle.format.specs.Kinds.{class_of}
use Rattle.checking.specs.Verdict.{passed}
use Rattle.refusals.specs.Faults.{first_among}
use Rattle.checking.specs.Checked.{archive_rises, feed_ruled, feed_fault, row_starts_or_keeps, row_closes, row_ruled, row_fault, link_fault_in, owned_fault, tables_fault, file_fault, checked}
use Rattle.checking.specs.Links.{link_ruled, link_fault}
use Rattle.ways.specs.Graph.{among, keep}
use Rattle.ways.specs.Order.{before}
use Rattle.ways.specs.Listing.{by, ways, listing}
use Rattle.ways.specs.Ring as closed
use Rattle.ways.specs.Portions.{after}
use Rattle.ways.specs.Records.{record_of, chain_of, cells_of, written, same_cells, is_record_in}
use Rattle.ways.specs.ByHops.{shorter_first}
use Rattle.ways.specs.Halves.{persons_below, extends, all_half_chains}
use Rattle.question.specs.Asked.{days_fit, terms_fault, rest_fault, question_fault, person_fault}
use Rattle.listing.specs.Portions.{refusal_of}
use Rattle.question.specs.Admission.{day_admitted, admitted, numbers_from, next}
use Rattle.cases.specs.SixPersons.{six, ask_rings, Q}
use Rattle.cases.specs.Cases.{AllHold, table, second_record, by_one_record}
use Rattle.cases.specs.Passing.{Passing}

pub six_passes : (length six ≡ 188) × (checked six ≡ passed 6 10 2)
unfolding six flat_map number16 number32 marked fit agree class_of first_among archive_rises feed_ruled feed_fault row_starts_or_keeps row_closes row_ruled row_fault link_ruled link_fault link_fault_in owned_fault tables_fault file_fault checked
six_passes = (refl, refl)

-- one row after the other
infixr 20 ◌and◌
abbrev ◌and◌ : {A B : Type 0} → A → B → A × B
a and b = (a, b)

pub every_case_holds : AllHold six table
unfolding six flat_map number16 number32 marked fit agree class_of first_among archive_rises feed_ruled feed_fault row_starts_or_keeps row_closes row_ruled row_fault link_ruled link_fault link_fault_in owned_fault tables_fault file_fault days_fit terms_fault rest_fault question_fault day_admitted admitted numbers_from next among keep by ways listing closed.rings before after record_of chain_of cells_of written same_cells is_record_in shorter_first persons_below extends all_half_chains table refusal_of
every_case_holds =
    (refl, refl)
    and (refl, refl)
    and (refl, refl)
    and (refl, refl)
    and (refl, refl)
    and (refl, refl)
    and (refl, refl)
    and (refl, refl)
    and (refl, refl, refl, refl, refl, λ lent. refl)
    and (refl, refl, refl, refl, refl, λ lent. refl)
    and (refl, refl, refl, refl, refl, λ lent. refl)
    and (refl, refl, (λ lent. refl), refl, refl)
    and (refl, refl)
    and (refl, refl)
    and (refl, refl)
    and (refl, refl)
    and (refl, refl)
    and (refl, refl)
    and (refl, refl)
    and (refl, refl)
    and (refl, refl)
    and (refl, refl)
    and (refl, refl, refl, refl, refl, λ lent. refl)
    and (refl, refl, refl, refl, refl, λ lent. refl)
    and refl
    and refl
    and refl
    and tt

-- person 1, the second record for a bookmark, the rings of person 2 and one of them for a bookmark, 50 working cells and 20 for the output
pub six_goes_through : Passing six Q 1 second_record (ask_rings 2 5) by_one_record (replicate 50 0) (replicate 20 0)
unfolding six flat_map number16 number32 marked fit agree class_of first_among archive_rises feed_ruled feed_fault row_starts_or_keeps row_closes row_ruled row_fault link_ruled link_fault link_fault_in owned_fault tables_fault file_fault days_fit terms_fault rest_fault question_fault person_fault day_admitted admitted numbers_from next among keep by ways listing closed.rings before after record_of chain_of cells_of written same_cells is_record_in shorter_first persons_below extends all_half_chains refusal_of
six_goes_through =
    record {
      check = refl;
      fewest = refl;
      portion = refl;
      rings = refl;
      join = refl;
      chains = λ e. let z : ◌≡◌ {A = ℕ} 0 1 = cc in omega arith;
      ringed = λ e. let z : ◌≡◌ {A = ℕ} 0 1 = cc in omega arith;
    }
