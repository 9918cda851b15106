-- What a file that passed is: its rules hold one by one, and its tables are sound.
use mathlib.Core.Path.{◌≡◌, refl, sym, ap, ◌∙◌}
use mathlib.Core.Bool.{Bool, true, false}
use mathlib.Core.List.{List}
use Prim.Native.Nat.{ℕ, ◌+◌, ◌<◌, ◌≤◌}
use native.Mathlib.Omega.{arith}
use Rattle.format.specs.Format.{marked, counts_fit, laid_out, person_count, link_count, feed_count, counts_in, row}
use Rattle.checking.specs.Verdict.{passed, refused, verdict}
use Rattle.refusals.specs.Faults.{Fault, sound, fault, unless, first_of, first_among, refusal_said}
use Rattle.checking.specs.Places.{mark_place, counts_place, offsets_place}
use Rattle.checking.specs.Checked.{feed_fault, row_fault, owned_fault, tables_fault, file_fault, checked}
use Rattle.format.specs.Laid.{Laid}
use Rattle.checking.specs.Answers.{verdict_said, Checks}
use Rattle.std.specs.Prelude.{Result, Ok, Err}
use Rattle.refusals.specs.declared.Refusal.{Refusal}
use Rattle.format.specs.declared.layout.Counts.{Counts}
use Rattle.refusals.proofs.Faults.{first_both}
use Rattle.format.proofs.Counted.{Fitting, counts_fit_lem, file_laid}
use Rattle.checking.proofs.Tabled.{rows-keep, rows_below}

-- the rules of a file that passed
pub record Passed (file : List ℕ) (n m f : ℕ) : Type 0 where
  pub marks : marked file ≡ true
  pub fits : counts_fit file ≡ true
  pub lays : laid_out file ≡ true
  pub tables : tables_fault file ≡ sound
  pub persons : n ≡ person_count file
  pub links : m ≡ link_count file
  pub feeds : f ≡ feed_count file

pub sound_rules : (file : List ℕ) → file_fault file ≡ sound → Passed file (person_count file) (link_count file) (feed_count file)
unfolding file_fault
sound_rules file e = go (marked file) (counts_fit file) (laid_out file) refl refl refl e
  where
    go : (a b c : Bool) → marked file ≡ a → counts_fit file ≡ b → laid_out file ≡ c → unless a 1 mark_place (unless b 2 (counts_place file) (unless c 3 (offsets_place file) (tables_fault file))) ≡ sound
        → Passed file (person_count file) (link_count file) (feed_count file)
    go true true true a b c e = record { marks = a; fits = b; lays = c; tables = e; persons = refl; links = refl; feeds = refl }
    go true true false a b c e = let z : ◌≡◌ {A = ℕ} 0 1 = cc in absurd (omega arith)
    go true false c a b d e = let z : ◌≡◌ {A = ℕ} 0 1 = cc in absurd (omega arith)
    go false b c a d g e = let z : ◌≡◌ {A = ℕ} 0 1 = cc in absurd (omega arith)

-- the verdict and the first fault say the same
pub record Verdicts (file : List ℕ) (n m f : ℕ) : Type 0 where
  pub faultless : file_fault file ≡ sound
  pub persons : n ≡ person_count file
  pub links : m ≡ link_count file
  pub feeds : f ≡ feed_count file

pub passed_verdict : (file : List ℕ) {n m f : ℕ} → checked file ≡ passed n m f → Verdicts file n m f
unfolding checked
passed_verdict file {n} {m} {f} e = go (file_fault file) refl e
  where
    go : (t : Fault) → file_fault file ≡ t → verdict t (person_count file) (link_count file) (feed_count file) ≡ passed n m f → Verdicts file n m f
    go sound i e = record { faultless = i; persons = cc; links = cc; feeds = cc }
    go (fault number place) i e = let z : ◌≡◌ {A = ℕ} 0 1 = cc in absurd (omega arith)

pub refused_verdict : (file : List ℕ) {number place : ℕ} → checked file ≡ refused number place → file_fault file ≡ fault number place
unfolding checked
refused_verdict file {number} {place} e = go (file_fault file) refl e
  where
    go : (t : Fault) → file_fault file ≡ t → verdict t (person_count file) (link_count file) (feed_count file) ≡ refused number place → file_fault file ≡ fault number place
    go sound i e = let z : ◌≡◌ {A = ℕ} 0 1 = cc in absurd (omega arith)
    go (fault r p) i e = i ∙ cc

pub passed_rules : (file : List ℕ) {n m f : ℕ} → checked file ≡ passed n m f → Passed file n m f
passed_rules file e =
    let v = passed_verdict file e in
    let s = sound_rules file v.faultless in
    record { marks = s.marks; fits = s.fits; lays = s.lays; tables = s.tables; persons = v.persons; links = v.links; feeds = v.feeds }

-- the same by the answer of `check`
pub faultless_said : {file : List ℕ} {answer : Result Counts Refusal} {counts : Counts} → Checks file answer → answer ≡ Ok counts → Verdicts file counts.persons counts.links counts.feeds
faultless_said {file} checks is = passed_verdict file (sym checks ∙ ap verdict_said is)

pub refused_said : (file : List ℕ) {answer : Result Counts Refusal} {refusal : Refusal} → Checks file answer → answer ≡ Err refusal → file_fault file ≡ refusal_said refusal
refused_said file checks is = refused_verdict file (sym checks ∙ ap verdict_said is)

pub passed_said : {file : List ℕ} {answer : Result Counts Refusal} {counts : Counts} → Checks file answer → answer ≡ Ok counts → Passed file counts.persons counts.links counts.feeds
passed_said {file} checks is = passed_rules file (sym checks ∙ ap verdict_said is)

-- and the counts of its verdict are the header's
pub passed_laid : (file : List ℕ) {counts : Counts} → checked file ≡ passed counts.persons counts.links counts.feeds → Laid file counts
passed_laid file {counts} e =
    let p = passed_rules file e in
    let laid = file_laid file p.fits p.lays in
    let same : counts ≡ counts_in file = rw (← p.persons, ← p.links, ← p.feeds) in rw same laid

-- each of the three tables is sound
pub record Tables (file : List ℕ) : Type 0 where
  pub feeds : first_among (feed_fault file) 0 (feed_count file) ≡ sound
  pub rows : first_among (row_fault file) 0 (person_count file + 1) ≡ sound
  pub links : first_among (owned_fault file) 0 (person_count file) ≡ sound

pub tables_sound : (file : List ℕ) → tables_fault file ≡ sound → Tables file
unfolding tables_fault
tables_sound file e =
    let feeds = first_among (feed_fault file) 0 (feed_count file) in
    let rows = first_among (row_fault file) 0 (person_count file + 1) in
    let links = first_among (owned_fault file) 0 (person_count file) in
    let first = first_both feeds (first_of rows links) e in
    let second = first_both rows links first.1 in
    record { feeds = first.0; rows = second.0; links = second.1 }

-- where a row that passed lies
pub record Lies (file : List ℕ) (counts : Counts) (person : ℕ) : Type 0 where
  pub inside : person < counts.persons
  pub keeps : row file person ≤ row file (person + 1)
  pub below : row file (person + 1) ≤ counts.links

pub row_lies : {file : List ℕ} {counts : Counts} {n m f person : ℕ} → Laid file counts → Passed file n m f → person < n → Lies file counts person
row_lies {file} {counts} {person = person} laid p h =
    let rows = (tables_sound file p.tables).rows in
    let inside : person < counts.persons = omega (arith, laid.persons, p.persons) in
    record { inside = inside; keeps = rows-keep laid rows person inside; below = rows_below laid rows (person + 1) (omega arith) }

pub passed_lies : (file : List ℕ) {counts : Counts} (person : ℕ) → checked file ≡ passed counts.persons counts.links counts.feeds → person < counts.persons → Lies file counts person
passed_lies file person e h = row_lies (passed_laid file e) (passed_rules file e) h

-- the counts of a file that passed are within their limits
pub passed_fits : {file : List ℕ} {n m f : ℕ} → Passed file n m f → Fitting n m f
passed_fits {file} p =
    let fit = counts_fit_lem file p.fits in
    record { some = omega (arith, p.persons); persons = omega (arith, p.persons); links = omega (arith, p.links); feeds = omega (arith, p.feeds) }
