-- What the eighth number does: with 1 a question is refused, and links are admitted, as before it came; with 0 an admitted link has a day. Dated links
-- are admitted as before with either.
use mathlib.Core.Path.{◌≡◌, refl, ap, fun_ext}
use mathlib.Core.Logic.{◌≢◌}
use mathlib.Core.Bool.{Bool, true, false, not, ◌&&◌, ◌||◌, cond, false≢true}
use mathlib.Core.List.{List}
use Prim.Native.Nat.{ℕ}
use lib.Dec.{eqb}
use borrow.Author.Tests.{eqb-false, ne_eqb}
use Rattle.format.specs.Format.{day, kind, link_in}
use Rattle.format.specs.Kinds.{class_of}
use Rattle.format.proofs.Counted.{halves}
use Rattle.refusals.specs.Faults.{Fault, sound, unless, first_of}
use Rattle.question.specs.declared.Question.{Question}
use Rattle.question.specs.declared.Wanted as code
use Rattle.question.specs.Asked.{terms_fault, rest_fault, question_fault, person_fault}
use Rattle.question.specs.Admission.{in_sum, day_fits, day_admitted, admitted, leads, next}
use Rattle.question.specs.Before.{admitted_before, rest_fault_before, AsBefore}

module _ (file : List ℕ) (q : Question) where
  module _ (wants : q.undated ≡ 1) where
    rest-before : rest_fault code.TheVariants.Chains q ≡ rest_fault_before q
    unfolding rest_fault terms_fault
    rest-before = rw wants (go (not (eqb q.from q.to)) _)
      where
        go : (differ : Bool) (after : Fault) → first_of (unless differ 11 0 sound) after ≡ unless differ 11 0 after
        go true after = refl
        go false after = refl

    admits_before : (link : ℕ) → admitted file q link ≡ admitted_before file q link
    unfolding admitted day_admitted
    admits_before link = rw wants (ap (λ (b : Bool). in_sum (class_of (kind file link)) q.classes && b) (go (eqb (day file link) 0) (day_fits file q (link_in file link))))
      where
        go : (undated fits : Bool) → cond undated true fits ≡ (undated || fits)
        go true fits = refl
        go false fits = refl

    -- with 1 everything is as before
    pub as_before : AsBefore file q
    unfolding question_fault person_fault next
    as_before = record {
      asked = rw rest-before;
      asked_of = λ person. rw rest-before;
      admits = admits_before;
      graph = ap (leads file) (fun_ext admits_before);
    }

  -- a dated link is admitted as before, whatever the number
  pub dated_as_before : (link : ℕ) → day file link ≢ 0 → admitted file q link ≡ admitted_before file q link
  unfolding admitted day_admitted
  dated_as_before link dated = rw (ne_eqb (day file link) 0 dated)

  -- with 0 no undated link is admitted
  pub admitted_dated : q.undated ≡ 0 → (link : ℕ) → admitted file q link ≡ true → day file link ≢ 0
  unfolding admitted day_admitted
  admitted_dated none link h = go (eqb (day file link) 0) refl (halves (in_sum (class_of (kind file link)) q.classes) (day_admitted file q (link_in file link)) h).1
    where
      go : (undated : Bool) → eqb (day file link) 0 ≡ undated → cond undated (eqb q.undated 1) (day_fits file q (link_in file link)) ≡ true → day file link ≢ 0
      go true e h = absurd (false≢true (rw none at h))
      go false e h = eqb-false (day file link) 0 e
