-- The opening's check: a wrong length refuses, else the files decide; and what a refused and an accepted opening answer and leave.
use Prim.Native.Nat.{ℕ}
use mathlib.Core.Path.{◌≡◌, refl, sym, ◌∙◌, ap}
use mathlib.Core.Bool.{true, false}
use mathlib.Core.List.{List}
use lib.ListN.{length}
use Rattle.model.specs.Refusal.{Check, pass, fail, first, unless}
use Rattle.model.specs.Files.{Files}
use Rattle.model.specs.Acceptance.{panel_limit, file_check}
use Rattle.model.specs.Session.{Lengths, same_lengths}
use Rattle.buffers_lengths.specs.Lengths.{fixed}
use Rattle.session_answers.specs.Answers.{answer_bits, check_bits}
use Rattle.file_checks.specs.Answer.{file_refusal}
use Rattle.std.specs.Prelude.{Result, Ok, Err}
use Rattle.file_lines.specs.Answer.{answered}
use Rattle.file_checks.specs.declared.FileRefusal.{FileRefusal}
use Rattle.session_opening.specs.Opened.{opening_check, cleared, left_by}

module _ (limit : ℕ) (files : Files) (lent : Lengths) where
  pub wrong_length : same_lengths lent fixed ≡ false → opening_check limit files lent ≡ fail 40 0
  unfolding opening_check first unless
  wrong_length e = rw e

  pub right_length : same_lengths lent fixed ≡ true → opening_check limit files lent ≡ file_check limit files
  unfolding opening_check first unless
  right_length e = rw e

-- the files' answer, as their check
module _ (files : Files) (r : Result (Unit {0}) FileRefusal) (is : answered file_refusal r ≡ file_check panel_limit files) where
  pub files_accepted : {x : Unit {0}} → r ≡ Ok x → file_check panel_limit files ≡ pass
  files_accepted e = sym is ∙ ap (answered file_refusal) e

  pub files_refused : {e : FileRefusal} → r ≡ Err e → file_check panel_limit files ≡ file_refusal e
  files_refused e = sym is ∙ ap (answered file_refusal) e

pub refused_left : (check : Check) → (check ≡ pass → ⊥) → (left bytes lent : List ℕ) → left ≡ cleared (length lent) → left ≡ left_by check bytes lent
unfolding left_by
refused_left pass fails left bytes lent is = absurd (fails refl)
refused_left (fail number returned) fails left bytes lent is = is

module _ {check : Check} (e : check ≡ pass) where
  pub accepted_bits : 0 ≡ check_bits check
  unfolding check_bits answer_bits
  accepted_bits = rw e

  pub accepted_left : (left bytes lent : List ℕ) → left ≡ bytes → left ≡ left_by check bytes lent
  unfolding left_by
  accepted_left left bytes lent is = rw e is
