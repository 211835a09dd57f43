-- A call on lent bytes, from its check: refused, it leaves the bytes lent, and done, it leaves the new ones. The bits 0 are those of a
-- call that was done.
use Prim.Native.Nat.{ℕ, ◌≤◌}
use mathlib.Core.Path.{◌≡◌, refl, sym, ◌∙◌, ap}
use mathlib.Core.Bool.{Bool, true, false}
use mathlib.Core.List.{List}
use mathlib.Core.Logic.{⊎_elim}
use native.Mathlib.Omega.{arith}
use lib.ListN.{length}
use Rattle.std.specs.Prelude.{Result, Ok, Err, Option, Some, None}
use Rattle.std.specs.Array.{IsWholeChunk}
use Rattle.std.specs.Option.{MatchOption, ok_or}
use Rattle.std.specs.Result.{IsErrAnd}
use Rattle.std.proofs.lemmas.Result.{err_from_is_err_and}
use Rattle.model.specs.Refusal.{Check, pass, fail, first, unless, first_below}
use Rattle.model.proofs.Refusals.{first_fail, unless_false, below_fail}
use Rattle.file_lines.specs.Answer.{answered, Answers}
use Rattle.file_lines.proofs.Stages.{passes, refuses}
use Rattle.session_answers.specs.Answers.{answer_bits, check_bits}
use Rattle.session_answers.specs.Leaves.{Leaves}
use Rattle.session_answers.specs.Left.{left_after}
use Rattle.session_answers.specs.Recorded.{recorded_check}
use Rattle.session_answers.proofs.Left.{left_done, left_refused}

-- A call from its check's answer: refused, it hands back the refusal's bits and leaves the bytes lent; else it hands back 0, and the new
-- bytes.
module _ {A E : Type 0} {refusal : E → Check} {x : A} {check : Check} {r : Result A E} (answers : Answers refusal x check r)
    (bytes lent : List ℕ) where
  pub call_refused : (r ≡ Ok x → ⊥) → {bits : ℕ} → bits ≡ check_bits (answered refusal r)
      → (bits ≡ check_bits check) × (lent ≡ left_after check bytes lent)
  call_refused other e = (
    e ∙ ap check_bits answers.refuses,
    sym (left_refused check bytes lent (λ p. other (answers.accepts p))),
  )

  pub call_done : r ≡ Ok x → {left : List ℕ} → left ≡ bytes → (0 ≡ check_bits check) × (left ≡ left_after check bytes lent)
  unfolding check_bits answer_bits
  call_done is e =
      let p = passes answers is in
      (rw p, e ∙ sym (left_done check bytes lent p))

-- what r says, where it returns the refusal e, itself or by a `?`
pub exit_told : {A E : Type 0} (refusal : E → Check) {e : E} (r : Result A E) → IsErrAnd r (λ x. x ≡ e) → answered refusal r ≡ refusal e
exit_told refusal r is = let exit = err_from_is_err_and r is in ap (answered refusal) exit.1 ∙ ap refusal exit.2

module _ {E : Type 0} {refusal : E → Check} {check : Check} {bytes lent left : List ℕ} where
  pub leaves_lent : {e : E} {r : Result (Unit {0}) E} → Answers refusal (tt {0}) check (Err e) → IsErrAnd r (λ x. x ≡ e) → left ≡ lent
      → Leaves refusal check bytes lent r left
  leaves_lent {r} answers is same =
      record {
        answers = exit_told refusal r is ∙ answers.refuses;
        leaves = same ∙ sym (left_refused check bytes lent (refuses answers refl));
      }

  pub leaves_done : check ≡ pass → left ≡ bytes → Leaves refusal check bytes lent (Ok (tt {0})) left
  leaves_done passed same = record { answers = sym passed; leaves = same ∙ sym (left_done check bytes lent passed) }

-- an array asked of lent bytes, `ok_or` a refusal: there is one where their length is right, and it is they
module _ {A E : Type 0} (o : Option A) (now : A → List ℕ) (bytes : List ℕ) (n : ℕ) (d : E) {r : Result A E}
    (cases : MatchOption o (length bytes ≡ n → ⊥) (λ x. IsWholeChunk bytes (now x) n)) (is : r ≡ ok_or o d) where
  pub array_lent : {x : A} → r ≡ Ok x → IsWholeChunk bytes (now x) n
  array_lent {x} ok = go o (sym is ∙ ok) cases
    where
      go : (p : Option A) → ok_or p d ≡ Ok x → MatchOption p (length bytes ≡ n → ⊥) (λ y. IsWholeChunk bytes (now y) n) → IsWholeChunk bytes (now x) n
      go None q h = absurd (let z : ◌≡◌ {A = ℕ} 0 1 = cc in omega arith)
      go (Some y) q h = let same : y ≡ x = cc in rw same at h

  none_lent : {e : E} → r ≡ Err e → (length bytes ≡ n → ⊥) × (e ≡ d)
  none_lent {e} err = go o (sym is ∙ err) cases
    where
      go : (p : Option A) → ok_or p d ≡ Err e → MatchOption p (length bytes ≡ n → ⊥) (λ y. IsWholeChunk bytes (now y) n) → (length bytes ≡ n → ⊥) × (e ≡ d)
      go None q h = (h, cc)
      go (Some y) q h = absurd (let z : ◌≡◌ {A = ℕ} 0 1 = cc in omega arith)

  -- with none, the call refuses as d, and leaves the bytes
  pub lent_refused : {e : E} {refusal : E → Check} {check : Check} {new : List ℕ} {q : Result (Unit {0}) E} → r ≡ Err e
      → ((length bytes ≡ n → ⊥) → Answers refusal (tt {0}) check (Err d)) → IsErrAnd q (λ x. x ≡ e) → Leaves refusal check new bytes q bytes
  lent_refused err refuses told =
      let none = none_lent err in
      leaves_lent (refuses none.0) (rw none.1 at told) refl

-- the same refusal as a caller's
pub told_as : {A E F : Type 0} {refusal : E → Check} {other : F → Check} {x : A} {check : Check} {e : E} {f : F}
    → other f ≡ refusal e → Answers refusal x check (Err e) → Answers other x check (Err f)
told_as told answers = record { refuses = told ∙ answers.refuses; accepts = λ p. absurd (refuses answers refl p) }

-- a test that cannot pass refuses
pub unless_fails : (test : Bool) (number returned : ℕ) → (test ≡ true → ⊥) → unless test number returned ≡ fail number returned
unfolding unless
unless_fails true number returned d = absurd (d refl)
unless_fails false number returned d = refl

-- a check that refuses by numbers from 40 on
abbrev pub Numbered : Check → Type 0
Numbered check = (number returned : ℕ) → check ≡ fail number returned → 40 ≤ number

-- checks made of such ones
pub unless_numbered : (test : Bool) (x y : ℕ) → 40 ≤ x → Numbered (unless test x y)
unless_numbered test x y h number returned e = let u = (unless_false test x y e).1 in omega arith

pub first_numbered : (a b : Check) → Numbered a → Numbered b → Numbered (first a b)
first_numbered a b p q number returned e = ⊎_elim (p number returned) (λ r. q number returned r.1) (first_fail a b e)

pub below_numbered : (n : ℕ) (f : ℕ → Check) → ((k : ℕ) → Numbered (f k)) → Numbered (first_below n f)
below_numbered n f each number returned e = let r = below_fail n f e in each r.at number returned r.fails

pub recorded_numbered : (value : ℕ) → Numbered (recorded_check value)
unfolding recorded_check
recorded_numbered value = unless_numbered _ 42 value (omega arith)

-- the bits 0 are those of a check that passed
pub done_passed : (check : Check) → Numbered check → check_bits check ≡ 0 → check ≡ pass
unfolding check_bits answer_bits
done_passed pass numbered e = refl
done_passed (fail number returned) numbered e = let n = numbered number returned refl in absurd (omega arith)

pub passed_done : (check : Check) → check ≡ pass → check_bits check ≡ 0
unfolding check_bits answer_bits
passed_done check p = rw p
