-- The stages of a check, joined by `first`: an answer that refuses is the whole check's (`stops`), and one that accepts leaves the
-- check to the next stage (`passes`, `after`).
use Prim.Native.Nat.{ℕ}
use mathlib.Core.Path.{◌≡◌, refl, sym, ap, ◌∙◌}
use native.Mathlib.Omega.{arith}
use Rattle.std.specs.Prelude.{Result, Ok, Err}
use Rattle.std.specs.Result.{IsErrAnd}
use Rattle.std.proofs.lemmas.Result.{err_from_is_err_and}
use Rattle.model.specs.Refusal.{Check, pass, fail, first}
use Rattle.model.proofs.Refusals.{pass_not_fail, first_left, first_second, first_failed}
use Rattle.file_lines.specs.Answer.{answered, Answers}

-- no answer both refuses and accepts
err_not_ok : {A E : Type 0} {a : A} {e : E} → ◌≡◌ {A = Result A E} (Err e) (Ok a) → ⊥
err_not_ok p = let z : ◌≡◌ {A = ℕ} 0 1 = cc in omega arith

ok_same : {A E : Type 0} {a b : A} → ◌≡◌ {A = Result A E} (Ok a) (Ok b) → a ≡ b
ok_same p = cc

module _ {A E : Type 0} {refusal : E → Check} where
  -- an answer that refuses
  pub refused : {x : A} {r : Result A E} {check : Check} {number returned : ℕ} → answered refusal r ≡ fail number returned
      → check ≡ fail number returned → Answers refusal x check r
  refused e q = record { refuses = e ∙ sym q; accepts = λ p. absurd (pass_not_fail (sym p ∙ q)) }

  -- the answer that accepts
  pub accepted : {x : A} {r : Result A E} {check : Check} → r ≡ Ok x → check ≡ pass → Answers refusal x check r
  accepted e q = record { refuses = ap (answered refusal) e ∙ sym q; accepts = λ _. e }

  -- the same of an equal check and an equal accepting value
  pub renamed : {x y : A} {r : Result A E} {check other : Check} → x ≡ y → check ≡ other → Answers refusal x check r
      → Answers refusal y other r
  renamed e q answers = record { refuses = answers.refuses ∙ q; accepts = λ p. answers.accepts (q ∙ p) ∙ ap Ok e }

  -- a check that fails answers for those after it
  pub stays : {x : A} {r : Result A E} {check : Check} (rest : Check) → answered refusal r ≡ check → (check ≡ pass → ⊥)
      → Answers refusal x (first check rest) r
  stays {check = check} rest e fails =
      record { refuses = e ∙ sym (first_failed check rest fails); accepts = λ p. absurd (fails (first_left check rest p)) }

  -- the next stage answers where one has passed
  pub after : {x : A} {r : Result A E} {check rest : Check} → check ≡ pass → Answers refusal x rest r → Answers refusal x (first check rest) r
  after {x} {r} {check} {rest} p answers = rw (first_second check rest p) answers

  module _ {x : A} {check : Check} {r : Result A E} (answers : Answers refusal x check r) where
    -- it accepts
    module _ {s : A} (is : r ≡ Ok s) where
      pub passes : check ≡ pass
      passes = sym answers.refuses ∙ ap (answered refusal) is

      pub same : s ≡ x
      same = ok_same (sym is ∙ answers.accepts passes)

    -- it refuses
    module _ {e : E} (is : r ≡ Err e) where
      pub refuses : check ≡ pass → ⊥
      refuses p = err_not_ok (sym is ∙ answers.accepts p)

      pub fails : refusal e ≡ check
      fails = sym (ap (answered refusal) is) ∙ answers.refuses

-- a stage that refuses: so does the whole check, whatever it would accept with
module _ {A B E : Type 0} {refusal : E → Check} {x : A} {y : B} {check : Check} {r : Result A E} (answers : Answers refusal x check r) where
  pub stops : {e : E} → r ≡ Err e → (rest : Check) → Answers refusal y (first check rest) (Err e)
  stops is rest = stays rest (fails answers is) (refuses answers is)

-- what the exit of a `?` hands out
pub handed : {A E : Type 0} {refusal : E → Check} {x : A} {check : Check} {e : E} {r : Result A E} → IsErrAnd r (λ y. y ≡ e)
    → Answers refusal x check (Err e) → Answers refusal x check r
handed {r = r} is answers = let p = err_from_is_err_and r is in rw (p.1, p.2) answers

-- the ways out of a check of stages, each answered by what its stage ensures: the stage accepts, and leaves the check to the next; it
-- refuses; it is the last, and refuses or accepts
module _ {A B E : Type 0} {refusal : E → Check} {x : A} {y : B} {check : Check} where
  pub stage_passed : (rest : Check) {s : A} (r : Result B E) → Answers refusal x check (Ok s) → Answers refusal y rest r
      → Answers refusal y (first check rest) r
  stage_passed rest r answers = after (passes answers refl)

  pub stage_refused : (rest : Check) {e : E} (r : Result B E) → Answers refusal x check (Err e) → IsErrAnd r (λ z. z ≡ e)
      → Answers refusal y (first check rest) r
  stage_refused rest r answers is = handed is (stops answers refl rest)

  pub last_refused : {e : E} (r : Result B E) → Answers refusal x check (Err e) → IsErrAnd r (λ z. z ≡ e) → Answers refusal y check r
  last_refused r answers is =
      handed is (record { refuses = fails answers refl; accepts = λ p. absurd (refuses answers refl p) })

  pub last_passed : {s : A} {z : B} → Answers refusal x check (Ok s) → z ≡ y → Answers refusal y check (Ok z)
  last_passed answers is = accepted (ap Ok is) (passes answers refl)
