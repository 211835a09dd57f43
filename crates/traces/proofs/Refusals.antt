-- Laws of the refusals: what the two lengths decide, and what a check that passed tells.
use Prim.Native.Nat.{ℕ, ◌≤◌, ◌<◌}
use mathlib.Core.Path.{◌≡◌, refl, ◌∙◌}
use mathlib.Core.Bool.{true}
use mathlib.Core.List.{List}
use lib.ListN.{length, get_or, take}
use Rattle.std.proofs.lemmas.List.{get_or-take, length-take-le}
use borrow.Author.Tests.{eqb-true, eq-eqb, leb-true}
use Rattle.logic.proofs.Tests.{and_true, and_left, and_right}
use Rattle.std.specs.Prelude.{Result, Ok, Err}
use Rattle.model.specs.Refusal.{Check, pass, first}
use Rattle.model.specs.Session.{same_lengths}
use Rattle.model.proofs.Refusals.{first_left, first_stays, first_second, unless_true, unless_pass, below_pass}
use Rattle.file_lines.specs.Answer.{Answers}
use Rattle.file_lines.proofs.Stages.{refused, passes, after, stops}
use Rattle.session_answers.specs.Recorded.{recorded_checks}
use Rattle.session_answers.proofs.Recorded.{recorded_legal, recorded_same}
use Rattle.session_answers.proofs.Calls.{unless_fails}
use Rattle.traces.specs.Turned.{most_cycles, values_length, block_length}
use Rattle.traces.specs.Checks.{turn_lent, turn_fixed, count_right, count_check, sizes_check, values_check}
use Rattle.traces.specs.Answer.{turn_refusal}
use Rattle.traces.specs.declared.TurnRefusal.{TurnRefusal}
use Rattle.traces.specs.declared.TurnRefusal.TheVariants.{WrongLength}

module _ (values block : List ℕ) where
  -- buffers of their fixed lengths
  pub record Sizes : Type 0 where
    pub values_size : length values ≡ values_length
    pub block_size : length block ≡ block_length

  sizes : same_lengths (turn_lent values block) turn_fixed ≡ true → Sizes
  unfolding same_lengths
  sizes e = record { values_size = eqb-true _ _ (and_left _ _ e); block_size = eqb-true _ _ (and_left _ _ (and_right _ _ e)) }

  module _ (count : ℕ) where
    -- a wrong length is refused, whatever the checks after it say
    pub sizes_wrong : (Sizes → ⊥) → (rest : Check) → Answers turn_refusal (tt {0}) (first (sizes_check values block count) rest) (Err WrongLength)
    unfolding sizes_check
    sizes_wrong d rest = refused refl (first_stays _ _ (first_stays _ _ (unless_fails _ 40 0 (λ e. d (sizes e)))))

    -- right lengths leave the answer to the count
    pub sizes_right : Sizes → sizes_check values block count ≡ count_check count
    unfolding sizes_check same_lengths
    sizes_right s =
        first_second _ _ (unless_pass _ 40 0 (and_true _ _ (eq-eqb _ _ s.values_size) (and_true _ _ (eq-eqb _ _ s.block_size) refl)))

    module _ (sized : Sizes) {n : ℕ} {r : Result ℕ TurnRefusal} (counted : Answers turn_refusal n (count_check count) r) where
      pub count_stops : {e : TurnRefusal} → r ≡ Err e → (rest : Check) → Answers turn_refusal (tt {0}) (first (sizes_check values block count) rest) (Err e)
      count_stops is rest = rw (sizes_right sized) (stops counted is rest)

      pub count_passes : {m : ℕ} → r ≡ Ok m → {rest : Check} {s : Result (Unit {0}) TurnRefusal} → Answers turn_refusal (tt {0}) rest s
          → Answers turn_refusal (tt {0}) (first (sizes_check values block count) rest) s
      count_passes is answers = after (sizes_right sized ∙ passes counted is) answers

    pub sizes_of : sizes_check values block count ≡ pass → Sizes
    unfolding sizes_check
    sizes_of e = sizes (unless_true _ 40 0 (first_left _ _ e))

-- a count that passed
pub count_high : (count : ℕ) → count_check count ≡ pass → count ≤ most_cycles
unfolding count_check count_right
count_high count e = leb-true count most_cycles (and_right _ _ (unless_true _ 52 0 e))

module _ (values : List ℕ) (count : ℕ) where
  -- the values that are judged
  pub values_taken : count ≤ length values → recorded_checks (take count values) ≡ values_check values count
  unfolding values_check
  values_taken long =
      recorded_same (take count values) count (λ c. get_or values c 0) (length-take-le count values long) (λ c low. get_or-take count values c 0 low)

  -- none of them is above 3
  pub values_legal : values_check values count ≡ pass → (c : ℕ) → c < count → get_or values c 0 ≤ 3
  unfolding values_check
  values_legal e c low = recorded_legal (get_or values c 0) (below_pass count _ e c low)
