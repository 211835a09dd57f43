-- The two calls one after the other, each by its contract: what was turned comes back, and the second call is not refused.
use Prim.Native.Nat.{ℕ, ◌<◌, ◌≤◌}
use mathlib.Core.Path.{◌≡◌, sym, ◌∙◌, ap, ap₂}
use mathlib.Core.Bool.{true}
use mathlib.Core.List.{List}
use native.Mathlib.Omega.{arith}
use lib.ListN.{length, get_or}
use Rattle.logic.specs.Listed.{listed}
use Rattle.model.specs.Refusal.{Check, pass}
use Rattle.model.proofs.Refusals.{first_left, first_right, first_both, unless_true, unless_pass, below_all}
use Rattle.session_answers.specs.Answers.{check_bits}
use Rattle.session_answers.specs.Left.{left_after}
use Rattle.session_answers.proofs.Left.{left_done}
use Rattle.session_answers.proofs.Recorded.{recorded_pass}
use Rattle.session_answers.proofs.Calls.{done_passed, passed_done}
use Rattle.traces.specs.Turned.{most_cycles, values_length, block_length, recorded, turned, turned_back, unused_clear}
use Rattle.traces.specs.Checks.{sizes_check, values_check, unused_check, turn_check, turn_back_check}
use Rattle.traces.proofs.Refusals.{Sizes, sizes_right, sizes_of, count_high, values_legal}
use Rattle.laws_traces.specs.Calls.{Turns, TurnsBack}
use Rattle.laws_traces.proofs.RoundTrip.{turned_length, turned_clear, turned_within, forth_and_back, back_length, back_small, back_and_forth}
use Rattle.laws_traces.proofs.Refusals.{turn_numbered, back_numbered, check_within}

-- the count of one call serves the other
sizes_again : (values block others last : List ℕ) (count : ℕ) → sizes_check values block count ≡ pass
    → length others ≡ values_length → length last ≡ block_length → sizes_check others last count ≡ pass
unfolding sizes_check
sizes_again values block others last count e v b =
    sizes_right others last count (record { values_size = v; block_size = b }) ∙ first_right _ _ e

-- "Only values within the count are read": with values that agree there a call answers and leaves the same
pub turn_reads_within : {values others block left left' : List ℕ} {count bits bits' : ℕ} → length values ≡ length others
    → ((c : ℕ) → c < count → get_or values c 0 ≡ get_or others c 0) → Turns values block count bits left → Turns others block count bits' left'
    → (bits ≡ bits') × (left ≡ left')
turn_reads_within {values} {others} {block} {count = count} long same first second =
    let check = check_within values others block count long same in (
      first.answer ∙ ap check_bits check ∙ sym second.answer,
      first.leaves
          ∙ ap₂ (λ (k : Check) (bytes : List ℕ). left_after k bytes block) check (turned_within values others count same)
          ∙ sym second.leaves,
    )

-- "Turning back gives the values, with 0 past the count"
module _ {values block others left values' : List ℕ} {count bits bits' : ℕ} where
  pub turn_then_back : Turns values block count bits left → bits ≡ 0 → length others ≡ values_length → TurnsBack left others count bits' values'
      → (bits' ≡ 0) × (values' ≡ listed values_length (recorded values count))
  unfolding turn_check turn_back_check unused_check
  turn_then_back turns done long back = (
    back.answer ∙ ap (λ (l : List ℕ). check_bits (turn_back_check l others count)) is ∙ passed_done _ passed,
    back.leaves
        ∙ ap (λ (l : List ℕ). left_after (turn_back_check l others count) (turned_back l count) others) is
        ∙ left_done _ _ others passed
        ∙ forth_and_back values count (values_legal values count (first_right _ _ accepted)),
  )
    where
      accepted : turn_check values block count ≡ pass
      accepted = done_passed _ (turn_numbered values block count) (sym turns.answer ∙ done)

      is : left ≡ turned values count
      is = turns.leaves ∙ left_done _ _ block accepted

      passed : turn_back_check (turned values count) others count ≡ pass
      passed =
          first_both _ _
          (sizes_again values block others (turned values count) count (first_left _ _ accepted) long (turned_length values count))
          (unless_pass _ 52 0 (turned_clear values count))

-- "a legal block turned back and forth keeps its bytes"
module _ {block values others left block' : List ℕ} {count bits bits' : ℕ} where
  pub back_then_turn : TurnsBack block values count bits left → bits ≡ 0 → ((b : ℕ) → b < block_length → get_or block b 0 < 256)
      → length others ≡ block_length → Turns left others count bits' block' → (bits' ≡ 0) × (block' ≡ block)
  unfolding turn_check turn_back_check unused_check values_check
  back_then_turn back done bytes long turns = (
    turns.answer ∙ ap (λ (l : List ℕ). check_bits (turn_check l others count)) is ∙ passed_done _ passed,
    turns.leaves
        ∙ ap (λ (l : List ℕ). left_after (turn_check l others count) (turned l count) others) is
        ∙ left_done _ _ others passed
        ∙ back_and_forth block count clear right.block_size bytes,
  )
    where
      accepted : turn_back_check block values count ≡ pass
      accepted = done_passed _ (back_numbered values block count) (sym back.answer ∙ done)

      right : Sizes values block
      right = sizes_of values block count (first_left _ _ accepted)

      few : count ≤ most_cycles
      few = count_high count (sym (sizes_right values block count right) ∙ first_left _ _ accepted)

      clear : unused_clear block count ≡ true
      clear = unless_true _ 52 0 (first_right _ _ accepted)

      is : left ≡ turned_back block count
      is = back.leaves ∙ left_done _ _ values accepted

      passed : turn_check (turned_back block count) others count ≡ pass
      passed =
          first_both _ _
          (sizes_again values block (turned_back block count) others count (first_left _ _ accepted) (back_length block count) long)
          (below_all count _
          (λ c low. recorded_pass _ (back_small block count c (omega (arith, few)))))
