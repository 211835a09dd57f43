-- Each refusal at its place leaves the block as it was lent; where none applies, the values are turned.
use Prim.Native.Nat.{◌≤◌}
use mathlib.Core.Path.{◌≡◌, refl, sym, ◌∙◌, ap, ap₂}
use Rattle.file_lines.proofs.Stages.{passes, same, renamed}
use Rattle.session_answers.proofs.Calls.{leaves_lent, leaves_done, array_lent, lent_refused, told_as}
use Rattle.session_answers.specs.Recorded.{recorded_checks}
use Rattle.model.proofs.Refusals.{first_both}
use lib.ListN.{length, take}
use native.Mathlib.Omega.{arith}
use Rattle.std.specs.Array.{IsWholeChunk}
use Rattle.traces.specs.Turned.{block_length, turned}
use Rattle.traces.specs.Checks.{values_check, turn_check}
use Rattle.traces.proofs.Refusals.{Sizes, sizes_wrong, sizes_right, count_stops, count_passes, values_taken}
use Rattle.traces.proofs.Block.{turned_taken}
use Rattle.traces.proofs.turn_checked.Goals as goal
use Rattle.traces.proofs.turn_checked.Goals.{In_ok-block, In_ok-count}

-- the block is the whole slice that was lent
whole : (c : In_ok-block) → IsWholeChunk c.args.block.now c.in_ok-block.block.now block_length
whole c = array_lent _ (λ x. x.now) _ _ _ c.as_mut_array.ensures.cases c.ok_or.ensures.value c.in_ok-block.was

sized : (c : In_ok-block) → Sizes c.args.values.now c.args.block.now
sized c = record { values_size = c.in_ok-values.ensures.1.long; block_size = (whole c).long }

cycles : (c : In_ok-count) → c.in_ok-count.count ≡ c.args.count
cycles c = same c.cycles_of.ensures.answers c.in_ok-count.was

pub returns-in_err-values : goal.returns-in_err-values
unfolding turn_check
returns-in_err-values c = leaves_lent (sizes_wrong _ _ _ (λ s. c.in_err-values.ensures.1 s.values_size) _) c.from_residual.ensures.1 refl

pub returns-in_err-block : goal.returns-in_err-block
unfolding turn_check
returns-in_err-block c =
    lent_refused _ (λ x. x.now) _ _ _ c.as_mut_array.ensures.cases c.ok_or.ensures.value c.in_err-block.was (λ none. sizes_wrong _ _ _ (λ s. none s.block_size) _) c.from_residual-in_err-block.ensures.1

pub returns-in_err-count : goal.returns-in_err-count
unfolding turn_check
returns-in_err-count c =
    let at = (goal.at.returns-in_err-count c).In_ok-block in
    leaves_lent (count_stops _ _ _ (sized at) c.in_err-count.ensures.answers refl _) c.from_residual-in_err-count.ensures.1 (whole at).same

-- the count is an index of the values
within : (c : In_ok-count) → c.in_ok-count.count ≤ length c.in_ok-values.values.now
within c = omega (arith, c.in_ok-count.ensures.at_most, c.in_ok-values.ensures.1.long, ap length c.in_ok-values.ensures.1.same)

-- the values that are judged
judged : (c : In_ok-count) → recorded_checks (take c.in_ok-count.count c.in_ok-values.values.now) ≡ values_check c.args.values.now c.args.count
judged c = values_taken _ _ (within c) ∙ ap₂ values_check c.in_ok-values.ensures.1.same (cycles c)

pub returns-in_err-check_recorded : goal.returns-in_err-check_recorded
unfolding turn_check
returns-in_err-check_recorded c =
    let at = goal.at.returns-in_err-check_recorded c in
    leaves_lent
    (count_passes _ _ _ (sized at.In_ok-block) c.cycles_of.ensures.answers c.in_ok-count.was
    (renamed refl (judged at.In_ok-count) (told_as refl c.in_err-check_recorded.ensures)))
    c.from_residual-in_err-check_recorded.ensures.1
    (whole at.In_ok-block).same

pub returns : goal.returns
unfolding turn_check
returns c =
    let at = goal.at.returns c in
    let rest = passes c.check_recorded.ensures c.in_ok-check_recorded.was in
    leaves_done
    (first_both _ _ (sizes_right _ _ _ (sized at.In_ok-block) ∙ passes c.cycles_of.ensures.answers c.in_ok-count.was) (sym (judged at.In_ok-count) ∙ rest))
    (c.turn_all.ensures ∙ turned_taken _ _ (within at.In_ok-count) ∙ ap₂ turned c.in_ok-values.ensures.1.same (cycles at.In_ok-count))
