-- Each refusal at its place leaves the values as they were lent; where none applies, the block is turned back.
use mathlib.Core.Path.{◌≡◌, refl, ◌∙◌, ap₂}
use Rattle.file_lines.proofs.Stages.{passes, same, renamed}
use Rattle.session_answers.proofs.Calls.{leaves_lent, leaves_done, array_lent, lent_refused}
use Rattle.std.specs.Array.{IsWholeChunk}
use Rattle.traces.specs.Turned.{values_length, turned_back}
use Rattle.traces.specs.Checks.{unused_check, turn_back_check}
use Rattle.traces.proofs.Refusals.{Sizes, sizes_wrong, count_stops, count_passes}
use Rattle.traces.proofs.turn_back_checked.Goals as goal
use Rattle.traces.proofs.turn_back_checked.Goals.{In_ok-values, In_ok-count}

-- the values are the whole slice that was lent
whole : (c : In_ok-values) → IsWholeChunk c.args.values.now c.in_ok-values.values.now values_length
whole c = array_lent _ (λ x. x.now) _ _ _ c.as_mut_array.ensures.cases c.ok_or.ensures.value c.in_ok-values.was

sized : (c : In_ok-values) → Sizes c.args.values.now c.args.block.now
sized c = record { values_size = (whole c).long; block_size = c.in_ok-block.ensures.1.long }

cycles : (c : In_ok-count) → c.in_ok-count.count ≡ c.args.count
cycles c = same c.cycles_of.ensures.answers c.in_ok-count.was

pub returns-in_err-block : goal.returns-in_err-block
unfolding turn_back_check
returns-in_err-block c = leaves_lent (sizes_wrong _ _ _ (λ s. c.in_err-block.ensures.1 s.block_size) _) c.from_residual.ensures.1 refl

pub returns-in_err-values : goal.returns-in_err-values
unfolding turn_back_check
returns-in_err-values c =
    lent_refused _ (λ x. x.now) _ _ _ c.as_mut_array.ensures.cases c.ok_or.ensures.value c.in_err-values.was (λ none. sizes_wrong _ _ _ (λ s. none s.values_size) _) c.from_residual-in_err-values.ensures.1

pub returns-in_err-count : goal.returns-in_err-count
unfolding turn_back_check
returns-in_err-count c =
    let at = (goal.at.returns-in_err-count c).In_ok-values in
    leaves_lent (count_stops _ _ _ (sized at) c.in_err-count.ensures.answers refl _) c.from_residual-in_err-count.ensures.1 (whole at).same

pub returns-in_err-check_unused : goal.returns-in_err-check_unused
unfolding turn_back_check
returns-in_err-check_unused c =
    let at = goal.at.returns-in_err-check_unused c in
    leaves_lent
    (count_passes _ _ _ (sized at.In_ok-values) c.cycles_of.ensures.answers c.in_ok-count.was
    (renamed refl (ap₂ unused_check c.in_ok-block.ensures.1.same (cycles at.In_ok-count)) c.in_err-check_unused.ensures))
    c.from_residual-in_err-check_unused.ensures.1
    (whole at.In_ok-values).same

pub returns : goal.returns
unfolding turn_back_check
returns c =
    let at = goal.at.returns c in
    let b = c.in_ok-block.ensures.1.same in
    leaves_done
    (passes
    (count_passes _ _ _ (sized at.In_ok-values) c.cycles_of.ensures.answers c.in_ok-count.was
    (renamed refl (ap₂ unused_check b (cycles at.In_ok-count)) c.check_unused.ensures))
    c.in_ok-check_unused.was)
    (c.turn_back_all.ensures ∙ ap₂ turned_back b (cycles at.In_ok-count))
