-- The library's `fill` leaves zeros, which `cleared` has as a list by its elements.
use mathlib.Core.Path.{◌∙◌}
use Rattle.logic.proofs.Listed.{filled}
use Rattle.session_opening.proofs.clear_all.Goals as goal

pub returns : goal.returns
returns c =
    record {
      panel_after = c.fill.ensures.after (λ y e. e) ∙ filled _ 0;
      program_after = c.fill-2.ensures.after (λ y e. e) ∙ filled _ 0;
      memory_after = c.fill-3.ensures.after (λ y e. e) ∙ filled _ 0;
    }
