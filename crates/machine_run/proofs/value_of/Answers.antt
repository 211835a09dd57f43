-- The operand names the place that the panel has for the signal, in the earlier local half; `fetch` reads it.
use mathlib.Core.Path.{◌∙◌}
use Rattle.model.specs.Machine.{fetch}
use Rattle.machine_run.proofs.value_of.Goals as goal

pub returns : goal.returns
unfolding fetch
returns c = rw (← c.from-s.ensures, ← c.place_slot-slot.ensures, ← (c.from-processor.ensures ∙ c.place_processor.ensures)) c.fetch.ensures
