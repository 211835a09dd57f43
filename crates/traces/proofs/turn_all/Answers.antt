-- The bytes of the two halves, one behind the other.
use mathlib.Core.Path.{◌∙◌}
use Rattle.traces.proofs.Block.{block_turned}
use Rattle.traces.proofs.turn_all.Goals as goal

pub returns : goal.returns
returns c =
    block_turned _ _ _ c.told-block c.turned_half-low.ensures c.turned_half-high.ensures
    (c.copy_from_slice.ensures.after ∙ c.to_le_bytes.ensures) (c.copy_from_slice-2.ensures.after ∙ c.to_le_bytes-2.ensures)
