-- Every part is judged (`all_in_range`).
use Rattle.std.proofs.Common.{rules}
use Rattle.logic.proofs.Ranges.{all_in_range}
use Rattle.buffers_range_memory.specs.Order.{parts_at}
use Rattle.buffers_range_memory.proofs.parts_right.Goals as goal

pub returns : goal.returns
unfolding parts_at
returns c = all_in_range _ _ c.all.ensures.ran (λ x b q h. search rules)
