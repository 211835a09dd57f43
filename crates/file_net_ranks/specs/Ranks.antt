-- The ranks of a network's signals, as a list of 4097 numbers.
use Rattle.std.specs.Prelude.{ℕ, List}
use Rattle.std.specs.Prelude.{if◌then◌else◌}
use Rattle.logic.specs.Listed.{listed}
use Rattle.model.specs.Network.{Network, is_signal}
use Rattle.model.specs.Ranks.{rank_of}

-- at the place of a signal its rank, and elsewhere 0
unfoldable pub ranks_of : Network → List ℕ
ranks_of n = listed 4097 (λ s. if is_signal n s then rank_of n s else 0)
