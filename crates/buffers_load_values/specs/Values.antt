-- The time 0 values on the way: what the code has before it reads STIM, and after some of its lines. They mirror private functions:
-- `time_zero_from` is what a caller reads.
use Rattle.std.specs.Prelude.{ℕ, List, leb}
use Rattle.logic.specs.Test.{◌and◌}
use Rattle.std.specs.Prelude.{if◌then◌else◌}
use Rattle.gates.specs.Value.{U}
use Rattle.model.specs.Network.{is_signal}
use Rattle.model.specs.Netlist.{network}
use Rattle.model.specs.Stimulus.{last_given}

-- U for the signals 1 to N
unfoldable pub undefined_to : ℕ → ℕ → ℕ
undefined_to signals s = if leb 1 s and leb s signals then U else 0

-- the values at time 0 by the first lines
unfoldable pub given_below : List ℕ → List ℕ → ℕ → ℕ → ℕ
given_below net stim lines s = if is_signal (network net) s then last_given stim 0 s lines else 0
