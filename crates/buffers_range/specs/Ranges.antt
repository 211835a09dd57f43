-- 44 (01, Refusals): "a number in a working buffer lies outside the range that this paper gives it".
use Rattle.std.specs.Prelude.{ℕ, Bool, List}
use Rattle.logic.specs.Test.{◌and◌}
use Rattle.buffers_range_panel.specs.Ranges.{panel_ranged}
use Rattle.buffers_range_program.specs.Ranges.{program_ranged}
use Rattle.buffers_range_memory.specs.Ranges.{memory_ranged}

unfoldable pub ranged : List ℕ → List ℕ → List ℕ → Bool
ranged panel program memory = panel_ranged panel and program_ranged panel program and memory_ranged panel memory
