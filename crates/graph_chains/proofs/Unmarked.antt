-- Laws of `unmarked`.
use Prim.Native.Nat.{ℕ, ◌+◌, ◌<◌, ◌≤◌}
use mathlib.Core.Path.{◌≡◌, refl, ap}
use mathlib.Core.Bool.{Bool, true, false, not}
use mathlib.Core.List.{List}
use lib.ListN.{length, get_or, set}
use Rattle.logic.proofs.Tests.{count_length}
use Rattle.logic.proofs.Counts.{count_at}
use Rattle.graph_ranks.proofs.Stores.{count_filled}
use Rattle.graph_chains.specs.Search.{unmarked}

pub unmarked_length : (marks : List Bool) → unmarked marks ≤ length marks
unfolding unmarked
unmarked_length marks = count_length not marks

-- a node with no mark is counted
pub unmarked_at : (marks : List Bool) (x : ℕ) → x < length marks → get_or marks x false ≡ false → 1 ≤ unmarked marks
unfolding unmarked
unmarked_at marks x h e = count_at not marks x false h (ap not e)

-- one fewer
pub unmarked_filled : (marks : List Bool) (x : ℕ) → x < length marks → get_or marks x false ≡ false
    → unmarked (set marks x true) + 1 ≡ unmarked marks
unfolding unmarked
unmarked_filled marks x h e = count_filled not marks x true false h (ap not e) refl
