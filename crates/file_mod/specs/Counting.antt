-- How the code finds refusal 22 in an array of counts: it mirrors a private function and need not be
-- believed. `placed` is what a caller reads.
use Rattle.std.specs.Prelude.{ℕ, suc, List, eqb, get_or}
use Rattle.model.specs.Refusal.{Check, unless, first_below}

-- signal k + 1 is counted once
unfoldable pub once : List ℕ → ℕ → Check
once counts k = unless (eqb (get_or counts (suc k) 0) 1) 22 (suc k)

unfoldable pub counted_once : ℕ → List ℕ → Check
counted_once signals counts = first_below signals (once counts)
