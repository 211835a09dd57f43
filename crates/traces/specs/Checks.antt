-- The refusals of turning and of turning back (02, ticket 7), in their order.
use Rattle.std.specs.Prelude.{ℕ, Bool, List, [], ◌∷◌, leb, length, get_or}
use Rattle.logic.specs.Test.{◌and◌}
use Rattle.model.specs.Refusal.{Check, first, unless, first_below}
use Rattle.model.specs.Session.{Lengths, same_lengths}
use Rattle.session_answers.specs.Recorded.{recorded_check}
use Rattle.traces.specs.Turned.{most_cycles, values_length, block_length, unused_clear}

-- the lengths lent, those of the values and of the block, and the fixed ones
abbrev pub turn_lent : List ℕ → List ℕ → Lengths
turn_lent values block = length values ∷ length block ∷ []

abbrev pub turn_fixed : Lengths
turn_fixed = values_length ∷ block_length ∷ []

-- a cycle count from 1 to 64
unfoldable pub count_right : ℕ → Bool
count_right count = leb 1 count and leb count most_cycles

-- "a cycle count outside 1 to 64"
unfoldable pub count_check : ℕ → Check
count_check count = unless (count_right count) 52 0

-- of either call: 40, then the count
unfoldable pub sizes_check : List ℕ → List ℕ → ℕ → Check
sizes_check values block count = first (unless (same_lengths (turn_lent values block) turn_fixed) 40 0) (count_check count)

-- "42 then returns the first value above 3", of those within the count
unfoldable pub values_check : List ℕ → ℕ → Check
values_check values count = first_below count (λ c. recorded_check (get_or values c 0))

-- "and, on reading, an unused bit set"
unfoldable pub unused_check : List ℕ → ℕ → Check
unused_check block count = unless (unused_clear block count) 52 0

unfoldable pub turn_check : List ℕ → List ℕ → ℕ → Check
turn_check values block count = first (sizes_check values block count) (values_check values count)

unfoldable pub turn_back_check : List ℕ → List ℕ → ℕ → Check
turn_back_check block values count = first (sizes_check values block count) (unused_check block count)
