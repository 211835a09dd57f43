-- What 42 judges of a value that was recorded (02, tickets 7 and 1): "the first value above 3".
use Rattle.std.specs.Prelude.{ℕ, List, leb, length, get_or}
use Rattle.model.specs.Refusal.{Check, unless, first_below}

-- of one value, which 42 returns
unfoldable pub recorded_check : ℕ → Check
recorded_check value = unless (leb value 3) 42 value

-- of a list of values: the first that 42 refuses
unfoldable pub recorded_checks : List ℕ → Check
recorded_checks values = first_below (length values) (λ c. recorded_check (get_or values c 0))
