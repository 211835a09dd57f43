-- The refusal that the answer of the search for a closed chain stands for (01, Refusals, 13).
use Rattle.std.specs.Prelude.{ℕ, Option, Some, None}
use Rattle.model.specs.Refusal.{Check, pass, fail}

-- a signal is refused by 13
abbrev pub chain_check : Option ℕ → Check
chain_check None = pass
chain_check (Some signal) = fail 13 signal
