-- A number that 0 says there is none of, as of a signal in NET and MOD (01, Files).
use Rattle.std.specs.Prelude.{ℕ, Option, Some, None, eqb}
use Rattle.std.specs.Prelude.{if◌then◌else◌}

-- the number, or none where it is 0
abbrev pub numbered : ℕ → Option ℕ
numbered n = if eqb n 0 then None else Some n
