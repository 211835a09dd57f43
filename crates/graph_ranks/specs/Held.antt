-- A stack in an array.
use Rattle.std.specs.Prelude.{ℕ, zero, suc, List, [], ◌∷◌, get_or}

-- what the first n elements of an array hold, the last of them first
abbrev pub held : List ℕ → ℕ → List ℕ
held items zero = []
held items (suc n) = get_or items n 0 ∷ held items n
