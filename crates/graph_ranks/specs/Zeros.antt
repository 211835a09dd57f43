-- How many elements of a list are 0: the nodes that are not ranked yet.
use Rattle.std.specs.Prelude.{ℕ, List, eqb}
use Rattle.logic.specs.Test.{count}

unfoldable pub zeros : List ℕ → ℕ
zeros l = count (λ (x : ℕ). eqb x 0) l
