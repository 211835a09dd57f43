-- The way of a descent: a stack of nodes.
use Rattle.std.specs.Prelude.{ℕ, zero, suc, ◌≤◌, List, [], ◌∷◌, ⊤}

-- nodes alone stand on the way
abbrev pub Nodes : ℕ → List ℕ → Type 0
Nodes size [] = ⊤
Nodes size (x ∷ way) = (1 ≤ x) × (x ≤ size) × Nodes size way

-- the nodes 1 to n stand on the way, the last on top
abbrev pub lined_up : ℕ → List ℕ
lined_up zero = []
lined_up (suc n) = suc n ∷ lined_up n
