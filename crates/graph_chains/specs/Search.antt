-- How the code searches back from a node: it mirrors private functions, and `Loops` is what a caller reads.
use Rattle.std.specs.Prelude.{ℕ, zero, suc, ◌+◌, ◌*◌, ◌≤◌, ◌≡◌, Bool, true, false, not, List, [], ◌∷◌, eqb, length, get_or, set, replicate}
use Rattle.std.specs.Prelude.{if◌then◌else◌}
use Rattle.logic.specs.Test.{count}
use Rattle.graph_ranks.specs.Graph.{places}

-- a mark for each node, and the marked nodes whose feeders are still to be marked
pub record State : Type 0 where
  pub marks : List Bool
  pub stack : List ℕ

abbrev pub state : List Bool → List ℕ → State
state marks stack = record { marks = marks; stack = stack }

-- nothing is marked yet
abbrev pub blank : State
blank = state (replicate places false) []

-- how many nodes have no mark yet
unfoldable pub unmarked : List Bool → ℕ
unmarked marks = count not marks

-- the stack has room for each node that has no mark
pub record Room (at : State) : Type 0 where
  pub marks_long : length at.marks ≡ places
  pub left : length at.stack + unmarked at.marks ≤ places

-- x is marked and stacked, if it is a node and has no mark
unfoldable pub pushed : State → ℕ → State
pushed at x =
    if eqb x 0 then at else
    if get_or at.marks x false then at else
    state (set at.marks x true) (x ∷ at.stack)

-- the first j feeders of y are
unfoldable pub pushed_to : List ℕ → State → ℕ → ℕ → State
pushed_to edges at y zero = at
pushed_to edges at y (suc j) = pushed (pushed_to edges at y j) (get_or edges (4 * y + j) 0)

-- its four feeders are
abbrev pub pushed_all : List ℕ → State → ℕ → State
pushed_all edges at y = pushed_to edges at y 4
