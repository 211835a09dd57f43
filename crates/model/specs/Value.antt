-- VAL (01, Values and gates): the rules, and a function that computes the one table that follows them.
use Rattle.std.specs.Prelude.{ℕ, zero, suc, ◌≡◌, true, false, List, [], ◌∷◌, eqb}
use Rattle.std.specs.Prelude.{if◌then◌else◌}
use Rattle.model.specs.Network.{Network, Signal, input, unit_delay, rank_order}

-- what an operand without a source reads. Its translation is a constant (12), so that the number does not matter
abbrev pub no_source : ℕ
no_source = 0

-- the value of a source in a state
abbrev pub value_of : (ℕ → ℕ) → ℕ → ℕ
value_of v zero = no_source
value_of v (suc x) = v (suc x)

-- the gate s on its sources' values in the state v
unfoldable pub evaluate : Network → (ℕ → ℕ) → ℕ → ℕ
evaluate n v s =
    n.gate s (value_of v (n.source s 0)) (value_of v (n.source s 1)) (value_of v (n.source s 2)) (value_of v (n.source s 3))

-- One cycle: the state a at t - 1, the inputs' values row of cycle t, the state b at t. "For t ≥ 1, a unit-delay gate takes its
-- sources at t-1, and a rank-order gate takes them at t."
pub record Step (n : Network) (row a b : ℕ → ℕ) : Type 0 where
  pub input_rule : (s : ℕ) → Signal n s → n.kind s ≡ input → b s ≡ row s
  pub unit_rule : (s : ℕ) → Signal n s → n.kind s ≡ unit_delay → b s ≡ evaluate n a s
  pub rank_rule : (s : ℕ) → Signal n s → n.kind s ≡ rank_order → b s ≡ evaluate n b s

-- "At t = 0 every signal has its given value"
unfoldable pub start : Network → (ℕ → ℕ) → ℕ → ℕ
start n given s = given s

-- A table of values by time and signal follows the rules, row t being the inputs' values of cycle t
pub record Follows (n : Network) (given : ℕ → ℕ) (row table : ℕ → ℕ → ℕ) : Type 0 where
  pub at_start : (s : ℕ) → Signal n s → table 0 s ≡ start n given s
  pub at_step : (t : ℕ) → Step n (row (suc t)) (table t) (table (suc t))

-- inputs and unit-delay gates in the cycle with the inputs' values row, after the state a
unfoldable pub driven : Network → (ℕ → ℕ) → (ℕ → ℕ) → ℕ → ℕ
driven n row a s = if eqb (n.kind s) input then row s else evaluate n a s

-- rank-order gates by their sources, all others as in base; d bounds the chains followed
unfoldable pub settle : Network → (ℕ → ℕ) → ℕ → ℕ → ℕ
settle n base zero s = base s
settle n base (suc d) s = elim (eqb (n.kind s) rank_order) [ true ↦ evaluate n (settle n base d) s | false ↦ base s ]

-- the state after a cycle: no chain of rank-order gates is longer than the network
unfoldable pub next : Network → (ℕ → ℕ) → (ℕ → ℕ) → ℕ → ℕ
next n row a s = settle n (driven n row a) (suc n.size) s

-- VAL(s,t), given the inputs' values of the cycles t to 1, the last first
unfoldable pub VAL : Network → (ℕ → ℕ) → List (ℕ → ℕ) → ℕ → ℕ
VAL n given [] s = start n given s
VAL n given (row ∷ rows) s = next n row (VAL n given rows) s

-- the inputs' values of the cycles t to 1
unfoldable pub history : (ℕ → ℕ → ℕ) → ℕ → List (ℕ → ℕ)
history row zero = []
history row (suc t) = row (suc t) ∷ history row t

-- Values told by the inputs' values of the cycles finished, the last first, follow the rules, whatever these inputs are
abbrev pub FollowsAlways : Network → (ℕ → ℕ) → (List (ℕ → ℕ) → ℕ → ℕ) → Type 0
FollowsAlways n given table = (row : ℕ → ℕ → ℕ) → Follows n given row (λ t. table (history row t))
