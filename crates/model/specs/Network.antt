-- A network of signals (01, Values and gates): "A signal is an external input, a unit-delay gate or a rank-order gate."
use Rattle.std.specs.Prelude.{ℕ, ◌≤◌, ◌<◌, ◌≡◌, Bool, leb}
use Rattle.logic.specs.Test.{◌and◌}

-- the kinds, as NET writes them
abbrev pub input : ℕ
input = 1

abbrev pub unit_delay : ℕ
unit_delay = 2

abbrev pub rank_order : ℕ
rank_order = 3

-- size: N. kind s: one of the three. source s j: source j (0 to 3) of s, 0 where there is none.
-- gate s a1 a2 a3 a4: the value of the gate s on four operands.
pub record Network : Type 0 where
  pub size : ℕ
  pub kind : ℕ → ℕ
  pub source : ℕ → ℕ → ℕ
  pub gate : ℕ → ℕ → ℕ → ℕ → ℕ → ℕ

-- s is a signal of the network: 1 to N
pub record Signal (n : Network) (s : ℕ) : Type 0 where
  pub low : 1 ≤ s
  pub high : s ≤ n.size

unfoldable pub is_signal : Network → ℕ → Bool
is_signal n s = leb 1 s and leb s n.size

-- a is a source of b, and both are rank-order gates
pub record Feeds (n : Network) (a b : ℕ) : Type 0 where
  pub from : Signal n a
  pub to : Signal n b
  pub from_rank : n.kind a ≡ rank_order
  pub to_rank : n.kind b ≡ rank_order
  pub index : ℕ
  pub small : index < 4
  pub is_source : n.source b index ≡ a

-- "a .. chain of rank-order gates, each a source of the next" (01, Refusals, 13), from a to b, of at least one step
pub data Chain (n : Network) : ℕ → ℕ → Type 0 where
  one : {a b : ℕ} → Feeds n a b → Chain n a b
  more : {a b c : ℕ} → Chain n a b → Feeds n b c → Chain n a c

-- "a closed chain .. runs through it"
abbrev pub OnClosedChain : Network → ℕ → Type 0
OnClosedChain n s = Chain n s s
