-- The tables hold a network and a module: the same numbers at every line and every signal.
use Rattle.std.specs.Prelude.{ℕ, ◌<◌, ◌≤◌, ◌≡◌, List}
use Rattle.model.specs.Network.{Network, Signal}
use Rattle.model.specs.Module.{Module, At}
use Rattle.buffers_tables.specs.Panel.{panel_stride, hand_column, signals_in, processors_in, slots_in, column_in, processor_in, slot_in}
use Rattle.buffers_tables.specs.Tables.{network_in, module_in}

-- a has the sizes of b, and the same lines at its processors and slots
pub record SameLines (a b : Module) : Type 0 where
  pub processors : a.processors ≡ b.processors
  pub slots : a.slots ≡ b.slots
  pub signals : (p i : ℕ) → At b p i → a.signal p i ≡ b.signal p i
  pub parts : (p i j : ℕ) → At b p i → j < 4 → a.part p i j ≡ b.part p i j
  pub locations : (p i j : ℕ) → At b p i → j < 4 → a.location p i j ≡ b.location p i j
  pub send_parts : (p i : ℕ) → At b p i → a.send_part p i ≡ b.send_part p i
  pub send_locations : (p i : ℕ) → At b p i → a.send_location p i ≡ b.send_location p i
  pub senders : (p i : ℕ) → At b p i → a.sender p i ≡ b.sender p i

-- a has the size of b, and at every signal its kind and its gate
pub record SameGates (a b : Network) : Type 0 where
  pub size : a.size ≡ b.size
  pub kinds : (s : ℕ) → Signal b s → a.kind s ≡ b.kind s
  pub gates : (s : ℕ) → Signal b s → a.gate s ≡ b.gate s

-- the panel names a place of signal s
pub record PlacedIn (m : Module) (panel : List ℕ) (s : ℕ) : Type 0 where
  pub at : At m (processor_in panel s) (slot_in panel s)
  pub is : m.signal (processor_in panel s) (slot_in panel s) ≡ s

pub record Holding (n : Network) (m : Module) (panel program : List ℕ) : Type 0 where
  pub lines : SameLines (module_in panel program) m
  pub signals : SameGates (network_in panel program) n
  pub places : (s : ℕ) → Signal n s → PlacedIn m panel s

-- two panels have the same numbers where no call writes: N, P, C, and of every signal all but the value in hand
pub record SameFixed (a b : List ℕ) : Type 0 where
  pub signals : signals_in a ≡ signals_in b
  pub processors : processors_in a ≡ processors_in b
  pub slots : slots_in a ≡ slots_in b
  pub columns : (s column : ℕ) → 1 ≤ s → s ≤ 4096 → column < panel_stride → (column ≡ hand_column → ⊥) → column_in a s column ≡ column_in b s column
