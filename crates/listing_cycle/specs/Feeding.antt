-- STIM's lines on the way: those of a time are settings for its cycle (01, Session: "STIM's later lines are used by the program alone,
-- which sets inputs and runs from them").
use Rattle.std.specs.Prelude.{ℕ, ◌<◌, ◌≤◌, ◌≡◌, true, false, List}
use Rattle.model.specs.Refusal.{pass}
use Rattle.model.specs.Network.{Network, Signal, input}
use Rattle.model.specs.Stimulus.{stim_time, stim_check, stim_count, last_given}
use Rattle.buffers_tables.specs.Panel.{hand_in}
use Rattle.machine_run.specs.Running.{watch_of}
use Rattle.session_state.specs.declared.Session.{Session}
use Rattle.session_state.specs.Carried.{Carries}
use Rattle.buffers_tables.specs.Stores.{with_hands}
use Rattle.session_state.specs.Commands.{input_in}

-- the lines up to time t are passed
pub record Passed (stim : List ℕ) (t line : ℕ) : Type 0 where
  pub few : line ≤ stim_count stim
  pub earlier : (k : ℕ) → k < line → stim_time stim k ≤ t
  pub later : line < stim_count stim → t < stim_time stim line

-- the panel has the inputs of a network that accepts STIM
pub record PanelInputs (n : Network) (stim panel : List ℕ) : Type 0 where
  pub passes : stim_check n stim ≡ pass
  pub inputs : (s : ℕ) → Signal n s → n.kind s ≡ input → input_in panel s ≡ true

-- every input has in hand what the first lines give it up to a time
abbrev pub InHand : Network → List ℕ → ℕ → ℕ → List ℕ → Type 0
InHand n stim t line panel = (s : ℕ) → Signal n s → n.kind s ≡ input → hand_in panel s ≡ last_given stim t s line

-- A panel with the settings of a time from a line on, and the line after them.
-- only: no byte changes but values in hand. gates: what is no input keeps what stands there. codes: codes stay codes.
pub record Fed (stim before : List ℕ) (t line : ℕ) (after : List ℕ) (next : ℕ) : Type 0 where
  pub low : line ≤ next
  pub few : next ≤ stim_count stim
  pub times : (k : ℕ) → line ≤ k → k < next → stim_time stim k ≡ t
  pub only : after ≡ with_hands (hand_in after) before
  pub gates : (s : ℕ) → 1 ≤ s → s ≤ 4096 → input_in before s ≡ false → hand_in after s ≡ hand_in before s
  pub codes : (s : ℕ) → 1 ≤ s → s ≤ 4096 → hand_in before s ≤ 3 → hand_in after s ≤ 3
  pub hands : (n : Network) → PanelInputs n stim before → 1 ≤ t → InHand n stim t line before → InHand n stim t next after

-- a session with the same cycles finished and the same watch
abbrev pub SameNumbers : Session → Session → Type 0
SameNumbers before after = Carries before.finished.0 (watch_of before.watch) after
