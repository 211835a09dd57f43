-- Heads that a panel takes in and stays in range.
use Rattle.std.specs.Prelude.{ℕ, ◌<◌, ◌≤◌, ◌≡◌, List}
use Rattle.model.specs.Session.{Head}
use Rattle.buffers_tables.specs.Panel.{signals_in}

-- the watch is of a signal, values in hand are codes, and 0 above N
pub record InRange (panel : List ℕ) (h : Head) : Type 0 where
  pub watched_low : 1 ≤ h.watch.signal
  pub watched_high : h.watch.signal ≤ signals_in panel
  pub mask_high : h.watch.mask ≤ 15
  pub hands : (s : ℕ) → 1 ≤ s → s ≤ signals_in panel → h.hand s ≤ 3
  pub rest : (s : ℕ) → signals_in panel < s → s ≤ 4096 → h.hand s ≡ 0
