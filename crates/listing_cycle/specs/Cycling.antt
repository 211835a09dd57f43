-- What a cycle asks for, and the session after it.
use Rattle.std.specs.Prelude.{ℕ, ◌+◌, ◌≤◌, ◌<◌, ◌≡◌, true, List, length}
use Rattle.buffers_tables.specs.Panel.{signals_in}
use Rattle.buffers_range.specs.Ranges.{ranged}
use Rattle.buffers_lengths.specs.Lengths.{Sizes}
use Rattle.machine_run.specs.Running.{watch_of}
use Rattle.session_state.specs.declared.Session.{Session}
use Rattle.session_state.specs.Carried.{Carries}

-- working buffers of their lengths and in range
pub record RightBuffers (panel program memory : List ℕ) : Type 0 where
  pub sizes : Sizes (length panel) (length program) (length memory)
  pub range : ranged panel program memory ≡ true

-- and a session over them that watches nothing and has a cycle left
pub record Ready (s : Session) (panel program memory : List ℕ) : Type 0 where
  pub right : RightBuffers panel program memory
  pub watched_low : 1 ≤ s.watch.signal
  pub watched_high : s.watch.signal ≤ signals_in panel
  pub mask : s.watch.mask ≡ 0
  pub left : s.finished.0 < 65535

-- one cycle more is finished, and the watch is the same
abbrev pub OneMore : Session → Session → Type 0
OneMore before after = Carries (before.finished.0 + 1) (watch_of before.watch) after
