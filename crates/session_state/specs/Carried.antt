-- The session as the code carries it: the cycles finished and the watch by value, the values in hand in the panel alone.
use Rattle.std.specs.Prelude.{ℕ, ◌≡◌, List}
use Rattle.model.specs.Session.{Head, Watch}
use Rattle.buffers_tables.specs.Panel.{hand_in}
use Rattle.machine_run.specs.Running.{watch_of}
use Rattle.session_state.specs.declared.Session.{Session}

-- the head of a session over a panel
abbrev pub head_of : Session → List ℕ → Head
head_of s panel = record { finished = s.finished.0; hand = hand_in panel; watch = watch_of s.watch }

-- a session has these cycles finished and this watch
abbrev pub Carries : ℕ → Watch → Session → Type 0
Carries t watch s = (s.finished.0 ≡ t) × (watch_of s.watch ≡ watch)
