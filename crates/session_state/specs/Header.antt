-- The session's head (01, Session: "It keeps the cycles finished t, a value in hand for each input, the watch") as a panel's bytes hold
-- it.
use Rattle.std.specs.Prelude.{ℕ, List}
use Rattle.model.specs.Session.{Head}
use Rattle.buffers_tables.specs.Panel.{finished_in, watched_in, mask_in, hand_in}
use Rattle.buffers_tables.specs.Stores.{with_finished, with_watch, with_hands}

-- the head that the panel's bytes hold
abbrev pub head_in : List ℕ → Head
head_in panel =
    record { finished = finished_in panel; hand = hand_in panel; watch = record { signal = watched_in panel; mask = mask_in panel } }

-- the panel with a head written into it: the values in hand, the cycles finished and the watch. All other bytes stay.
unfoldable pub with_head : Head → List ℕ → List ℕ
with_head h panel = with_watch h.watch.signal h.watch.mask (with_finished h.finished (with_hands h.hand panel))
