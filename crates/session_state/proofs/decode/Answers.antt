-- `decode`: each number of the head is read where the panel has it, and its low bytes are bytes.
use Prim.Native.Nat.{ℕ}
use mathlib.Core.Path.{ap, ◌∙◌}
use Rattle.buffers_tables.specs.Panel.{finished_in, watched_in, hand_in}
use Rattle.session_state.proofs.Heads.{own_head}
use Rattle.session_state.proofs.decode.Goals as goal

pub returns : goal.returns
returns c = (
  ap (λ (t : ℕ). record { finished = t; hand = hand_in c.args.panel.now; watch = record { signal = c.watched.result.signal; mask = c.watched.result.mask } }) c.finished.ensures.0
      ∙ ap (λ (x : ℕ). record { finished = finished_in c.args.panel.now; hand = hand_in c.args.panel.now; watch = record { signal = x; mask = c.watched.result.mask } }) c.watched.ensures.0
      ∙ ap (λ (x : ℕ). record { finished = finished_in c.args.panel.now; hand = hand_in c.args.panel.now; watch = record { signal = watched_in c.args.panel.now; mask = x } }) c.watched.ensures.1,
  own_head c.args.panel.now c.told-panel c.finished.ensures.1 c.watched.ensures.2,
)
