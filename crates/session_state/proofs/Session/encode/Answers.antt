-- `encode`: the numbers are all that the panel lacks.
use mathlib.Core.Path.{◌∙◌, ap}
use Rattle.buffers_tables.specs.Stores.{with_watch}
use Rattle.machine_run.specs.Running.{watch_of}
use Rattle.session_state.proofs.Heads.{numbered}
use Rattle.session_state.proofs.Session.encode.Goals as goal

pub returns : goal.returns
returns c =
    c.set_watch.ensures
    ∙ ap (with_watch c.args.self.watch.signal c.args.self.watch.mask) c.set_finished.ensures
    ∙ numbered c.args.self.finished.0 (watch_of c.args.self.watch) c.args.panel.now c.told-panel
