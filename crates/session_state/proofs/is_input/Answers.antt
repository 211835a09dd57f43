-- A signal has a kind in the panel.
use mathlib.Core.Path.{sym, ◌∙◌}
use native.Mathlib.Omega.{arith}
use Rattle.session_state.proofs.Commands.{signal_high}
use Rattle.session_state.proofs.is_input.Goals as goal

pub kind-requires : goal.kind-requires
kind-requires c = omega (arith, c.requires, signal_high _ _ (sym c.is_signal.ensures ∙ c.if-is_signal.true))
