-- What a call does in a session over the machine that the buffers hold, their lengths being right: 41 to 43, or the call itself.
use Rattle.std.specs.Prelude.{ℕ, ◌≡◌, Bool, List, eqb, leb}
use Rattle.logic.specs.Test.{◌and◌}
use Rattle.model.specs.Network.{input}
use Rattle.model.specs.Machine.{Memory}
use Rattle.model.specs.Session.{lockstep, Head, Call, Outcome, call_check, replaced, meet}
use Rattle.buffers_memory.specs.Memory.{memory_of}
use Rattle.buffers_tables.specs.Panel.{signals_in, kind_in, processor_in, slot_in}
use Rattle.buffers_tables.specs.Tables.{network_in, module_in}
use Rattle.buffers_lengths.specs.Lengths.{fixed}
use Rattle.machine_run.specs.Running.{watch_of}
use Rattle.session_answers.specs.Replies.{call_answer}
use Rattle.session_state.specs.declared.Told.{Told}
use Rattle.buffers_tables.specs.Stores.{with_hands}

abbrev pub commanded : List ℕ → List ℕ → List ℕ → Head → Call → Outcome Memory
commanded panel program memory head call =
    let n = network_in panel program in
    meet fixed n (lockstep n (module_in panel program) (processor_in panel) (slot_in panel)) head (memory_of memory) call
    (call_check n head.finished call)

-- a signal of the network that the panel holds, and an input of it
unfoldable pub signal_in : List ℕ → ℕ → Bool
signal_in panel s = leb 1 s and leb s (signals_in panel)

unfoldable pub input_in : List ℕ → ℕ → Bool
input_in panel s = signal_in panel s and eqb (kind_in panel s) input

-- a head with a value in hand replaced
abbrev pub with_value : Head → ℕ → ℕ → Head
with_value h s v = record { finished = h.finished; hand = replaced h.hand s v; watch = h.watch }

-- What a command tells is an outcome, whatever the engine's state: its answer, the cycles finished and the watch of the session that it
-- hands back, and the values in hand, which the command leaves in the panel. No other byte of the panel changes.
pub record Tells {State : Type 0} (o : Outcome State) (told : Told) (before after : List ℕ) : Type 0 where
  pub answer : call_answer told.answer ≡ o.answer
  pub finished : told.session.finished.0 ≡ o.head.finished
  pub watch : watch_of told.session.watch ≡ o.head.watch
  pub hand : after ≡ with_hands o.head.hand before
