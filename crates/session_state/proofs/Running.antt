-- What the model says of a run, as the command does it.
use Prim.Native.Nat.{ℕ, ◌+◌, ◌≤◌, ◌<◌}
use mathlib.Core.Path.{◌≡◌, sym, ◌∙◌, ap}
use mathlib.Core.List.{List}
use lib.ListN.{length}
use borrow.Author.Tests.{le-leb, lt-leb}
use Rattle.model.specs.Refusal.{unless}
use Rattle.model.specs.Machine.{Memory}
use Rattle.model.specs.Session.{Head, Watch, run, refused, ran, Outcome, watched, call_check, running, perform, meet}
use Rattle.model.proofs.Runs.{runs_exact}
use Rattle.buffers_memory.specs.Memory.{memory_length, memory_of, within, with_memory}
use Rattle.buffers_memory.proofs.Written.{written_self}
use Rattle.buffers_tables.specs.Panel.{processors_in, slots_in, hand_in}
use Rattle.machine_run.specs.Running.{cycle_in, value_in, run_in}
use Rattle.session_state.specs.Commands.{commanded}

module _ (panel program memory : List ℕ) (h : Head) (k : ℕ) where
  pub run_refused : 65535 < h.finished + k
      → commanded panel program memory h (run k) ≡ record { answer = refused 43 h.finished; head = h; state = memory_of memory }
  unfolding meet call_check unless
  run_refused l = rw (lt-leb (h.finished + k) 65535 l)

  -- a refused run leaves the memory
  pub memory_kept : length memory ≡ memory_length → 65535 < h.finished + k
      → memory ≡ with_memory (processors_in panel) (slots_in panel) (commanded panel program memory h (run k)).state memory
  memory_kept size l =
      written_self (within (processors_in panel) (slots_in panel)) memory size
      ∙ ap (λ (o : Outcome Memory). with_memory (processors_in panel) (slots_in panel) o.state memory) (sym (run_refused l))

-- a run that is not refused, of a session over the panel: the machine takes the values in hand from there
module _ (panel program memory : List ℕ) (finished : ℕ) (watch : Watch) (k : ℕ) where
  abbrev head : ℕ → Head
  head t = record { finished = t; hand = hand_in panel; watch = watch }

  pub run_done : finished + k ≤ 65535
      → commanded panel program memory (head finished) (run k)
      ≡ (let r = run_in panel program watch k (memory_of memory) in
      record { answer = ran r.count r.stopped; head = head (finished + r.count); state = r.state })
  unfolding meet call_check unless perform running run_in
  run_done l = rw (le-leb (finished + k) 65535 l)

-- it does no more than k cycles
pub run_most : (panel program : List ℕ) (watch : Watch) (w : Memory) (k : ℕ) → (run_in panel program watch k w).count ≤ k
unfolding run_in
run_most panel program watch w k = (runs_exact (cycle_in panel program) (λ y. watched watch.mask (value_in panel y watch.signal)) k w).most
