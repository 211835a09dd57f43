-- What a call over buffers in range leaves is in range: the head's numbers by 41 and 42, the memory since a run is a number of cycles.
use Prim.Native.Nat.{ℕ, ◌≤◌}
use mathlib.Core.Path.{◌≡◌, refl}
use mathlib.Core.Bool.{Bool, true}
use mathlib.Core.List.{List}
use borrow.Author.Tests.{leb-true}
use Rattle.logic.proofs.Tests.{and_left, and_right}
use Rattle.model.specs.Refusal.{Check, pass, fail}
use Rattle.model.proofs.Refusals.{first_left, first_right, unless_true}
use Rattle.model.specs.Network.{Network, Signal, is_signal}
use Rattle.model.specs.Module.{Module, Laid}
use Rattle.model.specs.Machine.{Memory}
use Rattle.model.specs.Session.{Engine, lockstep, watched, Call, set, watch, read, run, Outcome, call_check, running, perform, meet}
use Rattle.model.proofs.Machine.{Small}
use Rattle.buffers_memory.specs.Memory.{memory_of}
use Rattle.buffers_tables.specs.Panel.{signals_in, finished_in, hand_in, processor_in, slot_in}
use Rattle.buffers_tables.specs.Tables.{network_in, module_in}
use Rattle.buffers_range.specs.Ranges.{ranged}
use Rattle.model.proofs.Accepted.{lines_laid}
use Rattle.buffers_range.proofs.Ranged.{panel_in_range, program_in_range}
use Rattle.session_state.specs.Header.{head_in}
use Rattle.buffers_lengths.specs.Lengths.{fixed}
use Rattle.session_calls.specs.Reply.{Buffers}
use Rattle.session_calls.proofs.Replies.{check_in, outcome_in}
use Rattle.laws_kept.specs.InRange.{InRange}
use Rattle.laws_kept.proofs.Panels.{head_in_range, with_value_in_range}
use Rattle.laws_kept.proofs.Memories.{small_in, run_small}

-- an outcome in range
pub record KeptInRange (panel program : List ℕ) (o : Outcome Memory) : Type 0 where
  pub head : InRange panel o.head
  pub state : Small (module_in panel program) o.state

-- 41
known_signal : (panel program : List ℕ) (s : ℕ) → is_signal (network_in panel program) s ≡ true → (1 ≤ s) × (s ≤ signals_in panel)
unfolding is_signal network_in
known_signal panel program s e = (leb-true 1 s (and_left _ _ e), leb-true s (signals_in panel) (and_right _ _ e))

module _ (b : Buffers) (r : ranged b.panel b.program b.memory ≡ true) where
  abbrev panel : List ℕ
  panel = b.panel

  abbrev n : Network
  n = network_in b.panel b.program

  abbrev m : Module
  m = module_in b.panel b.program

  abbrev E : Engine
  E = lockstep n m (processor_in panel) (slot_in panel)

  here : InRange panel (head_in panel)
  here = head_in_range panel (panel_in_range b.panel b.program b.memory r)

  small : Small m (memory_of b.memory)
  small = small_in b.panel b.program b.memory r

  laid : Laid n m
  laid = lines_laid (program_in_range b.panel b.program b.memory r).lines

  codes : (s : ℕ) → Signal n s → hand_in panel s ≤ 3
  unfolding network_in
  codes s g = here.hands s g.low g.high

  perform_kept : (c : Call) → call_check n (finished_in panel) c ≡ pass
      → KeptInRange panel b.program (perform fixed n E (head_in panel) (memory_of b.memory) c)
  unfolding perform running call_check
  perform_kept (set s v) e =
      let t = known_signal panel b.program s (and_left _ _ (unless_true _ _ _ (first_left _ _ e))) in
      let l = leb-true v 3 (unless_true _ _ _ (first_right _ _ e)) in
      record { head = with_value_in_range panel (head_in panel) here s v t.1 l; state = small }
  perform_kept (watch s mask) e =
      let t = known_signal panel b.program s (unless_true _ _ _ (first_left _ _ e)) in
      let l = leb-true mask 15 (unless_true _ _ _ (first_right _ _ e)) in
      record {
        head = record { watched_low = t.0; watched_high = t.1; mask_high = l; hands = here.hands; rest = here.rest };
        state = small;
      }
  perform_kept (read s) e = record { head = here; state = small }
  perform_kept (run k) e =
      record {
        head =
            record {
              watched_low = here.watched_low;
              watched_high = here.watched_high;
              mask_high = here.mask_high;
              hands = here.hands;
              rest = here.rest;
            };
        state = run_small panel b.program laid (hand_in panel) codes stops k (memory_of b.memory) small;
      }
    where
      stops : Memory → Bool
      stops y = watched (head_in panel).watch.mask (E.value y (head_in panel).watch.signal)

  pub outcome_kept : (c : Call) → KeptInRange panel b.program (outcome_in b c)
  unfolding meet
  outcome_kept c = go (check_in b c) refl
    where
      go : (k : Check) → check_in b c ≡ k → KeptInRange panel b.program (meet fixed n E (head_in panel) (memory_of b.memory) c k)
      go pass e = perform_kept c e
      go (fail number returned) e = record { head = here; state = small }
