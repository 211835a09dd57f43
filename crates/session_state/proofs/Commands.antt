-- What the model says of a call, case by case, as the commands test it.
use Prim.Native.Nat.{ℕ, ◌≤◌, ◌<◌}
use mathlib.Core.Path.{◌≡◌, refl, sym, subst, ◌∙◌, ap}
use mathlib.Core.Bool.{Bool, true, false, not}
use mathlib.Core.List.{List}
use lib.Dec.{leb}
use borrow.Author.Tests.{eqb-true, leb-true, le-leb, lt-leb}
use Rattle.logic.proofs.Tests.{and_left, and_right}
use Rattle.logic.proofs.Judged.{fails, passes}
use Rattle.model.specs.Refusal.{Check, pass, fail, first, unless}
use Rattle.model.specs.Network.{is_signal, input}
use Rattle.model.specs.Machine.{Memory}
use Rattle.model.specs.Session.{lockstep, Head, Call, set, watch, read, refused, done, value, Outcome, call_check, perform, meet}
use Rattle.buffers_memory.specs.Memory.{memory_of}
use Rattle.buffers_tables.specs.Panel.{signals_in, kind_in, processor_in, slot_in}
use Rattle.buffers_tables.specs.Tables.{network_in, module_in}
use Rattle.machine_run.specs.Running.{watch_of}
use Rattle.session_answers.specs.Replies.{call_answer}
use Rattle.session_state.specs.declared.Told.{Told}
use Rattle.buffers_tables.specs.Stores.{with_hands}
use Rattle.buffers_lengths.specs.Lengths.{fixed}
use Rattle.session_state.specs.Commands.{signal_in, input_in, with_value, commanded, Tells}

-- the tests of the commands
module _ (panel : List ℕ) (s : ℕ) where
  pub signal_low : signal_in panel s ≡ true → 1 ≤ s
  unfolding signal_in
  signal_low e = leb-true 1 s (and_left _ _ e)

  pub signal_high : signal_in panel s ≡ true → s ≤ signals_in panel
  unfolding signal_in
  signal_high e = leb-true s (signals_in panel) (and_right _ _ e)

  pub input_signal : input_in panel s ≡ true → signal_in panel s ≡ true
  unfolding input_in
  input_signal e = and_left _ _ e

  pub input_kind : input_in panel s ≡ true → kind_in panel s ≡ input
  unfolding input_in
  input_kind e = eqb-true (kind_in panel s) input (and_right _ _ e)

-- if a command's outcome is known by an equation, what it tells is told by that
pub tells : {State : Type 0} (o p : Outcome State) (told : Told) (before after : List ℕ) → o ≡ p → call_answer told.answer ≡ p.answer
    → told.session.finished.0 ≡ p.head.finished → watch_of told.session.watch ≡ p.head.watch → after ≡ with_hands p.head.hand before
    → Tells o told before after
tells {State} o p told before after e a t w hand =
    subst (λ (x : Outcome State). Tells x told before after) (sym e) (record { answer = a; finished = t; watch = w; hand = hand })

module _ (panel program memory : List ℕ) (h : Head) (s : ℕ) where
  abbrev leaves : Call → Check → Outcome Memory
  leaves call check =
      let n = network_in panel program in
      meet fixed n (lockstep n (module_in panel program) (processor_in panel) (slot_in panel)) h (memory_of memory) call check

  -- the checks, by the panel's numbers
  set_check : (v : ℕ) → call_check (network_in panel program) h.finished (set s v) ≡ first (unless (input_in panel s) 41 s) (unless (leb v 3) 42 v)
  unfolding call_check is_signal network_in input_in signal_in
  set_check v = refl

  watch_check : (m : ℕ) → call_check (network_in panel program) h.finished (watch s m) ≡ first (unless (signal_in panel s) 41 s) (unless (leb m 15) 42 m)
  unfolding call_check is_signal network_in signal_in
  watch_check m = refl

  read_check : call_check (network_in panel program) h.finished (read s) ≡ unless (signal_in panel s) 41 s
  unfolding call_check is_signal network_in signal_in
  read_check = refl

  refusal : (call : Call) (number returned : ℕ) → call_check (network_in panel program) h.finished call ≡ fail number returned
      → commanded panel program memory h call ≡ record { answer = refused number returned; head = h; state = memory_of memory }
  unfolding meet
  refusal call number returned e = ap (leaves call) e

  performed : (call : Call) → call_check (network_in panel program) h.finished call ≡ pass
      → commanded panel program memory h call
      ≡ perform fixed (network_in panel program) (lockstep (network_in panel program) (module_in panel program) (processor_in panel) (slot_in panel)) h (memory_of memory) call
  unfolding meet
  performed call e = ap (leaves call) e

  -- a refused call, and what a command tells of it: the refusal, and the head as it was
  abbrev Refusal : Call → ℕ → ℕ → Type 0
  Refusal call number returned = commanded panel program memory h call ≡ record { answer = refused number returned; head = h; state = memory_of memory }

  abbrev TellsRefusal : Call → ℕ → ℕ → Type 0
  TellsRefusal call number returned =
      (told : Told) → call_answer told.answer ≡ refused number returned → told.session.finished.0 ≡ h.finished → watch_of told.session.watch ≡ h.watch
      → panel ≡ with_hands h.hand panel → Tells (commanded panel program memory h call) told panel panel

  -- a call that names a signal and gives a number: 41 where the signal is not known, then 42 where the number is above its limit
  module _ (call : Call) (known : Bool) (given limit : ℕ)
      (check : call_check (network_in panel program) h.finished call ≡ first (unless known 41 s) (unless (leb given limit) 42 given)) where
    unknown : known ≡ false → Refusal call 41 s
    unfolding first unless
    unknown e = refusal call 41 s (check ∙ rw e)

    above : known ≡ true → limit < given → Refusal call 42 given
    unfolding first unless
    above e l = refusal call 42 given (check ∙ rw (e, lt-leb given limit l))

    both_pass : known ≡ true → given ≤ limit → call_check (network_in panel program) h.finished call ≡ pass
    unfolding first unless
    both_pass e l = check ∙ rw (e, le-leb given limit l)

    -- by the code's test of the signal
    module _ (r : Bool) (tested : r ≡ known) where
      tells_41 : not r ≡ true → TellsRefusal call 41 s
      tells_41 stops told = tells _ _ told _ _ (unknown (fails r known tested stops))

      tells_42 : not r ≡ false → limit < given → TellsRefusal call 42 given
      tells_42 goes_on l told = tells _ _ told _ _ (above (passes r known tested goes_on) l)

  module _ (v : ℕ) where
    pub set_no_signal : input_in panel s ≡ false → Refusal (set s v) 41 s
    set_no_signal = unknown (set s v) (input_in panel s) v 3 (set_check v)

    pub set_no_value : input_in panel s ≡ true → 3 < v → Refusal (set s v) 42 v
    set_no_value = above (set s v) (input_in panel s) v 3 (set_check v)

    pub set_done : input_in panel s ≡ true → v ≤ 3
        → commanded panel program memory h (set s v) ≡ record { answer = done; head = with_value h s v; state = memory_of memory }
    unfolding perform
    set_done e l = performed (set s v) (both_pass (set s v) (input_in panel s) v 3 (set_check v) e l)

    pub set_41 : (r : Bool) → r ≡ input_in panel s → not r ≡ true → TellsRefusal (set s v) 41 s
    set_41 = tells_41 (set s v) (input_in panel s) v 3 (set_check v)

    pub set_42 : (r : Bool) → r ≡ input_in panel s → not r ≡ false → 3 < v → TellsRefusal (set s v) 42 v
    set_42 = tells_42 (set s v) (input_in panel s) v 3 (set_check v)

  module _ (m : ℕ) where
    pub watch_done : signal_in panel s ≡ true → m ≤ 15
        → commanded panel program memory h (watch s m)
        ≡ record { answer = done; head = record { finished = h.finished; hand = h.hand; watch = record { signal = s; mask = m } }; state = memory_of memory }
    unfolding perform
    watch_done e l = performed (watch s m) (both_pass (watch s m) (signal_in panel s) m 15 (watch_check m) e l)

    pub watch_41 : (r : Bool) → r ≡ signal_in panel s → not r ≡ true → TellsRefusal (watch s m) 41 s
    watch_41 = tells_41 (watch s m) (signal_in panel s) m 15 (watch_check m)

    pub watch_42 : (r : Bool) → r ≡ signal_in panel s → not r ≡ false → 15 < m → TellsRefusal (watch s m) 42 m
    watch_42 = tells_42 (watch s m) (signal_in panel s) m 15 (watch_check m)

  -- read
  pub read_no_signal : signal_in panel s ≡ false
      → commanded panel program memory h (read s) ≡ record { answer = refused 41 s; head = h; state = memory_of memory }
  unfolding unless
  read_no_signal e = refusal (read s) 41 s (read_check ∙ ap (λ (b : Bool). unless b 41 s) e)

  pub read_done : signal_in panel s ≡ true
      → commanded panel program memory h (read s)
      ≡ record { answer = value ((memory_of memory).earlier_local (processor_in panel s) (slot_in panel s)); head = h; state = memory_of memory }
  unfolding unless perform
  read_done e = performed (read s) (read_check ∙ ap (λ (b : Bool). unless b 41 s) e)
