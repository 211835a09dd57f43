-- The session of 01 over any engine, and the plain session, whose engine keeps the rows of the inputs' values.
use Rattle.std.specs.Prelude.{ℕ, zero, suc, ◌+◌, ◌/◌, ◌%◌, ◌^◌, Bool, true, false, List, [], ◌∷◌, ◌++◌, eqb, leb, replicate}
use Rattle.logic.specs.Test.{◌and◌}
use Rattle.std.specs.Prelude.{if◌then◌else◌}
use Rattle.model.specs.Refusal.{Check, pass, fail, first, unless}
use Rattle.model.specs.Network.{Network, input, is_signal}
use Rattle.model.specs.Module.{Module}
use Rattle.model.specs.Machine.{Memory, cycle}

-- What keeps the signals' values: it makes a cycle from the inputs' values, and tells the value of a signal.
pub record Engine : Type 1 where
  pub State : Type 0
  pub tick : (ℕ → ℕ) → State → State
  pub value : State → ℕ → ℕ

-- The plain session's: it keeps "a row of input values for each cycle from 1 to t", the last first. "VAL up to t follows from the
-- network, the time 0 values and the rows": table tells it by the rows.
abbrev pub plain : (List (ℕ → ℕ) → ℕ → ℕ) → Engine
plain table = record { State = List (ℕ → ℕ); tick = λ row rows. row ∷ rows; value = table }

-- the lockstep machine: it reads a signal at its place, which processor and slot give
abbrev pub lockstep : Network → Module → (ℕ → ℕ) → (ℕ → ℕ) → Engine
lockstep n m processor slot =
    record { State = Memory; tick = cycle n m; value = λ w s. w.earlier_local (processor s) (slot s) }

-- "the one watch (signal, mask 0 to 15, bit v of weight 2^v for value v ..)"
pub record Watch : Type 0 where
  pub signal : ℕ
  pub mask : ℕ

unfoldable pub watched : ℕ → ℕ → Bool
watched mask v = eqb (mask / (2 ^ v) % 2) 1

-- "It keeps the cycles finished t, a value in hand for each input, the watch", beside what its engine keeps
pub record Head : Type 0 where
  pub finished : ℕ
  pub hand : ℕ → ℕ
  pub watch : Watch

-- "Fresh: t is 0, no rows, each input's time 0 value in hand, watch signal 1, mask 0."
unfoldable pub fresh : (ℕ → ℕ) → Head
fresh given = record { finished = 0; hand = given; watch = record { signal = 1; mask = 0 } }

pub data Call : Type 0 where
  set watch : ℕ → ℕ → Call
  read run : ℕ → Call

-- the lengths of the working buffers, in the order in which they are lent
abbrev pub Lengths : Type 0
Lengths = List ℕ

-- the same lengths, each at its place
unfoldable pub same_lengths : Lengths → Lengths → Bool
same_lengths [] [] = true
same_lengths [] (b ∷ others) = false
same_lengths (a ∷ lengths) [] = false
same_lengths (a ∷ lengths) (b ∷ others) = eqb a b and same_lengths lengths others

-- a call with the lengths of the buffers lent to it
pub record Lent : Type 0 where
  pub lengths : Lengths
  pub call : Call

pub data Answer : Type 0 where
  refused : ℕ → ℕ → Answer
  done : Answer
  value : ℕ → Answer
  ran : ℕ → Bool → Answer

-- what a run does: "how many times it did so, and whether it was stopped"
pub record Run (S : Type 0) : Type 0 where
  pub count : ℕ
  pub stopped : Bool
  pub state : S

-- one cycle done, and the rest of the run where it does not end there
unfoldable pub unless_stopped : {S : Type 0} → Bool → S → Run S → Run S
unless_stopped true s rest = record { count = 1; stopped = true; state = s }
unless_stopped false s rest = record { count = suc rest.count; stopped = rest.stopped; state = rest.state }

-- "Run k does this up to k times ..; if the mask then has the bit of the watched signal's VAL at t, the run ends there, stopped."
unfoldable pub runs : {S : Type 0} → (S → S) → (S → Bool) → ℕ → S → Run S
runs tick stops zero s = record { count = 0; stopped = false; state = s }
runs tick stops (suc k) s = unless_stopped (stops (tick s)) (tick s) (runs tick stops k (tick s))

-- k cycles
unfoldable pub ticks : {S : Type 0} → (S → S) → ℕ → S → S
ticks tick zero s = s
ticks tick (suc k) s = ticks tick k (tick s)

-- a value in hand replaced
unfoldable pub replaced : (ℕ → ℕ) → ℕ → ℕ → ℕ → ℕ
replaced hand s v x = if eqb x s then v else hand x

-- a call's answer, and the session that it leaves
pub record Outcome (S : Type 0) : Type 0 where
  pub answer : Answer
  pub head : Head
  pub state : S

-- a call's answer, and the buffers as it leaves them
pub record Reply (Buffers : Type 0) : Type 0 where
  pub answer : Answer
  pub buffers : Buffers

-- 41, 42, 43 (01, Refusals)
unfoldable pub call_check : Network → ℕ → Call → Check
call_check n finished (set s v) = first (unless (is_signal n s and eqb (n.kind s) input) 41 s) (unless (leb v 3) 42 v)
call_check n finished (watch s mask) = first (unless (is_signal n s) 41 s) (unless (leb mask 15) 42 mask)
call_check n finished (read s) = unless (is_signal n s) 41 s
call_check n finished (run k) = unless (leb (finished + k) 65535) 43 finished

-- 40 before them, where a length lent differs from the fixed one
unfoldable pub lent_check : Lengths → Network → ℕ → Lent → Check
lent_check fixed n finished c = first (unless (same_lengths c.lengths fixed) 40 0) (call_check n finished c.call)

module _ (fixed : Lengths) (n : Network) (E : Engine) where
  unfoldable pub running : Head → ℕ → E.State → Run E.State
  running h k x = runs (E.tick h.hand) (λ y. watched h.watch.mask (E.value y h.watch.signal)) k x

  -- a call that is not refused
  unfoldable pub perform : Head → E.State → Call → Outcome E.State
  perform h x (set s v) =
      record { answer = done; head = record { finished = h.finished; hand = replaced h.hand s v; watch = h.watch }; state = x }
  perform h x (watch s mask) =
      record { answer = done; head = record { finished = h.finished; hand = h.hand; watch = record { signal = s; mask = mask } }; state = x }
  perform h x (read s) = record { answer = value (E.value x s); head = h; state = x }
  perform h x (run k) =
      let r = running h k x in
      record {
        answer = ran r.count r.stopped;
        head = record { finished = h.finished + r.count; hand = h.hand; watch = h.watch };
        state = r.state;
      }

  -- "Refused, it answers number and returned value, and all stays."
  unfoldable pub meet : Head → E.State → Call → Check → Outcome E.State
  meet h x c pass = perform h x c
  meet h x c (fail number returned) = record { answer = refused number returned; head = h; state = x }

  unfoldable pub outcome : Head → E.State → Lent → Outcome E.State
  outcome h x c = meet h x c.call (lent_check fixed n h.finished c)

-- the cycles that a call did
unfoldable pub cycles_done : Answer → ℕ
cycles_done (refused number returned) = 0
cycles_done done = 0
cycles_done (value v) = 0
cycles_done (ran count stopped) = count

-- the value that a call gives to s in hand, where it held old: an accepted setting of s replaces it, and "A setting that is refused
-- sets nothing."
unfoldable pub set_by : Call → Check → ℕ → ℕ → ℕ
set_by (set x v) pass s old = if eqb s x then v else old
set_by (set x v) (fail number returned) s old = old
set_by (watch x mask) check s old = old
set_by (read x) check s old = old
set_by (run k) check s old = old

-- A list of calls, the last first, from a fresh session on
module _ (fixed : Lengths) (n : Network) (given : ℕ → ℕ) (table : List (ℕ → ℕ) → ℕ → ℕ) where
  -- the plain session after it
  unfoldable pub plain_after : List Lent → Outcome (List (ℕ → ℕ))
  plain_after [] = record { answer = done; head = fresh given; state = [] }
  plain_after (c ∷ before) = let s = plain_after before in outcome fixed n (plain table) s.head s.state c

  -- each input "as last set" by it, "or as at cycle 0 if not set by then"
  unfoldable pub last_set : List Lent → ℕ → ℕ
  last_set [] s = given s
  last_set (c ∷ before) s = set_by c.call (lent_check fixed n (plain_after before).head.finished c) s (last_set before s)

  -- "each input taken in every cycle as last set before it": a row for each cycle that its calls did, the last first
  unfoldable pub rows_set : List Lent → List (ℕ → ℕ)
  rows_set [] = []
  rows_set (c ∷ before) = replicate (cycles_done (plain_after (c ∷ before)).answer) (last_set before) ++ rows_set before
