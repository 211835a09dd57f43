-- The lockstep machine (01, One cycle of the machine), for every module, accepted or not.
use Rattle.std.specs.Prelude.{ℕ, zero, suc, Bool, not, List, [], ◌∷◌, eqb}
use Rattle.std.specs.Prelude.{if◌then◌else◌}
use Rattle.model.specs.Network.{Network, input}
use Rattle.model.specs.Value.{value_of}
use Rattle.model.specs.Module.{Module, local_earlier, local_present, switch_earlier, switch_present, received, sent_signal}

-- the local and the switch memory, by processor and location: the half that the cycle before stored, and the one that this cycle stores
pub record Memory : Type 0 where
  pub earlier_local : ℕ → ℕ → ℕ
  pub present_local : ℕ → ℕ → ℕ
  pub earlier_switch : ℕ → ℕ → ℕ
  pub present_switch : ℕ → ℕ → ℕ

-- what an operand that is none fetches: the papers leave it free
abbrev pub nothing : ℕ
nothing = 0

-- "A location named by a table line has a part and a number"
unfoldable pub fetch : Memory → ℕ → ℕ → ℕ → ℕ
fetch w p part k =
    if eqb part local_earlier then w.earlier_local p k else
    if eqb part local_present then w.present_local p k else
    if eqb part switch_earlier then w.earlier_switch p k else
    if eqb part switch_present then w.present_switch p k else
    nothing

-- operand j of slot i of processor p
unfoldable pub operand : Module → Memory → ℕ → ℕ → ℕ → ℕ
operand m w p i j = fetch w p (m.part p i j) (m.location p i j)

-- "Its gate's result, or its input's value for cycle t"; row has the inputs' values
unfoldable pub result : Network → Module → (ℕ → ℕ) → Memory → ℕ → ℕ → ℕ
result n m row w p i =
    if eqb (n.kind (m.signal p i)) input then row (m.signal p i) else
    n.gate (m.signal p i) (operand m w p i 0) (operand m w p i 1) (operand m w p i 2) (operand m w p i 3)

-- what processor q sends in slot i
unfoldable pub sent : Module → Memory → ℕ → ℕ → ℕ
sent m w q i = fetch w q (m.send_part q i) (m.send_location q i)

-- location k after slot i stored x there, if it stores anything; it held old
unfoldable pub stored : ℕ → ℕ → Bool → ℕ → ℕ → ℕ
stored k i stores x old = if eqb k i then (if stores then x else old) else old

-- "In slot i every processor fetches first, then stores. Its gate's result, or its input's value .., goes to local location i; the
-- received value goes to switch location i. An empty slot stores no local value, and a slot that receives none stores no switch value."
unfoldable pub slot : Network → Module → (ℕ → ℕ) → ℕ → Memory → Memory
slot n m row i w =
    record {
      earlier_local = w.earlier_local;
      present_local = λ p k. stored k i (not (eqb (m.signal p i) 0)) (result n m row w p i) (w.present_local p k);
      earlier_switch = w.earlier_switch;
      present_switch = λ p k. stored k i (received m p i) (sent m w (m.sender p i) i) (w.present_switch p k);
    }

-- the slots below c
unfoldable pub slots : Network → Module → (ℕ → ℕ) → ℕ → Memory → Memory
slots n m row zero w = w
slots n m row (suc i) w = slot n m row i (slots n m row i w)

-- "Halves alternate each cycle."
unfoldable pub alternate : Memory → Memory
alternate w =
    record {
      earlier_local = w.present_local;
      present_local = w.earlier_local;
      earlier_switch = w.present_switch;
      present_switch = w.earlier_switch;
    }

-- "A cycle is a full pass" over the slots; then what it stored is the earlier half
unfoldable pub cycle : Network → Module → (ℕ → ℕ) → Memory → Memory
cycle n m row w = alternate (slots n m row m.slots w)

-- "Before cycle 1 the earlier local half holds time 0, and each switch location, in both halves, holds the time 0 value of the signal
-- sent into it. Every other location, the present local half included, holds 0."
unfoldable pub opening : Module → (ℕ → ℕ) → Memory
opening m zeroth =
    record {
      earlier_local = λ p k. value_of zeroth (m.signal p k);
      present_local = λ p k. 0;
      earlier_switch = λ p k. if received m p k then value_of zeroth (sent_signal m p k) else 0;
      present_switch = λ p k. if received m p k then value_of zeroth (sent_signal m p k) else 0;
    }

-- the memory after the cycles whose inputs' values are given, the last first
unfoldable pub after : Network → Module → Memory → List (ℕ → ℕ) → Memory
after n m w [] = w
after n m w (row ∷ rows) = cycle n m row (after n m w rows)
