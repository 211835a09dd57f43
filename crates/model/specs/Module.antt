-- A module: which signal each processor has in each slot, what each operand reads, and the switch (01, One cycle of the machine).
use Rattle.std.specs.Prelude.{ℕ, ◌+◌, ◌≤◌, ◌<◌, ◌≡◌, Bool, not, ◌⊎◌, eqb, ltb}
use Rattle.logic.specs.Test.{◌and◌, ◌or◌, one, total}
use Rattle.std.specs.Prelude.{if◌then◌else◌}
use Rattle.model.specs.Network.{Network, input, unit_delay, rank_order}

-- "A location named by a table line has a part and a number: 0 local, earlier half; 1 local, present half; 2 switch, earlier
-- half; 3 switch, present half", and 9 none
abbrev pub local_earlier : ℕ
local_earlier = 0

abbrev pub local_present : ℕ
local_present = 1

abbrev pub switch_earlier : ℕ
switch_earlier = 2

abbrev pub switch_present : ℕ
switch_present = 3

abbrev pub no_part : ℕ
no_part = 9

-- "the processor received from (99: none)"
abbrev pub no_sender : ℕ
no_sender = 99

-- processors: P. slots: C. At processor p and slot i: signal (0: empty slot); part and location of operand j (0 to 3); the send
-- pair; sender, the processor received from.
pub record Module : Type 0 where
  pub processors : ℕ
  pub slots : ℕ
  pub signal : ℕ → ℕ → ℕ
  pub part : ℕ → ℕ → ℕ → ℕ
  pub location : ℕ → ℕ → ℕ → ℕ
  pub send_part : ℕ → ℕ → ℕ
  pub send_location : ℕ → ℕ → ℕ
  pub sender : ℕ → ℕ → ℕ

-- p and i are a processor and a slot of the module
pub record At (m : Module) (p i : ℕ) : Type 0 where
  pub processor : p < m.processors
  pub slot : i < m.slots

-- The lines of the module are in their ranges: what refusal 21 leaves (01, Files: "An operand has part 0 to 3 or 9, a send 0, 1 or 9.
-- Locations are below C, processors below P.")
pub record Laid (n : Network) (m : Module) : Type 0 where
  pub signals : (p i : ℕ) → At m p i → m.signal p i ≤ n.size
  pub parts : (p i j : ℕ) → At m p i → j < 4 → (m.part p i j ≤ 3) ⊎ (m.part p i j ≡ no_part)
  pub locations : (p i j : ℕ) → At m p i → j < 4 → m.location p i j < m.slots
  pub send_parts : (p i : ℕ) → At m p i → (m.send_part p i ≤ local_present) ⊎ (m.send_part p i ≡ no_part)
  pub send_locations : (p i : ℕ) → At m p i → m.send_location p i < m.slots
  pub senders : (p i : ℕ) → At m p i → (m.sender p i < m.processors) ⊎ (m.sender p i ≡ no_sender)

-- the send into switch location k of processor p: its part, and the signal sent
abbrev pub sent_part : Module → ℕ → ℕ → ℕ
sent_part m p k = m.send_part (m.sender p k) k

abbrev pub sent_signal : Module → ℕ → ℕ → ℕ
sent_signal m p k = m.signal (m.sender p k) (m.send_location (m.sender p k) k)

abbrev pub received : Module → ℕ → ℕ → Bool
received m p k = not (eqb (m.sender p k) no_sender)

-- how often s is placed (22: "not placed exactly once")
unfoldable pub placements : Module → ℕ → ℕ
placements m s = total m.processors (λ p. total m.slots (λ i. one (eqb (m.signal p i) s)))

-- 24: no send of "an empty slot's location, or part 1 with location not below its own slot"
unfoldable pub send_right : Module → ℕ → ℕ → Bool
send_right m p i =
    eqb (m.send_part p i) no_part
    or (not (eqb (m.signal p (m.send_location p i)) 0)
    and (not (eqb (m.send_part p i) local_present) or ltb (m.send_location p i) i))

-- 25: not "receives from a processor that sends none in that slot"
unfoldable pub reception_right : Module → ℕ → ℕ → Bool
reception_right m p i = not (received m p i) or not (eqb (sent_part m p i) no_part)

-- An operand of part x, location k, in slot i of processor p, reads the source s of a gate of the given kind:
-- "Local 0: the signal placed at k is the source, gate unit-delay. Local 1: k < i, the signal at k is the source, gate rank-order.
-- Switch: look at the send into k. Part 2 wants a send of part 1, gate unit-delay. Part 3 wants k < i, and a send of part 0 for a
-- unit-delay gate or part 1 for a rank-order gate. The sent signal must be the source."
unfoldable pub reads : Module → ℕ → ℕ → ℕ → ℕ → ℕ → ℕ → Bool
reads m p i x k kind s =
    if eqb x local_earlier then eqb kind unit_delay and eqb (m.signal p k) s else
    if eqb x local_present then eqb kind rank_order and ltb k i and eqb (m.signal p k) s else
    if eqb x switch_earlier then
    eqb kind unit_delay and received m p k and eqb (sent_part m p k) local_present and eqb (sent_signal m p k) s
    else
    (eqb x switch_present and ltb k i and received m p k
    and eqb (sent_part m p k) (if eqb kind unit_delay then local_earlier else local_present)
    and eqb (sent_signal m p k) s)

-- "An operand whose source is 0, and all operands of inputs and empty slots, must be none."
unfoldable pub must_be_none : Network → Module → ℕ → ℕ → ℕ → Bool
must_be_none n m p i j =
    eqb (m.signal p i) 0 or eqb (n.kind (m.signal p i)) input or eqb (n.source (m.signal p i) j) 0

-- 23: operand j of slot i of processor p is right
unfoldable pub operand_right : Network → Module → ℕ → ℕ → ℕ → Bool
operand_right n m p i j =
    if must_be_none n m p i j then eqb (m.part p i j) no_part else
    reads m p i (m.part p i j) (m.location p i j) (n.kind (m.signal p i)) (n.source (m.signal p i) j)

-- something is sent into switch location k of processor p, late cycles old when it is sent
pub data Sent (m : Module) (p k : ℕ) : ℕ → Type 0 where
  present : (m.sender p k ≡ no_sender → ⊥) → sent_part m p k ≡ local_present → Sent m p k 0
  earlier : (m.sender p k ≡ no_sender → ⊥) → sent_part m p k ≡ local_earlier → Sent m p k 1

-- What a location carries when slot i of processor p reads it, and how many cycles old that is, for the four parts in common: the
-- earlier halves were stored in the cycle before; the present ones in this cycle below slot i, and two cycles before from slot i
-- on; and a send of part 0 adds one.
pub data Carries (m : Module) (p i : ℕ) : ℕ → ℕ → ℕ → ℕ → Type 0 where
  local_earlier_lem : {k : ℕ} → Carries m p i local_earlier k (m.signal p k) 1
  local_present_lem : {k : ℕ} → k < i → Carries m p i local_present k (m.signal p k) 0
  local_not_yet : {k : ℕ} → i ≤ k → Carries m p i local_present k (m.signal p k) 2
  switch_earlier_lem : {k late : ℕ} → Sent m p k late → Carries m p i switch_earlier k (sent_signal m p k) (1 + late)
  switch_present_lem : {k late : ℕ} → k < i → Sent m p k late → Carries m p i switch_present k (sent_signal m p k) late
  switch_not_yet : {k late : ℕ} → i ≤ k → Sent m p k late → Carries m p i switch_present k (sent_signal m p k) (2 + late)
