-- How a slot fetches and stores: these mirror private functions, and the model's `slot` is what a caller reads.
use Rattle.std.specs.Prelude.{ℕ, ◌<◌, ◌≡◌, Bool, not, List, Option, Some, None, eqb, ltb, get_or, set}
use Rattle.logic.specs.Test.{◌and◌}
use Rattle.std.specs.Prelude.{if◌then◌else◌}
use Rattle.gates.specs.Gate.{gate}
use Rattle.model.specs.Network.{Network, input}
use Rattle.model.specs.Module.{Module, received}
use Rattle.model.specs.Machine.{Memory, fetch, result, stored}
use Rattle.instruction.specs.Operand.{part_of, location_of}
use Rattle.instruction.specs.declared.Instruction.{Instruction}
use Rattle.buffers_tables.specs.Panel.{kind_in, codes_in, hand_in}

-- what processor p fetches for slot i: its gate's result or its input's value, and 0 for an empty slot
unfoldable pub evaluated : Network → Module → (ℕ → ℕ) → Memory → ℕ → ℕ → ℕ
evaluated n m row w p i = if eqb (m.signal p i) 0 then 0 else result n m row w p i

-- the same, from the decoded instruction: its gate's result
unfoldable pub gate_on : List ℕ → Memory → ℕ → Instruction → ℕ
gate_on panel w p line =
    gate (codes_in panel line.signal)
    (fetch w p (part_of line.a1) (location_of line.a1))
    (fetch w p (part_of line.a2) (location_of line.a2))
    (fetch w p (part_of line.a3) (location_of line.a3))
    (fetch w p (part_of line.a4) (location_of line.a4))

unfoldable pub evaluated_on : List ℕ → Memory → ℕ → Instruction → ℕ
evaluated_on panel w p line =
    if eqb line.signal 0 then 0 else
    if eqb (kind_in panel line.signal) input then hand_in panel line.signal else
    gate_on panel w p line

-- the first elements of a list are f 0, f 1 and so on
abbrev pub FirstAre : ℕ → (ℕ → ℕ) → List ℕ → Type 0
FirstAre count f l = (k : ℕ) → k < count → get_or l k 0 ≡ f k

-- the memory after slot i stored from the results and the sent values of all processors
unfoldable pub storing : Module → ℕ → List ℕ → List ℕ → Memory → Memory
storing m i results sent w =
    record {
      earlier_local = w.earlier_local;
      present_local = λ p k. stored k i (not (eqb (m.signal p i) 0)) (get_or results p 0) (w.present_local p k);
      earlier_switch = w.earlier_switch;
      present_switch = λ p k. stored k i (received m p i) (get_or sent (m.sender p i) 0) (w.present_switch p k);
    }

-- a byte stored or not
abbrev pub stored_if : Bool → List ℕ → ℕ → ℕ → List ℕ
stored_if stores l at v = if stores then set l at v else l

-- the value received, stored or not
abbrev pub received_stored : Option ℕ → List ℕ → List ℕ → ℕ → List ℕ
received_stored None sents l at = l
received_stored (Some sender) sents l at = set l at (get_or sents sender 0)

-- location i of the processors below p
unfoldable pub passed : ℕ → ℕ → ℕ → ℕ → Bool
passed p i q x = ltb q p and eqb x i
