-- Codes and operands are those that `gate_on` names, as `gate_in` and the four calls of `fetch` promise, and legal.
use Rattle.machine_slot.specs.Storing.{gate_on}
use Rattle.machine_slot.proofs.Machine.gate_on.Goals as goal

pub returns : goal.returns
unfolding gate_on
returns c =
    rw (
      ← c.from.ensures,
      ← c.gate_in-gate.ensures,
      ← c.fetch.ensures.0,
      ← c.fetch-2.ensures.0,
      ← c.fetch-3.ensures.0,
      ← c.fetch-4.ensures.0,
    ) c.value.ensures
