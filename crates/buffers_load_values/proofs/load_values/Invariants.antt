-- `load_values` meets its contract. The invariant: the values are those that the lines before the cursor give.
use Prim.Native.Nat.{◌-◌}
use mathlib.Core.Path.{◌≡◌}
use Rattle.model.specs.Stimulus.{stim_count}
use Rattle.buffers_load_values.proofs.Values.{GivenTo}
use Rattle.buffers_load_values.proofs.load_values.Given as goal

abbrev pub invariant-loop-line : goal.invariant-loop-line
invariant-loop-line l =
    record {
      same : l.cursor.stimulus ≡ l.stim;
      given : GivenTo l.net.net.now l.stim.bytes.now l.cursor.line l.values;
    }

abbrev pub decreases-loop-line : goal.decreases-loop-line
decreases-loop-line l = stim_count l.stim.bytes.now - l.cursor.line
