-- A line's signal is at most 4096 (`signal_most`), so it indexes the array.
use mathlib.Core.Path.{sym, ◌∙◌}
use native.Mathlib.Omega.{arith}
use Rattle.logic.proofs.Numbered.{numbered_some, numbered_none}
use Rattle.file_mod_table.proofs.Slots.{line_within, signal_most}
use Rattle.buffers_load_memory.proofs.Memory.{value_some, value_none}
use Rattle.buffers_load_memory.proofs.Opening.local_value.Goals as goal

pub bounds-self-from : goal.bounds-self-from
bounds-self-from c =
    let is = numbered_some _ _ (sym c.signal_at.ensures ∙ c.in-Some.is) in
    omega (arith, c.from.ensures, is.same, signal_most _ _ _ _ (line_within c.args.self.now.table.now.laid c.requires))

pub returns-in-Some : goal.returns-in-Some
returns-in-Some c = rw c.from.ensures (value_some _ (numbered_some _ _ (sym c.signal_at.ensures ∙ c.in-Some.is)))

pub returns-in-None : goal.returns-in-None
returns-in-None c = value_none _ (numbered_none _ (sym c.signal_at.ensures ∙ c.in-None.is))
