-- `byte`: 0 outside the module, and inside it each part by itself. Each answer tells the byte by the tests passed.
use mathlib.Core.Path.{sym, ◌∙◌}
use native.Mathlib.Omega.{arith}
use Rattle.file_mod_table.proofs.Slots.{tested_within}
use Rattle.buffers_load_files.specs.Checked.{value_in}
use Rattle.buffers_load_files.proofs.Has.{has_place}
use Rattle.buffers_load_memory.proofs.Memory.{told_outside, told_local, told_sent, told_other}
use Rattle.buffers_load_memory.proofs.Opening.byte.Goals as goal

pub returns-then-not-has : goal.returns-then-not-has
returns-then-not-has c =
    told_outside _ (value_in c.args.self.now.values.now) c.requires (has_place c.args.self.now.table.now.laid.sized _ _ c.has.ensures ∙ c.if-not-has.true)

pub local_value-requires : goal.local_value-requires
local_value-requires c = tested_within _ _ _ (sym c.has.ensures ∙ c.if-not-has.false)

pub sent_value-requires : goal.sent_value-requires
sent_value-requires c = tested_within _ _ _ (sym c.has.ensures ∙ c.if-not-has.false)

pub returns-in-0 : goal.returns-in-0
returns-in-0 c =
    told_local _ (value_in c.args.self.now.values.now) c.requires (has_place c.args.self.now.table.now.laid.sized _ _ c.has.ensures ∙ c.if-not-has.false) (omega arith) _ c.local_value.ensures

pub returns-in-2 : goal.returns-in-2
returns-in-2 c =
    told_sent _ (value_in c.args.self.now.values.now) c.requires (has_place c.args.self.now.table.now.laid.sized _ _ c.has.ensures ∙ c.if-not-has.false) (omega arith) (omega arith) _ c.sent_value.ensures

pub returns-in_default : goal.returns-in_default
returns-in_default c =
    told_other _ (value_in c.args.self.now.values.now) c.requires (has_place c.args.self.now.table.now.laid.sized _ _ c.has.ensures ∙ c.if-not-has.false) (omega arith) (omega arith) (omega arith)

pub returns-in_default-2 : goal.returns-in_default-2
returns-in_default-2 c =
    told_other _ (value_in c.args.self.now.values.now) c.requires (has_place c.args.self.now.table.now.laid.sized _ _ c.has.ensures ∙ c.if-not-has.false) (omega arith) (omega arith) (omega arith)
