-- `byte`: the session at 0, then the signals, then 0.
use mathlib.Core.Path.{◌∙◌, sym, ap}
use Prim.Native.Nat.{ℕ}
use native.Mathlib.Omega.{arith}
use lib.ListN.{get_or}
use Rattle.netlist.proofs.InPlace.{size_range}
use Rattle.buffers_tables.specs.Panel.{head_bytes, signal_of, column_of}
use Rattle.buffers_load_files.specs.Checked.{value_in}
use Rattle.buffers_load_panel.proofs.Panel.{panel_head, panel_above, panel_signal}
use Rattle.buffers_load_panel.proofs.Opening.byte.Goals as goal

pub head_byte-requires : goal.head_byte-requires
head_byte-requires c =
    let sized = c.args.self.now.table.now.laid.sized in
    (omega (arith, c.args.self.now.signals_value, size_range _ c.args.self.now.net.now.accepted), sized.processors_high, sized.slots_high, omega arith)

pub returns-then-signal-eq0 : goal.returns-then-signal-eq0
returns-then-signal-eq0 c =
    let self = c.args.self.now in
    c.head_byte.ensures
    ∙ ap (λ (n : ℕ). get_or (head_bytes n self.table.now.shape.processors self.table.now.shape.slots 0 1 0) (column_of c.args.a) 0) self.signals_value
    ∙ sym (panel_head self.net.now.net.now self.table.now.shape.processors self.table.now.shape.slots (value_in self.places.now) (value_in self.values.now) (column_of c.args.a) (signal_of c.args.a) c.if-signal-eq0.true)

pub returns-then-from-signal : goal.returns-then-from-signal
returns-then-from-signal c =
    let self = c.args.self.now in
    sym (panel_above self.net.now.net.now self.table.now.shape.processors self.table.now.shape.slots (value_in self.places.now) (value_in self.values.now) (column_of c.args.a) (signal_of c.args.a) (omega (arith, c.from.ensures, self.signals_value)))

pub returns : goal.returns
returns c =
    let self = c.args.self.now in
    c.signal_byte.ensures
    ∙ sym (panel_signal self.net.now.net.now self.table.now.shape.processors self.table.now.shape.slots (value_in self.places.now) (value_in self.values.now) (column_of c.args.a) (signal_of c.args.a) c.if-signal-eq0.false (omega (arith, c.from.ensures, self.signals_value)))
