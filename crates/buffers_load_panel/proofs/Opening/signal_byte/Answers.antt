-- `signal_byte`: kind and codes are in the ranges that 11 leaves, and the lines are those of at most 16 processors.
use Prim.Native.Nat.{◌<◌, ◌≤◌}
use native.Mathlib.Omega.{arith}
use native.Mathlib.Nat.{div-lt_iff_lt-mul}
use lib.ListN.{get_or}
use Rattle.model.specs.Netlist.{net_size}
use Rattle.buffers_tables.specs.Panel.{codes_column, hand_column}
use Rattle.netlist.proofs.InPlace.{checked, size_range}
use Rattle.buffers_load_panel.proofs.Panel.{kind_small, code_small}
use Rattle.buffers_load_panel.proofs.Opening.signal_byte.Goals as goal

pub bounds-self-signal : goal.bounds-self-signal
bounds-self-signal c = omega (arith, c.requires.is_signal, c.args.self.now.signals_value, size_range _ c.args.self.now.net.now.accepted)

pub overflow_cast-result : goal.overflow_cast-result
overflow_cast-result c =
    let high : c.args.signal ≤ net_size c.args.self.now.net.now.net.now = omega (arith, c.requires.is_signal, c.args.self.now.signals_value) in
    omega (arith, c.field.ensures, kind_small _ (checked _ c.args.self.now.net.now.accepted) c.requires.is_signal.0 high)

pub bounds-self-signal-in-7 : goal.bounds-self-signal-in-7
bounds-self-signal-in-7 c = omega (arith, c.requires.is_signal, c.args.self.now.signals_value, size_range _ c.args.self.now.net.now.accepted)

pub overflow_cast-result-in-8 : goal.overflow_cast-result-in-8
overflow_cast-result-in-8 c =
    let self = c.args.self.now in
    let most : c.args.signal ≤ 4096 = omega (arith, c.requires.is_signal, self.signals_value, size_range _ self.net.now.accepted) in
    let some : 0 < self.table.now.shape.slots = omega (arith, self.table.now.laid.sized.slots_low) in
    let few = (div-lt_iff_lt-mul {k = self.table.now.shape.slots} {x = get_or self.places.now c.args.signal 0} {y = 16} some).1 (self.lines.few c.args.signal most) in
    omega (arith, c.place_of-place.ensures.0, few)

pub overflow_cast-result-in_default : goal.overflow_cast-result-in_default
overflow_cast-result-in_default c =
    let high : c.args.signal ≤ net_size c.args.self.now.net.now.net.now = omega (arith, c.requires.is_signal, c.args.self.now.signals_value) in
    let codes : codes_column ≤ c.args.column = omega arith in
    let hand : c.args.column < hand_column = omega arith in
    omega (arith, c.field-in_default.ensures, code_small _ (checked _ c.args.self.now.net.now.accepted) c.requires.is_signal.0 high c.args.column codes hand)
