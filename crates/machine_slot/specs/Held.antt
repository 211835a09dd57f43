-- What a machine holds: the network, the module and the values in hand of its panel and its program.
use Rattle.std.specs.Prelude.{ℕ}
use Rattle.model.specs.Network.{Network}
use Rattle.model.specs.Module.{Module}
use Rattle.buffers_tables.specs.Panel.{hand_in}
use Rattle.buffers_tables.specs.Tables.{network_in, module_in}
use Rattle.machine_slot.specs.declared.Machine.{Machine}

abbrev pub network_of : Machine → Network
network_of machine = network_in machine.panel.now machine.program.now

abbrev pub module_of : Machine → Module
module_of machine = module_in machine.panel.now machine.program.now

abbrev pub hands_of : Machine → ℕ → ℕ
hands_of machine = hand_in machine.panel.now
