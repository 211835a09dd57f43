-- The array of lines is `place_of`, and so the panel filled by it is the panel.
use borrow.Author.Rules.{rules}
use Rattle.netlist.proofs.InPlace.{checked}
use Rattle.buffers_tables.specs.Panel.{signal_of, column_of}
use Rattle.buffers_load_files.specs.Loaded.{panel_byte}
use Rattle.buffers_load_files.specs.Checked.{value_in}
use Rattle.buffers_load_panel.proofs.Places.{placed_lines}
use Rattle.buffers_load_panel.proofs.Panel.{panel_placed}
use Rattle.buffers_load_panel.proofs.load_panel.Goals as goal

pub invariant_of-opening-clause-lines : goal.invariant_of-opening-clause-lines
invariant_of-opening-clause-lines c = placed_lines c.args.table.now.laid.sized _ c.places_of-places.ensures

pub returns : goal.returns
returns c =
    let sized = c.args.table.now.laid.sized in
    panel_placed c.args.net.now.net.now c.args.table.now.modfile.now (checked _ c.args.net.now.accepted) _ _ _ _ sized.processors sized.slots c.places_of-places.ensures _
    (rw c.told-panel at (c.fill_by.ensures (λ a. panel_byte c.args.net.now.net.now c.args.table.now.shape.processors c.args.table.now.shape.slots (value_in c.places_of-places.result) (value_in c.args.values.now) (signal_of a) (column_of a)) (λ a x low q. search rules)))
