-- Every part that is handed over is the next piece of the files' listing (`Printing`).
use Prim.Native.Nat.{◌-◌}
use Rattle.file_bytes.specs.Bytes.{bytes_of}
use Rattle.listing_print.proofs.Printing.{Underway}
use Rattle.listing_print.proofs.print_listing.Given as goal

abbrev pub invariant-loop : goal.invariant-loop
invariant-loop g l = Underway (bytes_of l.files) l.count l.lister l.panel l.program l.memory l.shown l.piece l.printed.parts l.counter

abbrev pub decreases-loop : goal.decreases-loop
decreases-loop g l = l.count - l.counter
