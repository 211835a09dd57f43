-- Every part that is handed over is the next piece of the files' listing (`Printing`).
use mathlib.Core.Path.{◌≡◌, ap}
use lib.ListN.{length}
use borrow.Author.Rules.{rules}
use Rattle.listing_cycle.specs.Changes.{piece_length}
use Rattle.listing_print.specs.declared.Printed.{Printed}
use Rattle.listing_print.proofs.Printing.{starts, standing, gives_next, goes_on}
use Rattle.listing_print.proofs.print_listing.Goals as goal

pub loop-init : goal.loop-init
loop-init g c =
    let room : length c.zeroed-piece.result ≡ piece_length = search rules in
    starts c.open-lister.ensures c.piece_count-count.ensures room (ap (λ (p : Printed). p.parts) c.requires.nothing_yet)

pub put-requires-clause-part_value : goal.put-requires-clause-part_value
put-requires-clause-part_value g c = gives_next c.loop.invariant c.loop-test.true c.step-next.ensures

pub step-next-requires : goal.step-next-requires
step-next-requires g c = standing c.loop.invariant c.loop-test.true

pub loop-preserved : goal.loop-preserved
loop-preserved g c = goes_on c.loop.invariant c.loop-test.true c.step-next.ensures c.in_ok-printed.ensures.counted
