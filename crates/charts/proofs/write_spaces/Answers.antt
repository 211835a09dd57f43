-- The part of the page is filled with spaces.
use Rattle.charts.proofs.Writing.{spaces_put}
use Rattle.charts.proofs.write_spaces.Goals as goal

pub returns : goal.returns
returns c = spaces_put _ _ _ _ c.requires (c.fill.ensures.after (λ y same. same))
