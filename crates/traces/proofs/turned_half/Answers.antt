-- The fold doubles the number and adds a bit, from the last cycle to the first (`bits_folded`).
use Rattle.std.proofs.Common.{rules, ◌∙◌}
use Rattle.std.proofs.lemmas.Iterator.Adapters.{YieldsList-from_rev_slice}
use Rattle.std.proofs.lemmas.Iterator.Consumers.{fold_from_yields_List}
use Rattle.traces.proofs.Turning.{bit_more, bits_folded}
use Rattle.traces.proofs.turned_half.Goals as goal

pub returns : goal.returns
returns c =
    fold_from_yields_List _ (bit_more c.args.half) 0 c.fold.result c.fold.ensures.ran (YieldsList-from_rev_slice c.args.values.now cc) (λ a x b q k. search rules)
    ∙ bits_folded c.args.half c.args.values.now c.requires.0
