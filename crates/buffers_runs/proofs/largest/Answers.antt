-- The fold takes the larger of two bytes, from the first of the slice to the last (`largest_folded`).
use Rattle.std.proofs.Common.{rules, arith, ◌≡◌, ◌+◌, ◌-◌, ◌∙◌, max}
use Rattle.std.proofs.lemmas.Iterator.{YieldsList-from_slice}
use Rattle.std.proofs.lemmas.Iterator.Consumers.{fold_from_yields_List}
use Rattle.buffers_runs.proofs.Runs.{largest_folded}
use Rattle.buffers_runs.proofs.largest.Goals as goal

pub returns : goal.returns
returns c =
    let size : c.args.at + c.args.count - c.args.at ≡ c.args.count = omega arith in
    fold_from_yields_List _ max 0 c.fold.result c.fold.ensures.ran (YieldsList-from_slice _ c.iter.ensures.rest) (λ a x b q k. search rules)
    ∙ rw size (largest_folded c.args.bytes.now c.args.at c.args.count c.requires)
