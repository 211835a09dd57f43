-- Each operand is judged by its pair (`all_in_range`).
use Prim.Native.Nat.{◌+◌, ◌*◌}
use borrow.Author.Rules.{rules}
use Rattle.logic.proofs.Ranges.{all_in_range}
use Rattle.model.specs.Module.{switch_present}
use Rattle.file_mod_lines.specs.Layout.{pair_at, operands_at}
use Rattle.file_mod_lines.proofs.are_operands_laid.Goals as goal

pub returns : goal.returns
unfolding operands_at
returns c =
    all_in_range (λ j. pair_at c.args.line.now.bytes.now c.args.line.now.at (3 + 2 * j) switch_present c.args.slots) 4 c.all.ensures.ran (λ x b q k. search rules)
