-- P × C + 1 lines of 85 bytes are all that MOD may have.
use Rattle.std.proofs.Common.{refl, ◌∙◌}
use Rattle.model.specs.ModuleFile.{mod_surplus}
use Rattle.file_lines.proofs.Lines.{surplus_some, surplus_none}
use Rattle.file_mod_lines.proofs.Lines.{line_total}
use Rattle.file_mod_lines.proofs.check_surplus.Goals as goal

pub returns-then-from-modfile : goal.returns-then-from-modfile
unfolding mod_surplus
returns-then-from-modfile c =
    surplus_some c.args.modfile.now 85 _ 20 _ (c.lines-lines.ensures.0 ∙ line_total _ _ _ c.requires) (rw c.from.ensures at c.if-from-modfile.true) refl

pub returns : goal.returns
unfolding mod_surplus
returns c =
    surplus_none c.args.modfile.now 85 _ 20 _ (c.lines-lines.ensures.0 ∙ line_total _ _ _ c.requires) (rw c.from.ensures at c.if-from-modfile.false) refl
