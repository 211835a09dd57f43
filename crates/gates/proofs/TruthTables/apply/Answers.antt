-- The entry read is that of f and the operands, and a function of values is a value.
use mathlib.Core.Path.{sym, subst}
use Rattle.gates.specs.Value.{Code}
use Rattle.gates.proofs.Legal.{function_code}
use Rattle.gates.proofs.TruthTables.apply.Goals as goal

pub returns : goal.returns
returns c =
    let is = c.args.self.now.right.functions_right.rules _ _ _ _ _ c.requires.f_bound.0 c.requires.f_bound.1 c.requires.f_bound.2 c.requires.f_bound.3 c.requires.f_bound.4 in
    rw (c.from.ensures, c.from-2.ensures, c.from-3.ensures, c.from-4.ensures, c.from-5.ensures)
    (is, subst Code (sym is) (function_code _ c.requires.f_bound.1 c.requires.f_bound.2 c.requires.f_bound.3 c.requires.f_bound.4))
