-- The entry read is that of g and v, and a translation of a value is a value.
use mathlib.Core.Path.{sym, subst}
use Rattle.gates.specs.Value.{Code}
use Rattle.gates.proofs.Legal.{translation_code}
use Rattle.gates.proofs.TruthTables.translate.Goals as goal

pub returns : goal.returns
returns c =
    let is = c.args.self.now.right.translations_right.rules _ _ c.requires.g_bound.0 c.requires.g_bound.1 in
    rw (c.from.ensures, c.from-2.ensures) (is, subst Code (sym is) (translation_code _ c.requires.g_bound.1))
