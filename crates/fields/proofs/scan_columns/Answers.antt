-- The fold scans column after column (`scanned`).
use Rattle.std.proofs.Common.{rules}
use Rattle.std.proofs.lemmas.Iterator.{YieldsList-from_slice}
use Rattle.fields.specs.declared.Scan.TheVariants.{Blank}
use Rattle.fields.proofs.Folding.{scanned}
use Rattle.fields.proofs.scan_columns.Goals as goal

pub returns : goal.returns
returns c = scanned Blank _ c.try_fold.ensures.ran (YieldsList-from_slice c.args.columns.now cc) (λ a x b q k. search rules)
