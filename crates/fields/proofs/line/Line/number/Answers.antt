-- A field of a right line is right (`line_field`), and lies within the file.
use Rattle.std.proofs.Common.{arith}
use Rattle.fields.proofs.RightLine.{line_field, line_within}
use Rattle.fields.proofs.line.Line.number.Goals as goal

pub overflow_mul-column : goal.overflow_mul-column
overflow_mul-column g c = omega (arith, line_within c.args.self.now.bytes.now c.args.self.now.at g.row.N c.args.self.now.right)

pub overflow_add-self : goal.overflow_add-self
overflow_add-self g c = omega (arith, line_within c.args.self.now.bytes.now c.args.self.now.at g.row.N c.args.self.now.right)

pub number_at-requires : goal.number_at-requires
number_at-requires g c = line_field _ _ _ c.args.self.now.right _ c.requires
