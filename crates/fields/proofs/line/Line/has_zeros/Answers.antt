-- Field column + k of the line is field k from its place on, and is right (`line_field`).
use Rattle.std.proofs.Common.{◌≡◌, ◌+◌, ◌*◌, eqb, arith, ap, ◌∙◌}
use Prim.Native.Nat.{ℕ}
use Rattle.logic.proofs.Tests.{all_same}
use Rattle.fields.specs.Field.{number_at}
use Rattle.fields.proofs.RightLine.{line_field, line_within}
use Rattle.fields.proofs.line.Line.has_zeros.Goals as goal

pub overflow_mul-column : goal.overflow_mul-column
overflow_mul-column g c = omega (arith, line_within c.args.self.now.bytes.now c.args.self.now.at g.row.N c.args.self.now.right, c.requires)

pub overflow_add-self : goal.overflow_add-self
overflow_add-self g c = omega (arith, line_within c.args.self.now.bytes.now c.args.self.now.at g.row.N c.args.self.now.right, c.requires)

pub zeros_at-requires : goal.zeros_at-requires
zeros_at-requires g c k low =
    let l = c.args.self.now in
    let place : l.at + 6 * (c.args.column + k) ≡ l.at + 6 * c.args.column + 6 * k = omega arith in
    rw place at (line_field l.bytes.now l.at g.row.N l.right (c.args.column + k) (omega (arith, c.requires, low)))

pub returns : goal.returns
returns g c =
    let l = c.args.self.now in
    c.zeros_at.ensures
    ∙ all_same (λ k. eqb (number_at l.bytes.now (l.at + 6 * c.args.column + 6 * k)) 0) (λ k. eqb (number_at l.bytes.now (l.at + 6 * (c.args.column + k))) 0) c.args.count
    (λ k low.
    let place : l.at + 6 * c.args.column + 6 * k ≡ l.at + 6 * (c.args.column + k) = omega arith in
    ap (λ (a : ℕ). eqb (number_at l.bytes.now a) 0) place)
