-- The tests in their order.
use Rattle.std.proofs.Common.{rules}
use Rattle.logic.proofs.Judged.{connected}
use Rattle.file_net.proofs.is_header_laid.Goals as goal
use Rattle.file_net.proofs.is_header_laid.Goals.{then-field-eq0, else-field-eq0}

pub returns-then-contains : goal.returns-then-contains
returns-then-contains c =
    let f = rw c.requires at c.field.ensures in
    let z = rw c.requires at c.has_ten_zeros.ensures in
    elim c.if-field-eq0.branch [
      | then-field-eq0 w ↦ let s = rw c.requires at w.field-then-field-eq0.ensures in search (rules, connected)
      | else-field-eq0 w ↦ search (rules, connected)
    ]

pub returns-else-contains : goal.returns-else-contains
returns-else-contains c =
    let f = rw c.requires at c.field.ensures in
    elim c.if-field-eq0.branch [
      | then-field-eq0 w ↦ let s = rw c.requires at w.field-then-field-eq0.ensures in search (rules, connected)
      | else-field-eq0 w ↦ search (rules, connected)
    ]
