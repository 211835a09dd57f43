-- `write_change` shows the value, and writes its line where it is another.
use mathlib.Core.Path.{refl, ◌∙◌, sym, ap}
use native.Mathlib.Omega.{arith}
use Prim.Native.Nat.{ℕ, ◌+◌}
use Rattle.writing.proofs.Writing.{length_line}
use Rattle.listing_cycle.proofs.Changes.{line_none, line_there}
use Rattle.listing_cycle.proofs.write_change.Goals as goal

pub returns : goal.returns
returns c =
    let other = rw c.from-index.ensures at c.if-value-last.false in
    rw (line_there _ _ _ _ other)
    (record { value = c.write_line.ensures.value ∙ ap (λ (n : ℕ). c.args.at + n) (sym (length_line _)); out_after = rw c.from.ensures at c.write_line.ensures.out_after; shown_after = rw c.from-index.ensures refl })

pub returns-then-value-last : goal.returns-then-value-last
returns-then-value-last c =
    let same = rw c.from-index.ensures at c.if-value-last.true in
    rw (line_none _ _ _ _ same) (record { value = omega arith; out_after = refl; shown_after = rw c.from-index.ensures refl })
