-- The invariant: the values of c cycles are stored.
use mathlib.Core.List.{[], ◌∷◌}
use lib.ListN.{length, get_or}
use Rattle.charts.specs.Page.{glyph}
use Rattle.charts.proofs.Writing.{StoredUpTo}
use Rattle.charts.proofs.write_glyphs.Given as goal

abbrev pub invariant-loop-c : goal.invariant-loop-c
invariant-loop-c l = StoredUpTo l.initial.page l.at (λ j. glyph (get_or l.values j 0) ∷ []) (length l.values) l.c l.page
