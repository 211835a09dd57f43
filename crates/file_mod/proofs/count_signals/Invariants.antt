-- The invariant: the array has, at every signal, how often the lines before line k have it.
use Prim.Native.Nat.{ℕ, ◌≤◌}
use mathlib.Core.Path.{◌≡◌}
use lib.ListN.{length, get_or}
use Rattle.file_mod.proofs.Counts.{counted}
use Rattle.file_mod.proofs.count_signals.Given as goal

abbrev pub invariant-loop-k : goal.invariant-loop-k
invariant-loop-k l = (length l.counts ≡ 4097) × ((s : ℕ) → s ≤ 4096 → get_or l.counts s 0 ≡ counted l.table.modfile.now l.k s)
