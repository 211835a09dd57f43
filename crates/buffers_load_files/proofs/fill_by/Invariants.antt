-- The bytes before byte a are those of the function.
use Prim.Native.Nat.{ℕ, ◌<◌}
use mathlib.Core.Path.{◌≡◌}
use lib.ListN.{length}
use Rattle.logic.proofs.Filling.{Filled}
use Rattle.buffers_load_files.proofs.fill_by.Given as goal

abbrev pub invariant-loop-a : goal.invariant-loop-a
invariant-loop-a g l =
    (f : ℕ → ℕ) → ((a x : ℕ) → a < length l.initial.bytes → goal.F-post g l.byte a x → x ≡ f a) → Filled f (length l.initial.bytes) l.a l.bytes
