-- A right line by its number: line k after the first is that of processor k / C and slot k % C.
use Prim.Native.Nat.{ℕ, ◌+◌, ◌*◌, ◌/◌, ◌%◌, ◌<◌, ◌≤◌}
use mathlib.Core.Path.{◌≡◌, ap, subst, ◌∙◌}
use mathlib.Core.Bool.{true}
use mathlib.Core.List.{List}
use native.Mathlib.Omega.{arith}
use native.Mathlib.Nat.{div-lt_iff_lt-mul, mod-lt}
use Rattle.fields.specs.Line.{is_line_at}
use Rattle.model.specs.ModuleFile.{mod_index, mod_field, module_of}
use Rattle.file_mod_lines.proofs.Lines.{line_index}
use Rattle.file_mod_table.specs.Line.{LinesLaid, LineOf}
use Rattle.file_mod_table.proofs.Slots.{line_of, slot_laid, signal_most}

module _ (l : List ℕ) (p c : ℕ) (laid : LinesLaid l p c) (k : ℕ) (low : k < p * c) where
  pub at_processor : k / c < p
  at_processor = (div-lt_iff_lt-mul {k = c} {x = k} {y = p} (omega (arith, laid.sized.slots_low))).1 low

  pub at_slot : k % c < c
  at_slot = mod-lt k {m = c} (omega (arith, laid.sized.slots_low))

  pub line_numbered : LineOf l c (k / c) (k % c)
  line_numbered = line_of l p c (k / c) (k % c) laid at_processor at_slot

  index : mod_index l (k / c) (k % c) ≡ k + 1
  index = ap (λ (n : ℕ). mod_index l (k / n) (k % n)) laid.sized.slots ∙ line_index l k

  pub line_there : is_line_at l (85 * (k + 1)) 14 ≡ true
  line_there = subst (λ (x : ℕ). is_line_at l (85 * x) 14 ≡ true) index (slot_laid l c (k / c) (k % c) line_numbered).line

  -- its signal
  signal_read : (module_of l).signal (k / c) (k % c) ≡ mod_field l (k + 1) 2
  unfolding module_of
  signal_read = ap (λ (n : ℕ). mod_field l n 2) index

  pub signal_few : mod_field l (k + 1) 2 ≤ 4096
  signal_few = omega (arith, signal_read, signal_most l c (k / c) (k % c) line_numbered)
