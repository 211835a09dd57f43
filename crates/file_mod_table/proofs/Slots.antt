-- What a right line has: its fields are right where they are read, its numbers are the module's, and they are in their ranges.
use Prim.Native.Nat.{ℕ, ◌+◌, ◌*◌, ◌<◌, ◌≤◌}
use mathlib.Core.Path.{◌≡◌, sym, ap, subst, ◌∙◌}
use mathlib.Core.Bool.{true}
use mathlib.Core.List.{List}
use mathlib.Core.Logic.{⊎_elim}
use native.Mathlib.Omega.{arith}
use borrow.Author.Tests.{ltb-true}
use lib.Dec.{ltb}
use Rattle.logic.specs.Test.{◌and◌}
use Rattle.logic.proofs.Tests.{and_left, and_right}
use native.Mathlib.Decide.{ℕ_discrete}
use Rattle.fields.specs.Field.{number_at}
use Rattle.fields.specs.Line.{is_line_at}
use Rattle.model.specs.Module.{no_sender}
use Rattle.model.specs.ModuleFile.{mod_line, mod_field, mod_processors, mod_index, module_of, mod_slot}
use Rattle.model.proofs.Accepted.{SlotRight, slot_right, at_pass}
use Rattle.file_mod_lines.specs.declared.Shape.{Shape}
use Rattle.file_mod_table.specs.Line.{widest, LinesLaid, Within, LineOf}

pub line_of : (l : List ℕ) (p c q i : ℕ) → LinesLaid l p c → q < p → i < c → LineOf l c q i
line_of l p c q i laid low-q low-i =
    let e = laid.sized.processors in
    record { laid = subst (λ (x : ℕ). LinesLaid l x c) e laid; processor = omega arith; slot = low-i }

pub line_within : {l : List ℕ} {shape : Shape} {q i : ℕ} → LinesLaid l shape.processors shape.slots → Within shape q i → LineOf l shape.slots q i
line_within laid within = line_of _ _ _ _ _ laid within.processor within.slot

-- what the code tests of a place
pub tested_within : (shape : Shape) (q i : ℕ) → ltb q shape.processors and ltb i shape.slots ≡ true → Within shape q i
tested_within shape q i e =
    record { processor = ltb-true _ _ (and_left _ _ e); slot = ltb-true _ _ (and_right _ _ e) }

pub laid_slot : (l : List ℕ) (p c q i : ℕ) (laid : LinesLaid l p c) → q < p → i < c → SlotRight widest l q i
unfolding module_of
laid_slot l p c q i laid low-q low-i =
    let s = laid.sized in
    slot_right widest l q i
    (at_pass l (mod_slot widest l) laid.lines q i
    (record { processor = omega (arith, s.processors); slot = omega (arith, s.slots) }))

module _ (l : List ℕ) (c q i : ℕ) (line : LineOf l c q i) where
  pub slot_laid : SlotRight widest l q i
  slot_laid = laid_slot l (mod_processors l) c q i line.laid line.processor line.slot

  -- the line stands at an offset
  module _ (at : ℕ) (here : at ≡ 85 * (1 + q * c + i)) where
    at_line : at ≡ mod_line (mod_index l q i)
    at_line = here ∙ ap (λ (n : ℕ). 85 * (1 + q * n + i)) line.laid.sized.slots

    pub line_laid : is_line_at l at 14 ≡ true
    line_laid = subst (λ (x : ℕ). is_line_at l x 14 ≡ true) (sym at_line) slot_laid.line

    pub field_read : (column : ℕ) → number_at l (at + 6 * column) ≡ mod_field l (mod_index l q i) column
    field_read column = ap (λ (x : ℕ). number_at l (x + 6 * column)) at_line

  pub signal_most : (module_of l).signal q i ≤ 4096
  unfolding module_of
  signal_most = slot_laid.signal

  pub send_low : (module_of l).send_location q i < c
  unfolding module_of
  send_low = omega (arith, slot_laid.send.low, line.laid.sized.slots)

  pub operand_low : (j : ℕ) → j < 4 → (module_of l).location q i j < c
  unfolding module_of
  operand_low j low = omega (arith, (slot_laid.operand j low).low, line.laid.sized.slots)

  -- a processor received from is one of the module's
  pub sender_low : ((module_of l).sender q i ≡ no_sender → ⊥) → (module_of l).sender q i < mod_processors l
  unfolding module_of
  sender_low d = ⊎_elim (λ h. h) (λ e. absurd (d e)) slot_laid.sender

  -- the line of the processor received from
  pub sender_line : (x : ℕ) → x ≡ (module_of l).sender q i → (x ≡ no_sender → ⊥) → LineOf l c x i
  sender_line x from some =
      record { laid = line.laid; processor = rw from (sender_low (λ e. some (from ∙ e))); slot = line.slot }

  -- a location is below 256, and so is the processor received from, 99 or below 16: each fits in a byte
  pub pair_small : (j : ℕ) → j < 5 → mod_field l (mod_index l q i) (4 + 2 * j) < 256
  unfolding module_of
  pair_small j low = go (ℕ_discrete j 4)
    where
      go : Dec (j ≡ 4) → mod_field l (mod_index l q i) (4 + 2 * j) < 256
      go (yes e) = rw e (omega (arith, send_low, line.laid.sized.slots_high))
      go (no d) = omega (arith, operand_low j (omega arith), line.laid.sized.slots_high)

  pub sender_small : mod_field l (mod_index l q i) 13 < 256
  unfolding module_of
  sender_small =
      ⊎_elim (λ (h : mod_field l (mod_index l q i) 13 < mod_processors l). omega (arith, line.laid.sized.processors_high))
      (λ (e : mod_field l (mod_index l q i) 13 ≡ 99). omega arith) slot_laid.sender
