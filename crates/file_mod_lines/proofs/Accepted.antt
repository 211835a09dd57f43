-- What line 1 leaves to the stages after it where it passes.
use Prim.Native.Nat.{ℕ}
use mathlib.Core.Path.{◌≡◌, refl, ap}
use mathlib.Core.List.{List}
use borrow.Author.Tests.{leb-true}
use Rattle.logic.proofs.Tests.{and_left, and_right}
use Rattle.std.specs.Prelude.{Ok}
use Rattle.model.specs.Refusal.{pass}
use Rattle.model.specs.ModuleFile.{mod_processors, mod_slots, mod_header}
use Rattle.model.proofs.Refusals.{first_right, unless_true}
use Rattle.file_lines.proofs.Stages.{passes, same}
use Rattle.file_mod_lines.specs.Answer.{ModAnswers, Sized}
use Rattle.file_mod_lines.specs.declared.Shape.{Shape}

pub header_sized : (l : List ℕ) (p c : ℕ) → mod_header l ≡ pass → p ≡ mod_processors l → c ≡ mod_slots l → Sized l p c
unfolding mod_header
header_sized l p c h ep ec =
    let t = unless_true _ _ _ (first_right _ _ h) in
    let processors = and_left _ _ t in
    let slots = and_left _ _ (and_right _ _ t) in
    record {
      processors = ep;
      slots = ec;
      processors_low = rw ep (leb-true 1 (mod_processors l) (and_left _ _ processors));
      processors_high = rw ep (leb-true (mod_processors l) 16 (and_right _ _ processors));
      slots_low = rw ec (leb-true 1 (mod_slots l) (and_left _ _ slots));
      slots_high = rw ec (leb-true (mod_slots l) 256 (and_right _ _ slots));
    }

-- by the shape that line 1 gave
pub shape_sized : {l : List ℕ} {shape : Shape} → ModAnswers l (mod_header l) (Ok shape) → Sized l shape.processors shape.slots
shape_sized answers =
    let is = same answers refl in
    header_sized _ _ _ (passes answers refl) (ap (λ (s : Shape). s.processors) is) (ap (λ (s : Shape). s.slots) is)
