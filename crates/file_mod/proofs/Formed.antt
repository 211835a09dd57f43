-- What right lines leave to the conditions that follow: their sizes, and signals of the network. The check of the lines and that of the
-- conditions are the whole check.
use Prim.Native.Nat.{ℕ, ◌≤◌}
use mathlib.Core.Path.{◌≡◌, refl, sym, ap, ◌∙◌}
use mathlib.Core.List.{List}
use native.Mathlib.Omega.{arith}
use Rattle.std.specs.Prelude.{Result}
use Rattle.model.specs.Refusal.{pass, first}
use Rattle.model.proofs.Accepted.{slot_right, at_pass}
use Rattle.model.specs.Network.{Network}
use Rattle.model.specs.Netlist.{net_size, network}
use Rattle.model.specs.ModuleFile.{module_of, mod_header, mod_slot, each_line, mod_surplus, mod_check}
use Rattle.model.proofs.Refusals.{first_left, first_right, first_first}
use Rattle.file_lines.proofs.Stages.{renamed}
use Rattle.file_mod_lines.specs.declared.ModRefusal.{ModRefusal}
use Rattle.file_mod_lines.specs.declared.Shape.{Shape}
use Rattle.file_mod_lines.specs.Answer.{shape_of, ModAnswers}
use Rattle.file_mod_lines.specs.Form.{form_check}
use Rattle.file_mod_lines.proofs.Accepted.{header_sized}
use Rattle.file_mod.specs.Testing.{module_check}
use Rattle.file_mod_table.specs.Line.{LinesLaid}
use Rattle.file_mod_table.proofs.Widest.{lines_widened}
use Rattle.file_mod.specs.Known.{Known}

-- the lines after the first, which the shape gives
pub lines_formed : (net l : List ℕ) (shape : Shape) → net_size net ≤ 4096 → form_check (network net) l ≡ pass → shape ≡ shape_of l
    → LinesLaid l shape.processors shape.slots
unfolding network
lines_formed net l shape few right is =
    record {
      sized = header_sized l shape.processors shape.slots (first_left _ _ right) (ap (λ (s : Shape). s.processors) is) (ap (λ (s : Shape). s.slots) is);
      lines = lines_widened (network net) few l (first_left _ _ (first_right _ _ right));
    }

pub known : (net l : List ℕ) (shape : Shape) → form_check (network net) l ≡ pass → shape ≡ shape_of l → Known net l shape
unfolding network module_of
known net l shape right is =
    λ p i within.
    (slot_right (network net) l p i
    (at_pass l (mod_slot (network net) l) (first_left _ _ (first_right _ _ right)) p i
    (record {
      processor = omega (arith, within.processor, ap (λ (s : Shape). s.processors) is);
      slot = omega (arith, within.slot, ap (λ (s : Shape). s.slots) is);
    }))).signal

pub net_signals : (net : List ℕ) (x : ℕ) → x ≡ net_size net → (network net).size ≡ x
unfolding network
net_signals net x e = sym e

pub checked : (n : Network) (l : List ℕ) (r : Result Shape ModRefusal) → ModAnswers l (first (form_check n l) (module_check n l)) r
    → ModAnswers l (mod_check n l) r
unfolding mod_check
checked n l r =
    let lines = each_line l (mod_slot n l) in
    renamed refl
    (first_first (mod_header l) (first lines (mod_surplus l)) (module_check n l)
    ∙ ap (first (mod_header l)) (first_first lines (mod_surplus l) (module_check n l)))
