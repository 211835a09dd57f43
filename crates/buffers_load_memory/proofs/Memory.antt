-- The bytes of the opening memory, by an array of time 0 values, and that the array's values are the signals'.
use Prim.Native.Nat.{ℕ, zero, suc, ◌<◌, ◌≤◌}
use mathlib.Core.Path.{◌≡◌, refl, sym, ap, ◌∙◌}
use mathlib.Core.Bool.{Bool, true, false, not}
use mathlib.Core.List.{List}
use native.Mathlib.Omega.{arith}
use native.Mathlib.Decide.{ℕ_discrete}
use lib.Dec.{eqb}
use lib.ListN.{get_or}
use borrow.Author.Tests.{eq-eqb, ne_eqb}
use Rattle.std.specs.Prelude.{if◌then◌else◌}
use Rattle.logic.specs.Listed.{listed}
use Rattle.logic.proofs.Listed.{listed_at}
use Rattle.logic.proofs.Numbered.{Is}
use Rattle.model.specs.Value.{value_of}
use Rattle.model.specs.Module.{Module, no_sender}
use Rattle.model.specs.Machine.{opening, fetch}
use Rattle.model.specs.ModuleFile.{mod_processors, mod_slots, module_of}
use Rattle.buffers_memory.specs.Memory.{memory_length, blank, place, byte_processor, byte_part, byte_location, within}
use Rattle.buffers_memory.proofs.Written.{Place, place_low, byte_place, written_here, written_else, written_blank}
use Rattle.buffers_load_files.specs.Checked.{value_in}
use Rattle.buffers_load_memory.specs.Bytes.{sent_value, opening_byte}

-- the value of a signal that is read as an Option
pub value_some : (values : List ℕ) {s x : ℕ} → Is s x → get_or values x 0 ≡ value_of (value_in values) s
value_some values is = rw is.same (go _ is.some)
  where
    go : (x : ℕ) → 1 ≤ x → get_or values x 0 ≡ value_of (value_in values) x
    go zero low = absurd (omega arith)
    go (suc x) low = refl

pub value_none : (values : List ℕ) {s : ℕ} → s ≡ 0 → 0 ≡ value_of (value_in values) s
value_none values e = rw e refl

-- what is sent, from the sender's field
module _ (m : Module) (zeroth : ℕ → ℕ) (p k sender : ℕ) (is : sender ≡ m.sender p k) where
  value_from : ℕ → ℕ
  value_from y = if not (eqb y no_sender) then value_of zeroth (m.signal y (m.send_location y k)) else 0

  by_sender : sent_value m zeroth p k ≡ value_from sender
  unfolding sent_value value_from
  by_sender = ap value_from (sym is)

  pub nothing_sent : sender ≡ no_sender → sent_value m zeroth p k ≡ 0
  unfolding value_from
  nothing_sent e = by_sender ∙ rw (eq-eqb sender no_sender e)

  pub something_sent : (sender ≡ no_sender → ⊥) → (location : ℕ) → location ≡ m.send_location sender k
      → sent_value m zeroth p k ≡ value_of zeroth (m.signal sender location)
  unfolding value_from
  something_sent d location e = by_sender ∙ rw (ne_eqb sender no_sender d, e)

-- the bytes
module _ (modfile : List ℕ) (zeroth : ℕ → ℕ) {p part k : ℕ} (there : Place p part k) where
  blank_byte : get_or (listed memory_length (λ a. 0)) (place p part k) 0 ≡ 0
  blank_byte = listed_at memory_length (λ a. 0) (place p part k) (place_low there)

  pub byte_outside : within (mod_processors modfile) (mod_slots modfile) p k ≡ false → opening_byte modfile zeroth p part k ≡ 0
  byte_outside e = written_else _ _ _ p part k e ∙ blank_byte

  module _ (inside : within (mod_processors modfile) (mod_slots modfile) p k ≡ true) where
    fetched : part < blank → opening_byte modfile zeroth p part k ≡ fetch (opening (module_of modfile) zeroth) p part k
    fetched h = written_here _ _ _ p part k inside h

    pub byte_local : part ≡ 0 → opening_byte modfile zeroth p part k ≡ value_of zeroth ((module_of modfile).signal p k)
    unfolding fetch opening
    byte_local e = fetched (omega arith) ∙ rw e

    pub byte_sent_earlier : part ≡ 2 → opening_byte modfile zeroth p part k ≡ sent_value (module_of modfile) zeroth p k
    unfolding fetch opening sent_value
    byte_sent_earlier e = fetched (omega arith) ∙ rw e

    pub byte_sent_present : part ≡ 3 → opening_byte modfile zeroth p part k ≡ sent_value (module_of modfile) zeroth p k
    unfolding fetch opening sent_value
    byte_sent_present e = fetched (omega arith) ∙ rw e

    -- the present local half and the fifth part
    pub byte_other : (part ≡ 0 → ⊥) → (part ≡ 2 → ⊥) → (part ≡ 3 → ⊥) → opening_byte modfile zeroth p part k ≡ 0
    unfolding fetch opening
    byte_other a b d = go (ℕ_discrete part 1)
      where
        go : Dec (part ≡ 1) → opening_byte modfile zeroth p part k ≡ 0
        go (yes e) = fetched (omega arith) ∙ rw e
        go (no n) =
            let l : blank ≤ part = omega arith in
            written_blank _ _ _ p part k l ∙ blank_byte

-- byte a of the memory as the code tells it, by its tests of the place and of the part
module _ (modfile : List ℕ) (zeroth : ℕ → ℕ) {a : ℕ} (low : a < memory_length) where
  abbrev Told : ℕ → Type 0
  Told byte = byte ≡ opening_byte modfile zeroth (byte_processor a) (byte_part a) (byte_location a)

  there : Place (byte_processor a) (byte_part a) (byte_location a)
  there = byte_place a low

  abbrev has : Bool
  has = within (mod_processors modfile) (mod_slots modfile) (byte_processor a) (byte_location a)

  pub told_outside : has ≡ false → Told 0
  told_outside e = sym (byte_outside modfile zeroth there e)

  module _ (inside : has ≡ true) where
    pub told_local : byte_part a ≡ 0 → (byte : ℕ) → byte ≡ value_of zeroth ((module_of modfile).signal (byte_processor a) (byte_location a)) → Told byte
    told_local e byte is = is ∙ sym (byte_local modfile zeroth there inside e)

    pub told_sent : 2 ≤ byte_part a → byte_part a < 4 → (byte : ℕ) → byte ≡ sent_value (module_of modfile) zeroth (byte_processor a) (byte_location a)
        → Told byte
    told_sent least most byte is = is ∙ sym (go (ℕ_discrete (byte_part a) 2))
      where
        go : Dec (byte_part a ≡ 2)
            → opening_byte modfile zeroth (byte_processor a) (byte_part a) (byte_location a) ≡ sent_value (module_of modfile) zeroth (byte_processor a) (byte_location a)
        go (yes e) = byte_sent_earlier modfile zeroth there inside e
        go (no d) = byte_sent_present modfile zeroth there inside (omega arith)

    pub told_other : (byte_part a ≡ 0 → ⊥) → (byte_part a ≡ 2 → ⊥) → (byte_part a ≡ 3 → ⊥) → Told 0
    told_other x y z = sym (byte_other modfile zeroth there inside x y z)
