-- MOD (01, Files): its module, at fixed places of the bytes, and its refusals 20 to 25 in their order.
use Rattle.std.specs.Prelude.{ℕ, suc, ◌+◌, ◌*◌, ◌/◌, ◌%◌, Bool, not, List, eqb, leb, ltb, length}
use Rattle.logic.specs.Test.{◌and◌, ◌or◌, all}
use Rattle.fields.specs.Field.{number_at}
use Rattle.fields.specs.Line.{is_line_at}
use Rattle.model.specs.Refusal.{Check, first, unless, first_below}
use Rattle.model.specs.Network.{Network}
use Rattle.model.specs.Module.{Module, local_present, switch_present, no_part, no_sender, placements, send_right, reception_right, operand_right}

-- "MOD, 14 fields": a line has 85 bytes. Line 1 has index 0.
abbrev pub mod_line : ℕ → ℕ
mod_line index = 85 * index

-- a field of a line: processor, slot, signal, four pairs, the send pair, the sender are the columns 0 to 13
abbrev pub mod_field : List ℕ → ℕ → ℕ → ℕ
mod_field modfile index column = number_at modfile (mod_line index + 6 * column)

-- "Line 1: P (1 to 16), C (1 to 256), twelve zeros"
abbrev pub mod_processors : List ℕ → ℕ
mod_processors modfile = mod_field modfile 0 0

abbrev pub mod_slots : List ℕ → ℕ
mod_slots modfile = mod_field modfile 0 1

-- "P × C lines, by processor (0 to P-1), within it by slot (0 to C-1)"
abbrev pub mod_index : List ℕ → ℕ → ℕ → ℕ
mod_index modfile p i = 1 + p * mod_slots modfile + i

-- the module that the lines give: "processor, slot, signal .., four pairs part and location, the send pair, the processor received
-- from"
unfoldable pub module_of : List ℕ → Module
module_of modfile =
    record {
      processors = mod_processors modfile;
      slots = mod_slots modfile;
      signal = λ p i. mod_field modfile (mod_index modfile p i) 2;
      part = λ p i j. mod_field modfile (mod_index modfile p i) (3 + 2 * j);
      location = λ p i j. mod_field modfile (mod_index modfile p i) (4 + 2 * j);
      send_part = λ p i. mod_field modfile (mod_index modfile p i) 11;
      send_location = λ p i. mod_field modfile (mod_index modfile p i) 12;
      sender = λ p i. mod_field modfile (mod_index modfile p i) 13;
    }

-- line 1: 20, then 21
unfoldable pub mod_header : List ℕ → Check
mod_header modfile =
    first (unless (is_line_at modfile 0 14) 20 1)
    (unless
    ((leb 1 (mod_processors modfile) and leb (mod_processors modfile) 16)
    and (leb 1 (mod_slots modfile) and leb (mod_slots modfile) 256)
    and all 12 (λ k. eqb (mod_field modfile 0 (2 + k)) 0)) 21 1)

-- "Part 9 with location 0 means none; with another location it gives 21. .. Locations are below C"
unfoldable pub location_layout : Module → ℕ → ℕ → Bool
location_layout m part k = ltb k m.slots and (not (eqb part no_part) or eqb k 0)

-- "An operand has part 0 to 3 or 9, a send 0, 1 or 9."
unfoldable pub operand_layout : Module → ℕ → ℕ → ℕ → Bool
operand_layout m p i j =
    (leb (m.part p i j) switch_present or eqb (m.part p i j) no_part) and location_layout m (m.part p i j) (m.location p i j)

unfoldable pub send_layout : Module → ℕ → ℕ → Bool
send_layout m p i =
    (leb (m.send_part p i) local_present or eqb (m.send_part p i) no_part)
    and location_layout m (m.send_part p i) (m.send_location p i)

-- "processors below P", or none
unfoldable pub sender_layout : Module → ℕ → ℕ → Bool
sender_layout m p i = ltb (m.sender p i) m.processors or eqb (m.sender p i) no_sender

-- the line of processor p and slot i has these, and a "signal (1 to N, or 0: empty slot)"
unfoldable pub line_layout : Network → List ℕ → ℕ → ℕ → Bool
line_layout n modfile p i =
    eqb (mod_field modfile (mod_index modfile p i) 0) p
    and eqb (mod_field modfile (mod_index modfile p i) 1) i
    and leb ((module_of modfile).signal p i) n.size
    and all 4 (operand_layout (module_of modfile) p i)
    and send_layout (module_of modfile) p i
    and sender_layout (module_of modfile) p i

-- the line of processor p and slot i, counted from 1: 20, then 21
unfoldable pub mod_slot : Network → List ℕ → ℕ → ℕ → Check
mod_slot n modfile p i =
    first (unless (is_line_at modfile (mod_line (mod_index modfile p i)) 14) 20 (mod_index modfile p i + 1))
    (unless (line_layout n modfile p i) 21 (mod_index modfile p i + 1))

-- a check of each line after the first, in order; it is given the processor and the slot
unfoldable pub each_line : List ℕ → (ℕ → ℕ → Check) → Check
each_line modfile f = first_below (mod_processors modfile * mod_slots modfile) (λ k. f (k / mod_slots modfile) (k % mod_slots modfile))

-- a line after the last
unfoldable pub mod_surplus : List ℕ → Check
mod_surplus modfile =
    unless (leb (length modfile) (mod_line (mod_processors modfile * mod_slots modfile + 1))) 20 (mod_processors modfile * mod_slots modfile + 2)

-- "then 22, .. 24, 25, 23, each over all lines": 22 returns the smallest signal, the others the line
unfoldable pub placed : Network → Module → Check
placed n m = first_below n.size (λ k. unless (eqb (placements m (suc k)) 1) 22 (suc k))

unfoldable pub sending : List ℕ → Check
sending modfile = each_line modfile (λ p i. unless (send_right (module_of modfile) p i) 24 (mod_index modfile p i + 1))

unfoldable pub receiving : List ℕ → Check
receiving modfile = each_line modfile (λ p i. unless (reception_right (module_of modfile) p i) 25 (mod_index modfile p i + 1))

unfoldable pub operands : Network → List ℕ → Check
operands n modfile =
    each_line modfile (λ p i. first_below 4 (λ j. unless (operand_right n (module_of modfile) p i j) 23 (mod_index modfile p i + 1)))

unfoldable pub mod_check : Network → List ℕ → Check
mod_check n modfile =
    first (mod_header modfile)
    (first (each_line modfile (mod_slot n modfile))
    (first (mod_surplus modfile)
    (first (placed n (module_of modfile))
    (first (sending modfile)
    (first (receiving modfile)
    (operands n modfile))))))
