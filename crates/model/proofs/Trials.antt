-- The trials of 01 that are to be proved, as one list (`trials`), and small files that the definitions accept or refuse, all by computation.
use Prim.Native.Nat.{ℕ, zero, suc}
use mathlib.Core.Path.{◌≡◌, refl}
use mathlib.Core.List.{List, [], ◌∷◌, ◌++◌, flat_map}
use Rattle.logic.specs.Test.{◌and◌, ◌or◌, some, every, all, any, total, count}
use Rattle.gates.specs.Function.{is_function, conjunction, parity, selection, majority, function}
use Rattle.gates.specs.Gate.{gate}
use Rattle.gates.specs.Translation.{is_translation, is_constant, invert, without_z, translation}
use Rattle.gates.specs.Value.{U, Z, unknown, known}
use Rattle.fields.specs.Field.{is_digit, after_spaces, decimal, no_leading_zero, is_numeral, is_field, number}
use Rattle.fields.specs.Line.{is_line_at}
use Rattle.writing.specs.Text.{column_of, field_text, line_text}
use Rattle.model.specs.Refusal.{pass, fail, first, unless, first_below}
use Rattle.model.specs.Network.{is_signal, unit_delay, rank_order}
use Rattle.model.specs.Netlist.{network, ten_zeros, net_header, input_layout, gate_layout, source_right, sources_right, net_signal, net_surplus, feeds, chains, on_closed_chain, net_chains, net_check}
use Rattle.model.specs.Value.{evaluate, start, driven, settle, next, VAL, history}
use Rattle.model.specs.Module.{placements, send_right, reception_right, reads, must_be_none, operand_right}
use Rattle.model.specs.ModuleFile.{module_of, mod_header, location_layout, operand_layout, send_layout, sender_layout, line_layout, mod_slot, each_line, mod_surplus, placed, sending, receiving, operands, mod_check}
use Rattle.model.specs.Stimulus.{is_end, time_before, rising, gives_value, may_give, stim_given, stim_end, stim_lines, stim_check, lines_before, stim_count, end_time, last_given, held}
use Rattle.model.specs.Acceptance.{file_check}
use Rattle.model.specs.Listing.{value_at, joined, listed_first, listed_change, listed_cycle, listing_of, listing, refusal_line, printed_for, printed}
use Rattle.model.specs.Files.{Files}

-- what a computation unfolds
computing : Unit {0}
unfolding flat_map ◌and◌ ◌or◌ some every all any total count is_function conjunction parity selection majority function gate is_translation is_constant invert without_z translation unknown known is_digit after_spaces decimal no_leading_zero is_numeral is_field number is_line_at column_of field_text line_text first unless first_below is_signal network ten_zeros net_header input_layout gate_layout source_right sources_right net_signal net_surplus feeds chains on_closed_chain net_chains net_check evaluate start driven settle next VAL history placements send_right reception_right reads must_be_none operand_right module_of mod_header location_layout operand_layout send_layout sender_layout line_layout mod_slot each_line mod_surplus placed sending receiving operands mod_check is_end time_before rising gives_value may_give stim_given stim_end stim_lines stim_check lines_before stim_count end_time last_given held file_check value_at joined listed_first listed_change listed_cycle listing_of listing refusal_line printed_for printed
computing = tt

-- lines of numbers as the bytes of a file, and zeros up to the end of a line
unfoldable pub zeros : ℕ → List ℕ
zeros zero = []
zeros (suc n) = 0 ∷ zeros n

unfoldable pub file : List (List ℕ) → List ℕ
file = flat_map line_text

-- The worked example of 01, Listing
unfoldable pub worked : Files
worked =
    record {
      NET =
          file
          ((0 ∷ 3 ∷ zeros 10)
          ∷ (1 ∷ 1 ∷ zeros 10)
          ∷ (2 ∷ 2 ∷ 2 ∷ 4 ∷ 0 ∷ 0 ∷ 0 ∷ 5 ∷ 1 ∷ 0 ∷ 0 ∷ 0 ∷ [])
          ∷ (3 ∷ 3 ∷ 2 ∷ 4 ∷ 0 ∷ 0 ∷ 0 ∷ 5 ∷ 2 ∷ 0 ∷ 0 ∷ 0 ∷ [])
          ∷ []);
      MOD =
          file
          ((1 ∷ 3 ∷ zeros 12)
          ∷ (0 ∷ 0 ∷ 1 ∷ 9 ∷ 0 ∷ 9 ∷ 0 ∷ 9 ∷ 0 ∷ 9 ∷ 0 ∷ 9 ∷ 0 ∷ 99 ∷ [])
          ∷ (0 ∷ 1 ∷ 2 ∷ 0 ∷ 0 ∷ 9 ∷ 0 ∷ 9 ∷ 0 ∷ 9 ∷ 0 ∷ 9 ∷ 0 ∷ 99 ∷ [])
          ∷ (0 ∷ 2 ∷ 3 ∷ 1 ∷ 1 ∷ 9 ∷ 0 ∷ 9 ∷ 0 ∷ 9 ∷ 0 ∷ 9 ∷ 0 ∷ 99 ∷ [])
          ∷ []);
      STIM = file ((0 ∷ 1 ∷ 0 ∷ []) ∷ (2 ∷ 1 ∷ 1 ∷ []) ∷ (4 ∷ 0 ∷ 0 ∷ []) ∷ []);
    }

worked_accepted : file_check 4096 worked ≡ pass
unfolding computing worked file zeros
worked_accepted = refl

-- the whole listing that 01 prints
worked_printed : printed 4096 worked
    ≡ file
    ((0 ∷ 1 ∷ 0 ∷ []) ∷ (0 ∷ 2 ∷ 2 ∷ []) ∷ (0 ∷ 3 ∷ 2 ∷ []) ∷ (1 ∷ 2 ∷ 1 ∷ []) ∷ (1 ∷ 3 ∷ 0 ∷ []) ∷ (2 ∷ 1 ∷ 1 ∷ [])
    ∷ (3 ∷ 2 ∷ 0 ∷ []) ∷ (3 ∷ 3 ∷ 1 ∷ []) ∷ (4 ∷ 0 ∷ 0 ∷ []) ∷ [])
unfolding computing worked file zeros
worked_printed = refl

-- The flip-flop of the source's figure, all gates unit-delay, with figure 3's inputs: 5 to 10 are NANDs of three; 9 is Q, 10 QINV
unfoldable pub nand : ℕ → ℕ → ℕ → ℕ → ℕ → List ℕ
nand kind s a b c = kind ∷ s ∷ 0 ∷ 4 ∷ 4 ∷ 4 ∷ 1 ∷ 5 ∷ a ∷ b ∷ c ∷ 0 ∷ []

unfoldable pub flip_flop_net : ℕ → List ℕ
flip_flop_net kind =
    file
    ((0 ∷ 10 ∷ zeros 10)
    ∷ (1 ∷ 1 ∷ zeros 10)
    ∷ (1 ∷ 2 ∷ zeros 10)
    ∷ (1 ∷ 3 ∷ zeros 10)
    ∷ (1 ∷ 4 ∷ zeros 10)
    ∷ nand kind 5 1 8 6
    ∷ nand kind 6 5 2 3
    ∷ nand unit_delay 7 6 3 8
    ∷ nand unit_delay 8 7 2 4
    ∷ nand unit_delay 9 1 6 10
    ∷ nand unit_delay 10 9 2 7
    ∷ [])

unfoldable pub flip_flop : Files
flip_flop =
    record {
      NET = flip_flop_net unit_delay;
      MOD = [];
      STIM =
          file
          ((1 ∷ 1 ∷ 1 ∷ []) ∷ (1 ∷ 2 ∷ 1 ∷ []) ∷ (1 ∷ 3 ∷ 1 ∷ []) ∷ (1 ∷ 4 ∷ 1 ∷ []) ∷ (3 ∷ 2 ∷ 0 ∷ []) ∷ (6 ∷ 2 ∷ 1 ∷ [])
          ∷ (7 ∷ 3 ∷ 0 ∷ []) ∷ (10 ∷ 3 ∷ 1 ∷ []) ∷ (16 ∷ 0 ∷ 0 ∷ []) ∷ []);
    }

-- the values of signal s at the times 0 to t
unfoldable pub values : Files → ℕ → ℕ → List ℕ
values files s zero = value_at files 0 s ∷ []
values files s (suc t) = values files s t ++ value_at files (suc t) s ∷ []

-- gates 5 and 6 as rank-order gates feed one another
flip_flop_refused : net_check 4096 (flip_flop_net rank_order) ≡ fail 13 5
unfolding computing flip_flop_net nand file zeros
flip_flop_refused = refl

-- The starred trials of 01
pub record Trials : Type 0 where
  pub and_1111 : function 0 1 1 1 1 ≡ 1
  pub and_1_z11 : function 0 1 Z 1 1 ≡ U
  pub and_U011 : function 0 U 0 1 1 ≡ 0
  pub invert_Z : translation 5 Z ≡ U
  pub xor_1110 : function 1 1 1 1 0 ≡ 1
  pub xor_1_z00 : function 1 1 Z 0 0 ≡ U
  pub select_U110 : function 3 U 1 1 0 ≡ 1
  pub select_UZZ0 : function 3 U Z Z 0 ≡ U
  pub majority_1_u10 : function 4 1 U 1 0 ≡ 1
  pub table_1 : values worked 1 4 ≡ 0 ∷ 0 ∷ 1 ∷ 1 ∷ 1 ∷ []
  pub table_2 : values worked 2 4 ≡ 2 ∷ 1 ∷ 1 ∷ 0 ∷ 0 ∷ []
  pub table_3 : values worked 3 4 ≡ 2 ∷ 0 ∷ 0 ∷ 1 ∷ 1 ∷ []
  pub Q_first_1_at_12 : values flip_flop 9 12 ≡ 2 ∷ 2 ∷ 2 ∷ 2 ∷ 2 ∷ 0 ∷ 0 ∷ 0 ∷ 0 ∷ 0 ∷ 0 ∷ 0 ∷ 1 ∷ []
  pub QINV_first_0_at_13 : values flip_flop 10 13 ≡ 2 ∷ 2 ∷ 2 ∷ 2 ∷ 1 ∷ 1 ∷ 1 ∷ 1 ∷ 1 ∷ 1 ∷ 1 ∷ 1 ∷ 1 ∷ 0 ∷ []

pub trials : Trials
unfolding computing worked flip_flop flip_flop_net nand file zeros values
trials =
    record {
      and_1111 = refl;
      and_1_z11 = refl;
      and_U011 = refl;
      invert_Z = refl;
      xor_1110 = refl;
      xor_1_z00 = refl;
      select_U110 = refl;
      select_UZZ0 = refl;
      majority_1_u10 = refl;
      table_1 = refl;
      table_2 = refl;
      table_3 = refl;
      Q_first_1_at_12 = refl;
      QINV_first_0_at_13 = refl;
    }

-- A small triple: signal 1, an input in slot 0 of processor 0; signal 2, a gate in slot 2 of processor g, whose one operand is
-- of the part and location given; processor 0 sends location 0 of the part given in slot 1, and processor 1 receives it.
unfoldable pub slot_line : ℕ → ℕ → ℕ → ℕ → ℕ → ℕ → ℕ → List ℕ
slot_line p i s part k send from = p ∷ i ∷ s ∷ part ∷ k ∷ 9 ∷ 0 ∷ 9 ∷ 0 ∷ 9 ∷ 0 ∷ send ∷ 0 ∷ from ∷ []

unfoldable pub empty_line : ℕ → ℕ → List ℕ
empty_line p i = slot_line p i 0 9 0 9 99

unfoldable pub last_slots : ℕ → ℕ → ℕ → List (List ℕ) → List (List ℕ)
last_slots zero part k received = slot_line 0 2 2 part k 9 99 ∷ empty_line 1 0 ∷ received ++ empty_line 1 2 ∷ []
last_slots (suc g) part k received = empty_line 0 2 ∷ empty_line 1 0 ∷ received ++ slot_line 1 2 2 part k 9 99 ∷ []

-- kind and source of the gate, and its first translation; its processor; part and location of its operand; the part sent
unfoldable pub triple : ℕ → ℕ → ℕ → ℕ → ℕ → ℕ → ℕ → Files
triple kind source g1 g part k send =
    record {
      NET = file ((0 ∷ 2 ∷ zeros 10) ∷ (1 ∷ 1 ∷ zeros 10) ∷ (kind ∷ 2 ∷ 2 ∷ g1 ∷ 0 ∷ 0 ∷ 0 ∷ 4 ∷ source ∷ 0 ∷ 0 ∷ 0 ∷ []) ∷ []);
      MOD =
          file
          ((2 ∷ 3 ∷ zeros 12) ∷ slot_line 0 0 1 9 0 9 99 ∷ slot_line 0 1 0 9 0 send 99
          ∷ last_slots g part k (slot_line 1 1 0 9 0 9 0 ∷ []));
      STIM = file ((1 ∷ 1 ∷ 1 ∷ []) ∷ (2 ∷ 0 ∷ 0 ∷ []) ∷ []);
    }

-- each way in which an operand can be right is accepted
pub record Accepts : Type 0 where
  pub part_0 : file_check 4096 (triple unit_delay 1 4 0 0 0 1) ≡ pass
  pub part_1 : file_check 4096 (triple rank_order 1 4 0 1 0 1) ≡ pass
  pub part_2_send_1 : file_check 4096 (triple unit_delay 1 4 1 2 1 1) ≡ pass
  pub part_3_send_0 : file_check 4096 (triple unit_delay 1 4 1 3 1 0) ≡ pass
  pub part_3_send_1 : file_check 4096 (triple rank_order 1 4 1 3 1 1) ≡ pass
  pub none : file_check 4096 (triple unit_delay 0 1 1 9 0 1) ≡ pass

pub accepts : Accepts
unfolding computing triple slot_line empty_line last_slots file zeros
accepts = record { part_0 = refl; part_1 = refl; part_2_send_1 = refl; part_3_send_0 = refl; part_3_send_1 = refl; none = refl }

-- and these are refused: two cycles old, one cycle old for a rank-order gate, of the present cycle for a unit-delay gate, and none
-- where there is a source
pub record Refuses : Type 0 where
  pub not_yet_stored : file_check 4096 (triple rank_order 1 4 0 1 2 1) ≡ fail 23 4
  pub old_send : file_check 4096 (triple unit_delay 1 4 1 2 1 0) ≡ fail 23 7
  pub rank_from_earlier : file_check 4096 (triple rank_order 1 4 0 0 0 1) ≡ fail 23 4
  pub rank_from_old_send : file_check 4096 (triple rank_order 1 4 1 3 1 0) ≡ fail 23 7
  pub unit_from_present : file_check 4096 (triple unit_delay 1 4 0 1 0 1) ≡ fail 23 4
  pub unit_from_new_send : file_check 4096 (triple unit_delay 1 4 1 3 1 1) ≡ fail 23 7
  pub source_not_read : file_check 4096 (triple unit_delay 1 4 1 9 0 1) ≡ fail 23 7
  pub nothing_sent : file_check 4096 (triple unit_delay 1 4 1 2 1 9) ≡ fail 25 6

pub refuses : Refuses
unfolding computing triple slot_line empty_line last_slots file zeros
refuses =
    record {
      not_yet_stored = refl;
      old_send = refl;
      rank_from_earlier = refl;
      rank_from_old_send = refl;
      unit_from_present = refl;
      unit_from_new_send = refl;
      source_not_read = refl;
      nothing_sent = refl;
    }
