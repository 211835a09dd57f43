-- What C takes out of the 64 bits of a call's answer is that answer, on buffers of the right lengths that 44 lets pass: there a value that
-- is read is at most 3, and the cycles finished stay at most 65535.
use Prim.Native.Nat.{ℕ, ◌≤◌}
use mathlib.Core.Path.{◌≡◌, sym, subst}
use mathlib.Core.Bool.{true}
use native.Mathlib.Omega.{arith}
use Rattle.model.specs.Network.{Network, Signal}
use Rattle.model.specs.Module.{local_earlier}
use Rattle.model.specs.Session.{Engine, lockstep, Call, same_lengths}
use Rattle.buffers_memory.specs.Memory.{memory_of}
use Rattle.buffers_tables.specs.Panel.{finished_in, processor_in, slot_in}
use Rattle.buffers_tables.specs.Tables.{network_in, module_in}
use Rattle.buffers_lengths.specs.Lengths.{fixed}
use Rattle.buffers_range.specs.Ranges.{ranged}
use Rattle.buffers_range.proofs.Ranged.{head_ranged_lem, signal_ranged_lem, memory_in_range}
use Rattle.session_answers.specs.Answers.{answer_bits}
use Rattle.session_answers.specs.Apart.{apart}
use Rattle.session_answers.proofs.Bits.{AnswerOf, apart_bits}
use Rattle.session_state.specs.Header.{head_in}
use Rattle.session_calls.specs.Reply.{Buffers, lengths_of, reply}
use Rattle.session_calls.proofs.Replies.{outcome_in, reply_answer}
use Rattle.laws_kept.proofs.Heads.{with_head_finished}
use Rattle.laws_kept.proofs.Replies.{kept}
use Rattle.laws_engine.specs.Lending.{kind_of, Has32}
use Rattle.laws_engine.proofs.Telling.{command_few, command_of}

module _ (b : Buffers) (lengths : same_lengths (lengths_of b) fixed ≡ true) (range : ranged b.panel b.program b.memory ≡ true)
    (few : finished_in b.panel ≤ 65535) where
  abbrev n : Network
  n = network_in b.panel b.program

  abbrev E : Engine
  E = lockstep n (module_in b.panel b.program) (processor_in b.panel) (slot_in b.panel)

  value_low : (s : ℕ) → Signal n s → (memory_of b.memory).earlier_local (processor_in b.panel s) (slot_in b.panel s) ≤ 3
  unfolding memory_of network_in
  value_low s a =
      let there = signal_ranged_lem b.panel b.program b.memory range s a.low a.high in
      let head = head_ranged_lem b.panel b.program b.memory range in
      (memory_in_range b.panel b.program b.memory range).values {part = local_earlier} {k = slot_in b.panel s}
      (record {
        processor_low = omega (arith, there.processor_low, head.processors_high);
        part_low = omega arith;
        location_low = omega (arith, there.slot_low, head.slots_high);
      })

  reply_of : (c : Call) → Has32 c → AnswerOf (kind_of c) (reply b c).answer
  reply_of c numbers =
      subst (AnswerOf (kind_of c)) (sym (reply_answer b c lengths range))
      (command_of fixed n E (head_in b.panel) (memory_of b.memory) few value_low c numbers)

  pub reply_taken : (c : Call) → Has32 c → apart (kind_of c) (answer_bits (reply b c).answer) ≡ (reply b c).answer
  reply_taken c numbers = apart_bits (kind_of c) (reply b c).answer (reply_of c numbers)

  pub reply_few : (c : Call) → finished_in (reply b c).buffers.panel ≤ 65535
  reply_few c =
      kept b c lengths range (λ d. finished_in d.panel ≤ 65535) (λ h w. few)
      (omega (arith, with_head_finished (outcome_in b c).head b.panel, command_few fixed n E (head_in b.panel) (memory_of b.memory) few c))
