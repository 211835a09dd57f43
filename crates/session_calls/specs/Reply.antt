-- What a session call answers and leaves, on any buffers of any lengths (01, Session and Refusals).
use Rattle.std.specs.Prelude.{ℕ, List}
use Rattle.model.specs.Refusal.{Check, pass, fail, first, unless}
use Rattle.model.specs.Machine.{Memory}
use Rattle.model.specs.Session.{lockstep, Call, Lengths, same_lengths, refused, Outcome, Reply as ReplyOn, call_check, perform}
use Rattle.buffers_memory.specs.Memory.{memory_of, with_memory}
use Rattle.buffers_tables.specs.Panel.{processors_in, slots_in, processor_in, slot_in}
use Rattle.buffers_tables.specs.Tables.{network_in, module_in}
use Rattle.buffers_range.specs.Ranges.{ranged}
use Rattle.session_state.specs.Header.{head_in, with_head}
use Rattle.buffers_lengths.specs.Lengths.{fixed, lengths_lent}

-- the working buffers
pub record Buffers : Type 0 where
  pub panel : List ℕ
  pub program : List ℕ
  pub memory : List ℕ

abbrev pub buffers_of : List ℕ → List ℕ → List ℕ → Buffers
buffers_of panel program memory = record { panel = panel; program = program; memory = memory }

-- the lengths lent
abbrev pub lengths_of : Buffers → Lengths
lengths_of b = lengths_lent b.panel b.program b.memory

-- the answer, and these buffers as the call leaves them
abbrev pub Reply : Type 0
Reply = ReplyOn Buffers

-- what every call asks of the buffers first: 40, then 44
unfoldable pub ready_check : Buffers → Check
ready_check b = first (unless (same_lengths (lengths_of b) fixed) 40 0) (unless (ranged b.panel b.program b.memory) 44 0)

-- "Session calls: 40, 44, 41, 42, 43.", on the network and the head that the buffers hold
abbrev pub reply_check : Buffers → Call → Check
reply_check b c =
    first (unless (same_lengths (lengths_of b) fixed) 40 0)
    (first (unless (ranged b.panel b.program b.memory) 44 0)
    (call_check (network_in b.panel b.program) (head_in b.panel).finished c))

-- what the session over the machine in the buffers does with a call that is not refused
abbrev pub performed : Buffers → Call → Outcome Memory
performed b c =
    let n = network_in b.panel b.program in
    let m = module_in b.panel b.program in
    perform fixed n (lockstep n m (processor_in b.panel) (slot_in b.panel)) (head_in b.panel) (memory_of b.memory) c

-- the buffers with an outcome written into them: the head into the panel, the memory into the module's locations
abbrev pub leaving : Buffers → Outcome Memory → Buffers
leaving b o =
    record {
      panel = with_head o.head b.panel;
      program = b.program;
      memory = with_memory (processors_in b.panel) (slots_in b.panel) o.state b.memory;
    }

-- "Refused, it answers number and returned value, and all stays."
unfoldable pub replied : Buffers → Call → Check → Reply
replied b c pass = record { answer = (performed b c).answer; buffers = leaving b (performed b c) }
replied b c (fail number returned) = record { answer = refused number returned; buffers = b }

unfoldable pub reply : Buffers → Call → Reply
reply b c = replied b c (reply_check b c)
