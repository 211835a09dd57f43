-- The lockstep machine's calls as the interface that C has of them, and its opening.
use Rattle.std.specs.Prelude.{ℕ, ◌≡◌}
use Rattle.model.specs.Refusal.{Check}
use Rattle.model.specs.Files.{Files}
use Rattle.model.specs.Machine.{Memory}
use Rattle.model.specs.Session.{Lent, Answer}
use Rattle.model.specs.Demands.{Working}
use Rattle.buffers_memory.specs.Memory.{memory_of}
use Rattle.buffers_lengths.specs.Lengths.{fixed}
use Rattle.buffers_load_files.specs.Loaded.{panel_of, program_of, opening_bytes}
use Rattle.session_answers.specs.Answers.{answer_bits, check_bits}
use Rattle.session_opening.specs.Opened.{opening_check_lent, left_by}
use Rattle.session_state.specs.Header.{head_in}
use Rattle.session_calls.specs.Reply.{Buffers, lengths_of, reply}
use Rattle.laws_engine.specs.Interface.{Interface}
use Rattle.laws_engine.specs.Lending.{Post}

-- the calls on panel, program and memory
abbrev pub lockstep_calls : Interface
lockstep_calls = record { Buffers = Buffers; lengths = lengths_of; fixed = fixed; reply = reply; bits = λ b c. answer_bits (reply b c).answer }

-- a call of a list on them met its contract
abbrev pub Called : Buffers → Lent → Answer → Buffers → Type 0
Called = Post lockstep_calls

-- what the session's buffers hold
abbrev pub working : Buffers → Working Memory
working b = record { head = head_in b.panel; state = memory_of b.memory }

-- what the opening finds in the files and the buffers lent to it
abbrev pub opened_by : ℕ → Files → Buffers → Check
opened_by limit files b = opening_check_lent limit files b.panel b.program b.memory

-- The opening met its contract on any earlier buffers: bits is its answer, left what it leaves.
pub record Opens (limit : ℕ) (files : Files) (before left : Buffers) (bits : ℕ) : Type 0 where
  pub answer : bits ≡ check_bits (opened_by limit files before)
  pub panel : left.panel ≡ left_by (opened_by limit files before) (panel_of files) before.panel
  pub program : left.program ≡ left_by (opened_by limit files before) (program_of files) before.program
  pub memory : left.memory ≡ left_by (opened_by limit files before) (opening_bytes files) before.memory
