-- After a refused opening (01, Session): "if it got them in their right lengths, N is then 0, so every session call on them, all lengths being
-- right, gives 44", and changes nothing. A call with a wrong length gives 40, here as everywhere.
use Prim.Native.Nat.{ℕ}
use mathlib.Core.Path.{◌≡◌, ◌∙◌, ap}
use mathlib.Core.Bool.{true}
use mathlib.Core.List.{List}
use lib.ListN.{length}
use Rattle.logic.proofs.Listed.{listed_length}
use Rattle.model.specs.Refusal.{Check, fail}
use Rattle.model.specs.Files.{Files}
use Rattle.model.specs.Session.{Call, Lent, same_lengths, refused}
use Rattle.model.specs.Demands.{Trace}
use Rattle.buffers_memory.specs.Memory.{memory_length}
use Rattle.buffers_tables.specs.Panel.{panel_length}
use Rattle.buffers_tables.specs.Program.{program_length}
use Rattle.buffers_lengths.specs.Lengths.{fixed, Sizes}
use Rattle.buffers_lengths.proofs.Sizes.{sizes_same, same_sizes}
use Rattle.buffers_range.specs.Ranges.{ranged}
use Rattle.session_answers.specs.Answers.{answer_bits}
use Rattle.session_opening.specs.Opened.{cleared, left_by}
use Rattle.session_calls.specs.Reply.{Buffers, lengths_of, Reply, reply}
use Rattle.session_calls.proofs.Replies.{reply_44}
use Rattle.laws_opening.proofs.Opened.{cleared_out_of_range}
use Rattle.laws_engine.specs.Lending.{Throughout, EveryCall}
use Rattle.laws_engine.proofs.Dead.{AnswersDead, dead_list}
use Rattle.laws_demand3.specs.Lockstep.{lockstep_calls, Called, opened_by, Opens}
use Rattle.laws_demand3.proofs.Serving.{refuses}

left_cleared : {number returned size : ℕ} (c : Check) (bytes lent : List ℕ) → c ≡ fail number returned → length lent ≡ size → left_by c bytes lent ≡ cleared size
unfolding left_by
left_cleared c bytes lent e h = rw (e, h)

module _ (limit : ℕ) (files : Files) (before left : Buffers) (bits : ℕ) (right : same_lengths (lengths_of before) fixed ≡ true) (opens : Opens limit files before left bits)
    (number returned : ℕ) (fails : opened_by limit files before ≡ fail number returned) where
  sizes : Sizes (length before.panel) (length before.program) (length before.memory)
  sizes = same_sizes _ _ _ right

  panel_cleared : left.panel ≡ cleared panel_length
  panel_cleared = opens.panel ∙ left_cleared _ _ before.panel fails sizes.panel_size

  program_cleared : left.program ≡ cleared program_length
  program_cleared = opens.program ∙ left_cleared _ _ before.program fails sizes.program_size

  memory_cleared : left.memory ≡ cleared memory_length
  memory_cleared = opens.memory ∙ left_cleared _ _ before.memory fails sizes.memory_size

  left_lengths : same_lengths (lengths_of left) fixed ≡ true
  left_lengths =
      sizes_same _ _ _
      (record {
        panel_size = ap length panel_cleared ∙ listed_length panel_length (λ a. 0);
        program_size = ap length program_cleared ∙ listed_length program_length (λ a. 0);
        memory_size = ap length memory_cleared ∙ listed_length memory_length (λ a. 0);
      })

  -- whatever the call and its numbers
  pub cleared_replies : (c : Call) → reply left c ≡ record { answer = refused 44 0; buffers = left }
  cleared_replies c =
      reply_44 left c left_lengths
      (ap (λ (x : List ℕ). ranged x left.program left.memory) panel_cleared ∙ cleared_out_of_range left.program left.memory)

  -- and over any list of calls
  pub cleared_list : {cs : List Lent} (t : Trace Called left cs)
      → EveryCall lockstep_calls (λ c bits a. AnswersDead lockstep_calls c a) t × Throughout lockstep_calls (λ b. b ≡ left) t
  cleared_list t =
      dead_list lockstep_calls refuses left left_lengths cleared_replies (λ c. ap (λ (r : Reply). answer_bits r.answer) (cleared_replies c)) t
