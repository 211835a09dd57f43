-- What a call that is ready answers and leaves is its reply: the command's outcome, with the head written into the panel.
use Prim.Native.Nat.{ℕ}
use mathlib.Core.Path.{◌≡◌, refl, sym, ◌∙◌, ap}
use mathlib.Core.Bool.{true, false}
use mathlib.Core.List.{List}
use Rattle.std.specs.Prelude.{Result, Ok, Err}
use Rattle.model.specs.Refusal.{Check, pass, fail, first, unless}
use Rattle.model.proofs.Refusals.{first_first, first_stays}
use Rattle.model.specs.Machine.{Memory}
use Rattle.model.specs.Session.{lockstep, Head, Call, set, watch, read, same_lengths, refused, Outcome, call_check, perform, meet}
use Rattle.buffers_memory.specs.Memory.{memory_of, within, with_memory}
use Rattle.buffers_memory.proofs.Written.{written_self}
use Rattle.buffers_tables.specs.Panel.{processors_in, slots_in, processor_in, slot_in}
use Rattle.buffers_tables.specs.Tables.{network_in, module_in}
use Rattle.buffers_range.specs.Ranges.{ranged}
use Rattle.file_lines.proofs.Stages.{refuses, fails}
use Rattle.session_answers.specs.declared.CallRefusal.{CallRefusal}
use Rattle.session_answers.specs.Answers.{check_answer, answer_bits}
use Rattle.session_answers.specs.Replies.{call_answer}
use Rattle.session_state.specs.declared.Told.{Told}
use Rattle.session_state.specs.Header.{head_in, with_head}
use Rattle.session_state.specs.Carried.{head_of}
use Rattle.buffers_lengths.specs.Lengths.{fixed}
use Rattle.session_state.specs.Commands.{commanded, Tells}
use Rattle.session_state.proofs.Heads.{head_written}
use Rattle.session_calls.specs.Reply.{Buffers, buffers_of, lengths_of, Reply, leaving, ready_check, replied, reply}
use Rattle.session_calls.specs.Writes.{Writes}
use Rattle.session_calls.proofs.Judged.{Sizes, same_lengths_lem, Judges, right_sizes, right_range}

-- a command on the head that the panel holds, answered and encoded into the panel as it left it
pub writes : (panel program memory : List ℕ) (call : Call) (h : Head) → h ≡ head_in panel → with_head (head_in panel) panel ≡ panel → (told : Told)
    (mid : List ℕ) → Tells (commanded panel program memory h call) told panel mid → (bits : ℕ) (left : List ℕ) → bits ≡ answer_bits (call_answer told.answer)
    → left ≡ with_head (head_of told.session mid) mid → Writes (commanded panel program memory (head_in panel) call) panel bits left
writes panel program memory call h e own told mid t bits left a b =
    record {
      answer = a ∙ ap answer_bits t.answer ∙ ap (λ (x : Head). answer_bits (commanded panel program memory x call).answer) e;
      written =
          b ∙ head_written (commanded panel program memory h call).head panel mid _ _ t.finished t.watch t.hand
          ∙ ap (λ (x : Head). with_head (commanded panel program memory x call).head panel) e;
      own = own;
    }

-- set, watch and read keep the memory, and read keeps the head too
module _ (panel program memory : List ℕ) (h : Head) where
  abbrev leaves : Call → Check → Outcome Memory
  leaves call check =
      let n = network_in panel program in
      meet fixed n (lockstep n (module_in panel program) (processor_in panel) (slot_in panel)) h (memory_of memory) call check

  -- what a call leaves as it is where it is performed, it leaves as it is where it is refused
  leaves_part : {A : Type 0} (part : Head → Memory → A) (call : Call) → (let o = leaves call pass in part o.head o.state ≡ part h (memory_of memory))
      → (let o = commanded panel program memory h call in part o.head o.state ≡ part h (memory_of memory))
  unfolding meet
  leaves_part part call performed = go (call_check (network_in panel program) h.finished call)
    where
      go : (k : Check) → part (leaves call k).head (leaves call k).state ≡ part h (memory_of memory)
      go pass = performed
      go (fail number returned) = refl

  pub set_state : (s v : ℕ) → (commanded panel program memory h (set s v)).state ≡ memory_of memory
  unfolding meet perform
  set_state s v = leaves_part (λ _ w. w) (set s v) refl

  pub watch_state : (s m : ℕ) → (commanded panel program memory h (watch s m)).state ≡ memory_of memory
  unfolding meet perform
  watch_state s m = leaves_part (λ _ w. w) (watch s m) refl

  pub read_state : (s : ℕ) → (commanded panel program memory h (read s)).state ≡ memory_of memory
  unfolding meet perform
  read_state s = leaves_part (λ _ w. w) (read s) refl

  pub read_head : (s : ℕ) → (commanded panel program memory h (read s)).head ≡ h
  unfolding meet perform
  read_head s = leaves_part (λ x _. x) (read s) refl

-- a read writes nothing: the head of its outcome is the panel's own
pub reads : (panel program memory : List ℕ) (s : ℕ) (h : Head) → h ≡ head_in panel → with_head (head_in panel) panel ≡ panel
    → (told : Told) → Tells (commanded panel program memory h (read s)) told panel panel → (bits : ℕ) → bits ≡ answer_bits (call_answer told.answer)
    → Writes (commanded panel program memory (head_in panel) (read s)) panel bits panel
reads panel program memory s h e own told t bits a =
    record {
      answer = a ∙ ap answer_bits t.answer ∙ ap (λ (x : Head). answer_bits (commanded panel program memory x (read s)).answer) e;
      written = sym (ap (λ (x : Head). with_head x panel) (read_head panel program memory (head_in panel) s) ∙ own);
      own = own;
    }

-- what a call replies, by the lengths and the ranges of its buffers
module _ (b : Buffers) (c : Call) where
  -- 41 to 43
  abbrev pub check_in : Check
  check_in = call_check (network_in b.panel b.program) (head_in b.panel).finished c

  -- 41 to 43, or what the call does
  abbrev pub outcome_in : Outcome Memory
  outcome_in = commanded b.panel b.program b.memory (head_in b.panel) c

  pub reply_40 : same_lengths (lengths_of b) fixed ≡ false → reply b c ≡ record { answer = refused 40 0; buffers = b }
  unfolding reply replied first unless
  reply_40 l = rw l

  pub reply_44 : same_lengths (lengths_of b) fixed ≡ true → ranged b.panel b.program b.memory ≡ false
      → reply b c ≡ record { answer = refused 44 0; buffers = b }
  unfolding reply replied first unless
  reply_44 l r = rw (l, r)

  module _ (l : same_lengths (lengths_of b) fixed ≡ true) (r : ranged b.panel b.program b.memory ≡ true) where
    pub reply_checked : reply b c ≡ replied b c check_in
    unfolding reply first unless
    reply_checked = rw (l, r)

    pub reply_answer : (reply b c).answer ≡ outcome_in.answer
    unfolding replied meet
    reply_answer = ap (λ (x : Reply). x.answer) reply_checked ∙ go check_in
      where
        go : (k : Check) → (replied b c k).answer ≡ (leaves b.panel b.program b.memory (head_in b.panel) c k).answer
        go pass = refl
        go (fail number returned) = refl

-- where 40 and 44 do not come, a call is done and leaves its outcome, or it is refused and all stays
pub data Leaves (b : Buffers) (c : Call) : Type 0 where
  done : (reply b c).buffers ≡ leaving b (outcome_in b c) → Leaves b c
  stays : (reply b c).buffers ≡ b → (outcome_in b c).head ≡ head_in b.panel → (outcome_in b c).state ≡ memory_of b.memory → Leaves b c

pub reply_leaves : (b : Buffers) (c : Call) → same_lengths (lengths_of b) fixed ≡ true → ranged b.panel b.program b.memory ≡ true → Leaves b c
unfolding replied meet
reply_leaves b c l r = go (check_in b c) refl
  where
    go : (k : Check) → check_in b c ≡ k → Leaves b c
    go pass e = done (ap (λ (x : Reply). x.buffers) (reply_checked b c l r) ∙ rw e)
    go (fail number returned) e = stays (ap (λ (x : Reply). x.buffers) (reply_checked b c l r) ∙ rw e) (rw e) (rw e)

-- the answer's bits and the buffers left are those of the reply
abbrev pub Replies : Buffers → Call → ℕ → Buffers → Type 0
Replies b c bits left = (bits ≡ answer_bits (reply b c).answer) × ((reply b c).buffers ≡ left)

-- the code judged the buffers, and goes by what it found
module _ (b : Buffers) (c : Call) (r : Result (Unit {0}) CallRefusal) (judged : Judges b r) where
  -- a refusal for the buffers is the reply to any call
  reply_refused : {number returned : ℕ} → ready_check b ≡ fail number returned → reply b c ≡ record { answer = refused number returned; buffers = b }
  unfolding reply replied ready_check
  reply_refused e = ap (replied b c) (sym (first_first _ _ (check_in b c)) ∙ first_stays _ (check_in b c) e)

  pub replies_refused : (a : CallRefusal) → r ≡ Err a → (bits : ℕ) → bits ≡ answer_bits (call_answer (Err a)) → Replies b c bits b
  replies_refused a e bits is = go (ready_check b) refl
    where
      go : (k : Check) → ready_check b ≡ k → Replies b c bits b
      go pass q = absurd (refuses judged e q)
      go (fail number returned) q =
          let told : call_answer (Err a) ≡ refused number returned = ap check_answer (fails judged e ∙ q) in (
            is ∙ ap answer_bits told ∙ ap (λ (x : Reply). answer_bits x.answer) (sym (reply_refused q)),
            ap (λ (x : Reply). x.buffers) (reply_refused q),
          )

  module _ {x : Unit {0}} (e : r ≡ Ok x) where
    sizes : Sizes b
    sizes = right_sizes b r judged e

    leaves_right : Leaves b c
    leaves_right = reply_leaves b c (same_lengths_lem b sizes) (right_range b r judged e)

    answers_right : (bits : ℕ) → bits ≡ answer_bits (outcome_in b c).answer → bits ≡ answer_bits (reply b c).answer
    answers_right bits a = a ∙ ap answer_bits (sym (reply_answer b c (same_lengths_lem b sizes) (right_range b r judged e)))

    pub memory_kept : (w : Memory) → w ≡ memory_of b.memory → with_memory (processors_in b.panel) (slots_in b.panel) w b.memory ≡ b.memory
    memory_kept w q =
        ap (λ (w : Memory). with_memory (processors_in b.panel) (slots_in b.panel) w b.memory) q
        ∙ sym (written_self (within (processors_in b.panel) (slots_in b.panel)) b.memory sizes.memory_size)

    -- the panel and the memory are those of the outcome: on a refusal as they were
    pub replies_run : (bits : ℕ) (left memory : List ℕ) → Writes (outcome_in b c) b.panel bits left
        → memory ≡ with_memory (processors_in b.panel) (slots_in b.panel) (outcome_in b c).state b.memory
        → Replies b c bits (buffers_of left b.program memory)
    replies_run bits left memory w q = (answers_right bits w.answer, go leaves_right)
      where
        go : Leaves b c → (reply b c).buffers ≡ buffers_of left b.program memory
        go (done is) =
            is
            ∙ ap (λ (x : List ℕ). buffers_of x b.program (with_memory (processors_in b.panel) (slots_in b.panel) (outcome_in b c).state b.memory)) (sym w.written)
            ∙ ap (λ (x : List ℕ). buffers_of left b.program x) (sym q)
        go (stays is head state) =
            is
            ∙ ap (λ (x : List ℕ). buffers_of x b.program b.memory) (sym (w.written ∙ ap (λ (x : Head). with_head x b.panel) head ∙ w.own))
            ∙ ap (λ (x : List ℕ). buffers_of left b.program x) (sym (q ∙ memory_kept (outcome_in b c).state state))

    -- a call that keeps the memory
    pub replies : (bits : ℕ) (left : List ℕ) → Writes (outcome_in b c) b.panel bits left → (outcome_in b c).state ≡ memory_of b.memory
        → Replies b c bits (buffers_of left b.program b.memory)
    replies bits left w q = replies_run bits left b.memory w (sym (memory_kept (outcome_in b c).state q))
