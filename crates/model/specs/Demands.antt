-- Demands 2 and 3 of the request, to be held against its sentences.
use Rattle.std.specs.Prelude.{ℕ, ◌≤◌, ◌≡◌, List, [], ◌∷◌, ◌++◌, length, replicate}
use Rattle.model.specs.Refusal.{fail}
use Rattle.model.specs.Files.{Files}
use Rattle.model.specs.Network.{Network, Signal}
use Rattle.model.specs.Value.{Follows, history}
use Rattle.model.specs.Procedures.{simulated}
use Rattle.model.specs.Module.{Module, At}
use Rattle.model.specs.Machine.{Memory}
use Rattle.model.specs.Stimulus.{held, end_time}
use Rattle.model.specs.Acceptance.{network_of, given_of, file_check, Accepted}
use Rattle.model.specs.Session.{Head, Lengths, Lent, Answer, Outcome, ticks, cycles_done, plain_after, last_set, rows_set}
use Rattle.model.specs.Listing.{listing_of, refusal_line}

-- Demand 2, of what is printed for any files.
-- lists: "The listing holds exactly the changes of VAL(s,t)", whichever table follows the rules of VAL;
-- simulates: and VAL(s,t) is what the unit-delay and rank-order procedures of 000 give;
-- refuses: "the first file, in document 01's order, that breaks its conditions there is refused, and no other".
pub record Demand2 (limit : ℕ) (prints : Files → List ℕ) : Type 0 where
  pub lists : (files : Files) → Accepted limit files → (table : ℕ → ℕ → ℕ)
      → Follows (network_of files) (given_of files) (held files.STIM) table
      → prints files ≡ listing_of (network_of files).size (end_time files.STIM) table
  pub simulates : (files : Files) → Accepted limit files
      → prints files
      ≡ listing_of (network_of files).size (end_time files.STIM)
      (λ t. simulated (network_of files) (given_of files) (history (held files.STIM) t))
  pub refuses : (files : Files) (number returned : ℕ) → file_check limit files ≡ fail number returned
      → prints files ≡ refusal_line number returned

-- "the place of every signal s holds" its value in the state v: wherever the module has it
abbrev pub Places : Network → Module → Memory → (ℕ → ℕ) → Type 0
Places n m w v = (s p i : ℕ) → Signal n s → At m p i → m.signal p i ≡ s → w.earlier_local p i ≡ v s

-- what the working buffers hold: the session's head, and the state of its engine
pub record Working (S : Type 0) : Type 0 where
  pub head : Head
  pub state : S

-- Calls one after the other, "each call getting the working memory as the last one left it": Post is the calls' contract, that a
-- call on the buffers b may answer a and leave b'.
module _ {Buffers : Type 0} (Post : Buffers → Lent → Answer → Buffers → Type 0) where
  pub data Trace : Buffers → List Lent → Type 0 where
    end : {b : Buffers} → Trace b []
    next : {b : Buffers} {c : Lent} {cs : List Lent} (a : Answer) (b' : Buffers) → Post b c a b' → Trace b' cs → Trace b (c ∷ cs)

  -- tick is the engine's cycle, and Shows says that a state has a value for every signal: the machine's memory, at its place (`Places`).
  -- The plain session is fed the files and the calls: given has the time 0 values, table tells VAL by the rows of the inputs' values.
  module _ {S : Type 0} (tick : (ℕ → ℕ) → S → S) (Shows : S → (ℕ → ℕ) → Type 0) (decode : Buffers → Working S) (fixed : Lengths) (n : Network)
      (given : ℕ → ℕ) (table : List (ℕ → ℕ) → ℕ → ℕ) where
    -- the plain session after the calls so far, the last first
    abbrev told : List Lent → Outcome (List (ℕ → ℕ))
    told calls = plain_after fixed n given table calls

    -- "each input taken in every cycle as last set before it, or as at cycle 0 if not set by then"
    abbrev inputs : List Lent → List (ℕ → ℕ)
    inputs calls = rows_set fixed n given table calls

    -- "After the list, and at the end of every cycle on the way, .. the place of every signal s holds VAL(s,t), t being the cycles finished"
    pub record Agrees (b : Buffers) (calls : List Lent) : Type 0 where
      pub finished : (decode b).head.finished ≡ (told calls).head.finished
      pub rows : (told calls).state ≡ inputs calls
      pub rows_finished : length (inputs calls) ≡ (told calls).head.finished
      pub shows : Shows (decode b).state (table (inputs calls))

    -- "inside a run too": the state after the j-th cycle of a call is what j cycles of the engine, "fed the input values that the
    -- session holds for its next cycle, make of the memory as the run got it"
    abbrev pub Inside : Buffers → Answer → List Lent → Type 0
    Inside b a calls =
        (j : ℕ) → j ≤ cycles_done a
        → Shows (ticks (tick (decode b).head.hand) j (decode b).state)
        (table (replicate j (last_set fixed n given table calls) ++ inputs calls))

    -- Demand 3 of a list of calls, others being made before it: "Every answer in the list, refusals included, and the number of cycles
    -- finished after each call equal those of the plain session", and the state shows VAL throughout
    unfoldable pub Demand3 : {b : Buffers} {cs : List Lent} → Trace b cs → List Lent → Type 0
    Demand3 (end {b}) calls = Agrees b calls
    Demand3 (next {b} {c} a b' p rest) calls =
        Agrees b calls × (a ≡ (told (c ∷ calls)).answer) × Inside b a calls × Demand3 rest (c ∷ calls)
