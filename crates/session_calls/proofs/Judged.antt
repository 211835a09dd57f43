-- What the buffers' lengths and ranges tell a call, and back.
use Prim.Native.Nat.{ℕ, ◌≤◌, ◌<◌}
use mathlib.Core.Path.{◌≡◌, refl}
use mathlib.Core.Bool.{Bool, true, false}
use lib.ListN.{length}
use Rattle.std.specs.Prelude.{Result, Ok, Err}
use Rattle.model.specs.Refusal.{first, unless}
use Rattle.model.specs.Session.{same_lengths}
use Rattle.model.proofs.Refusals.{first_left, first_right, first_stays, unless_true}
use Rattle.buffers_memory.specs.Memory.{MemoryBytes}
use Rattle.buffers_tables.specs.Panel.{panel_length, signals_in, processor_in}
use Rattle.buffers_lengths.specs.Lengths.{fixed, Sizes as SizesOf}
use Rattle.buffers_lengths.proofs.Sizes.{sizes_same, same_sizes}
use Rattle.buffers_range.specs.Ranges.{ranged}
use Rattle.buffers_range.proofs.Ranged.{head_ranged_lem, ranged_tables, ranged_memory}
use Rattle.buffers_tables.specs.Tables.{Tables}
use Rattle.machine_run.specs.Running.{Watching}
use Rattle.session_state.specs.Header.{head_in}
use mathlib.Core.List.{List}
use Rattle.std.specs.Prelude.{Option, Some}
use Rattle.std.specs.Array.{IsWholeChunk}
use Rattle.std.specs.Option.{MatchOption}
use Rattle.std.proofs.lemmas.Option.{MatchOption-at_some}
use Rattle.std.specs.Result.{IsErrAnd}
use Rattle.file_lines.specs.Answer.{Answers}
use Rattle.session_answers.proofs.Calls.{exit_told, unless_fails}
use Rattle.file_lines.proofs.Stages.{refused, accepted, passes}
use Rattle.session_answers.specs.declared.CallRefusal.{CallRefusal}
use Rattle.session_answers.specs.declared.CallRefusal.TheVariants.{WrongLength, OutOfRange}
use Rattle.session_answers.specs.Refusals.{call_refusal}
use Rattle.session_calls.specs.Reply.{Buffers, lengths_of, ready_check}
use Rattle.session_calls.proofs.Watched.{ranged_watching, ranged_processor}

-- the lengths are the fixed ones
abbrev pub Sizes : Buffers → Type 0
Sizes b = SizesOf (length b.panel) (length b.program) (length b.memory)

abbrev in_range : Buffers → Bool
in_range b = ranged b.panel b.program b.memory

-- how the code answers
abbrev pub Judges : Buffers → Result (Unit {0}) CallRefusal → Type 0
Judges b = Answers call_refusal (tt {0}) (ready_check b)

module _ (b : Buffers) where
  pub same_lengths_lem : Sizes b → same_lengths (lengths_of b) fixed ≡ true
  same_lengths_lem h = sizes_same _ _ _ h

  pub wrong_length : (Sizes b → ⊥) → {r : Result (Unit {0}) CallRefusal} → IsErrAnd r (λ x. x ≡ WrongLength) → Judges b r
  unfolding ready_check
  wrong_length d {r} exit =
      refused (exit_told call_refusal r exit) (first_stays _ _ (unless_fails _ 40 0 (λ e. d (same_sizes _ _ _ e))))

  pub out_of_range : Sizes b → in_range b ≡ false → Judges b (Err OutOfRange)
  unfolding ready_check first unless
  out_of_range l e = refused refl (rw (same_lengths_lem l, e))

  pub in_range_lem : Sizes b → in_range b ≡ true → Judges b (Ok (tt {0}))
  unfolding ready_check first unless
  in_range_lem l e = accepted refl (rw (same_lengths_lem l, e))

-- what the code goes by where it judged them right
module _ (b : Buffers) (r : Result (Unit {0}) CallRefusal) (judged : Judges b r) {x : Unit {0}} (e : r ≡ Ok x) where
  right_both : Sizes b × (in_range b ≡ true)
  unfolding ready_check
  right_both =
      let ready = passes judged e in
      (same_sizes _ _ _ (unless_true _ 40 0 (first_left _ _ ready)), unless_true _ 44 0 (first_right _ _ ready))

  pub right_range : in_range b ≡ true
  right_range = right_both.1

  pub right_sizes : Sizes b
  right_sizes = right_both.0

  -- what decoding and writing the head ask of the panel
  pub right_panel : (length b.panel ≡ panel_length) × (signals_in b.panel ≤ 4096)
  right_panel = (right_sizes.panel_size, (head_ranged_lem b.panel b.program b.memory right_both.1).signals_high)

  pub right_processor : (s : ℕ) → 1 ≤ s → s ≤ signals_in b.panel → processor_in b.panel s < 16
  right_processor = ranged_processor b.panel b.program b.memory right_both.1

  pub right_memory : MemoryBytes b.memory
  right_memory = ranged_memory b.panel b.program b.memory right_sizes.memory_size right_both.1

  pub right_tables : Tables b.panel b.program
  right_tables = ranged_tables b.panel b.program b.memory right_sizes.panel_size right_sizes.program_size right_both.1

  pub right_watching : Watching b.panel (head_in b.panel).watch
  right_watching = ranged_watching b.panel b.program b.memory right_both.1

-- an array of a slice's length is the slice
pub array_is : {A : Type 0} (P : Type 0) {bytes : List ℕ} (n : ℕ) {o : Option A} {x : A} (now : A → List ℕ) → MatchOption o P (λ y. IsWholeChunk bytes (now y) n) → o ≡ Some x
    → now x ≡ bytes
array_is P n now cases is = (MatchOption-at_some _ _ _ is cases).same
