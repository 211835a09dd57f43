-- Slots, cycles and runs of the code are those of the model's machine, on the bytes that hold its memory.
use Prim.Native.Nat.{ℕ, zero, suc, ◌+◌, ◌<◌, ◌≤◌}
use mathlib.Core.Path.{◌≡◌, refl, sym, ◌∙◌, ap}
use mathlib.Core.Bool.{Bool, true, false}
use mathlib.Core.List.{List}
use native.Mathlib.Omega.{arith}
use native.Mathlib.Numerals.{add-one}
use lib.ListN.{length}
use Rattle.model.specs.Network.{Network}
use Rattle.model.specs.Module.{Module, At, Laid}
use Rattle.model.specs.Machine.{Memory, slot, slots, alternate, cycle}
use Rattle.model.specs.Session.{Run, unless_stopped, runs, ticks, watched}
use Rattle.model.proofs.Machine.{slot_near, near_alternated, cycle_near}
use Rattle.buffers_memory.specs.Memory.{memory_length, memory_of, within, with_memory}
use Rattle.buffers_memory.proofs.Written.{written_self}
use Rattle.buffers_memory.proofs.Near.{with_memory_near, with_memory_step}

module _ (n : Network) (m : Module) (laid : Laid n m) (few : m.processors ≤ 16) (short : m.slots ≤ 256) (row : ℕ → ℕ) (old : List ℕ) where
  pub slots_none : length old ≡ memory_length → old ≡ with_memory m.processors m.slots (slots n m row 0 (memory_of old)) old
  unfolding slots
  slots_none size = written_self (within m.processors m.slots) old size

  pub slots_more : (l r : List ℕ) (i : ℕ) → i < m.slots → l ≡ with_memory m.processors m.slots (slots n m row i (memory_of old)) old
      → r ≡ with_memory m.processors m.slots (slot n m row i (memory_of l)) l
      → r ≡ with_memory m.processors m.slots (slots n m row (i + 1) (memory_of old)) old
  unfolding slots
  slots_more l r i low el er =
      let q = add-one i in
      with_memory_step m few short (slot n m row i) (λ w u near. slot_near laid row i low near) (slots n m row i (memory_of old)) old l r el er
      ∙ ap (λ (x : ℕ). with_memory m.processors m.slots (slots n m row x (memory_of old)) old) (sym q)

  pub cycle_done : (l r : List ℕ) (p c : ℕ) → p ≡ m.processors → c ≡ m.slots
      → l ≡ with_memory m.processors m.slots (slots n m row m.slots (memory_of old)) old
      → r ≡ with_memory p c (alternate (memory_of l)) l → r ≡ with_memory m.processors m.slots (cycle n m row (memory_of old)) old
  unfolding cycle
  cycle_done l r p c ep ec el er =
      with_memory_step m few short alternate (λ w u near. near_alternated near) (slots n m row m.slots (memory_of old)) old l r el
      (er ∙ ap (λ (x : ℕ). with_memory x c (alternate (memory_of l)) l) ep ∙ ap (λ (x : ℕ). with_memory m.processors x (alternate (memory_of l)) l) ec)

-- one cycle more, at the end
ticks_more : {S : Type 0} (tick : S → S) (j : ℕ) (s : S) → ticks tick (suc j) s ≡ tick (ticks tick j s)
unfolding ticks
ticks_more tick zero s = refl
ticks_more tick (suc j) s = ticks_more tick j (tick s)

-- no watched value up to cycle j
abbrev pub QuietTo : (Memory → Memory) → (Memory → Bool) → Memory → ℕ → Type 0
QuietTo tick stops w j = (i : ℕ) → 1 ≤ i → i ≤ j → stops (ticks tick i w) ≡ false

-- a run that shows a watched value after cycle j, and not before, stops there; one that never shows it does all cycles
module _ {S : Type 0} (tick : S → S) (stops : S → Bool) where
  pub run_stops : (k j : ℕ) (s : S) → suc j ≤ k → ((i : ℕ) → 1 ≤ i → i ≤ j → stops (ticks tick i s) ≡ false) → stops (ticks tick (suc j) s) ≡ true
      → runs tick stops k s ≡ record { count = suc j; stopped = true; state = ticks tick (suc j) s }
  unfolding runs unless_stopped ticks
  run_stops zero j s h none last = absurd (omega arith)
  run_stops (suc k) zero s h none last = rw last
  run_stops (suc k) (suc j) s h none last =
      let rest = run_stops k j (tick s) (omega arith) (λ i a b. none (suc i) (omega arith) (omega arith)) last in
      rw (none 1 (omega arith) (omega arith), rest)

  pub run_whole : (k : ℕ) (s : S) → ((i : ℕ) → 1 ≤ i → i ≤ k → stops (ticks tick i s) ≡ false)
      → runs tick stops k s ≡ record { count = k; stopped = false; state = ticks tick k s }
  unfolding runs unless_stopped ticks
  run_whole zero s none = refl
  run_whole (suc k) s none =
      let rest = run_whole k (tick s) (λ i a b. none (suc i) (omega arith) (omega arith)) in
      rw (none 1 (omega arith) (omega arith), rest)

module _ (n : Network) (m : Module) (laid : Laid n m) (few : m.processors ≤ 16) (short : m.slots ≤ 256) (row : ℕ → ℕ) (old : List ℕ) where
  abbrev after : ℕ → Memory
  after j = ticks (cycle n m row) j (memory_of old)

  pub cycles_none : length old ≡ memory_length → old ≡ with_memory m.processors m.slots (after 0) old
  unfolding ticks
  cycles_none size = written_self (within m.processors m.slots) old size

  pub cycles_more : (l r : List ℕ) (j : ℕ) → l ≡ with_memory m.processors m.slots (after j) old
      → r ≡ with_memory m.processors m.slots (cycle n m row (memory_of l)) l → r ≡ with_memory m.processors m.slots (after (j + 1)) old
  cycles_more l r j el er =
      let q = add-one j in
      with_memory_step m few short (cycle n m row) (λ w u near. cycle_near laid row near) (after j) old l r el er
      ∙ ap (λ (w : Memory). with_memory m.processors m.slots w old) (sym (ticks_more (cycle n m row) j (memory_of old)))
      ∙ ap (λ (x : ℕ). with_memory m.processors m.slots (after x) old) (sym q)

  -- the test of a value that is read at the place of signal s
  pub stop_told : (mask : ℕ) (processor location : ℕ → ℕ) (s : ℕ) → At m (processor s) (location s) → (j : ℕ) (b : Bool) (l : List ℕ) (v : ℕ)
      → l ≡ with_memory m.processors m.slots (after j) old → v ≡ (memory_of l).earlier_local (processor s) (location s)
      → b ≡ watched mask v → watched mask ((after j).earlier_local (processor s) (location s)) ≡ b
  stop_told mask processor location s a j b l v e q t =
      ap (watched mask)
      (sym
      (q ∙ ap (λ (y : List ℕ). (memory_of y).earlier_local (processor s) (location s)) e
      ∙ (with_memory_near m few short (after j) old).earlier_local (processor s) (location s) a))
      ∙ sym t

  module _ (stops : Memory → Bool) (k : ℕ) where
    abbrev ran : Run Memory
    ran = runs (cycle n m row) stops k (memory_of old)

    abbrev Quiet : ℕ → Type 0
    Quiet j = QuietTo (cycle n m row) stops (memory_of old) j

    pub ran_stopped : (j : ℕ) (r : List ℕ) → j + 1 ≤ k → Quiet j → r ≡ with_memory m.processors m.slots (after (j + 1)) old → stops (after (j + 1)) ≡ true
        → (j + 1 ≡ ran.count) × (true ≡ ran.stopped) × (r ≡ with_memory m.processors m.slots ran.state old)
    ran_stopped j r h quiet er last =
        let q = add-one j in
        let e = run_stops (cycle n m row) stops k j (memory_of old) (omega arith) quiet (ap (λ (x : ℕ). stops (after x)) (sym q) ∙ last) in (
          q ∙ ap (λ (x : Run Memory). x.count) (sym e),
          ap (λ (x : Run Memory). x.stopped) (sym e),
          er ∙ ap (λ (x : ℕ). with_memory m.processors m.slots (after x) old) q
              ∙ ap (λ (x : Run Memory). with_memory m.processors m.slots x.state old) (sym e),
        )

    pub ran_whole : (r : List ℕ) → Quiet k → r ≡ with_memory m.processors m.slots (after k) old
        → (k ≡ ran.count) × (false ≡ ran.stopped) × (r ≡ with_memory m.processors m.slots ran.state old)
    ran_whole r quiet er =
        let e = run_whole (cycle n m row) stops k (memory_of old) quiet in (
          ap (λ (x : Run Memory). x.count) (sym e),
          ap (λ (x : Run Memory). x.stopped) (sym e),
          er ∙ ap (λ (x : Run Memory). with_memory m.processors m.slots x.state old) (sym e),
        )
