-- The bytes that the machine leaves hold VAL at the place of every signal, for accepted files: what `load` writes, and what every cycle
-- and every run leaves after it, by the contracts of `buffers_load` and `machine_run`. The idea: the bytes' memory keeps step with the rows, and the
-- tables run as the files' own machine.
use Prim.Native.Nat.{ℕ, zero, suc, ◌≤◌}
use mathlib.Core.Path.{◌≡◌, refl, sym, subst}
use mathlib.Core.List.{List, [], ◌∷◌}
use Rattle.logic.specs.Listed.{listed}
use Rattle.model.specs.Files.{Files}
use Rattle.model.specs.Network.{Network}
use Rattle.model.specs.Value.{start}
use Rattle.model.specs.Module.{Module}
use Rattle.model.specs.Machine.{Memory, cycle, opening}
use Rattle.model.specs.ModuleFile.{module_of}
use Rattle.model.specs.Session.{Watch, runs, ticks, watched}
use Rattle.model.specs.Acceptance.{panel_limit, network_of, module_of_files, given_of, Accepted}
use Rattle.model.proofs.Conditions.{Formed, Acyclic, Scheduled}
use Rattle.model.proofs.Value.{SameInputs}
use Rattle.model.proofs.Machine.{Near, near_refl}
use Rattle.model.proofs.Keeping.{Kept, kept_cycle, kept_near, kept_opening}
use Rattle.model.proofs.Runs.{runs_exact}
use Rattle.model.proofs.Accepted.{mod_accepted, mod_processors_lem, mod_slots_lem}
use Rattle.model.proofs.Demands.{accepted_formed, accepted_acyclic, accepted_scheduled}
use Rattle.buffers_memory.specs.Memory.{memory_length, memory_of, with_memory}
use Rattle.buffers_memory.proofs.Near.{with_memory_near}
use Rattle.buffers_tables.specs.Panel.{processors_in, slots_in, hand_in}
use Rattle.buffers_tables.specs.Tables.{network_in, module_in}
use Rattle.buffers_tables.specs.Holding.{Holding}
use Rattle.machine_run.specs.Running.{cycle_in, value_in, run_in}
use Rattle.buffers_load_files.specs.Loaded.{opening_bytes}
use Rattle.laws_values.proofs.Same.{cycle_same}

-- a memory written into the module's locations of the bytes is the bytes' memory there
pub written_near : {n : Network} {m : Module} {panel program : List ℕ} → Holding n m panel program → m.processors ≤ 16 → m.slots ≤ 256
    → (w : Memory) (old : List ℕ) → Near m (memory_of (with_memory (processors_in panel) (slots_in panel) w old)) w
unfolding module_in
written_near {n} {m} {panel} {program} holding few short w old =
    subst (λ (c : ℕ). Near m (memory_of (with_memory (processors_in panel) c w old)) w) (sym holding.lines.slots)
    (subst (λ (p : ℕ). Near m (memory_of (with_memory p m.slots w old)) w) (sym holding.lines.processors) (with_memory_near m few short w old))

module _ {limit : ℕ} (few : limit ≤ panel_limit) (files : Files) (accepted : Accepted limit files) where
  abbrev n : Network
  n = network_of files

  abbrev m : Module
  m = module_of_files files

  abbrev formed : Formed n
  formed = accepted_formed limit files accepted

  abbrev acyclic : Acyclic n
  acyclic = accepted_acyclic limit files accepted

  abbrev ok : Scheduled n m
  ok = accepted_scheduled limit files accepted

  -- the bytes hold VAL of the rows, and of the cycle before
  abbrev pub Holds : List ℕ → List (ℕ → ℕ) → Type 0
  Holds bytes rows = Kept formed acyclic ok (given_of files) (memory_of bytes) rows

  pub processors_few : m.processors ≤ 16
  unfolding module_of
  processors_few = (mod_processors_lem n files.MOD (mod_accepted limit files accepted)).1

  pub slots_few : m.slots ≤ 256
  unfolding module_of
  slots_few = (mod_slots_lem n files.MOD (mod_accepted limit files accepted)).1

  module _ (panel program : List ℕ) (holding : Holding n m panel program) where
    -- the tables' machine keeps step, with rows that have the inputs' values in hand
    cycle_kept : (row : ℕ → ℕ) → SameInputs n (hand_in panel) row → (w : Memory) (rows : List (ℕ → ℕ))
        → Kept formed acyclic ok (given_of files) w rows → Kept formed acyclic ok (given_of files) (cycle_in panel program w) (row ∷ rows)
    cycle_kept row same w rows k =
        kept_near formed acyclic ok (given_of files) (cycle_in panel program w) (cycle n m (hand_in panel) w) (row ∷ rows)
        (cycle_same (network_in panel program) holding.lines ok.laid holding.signals.kinds holding.signals.gates (hand_in panel) near_self)
        (kept_cycle formed acyclic ok (given_of files) (hand_in panel) row same w rows k)
      where
        near_self : Near m w w
        near_self = near_refl

    ticks_kept : (j : ℕ) (w : Memory) (rows : List (ℕ → ℕ)) → Kept formed acyclic ok (given_of files) w rows
        → Kept formed acyclic ok (given_of files) (ticks (cycle_in panel program) j w) (ticks (λ r. hand_in panel ∷ r) j rows)
    unfolding ticks
    ticks_kept zero w rows k = k
    ticks_kept (suc j) w rows k = ticks_kept j (cycle_in panel program w) (hand_in panel ∷ rows) (cycle_kept (hand_in panel) (λ s g i. refl) w rows k)

    written_kept : (w : Memory) (old : List ℕ) (rows : List (ℕ → ℕ)) → Kept formed acyclic ok (given_of files) w rows
        → Holds (with_memory (processors_in panel) (slots_in panel) w old) rows
    written_kept w old rows k =
        kept_near formed acyclic ok (given_of files) (memory_of (with_memory (processors_in panel) (slots_in panel) w old)) w rows (written_near holding processors_few slots_few w old) k

    -- one cycle, as its contract leaves the bytes
    pub cycle_holds : (bytes left : List ℕ) (row : ℕ → ℕ) (rows : List (ℕ → ℕ)) → SameInputs n (hand_in panel) row → Holds bytes rows
        → left ≡ with_memory (processors_in panel) (slots_in panel) (cycle_in panel program (memory_of bytes)) bytes → Holds left (row ∷ rows)
    cycle_holds bytes left row rows same k e =
        subst (λ (l : List ℕ). Holds l (row ∷ rows)) (sym e)
        (written_kept (cycle_in panel program (memory_of bytes)) bytes (row ∷ rows) (cycle_kept row same (memory_of bytes) rows k))

    -- a run, as its contract leaves the bytes
    pub run_holds : (bytes left : List ℕ) (rows : List (ℕ → ℕ)) (watch : Watch) (k : ℕ) → Holds bytes rows
        → left ≡ with_memory (processors_in panel) (slots_in panel) (run_in panel program watch k (memory_of bytes)).state bytes
        → Holds left (ticks (λ r. hand_in panel ∷ r) (run_in panel program watch k (memory_of bytes)).count rows)
    unfolding run_in
    run_holds bytes left rows watch k holds e =
        let ran = runs (cycle_in panel program) (λ w. watched watch.mask (value_in panel w watch.signal)) k (memory_of bytes) in
        let exact = runs_exact (cycle_in panel program) (λ w. watched watch.mask (value_in panel w watch.signal)) k (memory_of bytes) in
        subst (λ (l : List ℕ). Holds l (ticks (λ r. hand_in panel ∷ r) ran.count rows)) (sym e)
        (written_kept ran.state bytes (ticks (λ r. hand_in panel ∷ r) ran.count rows)
        (subst (λ (w : Memory). Kept formed acyclic ok (given_of files) w (ticks (λ r. hand_in panel ∷ r) ran.count rows)) (sym exact.state)
        (ticks_kept ran.count (memory_of bytes) rows holds)))

  -- before cycle 1, as `load` leaves the bytes
  pub opening_holds : Holds (opening_bytes files) []
  unfolding opening_bytes module_of
  opening_holds =
      kept_near formed acyclic ok (given_of files) (memory_of (opening_bytes files)) (opening m (start n (given_of files))) []
      (with_memory_near m processors_few slots_few (opening m (start n (given_of files))) (listed memory_length (λ a. 0)))
      (kept_opening formed acyclic ok (given_of files))
