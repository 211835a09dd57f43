-- A memory in range holds codes at the module's locations, cycles of the machine keep codes there, and bytes that take them in stay in
-- range.
use Prim.Native.Nat.{ℕ, zero, suc, ◌≤◌}
use mathlib.Core.Path.{◌≡◌, sym, subst, ◌∙◌}
use mathlib.Core.Bool.{Bool, true, false}
use mathlib.Core.List.{List}
use lib.Dec.{ltb}
use lib.ListN.{get_or}
use Rattle.logic.specs.Test.{◌and◌}
use Rattle.model.specs.Network.{Signal}
use Rattle.model.specs.Module.{Laid}
use Rattle.model.specs.Machine.{Memory, cycle}
use Rattle.model.specs.Session.{runs, ticks}
use Rattle.model.proofs.Machine.{Small, cycle_small}
use Rattle.model.proofs.Runs.{runs_exact}
use Rattle.buffers_memory.specs.Memory.{blank, place, memory_of, written_at, within, with_memory}
use Rattle.buffers_memory.proofs.Written.{Place, written_at_lem, written_values}
use Rattle.buffers_memory.proofs.Values.{places_small, small_coded}
use Rattle.buffers_tables.specs.Panel.{processors_in, slots_in}
use Rattle.buffers_tables.specs.Tables.{network_in, module_in}
use Rattle.buffers_tables.proofs.Codes.{gates_small}
use Rattle.buffers_range.proofs.Ranged.{Values, head_ranged_lem, memory_in_range}
use Rattle.buffers_range.specs.Ranges.{ranged}

module _ (panel program : List ℕ) where
  pub small_in : (memory : List ℕ) → ranged panel program memory ≡ true → Small (module_in panel program) (memory_of memory)
  unfolding module_in
  small_in memory h =
      let head = head_ranged_lem panel program memory h in
      places_small (module_in panel program) head.processors_high head.slots_high memory
      (λ p part k there. (memory_in_range panel program memory h).values there)

  module _ (laid : Laid (network_in panel program) (module_in panel program)) (row : ℕ → ℕ)
      (codes : (s : ℕ) → Signal (network_in panel program) s → row s ≤ 3) where
    pub ticks_small : (k : ℕ) (w : Memory) → Small (module_in panel program) w
        → Small (module_in panel program) (ticks (cycle (network_in panel program) (module_in panel program) row) k w)
    unfolding ticks
    ticks_small zero w small = small
    ticks_small (suc k) w small =
        ticks_small k (cycle (network_in panel program) (module_in panel program) row w)
        (cycle_small laid (gates_small panel program) row (λ s g i. codes s g) small)

    pub run_small : (stops : Memory → Bool) (k : ℕ) (w : Memory) → Small (module_in panel program) w
        → Small (module_in panel program) (runs (cycle (network_in panel program) (module_in panel program) row) stops k w).state
    run_small stops k w small =
        let tick = cycle (network_in panel program) (module_in panel program) row in
        subst (Small (module_in panel program)) (sym (runs_exact tick stops k w).state)
        (ticks_small (runs tick stops k w).count w small)

module _ (panel program old : List ℕ) (w : Memory) where
  abbrev test : ℕ → ℕ → ℕ → Bool
  test p part k = within (processors_in panel) (slots_in panel) p k and ltb part blank

  abbrev now : List ℕ
  now = with_memory (processors_in panel) (slots_in panel) w old

  -- outside the module's locations a byte stays
  held_else : {p part k : ℕ} → Place p part k → test p part k ≡ false → get_or now (place p part k) 0 ≡ get_or old (place p part k) 0
  unfolding written_at
  held_else {p} {part} {k} a e = written_at_lem (within (processors_in panel) (slots_in panel)) w old a ∙ rw e

  pub with_memory_values : Small (module_in panel program) w → Values panel old → Values panel now
  unfolding module_in
  with_memory_values small v =
      record {
        values = λ {p} {part} {k} a.
            written_values (within (processors_in panel) (slots_in panel)) w old (small_coded (module_in panel program) small) (λ q x j there. v.values there) p part k a;
        rest = λ a e. held_else a e ∙ v.rest a e;
      }
