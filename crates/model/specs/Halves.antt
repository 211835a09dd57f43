-- The two halves by number, and the roles that they have in a cycle: cycle t stores half t % 2 and reads the other as the earlier one.
use Rattle.std.specs.Prelude.{ℕ, ◌+◌, ◌%◌, eqb}
use Rattle.std.specs.Prelude.{if◌then◌else◌}
use Rattle.model.specs.Network.{Network}
use Rattle.model.specs.Module.{Module}
use Rattle.model.specs.Machine.{Memory, slots}

-- half h of the local and of the switch memory, by processor and location
pub record Halves : Type 0 where
  pub local : ℕ → ℕ → ℕ → ℕ
  pub switch : ℕ → ℕ → ℕ → ℕ

-- the halves as cycle t finds them
unfoldable pub roles : ℕ → Halves → Memory
roles t h =
    record {
      earlier_local = h.local ((t + 1) % 2);
      present_local = h.local (t % 2);
      earlier_switch = h.switch ((t + 1) % 2);
      present_switch = h.switch (t % 2);
    }

-- the halves with half t % 2 as the slots of cycle t leave it
unfoldable pub storing : ℕ → Memory → Halves → Halves
storing t w h =
    record {
      local = λ x. if eqb x (t % 2) then w.present_local else h.local x;
      switch = λ x. if eqb x (t % 2) then w.present_switch else h.switch x;
    }

unfoldable pub cycle_of_halves : Network → Module → (ℕ → ℕ) → ℕ → Halves → Halves
cycle_of_halves n m row t h = storing t (slots n m row m.slots (roles t h)) h
