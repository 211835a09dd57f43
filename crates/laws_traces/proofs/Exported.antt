-- The contracts of the functions that cavundir_panel_c exports for C are `Turns` and `TurnsBack`: they ask nothing, and whatever is told of the bits and of the
-- buffer at the return is what these say. So the theorems of `Chained` are about these functions.
use Prim.Native.Nat.{ℕ}
use contract.Lifetimes.{Lfts}
use denote.Triple.Clauses.{AtExit}
use borrow.Fn.Kinds.{Dens, ended_of}
use Rattle.cavundir_panel.proofs.cavundir_turn.Kinds.{ps as turn-ps, r as turn-r}
use Rattle.cavundir_panel.proofs.cavundir_turn.Reads.{Asked as TurnAsks, Learnt as TurnTells}
use Rattle.cavundir_panel.proofs.cavundir_turn_back.Kinds.{ps as back-ps, r as back-r}
use Rattle.cavundir_panel.proofs.cavundir_turn_back.Reads.{Asked as BackAsks, Learnt as BackTells}
use Rattle.laws_traces.specs.Calls.{Turns, TurnsBack}

module _ (κs : Lfts 2) where
  module _ (a : Dens κs turn-ps) where
    pub turn_asks_nothing : TurnAsks κs a
    turn_asks_nothing = tt

    pub turn_turns : (bits : ℕ) (left : AtExit (ended_of 2 turn-ps turn-r) κs) → TurnTells κs a bits left
        → Turns a.0.now a.1.0.now a.1.1.0 bits left.1.0.now
    turn_turns bits left (answer, block) = record { answer = answer; leaves = block }

  module _ (a : Dens κs back-ps) where
    pub back_asks_nothing : BackAsks κs a
    back_asks_nothing = tt

    pub back_turns_back : (bits : ℕ) (left : AtExit (ended_of 2 back-ps back-r) κs) → BackTells κs a bits left
        → TurnsBack a.0.now a.1.0.now a.1.1.0 bits left.1.0.now
    back_turns_back bits left (answer, values) = record { answer = answer; leaves = values }
