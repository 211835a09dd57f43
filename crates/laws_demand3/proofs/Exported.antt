-- What the contracts of the functions that cavundir_panel_c exports for C promise is what demand 3 takes of a call. `Asked` and `Learnt` are what each
-- function's `requires` asks and what its `ensures` tells a caller, handed on by its crate. They ask nothing; and for any references
-- lent, whatever is told of the result and of the buffers at the return is `Meets`, or `Opens`; a call that met its contract stands in a list
-- of calls (`own_stands`, `other_stands` in laws_engine).
use Prim.Native.Nat.{ℕ}
use mathlib.Core.Path.{◌≡◌, sym}
use contract.Lifetimes.{Lfts}
use denote.Triple.Clauses.{AtExit}
use borrow.Fn.Kinds.{Dens, ended_of}
use Rattle.model.specs.Files.{files_of}
use Rattle.model.specs.Acceptance.{panel_limit}
use Rattle.model.specs.Session.{Call, set, watch, read, run}
use Rattle.session_answers.specs.Answers.{answer_bits}
use Rattle.session_calls.specs.Reply.{Buffers, buffers_of, reply}
use Rattle.cavundir_panel.proofs.cavundir_set.Kinds.{ps as set_ps, r as set-r}
use Rattle.cavundir_panel.proofs.cavundir_set.Reads.{Asked as SetAsks, Learnt as SetTells}
use Rattle.cavundir_panel.proofs.cavundir_watch.Kinds.{ps as watch-ps, r as watch-r}
use Rattle.cavundir_panel.proofs.cavundir_watch.Reads.{Asked as WatchAsks, Learnt as WatchTells}
use Rattle.cavundir_panel.proofs.cavundir_read.Kinds.{ps as read-ps, r as read-r}
use Rattle.cavundir_panel.proofs.cavundir_read.Reads.{Asked as ReadAsks, Learnt as ReadTells}
use Rattle.cavundir_panel.proofs.cavundir_run.Kinds.{ps as run-ps, r as run-r}
use Rattle.cavundir_panel.proofs.cavundir_run.Reads.{Asked as RunAsks, Learnt as RunTells}
use Rattle.cavundir_panel.proofs.cavundir_open.Kinds.{ps as open-ps, r as open-r}
use Rattle.cavundir_panel.proofs.cavundir_open.Reads.{Asked as OpenAsks, Learnt as OpenTells}
use Rattle.laws_engine.specs.Lending.{Meets}
use Rattle.laws_demand3.specs.Lockstep.{lockstep_calls, Opens}

meets : (b : Buffers) (c : Call) (bits : ℕ) (b' : Buffers) → (bits ≡ answer_bits (reply b c).answer) × ((reply b c).buffers ≡ b') → Meets lockstep_calls b c bits b'
meets b c bits b' (p, q) = record { answer = p; leaves = sym q }

module _ (κs : Lfts 3) where
  module _ (a : Dens κs set_ps) where
    pub set_asks_nothing : SetAsks κs a
    set_asks_nothing = tt

    pub set_meets : (bits : ℕ) (left : AtExit (ended_of 3 set_ps set-r) κs) → SetTells κs a bits left
        → Meets lockstep_calls (buffers_of a.0.now a.1.0.now a.1.1.0.now) (set a.1.1.1.0 a.1.1.1.1.0) bits
        (buffers_of left.0.now a.1.0.now a.1.1.0.now)
    set_meets bits left told = meets _ _ _ _ told

  module _ (a : Dens κs watch-ps) where
    pub watch_asks_nothing : WatchAsks κs a
    watch_asks_nothing = tt

    pub watch_meets : (bits : ℕ) (left : AtExit (ended_of 3 watch-ps watch-r) κs) → WatchTells κs a bits left
        → Meets lockstep_calls (buffers_of a.0.now a.1.0.now a.1.1.0.now) (watch a.1.1.1.0 a.1.1.1.1.0) bits
        (buffers_of left.0.now a.1.0.now a.1.1.0.now)
    watch_meets bits left told = meets _ _ _ _ told

  module _ (a : Dens κs read-ps) where
    pub read_asks_nothing : ReadAsks κs a
    read_asks_nothing = tt

    pub read_meets : (bits : ℕ) (left : AtExit (ended_of 3 read-ps read-r) κs) → ReadTells κs a bits left
        → Meets lockstep_calls (buffers_of a.0.now a.1.0.now a.1.1.0.now) (read a.1.1.1.0) bits
        (buffers_of a.0.now a.1.0.now a.1.1.0.now)
    read_meets bits left told = meets _ _ _ _ told

  module _ (a : Dens κs run-ps) where
    pub run_asks_nothing : RunAsks κs a
    run_asks_nothing = tt

    pub run_meets : (bits : ℕ) (left : AtExit (ended_of 3 run-ps run-r) κs) → RunTells κs a bits left
        → Meets lockstep_calls (buffers_of a.0.now a.1.0.now a.1.1.0.now) (run a.1.1.1.0) bits
        (buffers_of left.0.now a.1.0.now left.1.1.0.now)
    run_meets bits left told = meets _ _ _ _ told

module _ (κs : Lfts 6) (a : Dens κs open-ps) where
  pub open_asks_nothing : OpenAsks κs a
  open_asks_nothing = tt

  pub open_opens : (bits : ℕ) (left : AtExit (ended_of 6 open-ps open-r) κs) → OpenTells κs a bits left
      → Opens panel_limit (files_of a.0.now a.1.0.now a.1.1.0.now)
      (buffers_of a.1.1.1.0.now a.1.1.1.1.0.now a.1.1.1.1.1.0.now)
      (buffers_of left.1.1.1.0.now left.1.1.1.1.0.now left.1.1.1.1.1.0.now) bits
  open_opens bits left (answer, (panel, (program, memory))) = record { answer = answer; panel = panel; program = program; memory = memory }
