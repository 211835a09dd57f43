-- After every cycle the lockstep machine holds VAL at the place of every signal: it keeps step with the plain session's rows.
use Prim.Native.Nat.{ℕ}
use mathlib.Core.Path.{◌≡◌, refl, sym, ◌∙◌}
use mathlib.Core.List.{List, [], ◌∷◌}
use lib.ListN.{length, drop}
use lib.Seq.{drop-nil}
use Rattle.model.specs.Network.{Network, Signal}
use Rattle.model.specs.Value.{Step, start, VAL, FollowsAlways}
use Rattle.model.specs.Module.{Module, At}
use Rattle.model.specs.Machine.{Memory, cycle, opening, after}
use Rattle.model.specs.Session.{plain, lockstep}
use Rattle.model.specs.Demands.{Places}
use Rattle.model.proofs.Conditions.{Formed, Acyclic, Scheduled}
use Rattle.model.proofs.Value.{SameInputs, next_step, table_unique}
use Rattle.model.proofs.Machine.{Holds, Near, next_cycle, at_start, at_signal, holds_near}
use Rattle.model.proofs.Session.{KeepStep}

-- a step of other rows that agree on the inputs
step_rows : (n : Network) (row other a b : ℕ → ℕ) → SameInputs n row other → Step n other a b → Step n row a b
step_rows n row other a b same st =
    record { input_rule = λ s g k. st.input_rule s g k ∙ sym (same s g k); unit_rule = st.unit_rule; rank_rule = st.rank_rule }

module _ {n : Network} {m : Module} (formed : Formed n) (acyclic : Acyclic n) (ok : Scheduled n m) (given : ℕ → ℕ) where
  -- the memory w keeps step with the rows: it holds VAL of them and of the rows before them; before time 0 stands time 0
  pub record Kept (w : Memory) (rows : List (ℕ → ℕ)) : Type 0 where
    pub holds : Holds m (λ age. VAL n given (drop age rows)) (length rows) w

  pub VAL_step : (row : ℕ → ℕ) (rows : List (ℕ → ℕ)) → Step n row (VAL n given rows) (VAL n given (row ∷ rows))
  unfolding VAL
  VAL_step row rows = next_step n formed acyclic row (VAL n given rows)

  pub kept_cycle : (row hand : ℕ → ℕ) → SameInputs n row hand → (w : Memory) (rows : List (ℕ → ℕ)) → Kept w rows → Kept (cycle n m row w) (hand ∷ rows)
  kept_cycle row hand same w rows k =
      record {
        holds =
            next_cycle ok formed (λ age. VAL n given (drop age (hand ∷ rows))) (step_rows n row hand _ _ same (VAL_step hand rows))
            k.holds;
      }

  pub kept_places : (w : Memory) (rows : List (ℕ → ℕ)) → Kept w rows → Places n m w (VAL n given rows)
  kept_places w rows k s p i g a is = at_signal k.holds a is g.low

  pub kept_near : (w u : Memory) (rows : List (ℕ → ℕ)) → Near m w u → Kept u rows → Kept w rows
  kept_near w u rows near k = record { holds = holds_near near k.holds }

  -- before cycle 1
  pub kept_opening : Kept (opening m (start n given)) []
  unfolding VAL
  kept_opening = record { holds = at_start ok (λ age s g. rw drop-nil) }

  pub kept_after : (rows : List (ℕ → ℕ)) → Kept (after n m (opening m (start n given)) rows) rows
  unfolding after
  kept_after [] = kept_opening
  kept_after (row ∷ rows) = kept_cycle row row (λ s g k. refl) _ rows (kept_after rows)

  -- The theorem: after the cycles of any rows, every place holds VAL
  pub machine_holds_VAL : (rows : List (ℕ → ℕ)) → Places n m (after n m (opening m (start n given)) rows) (VAL n given rows)
  machine_holds_VAL rows = kept_places _ rows (kept_after rows)

  -- values that follow the rules are at the places too
  module _ (table : List (ℕ → ℕ) → ℕ → ℕ) (follows : FollowsAlways n given table) where
    pub kept_table : (w : Memory) (rows : List (ℕ → ℕ)) → Kept w rows → Places n m w (table rows)
    kept_table w rows k s p i g a is = kept_places w rows k s p i g a is ∙ sym (table_unique n formed acyclic given table follows rows s g)

    -- and the machine keeps step with the plain session, a signal being read wherever it is placed
    module _ (processor slot : ℕ → ℕ)
        (placed : (s : ℕ) → Signal n s → At m (processor s) (slot s) × (m.signal (processor s) (slot s) ≡ s)) where
      abbrev pub keeps : KeepStep n (lockstep n m processor slot) (plain table)
      keeps =
          record {
            R = Kept;
            step = kept_cycle;
            same = λ w rows k s g. kept_table w rows k s (processor s) (slot s) g (placed s g).0 (placed s g).1;
          }
