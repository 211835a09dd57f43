-- What STIM's first lines give: those of a later time add nothing, and it does not matter up to which later time they are asked.
use Prim.Native.Nat.{ℕ, zero, suc, ◌<◌, ◌≤◌}
use mathlib.Core.Path.{◌≡◌, refl, ◌∙◌}
use mathlib.Core.Bool.{Bool, true, false}
use mathlib.Core.List.{List}
use native.Mathlib.Omega.{arith}
use native.Mathlib.Decide.{le_ind}
use lib.Dec.{eqb}
use borrow.Author.Tests.{le-leb, lt-leb}
use Rattle.logic.specs.Test.{◌and◌}
use Rattle.std.specs.Prelude.{if◌then◌else◌}
use Rattle.model.specs.Refusal.{pass}
use Rattle.model.specs.Network.{Network}
use Rattle.model.specs.Stimulus.{stim_time, stim_signal, stim_value, stim_check, stim_count, last_given}
use Rattle.model.proofs.Accepted.{stim_right, times_rise}

-- the lines from one of a later time on
pub nothing_later : (n : Network) (stim : List ℕ) → stim_check n stim ≡ pass → (t line : ℕ) → (line < stim_count stim → t < stim_time stim line)
    → (s k : ℕ) → line ≤ k → k ≤ stim_count stim → last_given stim t s k ≡ last_given stim t s line
unfolding last_given ◌and◌
nothing_later n stim passes t line later s k l =
    le_ind (λ (x : ℕ). x ≤ stim_count stim → last_given stim t s x ≡ last_given stim t s line) (λ h. refl)
    (λ x m before h. step x m h ∙ before (omega arith)) k l
  where
    step : (x : ℕ) → line ≤ x → suc x ≤ stim_count stim → last_given stim t s (suc x) ≡ last_given stim t s x
    step x m h =
        let above : t < stim_time stim x = omega (arith, later (omega arith), times_rise n stim (stim_right n stim passes) line x m (omega arith)) in
        rw (lt-leb (stim_time stim x) t above) (go (eqb (stim_signal stim x) s))
      where
        go : (b : Bool) → (if b and false then stim_value stim x else last_given stim t s x) ≡ last_given stim t s x
        go true = refl
        go false = refl

-- lines up to time t, asked up to t or later
pub given_by_then : (stim : List ℕ) (t u line : ℕ) → ((k : ℕ) → k < line → stim_time stim k ≤ t) → t ≤ u → (s : ℕ)
    → last_given stim t s line ≡ last_given stim u s line
unfolding last_given
given_by_then stim t u zero earlier h s = refl
given_by_then stim t u (suc k) earlier h s =
    rw (
      le-leb (stim_time stim k) t (earlier k (omega arith)),
      le-leb (stim_time stim k) u (let l = earlier k (omega arith) in omega arith),
      given_by_then stim t u k (λ x l. earlier x (omega arith)) h s,
    )
