-- The time 0 values: U at first, then as STIM's lines of time 0 give them; the lines after the first later one add nothing.
use Prim.Native.Nat.{ℕ, ◌+◌, ◌<◌, ◌≤◌}
use mathlib.Core.Path.{◌≡◌, refl, sym, ◌∙◌, ap}
use mathlib.Core.Bool.{true}
use mathlib.Core.List.{List}
use native.Mathlib.Omega.{arith}
use native.Mathlib.Decide.{ℕ_discrete}
use native.Mathlib.Numerals.{add-one}
use lib.ListN.{length, get_or, set, length-set}
use lib.Seq.{get_or-set_same, get_or-set_other}
use borrow.Author.Tests.{eq-eqb, ne_eqb, le-leb}
use Rattle.logic.specs.Test.{◌and◌}
use Rattle.logic.specs.Listed.{listed}
use Rattle.logic.proofs.Listed.{listed_length, listed_at, is_listed}
use Rattle.logic.proofs.Tests.{and_true}
use Rattle.model.specs.Refusal.{pass}
use Rattle.model.specs.Network.{is_signal}
use Rattle.model.specs.Netlist.{network, net_size}
use Rattle.model.specs.Stimulus.{stim_time, stim_signal, stim_value, stim_check, stim_count, last_given, held}
use Rattle.model.specs.Checked.{Checked}
use Rattle.model.proofs.Value.{start_given}
use Rattle.model.proofs.Accepted.{stim_right}
use Rattle.model.proofs.Checked.{checked_size}
use Rattle.file_stim.specs.declared.Line.{Line}
use Rattle.file_stim.proofs.Steps.{GivenAt}
use Rattle.file_stim.proofs.Passed.{nothing_later}
use Rattle.buffers_load_files.specs.Loaded.{time_zero_from}
use Rattle.buffers_load_values.specs.Values.{undefined_to, given_below}

-- the array after the first lines
pub record GivenTo (net stim : List ℕ) (line : ℕ) (values : List ℕ) : Type 0 where
  pub size : length values ≡ 4097
  pub low : line ≤ stim_count stim
  pub given : (s : ℕ) → s < 4097 → get_or values s 0 ≡ given_below net stim line s

module _ (net stim : List ℕ) where
  none_given : (s : ℕ) → undefined_to (net_size net) s ≡ given_below net stim 0 s
  unfolding undefined_to given_below is_signal network last_given
  none_given s = refl

  pub given_starts : (signals n : ℕ) (values : List ℕ) → values ≡ listed n (undefined_to signals) → n ≡ 4097 → signals ≡ net_size net
      → GivenTo net stim 0 values
  given_starts signals n values e size q =
      record {
        size = rw e (listed_length n _ ∙ size);
        low = omega arith;
        given = λ s h. rw e (listed_at n _ s (omega arith) ∙ ap (λ (x : ℕ). undefined_to x s) q ∙ none_given s);
      }

  module _ (checked : Checked net) (passes : stim_check (network net) stim ≡ pass) where
    -- the signal of a line before the end line
    module _ (line : ℕ) (h : line < stim_count stim) where
      pub line_signal : is_signal (network net) (stim_signal stim line) ≡ true
      unfolding is_signal
      line_signal =
          let g = ((stim_right (network net) stim passes).given line h).signal in
          and_true _ _ (le-leb _ _ g.low) (le-leb _ _ g.high)

      pub line_signal_few : stim_signal stim line < 4097
      unfolding network
      line_signal_few = omega (arith, ((stim_right (network net) stim passes).given line h).signal.high, checked_size net checked)

      pub line_value_few : stim_value stim line < 256
      line_value_few = omega (arith, ((stim_right (network net) stim passes).given line h).value)

    -- a line of time 0
    module _ {line : ℕ} {given : Line} {next : ℕ} {values : List ℕ} (so_far : GivenTo net stim line values)
        (g : GivenAt stim 0 line given next) where
      there : given_below net stim (line + 1) given.signal ≡ given.value
      unfolding given_below last_given ◌and◌
      there =
          rw (
            add-one line,
            g.signal_is,
            line_signal line g.before_end,
            eq-eqb (stim_signal stim line) (stim_signal stim line) refl,
            g.time_is,
            g.value_is,
          )

      elsewhere : (s : ℕ) → (s ≡ given.signal → ⊥) → given_below net stim line s ≡ given_below net stim (line + 1) s
      unfolding given_below last_given ◌and◌
      elsewhere s d = rw (add-one line, ne_eqb (stim_signal stim line) s (λ (e : stim_signal stim line ≡ s). d (sym e ∙ sym g.signal_is)))

      signal_there : given.signal < length values
      signal_there = omega (arith, so_far.size, g.signal_is, line_signal_few line g.before_end)

      pub given_more : GivenTo net stim next (set values given.signal given.value)
      given_more =
          record {
            size = length-set values given.signal given.value ∙ so_far.size;
            low = omega (arith, g.before_end, g.follows);
            given = λ s b. rw g.follows (at s b (ℕ_discrete s given.signal));
          }
        where
          at : (s : ℕ) → s < 4097 → Dec (s ≡ given.signal) → get_or (set values given.signal given.value) s 0 ≡ given_below net stim (line + 1) s
          at s b (yes e) = rw e (get_or-set_same values given.signal given.value 0 signal_there ∙ sym there)
          at s b (no d) = get_or-set_other values given.signal s given.value 0 d ∙ so_far.given s b ∙ elsewhere s d

    pub given_ends : {line : ℕ} {values : List ℕ} → GivenTo net stim line values → (line < stim_count stim → stim_time stim line ≡ 0 → ⊥)
        → values ≡ listed 4097 (time_zero_from net stim)
    unfolding given_below time_zero_from held
    given_ends {line} {values} so_far later =
        is_listed values 4097 _ so_far.size (λ s b. so_far.given s b ∙ same s)
      where
        same : (s : ℕ) → given_below net stim line s ≡ time_zero_from net stim s
        same s = rw (start_given (network net) (held stim 0) s, nothing_later (network net) stim passes 0 line (λ h. omega (arith, later h)) s (stim_count stim) so_far.low (omega arith))
