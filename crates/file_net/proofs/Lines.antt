-- The line of signal s, which is line s + 1: what its check answers.
use Prim.Native.Nat.{ℕ, suc, ◌+◌, ◌-◌, ◌*◌, ◌≤◌}
use mathlib.Core.Path.{◌≡◌, ◌∙◌, ap}
use mathlib.Core.Bool.{true, false}
use mathlib.Core.List.{List}
use native.Mathlib.Omega.{arith}
use Rattle.fields.specs.Line.{is_line_at}
use Rattle.model.specs.Refusal.{Check, pass, fail, unless, first_below}
use Rattle.model.specs.Netlist.{net_signal, sources_right}
use Rattle.model.proofs.Refusals.{unless_pass}
use Rattle.file_lines.proofs.Lines.{test_stops, test_goes_on, test_fails, lines_go_on}
use Rattle.file_net_line.specs.Layout.{signal_layout}

abbrev pub signals : List ℕ → ℕ → Check
signals net k = net_signal net (suc k)

module _ (net : List ℕ) {s : ℕ} (low : 1 ≤ s) where
  this : signals net (s - 1) ≡ net_signal net s
  this = let e : suc (s - 1) ≡ s = omega arith in ap (net_signal net) e

  pub misformed : is_line_at net (73 * s) 12 ≡ false → signals net (s - 1) ≡ fail 10 (s + 1)
  unfolding net_signal
  misformed e = this ∙ test_stops _ 10 (s + 1) _ e

  module _ (form : is_line_at net (73 * s) 12 ≡ true) where
    pub layout_wrong : signal_layout net s ≡ false → signals net (s - 1) ≡ fail 11 (s + 1)
    unfolding net_signal
    layout_wrong e = this ∙ test_goes_on _ 10 (s + 1) _ form ∙ test_stops _ 11 (s + 1) _ e

    module _ (laid : signal_layout net s ≡ true) where
      rest : signals net (s - 1) ≡ unless (sources_right net s) 12 (s + 1)
      unfolding net_signal
      rest = this ∙ test_goes_on _ 10 (s + 1) _ form ∙ test_goes_on _ 11 (s + 1) _ laid

      pub sources_wrong : sources_right net s ≡ false → signals net (s - 1) ≡ fail 12 (s + 1)
      sources_wrong e = rest ∙ test_fails _ 12 (s + 1) e

      pub signal_passes : sources_right net s ≡ true → first_below (s - 1) (signals net) ≡ pass → first_below (s + 1 - 1) (signals net) ≡ pass
      signal_passes e before =
          let next : s + 1 - 1 ≡ s - 1 + 1 = omega arith in
          rw next (lines_go_on (signals net) (s - 1) before (rest ∙ unless_pass _ 12 (s + 1) e))
