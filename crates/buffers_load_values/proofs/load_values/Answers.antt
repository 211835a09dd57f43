-- `load_values` meets its contract. The invariant: the values are those that the lines before the cursor give.
use mathlib.Core.Path.{refl, ◌∙◌}
use native.Mathlib.Omega.{arith}
use borrow.Author.Rules.{rules}
use Rattle.file_stim.proofs.Steps.{GivenAt, given_at, none_at}
use Rattle.netlist.proofs.InPlace.{checked}
use Rattle.buffers_load_values.specs.Values.{undefined_to}
use Rattle.buffers_load_values.proofs.Values.{given_starts, given_more, given_ends, line_signal_few, line_value_few}
use Rattle.buffers_load_values.proofs.load_values.Goals as goal
use Rattle.buffers_load_values.proofs.load_values.Goals.{In-Some}

-- a line of time 0
gives : (c : In-Some) → GivenAt c.args.stim.bytes.now 0 c.loop-line.cursor.line c.in-Some.line c.next_of.new.self.line
gives c = given_at _ c.loop-line.invariant.same c.in-Some.ensures

pub loop-line-init : goal.loop-line-init
loop-line-init c =
    record {
      same = refl;
      given = given_starts c.args.net.now.net.now c.args.stim.bytes.now _ _ _ (c.fill_by.ensures (undefined_to c.from-signals.result) (λ s x low q. search rules)) refl
          (c.from-signals.ensures ∙ c.signals.ensures.0);
    }

pub returns : goal.returns
returns c =
    given_ends _ _ (checked _ c.args.net.now.accepted) c.requires c.loop-line.invariant.given
    (none_at c.loop-line.invariant.same c.in_default.ensures.0)

pub overflow_cast-values : goal.overflow_cast-values
overflow_cast-values c =
    let g = gives (goal.at.overflow_cast-values c).In-Some in
    omega (arith, g.value_is, line_value_few _ _ (checked _ c.args.net.now.accepted) c.requires _ g.before_end)

pub bounds-values-from : goal.bounds-values-from
bounds-values-from c =
    let g = gives (goal.at.bounds-values-from c).In-Some in
    omega (arith, c.from.ensures, g.signal_is, line_signal_few _ _ (checked _ c.args.net.now.accepted) c.requires _ g.before_end)

pub loop-line-preserved : goal.loop-line-preserved
loop-line-preserved c =
    record {
      same = c.in-Some.ensures.0.same ∙ c.loop-line.invariant.same;
      given = rw c.from.ensures (given_more _ _ (checked _ c.args.net.now.accepted) c.requires c.loop-line.invariant.given (gives (goal.at.loop-line-preserved c).In-Some));
    }
