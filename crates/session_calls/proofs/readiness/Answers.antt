-- `readiness`: the lengths, then the ranges.
use mathlib.Core.Path.{◌≡◌, sym, ◌∙◌}
use Rattle.session_calls.specs.Reply.{buffers_of}
use Rattle.buffers_range.specs.Ranges.{ranged}
use Rattle.session_calls.proofs.Judged.{Sizes, wrong_length, out_of_range, in_range_lem}
use Rattle.session_calls.proofs.readiness.Goals as goal
use Rattle.session_calls.proofs.readiness.Goals.{After-in_range}

pub returns-in_err-panel : goal.returns-in_err-panel
returns-in_err-panel c = wrong_length _ (λ s. c.in_err-panel.ensures.1 s.panel_size) c.from_residual.ensures.1

pub returns-in_err-program : goal.returns-in_err-program
returns-in_err-program c = wrong_length _ (λ s. c.in_err-program.ensures.1 s.program_size) c.from_residual-in_err-program.ensures.1

pub returns-in_err-memory : goal.returns-in_err-memory
returns-in_err-memory c = wrong_length _ (λ s. c.in_err-memory.ensures.1 s.memory_size) c.from_residual-in_err-memory.ensures.1

-- the lengths are right, and the arrays are what was lent
sizes : (c : After-in_range) → Sizes (buffers_of c.args.panel.now c.args.program.now c.args.memory.now)
sizes c =
    record {
      panel_size = c.in_ok-panel.ensures.1.long;
      program_size = c.in_ok-program.ensures.1.long;
      memory_size = c.in_ok-memory.ensures.1.long;
    }

judged : (c : After-in_range) → c.in_range.result ≡ ranged c.args.panel.now c.args.program.now c.args.memory.now
judged c = rw (← c.in_ok-panel.ensures.1.same, ← c.in_ok-program.ensures.1.same, ← c.in_ok-memory.ensures.1.same) c.in_range.ensures

pub returns-then-not-in_range : goal.returns-then-not-in_range
returns-then-not-in_range c =
    let at = (goal.at.returns-then-not-in_range c).After-in_range in
    out_of_range _ (sizes at) (sym (judged at) ∙ c.if-not-in_range.true)

pub returns : goal.returns
returns c =
    let at = (goal.at.returns c).After-in_range in
    in_range_lem _ (sizes at) (sym (judged at) ∙ c.if-not-in_range.false)
