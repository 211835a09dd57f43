-- 43 leaves head and memory as they were (`run_refused`, `memory_kept`); else the machine's run is the model's
-- (`run_done`), of at most k cycles (`run_most`), so that the cycles finished stay below 65536.
use Prim.Native.Nat.{ℕ, ◌+◌, ◌≤◌, ◌<◌}
use mathlib.Core.Path.{refl, sym, ◌∙◌, ap}
use Rattle.model.specs.Machine.{Memory}
use Rattle.model.specs.Session.{Outcome, ran}
use Rattle.buffers_memory.specs.Memory.{memory_of, with_memory}
use Rattle.buffers_tables.specs.Panel.{processors_in, slots_in}
use Rattle.machine_run.specs.Running.{watch_of, run_in}
use Rattle.session_state.specs.Carried.{head_of}
use Rattle.session_state.proofs.Commands.{tells}
use Rattle.session_state.proofs.Running.{run_refused, memory_kept, run_done, run_most}
use Rattle.buffers_tables.proofs.Hands.{hands_own}
use native.Mathlib.Omega.{arith}
use Rattle.session_state.proofs.Session.run.Goals as goal

pub returns-then-from-cycles : goal.returns-then-from-cycles
returns-then-from-cycles c =
    let h = head_of c.args.self c.args.machine.now.panel.now in
    let l : 65535 < h.finished + c.args.cycles = omega (arith, c.if-from-cycles.true) in
    record {
      tells = rw c.refused.ensures (tells _ _ _ _ _ (run_refused c.args.machine.now.panel.now c.args.machine.now.program.now c.args.memory.now h c.args.cycles l) refl refl refl (sym (hands_own c.args.machine.now.panel.now c.args.machine.now.in_range.panel_size)));
      memory_after = memory_kept c.args.machine.now.panel.now c.args.machine.now.program.now c.args.memory.now h c.args.cycles c.requires.memory_bytes.size l;
    }

pub overflow_add-result : goal.overflow_add-result
overflow_add-result c =
    let most = run_most c.args.machine.now.panel.now c.args.machine.now.program.now (watch_of c.args.self.watch) (memory_of c.args.memory.now) c.args.cycles in
    omega (arith, c.run-ran.ensures.0, most, c.if-from-cycles.false)

pub returns : goal.returns
returns c =
    let h = head_of c.args.self c.args.machine.now.panel.now in
    let l : h.finished + c.args.cycles ≤ 65535 = omega (arith, c.if-from-cycles.false) in
    let done = c.run-ran.ensures in
    let e = run_done c.args.machine.now.panel.now c.args.machine.now.program.now c.args.memory.now h.finished h.watch c.args.cycles l in
    record {
      tells = tells _ _ _ _ _ e (ap (λ (x : ℕ). ran x c.run-ran.result.stopped) done.0 ∙ ap (ran (run_in c.args.machine.now.panel.now c.args.machine.now.program.now h.watch c.args.cycles (memory_of c.args.memory.now)).count) done.1)
          (ap (λ (x : ℕ). h.finished + x) done.0) refl (sym (hands_own c.args.machine.now.panel.now c.args.machine.now.in_range.panel_size));
      memory_after = done.2 ∙ ap (λ (o : Outcome Memory). with_memory (processors_in c.args.machine.now.panel.now) (slots_in c.args.machine.now.panel.now) o.state c.args.memory.now) (sym e);
    }
