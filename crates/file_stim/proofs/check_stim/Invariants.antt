-- The invariants: the lines below the index are passed, and its first fields are right. Each way out of the loops has its own answer.
use Prim.Native.Nat.{◌+◌, ◌*◌}
use mathlib.Core.Path.{◌≡◌}
use Rattle.std.specs.Prelude.{Err}
use Rattle.fields.proofs.Lines.{FieldsRight}
use Rattle.model.specs.Netlist.{network}
use Rattle.file_stim.specs.declared.StimRefusal.TheVariants.{Misformed}
use Rattle.file_stim.specs.Judging.{numbers_before}
use Rattle.file_stim.proofs.Lines.{NumbersRead, Reached}
use Rattle.file_stim.proofs.check_stim.Given as goal

abbrev pub invariant-loop-column : goal.invariant-loop-column
invariant-loop-column l =
    record {
      unanswered : l.answer ≡ l.initial.answer;
      fields : FieldsRight l.stim (19 * l.index) 3 l.column (l.at + 6 * l.column);
      numbers : NumbersRead l.stim (19 * l.index) l.column l.numbers;
    }

abbrev pub invariant-lines : goal.invariant-lines
invariant-lines l =
    record {
      unanswered : l.answer ≡ Err (Misformed 65535);
      before : l.before ≡ numbers_before l.stim l.index;
      reached : Reached (network l.net.net.now) l.stim l.index;
    }
