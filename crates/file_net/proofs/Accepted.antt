-- What a stage of NET's check leaves to the next where it accepts.
use Prim.Native.Nat.{ℕ, zero, suc, ◌*◌, ◌≤◌}
use mathlib.Core.Path.{◌≡◌, refl}
use mathlib.Core.Bool.{true}
use mathlib.Core.List.{List}
use native.Mathlib.Omega.{arith}
use borrow.Author.Tests.{leb-true}
use Rattle.std.specs.Prelude.{Ok}
use Rattle.logic.proofs.Tests.{and_left, and_right}
use Rattle.fields.specs.Line.{is_line_at}
use Rattle.model.specs.Refusal.{pass}
use Rattle.model.specs.Netlist.{net_size, net_header, net_signal}
use Rattle.model.proofs.Refusals.{below_pass, first_left, first_right, unless_true}
use Rattle.model.proofs.Accepted.{signal_right}
use Rattle.file_lines.specs.Answer.{Answers}
use Rattle.file_lines.proofs.Stages.{passes, same}
use Rattle.file_net_graph.specs.Lines.{Lines}
use Rattle.file_net.specs.Answer.{net_refusal, NetAnswers}
use Rattle.file_net.specs.Stages.{net_lines}

module _ (limit : ℕ) (net : List ℕ) (header : net_header limit net ≡ pass) where
  pub size_small : limit ≤ 4096 → net_size net ≤ 4096
  unfolding net_header
  size_small h =
      omega (arith, leb-true (net_size net) limit (and_right _ _ (and_left _ _ (and_right _ _ (unless_true _ _ _ (first_right _ _ header))))))

  -- 10 to 12 have passed
  lines_right : net_lines net ≡ pass → net_size net ≤ 4096 → Lines net (net_size net)
  unfolding net_header
  lines_right lines small =
      record {
        is = refl;
        small = small;
        right = line;
        sources = λ s j a b l. (signal_right net s (signal s a b)).sources j l;
      }
    where
      signal : (s : ℕ) → 1 ≤ s → s ≤ net_size net → net_signal net s ≡ pass
      signal zero a b = absurd (omega arith)
      signal (suc k) a b = below_pass (net_size net) (λ k. net_signal net (suc k)) lines k b

      line : (s : ℕ) → s ≤ net_size net → is_line_at net (73 * s) 12 ≡ true
      line zero b = unless_true _ _ _ (first_left _ _ header)
      line (suc k) b = (signal_right net (suc k) (signal (suc k) (omega arith) b)).line

-- line 1, and then the lines
module _ (limit : ℕ) (net : List ℕ) {size : ℕ} (header : NetAnswers net (net_header limit net) (Ok size)) (most : limit ≤ 4096) where
  pub size_read : (size ≡ net_size net) × (size ≤ 4096)
  size_read = (same header refl, rw (same header refl) (size_small limit net (passes header refl) most))

  pub lines_read : {u : Unit {0}} → Answers net_refusal (tt {0}) (net_lines net) (Ok u) → Lines net size
  lines_read lines =
      rw (same header refl)
      (lines_right limit net (passes header refl) (passes lines refl) (size_small limit net (passes header refl) most))
