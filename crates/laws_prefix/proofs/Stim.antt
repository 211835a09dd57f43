-- A STIM has at most 19 × 65534 = 1,245,146 bytes, and one byte more is surplus: what follows that one changes no answer.
use Prim.Native.Nat.{ℕ, zero, suc, ◌+◌, ◌*◌, ◌<◌, ◌≤◌}
use mathlib.Core.Path.{◌≡◌, refl}
use mathlib.Core.Bool.{Bool, true, false}
use mathlib.Core.List.{List}
use native.Mathlib.Omega.{arith}
use lib.Dec.{leb}
use lib.ListN.{length, take}
use Rattle.fields.specs.Line.{is_line_at}
use Rattle.model.specs.Refusal.{Check, first, unless}
use Rattle.model.specs.Network.{Network}
use Rattle.model.specs.Stimulus.{stim_line, stim_time, stim_signal, stim_value, stim_limit, is_end, time_before, rising, gives_value, may_give, stim_given, stim_end, stim_lines, stim_check}
use Rattle.laws_prefix.proofs.Cut.{line_kept, field_kept, end_kept}

module _ (n : Network) (m : ℕ) (enough : 1245146 < m) (stim : List ℕ) where
  abbrev taken : List ℕ
  taken = take m stim

  module _ (i : ℕ) (h : i < stim_limit) where
    line_same : is_line_at taken (stim_line i) 3 ≡ is_line_at stim (stim_line i) 3
    line_same = line_kept 3 65534 m stim enough i h

    time_same : stim_time taken i ≡ stim_time stim i
    time_same = let e : 19 * i + 6 * 0 ≡ 19 * i = omega arith in rw e at (field_kept 3 65534 m stim enough i h 0 (omega arith))

    signal_same : stim_signal taken i ≡ stim_signal stim i
    signal_same = field_kept 3 65534 m stim enough i h 1 (omega arith)

    value_same : stim_value taken i ≡ stim_value stim i
    value_same = field_kept 3 65534 m stim enough i h 2 (omega arith)

    length_same : leb (length taken) (stim_line (i + 1)) ≡ leb (length stim) (stim_line (i + 1))
    length_same = end_kept 3 65534 m stim enough (i + 1) (omega arith)

    is_end_same : is_end taken i ≡ is_end stim i
    unfolding is_end
    is_end_same = rw (signal_same, value_same)

  before_same : (i : ℕ) → i < stim_limit → time_before taken i ≡ time_before stim i
  unfolding time_before
  before_same zero h = refl
  before_same (suc i) h = time_same i (omega arith)

  rising_same : (i : ℕ) → i < stim_limit → rising taken i ≡ rising stim i
  unfolding rising
  rising_same zero h = refl
  rising_same (suc i) h = rw (time_same i (omega arith), time_same (suc i) h, signal_same i (omega arith), signal_same (suc i) h)

  module _ (i : ℕ) (h : i < stim_limit) where
    end_same : stim_end taken i ≡ stim_end stim i
    unfolding stim_end
    end_same = rw (before_same i h, time_same i h, length_same i h)

    given_same : stim_given n taken i ≡ stim_given n stim i
    unfolding stim_given gives_value may_give
    given_same = rw (time_same i h, signal_same i h, value_same i h, rising_same i h)

  lines_same : (left i : ℕ) → i + left ≤ stim_limit → stim_lines n taken left i ≡ stim_lines n stim left i
  unfolding stim_lines
  lines_same zero i h = refl
  lines_same (suc left) i h = rw (line_same i low, is_end_same i low) (go (is_end stim i) (lines_same left (i + 1) (omega arith)))
    where
      low : i < stim_limit
      low = omega arith

      rest : List ℕ → Bool → Check
      rest file b = elim b [ true ↦ stim_end file i | false ↦ first (stim_given n file i) (stim_lines n file left (i + 1)) ]

      go : (b : Bool) → stim_lines n taken left (i + 1) ≡ stim_lines n stim left (i + 1)
          → first (unless (is_line_at stim (stim_line i) 3) 30 (i + 1)) (rest taken b) ≡ first (unless (is_line_at stim (stim_line i) 3) 30 (i + 1)) (rest stim b)
      go true e = rw (end_same i low)
      go false e = rw (given_same i low, e)

  check_same : stim_check n taken ≡ stim_check n stim
  unfolding stim_check
  check_same = lines_same stim_limit 0 (omega arith)

pub stim_prefix : (n : Network) (stim : List ℕ) → stim_check n (take 1245147 stim) ≡ stim_check n stim
stim_prefix n stim = check_same n 1245147 (omega arith) stim
