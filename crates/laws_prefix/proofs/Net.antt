-- A NET has at most 73 × 4097 = 299,081 bytes, and one byte more is surplus: what follows that one changes no answer.
use Prim.Native.Nat.{ℕ, suc, ◌+◌, ◌<◌, ◌≤◌}
use mathlib.Core.Path.{◌≡◌, ap}
use mathlib.Core.List.{List}
use native.Mathlib.Omega.{arith}
use lib.Dec.{eqb}
use lib.ListN.{take}
use Rattle.logic.proofs.Tests.{all_same}
use Rattle.gates.specs.Translation.{is_translation}
use Rattle.fields.specs.Line.{is_line_at}
use Rattle.model.specs.Netlist.{net_line, net_field, net_size, ten_zeros, net_header, input_layout, gate_layout, source_right, sources_right, net_signal, net_surplus, net_chains, net_check}
use Rattle.file_net.proofs.Accepted.{size_small}
use Rattle.laws_prefix.proofs.Cut.{line_kept, field_kept, cut_kept}

module _ (m : ℕ) (enough : 299081 < m) (net : List ℕ) where
  abbrev taken : List ℕ
  taken = take m net

  module _ (s : ℕ) (h : s ≤ 4096) where
    line_same : is_line_at taken (net_line s) 12 ≡ is_line_at net (net_line s) 12
    line_same = line_kept 12 4097 m net enough s (omega arith)

    field_same : (column : ℕ) → column < 12 → net_field taken s column ≡ net_field net s column
    field_same = field_kept 12 4097 m net enough s (omega arith)

    zeros_same : ten_zeros taken s ≡ ten_zeros net s
    unfolding ten_zeros
    zeros_same = all_same _ _ 10 (λ k l. ap (λ (x : ℕ). eqb x 0) (field_same (2 + k) (omega arith)))

  size_same : net_size taken ≡ net_size net
  size_same = field_same 0 (omega arith) 1 (omega arith)

  header_same : (limit : ℕ) → net_header limit taken ≡ net_header limit net
  unfolding net_header
  header_same limit = rw (line_same 0 (omega arith), field_same 0 (omega arith) 0 (omega arith), size_same, zeros_same 0 (omega arith))

  source_same : (s j : ℕ) → s ≤ 4096 → j < 4 → source_right taken s j ≡ source_right net s j
  unfolding source_right
  source_same s j h l = rw (field_same s h (8 + j) (omega arith), field_same s h (3 + j) (omega arith), size_same)

  signal_same : (s : ℕ) → s ≤ 4096 → net_signal taken s ≡ net_signal net s
  unfolding net_signal input_layout gate_layout sources_right
  signal_same s h =
      rw (
        line_same s h,
        field_same s h 0 (omega arith),
        field_same s h 1 (omega arith),
        field_same s h 2 (omega arith),
        zeros_same s h,
        all_same (λ k. is_translation (net_field taken s (3 + k))) (λ k. is_translation (net_field net s (3 + k))) 5
            (λ k l. ap is_translation (field_same s h (3 + k) (omega arith))),
        all_same (source_right taken s) (source_right net s) 4 (λ j l. source_same s j h l),
      )

  check_same : (limit : ℕ) → limit ≤ 4096 → net_check limit taken ≡ net_check limit net
  unfolding net_check net_surplus
  check_same limit most =
      cut_kept 73 4096 10 (net_header limit) net_size (λ file k. net_signal file (suc k)) net_chains m enough net (header_same limit) size_same
      (λ e. size_small limit net e most)
      (λ e k l. signal_same (suc k) (omega (arith, size_small limit net e most)))

pub net_prefix : (limit : ℕ) → limit ≤ 4096 → (net : List ℕ) → net_check limit (take 299082 net) ≡ net_check limit net
net_prefix limit most net = check_same 299082 (omega arith) net limit most
