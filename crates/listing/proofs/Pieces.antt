-- The lines of changes are the piece: signal by signal, whatever functions give the values and what was shown.
use Prim.Native.Nat.{ℕ, zero, suc, ◌*◌, ◌≤◌}
use mathlib.Core.Path.{◌≡◌, ◌∙◌}
use mathlib.Core.List.{List, [], ◌∷◌}
use native.Mathlib.Omega.{arith}
use mathlib.Core.Bool.{Bool, true, false}
use lib.Dec.{eqb, ltb}
use lib.ListN.{length, length-append}
use borrow.Author.Tests.{lt-ltb, le-ltb, ne_eqb}
use Rattle.writing.specs.Text.{line_text}
use Rattle.model.specs.Files.{Files}
use Rattle.model.specs.Network.{Signal}
use Rattle.model.specs.Value.{VAL, history}
use Rattle.model.specs.Stimulus.{end_time}
use Rattle.model.specs.Acceptance.{panel_limit, network_of, given_of, Accepted}
use Rattle.model.specs.Listing.{value_at, joined, listed_first, listed_change, listed_cycle}
use Rattle.model.specs.Netlist.{network}
use Rattle.std.specs.Prelude.{if◌then◌else◌}
use Rattle.model.proofs.Value.{start_code}
use Rattle.model.proofs.Accepted.{net_accepted, net_size_lem, stim_accepted, stim_right, held_code}
use Rattle.model.proofs.Demands.{joined_same}
use Rattle.listing_cycle.specs.Changes.{piece_length, not_shown, change_line, change_lines}
use Rattle.listing.specs.Pieces.{piece_at}
use Rattle.listing.specs.Buffers.{shown_at}
use Rattle.writing.proofs.Writing.{length_line}
use Rattle.listing.proofs.Buffers.{shown_signal}

joined_short : (f : ℕ → List ℕ) → ((j : ℕ) → length (f j) ≤ 19) → (n : ℕ) → length (joined n f) ≤ 19 * n
unfolding joined
joined_short f h zero = omega arith
joined_short f h (suc n) = omega (arith, length-append (joined n f) (f n), joined_short f h n, h n)

module _ (files : Files) (accepted : Accepted panel_limit files) where
  size : (network_of files).size ≤ 4096
  unfolding network
  size = (net_size_lem panel_limit files.NET (net_accepted panel_limit files accepted)).1

  -- at time 0 every value is a code, and so none is the one that stands for no value
  first_code : (s : ℕ) → Signal (network_of files) s → value_at files 0 s ≤ 3
  unfolding value_at history VAL
  first_code = start_code (network_of files) (given_of files) (λ s g.
      held_code (network_of files) files.STIM (stim_right (network_of files) files.STIM (stim_accepted panel_limit files accepted)) 0 s)

  module _ (values shown : ℕ → ℕ) where
    pub piece_is : (k : ℕ) → k ≤ end_time files.STIM
        → ((s : ℕ) → Signal (network_of files) s → values s ≡ value_at files k s) → ((s : ℕ) → Signal (network_of files) s → shown s ≡ shown_at files k s)
        → change_lines (network_of files).size k values shown ≡ piece_at files k
    unfolding change_lines piece_at shown_at listed_first listed_cycle listed_change change_line
    piece_is zero h v u =
        joined_same (network_of files).size _ _ (λ j l.
        let g : Signal (network_of files) (suc j) = record { low = omega arith; high = l } in
        rw (v (suc j) g, u (suc j) g, ne_eqb (value_at files 0 (suc j)) not_shown (λ q. omega (arith, first_code (suc j) g))))
    piece_is (suc t) h v u =
        rw (lt-ltb t (end_time files.STIM) (omega arith))
        (joined_same (network_of files).size _ _ (λ j l.
        let g : Signal (network_of files) (suc j) = record { low = omega arith; high = l } in
        rw (v (suc j) g, u (suc j) g ∙ shown_signal files t (omega arith) (suc j) g)))

  -- the last piece
  pub piece_last : (k : ℕ) → k ≡ suc (end_time files.STIM) → line_text (end_time files.STIM ∷ 0 ∷ 0 ∷ []) ≡ piece_at files k
  unfolding piece_at
  piece_last k e = rw (e, le-ltb (end_time files.STIM) (end_time files.STIM) (omega arith))

  -- no piece is longer than a line of each signal
  line_size : (a b c : ℕ) → length (line_text (a ∷ b ∷ c ∷ [])) ≤ 19
  line_size a b c = omega (arith, length_line (a ∷ b ∷ c ∷ []))

  change_size : (t s : ℕ) → length (listed_change (network_of files).size (end_time files.STIM) (value_at files) t s) ≤ 19
  unfolding listed_change
  change_size t s = go (eqb (value_at files (suc t) s) (value_at files t s))
    where
      go : (b : Bool) → length (if b then [] else line_text (suc t ∷ s ∷ value_at files (suc t) s ∷ [])) ≤ 19
      go true = omega arith
      go false = line_size (suc t) s (value_at files (suc t) s)

  pub piece_short : (k : ℕ) → length (piece_at files k) ≤ piece_length
  unfolding piece_at listed_first listed_cycle
  piece_short zero =
      let f : (ℕ → List ℕ) = λ j. line_text (0 ∷ suc j ∷ value_at files 0 (suc j) ∷ []) in
      omega (arith, joined_short f (λ j. line_size 0 (suc j) (value_at files 0 (suc j))) (network_of files).size, size)
  piece_short (suc t) = go (ltb t (end_time files.STIM))
    where
      f : ℕ → List ℕ
      f j = listed_change (network_of files).size (end_time files.STIM) (value_at files) t (suc j)

      go : (b : Bool) → length (if b then listed_cycle (network_of files).size (end_time files.STIM) (value_at files) t else line_text (end_time files.STIM ∷ 0 ∷ 0 ∷ [])) ≤ piece_length
      go true = omega (arith, joined_short f (λ j. change_size t (suc j)) (network_of files).size, size)
      go false = omega (arith, line_size (end_time files.STIM) 0 0)
