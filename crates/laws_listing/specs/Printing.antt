-- What may be printed for files, by the contracts of the functions that the program calls, in the order in which it calls them.
use Rattle.std.specs.Prelude.{ℕ, ◌≡◌, List, [], ◌∷◌, ◌++◌, length, take}
use Rattle.model.specs.Refusal.{Check, pass}
use Rattle.model.specs.Files.{Files}
use Rattle.model.specs.Netlist.{net_check}
use Rattle.model.specs.ModuleFile.{mod_check}
use Rattle.model.specs.Stimulus.{stim_check}
use Rattle.model.specs.Acceptance.{panel_limit, network_of, Accepted}
use Rattle.listing.specs.declared.Lister.{Lister}
use Rattle.listing.specs.declared.Piece.{Piece}
use Rattle.listing_cycle.specs.Changes.{piece_length}
use Rattle.file_checks.specs.Refused.{refused_text}
use Rattle.listing.specs.Pieces.{piece_count}
use Rattle.listing.specs.Standing.{Stands, Gives}

-- pieces one after the other
unfoldable pub in_order : List (List ℕ) → List ℕ
in_order [] = []
in_order (p ∷ ps) = p ++ in_order ps

-- Steps one after the other, each getting the listing and the buffers as the last one left them, and its piece: the first bytes of the
-- buffer lent to it. The premise on them is the contract of `Lister::step`.
pub data Steps (program : List ℕ) : Lister → List ℕ → List ℕ → List ℕ → List (List ℕ) → Type 0 where
  over : {l : Lister} {panel memory shown : List ℕ} → Steps program l panel memory shown []
  more : {l : Lister} {panel memory shown : List ℕ} {pieces : List (List ℕ)} (lent : List ℕ) (p : Piece) (out panel' memory' shown' : List ℕ)
      → length lent ≡ piece_length
      → ((files : Files) (k : ℕ) → Stands files k l panel program memory shown → Gives files k lent p out panel' program memory' shown')
      → Steps program p.lister panel' memory' shown' pieces → Steps program l panel memory shown (take p.length out ∷ pieces)

-- A text that may be printed, these bytes of the files being read. A check's answer says what its contract says, and a refusal is printed by
-- `write_refusal`; the first listing is as `open` leaves it, and as many steps follow as `piece_count` tells.
pub data Prints (read : Files) : List ℕ → Type 0 where
  net_refused : (said : Check) → said ≡ net_check panel_limit read.NET → (net_check panel_limit read.NET ≡ pass → ⊥)
      → Prints read (refused_text said)
  mod_refused : net_check panel_limit read.NET ≡ pass → (said : Check) → said ≡ mod_check (network_of read) read.MOD
      → (mod_check (network_of read) read.MOD ≡ pass → ⊥) → Prints read (refused_text said)
  stim_refused : net_check panel_limit read.NET ≡ pass → mod_check (network_of read) read.MOD ≡ pass → (said : Check)
      → said ≡ stim_check (network_of read) read.STIM → (stim_check (network_of read) read.STIM ≡ pass → ⊥)
      → Prints read (refused_text said)
  listed : Accepted panel_limit read → {l : Lister} {panel program memory shown : List ℕ} {pieces : List (List ℕ)}
      → Stands read 0 l panel program memory shown → Steps program l panel memory shown pieces
      → length pieces ≡ piece_count read → Prints read (in_order pieces)
