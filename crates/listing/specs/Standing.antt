-- A listing of accepted files on its way, k pieces being given: the listing itself and every byte of the buffers are what the files say
-- of k pieces (`Buffers`).
use Rattle.std.specs.Prelude.{ℕ, suc, ◌≤◌, ◌≡◌, List, length}
use Rattle.std.proofs.lemmas.List.Edits.{sets}
use Rattle.model.specs.Files.{Files}
use Rattle.model.specs.Stimulus.{end_time}
use Rattle.model.specs.Acceptance.{panel_limit, Accepted}
use Rattle.buffers_load_files.specs.Loaded.{program_of}
use Rattle.session_state.specs.declared.Session.{Session}
use Rattle.session_state.specs.Carried.{Carries}
use Rattle.listing.specs.declared.Lister.{Lister}
use Rattle.listing.specs.declared.Piece.{Piece}
use Rattle.listing_cycle.specs.Changes.{piece_length, shown_length}
use Rattle.listing_cycle.specs.Cycling.{RightBuffers}
use Rattle.listing.specs.Pieces.{piece_at}
use Rattle.listing.specs.Buffers.{cycles_after, line_after, panel_after, memory_after, shown_after}

-- the session after t cycles, with "watch signal 1, mask 0"
abbrev pub SessionAt : ℕ → Session → Type 0
SessionAt t s = Carries t (record { signal = 1; mask = 0 }) s

-- the bytes of STIM that a listing reads
abbrev pub stim_of : Lister → List ℕ
stim_of l = l.cursor.stimulus.bytes.now

pub record Stands (files : Files) (k : ℕ) (l : Lister) (panel program memory shown : List ℕ) : Type 0 where
  pub accepted : Accepted panel_limit files
  pub stimulus : stim_of l ≡ files.STIM
  pub left : k ≤ suc (end_time files.STIM)
  pub given : l.pieces ≡ k
  pub end : l.end.0 ≡ end_time files.STIM
  pub line_is : l.cursor.line ≡ line_after files k
  pub session_is : SessionAt (cycles_after files k) l.session
  pub panel_is : panel ≡ panel_after files k
  pub program_is : program ≡ program_of files
  pub memory_is : memory ≡ memory_after files k
  pub shown_is : shown ≡ shown_after files k
  -- of these bytes: they have their lengths and are in range
  pub right : RightBuffers panel program memory
  pub shown_size : length shown ≡ shown_length

-- some files, and a number of pieces
pub record Standing (l : Lister) (panel program memory shown : List ℕ) : Type 0 where
  pub files : Files
  pub count : ℕ
  pub stands : Stands files count l panel program memory shown

-- What a step gives, the last one too: the next piece in the first bytes of the buffer, all other bytes as they were; and the listing
-- and the buffers after one piece more. Where it was not the last, the listing goes on.
pub record Gives (files : Files) (k : ℕ) (lent : List ℕ) (p : Piece) (out panel program memory shown : List ℕ) : Type 0 where
  pub size : p.length ≡ length (piece_at files k)
  pub short : p.length ≤ piece_length
  pub bytes : out ≡ sets lent 0 (piece_at files k)
  pub given : p.lister.pieces ≡ suc k
  pub end : p.lister.end.0 ≡ end_time files.STIM
  pub line_is : p.lister.cursor.line ≡ line_after files (suc k)
  pub session_is : SessionAt (cycles_after files (suc k)) p.lister.session
  pub panel_is : panel ≡ panel_after files (suc k)
  pub memory_is : memory ≡ memory_after files (suc k)
  pub shown_is : shown ≡ shown_after files (suc k)
  pub next : k ≤ end_time files.STIM → Stands files (suc k) p.lister panel program memory shown
