-- Every text that `Prints` allows, on the bytes read, is `printed` of the whole files: the pieces in order are the listing, a refusal is the
-- first one, and bytes past those that are read change nothing. So demand 2 holds of every such text. That there is one is `Inhabited`, and
-- that the program hands these bytes to its writer is a contract of crates/cavundir.
use Prim.Native.Nat.{ℕ, zero, suc, ◌+◌, ◌*◌, ◌<◌, ◌≤◌}
use mathlib.Core.Path.{◌≡◌, refl, sym, ◌∙◌, ap, ap₂}
use mathlib.Core.List.{List, [], ◌∷◌, ◌++◌, append_assoc, append-nil}
use native.Mathlib.Omega.{arith}
use native.Mathlib.Nat.{mul-le-mul}
use native.Mathlib.Decide.{dec_lt}
use lib.ListN.{length, take}
use lib.Seq.{sets-eq, take-append_seam, take_all, length-take-le}
use borrow.Author.Tests.{lt-ltb, le-ltb}
use Rattle.writing.specs.Text.{line_text}
use Rattle.model.specs.Refusal.{Check, pass, fail, first}
use Rattle.model.specs.Files.{Files, files_of}
use Rattle.model.specs.Netlist.{network, net_check}
use Rattle.model.specs.ModuleFile.{mod_processors, mod_slots, mod_check}
use Rattle.model.specs.Stimulus.{stim_check, end_time}
use Rattle.model.specs.Acceptance.{panel_limit, network_of, file_check, Accepted}
use Rattle.model.specs.Listing.{value_at, joined, listed_first, listed_cycle, listing_of, listing, printed_for, printed}
use Rattle.model.specs.Demands.{Demand2}
use Rattle.model.proofs.Refusals.{first_stays, first_second, first_failed}
use Rattle.model.proofs.Accepted.{net_accepted, mod_accepted, stim_accepted, net_size_lem, net_length, mod_processors_lem, mod_slots_lem, mod_length, stim_right}
use Rattle.model.proofs.Demands.{joined_same, printed_demand_2}
use Rattle.laws_prefix.proofs.Net.{net_prefix}
use Rattle.laws_prefix.proofs.Module.{mod_prefix}
use Rattle.laws_prefix.proofs.Stim.{stim_prefix}
use Rattle.listing.specs.declared.Lister.{Lister}
use Rattle.file_checks.specs.Refused.{refused_text}
use Rattle.listing.specs.Pieces.{piece_count, piece_at}
use Rattle.listing.specs.Standing.{Stands, Gives}
use Rattle.laws_listing.specs.Reading.{first_bytes}
use Rattle.laws_listing.specs.Printing.{in_order, Steps, over, more, Prints, net_refused, mod_refused, stim_refused, listed}

-- n pieces of a listing from piece k on
pieces_from : (ℕ → List ℕ) → ℕ → ℕ → List (List ℕ)
pieces_from g k zero = []
pieces_from g k (suc n) = g k ∷ pieces_from g (suc k) n

-- in order they go on where those before ended
in_order_lem : (g : ℕ → List ℕ) (n k : ℕ) → joined k g ++ in_order (pieces_from g k n) ≡ joined (k + n) g
unfolding pieces_from in_order joined
in_order_lem g zero k = append-nil (joined k g) ∙ ap (λ (x : ℕ). joined x g) (let e : k ≡ k + 0 = omega arith in e)
in_order_lem g (suc n) k =
    sym (append_assoc (joined k g) (g k) (in_order (pieces_from g (suc k) n)))
    ∙ in_order_lem g n (suc k)
    ∙ ap (λ (x : ℕ). joined x g) (let e : suc k + n ≡ k + suc n = omega arith in e)

-- the first apart
joined_first : (g : ℕ → List ℕ) (n : ℕ) → joined (suc n) g ≡ g 0 ++ joined n (λ t. g (suc t))
unfolding joined
joined_first g zero = sym (append-nil (g 0))
joined_first g (suc n) =
    ap (λ (x : List ℕ). x ++ g (suc n)) (joined_first g n) ∙ append_assoc (g 0) (joined n (λ t. g (suc t))) (g (suc n))

module _ (files : Files) where
  abbrev T : ℕ
  T = end_time files.STIM

  piece_first : piece_at files 0 ≡ listed_first (network_of files).size T (value_at files)
  unfolding piece_at
  piece_first = refl

  piece_cycle : (t : ℕ) → suc t ≤ T → piece_at files (suc t) ≡ listed_cycle (network_of files).size T (value_at files) t
  unfolding piece_at
  piece_cycle t h = rw (lt-ltb t T (omega arith))

  piece_end : piece_at files (suc T) ≡ line_text (T ∷ 0 ∷ 0 ∷ [])
  unfolding piece_at
  piece_end = rw (le-ltb T T (omega arith))

  -- all pieces in order
  pub pieces_joined : joined (piece_count files) (piece_at files) ≡ listing files
  unfolding joined listing listing_of
  pieces_joined =
      ap (λ (x : ℕ). joined x (piece_at files)) (let e : T + 2 ≡ suc (suc T) = omega arith in e)
      ∙ ap (λ (x : List ℕ). x ++ piece_at files (suc T)) (joined_first (piece_at files) T)
      ∙ ap (λ (x : List ℕ). piece_at files 0 ++ x ++ piece_at files (suc T)) (joined_same T _ _ piece_cycle)
      ∙ ap (λ (x : List ℕ). piece_at files 0 ++ joined T (listed_cycle (network_of files).size T (value_at files)) ++ x) piece_end
      ∙ ap (λ (x : List ℕ). x ++ joined T (listed_cycle (network_of files).size T (value_at files)) ++ line_text (T ∷ 0 ∷ 0 ∷ [])) piece_first

  pieces_listed : in_order (pieces_from (piece_at files) 0 (piece_count files)) ≡ listing files
  unfolding joined
  pieces_listed =
      in_order_lem (piece_at files) (piece_count files) 0
      ∙ ap (λ (x : ℕ). joined x (piece_at files)) (let e : 0 + (T + 2) ≡ T + 2 = omega arith in e)
      ∙ pieces_joined

  -- the pieces that steps give are those of the files
  steps_give : {program : List ℕ} {l : Lister} {panel memory shown : List ℕ} {pieces : List (List ℕ)} (k : ℕ)
      → Steps program l panel memory shown pieces → k + length pieces ≤ piece_count files
      → (0 < length pieces → Stands files k l panel program memory shown) → pieces ≡ pieces_from (piece_at files) k (length pieces)
  unfolding pieces_from
  steps_give k over few stands = refl
  steps_give {program} k (more {pieces = pieces} lent p out panel' memory' shown' room step rest) few stands =
      ap (λ (x : List ℕ). x ∷ pieces) here ∙ ap (λ (x : List (List ℕ)). piece_at files k ∷ x) (steps_give (suc k) rest (omega arith) next)
    where
      g : Gives files k lent p out panel' program memory' shown'
      g = step files k (stands (omega arith))

      fits : 0 + length (piece_at files k) ≤ length lent
      fits = omega (arith, room, g.short, g.size)

      here : take p.length out ≡ piece_at files k
      here =
          ap (λ (x : ℕ). take x out) g.size
          ∙ ap (λ (x : List ℕ). take (length (piece_at files k)) x) (g.bytes ∙ sets-eq (piece_at files k) lent 0 fits)
          ∙ ap (λ (x : List ℕ). take (length (piece_at files k)) x) (append_assoc (take 0 lent) (piece_at files k) _)
          ∙ take-append_seam (piece_at files k) _

      next : 0 < length pieces → Stands files (suc k) p.lister panel' program memory' shown'
      next h = g.next (omega arith)

-- an accepted file is read whole
whole : (n : ℕ) (l : List ℕ) → length (take n l) < n → take n l ≡ l
whole n l short = go (dec_lt n (length l))
  where
    go : Dec (n < length l) → take n l ≡ l
    go (yes q) = absurd (omega (arith, length-take-le n l (omega arith)))
    go (no d) = take_all n l (omega arith)

net_whole : (net : List ℕ) → net_check panel_limit (take 299082 net) ≡ pass → take 299082 net ≡ net
net_whole net h =
    whole 299082 net (omega (arith, net_length panel_limit (take 299082 net) h, net_size_lem panel_limit (take 299082 net) h))

mod_whole : (net modfile : List ℕ) → mod_check (network net) (take 348246 modfile) ≡ pass → take 348246 modfile ≡ modfile
mod_whole net modfile h = whole 348246 modfile (omega (arith, mod_length (network net) (take 348246 modfile) h, most))
  where
    most : mod_processors (take 348246 modfile) * mod_slots (take 348246 modfile) ≤ 4096
    most = omega (arith, mul-le-mul (mod_processors_lem (network net) (take 348246 modfile) h).1 (mod_slots_lem (network net) (take 348246 modfile) h).1)

stim_whole : (net stim : List ℕ) → stim_check (network net) (take 1245147 stim) ≡ pass → take 1245147 stim ≡ stim
stim_whole net stim h =
    let right = stim_right (network net) (take 1245147 stim) h in
    whole 1245147 stim (omega (arith, right.few, right.end.size))

-- accepted files
accepted_prints : (files : Files) → Accepted panel_limit files → listing files ≡ printed panel_limit files
unfolding printed printed_for
accepted_prints files accepted = rw accepted

-- a refusal's text
refused_is : (said c : Check) (files : Files) → said ≡ c → (c ≡ pass → ⊥) → file_check panel_limit files ≡ c
    → refused_text said ≡ printed panel_limit files
unfolding refused_text printed printed_for
refused_is said pass files e d check = absurd (d refl)
refused_is said (fail number returned) files e d check = rw (e, check)

module _ (files : Files) where
  abbrev read : Files
  read = first_bytes files

  net_same : net_check panel_limit read.NET ≡ net_check panel_limit files.NET
  net_same = net_prefix panel_limit (omega arith) files.NET

  module _ (net : net_check panel_limit read.NET ≡ pass) where
    mod_same : mod_check (network_of read) read.MOD ≡ mod_check (network_of files) files.MOD
    mod_same = mod_prefix (network_of read) files.MOD ∙ ap (λ (x : List ℕ). mod_check (network x) files.MOD) (net_whole files.NET net)

    stim_same : stim_check (network_of read) read.STIM ≡ stim_check (network_of files) files.STIM
    stim_same = stim_prefix (network_of read) files.STIM ∙ ap (λ (x : List ℕ). stim_check (network x) files.STIM) (net_whole files.NET net)

  -- the bytes read are judged as the whole files, and the same is printed for them
  pub read_check : file_check panel_limit read ≡ file_check panel_limit files
  unfolding file_check
  read_check = go (net_check panel_limit read.NET) refl
    where
      go : (c : Check) → net_check panel_limit read.NET ≡ c → file_check panel_limit read ≡ file_check panel_limit files
      go pass e = ap₂ first net_same (ap₂ first (mod_same e) (stim_same e))
      go (fail number returned) e = first_stays _ _ e ∙ sym (first_stays (net_check panel_limit files.NET) _ (sym net_same ∙ e))

  -- accepted as they were read, the files were read whole
  pub read_whole : Accepted panel_limit read → read ≡ files
  read_whole accepted =
      ap (λ (x : List ℕ). files_of x read.MOD read.STIM) (net_whole files.NET (net_accepted panel_limit read accepted))
      ∙ ap (λ (x : List ℕ). files_of files.NET x read.STIM) (mod_whole read.NET files.MOD (mod_accepted panel_limit read accepted))
      ∙ ap (files_of files.NET files.MOD) (stim_whole read.NET files.STIM (stim_accepted panel_limit read accepted))

  pub read_printed : printed panel_limit read ≡ printed panel_limit files
  unfolding printed printed_for
  read_printed = go (file_check panel_limit read) refl
    where
      go : (c : Check) → file_check panel_limit read ≡ c → printed panel_limit read ≡ printed panel_limit files
      go pass e = ap (printed panel_limit) (read_whole e)
      go (fail number returned) e = rw (e, sym read_check ∙ e)

  -- A text by the contracts of the functions, in the order in which the program calls them, is `printed` of the whole files
  pub program_prints : (text : List ℕ) → Prints read text → text ≡ printed panel_limit files
  unfolding file_check
  program_prints text (net_refused said e d) = refused_is said _ read e d (first_failed _ _ d) ∙ read_printed
  program_prints text (mod_refused net said e d) = refused_is said _ read e d (first_second _ _ net ∙ first_failed _ _ d) ∙ read_printed
  program_prints text (stim_refused net m said e d) = refused_is said _ read e d (first_second _ _ net ∙ first_second _ _ m) ∙ read_printed
  program_prints text (listed accepted {pieces = pieces} stands steps count) =
      ap in_order (steps_give read 0 steps (omega arith) (λ h. stands))
      ∙ ap (λ (n : ℕ). in_order (pieces_from (piece_at read) 0 n)) count
      ∙ pieces_listed read
      ∙ accepted_prints read accepted
      ∙ read_printed

-- Demand 2 of whatever is printed by these contracts
pub program_demand_2 : (prints : Files → List ℕ) → ((files : Files) → Prints (first_bytes files) (prints files)) → Demand2 panel_limit prints
program_demand_2 prints by = printed_demand_2 panel_limit prints (λ files. program_prints files (prints files) (by files))
