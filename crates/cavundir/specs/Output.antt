-- What the program reads of whole files, and what it writes for them.
use Rattle.std.specs.Prelude.{ℕ, ◌≡◌, Bool, false, List, ◌++◌}
use Rattle.model.specs.Refusal.{pass}
use Rattle.model.specs.Files.{Files}
use Rattle.model.specs.Netlist.{net_check}
use Rattle.model.specs.ModuleFile.{mod_check}
use Rattle.model.specs.Acceptance.{panel_limit, network_of}
use Rattle.model.specs.Listing.{joined, printed}
use Rattle.laws_listing.specs.Reading.{first_bytes}
use Rattle.listing_print.specs.Handing.{part_at, Handing}

-- What was read of whole files: the first bytes of each, up to the first one that is refused; those after it are not read
pub record ReadFrom (files read : Files) : Type 0 where
  pub net : read.NET ≡ (first_bytes files).NET
  pub modfile : net_check panel_limit read.NET ≡ pass → read.MOD ≡ (first_bytes files).MOD
  pub stim : net_check panel_limit read.NET ≡ pass → mod_check (network_of read) read.MOD ≡ pass → read.STIM ≡ (first_bytes files).STIM

-- A text that the program writes for whole files, of which it reads the first bytes, where no write fails: the parts written, in order
pub record Output (files : Files) (text : List ℕ) : Type 0 where
  pub parts : ℕ
  pub handing : Handing (first_bytes files) parts false
  pub is : text ≡ joined parts (part_at (first_bytes files))

-- What the parts written for the bytes read are, for any whole files of which those are what is read: all that is printed for the files
-- where no write failed, and its beginning where one did
pub record RunPrints (read : Files) (parts : ℕ) (failed : Bool) : Type 0 where
  pub all : (files : Files) → ReadFrom files read → failed ≡ false → joined parts (part_at read) ≡ printed panel_limit files
  pub beginning : (files : Files) → ReadFrom files read → (rest : List ℕ) × (joined parts (part_at read) ++ rest ≡ printed panel_limit files)
