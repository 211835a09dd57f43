-- From what `run` tells its caller to what is printed: the files after one that is refused are not read, and nothing that is printed
-- depends on them.
use Prim.Native.Nat.{ℕ}
use mathlib.Core.Path.{◌≡◌, refl, sym, ◌∙◌, ap}
use mathlib.Core.Bool.{Bool, false}
use mathlib.Core.List.{List, ◌++◌}
use native.Mathlib.Omega.{arith}
use Rattle.model.specs.Refusal.{Check, pass, fail}
use Rattle.model.specs.Files.{Files, files_of}
use Rattle.model.specs.Netlist.{network, net_check}
use Rattle.model.specs.ModuleFile.{mod_check}
use Rattle.model.specs.Acceptance.{panel_limit, network_of, file_check}
use Rattle.model.specs.Listing.{joined, printed}
use Rattle.model.proofs.Refusals.{first_stays, first_second}
use Rattle.model.proofs.Demands.{joined_same}
use Rattle.laws_listing.specs.Reading.{first_bytes}
use Rattle.listing_print.specs.Handing.{part_for, part_at, count_for, part_count, Handing}
use Rattle.cavundir.specs.Output.{ReadFrom, RunPrints}
use Rattle.cavundir.proofs.Handed.{handed_printed, handed_begins}

-- two readings of files with the same parts
abbrev SameParts : Files → Files → Type 0
SameParts files others = (part_count files ≡ part_count others) × ((k : ℕ) → part_at files k ≡ part_at others k)

same_refusal : (files others : Files) {number returned : ℕ} → file_check panel_limit files ≡ fail number returned
    → file_check panel_limit others ≡ fail number returned → SameParts files others
unfolding part_for count_for
same_refusal files others e f = (rw (e, f), λ k. rw (e, f))

-- what was read has the parts of the first bytes of all files
module _ {files read : Files} (from : ReadFrom files read) where
  abbrev first_bytes_lem : Files
  first_bytes_lem = first_bytes files

  same_net : net_check panel_limit read.NET ≡ net_check panel_limit first_bytes_lem.NET
  same_net = ap (net_check panel_limit) from.net

  module _ (net-right : net_check panel_limit read.NET ≡ pass) where
    same_mod : mod_check (network_of read) read.MOD ≡ mod_check (network_of first_bytes_lem) first_bytes_lem.MOD
    same_mod = ap (λ (x : List ℕ). mod_check (network x) read.MOD) from.net ∙ ap (mod_check (network_of first_bytes_lem)) (from.modfile net-right)

    same_files : mod_check (network_of read) read.MOD ≡ pass → read ≡ first_bytes_lem
    same_files mod-right =
        ap (λ (x : List ℕ). files_of x read.MOD read.STIM) from.net
        ∙ ap (λ (x : List ℕ). files_of first_bytes_lem.NET x read.STIM) (from.modfile net-right)
        ∙ ap (files_of first_bytes_lem.NET first_bytes_lem.MOD) (from.stim net-right mod-right)

    mod_judged : (c : Check) → mod_check (network_of read) read.MOD ≡ c → SameParts read first_bytes_lem
    unfolding file_check
    mod_judged pass e = (ap part_count (same_files e), λ k. ap (λ (x : Files). part_at x k) (same_files e))
    mod_judged (fail number returned) e =
        same_refusal read first_bytes_lem
        (first_second (net_check panel_limit read.NET) _ net-right ∙ first_stays (mod_check (network_of read) read.MOD) _ e)
        (first_second (net_check panel_limit first_bytes_lem.NET) _ (sym same_net ∙ net-right)
        ∙ first_stays (mod_check (network_of first_bytes_lem) first_bytes_lem.MOD) _ (sym same_mod ∙ e))

  net_judged : (c : Check) → net_check panel_limit read.NET ≡ c → SameParts read first_bytes_lem
  unfolding file_check
  net_judged pass e = mod_judged e (mod_check (network_of read) read.MOD) refl
  net_judged (fail number returned) e =
      same_refusal read first_bytes_lem (first_stays (net_check panel_limit read.NET) _ e) (first_stays (net_check panel_limit first_bytes_lem.NET) _ (sym same_net ∙ e))

  same_parts : SameParts read first_bytes_lem
  same_parts = net_judged (net_check panel_limit read.NET) refl

  read_joined : (n : ℕ) → joined n (part_at read) ≡ joined n (part_at first_bytes_lem)
  read_joined n = joined_same n (part_at read) (part_at first_bytes_lem) (λ k low. same_parts.1 k)

  read_handing : {parts : ℕ} {failed : Bool} → Handing read parts failed → Handing first_bytes_lem parts failed
  read_handing h =
      let e = same_parts.0 in
      record { few = omega (arith, e, h.few); whole = λ q. h.whole q ∙ e; cut = λ q. omega (arith, e, h.cut q) }

-- The parts that the writer was handed for the bytes read are what is printed for the files, and where a write failed they are the beginning
pub handed_prints : {read : Files} {parts : ℕ} {failed : Bool} → Handing read parts failed → RunPrints read parts failed
handed_prints told = record {
  all = λ files from unfailed. read_joined from _ ∙ handed_printed files (read_handing from told) unfailed;
  beginning = λ files from.
      let all = handed_begins files (read_handing from told) in
      (all.0, ap (λ (x : List ℕ). x ++ all.0) (read_joined from _) ∙ all.1);
}

-- What `run` itself tells its caller (`RunPrints`, a clause of its contract), the buffers and the numbers being as it leaves them: the
-- parts that it counts are what is printed for the files that it read, and where a write failed they are the beginning
module _ {read : Files} {parts : ℕ} {failed : Bool} (told : RunPrints read parts failed) (files : Files) (from : ReadFrom files read) where
  pub run_prints : failed ≡ false → joined parts (part_at read) ≡ printed panel_limit files
  run_prints unfailed = told.all files from unfailed

  pub run_begins : (rest : List ℕ) × (joined parts (part_at read) ++ rest ≡ printed panel_limit files)
  run_begins = told.beginning files from
