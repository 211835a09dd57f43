-- The listing stands by the files until its last piece is given, and every part that is handed over is the next one of what is printed.
use Prim.Native.Nat.{ℕ, suc, ◌+◌, ◌<◌, ◌≤◌}
use mathlib.Core.Path.{◌≡◌, refl, sym, subst, ◌∙◌, ap}
use mathlib.Core.Bool.{true, false, false≢true}
use mathlib.Core.List.{List, append_assoc}
use native.Mathlib.Omega.{arith}
use lib.ListN.{length, take}
use lib.Seq.{sets, sets-eq, length-sets, take-append_seam}
use Rattle.model.specs.Refusal.{Check, pass, fail}
use Rattle.model.specs.Files.{Files}
use Rattle.model.specs.Acceptance.{panel_limit, network_of, file_check, Accepted}
use Rattle.std.specs.Prelude.{Result, Ok, Err, MatchResult, is_err}
use Rattle.file_checks.specs.declared.FileRefusal.{FileRefusal}
use Rattle.file_checks.specs.Answer.{file_refusal}
use Rattle.listing.specs.declared.Lister.{Lister}
use Rattle.listing.specs.declared.Piece.{Piece}
use Rattle.listing_cycle.specs.Changes.{piece_length}
use Rattle.file_checks.specs.Refused.{refused_text}
use Rattle.listing.specs.Pieces.{piece_count, piece_at}
use Rattle.listing.specs.Standing.{Stands, Standing, Gives}
use Rattle.file_checks.proofs.Refused.{refused_short, not_passed}
use Rattle.model.proofs.Accepted.{stim_accepted}
use Rattle.listing.proofs.Standing.{end_small}
use Rattle.listing_print.specs.Handing.{part_for, part_at, count_for, part_count, parts_of, Handing}
use Rattle.listing_print.specs.declared.Printed.{Printed}
use Rattle.listing_print.specs.declared.CutShort.{CutShort}

-- the first bytes of a buffer that a text was written into
pub written : (text lent out : List ℕ) (n : ℕ) → out ≡ sets lent 0 text → n ≡ length text → length text ≤ length lent → take n out ≡ text
written text lent out n e f room =
    let fits : 0 + length text ≤ length lent = omega (arith, room) in
    ap (λ (x : ℕ). take x out) f
    ∙ ap (take (length text)) (e ∙ sets-eq text lent 0 fits ∙ append_assoc (take 0 lent) text _)
    ∙ take-append_seam text _

-- the parts of accepted files are the pieces
module _ (files : Files) (accepted : Accepted panel_limit files) where
  part_is : (k : ℕ) → piece_at files k ≡ part_at files k
  unfolding part_for
  part_is k = rw accepted

  count_is : piece_count files ≡ part_count files
  unfolding count_for
  count_is = rw accepted

-- a refusal's line fits into its buffer
pub line_short : (c : Check) (n : ℕ) → n ≡ length (refused_text c) → n ≤ 13
line_short c n e = omega (arith, e, refused_short c)

-- the one part of refused files is the refusal's line
refused_part : (files : Files) (c d : Check) → c ≡ d → (c ≡ pass → ⊥) → ((k : ℕ) → refused_text c ≡ part_for d files k) × (1 ≡ count_for d files)
unfolding part_for count_for refused_text
refused_part files pass d e not = absurd (not refl)
refused_part files (fail number returned) d e not =
    subst (λ (x : Check). ((k : ℕ) → refused_text (fail number returned) ≡ part_for x files k) × (1 ≡ count_for x files)) e (λ k. refl, refl)

-- a listing has at most 65537 pieces
pieces_few : (files : Files) → Accepted panel_limit files → piece_count files ≤ 65537
pieces_few files accepted = omega (arith, end_small (network_of files) files.STIM (stim_accepted panel_limit files accepted))

-- no files have more parts than the longest listing has pieces
pub parts_few : (files : Files) (k : ℕ) → k < part_count files → k < 65537
unfolding count_for
parts_few files k = go (file_check panel_limit files) refl
  where
    go : (c : Check) → file_check panel_limit files ≡ c → k < count_for c files → k < 65537
    go pass e h = omega (arith, h, pieces_few files e)
    go (fail number returned) e h = omega (arith, h)

-- all parts are written
handed_all : {files : Files} {parts : ℕ} → parts ≡ part_count files → Handing files parts false
handed_all e = record { few = omega (arith, e); whole = λ q. e; cut = λ q. absurd (false≢true q) }

-- the next part could not be written
handed_cut : {files : Files} {parts : ℕ} → parts < part_count files → Handing files parts true
handed_cut left = record { few = omega (arith, left); whole = λ q. absurd (false≢true (sym q)); cut = λ q. left }

-- the last part was handed over, and written or not
handed_last : {files : Files} (parts : ℕ) → parts + 1 ≡ part_count files → (r : Result Printed CutShort)
    → MatchResult r (λ printed. printed.parts ≡ parts + 1) (λ cut. cut.parts ≡ parts) → Handing files (parts_of r) (is_err r)
handed_last parts last (Ok printed) counts = handed_all (counts ∙ last)
handed_last parts last (Err cut) counts = handed_cut (omega (arith, counts, last))

module _ (files : Files) (refusal : FileRefusal) (is : file_refusal refusal ≡ file_check panel_limit files) where
  pub refusal_part : (k : ℕ) → refused_text (file_refusal refusal) ≡ part_at files k
  refusal_part = (refused_part files (file_refusal refusal) (file_check panel_limit files) is (not_passed refusal)).0

  pub refusal_count : 1 ≡ part_count files
  refusal_count = (refused_part files (file_refusal refusal) (file_check panel_limit files) is (not_passed refusal)).1

  pub refusal_handed : (parts : ℕ) → parts ≡ 0 → (r : Result Printed CutShort)
      → MatchResult r (λ printed. printed.parts ≡ parts + 1) (λ cut. cut.parts ≡ parts) → Handing files (parts_of r) (is_err r)
  refusal_handed parts none = handed_last parts (omega (arith, none, refusal_count))

-- A listing underway: as many parts are written as turns are done, and the listing stands at the next one.
pub record Underway (files : Files) (count : ℕ) (l : Lister) (panel program memory shown piece : List ℕ) (parts turns : ℕ)
    : Type 0 where
  pub counted : count ≡ part_count files
  pub room : length piece ≡ piece_length
  pub accepted : Accepted panel_limit files
  pub each : turns ≡ parts
  pub few : turns ≤ count
  pub stands : turns < count → Stands files parts l panel program memory shown

pub starts : {files : Files} {l : Lister} {panel program memory shown : List ℕ} → Stands files 0 l panel program memory shown
    → {count : ℕ} → count ≡ l.end.0 + 2 → {piece : List ℕ} → length piece ≡ piece_length → {parts : ℕ} → parts ≡ 0
    → Underway files count l panel program memory shown piece parts 0
starts {files} {l} {panel} {program} {memory} {shown} s e room none =
    record {
      counted = e ∙ ap (λ (x : ℕ). x + 2) s.end ∙ count_is files s.accepted;
      room = room;
      accepted = s.accepted;
      each = sym none;
      few = omega arith;
      stands = λ h. subst (λ (k : ℕ). Stands files k l panel program memory shown) (sym none) s;
    }

module _ {files : Files} {count : ℕ} {l : Lister} {panel program memory shown piece : List ℕ} {parts turns : ℕ}
    (so_far : Underway files count l panel program memory shown piece parts turns) where
  module _ (more : turns < count) where
    pub standing : Standing l panel program memory shown
    standing = record { files = files; count = parts; stands = so_far.stands more }

    module _ {p : Piece} {piece' panel' memory' shown' : List ℕ}
        (step : (f : Files) (k : ℕ) → Stands f k l panel program memory shown → Gives f k piece p piece' panel' program memory' shown') where
      gives : Gives files parts piece p piece' panel' program memory' shown'
      gives = step files parts (so_far.stands more)

      pub gives_next : take p.length piece' ≡ part_at files parts
      gives_next =
          written (piece_at files parts) piece piece' p.length gives.bytes gives.size (omega (arith, gives.size, gives.short, so_far.room))
          ∙ part_is files so_far.accepted parts

      pub goes_on : {parts' : ℕ} → parts' ≡ parts + 1 → Underway files count p.lister panel' program memory' shown' piece' parts' (turns + 1)
      goes_on {parts'} counts =
          let next : parts' ≡ suc parts = omega (arith, counts) in
          record {
            counted = so_far.counted;
            room = rw gives.bytes (omega (arith, length-sets piece 0 (piece_at files parts), so_far.room));
            accepted = so_far.accepted;
            each = omega (arith, next, so_far.each);
            few = omega (arith, more);
            stands = λ h. subst (λ (k : ℕ). Stands files k p.lister panel' program memory' shown') (sym next)
                (gives.next (omega (arith, h, so_far.each, so_far.counted, count_is files so_far.accepted)));
          }
