-- Answers of tasks that end, and what they show.
use Rattle.std.proofs.Common.{◌≡◌, refl, sym, ap, ◌∙◌, subst, ℕ, ◌*◌, Bool, true, false, List, [], ◌++◌, length, map, take}
use Rattle.std.specs.Prelude.{◌<◌, Option, Some, None}
use Rattle.std.proofs.lemmas.List.{get_or-map}
use Rattle.satl_base.specs.declared.block.Block.{Block}
use Rattle.satl_base.specs.declared.reply.Scsi.TheVariants.{Good}
use Rattle.satl_base.specs.Blocks.{bytes_of, first_bytes, AreWhole}
use Rattle.satl_audit.specs.Finishing.{IsReadBy, ReadAnswered, head_bytes}
use Rattle.satl_audit.specs.Kept.{Keeping, blank_keeping, kept_settle, known_sector, known_sector_at}
use Rattle.satl_audit.specs.Progress.{Compared}
use Rattle.satl_audit.specs.Sectors.{KnownSector, sector_gives, settled_in}
use Rattle.satl_audit.specs.declared.content.Content.{Content}
use Rattle.satl_audit.specs.declared.reply.Name.{Name}
use Rattle.satl_audit.proofs.ReplyLemmas.{fronts, take_own}
use Rattle.satl_base.specs.declared.block.Range.{Range}
use Rattle.satl_base.proofs.BlocksLemmas.{length-bytes_of}
use Rattle.satl_audit.specs.Following.{GivesBlocks, along}
use Rattle.satl_audit.specs.Deeds.{Deed}
use Rattle.satl_audit.specs.Deeds.Deed.{gives}
use Rattle.satl_audit.specs.Skeleton.{deeds_at}
use Rattle.satl_direct.specs.Device.{Device}
use Rattle.satl_audit.proofs.FixingEvents.{after_same}

-- the data of a READ are fixed by the output
pub reads_as : (input : List ℕ) (name : Name) (range : Range) (given : List ℕ) (old new : Compared) → IsReadBy name range old.output given new.output → (b : Bool) → GivesBlocks input range.lba given old.sectors new.sectors b →
    ReadAnswered input name range old new b
reads_as input name range given old new read true h = (given, read, h)
reads_as input name range given old new read false h =
    λ other rest also.
    let head = head_bytes name.nexus (name.tag).0 Good 0 (512 * range.count) in
    let same = fronts given other new.output rest (read.0 ∙ sym also.0) (after_same head head (given ++ new.output) (other ++ rest) refl (sym read.1 ∙ also.1)) in
    subst (λ l. GivesBlocks input range.lba l old.sectors new.sectors false) same.front h

pub all_bytes : (vs : List Block) → AreWhole vs → first_bytes (512 * length vs) vs ≡ bytes_of vs
all_bytes vs whole = ap (λ n. take n (bytes_of vs)) (sym (length-bytes_of vs whole)) ∙ take_own (bytes_of vs)

-- blocks that a sector refuses
pub refusing : (x : ℕ) (s : Device) (k : KnownSector) (deed : Deed) (lba : ℕ) (blocks : List Block) → deed ≡ gives lba blocks → sector_gives x lba blocks (Some k) ≡ None → along x None (deeds_at s deed) (Some k) ≡ None
refusing x s k deed lba blocks is none = ap (λ d. along x None (deeds_at s d) (Some k)) is ∙ ap (along x None []) none

-- all is written back
settled_at : (input : List ℕ) (now : Option Content) (may : List Content) → known_sector input (kept_settle (record { now = now; may = may })) ≡ settled_in (known_sector input (record { now = now; may = may })).now (known_sector input (record { now = now; may = may })).may
settled_at input None may = refl
settled_at input (Some v) may = refl

pub settle_sector : (input : List ℕ) (ks : List Keeping) (x : ℕ) → x < length ks → settled_in (known_sector_at input ks x).now (known_sector_at input ks x).may ≡ known_sector_at input (map kept_settle ks) x
settle_sector input ks x less = sym (ap (known_sector input) (get_or-map kept_settle ks x blank_keeping blank_keeping less) ∙ settled_at input _ _)
