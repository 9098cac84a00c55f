-- A task of a record ends.
use Rattle.std.specs.Prelude.{◌≡◌, ℕ, ◌+◌, ◌*◌, ◌<◌, ◌≤◌, ◌^◌, Bool, true, false, List, [], ◌∷◌, ◌++◌, length, map, slice_get, Option, Some, None}
use Rattle.std.specs.List.{AllByRecursion}
use Rattle.byteorder.specs.Endian.{big_bytes}
use Rattle.satl_base.specs.declared.block.Range.{Range}
use Rattle.satl_base.specs.declared.request.Tag.{Tag}
use Rattle.satl_base.specs.declared.reply.Reply.{Reply}
use Rattle.satl_base.specs.declared.reply.Scsi.{Scsi}
use Rattle.satl_base.specs.declared.reply.Scsi.TheVariants.{Good}
use Rattle.satl_base.specs.Codes.{scsi_code}
use Rattle.satl_identify.specs.declared.identity.Identity.{Identity}
use Rattle.satl_frame.specs.Output.{all_answered, reply_bytes}
use Rattle.satl_frame.specs.Frames.{framed}
use Rattle.satl_frame.specs.Output.Answer.{replied}
use Rattle.satl_direct.specs.Device.{Device}
use Rattle.satl_direct.specs.Valid.{AreOwn}
use Rattle.satl_audit.specs.Arriving.{device_at}
use Rattle.satl_audit.specs.Waiting.{AllFit, Placed, device_tasks}
use Rattle.satl_audit.specs.Deciding.{AllWhole, GivesWhole}
use Rattle.satl_audit.specs.Deeds.{Deed}
use Rattle.satl_audit.specs.Following.{Follows, GivesBlocks, PutsBlocks, SomeRefuses}
use Rattle.satl_audit.specs.Kept.{kept_settle}
use Rattle.satl_audit.specs.Progress.{Compared, Progress, Recorded, device_in}
use Rattle.satl_audit.specs.Skeleton.{TaskDone, TurnsDone, deeds_at}
use Rattle.satl_audit.specs.declared.arriving.Followed.{Followed}
use Rattle.satl_audit.specs.declared.effects.Put.{Put}
use Rattle.satl_audit.specs.declared.reply.Name.{Name}

-- a reply of version 1 up to its sense, with so many bytes of sense and of data (profile)
abbrev pub head_bytes : ℕ → ℕ → Scsi → ℕ → ℕ → List ℕ
head_bytes nexus tag status sense len = framed 0x81 (7 + sense + len) (nexus ∷ scsi_code status ∷ big_bytes 4 tag ++ sense ∷ [])

-- the answer of a READ with these bytes of data comes first in the output (SBC-3, READ commands)
abbrev pub IsReadBy : Name → Range → List ℕ → List ℕ → List ℕ → Type 0
IsReadBy name range output given left = (length given ≡ 512 * range.count)
    × (output ≡ head_bytes name.nexus (name.tag).0 Good 0 (512 * range.count) ++ (given ++ left))

-- the answer of a READ comes first in the output, with what each sector may have; or with what some sector cannot have, or it
-- does not come first (SBC-3, READ commands)
abbrev pub ReadAnswered : List ℕ → Name → Range → Compared → Compared → Bool → Type 0
ReadAnswered input name range old new true = (given : List ℕ) × IsReadBy name range old.output given new.output
    × GivesBlocks input range.lba given old.sectors new.sectors true
ReadAnswered input name range old new false = (given rest : List ℕ) → IsReadBy name range old.output given rest →
    GivesBlocks input range.lba given old.sectors new.sectors false

-- GOOD without data comes first in the output; or it does not (SAM-5 5.3.1)
abbrev pub GoodComesFirst : Name → List ℕ → List ℕ → Bool → Type 0
GoodComesFirst name output left true = output ≡ head_bytes name.nexus (name.tag).0 Good 0 0 ++ left
GoodComesFirst name output left false = (rest : List ℕ) → output ≡ head_bytes name.nexus (name.tag).0 Good 0 0 ++ rest → ⊥

-- so a WRITE ends, and its blocks were put (SBC-3, WRITE commands)
abbrev pub WriteAnswered : List ℕ → Name → Put → Compared → Compared → Bool → Type 0
WriteAnswered input name put old new done = GoodComesFirst name old.output new.output done
    × (done ≡ true → PutsBlocks input put old.sectors new.sectors)

-- so a SYNCHRONIZE CACHE ends, and all is written back (SBC-3, SYNCHRONIZE CACHE)
abbrev pub Flushes : Name → Compared → Compared → Bool → Type 0
Flushes name old new done = GoodComesFirst name old.output new.output done
    × (done ≡ true → new.sectors ≡ map kept_settle old.sectors)

-- a task ends with the answer that comes first in the output, and each sector goes along with it (SAM-5 8)
pub record EndsOn (r : Recorded) (old new : Progress) : Type 0 where
  pub reply : Reply
  pub deed : Deed
  pub done : TaskDone (device_in r old) reply deed (device_in r new)
  pub whole : GivesWhole deed
  pub said : old.followed.output ≡ reply_bytes reply ++ new.followed.output
  pub follows : Follows r.input (deeds_at (device_in r old) deed) old.sectors new.sectors

-- no task can end so: of each whose answer comes first in the output some sector does not go along with it (SAM-5 8)
abbrev pub CannotEnd : Recorded → Progress → Type 0
CannotEnd r old = (reply : Reply) (deed : Deed) (new : Device) (left : List ℕ) →
    TaskDone (device_in r old) reply deed new → GivesWhole deed → old.followed.output ≡ reply_bytes reply ++ left →
    SomeRefuses r.input (deeds_at (device_in r old) deed) old.sectors

-- a task ends so, or none can (SAM-5 8)
abbrev pub EndsOrCannot : Recorded → Progress → Progress → Bool → Type 0
EndsOrCannot r old new true = EndsOn r old new
EndsOrCannot r old new false = CannotEnd r old

-- nexus and tag of the answer that comes first in the output (profile)
abbrev pub NamesNext : List ℕ → Option (ℕ × Tag) → Type 0
NamesNext output name = (nexus tag len : ℕ) (rest : List ℕ) → nexus ≤ 3 → tag < 2 ^ 32 →
    output ≡ head_bytes nexus tag Good 0 len ++ rest → name ≡ Some (record { 0 = nexus; 1 = record { 0 = tag } })

-- what is known of tasks that wait: no two have one name, and each is of a request of version 1, and fits (SAM-5 4.7; profile)
pub record AreTasks (identity : Identity) (input : List ℕ) (waiting : List Placed) : Type 0 where
  pub own : AreOwn (device_tasks input waiting)
  pub tags : AllByRecursion (λ t. (t.tag).0 < 2 ^ 32) (device_tasks input waiting)
  pub expected : AllByRecursion (λ t. t.expected ≡ None) (device_tasks input waiting)
  pub fit : AllFit identity.capacity (length input) waiting

-- a task whose answer comes first in the output is the one at this place (SAM-5 4.7)
abbrev pub OnlyEnds : Followed → Option ℕ → Type 0
OnlyEnds followed found = (identity : Identity) (input : List ℕ) (reply : Reply) (deed : Deed) (new : Device) (left : List ℕ) →
    AreTasks identity input followed.waiting → (done : TaskDone (device_at identity input followed) reply deed new) →
    followed.output ≡ reply_bytes reply ++ left →
    (place : ℕ) × (found ≡ Some place) × (slice_get (device_tasks input followed.waiting) place ≡ Some done.task)

-- so many turns are done, with the answers that come first in the output, and each sector goes along with them (SAM-5 8;
-- profile)
pub record TurnsOn (r : Recorded) (count : ℕ) (old new : Progress) : Type 0 where
  pub replies : List Reply
  pub deeds : List Deed
  pub done : TurnsDone (device_in r old) count replies deeds (device_in r new)
  pub whole : AllWhole deeds
  pub said : old.followed.output ≡ all_answered (map replied replies) ++ new.followed.output
  pub follows : Follows r.input deeds old.sectors new.sectors

-- no turns can be done so: of all whose answers come first in the output some sector does not go along with them (SAM-5 8;
-- profile)
abbrev pub CannotTurn : Recorded → ℕ → Progress → Type 0
CannotTurn r count old = (replies : List Reply) (deeds : List Deed) (new : Device) (left : List ℕ) →
    TurnsDone (device_in r old) count replies deeds new → AllWhole deeds →
    old.followed.output ≡ all_answered (map replied replies) ++ left → SomeRefuses r.input deeds old.sectors

-- turns are done so, or none can (SAM-5 8)
abbrev pub Turns : Recorded → ℕ → Progress → Progress → Bool → Type 0
Turns r count old new true = TurnsOn r count old new
Turns r count old new false = CannotTurn r count old
