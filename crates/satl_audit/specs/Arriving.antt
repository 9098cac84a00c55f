-- What becomes of a request that the auditor knows (profile).
use Rattle.std.specs.Prelude.{◌≡◌, ℕ, ◌*◌, ◌≤◌, true, false, List, [], ◌++◌, map, take, Result, Ok, Err}
use Rattle.std.specs.List.{list_any}
use Rattle.satl_base.specs.declared.block.Block.{Block}
use Rattle.satl_base.specs.declared.request.Request.{Request}
use Rattle.satl_base.specs.declared.reply.Reply.{Reply}
use Rattle.satl_base.specs.declared.reply.Scsi.TheVariants.{Good}
use Rattle.satl_cdb.specs.declared.command.Command.{Command}
use Rattle.satl_identify.specs.declared.identity.Identity.{Identity}
use Rattle.satl_unit.specs.declared.attention.Attention.{Attention}
use Rattle.satl_mode.specs.ModePages.{defaults}
use Rattle.satl_frame.specs.Output.{all_answered}
use Rattle.satl_frame.specs.Output.Answer.{replied}
use Rattle.satl_direct.specs.Device.{Device, is_called}
use Rattle.satl_direct.specs.Arrival.{Arrival, Arrives, arrival, becomes, check, is_unit_0, placed, reply_to}
use Rattle.satl_direct.specs.Arrival.Arrival.{answered}
use Rattle.satl_audit.specs.Following.{input_blocks}
use Rattle.satl_audit.specs.Waiting.{Placed, device_tasks}
use Rattle.satl_audit.specs.declared.arriving.Followed.{Followed}
use Rattle.satl_audit.specs.declared.judging.AtOnce.{AtOnce}
use Rattle.satl_audit.specs.declared.judging.AtOnce.TheVariants as at_once

-- a device of a drive that is started, and whose link is up (SBC-3; of links: profile)
pub record IsServing (identity : Identity) (s : Device) : Type 0 where
  pub same : s.identity ≡ identity
  pub started : s.started ≡ true
  pub up : s.down ≡ false

-- an answer at once: GOOD, or CHECK CONDITION with this sense (SAM-5 5.3.1)
abbrev pub answers_at_once : Device → Request → AtOnce → Arrival
answers_at_once s r at_once.Good = answered (reply_to r Good [])
answers_at_once s r (at_once.Check sense) = answered (check s r sense)

-- a command that makes a task where there is room, or an answer at once (SAM-5 5.3.1)
abbrev pub placed_or_answered : Device → Request → Result Command AtOnce → Arrival
placed_or_answered s r (Err answer) = answers_at_once s r answer
placed_or_answered s r (Ok command) = placed s r command

-- so does a device that is started and up take a command whose fields, range and data-out are good (SPC-4 6, SBC-3 5)
abbrev pub BecomesJudged : Command → Result Command AtOnce → Type 0
BecomesJudged command result =
    (identity : Identity) (s : Device) (r : Request) → IsServing identity s
    → becomes s r command ≡ placed_or_answered s r result

-- the device of a record but for its sectors (profile)
abbrev pub device_without_sectors : Identity → List ℕ → List Placed → List (List Attention) → Device
device_without_sectors identity input waiting attentions = record {
  cells = [];
  tasks = device_tasks input waiting;
  modes = defaults identity;
  started = true;
  active = true;
  down = false;
  attentions = attentions;
  glitches = 0;
  identity = identity;
}

-- the blocks of the data-out, so many bytes, stand in the input from a place on (SBC-3 5; profile)
abbrev pub StandsAt : List ℕ → ℕ → ℕ → List Block → Type 0
StandsAt input at bytes body = (count : ℕ) → 512 * count ≤ bytes → take count body ≡ input_blocks input at count

-- a request goes to logical unit 0 with a name that no task has, and its data-out stands in the input (SAM-5 4.6, 4.7;
-- profile)
pub record IsSent (input : List ℕ) (at : ℕ) (r : Request) (waiting : List Placed) : Type 0 where
  pub unit : is_unit_0 r.lun ≡ true
  pub alone : list_any (is_called r.nexus (r.tag).0) (device_tasks input waiting) ≡ false
  pub stands : StandsAt input at r.data_len r.body

-- a request may arrive, and its answers come first in the output (SAM-5 5)
pub record ArrivesOn (r : Request) (s new : Device) (output left : List ℕ) : Type 0 where
  pub replies : List Reply
  pub arrives : Arrives r s replies new
  pub said : output ≡ all_answered (map replied replies) ++ left

-- it may not: other answers come first in the output (SAM-5 5)
abbrev pub CannotArrive : Request → Device → List ℕ → Type 0
CannotArrive r s output = (replies : List Reply) (new : Device) (left : List ℕ) → Arrives r s replies new →
    output ≡ all_answered (map replied replies) ++ left → ⊥

-- the device that was followed so far, without its sectors (profile)
abbrev pub device_at : Identity → List ℕ → Followed → Device
device_at identity input followed = device_without_sectors identity input followed.waiting followed.attentions

-- the device makes a task of a request with this command, where there is room (SAM-5 5.3.1)
abbrev pub IsPlacedBy : Identity → List ℕ → Followed → Request → Command → Type 0
IsPlacedBy identity input followed r command =
    arrival (device_at identity input followed) r ≡ placed (device_at identity input followed) r command

-- a request with this command, whose data-out stands at a place of the input, may arrive so; or it may not (SAM-5 5)
abbrev pub Places : Identity → Request → Command → ℕ → Followed → Followed → Type 0
Places identity head command at old new =
    (input : List ℕ) (body : List Block) → IsSent input at (record head { body = body }) old.waiting →
    IsPlacedBy identity input old (record head { body = body }) command →
    ArrivesOn (record head { body = body }) (device_at identity input old) (device_at identity input new) old.output new.output

abbrev pub CannotPlace : Identity → Request → Command → Followed → Type 0
CannotPlace identity head command old =
    (input : List ℕ) (body : List Block) → IsPlacedBy identity input old (record head { body = body }) command →
    CannotArrive (record head { body = body }) (device_at identity input old) old.output

-- a request whose data-out stands at a place of the input may arrive so; or it may not (SAM-5 5)
abbrev pub Goes : Identity → Request → ℕ → Followed → Followed → Type 0
Goes identity head at old new =
    (input : List ℕ) (body : List Block) → IsSent input at (record head { body = body }) old.waiting →
    ArrivesOn (record head { body = body }) (device_at identity input old) (device_at identity input new) old.output new.output

abbrev pub Sticks : Identity → Request → ℕ → Followed → Type 0
Sticks identity head at old = (input : List ℕ) (body : List Block) → IsSent input at (record head { body = body }) old.waiting →
    CannotArrive (record head { body = body }) (device_at identity input old) old.output
