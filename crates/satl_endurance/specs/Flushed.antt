-- A run with a loss of power behind a SYNCHRONIZE CACHE, of which the law of endurance speaks (profile).
use Rattle.std.specs.Prelude.{◌≡◌, ℕ, true, [], ◌∷◌}
use Rattle.satl_base.specs.declared.bench.BenchEvent.TheVariants as bench
use Rattle.satl_base.specs.declared.block.Block.{Block}
use Rattle.satl_base.specs.declared.request.Request.{Request}
use Rattle.satl_base.specs.Cells.{lasts}
use Rattle.satl_unit.specs.declared.attention.Attention.TheVariants.{PowerOn}
use Rattle.satl_frame.specs.declared.frames.Frame.TheVariants as frames
use Rattle.satl_frame.specs.Output.Answer.{closed}
use Rattle.satl_direct.specs.Valid.{IsValid}
use Rattle.satl_direct.specs.Run.{RunDeep}
use Rattle.satl_scenarios.specs.Scenario.{Scenario, answered, events_of, groups_of, silent}
use Rattle.satl_scenarios.specs.Devices.{aa, device, never_written, zeros}
use Rattle.satl_scenarios.specs.Replies.{check_condition, good, sense}
use Rattle.satl_scenarios.specs.Requests.{cdb_10, read_10, request, write_10}
use Rattle.satl_renaming.specs.UsedAgain.{names_are_free}
use Rattle.satl_origins.specs.Origins.{WasRead}
use Rattle.satl_endurance.specs.Endurance.{NoneAsksFor, WasFlushed}

-- SYNCHRONIZE CACHE(10) of the whole medium (SBC-3 5.18)
abbrev pub flush_all : Request
flush_all = request 1 (cdb_10 0x35 0 0) []

-- a WRITE of a sector and then a SYNCHRONIZE CACHE, both of which are done (SBC-3 4.15, 5.18)
abbrev pub written_and_flushed : Scenario
written_and_flushed = record {
  first = never_written 2;
  steps =
      silent (write_10 1 0 (aa ∷ []))
      ∷ answered (frames.Turn 1) (good 1 [] ∷ [])
      ∷ silent (frames.Request flush_all)
      ∷ answered (frames.Turn 1) (good 1 [] ∷ [])
      ∷ [];
  losses = 0;
  depth = 1;
  last = device (lasts aa ∷ lasts zeros ∷ []);
}

-- then the power is lost; a READ is told of it, and the next one gives the block (SBC-3 4.15; SAM-5 5.14, 6.3)
abbrev pub read_behind_power : Scenario
read_behind_power = record {
  first = written_and_flushed.last;
  steps =
      silent (frames.Bench bench.Power)
      ∷ answered (read_10 1 0 1) (check_condition 1 (sense 0x6 0x29 0x01) ∷ [])
      ∷ silent (read_10 1 0 1)
      ∷ answered frames.End (good 1 (aa ∷ []) ∷ closed ∷ [])
      ∷ [];
  losses = 0;
  depth = 1;
  last = record written_and_flushed.last {
    attentions = [] ∷ (PowerOn ∷ []) ∷ (PowerOn ∷ []) ∷ (PowerOn ∷ []) ∷ [];
  };
}

-- one scenario goes on from another, and the law of endurance speaks of both: of this sector, and of a READ that gave this
-- block for it (profile)
pub record AreOfEndurance (earlier later : Scenario) (x : ℕ) (block : Block) : Type 0 where
  pub run : RunDeep earlier.first (events_of earlier) (groups_of earlier) earlier.losses earlier.last earlier.depth
  pub on : RunDeep earlier.last (events_of later) (groups_of later) later.losses later.last later.depth
  pub valid : IsValid earlier.first
  pub free : names_are_free run ≡ true
  pub flushed : WasFlushed earlier.first (events_of earlier) (groups_of earlier) x
  pub none_later : NoneAsksFor earlier.first (events_of later) x
  pub free_later : names_are_free on ≡ true
  pub read : WasRead earlier.first.identity.trim (events_of later) (groups_of later) x block
