-- A run with a loss of power, of which the laws of origins speak (profile).
use Rattle.std.specs.Prelude.{◌≡◌, ℕ, true, List, [], ◌∷◌, slice_index_or}
use Rattle.std.specs.List.{AllByRecursion}
use Rattle.satl_base.specs.declared.bench.BenchEvent.TheVariants as bench
use Rattle.satl_base.specs.declared.block.Block.{Block}
use Rattle.satl_base.specs.declared.request.Request.{Request}
use Rattle.satl_base.specs.Cells.{lasts}
use Rattle.satl_base.specs.Lists.{IsIn}
use Rattle.satl_unit.specs.declared.attention.Attention.TheVariants.{PowerOn}
use Rattle.satl_frame.specs.declared.frames.Frame.TheVariants as frames
use Rattle.satl_frame.specs.Output.Answer.{closed}
use Rattle.satl_direct.specs.Valid.{IsValid}
use Rattle.satl_direct.specs.Run.{RunDeep}
use Rattle.satl_scenarios.specs.Scenario.{Scenario, answered, events_of, groups_of, silent}
use Rattle.satl_scenarios.specs.Devices.{aa, bb, device, never_written, zeros}
use Rattle.satl_scenarios.specs.Replies.{check_condition, good, sense}
use Rattle.satl_scenarios.specs.Requests.{cdb_10, read_10, request, write_10}
use Rattle.satl_renaming.specs.UsedAgain.{names_are_free}
use Rattle.satl_origins.specs.Origins.{HasOrigin, changes_plainly}

-- a WRITE of two sectors, each with a block of its own (SBC-3, WRITE commands)
abbrev pub writes_two : Request
writes_two = request 1 (cdb_10 0x2A 0 2) (aa ∷ bb ∷ [])

-- the power is lost under that WRITE when its first block is written, which stays. Another WRITE is told of the power, and
-- writes nothing; a READ gives that block, and for the second sector the one from before. All have one tag (SBC-3 4.15; SAM-5
-- 5.14, 6.3)
abbrev pub lost_under_a_write : Scenario
lost_under_a_write = record {
  first = never_written 2;
  steps =
      silent (frames.Request writes_two)
      ∷ silent (frames.Bench bench.Power)
      ∷ answered (write_10 1 0 (bb ∷ [])) (check_condition 1 (sense 0x6 0x29 0x01) ∷ [])
      ∷ silent (read_10 1 0 2)
      ∷ answered frames.End (good 1 (aa ∷ zeros ∷ []) ∷ closed ∷ [])
      ∷ [];
  losses = 0;
  depth = 1;
  last = record (device (lasts aa ∷ lasts zeros ∷ [])) {
    attentions = [] ∷ (PowerOn ∷ []) ∷ (PowerOn ∷ []) ∷ (PowerOn ∷ []) ∷ [];
  };
}

-- the blocks that have their origin in that run for its first sector, and for its second
abbrev pub its_blocks : List (List Block)
its_blocks = (zeros ∷ aa ∷ []) ∷ (zeros ∷ bb ∷ []) ∷ []

-- a scenario is a run of which the laws of origins speak; in it these blocks have their origin for each sector, and no others
-- (profile)
pub record IsOfOrigins (scenario : Scenario) (blocks : List (List Block)) : Type 0 where
  pub run : RunDeep scenario.first (events_of scenario) (groups_of scenario) scenario.losses scenario.last scenario.depth
  pub valid : IsValid scenario.first
  pub free : names_are_free run ≡ true
  pub plain : AllByRecursion (λ f. changes_plainly scenario.first.identity.trim f ≡ true) (events_of scenario)
  pub these : (x : ℕ) (block : Block) → IsIn block (slice_index_or blocks x []) → HasOrigin x block run
  pub no_others : (x : ℕ) (block : Block) → HasOrigin x block run → IsIn block (slice_index_or blocks x [])
