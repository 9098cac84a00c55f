-- Runs in which a tag is used again, and of which the laws speak (profile).
use Rattle.std.specs.Prelude.{◌≡◌, true, List, [], ◌∷◌, ◌++◌}
use Rattle.std.specs.List.{AllByRecursion}
use Rattle.satl_base.specs.declared.reply.Response.TheVariants.{Complete}
use Rattle.satl_base.specs.declared.request.Request.{Request}
use Rattle.satl_base.specs.Cells.{cached_over, lasts}
use Rattle.satl_unit.specs.declared.attention.Attention.TheVariants.{PowerOn}
use Rattle.satl_frame.specs.declared.frames.Frame.{Frame}
use Rattle.satl_frame.specs.declared.frames.Frame.TheVariants as frames
use Rattle.satl_frame.specs.Output.Answer.{closed}
use Rattle.satl_direct.specs.Valid.{IsValid}
use Rattle.satl_direct.specs.Run.{RunDeep}
use Rattle.satl_laws.specs.ArrivalOrder.{IsFresh, is_plain}
use Rattle.satl_laws.specs.OrderUnderErrors.{is_mild}
use Rattle.satl_scenarios.specs.Scenario.{Scenario, answered, events_of, groups_of, silent}
use Rattle.satl_scenarios.specs.Devices.{aa, bb, device, just_powered, never_written, zeros}
use Rattle.satl_scenarios.specs.Replies.{check_condition, good, response, sense}
use Rattle.satl_scenarios.specs.Requests.{cdb_10, manage, read_10, request}
use Rattle.satl_renaming.specs.UsedAgain.{names_are_free}

-- WRITEs with one tag: of a first sector, of that one with other data, of both sectors, and of the second one (SBC-3, WRITE
-- commands)
abbrev pub writes_first : Request
writes_first = request 1 (cdb_10 0x2A 0 1) (aa ∷ [])

abbrev pub writes_first_again : Request
writes_first_again = request 1 (cdb_10 0x2A 0 1) (bb ∷ [])

abbrev pub writes_both : Request
writes_both = request 1 (cdb_10 0x2A 0 2) (aa ∷ aa ∷ [])

abbrev pub writes_second : Request
writes_second = request 1 (cdb_10 0x2A 1 1) (bb ∷ [])

-- just after the power came back: a WRITE is told so, and writes nothing; the next one has its tag, and is done; a READ with
-- that tag gives its block (SAM-5 4.7, 5.14; SBC-3 5)
abbrev pub written_again : Scenario
written_again = record {
  first = just_powered (never_written 3).cells;
  steps =
      answered (frames.Request writes_first) (check_condition 1 (sense 0x6 0x29 0x01) ∷ [])
      ∷ silent (frames.Request writes_first_again)
      ∷ answered (frames.Turn 1) (good 1 [] ∷ [])
      ∷ silent (read_10 1 0 1)
      ∷ answered frames.End (good 1 (bb ∷ []) ∷ closed ∷ [])
      ∷ [];
  losses = 0;
  depth = 1;
  last = record (device (cached_over zeros bb ∷ lasts zeros ∷ lasts zeros ∷ [])) {
    attentions = [] ∷ (PowerOn ∷ []) ∷ (PowerOn ∷ []) ∷ (PowerOn ∷ []) ∷ [];
  };
}

-- a WRITE of two sectors, of which one is written, is aborted; a WRITE of the other one has its tag, and is done; a READ with
-- that tag gives a block of each (SAM-5 4.7, 7.2; SBC-3 5)
abbrev pub written_behind_an_abort : Scenario
written_behind_an_abort = record {
  first = never_written 3;
  steps =
      silent (frames.Request writes_both)
      ∷ answered (frames.Manage (manage 0 0x01 1)) (response 0 0x01 1 Complete ∷ [])
      ∷ silent (frames.Request writes_second)
      ∷ answered (frames.Turn 1) (good 1 [] ∷ [])
      ∷ silent (read_10 1 0 2)
      ∷ answered (frames.Turn 1) (good 1 (aa ∷ bb ∷ []) ∷ [])
      ∷ [];
  losses = 0;
  depth = 1;
  last = device (cached_over zeros aa ∷ cached_over zeros bb ∷ lasts zeros ∷ []);
}

-- a scenario is a run of which the law of arrival order speaks, also where tags are used again (profile)
pub record IsOfArrivalOrderUsedAgain (scenario : Scenario) : Type 0 where
  pub run : RunDeep scenario.first (events_of scenario) (groups_of scenario) 0 scenario.last scenario.depth
  pub all : List Frame
  pub to_end : events_of scenario ≡ all ++ frames.End ∷ []
  pub valid : IsValid scenario.first
  pub fresh : IsFresh scenario.first
  pub plain : AllByRecursion (λ f. is_plain scenario.first.identity.trim f ≡ true) all
  pub free : names_are_free run ≡ true

-- a scenario is a run of which the law of order under errors speaks, also where tags are used again (profile)
pub record IsOfErrorsUsedAgain (scenario : Scenario) : Type 0 where
  pub run : RunDeep scenario.first (events_of scenario) (groups_of scenario) scenario.losses scenario.last scenario.depth
  pub valid : IsValid scenario.first
  pub no_tasks : scenario.first.tasks ≡ []
  pub mild : AllByRecursion (λ f. is_mild scenario.first.identity.trim f ≡ true) (events_of scenario)
  pub free : names_are_free run ≡ true
