-- Sectors that keep their blocks: scenarios that the laws of untouched and of durable sectors speak of (profile).
use Rattle.std.specs.Prelude.{◌≡◌, ℕ, true, List, [], ◌∷◌, ◌++◌, map}
use Rattle.satl_base.specs.declared.bench.BenchEvent.TheVariants as bench
use Rattle.satl_base.specs.declared.reply.Reply.{Reply}
use Rattle.satl_base.specs.declared.reply.Scsi.TheVariants.{Good}
use Rattle.satl_frame.specs.declared.frames.Frame.TheVariants.{Bench, Turn}
use Rattle.satl_frame.specs.Output.Answer.{replied}
use Rattle.satl_line.specs.declared.entry.Entry.{Entry}
use Rattle.satl_direct.specs.Device.{Device}
use Rattle.satl_direct.specs.Ending.{Ends}
use Rattle.satl_direct.specs.Run.{RunDeep}
use Rattle.satl_direct.specs.Valid.{IsValid}
use Rattle.satl_laws.specs.Durable.{IsSpan, secures}
use Rattle.satl_laws.specs.Untouched.{SparedThrough, WithoutPower}
use Rattle.satl_scenarios.specs.Scenario.{Scenario, Step, answered, events_of, groups_of, silent}

-- the law of untouched sectors speaks of a sector of a scenario: no task of its run writes it (profile)
pub record IsOfUntouched (scenario : Scenario) (x : ℕ) : Type 0 where
  pub run : RunDeep scenario.first (events_of scenario) (groups_of scenario) scenario.losses scenario.last scenario.depth
  pub valid : IsValid scenario.first
  pub no_power : WithoutPower (events_of scenario)
  pub spared : SparedThrough x run

-- the law of durable sectors does: its first turn ends a task that secures the sector, its last event is a loss of power, and
-- no task writes the sector in its events between them (profile)
pub record IsOfDurable (scenario : Scenario) (x : ℕ) : Type 0 where
  pub task : Entry
  pub reply : Reply
  pub mid : Device
  pub valid : IsValid scenario.first
  pub ends : Ends scenario.first task reply mid
  pub good : reply.status ≡ Good
  pub secured : secures task.command scenario.first task x ≡ true
  pub span : IsSpan x mid scenario.last
  pub between : List Step
  pub steps : scenario.steps
      ≡ answered (Turn 1) (replied reply ∷ []) ∷ (between ++ silent (Bench bench.Power) ∷ [])
  pub events : span.all ≡ map (λ (step : Step). step.event) between
