-- A law of the calls that events allow (profile).
use Rattle.std.specs.Prelude.{◌≡◌, ◌≢◌, Bool, List, ◌∷◌}
use Rattle.std.specs.List.{AllByRecursion}
use Rattle.satl_base.specs.declared.bench.BenchEvent.TheVariants as events
use Rattle.satl_frame.specs.declared.frames.Frame.{Frame}
use Rattle.satl_frame.specs.declared.frames.Frame.TheVariants as frames
use Rattle.satl_step.specs.Runs.{calls_allowed, calls_of}

-- events behind an UNPLUG, of which none is POWER, allow no call (profile)
abbrev pub AllowsNoneUnplugged : Type 0
AllowsNoneUnplugged = (behind : List Frame) (lost : Bool) → AllByRecursion (λ event. event ≢ frames.Bench events.Power) behind
    → calls_allowed calls_of (frames.Bench events.Unplug ∷ behind) lost ≡ 0
