-- What holds of generated inputs and their runs (profile).
use Rattle.std.specs.Prelude.{◌≡◌, ℕ}
use Rattle.satl_gen.specs.Generated.{generated_frames}
use Rattle.satl_step.specs.Runs.{requests_in}

-- as many of the generated frames are REQUESTs as were asked for (profile)
abbrev pub HasAllRequests : Type 0
HasAllRequests = (seed requests : ℕ) → requests_in (generated_frames seed requests) ≡ requests
