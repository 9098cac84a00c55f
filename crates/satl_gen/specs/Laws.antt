-- What holds of generated inputs (profile).
use Rattle.std.specs.Prelude.{ℕ, ◌≤◌, []}
use Rattle.satl_base.specs.Limits.{input_limit}
use Rattle.satl_frame.specs.Progress.{ReadsToEnd}
use Rattle.satl_frame.specs.declared.frames.Version.{Version}
use Rattle.satl_gen.specs.Generated.{generated, generated_frames}

-- one of up to 100,000 requests can be read to END within 2^40 bytes, by a reader of any versions: these are its frames, and
-- nothing stands behind END
abbrev pub ReadsWhole : Type 0
ReadsWhole =
    (newest : Version) (seed requests : ℕ) → requests ≤ 100000
    → ReadsToEnd input_limit newest (generated seed requests) (generated_frames seed requests) []
