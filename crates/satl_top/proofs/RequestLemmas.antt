-- How many requests a generated input has, and its totals.
use Rattle.std.proofs.Common.{◌≡◌, ◌≤◌, ℕ, zero, suc, ◌+◌, ◌%◌, Bool, true, false, List, [], ◌∷◌, ◌++◌, refl, ap, ◌∙◌, arith, Option, Some, None}
use Rattle.std.specs.Prelude.{◌==◌, if◌then◌else◌}
use Rattle.satl_base.specs.Limits.{input_limit}
use Rattle.rand_pcg.specs.Lcg.{Lcg}
use Rattle.satl_frame.specs.declared.frames.Frame.{Frame}
use Rattle.satl_frame.specs.declared.frames.Frame.TheVariants as frames
use Rattle.satl_frame.specs.declared.frames.Place.{Place}
use Rattle.satl_frame.specs.declared.frames.Version.TheVariants.{Two}
use Rattle.satl_frame.specs.Progress.{ReadTo}
use Rattle.satl_frame.proofs.WholeInputs.{one_end}
use Rattle.satl_io.specs.Causes.{total}
use Rattle.satl_gen.specs.Generated.{after_draw, burst, draw, frames_from, generated, generated_frames, request_drawn, seeded}
use Rattle.satl_gen.specs.declared.draw.Draw.{Draw}
use Rattle.satl_gen.proofs.WholeInput.{reads_whole}
use Rattle.satl_step.specs.Runs.{requests_in}

-- a request, with a burst behind it or with none
one_more : (i : ℕ) (d : Draw) (there : Bool) (rest : List Frame) → requests_in ((frames.Request (request_drawn i d) ∷ (if there then burst d.c else [])) ++ rest) ≡ suc (requests_in rest)
one_more i d true rest = omega arith
one_more i d false rest = omega arith

each_one : (n i : ℕ) (g : Lcg) → requests_in (frames_from n i g) ≡ n
unfolding frames_from
each_one zero i g = refl
each_one (suc n) i g = one_more i (draw g) (i % 16 == 15) (frames_from n (i + 1) (after_draw g)) ∙ ap suc (each_one n (i + 1) (after_draw g))

pub all_requests : (seed requests : ℕ) → requests_in (generated_frames seed requests) ≡ requests
all_requests seed requests = each_one requests 0 (seeded seed)

-- the frames that were read to END of a generated input are the generated ones
pub frames_read : (seed requests : ℕ) → requests ≤ 100000 → (place : Place) (left : Option (List ℕ)) (events : List Frame)
    → ReadTo input_limit Two place (Some (generated seed requests)) left (events ++ frames.End ∷ []) → events ≡ generated_frames seed requests
frames_read seed requests few place None events read = absurd (read.took.known)
frames_read seed requests few place (Some rest) events read =
    (one_end input_limit Two (generated seed requests) events (generated_frames seed requests) rest []
    (record { place = place; read = read }) (reads_whole Two seed requests few)).0

-- so are their number and the total of it
pub total_is : (seed requests : ℕ) (events : List Frame) → requests ≤ 100000 → events ≡ generated_frames seed requests → total (requests_in events) ≡ requests
total_is seed requests events few is = ap (λ fs. total (requests_in fs)) is ∙ ap total (all_requests seed requests) ∙ omega (arith, few)
