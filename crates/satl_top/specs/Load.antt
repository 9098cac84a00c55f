-- What a load does: it serves a generated input, whose answers are counted alone, and writes the totals (profile).
use Rattle.std.specs.Prelude.{◌≡◌, ℕ, List, false, Option, None, Some}
use Rattle.satl_io.specs.Known.{Wrote, WrotePart}
use Rattle.satl_core.specs.Opening.{IsCause}
use Rattle.satl_text.specs.Lines.{summary_lines}
use Rattle.satl_text.specs.declared.summary.Summary.{Summary}
use Rattle.satl_gen.specs.Generated.{generated, generated_frames}
use Rattle.satl_serve.specs.Headline.{IsNotServed, IsServedWhole}
use Rattle.satl_serve.specs.Moments.{Moment, SinkState, moment, sink_state, source_state}
use Rattle.satl_serve.specs.declared.serving.ServeFault.{ServeFault}
use Rattle.satl_serve.specs.declared.serving.ServeFault.TheVariants as faults
use Rattle.satl_serve.specs.declared.telling.Form.TheVariants as forms
use Rattle.satl_top.specs.declared.status.Status.{Status}
use Rattle.satl_top.specs.declared.status.Status.TheVariants as statuses

-- a load: so many requests by the random numbers of this seed (profile)
pub record Load : Type 0 where
  pub seed : ℕ
  pub requests : ℕ

abbrev pub load_of : ℕ → ℕ → Load
load_of seed requests = record { seed = seed; requests = requests }

-- its input (profile)
abbrev pub input_of : Load → Option (List ℕ)
input_of load = Some (generated load.seed load.requests)

-- where answers are counted alone they go nowhere (profile)
abbrev pub nowhere : SinkState
nowhere = sink_state None 0

-- a moment of a load: this is left of its generated input, for which nobody waits, and its answers go nowhere (profile)
abbrev pub at_load : Option (List ℕ) → Moment → Moment
at_load left m = moment (source_state left false 0) nowhere m.calls m.drive

-- a generated input was served whole within this limit: the run was one over the generated frames and END, with these totals,
-- which say as many requests as were asked for; and the source that was handed in was not read (profile)
pub record IsLoaded (limit : ℕ) (load : Load) (summary : Summary) (before after : Moment) : Type 0 where
  pub left : Option (List ℕ)
  pub served : IsServedWhole forms.Count limit summary (at_load (input_of load) before) (at_load left after)
  pub frames_are : served.to_end.run.events ≡ generated_frames load.seed load.requests
  pub requests_are : summary.requests ≡ load.requests
  pub unread : after.source ≡ before.source

-- why a load stops before it is served whole: the layer was not opened, and nothing was served. A generated input is never
-- refused, no read of it fails, and its answers go nowhere (profile)
abbrev pub LoadStops : Moment → Moment → ServeFault → Type 0
LoadStops before after (faults.Open fault) = IsNotServed before after × IsCause before.drive after.drive fault
LoadStops before after (faults.BadInput reason offset) = ⊥
LoadStops before after faults.Read = ⊥
LoadStops before after faults.Write = ⊥

-- by the status: the totals were written, or a front of them; or nothing was served. A generated input is never refused, and no
-- read of it fails (profile)
abbrev pub LoadEnds : ℕ → Load → Moment → Moment → Status → Type 0
LoadEnds limit load before after statuses.Done =
    (summary : Summary) × IsLoaded limit load summary before after
    × Wrote before.sink.written after.sink.written (summary_lines load.seed summary)
LoadEnds limit load before after statuses.Usage = ⊥
LoadEnds limit load before after statuses.BadInput = ⊥
LoadEnds limit load before after statuses.ReadFault = ⊥
LoadEnds limit load before after statuses.WriteFault =
    (summary : Summary) × IsLoaded limit load summary before after
    × WrotePart before.sink.written after.sink.written (summary_lines load.seed summary)
LoadEnds limit load before after statuses.NoMemory = IsNotServed before after
LoadEnds limit load before after statuses.DriveRefused = IsNotServed before after
LoadEnds limit load before after statuses.No = ⊥
LoadEnds limit load before after statuses.NotCovered = ⊥
