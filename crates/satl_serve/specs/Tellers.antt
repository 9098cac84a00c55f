-- What a teller tells of a run that is served, whoever it is (profile).
use Rattle.std.specs.Prelude.{◌≡◌, ℕ, List}
use Rattle.satl_frame.specs.declared.frames.Frame.{Frame}
use Rattle.satl_frame.specs.Output.{Answer}
use Rattle.satl_io.specs.Causes.{total}
use Rattle.satl_direct.specs.Run.{joined}
use Rattle.satl_step.specs.Runs.{requests_in}
use Rattle.satl_step.specs.Telling.{all_behind}
use Rattle.satl_serve.specs.declared.telling.Form.{Form}
use Rattle.satl_serve.specs.Forms.{told}
use Rattle.satl_serve.specs.Headline.{IsServedToEnd}
use Rattle.satl_serve.specs.Moments.{Moment, Spot}
use Rattle.satl_serve.specs.Runs.{RanWhole}

-- a teller tells each answer in this form, whatever it told before (profile)
abbrev pub TellsIn : {T : Type 0} → (T → Answer → List ℕ) → (T → Answer → T) → Form → T → Type 0
TellsIn by behind form teller =
    (earlier : List Answer) (answer : Answer) → by (all_behind behind teller earlier) answer ≡ told form answer

-- so many of the events are requests, at most 2^64 - 1, and a teller stands behind these answers (profile)
pub record HasTold {T : Type 0} (behind : T → Answer → T) (before after : T) (requests : ℕ) (events : List Frame)
    (groups : List (List Answer)) : Type 0 where
  pub requests_are : requests ≡ total (requests_in events)
  pub teller : after ≡ all_behind behind before (joined groups)

-- a run up to END, whose answers this teller told (profile)
pub record RanBy {T : Type 0} (behind : T → Answer → T) (form : Form) (limit : ℕ) (teller teller' : T) (requests : ℕ)
    (before after : Spot) : Type 0 where
  pub to_end : RanWhole form limit before after
  pub told_so : HasTold behind teller teller' requests to_end.events to_end.groups

-- an input was served up to END, and this teller told its answers (profile)
pub record IsServedBy {T : Type 0} (behind : T → Answer → T) (form : Form) (limit : ℕ) (teller teller' : T) (requests : ℕ)
    (before after : Moment) : Type 0 where
  pub to_end : IsServedToEnd form limit before after
  pub told_so : HasTold behind teller teller' requests to_end.run.events to_end.run.groups
