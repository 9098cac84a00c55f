-- How serving ended, where a call failed and where none did.
use Rattle.std.proofs.Common.{◌∙◌, ap, sym}
use Rattle.std.specs.Prelude.{◌≡◌, List, [], Result, Ok, Err}
use Rattle.std.specs.List.{AllByRecursion}
use Rattle.std.specs.Result.{IsErrAnd}
use Rattle.satl_base.specs.declared.reply.Reply.{Reply}
use Rattle.satl_frame.specs.Output.{IsWritable}
use Rattle.satl_drive.specs.State.{DriveState}
use Rattle.satl_core.specs.Layer.{Layer, Tied, reply_pages}
use Rattle.satl_step.specs.Serving.{WholeOrInPart, Leaves}

pub ends_in_part : {S X E : Type 0} (Whole InPart : S → S → Type 0) (a c : S) (r : Result X E) (P : E → Type 0) → IsErrAnd r P → InPart a c → WholeOrInPart Whole InPart a c r
ends_in_part Whole InPart a c (Ok x) P failed part = absurd failed
ends_in_part Whole InPart a c (Err e) P failed part = record { whole = tt; part = part }

-- a write failed
pub leaves_some : {X E : Type 0} (l : Layer) (d : DriveState) (waiting : List Reply) (r : Result X E) (P : E → Type 0) → IsErrAnd r P → Tied l d → l.out ≡ reply_pages waiting → AllByRecursion IsWritable waiting → Leaves l d waiting r
leaves_some l d waiting (Ok x) P failed tied kept writable = absurd failed
leaves_some l d waiting (Err e) P failed tied kept writable = record { tied = tied; all_in = tt; none = tt; kept = kept; writable = writable }

-- no reply waits, whether a write failed or not
pub leaves_all : {X E : Type 0} (l : Layer) (d : DriveState) (waiting : List Reply) (r : Result X E) → Tied l d → l.out ≡ 0 → waiting ≡ [] → Leaves l d waiting r
leaves_all l d waiting (Ok x) tied all_in none = record { tied = tied; all_in = all_in; none = none; kept = tt; writable = tt }
leaves_all l d waiting (Err e) tied all_in none = record { tied = tied; all_in = tt; none = tt; kept = all_in ∙ ap reply_pages (sym none); writable = rw none tt }
