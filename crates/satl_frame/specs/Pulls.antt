-- What pulling a stated number of bytes from a source leaves (profile).
use Rattle.std.specs.Prelude.{ℕ, ◌<◌, ◌≤◌, ◌≡◌, Bool, true, false, List, ◌++◌, length, take, reverse, IfOk, IfSome, IsErrOf, Option, Some, None}
use Rattle.std.specs.declared.result.Result.{Result}
use Rattle.std.specs.declared.result.Result.TheVariants.{Ok, Err}
use Rattle.satl_io.specs.Causes.{Rose}
use Rattle.satl_io.specs.Known.{Took}
use Rattle.satl_base.specs.declared.bench.BenchEvent.{BenchEvent}
use Rattle.satl_base.specs.declared.block.Block.{Block}
use Rattle.satl_base.specs.declared.request.Request.{Request}
use Rattle.satl_frame.specs.DataPages.{pages_of}
use Rattle.satl_frame.specs.Faults.{has_bad_field}
use Rattle.satl_frame.specs.Frames.{event_fields, kind, payload_bytes, IsEvent, IsFrame}
use Rattle.satl_frame.specs.declared.frames.Version.{Version}
use Rattle.satl_frame.specs.declared.frames.Frame.{Frame}
use Rattle.satl_frame.specs.declared.frames.Frame.TheVariants as frames
use Rattle.satl_frame.specs.declared.pulling.PullError.{PullError}
use Rattle.satl_frame.specs.declared.pulling.PullError.TheVariants.{Short, Failed}

-- fewer bytes than this were left, and all of them were taken
pub record Lacks (left left' : Option (List ℕ)) (n : ℕ) : Type 0 where
  pub known : IfSome left (λ bytes. (length bytes < n) × Took left left' bytes)

-- bytes are short only where the source had fewer, and a read failed only where the count rose
pub record PullCauses {T : Type 0} (left left' : Option (List ℕ)) (n before now : ℕ)
    (result : Result T PullError) : Type 0 where
  pub later : before ≤ now
  pub short : IsErrOf result Short → Lacks left left' n
  pub failed : IsErrOf result Failed → Rose before now

-- fewer bytes were taken than a number that the bytes left tell
pub record FewerThan (left left' : Option (List ℕ)) (n : List ℕ → ℕ) : Type 0 where
  pub known : IfSome left (λ bytes. (count : ℕ) × (count < n bytes) × Took left left' (take count bytes))

-- where a read failed, fewer bytes were taken than were asked for
abbrev pub Stopped : {T : Type 0} → Option (List ℕ) → Option (List ℕ) → ℕ → Result T PullError → Type 0
Stopped left left' n result = IsErrOf result Failed → FewerThan left left' (λ _. n)

-- where all bytes came, the source has waited for none behind them, if it had waited for none before
abbrev pub StaysUnwaited : {T E : Type 0} → Bool → Bool → Result T E → Type 0
StaysUnwaited waited waited' result = IfOk result (λ _. waited ≡ false → waited' ≡ false)

-- so many bytes were taken
pub record TookCount (left left' : Option (List ℕ)) (n : ℕ) : Type 0 where
  pub taken : List ℕ
  pub took : Took left left' taken
  pub size : length taken ≡ n

-- so many bytes were taken, and stand in order in as many of the pages as there were
pub record TookPages (left left' : Option (List ℕ)) (n room : ℕ) (pages : List Block) : Type 0 where
  pub taken : List ℕ
  pub took : Took left left' taken
  pub size : length taken ≡ n
  pub pages_are : pages ≡ take room (pages_of taken)

-- so many bytes were taken; the pages with them, as many as were free, stand before the old ones, the last of them first
pub record FilledInReverse (left left' : Option (List ℕ)) (n room : ℕ) (old new : List Block) : Type 0 where
  pub taken : List ℕ
  pub took : Took left left' taken
  pub size : length taken ≡ n
  pub placed : reverse new ≡ reverse old ++ take room (pages_of taken)

-- a frame of which no more pages than these are kept
abbrev pub cut_to : ℕ → Frame → Frame
cut_to room (frames.Request r) = frames.Request (record r { body = take room r.body })
cut_to room (frames.Manage m) = frames.Manage m
cut_to room (frames.Turn count) = frames.Turn count
cut_to room (frames.Bench event) = frames.Bench event
cut_to room frames.End = frames.End

-- the pages of a frame: those of a request's data-out
abbrev pub frame_pages : Frame → ℕ
frame_pages (frames.Request r) = length r.body
frame_pages _ = 0

-- a payload is that of this event
pub record SpellsEvent (payload : List ℕ) (event : BenchEvent) : Type 0 where
  pub is_event : IsEvent event
  pub fields_are : event_fields event ≡ payload

-- a payload is that of this frame, which is of this kind and has no page
pub record SpellsFrame (version : Version) (k : ℕ) (payload : List ℕ) (frame : Frame) : Type 0 where
  pub is_frame : IsFrame version frame
  pub kind_is : kind frame ≡ k
  pub payload_is : payload_bytes frame ≡ payload
  pub no_page : frame_pages frame ≡ 0
  pub uncut : (room : ℕ) → cut_to room frame ≡ frame

-- what is known of a frame before its payload: the version of the input, the kind, and how many bytes of payload it has
pub record Head : Type 0 where
  pub version : Version
  pub code : ℕ
  pub len : ℕ

-- the head of a request
abbrev pub head_of_request : Version → ℕ → Head
head_of_request version len = record { version = version; code = 1; len = len }

-- the payload of a whole frame with this head was taken, and this is the frame with the pages that were free
pub record TookPayload (left left' : Option (List ℕ)) (head : Head) (room : ℕ) (frame : Frame) : Type 0 where
  pub whole : Frame
  pub is_frame : IsFrame head.version whole
  pub cut : frame ≡ cut_to room whole
  pub took : Took left left' (payload_bytes whole)
  pub kind_is : kind whole ≡ head.code
  pub length_is : length (payload_bytes whole) ≡ head.len

-- the data-out of a request was taken, and this is the request with the pages that were free
pub record TookRest (left left' : Option (List ℕ)) (request : Request) (len room : ℕ) (filled : Request) : Type 0 where
  pub taken : List ℕ
  pub took : Took left left' taken
  pub size : length taken ≡ len
  pub filled_is : filled ≡ record request { body = take room (pages_of taken); data_len = len }

-- the payload behind this head was taken, and a field of it is bad
pub record TookBadField (left left' : Option (List ℕ)) (head : Head) : Type 0 where
  pub taken : List ℕ
  pub took : Took left left' taken
  pub length_is : length taken ≡ head.len
  pub bad : has_bad_field head.version head.code taken ≡ true

abbrev pub found_pages : Option Frame → ℕ
found_pages None = 0
found_pages (Some f) = frame_pages f

-- the pages of a request
abbrev pub request_pages : Request → ℕ
request_pages r = length r.body

abbrev pub asked_pages : Option Request → ℕ
asked_pages None = 0
asked_pages (Some r) = request_pages r

-- the pages that a call gives away: none where it fails
abbrev pub given_pages : {T E : Type 0} → (T → ℕ) → Result T E → ℕ
given_pages pages (Ok x) = pages x
given_pages pages (Err e) = 0
