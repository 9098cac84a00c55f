-- Deeds of events one after the other.
use Rattle.std.proofs.Common.{◌≡◌, sym, ap, ◌∙◌, subst, ℕ, ◌<◌, List, [], ◌∷◌, ◌++◌, Some, None}
use Rattle.std.proofs.lemmas.List.{append-nil}
use Rattle.satl_base.specs.declared.bench.BenchEvent.{BenchEvent}
use Rattle.satl_base.specs.declared.bench.BenchEvent.TheVariants as events
use Rattle.satl_base.specs.declared.reply.Reply.{Reply}
use Rattle.satl_base.specs.Cells.{Pair}
use Rattle.satl_frame.specs.declared.frames.Frame.{Frame}
use Rattle.satl_frame.specs.declared.frames.Frame.TheVariants as frames
use Rattle.satl_frame.specs.Output.{Answer}
use Rattle.satl_direct.specs.Device.{Device}
use Rattle.satl_audit.specs.Deeds.{Deed}
use Rattle.satl_audit.specs.Deeds.Deed.{shows, powers}
use Rattle.satl_audit.specs.Following.{Follows, SomeRefuses, along}
use Rattle.satl_audit.specs.Kept.{Keeping, known_sector_at}
use Rattle.satl_audit.specs.Skeleton.{Benched, Stepped, TurnsDone, pairs_shown}
use Rattle.satl_audit.proofs.AlongLemmas.{follows_push, refuses_push}

-- deeds that begin with pairs that show, or none
pub data Begins : List Deed → Type 0 where
  nothing : Begins []
  showing : (pairs : List Pair) (ds : List Deed) → Begins (shows pairs ∷ ds)

begins_more : (ds : List Deed) (pairs : List Pair) (es : List Deed) → Begins ds → Begins (ds ++ shows pairs ∷ es)
begins_more _ pairs es nothing = showing pairs es
begins_more _ pairs es (showing qs ds) = showing qs (ds ++ shows pairs ∷ es)

begins_turns : (s : Device) {n : ℕ} {replies : List Reply} {deeds : List Deed} {u : Device} → TurnsDone s n replies deeds u → Begins deeds
begins_turns s TurnsDone.none = nothing
begins_turns s (TurnsDone.idle t e) = begins_turns s t
begins_turns s (TurnsDone.more {deeds = deeds} {mid = mid} reply deed t d) = begins_more deeds (pairs_shown mid) (deed ∷ []) (begins_turns s t)

begins_benched : (event : BenchEvent) (s u : Device) (ds : List Deed) → Benched event s ds u → Begins ds
begins_benched (events.Strike which lba) s u ds e = absurd e
begins_benched (events.Mend lba) s u ds e = absurd e
begins_benched (events.Glitch count) s u ds e = absurd e
begins_benched (events.Order order) s u ds e = subst Begins (sym e.0) nothing
begins_benched events.Power s u ds e = subst Begins (sym e.0) (showing (pairs_shown s) (powers ∷ []))
begins_benched events.Unplug s u ds e = absurd e

pub begins_stepped : (event : Frame) (s u : Device) (now : List Answer) (ds : List Deed) → Stepped event s now ds u → Begins ds
begins_stepped (frames.Request r) s u now ds e = subst Begins (sym e.3) (showing (pairs_shown s) [])
begins_stepped (frames.Manage m) s u now ds e = absurd e
begins_stepped (frames.Turn n) s u now ds e = begins_turns s e.2
begins_stepped (frames.Bench event) s u now ds e = begins_benched event s u ds e.1
begins_stepped frames.End s u now ds e = begins_turns s e.3

pub follows_join : (input : List ℕ) (ds es : List Deed) (old mid new : List Keeping) → Begins es → Follows input ds old mid → Follows input es mid new → Follows input (ds ++ es) old new
follows_join input ds _ old mid new nothing f g = (
  g.0 ∙ f.0,
  λ x less. ap (λ (l : List Deed). along x None l (Some (known_sector_at input old x))) (append-nil ds) ∙ f.1 x less ∙ g.1 x (subst (λ n. x < n) (sym f.0) less),
)
follows_join input ds _ old mid new (showing pairs es) f g = follows_push input ds pairs es old mid new f g

pub refuses_join : (input : List ℕ) (ds es : List Deed) (old mid : List Keeping) → Begins es → Follows input ds old mid → SomeRefuses input es mid → SomeRefuses input (ds ++ es) old
refuses_join input ds _ old mid nothing f r = absurd (some_apart r.2)
  where
    some_apart : {X : Type 0} {x : X} → Some x ≡ None → ⊥
    some_apart e = cc
refuses_join input ds _ old mid (showing pairs es) f r = refuses_push input ds pairs es old mid f r
