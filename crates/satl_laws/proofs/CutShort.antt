-- Runs that end in part are runs over what was done of their events.
use Rattle.std.proofs.Common.{refl, sym, ap, arith, ◌∙◌, ℕ, suc, ◌+◌, max, List, [], ◌∷◌, ◌++◌, map}
use Rattle.std.proofs.lemmas.List.{map-append}
use Rattle.satl_frame.specs.declared.frames.Frame.{Frame}
use Rattle.satl_frame.specs.declared.frames.Frame.TheVariants as frames
use Rattle.satl_frame.specs.Output.{Answer}
use Rattle.satl_frame.specs.Output.Answer.{replied}
use Rattle.satl_direct.specs.Device.{Device}
use Rattle.satl_direct.specs.Run.{Does, DoesShort, RunDeep, RunInPart, depth, losses_in}
use Rattle.satl_direct.specs.Run.DoesInPart.{does_all, does_some}
use Rattle.satl_direct.specs.Run.RunDeep.{next_event}
use Rattle.satl_direct.specs.Run.TurnsOf.{more}
use Rattle.satl_direct.specs.Run.RunInPart.{one_event_more}
use Rattle.satl_laws.specs.CutShort.{WereDone}
use Rattle.satl_laws.specs.CutShort.WereDone.{all_done, last_cut}

-- a run over what was done of these events
abbrev IsDone : Device → List Frame → List (List Answer) → ℕ → Device → Type 0
IsDone first all groups losses last = (done : List Frame) × (deep : ℕ) × WereDone all done × RunDeep first done groups losses last deep

-- the turns that an event took before it was cut short are a TURN
pub as_turns : {event : Frame} {s new : Device} {earlier last : List Answer} (h : DoesShort event s earlier last new) → Does (frames.Turn (suc h.count)) s (earlier ++ last) new (max (max h.deep (depth new)) (depth new))
as_turns {new = new} {last = last} h = (h.before ++ h.replies, max h.deep (depth new), ap (λ l. l ++ last) h.earlier_are ∙ (ap (λ l. map replied h.before ++ l) h.last_are ∙ sym (map-append replied h.before h.replies)), more h.turns h.turn, refl)

-- a run, and an event that was cut short
cut_done : {first s new : Device} {events : List Frame} {groups : List (List Answer)} {losses deep : ℕ} (event : Frame) (earlier last : List Answer) → RunDeep first events groups losses s deep → DoesShort event s earlier last new
    → IsDone first (events ++ event ∷ []) (groups ++ (earlier ++ last) ∷ []) (losses + losses_in event s new) new
cut_done {new = new} {events = events} {deep = deep} (frames.Turn n) earlier last so_far h =
    (events ++ frames.Turn (suc h.count) ∷ [], max deep (max (max h.deep (depth new)) (depth new)), last_cut events (frames.Turn n) (suc h.count) (omega arith) h.asked, next_event (frames.Turn (suc h.count)) (earlier ++ last) (max (max h.deep (depth new)) (depth new)) so_far (as_turns h))
cut_done {new = new} {events = events} {deep = deep} frames.End earlier last so_far h =
    (events ++ frames.Turn (suc h.count) ∷ [], max deep (max (max h.deep (depth new)) (depth new)), last_cut events frames.End (suc h.count) (omega arith) h.asked, next_event (frames.Turn (suc h.count)) (earlier ++ last) (max (max h.deep (depth new)) (depth new)) so_far (as_turns h))
cut_done event earlier last so_far h = absurd h.asked

-- the law of runs cut short
pub cut_short_is_a_run : (first last : Device) (all : List Frame) (groups : List (List Answer)) (earlier last_answers : List Answer) (losses : ℕ) → RunInPart first all groups earlier last_answers losses last → IsDone first all (groups ++ (earlier ++ last_answers) ∷ []) losses last
cut_short_is_a_run first last _ _ _ _ _ (one_event_more {events = events} {deep = deep} event earlier last_answers so_far (does_all d does step)) =
    (events ++ event ∷ [], max deep d, all_done (events ++ event ∷ []), next_event event (earlier ++ last_answers) d so_far does)
cut_short_is_a_run first last _ _ _ _ _ (one_event_more event earlier last_answers so_far (does_some h)) = cut_done event earlier last_answers so_far h
