-- One frame over the units.
use Rattle.std.proofs.Common.{◌≡◌, append_assoc, refl, sym, ap, subst, ◌∙◌, arith, ℕ, zero, suc, ◌+◌, ◌≤◌, List, [], ◌∷◌, ◌++◌, drop, length, take}
use Rattle.std.proofs.lemmas.List.{append-nil, length-map}
use Rattle.std.specs.Prelude.{Option, Some, IfSome, slice_get, slice_index_or, slice_set}
use Rattle.satl_io.specs.Known.{Wrote, WrotePart}
use Rattle.satl_io.proofs.Joined.{Wrote-more, Wrote-none, WrotePart-more}
use Rattle.satl_frame.specs.Output.{Answer}
use Rattle.satl_frame.specs.declared.frames.Frame.{Frame}
use Rattle.satl_fleet.specs.Output.{CutAnswers, IsRoundOf, all_of, told_from, told_under}
use Rattle.satl_fleet.specs.Rounds.{AllDid, AllDidInPart, BreaksAt, CallsNoneAt, DidAt, DidAtInPart, DidTo, DidToInPart, EachDid, Stage, Stops, round_of, silence}
use Rattle.satl_fleet.specs.Rounds.DidTo.{rest, more}
use Rattle.satl_fleet.specs.Rounds.DidToInPart.{here as part_here, later as part_later}
use Rattle.satl_fleet.specs.Rounds.EachDid.{none as no_unit, passes as unit_passes, serves as unit_serves}
use Rattle.satl_fleet.specs.Rounds.Stops.{here as stop_here, passes as stop_passes, serves as stop_serves}
use Rattle.satl_fleet.specs.Routing.{seen}
use Rattle.satl_step.specs.Events.{CallsNone}
use Rattle.satl_fleet.specs.Units.{Did, DidInPart, IsToldUnder, UnitState, device_of}
use Rattle.satl_fleet.proofs.UnitLemmas.{last_behind}

-- ---- telling

-- nobody answers
pub told_silence : (k : ℕ) (ss : List UnitState) → told_from k (silence ss) ≡ []
told_silence k [] = refl
told_silence k (s ∷ ss) = told_silence (suc k) ss

-- one unit more answers, and those behind it do not
told_from-push : (k : ℕ) (groups : List (List Answer)) (answers : List Answer) (ss : List UnitState) → told_from k (groups ++ answers ∷ silence ss) ≡ told_from k groups ++ told_under (k + length groups) answers
told_from-push k [] answers ss = ap (λ l. told_under k answers ++ l) (told_silence (suc k) ss) ∙ (append-nil (told_under k answers) ∙ ap (λ n. told_under n answers) (omega arith))
told_from-push k (g ∷ groups) answers ss =
    ap (λ l. told_under k g ++ l) (told_from-push (suc k) groups answers ss)
    ∙ (sym (append_assoc (told_under k g) (told_from (suc k) groups) (told_under (suc k + length groups) answers))
    ∙ ap (λ n. (told_under k g ++ told_from (suc k) groups) ++ told_under n answers) (omega arith))

-- the unit of this number alone answers
pub alone : ℕ → List Answer → List UnitState → List (List Answer)
alone k answers [] = []
alone zero answers (s ∷ ss) = answers ∷ silence ss
alone (suc k) answers (s ∷ ss) = [] ∷ alone k answers ss

pub told_alone : (k j : ℕ) (answers : List Answer) (ss : List UnitState) (old : UnitState) → slice_get ss j ≡ Some old → told_from k (alone j answers ss) ≡ told_under (k + j) answers
unfolding alone
told_alone k j answers [] old is = absurd cc
told_alone k zero answers (s ∷ ss) old is = ap (λ l. told_under k answers ++ l) (told_silence (suc k) ss) ∙ (append-nil (told_under k answers) ∙ ap (λ n. told_under n answers) (omega arith))
told_alone k (suc j) answers (s ∷ ss) old is = told_alone (suc k) j answers ss old is ∙ ap (λ n. told_under n answers) (omega arith)

-- those before it answer nothing
told_before_alone : (k j : ℕ) (answers : List Answer) (ss : List UnitState) → told_from k (take j (alone j answers ss)) ≡ []
unfolding alone
told_before_alone k zero answers ss = refl
told_before_alone k (suc j) answers [] = refl
told_before_alone k (suc j) answers (s ∷ ss) = told_before_alone (suc k) j answers ss

alone_at : (j : ℕ) (answers : List Answer) (ss : List UnitState) (old : UnitState) → slice_get ss j ≡ Some old → slice_index_or (alone j answers ss) j [] ≡ answers
unfolding alone
alone_at j answers [] old is = absurd cc
alone_at zero answers (s ∷ ss) old is = refl
alone_at (suc j) answers (s ∷ ss) old is = alone_at j answers ss old is

-- the output breaks off in its answers
pub alone_breaks : (j : ℕ) (cut : CutAnswers) (ss : List UnitState) (old : UnitState) (before after : Option (List ℕ)) → slice_get ss j ≡ Some old → IsToldUnder j cut before after → BreaksAt j cut (alone j (all_of cut) ss) before after
alone_breaks j cut ss old before after is told = record {
  its = alone_at j (all_of cut) ss old is;
  behind = before;
  wrote = subst (Wrote before before) (sym (told_before_alone 0 j (all_of cut) ss)) (Wrote-none before);
  told = told;
}

-- a front of all of them was told
pub told_in_part : (k : ℕ) (cut : CutAnswers) (before after : Option (List ℕ)) → IsToldUnder k cut before after → WrotePart before after (told_under k (all_of cut))
told_in_part k cut before after told = subst (WrotePart before after) (sym (last_behind k cut)) (WrotePart-more told.wrote told.part)

-- ---- so many units

-- the groups before a unit, and its own
pub group_at : (before : List (List Answer)) (answers : List Answer) (behind : List (List Answer)) (k : ℕ) → length before ≡ k → slice_index_or (before ++ answers ∷ behind) k [] ≡ answers
group_at [] answers behind k is = ap (λ n. slice_index_or (answers ∷ behind) n []) (sym is)
group_at (g ∷ gs) answers behind k is = ap (λ n. slice_index_or (g ∷ (gs ++ answers ∷ behind)) n []) (sym is) ∙ group_at gs answers behind (length gs) refl

groups_before : (before behind : List (List Answer)) (k : ℕ) → length before ≡ k → take k (before ++ behind) ≡ before
groups_before [] behind k is = ap (λ n. take n behind) (sym is)
groups_before (g ∷ gs) behind k is = ap (λ n. take n (g ∷ (gs ++ behind))) (sym is) ∙ ap (λ l. g ∷ l) (groups_before gs behind (length gs) refl)

did_length : {event : Frame} {n : ℕ} {groups : List (List Answer)} {olds news : List UnitState} → DidTo event n groups olds news → length groups ≡ n
did_length rest = refl
did_length (more did to) = ap suc (did_length to)

first_did : {event : Frame} {answers : List Answer} {old new : UnitState} (ss : List UnitState) → slice_get ss 0 ≡ Some old → Did event old answers new → DidTo event 1 (answers ∷ []) ss (slice_set ss 0 new)
first_did [] is did = absurd cc
first_did {event} {answers} {old} {new} (s ∷ ss) is did = let same : old ≡ s = cc in subst (λ x. DidTo event 1 (answers ∷ []) (x ∷ ss) (new ∷ ss)) same (more did rest)

did_push : {event : Frame} {n : ℕ} {groups : List (List Answer)} {answers : List Answer} {olds news : List UnitState} {old new : UnitState} → DidTo event n groups olds news → slice_get news n ≡ Some old → Did event old answers new → DidTo event (suc n) (groups ++ answers ∷ []) olds (slice_set news n new)
did_push {olds = ss} rest is did = first_did ss is did
did_push (more d to) is did = more d (did_push to is did)

first_part : {event : Frame} {cut : CutAnswers} {old new : UnitState} (ss : List UnitState) → slice_get ss 0 ≡ Some old → DidInPart event old cut new → DidToInPart event cut 0 (all_of cut ∷ silence (drop 1 ss)) ss (slice_set ss 0 new)
first_part [] is did = absurd cc
first_part {event} {cut} {old} {new} (s ∷ ss) is did = let same : old ≡ s = cc in subst (λ x. DidToInPart event cut 0 (all_of cut ∷ silence ss) (x ∷ ss) (new ∷ ss)) same (part_here did)

part_push : {event : Frame} {n : ℕ} {groups : List (List Answer)} {cut : CutAnswers} {olds news : List UnitState} {old new : UnitState} → DidTo event n groups olds news → slice_get news n ≡ Some old → DidInPart event old cut new → DidToInPart event cut n (groups ++ all_of cut ∷ silence (drop (suc n) olds)) olds (slice_set news n new)
part_push {olds = ss} rest is did = first_part ss is did
part_push (more d to) is did = part_later d (part_push to is did)

-- so many units did an event, and told it
pub record DoneTo (event : Frame) (n : ℕ) (before after : Stage) : Type 0 where
  pub groups : List (List Answer)
  pub did : DidTo event n groups before.target.units after.target.units
  pub wrote : Wrote before.written after.written (told_from 0 groups)

pub done_none : (event : Frame) (a : Stage) → DoneTo event 0 a a
done_none event a = record { groups = []; did = rest; wrote = Wrote-none a.written }

place : {event : Frame} {n : ℕ} {groups : List (List Answer)} {olds news : List UnitState} (answers : List Answer) (ss : List UnitState) → DidTo event n groups olds news → told_from 0 groups ++ told_under n answers ≡ told_from 0 (groups ++ answers ∷ silence ss)
place {event} {n} {groups} answers ss to = sym (told_from-push 0 groups answers ss ∙ ap (λ m. told_from 0 groups ++ told_under m answers) (let long = did_length to in omega (arith, long)))

pub done_more : (event : Frame) (n : ℕ) (a b c : Stage) → DoneTo event n a b → DidAt n event b c → DoneTo event (suc n) a c
done_more event n a b c done at = record {
  groups = done.groups ++ at.answers ∷ [];
  did = subst (DidTo event (suc n) (done.groups ++ at.answers ∷ []) a.target.units) (sym at.set) (did_push done.did at.here at.did);
  wrote = subst (Wrote a.written c.written) (place at.answers [] done.did) (Wrote-more done.wrote at.wrote);
}

pub done_next : (event : Frame) (n : ℕ) (a b c : Stage) → DoneTo event n a b → DidAt n event b c → DoneTo event (n + 1) a c
done_next event n a b c done at = subst (λ m. DoneTo event m a c) (omega arith) (done_more event n a b c done at)

pub done_all : (event : Frame) (n : ℕ) (a b : Stage) → n ≡ length a.target.units → DoneTo event n a b → AllDid event a b
done_all event n a b all done = record { groups = done.groups; did = subst (λ m. DidTo event m done.groups a.target.units b.target.units) all done.did; wrote = done.wrote }

pub done_part : (event : Frame) (n : ℕ) (a b c : Stage) → DoneTo event n a b → DidAtInPart n event b c → AllDidInPart event a c
done_part event n a b c done at =
    let answers = all_of at.cut in
    let behind = silence (drop (suc n) a.target.units) in
    record {
      stop = n;
      cut = at.cut;
      groups = done.groups ++ answers ∷ behind;
      did = subst (DidToInPart event at.cut n (done.groups ++ answers ∷ behind) a.target.units) (sym at.set) (part_push done.did at.here at.did);
      breaks = record {
        its = group_at done.groups answers behind n (did_length done.did);
        behind = b.written;
        wrote = subst (λ gs. Wrote a.written b.written (told_from 0 gs)) (sym (groups_before done.groups (answers ∷ behind) n (did_length done.did))) done.wrote;
        told = at.told;
      };
      part = subst (WrotePart a.written c.written) (place answers (drop (suc n) a.target.units) done.did) (WrotePart-more done.wrote (told_in_part n at.cut b.written c.written at.told));
    }

-- the next unit is as before
next_stays : {event : Frame} {n : ℕ} {groups : List (List Answer)} {olds news : List UnitState} → DidTo event n groups olds news → slice_get news n ≡ slice_get olds n
next_stays rest = refl
next_stays (more did to) = next_stays to

-- and does not call its drive, where none does
pub none_left : {event : Frame} {n : ℕ} {a b : Stage} → DoneTo event n a b → ((k : ℕ) → CallsNoneAt k event a.target.units) → CallsNoneAt n event b.target.units
none_left {event} {n} done none = subst (λ o. IfSome o (λ s. CallsNone event (device_of s))) (sym (next_stays done.did)) (none n)

-- ---- a frame

module _ (units : ℕ) (frame event : Frame) where
  pub serves_all : ((k : ℕ) → seen units k frame ≡ event ∷ []) → (k : ℕ) {n : ℕ} {groups : List (List Answer)} {olds news : List UnitState} → DidTo event n groups olds news → n ≡ length olds → EachDid units frame k groups olds news
  serves_all each k {olds = []} rest all = no_unit
  serves_all each k {olds = s ∷ ss} rest all = absurd (omega (arith, all))
  serves_all each k (more did to) all = unit_serves event (each k) did (serves_all each (suc k) to (omega (arith, all)))

  pub stops_all : ((k : ℕ) → seen units k frame ≡ event ∷ []) → {cut : CutAnswers} → (k stop : ℕ) {n : ℕ} {groups : List (List Answer)} {olds news : List UnitState} → DidToInPart event cut n groups olds news → stop ≡ k + n → Stops units frame stop cut k groups olds news
  stops_all each k stop (part_here did) is = stop_here event (omega (arith, is)) (each k) did
  stops_all each k stop (part_later did to) is = stop_serves event (each k) did (stops_all each (suc k) stop to (omega (arith, is)))

  pub all_pass : (k : ℕ) (ss : List UnitState) → ((i : ℕ) → k ≤ i → seen units i frame ≡ []) → EachDid units frame k (silence ss) ss ss
  all_pass k [] none = no_unit
  all_pass k (s ∷ ss) none = unit_passes (none k (omega arith)) (all_pass (suc k) ss (λ i le. none i (omega (arith, le))))

  module _ (at : ℕ) (here : seen units at frame ≡ event ∷ []) (others : (i : ℕ) → (i ≡ at → ⊥) → seen units i frame ≡ []) (answers : List Answer) (old new : UnitState) where
    pub one_serves : (k j : ℕ) (ss : List UnitState) → at ≡ k + j → slice_get ss j ≡ Some old → Did event old answers new → EachDid units frame k (alone j answers ss) ss (slice_set ss j new)
    unfolding alone
    one_serves k j [] is there did = absurd cc
    one_serves k zero (s ∷ ss) is there did =
        let same : old ≡ s = cc in
        let now : at ≡ k = omega (arith, is) in
        subst (λ x. EachDid units frame k (answers ∷ silence ss) (x ∷ ss) (new ∷ ss)) same
        (unit_serves event (subst (λ n. seen units n frame ≡ event ∷ []) now here) did (all_pass (suc k) ss (λ i le. others i (λ e. omega (arith, le, e, is)))))
    one_serves k (suc j) (s ∷ ss) is there did = unit_passes (others k (λ e. omega (arith, e, is))) (one_serves (suc k) j ss (omega (arith, is)) there did)

    pub one_stops : (cut : CutAnswers) → answers ≡ all_of cut → (k j : ℕ) (ss : List UnitState) → at ≡ k + j → slice_get ss j ≡ Some old → DidInPart event old cut new → Stops units frame at cut k (alone j answers ss) ss (slice_set ss j new)
    unfolding alone
    one_stops cut are k j [] is there did = absurd cc
    one_stops cut are k zero (s ∷ ss) is there did =
        let same : old ≡ s = cc in
        let now : at ≡ k = omega (arith, is) in
        subst (λ l. Stops units frame at cut k (l ∷ silence ss) (s ∷ ss) (new ∷ ss)) (sym are)
        (subst (λ x. Stops units frame at cut k (all_of cut ∷ silence ss) (x ∷ ss) (new ∷ ss)) same
        (stop_here event (sym now) (subst (λ n. seen units n frame ≡ event ∷ []) now here) did))
    one_stops cut are k (suc j) (s ∷ ss) is there did = stop_passes (others k (λ e. omega (arith, e, is))) (one_stops cut are (suc k) j ss (omega (arith, is)) there did)

-- ---- who answers

-- units that answer nothing
pub silent_at : (ss : List UnitState) (j : ℕ) → slice_index_or (silence ss) j [] ≡ []
silent_at [] j = refl
silent_at (s ∷ ss) zero = refl
silent_at (s ∷ ss) (suc j) = silent_at ss j

module _ (units : ℕ) (frame : Frame) where
  -- a frame is not both seen and unseen
  both : {X : Type 0} (k : ℕ) (event : Frame) → seen units k frame ≡ event ∷ [] → seen units (k + 0) frame ≡ [] → X
  both k event sees unseen = let none : seen units k frame ≡ [] = subst (λ n. seen units n frame ≡ []) (omega arith) unseen in absurd cc

  -- the same unit, counted from the next one on
  further : (k j : ℕ) → seen units (k + suc j) frame ≡ [] → seen units (suc k + j) frame ≡ []
  further k j unseen = subst (λ n. seen units n frame ≡ []) (omega arith) unseen

  -- one group for each unit, and an empty one for a unit that does not see the frame
  each_length : {k : ℕ} {groups : List (List Answer)} {olds news : List UnitState} → EachDid units frame k groups olds news → length groups ≡ length olds
  each_length no_unit = refl
  each_length (unit_passes unseen others) = ap suc (each_length others)
  each_length (unit_serves event sees did others) = ap suc (each_length others)

  each_silent : (k j : ℕ) {groups : List (List Answer)} {olds news : List UnitState} → EachDid units frame k groups olds news → seen units (k + j) frame ≡ [] → slice_index_or groups j [] ≡ []
  each_silent k j no_unit none = refl
  each_silent k zero (unit_passes unseen others) none = refl
  each_silent k (suc j) (unit_passes unseen others) none = each_silent (suc k) j others (further k j none)
  each_silent k zero (unit_serves event sees did others) none = both k event sees none
  each_silent k (suc j) (unit_serves event sees did others) none = each_silent (suc k) j others (further k j none)

  -- the same, up to a unit that did it in part
  stops_length : {stop : ℕ} {cut : CutAnswers} {k : ℕ} {groups : List (List Answer)} {olds news : List UnitState} → Stops units frame stop cut k groups olds news → length groups ≡ length olds
  stops_length (stop_here {ss = ss} event is sees did) = ap suc (length-map ss (λ _. []))
  stops_length (stop_passes unseen others) = ap suc (stops_length others)
  stops_length (stop_serves event sees did others) = ap suc (stops_length others)

  stops_silent : {cut : CutAnswers} → (k j : ℕ) {stop : ℕ} {groups : List (List Answer)} {olds news : List UnitState} → Stops units frame stop cut k groups olds news → seen units (k + j) frame ≡ [] → slice_index_or groups j [] ≡ []
  stops_silent k zero (stop_here event is sees did) none = both k event sees none
  stops_silent k (suc j) (stop_here {ss = ss} event is sees did) none = silent_at ss j
  stops_silent k zero (stop_passes unseen others) none = refl
  stops_silent k (suc j) (stop_passes unseen others) none = stops_silent (suc k) j others (further k j none)
  stops_silent k zero (stop_serves event sees did others) none = both k event sees none
  stops_silent k (suc j) (stop_serves event sees did others) none = stops_silent (suc k) j others (further k j none)

  pub each_is_round : {groups : List (List Answer)} {olds news : List UnitState} → length olds ≡ units → EachDid units frame 0 groups olds news → IsRoundOf units (round_of frame groups)
  each_is_round long each = record { one_each = each_length each ∙ long; unseen_silent = λ k none. each_silent 0 k each (subst (λ n. seen units n frame ≡ []) (omega arith) none) }

  pub stops_is_round : {stop : ℕ} {cut : CutAnswers} {groups : List (List Answer)} {olds news : List UnitState} → length olds ≡ units → Stops units frame stop cut 0 groups olds news → IsRoundOf units (round_of frame groups)
  stops_is_round long stops = record { one_each = stops_length stops ∙ long; unseen_silent = λ k none. stops_silent 0 k stops (subst (λ n. seen units n frame ≡ []) (omega arith) none) }
