-- Frames that a reader gives, one after the other.
use Rattle.std.proofs.Common.{◌≡◌, append_assoc, refl, sym, ap, subst, ◌∙◌, arith, ℕ, ◌+◌, ◌*◌, ◌≤◌, Bool, true, false, List, [], ◌∷◌, ◌++◌, length}
use Rattle.std.proofs.lemmas.List.{append-nil, take_all}
use Rattle.std.specs.Prelude.{Option, None}
use Rattle.std.specs.List.{AllByRecursion}
use Rattle.satl_base.specs.declared.request.Request.{Request}
use Rattle.satl_io.specs.Known.{Wrote}
use Rattle.satl_io.proofs.Joined.{Wrote-more, Wrote-none}
use Rattle.satl_frame.specs.Frames.{IsFrame, IsRequest, data_out}
use Rattle.satl_frame.specs.Inputs.{NoneEnds}
use Rattle.satl_frame.specs.Progress.{HasRead}
use Rattle.satl_frame.specs.Pulls.{cut_to}
use Rattle.satl_frame.specs.Reading.{AwaitsNoMore, Blames, Gave, Reading}
use Rattle.satl_frame.specs.declared.frames.Version.{Version}
use Rattle.satl_frame.specs.declared.frames.Frame.{Frame}
use Rattle.satl_frame.specs.declared.frames.Frame.TheVariants as frames
use Rattle.satl_frame.specs.declared.frames.FrameFault.{FrameFault}
use Rattle.satl_frame.proofs.Paging.{length-pages_of}
use Rattle.satl_frame.proofs.ProgressLemmas.{has_read_more}
use Rattle.satl_line.proofs.SlotsLemmas.{All-append}
use Rattle.satl_core.specs.Turning.{turn_calls}
use Rattle.satl_step.specs.Loop.{is_end}
use Rattle.satl_step.specs.Runs.{calls_allowed, is_lost_behind_all}
use Rattle.satl_step.proofs.LostLemmas.{lost_push}
use Rattle.satl_step.proofs.RunLemmas.{allowed_push}
use Rattle.satl_step.proofs.LoopLemmas.{expectable, holds, not_end, the_end}
use Rattle.satl_fleet.specs.Loop.{Going, HasGiven, LoopState, ReachedEnd, Refused, SoFar, StoppedInRound, calls_due_unless}
use Rattle.satl_fleet.specs.Output.{IsRoundOf, Round, frames_of, round_told, rounds_told}
use Rattle.satl_fleet.specs.Rounds.{CanRoute, EachDid, IsCut, RoundDone, RoundInPart, NoneCalls, Stops, frame_calls, round_of}
use Rattle.satl_fleet.specs.Rounds.IsCut.{at_unit, behind_all}
use Rattle.satl_fleet.specs.Runs.{HasNoTask}
use Rattle.satl_fleet.specs.Serving.{calls_due}
use Rattle.satl_fleet.specs.Units.{UnitState, pending}
use Rattle.satl_fleet.proofs.CallsLemmas.{due_more, due_part, lost_none_calls, power_idles}
use Rattle.satl_fleet.proofs.RoundLemmas.{each_is_round, stops_is_round}
use Rattle.satl_fleet.proofs.RunLemmas.{cut_so, run_none, run_round, run_round_part}
use Rattle.satl_fleet.proofs.SpotLemmas.{pending_cons}

-- ---- whole frames

-- the pages of a whole request are 4,096 at most
few_pages : (version : Version) (w : Request) → IsRequest version w → length w.body ≤ 4096
few_pages version w is =
    let pages = ap length is.sent.pages ∙ length-pages_of (data_out w) in
    let size = is.sent.size in
    let short = is.sent.short in
    omega (arith, pages, size, short)

uncut : (version : Version) (whole : Frame) → IsFrame version whole → cut_to 4096 whole ≡ whole
uncut version (frames.Request w) is = ap (λ pages. frames.Request (record w { body = pages })) (take_all 4096 w.body (few_pages version w is))
uncut version (frames.Manage m) is = refl
uncut version (frames.Turn n) is = refl
uncut version (frames.Bench event) is = refl
uncut version frames.End is = refl

routable : (version : Version) (whole : Frame) → IsFrame version whole → CanRoute whole
routable version (frames.Request w) is = (holds version w is, expectable version w.expected is.fields.expected)
routable version (frames.Manage m) is = tt
routable version (frames.Turn n) is = tt
routable version (frames.Bench event) is = tt
routable version frames.End is = tt

module _ {old new : Reading} {room : ℕ} {frame : Frame} {left left' : Option (List ℕ)} (gave : Gave old room frame new left left') (pages : room ≡ 4096) where
  pub is_whole : gave.whole ≡ frame
  is_whole = sym (gave.cut ∙ (ap (λ n. cut_to n gave.whole) pages ∙ uncut gave.place.version gave.whole gave.is_frame))

  pub can_route : CanRoute frame
  can_route = subst CanRoute is_whole (routable gave.place.version gave.whole gave.is_frame)

-- ---- lists of rounds

frames_push : (rounds : List Round) (round : Round) → frames_of (rounds ++ round ∷ []) ≡ frames_of rounds ++ round.frame ∷ []
frames_push [] round = refl
frames_push (r ∷ rounds) round = ap (λ fs. r.frame ∷ fs) (frames_push rounds round)

told_push : (units : ℕ) (rounds : List Round) (round : Round) → rounds_told units (rounds ++ round ∷ []) ≡ rounds_told units rounds ++ round_told units round
told_push units [] round = append-nil (round_told units round)
told_push units (r ∷ rounds) round = ap (λ l. round_told units r ++ l) (told_push units rounds round) ∙ sym (append_assoc (round_told units r) (rounds_told units rounds) (round_told units round))

none_pending : (ss : List UnitState) → AllByRecursion HasNoTask ss → pending ss ≡ 0
none_pending [] idle = refl
none_pending (s ∷ ss) idle = let none = ap length idle.0.tasks in let others = none_pending ss idle.1 in omega (arith, none, others, pending_cons s ss)

-- ---- frames so far

module _ (units : ℕ) where
  pub going_start : (a : LoopState) → a.reader.place ≡ None → AllByRecursion HasNoTask a.stage.target.units → Going units a a
  going_start a unread idle = record {
    rounds = [];
    so_far = record {
      are_rounds = tt;
      given = record { limit = refl; newest = refl; read = rw unread (refl, refl) };
      wrote = Wrote-none a.stage.written;
      run = run_none units 0 a.stage.target.units idle;
      calls = let none = ap (λ n. turn_calls * n) (none_pending a.stage.target.units idle) in omega (arith, none);
    };
    none_ends = tt;
  }

  -- whether a byte was waited for is not seen in what was carried out
  unseen : (a b : LoopState) (waited : Bool) → Going units a b → Going units a (record b { waited = waited })
  unseen a b waited going =
      let s = going.so_far in
      record {
        rounds = going.rounds;
        so_far = record { are_rounds = s.are_rounds; given = record { limit = s.given.limit; newest = s.given.newest; read = s.given.read }; wrote = s.wrote; run = s.run; calls = s.calls };
        none_ends = going.none_ends;
      }

  -- what follows was refused or not read
  pub refused : (a b : LoopState) (reader : Reading) (left : Option (List ℕ)) (waited : Bool) (why : FrameFault) → Going units a b → Blames b.reader b.left left why → AwaitsNoMore waited left why → Refused units why a (record b { reader = reader; left = left; waited = waited })
  unfolding unseen
  refused a b reader left waited why going blames awaits = record {
    reader = b.reader;
    mid = b.left;
    going = unseen a b waited going;
    blames = blames;
    awaits = awaits;
  }

  module _ (a b c : LoopState) (room : ℕ) (frame : Frame) (going : Going units a b) (gave : Gave b.reader room frame c.reader b.left c.left) (whole : gave.whole ≡ frame) (calls : calls_due c.stage.target c.calls ≤ calls_due b.stage.target b.calls + frame_calls units frame) (uncalled : NoneCalls units frame b.stage.target.units → c.calls ≡ b.calls) (long : length b.stage.target.units ≡ units) where
    abbrev lost : Bool
    lost = is_lost_behind_all (frames_of going.rounds) false

    uncalled_lost : lost ≡ true → c.calls ≡ b.calls
    uncalled_lost is = uncalled (lost_none_calls units going.rounds a.stage.target.units b.stage.target.units going.so_far.run is frame)

    given_more : HasGiven a c (frames_of going.rounds ++ frame ∷ [])
    given_more = record {
      limit = ap (λ (r : Reading). r.limit) gave.new_is ∙ going.so_far.given.limit;
      newest = ap (λ (r : Reading). r.newest) gave.new_is ∙ going.so_far.given.newest;
      read = subst (λ f. HasRead c.reader a.left c.left (frames_of going.rounds ++ f ∷ [])) whole (has_read_more b.reader c.reader a.left b.left c.left (frames_of going.rounds) room frame going.so_far.given.read going.none_ends gave);
    }

    module _ (done : RoundDone units frame b.stage c.stage) where
      abbrev round : Round
      round = round_of frame done.groups

      so_far_more : SoFar units a c (going.rounds ++ round ∷ [])
      so_far_more = record {
        are_rounds = All-append (IsRoundOf units) going.rounds (round ∷ []) going.so_far.are_rounds (each_is_round units frame long done.each, tt);
        given = subst (HasGiven a c) (sym (frames_push going.rounds round)) given_more;
        wrote = subst (Wrote a.stage.written c.stage.written) (sym (told_push units going.rounds round)) (Wrote-more going.so_far.wrote done.wrote);
        run = run_round units going.rounds frame done.groups 0 [] a.stage.target.units refl refl going.so_far.run done.each;
        calls =
            let one = due_more b.stage.target c.stage.target b.calls c.calls _ (frame_calls units frame) calls lost frame uncalled_lost (power_idles units frame done.groups b.stage.target.units c.stage.target.units done.each) going.so_far.calls in
            let behind = ap (λ x. calls_due_unless x c.stage.target c.calls) (ap (λ fs. is_lost_behind_all fs false) (frames_push going.rounds round) ∙ lost_push (frames_of going.rounds) frame false) in
            let all = ap (λ fs. calls_allowed (frame_calls units) fs false) (frames_push going.rounds round) in
            omega (arith, one, behind, all, allowed_push (frame_calls units) (frames_of going.rounds) frame false);
      }

      pub going_more : is_end frame ≡ false → Going units a c
      going_more other = record {
        rounds = going.rounds ++ round ∷ [];
        so_far = so_far_more;
        none_ends = subst NoneEnds (sym (frames_push going.rounds round)) (All-append (λ f. f ≡ frames.End → ⊥) (frames_of going.rounds) (frame ∷ []) going.none_ends (not_end frame other, tt));
      }

      pub ended : is_end frame ≡ true → c.waited ≡ false → ReachedEnd units a c
      ended last unwaited = record {
        rounds = going.rounds ++ round ∷ [];
        so_far = so_far_more;
        earlier = frames_of going.rounds;
        ends = frames_push going.rounds round ∙ ap (λ f. frames_of going.rounds ++ f ∷ []) (the_end frame last);
        unwaited = unwaited;
      }

    pub part_more : RoundInPart units frame b.stage c.stage → c.waited ≡ false → StoppedInRound units a c
    part_more done unwaited = record {
      mid = b;
      going = going;
      round = round_of frame done.groups;
      is_round = is_round done.cut;
      given = given_more;
      unwaited = unwaited;
      part = done.part;
      calls =
          let one = due_part b.stage.target c.stage.target b.calls c.calls _ (frame_calls units frame) calls lost uncalled_lost going.so_far.calls in
          omega (arith, one, allowed_push (frame_calls units) (frames_of going.rounds) frame false);
      cut = cut_so
          (λ each. run_round units going.rounds frame done.groups 0 [] a.stage.target.units refl refl going.so_far.run each)
          (λ stop cut stops. run_round_part units going.rounds frame done.groups stop cut 0 [] a.stage.target.units refl refl going.so_far.run stops)
          done.cut;
    }
      where
        is_round : IsCut units (round_of frame done.groups) b.stage.written c.stage.written (EachDid units frame 0 done.groups b.stage.target.units c.stage.target.units) (λ stop cut. Stops units frame stop cut 0 done.groups b.stage.target.units c.stage.target.units) → IsRoundOf units (round_of frame done.groups)
        is_round (behind_all each breaks) = each_is_round units frame long each
        is_round (at_unit stop cut stops breaks) = stops_is_round units frame long stops
