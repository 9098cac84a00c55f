-- Frames that a reader gives, one after the other.
use Rattle.std.proofs.Common.{◌≡◌, ◌⊎◌, ◌^◌, min, inl, inr, refl, sym, ap, subst, ◌∙◌, arith, ℕ, ◌+◌, ◌-◌, ◌*◌, ◌<◌, ◌≤◌, true, false, List, [], ◌∷◌, ◌++◌, length, take}
use Rattle.std.specs.Prelude.{Bool, Option, Some, None, nat_lt}
use Rattle.std.proofs.lemmas.Bool.{ltb-true, ltb-false}
use Rattle.std.proofs.lemmas.List.{take_all, length-take-le}
use Rattle.satl_base.specs.declared.request.Request.{Request}
use Rattle.satl_base.proofs.ListsLemmas.{how_many-push}
use Rattle.satl_frame.specs.Frames.{HasExpected, IsFrame, IsRequest, data_out, spelled}
use Rattle.satl_frame.specs.Output.{Answer}
use Rattle.satl_frame.specs.Pulls.{cut_to, frame_pages}
use Rattle.satl_frame.specs.Reading.{AwaitsNoMore, Blames, Gave, IsNext, Reading}
use Rattle.satl_frame.specs.declared.frames.Place.{Place}
use Rattle.satl_frame.specs.declared.frames.Version.{Version}
use Rattle.satl_frame.specs.declared.frames.Version.TheVariants.{One, Two}
use Rattle.satl_frame.specs.declared.frames.Frame.{Frame}
use Rattle.satl_frame.specs.declared.frames.Frame.TheVariants as frames
use Rattle.satl_frame.specs.declared.frames.FrameFault.{FrameFault}
use Rattle.satl_frame.proofs.Paging.{length-pages_of}
use Rattle.satl_frame.proofs.ProgressLemmas.{has_read_more}
use Rattle.satl_line.proofs.SlotsLemmas.{All-append}
use Rattle.satl_direct.specs.Device.{Device}
use Rattle.satl_direct.specs.Run.{joined}
use Rattle.satl_direct.proofs.Quieting.{joined-push}
use Rattle.satl_base.specs.Limits.{IsExpectable}
use Rattle.satl_core.specs.Submitting.{CanSubmit}
use Rattle.satl_step.specs.Events.{CanTake, Done, DoneInPart}
use Rattle.satl_step.specs.Loop.{Going, HasGiven, LoopState, ReachedEnd, Refused, SoFar, StoppedInAnswers, is_end, place_offset}
use Rattle.satl_step.specs.Runs.{is_request, requests_in}
use Rattle.satl_step.specs.Telling.{IsTold}
use Rattle.satl_step.proofs.TellingLemmas.{told_more, told_none}
use Rattle.satl_step.proofs.RunLemmas.{run_cut, run_more, run_start}

pub expectable : (version : Version) (expected : Option ℕ) → HasExpected version expected → IsExpectable expected
expectable One expected h = rw h tt
expectable Two None h = absurd h
expectable Two (Some count) h = h

-- the pages of a whole request hold its data-out
pub holds : (version : Version) (w : Request) → IsRequest version w → w.data_len ≤ 512 * length w.body
holds version w is =
    let pages = ap length is.sent.pages ∙ length-pages_of (data_out w) in
    let size = is.sent.size in
    omega (arith, pages, size)

-- a whole request whose pages were cut to those that were free
cut_request : (version : Version) (w : Request) (room free out : ℕ) → IsRequest version w → free + length (take room w.body) ≡ room → out ≡ length (take room w.body) → CanSubmit (record w { body = take room w.body }) free out
cut_request version w room free out is left lent = record {
  pages = lent;
  all =
      (elim (nat_lt room (length w.body)) as (λ b. nat_lt room (length w.body) ≡ b → (w.data_len ≤ 512 * length (take room w.body)) ⊎ (free ≡ 0)) [
        | true ↦ λ cut. let few = ltb-true room (length w.body) cut in let all = length-take-le room w.body (omega (arith, few)) in inr (omega (arith, all, left))
        | false ↦ λ cut. let enough = ltb-false room (length w.body) cut in let same = ap length (take_all room w.body (omega (arith, enough))) in let hold = holds version w is in inl (omega (arith, same, hold))
      ]) refl;
  expected = expectable version w.expected is.fields.expected;
}

by_whole : (version : Version) (whole : Frame) (r : Request) (room free out : ℕ) → IsFrame version whole → frames.Request r ≡ cut_to room whole → free + length r.body ≡ room → out ≡ length r.body → CanSubmit r free out
by_whole version (frames.Request w) r room free out is e left lent =
    let same : r ≡ record w { body = take room w.body } = cc in
    subst (λ x. CanSubmit x free out) (sym same) (cut_request version w room free out is (ap (λ (x : Request). free + length x.body) (sym same) ∙ left) (lent ∙ ap (λ (x : Request). length x.body) same))
by_whole version (frames.Manage m) r room free out is e left lent = absurd cc
by_whole version (frames.Turn n) r room free out is e left lent = absurd cc
by_whole version (frames.Bench event) r room free out is e left lent = absurd cc
by_whole version frames.End r room free out is e left lent = absurd cc

can_submit : (old new : Reading) (room free before out : ℕ) (frame : Frame) (r : Request) (left left' : Option (List ℕ)) → Gave old room frame new left left' → frame ≡ frames.Request r → before ≡ 0 → free + frame_pages frame ≡ room → out ≡ before + frame_pages frame → CanSubmit r free out
can_submit old new room free before out frame r left left' gave is none lent out_is =
    let pages = ap frame_pages is in
    by_whole gave.place.version gave.whole r room free out gave.is_frame (sym is ∙ gave.cut) (omega (arith, pages, lent)) (omega (arith, pages, none, out_is))

-- a frame whose pages were lent may be carried out
pub can_take : (old new : Reading) (room free before out : ℕ) (frame : Frame) (left left' : Option (List ℕ)) → Gave old room frame new left left' → before ≡ 0 → free + frame_pages frame ≡ room → out ≡ before + frame_pages frame → CanTake frame free out
can_take old new room free before out (frames.Request r) left left' gave none lent out_is = can_submit old new room free before out (frames.Request r) r left left' gave refl none lent out_is
can_take old new room free before out (frames.Manage m) left left' gave none lent out_is = omega (arith, none, out_is)
can_take old new room free before out (frames.Turn n) left left' gave none lent out_is = omega (arith, none, out_is)
can_take old new room free before out (frames.Bench b) left left' gave none lent out_is = omega (arith, none, out_is)
can_take old new room free before out frames.End left left' gave none lent out_is = omega (arith, none, out_is)

-- what is left to the limit gets less
pub nearer : {old new : Reading} {room : ℕ} {frame : Frame} {left left' : Option (List ℕ)} → Gave old room frame new left left' → new.limit - place_offset new.place < old.limit - place_offset old.place
nearer {old} {new} gave =
    subst (λ (r : Reading). r.limit - place_offset r.place < old.limit - place_offset old.place) (sym gave.new_is)
    (by_place old.limit old.newest old.place gave.place (length (spelled gave.whole)) gave.next gave.within some_bytes)
  where
    some_bytes : 0 < length (spelled gave.whole)
    some_bytes = omega arith

    by_place : (limit : ℕ) (newest : Version) (at : Option Place) (place : Place) (size : ℕ) → IsNext newest at place → place.offset + size ≤ limit → 0 < size → limit - (place.offset + size) < limit - place_offset at
    by_place limit newest None place size next within some = omega arith
    by_place limit newest (Some p) place size next within some = let same : place.offset ≡ p.offset = ap (λ (x : Place). x.offset) next in omega arith

-- a frame is END where it is told to be, and not where it is not
pub the_end : (frame : Frame) → is_end frame ≡ true → frame ≡ frames.End
the_end (frames.Request w) last = absurd cc
the_end (frames.Manage m) last = absurd cc
the_end (frames.Turn n) last = absurd cc
the_end (frames.Bench b) last = absurd cc
the_end frames.End last = refl

pub not_end : (frame : Frame) → is_end frame ≡ false → frame ≡ frames.End → ⊥
not_end frame other is = let bad : true ≡ false = sym (ap is_end is) ∙ other in absurd cc

-- so it is told of the whole frame
whole_end : (room : ℕ) (frame whole : Frame) → frame ≡ cut_to room whole → is_end whole ≡ is_end frame
whole_end room frame whole cut = sym (ap is_end cut ∙ cut_end whole)
  where
    cut_end : (whole : Frame) → is_end (cut_to room whole) ≡ is_end whole
    cut_end (frames.Request w) = refl
    cut_end (frames.Manage m) = refl
    cut_end (frames.Turn n) = refl
    cut_end (frames.Bench b) = refl
    cut_end frames.End = refl

-- a whole frame is a request where the one that was carried out is
request_whole : (room : ℕ) (frame whole : Frame) → frame ≡ cut_to room whole → requests_in (frame ∷ []) ≡ requests_in (whole ∷ [])
request_whole room frame (frames.Request w) cut = ap (λ f. requests_in (f ∷ [])) cut
request_whole room frame (frames.Manage m) cut = ap (λ f. requests_in (f ∷ [])) cut
request_whole room frame (frames.Turn n) cut = ap (λ f. requests_in (f ∷ [])) cut
request_whole room frame (frames.Bench b) cut = ap (λ f. requests_in (f ∷ [])) cut
request_whole room frame frames.End cut = ap (λ f. requests_in (f ∷ [])) cut

-- ---- the run so far

module _ {T : Type 0} (told : T → Answer → List ℕ) (behind : T → Answer → T) where
  pub going_start : (a : LoopState T) → a.reader.place ≡ None → a.scene.stand.device.tasks ≡ [] → Going told behind a a 0
  going_start a unread idle = record {
    so_far = record {
      events = [];
      groups = [];
      given = record { limit = refl; newest = refl; read = rw unread (refl, refl) };
      told_so = told_none told behind a.scene.telling;
      run = run_start a.scene.stand idle;
      requests_are = omega arith;
    };
    none_ends = tt;
  }

  -- the device is the same however many pages were lent
  pub lent : (a b : LoopState T) (s : Device) (n : ℕ) → s ≡ b.scene.stand.device → Going told behind a b n → Going told behind a (record b { scene = record b.scene { stand = record b.scene.stand { device = s } } }) n
  lent a b s n same going = subst (λ (x : Device). Going told behind a (record b { scene = record b.scene { stand = record b.scene.stand { device = x } } }) n) (sym same) going

  -- whether a byte was waited for is not seen in what was carried out
  unseen : (a b : LoopState T) (n : ℕ) (waited : Bool) → Going told behind a b n → Going told behind a (record b { waited = waited }) n
  unseen a b n waited going =
      let s = going.so_far in
      record {
        so_far = record { events = s.events; groups = s.groups; given = record { limit = s.given.limit; newest = s.given.newest; read = s.given.read }; told_so = s.told_so; run = s.run; requests_are = s.requests_are };
        none_ends = going.none_ends;
      }

  -- what follows was refused or not read
  pub refused : (a b : LoopState T) (n : ℕ) (reader : Reading) (left : Option (List ℕ)) (waited : Bool) (why : FrameFault) → Going told behind a b n → Blames b.reader b.left left why → AwaitsNoMore waited left why → reader ≡ record b.reader { refused = Some why } → Refused told behind a (record b { reader = reader; left = left; waited = waited }) why
  unfolding unseen
  refused a b n reader left waited why going blames awaits repeats = record {
    reader = b.reader;
    mid = b.left;
    requests = n;
    going = unseen a b n waited going;
    blames = blames;
    awaits = awaits;
    repeats = repeats;
  }

  given_more : (a b c : LoopState T) (n room : ℕ) (frame : Frame) (going : Going told behind a b n) → (gave : Gave b.reader room frame c.reader b.left c.left) → HasGiven a c (going.so_far.events ++ gave.whole ∷ [])
  given_more a b c n room frame going gave = record {
    limit = ap (λ (r : Reading). r.limit) gave.new_is ∙ going.so_far.given.limit;
    newest = ap (λ (r : Reading). r.newest) gave.new_is ∙ going.so_far.given.newest;
    read = has_read_more b.reader c.reader a.left b.left c.left going.so_far.events room frame going.so_far.given.read going.none_ends gave;
  }

  -- one frame more
  module _ (a b c : LoopState T) (n m room : ℕ) (frame : Frame) where
    so_far_more : Going told behind a b n → (gave : Gave b.reader room frame c.reader b.left c.left) → Done told behind frame b.scene c.scene → m ≡ min (n + requests_in (frame ∷ [])) (2 ^ 64 - 1) → SoFar told behind a c m
    so_far_more going gave done count =
        let so_far = going.so_far in
        record {
          events = so_far.events ++ gave.whole ∷ [];
          groups = so_far.groups ++ done.answers ∷ [];
          given = given_more a b c n room frame going gave;
          told_so = subst (λ l. IsTold told behind a.scene.telling c.scene.telling l) (sym (joined-push so_far.groups done.answers)) (told_more told behind a.scene.telling b.scene.telling c.scene.telling (joined so_far.groups) done.answers so_far.told_so done.told_so);
          run = run_more a.scene.stand b.scene.stand c.scene.stand so_far.events so_far.groups frame gave.whole done.answers so_far.run (record { room = room; cut = gave.cut }) done.carried done.tallied;
          requests_are = omega (arith, count, so_far.requests_are, how_many-push is_request so_far.events gave.whole, request_whole room frame gave.whole gave.cut);
        }

    pub going_more : is_end frame ≡ false → Going told behind a b n → (gave : Gave b.reader room frame c.reader b.left c.left) → Done told behind frame b.scene c.scene → m ≡ min (n + requests_in (frame ∷ [])) (2 ^ 64 - 1) → Going told behind a c m
    unfolding so_far_more
    going_more other going gave done count = record {
      so_far = so_far_more going gave done count;
      none_ends = All-append (λ f. f ≡ frames.End → ⊥) going.so_far.events (gave.whole ∷ []) going.none_ends (not_end gave.whole (whole_end room frame gave.whole gave.cut ∙ other), tt);
    }

    -- the last one is END
    pub ended : is_end frame ≡ true → Going told behind a b n → (gave : Gave b.reader room frame c.reader b.left c.left) → Done told behind frame b.scene c.scene → m ≡ min (n + requests_in (frame ∷ [])) (2 ^ 64 - 1) → c.waited ≡ false → ReachedEnd told behind a c m
    unfolding so_far_more
    ended last going gave done count unwaited = record {
      so_far = so_far_more going gave done count;
      earlier = going.so_far.events;
      ends = ap (λ f. going.so_far.events ++ f ∷ []) (the_end gave.whole (whole_end room frame gave.whole gave.cut ∙ last));
      unwaited = unwaited;
    }

    -- the last one was told in part
    pub part_more : Going told behind a b n → (gave : Gave b.reader room frame c.reader b.left c.left) → DoneInPart told behind frame b.scene c.scene → c.waited ≡ false → StoppedInAnswers told behind a c
    part_more going gave done unwaited = record {
      mid = b;
      requests = n;
      going = going;
      event = gave.whole;
      earlier = done.earlier;
      last = done.last;
      given = given_more a b c n room frame going gave;
      unwaited = unwaited;
      told_so = done.told_so;
      run = run_cut a.scene.stand b.scene.stand c.scene.stand going.so_far.events going.so_far.groups frame gave.whole done.earlier done.last going.so_far.run (record { room = room; cut = gave.cut }) done.carried done.tallied;
    }
