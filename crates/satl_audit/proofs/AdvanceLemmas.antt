-- Events of a record, as steps of the device.
use Rattle.std.proofs.Common.{◌≡◌, refl, sym, ap, ◌∙◌, subst, ℕ, Bool, true, false, List, [], ◌∷◌, ◌++◌, map, take}
use Rattle.satl_base.specs.declared.bench.BenchEvent.{BenchEvent}
use Rattle.satl_base.specs.declared.bench.BenchEvent.TheVariants as events
use Rattle.satl_base.specs.declared.block.Block.{Block}
use Rattle.satl_base.specs.declared.request.Request.{Request}
use Rattle.satl_identify.specs.declared.identity.Identity.{Identity}
use Rattle.satl_frame.specs.declared.frames.Frame.{Frame}
use Rattle.satl_frame.specs.declared.frames.Frame.TheVariants as frames
use Rattle.satl_frame.specs.Output.{all_answered}
use Rattle.satl_frame.specs.Output.Answer.{replied}
use Rattle.satl_frame.specs.Pulls.{cut_to}
use Rattle.satl_audit.specs.Advancing.{Advances, CannotGoOn, GoesOn, MayHappen}
use Rattle.satl_audit.specs.Arriving.{ArrivesOn, CannotArrive, Goes, IsSent, Sticks, device_at}
use Rattle.satl_audit.specs.Deeds.Deed.{shows}
use Rattle.satl_audit.specs.Finishing.{CannotTurn, Turns, TurnsOn}
use Rattle.satl_audit.specs.Kept.{Keeping}
use Rattle.satl_audit.specs.Skeleton.{pairs_shown}
use Rattle.satl_audit.specs.declared.arriving.Followed.{Followed}
use Rattle.satl_audit.specs.Progress.{recorded, progress}

-- ---- frames without their pages

-- a request without its pages, and the whole one
record WholeRequest (q : Request) (whole : Frame) : Type 0 where
  pub request : Request
  pub whole_is : whole ≡ frames.Request request
  pub same : record q { body = request.body } ≡ request

cut_request : (q : Request) (whole : Frame) → frames.Request q ≡ cut_to 0 whole → WholeRequest q whole
cut_request q (frames.Request r) e =
    let same : q ≡ record r { body = take 0 r.body } = cc in
    record { request = r; whole_is = refl; same = ap (λ (x : Request). record x { body = r.body }) same }
cut_request q (frames.Manage m) e = absurd cc
cut_request q (frames.Turn n) e = absurd cc
cut_request q (frames.Bench event) e = absurd cc
cut_request q frames.End e = absurd cc

cut_turn : (n : ℕ) (whole : Frame) → frames.Turn n ≡ cut_to 0 whole → whole ≡ frames.Turn n
cut_turn n (frames.Request r) e = absurd cc
cut_turn n (frames.Manage m) e = absurd cc
cut_turn n (frames.Turn k) e = sym e
cut_turn n (frames.Bench event) e = absurd cc
cut_turn n frames.End e = absurd cc

cut_bench : (event : BenchEvent) (whole : Frame) → frames.Bench event ≡ cut_to 0 whole → whole ≡ frames.Bench event
cut_bench event (frames.Request r) e = absurd cc
cut_bench event (frames.Manage m) e = absurd cc
cut_bench event (frames.Turn k) e = absurd cc
cut_bench event (frames.Bench other) e = sym e
cut_bench event frames.End e = absurd cc

-- ---- events

module _ (identity : Identity) (input : List ℕ) (old : Followed) (sectors : List Keeping) where
  pub request_goes : (r : Request) (new : Followed) → ArrivesOn r (device_at identity input old) (device_at identity input new) old.output new.output → GoesOn (recorded identity input) (frames.Request r) (progress old sectors) (progress new sectors)
  request_goes r new a = record {
    answers = map replied a.replies;
    deeds = shows (pairs_shown (device_at identity input old)) ∷ [];
    stepped = (a.replies, refl, a.arrives, refl);
    whole = (tt, tt);
    said = a.said;
    follows = (refl, λ x less. refl);
  }

  pub request_sticks : (r : Request) → CannotArrive r (device_at identity input old) old.output → CannotGoOn (recorded identity input) (frames.Request r) (progress old sectors)
  request_sticks r cannot answers deeds new left e whole h = absurd (cannot e.0 new left e.2 (h ∙ ap (λ l. all_answered l ++ left) e.1))

  pub turns_go : (count : ℕ) (new : Followed) (after : List Keeping) → TurnsOn (recorded identity input) count (progress old sectors) (progress new after) → GoesOn (recorded identity input) (frames.Turn count) (progress old sectors) (progress new after)
  turns_go count new after t = record { answers = map replied t.replies; deeds = t.deeds; stepped = (t.replies, refl, t.done); whole = t.whole; said = t.said; follows = t.follows }

  pub turns_stick : (count : ℕ) → CannotTurn (recorded identity input) count (progress old sectors) → CannotGoOn (recorded identity input) (frames.Turn count) (progress old sectors)
  turns_stick count cannot answers deeds new left e whole h = cannot e.0 deeds new left e.2 whole (h ∙ ap (λ l. all_answered l ++ left) e.1)

  pub order_goes : (order : _) → GoesOn (recorded identity input) (frames.Bench (events.Order order)) (progress old sectors) (progress old sectors)
  order_goes order = record { answers = []; deeds = []; stepped = (refl, (refl, refl)); whole = tt; said = refl; follows = (refl, λ x less. refl) }

module _ (identity : Identity) (input : List ℕ) (old new : Followed) (sectors after : List Keeping) where
  pub request_advances : (at : ℕ) (q : Request) (result : Bool) → (result ≡ true → Goes identity q at old new) → (result ≡ false → Sticks identity q at old) → (whole : Frame) → frames.Request q ≡ cut_to 0 whole → MayHappen input at old.waiting whole →
      Advances (recorded identity input) whole (progress old sectors) (progress new sectors) result
  request_advances at q result goes sticks whole cut may =
      let w = cut_request q whole cut in
      let sent : IsSent input at (record q { body = w.request.body }) old.waiting = subst (λ (r : Request). IsSent input at r old.waiting) (sym w.same) (subst (MayHappen input at old.waiting) w.whole_is may) in
      subst (λ (f : Frame). Advances (recorded identity input) f (progress old sectors) (progress new sectors) result) (sym w.whole_is) (subst (λ (r : Request). Advances (recorded identity input) (frames.Request r) (progress old sectors) (progress new sectors) result) w.same (by result goes sticks w.request.body sent))
    where
      by : (b : Bool) → (b ≡ true → Goes identity q at old new) → (b ≡ false → Sticks identity q at old) → (body : List Block) → IsSent input at (record q { body = body }) old.waiting → Advances (recorded identity input) (frames.Request (record q { body = body })) (progress old sectors) (progress new sectors) b
      by true goes sticks body sent = request_goes identity input old sectors (record q { body = body }) new (goes refl input body sent)
      by false goes sticks body sent = request_sticks identity input old sectors (record q { body = body }) (sticks refl input body sent)

  pub turn_advances : (count : ℕ) (result : Bool) → Turns (recorded identity input) count (progress old sectors) (progress new after) result → (whole : Frame) → frames.Turn count ≡ cut_to 0 whole → Advances (recorded identity input) whole (progress old sectors) (progress new after) result
  turn_advances count result turns whole cut = subst (λ (f : Frame). Advances (recorded identity input) f (progress old sectors) (progress new after) result) (sym (cut_turn count whole cut)) (by result turns)
    where
      by : (b : Bool) → Turns (recorded identity input) count (progress old sectors) (progress new after) b → Advances (recorded identity input) (frames.Turn count) (progress old sectors) (progress new after) b
      by true t = turns_go identity input old sectors count new after t
      by false t = turns_stick identity input old sectors count t

  pub bench_advances : (event : BenchEvent) (result : Bool) → Advances (recorded identity input) (frames.Bench event) (progress old sectors) (progress new after) result → (whole : Frame) → frames.Bench event ≡ cut_to 0 whole → Advances (recorded identity input) whole (progress old sectors) (progress new after) result
  bench_advances event result advances whole cut = subst (λ (f : Frame). Advances (recorded identity input) f (progress old sectors) (progress new after) result) (sym (cut_bench event whole cut)) advances
