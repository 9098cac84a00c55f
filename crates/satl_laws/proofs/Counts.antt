-- Replies, tasks that wait and tasks that were taken off are together the requests.
use Rattle.std.proofs.Common.{◌≡◌, refl, ap, ◌∙◌, ℕ, ◌+◌, List, [], ◌∷◌, ◌++◌, arith, map}
use Rattle.satl_base.specs.declared.reply.Reply.{Reply}
use Rattle.satl_base.specs.Lists.{how_many}
use Rattle.satl_frame.specs.declared.frames.Frame.{Frame}
use Rattle.satl_frame.specs.declared.frames.Frame.TheVariants as frames
use Rattle.satl_frame.specs.Output.{Answer}
use Rattle.satl_frame.specs.Output.Answer.{replied, managed, closed}
use Rattle.satl_direct.specs.Device.{Device}
use Rattle.satl_direct.specs.Arrival.{Arrives, arrival}
use Rattle.satl_direct.specs.Run.{Does, Manages, RunDeep, joined}
use Rattle.satl_direct.specs.Run.RunDeep.{start, next_event}
use Rattle.satl_direct.proofs.Quieting.{joined-push}
use Rattle.satl_laws.specs.OnceEach.{answers_to, asks_by, removed, taken_off}
use Rattle.satl_laws.proofs.Cases.{how_many-append}
use Rattle.satl_laws.proofs.Arrivals.{arrival_for}
use Rattle.satl_laws.proofs.Weighing.{mine, quiet_counts, replies, turns_count, weigh}
use Rattle.satl_laws.proofs.EventCounts.{may_lose_counts, arrives_counts, quiet_taken, manages_counts, bench_counts}

module _ (nexus tag : ℕ) where
  -- a group of replies, and one more answer that is none
  group_counts : (now : List Answer) (rs : List Reply) (last : List Answer) → now ≡ map replied rs ++ last → how_many (answers_to nexus tag) last ≡ 0 → how_many (answers_to nexus tag) now ≡ replies nexus tag rs
  group_counts now rs last is zero_more = omega (arith, ap (how_many (answers_to nexus tag)) is, how_many-append (answers_to nexus tag) (map replied rs) last, zero_more)

  -- an event: its replies, the tasks that wait after it and those that it took off are the tasks before it and its request
  step_counts : (event : Frame) (s new : Device) (now : List Answer) (d : ℕ) → Does event s now new d
      → how_many (answers_to nexus tag) now + mine nexus tag new.tasks + mine nexus tag (taken_off event s) ≡ mine nexus tag s.tasks + how_many (asks_by nexus tag) (event ∷ [])
  step_counts (frames.Request r) s new now d h =
      let a = h.2 in
      let arrives : replies nexus tag h.0 + mine nexus tag (a.after).tasks + mine nexus tag (taken_off (frames.Request r) a.before) ≡ mine nexus tag (a.before).tasks + weigh nexus tag r.nexus r.tag =
      may_lose_counts nexus tag (Arrives r) a.before a.after h.0 (weigh nexus tag r.nexus r.tag) (mine nexus tag (taken_off (frames.Request r) a.before))
      (λ mid said k. arrives_counts nexus tag (arrival a.before r) r a.before mid said (arrival_for a.before r) k) a.step in
      omega (arith, ap (how_many (answers_to nexus tag)) h.1, quiet_counts nexus tag s a.before a.quiet_before, quiet_counts nexus tag a.after new a.quiet_after, quiet_taken nexus tag (frames.Request r) s a.before a.quiet_before, arrives)
  step_counts (frames.Manage m) s new now d h =
      let a = (h.0).step in
      let manages : replies nexus tag (h.0).replies + mine nexus tag (a.after).tasks + mine nexus tag (taken_off (frames.Manage m) a.before) ≡ mine nexus tag (a.before).tasks + 0 =
      may_lose_counts nexus tag (Manages m (h.0).response) a.before a.after (h.0).replies 0 (mine nexus tag (taken_off (frames.Manage m) a.before))
      (λ mid said k. manages_counts nexus tag m (h.0).response a.before mid said k) a.step in
      omega (
        arith,
        group_counts now (h.0).replies (managed m.nexus m.function (h.0).response m.tag ∷ []) (h.0).answer refl,
        quiet_counts nexus tag s a.before a.quiet_before,
        quiet_counts nexus tag a.after new a.quiet_after,
        quiet_taken nexus tag (frames.Manage m) s a.before a.quiet_before,
        manages,
      )
  step_counts (frames.Turn count) s new now d h = omega (arith, ap (how_many (answers_to nexus tag)) h.2, turns_count nexus tag h.3)
  step_counts (frames.Bench event) s new now d h =
      let a = h.2 in
      omega (
        arith,
        ap (how_many (answers_to nexus tag)) h.1,
        quiet_counts nexus tag s a.before a.quiet_before,
        quiet_counts nexus tag a.after new a.quiet_after,
        quiet_taken nexus tag (frames.Bench event) s a.before a.quiet_before,
        bench_counts nexus tag event a.before a.after h.0 a.step,
      )
  step_counts frames.End s new now d h = omega (arith, group_counts now h.0 (closed ∷ []) h.1 refl, turns_count nexus tag (h.2).turns)

  -- one more group of answers
  joined_push : (groups : List (List Answer)) (group : List Answer) → how_many (answers_to nexus tag) (joined (groups ++ group ∷ [])) ≡ how_many (answers_to nexus tag) (joined groups) + how_many (answers_to nexus tag) group
  joined_push groups group = ap (how_many (answers_to nexus tag)) (joined-push groups group) ∙ how_many-append (answers_to nexus tag) (joined groups) group

  -- a run
  pub run_counts : {first last : Device} {events : List Frame} {groups : List (List Answer)} {losses deep : ℕ} (run : RunDeep first events groups losses last deep)
      → how_many (answers_to nexus tag) (joined groups) + mine nexus tag last.tasks + removed nexus tag run ≡ how_many (asks_by nexus tag) events + mine nexus tag first.tasks
  run_counts {first = first} {last = last} (start quiet) = omega (arith, quiet_counts nexus tag first last quiet)
  run_counts {last = last} (next_event {events = events} {groups = groups} {s = s} event now d so_far does) =
      omega (
        arith,
        run_counts so_far,
        step_counts event s last now d does,
        joined_push groups now,
        how_many-append (asks_by nexus tag) events (event ∷ []),
      )
