-- READs of known tasks lie within the capacity.
use Rattle.std.proofs.Common.{◌≡◌, refl, sym, ap, ◌∙◌, subst, ℕ, ◌+◌, true, List, [], ◌∷◌}
use Rattle.std.specs.Prelude.{◌≤◌, not}
use Rattle.std.specs.List.{AllByRecursion}
use Rattle.std.proofs.lemmas.Bool.{and_parts}
use Rattle.satl_base.specs.declared.reply.Reply.{Reply}
use Rattle.satl_base.specs.declared.request.Request.{Request}
use Rattle.satl_base.specs.declared.block.Block.{Block}
use Rattle.satl_base.proofs.ListsLemmas.{All-push_end, All-remove_first, All-filter}
use Rattle.satl_cdb.specs.Table.{says}
use Rattle.satl_cdb.specs.declared.command.Command.{Command}
use Rattle.satl_cdb.specs.declared.command.Command.TheVariants as commands
use Rattle.satl_frame.specs.declared.frames.Frame.{Frame}
use Rattle.satl_frame.specs.declared.frames.Frame.TheVariants as frames
use Rattle.satl_frame.specs.Output.{Answer}
use Rattle.satl_line.specs.declared.entry.Entry.{Entry}
use Rattle.satl_direct.specs.Device.{Device, is_called, is_of}
use Rattle.satl_base.specs.declared.bench.BenchEvent.{BenchEvent}
use Rattle.satl_base.specs.declared.bench.BenchEvent.TheVariants as events
use Rattle.satl_direct.specs.Arrival.{Arrival, ArrivesAs, arrival, is_unit_0}
use Rattle.satl_direct.specs.Arrival.Arrival.{answered, attended, overlaps, waits}
use Rattle.satl_audit.specs.Deeds.{Deed}
use Rattle.satl_audit.specs.Deeds.Deed.{shows}
use Rattle.satl_cover.specs.Known.{is_known, is_known_frame}
use Rattle.satl_audit.specs.Skeleton.{Benched, DoneAs, Skeleton, Stepped, TurnsDone, pairs_shown}
use Rattle.satl_audit.specs.Skeleton.Skeleton.{begin, further}
use Rattle.satl_audit.proofs.Coming.{Comes, IsKnown, KnownBy, arrival_comes}
use Rattle.satl_audit.proofs.Splitting.{Lies}
use Rattle.satl_audit.proofs.Walking.{AllLie}
use Rattle.satl_audit.proofs.Identities.{all_front, all_last, AllKnown, stepped_same}
use Rattle.satl_laws.proofs.Ends.{eligible_in as eligible_there}
use Rattle.satl_laws.proofs.Rows.{in_all as all_of}
use Rattle.satl_line.proofs.SlotsLemmas.{All-append}

-- known tasks, and deeds within the capacity
pub record Within (size : ℕ) (deeds : List Deed) (s : Device) : Type 0 where
  pub lie : AllLie deeds size
  pub known : AllByRecursion (IsKnown size) s.tasks

done_lies : (size : ℕ) (c : Command) (s : Device) (t : Entry) (blocks : List Block) (deed : Deed) → KnownBy size c → DoneAs c s t blocks deed → Lies deed size
done_lies size (commands.Read form lba count fua) s t blocks deed k e = subst (λ d. Lies d size) (sym e.1) (subst (λ n. lba + n ≤ size) (sym e.0) k)
done_lies size (commands.Write form lba count fua) s t blocks deed k e = subst (λ d. Lies d size) (sym e.1) tt
done_lies size (commands.Flush form lba count) s t blocks deed k e = subst (λ d. Lies d size) (sym e.1) tt
done_lies size _ s t blocks deed k e = absurd k

arrives_within : (a : Arrival) (r : Request) (s new : Device) (replies : List Reply) (size : ℕ) → Comes size a → AllByRecursion (IsKnown size) s.tasks → ArrivesAs a r s replies new → AllByRecursion (IsKnown size) new.tasks
arrives_within (answered reply) r s new replies size c k e = subst (λ (d : Device). AllByRecursion (IsKnown size) d.tasks) (sym e.1) k
arrives_within (attended reply) r s new replies size c k e = subst (λ (d : Device). AllByRecursion (IsKnown size) d.tasks) (sym e.1) k
arrives_within (overlaps reply) r s new replies size c k e = subst (λ (d : Device). AllByRecursion (IsKnown size) d.tasks) (sym e.1) (All-filter (IsKnown size) (λ t. not (is_of r.nexus t)) s.tasks k)
arrives_within (waits task) r s new replies size c k e = subst (λ (d : Device). AllByRecursion (IsKnown size) d.tasks) (sym e.1) (All-push_end (IsKnown size) s.tasks task k c)

turns_within : (s : Device) (size : ℕ) → AllByRecursion (IsKnown size) s.tasks → {n : ℕ} {replies : List Reply} {deeds : List Deed} {new : Device} → TurnsDone s n replies deeds new → Within size deeds new
turns_within s size k TurnsDone.none = record { lie = tt; known = k }
turns_within s size k (TurnsDone.idle t e) = turns_within s size k t
turns_within s size k (TurnsDone.more {deeds = deeds} {mid = mid} reply deed t d) =
    let r = turns_within s size k t in
    let task = d.task in
    let known = all_of (IsKnown size) mid.tasks task r.known (eligible_there mid.tasks task d.eligible) in
    record {
      lie = All-append (λ x. Lies x size) deeds (shows (pairs_shown mid) ∷ deed ∷ []) r.lie (tt, (done_lies size task.command mid task d.blocks deed known d.done, tt));
      known = subst (λ (x : Device). AllByRecursion (IsKnown size) x.tasks) (sym d.stays) (All-remove_first (IsKnown size) (is_called task.nexus (task.tag).0) mid.tasks r.known);
    }

benched_within : (event : BenchEvent) (s new : Device) (deeds : List Deed) (size : ℕ) → AllByRecursion (IsKnown size) s.tasks → Benched event s deeds new → Within size deeds new
benched_within (events.Strike which lba) s new deeds size k e = absurd e
benched_within (events.Mend lba) s new deeds size k e = absurd e
benched_within (events.Glitch count) s new deeds size k e = absurd e
benched_within (events.Order order) s new deeds size k e = record { lie = subst (λ l. AllLie l size) (sym e.0) tt; known = subst (λ (x : Device). AllByRecursion (IsKnown size) x.tasks) (sym e.1) k }
benched_within events.Power s new deeds size k e = record { lie = subst (λ l. AllLie l size) (sym e.0) (tt, (tt, tt)); known = subst (λ (x : Device). AllByRecursion (IsKnown size) x.tasks) (sym e.1) tt }
benched_within events.Unplug s new deeds size k e = absurd e

stepped_within : (event : Frame) (s new : Device) (now : List Answer) (deeds : List Deed) → is_known_frame s.identity.trim event ≡ true → AllByRecursion (IsKnown s.identity.capacity) s.tasks → Stepped event s now deeds new → Within s.identity.capacity deeds new
stepped_within (frames.Request r) s new now deeds f k e =
    record {
      lie = subst (λ l. AllLie l s.identity.capacity) (sym e.3) (tt, tt);
      known = arrives_within (arrival s r) r s new e.0 s.identity.capacity (arrival_comes s r (and_parts (is_unit_0 r.lun) (is_known (says r.cdb s.identity.trim)) f).1) k e.2;
    }
stepped_within (frames.Manage m) s new now deeds f k e = absurd e
stepped_within (frames.Turn n) s new now deeds f k e = turns_within s s.identity.capacity k e.2
stepped_within (frames.Bench event) s new now deeds f k e = benched_within event s new deeds s.identity.capacity k e.1
stepped_within frames.End s new now deeds f k e = turns_within s s.identity.capacity k e.3

pub record SkeletonWithin (first last : Device) (deeds : List Deed) : Type 0 where
  pub within : Within first.identity.capacity deeds last
  pub same : last.identity ≡ first.identity

pub skeleton_within : {first : Device} {all : List Frame} {answers : List Answer} {deeds : List Deed} {last : Device} → Skeleton first all answers deeds last → AllKnown first.identity.trim all → AllByRecursion (IsKnown first.identity.capacity) first.tasks → SkeletonWithin first last deeds
skeleton_within begin k t = record { within = record { lie = tt; known = t }; same = refl }
skeleton_within {first = first} {last = last} (further {all = all} {deeds = deeds} {s = s} event now more so_far e) k t =
    let r = skeleton_within so_far (all_front (λ f. is_known_frame first.identity.trim f ≡ true) all event k) t in
    let known : is_known_frame s.identity.trim event ≡ true = ap (λ i. is_known_frame i.trim event) r.same ∙ all_last (λ f. is_known_frame first.identity.trim f ≡ true) all event k in
    let x = stepped_within event s last now more known (subst (λ i. AllByRecursion (IsKnown i.capacity) s.tasks) (sym r.same) r.within.known) e in
    let y : Within first.identity.capacity more last = subst (λ i. Within i.capacity more last) r.same x in
    record {
      within = record { lie = All-append (λ d. Lies d first.identity.capacity) deeds more r.within.lie y.lie; known = y.known };
      same = stepped_same event s last now more e ∙ r.same;
    }
