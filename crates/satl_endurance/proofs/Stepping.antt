-- Steps of the device while a SYNCHRONIZE CACHE waits: it has no GOOD yet, or it has settled a sector that no task writes.
use Rattle.std.proofs.Common.{◌≡◌, ◌⊎◌, ⊎_elim, inl, inr, refl, sym, ap, ◌∙◌, subst, ℕ, zero, suc, Bool, true, false, List, [], ◌∷◌, ◌++◌, Option, Some, None, map, length, arith}
use Rattle.std.specs.Prelude.{not, filter, if◌then◌else◌, slice_get, Ok}
use Rattle.std.specs.List.{AllByRecursion}
use Rattle.std.specs.Option.{option_map}
use Rattle.std.proofs.lemmas.Bool.{and_parts}
use Rattle.satl_base.specs.declared.bench.BenchEvent.{BenchEvent}
use Rattle.satl_base.specs.declared.bench.BenchEvent.TheVariants as bench
use Rattle.satl_base.specs.declared.block.Block.{Block}
use Rattle.satl_base.specs.declared.request.Manage.{Manage}
use Rattle.satl_base.specs.declared.request.Request.{Request}
use Rattle.satl_base.specs.declared.reply.Reply.{Reply}
use Rattle.satl_base.specs.declared.reply.Response.{Response}
use Rattle.satl_base.specs.declared.reply.Scsi.{Scsi}
use Rattle.satl_base.specs.declared.reply.Scsi.TheVariants.{Good}
use Rattle.satl_base.specs.Cells.{Cell}
use Rattle.satl_base.specs.Lists.{IsIn}
use Rattle.satl_base.specs.Names.{is_name}
use Rattle.satl_base.proofs.ListsLemmas.{All-weaken, in_either}
use Rattle.satl_cdb.specs.declared.command.Command.{Command}
use Rattle.satl_cdb.specs.declared.command.Command.TheVariants as commands
use Rattle.satl_frame.specs.Output.Answer.{replied}
use Rattle.satl_line.specs.declared.entry.Entry.{Entry}
use Rattle.satl_line.specs.declared.entry.Kind.TheVariants.{Barrier}
use Rattle.satl_direct.specs.Bench.{Happens}
use Rattle.satl_direct.specs.Device.{Device, is_called, without}
use Rattle.satl_direct.specs.Ending.{task_check}
use Rattle.satl_direct.specs.Management.{effect}
use Rattle.satl_direct.specs.Quiet.{Around, Quiet}
use Rattle.satl_direct.specs.Run.{Manages, MayLose, TurnsOf}
use Rattle.satl_direct.specs.Run.MayLose.{keeps, keeps_and_loses}
use Rattle.satl_direct.specs.Run.TurnsOf.{none, more}
use Rattle.satl_direct.specs.Senses.{link_lost}
use Rattle.satl_direct.specs.Turn.{IsFirst, OneEnds, Turn}
use Rattle.satl_direct.specs.Turn.Turn.{idle, ends, loses, ends_and_loses}
use Rattle.satl_direct.proofs.Naming.{called_same}
use Rattle.satl_direct.proofs.Quieting.{quiet_tasks}
use Rattle.satl_laws.specs.ArrivalOrder.{is_done, is_good}
use Rattle.satl_laws.specs.Durable.{secures}
use Rattle.satl_laws.specs.Untouched.{now_at}
use Rattle.satl_laws.proofs.Addresses.{Alike, alike_on}
use Rattle.satl_laws.proofs.Ends.{ends_leaves, may_end_in}
use Rattle.satl_laws.proofs.Rows.{in_all}
use Rattle.satl_laws.proofs.Securing.{secured}
use Rattle.satl_laws.proofs.Seen.{by_test}
use Rattle.satl_laws.proofs.Singles.{IsSingle}
use Rattle.satl_origins.specs.Origins.{MayHave, MayHold}
use Rattle.satl_origins.proofs.Events.{bench_goes, manages_goes}
use Rattle.satl_origins.proofs.Held.{AllSo}
use Rattle.satl_origins.proofs.Runs.{blocks_alone, nothing_asked}
use Rattle.satl_origins.proofs.Steps.{AnswersSo, Asked, DeviceSo, GoesSo, TaskSo, around_goes, loss_goes, one_goes, quiet_goes, task_alike, turn_goes}
use Rattle.satl_endurance.specs.Endurance.{flushes}
use Rattle.satl_endurance.proofs.Behind.{Behind, behind_filter, behind_removed, behind_weaken}
use Rattle.satl_endurance.proofs.FlushAnswers.{ends_first}

-- any block may be anywhere
abbrev pub Anything : ℕ → Block → Type 0
Anything y block = Unit {0}

-- a sector has this block alone, or there is none
abbrev pub OnlyThis : ℕ → Option Block → ℕ → Block → Type 0
OnlyThis x o y block = y ≡ x → Some block ≡ o

-- a single sector has one block alone
single_so : (x : ℕ) (cells : List Cell) → IsSingle x cells → AllSo (OnlyThis x (now_at cells x)) cells
single_so x cells single = record { each = λ y block h same. of (slice_get cells x) single.each block (subst (λ k. MayHold cells k block) same h) }
  where
    of : (o : Option Cell) → ((c : Cell) → o ≡ Some c → (v : Block) → IsIn v c.may → v ≡ c.now) → (block : Block) → MayHave o block → Some block ≡ option_map (λ c. c.now) o
    of None one block h = absurd h
    of (Some c) one block h = ap Some (⊎_elim (λ now. now) (one c refl block) h)

-- where each block of a sector is this one, the sector still has it
pub same_now : (a b : List Cell) (x : ℕ) → length b ≡ length a → ((block : Block) → MayHold b x block → Some block ≡ now_at a x) → now_at b x ≡ now_at a x
same_now [] [] x size each = refl
same_now [] (d ∷ ds) x size each = absurd (omega (arith, size))
same_now (c ∷ cs) [] x size each = absurd (omega (arith, size))
same_now (c ∷ cs) (d ∷ ds) zero size each = each d.now (inl refl)
same_now (c ∷ cs) (d ∷ ds) (suc x) size each = same_now cs ds x (omega (arith, size)) each

-- a reply that is GOOD
good_is : (status : Scsi) → is_good status ≡ true → status ≡ Good
good_is Good h = refl
good_is _ h = absurd cc

-- SYNCHRONIZE CACHE secures each sector
flush_secures : (c : Command) → flushes (Ok c) ≡ true → (s : Device) (t : Entry) (x : ℕ) → secures c s t x ≡ true
flush_secures (commands.Flush form lba count) h s t x = refl
flush_secures _ h s t x = absurd cc

module _ (first : Device) (r : Request) (x : ℕ) where
  -- a task has the name of the request
  abbrev pub called : Entry → Bool
  called t = is_called r.nexus (r.tag).0 t

  -- it is a SYNCHRONIZE CACHE
  pub record IsFlush (t : Entry) : Type 0 where
    pub flush : flushes (Ok t.command) ≡ true
    pub barrier : t.kind ≡ Barrier

  -- each task of that name is one
  abbrev pub of_flush : Asked
  of_flush = record { block = Anything; task = λ t. called t ≡ true → IsFlush t; reply = λ reply. Unit {0} }

  pub flush_asked : AnswersSo of_flush
  flush_asked = record { ending = λ s new t reply so known e. tt; losing = λ s t known. tt }

  -- a task brings no block to the sector
  abbrev pub Spares : Device → Entry → Type 0
  Spares s t = TaskSo (blocks_alone (λ y block. y ≡ x → ⊥)) s t

  -- while it waits, no task behind it writes the sector
  pub record Before (s : Device) : Type 0 where
    pub alike : Alike first s
    pub device : DeviceSo of_flush s
    pub behind : Behind called (Spares s) s.tasks

  -- afterwards the sector has one block alone, and no task brings another
  pub record After (s : Device) : Type 0 where
    pub block : Option Block
    pub now : now_at s.cells x ≡ block
    pub alike : Alike first s
    pub device : DeviceSo (blocks_alone (OnlyThis x block)) s

  -- none of these says GOOD to the request
  abbrev pub NotDone : List Reply → Type 0
  NotDone replies = (reply : Reply) → IsIn reply replies → is_done r (replied reply) ≡ true → ⊥

  pub record Stays (new : Device) (replies : List Reply) : Type 0 where
    pub told : NotDone replies
    pub before : Before new

  abbrev pub Comes : Device → List Reply → Type 0
  Comes new replies = Stays new replies ⊎ After new

  -- ---- afterwards

  pub after_on : (s new : Device) (a : After s) → Alike s new → DeviceSo (blocks_alone (OnlyThis x a.block)) new → After new
  after_on s new a alike device = record {
    block = a.block;
    now = same_now s.cells new.cells x alike.size (λ block there. (device.cells).each x block there refl ∙ sym a.now) ∙ a.now;
    alike = alike_on first s new a.alike alike;
    device = device;
  }

  after_by : (s new : Device) (replies : List Reply) (a : After s) → (DeviceSo (blocks_alone (OnlyThis x a.block)) s → GoesSo (blocks_alone (OnlyThis x a.block)) s new replies) → After new
  after_by s new replies a step = let g = step a.device in after_on s new a g.alike g.device

  quiet_after : (s new : Device) → Quiet s new → After s → After new
  quiet_after s new q a = after_by s new [] a (quiet_goes (blocks_alone (OnlyThis x a.block)) s new q)

  loss_after : (s new : Device) (replies : List Reply) → new.cells ≡ s.cells → new.identity ≡ s.identity → new.tasks ≡ [] → replies ≡ map (λ t. task_check s t link_lost) s.tasks → After s → After new
  loss_after s new replies cells identity tasks answer a =
      after_by s new replies a (loss_goes (blocks_alone (OnlyThis x a.block)) (nothing_asked (OnlyThis x a.block)) s new replies cells identity tasks answer)

  turn_after : (s new : Device) (replies : List Reply) → Around Turn s replies new → After s → After new
  turn_after s new replies turn a =
      after_by s new replies a (around_goes (blocks_alone (OnlyThis x a.block)) Turn s new replies turn (λ t k. turn_goes (blocks_alone (OnlyThis x a.block)) (nothing_asked (OnlyThis x a.block)) t k))

  -- ---- while it waits

  pub stays_with : (s new : Device) (tasks : List Entry) (replies : List Reply) → Before s → GoesSo of_flush s new replies → new.tasks ≡ tasks → Behind called (Spares s) tasks → NotDone replies → Comes new replies
  stays_with s new tasks replies b g same k told =
      inl (record {
        told = told;
        before = record {
          alike = alike_on first s new b.alike g.alike;
          device = g.device;
          behind = subst (Behind called (Spares new)) (sym same) (behind_weaken called (Spares s) (Spares new) (task_alike (blocks_alone (λ y block. y ≡ x → ⊥)) s new g.alike) tasks k);
        };
      })

  -- no reply
  pub none_told : (replies : List Reply) → replies ≡ [] → NotDone replies
  none_told replies is reply i h = absurd (subst (IsIn reply) is i)

  -- steps after steps
  pub comes_on : (mid new : Device) (xs ys : List Reply) → Comes mid xs → (Before mid → Comes new ys) → (After mid → After new) → Comes new (xs ++ ys)
  comes_on mid new xs ys (inr a) next afterwards = inr (afterwards a)
  comes_on mid new xs ys (inl k) next afterwards = of (next k.before)
    where
      of : Comes new ys → Comes new (xs ++ ys)
      of (inl l) = inl (record { told = λ reply i. ⊎_elim (k.told reply) (l.told reply) (in_either reply xs ys i); before = l.before })
      of (inr a) = inr a

  quiet_before : (s new : Device) → Quiet s new → Before s → Before new
  quiet_before s new q b =
      let g = quiet_goes of_flush s new q b.device in
      record {
        alike = alike_on first s new b.alike g.alike;
        device = g.device;
        behind = subst (Behind called (Spares new)) (sym (quiet_tasks s new q)) (behind_weaken called (Spares s) (Spares new) (task_alike (blocks_alone (λ y block. y ≡ x → ⊥)) s new g.alike) s.tasks b.behind);
      }

  pub then_quiet : (mid new : Device) (xs : List Reply) → Comes mid xs → Quiet mid new → Comes new xs
  then_quiet mid new xs (inl k) q = inl (record { told = k.told; before = quiet_before mid new q k.before })
  then_quiet mid new xs (inr a) q = inr (quiet_after mid new q a)

  pub around_comes : (Step : Device → List Reply → Device → Type 0) (s new : Device) (replies : List Reply) (a : Around Step s replies new) → (Before a.before → Comes a.after replies) → Before s → Comes new replies
  around_comes Step s new replies a each b = then_quiet a.after new replies (each (quiet_before s a.before a.quiet_before b)) a.quiet_after

  -- the link is lost
  lost_told : (s : Device) (tasks : List Entry) → NotDone (map (λ t. task_check s t link_lost) tasks)
  lost_told s [] reply i h = absurd i
  lost_told s (t ∷ ts) reply i h =
      ⊎_elim
      (λ same. absurd (let no : false ≡ true = (and_parts (is_name r.nexus (r.tag).0 (task_check s t link_lost).nexus ((task_check s t link_lost).tag).0) false (subst (λ k. is_done r (replied k) ≡ true) same h)).1 in cc))
      (λ later. lost_told s ts reply later h)
      i

  pub loss_comes : (s new : Device) (replies : List Reply) → new.cells ≡ s.cells → new.identity ≡ s.identity → new.tasks ≡ [] → replies ≡ map (λ t. task_check s t link_lost) s.tasks → Before s → Comes new replies
  loss_comes s new replies cells identity tasks answer b =
      stays_with s new [] replies b (loss_goes of_flush flush_asked s new replies cells identity tasks answer b.device) tasks tt (subst NotDone (sym answer) (lost_told s s.tasks))

  -- ---- a task ends

  -- the tasks behind the first one
  rest_spares : (s : Device) (tasks : List Entry) (t : Entry) → IsFirst tasks t → called t ≡ true → Behind called (Spares s) tasks → AllByRecursion (Spares s) (without t tasks)
  rest_spares s [] t is it k = absurd is
  rest_spares s (u ∷ us) t is it k =
      subst (λ b. AllByRecursion (Spares s) (if b then us else u ∷ without t us)) (sym (called_same u t is)) (k.0 (subst (λ v. called v ≡ true) (sym is) it))

  -- a task that brings no block to the sector
  spares_so : (v : Option Block) (s u : Device) → Alike s u → (t : Entry) → Spares s t → TaskSo (blocks_alone (OnlyThis x v)) u t
  spares_so v s u a t h =
      let k = task_alike (blocks_alone (λ y block. y ≡ x → ⊥)) s u a t h in
      record { own = k.own; brings = λ y block b same. absurd (k.brings y block b same); known = tt }

  module _ (s new : Device) (reply : Reply) (e : OneEnds s reply new) (b : Before s) where
    goes : GoesSo of_flush s new (reply ∷ [])
    goes = one_goes of_flush flush_asked s new reply e b.device

    -- the flush has no GOOD by this
    still : (is_done r (replied reply) ≡ true → ⊥) → Comes new (reply ∷ [])
    still not_done =
        stays_with s new (without e.task s.tasks) (reply ∷ []) b goes (ends_leaves s new e.task reply e.ends).tasks
        (behind_removed called (Spares s) (is_called (e.task).nexus ((e.task).tag).0) s.tasks b.behind)
        (λ other i h. ⊎_elim (λ same. not_done (subst (λ k. is_done r (replied k) ≡ true) same h)) (λ nothing. absurd nothing) i)

    -- it has
    done : is_done r (replied reply) ≡ true → After new
    done h =
        let parts = and_parts (is_name r.nexus (r.tag).0 reply.nexus (reply.tag).0) (is_good reply.status) h in
        let l = ends_leaves s new e.task reply e.ends in
        let it : called e.task ≡ true = subst (λ n. is_name r.nexus (r.tag).0 n ((e.task).tag).0 ≡ true) l.nexus (subst (λ g. is_name r.nexus (r.tag).0 reply.nexus g.0 ≡ true) l.tag parts.0) in
        let flush : IsFlush e.task = (in_all (TaskSo of_flush s) s.tasks e.task (b.device).tasks (may_end_in s e.task e.may)).known it in
        let rest = rest_spares s s.tasks e.task (ends_first s e.task flush.barrier e.may) it b.behind in
        let single = secured x s new e.task reply (good_is reply.status parts.1) (flush_secures (e.task).command flush.flush s e.task x) e.ends in
        let block : Option Block = now_at new.cells x in
        record {
          block = block;
          now = refl;
          alike = alike_on first s new b.alike goes.alike;
          device = record { cells = single_so x new.cells single; tasks = subst (AllByRecursion (TaskSo (blocks_alone (OnlyThis x block)) new)) (sym l.tasks) (All-weaken (Spares s) (TaskSo (blocks_alone (OnlyThis x block)) new) (spares_so block s new goes.alike) (without e.task s.tasks) rest) };
        }

    one_comes : Comes new (reply ∷ [])
    one_comes = by_test (λ d. Comes new (reply ∷ [])) (is_done r (replied reply)) (λ yes. inr (done yes)) (λ no. still (λ yes. let clash : true ≡ false = sym yes ∙ no in absurd cc))

  turn_comes : {s new : Device} {replies : List Reply} → Turn s replies new → Before s → Comes new replies
  turn_comes {s = s} (idle e) b = inl (record { told = none_told [] refl; before = b })
  turn_comes {s = s} (ends {new = new} reply e) b = one_comes s new reply e b
  turn_comes {s = s} (loses {new = new} {answers = replies} some l) b = loss_comes s new replies (ap (λ d. d.cells) l.stays) (ap (λ d. d.identity) l.stays) (ap (λ d. d.tasks) l.stays) l.answer b
  turn_comes {s = s} (ends_and_loses {mid = mid} {after = after} {new = new} {answers = replies} reply e q l) b =
      comes_on after new (reply ∷ []) replies (then_quiet mid after (reply ∷ []) (one_comes s mid reply e b) q)
      (loss_comes after new replies (ap (λ d. d.cells) l.stays) (ap (λ d. d.identity) l.stays) (ap (λ d. d.tasks) l.stays) l.answer)
      (loss_after after new replies (ap (λ d. d.cells) l.stays) (ap (λ d. d.identity) l.stays) (ap (λ d. d.tasks) l.stays) l.answer)

  pub turns_come : {n deep : ℕ} {s new : Device} {replies : List Reply} → TurnsOf n s replies new deep → Before s → Comes new replies
  turns_come {s = s} none b = inl (record { told = none_told [] refl; before = b })
  turns_come {s = s} {new = new} (more {mid = mid} {earlier = earlier} {rest = rest} so_far next) b =
      comes_on mid new earlier rest (turns_come so_far b) (around_comes Turn mid new rest next (λ k. turn_comes next.step k)) (turn_after mid new rest next)

  -- ---- other steps

  pub manages_comes : (m : Manage) (response : Response) (s new : Device) (replies : List Reply) → Manages m response s replies new → Before s → Comes new replies
  manages_comes m response s new replies h b =
      stays_with s new (filter (λ t. not ((effect m s).goes t)) s.tasks) replies b (manages_goes of_flush flush_asked m response s new replies h b.device) (ap (λ d. d.tasks) (h.1).stays)
      (behind_filter called (Spares s) (λ t. not ((effect m s).goes t)) s.tasks b.behind) (none_told replies h.0)

  pub may_lose_comes : (Step : Device → List Reply → Device → Type 0) (s new : Device) (replies : List Reply)
      → ((mid : Device) (said : List Reply) → Step s said mid → Comes mid said) → MayLose Step s replies new → Comes new replies
  may_lose_comes Step s new replies each (keeps h) = each new replies h
  may_lose_comes Step s new _ each (keeps_and_loses {answers = said} {more = lost} {mid = mid} {after = after} h q l) =
      comes_on after new said lost (then_quiet mid after said (each mid said h) q)
      (loss_comes after new lost (ap (λ d. d.cells) l.stays) (ap (λ d. d.identity) l.stays) (ap (λ d. d.tasks) l.stays) l.answer)
      (loss_after after new lost (ap (λ d. d.cells) l.stays) (ap (λ d. d.identity) l.stays) (ap (λ d. d.tasks) l.stays) l.answer)

  pub bench_comes : (event : BenchEvent) (s new : Device) (replies : List Reply) → Happens event s replies new → Before s → Comes new replies
  bench_comes bench.Power s new replies h b = stays_with s new [] replies b (bench_goes of_flush flush_asked bench.Power s new replies h b.device) (ap (λ d. d.tasks) h.stays) tt (none_told replies h.none)
  bench_comes bench.Unplug s new replies h b = loss_comes s new replies (ap (λ d. d.cells) h.stays) (ap (λ d. d.identity) h.stays) (ap (λ d. d.tasks) h.stays) h.answer b
  bench_comes event s new replies h b = stays_with s new s.tasks replies b (bench_goes of_flush flush_asked event s new replies h b.device) (ap (λ d. d.tasks) h.new_is) b.behind (none_told replies h.none)
