-- Which drive calls a task that runs alone and the queue take.
use Rattle.std.proofs.Common.{◌≡◌, refl, sym, ap, subst, ◌∙◌, ℕ, Bool, true, false, List, [], ◌∷◌, ◌++◌, Option, Some, None}
use Rattle.std.specs.Prelude.{MatchBool, not, ◌&&◌, if◌then◌else◌}
use Rattle.satl_base.specs.declared.reply.Reply.{Reply}
use Rattle.satl_errlog.specs.declared.entry.NcqError.{NcqError}
use Rattle.satl_cdb.specs.declared.command.Command.{Command}
use Rattle.satl_cdb.specs.declared.command.Command.TheVariants as cdbs
use Rattle.satl_direct.specs.Tasks.{asks}
use Rattle.satl_line.specs.declared.entry.Entry.{Entry}
use Rattle.satl_line.specs.Tasks.{Held}
use Rattle.satl_core.specs.declared.alone.Alone.{Alone}
use Rattle.satl_core.specs.declared.turning.Ending.{Ending}
use Rattle.satl_core.specs.Alone.{alone_of}
use Rattle.satl_core.specs.Calling.{OnlyIssues, ResetsFor, TellEnd, calls_alone, calls_if_alone, calls_of_first, calls_of_task, is_first_unready, is_unready}
use Rattle.satl_core.specs.Layer.{IsUsed, Layer}
use Rattle.satl_core.specs.Leaving.{AreWaiting}
use Rattle.satl_core.specs.Turning.{ended_reply, ending_by, started_after}
use Rattle.satl_core.proofs.HeldLemmas.{IsFirst}
use Rattle.satl_flight.specs.Settled.{IsFilled}

-- ---- a task that runs alone

-- where it is not refused, its turn takes what its command takes
pub alone_turn : (started : Bool) (command : Command) (alone : Alone) → is_unready started command ≡ false → alone_of command ≡ Some alone → calls_of_task started command ≡ calls_alone alone
alone_turn started command alone ready is = ap (λ b. if b then 0 else calls_if_alone (alone_of command)) ready ∙ ap calls_if_alone is

pub first_turn : (started : Bool) (tasks rest : List Held) (entry : Entry) → IsFirst tasks entry rest → calls_of_first started tasks ≡ calls_of_task started entry.command
first_turn started tasks rest entry first = rw first.are (ap (λ (e : Entry). calls_of_task started e.command) first.entry_is)

pub first_unready : (started : Bool) (tasks rest : List Held) (entry : Entry) → IsFirst tasks entry rest → is_first_unready started tasks ≡ is_unready started entry.command
first_unready started tasks rest entry first = rw first.are (ap (λ (e : Entry). is_unready started e.command) first.entry_is)

-- a unit that refuses a task is stopped
pub unready_stopped : (started : Bool) (command : Command) → is_unready started command ≡ true → started ≡ false
unready_stopped started command = stopped started (asks command).needs_started
  where
    stopped : (on needs : Bool) → (not on && needs) ≡ true → on ≡ false
    stopped true needs is = absurd cc
    stopped false needs is = refl

pub first_stopped : (started : Bool) (tasks : List Held) → is_first_unready started tasks ≡ true → started ≡ false
first_stopped started [] is = absurd cc
first_stopped started (h ∷ hs) is = unready_stopped started h.entry.command is

-- and stays so
pub unready_stays : (command : Command) (ending : Ending) (started : Bool) → is_unready started command ≡ true → started_after command ending started ≡ started
unready_stays (cdbs.StartStop start no_flush) ending started is = absurd (none started is)
  where
    none : (on : Bool) → (not on && false) ≡ true → ⊥
    none true is = absurd cc
    none false is = absurd cc
unready_stays _ ending started is = refl

-- a stopped unit has nothing outstanding
pub stopped_idle : (l : Layer) → IsUsed l → l.started ≡ false → l.flying ≡ []
stopped_idle l used stopped = subst (λ b. MatchBool b (IsFilled l.flying l.tasks) (l.flying ≡ [])) (rests l.down l.started stopped) used
  where
    rests : (down started : Bool) → started ≡ false → (not down && started) ≡ false
    rests true started is = refl
    rests false started is = is

-- ---- the queue

-- the one reply tells how the command ended
told_one : (error : Option NcqError) (task : Entry) (writes descriptor : Bool) → TellEnd error (ended_reply task (ending_by writes error) descriptor ∷ [])
told_one None task writes descriptor = (refl, tt)
told_one (Some e) task writes descriptor = λ good. let no = good.0 in absurd cc

pub told_end : (error : Option NcqError) (given replies : List Reply) (reply : Reply) (task : Entry) (ending : Ending) (writes descriptor : Bool) →
    given ≡ [] → replies ≡ given ++ reply ∷ [] → reply ≡ ended_reply task ending descriptor → ending ≡ ending_by writes error → TellEnd error replies
told_end error given replies reply task ending writes descriptor none pushed is by =
    subst (TellEnd error) (sym (pushed ∙ ap (λ gs. gs ++ reply ∷ []) none))
    (subst (λ r. TellEnd error (r ∷ [])) (sym (is ∙ ap (λ e. ended_reply task e descriptor) by)) (told_one error task writes descriptor))

-- a link that is up behind a call that leaves a lost link was up before it
pub still_up : (mid new : Layer) → (mid.down ≡ true → new ≡ mid) → new.down ≡ false → mid.down ≡ false
still_up mid new same up = go mid.down refl
  where
    go : (b : Bool) → mid.down ≡ b → mid.down ≡ false
    go false is = is
    go true is = let no : true ≡ false = sym is ∙ (ap (λ (l : Layer). l.down) (sym (same is)) ∙ up) in absurd cc

-- what a reset is for is said of the tasks and of what is outstanding alone
pub resets_alike : (goes : Entry → Bool) (old mid : Layer) (calls : ℕ) (new : Layer) (calls' : ℕ) → mid.flying ≡ old.flying → mid.tasks ≡ old.tasks → ResetsFor goes mid calls new calls' → ResetsFor goes old calls new calls'
resets_alike goes old mid calls new calls' flying tasks r = record {
  none = λ waiting. subst (λ fs. OnlyIssues fs calls new calls') flying (r.none (subst (λ ts. AreWaiting goes mid.flying ts) (sym tasks) (subst (λ fs. AreWaiting goes fs old.tasks) (sym flying) waiting)));
  some = λ no. r.some (λ waiting. no (subst (λ ts. AreWaiting goes old.flying ts) tasks (subst (λ fs. AreWaiting goes fs mid.tasks) flying waiting)));
}
