-- What is issued, and what is answered where the link is lost in it.
use Rattle.std.proofs.Common.{◌≡◌, ℕ, inl, inr, ⊎_elim, refl, sym, ap, subst, ◌∙◌, arith, true, false, Bool, List, [], ◌∷◌, ◌++◌, length}
use Rattle.std.specs.Prelude.{not, ◌&&◌, ◌-◌, MatchBool}
use Rattle.std.specs.List.{AllByRecursion}
use Rattle.std.proofs.lemmas.List.{append-nil, length_push}
use Rattle.satl_base.specs.declared.reply.Reply.{Reply}
use Rattle.satl_io.specs.Causes.{Rose, RoseBy}
use Rattle.satl_direct.specs.Run.{losses_of}
use Rattle.satl_core.proofs.CountedLemmas.{one_loss, rose_later}
use Rattle.satl_line.specs.Tasks.{Held}
use Rattle.satl_drive.specs.State.{DriveState, IsFit}
use Rattle.satl_frame.specs.Output.{IsWritable}
use Rattle.satl_direct.specs.Device.{Device}
use Rattle.satl_direct.specs.Quiet.{Quiet}
use Rattle.satl_direct.specs.Turn.{Loss}
use Rattle.satl_direct.proofs.Quieting.{quiet_none}
use Rattle.satl_flight.specs.Settled.{IsFilled, IsIssuedIfItMay, IsLaunched, IsLostQuietly}
use Rattle.satl_flight.proofs.LaunchedLemmas.{launched_moves}
use Rattle.satl_flight.proofs.LaunchingLemmas.{filled_come}
use Rattle.satl_core.specs.Flushed.{IsSettled}
use Rattle.satl_core.specs.Layer.{Agrees, Layer, Tied, reply_pages, view, works}
use Rattle.satl_core.specs.Refilling.{Answers, Comes, KeepsRest, Refills}
use Rattle.satl_core.specs.Turning.{lost_replies}
use Rattle.satl_core.proofs.AgreeingLemmas.{agrees_launched, quietly_down, tied_lost, used_filled}
use Rattle.satl_core.proofs.FlushedLemmas.{still_settled}
use Rattle.satl_core.proofs.HeldLemmas.{reply_pages-append}
use Rattle.satl_core.proofs.QueuedLemmas.{loses_quietly, moves_quietly, queue_on}
use Rattle.satl_core.proofs.TurningLemmas.{lost_pages}

pub no_answers : (s : Device) (given : List Reply) → Answers (λ more. Refills s more s) given given
no_answers s given = record { more = []; behind = sym (append-nil given); step = inl (refl, quiet_none s) }

pub works_by : (down started : Bool) → down ≡ false → started ≡ true → (not down && started) ≡ true
works_by down started up on = ap (λ b. not b && started) up ∙ on

-- ---- what is issued

-- the layer before, as it was told and as it is by its parts, and after
module _ (l now new : Layer) (d d' : DriveState) (is : l ≡ now) (w : works l ≡ true) (agrees : Agrees now d) (same : new ≡ record l { flying = new.flying; slots = new.slots }) (step : IsLaunched (queue_on l d) (queue_on new d')) where
  was : Agrees l d
  was = subst (λ x. Agrees x d) (sym is) agrees

  pub launched_quietly : Quiet (view now d) (view new d')
  launched_quietly =
      subst (λ x. Quiet (view x d) (view new d')) is
      (moves_quietly l d was w new d' same (launched_moves (queue_on l d) (queue_on new d') step) (ap (λ (x : DriveState). x.active) step.stays) (ap (λ (x : DriveState). x.glitches) step.stays) (ap (λ (x : DriveState). x.down) step.stays))

  pub launched_answers : (given : List Reply) → Answers (λ more. Refills (view now d) more (view new d')) given given
  launched_answers given = record { more = []; behind = sym (append-nil given); step = inl (refl, launched_quietly) }

  pub launched_tied : IsFilled new.flying new.tasks → (IsFit d → IsFit d') → Tied new d'
  launched_tied filled fit = record {
    agrees = agrees_launched l new d d' step same (fit was.fit) was;
    used = used_filled new (ap works same ∙ w) filled;
  }

  pub launched_settled : AllByRecursion IsSettled d.cells → AllByRecursion IsSettled d'.cells
  launched_settled all = ⊎_elim (λ still. subst (AllByRecursion IsSettled) (sym still) all) (λ lost. still_settled d.cells d'.cells all lost) step.lost

-- the task that came last is covered, so the queue is used
pub filled_last : (l new : Layer) (capacity : ℕ) (trims : Bool) (d d' : DriveState) → works l ≡ true → new.tasks ≡ l.tasks → (before : List Held) → Comes capacity trims before l.tasks → MatchBool (works l) (IsFilled l.flying before) (l.flying ≡ [])
    → IsLaunched (queue_on l d) (queue_on new d') → IsIssuedIfItMay new.flying new.tasks (length l.tasks - 1) → IsFilled new.flying new.tasks
filled_last l new capacity trims d d' w same before comes used step covered =
    let filled : IsFilled l.flying before = subst (λ b. MatchBool b (IsFilled l.flying before) (l.flying ≡ [])) w used in
    let count : length l.tasks - 1 ≡ length before = ap (λ ts. length ts - 1) comes.last ∙ one_less in
    subst (IsFilled new.flying) (sym (same ∙ comes.last))
    (filled_come before comes.held (queue_on l d) (queue_on new d') filled step
    (subst (λ n. IsIssuedIfItMay new.flying (before ++ comes.held ∷ []) n) count (subst (λ ts. IsIssuedIfItMay new.flying ts (length l.tasks - 1)) (same ∙ comes.last) covered)))
  where
    one_less : length (before ++ comes.held ∷ []) - 1 ≡ length before
    one_less = let n = length_push before comes.held in omega (arith, n)

-- ---- the link is lost in it

-- the layer that has answered all, by the layer before
pub lost_layer : (l mid new : Layer) → mid ≡ record l { tasks = mid.tasks; flying = mid.flying; slots = mid.slots; free = mid.free; out = mid.out } → mid.flying ≡ [] → new ≡ record mid { down = true; tasks = []; slots = new.slots; free = new.free } → new ≡ record l { down = true; tasks = []; flying = []; slots = new.slots; free = new.free; out = new.out }
lost_layer l mid new same idle stays =
    let first : new ≡ record l { down = true; tasks = []; flying = []; slots = new.slots; free = new.free; out = mid.out } = stays ∙ (ap (λ (x : Layer). record x { down = true; tasks = []; slots = new.slots; free = new.free }) same ∙ ap (λ fs. record l { down = true; tasks = []; flying = fs; slots = new.slots; free = new.free; out = mid.out }) idle) in
    first ∙ ap (λ n. record l { down = true; tasks = []; flying = []; slots = new.slots; free = new.free; out = n }) (sym (ap (λ (x : Layer). x.out) first))

module _ (l now new : Layer) (d d' : DriveState) (is : l ≡ now) (w : works l ≡ true) (agrees : Agrees now d) (same : new ≡ record l { down = true; tasks = []; flying = []; slots = new.slots; free = new.free; out = new.out }) (lost : IsLostQuietly l.tasks d d')
    (given replies : List Reply) (answers : replies ≡ given ++ lost_replies l.modes.d_sense l.tasks) where
  before : Agrees l d
  before = subst (λ x. Agrees x d) (sym is) agrees

  pub lost_answers : Answers (λ more. Refills (view now d) more (view new d')) given replies
  lost_answers = record {
    more = lost_replies l.modes.d_sense l.tasks;
    behind = answers;
    step = subst (λ x. Refills (view x d) (lost_replies l.modes.d_sense l.tasks) (view new d')) is (inr (loses_quietly l d before w new d' same lost));
  }

  pub lost_tied : (IsFit d → IsFit d') → Tied new d'
  lost_tied fit = tied_lost l new d d' (quietly_down l.tasks d d' lost (fit before.fit)) same before

-- what is kept beside it, where these tasks were answered
pub lost_rest : (l now new : Layer) (given replies : List Reply) (tasks : List Held) → l ≡ now → new ≡ record l { down = true; tasks = []; flying = []; slots = new.slots; free = new.free; out = new.out } → new.out ≡ l.out → replies ≡ given ++ lost_replies l.modes.d_sense tasks
    → (AllByRecursion IsWritable given → AllByRecursion IsWritable replies) → KeepsRest now given new replies
lost_rest l now new given replies tasks is same out answers writable =
    subst (λ x. KeepsRest x given new replies) is (record {
      modes = ap (λ (x : Layer). x.modes) same;
      out = out;
      fewer = let none = ap (λ (x : Layer). length x.tasks) same in omega (arith, none);
      pages = let both = reply_pages-append given (lost_replies l.modes.d_sense tasks) in let none = lost_pages l.modes.d_sense tasks in let all = ap reply_pages answers in omega (arith, both, none, all);
      writable = writable;
    })

-- ---- what was answered before it

-- where the link was not lost, all answers stood before it
pub answered_before : (P : List Reply → Type 0) (first all : List Reply) (mid new : Device) (n before then now : ℕ) → Answers (λ more. Refills mid more new) first all → RoseBy n before then → RoseBy (losses_of mid new) then now → (Rose before now → ⊥) → P all → P first
answered_before P first all mid new n before then now a earlier rest quiet p =
    ⊎_elim
    (λ (none : (a.more ≡ []) × Quiet mid new). subst P (a.behind ∙ (ap (λ m. first ++ m) none.0 ∙ append-nil first)) p)
    (λ (lost : (m : Device) × Quiet mid m × Loss m a.more new).
    let up : mid.down ≡ false = sym (ap (λ (d : Device). d.down) lost.1.stays) ∙ lost.2.was_up in
    let down : new.down ≡ true = ap (λ (d : Device). d.down) lost.2.stays in
    absurd (quiet (rose_later n before then now earlier (subst (λ k. RoseBy k then now) (one_loss mid new up down) rest))))
    a.step
