-- Sectors that no task writes, and sectors that were secured.
use Rattle.std.proofs.Common.{◌≡◌, ◌⊎◌, inl, inr, sym, ap, subst, ℕ, true, List}
use Rattle.std.specs.List.{AllByRecursion}
use Rattle.satl_base.specs.declared.reply.Reply.{Reply}
use Rattle.satl_base.specs.declared.reply.Scsi.TheVariants.{Good}
use Rattle.satl_base.proofs.ListsLemmas.{All-remove_first, All-weaken}
use Rattle.satl_identify.specs.declared.identity.Identity.{Identity}
use Rattle.satl_line.specs.declared.entry.Entry.{Entry}
use Rattle.satl_direct.specs.Device.{Device, is_called}
use Rattle.satl_direct.specs.Ending.{Ends}
use Rattle.satl_direct.specs.Valid.{HasCome, IsValid}
use Rattle.satl_laws.specs.Durable.{IsSpan, secures}
use Rattle.satl_laws.specs.Untouched.{SparedThrough, WithoutPower, now_at}
use Rattle.satl_direct.specs.Run.{RunDeep}
use Rattle.satl_direct.specs.Turn.{TurnLoss}
use Rattle.satl_direct.proofs.Quieting.{quiet_tasks}
use Rattle.satl_frame.specs.declared.frames.Frame.{Frame}
use Rattle.satl_frame.specs.Output.{Answer}
use Rattle.satl_laws.proofs.Addresses.{Alike}
use Rattle.satl_laws.proofs.Arrivals.{IsFor, code_for}
use Rattle.satl_laws.proofs.Ends.{ends_leaves}
use Rattle.satl_laws.proofs.Kept.{at_now}
use Rattle.satl_laws.proofs.Coming.{WritesItsOwn}
use Rattle.satl_laws.proofs.Runs.{none_writes, run_endures, run_keeps}
use Rattle.satl_laws.proofs.Sparing.{Keeps, NoneWrites, keeps_none, keeps_on, loss_keeps, none_still, quiet_alike, quiet_keeps, turns_keep}
use Rattle.satl_laws.proofs.PowerLoss.{power_keeps}
use Rattle.satl_laws.proofs.Securing.{secured}
use Rattle.satl_laws.proofs.Singles.{IsSingle}

-- a task that a request became writes its own data-out alone
come_own : (identity : Identity) (t : Entry) → HasCome identity t → WritesItsOwn t.command
come_own identity t h = let to = subst (IsFor h.request) h.became (code_for h.at h.request) in to.own

-- so does each task of a device that there can be
all_own : (s : Device) → IsValid s → AllByRecursion (λ t. WritesItsOwn t.command) s.tasks
all_own s valid = All-weaken (HasCome s.identity) (λ t. WritesItsOwn t.command) (come_own s.identity) s.tasks valid.come

-- the law of untouched sectors
pub untouched : (first last : Device) (all : List Frame) (groups : List (List Answer)) (losses deep : ℕ) (run : RunDeep first all groups losses last deep) (x : ℕ) →
    IsValid first → WithoutPower all → SparedThrough x run → now_at last.cells x ≡ now_at first.cells x
untouched first last all groups losses deep run x valid calm spared = at_now x first.cells last.cells (run_keeps x run calm spared (all_own first valid)).cells

-- likeness goes both ways
alike_back : (s u : Device) → Alike s u → Alike u s
alike_back s u a = record { identity = sym a.identity; size = sym a.size }

-- so does a link that is lost in the turn in which the task ended
going_keeps : (x : ℕ) (begin going : Device) (lost : List Reply) → ((going ≡ begin) ⊎ TurnLoss begin lost going) → NoneWrites x begin → Keeps x begin going
going_keeps x begin going lost (inl same) h = subst (λ d. Keeps x begin d) (sym same) (keeps_none x begin h)
going_keeps x begin going lost (inr l) h = loss_keeps x begin going (ap (λ d. d.cells) l.stays) (ap (λ d. d.identity) l.stays) (ap (λ d. d.tasks) l.stays)

-- from the end of a task that made a sector single up to the last loss of power
span_keeps : (x : ℕ) (mid after : Device) → IsSingle x mid.cells → AllByRecursion (λ t. WritesItsOwn t.command) mid.tasks → (span : IsSpan x mid after) → Keeps x mid span.last
span_keeps x mid after single own span =
    let same : (span.begin).tasks ≡ mid.tasks = quiet_tasks mid span.begin span.quiet in
    let begin : NoneWrites x span.begin = none_writes x span.begin span.none (subst (AllByRecursion (λ t. WritesItsOwn t.command)) (sym same) own) in
    let here : NoneWrites x mid = none_still x span.begin mid (span.begin).tasks (alike_back mid span.begin (quiet_alike x mid span.begin span.quiet)) (sym same) begin.each in
    run_endures x mid single span.run span.spared
    (keeps_on x mid span.going span.mid (keeps_on x mid span.begin span.going (quiet_keeps x mid span.begin span.quiet here) (going_keeps x span.begin span.going span.lost span.loss)) (turns_keep x span.turns))

-- the law of durable sectors
pub durable : (x : ℕ) (s mid after : Device) (t : Entry) (reply : Reply) →
    IsValid s → Ends s t reply mid → reply.status ≡ Good → secures t.command s t x ≡ true → IsSpan x mid after → now_at after.cells x ≡ now_at mid.cells x
durable x s mid after t reply valid ends good secure span =
    let l = ends_leaves s mid t reply ends in
    let own : AllByRecursion (λ u. WritesItsOwn u.command) mid.tasks =
    subst (AllByRecursion (λ u. WritesItsOwn u.command)) (sym l.tasks)
    (All-remove_first (λ u. WritesItsOwn u.command) (is_called t.nexus (t.tag).0) s.tasks (all_own s valid)) in
    let single = secured x s mid t reply good secure ends in
    at_now x mid.cells after.cells (power_keeps x mid span.last after span.answers single (span_keeps x mid after single own span) span.power).cells
