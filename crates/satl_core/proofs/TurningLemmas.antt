-- The answers to tasks.
use Rattle.std.proofs.Common.{◌≡◌, refl, sym, ap, subst, ◌∙◌, arith, ◌+◌, ◌≤◌, Bool, true, false, List, [], ◌∷◌, ◌++◌, length}
use Rattle.std.proofs.lemmas.List.{append-nil}
use Rattle.std.specs.List.{AllByRecursion}
use Rattle.std.specs.Prelude.{if◌then◌else◌}
use Rattle.satl_base.specs.declared.block.Block.{Block}
use Rattle.satl_base.specs.declared.reply.Reply.{Reply}
use Rattle.satl_cdb.specs.declared.command.Command.{Command}
use Rattle.satl_cdb.specs.declared.command.Command.TheVariants as cdbs
use Rattle.satl_frame.specs.Output.{IsWritable}
use Rattle.satl_sense.specs.declared.sense.Sense.{Sense}
use Rattle.satl_identify.specs.declared.identity.Identity.{Identity}
use Rattle.satl_line.specs.declared.entry.Entry.{Entry}
use Rattle.satl_line.specs.Tasks.{Held}
use Rattle.satl_direct.specs.Senses.{link_lost}
use Rattle.satl_direct.specs.Tasks.{pass_of}
use Rattle.satl_core.specs.declared.turning.Ending.{Ending}
use Rattle.satl_core.specs.declared.turning.Ending.TheVariants as endings
use Rattle.satl_core.specs.Layer.{IsKept, reply_pages}
use Rattle.satl_base.specs.Limits.{IsExpectable}
use Rattle.satl_core.proofs.HeldLemmas.{IsKeptEntry, reply_pages_cons}
use Rattle.satl_core.proofs.Transfers.{task_few}
use Rattle.satl_core.specs.Turning.{data_in, ended_reply, lost_replies, read_pages}

-- the answers at a lost link hold no page and can be written
pub lost_pages : (descriptor : Bool) (tasks : List Held) → reply_pages (lost_replies descriptor tasks) ≡ 0
lost_pages descriptor [] = refl
lost_pages descriptor (h ∷ tasks) = lost_pages descriptor tasks

pub lost_writable : (descriptor : Bool) (identity : Identity) (tasks : List Held) → AllByRecursion (IsKept identity) tasks → AllByRecursion IsWritable (lost_replies descriptor tasks)
lost_writable descriptor identity [] all = tt
lost_writable descriptor identity (h ∷ tasks) all = (record { holds = omega arith; short = omega arith; expected = all.0.expected }, lost_writable descriptor identity tasks all.1)

checked_writable : (entry : Entry) (sense : Sense) (descriptor : Bool) → IsExpectable entry.expected → IsWritable (ended_reply entry (endings.Check sense) descriptor)
checked_writable entry sense descriptor expected = record { holds = omega arith; short = omega arith; expected = expected }

read_few : (command : Command) (body : List Block) → length (read_pages command body) ≤ length body
read_few (cdbs.Read form lba count fua) body = omega arith
read_few (cdbs.Pass cdb) body = elim (pass_of cdb).out as (λ b. length (if b then [] else body) ≤ length body) [ true ↦ omega arith | false ↦ omega arith ]
read_few _ body = omega arith

data_few : (ending : Ending) (command : Command) (body : List Block) → length (data_in ending command body) ≤ length body
data_few endings.Good command body = read_few command body
data_few (endings.Informed sense) command body = read_few command body
data_few (endings.Check sense) command body = omega arith

pub ended_writable : (entry : Entry) (ending : Ending) (descriptor : Bool) → length entry.body ≤ 4096 → IsExpectable entry.expected → IsWritable (ended_reply entry ending descriptor)
ended_writable entry ending descriptor few expected =
    let most = data_few ending entry.command entry.body in
    record { holds = omega arith; short = omega (arith, most, few); expected = expected }

-- a reply that was pushed and those behind it can be written
all_writable : (given pushed all more : List Reply) (r : Reply) → given ≡ [] → pushed ≡ given ++ r ∷ [] → all ≡ pushed ++ more → IsWritable r → AllByRecursion IsWritable more → AllByRecursion IsWritable all
all_writable given pushed all more r none push is one rest = rw (is, push, none) (one, rest)

pub all_pages : (given pushed all more : List Reply) (r : Reply) → given ≡ [] → pushed ≡ given ++ r ∷ [] → all ≡ pushed ++ more → reply_pages all ≡ length r.body + reply_pages more
all_pages given pushed all more r none push is = rw (is, push, none) (reply_pages_cons r more)

-- the one reply to a task that ends
pub one_writable : (given all : List Reply) (r : Reply) (entry : Entry) (ending : Ending) (descriptor : Bool) → given ≡ [] → all ≡ given ++ r ∷ [] → r ≡ ended_reply entry ending descriptor → length entry.body ≤ 4096 → IsExpectable entry.expected → AllByRecursion IsWritable all
one_writable given all r entry ending descriptor none push is few expected = all_writable given all all [] r none push (sym (append-nil all)) (subst IsWritable (sym is) (ended_writable entry ending descriptor few expected)) tt

-- the replies to all tasks at a lost link
pub lost_all_writable : (given pushed all : List Reply) (r : Reply) (entry : Entry) (ending : Ending) (descriptor : Bool) (identity : Identity) (rest : List Held) → given ≡ [] → pushed ≡ given ++ r ∷ [] → all ≡ pushed ++ lost_replies descriptor rest
    → r ≡ ended_reply entry ending descriptor → ending ≡ endings.Check link_lost → IsExpectable entry.expected → AllByRecursion (IsKept identity) rest → AllByRecursion IsWritable all
lost_all_writable given pushed all r entry ending descriptor identity rest none push more is lost expected kept =
    let reply : r ≡ ended_reply entry (endings.Check link_lost) descriptor = is ∙ ap (λ e. ended_reply entry e descriptor) lost in
    all_writable given pushed all (lost_replies descriptor rest) r none push more (subst IsWritable (sym reply) (checked_writable entry link_lost descriptor expected)) (lost_writable descriptor identity rest kept)

pub one_pages : (given all : List Reply) (r : Reply) → given ≡ [] → all ≡ given ++ r ∷ [] → reply_pages all ≡ length r.body
one_pages given all r none push = let whole = all_pages given all all [] r none push (sym (append-nil all)) in omega (arith, whole)

pub entry_few : (identity : Identity) (entry : Entry) → IsKeptEntry identity entry → length entry.body ≤ 4096
entry_few identity entry kept = let few = task_few identity.capacity entry.blocks identity.queued_trim entry.command kept.task in omega (arith, few, kept.pages)
