-- What single steps of the device come to.
use Rattle.std.proofs.Common.{inl, inr, ⊎_elim, ◌≡◌, refl, sym, ap, subst, ◌∙◌, arith, ℕ, ◌+◌, ◌≤◌, Bool, true, false, List, [], ◌∷◌, ◌++◌, Option, Some, None, length}
use Rattle.std.proofs.lemmas.Bool.{cases_lt, eq-eqb, or_left}
use Rattle.std.proofs.lemmas.List.{length-append}
use Rattle.std.specs.Prelude.{◌==◌, ◌||◌, not, MatchBool, MatchOption, filter, min, nat_lt}
use Rattle.satl_base.specs.declared.bench.Which.TheVariants as flaws
use Rattle.satl_base.specs.declared.block.Range.{Range}
use Rattle.satl_base.specs.declared.reply.Reply.{Reply}
use Rattle.satl_base.specs.declared.reply.Scsi.TheVariants.{Good, TaskSetFull}
use Rattle.satl_base.specs.declared.request.Request.{Request}
use Rattle.satl_base.specs.Cells.{Pair, first_flaw, nows, whole}
use Rattle.satl_base.specs.Blocks.{over}
use Rattle.satl_cdb.specs.declared.command.Command.{Command}
use Rattle.satl_line.specs.declared.entry.Entry.{Entry}
use Rattle.satl_line.specs.Eligible.{IsEligible}
use Rattle.satl_line.specs.Ending.{Outcome, EndsAs, Surface}
use Rattle.satl_line.specs.Ending.Outcome.{ends_done, ends_flawed, ends_glitched}
use Rattle.satl_line.specs.Ranged.RangedTask.{ranged_read}
use Rattle.satl_direct.specs.Arrival.{placed, reply_to}
use Rattle.satl_direct.specs.Arrival.Arrival.{answered, waits}
use Rattle.satl_direct.specs.Device.{Device}
use Rattle.satl_direct.specs.Ending.{EndsInPieces, IsTaskDone, IsPartlyWritten, outcome_reply, same_pairs, surface_of, task_check}
use Rattle.satl_direct.specs.Senses.{read_error, write_error}
use Rattle.satl_direct.specs.Tasks.{held_blocks, held_by, is_full}
use Rattle.satl_direct.specs.Turn.{IsFirst, OneEnds, Turn}
use Rattle.satl_direct.specs.Turn.Turn.{idle, ends, loses, ends_and_loses}

-- without a task none ends
pub none_ends : (s : Device) (reply : Reply) (new : Device) → s.tasks ≡ [] → OneEnds s reply new → ⊥
none_ends s reply new none one =
    go (s.down || not s.started) (subst (λ tasks. MatchBool (s.down || not s.started) (IsFirst tasks one.task) (IsEligible tasks one.task)) none one.may)
  where
    go : (b : Bool) → MatchBool b (IsFirst [] one.task) (IsEligible [] one.task) → ⊥
    go true h = h
    go false h = h

-- so a turn is idle
pub turn_idle : (s new : Device) (answers : List Reply) → s.tasks ≡ [] → Turn s answers new → (answers ≡ []) × (new ≡ s)
turn_idle s new answers none (idle empty) = (refl, refl)
turn_idle s new answers none (ends reply one) = absurd (none_ends s reply new none one)
turn_idle s new answers none (loses some loss) = absurd (some none)
turn_idle s new answers none (ends_and_loses {mid} reply one quiet loss) = absurd (none_ends s reply mid none one)

-- a full task set
pub full_answers : (s : Device) (r : Request) (command : Command) → is_full s.tasks command ≡ true → placed s r command ≡ answered (reply_to r TaskSetFull [])
full_answers s r command full = rw (full) refl

-- a command that is placed finds fewer than 64 tasks
pub placed_below : (s : Device) (r : Request) (command : Command) (t : Entry) → placed s r command ≡ waits t → length s.tasks ≡ 64 → ⊥
placed_below s r command t is many =
    absurd cc (sym is ∙ full_answers s r command (or_left (length s.tasks == 64) (nat_lt 32768 (held_by s.tasks + held_blocks command)) (eq-eqb (length s.tasks) 64 many)))

-- an end on the medium at a flaw names it
pub names_flaw : (s : Device) (t : Entry) (lba count at : ℕ) (fua : Bool) (outcome : Outcome) (new : Surface)
    → EndsAs s.modes.wce (ranged_read fua (over lba count)) outcome (surface_of s) new → first_flaw flaws.Read s.cells lba count ≡ Some at
    → outcome_reply s t (ranged_read fua (over lba count)) outcome ≡ task_check s t (read_error at)
names_flaw s t lba count at fua (ends_done blocks) new e flaw = absurd cc (sym flaw ∙ e.no_flaw)
names_flaw s t lba count at fua (ends_flawed found) new e flaw =
    let same : found ≡ at = cc (sym e.flaw ∙ flaw) in ap (λ x. task_check s t (read_error x)) same
names_flaw s t lba count at fua ends_glitched new e flaw = absurd cc (sym flaw ∙ e.no_flaw)

-- a good end of a read gives its blocks
pub gives_blocks : (s : Device) (t : Entry) (lba count : ℕ) (fua : Bool) (outcome : Outcome) (new : Surface)
    → EndsAs s.modes.wce (ranged_read fua (over lba count)) outcome (surface_of s) new
    → (outcome_reply s t (ranged_read fua (over lba count)) outcome).status ≡ Good
    → (outcome_reply s t (ranged_read fua (over lba count)) outcome).body ≡ nows s.cells lba count
gives_blocks s t lba count fua (ends_done blocks) new e good = e.read
gives_blocks s t lba count fua (ends_flawed found) new e good = absurd cc good
gives_blocks s t lba count fua ends_glitched new e good = absurd cc good

-- a WRITE SAME that meets a flaw or is done takes no glitch
pub no_glitch : (o : Option ℕ) (after : Device) (writes : List Pair) (s : Device) (t : Entry) (reply : Reply) (new : Device) → after.glitches ≡ s.glitches
    → MatchOption o (IsTaskDone after t reply new) (λ at. (reply ≡ task_check s t (write_error at)) × IsPartlyWritten writes s t new) → new.glitches ≡ s.glitches
no_glitch None after writes s t reply new same h = ap (λ d. d.glitches) h.stays ∙ same
no_glitch (Some at) after writes s t reply new same h = ap (λ d. d.glitches) h.1.stays

-- with a flaw in its first piece there is no CRC error
pub flaw_first : (range : Range) (at : ℕ) (s : Device) (t : Entry) (reply : Reply) (new : Device)
    → EndsInPieces range s t reply new → first_flaw flaws.Write s.cells range.lba (min 64 range.count) ≡ Some at → new.glitches ≡ s.glitches
flaw_first range at s t reply new (inl crc) flaw = absurd cc (sym flaw ∙ crc.0)
flaw_first range at s t reply new (inr other) flaw =
    let writes : List Pair = same_pairs range.lba range.count t.body s.modes.wce in
    no_glitch (first_flaw flaws.Write s.cells range.lba range.count) (record s { cells = whole s.cells writes; active = true }) writes s t reply new refl other

-- a filter that keeps all
pub filter_all : {X : Type 0} (xs : List X) → filter (λ x. not false) xs ≡ xs
filter_all [] = refl
filter_all (x ∷ xs) = ap (λ l. x ∷ l) (filter_all xs)

-- one more task than fewer than 64
pub stays_within : (tasks : List Entry) (t : Entry) → length tasks ≤ 64 → (length tasks ≡ 64 → ⊥) → length (tasks ++ t ∷ []) ≤ 64
stays_within tasks t few below =
    ⊎_elim (λ less. omega (arith, less, length-append tasks (t ∷ []))) (λ more. absurd (below (omega (arith, few, more)))) (cases_lt (length tasks) 64)
