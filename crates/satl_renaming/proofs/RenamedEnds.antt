-- A task with a tag in place of another ends as before.
use Rattle.std.proofs.Common.{◌≡◌, ⊎_elim, inl, inr, refl, sym, ap, ◌∙◌, subst, Bool, true, false, List, [], ◌∷◌, Option, Some, None}
use Rattle.std.specs.Prelude.{MatchBool, MatchOption, not, ◌&&◌}
use Rattle.satl_base.specs.declared.block.Range.{Range}
use Rattle.satl_base.specs.declared.bench.Which.TheVariants as flaws
use Rattle.satl_base.specs.declared.reply.Reply.{Reply}
use Rattle.satl_base.specs.Blocks.{over}
use Rattle.satl_base.specs.Cells.{Pair, first_flaw}
use Rattle.satl_cdb.specs.declared.command.Command.{Command}
use Rattle.satl_cdb.specs.declared.command.Command.TheVariants as commands
use Rattle.satl_sense.specs.declared.sense.Sense.{Sense}
use Rattle.satl_pass.specs.declared.pass.Pass.{Pass}
use Rattle.satl_line.specs.declared.entry.Entry.{Entry}
use Rattle.satl_line.specs.Ending.{Outcome}
use Rattle.satl_line.specs.Ending.Outcome.{ends_done, ends_flawed, ends_glitched}
use Rattle.satl_line.specs.Ranged.{RangedTask}
use Rattle.satl_line.specs.Ranged.RangedTask.{ranged_read, ranged_write, ranged_trim}
use Rattle.satl_direct.specs.Device.{Device, without}
use Rattle.satl_direct.specs.Tasks.{asks, pass_of}
use Rattle.satl_direct.specs.Ending.{Ends, EndsBy, EndsCompared, EndsInPieces, EndsOnSurface, EndsPassed, EndsVerified, EndsWithCrcError, IsChecked, IsCompared, IsPartlyWritten, IsTaskDone, after_select, after_start_stop, device_settled_if, outcome_reply, selected, settled}
use Rattle.satl_direct.specs.Attentions.{with_modes_changed}
use Rattle.satl_renaming.proofs.Names.{AreApart, Names}
use Rattle.satl_renaming.proofs.Renaming.{device_by, entries_by, entry_by, reply_by, without_alike}

-- either of two cases goes over
pub both_cases : {A B A' B' : Type 0} (b : Bool) → (A → A') → (B → B') → MatchBool b A B → MatchBool b A' B'
both_cases true f g h = f h
both_cases false f g h = g h

both_options : {X A A' : Type 0} {B B' : X → Type 0} (o : Option X) → (A → A') → ((x : X) → B x → B' x) → MatchOption o A B → MatchOption o A' B'
both_options None f g h = f h
both_options (Some x) f g h = g x h

-- where all is written back, or not
settled_alike : (names : Names) (b : Bool) (s : Device) → device_by names (device_settled_if b s) ≡ device_settled_if b (device_by names s)
settled_alike names true s = refl
settled_alike names false s = refl

select_alike : (names : Names) (s : Device) (t : Entry) → device_by names (after_select s t) ≡ after_select (device_by names s) (entry_by names t)
select_alike names s t = ap (λ (d : Device). record d { modes = selected s t; attentions = with_modes_changed s.modes (selected s t) t.nexus s.attentions }) (settled_alike names (s.modes.wce && not (selected s t).wce) s)

start_alike : (names : Names) (starts no_flush : Bool) (s : Device) → device_by names (after_start_stop starts no_flush s) ≡ after_start_stop starts no_flush (device_by names s)
start_alike names false no_flush s = ap (λ (d : Device). record d { active = false; started = false }) (settled_alike names (not no_flush) s)
start_alike names true no_flush s = refl

module _ (names : Names) (apart : AreApart names) (t : Entry) (reply : Reply) (new : Device) where
  -- the device without the task, otherwise as this one
  leaves : (after : Device) → new ≡ record after { tasks = without t after.tasks }
      → device_by names new ≡ record (device_by names after) { tasks = without (entry_by names t) (entries_by names after.tasks) }
  leaves after is = ap (device_by names) is ∙ ap (λ ts. record after { tasks = ts }) (sym (without_alike names apart t after.tasks))

  done_alike : (after : Device) → IsTaskDone after t reply new → IsTaskDone (device_by names after) (entry_by names t) (reply_by names reply) (device_by names new)
  done_alike after h = record { answer = ap (reply_by names) h.answer; stays = leaves after h.stays }

  module _ (s : Device) where
    pub checked_alike : {sense : Sense} → IsChecked sense s t reply new → IsChecked sense (device_by names s) (entry_by names t) (reply_by names reply) (device_by names new)
    checked_alike h = record { answer = ap (reply_by names) h.answer; stays = leaves s h.stays }

    outcome_alike : (ranged : RangedTask) (o : Outcome) → reply ≡ outcome_reply s t ranged o → reply_by names reply ≡ outcome_reply (device_by names s) (entry_by names t) ranged o
    outcome_alike ranged (ends_done blocks) is = ap (reply_by names) is
    outcome_alike ranged (ends_flawed lba) is = ap (reply_by names) is
    outcome_alike ranged ends_glitched is = ap (reply_by names) is

    surface_alike : (ranged : RangedTask) → EndsOnSurface ranged s t reply new → EndsOnSurface ranged (device_by names s) (entry_by names t) (reply_by names reply) (device_by names new)
    surface_alike ranged h = record { outcome = h.outcome; ends = h.ends; answer = outcome_alike ranged h.outcome h.answer; stays = leaves _ h.stays }

    crc_alike : {writes : List Pair} → EndsWithCrcError writes s t reply new → EndsWithCrcError writes (device_by names s) (entry_by names t) (reply_by names reply) (device_by names new)
    crc_alike h = record { answer = ap (reply_by names) h.answer; part = h.part; one_glitch = h.one_glitch; stays = leaves _ h.stays }

    part_alike : {writes : List Pair} → IsPartlyWritten writes s t new → IsPartlyWritten writes (device_by names s) (entry_by names t) (device_by names new)
    part_alike h = record { part = h.part; stays = leaves _ h.stays }

    pieces_alike : (range : Range) → EndsInPieces range s t reply new → EndsInPieces range (device_by names s) (entry_by names t) (reply_by names reply) (device_by names new)
    pieces_alike range h =
        ⊎_elim
        (λ crc. inl (crc.0, crc_alike crc.1))
        (λ ends. inr (both_options (first_flaw flaws.Write s.cells range.lba range.count) (λ d. done_alike _ d) (λ at f. (ap (reply_by names) f.0, part_alike f.1)) ends))
        h

    verified_alike : (range : Range) → EndsVerified range s t reply new → EndsVerified range (device_by names s) (entry_by names t) (reply_by names reply) (device_by names new)
    verified_alike range h = both_options (first_flaw flaws.Read s.cells range.lba range.count) (λ d. done_alike _ d) (λ at f. checked_alike f) h

    compared_alike : (range : Range) → IsCompared range s t reply new → IsCompared range (device_by names s) (entry_by names t) (reply_by names reply) (device_by names new)
    compared_alike range h = ⊎_elim (λ same. inl (same.0, done_alike _ same.1)) (λ other. inr (other.0, checked_alike other.1)) h

    comparing_alike : (range : Range) → EndsCompared range s t reply new → EndsCompared range (device_by names s) (entry_by names t) (reply_by names reply) (device_by names new)
    comparing_alike range h =
        both_options (first_flaw flaws.Read s.cells range.lba range.count) (λ e. ⊎_elim (λ crc. inl (crc_alike crc)) (λ c. inr (compared_alike range c)) e) (λ at f. checked_alike f) h

    passed_alike : (pass : Pass) → EndsPassed pass s t reply new → EndsPassed pass (device_by names s) (entry_by names t) (reply_by names reply) (device_by names new)
    passed_alike pass h = record {
      given = h.given;
      data_out = h.data_out;
      size = h.size;
      ended = h.ended;
      taken = h.taken;
      after = h.after;
      does = h.does;
      answer = ap (reply_by names) h.answer;
      stays = leaves _ h.stays;
    }

    ends_by : (c : Command) → EndsBy c s t reply new → EndsBy c (device_by names s) (entry_by names t) (reply_by names reply) (device_by names new)
    ends_by (commands.ModeSelect ten size) h = subst (λ a. IsTaskDone a (entry_by names t) (reply_by names reply) (device_by names new)) (select_alike names s t) (done_alike (after_select s t) h)
    ends_by (commands.StartStop start no_flush) h = subst (λ a. IsTaskDone a (entry_by names t) (reply_by names reply) (device_by names new)) (start_alike names start no_flush s) (done_alike (after_start_stop start no_flush s) h)
    ends_by (commands.Read form lba count fua) h = surface_alike (ranged_read fua (over lba count)) h
    ends_by (commands.Write form lba count fua) h = surface_alike (ranged_write fua (over lba count) t.body) h
    ends_by (commands.Verify form lba count false) h = verified_alike (over lba count) h
    ends_by (commands.Verify form lba count true) h = comparing_alike (over lba count) h
    ends_by (commands.Flush form lba count) h = done_alike (settled s) h
    ends_by (commands.WriteSame form lba count false) h = pieces_alike (over lba count) h
    ends_by (commands.WriteSame form lba count true) h = surface_alike (ranged_trim (over lba count ∷ [])) h
    ends_by (commands.Unmap size) h = surface_alike (ranged_trim t.ranges.items) h
    ends_by (commands.Pass cdb) h = passed_alike (pass_of cdb) h
    ends_by _ h = h

    -- the end of a task
    pub ends_alike : Ends s t reply new → Ends (device_by names s) (entry_by names t) (reply_by names reply) (device_by names new)
    ends_alike h =
        both_cases s.down (λ k. checked_alike k)
        (λ e. both_cases (not s.started && (asks t.command).needs_started) (λ k. checked_alike k) (λ k. ends_by t.command k) e) h
