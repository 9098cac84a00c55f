-- The end of a task that secures a sector.
use Rattle.std.proofs.Common.{◌≡◌, refl, sym, ap, ◌∙◌, subst, ℕ, Bool, true, false}
use Rattle.std.specs.Prelude.{◌&&◌, not}
use Rattle.std.specs.List.{list_any}
use Rattle.satl_base.specs.declared.reply.Reply.{Reply}
use Rattle.satl_base.specs.declared.reply.Scsi.TheVariants.{Good, CheckCondition}
use Rattle.satl_base.specs.Cells.{pairs_from}
use Rattle.satl_base.specs.Blocks.{over}
use Rattle.satl_cdb.specs.declared.command.Command.{Command}
use Rattle.satl_cdb.specs.declared.command.Command.TheVariants as commands
use Rattle.satl_line.specs.declared.entry.Entry.{Entry}
use Rattle.satl_line.specs.Ranged.RangedTask.{ranged_write}
use Rattle.satl_line.specs.Ending.{EndsAs, Outcome}
use Rattle.satl_line.specs.Ending.Outcome.{ends_done}
use Rattle.satl_direct.specs.Device.{Device}
use Rattle.satl_direct.specs.Tasks.{asks}
use Rattle.satl_direct.specs.Ending.{Ends, EndsBy, EndsOnSurface, device_settled_if, outcome_reply, selected, surface_of}
use Rattle.satl_direct.specs.Quiet.{written_by}
use Rattle.satl_laws.specs.Durable.{secures}
use Rattle.satl_laws.proofs.Cases.{by_bool}
use Rattle.satl_laws.proofs.Singles.{IsSingle, past_cache, settled_single, written_single}

module _ (x : ℕ) (s mid : Device) (t : Entry) (reply : Reply) (good : reply.status ≡ Good) where
  -- a CHECK CONDITION is no GOOD
  not_good : {A : Type 0} → reply.status ≡ CheckCondition → A
  not_good h = absurd (let clash : Good ≡ CheckCondition = sym good ∙ h in cc)

  -- what is written back where a flag is set is single
  flushed_single : (b : Bool) → b ≡ true → mid.cells ≡ (device_settled_if b s).cells → IsSingle x mid.cells
  flushed_single true h is = settled_single x s.cells mid.cells is
  flushed_single false h is = absurd cc

  -- a WRITE past the cache that ends with GOOD
  past_single : (form_fua : Bool) (lba count : ℕ) → list_any (past_cache x) (pairs_from lba t.body (s.modes.wce && not form_fua)) ≡ true
      → EndsOnSurface (ranged_write form_fua (over lba count) t.body) s t reply mid → IsSingle x mid.cells
  past_single fua lba count h e = by_outcome e.outcome e.ends (ap (λ r. r.status) e.answer)
    where
      by_outcome : (o : Outcome) → EndsAs s.modes.wce (ranged_write fua (over lba count) t.body) o (surface_of s) (surface_of mid)
          → reply.status ≡ (outcome_reply s t (ranged_write fua (over lba count) t.body) o).status → IsSingle x mid.cells
      by_outcome (ends_done blocks) ends status = subst (IsSingle x) (sym ends.written) (written_single x lba t.body s.cells (s.modes.wce && not fua) h)
      by_outcome _ ends status = not_good status

  -- by the command of the task
  secured_by : (c : Command) → t.command ≡ c → secures c s t x ≡ true → EndsBy c s t reply mid → IsSingle x mid.cells
  secured_by (commands.ModeSelect ten size) is h e = flushed_single (s.modes.wce && not (selected s t).wce) h (ap (λ d. d.cells) e.stays)
  secured_by (commands.StartStop false no_flush) is h e = flushed_single (not no_flush) h (ap (λ d. d.cells) e.stays)
  secured_by (commands.Write form lba count fua) is h e = past_single fua lba count (sym (ap (λ c. list_any (past_cache x) (written_by c s t)) is) ∙ h) e
  secured_by (commands.Flush form lba count) is h e = settled_single x s.cells mid.cells (ap (λ d. d.cells) e.stays)
  secured_by _ is h e = absurd cc

  -- a sector that a task secures is single once it has ended with GOOD
  pub secured : secures t.command s t x ≡ true → Ends s t reply mid → IsSingle x mid.cells
  secured h =
      by_bool s.down (λ e. not_good (ap (λ r. r.status) e.answer))
      (by_bool (not s.started && (asks t.command).needs_started) (λ e. not_good (ap (λ r. r.status) e.answer)) (λ e. secured_by t.command refl h e))
