-- No old block after a flush and a loss of power.
use Rattle.std.proofs.Common.{◌≡◌, ◌≢◌, ⊎_elim, refl, sym, ap, ◌∙◌, subst, ℕ, true, List, [], ◌∷◌, ◌++◌, Some, map}
use Rattle.std.proofs.lemmas.List.{append-nil}
use Rattle.satl_base.specs.declared.bench.BenchEvent.TheVariants as bench
use Rattle.satl_base.specs.declared.block.Block.{Block}
use Rattle.satl_base.specs.declared.request.Request.{Request}
use Rattle.satl_base.specs.declared.reply.Reply.{Reply}
use Rattle.satl_base.specs.declared.reply.Scsi.TheVariants.{Good}
use Rattle.satl_base.specs.Cells.{Cell, cached_over}
use Rattle.satl_base.specs.Lists.{IsIn}
use Rattle.satl_frame.specs.declared.frames.Frame.TheVariants as frames
use Rattle.satl_frame.specs.Output.{Answer}
use Rattle.satl_frame.specs.Output.Answer.{replied}
use Rattle.satl_direct.specs.Bench.{Happens}
use Rattle.satl_direct.specs.Device.{Device}
use Rattle.satl_laws.specs.ArrivalOrder.{IsGoodReply}
use Rattle.satl_laws.specs.Durable.{secures}
use Rattle.satl_laws.specs.Untouched.{now_at}
use Rattle.satl_direct.specs.Quiet.{Around}
use Rattle.satl_direct.specs.Run.{Run, joined}
use Rattle.satl_laws.specs.Scenes.{at_work, flushes_all_sectors}
use Rattle.satl_laws.proofs.PowerLoss.{power_keeps}
use Rattle.satl_laws.proofs.Securing.{secured}
use Rattle.satl_laws.proofs.Singles.{IsSingle}
use Rattle.satl_laws.proofs.Kept.{at_now}
use Rattle.satl_laws.proofs.Runs.{split}
use Rattle.satl_laws.proofs.Sparing.{Keeps, keeps_on, one_keeps, quiet_keeps}
use Rattle.satl_laws.proofs.GoodTurns.{GoodTurn, done_by, good_turn, may_still}

-- one turn in which a flush of a device at work ended, and then a loss of power
flush_then_power : (flush : Request) (cell b : Cell) (s mid last : Device) (said : List Reply) (reply : Reply) → GoodTurn (at_work cell b (flushes_all_sectors flush ∷ []) s) mid reply → reply.status ≡ Good
    → Around (Happens bench.Power) mid said last → now_at last.cells 0 ≡ Some cell.now
flush_then_power flush cell b s mid last said reply turn good power =
    at_now 0 (turn.good).mid.cells last.cells (power_keeps 0 (turn.good).mid mid last said single after power).cells
    ∙ at_now 0 turn.before.cells (turn.good).mid.cells (one_keeps 0 turn.before (turn.good).mid reply (turn.good).one begun.none_writes).cells
    ∙ at_now 0 (at_work cell b (flushes_all_sectors flush ∷ []) s).cells turn.before.cells begun.cells
  where
    first : Device
    first = at_work cell b (flushes_all_sectors flush ∷ []) s

    begun : Keeps 0 first turn.before
    begun =
        keeps_on 0 first turn.begin turn.before (quiet_keeps 0 first turn.begin turn.quiet_first (record { each = (record { spares = refl; own = tt }, tt) }))
        (quiet_keeps 0 turn.begin turn.before turn.quiet_before)

    task_is : flushes_all_sectors flush ≡ ((turn.good).one).task
    task_is = ⊎_elim (λ same. same) (λ later. absurd later.1) (may_still cell b (flushes_all_sectors flush ∷ []) s turn.begin turn.before ((turn.good).one).task turn.quiet_first turn.quiet_before ((turn.good).one).may)

    single : IsSingle 0 ((turn.good).mid).cells
    single = secured 0 turn.before (turn.good).mid ((turn.good).one).task reply good (subst (λ t. secures t.command turn.before t 0 ≡ true) task_is refl) ((turn.good).one).ends

    after : Keeps 0 (turn.good).mid mid
    after =
        keeps_on 0 (turn.good).mid turn.after mid
        ((turn.good).rest 0 (one_keeps 0 turn.before (turn.good).mid reply (turn.good).one begun.none_writes).none_writes)
        (quiet_keeps 0 turn.after mid turn.quiet_after)

module _ (flush : Request) (old new : Block) (b : Cell) (s last : Device) (losses : ℕ) (answers : List Answer) (reply : Reply) where
  -- equal blocks that are read
  of_some : (v w : Block) → Some v ≡ Some w → v ≡ w
  of_some v w h = cc

  -- what is read then is not the old block
  pub no_old_block : old ≢ new →
      Run (at_work (cached_over old new) b (flushes_all_sectors flush ∷ []) s) (frames.Turn 1 ∷ frames.Bench bench.Power ∷ []) losses answers last →
      IsGoodReply flush reply answers → now_at last.cells 0 ≡ Some old → ⊥
  no_old_block apart run good left =
      let d = done_by flush reply answers good in
      let parts = split run.run (frames.Turn 1 ∷ []) (frames.Bench bench.Power) refl in
      let power = parts.does in
      let silent : parts.now ≡ [] = power.1 ∙ ap (map replied) ((power.2).step).none in
      let said : answers ≡ joined parts.earlier = run.answer ∙ parts.answers ∙ ap (λ l. joined parts.earlier ++ l) silent ∙ append-nil (joined parts.earlier) in
      let turn = good_turn reply parts.run (subst (IsIn (replied reply)) said good.among) d.good in
      apart (of_some old new (sym left ∙ flush_then_power flush (cached_over old new) b s parts.mid last power.0 reply turn d.good power.2))
