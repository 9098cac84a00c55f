-- A task behind a WRITE that overlaps it does not end first.
use Rattle.std.proofs.Common.{◌≡◌, ⊎_elim, refl, sym, ap, ◌∙◌, subst, ℕ, Bool, true, false, List, [], ◌∷◌}
use Rattle.std.specs.Prelude.{◌||◌}
use Rattle.satl_base.specs.declared.request.Request.{Request}
use Rattle.satl_base.specs.declared.reply.Reply.{Reply}
use Rattle.satl_base.specs.Cells.{Cell}
use Rattle.satl_base.specs.Lists.{IsIn}
use Rattle.satl_frame.specs.declared.frames.Frame.TheVariants as frames
use Rattle.satl_frame.specs.Output.{Answer}
use Rattle.satl_frame.specs.Output.Answer.{replied}
use Rattle.satl_line.specs.declared.entry.Entry.{Entry}
use Rattle.satl_line.specs.Conflict.{accesses_conflict, conflicts}
use Rattle.satl_direct.specs.Device.{Device}
use Rattle.satl_laws.specs.ArrivalOrder.{IsGoodReply}
use Rattle.satl_direct.specs.Run.{Run}
use Rattle.satl_direct.specs.Tasks.{is_ordered}
use Rattle.satl_direct.specs.Turn.{OneEnds}
use Rattle.satl_laws.specs.Scenes.{DifferInNexusOrTag, at_work, reads_sector_0, writes_both_sectors, writes_sector_0}
use Rattle.satl_laws.proofs.Ends.{Leaves, ends_leaves}
use Rattle.satl_laws.proofs.GoodTurns.{GoodTurn, IsDoneBy, done_by, good_turn, may_still, same_name}

-- a READ of the sector conflicts with it, and so does a WRITE of both sectors
ordered_or_met : (p q : Bool) → (p || q || true) ≡ true
ordered_or_met false false = refl
ordered_or_met _ _ = refl

read_conflicts : (w r : Request) → conflicts (writes_sector_0 w) (reads_sector_0 r) ≡ true
unfolding accesses_conflict
read_conflicts w r = ordered_or_met (is_ordered w.attr) (is_ordered r.attr)

write_conflicts : (w v : Request) → conflicts (writes_sector_0 w) (writes_both_sectors v) ≡ true
unfolding accesses_conflict
write_conflicts w v = ordered_or_met (is_ordered w.attr) (is_ordered v.attr)

module _ (write other : Request) (a b : Cell) (s last : Device) (losses : ℕ) (answers : List Answer) (reply : Reply) where
  -- so the second does not end in the first turn
  none_passes : (second : Entry) → conflicts (writes_sector_0 write) second ≡ true → DifferInNexusOrTag write other →
      Run (at_work a b (writes_sector_0 write ∷ second ∷ []) s) (frames.Turn 1 ∷ []) losses answers last → IsGoodReply other reply answers → ⊥
  none_passes second conflict apart run good =
      ⊎_elim
      (λ same. let clash : true ≡ false =
      sym (same_name write.nexus other.nexus (write.tag).0 (other.tag).0 (ap (λ e. e.nexus) same ∙ sym l.nexus ∙ d.nexus) (ap (λ e. (e.tag).0) same ∙ sym (ap (λ g. g.0) l.tag) ∙ d.tag)) ∙ apart in
      absurd cc)
      (λ later. ⊎_elim
      (λ same. let clash : true ≡ false = sym conflict ∙ subst (λ t. conflicts (writes_sector_0 write) t ≡ false) (sym same) later.0 in absurd cc)
      (λ nothing. nothing.1) later.1)
      (may_still a b (writes_sector_0 write ∷ second ∷ []) s turn.begin turn.before one.task turn.quiet_first turn.quiet_before one.may)
    where
      d : IsDoneBy other reply
      d = done_by other reply answers good

      turn : GoodTurn (at_work a b (writes_sector_0 write ∷ second ∷ []) s) last reply
      turn = good_turn reply run.run (subst (IsIn (replied reply)) run.answer good.among) d.good

      one : OneEnds turn.before reply (turn.good).mid
      one = (turn.good).one

      l : Leaves turn.before one.task reply (turn.good).mid
      l = ends_leaves turn.before (turn.good).mid one.task reply one.ends

  pub no_read_passes : DifferInNexusOrTag write other →
      Run (at_work a b (writes_sector_0 write ∷ reads_sector_0 other ∷ []) s) (frames.Turn 1 ∷ []) losses answers last → IsGoodReply other reply answers → ⊥
  no_read_passes = none_passes (reads_sector_0 other) (read_conflicts write other)

  pub no_write_passes : DifferInNexusOrTag write other →
      Run (at_work a b (writes_sector_0 write ∷ writes_both_sectors other ∷ []) s) (frames.Turn 1 ∷ []) losses answers last → IsGoodReply other reply answers → ⊥
  no_write_passes = none_passes (writes_both_sectors other) (write_conflicts write other)
