-- Quiet moves one after the other.
use Rattle.std.proofs.Common.{◌≡◌, refl, sym, ◌∙◌, ap, subst, inl, inr, ⊎_elim, ◌+◌, Bool, true, false, List, [], length}
use Rattle.std.specs.Prelude.{◌||◌, not, nat_lt, if◌then◌else◌, take}
use Rattle.std.specs.List.{list_any}
use Rattle.satl_base.specs.declared.block.Block.{Block}
use Rattle.satl_base.specs.declared.block.Range.{Range}
use Rattle.satl_base.specs.Cells.{Cell, Pair, pairs_from}
use Rattle.satl_base.specs.Identify.{has_trim, trim_blocks}
use Rattle.satl_base.specs.Lists.{IsIn}
use Rattle.satl_base.proofs.MovesLemmas.{moves_on, moves_weaker, moves-length}
use Rattle.satl_cdb.specs.declared.command.Command.{Command}
use Rattle.satl_cdb.specs.declared.command.Command.TheVariants as cdbs
use Rattle.satl_regs.specs.declared.values.AtaCommand.{AtaCommand}
use Rattle.satl_regs.specs.declared.values.AtaCommand.TheVariants as commands
use Rattle.satl_regs.specs.Commands.{command_in}
use Rattle.satl_regs.specs.Effects.{Medium, pairs_of, payload_ranges, zeros_at}
use Rattle.satl_regs.specs.Trim.{addresses}
use Rattle.satl_unit.specs.declared.attention.Attention.{Attention}
use Rattle.satl_line.specs.declared.entry.Entry.{Entry}
use Rattle.satl_direct.specs.Device.{Device}
use Rattle.satl_direct.specs.Quiet.{IsUnderWay, MayShow, MayWake, Quiet, written_by, writes}
use Rattle.satl_direct.specs.Tasks.{pass_of}

-- a command writes the same to as many sectors
pairs_same : (c : AtaCommand) (m : Medium) (cells : List Cell) (active : Bool) (given : List Block) → length cells ≡ length m.cells → pairs_of c (record m { cells = cells; active = active }) given ≡ pairs_of c m given
pairs_same (commands.Write how lba sectors) m cells active given same = ap (λ n. if nat_lt n (lba + sectors) then [] else pairs_from lba (take sectors given) m.cache) same
pairs_same (commands.Trim blocks) m cells active given same =
    ap (λ n. if not (has_trim m.identify) || nat_lt (trim_blocks m.identify) blocks || list_any (λ (range : Range). nat_lt n (range.lba + range.count)) (payload_ranges blocks given) then [] else zeros_at m.cache (addresses (payload_ranges blocks given))) same
pairs_same _ m cells active given same = refl

written_same : (c : Command) (s : Device) (cells : List Cell) (active : Bool) (lists : List (List Attention)) (t : Entry) → length cells ≡ length s.cells → written_by c (record s { cells = cells; active = active; attentions = lists }) t ≡ written_by c s t
written_same (cdbs.WriteSame a b d false) s cells active lists t same = refl
written_same (cdbs.WriteSame a b d true) s cells active lists t same = refl
written_same (cdbs.Pass cdb) s cells active lists t same = pairs_same (command_in (pass_of cdb).regs) (Rattle.satl_direct.specs.Ending.device_medium s) cells active t.body same
written_same _ s cells active lists t same = refl

-- quiet moves after quiet moves are quiet moves
pub quiet_on : (a b c : Device) → Quiet a b → Quiet b c → Quiet a c
quiet_on a b c p q = record {
  cells = moves_on p.cells (moves_weaker (λ pair m. back pair m) q.cells);
  active = ⊎_elim
      (λ (same : c.active ≡ b.active). ⊎_elim (λ (was : b.active ≡ a.active). inl (same ∙ was)) (λ (woke : (b.active ≡ true) × MayWake a). inr (same ∙ woke.0, woke.1)) p.active)
      (λ (woke : (c.active ≡ true) × MayWake b). inr (woke.0, wakes woke.1))
      q.active;
  stays = q.stays ∙ ap (λ (d : Device). record d { cells = c.cells; active = c.active }) p.stays;
}
  where
    under_way : (t : Entry) → IsUnderWay b t → IsUnderWay a t
    under_way t u = let v = subst (λ (d : Device). IsUnderWay d t) p.stays u in record { up = v.up; eligible = v.eligible }

    long : length b.cells ≡ length a.cells
    long = moves-length p.cells

    same_writes : (t : Entry) → writes b t ≡ writes a t
    same_writes t = ap (λ (d : Device). writes d t) p.stays ∙ written_same t.command a b.cells b.active a.attentions t long

    started : b.started ≡ a.started
    started = ap (λ (d : Device). d.started) p.stays

    back : (pair : Pair) → MayShow b pair → MayShow a pair
    back pair m = record {
      task = m.task;
      under_way = under_way m.task m.under_way;
      started = ap (λ x. x || Rattle.satl_direct.specs.Quiet.is_pass m.task.command) (sym started) ∙ m.started;
      among = subst (IsIn pair) (same_writes m.task) m.among;
    }

    wakes : MayWake b → MayWake a
    wakes w = record { task = w.task; under_way = under_way w.task w.under_way; wakes_it = w.wakes_it }

-- which conditions are to be told has no part in it
pub quiet_posted : (lists : List (List Attention)) (a b : Device) → Quiet a b → Quiet (record a { attentions = lists }) (record b { attentions = lists })
quiet_posted lists a b q = record {
  cells = moves_weaker (λ pair m. shows pair m) q.cells;
  active = ⊎_elim inl (λ (woke : (b.active ≡ true) × MayWake a). inr (woke.0, record { task = woke.1.task; under_way = record { up = woke.1.under_way.up; eligible = woke.1.under_way.eligible }; wakes_it = woke.1.wakes_it })) q.active;
  stays = ap (λ (d : Device). record d { attentions = lists }) q.stays;
}
  where
    shows : (pair : Pair) → MayShow a pair → MayShow (record a { attentions = lists }) pair
    shows pair m = record {
      task = m.task;
      under_way = record { up = m.under_way.up; eligible = m.under_way.eligible };
      started = m.started;
      among = subst (IsIn pair) (sym (written_same m.task.command a a.cells a.active lists m.task refl)) m.among;
    }
