-- A run with a loss of power, and the origins in it.
use Rattle.std.proofs.Common.{◌≡◌, ⊎_elim, inl, inr, refl, sym, ap, subst, arith, ℕ, zero, suc, ◌+◌, max, true, false, List, [], ◌∷◌, ◌++◌}
use Rattle.std.specs.Prelude.{slice_index_or, take}
use Rattle.satl_base.specs.declared.bench.BenchEvent.TheVariants as bench
use Rattle.satl_base.specs.declared.block.Block.{Block}
use Rattle.satl_base.specs.Blocks.{over}
use Rattle.satl_base.specs.Cells.{Pair, cached_over, lasts, pairs_from}
use Rattle.satl_base.specs.Lists.{IsIn}
use Rattle.satl_base.specs.Moves.{stay, write}
use Rattle.satl_cdb.specs.declared.command.Command.TheVariants.{Read, Write}
use Rattle.satl_cdb.specs.declared.command.Form.TheVariants.{Ten}
use Rattle.satl_cdb.specs.Table.{says}
use Rattle.satl_sense.specs.Fixed.{fixed_form}
use Rattle.satl_frame.specs.declared.frames.Frame.{Frame}
use Rattle.satl_frame.specs.declared.frames.Frame.TheVariants as frames
use Rattle.satl_frame.specs.Output.{Answer}
use Rattle.satl_frame.specs.Output.Answer.{closed}
use Rattle.satl_line.specs.Conflict.{accesses_conflict}
use Rattle.satl_line.specs.declared.entry.Entry.{Entry}
use Rattle.satl_line.specs.Ranged.RangedTask.{ranged_read}
use Rattle.satl_direct.specs.Device.{Device}
use Rattle.satl_direct.specs.Quiet.{Quiet}
use Rattle.satl_direct.specs.Run.{RunDeep, losses_in}
use Rattle.satl_direct.specs.Run.RunDeep.{start, next_event}
use Rattle.satl_direct.specs.Run.TurnsOf.{none}
use Rattle.satl_direct.proofs.Quieting.{quiet_none}
use Rattle.satl_scenarios.specs.Devices.{aa, bb, device, full_of, just_powered, never_written, zeros}
use Rattle.satl_scenarios.specs.Replies.{check_condition, good, sense}
use Rattle.satl_scenarios.specs.Requests.{read_10, task, write_10}
use Rattle.satl_scenarios.specs.Scenario.{events_of, groups_of}
use Rattle.satl_scenarios.proofs.Building.{Occurs, arrives, drained, turn_more}
use Rattle.satl_scenarios.proofs.Endings.{done, ended}
use Rattle.satl_scenarios.proofs.Validity.{blank_valid, filled_differ}
use Rattle.satl_origins.specs.Lost.{IsOfOrigins, its_blocks, lost_under_a_write, writes_two}
use Rattle.satl_origins.specs.Origins.{HasOrigin, IsAmong, ComesWith}
use Rattle.satl_origins.proofs.Alike.{pair_at}
use Rattle.satl_origins.proofs.Runs.{at_first}

-- the first events of the scenario, and one more
abbrev next_of : (n : ℕ) {s : Device} {deep d : ℕ} (event : Frame) (now : List Answer) (new : Device) → RunDeep lost_under_a_write.first (take n (events_of lost_under_a_write)) (take n (groups_of lost_under_a_write)) 0 s deep → Occurs event s now new d
    → RunDeep lost_under_a_write.first (take n (events_of lost_under_a_write) ++ event ∷ []) (take n (groups_of lost_under_a_write) ++ now ∷ []) (0 + losses_in event s new) new (max deep d)
next_of n {d = d} event now new run happens = next_event event now d run happens.does

abbrev both : Entry
both = task 1 (Write Ten 0 2 false) (aa ∷ bb ∷ [])

abbrev read_both : Entry
read_both = task 1 (Read Ten 0 2 false) []

-- the device with the WRITE, when none and when one of its blocks is written
abbrev waiting : Device
waiting = record (never_written 2) { tasks = both ∷ [] }

abbrev half_written : Device
half_written = record (device (cached_over zeros aa ∷ lasts zeros ∷ [])) { tasks = both ∷ [] }

-- the device after the loss of power
abbrev after_power : Device
after_power = just_powered (lasts aa ∷ lasts zeros ∷ [])

-- the first block shows
one_shows : Quiet waiting half_written
one_shows = record {
  cells = write (record { lba = 0; block = aa; cached = true }) (record { task = both; under_way = record { up = refl; eligible = inl refl }; started = refl; among = inl refl }) stay;
  active = inl refl;
  stays = refl;
}

-- and then the power is lost
power_lost : Occurs (frames.Bench bench.Power) waiting [] after_power 0
power_lost = record {
  does = (
    [],
    refl,
    record {
      before = half_written;
      after = after_power;
      quiet_before = one_shows;
      step = record {
        none = refl;
        cells = (record { one = inr (inl refl); alone = refl; read_flaw = refl; write_flaw = refl }, (record { one = inl refl; alone = refl; read_flaw = refl; write_flaw = refl }, tt));
        stays = refl;
      };
      quiet_after = quiet_none after_power;
    },
    refl,
  );
}

lost_run : RunDeep lost_under_a_write.first (events_of lost_under_a_write) (groups_of lost_under_a_write) 0 lost_under_a_write.last lost_under_a_write.depth
unfolding says accesses_conflict fixed_form
lost_run =
    next_of 4 frames.End (good 1 (aa ∷ zeros ∷ []) ∷ closed ∷ []) lost_under_a_write.last
    (next_of 3 (read_10 1 0 2) [] (record lost_under_a_write.last { tasks = read_both ∷ [] })
    (next_of 2 (write_10 1 0 (bb ∷ [])) (check_condition 1 (sense 0x6 0x29 0x01) ∷ []) lost_under_a_write.last
    (next_of 1 (frames.Bench bench.Power) [] after_power
    (next_of 0 (frames.Request writes_two) [] waiting
    (start (quiet_none lost_under_a_write.first))
    (arrives [] waiting (refl, refl)))
    power_lost)
    (arrives _ lost_under_a_write.last (refl, refl)))
    (arrives [] (record lost_under_a_write.last { tasks = read_both ∷ [] }) (refl, refl)))
    (drained (turn_more lost_under_a_write.last none (ended read_both (inl refl) (done (ranged_read false (over 0 2)) _ read_both refl))) refl)

-- ---- the origins

-- the blocks of a sector
abbrev blocks_at : ℕ → List Block
blocks_at x = slice_index_or its_blocks x []

-- what was there at first is zeros
there_only : (x : ℕ) (block : Block) → ComesWith lost_under_a_write.first x block → IsIn block (blocks_at x)
there_only x block (inr waits) = absurd waits.1
there_only zero block (inl there) = ⊎_elim (λ now. inl now) (λ may. ⊎_elim (λ one. inl one) (λ nothing. absurd nothing) may) there
there_only (suc zero) block (inl there) = ⊎_elim (λ now. inl now) (λ may. ⊎_elim (λ one. inl one) (λ nothing. absurd nothing) may) there
there_only (suc (suc x)) block (inl there) = absurd there

-- the WRITE brings a block to each sector
brought_only : (x : ℕ) (block : Block) → IsAmong (pairs_from 0 (aa ∷ bb ∷ []) true) x block → IsIn block (blocks_at x)
brought_only x block (cached, inl first) = subst (λ y. IsIn block (blocks_at y)) (sym (ap (λ (p : Pair). p.lba) first)) (inr (inl (ap (λ (p : Pair). p.block) first)))
brought_only x block (cached, inr (inl second)) = subst (λ y. IsIn block (blocks_at y)) (sym (ap (λ (p : Pair). p.lba) second)) (inr (inl (ap (λ (p : Pair). p.block) second)))
brought_only x block (cached, inr (inr nothing)) = absurd nothing

origins_only : (x : ℕ) (block : Block) → HasOrigin x block lost_run → IsIn block (blocks_at x)
unfolding says lost_run
origins_only x block (inl (inl (inl (inl (inl there))))) = there_only x block there
origins_only x block (inl (inl (inl (inl (inr brought))))) = brought_only x block brought
origins_only x block (inl (inl (inl (inr nothing)))) = absurd nothing
origins_only x block (inl (inl (inr nothing))) = absurd nothing
origins_only x block (inl (inr brought)) = absurd brought.1
origins_only x block (inr nothing) = absurd nothing

origins : (x : ℕ) (block : Block) → IsIn block (blocks_at x) → HasOrigin x block lost_run
unfolding says lost_run
origins zero block (inl blank) = at_first lost_run 0 block (inl (inl blank))
origins zero block (inr (inl first)) = inl (inl (inl (inl (inr (true, inl (ap (λ v. pair_at 0 v true) first))))))
origins zero block (inr (inr nothing)) = absurd nothing
origins (suc zero) block (inl blank) = at_first lost_run 1 block (inl (inl blank))
origins (suc zero) block (inr (inl second)) = inl (inl (inl (inl (inr (true, inr (inl (ap (λ v. pair_at 1 v true) second)))))))
origins (suc zero) block (inr (inr nothing)) = absurd nothing
origins (suc (suc x)) block nothing = absurd nothing

pub of_origins : IsOfOrigins lost_under_a_write its_blocks
unfolding says lost_run
of_origins = record {
  run = lost_run;
  valid = blank_valid 2 (omega arith) (omega arith);
  free = refl;
  plain = (refl, (refl, (refl, (refl, (refl, tt)))));
  these = origins;
  no_others = origins_only;
}

-- neither sector may have the block of the other
pub none_of_the_other : (IsIn bb (blocks_at 0) → ⊥) × (IsIn aa (blocks_at 1) → ⊥)
none_of_the_other = (neither 0xBB 0x00 0xAA (λ e. omega (arith, e)) (λ e. omega (arith, e)), neither 0xAA 0x00 0xBB (λ e. omega (arith, e)) (λ e. omega (arith, e)))
  where
    neither : (a b c : ℕ) → (a ≡ b → ⊥) → (a ≡ c → ⊥) → IsIn (full_of a) (full_of b ∷ full_of c ∷ []) → ⊥
    neither a b c p q i = ⊎_elim (λ e. p (filled_differ a b e)) (λ j. ⊎_elim (λ e. q (filled_differ a c e)) (λ nothing. nothing) j) i
