-- Which tasks may end before earlier ones, and that others can.
use Rattle.std.proofs.Common.{◌≡◌, inl, inr, refl, sym, subst, ap, ◌∙◌, Bool, true, false, List, [], ◌∷◌, ◌++◌, ℕ, Option, Some, None}
use Rattle.std.specs.Prelude.{not, ◌&&◌, ◌||◌}
use Rattle.std.specs.List.{AllByRecursion}
use Rattle.satl_base.specs.declared.reply.Reply.{Reply}
use Rattle.satl_base.specs.Cells.{whole}
use Rattle.satl_base.specs.Blocks.{over}
use Rattle.satl_base.proofs.CellsLemmas.{part_none}
use Rattle.satl_base.proofs.Booleans.{second_case}
use Rattle.satl_cdb.specs.declared.command.Command.{Command}
use Rattle.satl_cdb.specs.declared.command.Command.TheVariants as commands
use Rattle.satl_line.specs.declared.entry.Entry.{Entry}
use Rattle.satl_line.specs.Conflict.{conflicts}
use Rattle.satl_line.specs.Eligible.{IsEligible}
use Rattle.satl_line.specs.Ending.{blocks_read, flaw_met}
use Rattle.satl_line.specs.Ending.Outcome.{ends_done, ends_flawed}
use Rattle.satl_line.specs.Ranged.{RangedTask, written_pairs}
use Rattle.satl_line.specs.Ranged.RangedTask.{ranged_read, ranged_write, ranged_trim}
use Rattle.satl_direct.specs.Device.{Device, without}
use Rattle.satl_direct.specs.Ending.{Ends, EndsBy, EndsOnSurface, IsChecked, outcome_reply}
use Rattle.satl_direct.specs.Senses.{link_lost, not_ready}
use Rattle.satl_direct.specs.Tasks.{asks}
use Rattle.satl_direct.specs.Turn.{IsFirst, MayEnd}
use Rattle.satl_direct.specs.Valid.{AreOwn, HasCome}
use Rattle.satl_laws.specs.Passing.{CanEnd, ComesAfter, DoNotClash, NonePasses, NonePassesAlone, NoneShows, NoneShowsAlone, OthersPass, goes_alone, goes_with_others}
use Rattle.satl_laws.proofs.Asked.{IsAsked, come_asked}
use Rattle.satl_laws.proofs.Clashing.{conflict_clear, conflict_none, neither_alone, with_others}
use Rattle.satl_laws.proofs.Eligibles.{before_free}
use Rattle.satl_laws.proofs.Rows.{all_at, all_front, all_from}
use Rattle.satl_laws.proofs.Tasks.{may_eligible}

-- ---- a READ, a WRITE or a trim has an end

-- an end of a command
record HasEnd (c : Command) (s : Device) (t : Entry) : Type 0 where
  reply : Reply
  new : Device
  ends : EndsBy c s t reply new

-- an end on the medium
record HasEndOn (ranged : RangedTask) (s : Device) (t : Entry) : Type 0 where
  reply : Reply
  new : Device
  ends : EndsOnSurface ranged s t reply new

-- it is done, or it meets a flaw and has written nothing
end_on : (ranged : RangedTask) (s : Device) (t : Entry) → HasEndOn ranged s t
end_on ranged s t = by_flaw (flaw_met s.cells ranged) refl
  where
    by_flaw : (o : Option ℕ) → flaw_met s.cells ranged ≡ o → HasEndOn ranged s t
    by_flaw None none = record {
      reply = outcome_reply s t ranged (ends_done (blocks_read s.cells ranged));
      new = record s { cells = whole s.cells (written_pairs s.modes.wce ranged); tasks = without t s.tasks; active = true };
      ends = record { outcome = ends_done (blocks_read s.cells ranged); ends = record { no_flaw = none; read = refl; written = refl; glitches_stay = refl }; answer = refl; stays = refl };
    }
    by_flaw (Some at) some = record {
      reply = outcome_reply s t ranged (ends_flawed at);
      new = record s { tasks = without t s.tasks };
      ends = record { outcome = ends_flawed at; ends = record { flaw = some; written = part_none s.cells (written_pairs s.modes.wce ranged); glitches_stay = refl }; answer = refl; stays = refl };
    }

has_end : (queued_trim : Bool) (s : Device) (t : Entry) (c : Command) → goes_with_others queued_trim c ≡ true → HasEnd c s t
has_end q s t (commands.Read form lba count fua) h = let e = end_on (ranged_read fua (over lba count)) s t in record { reply = e.reply; new = e.new; ends = e.ends }
has_end q s t (commands.Write form lba count fua) h = let e = end_on (ranged_write fua (over lba count) t.body) s t in record { reply = e.reply; new = e.new; ends = e.ends }
has_end q s t (commands.Unmap size) h = let e = end_on (ranged_trim t.ranges.items) s t in record { reply = e.reply; new = e.new; ends = e.ends }
has_end q s t c h = absurd cc

-- ---- the task that ends

module _ (s : Device) (earlier : List Entry) (t : Entry) (after : ComesAfter s earlier t) where
  -- all have come
  all_come : AllByRecursion (HasCome s.identity) (earlier ++ t ∷ after.later)
  all_come = subst (AllByRecursion (HasCome s.identity)) after.place (after.valid).come

  it_asked : IsAsked s.identity.queued_trim t
  it_asked = come_asked s.identity t (all_at (HasCome s.identity) earlier after.later t all_come)

  earlier_come : AllByRecursion (HasCome s.identity) earlier
  earlier_come = all_front (HasCome s.identity) earlier after.later t all_come

  -- where it is eligible no earlier one conflicts with it
  none_conflicts : IsEligible s.tasks t → AllByRecursion (λ u. conflicts u t ≡ false) earlier
  none_conflicts eligible = before_free earlier t after.later (subst AreOwn after.place (after.valid).own) (subst (λ ts. IsEligible ts t) after.place eligible)

  none_clashes : IsEligible s.tasks t → AllByRecursion (λ u. DoNotClash u t) earlier
  none_clashes eligible = all_from _ _ _ (λ u come free. conflict_clear s u t (come_asked s.identity u come) it_asked free) earlier earlier_come (none_conflicts eligible)

  none_alone : IsEligible s.tasks t → AllByRecursion (λ u. (goes_alone s u || goes_alone s t) ≡ false) earlier
  none_alone eligible = all_from _ _ _ (λ u come free. neither_alone s u t (come_asked s.identity u come) it_asked free) earlier earlier_come (none_conflicts eligible)

  -- where none is in its way it is eligible
  eligible_after : (before rest : List Entry) → AllByRecursion (λ u. conflicts u t ≡ false) before → IsEligible (before ++ t ∷ rest) t
  eligible_after [] rest all = inl refl
  eligible_after (u ∷ us) rest all = inr (all.0, eligible_after us rest all.1)

  module _ (up : s.down ≡ false) (started : s.started ≡ true) (with_it : goes_alone s t ≡ false) where
    may_end : AllByRecursion (λ u. goes_alone s u ≡ false) earlier → AllByRecursion (λ u. DoNotClash u t) earlier → MayEnd s t
    may_end with_all clear =
        let free = all_from _ _ _ (λ u come rest. conflict_none s u t (come_asked s.identity u come) it_asked rest.0 with_it rest.1) earlier earlier_come (all_from _ _ (λ u. (goes_alone s u ≡ false) × DoNotClash u t) (λ u p q. (p, q)) earlier with_all clear) in
        second_case (IsFirst s.tasks t) _ (s.down || not s.started) (ap (λ d. d || not s.started) up ∙ ap not started) (subst (λ ts. IsEligible ts t) (sym after.place) (eligible_after earlier after.later free))

    ends_at_work : (reply : Reply) (new : Device) → EndsBy t.command s t reply new → Ends s t reply new
    ends_at_work reply new e = second_case (IsChecked link_lost s t reply new) _ s.down up (second_case (IsChecked not_ready s t reply new) _ (not s.started && (asks t.command).needs_started) (ap (λ b. not b && (asks t.command).needs_started) started) e)

    -- so it can end, if its command does
    can_end : MayEnd s t → (c : Command) → t.command ≡ c → HasEnd c s t → CanEnd s t
    can_end may c is h = record {
      reply = h.reply;
      new = h.new;
      end = record { task = t; may = may; ends = ends_at_work h.reply h.new (subst (λ k. EndsBy k s t h.reply h.new) (sym is) h.ends) };
      its_own = refl;
    }

    pub passes : AllByRecursion (λ u. goes_alone s u ≡ false) earlier → AllByRecursion (λ u. DoNotClash u t) earlier → CanEnd s t
    passes with_all clear =
        can_end (may_end with_all clear) t.command refl (has_end s.identity.queued_trim s t t.command (with_others t.ordered (goes_with_others s.identity.queued_trim t.command) with_it))

-- ---- the law

pub none_passes : NonePasses
none_passes s new reply end earlier after = none_clashes s earlier end.task after (may_eligible s end.task end.may)

pub none_passes_alone : NonePassesAlone
none_passes_alone s new reply end earlier after = none_alone s earlier end.task after (may_eligible s end.task end.may)

pub none_shows : NoneShows
none_shows s pair shows earlier after = none_clashes s earlier shows.task after (shows.under_way).eligible

pub none_shows_alone : NoneShowsAlone
none_shows_alone s pair shows earlier after = none_alone s earlier shows.task after (shows.under_way).eligible

pub others_pass : OthersPass
others_pass s earlier t after up started with_it with_all clear = passes s earlier t after up started with_it with_all clear
