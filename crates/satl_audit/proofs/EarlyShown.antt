-- At most one pair may show at an address, and what may show stays where another task ends.
use Rattle.std.proofs.Common.{◌≡◌, ⊎_elim, inl, inr, refl, sym, ap, ◌∙◌, subst, ℕ, true, false, List, [], ◌∷◌}
use Rattle.std.specs.Prelude.{◌&&◌, if◌then◌else◌, not}
use Rattle.std.specs.List.{AllByRecursion}
use Rattle.std.proofs.lemmas.Bool.{both_ways}
use Rattle.satl_base.specs.Cells.{Pair, pairs_from}
use Rattle.satl_base.specs.Lists.{IsIn, remove_first}
use Rattle.satl_cdb.specs.declared.command.Command.{Command}
use Rattle.satl_cdb.specs.declared.command.Command.TheVariants as commands
use Rattle.satl_line.specs.declared.entry.Entry.{Entry}
use Rattle.satl_line.specs.Eligible.{IsEligible}
use Rattle.satl_line.proofs.EligibleLemmas.{eligible_do_not_conflict}
use Rattle.satl_direct.specs.Device.{Device, is_called}
use Rattle.satl_direct.specs.Quiet.{writes, written_by}
use Rattle.satl_direct.specs.Run.{eligibles}
use Rattle.satl_audit.specs.Skeleton.{pairs_shown}
use Rattle.satl_audit.proofs.Forming.{FormedBy, IsFormed}
use Rattle.satl_audit.proofs.Showing.{eligible_in, in_eligible, in_pairs, of_pairs}
use Rattle.satl_audit.proofs.EarlyPairs.{from_one}
use Rattle.satl_audit.proofs.Meeting.{TouchesBy, write_at, clashes, touches_by}
use Rattle.satl_laws.proofs.Ends.{eligible_in as eligible_there}
use Rattle.satl_laws.proofs.Rows.{in_all as all_of}

-- a command's pairs turn on the mode values alone
writes_modes : (c : Command) (s u : Device) (t : Entry) → FormedBy c t → u.modes ≡ s.modes → written_by c u t ≡ written_by c s t
writes_modes (commands.Read form lba count fua) s u t f e = refl
writes_modes (commands.Write form lba count fua) s u t f e = ap (λ (m : _). pairs_from lba t.body (m.wce && not fua)) e
writes_modes (commands.Flush form lba count) s u t f e = refl
writes_modes _ s u t f e = absurd f

-- two pairs of one known command at one address are the same
one_by : (c : Command) (s : Device) (t : Entry) (p q : Pair) → FormedBy c t → IsIn p (written_by c s t) → IsIn q (written_by c s t) → p.lba ≡ q.lba → p ≡ q
one_by (commands.Read form lba count fua) s t p q f i j e = absurd i
one_by (commands.Write form lba count fua) s t p q f i j e = from_one lba t.body (s.modes.wce && not fua) p q i j e
one_by (commands.Flush form lba count) s t p q f i j e = absurd i
one_by _ s t p q f i j e = absurd f

-- a task stays eligible where another is taken off
pub eligible_without : (ts : List Entry) (t w : Entry) → is_called t.nexus (t.tag).0 w ≡ false → IsEligible ts w → IsEligible (remove_first (is_called t.nexus (t.tag).0) ts) w
eligible_without [] t w h e = e
eligible_without (v ∷ ts) t w h e =
    (elim (is_called t.nexus (t.tag).0 v) as (λ b. is_called t.nexus (t.tag).0 v ≡ b → IsEligible (if b then ts else v ∷ remove_first (is_called t.nexus (t.tag).0) ts) w) [
      | true ↦ λ c. ⊎_elim (λ s. absurd (both_ways _ h (subst (λ y. is_called t.nexus (t.tag).0 y ≡ true) s c))) (λ l. l.1) e
      | false ↦ λ c. ⊎_elim (λ s. inl s) (λ l. inr (l.0, eligible_without ts t w h l.1)) e
    ]) refl

module _ (x : ℕ) where
  pub record ShownAt (s : Device) (p : Pair) : Type 0 where
    pub among : IsIn p (pairs_shown s)
    pub here : p.lba ≡ x

  -- so what may show there is of each eligible task that goes over it
  pub shown_by : (s : Device) (p : Pair) (t : Entry) → AllByRecursion IsFormed s.tasks → ShownAt s p → IsEligible s.tasks t → TouchesBy x t.command → IsIn p (writes s t)
  shown_by s p t formed a e g =
      let w = of_pairs s (eligibles s.tasks) p a.among in
      let el = in_eligible s.tasks w.task w.there in
      let fw : IsFormed w.task = all_of IsFormed s.tasks w.task formed (eligible_there s.tasks w.task el) in
      let ft : IsFormed t = all_of IsFormed s.tasks t formed (eligible_there s.tasks t e) in
      ⊎_elim
      (λ same. subst (λ u. IsIn p (writes s u)) same w.among)
      (λ apart. absurd (both_ways _ apart (clashes x t.command w.task t (write_at x w.task.command s w.task p fw w.among a.here) ft g)))
      (eligible_do_not_conflict s.tasks w.task t el e)

  -- at most one pair may show there
  pub one_shown : (s : Device) (p q : Pair) → AllByRecursion IsFormed s.tasks → ShownAt s p → ShownAt s q → p ≡ q
  one_shown s p q formed a b =
      let w = of_pairs s (eligibles s.tasks) q b.among in
      let el = in_eligible s.tasks w.task w.there in
      let fw : IsFormed w.task = all_of IsFormed s.tasks w.task formed (eligible_there s.tasks w.task el) in
      one_by w.task.command s w.task p q fw (shown_by s p w.task formed a el (touches_by x w.task.command s w.task q fw w.among b.here)) w.among (a.here ∙ sym b.here)

  -- what may show of another eligible task still may
  pub shown_still : (s u : Device) (p : Pair) → AllByRecursion IsFormed s.tasks → u.modes ≡ s.modes → ((w : Entry) → IsEligible s.tasks w → IsIn p (writes s w) → IsEligible u.tasks w) → ShownAt s p → ShownAt u p
  shown_still s u p formed e f a =
      let w = of_pairs s (eligibles s.tasks) p a.among in
      let el = in_eligible s.tasks w.task w.there in
      let fw : IsFormed w.task = all_of IsFormed s.tasks w.task formed (eligible_there s.tasks w.task el) in
      record {
        among = in_pairs u (eligibles u.tasks) w.task p (eligible_in u.tasks w.task (f w.task el w.among)) (subst (IsIn p) (sym (writes_modes w.task.command s u w.task fw e)) w.among);
        here = a.here;
      }
