-- Quiet moves keep the order of arrival.
use Rattle.std.proofs.Common.{◌≡◌, ◌⊎◌, inl, inr, refl, sym, ap, ◌∙◌, subst, ℕ, ◌<◌, Bool, true, List, arith, length}
use Rattle.std.specs.Prelude.{◌&&◌}
use Rattle.std.specs.List.{AllByRecursion}
use Rattle.std.proofs.lemmas.Bool.{cases_eq}
use Rattle.satl_base.specs.declared.block.Block.{Block}
use Rattle.satl_base.specs.Cells.{Cell, Pair, put_at}
use Rattle.satl_base.specs.Lists.{IsIn}
use Rattle.satl_base.specs.Losses.{Loses}
use Rattle.satl_base.specs.Moves.{Moves, stay, lose, write}
use Rattle.satl_base.proofs.CellsLemmas.{change_at-length}
use Rattle.satl_base.proofs.LossesLemmas.{loses-length}
use Rattle.satl_frame.specs.declared.frames.Frame.{Frame}
use Rattle.satl_frame.specs.Output.{Answer}
use Rattle.satl_line.specs.declared.entry.Entry.{Entry}
use Rattle.satl_line.specs.Eligible.{IsEligible}
use Rattle.satl_direct.specs.Device.{Device}
use Rattle.satl_laws.specs.ArrivalOrder.{read_at}
use Rattle.satl_direct.specs.Quiet.{MayShow, writes}
use Rattle.satl_laws.proofs.Ends.{eligible_in}
use Rattle.satl_laws.proofs.InOrder.{Begin, cells_in_order, holds, InOrder, sectors, trim}
use Rattle.satl_laws.proofs.Seen.{by_test, put_elsewhere, put_seen}
use Rattle.satl_laws.proofs.Flawless.{loses_seen}
use Rattle.satl_laws.proofs.Rows.{in_all}
use Rattle.satl_laws.proofs.Standing.{Stands}
use Rattle.satl_laws.proofs.PlainTasks.{none_written}
use Rattle.satl_laws.proofs.Tasks.{IsPlainTask, tasks_plain, writer_fits}
use Rattle.satl_laws.proofs.Transferring.{after, brings, pair_of, spans}

module _ (first : Begin) where
  -- ---- quiet moves

  module _ (tasks : List Entry) (plain : AllByRecursion (IsPlainTask (sectors first)) tasks) (hold : ℕ → Block) where
    -- cells that stand
    record Standing (cells : List Cell) : Type 0 where
      pub size : length cells ≡ sectors first
      pub stands : (x : ℕ) → x < sectors first → Stands x (read_at cells x) (hold x) tasks

    put_stands : (s : Device) (cells : List Cell) (t : Entry) (p : Pair) → IsEligible tasks t → IsIn p (writes s t) → Standing cells → Standing (put_at cells p)
    put_stands s cells t p el among k = record { size = change_at-length cells p.lba _ ∙ k.size; stands = λ x inside. go x inside (cases_eq p.lba x) }
      where
        it : IsPlainTask (sectors first) t
        it = in_all (IsPlainTask (sectors first)) tasks t plain (eligible_in tasks t el)

        writer : brings t.command ≡ true
        writer = by_test (λ b. b ≡ true) (brings t.command) (λ yes. refl) (λ no. absurd (subst (IsIn p) (none_written t.command s t it.plain no) among))

        go : (x : ℕ) → x < sectors first → (p.lba ≡ x) ⊎ (p.lba ≡ x → ⊥) → Stands x (read_at (put_at cells p) x) (hold x) tasks
        go x inside (inl same) =
            let mine = pair_of (sectors first) s t p (writer_fits (sectors first) t it writer) among in
            let is : read_at (put_at cells p) x ≡ p.block = subst (λ y. read_at (put_at cells p) y ≡ p.block) same (put_seen cells p.lba p.block p.cached (omega (arith, same, inside, k.size))) in
            inr (record {
              task = t;
              eligible = el;
              writes_it = ap (λ b. b && spans t.command x) writer ∙ subst (λ y. spans t.command y ≡ true) same mine.spans_it;
              is = is ∙ sym (subst (λ y. after t y (hold x) ≡ p.block) same (mine.leaves_it (hold x)));
            })
        go x inside (inr other) = subst (λ v. Stands x v (hold x) tasks) (sym (put_elsewhere cells p.lba x p.block p.cached other)) (k.stands x inside)

    loses_stand : (a b : List Cell) → Loses a b → Standing a → Standing b
    loses_stand a b l k = record { size = loses-length a b l ∙ k.size; stands = λ x inside. subst (λ v. Stands x v (hold x) tasks) (sym (loses_seen a b x l)) (k.stands x inside) }

    moves_stand : (s : Device) → s.tasks ≡ tasks → {a b : List Cell} → Moves (MayShow s) a b → Standing a → Standing b
    moves_stand s is stay k = k
    moves_stand s is (lose {old = a} {mid = m} l rest) k = moves_stand s is rest (loses_stand a m l k)
    moves_stand s is (write {old = a} p h rest) k = moves_stand s is rest (put_stands s a h.task p (subst (λ ts. IsEligible ts h.task) is (h.under_way).eligible) h.among k)

  -- sectors that stand are all that changes
  pub moved_in_order : (events : List Frame) (answers : List Answer) (s : Device) (new : List Cell) (faithful : Bool) → Moves (MayShow s) s.cells new
      → InOrder first events answers s.cells s.tasks faithful → InOrder first events answers new s.tasks faithful
  moved_in_order events answers s new faithful moves o =
      let plain = subst (AllByRecursion (IsPlainTask (sectors first))) (sym o.tasks_are) (tasks_plain (trim first) (sectors first) o.items o.well) in
      let k : Standing s.tasks plain (holds first o.items) new = moves_stand s.tasks plain (holds first o.items) s refl moves (record { size = o.size; stands = o.stands }) in
      cells_in_order first events answers s.cells new s.tasks faithful o k.size k.stands
