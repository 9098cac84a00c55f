-- How the task of a command that changes no block but as a WRITE does ends: what is read, and what its sectors hold.
use Rattle.std.proofs.Common.{◌≡◌, ◌⊎◌, ⊎_elim, inl, inr, refl, sym, ap, ◌∙◌, subst, ℕ, ◌<◌, true, false, List, [], ◌∷◌, length}
use Rattle.std.specs.Prelude.{◌&&◌, ◌||◌, not, Ok}
use Rattle.std.proofs.lemmas.Bool.{cases_eq, and_left}
use Rattle.std.proofs.Math.Bool.{or-true}
use Rattle.satl_base.specs.declared.block.Block.{Block}
use Rattle.satl_base.specs.declared.reply.Reply.{Reply}
use Rattle.satl_base.specs.Cells.{Cell, Pair, Part, nows, put_at, whole}
use Rattle.satl_base.specs.Lists.{IsIn}
use Rattle.satl_base.specs.Blocks.{over}
use Rattle.satl_base.proofs.CellsLemmas.{change_at-length}
use Rattle.satl_cdb.specs.declared.command.Command.{Command}
use Rattle.satl_cdb.specs.declared.command.Command.TheVariants as commands
use Rattle.satl_sense.specs.declared.sense.Sense.{Sense}
use Rattle.satl_line.specs.declared.entry.Entry.{Entry}
use Rattle.satl_line.specs.Ranged.RangedTask.{ranged_read, ranged_write}
use Rattle.satl_line.specs.Ending.{EndsAs, Outcome}
use Rattle.satl_line.specs.Ending.Outcome.{ends_done, ends_flawed, ends_glitched}
use Rattle.satl_direct.specs.Device.{Device}
use Rattle.satl_direct.specs.Ending.{Ends, EndsBy, IsChecked, outcome_reply, surface_of}
use Rattle.satl_laws.specs.ArrivalOrder.{is_good, read_at, writes_plainly}
use Rattle.satl_laws.specs.Untouched.{Spares}
use Rattle.satl_direct.specs.Quiet.{writes, written_by}
use Rattle.satl_direct.specs.Tasks.{asks, range_of}
use Rattle.satl_laws.proofs.Cases.{by_bool}
use Rattle.satl_laws.proofs.Kept.{at_now}
use Rattle.satl_laws.proofs.PlainTasks.{none_written, own_alone, same_block}
use Rattle.satl_laws.proofs.Reaching.{ends_reach}
use Rattle.satl_laws.proofs.Steps.{steps-length, steps_keep}
use Rattle.satl_laws.proofs.Seen.{by_test, put_elsewhere, put_seen}
use Rattle.satl_laws.proofs.Transferring.{IsItsOwn, Transfers, after, brings, gives, pair_of, spans, still, written_seen}

module _ (s new : Device) (t : Entry) (reply : Reply) where
  -- a WRITE is done, or it fails and is written in part
  abbrev WriteEnds : Command → Type 0
  WriteEnds c = ((is_good reply.status ≡ true) × (new.cells ≡ whole s.cells (written_by c s t))) ⊎ ((is_good reply.status ≡ false) × Part s.cells (written_by c s t) new.cells)

  write_ends : (c : Command) → brings c ≡ true → EndsBy c s t reply new → WriteEnds c
  write_ends (commands.Write form lba count fua) b e = go e.outcome e.ends e.answer
    where
      go : (o : Outcome) → EndsAs s.modes.wce (ranged_write fua (over lba count) t.body) o (surface_of s) (surface_of new) → reply ≡ outcome_reply s t (ranged_write fua (over lba count) t.body) o → WriteEnds (commands.Write form lba count fua)
      go (ends_done blocks) d is = inl (ap (λ r. is_good r.status) is, d.written)
      go (ends_flawed lba_of) f is = inr (ap (λ r. is_good r.status) is, f.written)
      go ends_glitched g is = inr (ap (λ r. is_good r.status) is, g.written)
  write_ends c b e = absurd cc

  -- a READ that is done gives what its sectors hold
  read_ends : (c : Command) → gives c ≡ true → is_good reply.status ≡ true → EndsBy c s t reply new → reply.body ≡ nows s.cells (range_of c).lba (range_of c).count
  read_ends (commands.Read form lba count fua) g good e = go e.outcome e.ends e.answer
    where
      bad : is_good reply.status ≡ false → reply.body ≡ nows s.cells lba count
      bad h = let no : true ≡ false = sym good ∙ h in absurd cc

      go : (o : Outcome) → EndsAs s.modes.wce (ranged_read fua (over lba count)) o (surface_of s) (surface_of new) → reply ≡ outcome_reply s t (ranged_read fua (over lba count)) o → reply.body ≡ nows s.cells lba count
      go (ends_done blocks) d is = ap (λ r. r.body) is ∙ d.read
      go _ _ is = bad (ap (λ r. is_good r.status) is)
  read_ends c g good e = absurd cc

  -- or it is checked, and nothing is written
  checked_writes : (c : Command) (sense : Sense) → IsChecked sense s t reply new → (is_good reply.status ≡ false) × (new.cells ≡ s.cells)
  checked_writes c sense e = (ap (λ r. is_good r.status) e.answer, ap (λ d. d.cells) e.stays)

  -- a sector holds what it held, where the task does not end with GOOD; or what the task leaves
  abbrev pub Changed : ℕ → Type 0
  Changed x =
      ((is_good reply.status ≡ false) × (read_at new.cells x ≡ read_at s.cells x))
      ⊎ (((is_good reply.status ≡ true) ⊎ (brings t.command ≡ true)) × (read_at new.cells x ≡ after t x (read_at s.cells x)))

  module _ (n : ℕ) (plain : writes_plainly (Ok t.command) ≡ true) (fits : gives t.command || brings t.command ≡ true → Transfers n t) (e : Ends s t reply new) where
    pub ends_size : length new.cells ≡ length s.cells
    ends_size = steps-length (ends_reach s new t reply e).pairs s.cells new.cells (ends_reach s new t reply e).cells

    pub ends_read : gives t.command ≡ true → is_good reply.status ≡ true → reply.body ≡ nows s.cells (range_of t.command).lba (range_of t.command).count
    ends_read g good =
        by_bool s.down (λ k. bad (checked_writes t.command _ k).0)
        (by_bool (not s.started && (asks t.command).needs_started) (λ k. bad (checked_writes t.command _ k).0) (λ k. read_ends t.command g good k)) e
      where
        bad : is_good reply.status ≡ false → reply.body ≡ nows s.cells (range_of t.command).lba (range_of t.command).count
        bad h = let no : true ≡ false = sym good ∙ h in absurd cc

    -- written in part: at each sector all or nothing
    part_at : (x : ℕ) (pairs : List Pair) (cells : List Cell) → x < length cells → ((p : Pair) → IsIn p pairs → IsItsOwn t.command t p) → Part cells pairs new.cells
        → (read_at new.cells x ≡ read_at cells x) ⊎ (read_at new.cells x ≡ after t x (read_at cells x))
    part_at x [] cells inside its is = inl (ap (λ c. read_at c x) is)
    part_at x (p ∷ ps) cells inside its h =
        ⊎_elim
        (λ out. part_at x ps cells inside (λ q i. its q (inr i)) out)
        (λ put. shown (cases_eq p.lba x) (part_at x ps (put_at cells p) (subst (λ k. x < k) (sym (change_at-length cells p.lba _)) inside) (λ q i. its q (inr i)) put))
        h
      where
        shown : (p.lba ≡ x) ⊎ (p.lba ≡ x → ⊥) → (read_at new.cells x ≡ read_at (put_at cells p) x) ⊎ (read_at new.cells x ≡ after t x (read_at (put_at cells p) x))
            → (read_at new.cells x ≡ read_at cells x) ⊎ (read_at new.cells x ≡ after t x (read_at cells x))
        shown (inl same) k =
            let it = its p (inl refl) in
            let is : (v : Block) → after t x v ≡ p.block = λ v. subst (λ y. after t y v ≡ p.block) same (it.leaves_it v) in
            let here : read_at (put_at cells p) x ≡ p.block = subst (λ y. read_at (put_at cells p) y ≡ p.block) same (put_seen cells p.lba p.block p.cached (subst (λ y. y < length cells) (sym same) inside)) in
            inr (⊎_elim (λ q. q ∙ here) (λ q. q ∙ is (read_at (put_at cells p) x)) k ∙ sym (is (read_at cells x)))
        shown (inr other) k =
            let here : read_at (put_at cells p) x ≡ read_at cells x = put_elsewhere cells p.lba x p.block p.cached other in
            ⊎_elim (λ q. inl (q ∙ here)) (λ q. inr (q ∙ ap (after t x) here)) k

    -- a WRITE
    write_changes : (x : ℕ) → x < length s.cells → brings t.command ≡ true → Changed x
    write_changes x inside b =
        by_bool s.down (λ k. checked k)
        (by_bool (not s.started && (asks t.command).needs_started) (λ k. checked k) (λ k. written (write_ends t.command b k))) e
      where
        transfers : Transfers n t
        transfers = fits (ap (λ q. gives t.command || q) b ∙ or-true (gives t.command))

        checked : {sense : Sense} → IsChecked sense s t reply new → Changed x
        checked k = let w = checked_writes t.command _ k in inl (w.0, ap (λ c. read_at c x) w.1)

        written : WriteEnds t.command → Changed x
        written (inl d) = inr (inl d.0, ap (λ c. read_at c x) d.1 ∙ written_seen n s t s.cells x transfers inside)
        written (inr f) = ⊎_elim (λ same. inl (f.0, same)) (λ all. inr (inr b, all)) (part_at x (writes s t) s.cells inside (λ p i. pair_of n s t p transfers i) f.1)

    -- any such command
    pub ends_change : (x : ℕ) → x < length s.cells → Changed x
    ends_change x inside =
        by_test (λ b. Changed x) (brings t.command)
        (λ yes. write_changes x inside yes)
        (λ no. by_test (λ g. Changed x) (is_good reply.status)
        (λ good. inr (inl good, kept no ∙ sym (still t x (read_at s.cells x) (and_left (brings t.command) (spans t.command x) no))))
        (λ bad. inl (bad, kept no)))
      where
        kept : brings t.command ≡ false → read_at new.cells x ≡ read_at s.cells x
        kept none =
            let r = ends_reach s new t reply e in
            let spared : Spares x r.pairs = r.spared x (own_alone t.command plain) (subst (Spares x) (sym (none_written t.command s t plain none)) refl) in
            same_block s.cells new.cells x (at_now x s.cells new.cells (steps_keep x r.pairs s.cells new.cells spared r.cells))
