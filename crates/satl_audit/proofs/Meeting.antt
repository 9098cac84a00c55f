-- When a WRITE conflicts with a task that goes over one of its sectors.
use Rattle.std.proofs.Common.{arith, ◌≡◌, ap, ◌∙◌, ℕ, ◌+◌, true, false, [], ◌∷◌, min, max}
use Rattle.std.specs.Prelude.{◌≤◌, ◌<◌, ◌&&◌, not, ◌||◌}
use Rattle.satl_base.specs.Cells.{Pair}
use Rattle.satl_base.specs.Lists.{IsIn}
use Rattle.satl_base.specs.Blocks.{over}
use Rattle.satl_cdb.specs.declared.command.Command.{Command}
use Rattle.satl_cdb.specs.declared.command.Command.TheVariants as commands
use Rattle.satl_line.specs.declared.entry.Entry.{Entry}
use Rattle.satl_line.specs.declared.entry.Kind.TheVariants.{Ranged}
use Rattle.satl_line.specs.Conflict.{access_of, conflicts, is_alone, is_write, Access, accesses_conflict, any_meet, ranges_meet}
use Rattle.satl_direct.specs.Device.{Device}
use Rattle.satl_direct.specs.Quiet.{written_by}
use Rattle.satl_audit.proofs.Forming.{FormedBy}
use Rattle.satl_audit.proofs.EarlyPairs.{from_within}
use Rattle.std.proofs.lemmas.Bool.{lt-ltb, or_left, or_right}
use Rattle.satl_base.specs.declared.block.Range.{Range}

pub ranges_that_meet : (x lba count lba' count' : ℕ) → lba ≤ x → x < lba + count → lba' ≤ x → x < lba' + count' → ranges_meet (over lba count) (over lba' count') ≡ true
ranges_that_meet x lba count lba' count' a b c d = lt-ltb (max lba lba') (min (lba + count) (lba' + count')) (omega (arith, a, b, c, d))

pub meeting : (a b : Access) (r q : Range) → a.write ≡ true → a.ranges ≡ r ∷ [] → b.ranges ≡ q ∷ [] → ranges_meet r q ≡ true → accesses_conflict a b ≡ true
unfolding accesses_conflict
meeting a b r q w ra rb m =
    or_right (a.alone || b.alone) ((a.write || b.write) && any_meet a.ranges b.ranges)
    (ap (λ t. (t || b.write) && any_meet a.ranges b.ranges) w ∙ ap (λ l. any_meet l b.ranges) ra ∙ ap (any_meet (r ∷ [])) rb ∙ ap (λ t. (t || false) || false) m)

pub barred : (a b : Access) → b.alone ≡ true → accesses_conflict a b ≡ true
unfolding accesses_conflict
barred a b e = or_left (a.alone || b.alone) ((a.write || b.write) && any_meet a.ranges b.ranges) (or_right a.alone b.alone e)

module _ (x : ℕ) where
  -- a command goes over the sector
  abbrev pub TouchesBy : Command → Type 0
  TouchesBy (commands.Read form lba count fua) = (lba ≤ x) × (x < lba + count)
  TouchesBy (commands.Write form lba count fua) = (lba ≤ x) × (x < lba + count)
  TouchesBy (commands.Flush form lba count) = Unit {0}
  TouchesBy _ = ⊥

  -- a WRITE with a pair there
  pub record WriteAt (t : Entry) : Type 0 where
    pub lba : ℕ
    pub count : ℕ
    pub kind : t.kind ≡ Ranged true
    pub ranges : t.ranges.items ≡ over lba count ∷ []
    pub low : lba ≤ x
    pub high : x < lba + count

  pub write_at : (c : Command) (s : Device) (t : Entry) (p : Pair) → FormedBy c t → IsIn p (written_by c s t) → p.lba ≡ x → WriteAt t
  write_at (commands.Read form lba count fua) s t p f i e = absurd i
  write_at (commands.Write form lba count fua) s t p f i e =
      let w = from_within lba t.body (s.modes.wce && not fua) p i in
      record { lba = lba; count = count; kind = f.0; ranges = f.1; low = omega (arith, w.0, e); high = omega (arith, w.1, e, f.2) }
  write_at (commands.Flush form lba count) s t p f i e = absurd i
  write_at _ s t p f i e = absurd f

  -- conflicts with each task that goes over the sector
  pub clashes : (c : Command) (w t : Entry) → WriteAt w → FormedBy c t → TouchesBy c → conflicts w t ≡ true
  clashes (commands.Read form lba count fua) w t a f g =
      meeting (access_of w) (access_of t) (over a.lba a.count) (over lba count) (ap is_write a.kind) a.ranges f.1 (ranges_that_meet x a.lba a.count lba count a.low a.high g.0 g.1)
  clashes (commands.Write form lba count fua) w t a f g =
      meeting (access_of w) (access_of t) (over a.lba a.count) (over lba count) (ap is_write a.kind) a.ranges f.1 (ranges_that_meet x a.lba a.count lba count a.low a.high g.0 g.1)
  clashes (commands.Flush form lba count) w t a f g = barred (access_of w) (access_of t) (ap (λ k. is_alone k t.ordered) f)
  clashes _ w t a f g = absurd f

  -- a WRITE with a pair there goes over the sector
  pub touches_by : (c : Command) (s : Device) (t : Entry) (p : Pair) → FormedBy c t → IsIn p (written_by c s t) → p.lba ≡ x → TouchesBy c
  touches_by (commands.Read form lba count fua) s t p f i e = absurd i
  touches_by (commands.Write form lba count fua) s t p f i e =
      let w = from_within lba t.body (s.modes.wce && not fua) p i in
      (omega (arith, w.0, e), omega (arith, w.1, e, f.2))
  touches_by (commands.Flush form lba count) s t p f i e = absurd i
  touches_by _ s t p f i e = absurd f
