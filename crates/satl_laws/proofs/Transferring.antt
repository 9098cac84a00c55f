-- Tasks of READ and WRITE: when they conflict, and what they write.
use Rattle.std.proofs.Common.{◌≡◌, ◌⊎◌, ⊎_elim, inl, inr, refl, ap, ◌∙◌, ℕ, suc, ◌+◌, ◌≤◌, ◌<◌, Bool, true, false, List, [], ◌∷◌, arith, length}
use Rattle.std.specs.Prelude.{if◌then◌else◌, not, ◌&&◌, ◌||◌, ◌-◌, get_or, Ok}
use Rattle.satl_base.specs.declared.block.Block.{Block}
use Rattle.satl_base.specs.Cells.{Cell, Pair, whole}
use Rattle.satl_base.specs.Lists.{IsIn}
use Rattle.satl_cdb.specs.declared.command.Command.{Command}
use Rattle.satl_cdb.specs.declared.command.Command.TheVariants as commands
use Rattle.satl_line.specs.declared.entry.Entry.{Entry}
use Rattle.satl_line.specs.declared.entry.Kind.TheVariants.{Ranged}
use Rattle.satl_line.specs.Conflict.{access_of, accesses_conflict, any_meet, conflicts, is_write}
use Rattle.satl_direct.specs.Device.{Device}
use Rattle.satl_laws.specs.ArrivalOrder.{IsReadOf, brought, read_at}
use Rattle.satl_direct.specs.Quiet.{writes, written_by}
use Rattle.satl_direct.specs.Tasks.{range_of}
use Rattle.satl_base.specs.Blocks.{lies_in}
use Rattle.satl_laws.proofs.Meeting.{meets}
use Rattle.satl_laws.proofs.Seen.{by_test, in_row, row_seen, within_to}

-- whether a command is a READ
abbrev pub gives : Command → Bool
gives (commands.Read form lba count fua) = true
gives command = false

-- whether it is a WRITE
abbrev pub brings : Command → Bool
brings (commands.Write form lba count fua) = true
brings command = false

-- whether its range has a sector
abbrev pub spans : Command → ℕ → Bool
spans c x = lies_in (range_of c).lba (range_of c).count x

-- what a task leaves in a sector that held this
abbrev pub after : Entry → ℕ → Block → Block
after t x v = brought (Ok t.command) t.body x v

-- a task of a READ or a WRITE in a range of so many sectors
pub record Transfers (n : ℕ) (t : Entry) : Type 0 where
  pub either : gives t.command || brings t.command ≡ true
  pub kind : t.kind ≡ Ranged (brings t.command)
  pub ranges : t.ranges.items ≡ range_of t.command ∷ []
  pub inside : (range_of t.command).lba + (range_of t.command).count ≤ n
  pub fits : length t.body ≤ (range_of t.command).count

-- a command that writes no such sector leaves it
still_by : (c : Command) (body : List Block) (x : ℕ) (v : Block) → (brings c && spans c x) ≡ false → brought (Ok c) body x v ≡ v
still_by (commands.Write form lba count fua) body x v h = rw h refl
still_by c body x v h = refl

pub still : (t : Entry) (x : ℕ) (v : Block) → (brings t.command && spans t.command x) ≡ false → after t x v ≡ v
still t x v h = still_by t.command t.body x v h

-- a block that is there is there twice
get_twice : (body : List Block) (k : ℕ) (v : Block) → get_or body k (get_or body k v) ≡ get_or body k v
get_twice (b ∷ bs) (suc k) v = get_twice bs k v
get_twice _ _ v = refl

-- what is written twice is as written once
twice_by : (c : Command) (body : List Block) (x : ℕ) (v : Block) → brought (Ok c) body x (brought (Ok c) body x v) ≡ brought (Ok c) body x v
twice_by (commands.Write form lba count fua) body x v =
    by_test (λ b. (if b then get_or body (x - lba) (if b then get_or body (x - lba) v else v) else (if b then get_or body (x - lba) v else v)) ≡ (if b then get_or body (x - lba) v else v)) (lies_in lba count x)
    (λ has. get_twice body (x - lba) v)
    (λ no. refl)
twice_by c body x v = refl

pub after_twice : (t : Entry) (x : ℕ) (v : Block) → after t x (after t x v) ≡ after t x v
after_twice t x v = twice_by t.command t.body x v

-- what a READ reads
pub read_of : (c : Command) (lba count : ℕ) → IsReadOf (Ok c) lba count → (gives c ≡ true) × ((range_of c).lba ≡ lba) × ((range_of c).count ≡ count)
read_of (commands.Read form from number fua) lba count h = (refl, h.0, h.1)
read_of c lba count h = absurd h

-- no READ writes
pub reads_only : (c : Command) → gives c ≡ true → brings c ≡ true → ⊥
reads_only (commands.Read form lba count fua) g b = cc
reads_only c g b = cc

-- ---- conflicts

-- tasks that have a sector, one of which writes, conflict
pub clash : (n : ℕ) (t u : Entry) (x : ℕ) → Transfers n t → Transfers n u → (brings t.command ≡ true) ⊎ (brings u.command ≡ true) → spans t.command x ≡ true → spans u.command x ≡ true → conflicts t u ≡ true
unfolding accesses_conflict
clash n t u x a b one h k =
    let write_t : is_write t.kind ≡ brings t.command = ap is_write a.kind in
    let write_u : is_write u.kind ≡ brings u.command = ap is_write b.kind in
    let meet : any_meet t.ranges.items u.ranges.items ≡ true =
    ap (λ r. any_meet r u.ranges.items) a.ranges ∙ ap (any_meet (range_of t.command ∷ [])) b.ranges ∙ ap (λ p. (p || false) || false) (meets (range_of t.command) (range_of u.command) x h k) in
    go (access_of t).alone (access_of u).alone (is_write t.kind) (is_write u.kind) (any_meet t.ranges.items u.ranges.items) (⊎_elim (λ l. inl (write_t ∙ l)) (λ r. inr (write_u ∙ r)) one) meet
  where
    go : (p q r s m : Bool) → (r ≡ true) ⊎ (s ≡ true) → m ≡ true → (p || q || ((r || s) && m)) ≡ true
    go false false true s m w e = e
    go false false false true m w e = e
    go false false false false m (inl w) e = absurd cc
    go false false false false m (inr w) e = absurd cc
    go _ _ r s m w e = refl

-- ---- what a task writes

-- what a READ or a WRITE writes is what it leaves
by_seen : (c : Command) (s : Device) (t : Entry) (cells : List Cell) (x : ℕ) → gives c || brings c ≡ true → length t.body ≤ (range_of c).count → x < length cells → read_at (whole cells (written_by c s t)) x ≡ brought (Ok c) t.body x (read_at cells x)
by_seen (commands.Read form lba count fua) s t cells x h fits inside = refl
by_seen (commands.Write form lba count fua) s t cells x h fits inside = row_seen t.body lba count x (s.modes.wce && not fua) cells fits inside
by_seen c s t cells x h fits inside = absurd cc

pub written_seen : (n : ℕ) (s : Device) (t : Entry) (cells : List Cell) (x : ℕ) → Transfers n t → x < length cells → read_at (whole cells (writes s t)) x ≡ after t x (read_at cells x)
written_seen n s t cells x a inside = by_seen t.command s t cells x a.either a.fits inside

-- a pair of a task is the block that it leaves there
pub record IsItsOwn (c : Command) (t : Entry) (p : Pair) : Type 0 where
  pub writes_it : brings c ≡ true
  pub spans_it : spans c p.lba ≡ true
  pub leaves_it : (v : Block) → brought (Ok c) t.body p.lba v ≡ p.block

by_pair : (c : Command) (s : Device) (t : Entry) (p : Pair) → gives c || brings c ≡ true → length t.body ≤ (range_of c).count → IsIn p (written_by c s t) → IsItsOwn c t p
by_pair (commands.Read form lba count fua) s t p h fits i = absurd i
by_pair (commands.Write form lba count fua) s t p h fits i =
    let r = in_row t.body lba (s.modes.wce && not fua) p i in
    let has : lies_in lba count p.lba ≡ true = within_to lba count p.lba (omega (arith, r.at)) (omega (arith, r.at, r.small, fits)) in
    let place : p.lba - lba ≡ r.place = omega (arith, r.at) in
    record {
      writes_it = refl;
      spans_it = has;
      leaves_it = λ v. ap (λ b. if b then get_or t.body (p.lba - lba) v else v) has ∙ ap (λ k. get_or t.body k v) place ∙ r.block v;
    }
by_pair c s t p h fits i = absurd cc

pub pair_of : (n : ℕ) (s : Device) (t : Entry) (p : Pair) → Transfers n t → IsIn p (writes s t) → IsItsOwn t.command t p
pair_of n s t p a i = by_pair t.command s t p a.either a.fits i
