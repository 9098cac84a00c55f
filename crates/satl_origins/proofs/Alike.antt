-- What a task may write turns on nothing but the task, the number of sectors and what the drive says of itself.
use Rattle.std.proofs.Common.{◌≡◌, ⊎_elim, inl, inr, refl, sym, ap, ◌∙◌, subst, ℕ, ◌+◌, Bool, true, false, List, [], ◌∷◌, length, replicate, take, eq-eqb}
use Rattle.std.specs.Prelude.{◌==◌, ◌||◌, nat_lt, if◌then◌else◌}
use Rattle.std.specs.List.{list_any}
use Rattle.satl_base.specs.declared.block.Block.{Block}
use Rattle.satl_base.specs.declared.block.Range.{Range}
use Rattle.satl_base.specs.Blocks.{over, zero_block}
use Rattle.satl_base.specs.Cells.{Pair, pairs_from}
use Rattle.satl_base.specs.Lists.{IsIn}
use Rattle.satl_base.proofs.ListsLemmas.{in_either, in_left, in_right}
use Rattle.satl_cdb.specs.declared.command.Command.{Command}
use Rattle.satl_cdb.specs.declared.command.Command.TheVariants as commands
use Rattle.satl_regs.specs.declared.values.AtaCommand.{AtaCommand}
use Rattle.satl_regs.specs.declared.values.AtaCommand.TheVariants as ata
use Rattle.satl_regs.specs.Commands.{command_in}
use Rattle.satl_regs.specs.Effects.{is_no_trim, pairs_of, payload_ranges, zeros_at}
use Rattle.satl_regs.specs.Trim.{addresses}
use Rattle.satl_line.specs.declared.entry.Entry.{Entry}
use Rattle.satl_line.specs.Ranged.{zeros_over}
use Rattle.satl_direct.specs.Device.{Device}
use Rattle.satl_direct.specs.Ending.{device_medium, same_pairs}
use Rattle.satl_direct.specs.Quiet.{written_by}
use Rattle.satl_direct.specs.Tasks.{pass_of}
use Rattle.satl_laws.proofs.Addresses.{Alike, writes_alike}
use Rattle.satl_laws.proofs.Seen.{by_test}
use Rattle.satl_origins.specs.Origins.{Brings, IsAmong}

-- a pair through the cache or past it
abbrev pub pair_at : ℕ → Block → Bool → Pair
pair_at x block cached = record { lba = x; block = block; cached = cached }

module _ (x : ℕ) (block : Block) where
  -- ---- through the cache and past it

  from_among : (vs : List Block) (lba : ℕ) (a b : Bool) → IsAmong (pairs_from lba vs a) x block → IsAmong (pairs_from lba vs b) x block
  from_among [] lba a b i = absurd i.1
  from_among (v ∷ vs) lba a b i =
      ⊎_elim
      (λ same. (b, inl (ap (λ (p : Pair). pair_at p.lba p.block b) same)))
      (λ later. let r = from_among vs (lba + 1) a b (i.0, later) in (r.0, inr r.1))
      i.1

  over_among : (ranges : List Range) (a b : Bool) → IsAmong (zeros_over ranges a) x block → IsAmong (zeros_over ranges b) x block
  over_among [] a b i = absurd i.1
  over_among (r ∷ rs) a b i =
      ⊎_elim
      (λ here. let k = from_among (replicate r.count zero_block) r.lba a b (i.0, here) in (k.0, in_left (pair_at x block k.0) (pairs_from r.lba (replicate r.count zero_block) b) (zeros_over rs b) k.1))
      (λ later. let k = over_among rs a b (i.0, later) in (k.0, in_right (pair_at x block k.0) (pairs_from r.lba (replicate r.count zero_block) b) (zeros_over rs b) k.1))
      (in_either (pair_at x block i.0) (pairs_from r.lba (replicate r.count zero_block) a) (zeros_over rs a) i.1)

  same_among : (lba count : ℕ) (blocks : List Block) (a b : Bool) → IsAmong (same_pairs lba count blocks a) x block → IsAmong (same_pairs lba count blocks b) x block
  same_among lba count [] a b i = absurd i.1
  same_among lba count (v ∷ vs) a b i = from_among (replicate count v) lba a b i

  at_among : (lbas : List ℕ) (a b : Bool) → IsAmong (zeros_at a lbas) x block → IsAmong (zeros_at b lbas) x block
  at_among [] a b i = absurd i.1
  at_among (l ∷ ls) a b i =
      ⊎_elim
      (λ same. (b, inl (ap (λ (p : Pair). pair_at p.lba p.block b) same)))
      (λ later. let r = at_among ls a b (i.0, later) in (r.0, inr r.1))
      i.1

  -- what is among some pairs is named by one of them
  among_named : (pairs : List Pair) (cached : Bool) → IsIn (pair_at x block cached) pairs → list_any (λ p. p.lba == x) pairs ≡ true
  among_named [] cached i = absurd i
  among_named (p ∷ ps) cached i =
      by_test (λ b. (b || list_any (λ q. q.lba == x) ps) ≡ true) (p.lba == x)
      (λ here. refl)
      (λ other. ⊎_elim (λ same. absurd (let no : true ≡ false = sym (eq-eqb p.lba x (ap (λ (q : Pair). q.lba) (sym same))) ∙ other in cc)) (λ later. among_named ps cached later) i)

  module _ (s u : Device) (a : Alike s u) where
    -- a trim of an ATA command, where the sector is named at both
    trim_among : (blocks : ℕ) (given : List Block) → list_any (λ p. p.lba == x) (pairs_of (ata.Trim blocks) (device_medium u) given) ≡ list_any (λ p. p.lba == x) (pairs_of (ata.Trim blocks) (device_medium s) given)
        → IsAmong (pairs_of (ata.Trim blocks) (device_medium u) given) x block → IsAmong (pairs_of (ata.Trim blocks) (device_medium s) given) x block
    trim_among blocks given same i = go (is_no_trim blocks given (device_medium u)) (is_no_trim blocks given (device_medium s)) (sym same ∙ among_named (pairs_of (ata.Trim blocks) (device_medium u) given) i.0 i.1) i
      where
        go : (p q : Bool) → list_any (λ r. r.lba == x) (if q then [] else zeros_at s.modes.wce (addresses (payload_ranges blocks given))) ≡ true
            → IsAmong (if p then [] else zeros_at u.modes.wce (addresses (payload_ranges blocks given))) x block
            → IsAmong (if q then [] else zeros_at s.modes.wce (addresses (payload_ranges blocks given))) x block
        go true q h k = absurd k.1
        go false true h k = absurd (let no : false ≡ true = h in cc)
        go false false h k = at_among (addresses (payload_ranges blocks given)) u.modes.wce s.modes.wce k

    ata_among : (c : AtaCommand) (given : List Block) → list_any (λ p. p.lba == x) (pairs_of c (device_medium u) given) ≡ list_any (λ p. p.lba == x) (pairs_of c (device_medium s) given)
        → IsAmong (pairs_of c (device_medium u) given) x block → IsAmong (pairs_of c (device_medium s) given) x block
    ata_among (ata.Write how lba sectors) given same i =
        go (nat_lt (length s.cells) (lba + sectors)) (subst (λ n. IsAmong (if nat_lt n (lba + sectors) then [] else pairs_from lba (take sectors given) u.modes.wce) x block) a.size i)
      where
        go : (b : Bool) → IsAmong (if b then [] else pairs_from lba (take sectors given) u.modes.wce) x block → IsAmong (if b then [] else pairs_from lba (take sectors given) s.modes.wce) x block
        go true k = absurd k.1
        go false k = from_among (take sectors given) lba u.modes.wce s.modes.wce k
    ata_among (ata.Trim blocks) given same i = trim_among blocks given same i
    ata_among _ given same i = absurd i.1

    command_among : (c : Command) (t : Entry) → IsAmong (written_by c u t) x block → IsAmong (written_by c s t) x block
    command_among (commands.Write form lba count fua) t i = from_among t.body lba _ _ i
    command_among (commands.WriteSame form lba count false) t i = same_among lba count t.body u.modes.wce s.modes.wce i
    command_among (commands.WriteSame form lba count true) t i = over_among (over lba count ∷ []) u.modes.wce s.modes.wce i
    command_among (commands.Unmap size) t i = over_among t.ranges.items u.modes.wce s.modes.wce i
    command_among (commands.Pass cdb) t i = ata_among (command_in (pass_of cdb).regs) t.body (writes_alike x s u a (record t { command = commands.Pass cdb })) i
    command_among _ t i = absurd i.1

    -- what a task brings at one of two like devices it brings at the other
    pub brings_alike : (t : Entry) → Brings u t x block → Brings s t x block
    brings_alike t i = command_among t.command t i
