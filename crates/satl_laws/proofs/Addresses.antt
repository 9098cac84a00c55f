-- Which sectors a task writes turns on nothing but the task, the number of sectors and what the drive says of itself.
use Rattle.std.proofs.Common.{◌≡◌, refl, sym, ap, ◌∙◌, ℕ, ◌+◌, Bool, true, false, List, [], ◌∷◌, length, replicate, take}
use Rattle.std.specs.Prelude.{not, ◌==◌, ◌&&◌, ◌||◌, nat_lt, if◌then◌else◌}
use Rattle.std.specs.List.{list_any}
use Rattle.std.proofs.lemmas.List.Folds.{list_any-append}
use Rattle.satl_base.specs.declared.block.Block.{Block}
use Rattle.satl_base.specs.declared.block.Range.{Range}
use Rattle.satl_base.specs.Blocks.{over, zero_block}
use Rattle.satl_base.specs.Cells.{Pair, pairs_from}
use Rattle.satl_base.specs.Identify.{has_trim, trim_blocks}
use Rattle.satl_cdb.specs.declared.command.Command.{Command}
use Rattle.satl_cdb.specs.declared.command.Command.TheVariants as commands
use Rattle.satl_regs.specs.declared.values.AtaCommand.{AtaCommand}
use Rattle.satl_regs.specs.declared.values.AtaCommand.TheVariants as ata
use Rattle.satl_regs.specs.Commands.{command_in}
use Rattle.satl_regs.specs.Effects.{Medium, is_no_trim, is_outside, pairs_of, payload_ranges, zeros_at}
use Rattle.satl_regs.specs.Trim.{addresses}
use Rattle.satl_line.specs.declared.entry.Entry.{Entry}
use Rattle.satl_line.specs.Ranged.{zeros_over}
use Rattle.satl_direct.specs.Device.{Device}
use Rattle.satl_direct.specs.Ending.{device_medium, same_pairs}
use Rattle.satl_direct.specs.Quiet.{writes, written_by}
use Rattle.satl_direct.specs.Tasks.{pass_of}
use Rattle.satl_laws.proofs.TrimWords.{blocks_kept, trim_kept}

-- two devices of as many sectors, whose drives say the same of themselves
pub record Alike (s u : Device) : Type 0 where
  pub identity : u.identity ≡ s.identity
  pub size : length u.cells ≡ length s.cells

-- a device is like itself
pub alike_none : (s : Device) → Alike s s
alike_none s = record { identity = refl; size = refl }

-- and like what is like one that is like it
pub alike_on : (a b c : Device) → Alike a b → Alike b c → Alike a c
alike_on a b c p q = record { identity = q.identity ∙ p.identity; size = q.size ∙ p.size }

module _ (x : ℕ) where
  -- whether some pair names the sector
  abbrev named : List Pair → Bool
  named pairs = list_any (λ p. p.lba == x) pairs

  -- blocks in a row name the same sectors through the cache and past it
  from_named : (lba : ℕ) (blocks : List Block) (a b : Bool) → named (pairs_from lba blocks a) ≡ named (pairs_from lba blocks b)
  from_named lba [] a b = refl
  from_named lba (v ∷ vs) a b = ap (λ n. (lba == x) || n) (from_named (lba + 1) vs a b)

  -- so do zeros over ranges
  over_named : (ranges : List Range) (a b : Bool) → named (zeros_over ranges a) ≡ named (zeros_over ranges b)
  over_named [] a b = refl
  over_named (r ∷ rs) a b =
      list_any-append (λ p. p.lba == x) (pairs_from r.lba (replicate r.count zero_block) a) (zeros_over rs a)
      ∙ ap (λ n. n || named (zeros_over rs a)) (from_named r.lba (replicate r.count zero_block) a b)
      ∙ ap (λ n. named (pairs_from r.lba (replicate r.count zero_block) b) || n) (over_named rs a b)
      ∙ sym (list_any-append (λ p. p.lba == x) (pairs_from r.lba (replicate r.count zero_block) b) (zeros_over rs b))

  -- and one block over a range
  same_named : (lba count : ℕ) (blocks : List Block) (a b : Bool) → named (same_pairs lba count blocks a) ≡ named (same_pairs lba count blocks b)
  same_named lba count [] a b = refl
  same_named lba count (v ∷ vs) a b = from_named lba (replicate count v) a b

  -- and zeros at addresses
  at_named : (lbas : List ℕ) (a b : Bool) → named (zeros_at a lbas) ≡ named (zeros_at b lbas)
  at_named [] a b = refl
  at_named (l ∷ ls) a b = ap (λ n. (l == x) || n) (at_named ls a b)

  -- ranges go past the last of as many sectors alike
  outside_same : (m k : Medium) (ranges : List Range) → length k.cells ≡ length m.cells → list_any (is_outside k) ranges ≡ list_any (is_outside m) ranges
  outside_same m k [] size = refl
  outside_same m k (r ∷ rs) size = ap (λ n. nat_lt n (r.lba + r.count) || list_any (is_outside k) rs) size ∙ ap (λ n. nat_lt (length m.cells) (r.lba + r.count) || n) (outside_same m k rs size)

  module _ (s u : Device) (a : Alike s u) where
    -- the drives of like devices have trims, or both have none
    trims_alike : has_trim (device_medium u).identify ≡ has_trim (device_medium s).identify
    trims_alike =
        trim_kept u.identity.bytes u.modes.wce (not u.modes.dra)
        ∙ ap (λ i. has_trim i.bytes) a.identity
        ∙ sym (trim_kept s.identity.bytes s.modes.wce (not s.modes.dra))

    -- of the same length at most
    blocks_alike : trim_blocks (device_medium u).identify ≡ trim_blocks (device_medium s).identify
    blocks_alike =
        blocks_kept u.identity.bytes u.modes.wce (not u.modes.dra)
        ∙ ap (λ i. trim_blocks i.bytes) a.identity
        ∙ sym (blocks_kept s.identity.bytes s.modes.wce (not s.modes.dra))

    -- and abort the same trims
    no_trim_alike : (blocks : ℕ) (given : List Block) → is_no_trim blocks given (device_medium u) ≡ is_no_trim blocks given (device_medium s)
    no_trim_alike blocks given =
        ap (λ b. not b || nat_lt (trim_blocks (device_medium u).identify) blocks || list_any (is_outside (device_medium u)) (payload_ranges blocks given)) trims_alike
        ∙ ap (λ n. not (has_trim (device_medium s).identify) || nat_lt n blocks || list_any (is_outside (device_medium u)) (payload_ranges blocks given)) blocks_alike
        ∙ ap (λ b. not (has_trim (device_medium s).identify) || nat_lt (trim_blocks (device_medium s).identify) blocks || b) (outside_same (device_medium s) (device_medium u) (payload_ranges blocks given) a.size)

    -- an ATA command names the same sectors at both
    ata_named : (c : AtaCommand) (given : List Block) → named (pairs_of c (device_medium u) given) ≡ named (pairs_of c (device_medium s) given)
    ata_named (ata.Write how lba sectors) given =
        ap (λ n. named (if nat_lt n (lba + sectors) then [] else pairs_from lba (take sectors given) u.modes.wce)) a.size ∙ either (nat_lt (length s.cells) (lba + sectors))
      where
        either : (b : Bool) → named (if b then [] else pairs_from lba (take sectors given) u.modes.wce) ≡ named (if b then [] else pairs_from lba (take sectors given) s.modes.wce)
        either true = refl
        either false = from_named lba (take sectors given) u.modes.wce s.modes.wce
    ata_named (ata.Trim blocks) given =
        ap (λ b. named (if b then [] else zeros_at u.modes.wce (addresses (payload_ranges blocks given)))) (no_trim_alike blocks given) ∙ either (is_no_trim blocks given (device_medium s))
      where
        either : (b : Bool) → named (if b then [] else zeros_at u.modes.wce (addresses (payload_ranges blocks given))) ≡ named (if b then [] else zeros_at s.modes.wce (addresses (payload_ranges blocks given)))
        either true = refl
        either false = at_named (addresses (payload_ranges blocks given)) u.modes.wce s.modes.wce
    ata_named _ given = refl

    -- and so does a command of a task
    command_named : (c : Command) (t : Entry) → named (written_by c u t) ≡ named (written_by c s t)
    command_named (commands.Write form lba count fua) t = from_named lba t.body (u.modes.wce && not fua) (s.modes.wce && not fua)
    command_named (commands.WriteSame form lba count false) t = same_named lba count t.body u.modes.wce s.modes.wce
    command_named (commands.WriteSame form lba count true) t = over_named (over lba count ∷ []) u.modes.wce s.modes.wce
    command_named (commands.Unmap size) t = over_named t.ranges.items u.modes.wce s.modes.wce
    command_named (commands.Pass cdb) t = ata_named (command_in (pass_of cdb).regs) t.body
    command_named _ t = refl

    -- a task that spares a sector at one of the two spares it at the other
    pub writes_alike : (t : Entry) → named (writes u t) ≡ named (writes s t)
    writes_alike t = command_named t.command t
