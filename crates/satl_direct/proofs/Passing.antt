-- An ATA PASS-THROUGH whose data do not go to the drive writes nothing.
use Rattle.std.proofs.Common.{◌≡◌, refl, ap, ◌∙◌, subst, ℕ, ◌*◌, Bool, true, false, List, [], arith, eqb-true, take}
use Rattle.std.proofs.lemmas.Bool.{not-false}
use Rattle.std.specs.Prelude.{if◌then◌else◌, not, ◌==◌, ◌&&◌, ◌+◌, nat_lt, length}
use Rattle.satl_base.specs.declared.block.Block.{Block}
use Rattle.satl_base.specs.Cells.{pairs_from}
use Rattle.satl_regs.specs.declared.values.AtaCommand.{AtaCommand}
use Rattle.satl_regs.specs.declared.values.AtaCommand.TheVariants as ata
use Rattle.satl_regs.specs.Effects.{Medium, is_no_trim, pairs_of, payload_ranges, zeros_at}
use Rattle.satl_regs.specs.Trim.{addresses}
use Rattle.satl_pass.specs.declared.pass.Pass.{Pass}
use Rattle.satl_pass.specs.Reading.{has_other_direction, has_other_length}

-- where a length is the command's and is not 0, the data go the command's way
no_blocks : (pass : Pass) (sectors : ℕ) → not (pass.length == 512 * sectors) ≡ false → (not (pass.length == 0) && (if pass.out then false else true)) ≡ false → pass.out ≡ false → sectors ≡ 0
no_blocks pass sectors own way back =
    let size : pass.length ≡ 512 * sectors = eqb-true pass.length (512 * sectors) (not-false (pass.length == 512 * sectors) own) in
    let empty : pass.length ≡ 0 = eqb-true pass.length 0 (not-false (pass.length == 0) (only (not (pass.length == 0)) (subst (λ b. (not (pass.length == 0) && (if b then false else true)) ≡ false) back way))) in
    omega (arith, size, empty)
  where
    only : (b : Bool) → (b && true) ≡ false → b ≡ false
    only true h = h
    only false h = refl

-- a command whose length and direction are its own, and that has no data-out, writes nothing
pub writes_none : (a : AtaCommand) (pass : Pass) → has_other_length a pass ≡ false → has_other_direction a pass ≡ false → pass.out ≡ false → (m : Medium) (given : List Block) → pairs_of a m given ≡ []
writes_none (ata.Read how lba sectors) pass own way back m given = refl
writes_none (ata.Write how lba sectors) pass own way back m given =
    ap (λ n. if nat_lt (length m.cells) (lba + sectors) then [] else pairs_from lba (take n given) m.cache) (no_blocks pass sectors own way back) ∙ either (nat_lt (length m.cells) (lba + sectors))
  where
    either : (b : Bool) → (if b then [] else pairs_from lba (take 0 given) m.cache) ≡ []
    either true = refl
    either false = refl
writes_none (ata.Verify ext lba sectors) pass own way back m given = refl
writes_none (ata.Flush ext) pass own way back m given = refl
writes_none ata.Identify pass own way back m given = refl
writes_none (ata.SetFeatures what) pass own way back m given = refl
writes_none ata.Standby pass own way back m given = refl
writes_none ata.Idle pass own way back m given = refl
writes_none ata.CheckPower pass own way back m given = refl
writes_none (ata.ReadLog log page blocks) pass own way back m given = refl
writes_none (ata.Trim blocks) pass own way back m given =
    ap (λ n. if is_no_trim blocks given m then [] else zeros_at m.cache (addresses (payload_ranges n given))) (no_blocks pass blocks own way back) ∙ either (is_no_trim blocks given m)
  where
    either : (b : Bool) → (if b then [] else zeros_at m.cache (addresses (payload_ranges 0 given))) ≡ []
    either true = refl
    either false = refl
writes_none ata.SmartStatus pass own way back m given = refl
writes_none (ata.Other code) pass own way back m given = refl
