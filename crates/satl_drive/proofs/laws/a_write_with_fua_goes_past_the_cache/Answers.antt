use Rattle.std.proofs.Common.{ap, ◌∙◌, refl, Bool, true, false, ◌≡◌}
use Rattle.std.specs.Prelude.{◌&&◌, not}
use Rattle.satl_base.specs.Cells.{pairs_from}
use Rattle.satl_drive.specs.Queue.{pairs_by}
use Rattle.satl_drive.proofs.laws.a_write_with_fua_goes_past_the_cache.Goals as goal

never_cached : (cache : Bool) → (cache && not true) ≡ false
never_cached true = refl
never_cached false = refl

pub returns : goal.returns
returns c = λ cache q write fua.
    ap (λ kind. pairs_by kind cache q) write ∙ ap (λ past. pairs_from q.command.lba q.blocks (cache && not past)) fua ∙ ap (pairs_from q.command.lba q.blocks) (never_cached cache)
