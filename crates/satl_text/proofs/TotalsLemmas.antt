-- Totals behind one answer more.
use Rattle.std.proofs.Common.{◌≡◌, arith, ℕ, ◌+◌, List, [], ◌∷◌, ◌++◌}
use Rattle.std.specs.Prelude.{sum_by}
use Rattle.std.proofs.lemmas.List.Sums.{sum_by_push}
use Rattle.satl_base.specs.declared.reply.Scsi.TheVariants.{Good, CheckCondition, TaskSetFull}
use Rattle.satl_frame.specs.Output.{Answer}
use Rattle.satl_io.specs.Causes.{total}
use Rattle.satl_text.specs.Totals.{TotalsGrow, data_count, data_sum, one_with}

one_more : (f : Answer → ℕ) (answers : List Answer) (answer : Answer) →
    total (sum_by f (answers ++ answer ∷ [])) ≡ total (total (sum_by f answers) + f answer)
one_more f answers answer = omega (arith, sum_by_push f answers answer)

pub totals_grow : TotalsGrow
totals_grow requests answers answer =
    let good = one_more (one_with Good) answers answer in
    let check = one_more (one_with CheckCondition) answers answer in
    let full = one_more (one_with TaskSetFull) answers answer in
    let bytes = one_more data_count answers answer in
    let sum = one_more data_sum answers answer in
    cc
