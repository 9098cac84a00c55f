-- The totals of a replay (profile).
use Rattle.std.specs.Prelude.{ℕ, ◌≡◌, ◌+◌, ◌==◌, if◌then◌else◌, sum, sum_by, List, [], ◌∷◌, ◌++◌}
use Rattle.satl_base.specs.Blocks.{first_bytes}
use Rattle.satl_base.specs.Codes.{scsi_code}
use Rattle.satl_base.specs.declared.reply.Scsi.{Scsi}
use Rattle.satl_base.specs.declared.reply.Scsi.TheVariants.{Good, CheckCondition, TaskSetFull}
use Rattle.satl_io.specs.Causes.{total}
use Rattle.satl_frame.specs.Output.{Answer}
use Rattle.satl_frame.specs.Output.Answer.{replied, managed, closed}
use Rattle.satl_text.specs.declared.summary.Summary.{Summary}

-- one for a status that is this one, by the codes (profile)
abbrev pub one_for : Scsi → Scsi → ℕ
one_for wanted status = if scsi_code status == scsi_code wanted then 1 else 0

-- one for a reply with this status (profile)
abbrev pub one_with : Scsi → Answer → ℕ
one_with wanted (replied r) = one_for wanted r.status
one_with wanted (managed nexus function response tag) = 0
one_with wanted closed = 0

-- the bytes of data-in of a reply, whatever the host takes of them (profile)
abbrev pub data_count : Answer → ℕ
data_count (replied r) = r.data_len
data_count (managed nexus function response tag) = 0
data_count closed = 0

-- the sum of the values of these bytes (profile)
abbrev pub data_sum : Answer → ℕ
data_sum (replied r) = sum (first_bytes r.data_len r.body)
data_sum (managed nexus function response tag) = 0
data_sum closed = 0

-- the totals of so many requests and these answers (profile)
abbrev pub summary_of : ℕ → List Answer → Summary
summary_of requests answers = record {
  requests = total requests;
  good = total (sum_by (one_with Good) answers);
  check = total (sum_by (one_with CheckCondition) answers);
  full = total (sum_by (one_with TaskSetFull) answers);
  bytes = total (sum_by data_count answers);
  sum = total (sum_by data_sum answers);
}

-- the totals behind one answer more (profile)
abbrev pub with_answer : Summary → Answer → Summary
with_answer u answer = record {
  requests = u.requests;
  good = total (u.good + one_with Good answer);
  check = total (u.check + one_with CheckCondition answer);
  full = total (u.full + one_with TaskSetFull answer);
  bytes = total (u.bytes + data_count answer);
  sum = total (u.sum + data_sum answer);
}

-- the totals of answers and one more are those of the answers, and the one more (profile)
abbrev pub TotalsGrow : Type 0
TotalsGrow = (requests : ℕ) (answers : List Answer) (answer : Answer) →
    summary_of requests (answers ++ answer ∷ []) ≡ with_answer (summary_of requests answers) answer
