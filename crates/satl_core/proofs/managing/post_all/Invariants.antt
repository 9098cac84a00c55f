use Rattle.std.proofs.Common.{◌≡◌, length}
use Rattle.std.specs.Prelude.{Some}
use Rattle.satl_core.specs.Managing.{condition_of, is_told, once_posted}
use Rattle.satl_core.proofs.ManagingLemmas.{rest_posted}
use Rattle.satl_core.proofs.managing.post_all.Given as goal

abbrev pub invariant-loop-number : goal.invariant-loop-number
invariant-loop-number l = record {
  rest : rest_posted (is_told l.posting l.queue.tasks) (condition_of l.posting) l.number 0 l.attentions ≡ once_posted (Some l.posting) l.queue.tasks l.initial.attentions;
  count : length l.attentions ≡ 4;
}
