use Rattle.std.proofs.Common.{sym, ap, ◌∙◌, List}
use Rattle.satl_line.specs.declared.entry.Entry.{Entry}
use Rattle.satl_line.specs.Eligible.{eligible_at}
use Rattle.satl_audit.specs.Waiting.{entries_in}
use Rattle.satl_audit.proofs.WaitingLemmas.{entries_same}
use Rattle.satl_audit.proofs.waiting.Waiting.eligible.Goals as goal

pub returns : goal.returns
returns c = c.eligible.ensures ∙ ap (λ (l : List Entry). eligible_at l c.args.place) (sym (entries_same c.self.inside.places c.self.inside.tasks) ∙ ap entries_in c.self.view_is)
