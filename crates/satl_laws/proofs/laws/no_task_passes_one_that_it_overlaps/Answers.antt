use Rattle.satl_laws.proofs.Passing.{none_passes, none_passes_alone, none_shows, none_shows_alone, others_pass}
use Rattle.satl_laws.proofs.laws.no_task_passes_one_that_it_overlaps.Goals as goal

pub returns-clause-overlapping : goal.returns-clause-overlapping
returns-clause-overlapping c = none_passes

pub returns-clause-alone : goal.returns-clause-alone
returns-clause-alone c = none_passes_alone

pub returns-clause-early : goal.returns-clause-early
returns-clause-early c = none_shows

pub returns-clause-early_alone : goal.returns-clause-early_alone
returns-clause-early_alone c = none_shows_alone

pub returns-clause-others : goal.returns-clause-others
returns-clause-others c = others_pass
