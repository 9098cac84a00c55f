use Rattle.satl_drive.proofs.laws.a_drive_is_idle_only_where_nothing_is_outstanding.Goals as goal

pub returns : goal.returns
returns c = λ old new slots taken polled. polled.reports.none
