use Rattle.satl_fleet.proofs.ReportLemmas.{told_reply}
use Rattle.satl_fleet.proofs.reporting.report.Goals as goal

pub returns-clause-all : goal.returns-clause-all
returns-clause-all g c = told_reply c.args.units c.args.request c.target_reply-reply.result _ _ c.target_reply-reply.ensures.told c.in_ok-tell_reply.ensures.all
