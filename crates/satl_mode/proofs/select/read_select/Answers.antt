use Rattle.satl_mode.proofs.Unchanged.{ok_applied, ok_fixed, ok_change}
use Rattle.satl_mode.proofs.select.read_select.Goals as goal

pub returns-clause-applied : goal.returns-clause-applied
returns-clause-applied c = ok_applied _ _ _ c.args.list_length c.args.ten _ c.judge.ensures

pub returns-clause-fixed : goal.returns-clause-fixed
returns-clause-fixed c = ok_fixed _ _ _ c.args.list_length c.args.ten _ c.judge.ensures

pub returns-clause-change : goal.returns-clause-change
returns-clause-change c = ok_change _ _ _ c.args.list_length c.args.ten _ c.judge.ensures
