use Rattle.satl_identify.proofs.Settings.{passes_again, sum_again}
use Rattle.satl_identify.proofs.writing.identity_bytes.Goals as goal

pub returns-clause-sum : goal.returns-clause-sum
returns-clause-sum c is = sum_again c.args.identity.now.bytes c.balance.new.bytes c.settings_of.result c.balance.array_long c.balance.ensures is

pub returns-clause-passes : goal.returns-clause-passes
returns-clause-passes c is = passes_again c.args.identity.now c.balance.new.bytes c.settings_of.result c.args.cache_on c.args.look_on c.balance.array_long c.settings_of.ensures c.balance.ensures is
