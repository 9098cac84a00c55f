use Rattle.satl_cdb.proofs.Texts.{laid-text}
use Rattle.satl_cdb.proofs.writing.pass_bytes.Goals as goal

pub returns : goal.returns
returns c = laid-text 16 c.args.cdb.now c.told-cdb
