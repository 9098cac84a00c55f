use Rattle.satl_cdb.proofs.ReadBack.{given_back}
use Rattle.satl_cdb.proofs.writing.write_cdb.Goals as goal

pub returns-clause-read_back : goal.returns-clause-read_back
returns-clause-read_back c = λ cdb trim b e. rw c.bytes_of.ensures (given_back cdb trim c.args.command.now b e)
