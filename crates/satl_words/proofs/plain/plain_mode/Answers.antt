use Rattle.satl_words.proofs.PlainLemmas.{six}
use Rattle.satl_words.proofs.plain.plain_mode.Goals as goal

pub returns-in-6-clause-spelled : goal.returns-in-6-clause-spelled
returns-in-6-clause-spelled c =
    six c.load_asked.result c.args.words.now c.index-words-1-in-6.result c.index-words-2.result c.index-words-3.result c.index-words-4.result c.index-words-5.result c.in-6.is
    c.index-words-1-in-6.is c.index-words-2.is c.index-words-3.is c.index-words-4.is c.index-words-5.is c.load_asked.ensures.spelled
