use Rattle.satl_mode.proofs.ShownLemmas.{gives_what_was_shown}
use Rattle.satl_mode.proofs.laws.selecting_what_is_shown_gives_it.Goals as goal

pub returns : goal.returns
returns c = gives_what_was_shown
