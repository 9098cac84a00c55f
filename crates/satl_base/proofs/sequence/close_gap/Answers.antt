use Rattle.satl_base.proofs.SequenceLemmas.{gap-closed}
use Rattle.satl_base.proofs.sequence.close_gap.Goals as goal

pub returns-clause-kept : goal.returns-clause-kept
returns-clause-kept g c =
    gap-closed c.args.items.now c.rotate_left.new.self c.args.place c.requires c.rotate_left.ensures.after
