use Rattle.satl_step.proofs.TallyLemmas.{tied_same}
use Rattle.satl_usb.proofs.answering.answer_item.Goals as goal

pub returns-then-asks_sense-clause-leaves : goal.returns-then-asks_sense-clause-leaves
returns-then-asks_sense-clause-leaves g c = record {
  tied = tied_same c.args.satl.now c.repeat_sense.new.satl (g.D.Drive.state c.args.drive.now) c.in_ok-repeat_sense.ensures.stays c.requires.can.tied;
  all_in = c.in_ok-repeat_sense.ensures.all_in;
  none = c.requires.can.none;
  kept = tt;
  writable = tt;
}
