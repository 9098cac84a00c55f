use Rattle.satl_frame.proofs.FieldBytes.{strike_is}
use Rattle.satl_frame.proofs.payloads.strike_of.Goals as goal

pub returns-clause-found : goal.returns-clause-found
returns-clause-found c = record {
  is_event = c.number_8-lba.type_inv;
  fields_are = strike_is c.args.payload.now _ _ c.if-payload-ne10.false c.requires.event c.in_ok-which.ensures.some c.number_8-lba.ensures.spelled;
}
