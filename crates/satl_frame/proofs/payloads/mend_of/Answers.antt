use Rattle.satl_frame.proofs.FieldBytes.{mend_is}
use Rattle.satl_frame.proofs.payloads.mend_of.Goals as goal

pub returns-clause-found : goal.returns-clause-found
returns-clause-found c = record {
  is_event = c.number_8-lba.type_inv;
  fields_are = mend_is c.args.payload.now _ c.if-payload-ne9.false c.requires.event c.number_8-lba.ensures.spelled;
}
