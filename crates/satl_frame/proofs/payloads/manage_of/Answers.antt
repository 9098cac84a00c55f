use Rattle.std.proofs.Common.{arith}
use Rattle.satl_frame.proofs.FieldBytes.{manage_is}
use Rattle.satl_frame.proofs.payloads.manage_of.Goals as goal

pub returns-clause-found : goal.returns-clause-found
returns-clause-found c = (
  manage_is c.args.payload.now c.copy_from_slice.new.self c.in_ok-nexus.nexus _ c.requires c.in_ok-nexus.ensures.1 c.copy_from_slice.ensures.after c.number_4.ensures.spelled,
  record { nexus = omega (arith, c.in_ok-nexus.ensures.0, c.in_ok-nexus.ensures.1); function = omega (arith, c.type_inv.payload 1); lun = c.copy_from_slice.ensures.len; tag = c.number_4.type_inv },
)
