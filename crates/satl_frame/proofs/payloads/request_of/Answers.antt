use Rattle.std.proofs.Common.{arith, sym, ◌∙◌}
use Rattle.satl_frame.proofs.FieldBytes.{request_is, has_expected}
use Rattle.satl_frame.proofs.payloads.request_of.Goals as goal

pub returns-clause-found : goal.returns-clause-found
returns-clause-found c = (
  request_is c.args.version c.args.head.now c.copy_from_slice.new.self c.copy_from_slice-2.new.self _ c.in_ok-nexus.nexus _ c.expected_of-expected.result c.requires
      (λ i. omega (arith, c.type_inv.head i)) c.in_ok-nexus.ensures.1 c.in_ok-attr.ensures c.copy_from_slice.ensures.after c.number_4.ensures.spelled
      c.copy_from_slice-2.ensures.after c.expected_of-expected.ensures,
  record { nexus = omega (arith, c.in_ok-nexus.ensures.0, c.in_ok-nexus.ensures.1); lun = c.copy_from_slice.ensures.len; tag = c.number_4.type_inv; cdb = c.copy_from_slice-2.ensures.len; expected = has_expected c.args.version c.args.head.now _ c.expected_of-expected.ensures (sym c.is_expectable.ensures ∙ c.if-not-is_expectable.false) },
)
