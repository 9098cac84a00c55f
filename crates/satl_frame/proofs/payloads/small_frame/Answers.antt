use Rattle.std.proofs.Common.{sym, refl}
use Rattle.satl_frame.proofs.payloads.small_frame.Goals as goal

pub returns-in_ok-manage_of-in-2-clause-found : goal.returns-in_ok-manage_of-in-2-clause-found
returns-in_ok-manage_of-in-2-clause-found c =
    let m = c.in_ok-manage_of-in-2.ensures.found in
    record { is_frame = m.1; kind_is = sym c.in-2.is; payload_is = m.0; no_page = refl; uncut = λ room. refl }

pub returns-in-3-clause-found : goal.returns-in-3-clause-found
returns-in-3-clause-found c =
    record { is_frame = c.turn_of.type_inv; kind_is = sym c.in-3.is; payload_is = c.turn_of.ensures; no_page = refl; uncut = λ room. refl }

pub returns-in_ok-event_of-in-4-clause-found : goal.returns-in_ok-event_of-in-4-clause-found
returns-in_ok-event_of-in-4-clause-found c =
    let e = c.in_ok-event_of-in-4.ensures.found in
    record { is_frame = e.is_event; kind_is = sym c.in-4.is; payload_is = e.fields_are; no_page = refl; uncut = λ room. refl }
