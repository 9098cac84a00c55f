-- An arrival at a sane device is that at its bare device, and back.
use Rattle.std.proofs.Common.{◌≡◌, refl, sym, ap, subst, true, List, [], ◌∷◌, ◌++◌}
use Rattle.std.specs.Prelude.{not}
use Rattle.satl_base.specs.declared.request.Request.{Request}
use Rattle.satl_base.specs.declared.reply.Reply.{Reply}
use Rattle.satl_base.proofs.ListsLemmas.{All-push_end, All-filter}
use Rattle.satl_direct.specs.Device.{Device, is_of, of_others, once_told}
use Rattle.satl_direct.specs.Arrival.{Arrival, ArrivesAs, arrival}
use Rattle.satl_direct.specs.Arrival.Arrival.{answered, attended, overlaps, waits}
use Rattle.satl_audit.specs.Skeleton.{bare}
use Rattle.satl_laws.proofs.QuietArrivals.{arrival_quiet}
use Rattle.satl_audit.proofs.Coming.{Comes, IsKnown}
use Rattle.satl_audit.proofs.Keeping.{IsSane, sane_same}

-- the same arrival at the bare device
pub arrival_bare : (s : Device) (r : Request) → arrival (bare s) r ≡ arrival s r
arrival_bare s r = arrival_quiet s r [] true

pub record Arrived (a : Arrival) (r : Request) (u : Device) (replies : List Reply) (v : Device) : Type 0 where
  pub bared : ArrivesAs a r (bare u) replies (bare v)
  pub cells : v.cells ≡ u.cells
  pub sane : IsSane v

pub arrives_split : (a : Arrival) (r : Request) (u v : Device) (replies : List Reply) → Comes u.identity.capacity a → IsSane u → ArrivesAs a r u replies v → Arrived a r u replies v
arrives_split (answered reply) r u v replies c h e = record { bared = (e.0, ap bare e.1); cells = ap (λ (x : Device). x.cells) e.1; sane = subst IsSane (sym e.1) h }
arrives_split (attended reply) r u v replies c h e = record {
  bared = (e.0, ap bare e.1);
  cells = ap (λ (x : Device). x.cells) e.1;
  sane = subst IsSane (sym e.1) (sane_same u (once_told r.nexus u) refl h.up h.started h.glitches refl h.known h);
}
arrives_split (overlaps reply) r u v replies c h e = record {
  bared = (e.0, ap bare e.1);
  cells = ap (λ (x : Device). x.cells) e.1;
  sane = subst IsSane (sym e.1) (sane_same u (record u { tasks = of_others r.nexus u.tasks }) refl h.up h.started h.glitches refl (All-filter (IsKnown u.identity.capacity) (λ t. not (is_of r.nexus t)) u.tasks h.known) h);
}
arrives_split (waits task) r u v replies c h e = record {
  bared = (e.0, ap bare e.1);
  cells = ap (λ (x : Device). x.cells) e.1;
  sane = subst IsSane (sym e.1) (sane_same u (record u { tasks = u.tasks ++ task ∷ [] }) refl h.up h.started h.glitches refl (All-push_end (IsKnown u.identity.capacity) u.tasks task h.known c) h);
}

pub record ArrivalMade (a : Arrival) (r : Request) (u : Device) (replies : List Reply) (bared : Device) : Type 0 where
  pub new : Device
  pub arrives : ArrivesAs a r u replies new
  pub bared_is : bare new ≡ bared
  pub cells : new.cells ≡ u.cells
  pub sane : IsSane new

pub arrives_made : (a : Arrival) (r : Request) (u bared : Device) (replies : List Reply) → Comes u.identity.capacity a → IsSane u → ArrivesAs a r (bare u) replies bared → ArrivalMade a r u replies bared
arrives_made (answered reply) r u bared replies c h e = record { new = u; arrives = (e.0, refl); bared_is = sym e.1; cells = refl; sane = h }
arrives_made (attended reply) r u bared replies c h e =
    record { new = once_told r.nexus u; arrives = (e.0, refl); bared_is = sym e.1; cells = refl; sane = (arrives_split (attended reply) r u (once_told r.nexus u) replies c h (e.0, refl)).sane }
arrives_made (overlaps reply) r u bared replies c h e =
    let new : Device = record u { tasks = of_others r.nexus u.tasks } in
    record { new = new; arrives = (e.0, refl); bared_is = sym e.1; cells = refl; sane = (arrives_split (overlaps reply) r u new replies c h (e.0, refl)).sane }
arrives_made (waits task) r u bared replies c h e =
    let new : Device = record u { tasks = u.tasks ++ task ∷ [] } in
    record { new = new; arrives = (e.0, refl); bared_is = sym e.1; cells = refl; sane = (arrives_split (waits task) r u new replies c h (e.0, refl)).sane }
