-- The bridge from before the layer was opened.
use Rattle.std.proofs.Common.{◌≡◌, ap, ◌∙◌, ℕ, ◌+◌, ◌≤◌, [], ◌∷◌, ◌++◌}
use Rattle.satl_drive.specs.State.{DriveState}
use Rattle.satl_direct.specs.Device.{Device}
use Rattle.satl_core.specs.Layer.{Layer, Tied, view}
use Rattle.satl_core.specs.Opening.{IsOpened}
use Rattle.satl_core.specs.Tie.{TiesQueue, given_by}
use Rattle.satl_serve.specs.Moments.{Moment, Spot, spot_at}
use Rattle.satl_serve.specs.Runs.{Serves}
use Rattle.satl_serve.proofs.ServingLemmas.{first_of, left_as, sooner}
use Rattle.satl_step.specs.Runs.{IsDeep, Tally, tally_of}
use Rattle.satl_usb.specs.Bridge.{Bridged, BridgedBefore, BridgedInPart, BridgedUpTo, BridgedWhole, Talk, talk_of}
use Rattle.satl_usb.specs.Headline.{IsStopped, RanTo}
use Rattle.satl_usb.specs.declared.fault.UsbFault.{UsbFault}
use Rattle.satl_usb.specs.declared.fault.UsbFault.TheVariants as faults

-- a run is counted from an earlier stand
bridged_sooner : (limit : ℕ) (a b : Spot) (s : Device) (old new : Tally) (same : new ≡ record old { calls = new.calls }) (few : new.calls ≤ old.calls) (talk : Talk)
    → Bridged limit (record a { stand = record { device = s; tally = new } }) b talk → Bridged limit (record a { stand = record { device = s; tally = old } }) b talk
bridged_sooner limit a b s old new same few talk r = record {
  events = r.events;
  groups = r.groups;
  taken = r.taken;
  exchange = r.exchange;
  run = sooner s old new same few b.stand r.events r.groups r.run;
  idle = r.idle;
  unplugs = r.unplugs ∙ ap (λ (t : Tally). t.unplugs) same;
  orders = r.orders ∙ ap (λ (t : Tally). t.orders) same;
}

-- how the layer was opened and its items were bridged, on a drive that was first so, then opened, and last so
module _ (limit : ℕ) (before after : Moment) (mid_drive : DriveState) (opened : ℕ) (l l' : Layer) (is : IsOpened before.drive l mid_drive) (one : opened ≤ before.calls + 1) (tied : Tied l' after.drive) (ties : TiesQueue l' after.drive) where
  abbrev a : Spot
  a = record { left = before.source.left; waited = before.source.waited; written = before.sink.written; stand = record { device = view l mid_drive; tally = tally_of mid_drive opened } }

  abbrev b : Spot
  b = spot_at (view l' after.drive) after.calls after

  same : tally_of mid_drive opened ≡ record (tally_of before.drive (before.calls + 1)) { calls = opened }
  same = ap (λ (d : DriveState). tally_of d opened) is.stays

  serves : (Run : Spot → Spot → Type 0) → Run (spot_at (view l mid_drive) (before.calls + 1) before) b → Serves Run before after
  serves Run r = record {
    first = view l mid_drive;
    last = view l' after.drive;
    begins = first_of before.drive mid_drive l is;
    run = r;
    ends = left_as l' after.drive tied;
    queue = record { given = given_by l'; queue = ties.queue };
  }

  earlier : (mid : Spot) (talk : Talk) → Bridged limit a mid talk → Bridged limit (spot_at (view l mid_drive) (before.calls + 1) before) mid talk
  earlier mid talk r = bridged_sooner limit a mid (view l mid_drive) (tally_of before.drive (before.calls + 1)) (tally_of mid_drive opened) same one talk r

  pub serves_whole : IsDeep (tally_of before.drive (before.calls + 1)) → BridgedWhole limit a b → Serves (BridgedWhole limit) before after
  serves_whole deep r =
      let x = earlier b r.talk r.bridged in
      serves (BridgedWhole limit) (record { talk = r.talk; bridged = x; at_end = r.at_end; wrote = r.wrote; deep = x.run.covered deep })

  pub stops : (fault : UsbFault) → RanTo limit a b fault → IsStopped limit before after fault
  stops (faults.Open opening) r = absurd r
  stops (faults.BadInput offset) r = serves (BridgedBefore limit offset) (record { talk = r.talk; mid = r.mid; bridged = earlier (record b { left = r.mid }) r.talk r.bridged; offset_is = r.offset_is; refused = r.refused; front = r.front; awaits = r.awaits; wrote = r.wrote })
  stops faults.Read r = serves (BridgedUpTo limit) (record { talk = r.talk; mid = r.mid; bridged = earlier (record b { left = r.mid }) r.talk r.bridged; cut_off = r.cut_off; wrote = r.wrote })
  stops faults.Write r = serves (BridgedInPart limit) (record { earlier = r.earlier; last = r.last; due = r.due; answer = r.answer; kept = r.kept; behind = r.behind; bridged = earlier b (talk_of (r.earlier ++ r.last ∷ []) (r.due ++ r.answer ∷ []) r.kept) r.bridged; unwaited = r.unwaited; wrote = r.wrote; part = r.part })
