-- The bytes of the answers fix what an event does.
use Rattle.std.proofs.Common.{◌≡◌, refl, sym, ap, ◌∙◌, subst, ℕ, true, List, [], ◌∷◌, ◌++◌, map, append_assoc}
use Rattle.std.specs.Prelude.{◌<◌, ◌^◌, not}
use Rattle.std.proofs.lemmas.Bool.{and_parts}
use Rattle.satl_base.specs.declared.bench.BenchEvent.{BenchEvent}
use Rattle.satl_base.specs.declared.bench.BenchEvent.TheVariants as events
use Rattle.satl_base.specs.declared.request.Request.{Request}
use Rattle.satl_base.specs.declared.reply.Reply.{Reply}
use Rattle.satl_base.proofs.ListsLemmas.{All-push_end, All-filter}
use Rattle.satl_frame.specs.declared.frames.Frame.{Frame}
use Rattle.satl_frame.specs.declared.frames.Frame.TheVariants as frames
use Rattle.satl_frame.specs.Output.{Answer, all_answered, end_bytes, reply_bytes}
use Rattle.satl_frame.specs.Output.Answer.{replied, closed}
use Rattle.satl_cdb.specs.Table.{says}
use Rattle.satl_direct.specs.Device.{Device, is_of}
use Rattle.satl_direct.specs.Arrival.{Arrival, ArrivesAs, arrival, is_unit_0}
use Rattle.satl_direct.specs.Arrival.Arrival.{answered, attended, overlaps, waits}
use Rattle.satl_direct.proofs.Naming.{own_filtered, own_none, own_pushed}
use Rattle.satl_audit.specs.Deeds.{Deed}
use Rattle.satl_cover.specs.Known.{is_known, is_known_frame}
use Rattle.satl_audit.specs.Skeleton.{Benched, Stepped}
use Rattle.satl_audit.proofs.Forming.{IsNewIn, arrival_new}
use Rattle.satl_audit.specs.Deciding.{AllWhole, IsFineFrame}
use Rattle.satl_audit.proofs.Telling.{IsFine}
use Rattle.satl_audit.proofs.FixingTurns.{said, Kept, turns_keep, SameTurns, turns_same, drains_same}

arrives_keep : (a : Arrival) (r : Request) (s u : Device) (replies : List Reply) → Kept s → IsFineFrame (frames.Request r) → IsNewIn s r a → ArrivesAs a r s replies u → Kept u
arrives_keep (answered reply) r s u replies k f n e = subst Kept (sym e.1) k
arrives_keep (attended reply) r s u replies k f n e = subst Kept (sym e.1) (record { own = k.own; fine = k.fine })
arrives_keep (overlaps reply) r s u replies k f n e =
    subst Kept (sym e.1) (record { own = own_filtered (λ t. not (is_of r.nexus t)) s.tasks k.own; fine = All-filter IsFine (λ t. not (is_of r.nexus t)) s.tasks k.fine })
arrives_keep (waits t) r s u replies k f n e =
    subst Kept (sym e.1) (record { own = own_pushed s.tasks t n.own k.own; fine = All-push_end IsFine s.tasks t k.fine (subst (λ (g : _). g.0 < 2 ^ 32) (sym n.tag) f.0, n.expected ∙ f.1) })

benched_keep : (event : BenchEvent) (s u : Device) (ds : List Deed) → Kept s → Benched event s ds u → Kept u
benched_keep (events.Strike which lba) s u ds k e = absurd e
benched_keep (events.Mend lba) s u ds k e = absurd e
benched_keep (events.Glitch count) s u ds k e = absurd e
benched_keep (events.Order order) s u ds k e = subst Kept (sym e.1) k
benched_keep events.Power s u ds k e = subst Kept (sym e.1) (record { own = own_none; fine = tt })
benched_keep events.Unplug s u ds k e = absurd e

pub stepped_keep : (event : Frame) (s u : Device) (now : List Answer) (ds : List Deed) → Kept s → IsFineFrame event → is_known_frame s.identity.trim event ≡ true → Stepped event s now ds u → Kept u
stepped_keep (frames.Request r) s u now ds k f kn e = arrives_keep (arrival s r) r s u e.0 k f (arrival_new s r (and_parts (is_unit_0 r.lun) (is_known (says r.cdb s.identity.trim)) kn).1) e.2
stepped_keep (frames.Manage m) s u now ds k f kn e = absurd e
stepped_keep (frames.Turn n) s u now ds k f kn e = turns_keep s k e.2
stepped_keep (frames.Bench event) s u now ds k f kn e = benched_keep event s u ds k e.1
stepped_keep frames.End s u now ds k f kn e = turns_keep s k e.3

-- what follows the same bytes
pub after_same : (xs ys rest rest' : List ℕ) → xs ≡ ys → xs ++ rest ≡ ys ++ rest' → rest ≡ rest'
after_same xs ys rest rest' e h = go ys (subst (λ l. l ++ rest ≡ ys ++ rest') e h)
  where
    go : (zs : List ℕ) → zs ++ rest ≡ zs ++ rest' → rest ≡ rest'
    go [] h = h
    go (z ∷ zs) h = go zs (tail h)
      where
        tail : {us bs : List ℕ} → z ∷ us ≡ z ∷ bs → us ≡ bs
        tail e = cc

-- an arrival is fixed
pub record SameArrival (replies others : List Reply) (u v : Device) : Type 0 where
  pub replies_same : replies ≡ others
  pub new_same : u ≡ v

arrives_same : (a : Arrival) (r : Request) (s u v : Device) (replies others : List Reply) → ArrivesAs a r s replies u → ArrivesAs a r s others v → SameArrival replies others u v
arrives_same (answered reply) r s u v replies others e f = record { replies_same = e.0 ∙ sym f.0; new_same = e.1 ∙ sym f.1 }
arrives_same (attended reply) r s u v replies others e f = record { replies_same = e.0 ∙ sym f.0; new_same = e.1 ∙ sym f.1 }
arrives_same (overlaps reply) r s u v replies others e f = record { replies_same = e.0 ∙ sym f.0; new_same = e.1 ∙ sym f.1 }
arrives_same (waits t) r s u v replies others e f = record { replies_same = e.0 ∙ sym f.0; new_same = e.1 ∙ sym f.1 }

benched_same : (event : BenchEvent) (s u v : Device) (ds es : List Deed) → Benched event s ds u → Benched event s es v → (ds ≡ es) × (u ≡ v)
benched_same (events.Strike which lba) s u v ds es e f = absurd e
benched_same (events.Mend lba) s u v ds es e f = absurd e
benched_same (events.Glitch count) s u v ds es e f = absurd e
benched_same (events.Order order) s u v ds es e f = (e.0 ∙ sym f.0, e.1 ∙ sym f.1)
benched_same events.Power s u v ds es e f = (e.0 ∙ sym f.0, e.1 ∙ sym f.1)
benched_same events.Unplug s u v ds es e f = absurd e

pub ended_push : (replies : List Reply) (rest : List ℕ) → all_answered (map replied replies ++ closed ∷ []) ++ rest ≡ said replies ++ (end_bytes ++ rest)
ended_push [] rest = append_assoc end_bytes [] rest
ended_push (q ∷ replies) rest = append_assoc (reply_bytes q) (all_answered (map replied replies ++ closed ∷ [])) rest ∙ ap (λ l. reply_bytes q ++ l) (ended_push replies rest) ∙ sym (append_assoc (reply_bytes q) (said replies) (end_bytes ++ rest))

pub stepped_same : (event : Frame) (s u v : Device) (now others : List Answer) (ds es : List Deed) (rest rest' : List ℕ) → Kept s → AllWhole ds → AllWhole es → Stepped event s now ds u → Stepped event s others es v →
    all_answered now ++ rest ≡ all_answered others ++ rest' → SameTurns ds es u v rest rest'
stepped_same (frames.Request r) s u v now others ds es rest rest' k w z e f h =
    let x = arrives_same (arrival s r) r s u v e.0 f.0 e.2 f.2 in
    record {
      deeds_same = e.3 ∙ sym f.3;
      new_same = x.new_same;
      rest_same = after_same (all_answered now) (all_answered others) rest rest' (ap all_answered (e.1 ∙ ap (map replied) x.replies_same ∙ sym f.1)) h;
    }
stepped_same (frames.Manage m) s u v now others ds es rest rest' k w z e f h = absurd e
stepped_same (frames.Turn n) s u v now others ds es rest rest' k w z e f h =
    turns_same s k e.2 f.2 rest rest' w z (ap (λ l. all_answered l ++ rest) (sym e.1) ∙ h ∙ ap (λ l. all_answered l ++ rest') f.1)
stepped_same (frames.Bench event) s u v now others ds es rest rest' k w z e f h =
    let x = benched_same event s u v ds es e.1 f.1 in
    record { deeds_same = x.0; new_same = x.1; rest_same = after_same (all_answered now) (all_answered others) rest rest' (ap all_answered (e.0 ∙ sym f.0)) h }
stepped_same frames.End s u v now others ds es rest rest' k w z e f h =
    let x = drains_same s k e.2 f.2 e.0 f.0 ds es u v e.3 e.4 f.3 f.4 (end_bytes ++ rest) (end_bytes ++ rest') w z
    (sym (ended_push e.0 rest) ∙ ap (λ l. all_answered l ++ rest) (sym e.1) ∙ h ∙ ap (λ l. all_answered l ++ rest') f.1 ∙ ended_push f.0 rest') in
    record { deeds_same = x.deeds_same; new_same = x.new_same; rest_same = after_same end_bytes end_bytes rest rest' refl x.rest_same }
