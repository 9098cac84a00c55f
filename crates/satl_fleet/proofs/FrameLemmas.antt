-- A frame, routed.
use Rattle.std.proofs.Common.{◌≡◌, refl, sym, ap, subst, ◌∙◌, arith, ℕ, true, false, List, [], ◌∷◌, ◌++◌}
use Rattle.std.proofs.lemmas.Bool.{eq-eqb, ne_eqb}
use Rattle.std.proofs.lemmas.List.{append-nil}
use Rattle.std.specs.Prelude.{◌==◌, if◌then◌else◌, Option}
use Rattle.std.specs.List.{AllByRecursion}
use Rattle.satl_base.specs.declared.request.Request.{Request}
use Rattle.satl_base.specs.declared.request.Manage.{Manage}
use Rattle.satl_io.specs.Known.{Wrote, WrotePart}
use Rattle.satl_io.proofs.Joined.{Wrote-more, Wrote-none, WrotePart-front, WrotePart-more}
use Rattle.satl_frame.specs.Output.{Answer, end_bytes}
use Rattle.satl_frame.specs.Output.Answer.{replied}
use Rattle.satl_frame.specs.declared.frames.Frame.{Frame}
use Rattle.satl_frame.specs.declared.frames.Frame.TheVariants as frames
use Rattle.satl_fleet.specs.Output.{all_of, end_told, named, round_told, target_told, told_from, told_under}
use Rattle.satl_fleet.specs.Rounds.{AllDid, AllDidInPart, CallsNoneAt, DidAt, DidAtInPart, EachDid, IsTurnOrBench, NoneCalls, RoundDone, RoundInPart, Stage, Stops, round_of, silence, stage}
use Rattle.satl_fleet.specs.Rounds.IsCut.{at_unit, behind_all}
use Rattle.satl_fleet.specs.Routing.{is_for_all, is_report, lun_0, route_to, seen}
use Rattle.satl_fleet.specs.declared.routing.Route.{Route}
use Rattle.satl_fleet.specs.Target.{target_reply}
use Rattle.satl_fleet.specs.Serving.{Target}
use Rattle.satl_fleet.specs.Units.{UnitState}
use Rattle.satl_fleet.proofs.RoundLemmas.{all_pass, alone, alone_breaks, one_serves, one_stops, serves_all, stops_all, told_alone, told_in_part, told_silence}

-- ---- what it is to the units

module _ (units : ℕ) (r : Request) where
  abbrev there : Frame
  there = frames.Request (record r { lun = (route_to units r.lun).lun })

  pub request_here : is_report r ≡ false → seen units (route_to units r.lun).unit (frames.Request r) ≡ there ∷ []
  request_here other =
      ap (λ b. if b then [] else if (route_to units r.lun).unit == (route_to units r.lun).unit then there ∷ [] else []) other
      ∙ ap (λ b. if b then there ∷ [] else []) (eq-eqb (route_to units r.lun).unit (route_to units r.lun).unit refl)

  pub request_other : is_report r ≡ false → (i : ℕ) → (i ≡ (route_to units r.lun).unit → ⊥) → seen units i (frames.Request r) ≡ []
  request_other other i apart =
      ap (λ b. if b then [] else if (route_to units r.lun).unit == i then there ∷ [] else []) other
      ∙ ap (λ b. if b then there ∷ [] else []) (ne_eqb (route_to units r.lun).unit i (λ e. apart (sym e)))

  request_none : is_report r ≡ true → (i : ℕ) → seen units i (frames.Request r) ≡ []
  request_none said i = ap (λ b. if b then [] else if (route_to units r.lun).unit == i then there ∷ [] else []) said

module _ (units : ℕ) (m : Manage) where
  abbrev managed_there : Frame
  managed_there = frames.Manage (record m { lun = (route_to units m.lun).lun })

  abbrev for_all : Frame
  for_all = frames.Manage (record m { lun = lun_0 })

  pub manage_all : is_for_all m ≡ true → (i : ℕ) → seen units i (frames.Manage m) ≡ for_all ∷ []
  manage_all said i = ap (λ b. if b then for_all ∷ [] else if (route_to units m.lun).unit == i then managed_there ∷ [] else []) said

  pub manage_here : is_for_all m ≡ false → seen units (route_to units m.lun).unit (frames.Manage m) ≡ managed_there ∷ []
  manage_here one =
      ap (λ b. if b then for_all ∷ [] else if (route_to units m.lun).unit == (route_to units m.lun).unit then managed_there ∷ [] else []) one
      ∙ ap (λ b. if b then managed_there ∷ [] else []) (eq-eqb (route_to units m.lun).unit (route_to units m.lun).unit refl)

  pub manage_other : is_for_all m ≡ false → (i : ℕ) → (i ≡ (route_to units m.lun).unit → ⊥) → seen units i (frames.Manage m) ≡ []
  manage_other one i apart =
      ap (λ b. if b then for_all ∷ [] else if (route_to units m.lun).unit == i then managed_there ∷ [] else []) one
      ∙ ap (λ b. if b then managed_there ∷ [] else []) (ne_eqb (route_to units m.lun).unit i (λ e. apart (sym e)))

-- ---- what is told

module _ (units : ℕ) (frame : Frame) (quiet : target_told units frame ≡ []) (goes_on : end_told frame ≡ []) where
  plain_told : (groups : List (List Answer)) → told_from 0 groups ≡ round_told units (round_of frame groups)
  plain_told groups =
      sym (ap (λ l. l ++ (told_from 0 groups ++ end_told frame)) quiet ∙ (ap (λ l. told_from 0 groups ++ l) goes_on ∙ append-nil (told_from 0 groups)))

  module _ (event : Frame) (a b : Stage) where
    pub all_round : ((k : ℕ) → seen units k frame ≡ event ∷ []) → AllDid event a b → RoundDone units frame a b
    all_round each all = record {
      groups = all.groups;
      each = serves_all units frame event each 0 all.did refl;
      wrote = subst (Wrote a.written b.written) (plain_told all.groups) all.wrote;
    }

    pub all_round_part : ((k : ℕ) → seen units k frame ≡ event ∷ []) → AllDidInPart event a b → RoundInPart units frame a b
    all_round_part each all = record {
      groups = all.groups;
      cut = at_unit all.stop all.cut (stops_all units frame event each 0 all.stop all.did (omega arith)) all.breaks;
      part = subst (WrotePart a.written b.written) (plain_told all.groups) all.part;
    }

    module _ (at : ℕ) (here : seen units at frame ≡ event ∷ []) (others : (i : ℕ) → (i ≡ at → ⊥) → seen units i frame ≡ []) where
      pub one_round : DidAt at event a b → RoundDone units frame a b
      one_round d = record {
        groups = alone at d.answers a.target.units;
        each = subst (EachDid units frame 0 (alone at d.answers a.target.units) a.target.units) (sym d.set) (one_serves units frame event at here others d.answers d.old d.new 0 at a.target.units (omega arith) d.here d.did);
        wrote = subst (Wrote a.written b.written) (ap (λ n. told_under n d.answers) (omega arith) ∙ (sym (told_alone 0 at d.answers a.target.units d.old d.here) ∙ plain_told (alone at d.answers a.target.units))) d.wrote;
      }

      pub one_round_part : DidAtInPart at event a b → RoundInPart units frame a b
      one_round_part d =
          let answers = all_of d.cut in
          record {
            groups = alone at answers a.target.units;
            cut = at_unit at d.cut
                (subst (λ ss. Stops units frame at d.cut 0 (alone at answers a.target.units) a.target.units ss) (sym d.set) (one_stops units frame event at here others answers d.old d.new d.cut refl 0 at a.target.units (omega arith) d.here d.did))
                (alone_breaks at d.cut a.target.units d.old a.written b.written d.here d.told);
            part = subst (WrotePart a.written b.written) (ap (λ n. told_under n answers) (omega arith) ∙ (sym (told_alone 0 at answers a.target.units d.old d.here) ∙ plain_told (alone at answers a.target.units)))
                (told_in_part at d.cut a.written b.written d.told);
          }

-- the target's own answer
module _ (units : ℕ) (r : Request) (said : is_report r ≡ true) (t : Target) (written written' : Option (List ℕ)) where
  reported : named 0 (replied (target_reply units r) ∷ []) ≡ round_told units (round_of (frames.Request r) (silence t.units))
  reported =
      sym (ap (λ b. (if b then named 0 (replied (target_reply units r) ∷ []) else []) ++ (told_from 0 (silence t.units) ++ [])) said
      ∙ (ap (λ l. named 0 (replied (target_reply units r) ∷ []) ++ (l ++ [])) (told_silence 0 t.units) ∙ append-nil (named 0 (replied (target_reply units r) ∷ []))))

  pub report_round : Wrote written written' (named 0 (replied (target_reply units r) ∷ [])) → RoundDone units (frames.Request r) (stage t written) (stage t written')
  report_round wrote = record {
    groups = silence t.units;
    each = all_pass units (frames.Request r) (frames.Request r) 0 t.units (λ i le. request_none units r said i);
    wrote = subst (Wrote written written') reported wrote;
  }

  pub report_round_part : WrotePart written written' (named 0 (replied (target_reply units r) ∷ [])) → RoundInPart units (frames.Request r) (stage t written) (stage t written')
  report_round_part part = record {
    groups = silence t.units;
    cut = behind_all (all_pass units (frames.Request r) (frames.Request r) 0 t.units (λ i le. request_none units r said i)) (record {
      behind = written;
      wrote = subst (Wrote written written) (sym (told_silence 0 t.units)) (Wrote-none written);
      part = subst (WrotePart written written') (sym (ap (λ b. (if b then named 0 (replied (target_reply units r) ∷ []) else []) ++ []) said ∙ append-nil (named 0 (replied (target_reply units r) ∷ [])))) part;
    });
    part = subst (WrotePart written written') reported part;
  }

-- the end
module _ (units : ℕ) (a b : Stage) (written : Option (List ℕ)) where
  pub end_round : AllDid frames.End a b → Wrote b.written written end_bytes → RoundDone units frames.End a (record b { written = written })
  end_round all wrote = record { groups = all.groups; each = serves_all units frames.End frames.End (λ k. refl) 0 all.did refl; wrote = Wrote-more all.wrote wrote }

  pub end_round_part : AllDid frames.End a b → WrotePart b.written written end_bytes → RoundInPart units frames.End a (record b { written = written })
  end_round_part all part = record {
    groups = all.groups;
    cut = behind_all (serves_all units frames.End frames.End (λ k. refl) 0 all.did refl) (record { behind = b.written; wrote = all.wrote; part = part });
    part = WrotePart-more all.wrote part;
  }

pub end_round_cut : (units : ℕ) (a b : Stage) → AllDidInPart frames.End a b → RoundInPart units frames.End a b
end_round_cut units a b all = record {
  groups = all.groups;
  cut = at_unit all.stop all.cut (stops_all units frames.End frames.End (λ k. refl) 0 all.stop all.did (omega arith)) all.breaks;
  part = WrotePart-front end_bytes all.part;
}

-- turns, and events of the bench
pub turn_seen : (units : ℕ) (frame : Frame) → IsTurnOrBench frame → (k : ℕ) → seen units k frame ≡ frame ∷ []
turn_seen units (frames.Request r) is k = absurd is
turn_seen units (frames.Manage m) is k = absurd is
turn_seen units (frames.Turn n) is k = refl
turn_seen units (frames.Bench e) is k = refl
turn_seen units frames.End is k = absurd is

pub turn_quiet : (units : ℕ) (frame : Frame) → IsTurnOrBench frame → target_told units frame ≡ []
turn_quiet units (frames.Request r) is = absurd is
turn_quiet units (frames.Manage m) is = absurd is
turn_quiet units (frames.Turn n) is = refl
turn_quiet units (frames.Bench e) is = refl
turn_quiet units frames.End is = absurd is

pub turn_goes_on : (frame : Frame) → IsTurnOrBench frame → end_told frame ≡ []
turn_goes_on (frames.Request r) is = absurd is
turn_goes_on (frames.Manage m) is = absurd is
turn_goes_on (frames.Turn n) is = refl
turn_goes_on (frames.Bench e) is = refl
turn_goes_on frames.End is = absurd is

-- ---- where no drive is called

-- a unit that sees one event
none_seen : (units k : ℕ) (frame event : Frame) (ss : List UnitState) → seen units k frame ≡ event ∷ [] → NoneCalls units frame ss → CallsNoneAt k event ss
none_seen units k frame event ss is none = (subst (AllByRecursion (λ e. CallsNoneAt k e ss)) is (none k)).0

-- all see it
pub none_all : (units : ℕ) (frame event : Frame) (ss : List UnitState) → ((k : ℕ) → seen units k frame ≡ event ∷ []) → NoneCalls units frame ss → (k : ℕ) → CallsNoneAt k event ss
none_all units frame event ss each none k = none_seen units k frame event ss (each k) none

-- ---- to one unit

module _ (units : ℕ) (m : Manage) (to : Route) (is : to ≡ route_to units m.lun) (one : is_for_all m ≡ false) (a b : Stage) where
  pub manage_one : DidAt to.unit (frames.Manage (record m { lun = to.lun })) a b → RoundDone units (frames.Manage m) a b
  manage_one d = one_round units (frames.Manage m) refl refl (managed_there units m) a b (route_to units m.lun).unit (manage_here units m one) (manage_other units m one) (subst (λ (x : Route). DidAt x.unit (frames.Manage (record m { lun = x.lun })) a b) is d)

  pub manage_uncalled : NoneCalls units (frames.Manage m) a.target.units → CallsNoneAt to.unit (frames.Manage (record m { lun = to.lun })) a.target.units
  manage_uncalled none = subst (λ (x : Route). CallsNoneAt x.unit (frames.Manage (record m { lun = x.lun })) a.target.units) (sym is) (none_seen units (route_to units m.lun).unit (frames.Manage m) (managed_there units m) a.target.units (manage_here units m one) none)

  pub manage_one_part : DidAtInPart to.unit (frames.Manage (record m { lun = to.lun })) a b → RoundInPart units (frames.Manage m) a b
  manage_one_part d = one_round_part units (frames.Manage m) refl refl (managed_there units m) a b (route_to units m.lun).unit (manage_here units m one) (manage_other units m one) (subst (λ (x : Route). DidAtInPart x.unit (frames.Manage (record m { lun = x.lun })) a b) is d)

module _ (units : ℕ) (r : Request) (to : Route) (is : to ≡ route_to units r.lun) (other : is_report r ≡ false) (a b : Stage) where
  quiet : target_told units (frames.Request r) ≡ []
  quiet = ap (λ c. if c then named 0 (replied (target_reply units r) ∷ []) else []) other

  pub request_one : DidAt to.unit (frames.Request (record r { lun = to.lun })) a b → RoundDone units (frames.Request r) a b
  request_one d = one_round units (frames.Request r) quiet refl (there units r) a b (route_to units r.lun).unit (request_here units r other) (request_other units r other) (subst (λ (x : Route). DidAt x.unit (frames.Request (record r { lun = x.lun })) a b) is d)

  pub request_uncalled : NoneCalls units (frames.Request r) a.target.units → CallsNoneAt to.unit (frames.Request (record r { lun = to.lun })) a.target.units
  request_uncalled none = subst (λ (x : Route). CallsNoneAt x.unit (frames.Request (record r { lun = x.lun })) a.target.units) (sym is) (none_seen units (route_to units r.lun).unit (frames.Request r) (there units r) a.target.units (request_here units r other) none)

  pub request_one_part : DidAtInPart to.unit (frames.Request (record r { lun = to.lun })) a b → RoundInPart units (frames.Request r) a b
  request_one_part d = one_round_part units (frames.Request r) quiet refl (there units r) a b (route_to units r.lun).unit (request_here units r other) (request_other units r other) (subst (λ (x : Route). DidAtInPart x.unit (frames.Request (record r { lun = x.lun })) a b) is d)
