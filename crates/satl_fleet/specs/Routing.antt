-- Which unit of a target a frame goes to, and as what (SAM-5 4.6; the routing of other LUNs: profile).
use Rattle.std.specs.Prelude.{ℕ, ◌==◌, ◌&&◌, nat_lt, Bool, List, [], ◌∷◌, drop, replicate, slice_index, if◌then◌else◌}
use Rattle.std.specs.List.{flat_map}
use Rattle.satl_base.specs.declared.request.Request.{Request}
use Rattle.satl_base.specs.declared.request.Manage.{Manage}
use Rattle.satl_base.specs.Blocks.{is_zeros}
use Rattle.satl_cdb.specs.PrimaryCommands.{report_luns_code}
use Rattle.satl_unit.specs.Functions.{nexus_reset_code}
use Rattle.satl_frame.specs.declared.frames.Frame.{Frame}
use Rattle.satl_frame.specs.declared.frames.Frame.TheVariants as frames
use Rattle.satl_fleet.specs.declared.routing.Route.{Route}
use Rattle.satl_direct.specs.Arrival.{asks_for}

-- the LUN 0: eight bytes of zero (SAM-5 4.6)
abbrev pub lun_0 : List ℕ
lun_0 = replicate 8 0

-- whether a LUN of one level names one of so many units (SAM-5 4.6)
abbrev pub names_unit : ℕ → List ℕ → Bool
names_unit units lun = slice_index lun 0 == 0 && (nat_lt (slice_index lun 1) units && is_zeros (drop 2 lun))

-- where a frame to this LUN goes: to the unit of that number, at LUN 0 there; or, where there is none, to unit 0 at the same
-- LUN (profile)
abbrev pub route_to : ℕ → List ℕ → Route
route_to units lun =
    if names_unit units lun then record { unit = slice_index lun 1; lun = lun_0 }
    else record { unit = 0; lun = lun }

-- whether it is REPORT LUNS, which the target itself answers (SPC-4 6.33; profile)
abbrev pub is_report : Request → Bool
is_report r = asks_for report_luns_code r

-- whether it is I_T NEXUS RESET, which goes to every unit (SAM-5 7.6)
abbrev pub is_for_all : Manage → Bool
is_for_all m = m.function == nexus_reset_code

-- what a frame is to a unit: one frame, or none (profile)
abbrev pub seen : ℕ → ℕ → Frame → List Frame
seen units k (frames.Request r) =
    if is_report r then []
    else if (route_to units r.lun).unit == k then frames.Request (record r { lun = (route_to units r.lun).lun }) ∷ []
    else []
seen units k (frames.Manage m) =
    if is_for_all m then frames.Manage (record m { lun = lun_0 }) ∷ []
    else if (route_to units m.lun).unit == k then frames.Manage (record m { lun = (route_to units m.lun).lun }) ∷ []
    else []
seen units k (frames.Turn count) = frames.Turn count ∷ []
seen units k (frames.Bench event) = frames.Bench event ∷ []
seen units k frames.End = frames.End ∷ []

-- what the frames of an input are to a unit (profile)
abbrev pub project : ℕ → ℕ → List Frame → List Frame
project units k frames_of_input = flat_map (seen units k) frames_of_input
