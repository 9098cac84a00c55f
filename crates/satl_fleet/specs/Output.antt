-- How the answers of a target's units are written, in one output (profile).
use Rattle.std.specs.Prelude.{◌≡◌, ℕ, suc, ◌<◌, ◌==◌, ◌&&◌, ◌||◌, not, Bool, true, false, if◌then◌else◌}
use Rattle.std.specs.Prelude.{List, [], ◌∷◌, ◌++◌, drop, length, map, slice_index_or}
use Rattle.std.specs.List.{flat_map}
use Rattle.satl_unit.specs.Functions.{nexus_reset_code}
use Rattle.satl_frame.specs.declared.frames.Frame.{Frame}
use Rattle.satl_frame.specs.declared.frames.Frame.TheVariants as frames
use Rattle.satl_frame.specs.Output.{Answer, all_answered, answer_bytes, end_bytes, out_magic}
use Rattle.satl_frame.specs.Frames.{framed}
use Rattle.satl_frame.specs.Output.Answer.{replied, managed, closed}
use Rattle.satl_fleet.specs.Routing.{is_report, seen}
use Rattle.satl_fleet.specs.Target.{target_reply}

-- what names a unit before its answers to a frame: kind 84h, length 1, the unit (profile)
abbrev pub unit_bytes : ℕ → List ℕ
unit_bytes k = framed 0x84 1 (k ∷ [])

-- whether a unit's response to a function is left out: that to I_T NEXUS RESET of all units but unit 0 (profile)
abbrev pub is_silent : ℕ → ℕ → Bool
is_silent k function = not (k == 0) && (function == nexus_reset_code)

-- whether an answer of a unit is left out: such a response, and the end, which is told once for all units (profile)
abbrev pub is_left_out : ℕ → Answer → Bool
is_left_out k (replied r) = false
is_left_out k (managed nexus function response tag) = is_silent k function
is_left_out k closed = true

-- the answers of a unit that are told (profile)
abbrev pub kept : ℕ → List Answer → List Answer
kept k [] = []
kept k (answer ∷ answers) = if is_left_out k answer then kept k answers else answer ∷ kept k answers

-- answers under the name of their unit, where there are any (profile)
abbrev pub named : ℕ → List Answer → List ℕ
named k [] = []
named k (answer ∷ answers) = unit_bytes k ++ all_answered (answer ∷ answers)

-- a unit's answers to one frame (profile)
abbrev pub told_under : ℕ → List Answer → List ℕ
told_under k answers = named k (kept k answers)

-- a unit's answers to a frame at which a write failed: those before its last step, and those of that step (profile)
pub record CutAnswers : Type 0 where
  pub earlier : List Answer
  pub last : List Answer

abbrev pub all_of : CutAnswers → List Answer
all_of cut = cut.earlier ++ cut.last

-- what is told of the last step behind the earlier ones (profile)
abbrev pub told_last : ℕ → CutAnswers → List ℕ
told_last k cut = drop (length (told_under k cut.earlier)) (told_under k (all_of cut))

-- the answers of the units from this one on to one frame, in order of the units (profile)
abbrev pub told_from : ℕ → List (List Answer) → List ℕ
told_from k [] = []
told_from k (answers ∷ groups) = told_under k answers ++ told_from (suc k) groups

-- ---- rounds

-- a frame, and what each unit from unit 0 on answered to it (profile)
pub record Round : Type 0 where
  pub frame : Frame
  pub groups : List (List Answer)

-- a round of so many units: there is one group for each, and a unit that does not see the frame answers nothing (profile)
pub record IsRoundOf (units : ℕ) (round : Round) : Type 0 where
  pub one_each : length round.groups ≡ units
  pub unseen_silent : (k : ℕ) → seen units k round.frame ≡ [] → slice_index_or round.groups k [] ≡ []

-- no unit behind this one answers in a round (profile)
abbrev pub NoAnswersBehind : ℕ → Round → Type 0
NoAnswersBehind k round = (j : ℕ) → k < j → slice_index_or round.groups j [] ≡ []

-- what the target itself answers, which stands under unit 0 (profile)
abbrev pub target_told : ℕ → Frame → List ℕ
target_told units (frames.Request r) = if is_report r then named 0 (replied (target_reply units r) ∷ []) else []
target_told units _ = []

-- the end of the output (profile)
abbrev pub end_told : Frame → List ℕ
end_told frames.End = end_bytes
end_told _ = []

-- what is written for a round (profile)
abbrev pub round_told : ℕ → Round → List ℕ
round_told units round = target_told units round.frame ++ (told_from 0 round.groups ++ end_told round.frame)

abbrev pub rounds_told : ℕ → List Round → List ℕ
rounds_told units rounds = flat_map (round_told units) rounds

-- the output of rounds: the magic, and what is written for each (profile)
abbrev pub output : ℕ → List Round → List ℕ
output units rounds = out_magic ++ rounds_told units rounds

-- the frames of rounds
abbrev pub frames_of : List Round → List Frame
frames_of rounds = map (λ round. round.frame) rounds

-- what one frame of a round is to a unit answers with: its group, where the unit sees the frame (profile)
abbrev pub group_of : ℕ → Round → List Frame → List (List Answer)
group_of k round [] = []
group_of k round (event ∷ events) = slice_index_or round.groups k [] ∷ []

-- the groups of answers of a unit, one for each frame that it sees (profile)
abbrev pub groups_for : ℕ → ℕ → List Round → List (List Answer)
groups_for units k rounds = flat_map (λ round. group_of k round (seen units k round.frame)) rounds

-- ---- telling one answer after the other

-- an answer of a unit, which was named before or is not yet (profile)
abbrev pub told_one : ℕ → Bool → Answer → List ℕ
told_one k named answer = if is_left_out k answer then [] else (if named then [] else unit_bytes k) ++ answer_bytes answer

-- whether the unit is named behind it (profile)
abbrev pub named_behind : ℕ → Bool → Answer → Bool
named_behind k named answer = named || not (is_left_out k answer)
