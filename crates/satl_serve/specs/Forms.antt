-- How an output is told: as frames, as lines of text, or not at all but for a refused input (profile).
use Rattle.std.specs.Prelude.{ℕ, List, [], ◌++◌}
use Rattle.std.specs.List.{flat_map}
use Rattle.satl_frame.specs.declared.frames.FrameFault.{FrameFault}
use Rattle.satl_frame.specs.declared.frames.FrameFault.TheVariants.{Bad, ReadFault}
use Rattle.satl_frame.specs.declared.frames.Reason.{Reason}
use Rattle.satl_frame.specs.Output.{Answer, answer_bytes, fault_bytes, out_magic}
use Rattle.satl_text.specs.Lines.{answer_line, fault_line}
use Rattle.satl_serve.specs.declared.telling.Form.{Form}
use Rattle.satl_serve.specs.declared.telling.Form.TheVariants as forms

-- what stands before all answers: the magic before frames (profile)
abbrev pub begun : Form → List ℕ
begun forms.Frames = out_magic
begun forms.Text = []
begun forms.Count = []

-- an answer: its frame, its line, or nothing where answers are counted (profile)
abbrev pub told : Form → Answer → List ℕ
told forms.Frames answer = answer_bytes answer
told forms.Text answer = answer_line answer
told forms.Count answer = []

-- a refused input: the FAULT frame, or its line (profile)
abbrev pub fault_told : Form → Reason → ℕ → List ℕ
fault_told forms.Frames reason offset = fault_bytes reason offset
fault_told forms.Text reason offset = fault_line reason offset
fault_told forms.Count reason offset = fault_line reason offset

-- what is told of a frame that was refused or not read: a FAULT, or nothing (profile)
abbrev pub told_of : Form → FrameFault → List ℕ
told_of form (Bad reason offset) = fault_told form reason offset
told_of form ReadFault = []

-- answers, one after the other (profile)
abbrev pub answers_told : Form → List Answer → List ℕ
answers_told form answers = flat_map (told form) answers

-- the output of a run (profile)
abbrev pub output : Form → List Answer → List ℕ
output form answers = begun form ++ answers_told form answers
