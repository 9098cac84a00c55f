-- Answers and sense data that the scenarios share (profile).
use Rattle.std.specs.Prelude.{ℕ, ◌*◌, List, [], ◌∷◌, length, None}
use Rattle.satl_base.specs.declared.block.Block.{Block}
use Rattle.satl_base.specs.declared.reply.Scsi.{Scsi}
use Rattle.satl_base.specs.declared.reply.Scsi.TheVariants.{Good, CheckCondition}
use Rattle.satl_base.specs.declared.reply.Response.{Response}
use Rattle.satl_frame.specs.Output.{Answer}
use Rattle.satl_frame.specs.Output.Answer.{managed, replied}

-- the response to a task management function of a nexus (SAM-5 7.1)
abbrev pub response : ℕ → ℕ → ℕ → Response → Answer
response nexus function tag said = managed nexus function said (record { 0 = tag })

-- an answer to nexus 0 (SAM-5 5.1)
abbrev pub reply : ℕ → Scsi → List ℕ → List Block → Answer
reply tag status sense blocks = replied (record {
  nexus = 0;
  tag = record { 0 = tag };
  status = status;
  sense = record { items = sense };
  body = blocks;
  data_len = 512 * length blocks;
  expected = None;
})

-- GOOD with these blocks, and CHECK CONDITION with these sense data (SAM-5 5.3.1)
abbrev pub good : ℕ → List Block → Answer
good tag blocks = reply tag Good [] blocks

abbrev pub check_condition : ℕ → List ℕ → Answer
check_condition tag sense = reply tag CheckCondition sense []

-- sense data in the fixed form: a sense key with its codes (SPC-4 4.5.3)
abbrev pub sense : ℕ → ℕ → ℕ → List ℕ
sense key asc ascq = 0x70 ∷ 0 ∷ key ∷ 0 ∷ 0 ∷ 0 ∷ 0 ∷ 0x0A ∷ 0 ∷ 0 ∷ 0 ∷ 0 ∷ asc ∷ ascq ∷ 0 ∷ 0 ∷ 0 ∷ 0 ∷ []

-- the same with an address below 256 as INFORMATION (SPC-4 4.5.3)
abbrev pub sense_at : ℕ → ℕ → ℕ → ℕ → List ℕ
sense_at key asc ascq lba = 0xF0 ∷ 0 ∷ key ∷ 0 ∷ 0 ∷ 0 ∷ lba ∷ 0x0A ∷ 0 ∷ 0 ∷ 0 ∷ 0 ∷ asc ∷ ascq ∷ 0 ∷ 0 ∷ 0 ∷ 0 ∷ []

-- the same with a byte of the CDB that is pointed to (SPC-4 4.5.2.4.2)
abbrev pub sense_pointing : ℕ → ℕ → ℕ → ℕ → List ℕ
sense_pointing key asc ascq place =
    0x70 ∷ 0 ∷ key ∷ 0 ∷ 0 ∷ 0 ∷ 0 ∷ 0x0A ∷ 0 ∷ 0 ∷ 0 ∷ 0 ∷ asc ∷ ascq ∷ 0 ∷ 0xC0 ∷ 0 ∷ place ∷ []
