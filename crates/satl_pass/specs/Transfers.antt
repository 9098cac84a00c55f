-- How ATA commands move their data: the protocols that carry each, and which way (SAT-3 12.2, ACS-3 section 7).
use Rattle.std.specs.Prelude.{ℕ, Bool, true, false, List, [], ◌∷◌}
use Rattle.satl_regs.specs.declared.values.How.{How}
use Rattle.satl_regs.specs.declared.values.How.TheVariants.{Pio, PioExt, Dma, DmaExt}
use Rattle.satl_regs.specs.declared.values.AtaCommand.{AtaCommand}
use Rattle.satl_regs.specs.declared.values.AtaCommand.TheVariants as commands

-- the values of PROTOCOL that the profile has
abbrev pub non_data : ℕ
non_data = 3

abbrev pub pio_in : ℕ
pio_in = 4

abbrev pub pio_out : ℕ
pio_out = 5

abbrev pub dma : ℕ
dma = 6

abbrev pub udma_in : ℕ
udma_in = 10

abbrev pub udma_out : ℕ
udma_out = 11

abbrev pub protocols : List ℕ
protocols = non_data ∷ pio_in ∷ pio_out ∷ dma ∷ udma_in ∷ udma_out ∷ []

abbrev pub reading_protocols : How → List ℕ
reading_protocols Pio = pio_in ∷ []
reading_protocols PioExt = pio_in ∷ []
reading_protocols Dma = dma ∷ udma_in ∷ []
reading_protocols DmaExt = dma ∷ udma_in ∷ []

abbrev pub writing_protocols : How → List ℕ
writing_protocols Pio = pio_out ∷ []
writing_protocols PioExt = pio_out ∷ []
writing_protocols Dma = dma ∷ udma_out ∷ []
writing_protocols DmaExt = dma ∷ udma_out ∷ []

-- the protocols of a command; one that the profile does not have goes by any
abbrev pub own_protocols : AtaCommand → List ℕ
own_protocols (commands.Read how lba sectors) = reading_protocols how
own_protocols (commands.Write how lba sectors) = writing_protocols how
own_protocols (commands.Verify ext lba sectors) = non_data ∷ []
own_protocols (commands.Flush ext) = non_data ∷ []
own_protocols commands.Identify = pio_in ∷ []
own_protocols (commands.SetFeatures what) = non_data ∷ []
own_protocols commands.Standby = non_data ∷ []
own_protocols commands.Idle = non_data ∷ []
own_protocols commands.CheckPower = non_data ∷ []
own_protocols (commands.ReadLog log page blocks) = pio_in ∷ []
own_protocols (commands.Trim blocks) = dma ∷ udma_out ∷ []
own_protocols commands.SmartStatus = non_data ∷ []
own_protocols (commands.Other code) = protocols

-- a command that writes: its data go to the drive
abbrev pub is_writing : AtaCommand → Bool
is_writing (commands.Write how lba sectors) = true
is_writing (commands.Trim blocks) = true
is_writing _ = false

-- the profile does not have the command
abbrev pub is_other : AtaCommand → Bool
is_other (commands.Other code) = true
is_other _ = false
