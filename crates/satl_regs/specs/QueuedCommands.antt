-- The registers of a queued command: READ FPDMA QUEUED, WRITE FPDMA QUEUED (ACS-3 section 7), and for a trim the
-- profile's form of SEND FPDMA QUEUED, whose payload is one trim block.
use Rattle.std.specs.Prelude.{◌≡◌, ℕ, ◌*◌, ◌^◌, ◌<◌, ◌≤◌, ◌==◌, Bool, false, List, [], ◌∷◌, Option, if◌then◌else◌}
use Rattle.std.specs.List.{find}
use Rattle.std.specs.Option.{option_map}
use Rattle.satl_base.specs.Fields.{bits_of}
use Rattle.satl_regs.specs.declared.values.Registers.{Registers}
use Rattle.satl_regs.specs.declared.values.Queued.{Queued}
use Rattle.satl_regs.specs.declared.values.QueuedKind.{QueuedKind}
use Rattle.satl_regs.specs.declared.values.QueuedKind.TheVariants.{Read, Write, Trim}
use Rattle.satl_regs.specs.Fields.{count_16, lba_48}

-- The code of each kind (ACS-3 section 7; 64h by the profile).
abbrev pub queued_code : QueuedKind → ℕ
queued_code Read = 0x60
queued_code Write = 0x61
queued_code Trim = 0x64

-- The codes of queued commands.
abbrev pub queued_codes : List ℕ
queued_codes = queued_code Read ∷ queued_code Write ∷ queued_code Trim ∷ []

-- Where each field stands: sectors in FEATURES(15:0), tag in COUNT(7:3), FUA in DEVICE(7).
abbrev pub queued_fields : QueuedKind → Registers → Queued
queued_fields kind r = record {
  kind = kind;
  lba = lba_48 r;
  sectors = count_16 r.features;
  tag = bits_of 7 3 r.count;
  fua = bits_of 7 7 r.device == 1;
}

-- The queued command in the registers, if they hold one.
abbrev pub queued_in : Registers → Option Queued
queued_in r =
    option_map (λ kind. queued_fields kind r)
    (find (λ (kind : QueuedKind). r.command == queued_code kind) (Read ∷ Write ∷ Trim ∷ []))

-- The registers of a queued command. DEVICE(6) is 1 in each.
abbrev pub queued_registers : Queued → Registers
queued_registers q = record {
  features = bits_of 15 0 q.sectors;
  count = q.tag * 2 ^ 3;
  lba = q.lba;
  device = if q.fua then 0xC0 else 0x40;
  command = queued_code q.kind;
}

-- A queued trim has no range and no FUA, and one block of payload (profile).
abbrev pub KindFits : QueuedKind → ℕ → ℕ → Bool → Type 0
KindFits Read lba sectors fua = Unit {0}
KindFits Write lba sectors fua = Unit {0}
KindFits Trim lba sectors fua = (lba ≡ 0) × (sectors ≡ 1) × (fua ≡ false)

-- The fields fit the registers: 48 bits of LBA, 1 to 65,536 sectors, 32 tags.
pub record QueuedFits (q : Queued) : Type 0 where
  pub lba : q.lba < 2 ^ 48
  pub some : 1 ≤ q.sectors
  pub sectors : q.sectors ≤ 65536
  pub tag : q.tag < 32
  pub kind : KindFits q.kind q.lba q.sectors q.fua
