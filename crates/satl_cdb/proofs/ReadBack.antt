-- What is spelled is read back.
use Rattle.std.proofs.Common.{◌≡◌, ℕ, ◌+◌, ◌*◌, ◌/◌, ◌%◌, ◌^◌, ◌<◌, ◌≤◌, Bool, true, false, List, [], ◌∷◌, Option, Some, None, Ok, cond, refl, arith, inl, inr}
use Rattle.std.proofs.lemmas.Bool.{cases_lt, le-ltb, ne_eqb}
use Rattle.std.specs.Prelude.{◌==◌}
use Rattle.satl_base.specs.Fields.{bytes, bits, IsBytes}
use Rattle.satl_base.specs.Lists.{is_in}
use Rattle.satl_base.proofs.FieldsLemmas.{back_2, back_4, back_8}
use Rattle.satl_cdb.specs.declared.command.Form.{Form}
use Rattle.satl_cdb.specs.declared.command.Form.TheVariants.{Six, Ten, Twelve, Sixteen}
use Rattle.satl_cdb.specs.declared.command.Command.{Command}
use Rattle.satl_cdb.specs.declared.command.Command.TheVariants as commands
use Rattle.satl_cdb.specs.PrimaryCommands.{mode_pages}
use Rattle.satl_cdb.specs.BlockCommands.{or_256}
use Rattle.satl_cdb.specs.Table.{says}
use Rattle.satl_cdb.specs.Spelling.{cdb_bytes}
use Rattle.satl_cdb.proofs.Limits.{Fits, FitsTransfer, FitsVerify, FitsFlush, FitsWriteSame, FitsPage, verify_limit, length_limit, given_fits}

abbrev pub ReadsBack : Command → Type 0
ReadsBack c = says (cdb_bytes c) true ≡ Ok c

six_lba : (n : ℕ) → n < 2 ^ 21 → bits 1 4 0 (0 ∷ n / 65536 % 32 ∷ []) * 65536 + bytes 2 3 (0 ∷ 0 ∷ n / 256 % 256 ∷ n % 256 ∷ []) ≡ n
six_lba n h = omega arith

six_count : (n : ℕ) → 0 < n → n ≤ 256 → or_256 (bytes 4 4) (0 ∷ 0 ∷ 0 ∷ 0 ∷ n % 256 ∷ []) ≡ n
six_count n z h =
    elim (cases_lt n 256) [
      | inl lt ↦ let e : n % 256 * 1 + 0 ≡ n = omega arith in rw (e, ne_eqb n 0 (λ q. omega arith)) refl
      | inr le ↦ let e : n ≡ 256 = omega arith in rw e refl
    ]

abbrev read_or_write : Bool → Form → ℕ → ℕ → Bool → Command
read_or_write false = commands.Read
read_or_write true = commands.Write

transfer_back : (write : Bool) (form : Form) (lba count : ℕ) (fua : Bool) → FitsTransfer form lba count fua → ReadsBack (read_or_write write form lba count fua)
unfolding says cdb_bytes
transfer_back false Six lba count fua f = rw (six_lba lba f.0, six_count count f.1 f.2, f.3) refl
transfer_back true Six lba count fua f = rw (six_lba lba f.0, six_count count f.1 f.2, f.3) refl
transfer_back false Ten lba count false f = rw (back_4 lba f.0, back_2 count (omega (arith, f.1)), le-ltb 4096 count f.1) refl
transfer_back false Ten lba count true f = rw (back_4 lba f.0, back_2 count (omega (arith, f.1)), le-ltb 4096 count f.1) refl
transfer_back true Ten lba count false f = rw (back_4 lba f.0, back_2 count (omega (arith, f.1)), le-ltb 4096 count f.1) refl
transfer_back true Ten lba count true f = rw (back_4 lba f.0, back_2 count (omega (arith, f.1)), le-ltb 4096 count f.1) refl
transfer_back false Twelve lba count false f = rw (back_4 lba f.0, back_4 count (omega (arith, f.1)), le-ltb 4096 count f.1) refl
transfer_back false Twelve lba count true f = rw (back_4 lba f.0, back_4 count (omega (arith, f.1)), le-ltb 4096 count f.1) refl
transfer_back true Twelve lba count false f = rw (back_4 lba f.0, back_4 count (omega (arith, f.1)), le-ltb 4096 count f.1) refl
transfer_back true Twelve lba count true f = rw (back_4 lba f.0, back_4 count (omega (arith, f.1)), le-ltb 4096 count f.1) refl
transfer_back false Sixteen lba count false f = rw (back_8 lba f.0, back_4 count (omega (arith, f.1)), le-ltb 4096 count f.1) refl
transfer_back false Sixteen lba count true f = rw (back_8 lba f.0, back_4 count (omega (arith, f.1)), le-ltb 4096 count f.1) refl
transfer_back true Sixteen lba count false f = rw (back_8 lba f.0, back_4 count (omega (arith, f.1)), le-ltb 4096 count f.1) refl
transfer_back true Sixteen lba count true f = rw (back_8 lba f.0, back_4 count (omega (arith, f.1)), le-ltb 4096 count f.1) refl

verify_back : (form : Form) (lba count : ℕ) (compare : Bool) → FitsVerify form (verify_limit compare) lba count → ReadsBack (commands.Verify form lba count compare)
unfolding says cdb_bytes
verify_back Six lba count compare f = absurd f
verify_back Ten lba count false f = rw (back_4 lba f.0, back_2 count f.1, le-ltb 65536 count f.2) refl
verify_back Ten lba count true f = rw (back_4 lba f.0, back_2 count f.1, le-ltb 4096 count f.2) refl
verify_back Twelve lba count false f = rw (back_4 lba f.0, back_4 count f.1, le-ltb 65536 count f.2) refl
verify_back Twelve lba count true f = rw (back_4 lba f.0, back_4 count f.1, le-ltb 4096 count f.2) refl
verify_back Sixteen lba count false f = rw (back_8 lba f.0, back_4 count f.1, le-ltb 65536 count f.2) refl
verify_back Sixteen lba count true f = rw (back_8 lba f.0, back_4 count f.1, le-ltb 4096 count f.2) refl

flush_back : (form : Form) (lba count : ℕ) → FitsFlush form lba count → ReadsBack (commands.Flush form lba count)
unfolding says cdb_bytes
flush_back Six lba count f = absurd f
flush_back Ten lba count f = rw (back_4 lba f.0, back_2 count f.1) refl
flush_back Twelve lba count f = absurd f
flush_back Sixteen lba count f = rw (back_8 lba f.0, back_4 count f.1) refl

same_back : (form : Form) (lba count : ℕ) (unmap : Bool) → FitsWriteSame form lba count → ReadsBack (commands.WriteSame form lba count unmap)
unfolding says cdb_bytes
same_back Six lba count u f = absurd f
same_back Twelve lba count u f = absurd f
same_back Ten lba count false f = rw (back_4 lba f.0, back_2 count f.2, ne_eqb count 0 (λ q. omega (arith, f.1)), le-ltb 65536 count f.3) refl
same_back Ten lba count true f = rw (back_4 lba f.0, back_2 count f.2, ne_eqb count 0 (λ q. omega (arith, f.1)), le-ltb 65536 count f.3) refl
same_back Sixteen lba count false f = rw (back_8 lba f.0, back_4 count f.2, ne_eqb count 0 (λ q. omega (arith, f.1)), le-ltb 65536 count f.3) refl
same_back Sixteen lba count true f = rw (back_8 lba f.0, back_4 count f.2, ne_eqb count 0 (λ q. omega (arith, f.1)), le-ltb 65536 count f.3) refl

high_two : (control page : ℕ) → control < 4 → (control % 4 * 64 + page % 64) / 64 % 4 ≡ control
high_two control page h = omega arith

low_six : (control page : ℕ) → page < 64 → (control % 4 * 64 + page % 64) / 1 % 64 ≡ page
low_six control page h = omega arith

one_byte : (n : ℕ) → n < 256 → n % 256 * 1 + 0 ≡ n
one_byte n h = omega arith

times_one : (n : ℕ) → n * 1 + 0 ≡ n
times_one n = omega arith

-- subpage 0 goes with each page
first_subpage : (all : Bool) → is_in 0x00 (cond all (0x00 ∷ 0xFF ∷ []) (0x00 ∷ [])) ≡ true
first_subpage true = refl
first_subpage false = refl

sense_6_back : (no_descriptor : Bool) (control page alloc : ℕ) → control < 4 → page < 64 → alloc < 256 → (control == 3) ≡ false → is_in page mode_pages ≡ true
    → ReadsBack (commands.ModeSense false false no_descriptor control page alloc)
unfolding says cdb_bytes
sense_6_back true control page alloc c p a n i = rw (high_two control page c, low_six control page p, one_byte alloc a, n, i, first_subpage (page == 0x3F)) refl
sense_6_back false control page alloc c p a n i = rw (high_two control page c, low_six control page p, one_byte alloc a, n, i, first_subpage (page == 0x3F)) refl

sense_10_back : (long_lba no_descriptor : Bool) (control page alloc : ℕ) → control < 4 → page < 64 → alloc < 2 ^ 16 → (control == 3) ≡ false → is_in page mode_pages ≡ true
    → ReadsBack (commands.ModeSense true long_lba no_descriptor control page alloc)
unfolding says cdb_bytes
sense_10_back true true control page alloc c p a n i = rw (high_two control page c, low_six control page p, back_2 alloc a, n, i, first_subpage (page == 0x3F)) refl
sense_10_back true false control page alloc c p a n i = rw (high_two control page c, low_six control page p, back_2 alloc a, n, i, first_subpage (page == 0x3F)) refl
sense_10_back false true control page alloc c p a n i = rw (high_two control page c, low_six control page p, back_2 alloc a, n, i, first_subpage (page == 0x3F)) refl
sense_10_back false false control page alloc c p a n i = rw (high_two control page c, low_six control page p, back_2 alloc a, n, i, first_subpage (page == 0x3F)) refl

select_back : (ten : Bool) (length : ℕ) → length < length_limit ten → ReadsBack (commands.ModeSelect ten length)
unfolding says cdb_bytes
select_back false length h = rw (one_byte length h) refl
select_back true length h = rw (back_2 length h) refl

inquiry_back : (page : Option ℕ) (alloc : ℕ) → FitsPage page → alloc < 2 ^ 16 → ReadsBack (commands.Inquiry page alloc)
unfolding says cdb_bytes
inquiry_back None alloc i h = rw (back_2 alloc h) refl
inquiry_back (Some page) alloc i h = rw (times_one page, i, back_2 alloc h) refl

request_back : (descriptor : Bool) (alloc : ℕ) → ReadsBack (commands.RequestSense descriptor alloc)
unfolding says cdb_bytes
request_back true alloc = rw (times_one alloc) refl
request_back false alloc = rw (times_one alloc) refl

start_back : (start no_flush : Bool) → ReadsBack (commands.StartStop start no_flush)
unfolding says cdb_bytes
start_back true true = refl
start_back true false = refl
start_back false true = refl
start_back false false = refl

capacity_back : (alloc : ℕ) → alloc < 2 ^ 32 → ReadsBack (commands.ReadCapacity16 alloc)
unfolding says cdb_bytes
capacity_back alloc h = rw (back_4 alloc h) refl

luns_back : (select alloc : ℕ) → select ≤ 2 → alloc < 2 ^ 32 → ReadsBack (commands.ReportLuns select alloc)
unfolding says cdb_bytes
luns_back select alloc s h = rw (times_one select, le-ltb 2 select s, back_4 alloc h) refl

unmap_back : (length : ℕ) → length < 2 ^ 16 → ReadsBack (commands.Unmap length)
unfolding says cdb_bytes
unmap_back length h = rw (back_2 length h) refl

fits_back : (c : Command) → Fits c → ReadsBack c
unfolding says cdb_bytes
fits_back commands.TestUnitReady f = refl
fits_back (commands.RequestSense descriptor alloc) f = request_back descriptor alloc
fits_back (commands.Inquiry page alloc) f = inquiry_back page alloc f.0 f.1
fits_back (commands.ModeSense true long_lba no_descriptor control page alloc) f = sense_10_back long_lba no_descriptor control page alloc f.0 f.1 f.2 f.3 f.4
fits_back (commands.ModeSense false long_lba no_descriptor control page alloc) f = rw (f.5 refl) (sense_6_back no_descriptor control page alloc f.0 f.1 f.2 f.3 f.4)
fits_back (commands.ModeSelect ten length) f = select_back ten length f
fits_back (commands.StartStop start no_flush) f = start_back start no_flush
fits_back commands.ReadCapacity10 f = refl
fits_back (commands.ReadCapacity16 alloc) f = capacity_back alloc f
fits_back (commands.ReportLuns select alloc) f = luns_back select alloc f.0 f.1
fits_back (commands.Read form lba count fua) f = transfer_back false form lba count fua f
fits_back (commands.Write form lba count fua) f = transfer_back true form lba count fua f
fits_back (commands.Verify form lba count compare) f = verify_back form lba count compare f
fits_back (commands.Flush form lba count) f = flush_back form lba count f
fits_back (commands.WriteSame form lba count unmap) f = same_back form lba count unmap f
fits_back (commands.Unmap length) f = unmap_back length f
fits_back (commands.Pass cdb) f = f

pub given_back : (cdb : List ℕ) (trim : Bool) (c : Command) → IsBytes cdb → says cdb trim ≡ Ok c → ReadsBack c
given_back cdb trim c b e = fits_back c (given_fits cdb trim c b e)
