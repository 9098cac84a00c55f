use Rattle.satl_disk.specs.Data.{drive_data}
use Rattle.satl_disk.proofs.identify.identify_bytes.Goals as goal

pub returns : goal.returns
unfolding drive_data
returns c = rw (c.balance.ensures, c.write_words.ensures, c.write_fixed_words.ensures, c.low_half-low.ensures, c.high_half-high.ensures)
