use Rattle.std.proofs.Common.{◌≡◌, ◌+◌, ◌++◌}
use Rattle.arrayvec.specs.ArrayVec.{array_vec_len}
use Rattle.satl_base.specs.Places.{places}
use Rattle.satl_mode.specs.ModePages.{page_byte}
use Rattle.satl_mode.proofs.sense.append_page.Given as goal

abbrev pub invariant-loop-place : goal.invariant-loop-place
invariant-loop-place l = record {
  items : l.text.items ≡ l.fn.text.items ++ places 0 l.place (page_byte l.page l.shown);
  len : array_vec_len l.text ≡ array_vec_len l.fn.text + l.place;
}
