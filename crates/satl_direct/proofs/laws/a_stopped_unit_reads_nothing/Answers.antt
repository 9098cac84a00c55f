use Rattle.std.proofs.Common.{◌≡◌, refl, ap, true}
use Rattle.std.specs.Prelude.{MatchBool, ◌&&◌, not}
use Rattle.std.proofs.lemmas.Bool.{MatchBool-at_false, MatchBool-at_true}
use Rattle.satl_direct.specs.Ending.{EndsBy, IsChecked}
use Rattle.satl_direct.specs.Senses.{link_lost, not_ready}
use Rattle.satl_direct.specs.Tasks.{asks}
use Rattle.satl_direct.proofs.laws.a_stopped_unit_reads_nothing.Goals as goal

pub returns : goal.returns
returns c = λ s new t reply form lba count fua read up stopped e.
    let unready : (not s.started && (asks t.command).needs_started) ≡ true = rw (stopped, read) refl in
    let rest = MatchBool-at_false (IsChecked link_lost s t reply new) (MatchBool (not s.started && (asks t.command).needs_started) (IsChecked not_ready s t reply new) (EndsBy t.command s t reply new)) up e in
    let is = MatchBool-at_true (IsChecked not_ready s t reply new) (EndsBy t.command s t reply new) unready rest in
    (is.answer, ap (λ d. d.cells) is.stays)
