use Rattle.std.proofs.Common.{◌≡◌, map, sym, ap, subst, ◌∙◌, true}
use Rattle.std.specs.Prelude.{Result, Err}
use Rattle.std.specs.Rc.{rc_str_bytes}
use Rattle.clap.specs.Words.{App, is_simple, subcommand_of, subcommand_rows_of, takes}
use Rattle.satl_words.specs.declared.asking.WordsFault.{WordsFault}
use Rattle.satl_words.specs.declared.asking.WordsFault.TheVariants.{Refused}
use Rattle.satl_words.specs.declared.modes.Mode.{Mode}
use Rattle.satl_words.proofs.CommandLemmas.{known, simple}
use Rattle.satl_words.proofs.asking.parsed_mode.Goals as goal

pub mode_of-requires-clause-known : goal.mode_of-requires-clause-known
mode_of-requires-clause-known c =
    let has = c.in-Ok-try_get_matches_from.ensures.matches (ap is_simple c.in-Ok.ensures.app ∙ simple) in
    known (map rc_str_bytes c.args.words.now) (subcommand_rows_of c.in-Ok-try_get_matches_from.matches) (has.1 ∙ ap (λ (a : App). subcommand_of a (map rc_str_bytes c.args.words.now)) c.in-Ok.ensures.app)

-- a parse that fails so
abbrev failed : WordsFault → Result Mode WordsFault
failed fault = Err fault

refused_is : (fault : WordsFault) → failed fault ≡ failed Refused → fault ≡ Refused
refused_is fault e = cc

pub returns-in-Err-try_get_matches_from-clause-takes : goal.returns-in-Err-try_get_matches_from-clause-takes
returns-in-Err-try_get_matches_from-clause-takes c = λ refused took.
    c.why.ensures (refused_is c.why.result refused) (c.in-Err-try_get_matches_from.ensures.passes (subst (λ (a : App). takes a (map rc_str_bytes c.args.words.now) ≡ true) (sym c.in-Ok.ensures.app) took))
