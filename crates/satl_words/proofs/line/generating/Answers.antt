use Rattle.std.proofs.Common.{rules, ap₂, ◌∙◌, ◌≡◌}
use Rattle.clap.specs.Words.{rule_of, with_rule}
use Rattle.satl_words.specs.CommandLine.{requests, seed}
use Rattle.satl_words.proofs.line.generating.Goals as goal

pub returns-clause-app : goal.returns-clause-app
returns-clause-app c =
    let seed_is : rule_of c.value_parser-seed.result ≡ seed = search rules in
    let requests_is : rule_of c.value_parser-requests.result ≡ requests = search rules in
    c.in_ok-command.ensures.shape (search rules)
    ∙ ap₂ with_rule (c.in_ok-arg.ensures.shape (search rules) ∙ ap₂ with_rule c.new-3.ensures.app seed_is) requests_is
