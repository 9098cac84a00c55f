use Rattle.std.proofs.Common.{rules, ap, ap₂, true, ◌∙◌, ◌≡◌, codes}
use Rattle.clap.specs.Words.{App, app_of, new_app, with_subcommand}
use Rattle.clap.specs.Simple.{on_top}
use Rattle.satl_words.proofs.line.command.Goals as goal

abbrev top : App
top = on_top (λ s. record s { disable_help_subcommand = true; subcommand_required = true }) (new_app (codes "satl"))

pub returns-clause-app : goal.returns-clause-app
returns-clause-app c =
    let top_is : app_of c.subcommand_required-top.result ≡ top = search rules in
    let replay_is : app_of c.in_ok-replay.replay ≡ with_subcommand top (new_app (codes "replay")).top =
    c.in_ok-replay.ensures.shape (search rules) ∙ ap₂ with_subcommand top_is (ap (λ (a : App). a.top) c.new-2.ensures.app) in
    let show_is : app_of c.in_ok-show.show ≡ with_subcommand (with_subcommand top (new_app (codes "replay")).top) (new_app (codes "show")).top =
    c.in_ok-show.ensures.shape (search rules) ∙ ap₂ with_subcommand replay_is (ap (λ (a : App). a.top) c.new-3.ensures.app) in
    let usb_is : app_of c.in_ok-usb.usb ≡ with_subcommand (with_subcommand (with_subcommand top (new_app (codes "replay")).top) (new_app (codes "show")).top) (new_app (codes "usb")).top =
    c.in_ok-usb.ensures.shape (search rules) ∙ ap₂ with_subcommand show_is (ap (λ (a : App). a.top) c.new-4.ensures.app) in
    let audit_is : app_of c.in_ok-audit.audit ≡ with_subcommand (with_subcommand (with_subcommand (with_subcommand top (new_app (codes "replay")).top) (new_app (codes "show")).top) (new_app (codes "usb")).top) (new_app (codes "audit")).top =
    c.in_ok-audit.ensures.shape (search rules) ∙ ap₂ with_subcommand usb_is (ap (λ (a : App). a.top) c.new-5.ensures.app) in
    c.in_ok-generate.ensures.shape (search rules) ∙ ap₂ with_subcommand audit_is (ap (λ (a : App). a.top) c.in_ok-generating.ensures.app)
