use Rattle.std.proofs.Common.{◌∙◌, ap, sym}
use Rattle.satl_drive.specs.State.{DriveState}
use Rattle.satl_drive.proofs.laws.an_order_changes_its_account_alone.Goals as goal

pub returns-clause-alone : goal.returns-clause-alone
returns-clause-alone c = λ bytes old new ordered.
    ordered ∙ ap (λ (d : DriveState). record old { orders = record old.orders { number = d.orders.number } }) (sym ordered)

pub returns-clause-told : goal.returns-clause-told
returns-clause-told c = λ bytes others old new one other apart.
    apart bytes others (ap (λ (d : DriveState). d.orders.number) (sym one ∙ other))
