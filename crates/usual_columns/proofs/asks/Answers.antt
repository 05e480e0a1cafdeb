-- `usual_columns::asks` meets its contract.
use Rattle.std.proofs.Common.{◌≡◌, Ok, sym, ◌∙◌, rules}
use Rattle.field.specs.FieldLaws.{answered_ok}
use Rattle.usual_columns.proofs.asks.Goals as goal

pub returns : goal.returns
returns c h =
    let passed : c.number_at.result ≡ Ok tt = search rules in
    answered_ok _ (sym passed ∙ c.number_at.ensures)
