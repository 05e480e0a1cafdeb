-- `judge::number_due` meets its contract.
use Rattle.std.specs.Prelude.{◌≡◌}
use Rattle.std.proofs.Common.{rules}
use Rattle.walk.specs.declared.Place.TheVariants.{Number}
use Rattle.judge.specs.PlainLaws.{plain_number_due}
use Rattle.judge.proofs.number_due.Goals as goal

pub returns : goal.returns
returns c =
    let due : c.args.s.place ≡ Number = search rules in
    rw (c.positive.ensures, c.integer_field.ensures) (plain_number_due c.args.s _ due c.if-columns-ne6.false)
