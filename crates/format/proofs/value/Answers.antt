-- `format::value` meets its contract.
use Rattle.std.proofs.Common.{◌≡◌, fold, sym, ◌∙◌, rules}
use Rattle.std.proofs.iter.runs.Made.{chains}
use Rattle.laws.specs.RunLaws.{run_fold}
use Rattle.format.specs.Measured.{kept_digit}
use Rattle.format.proofs.value.Goals as goal

pub returns : goal.returns
returns c =
    let whole : c.fold.result ≡ fold kept_digit 0 c.args.digits.now = search (rules, chains) in
    whole ∙ sym (run_fold kept_digit _ _)
