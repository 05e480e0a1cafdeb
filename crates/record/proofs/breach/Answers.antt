-- `record::breach` meets its contract.
use Rattle.std.proofs.Common.{refl, arith}
use Rattle.line.specs.LineLaws.{err_refused}
use Rattle.record.proofs.breach.Goals as goal

pub returns : goal.returns
returns c = err_refused refl (omega arith)
