-- `line::columns_len` meets its contract.
use mathlib.Core.Path.{refl, sym, ap}
use lib.ListN.{length}
use native.Mathlib.Omega.{arith}
use Rattle.line.specs.Line.{columns}
use Rattle.line.specs.LineLaws.{columns_within, columns_lf, columns_return}
use Rattle.line.proofs.columns_len.Goals as goal

pub returns-then-not-ended : goal.returns-then-not-ended
unfolding columns
returns-then-not-ended c = rw (c.if-not-ended.true) refl

pub returns-then-n-eq0 : goal.returns-then-n-eq0
returns-then-n-eq0 c = omega (arith, columns_within c.args.ended c.args.line.now)

pub returns-then-line-last-eq13 : goal.returns-then-line-last-eq13
returns-then-line-last-eq13 c = rw (c.if-not-ended.false) (sym (columns_return _ (omega arith) c.if-line-last-eq13.true))

pub returns : goal.returns
returns c = rw (c.if-not-ended.false) (sym (ap length (columns_lf _ c.if-line-last-eq13.false)))
