-- `writer::decimals_of` meets its contract.
use Rattle.writer.specs.WriterLaws.{decimals_five, decimals_twelve}
use Rattle.writer.proofs.decimals_of.Goals as goal

pub returns-then-width-eq13 : goal.returns-then-width-eq13
returns-then-width-eq13 c = decimals_five _ c.if-width-eq13.true

pub returns : goal.returns
returns c = decimals_twelve _ c.if-width-eq13.false
