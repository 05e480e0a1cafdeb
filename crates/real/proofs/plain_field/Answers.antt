-- `real::plain_field` meets its contract.
use Rattle.real.proofs.PlainLaws.{plain_front}
use Rattle.real.proofs.plain_field.Goals as goal

pub by_columns-requires : goal.by_columns-requires
by_columns-requires c = plain_front _ c.if-s-lt9.false (rw c.is_plain.ensures at (c.if-not-is_plain.false))
