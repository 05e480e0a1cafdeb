-- `writer::set_fits` meets its contract.
use native.Mathlib.Omega.{arith}
use Rattle.writer.specs.SetLaws.{fits_opening, fits_lines, fits_data}
use Rattle.writer.proofs.set_fits.Goals as goal

pub returns-then-room-lt21 : goal.returns-then-room-lt21
returns-then-room-lt21 c = fits_opening c.args.header.now _ _ c.args.room (omega (arith, c.if-room-lt21.true))

pub returns-then-room-lines : goal.returns-then-room-lines
returns-then-room-lines c = fits_lines c.args.header.now _ _ c.args.room c.body_len-lines.result c.body_len-lines.ensures (omega (arith, c.if-room-lines.true))

pub returns : goal.returns
returns c = fits_data c.args.header.now _ _ c.args.room _ c.body_len-lines.ensures c.if-room-lt21.false c.if-room-lines.false _ c.data_fits.ensures
