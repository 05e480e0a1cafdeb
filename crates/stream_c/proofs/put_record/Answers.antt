-- `stream_c::put_record` meets its contract.
use borrow.Author.Rules.{rules}
use Rattle.stream_c.specs.Lent.{Fits}
use Rattle.stream_c.specs.LentLaws.{laid_record}
use Rattle.stream_c.proofs.put_record.Goals as goal

pub returns : goal.returns
returns c =
    let place = c.copy_from_slice.ensures.after in
    let counts = c.copy_from_slice-2.ensures.after in
    let column = c.copy_from_slice-3.ensures.after in
    let laid = laid_record c.args.c c.args.numbers.now _ c.from-3.ensures in
    let fits : Fits c.args.c = record { sets = search rules; number = search rules; pending = c.put_line.ensures.1 } in
    (rw (place, c.place_numbers.ensures, counts, column, c.from.ensures, c.from-2.ensures) laid, c.put_line.ensures.0, fits)
