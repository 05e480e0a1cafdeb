-- `stream_c::record_in` meets its contract.
use mathlib.Core.Path.{refl, sym}
use lib.Seq.{length-take-le}
use Rattle.stream_c.specs.Lent.{stream_of}
use borrow.Author.Rules.{rules}
use Rattle.stream_c.proofs.record_in.Goals as goal

pub slice_bounds-copy_from_slice-end-2 : goal.slice_bounds-copy_from_slice-end-2
slice_bounds-copy_from_slice-end-2 c = sym (length-take-le 81 c.args.line.now (search rules))

pub copy_from_slice-requires : goal.copy_from_slice-requires
copy_from_slice-requires c = sym (length-take-le 81 c.args.line.now (search rules))

pub returns : goal.returns
unfolding stream_of
returns c = rw (c.place_in.ensures, c.byte_of.ensures, c.copy_from_slice.ensures.after) refl
