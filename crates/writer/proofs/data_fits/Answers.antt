use mathlib.Core.Path.{sym}
use native.Mathlib.Omega.{arith}
use borrow.Author.Tests.{le-leb, lt-leb}
use Rattle.writer.specs.WriterLaws.{data_len_start, data_len_next, data_len_end}
use Rattle.writer.specs.Lines.{data_len}
use Rattle.writer.proofs.data_fits.Goals as goal

pub loop-j-init : goal.loop-j-init
loop-j-init c = data_len_start c.args.case c.args.count c.args.room

pub returns-then-left-n : goal.returns-then-left-n
returns-then-left-n c =
    let args = c.args in
    let next = data_len_next args.case c.loop-j.j args.count c.loop-j-test.true in
    sym (lt-leb (data_len args.case 0 args.count) args.room (omega (arith, c.loop-j.invariant, c.stored_len-n.ensures, c.if-left-n.true, next)))

pub loop-j-preserved : goal.loop-j-preserved
loop-j-preserved c =
    let args = c.args in
    let next = data_len_next args.case c.loop-j.j args.count c.loop-j-test.true in
    omega (arith, c.loop-j.invariant, c.stored_len-n.ensures, c.if-left-n.false, next)

pub returns : goal.returns
returns c =
    let args = c.args in
    let none = data_len_end args.case c.loop-j.j args.count c.loop-j-test.false in
    sym (le-leb (data_len args.case 0 args.count) args.room (omega (arith, c.loop-j.invariant, none)))
