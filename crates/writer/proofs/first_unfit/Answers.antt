use lib.ListN.{drop}
use mathlib.Core.Path.{sym, ◌∙◌}
use native.Mathlib.Omega.{arith}
use borrow.Author.Rules.{rules}
use mir.Syntax.{w16, w64}
use mir.ValLaws.{to_z-of_z}
use Rattle.writer.specs.WriterLaws.{unfit_next, unfit_here, unfit_end, fits_is}
use Rattle.writer.proofs.first_unfit.Goals as goal

pub returns-then-not-fits : goal.returns-then-not-fits
returns-then-not-fits c =
    let args = c.args in
    let coefficient = to_z-of_z w64 _ (record { sfits = search rules }) in
    let scale = to_z-of_z w16 _ (record { sfits = search rules }) in
    let fit = fits_is _ _ _ _ _ _ _ c.width_at.ensures c.decimals_of-decimals.ensures c.fits.ensures in
    let here = unfit_here args.case c.loop-j.j args.coefficients.now args.scales.now c.loop-j-test.true c.requires in
    (sym (here _ _ coefficient scale (fit ∙ c.if-not-fits.true)) ∙ c.loop-j.invariant, c.loop-j-test.true)

pub loop-j-preserved : goal.loop-j-preserved
loop-j-preserved c =
    let args = c.args in
    let coefficient = to_z-of_z w64 _ (record { sfits = search rules }) in
    let scale = to_z-of_z w16 _ (record { sfits = search rules }) in
    let fit = fits_is _ _ _ _ _ _ _ c.width_at.ensures c.decimals_of-decimals.ensures c.fits.ensures in
    let next = unfit_next args.case c.loop-j.j args.coefficients.now args.scales.now c.loop-j-test.true c.requires in
    sym (next _ _ coefficient scale (fit ∙ c.if-not-fits.false)) ∙ c.loop-j.invariant

pub returns : goal.returns
returns c =
    let last = unfit_end c.args.case c.loop-j.j c.args.coefficients.now (drop c.loop-j.j c.args.scales.now) c.loop-j-test.false in
    omega (arith, last, c.loop-j.invariant, c.loop-j-test.false)
