-- `writer::write` meets its contract.
use mathlib.Core.Logic.{inl, inr, ⊎_elim}
use mathlib.Core.Path.{sym, ◌∙◌, refl}
use Rattle.writer.specs.SetLaws.{header_both, count_both, unfit_both, short_both, set_room, accepted_both}
use Rattle.writer.proofs.write.Goals as goal

pub returns-in-Err : goal.returns-in-Err
returns-in-Err c =
    let args = c.args in
    header_both args.header.now args.coefficients.now args.scales.now args.out.now _ (sym c.in-Err.is ∙ c.judge_header.ensures)

pub returns-then-coefficients-found : goal.returns-then-coefficients-found
returns-then-coefficients-found c =
    let args = c.args in
    let both = count_both args.header.now args.coefficients.now args.scales.now args.out.now _ (sym c.in-Ok.is ∙ c.judge_header.ensures) in
    rw c.bare_reply.ensures (both (⊎_elim (λ w. inl w) (λ w. inr w.1) c.then-coefficients-found.either))

pub first_unfit-requires : goal.first_unfit-requires
first_unfit-requires c = c.if-scales-found.false ∙ sym c.if-coefficients-found.false

pub returns-in-Some : goal.returns-in-Some
returns-in-Some c =
    let args = c.args in
    let counts = c.if-scales-found.false in
    let both = unfit_both args.header.now args.coefficients.now args.scales.now args.out.now _ (sym c.in-Ok.is ∙ c.judge_header.ensures) c.if-coefficients-found.false in
    let (first, below) = c.in-Some.ensures in
    rw c.bare_reply-in-Some.ensures (both counts _ first below)

pub returns-then-not-set_fits : goal.returns-then-not-set_fits
returns-then-not-set_fits c =
    let args = c.args in
    let counts = c.if-scales-found.false in
    let both = short_both args.header.now args.coefficients.now args.scales.now args.out.now _ (sym c.in-Ok.is ∙ c.judge_header.ensures) c.if-coefficients-found.false in
    rw c.bare_reply-then-not-set_fits.ensures (both counts _ refl c.in_default.ensures _ c.set_fits.ensures c.if-not-set_fits.true)

pub put_set-n-requires : goal.put_set-n-requires
put_set-n-requires c =
    let args = c.args in
    let counts = c.if-scales-found.false in
    let room = set_room args.header.now args.coefficients.now args.scales.now args.out.now _ (sym c.in-Ok.is ∙ c.judge_header.ensures) c.if-coefficients-found.false in
    (counts ∙ sym c.if-coefficients-found.false, room counts _ refl c.in_default.ensures _ c.set_fits.ensures c.if-not-set_fits.false)

pub returns : goal.returns
returns c =
    let args = c.args in
    let counts = c.if-scales-found.false in
    let both = accepted_both args.header.now args.coefficients.now args.scales.now args.out.now _ (sym c.in-Ok.is ∙ c.judge_header.ensures) c.if-coefficients-found.false in
    let put = c.put_set-n.ensures in
    rw c.bare_reply-2.ensures (both counts _ refl c.in_default.ensures _ c.set_fits.ensures c.if-not-set_fits.false _ put.0 _ put.1)
