-- `values::usual_turn` meets its contract.
use Rattle.std.proofs.Common.{ℕ, ◌+◌, ap, ◌∙◌, arith}
use Rattle.values.specs.LinesLaws.{spot_opens, line_next}
use Rattle.values.proofs.usual_turn.Goals as goal

pub returns : goal.returns
returns c =
    let file = c.args.file.now in
    let d = c.args.p.now.set in
    let number : ℕ = c.args.t.number in
    let ready = c.requires.0 in
    let opens = spot_opens file d _ _ c.requires.1.0 c.if-t-gt0.false in
    let usual = c.in_ok-line.ensures.0 in
    let turn = c.at_line.ensures in
    let count = turn.0 ∙ ap (λ (n : ℕ). number + n) ready.fields_are in (
      record {
        opens = opens;
        usual = rw turn.1 usual;
        number_is = count;
        at_spot = rw (count, turn.1) (line_next file d ready.body ready.eight _ _ _ opens usual);
        within = omega (arith, turn.0, c.if-p-t.false);
      },
      c.in_ok-line.ensures.1,
    )
