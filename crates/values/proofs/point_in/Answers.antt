-- `values::point_in` meets its contract.
use Rattle.std.proofs.Common.{ℕ, not, eqb, ◌∙◌, rules, tests}
use Rattle.std.proofs.lemmas.Iterator.{YieldsList-from_slice}
use Rattle.std.proofs.lemmas.Iterator.Search.{YieldsList-from_take_while}
use Rattle.std.proofs.lemmas.Iterator.Consumers.{count_from_yields_List}
use Rattle.std.proofs.lemmas.List.Folds.{length-prefix_len}
use Rattle.values.specs.ScaleLaws.{point_prefix}
use Rattle.values.proofs.point_in.Goals as goal

pub returns : goal.returns
returns c =
    let l = c.args.s.now in
    let other = λ (b : ℕ). not (eqb b 46) in
    count_from_yields_List c.take_while.result _ c.count.ensures.ran
    (YieldsList-from_take_while _ other (YieldsList-from_slice l (cc)) c.take_while.ensures.closure c.take_while.ensures.done (λ x b q k. search (rules, tests)))
    ∙ length-prefix_len other l ∙ point_prefix l
