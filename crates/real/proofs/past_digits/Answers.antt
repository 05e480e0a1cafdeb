-- `real::past_digits` meets its contract.
use Rattle.std.proofs.Common.{rules, ◌≡◌, ap, ◌∙◌, length, take_while}
use Rattle.std.specs.Slice.Iter.{iter_rest}
use Rattle.std.proofs.lemmas.Iterator.{YieldsList-from_slice}
use Rattle.std.proofs.lemmas.Iterator.Search.{YieldsList-from_take_while}
use Rattle.std.proofs.lemmas.Iterator.Consumers.{count_from_yields_List}
use Rattle.text.specs.Parts.{is_digit}
use Rattle.real.specs.Plain.{between}
use Rattle.real.proofs.PlainLaws.{digits_while}
use Rattle.real.proofs.past_digits.Goals as goal

pub returns : goal.returns
returns c =
    let l = c.args.s.now in
    let n : c.count.result ≡ length (take_while is_digit (between c.args.at (length l) l)) =
    count_from_yields_List _ _ c.count.ensures.ran
    (YieldsList-from_take_while _ is_digit (YieldsList-from_slice (between c.args.at (length l) l) (ap iter_rest c.take_while.ensures.source ∙ c.iter.ensures.rest)) c.take_while.ensures.closure c.take_while.ensures.done (λ x b q k. search rules)) in
    digits_while l _ _ c.requires n
