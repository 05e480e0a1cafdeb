-- `layout::numbers_of` meets its contract.
use Rattle.std.proofs.Common.{◌≡◌, ℕ, ◌<◌, ◌/◌, Option, Some, None, SomeIff, sym, ◌∙◌, arith}
use Rattle.std.specs.Option.{unwrap_or}
use Rattle.layout.specs.Layout.{fields_of, values_of, numbers_of}
use Rattle.layout.specs.LayoutLaws.{numbers_of_quotient, numbers_of_none}
use Rattle.layout.proofs.numbers_of.Goals as goal

-- the quotient, or 0 where there is nothing to divide by
divided : (case : ℕ) (r : Option ℕ) → SomeIff r (0 < values_of case) (fields_of case / values_of case) → unwrap_or r 0 ≡ numbers_of case
divided case None h = sym (numbers_of_none case (omega (arith, h)))
divided case (Some n) (p, e) = e ∙ numbers_of_quotient case (λ z. omega arith)

pub returns : goal.returns
returns c = c.unwrap_or.ensures ∙ divided c.args.case c.checked_div.result (rw (c.fields_of.ensures, c.values_of.ensures) at c.checked_div.ensures)
