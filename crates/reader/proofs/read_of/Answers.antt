-- `reader::read_of` meets its contract.
use Rattle.std.specs.Prelude.{◌≡◌, refl, Option, Some, None, Float, ok_or}
use Rattle.std.proofs.Common.{◌∙◌}
use Rattle.reader.specs.Reader.{on_exact, read_of}
use Rattle.reader.proofs.read_of.Goals as goal

pub returns-in_default : goal.returns-in_default
unfolding read_of
returns-in_default c = rw c.in_default.is refl

outside : (y : Option Float) → ok_or y 21 ≡ on_exact y
outside (Some x) = refl
outside None = refl

pub returns : goal.returns
unfolding read_of
returns c = c.ok_or.ensures.value ∙ rw (c.exact_f64.ensures, c.in-Ok.is) (outside _)
