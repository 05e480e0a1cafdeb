-- `line::all_allowed` meets its contract.
use Rattle.std.specs.Prelude.{Bool, true, ◌&&◌, ℕ}
use Rattle.std.proofs.Common.{rules, ◌∙◌}
use Rattle.std.proofs.lemmas.Iterator.{YieldsList-from_slice}
use Rattle.std.proofs.lemmas.Iterator.Consumers.{fold_from_yields_List}
use Rattle.line.specs.Line.{is_allowed}
use Rattle.line.specs.LineLaws.{all_allowed_fold}
use Rattle.line.proofs.all_allowed.Goals as goal

pub returns : goal.returns
returns c =
    fold_from_yields_List _ (λ (fine : Bool) (b : ℕ). fine && is_allowed b) true c.fold.result c.fold.ensures.ran (YieldsList-from_slice c.args.s.now cc) (λ a x b q k. search rules)
    ∙ all_allowed_fold c.args.s.now
