-- `lister::read_data_form` meets its contract.
use Rattle.lister.specs.FunctionLaws.{body_within, eight_within, form_own}
use Rattle.lister.proofs.read_data_form.Goals as goal

pub skip_lines-seven-requires : goal.skip_lines-seven-requires
skip_lines-seven-requires c = body_within _ _ c.requires

pub skip_lines-requires : goal.skip_lines-requires
skip_lines-requires c =
    let taken = c.take_line-eight.ensures in
    eight_within _ _ c.requires _ _ _ c.skip_lines-seven.ensures.0 taken.0 taken.1

pub returns : goal.returns
returns c =
    let taken = c.take_line-eight.ensures in
    λ s. form_own _ _ s _ _ _ c.skip_lines-seven.ensures.0 taken.0 taken.1 _ _ _ c.case_in.ensures c.count_in.ensures
    c.skip_lines.ensures.0
