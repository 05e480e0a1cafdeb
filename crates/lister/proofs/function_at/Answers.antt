-- `lister::function_at` meets its contract.
use Prim.Native.Nat.{◌*◌, ◌≤◌}
use Rattle.layout.specs.LayoutLaws.{fields_of_some}
use Rattle.parts.specs.CountedLaws.{stored_most}
use Rattle.lister.specs.FunctionLaws.{data_within, case_own, stored_own, full_most, closing_within, function_own}
use native.Mathlib.Omega.{arith}
use borrow.Author.Rules.{rules}
use Rattle.lister.proofs.function_at.Goals as goal

pub overflow_mul-stored : goal.overflow_mul-stored
overflow_mul-stored c =
    let d = c.read_data_form-d.result in
    let few : d.count * c.numbers_of.result ≤ d.count * 3 = stored_most _ _ _ c.numbers_of.ensures in search rules

pub overflow_sub-full : goal.overflow_sub-full
overflow_sub-full c =
    let s = c.requires in
    omega (arith, stored_own _ _ s _ (c.read_data_form-d.ensures s) _ c.numbers_of.ensures, s.complete.some)

pub nonzero_div-full : goal.nonzero_div-full
nonzero_div-full c =
    let s = c.requires in
    let case = case_own _ _ s _ (c.read_data_form-d.ensures s) in
    let some = fields_of_some _ s.complete.eight in
    omega (arith, c.fields_of.ensures, rw (← case) at some)

pub skip_many-last-requires : goal.skip_many-last-requires
skip_many-last-requires c =
    let s = c.requires in
    data_within _ _ s _ (c.read_data_form-d.ensures s)

pub padding_in-requires : goal.padding_in-requires
padding_in-requires c =
    let s = c.requires in
    let own = c.read_data_form-d.ensures s in
    (omega (arith, case_own _ _ s _ own, s.complete.eight), omega (arith, stored_own _ _ s _ own _ c.numbers_of.ensures, s.complete.some))

pub skip_lines-requires : goal.skip_lines-requires
skip_lines-requires c =
    let s = c.requires in
    let taken = c.take_line-closing.ensures in
    closing_within _ _ s _ (c.read_data_form-d.ensures s) _ _ c.numbers_of.ensures c.fields_of.ensures _ _ _
    c.skip_many-last.ensures.0 taken.0 taken.1

pub overflow_add-result : goal.overflow_add-result
overflow_add-result c =
    let s = c.requires in
    let most = full_most _ _ s _ (c.read_data_form-d.ensures s) _ _ c.numbers_of.ensures c.fields_of.ensures in search rules

pub overflow_add-result-2 : goal.overflow_add-result-2
overflow_add-result-2 c =
    let s = c.requires in
    let most = full_most _ _ s _ (c.read_data_form-d.ensures s) _ _ c.numbers_of.ensures c.fields_of.ensures in search rules

pub returns : goal.returns
returns c =
    let taken = c.take_line-closing.ensures in
    λ s. function_own _ _ s _ (c.read_data_form-d.ensures s) _ _ c.numbers_of.ensures c.fields_of.ensures _ _ _
    c.skip_many-last.ensures.0 taken.0 taken.1 _ _ c.padding_in.ensures c.skip_lines.ensures.0
