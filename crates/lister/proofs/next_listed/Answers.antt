-- `lister::next_listed` meets its contract.
use Rattle.lister.specs.NextLaws.{opened, ended, opening, closed, at_58, through_58, listed_58, through_plain, listed_plain}
use mathlib.Core.Path.{sym, ◌∙◌}
use native.Mathlib.Omega.{arith}
use Rattle.lister.proofs.next_listed.Goals as goal

pub unwrap-opening-requires : goal.unwrap-opening-requires
unwrap-opening-requires c =
    let pre = c.requires in
    opened c.args.file.now _ _ pre.0 pre.1.0 pre.1.1.0 pre.1.1.1 _ c.find_delimiter.ensures

pub slice_bounds-line_number-end : goal.slice_bounds-line_number-end
slice_bounds-line_number-end c =
    let pre = c.requires in
    let file = c.args.file.now in
    omega (arith, ended file _ _ pre.0 pre.1.0 pre.1.1.0 pre.1.1.1 _ (sym c.unwrap-opening.ensures ∙ c.find_delimiter.ensures) _ c.find_end-end.ensures)

pub overflow_add-body : goal.overflow_add-body
overflow_add-body c =
    let pre = c.requires in
    let file = c.args.file.now in
    omega (arith, ended file _ _ pre.0 pre.1.0 pre.1.1.0 pre.1.1.1 _ (sym c.unwrap-opening.ensures ∙ c.find_delimiter.ensures) _ c.find_end-end.ensures)

pub function_at-f-requires : goal.function_at-f-requires
function_at-f-requires c =
    let pre = c.requires in
    let file = c.args.file.now in
    at_58 file _ _ pre.0 pre.1.0 pre.1.1.0 pre.1.1.1 _ (sym c.unwrap-opening.ensures ∙ c.find_delimiter.ensures) _ c.find_end-end.ensures _ c.line_number-number.ensures c.if-number-eq58.true

pub overflow_add-result : goal.overflow_add-result
overflow_add-result c =
    let pre = c.requires in
    let file = c.args.file.now in
    omega (
      arith,
      through_58 file _ _ pre.0 pre.1.0 pre.1.1.0 pre.1.1.1 _ (sym c.unwrap-opening.ensures ∙ c.find_delimiter.ensures) _ c.find_end-end.ensures
          _ c.line_number-number.ensures c.if-number-eq58.true _ c.function_at-f.ensures,
    )

pub overflow_add-result-then-number-eq58 : goal.overflow_add-result-then-number-eq58
overflow_add-result-then-number-eq58 c =
    let pre = c.requires in
    let file = c.args.file.now in
    omega (
      arith,
      through_58 file _ _ pre.0 pre.1.0 pre.1.1.0 pre.1.1.1 _ (sym c.unwrap-opening.ensures ∙ c.find_delimiter.ensures) _ c.find_end-end.ensures
          _ c.line_number-number.ensures c.if-number-eq58.true _ c.function_at-f.ensures,
    )

pub returns-then-number-eq58 : goal.returns-then-number-eq58
returns-then-number-eq58 c =
    let pre = c.requires in
    let file = c.args.file.now in
    listed_58 file _ _ pre.0 pre.1.0 pre.1.1.0 pre.1.1.1 _ (sym c.unwrap-opening.ensures ∙ c.find_delimiter.ensures) _ c.find_end-end.ensures
    _ c.line_number-number.ensures c.if-number-eq58.true _ c.function_at-f.ensures

pub overflow_add-opening : goal.overflow_add-opening
overflow_add-opening c =
    let pre = c.requires in
    let file = c.args.file.now in
    let o = opening file _ _ pre.0 pre.1.0 pre.1.1.0 pre.1.1.1 _ (sym c.unwrap-opening.ensures ∙ c.find_delimiter.ensures) _ c.find_end-end.ensures in
    omega (arith, o.lines, o.later, o.within)

pub find_delimiter-requires-2 : goal.find_delimiter-requires-2
find_delimiter-requires-2 c =
    let pre = c.requires in
    let file = c.args.file.now in
    let o = opening file _ _ pre.0 pre.1.0 pre.1.1.0 pre.1.1.1 _ (sym c.unwrap-opening.ensures ∙ c.find_delimiter.ensures) _ c.find_end-end.ensures in
    let e = ended file _ _ pre.0 pre.1.0 pre.1.1.0 pre.1.1.1 _ (sym c.unwrap-opening.ensures ∙ c.find_delimiter.ensures) _ c.find_end-end.ensures in
    (omega (arith, e), omega (arith, o.lines, o.later, c.find_end-end.ensures))

pub unwrap-closing-requires : goal.unwrap-closing-requires
unwrap-closing-requires c =
    let pre = c.requires in
    let file = c.args.file.now in
    closed file _ _ pre.0 pre.1.0 pre.1.1.0 pre.1.1.1 _ (sym c.unwrap-opening.ensures ∙ c.find_delimiter.ensures) _ c.find_end-end.ensures _ c.find_delimiter-2.ensures

pub overflow_add-result-2 : goal.overflow_add-result-2
overflow_add-result-2 c =
    let pre = c.requires in
    let file = c.args.file.now in
    omega (
      arith,
      through_plain file _ _ pre.0 pre.1.0 pre.1.1.0 pre.1.1.1 _ (sym c.unwrap-opening.ensures ∙ c.find_delimiter.ensures) _ c.find_end-end.ensures
          _ c.line_number-number.ensures c.if-number-eq58.false _ (sym c.unwrap-closing.ensures ∙ c.find_delimiter-2.ensures),
    )

pub returns : goal.returns
returns c =
    let pre = c.requires in
    let file = c.args.file.now in
    listed_plain file _ _ pre.0 pre.1.0 pre.1.1.0 pre.1.1.1 _ (sym c.unwrap-opening.ensures ∙ c.find_delimiter.ensures) _ c.find_end-end.ensures
    _ c.line_number-number.ensures c.if-number-eq58.false _ (sym c.unwrap-closing.ensures ∙ c.find_delimiter-2.ensures)
