-- `walk::check_list` meets its contract.
use mathlib.Core.Path.{sym, ap, ◌∙◌}
use Rattle.line.specs.Line.{verdict}
use native.Mathlib.Omega.{arith}
use Rattle.record_table.specs.Records.{trace_entries, order_lists, no_record}
use Rattle.walk.specs.DueLaws.{row_refusal_list, row_refusal_data, list_row_58, list_row_82, list_row_1815, list_row_other}
use Rattle.walk.proofs.check_list.Goals as goal

pub returns-in-0 : goal.returns-in-0
returns-in-0 c = c.check_data.ensures ∙ ap verdict (sym (row_refusal_data _ _ c.requires _ (list_row_58 _ c.in-0.is)))

pub returns-in-1 : goal.returns-in-1
returns-in-1 c = c.check_list.ensures ∙ ap verdict (sym (row_refusal_list _ _ c.requires trace_entries (list_row_82 _ c.in-1.is)))

pub returns-in-4 : goal.returns-in-4
returns-in-4 c = c.check_list-in-4.ensures ∙ ap verdict (sym (row_refusal_list _ _ c.requires order_lists (list_row_1815 _ c.in-4.is)))

pub returns-in_default : goal.returns-in_default
returns-in_default c =
    let other = list_row_other c.args.d (λ e. omega arith) (λ e. omega arith) (λ e. omega arith) in
    c.check_list-in_default.ensures ∙ ap verdict (sym (row_refusal_list _ _ c.requires no_record other))
