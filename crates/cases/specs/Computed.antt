-- The calls as they are computed. To open one of these names is to open every definition that the call's answer computes with: a case says
-- `unfolding` and the name.
use Rattle.std.specs.Prelude.{Bool, List, ℕ, ℤ, Option, Float}
use Rattle.std.specs.Float.Ieee as ieee
use Rattle.laws.specs.Run.{run}
use Rattle.laws.specs.Cut.{cut, over, judge}
use Rattle.text.specs.Blank.{all_blank}
use Rattle.text.specs.Text.{trimmed}
use Rattle.text.specs.Parts.{is_digit}
use Rattle.integer.specs.Integer as I
use Rattle.integer.specs.Integer.{step_integer, end_integer, integer_of}
use Rattle.real.specs.Real.{Real}
use Rattle.real.specs.Real as R
use Rattle.exact.specs.Exact.{exact_of, magnitude_of, ten_of}
use Rattle.exact.specs.Bits.{bits_of}
use Rattle.decimal.specs.Decimal as D
use Rattle.line.specs.declared.Refusal.{Refusal}
use Rattle.line.specs.Line.{is_allowed, without_return, columns, first_bad, line_fault, filled}
use Rattle.delimiter.specs.Kind.{then_blank, is_delimiter, dataset_number}
use Rattle.codes.specs.Rule.{keeps}
use Rattle.codes.specs.Form.{Form}
use Rattle.layout.specs.Columns as C
use Rattle.layout.specs.Layout.{layouts, layout_of, fields_of, case_for, numbers_of}
use Rattle.field.specs.Item.{Item}
use Rattle.field.specs.Field.{may_blank, field_number}
use Rattle.record_table.specs.Row.{Row, first_not_above, breach}
use Rattle.record_table.specs.Records.{records, record_of, data_row}
use Rattle.record_table.specs.TypedSets.{kind_of, is_typed, typed_sets, sequence, following}
use Rattle.record.specs.Check.{fields_fault, first_non_blank, stray, items_of, condition_fault, fields_refusal, taken, taken_refusal, row_refusal}
use Rattle.record.specs.Declares.{number_in, case_in, count_in, natural_at, case_by, count_by, stored_by}
use Rattle.walk.specs.declared.Due.{Due}
use Rattle.walk.specs.declared.State.{State}
use Rattle.std.specs.Prelude.{Result}
use Rattle.walk.specs.Due.{record_due, list_row, may_close, may_continue, row_due, settled, after_record, after_list, after_items}
use Rattle.walk.specs.Step.{opened, outside_step, number_step, plain_step, typed_step, step_of}
use Rattle.judge.specs.declared.Reply.{Reply}
use Rattle.judge.specs.Judge.{line_step, judged}
use Rattle.parts.specs.Parts as P
use Rattle.parts.specs.Function as F
use Rattle.parts.specs.Padding.{last_field, counted_past, remainder, padding_in, padding_of}
use Rattle.lister.specs.Lister.{entry, rows_of, list_reply, list_rows}
use Rattle.reader.specs.Reader as Reader
use Rattle.reader.specs.Reader.{Said, Shown}
use Rattle.values.specs.Values.{all_values, all_reply, all_places}
use Rattle.rewriter.specs.Rewriter as W
use Rattle.header.specs.Header.{header_of}
use Rattle.writer.specs.Writer.{decimals_of, width_at, fits_at, first_unfit, data_text, written_set, laid_reply, write_reply}

-- an integer field, a real field
unfoldable pub computed_integer : List ℕ → I.Held
unfolding run all_blank is_digit I.push step_integer end_integer integer_of
computed_integer field = integer_of field

unfoldable pub computed_real : List ℕ → Real
unfolding run R.push R.next R.on_coefficient R.on_exponent R.on_digit R.on_sign R.on_point R.on_letter R.on_blank R.is_letter R.scan_step R.real_end R.real_of
computed_real field = R.real_of field

-- a field by its form
unfoldable pub computed_field : Form → Bool → List ℕ → ℕ
unfolding computed_integer computed_real trimmed keeps may_blank field_number
computed_field form may field = field_number form may field

-- a line by its row
unfoldable pub computed_refusal : Row → List ℕ → Refusal
unfolding computed_field C.field_start first_not_above breach fields_fault first_non_blank stray items_of condition_fault fields_refusal C.total taken taken_refusal row_refusal
computed_refusal row line = row_refusal row line

-- what is due after a line
unfoldable pub computed_row : Due → Row
unfolding layouts layout_of records record_of data_row kind_of is_typed typed_sets sequence following record_due list_row may_close may_continue row_due
computed_row d = row_due d

unfoldable pub computed_after : Due → List Item → Due
unfolding computed_row case_for numbers_of settled natural_at case_by count_by stored_by number_in case_in count_in after_record after_list after_items
computed_after d items = after_items d items

-- a file
unfoldable pub computed_step : State → List ℕ → Result State Refusal
unfolding computed_refusal computed_after then_blank is_delimiter dataset_number opened outside_step number_step plain_step typed_step step_of
computed_step state line = step_of state line

unfoldable pub computed_judge : List ℕ → Reply
unfolding computed_step judged judge over cut is_allowed without_return columns first_bad line_fault filled line_step
computed_judge file = judged file

-- its sets, and the questions for their numbers
unfoldable pub computed_parts : List ℕ → List P.Part
unfolding computed_judge P.closes P.bytes_in P.parts_from P.parts_of P.dataset_of P.line_start P.line_of
computed_parts file = P.parts_of file

unfoldable pub computed_number : List ℕ → ℕ → ℕ → Said Shown
unfolding computed_parts F.part_case F.count_of F.stored_of F.data_line F.first_byte F.past_byte fields_of C.line_of C.field_of C.field_past Reader.read_in Reader.sets_from Reader.stored_number
computed_number file set index = Reader.stored_number file set index

unfoldable pub computed_list : List ℕ → ℕ → Reply
unfolding computed_number F.data_start P.past_of P.through_of last_field counted_past remainder padding_in padding_of entry rows_of list_reply list_rows
computed_list file places = list_reply file places

unfoldable pub computed_exact : Bool → ℕ → Bool → ℕ → Option Float
unfolding exact_of magnitude_of ten_of bits_of ieee.span ieee.climb ieee.size ieee.odd ieee.units ieee.round ieee.neg ieee.div ieee.mul ieee.of_int ieee.is_nan ieee.to_bits
computed_exact minus coefficient below scale = exact_of minus coefficient below scale

unfoldable pub computed_values : List ℕ → ℕ → ℕ → Reply
unfolding computed_number computed_exact F.data_start Reader.read_of Reader.reads Reader.whole Reader.values_in all_values all_reply all_places
computed_values file set places = all_reply file set places

unfoldable pub computed_rewrite : List ℕ → List ℕ
unfolding computed_number P.past_of P.through_of last_field counted_past W.digit_or_blank W.plain_in W.plain_number W.kept_of W.lines_text W.head_text W.cut_last W.unpadded W.set_text W.rewritten_set W.rewritten
computed_rewrite file = W.rewritten_file file

unfoldable pub computed_data : ℕ → ℕ → List ℤ → List ℤ → List ℕ
unfolding layouts layout_of fields_of C.field_of D.count_in D.short_in D.exponent_of D.digits_of D.shown D.minus_text D.coefficient_text D.exponent_text D.number_text D.field_text decimals_of width_at data_text
computed_data case from coefficients scales = data_text case from coefficients scales

unfoldable pub computed_write : List ℕ → List ℤ → List ℤ → ℕ → Reply
unfolding computed_rewrite computed_data header_of D.fits fits_at first_unfit written_set laid_reply write_reply
computed_write header coefficients scales room = write_reply header coefficients scales room
