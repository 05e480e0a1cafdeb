-- `record_table::row_numbers` meets its contract.
use Rattle.std.specs.Prelude.{◌≡◌, refl, true, ℕ, ◌<◌, get_or}
use Rattle.std.proofs.Common.{rules, arith, ⊎_elim}
use Rattle.std.proofs.lemmas.Option.{gets, unwrap_or-slice_get}
use Rattle.std.proofs.Math.ListN.{get_or-eq_default}
use Rattle.laws.specs.ChoiceLaws.{below_or_not}
use Rattle.laws.specs.RangesLaws.{in_range}
use Rattle.laws.specs.TableLaws.{agree_below}
use Rattle.layout.specs.Columns.{total}
use Rattle.codes.specs.Form.{forms, form_of}
use Rattle.record_table.specs.declared.RowNumbers.{RowNumbers}
use Rattle.record_table.specs.declared.TheConstants.{ROWS, NO_ROW}
use Rattle.record_table.specs.Records.{records, record_of, field_list}
use Rattle.record_table.specs.Tabled.{Tabled, is_whole}
use Rattle.record_table.specs.TabledLaws.{tabled, tabled_past}
use Rattle.record_table.proofs.row_numbers.Goals as goal

row_at : ℕ → RowNumbers
row_at k = get_or ROWS k NO_ROW

rows_listed : (k : ℕ) → k < 30 → field_list (row_at k).forms (row_at k).widths ≡ (record_of k).fields
unfolding row_at field_list form_of forms record_of records
rows_listed k h = agree_below (λ (i : ℕ). field_list (row_at i).forms (row_at i).widths) (λ (i : ℕ). (record_of i).fields) 30 k refl h

rows_whole : (k : ℕ) → k < 30 → is_whole (row_at k).forms (row_at k).widths ≡ true
unfolding row_at is_whole total
rows_whole k h = in_range (λ (i : ℕ). is_whole (row_at i).forms (row_at i).widths) true 0 30 k refl (omega arith) (omega arith)

rows_tabled : (k : ℕ) → Tabled k (row_at k).forms (row_at k).widths
unfolding row_at
rows_tabled k =
    ⊎_elim
    (λ h. tabled _ _ k k refl (rows_listed k h) (rows_whole k h))
    (λ h. let e : row_at k ≡ NO_ROW = get_or-eq_default ROWS NO_ROW h in rw e (tabled_past k h))
    (below_or_not k 30)

pub returns : goal.returns
unfolding row_at
returns c =
    let row : c.unwrap_or.result ≡ get_or ROWS c.args.row NO_ROW = search (rules, gets, unwrap_or-slice_get) in
    rw row (rows_tabled c.args.row)
