-- Line 7's columns and its items declare the same.
use Rattle.std.specs.Prelude.{◌≡◌, refl, List, ℕ}
use Rattle.field.specs.Item.{Item}
use Rattle.record_table.specs.Records.{data_form, records, record_of}
use Rattle.record.specs.Check.{items_of}
use Rattle.record.specs.Declares.{natural_at, case_by, count_by, stored_by, number_in, case_in, count_in, stored_in}

-- a line and items that declare the same case and the same count, and so the same numbers
pub record Declares (line : List ℕ) (is : List Item) : Type 0 where
  pub case : case_in line ≡ case_by is
  pub count : count_in line ≡ count_by is
  pub stored : stored_in line ≡ stored_by is

pub declares_items : (line : List ℕ) → Declares line (items_of (record_of data_form).fields 0 line)
unfolding number_in case_in count_in stored_in natural_at case_by count_by stored_by items_of record_of records
declares_items line = record { case = refl; count = refl; stored = refl }
