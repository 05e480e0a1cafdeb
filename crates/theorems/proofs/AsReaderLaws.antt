-- On a 58's data line each field shows what the reader shows of the stored number.
use Rattle.std.specs.Prelude.{◌≡◌, refl, List, ℕ, suc, ◌<◌, take, Ok}
use Rattle.std.proofs.Common.{sym, ap, subst, ◌∙◌}
use Rattle.std.proofs.Math.IntN.{nat_abs}
use Rattle.real.specs.Real.{below_zero, number_of, real_of}
use Rattle.real.proofs.RealLaws.{real_of_complete}
use Rattle.layout.specs.Columns.{field_start, field_past}
use Rattle.layout.specs.ColumnsLaws.{field_of_inside}
use Rattle.layout.specs.Layout.{layout_of, fields_of}
use Rattle.layout.specs.LayoutLaws.{fields_of_some}
use Rattle.record_table.specs.Records.{data_row}
use Rattle.parts.specs.Parts.{Part, line_of}
use Rattle.parts.specs.Function.{part_case, first_byte, past_byte}
use Rattle.reader.specs.Reader.{shown_of, stored_number}
use Rattle.theory.specs.Sets.{Set}
use Rattle.theory.specs.Proper.{Proper}
use Rattle.parts_laws.specs.Stored.{stored_count, stored_item, own_columns}
use Rattle.parts_laws.specs.StoredLaws.{stored_spelled}
use Rattle.parts_laws.specs.DeclaresLaws.{case_held}
use Rattle.parts_laws.proofs.ShownLaws.{own_bytes_lem}
use Rattle.parts_laws.specs.Field.{Spelled}
use Rattle.format_reader.specs.Question.{answer_of, real_shown}
use Rattle.format_laws.specs.Asked.{ReadsAs}
use Rattle.format_laws.specs.DataLaws.{data_shown}
use Rattle.theorems.specs.Stands.{At58}
use Rattle.theorems.specs.Answers.{own_bytes}
use Rattle.theorems.specs.ListerLaws.{set_holds, set_somewhere}
use Rattle.theorems.proofs.ColumnsLaws.{values_in_columns}
use Rattle.theorems.proofs.ReaderLaws.{number_by_bytes}
use Rattle.theorems.specs.AsReader.{data_columns, data_field, AsReader}

module _ {sets : List Set} {bytes : List ℕ} (p : Proper sets bytes) {k : ℕ} {s : Set} {q : Part} (a : At58 sets bytes k s q) (j : ℕ) (l : j < stored_count s) where
  abbrev c : ℕ
  c = part_case q

  -- the columns of the line are bytes of the file
  spelled : Spelled (stored_item s j) (own_columns c q j)
  spelled =
      let h = set_holds p a.at in
      subst (λ (y : ℕ). Spelled (stored_item s j) (own_columns y q j)) (sym (case_held h a.number)) (stored_spelled h a.number j l)

  own : own_columns c q j ≡ own_bytes bytes q j
  unfolding own_bytes
  own = own_bytes_lem bytes q a.at.others (set_somewhere p a.at) j (stored_item s j) spelled

  -- and mean one real
  meant : real_of (own_columns c q j) ≡ Ok (number_of spelled.minus spelled.coefficient spelled.scale)
  meant = real_of_complete spelled.spelling

  stored : stored_number bytes (suc k) j ≡ shown_of (first_byte q j) (past_byte q j) (Ok (number_of spelled.minus spelled.coefficient spelled.scale))
  stored = number_by_bytes p a j l ∙ ap (shown_of (first_byte q j) (past_byte q j)) (ap real_of (sym own) ∙ meant)

  within : data_field q j < fields_of c
  within = let v = values_in_columns p a in field_of_inside (fields_of c) j (fields_of_some c (rw v.case v.eight))

  module _ (text : List ℕ) (n : ℕ) (r : ReadsAs text (take n (data_row c).fields)) (h : data_field q j < n) (z : (answer_of text (data_field q j) (data_columns q j)).reply.number ≡ 0) where
    asked : answer_of text (data_field q j) (data_columns q j)
        ≡ real_shown (field_start (layout_of c).widths (data_field q j)) (field_past (layout_of c).widths (data_field q j)) (real_of (own_columns c q j))
    unfolding own_columns line_of
    asked = data_shown c n text r (data_field q j) h within (data_columns q j) z

    pub as_reader : AsReader bytes (suc k) j q (answer_of text (data_field q j) (data_columns q j))
    unfolding first_byte past_byte
    as_reader = record {
      first = field_start (layout_of c).widths (data_field q j);
      past = field_past (layout_of c).widths (data_field q j);
      sign = spelled.minus;
      coefficient = spelled.coefficient;
      below = below_zero spelled.scale;
      size = nat_abs spelled.scale;
      asked = asked ∙ rw meant refl;
      stored = stored;
    }
