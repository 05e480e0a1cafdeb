-- Padding, and how many columns of a 58's last line count (02, C-13: "In the last data line the full line's columns past the counted
-- numbers are either all blank or all filled with well-formed reals up to the full line. Those are padding"). A 58's last line is its
-- last data line.
use Rattle.std.specs.Prelude.{List, ℕ, suc, ◌-◌, eqb, take, drop}
use Rattle.laws.specs.Choice.{pick}
use Rattle.text.specs.Blank.{all_blank}
use Rattle.layout.specs.Columns.{field_of, field_past, total}
use Rattle.layout.specs.Layout.{layout_of, fields_of}
use Rattle.parts.specs.Parts.{Part, line_of, last_line}
use Rattle.parts.specs.Function.{part_case, stored_of}

-- of a case with n stored numbers, from 1: the field of the last of them, and the column past it
unfoldable pub last_field : ℕ → ℕ → ℕ
last_field c n = field_of (fields_of c) (n - 1)

unfoldable pub counted_past : ℕ → ℕ → ℕ
counted_past c n = field_past (layout_of c).widths (last_field c n)

-- the remainder of a line: "the full line's columns past the counted numbers"
unfoldable pub remainder : ℕ → ℕ → List ℕ → List ℕ
remainder c n cs = take (total (layout_of c).widths - counted_past c n) (drop (counted_past c n) cs)

-- how many fields are in it, 0 where it is blank
unfoldable pub padding_in : ℕ → ℕ → List ℕ → ℕ
padding_in c n cs = pick (all_blank (remainder c n cs)) 0 (fields_of c - suc (last_field c n))

-- "the padding numbers" of a set; 0 unless it is a 58
unfoldable pub padding_of : Part → ℕ
padding_of p = pick (eqb (stored_of p) 0) 0 (padding_in (part_case p) (stored_of p) (line_of p (last_line p)))
