-- A line that fits the columns of its record's parts, and of which those that are asked pass, is refused for nothing by its fields.
use Rattle.std.specs.Prelude.{◌≡◌, ℕ, zero, suc, ◌+◌, ◌-◌, ◌%◌, Bool, true, false, not, List, [], ◌∷◌, ◌++◌, map, length, take, drop, replicate, nat_le}
use Rattle.std.proofs.Math.Path.{refl}
use Rattle.std.proofs.Common.{sym, ◌∙◌, inl, inr, append-nil, arith, leb-true, eqb-true, length-append, take_all}
use Rattle.std.proofs.lemmas.List.{length-map, length-replicate}
use Rattle.laws.specs.Choice.{pick}
use Rattle.laws.specs.RangesLaws.{in_range}
use Rattle.laws.specs.ChoiceLaws.{and_left, and_right, false_not_true}
use Rattle.laws.specs.Run.{run}
use Rattle.text.specs.Parts.{is_digit}
use Rattle.integer.specs.Integer.{integer_of, end_integer, step_integer, push}
use Rattle.codes.specs.Rule.{keeps}
use Rattle.text.specs.Blank.{all_blank, Blanks}
use Rattle.text.specs.BlankLaws.{all_blank_complete}
use Rattle.line.specs.Line.{passed}
use Rattle.real.specs.Spelling.{Letter}
use Rattle.field.specs.Field.{may_blank, field_number}
use Rattle.record_table.specs.Row.{Field}
use Rattle.record_table.specs.Records.{identification_form, function_form, data_form, axis_form, records, record_of}
use Rattle.record.specs.Check.{or_else, otherwise, stray_fault, fields_fault, first_non_blank, stray_in, stray, fields_refusal}
use Rattle.record.specs.CheckLaws.{first_byte_blank}
use Rattle.usual_columns.specs.declared.Cell.{Cell}
use Rattle.usual_columns.specs.Cells.{Takes, blank, digit, field_cells, Fits, tables, Begins, Laid, Passed}
use Rattle.usual_columns.specs.CellsLaws.{fits_split, fits_passed}
use Rattle.usual_columns.specs.FieldLaws.{takes_blank, field_holds, blanks_fit}
use Rattle.usual_columns.specs.RowLaws.{field_length, Clear, clear_end, clear_on, fits_on, clear_passes}
use Rattle.usual_columns.specs.Parts.{printable, Part, skipped, text, real, coded, asked, field_of, cells_of, parts_cells, record_cells}
use Rattle.usual_columns.specs.Parts.{all_taken, all_fit, is_sure, all_sure, PassesAt, AskedAt, Asked, function_parts, data_parts, axis_parts}

-- a test of all that columns take holds for what fits them
taken_all : (c : Cell) (f : ℕ → Bool) {b : ℕ} → all_taken c f ≡ true → Takes c b → f b ≡ true
unfolding all_taken
taken_all c f h (inl (r, low, e)) =
    rw (← e) (in_range (λ (i : ℕ). f ((i + c.lo) % 256)) true 0 (c.span + 1) r (and_right (f c.alt) _ h) (omega arith) (omega arith))
taken_all c f h (inr e) = rw e (and_left (f c.alt) _ h)

fit_all : {cs : List Cell} {l : List ℕ} (f : List ℕ → Bool) → all_fit cs f ≡ true → Fits cs l → f l ≡ true
unfolding all_fit
fit_all f h Fits.none = h
fit_all {cs = c ∷ cs} f h (Fits.more {b = b} t m) = fit_all (λ (l : List ℕ). f (b ∷ l)) (taken_all c (λ (x : ℕ). all_fit cs (λ (l : List ℕ). f (x ∷ l))) h t) m

-- blanks are blanks to the byte
fit_blanks : (n : ℕ) {l : List ℕ} → Fits (replicate n blank) l → l ≡ replicate n 32
fit_blanks zero Fits.none = refl
fit_blanks (suc n) (Fits.more {b = b} {bs = bs} t f) = rw (takes_blank t, fit_blanks n f) refl

-- a part has as many columns as its field
part_length : (p : Part) → is_sure p ≡ true → length (cells_of p) ≡ (field_of p).width
part_length (skipped w) h = length-replicate w blank
part_length (text w) h = length-replicate w printable
part_length (real w) h = field_length 69 9 w (leb-true 9 w (and_left (nat_le 9 w) (nat_le w 25) h))
part_length (coded n r cs) h = length-append (replicate n blank) cs ∙ rw (length-replicate n blank) refl
part_length (asked w r) h = length-replicate w printable

-- a part whose columns fit passes, and has no byte outside the fields
part_passes : (p : Part) (at : ℕ) (line : List ℕ) {l : List ℕ} → is_sure p ≡ true → take (field_of p).width (drop at line) ≡ l → Fits (cells_of p) l → AskedAt p at line
    → PassesAt (field_of p) at line
unfolding field_number may_blank
part_passes (skipped w) at line h e f a = refl
part_passes (text w) at line h e f a = refl
part_passes (real w) at line h e f a = rw (e, (field_holds 69 9 w Letter.E (omega arith) (leb-true w 25 (and_right (nat_le 9 w) (nat_le w 25) h)) f).is) refl
part_passes (coded n r cs) at line h e f a =
    let s = fits_split (replicate n blank) cs f in
    rw (e, s.is, fit_blanks n s.fits_first) (eqb-true _ _ (fit_all _ h s.fits_second))
part_passes (asked w r) at line h e f a = a

part_clean : (p : Part) (k : ℕ) {l : List ℕ} → Fits (cells_of p) l → stray_in (field_of p).form k l ≡ 0
part_clean (skipped w) k f = first_byte_blank k _ (all_blank_complete (blanks_fit w f))
part_clean (text w) k f = refl
part_clean (real w) k f = refl
part_clean (coded n r cs) k f = refl
part_clean (asked w r) k f = refl

parts_clear : (ps : List Part) (at : ℕ) (line : List ℕ) {m bl : List ℕ} → all_sure ps ≡ true → drop at line ≡ m ++ bl → Fits (parts_cells ps) m → Blanks bl → Asked ps at line
    → Clear (map field_of ps) at line
unfolding parts_cells all_sure Asked
parts_clear [] at line h e Fits.none n a = clear_end at line e n
parts_clear (p ∷ ps) at line h e f n a =
    let sure = and_left (is_sure p) (all_sure ps) h in
    let o = fits_on (cells_of p) (parts_cells ps) (field_of p).width at line (part_length p sure) e f in
    clear_on (field_of p) (map field_of ps) at line o.here (part_passes p at line sure o.here o.fits_first a.0) (part_clean p (at + 1) o.fits_first)
    (parts_clear ps (at + (field_of p).width) line (and_right (is_sure p) (all_sure ps) h) o.on o.fits_second n a.1)

-- a line of 80 columns that fits
pub record_passes : (ps : List Part) (fs : List Field) (line : List ℕ) → map field_of ps ≡ fs → all_sure ps ≡ true → Fits (record_cells ps) line → Asked ps 0 line
    → fields_refusal fs line ≡ passed
unfolding record_cells
record_passes ps fs line e h f a =
    let s = fits_split (parts_cells ps) (replicate (80 - length (parts_cells ps)) blank) f in
    rw (← e) (clear_passes (parts_clear ps 0 line h s.is s.fits_first (blanks_fit (80 - length (parts_cells ps)) s.fits_second) a))

-- the parts are those of the record of a number, all sure to pass, and make 80 columns
pub record Usual (k : ℕ) (ps : List Part) : Type 0 where
  pub fields_are : map field_of ps ≡ (record_of k).fields
  pub sure : all_sure ps ≡ true
  pub whole : length (record_cells ps) ≡ 80

-- one computed test for each record
module _ where
  pub function_usual : Usual function_form function_parts
  unfolding function_parts parts_cells record_cells all_sure all_fit all_taken field_number may_blank integer_of end_integer run step_integer is_digit push keeps record_of records
  function_usual = record { fields_are = refl; sure = refl; whole = refl }

  pub data_usual : Usual data_form data_parts
  unfolding data_parts parts_cells record_cells field_cells all_sure all_fit all_taken field_number may_blank integer_of end_integer run step_integer is_digit push keeps record_of records
  data_usual = record { fields_are = refl; sure = refl; whole = refl }

  pub axis_usual : Usual axis_form axis_parts
  unfolding axis_parts parts_cells record_cells all_sure all_fit all_taken field_number may_blank integer_of end_integer run step_integer is_digit push keeps record_of records
  axis_usual = record { fields_are = refl; sure = refl; whole = refl }

-- a line whose 80 columns pass tables of them
module _ (ps : List Part) where
  begins : (f : Cell → ℕ) (l : List ℕ) → length (record_cells ps) ≡ 80 → map f (record_cells ps) ≡ l → Begins (map f (record_cells ps)) (f digit) l
  begins f l n e =
      let m : length (map f (record_cells ps)) ≡ 80 = length-map (record_cells ps) f ∙ n in
      record { few = omega arith; is = sym e ∙ rw m (sym (append-nil _)) }

  pub usual_passes : {k : ℕ} {ls ss os : List ℕ} (line : List ℕ) → Usual k ps → map (λ (c : Cell). c.lo) (record_cells ps) ≡ ls
      → map (λ (c : Cell). c.span) (record_cells ps) ≡ ss → map (λ (c : Cell). c.alt) (record_cells ps) ≡ os → length line ≡ 80
      → Passed (tables ls ss os) line 0 80 → Asked ps 0 line → fields_refusal (record_of k).fields line ≡ passed
  usual_passes {k} {ls} {ss} {os} line u el es eo n p a =
      let w : length (record_cells ps) ≡ 80 = u.whole in
      let d : Laid (record_cells ps) (tables ls ss os) = record { los_are = begins _ ls w el; spans_are = begins _ ss w es; alts_are = begins _ os w eo } in
      let f : Fits (record_cells ps) (take (length (record_cells ps)) (drop 0 line)) = fits_passed (record_cells ps) (tables ls ss os) line 0 d (omega arith) (rw w p) in
      let same : take (length (record_cells ps)) line ≡ line = take_all (length (record_cells ps)) line (omega arith) in
      record_passes ps (record_of k).fields line u.fields_are u.sure (rw same at f) a

-- a text that is not blank
pub identification_passes : (line : List ℕ) → length line ≡ 80 → not (all_blank line) ≡ true → fields_refusal (record_of identification_form).fields line ≡ passed
unfolding record_of records fields_fault stray fields_refusal first_non_blank field_number
identification_passes line n h = rw (take_all 80 line (omega arith)) (go (all_blank line) h)
  where
    go : (t : Bool) → not t ≡ true → otherwise (or_else (pick t 9 0) 1 passed) (stray_fault 0) ≡ passed
    go true h = false_not_true h
    go false h = refl
