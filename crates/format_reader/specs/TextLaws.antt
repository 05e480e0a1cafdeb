-- The arrays that a FORMAT text is read into, as a row of the table of records.
use Rattle.std.specs.Prelude.{◌≡◌, List, [], ◌∷◌, ◌++◌, map, ℕ, zero, suc, ◌-◌, ◌≤◌, replicate, Result, Ok, Err}
use Rattle.std.proofs.Math.Path.{refl}
use Rattle.std.proofs.Common.{ap, arith, ne_eqb, length-append}
use Rattle.std.proofs.Math.ListN.{length, length-map}
use Rattle.std.proofs.lemmas.List.{length-replicate}
use Rattle.format.specs.Format.{Kind, Field, Wide, span}
use Rattle.format.specs.declared.Kind as own
use Rattle.format.specs.declared.Kind.TheVariants.{Skip}
use Rattle.format.specs.declared.FormatFault.{FormatFault}
use Rattle.format.specs.declared.FormatFault.TheVariants.{Malformed, TooLarge}
use Rattle.format.specs.declared.Fields.{Fields}
use Rattle.format.specs.Reading.{Reading, malformed, too_large, fields, reading_of}
use Rattle.format.specs.ReadingLaws.{reading_span, reading_widths}
use Rattle.format.specs.Laid.{fault_number, kind_in, padded, kinds_of, widths_of, row_of, fields_in}
use Rattle.codes.specs.Form.{forms, form_of}
use Rattle.layout.specs.Columns.{total}
use Rattle.record_table.specs.Records.{field_list}
use Rattle.judge.specs.declared.Reply.{Reply}
use Rattle.judge.specs.Judge.{reply}
use Rattle.reader.specs.Reader.{refused_by, refused}
use Rattle.format_reader.specs.Question.{field_of, form_for, row_field, form_number, answer_by, answer_of}

form_of_kind : (k : Kind) → form_of (form_number (kind_in k)) ≡ form_for k
unfolding form_of forms form_for
form_of_kind Kind.skip = refl
form_of_kind Kind.text = refl
form_of_kind Kind.integer = refl
form_of_kind Kind.real = refl

rows : (fs : List Field) (ks : List own.Kind) (ws : List ℕ) → Wide fs → field_list (map form_number ks) ws ≡ []
    → field_list (map form_number (map (λ (f : Field). kind_in f.kind) fs ++ ks)) (map (λ (f : Field). f.width) fs ++ ws) ≡ map row_field fs
unfolding field_list
rows [] ks ws w e = e
rows (f ∷ fs) ks ws (Wide.more h w) e = rw (ne_eqb f.width 0 (λ q. omega arith), form_of_kind f.kind, rows fs ks ws w e) refl

no_rows : (n m : ℕ) → field_list (map form_number (replicate n Skip)) (replicate m 0) ≡ []
unfolding field_list
no_rows zero m = refl
no_rows (suc n) zero = refl
no_rows (suc n) (suc m) = refl

none_wide : (m : ℕ) → total (replicate m 0) ≡ 0
unfolding total
none_wide zero = refl
none_wide (suc m) = rw (none_wide m) refl

total_span : (fs : List Field) (m : ℕ) → total (map (λ (f : Field). f.width) fs ++ replicate m 0) ≡ span fs
unfolding total span
total_span [] m = none_wide m
total_span (f ∷ fs) m = rw (total_span fs m) refl

-- fields that are read, each with a column, in 80 columns
module _ (fs : List Field) where
  pub laid_rows : Wide fs → field_list (map form_number (kinds_of fs)) (widths_of fs) ≡ map row_field fs
  unfolding padded
  laid_rows w =
      rows fs _ _ w (no_rows (80 - length (map (λ (f : Field). kind_in f.kind) fs)) (80 - length (map (λ (f : Field). f.width) fs)))

  pub laid_fits : span fs ≤ 80 → total (widths_of fs) ≤ 80
  unfolding padded
  laid_fits h = rw (total_span fs (80 - length (map (λ (f : Field). f.width) fs))) h

  pub laid_lengths : length (widths_of fs) ≤ length (map form_number (kinds_of fs))
  unfolding padded
  laid_lengths = simp (length-append, length-map, length-replicate) (omega arith)

-- what the code holds of a text that is read: its fields, laid into arrays
pub record Read (text : List ℕ) (r : Fields) : Type 0 where
  pub all : List Field
  pub reading : reading_of text ≡ fields all
  pub kinds : r.kinds ≡ kinds_of all
  pub widths : r.widths ≡ widths_of all

pub is_read : {text : List ℕ} {r : Fields} → Ok r ≡ fields_in (reading_of text) → Read text r
unfolding fields_in
is_read {text} {r} e = by (reading_of text) refl e
  where
    by : (g : Reading) → reading_of text ≡ g → Ok r ≡ fields_in g → Read text r
    by malformed q e = let no : ◌≡◌ {A = Result Fields FormatFault} (Ok r) (Err Malformed) = e in let z : ◌≡◌ {A = ℕ} 0 1 = cc in absurd (omega arith)
    by too_large q e = let no : ◌≡◌ {A = Result Fields FormatFault} (Ok r) (Err TooLarge) = e in let z : ◌≡◌ {A = ℕ} 0 1 = cc in absurd (omega arith)
    by (fields fs) q e =
        let both : ◌≡◌ {A = Result Fields FormatFault} (Ok r) (Ok (row_of fs)) = e in
        let is : r ≡ row_of fs = cc in
        record {
          all = fs;
          reading = q;
          kinds = ap (λ (x : Fields). x.kinds) is;
          widths = ap (λ (x : Fields). x.widths) is;
        }

-- a text that is refused: 26 or 27
pub text_refused : (text : List ℕ) {f : FormatFault} {p : Reply} (k : ℕ) (line : List ℕ) → Err f ≡ fields_in (reading_of text) → p ≡ reply (fault_number f) 0
    → refused_by p ≡ answer_of text k line
unfolding fields_in answer_of
text_refused text {f} k line e q = rw q (by (reading_of text) e)
  where
    by : (g : Reading) → Err f ≡ fields_in g → refused (fault_number f) 0 ≡ answer_by g k line
    by malformed e = let both : ◌≡◌ {A = Result Fields FormatFault} (Err f) (Err Malformed) = e in let is : f ≡ Malformed = cc in rw is refl
    by too_large e = let both : ◌≡◌ {A = Result Fields FormatFault} (Err f) (Err TooLarge) = e in let is : f ≡ TooLarge = cc in rw is refl
    by (fields fs) e = let no : ◌≡◌ {A = Result Fields FormatFault} (Err f) (Ok (row_of fs)) = e in let z : ◌≡◌ {A = ℕ} 0 1 = cc in absurd (omega arith)

module _ {text : List ℕ} {r : Fields} (d : Read text r) {forms : List ℕ} (e : forms ≡ map form_number r.kinds) where
  pub read_lengths : length r.widths ≤ length forms
  read_lengths = rw (e, d.kinds, d.widths) (laid_lengths d.all)

  pub read_fits : total r.widths ≤ 80
  read_fits = rw d.widths (laid_fits d.all (reading_span text d.all d.reading))

  pub read_answer : (k : ℕ) (line : List ℕ) → field_of (field_list forms r.widths) k line ≡ answer_of text k line
  unfolding answer_of
  read_answer k line =
      rw (e, d.kinds, d.widths, laid_rows d.all (reading_widths text d.all d.reading), d.reading) refl
