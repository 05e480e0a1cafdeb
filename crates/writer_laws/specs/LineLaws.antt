-- One data line that the writer lays out: it stands within the rules on lines, and its fields hold its numbers.
use Rattle.std.specs.Prelude.{◌≡◌, refl, Bool, true, false, ℕ, zero, suc, ◌-◌, ◌≤◌, ◌<◌, ℤ, length, take, replicate}
use Rattle.std.proofs.Common.{sym, ap, ◌∙◌, arith, length-append}
use mathlib.Core.List.{List, [], ◌∷◌, ◌++◌, map, append_assoc, append-nil}
use Rattle.text.specs.Blank.{Blanks}
use Rattle.text.specs.BlankLaws.{blanks_replicate}
use Rattle.text.specs.Text.{last, Unpadded.more as byte, TextIn, text_in_lem, trimmed}
use Rattle.text.proofs.TextLaws.{trimmed_complete}
use Rattle.line.specs.Line.{Allowed, Allowed.none as no_byte, filled, line_fault, passed}
use Rattle.line.specs.LineLaws.{filled_short, line_fault_complete, allowed_append, columns_allowed}
use Rattle.delimiter.specs.Kind.{Delimiter, delimiter, is_delimiter}
use Rattle.delimiter.proofs.KindLaws.{is_delimiter_sound}
use Rattle.layout.specs.Columns.{total}
use Rattle.field.specs.Field.{field_number}
use Rattle.record_table.specs.Records.{E}
use Rattle.record.specs.Written.{FieldsIn, rest, stands}
use Rattle.record_laws.specs.FieldReadingLaws.{real_sound}
use Rattle.decimal.specs.Decimal.{field_text, ReadBack}
use Rattle.decimal.specs.DecimalLaws.{field_text_length, fits_read}
use Rattle.rewriter.specs.Rewriter.{kept_of}
use Rattle.rewriter.specs.Fair.{Fair}
use Rattle.parts.specs.Parts.{closes}
use Rattle.writer.specs.Writer.{decimals_of}
use Rattle.writer_laws.specs.DataLines.{fields_text}
use Rattle.writer_laws.specs.DataTextLaws.{fields_text_none}
use Rattle.writer_laws.specs.FieldText.{Ends}
use Rattle.writer_laws.specs.FieldTextLaws.{ends_before_lem, field_allowed, field_ends}
use Rattle.writer_laws.specs.Line.{Fit, items_back, full, done, more}

-- no number is left, or no field
items_none : (ws : List ℕ) → items_back ws [] [] ≡ []
unfolding items_back
items_none [] = refl
items_none (w ∷ ws) = refl

take_none : {A : Type 0} (n : ℕ) → take {A = A} n [] ≡ []
take_none zero = refl
take_none (suc n) = refl

-- the items stand in the fields' columns
pub fields_in_lem : {ws : List ℕ} {xs ss : List ℤ} → Fit ws xs ss → (bl : List ℕ) → Blanks bl
    → FieldsIn (map E (take (length xs) ws)) (items_back ws xs ss) (fields_text ws xs ss ++ bl)
unfolding items_back fields_text field_number
fields_in_lem (full {xs}) bl b = rw (take_none {A = ℕ} (length xs)) (rest b)
fields_in_lem (done {ws}) bl b = rw (fields_text_none ws [], items_none ws) (rest b)
fields_in_lem (more {w} {x} {s} {ws} {xs} {ss} g r n f t) bl b =
    let own : List ℕ = field_text w (decimals_of w) x s in
    let k : ReadBack x s (field_text w (decimals_of w) x s) = fits_read w (decimals_of w) x s n g r f in
    rw (append_assoc (field_text w (decimals_of w) x s) (fields_text ws xs ss) bl)
    (stands own (fields_text ws xs ss ++ bl) (field_text_length w (decimals_of w) x s) (real_sound false own (rw k.read refl)) (fields_in_lem t bl b))

pub fields_allowed : {ws : List ℕ} {xs ss : List ℤ} → Fit ws xs ss → Allowed (fields_text ws xs ss)
unfolding fields_text
fields_allowed full = no_byte
fields_allowed (done {ws}) = rw (fields_text_none ws []) no_byte
fields_allowed (more {w} {x} {s} g r n f t) = allowed_append (field_allowed w (decimals_of w) x s r) (fields_allowed t)

pub fields_length : (ws : List ℕ) (xs ss : List ℤ) → length (fields_text ws xs ss) ≤ total ws
unfolding fields_text total
fields_length [] xs ss = omega arith
fields_length (w ∷ ws) [] ss = omega arith
fields_length (w ∷ ws) (x ∷ xs) [] = omega arith
fields_length (w ∷ ws) (x ∷ xs) (s ∷ ss) = omega (arith, length-append (field_text w (decimals_of w) x s) (fields_text ws xs ss), field_text_length w (decimals_of w) x s, fields_length ws xs ss)

-- a line that has a number ends in a digit
pub fields_end : {w : ℕ} {x s : ℤ} {ws : List ℕ} {xs ss : List ℤ} → Fit (w ∷ ws) (x ∷ xs) (s ∷ ss) → Ends (fields_text (w ∷ ws) (x ∷ xs) (s ∷ ss))
unfolding fields_text
fields_end (more {w} {x} {s} g r n f full) = rw append-nil (field_ends w (decimals_of w) x s r)
fields_end (more {w} {x} {s} g r n f (done {ws})) = rw (fields_text_none ws [], append-nil) (field_ends w (decimals_of w) x s r)
fields_end (more {w} {x} {s} g r n f (more g' r' n' f' t)) = ends_before_lem (field_text w (decimals_of w) x s) (fields_end (more g' r' n' f' t))

-- and is longer than a delimiter
pub fields_long : {w : ℕ} {x s : ℤ} {ws : List ℕ} {xs ss : List ℤ} → Fit (w ∷ ws) (x ∷ xs) (s ∷ ss) → 6 < length (fields_text (w ∷ ws) (x ∷ xs) (s ∷ ss))
unfolding fields_text
fields_long (more {w} {x} {s} {ws} {xs} {ss} g r n f t) =
    omega (arith, r, length-append (field_text w (decimals_of w) x s) (fields_text ws xs ss), field_text_length w (decimals_of w) x s)

-- a line of such bytes
module _ (l : List ℕ) (a : Allowed l) (h : length l ≤ 80) (e : Ends l) (long : 6 < length l) where
  text_filled : TextIn l (filled l)
  text_filled = rw (filled_short l h) (text_in_lem (replicate (80 - length l) 32) e.unpadded (blanks_replicate (80 - length l)))

  pub line_fair : Fair l
  line_fair = record { bytes = rw (columns_allowed a) a; short = rw (columns_allowed a) h }

  -- it is kept as it is
  pub line_kept : kept_of l ≡ l
  unfolding kept_of
  line_kept = rw (columns_allowed a) (ap trimmed (sym (append-nil l)) ∙ trimmed_complete (text_in_lem [] e.unpadded Blanks.none))

  delimiter_trimmed : {cs : List ℕ} → Delimiter cs → trimmed cs ≡ 32 ∷ 32 ∷ 32 ∷ 32 ∷ 45 ∷ 49 ∷ []
  delimiter_trimmed (delimiter {bl} b) =
      trimmed_complete (text_in_lem {t = 32 ∷ 32 ∷ 32 ∷ 32 ∷ 45 ∷ 49 ∷ []} bl (byte (byte (byte (byte (byte (last (λ (z : 49 ≡ 32). omega arith))))))) b)

  -- it is no delimiter
  pub line_inside : is_delimiter (filled l) ≡ false
  line_inside = by (is_delimiter (filled l)) refl
    where
      by : (t : Bool) → is_delimiter (filled l) ≡ t → t ≡ false
      by true q = absurd (omega (arith, long, ap length (sym (trimmed_complete text_filled) ∙ delimiter_trimmed (is_delimiter_sound (filled l) q))))
      by false q = refl

  pub line_open : closes l ≡ false
  unfolding closes
  line_open = rw (columns_allowed a) line_inside

  pub line_passes : line_fault true l ≡ passed
  line_passes = line_fault_complete true l refl h a
