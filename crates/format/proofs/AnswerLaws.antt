-- The code's answer is the reading: a FORMAT that fits is laid as its fields, any other is refused by its number.
use Rattle.std.specs.Prelude.{◌≡◌, ◌&&◌, ℕ, ◌+◌, ◌-◌, ◌*◌, ◌≤◌, ◌<◌, min, length, Option, Some, None, Ok, Err}
use Rattle.std.proofs.Math.Path.{refl, sym, ap}
use Rattle.std.proofs.Common.{◌∙◌, mul-le-mul, arith, length-append}
use Rattle.std.proofs.Math.Bool.{true, false}
use mathlib.Core.List.{List, [], ◌∷◌, ◌++◌, append_assoc}
use borrow.Author.Tests.{le-leb, lt-leb, eq-eqb, ne_eqb}
use Rattle.std.proofs.Math.Dec.{leb}
use Rattle.format.specs.Format.{Kind, skip, text, integer, real, Field, field, number, Format, Sort, Spelled, counted, scaled, brackets, last, more, repeated, fields_for, fields_of, columns, depth, groups, unblanked}
use Rattle.format.specs.Reading.{Parsed, none, some, list_of, too_large, fields, fitting, whole_of, packed_reading, reading_of}
use Rattle.format.specs.ListLaws.{list_sound}
use Rattle.format.specs.FieldsLaws.{columns_span, spelled_wide, wide_count, counted_some, plain_some}
use Rattle.format.specs.Laid.{kind_in, row_of, fields_in}
use Rattle.format.specs.Measured.{capped, a_measure, measured}
use Rattle.format.specs.Row.{pushed, repeat_from, lay_plain, lay, Laying, a_laying, laying_in, laid}
use Rattle.format.proofs.RowLaws.{row_pushed, row_times}
use Rattle.format.specs.declared.FormatFault.TheVariants.{Malformed, TooLarge}
use Rattle.format.specs.declared.Fields.{Fields}
use Rattle.format.specs.declared.Measure.{Measure}

-- a factor is at most the product
times_most : (n w : ℕ) → 1 ≤ w → n ≤ n * w
times_most n w h = let more : n * 1 ≤ n * w = mul-le-mul {n₁ = n} {n₂ = n} (omega arith) h in omega arith

-- an item that is no text
row_items : (n : ℕ) (k : Kind) (w : ℕ) (fs : List Field) → 1 ≤ n → length fs + n ≤ 80
    → repeat_from (n - 1) (length fs) (pushed (row_of fs) (kind_in k) w) ≡ row_of (fs ++ repeated n (field k w ∷ []))
row_items n k w fs h g =
    let once_more = row_pushed fs (field k w) (omega arith) in
    ap (λ (r : Fields). repeat_from (n - 1) (length fs) r) once_more ∙ row_times n fs (field k w ∷ []) h (omega arith)

row_plain : (n : ℕ) (k : Kind) (w : ℕ) (fs : List Field) → 1 ≤ n → 1 ≤ w → length fs + n * w ≤ 80 → lay_plain (row_of fs) (kind_in k) (capped n) w ≡ row_of (fs ++ fields_for n k w)
unfolding lay_plain fields_for
row_plain n skip w fs h g m = let least = times_most n w g in let same : capped n ≡ n = omega arith in rw same (row_items n skip w fs h (omega arith))
row_plain n text w fs h g m =
    let least = times_most n w g in
    let same : capped n ≡ n = omega arith in
    let whole : capped (n * w) ≡ n * w = omega arith in
    rw (same, whole) (row_pushed fs (field text (n * w)) (omega arith))
row_plain n integer w fs h g m = let least = times_most n w g in let same : capped n ≡ n = omega arith in rw same (row_items n integer w fs h (omega arith))
row_plain n real w fs h g m = let least = times_most n w g in let same : capped n ≡ n = omega arith in rw same (row_items n real w fs h (omega arith))

-- a FORMAT takes a column, and has no more fields than columns
columns_some : {s : Sort} {t : Format} {ws : List ℕ} → Spelled s t ws → 1 ≤ columns t
unfolding columns
columns_some (counted {c} {k} {w} n p) = omega (arith, counted_some n, times_most (number c) w (plain_some p))
columns_some (scaled {c} {w} n p) = omega (arith, counted_some n, times_most (number c) w (plain_some p))
columns_some (brackets {c} {t} n s) = omega (arith, counted_some n, times_most (number c) (columns t) (columns_some s))
columns_some (last s) = columns_some s
columns_some (more s r) = omega (arith, columns_some s)

fields_most : {s : Sort} {t : Format} {ws : List ℕ} → Spelled s t ws → length (fields_of t) ≤ columns t
fields_most {t = t} s = omega (arith, wide_count (spelled_wide s), columns_span t)

row_format : {s : Sort} {t : Format} {ws : List ℕ} → Spelled s t ws → (fs : List Field) → length fs + columns t ≤ 80 → lay (row_of fs) t ≡ row_of (fs ++ fields_of t)
unfolding lay fields_of columns
row_format (counted {c} {k} {w} n p) fs h = row_plain (number c) k w fs (counted_some n) (plain_some p) h
row_format (scaled {c} {w} n p) fs h = row_plain (number c) real w fs (counted_some n) (plain_some p) h
row_format (brackets {c} {t} n s) fs h =
    let least = times_most (number c) (columns t) (columns_some s) in
    let turn : number c * columns t ≡ columns t * number c = omega arith in
    let some-times : columns t ≤ columns t * number c = times_most (columns t) (number c) (counted_some n) in
    let same : capped (number c) ≡ number c = omega arith in
    let few : number c * length (fields_of t) ≤ number c * columns t = mul-le-mul {n₁ = number c} {n₂ = number c} (omega arith) (fields_most s) in
    let inside = row_format s fs (omega arith) in
    rw same (ap (λ (r : Fields). repeat_from (number c - 1) (length fs) r) inside ∙ row_times (number c) fs (fields_of t) (counted_some n) (omega arith))
row_format (last s) fs h = row_format s fs h
row_format (more {t} {u} s r) fs h =
    let room : length (fs ++ fields_of t) + columns u ≤ 80 = omega (arith, length-append fs (fields_of t), fields_most s) in
    ap (λ (x : Fields). lay x u) (row_format s fs (omega arith)) ∙ row_format r (fs ++ fields_of t) room ∙ ap row_of (append_assoc fs (fields_of t) (fields_of u))

-- What is measured: nothing, or a format, where it ends, and how deep and wide it is.

record Whole (l : List ℕ) (m : Measure) : Type 0 where
  pub format : Format
  pub parsed : list_of (length l + 1) l 0 ≡ some format m.at
  pub groups_are : m.groups ≡ min (groups format) 4
  pub columns_are : m.columns ≡ capped (columns format)

whole : (l : List ℕ) (m : Measure) → Some m ≡ measured (list_of (length l + 1) l 0) → Whole l m
unfolding measured
whole l m e = go (list_of (length l + 1) l 0) refl
  where
    go : (p : Parsed) → list_of (length l + 1) l 0 ≡ p → Whole l m
    go none q = let no : ◌≡◌ {A = Option Measure} (Some m) None = e ∙ ap measured q in let z : ◌≡◌ {A = ℕ} 0 1 = cc in absurd (omega arith)
    go (some t k) q =
        let both : ◌≡◌ {A = Option Measure} (Some m) (Some (a_measure k (min (depth t) 4) (min (groups t) 4) (capped (columns t)))) = e ∙ ap measured q in
        let is : m ≡ a_measure k (min (depth t) 4) (min (groups t) 4) (capped (columns t)) = cc in
        record {
          format = t;
          parsed = q ∙ ap (some t) (sym (ap (λ (x : Measure). x.at) is));
          groups_are = ap (λ (x : Measure). x.groups) is;
          columns_are = ap (λ (x : Measure). x.columns) is;
        }

-- The cases of the code, by what is measured.

pub answer_none : (l : List ℕ) → None ≡ measured (list_of (length l + 1) l 0) → Err Malformed ≡ fields_in (packed_reading l)
unfolding measured packed_reading whole_of fields_in
answer_none l e = go (list_of (length l + 1) l 0) refl
  where
    go : (p : Parsed) → list_of (length l + 1) l 0 ≡ p → Err Malformed ≡ fields_in (whole_of (length l) (list_of (length l + 1) l 0))
    go none q = rw q refl
    go (some t k) q = let no : ◌≡◌ {A = Option Measure} None (measured (some t k)) = e ∙ ap measured q in let z : ◌≡◌ {A = ℕ} 0 1 = cc in absurd (omega arith)

module _ (l : List ℕ) (m : Measure) (e : Some m ≡ measured (list_of (length l + 1) l 0)) where
  pub answer_part : (m.at ≡ length l → ⊥) → Err Malformed ≡ fields_in (packed_reading l)
  unfolding packed_reading whole_of fields_in
  answer_part h = let w = whole l m e in rw (w.parsed, ne_eqb m.at (length l) h) refl

  module _ (h : m.at ≡ length l) where
    whole_reading : packed_reading l ≡ fitting (whole l m e).format
    unfolding packed_reading whole_of
    whole_reading = let w = whole l m e in rw (w.parsed, eq-eqb m.at (length l) h) refl

    large : (t : Format) → leb (groups t) 3 && leb (columns t) 80 ≡ false → fitting t ≡ too_large
    unfolding fitting
    large t q = rw q refl

    pub answer_deep : 3 < m.groups → Err TooLarge ≡ fields_in (packed_reading l)
    unfolding fields_in
    answer_deep g =
        let w = whole l m e in
        let over : leb (groups w.format) 3 ≡ false = lt-leb (groups w.format) 3 (omega (arith, w.groups_are)) in
        ap fields_in (sym (whole_reading ∙ large w.format (rw over refl)))

    module _ (d : m.groups ≤ 3) where
      fine : leb (groups (whole l m e).format) 3 ≡ true
      fine = let w = whole l m e in le-leb (groups w.format) 3 (omega (arith, w.groups_are))

      pub answer_wide : 80 < m.columns → Err TooLarge ≡ fields_in (packed_reading l)
      unfolding fields_in
      answer_wide g =
          let w = whole l m e in
          let over : leb (columns w.format) 80 ≡ false = lt-leb (columns w.format) 80 (omega (arith, w.columns_are)) in
          ap fields_in (sym (whole_reading ∙ large w.format (rw (fine, over) refl)))

      fits : (t : Format) → leb (groups t) 3 ≡ true → leb (columns t) 80 ≡ true → fitting t ≡ fields (fields_of t)
      unfolding fitting
      fits t g c = rw (g, c) refl

      laid_as : (past : Option ℕ) (r : Fields) (t : Format) (k : ℕ) → laying_in past r ≡ laid (row_of []) (some t k) → r ≡ lay (row_of []) t
      unfolding laid
      laid_as None r t k x = let no : ◌≡◌ {A = Option Laying} None (Some (a_laying k (lay (row_of []) t))) = x in let z : ◌≡◌ {A = ℕ} 0 1 = cc in absurd (omega arith)
      laid_as (Some at) r t k x =
          let both : ◌≡◌ {A = Option Laying} (Some (a_laying at r)) (Some (a_laying k (lay (row_of []) t))) = x in
          let is : a_laying at r ≡ a_laying k (lay (row_of []) t) = cc in
          ap (λ (y : Laying). y.row) is

      pub answer_some : (past : Option ℕ) (r : Fields) → m.columns ≤ 80 → laying_in past r ≡ laid (row_of []) (list_of (length l + 1) l 0) → Ok r ≡ fields_in (packed_reading l)
      unfolding fields_in
      answer_some past r g x =
          let w = whole l m e in
          let most : columns w.format ≤ 80 = omega (arith, w.columns_are) in
          let spelled = (list_sound (length l + 1) l 0 w.format m.at w.parsed).spelled in
          let room : 0 + columns w.format ≤ 80 = omega (arith, most) in
          let row : r ≡ row_of (fields_of w.format) = laid_as past r w.format m.at (x ∙ ap (laid (row_of [])) w.parsed) ∙ row_format spelled [] room in
          ap Ok row ∙ ap fields_in (sym (whole_reading ∙ fits w.format fine (le-leb (columns w.format) 80 most)))

-- The text with its blanks.

pub answer_long : (bytes : List ℕ) → 120 < length bytes → Err Malformed ≡ fields_in (reading_of bytes)
unfolding reading_of fields_in
answer_long bytes h = rw (lt-leb (length bytes) 120 h) refl

pub answer_short : (bytes packed : List ℕ) → length bytes ≤ 120 → packed ≡ unblanked bytes → fields_in (packed_reading packed) ≡ fields_in (reading_of bytes)
unfolding reading_of
answer_short bytes packed h e = rw (le-leb (length bytes) 120 h, e) refl
