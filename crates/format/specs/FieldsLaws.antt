-- The fields of a format: how many columns they take, and that each takes one.
use Rattle.std.specs.Prelude.{◌≡◌, List, [], ◌∷◌, ◌++◌, ℕ, zero, suc, ◌+◌, ◌*◌, ◌≤◌, length}
use Rattle.std.proofs.Common.{sym, ap, ◌∙◌, mul-pos, arith}
use Rattle.format.specs.Format.{Kind, skip, text, integer, real, Field, field, Count, number, Format, plain, group, join, Counted, left_out, written, width, Plain, skips, texts, integers, reals, Sort, Spelled, counted, scaled, brackets, last, more, repeated, fields_for, fields_of, span, columns, Wide, Wide.none as no_field, Wide.more as wider}

pub span_append : (fs gs : List Field) → span (fs ++ gs) ≡ span fs + span gs
unfolding span
span_append [] gs = omega arith
span_append (f ∷ fs) gs = rw (span_append fs gs) (omega arith)

pub span_repeated : (n : ℕ) (fs : List Field) → span (repeated n fs) ≡ n * span fs
unfolding span repeated
span_repeated zero fs = omega arith
span_repeated (suc n) fs = omega (arith, span_append fs (repeated n fs), span_repeated n fs)

span_one : (n : ℕ) (k : Kind) (w : ℕ) → span (repeated n (field k w ∷ [])) ≡ n * w
unfolding span
span_one n k w = let one : w + 0 ≡ w = omega arith in span_repeated n (field k w ∷ []) ∙ ap (λ (x : ℕ). n * x) one

span_for : (n : ℕ) (k : Kind) (w : ℕ) → span (fields_for n k w) ≡ n * w
unfolding fields_for span
span_for n skip w = span_one n skip w
span_for n text w = omega arith
span_for n integer w = span_one n integer w
span_for n real w = span_one n real w

-- the columns of a format are those of its fields
pub columns_span : (t : Format) → columns t ≡ span (fields_of t)
unfolding columns fields_of
columns_span (plain c k w) = sym (span_for (number c) k w)
columns_span (group c t) = ap (λ (x : ℕ). number c * x) (columns_span t) ∙ sym (span_repeated (number c) (fields_of t))
columns_span (join t u) = rw (columns_span t, columns_span u) (sym (span_append (fields_of t) (fields_of u)))

pub wide_append : {fs gs : List Field} → Wide fs → Wide gs → Wide (fs ++ gs)
wide_append no_field r = r
wide_append (wider h w) r = wider h (wide_append w r)

wide_repeated : (n : ℕ) {fs : List Field} → Wide fs → Wide (repeated n fs)
unfolding repeated
wide_repeated zero w = no_field
wide_repeated (suc n) w = wide_append w (wide_repeated n w)

pub counted_some : {c : Count} {cs : List ℕ} → Counted c cs → 1 ≤ number c
counted_some left_out = omega arith
counted_some (written s n) = s

pub plain_some : {k : Kind} {w : ℕ} {ps : List ℕ} → Plain k w ps → 1 ≤ w
plain_some skips = omega arith
plain_some (texts (width low high n)) = low
plain_some (integers (width low high n)) = low
plain_some (reals l (width low high n) d m) = low

wide_for : (n : ℕ) (k : Kind) (w : ℕ) → 1 ≤ n → 1 ≤ w → Wide (fields_for n k w)
unfolding fields_for
wide_for n skip w s h = wide_repeated n (wider h no_field)
wide_for n text w s h = let some-columns : 1 ≤ n * w = mul-pos s h in wider some-columns no_field
wide_for n integer w s h = wide_repeated n (wider h no_field)
wide_for n real w s h = wide_repeated n (wider h no_field)

-- every field of a format that can be written has a column
pub spelled_wide : {s : Sort} {t : Format} {ws : List ℕ} → Spelled s t ws → Wide (fields_of t)
unfolding fields_of
spelled_wide (counted {c} {k} {w} n p) = wide_for (number c) k w (counted_some n) (plain_some p)
spelled_wide (scaled {c} {w} n p) = wide_for (number c) real w (counted_some n) (plain_some p)
spelled_wide (brackets {c} n s) = wide_repeated (number c) (spelled_wide s)
spelled_wide (last s) = spelled_wide s
spelled_wide (more s r) = wide_append (spelled_wide s) (spelled_wide r)

pub wide_count : {fs : List Field} → Wide fs → length fs ≤ span fs
unfolding span
wide_count no_field = omega arith
wide_count (wider h w) = omega (arith, wide_count w)
