-- How a FORMAT text is read agrees with the grammar: what is read is a FORMAT, every FORMAT is read, as one list of fields only, 26 is given for nothing
-- else, and 27 exactly where it is too large.
use Rattle.std.specs.Prelude.{◌≡◌, refl, Bool, true, false, ◌&&◌, List, [], ◌++◌, ℕ, suc, ◌+◌, ◌≤◌, leb, eqb, length}
use Rattle.std.proofs.Common.{sym, ap, ◌∙◌, append-nil, arith, leb-true, eqb-true, le-leb, eq-eqb}
use Rattle.std.proofs.Math.Seq.{drop-length}
use Rattle.laws.specs.ChoiceLaws.{false_not_true, and_left, and_right, and_both}
use Rattle.format.specs.Format.{Field, Format, list, Spelled, fields_of, span, columns, groups, unblanked, Text, Fits, Wide}
use Rattle.format.specs.Reading.{Parsed, none, some, list_of, Reading, malformed, too_large, fields, fitting, whole_of, packed_reading, reading_of}
use Rattle.format.specs.ListLaws.{end, Read, after_read, read_complete, list_sound}
use Rattle.format.specs.FieldsLaws.{columns_span, spelled_wide, wide_count}

-- a FORMAT's bytes without blanks are parsed as it
text_parsed : {t : Format} {ws : List ℕ} → Spelled list t ws → list_of (length ws + 1) ws 0 ≡ some t (length ws)
text_parsed {t} {ws} s =
    let room : suc (length ws) ≤ length ws + 1 = omega arith in
    let from_first : 0 + length ws ≡ length ws = omega arith in
    read_complete s ws 0 [] (sym (append-nil ws)) end (length ws + 1) room ∙ ap (some t) from_first

text_read : {t : Format} {bytes : List ℕ} → Text t bytes → reading_of bytes ≡ fitting t
unfolding reading_of packed_reading whole_of
text_read {t} {bytes} x =
    let n = length (unblanked bytes) in
    rw (le-leb (length bytes) 120 x.short, text_parsed x.spelled, eq-eqb n n refl) refl

-- of any bytes: a FORMAT, or malformed
pub data Understood (bytes : List ℕ) : Type 0 where
  is_text_lem : (t : Format) → Text t bytes → Understood bytes
  is_none_lem : reading_of bytes ≡ malformed → Understood bytes

whole_text : (t : Format) (ws : List ℕ) → Read list t (length ws) ws 0 → Spelled list t ws
whole_text t ws r =
    let nothing_left : r.rest ≡ [] = sym (after_read r) ∙ drop-length ws in
    let whole : r.ws ≡ ws = sym (append-nil r.ws) ∙ ap (λ (y : List ℕ). r.ws ++ y) (sym nothing_left) ∙ sym r.split in
    rw whole at r.spelled

-- the three ways to be malformed: too long, no list, a list that is not the whole
long_read : (bytes : List ℕ) → leb (length bytes) 120 ≡ false → reading_of bytes ≡ malformed
unfolding reading_of
long_read bytes h = rw h refl

none_read : (bytes : List ℕ) → leb (length bytes) 120 ≡ true → list_of (length (unblanked bytes) + 1) (unblanked bytes) 0 ≡ none → reading_of bytes ≡ malformed
unfolding reading_of packed_reading whole_of
none_read bytes h e = rw (h, e) refl

part_read : (bytes : List ℕ) (t : Format) (k : ℕ) → leb (length bytes) 120 ≡ true → list_of (length (unblanked bytes) + 1) (unblanked bytes) 0 ≡ some t k
    → eqb k (length (unblanked bytes)) ≡ false → reading_of bytes ≡ malformed
unfolding reading_of packed_reading whole_of
part_read bytes t k h e q = rw (h, e, q) refl

understood : (bytes : List ℕ) → Understood bytes
understood bytes = go (leb (length bytes) 120) refl
  where
    ws : List ℕ
    ws = unblanked bytes

    all : (t : Format) (k : ℕ) → leb (length bytes) 120 ≡ true → list_of (length ws + 1) ws 0 ≡ some t k → (b : Bool) → eqb k (length ws) ≡ b → Understood bytes
    all t k h e true q =
        let r : Read list t (length ws) ws 0 = rw (eqb-true k (length ws) q) at (list_sound (length ws + 1) ws 0 t k e) in
        is_text_lem t (record { short = leb-true (length bytes) 120 h; spelled = whole_text t ws r })
    all t k h e false q = is_none_lem (part_read bytes t k h e q)

    parse : leb (length bytes) 120 ≡ true → (p : Parsed) → list_of (length ws + 1) ws 0 ≡ p → Understood bytes
    parse h none e = is_none_lem (none_read bytes h e)
    parse h (some t k) e = all t k h e (eqb k (length ws)) refl

    go : (b : Bool) → leb (length bytes) 120 ≡ b → Understood bytes
    go true h = parse h (list_of (length ws + 1) ws 0) refl
    go false h = is_none_lem (long_read bytes h)

-- a FORMAT is read as its fields, or as too large
data Sized (t : Format) : Type 0 where
  fits : Fits t → fitting t ≡ fields (fields_of t) → Sized t
  exceeds : (Fits t → ⊥) → fitting t ≡ too_large → Sized t

sized : (t : Format) → Sized t
unfolding fitting
sized t = go (leb (groups t) 3 && leb (columns t) 80) refl
  where
    go : (b : Bool) → (leb (groups t) 3 && leb (columns t) 80) ≡ b → Sized t
    go true h = fits (record { three = leb-true (groups t) 3 (and_left (leb (groups t) 3) (leb (columns t) 80) h); eighty = leb-true (columns t) 80 (and_right (leb (groups t) 3) (leb (columns t) 80) h) }) (rw h refl)
    go false h = exceeds (λ f. false_not_true (sym h ∙ and_both (leb (groups t) 3) (leb (columns t) 80) (le-leb (groups t) 3 f.three) (le-leb (columns t) 80 f.eighty))) (rw h refl)

-- Every FORMAT is read: as its fields, where it fits; otherwise it is 27.
pub reading_complete : {t : Format} {bytes : List ℕ} → Text t bytes → Fits t → reading_of bytes ≡ fields (fields_of t)
reading_complete {t} {bytes} x f = go (sized t)
  where
    go : Sized t → reading_of bytes ≡ fields (fields_of t)
    go (fits g e) = text_read x ∙ e
    go (exceeds n e) = absurd (n f)

pub reading_large : {t : Format} {bytes : List ℕ} → Text t bytes → (Fits t → ⊥) → reading_of bytes ≡ too_large
reading_large {t} {bytes} x n = go (sized t)
  where
    go : Sized t → reading_of bytes ≡ too_large
    go (fits f e) = absurd (n f)
    go (exceeds m e) = text_read x ∙ e

-- It is one FORMAT only.
pub reading_one : {t u : Format} {bytes : List ℕ} → Text t bytes → Text u bytes → t ≡ u
reading_one {t} {u} {bytes} x y =
    let ws = unblanked bytes in
    let same : ◌≡◌ {A = Parsed} (some t (length ws)) (some u (length ws)) = sym (text_parsed x.spelled) ∙ text_parsed y.spelled in
    cc

-- What is read is a FORMAT that fits, and its fields.
pub record ReadAs (fs : List Field) (bytes : List ℕ) : Type 0 where
  pub format : Format
  pub text : Text format bytes
  pub fit : Fits format
  pub same : fields_of format ≡ fs

pub reading_sound : (bytes : List ℕ) (fs : List Field) → reading_of bytes ≡ fields fs → ReadAs fs bytes
reading_sound bytes fs e = go (understood bytes)
  where
    by_size : (t : Format) → Text t bytes → Sized t → ReadAs fs bytes
    by_size t x (fits f q) =
        let same : ◌≡◌ {A = Reading} (fields (fields_of t)) (fields fs) = sym q ∙ sym (text_read x) ∙ e in
        record { format = t; text = x; fit = f; same = cc }
    by_size t x (exceeds n q) =
        let apart : ◌≡◌ {A = Reading} too_large (fields fs) = sym q ∙ sym (text_read x) ∙ e in
        let z : ◌≡◌ {A = ℕ} 0 1 = cc in absurd (omega arith)

    go : Understood bytes → ReadAs fs bytes
    go (is_text_lem t x) = by_size t x (sized t)
    go (is_none_lem m) = let apart : ◌≡◌ {A = Reading} malformed (fields fs) = sym m ∙ e in let z : ◌≡◌ {A = ℕ} 0 1 = cc in absurd (omega arith)

-- 26 is given for nothing else: no FORMAT is malformed, and what is no FORMAT is.
pub reading_malformed : {t : Format} {bytes : List ℕ} → Text t bytes → reading_of bytes ≡ malformed → ⊥
reading_malformed {t} {bytes} x e = go (sized t)
  where
    go : Sized t → ⊥
    go (fits f q) = let apart : ◌≡◌ {A = Reading} (fields (fields_of t)) malformed = sym q ∙ sym (text_read x) ∙ e in let z : ◌≡◌ {A = ℕ} 0 1 = cc in omega arith
    go (exceeds n q) = let apart : ◌≡◌ {A = Reading} too_large malformed = sym q ∙ sym (text_read x) ∙ e in let z : ◌≡◌ {A = ℕ} 0 1 = cc in omega arith

pub malformed_reading : (bytes : List ℕ) → ((t : Format) → Text t bytes → ⊥) → reading_of bytes ≡ malformed
malformed_reading bytes n = go (understood bytes)
  where
    go : Understood bytes → reading_of bytes ≡ malformed
    go (is_text_lem t x) = absurd (n t x)
    go (is_none_lem m) = m

-- 27 is given only for a FORMAT that is deeper than three groups or over 80 columns.
pub record TooLarge (bytes : List ℕ) : Type 0 where
  pub format : Format
  pub text : Text format bytes
  pub excess : Fits format → ⊥

pub large_reading : (bytes : List ℕ) → reading_of bytes ≡ too_large → TooLarge bytes
large_reading bytes e = go (understood bytes)
  where
    by_size : (t : Format) → Text t bytes → Sized t → TooLarge bytes
    by_size t x (exceeds n q) = record { format = t; text = x; excess = n }
    by_size t x (fits f q) =
        let apart : ◌≡◌ {A = Reading} (fields (fields_of t)) too_large = sym q ∙ sym (text_read x) ∙ e in
        let z : ◌≡◌ {A = ℕ} 0 1 = cc in absurd (omega arith)

    go : Understood bytes → TooLarge bytes
    go (is_text_lem t x) = by_size t x (sized t)
    go (is_none_lem m) = let apart : ◌≡◌ {A = Reading} malformed too_large = sym m ∙ e in let z : ◌≡◌ {A = ℕ} 0 1 = cc in absurd (omega arith)

-- The fields that are read take at most 80 columns, each at least one.
pub reading_span : (bytes : List ℕ) (fs : List Field) → reading_of bytes ≡ fields fs → span fs ≤ 80
reading_span bytes fs e =
    let r = reading_sound bytes fs e in
    rw r.same at (rw (columns_span r.format) at r.fit.eighty)

pub reading_widths : (bytes : List ℕ) (fs : List Field) → reading_of bytes ≡ fields fs → Wide fs
reading_widths bytes fs e = let r = reading_sound bytes fs e in rw r.same at (spelled_wide r.text.spelled)

pub reading_count : (bytes : List ℕ) (fs : List Field) → reading_of bytes ≡ fields fs → length fs ≤ 80
reading_count bytes fs e = omega (arith, reading_span bytes fs e, wide_count (reading_widths bytes fs e))
