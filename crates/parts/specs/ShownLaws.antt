-- Delimiters and number lines by the bytes that a line has: the columns that fill it are blank.
use Rattle.std.specs.Prelude.{◌≡◌, Bool, false, ◌&&◌, eqb, take, drop}
use Rattle.std.proofs.Math.Path.{refl, sym, ap}
use Rattle.std.proofs.Common.{◌∙◌, ⊎_elim, ne_eqb, length-take, take-add, drop_at, length-take-le}
use Rattle.std.proofs.Math.Bool.{true}
use mathlib.Core.List.{List, [], ◌∷◌, ◌++◌}
use Prim.Native.Nat.{ℕ, zero, suc, ◌+◌, ◌-◌, ◌≤◌, ◌<◌, min}
use native.Mathlib.Omega.{arith}
use Rattle.std.proofs.Math.ListN.{length, get_or, replicate, get_or-replicate}
use Rattle.std.proofs.Math.Seq.{take-nil, take-length, take-take, take-append-le, get_or-take, get_or-append-add}
use Rattle.laws.specs.ChoiceLaws.{below_or_not}
use Rattle.text.specs.Blank.{all_blank}
use Rattle.integer.specs.Integer.{integer_of}
use Rattle.line.specs.Line.{columns, filled}
use Rattle.line.specs.LineLaws.{columns_take, columns_within}
use Rattle.delimiter.specs.Kind.{positive, dataset_number}
use Rattle.delimiter.proofs.KindLaws.{is_delimiter_columns}
use Rattle.parts.specs.Parts.{shown, columns_in, closes}

-- blanks after some columns leave them blank or not
blanks_only : (m k : ℕ) → all_blank (take m (replicate k 32)) ≡ true
unfolding all_blank
blanks_only zero k = refl
blanks_only (suc m) zero = refl
blanks_only (suc m) (suc k) = blanks_only m k

blank_after : (m k : ℕ) (cs : List ℕ) → all_blank (take m (cs ++ replicate k 32)) ≡ all_blank (take m cs)
unfolding all_blank
blank_after m k [] = blanks_only m k ∙ ap all_blank (sym (take-nil m))
blank_after zero k (b ∷ cs) = refl
blank_after (suc m) k (b ∷ cs) = ap (λ (t : Bool). eqb b 32 && t) (blank_after m k cs)

blank_past_lem : (i m k : ℕ) (cs : List ℕ) → i ≤ length cs → all_blank (drop i (take m (cs ++ replicate k 32))) ≡ all_blank (drop i (take m cs))
unfolding all_blank
blank_past_lem zero m k cs h = blank_after m k cs
blank_past_lem (suc i) m k [] h = absurd (omega arith)
blank_past_lem (suc i) zero k (b ∷ cs) h = refl
blank_past_lem (suc i) (suc m) k (b ∷ cs) h = blank_past_lem i m k cs (omega arith)

-- a part of the first so many
part_of : (i m : ℕ) (l : List ℕ) → i ≤ m → m ≤ length l → drop i (take m l) ≡ take (m - i) (drop i l)
part_of i m l a b =
    let z : i + (m - i) ≡ m = omega arith in
    ap (λ (k : ℕ). drop i (take k l)) (sym z)
    ∙ ap (drop i) (take-add i (m - i) l)
    ∙ drop_at (take i l) (take (m - i) (drop i l)) i (length-take-le i l (omega arith))

module _ (l : List ℕ) where
  abbrev cs : List ℕ
  cs = columns true l

  shown_length : length (shown l) ≡ min 80 (length cs)
  shown_length = length-take 80 cs

  shown_within : length (shown l) ≤ length l
  shown_within = omega (arith, shown_length, columns_within true l)

  pub shown_least : (n r : ℕ) → n ≡ length cs → r ≡ min n 80 → (r ≡ length (shown l)) × (r ≤ length l)
  shown_least n r e q = (omega (arith, shown_length), omega (arith, columns_within true l))

  -- they are the line's first bytes
  first_bytes : (i : ℕ) → i ≤ length (shown l) → take i (columns_in l) ≡ take i l
  unfolding filled
  first_bytes i h =
      let n : length (shown l) ≡ min 80 (length cs) = shown_length in
      take-take i 80 (cs ++ replicate 80 32) (omega arith)
      ∙ take-append-le i cs (replicate 80 32) (omega arith)
      ∙ ap (take i) (columns_take true l)
      ∙ take-take i (length cs) l (omega arith)

  shown_bytes : shown l ≡ take (length (shown l)) l
  unfolding filled
  shown_bytes =
      let n : length (shown l) ≡ min 80 (length cs) = shown_length in
      let m : length (shown l) ≤ length cs = omega arith in
      sym (take-length (shown l)) ∙ take-take (length (shown l)) 80 cs (omega arith) ∙ ap (take (length (shown l))) (columns_take true l) ∙ take-take (length (shown l)) (length cs) l m

  byte_shown : (i : ℕ) → i < length (shown l) → get_or (columns_in l) i 0 ≡ get_or l i 0
  byte_shown i h =
      sym (get_or-take (suc i) (columns_in l) i 0 (omega arith))
      ∙ ap (λ (x : List ℕ). get_or x i 0) (first_bytes (suc i) (omega arith))
      ∙ get_or-take (suc i) l i 0 (omega arith)

  -- past them there are blanks
  byte_filled : (i : ℕ) → length (shown l) ≤ i → i < 80 → get_or (columns_in l) i 0 ≡ 32
  unfolding filled
  byte_filled i a b =
      let n : length (shown l) ≡ min 80 (length cs) = shown_length in
      let k : length cs + (i - length cs) ≡ i = omega arith in
      get_or-take 80 (cs ++ replicate 80 32) i 0 b
      ∙ ap (λ (x : ℕ). get_or (cs ++ replicate 80 32) x 0) (sym k)
      ∙ get_or-append-add cs (replicate 80 32) (i - length cs) 0
      ∙ get_or-replicate 80 (i - length cs) 32 0 (omega arith)

  rest_blank : (i : ℕ) → i ≤ length (shown l) → all_blank (drop i (columns_in l)) ≡ all_blank (take (length (shown l) - i) (drop i l))
  unfolding filled
  rest_blank i h =
      let n : length (shown l) ≡ min 80 (length cs) = shown_length in
      blank_past_lem i 80 80 cs (omega arith)
      ∙ ap (λ (x : List ℕ). all_blank (drop i x)) shown_bytes
      ∙ ap all_blank (part_of i (length (shown l)) l h shown_within)

and_none : (a b c : Bool) → a && (b && (false && c)) ≡ false
and_none true true c = refl
and_none true false c = refl
and_none false b c = refl

and_last : (a b c d : Bool) → a && (b && (c && d)) ≡ b && (c && (a && d))
and_last true b c d = refl
and_last false true true d = refl
and_last false true false d = refl
and_last false false c d = refl

module _ (l : List ℕ) (n : ℕ) (e : n ≡ length (shown l)) where
  pub closes_short : n < 6 → false ≡ closes l
  unfolding closes
  closes_short h =
      rw (is_delimiter_columns (columns_in l), byte_filled l 5 (omega arith) (omega arith))
      (sym (and_none (all_blank (take 4 (columns_in l))) (eqb (get_or (columns_in l) 4 0) 45) (all_blank (drop 6 (columns_in l)))))

  pub closes_shown : 6 ≤ n → closes l ≡ eqb (get_or l 4 0) 45 && (eqb (get_or l 5 0) 49 && (all_blank (take 4 l) && all_blank (take (n - 6) (drop 6 l))))
  unfolding closes
  closes_shown h =
      let m : 6 ≤ length (shown l) = omega arith in
      is_delimiter_columns (columns_in l)
      ∙ rw (first_bytes l 4 (omega arith), byte_shown l 4 (omega arith), byte_shown l 5 (omega arith), rest_blank l 6 m, ← e)
      (and_last (all_blank (take 4 l)) (eqb (get_or l 4 0) 45) (eqb (get_or l 5 0) 49) (all_blank (take (n - 6) (drop 6 l))))

  pub number_shown_lem : n ≡ 6 → dataset_number (columns_in l) ≡ positive (integer_of (take 6 l))
  unfolding dataset_number all_blank
  number_shown_lem h =
      let m : length (shown l) ≡ 6 = omega arith in
      rw (first_bytes l 6 (omega arith), rest_blank l 6 (omega arith), m) refl

-- a delimiter has a minus in column 5
pub closes_minus : (l : List ℕ) → (get_or l 4 0 ≡ 45 → ⊥) → closes l ≡ false
closes_minus l h =
    ⊎_elim (λ (k : length (shown l) < 6). sym (closes_short l _ refl k))
    (λ (k : 6 ≤ length (shown l)). closes_shown l _ refl k ∙ rw (ne_eqb _ _ h) refl)
    (below_or_not (length (shown l)) 6)
