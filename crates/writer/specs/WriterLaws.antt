-- The fields of the data lines, and the numbers one by one.
use Rattle.std.specs.Prelude.{◌≡◌, Bool, true, false, List, [], ◌∷◌, ◌++◌, map, ℕ, suc, ◌+◌, ◌-◌, ◌%◌, ◌≤◌, ◌<◌, eqb, ℤ, pos, length, get_or, take, drop, set}
use Rattle.std.proofs.Math.Path.{refl, sym}
use Rattle.std.proofs.Common.{ap, ◌∙◌, append_assoc, append-nil, arith, eq-eqb, ne_eqb, length-append, length-drop, drop_of_length-le, drop-cons, length-take-le}
use Rattle.std.proofs.Math.Numerals.{add-one}
use Rattle.std.proofs.Math.Nat.{mod-zero}
use mir.Val.{bool_byte}
use borrow.Rule.Slice.PartMut.{put_mid}
use Rattle.std.proofs.Math.ListN.{get_or-eq_default}
use Rattle.laws.specs.Choice.{pick}
use Rattle.decimal.specs.Decimal.{fits, field_text}
use Rattle.decimal.specs.DecimalLaws.{field_text_length}
use Rattle.layout.specs.Columns.{field_of, field_past}
use Rattle.layout.specs.Layout.{Layout, E, Printed, layouts, printed, layout_of, fields_of}
use Rattle.layout.specs.LayoutLaws.{field_past_inside}
use Rattle.output.specs.Output.{Put, placed}
use Rattle.output.specs.OutputLaws.{put_room, put_next, placed_then, placed_byte, placed_length, placed_part}
use Rattle.writer.specs.Writer.{decimals_of, width_at, fits_at, first_unfit, line_end, data_text}
use Rattle.writer.specs.Lines.{ends_line, field_at, stored_text, stored_len, data_len}

-- the widths with their decimals are the FORMATs that 001 prints
pub decimals_printed : map (λ (l : Layout). map (λ (w : ℕ). E w (decimals_of w)) l.widths) layouts ≡ map (λ (p : Printed). p.format) printed
unfolding layouts printed decimals_of
decimals_printed = refl

pub decimals_five : (w : ℕ) → w ≡ 13 → 5 ≡ decimals_of w
unfolding decimals_of
decimals_five w e = rw (eq-eqb w 13 e) refl

pub decimals_twelve : (w : ℕ) → (w ≡ 13 → ⊥) → 12 ≡ decimals_of w
unfolding decimals_of
decimals_twelve w n = rw (ne_eqb w 13 n) refl

-- the width of a number's field, by the fields of a full line
module _ (c j n : ℕ) (q : n ≡ fields_of c) where
  pub width_none : n ≡ 0 → 0 ≡ width_at c j
  unfolding width_at fields_of
  width_none e = sym (get_or-eq_default (layout_of c).widths 0 (omega arith))

  pub width_is : (w : ℕ) → w ≡ get_or (layout_of c).widths (j % n) 0 → w ≡ width_at c j
  unfolding width_at field_of
  width_is w e = e ∙ rw q refl

pub width_most : (c j : ℕ) → width_at c j ≤ 80
unfolding width_at field_past
width_most c j = omega (arith, field_past_inside c (field_of (fields_of c) j))

-- the LF after number j of n
pub ends_last : (c j n : ℕ) → j + 1 ≡ n → true ≡ ends_line c j (n - (j + 1))
unfolding ends_line
ends_last c j n e = let z : n - (j + 1) ≡ 0 = omega arith in rw z refl

module _ (c j n f : ℕ) (l : j < n) (more : j + 1 ≡ n → ⊥) (q : f ≡ fields_of c) where
  after : n - (j + 1) ≡ suc (n - (j + 2))
  after = omega arith

  pub ends_none : f ≡ 0 → false ≡ ends_line c j (n - (j + 1))
  unfolding ends_line field_of
  ends_none e = rw (after, ← q, e, mod-zero) (sym (ne_eqb (suc j) 0 (λ z. omega arith)))

  pub ends_is : eqb ((j + 1) % f) 0 ≡ ends_line c j (n - (j + 1))
  unfolding ends_line field_of
  ends_is = rw (after, q, add-one) refl

-- the length of a number with its LF, and that of all of them
line_end_is : (c j : ℕ) (xs : List ℤ) → line_end c j xs ≡ pick (ends_line c j (length xs)) (10 ∷ []) []
unfolding ends_line
line_end_is c j [] = refl
line_end_is c j (x ∷ xs) = refl

stored_text_length : (c j n : ℕ) (x s : ℤ) → length (stored_text c j n x s) ≡ stored_len c j n
unfolding stored_text stored_len
stored_text_length c j n x s =
    length-append (field_at c j x s) (pick (ends_line c j n) (10 ∷ []) [])
    ∙ rw (field_text_length (width_at c j) (decimals_of (width_at c j)) x s) (ap (λ (k : ℕ). width_at c j + k) (by (ends_line c j n)))
  where
    by : (t : Bool) → length {A = ℕ} (pick t (10 ∷ []) []) ≡ pick t 1 0
    by true = refl
    by false = refl

data_text_first : (c j : ℕ) (x s : ℤ) (xs ss : List ℤ) → data_text c j (x ∷ xs) (s ∷ ss) ≡ stored_text c j (length xs) x s ++ data_text c (suc j) xs ss
unfolding data_text stored_text
data_text_first c j x s xs ss = rw (line_end_is c j xs) (sym (append_assoc (field_at c j x s) _ _))

pub data_text_length : (c j : ℕ) (xs ss : List ℤ) → length ss ≡ length xs → length (data_text c j xs ss) ≡ data_len c j (length xs)
unfolding data_text data_len
data_text_length c j [] ss e = refl
data_text_length c j (x ∷ xs) [] e = absurd (omega arith)
data_text_length c j (x ∷ xs) (s ∷ ss) e =
    ap length (data_text_first c j x s xs ss) ∙ length-append (stored_text c j (length xs) x s) (data_text c (suc j) xs ss)
    ∙ rw (stored_text_length c j (length xs) x s, data_text_length c (suc j) xs ss (omega arith)) refl

-- one number more of those from number j on
module _ (c j : ℕ) (xs ss : List ℤ) (l : j < length xs) (e : length ss ≡ length xs) (x s : ℤ) (p : x ≡ get_or xs j (pos 0)) (q : s ≡ get_or ss j (pos 0)) where
  numbers : drop j xs ≡ x ∷ drop (j + 1) xs
  numbers = rw (p, add-one) (drop-cons xs j (pos 0) l)

  scales : drop j ss ≡ s ∷ drop (j + 1) ss
  scales = rw (q, add-one) (drop-cons ss j (pos 0) (omega arith))

  data_next : data_text c j (drop j xs) (drop j ss) ≡ stored_text c j (length xs - (j + 1)) x s ++ data_text c (j + 1) (drop (j + 1) xs) (drop (j + 1) ss)
  data_next =
      rw (numbers, scales)
      (data_text_first c j x s (drop (j + 1) xs) (drop (j + 1) ss)
      ∙ rw (length-drop (j + 1) xs, add-one j) refl)

  module _ (at past : ℕ) (out now : List ℕ) (put : Put at (data_text c 0 xs ss) out past (data_text c j (drop j xs) (drop j ss)) now)
      (fits : at + length (data_text c 0 xs ss) ≤ length out) where
    pub stored_room : past + length (stored_text c j (length xs - (j + 1)) x s) ≤ length now
    stored_room =
        put_room at (data_text c 0 xs ss) out past (data_text c j (drop j xs) (drop j ss)) now put fits (stored_text c j (length xs - (j + 1)) x s)
        (data_text c (j + 1) (drop (j + 1) xs) (drop (j + 1) ss)) data_next

    pub stored_next : (r : ℕ) (then : List ℕ) → r ≡ past + length (stored_text c j (length xs - (j + 1)) x s)
        → then ≡ placed past (stored_text c j (length xs - (j + 1)) x s) now
        → Put at (data_text c 0 xs ss) out r (data_text c (j + 1) (drop (j + 1) xs) (drop (j + 1) ss)) then
    stored_next =
        put_next at (data_text c 0 xs ss) out past (data_text c j (drop j xs) (drop j ss)) now put fits (stored_text c j (length xs - (j + 1)) x s)
        (data_text c (j + 1) (drop (j + 1) xs) (drop (j + 1) ss)) data_next

  pub unfit_next : fits_at c j x s ≡ true → first_unfit c j (drop j xs) (drop j ss) ≡ first_unfit c (j + 1) (drop (j + 1) xs) (drop (j + 1) ss)
  unfolding first_unfit
  unfit_next h = rw (numbers, scales, h, add-one j) refl

  pub unfit_here : fits_at c j x s ≡ false → first_unfit c j (drop j xs) (drop j ss) ≡ j
  unfolding first_unfit
  unfit_here h = rw (numbers, scales, h) refl

pub unfit_end : (c j : ℕ) (xs ss : List ℤ) → length xs ≤ j → first_unfit c j (drop j xs) ss ≡ j
unfolding first_unfit
unfit_end c j xs ss h = rw (drop_of_length-le xs h) refl

pub data_end : (c j : ℕ) (xs ss : List ℤ) → length xs ≤ j → data_text c j (drop j xs) ss ≡ []
unfolding data_text
data_end c j xs ss h = rw (drop_of_length-le xs h) refl

pub fits_is : (c j w d : ℕ) (x s : ℤ) (t : Bool) → w ≡ width_at c j → d ≡ decimals_of w → t ≡ fits d x s → fits_at c j x s ≡ t
unfolding fits_at
fits_is c j w d x s t p q r = rw (r, q, p) refl

-- the length of n numbers, from number j on
pub data_len_start : (c n room : ℕ) → data_len c 0 n + room ≡ room + data_len c 0 (n - 0)
data_len_start c n room = let z : n - 0 ≡ n = omega arith in rw z (omega arith)

pub data_len_next : (c j n : ℕ) → j < n → data_len c j (n - j) ≡ stored_len c j (n - (j + 1)) + data_len c (j + 1) (n - (j + 1))
unfolding data_len
data_len_next c j n l = let z : n - j ≡ suc (n - (j + 1)) = omega arith in rw (z, add-one j) refl

pub data_len_end : (c j n : ℕ) → n ≤ j → data_len c j (n - j) ≡ 0
unfolding data_len
data_len_end c j n l = let z : n - j ≡ 0 = omega arith in rw z refl

pub flag_most : (t : Bool) → bool_byte t ≤ 1
flag_most true = omega arith
flag_most false = omega arith

pub stored_len_is : (c j n w k : ℕ) (t : Bool) → w ≡ width_at c j → t ≡ ends_line c j n → k ≡ bool_byte t → w + k ≡ stored_len c j n
unfolding stored_len
stored_len_is c j n w k true p q h = rw (p, ← q, h) refl
stored_len_is c j n w k false p q h = rw (p, ← q, h) refl

-- number j in its columns: w of them are lent on at the byte at, and come back filled
module _ (out : List ℕ) (at c j n w : ℕ) (x s : ℤ) (room : at + length (stored_text c j n x s) ≤ length out) (p : w ≡ width_at c j) where
  pub field_room : at + w ≤ length out
  unfolding stored_len
  field_room = omega (arith, stored_text_length c j n x s)

  field_length : length (field_at c j x s) ≡ w
  field_length = field_text_length (width_at c j) (decimals_of (width_at c j)) x s ∙ sym p

  module _ (t : Bool) (u : t ≡ ends_line c j n) where
    ends : t ≡ true → stored_text c j n x s ≡ field_at c j x s ++ (10 ∷ [])
    unfolding stored_text
    ends h = rw (← u, h) refl

    goes : t ≡ false → stored_text c j n x s ≡ field_at c j x s
    unfolding stored_text
    goes h = rw (← u, h) (append-nil (field_at c j x s))

    ends_length : t ≡ true → length (stored_text c j n x s) ≡ w + 1
    ends_length h = omega (arith, ap length (ends h), length-append (field_at c j x s) (10 ∷ []), field_length)

    pub end_room : t ≡ true → at + w < length out
    end_room h = omega (arith, ends_length h)

    module _ (ys : List ℕ) (d : ℕ) (x' s' : ℤ) (q : d ≡ decimals_of w) (a : x' ≡ x) (b : s' ≡ s)
        (e : ys ≡ field_text (length (take (at + w - at) (drop at out))) d x' s') where
      field_is : ys ≡ field_at c j x s
      field_is =
          let z : at + w - at ≡ w = omega arith in
          let k : length (take (at + w - at) (drop at out)) ≡ w = rw z (length-take-le w (drop at out) (rw (length-drop at out) (omega (arith, field_room)))) in
          e ∙ rw (k, q, a, b, p) refl

      field_laid : put_mid at (at + w - at) out ys ≡ placed at (field_at c j x s) out
      field_laid = rw field_is (placed_part at (field_at c j x s) out (at + w) (ap (λ (k : ℕ). at + k) field_length))

      same_room : length (put_mid at (at + w - at) out ys) ≡ length out
      same_room = ap length field_laid ∙ placed_length at (field_at c j x s) out (omega (arith, field_room, field_length))

      pub stored_ends : t ≡ true
          → (at + w + 1 ≡ at + length (stored_text c j n x s)) × (set (put_mid at (at + w - at) out ys) (at + w) 10 ≡ placed at (stored_text c j n x s) out)
      stored_ends h = (
        omega (arith, ends_length h),
        placed_byte (at + w) 10 (put_mid at (at + w - at) out ys) (omega (arith, same_room, end_room h))
            ∙ ap (placed (at + w) (10 ∷ [])) field_laid
            ∙ ap (λ (k : ℕ). placed (at + k) (10 ∷ []) (placed at (field_at c j x s) out)) (sym field_length)
            ∙ placed_then at (field_at c j x s) out (10 ∷ []) (omega (arith, field_room)) ∙ ap (λ (v : List ℕ). placed at v out) (sym (ends h)),
      )

      pub stored_goes : t ≡ false
          → (at + w ≡ at + length (stored_text c j n x s)) × (put_mid at (at + w - at) out ys ≡ placed at (stored_text c j n x s) out)
      stored_goes h = (omega (arith, ap length (goes h), field_length), field_laid ∙ ap (λ (v : List ℕ). placed at v out) (sym (goes h)))
