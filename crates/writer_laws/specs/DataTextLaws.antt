-- The data text is its data lines, each with its LF.
use Rattle.std.specs.Prelude.{◌≡◌, ℤ}
use Rattle.std.proofs.Math.Path.{refl, sym, ap}
use Rattle.std.proofs.Common.{◌∙◌, suc-mul, drop-cons}
use mathlib.Core.List.{List, [], ◌∷◌, ◌++◌, append_assoc, append-nil}
use Prim.Native.Nat.{ℕ, zero, suc, ◌+◌, ◌*◌, ◌%◌, ◌≤◌, ◌<◌}
use Rattle.std.proofs.Math.Numerals.{add-one}
use native.Mathlib.Omega.{arith}
use borrow.Author.Tests.{eq-eqb, ne_eqb}
use Rattle.std.proofs.Math.Arith.{digits_mod}
use Rattle.std.proofs.Math.ListN.{length, get_or, drop, length-drop}
use Rattle.decimal.specs.Decimal.{field_text}
use Rattle.layout.specs.Columns.{line_of, field_of}
use Rattle.layout.specs.ColumnsLaws.{field_of_inside, stored_at}
use Rattle.layout.specs.Layout.{layout_of, fields_of}
use Rattle.line_laws.specs.Ends.{joined}
use Rattle.writer.specs.Writer.{decimals_of, width_at, data_text}
use Rattle.writer_laws.specs.DataLines.{fields_text, data_lines}

-- the field of the next number: the next one, or the first of the next line
pub field_at : (n q k j : ℕ) → k < n → q * n + k ≡ j → field_of n j ≡ k
unfolding field_of
field_at n q k j h e = ap (λ (i : ℕ). i % n) (sym e) ∙ digits_mod q h

pub field_zero : (n : ℕ) → 0 < n → field_of n 0 ≡ 0
field_zero n p = field_at n 0 0 0 p (omega arith)

pub field_next : (n j : ℕ) → suc (field_of n j) < n → field_of n (suc j) ≡ suc (field_of n j)
field_next n j h = field_at n (line_of n j) (suc (field_of n j)) (suc j) h (omega (arith, stored_at n j))

field_wraps : (n j : ℕ) → 0 < n → suc (field_of n j) ≡ n → field_of n (suc j) ≡ 0
field_wraps n j p h = field_at n (suc (line_of n j)) 0 (suc j) p (rw suc-mul (omega (arith, stored_at n j)))

pub line_next : (n j : ℕ) → 0 < n → field_of n j ≡ 0 → field_of n (j + n) ≡ 0
line_next n j p h = field_at n (suc (line_of n j)) 0 (j + n) p (rw suc-mul (omega (arith, stored_at n j)))

-- no number is left
pub fields_text_none : (vs : List ℕ) (ss : List ℤ) → fields_text vs [] ss ≡ []
unfolding fields_text
fields_text_none [] ss = refl
fields_text_none (v ∷ vs) ss = refl

drop_none : (k : ℕ) → drop {A = ℤ} k [] ≡ []
drop_none zero = refl
drop_none (suc k) = refl

module _ (c : ℕ) where
  -- the widths of the fields from number j's on, to the end of its line
  abbrev pub From : ℕ → List ℕ → Type 0
  From j vs = drop (field_of (fields_of c) j) (layout_of c).widths ≡ vs

  -- the first of them is number j's own, and the others are the next number's
  pub record Widths (j v : ℕ) (vs : List ℕ) : Type 0 where
    pub own : width_at c j ≡ v
    pub later : drop (suc (field_of (fields_of c) j)) (layout_of c).widths ≡ vs
    pub left : suc (field_of (fields_of c) j) + length vs ≡ fields_of c

  pub widths : (j v : ℕ) (vs : List ℕ) → 0 < fields_of c → From j (v ∷ vs) → Widths j v vs
  unfolding width_at fields_of
  widths j v vs p e =
      let ws : List ℕ = (layout_of c).widths in
      let k : ℕ = field_of (length ws) j in
      let h : field_of (length ws) j < length ws = field_of_inside (length ws) j p in
      let q : get_or ws k 0 ∷ drop (suc k) ws ≡ v ∷ vs = sym (drop-cons ws k 0 h) ∙ e in
      let r : drop (suc k) ws ≡ vs = cc in
      record { own = cc; later = r; left = omega (arith, sym (length-drop (suc k) ws) ∙ ap length r) }

  pub fields : fields_of c ≡ length (layout_of c).widths
  unfolding fields_of
  fields = refl

  -- the rest of a line, its LF, and the lines after it
  line_text : (vs : List ℕ) (j : ℕ) (x s : ℤ) (xs ss : List ℤ) → 0 < fields_of c → 0 < length vs → From j vs → length xs ≡ length ss
      → data_text c j (x ∷ xs) (s ∷ ss)
      ≡ fields_text vs (x ∷ xs) (s ∷ ss) ++ (10 ∷ data_text c (j + length vs) (drop (length vs) (x ∷ xs)) (drop (length vs) (s ∷ ss)))
  unfolding data_text fields_text
  line_text [] j x s xs ss p q e l = absurd (omega arith)
  line_text (v ∷ vs) j x s [] [] p q e l =
      let w : Widths j v vs = widths j v vs p e in
      rw (w.own, fields_text_none vs [], drop_none (length vs), append-nil (field_text v (decimals_of v) x s)) refl
  line_text (v ∷ vs) j x s [] (t ∷ ts) p q e l = absurd (omega arith)
  line_text (v ∷ vs) j x s (y ∷ ys) [] p q e l = absurd (omega arith)
  line_text (v ∷ []) j x s (y ∷ ys) (t ∷ ts) p q e l =
      let w : Widths j v [] = widths j v [] p e in
      rw (w.own, eq-eqb _ 0 (field_wraps (fields_of c) j p (omega (arith, w.left))), append-nil (field_text v (decimals_of v) x s), add-one j) refl
  line_text (v ∷ u ∷ vs) j x s (y ∷ ys) (t ∷ ts) p q e l =
      let w : Widths j v (u ∷ vs) = widths j v (u ∷ vs) p e in
      let f : field_of (fields_of c) (suc j) ≡ suc (field_of (fields_of c) j) = field_next (fields_of c) j (omega (arith, w.left)) in
      let g : From (suc j) (u ∷ vs) = rw f w.later in
      let z : j + suc (suc (length vs)) ≡ suc j + suc (length vs) = omega arith in
      rw (w.own, ne_eqb (field_of (fields_of c) (suc j)) 0 (λ r. omega arith), z)
      (ap (λ (r : List ℕ). field_text v (decimals_of v) x s ++ r) (line_text (u ∷ vs) (suc j) y t ys ts p (omega arith) g (omega arith))
      ∙ sym (append_assoc (field_text v (decimals_of v) x s) _ _))

  -- the text from the first number of a line on
  pub data_joined : (k : ℕ) (j : ℕ) (xs ss : List ℤ) → 0 < fields_of c → field_of (fields_of c) j ≡ 0 → length xs ≡ length ss → length xs ≤ k
      → data_text c j xs ss ≡ joined (data_lines k (layout_of c).widths xs ss) []
  unfolding data_text data_lines joined fields_of
  data_joined zero j [] ss p f l h = refl
  data_joined (suc k) j [] ss p f l h = refl
  data_joined zero j (x ∷ xs) ss p f l h = absurd (omega arith)
  data_joined (suc k) j (x ∷ xs) [] p f l h = absurd (omega arith)
  data_joined (suc k) j (x ∷ xs) (s ∷ ss) p f l h =
      let e : From j (layout_of c).widths = rw f refl in
      line_text (layout_of c).widths j x s xs ss p (rw fields at p) e (omega arith)
      ∙ ap (λ (r : List ℕ). fields_text (layout_of c).widths (x ∷ xs) (s ∷ ss) ++ (10 ∷ r))
      (data_joined k (j + length (layout_of c).widths) (drop (length (layout_of c).widths) (x ∷ xs)) (drop (length (layout_of c).widths) (s ∷ ss)) p (rw fields at (line_next (fields_of c) j p f))
      (rw (length-drop, length-drop) (omega arith)) (rw length-drop (omega (arith, fields))))
