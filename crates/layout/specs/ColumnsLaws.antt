-- Columns of fields stand in order, apart, and inside the line; said once over the widths.
use Rattle.std.specs.Prelude.{◌≡◌, refl, ◌⊎◌, List, [], ◌∷◌, ℕ, zero, suc, ◌+◌, ◌*◌, ◌/◌, ◌≤◌, ◌<◌, length}
use Rattle.std.proofs.Common.{ap, inl, inr, ⊎_elim, eq-or-lt_of_le, le_of_suc-le-suc, div-add-mod', div-mul-le_self, le-div_iff_mul-le, mod-lt, not-suc-le-zero, arith}
use Rattle.layout.specs.Columns.{field_start, field_past, total, line_of, field_of}

-- a field begins where the one before it ends
pub field_start_next : (ws : List ℕ) (k : ℕ) → field_start ws (suc k) ≡ field_past ws k
unfolding field_start field_past
field_start_next [] zero = refl
field_start_next [] (suc k) = refl
field_start_next (w ∷ ws) zero = omega arith
field_start_next (w ∷ ws) (suc k) = let h : field_start ws (suc k) ≡ field_past ws k = field_start_next ws k in omega arith

at : (i k : ℕ) → suc i ≡ suc k → i ≡ k
at i k e = omega arith

-- in order and apart: a field ends before any later one begins
pub field_past_before : (ws : List ℕ) (i k : ℕ) → i < k → field_past ws i ≤ field_start ws k
unfolding field_past
field_past_before ws i zero h = absurd (not-suc-le-zero h)
field_past_before ws i (suc k) h =
    let next : field_start ws (suc k) ≡ field_past ws k = field_start_next ws k in
    ⊎_elim
    (λ e. let same : field_past ws i ≡ field_past ws k = ap (field_past ws) (at i k e) in omega arith)
    (λ l. let before : field_past ws i ≤ field_start ws k = field_past_before ws i k (le_of_suc-le-suc l) in omega arith)
    (eq-or-lt_of_le h)

-- inside: no field ends past all of them
pub field_past_total : (ws : List ℕ) (k : ℕ) → field_past ws k ≤ total ws
unfolding field_past field_start total
field_past_total [] zero = omega arith
field_past_total [] (suc k) = omega arith
field_past_total (w ∷ ws) zero = omega arith
field_past_total (w ∷ ws) (suc k) = let h : field_past ws k ≤ total ws = field_past_total ws k in omega arith

-- past the last field stands the column past them all
pub field_start_total : (ws : List ℕ) (k : ℕ) → length ws ≤ k → field_start ws k ≡ total ws
unfolding field_start total
field_start_total [] zero h = refl
field_start_total [] (suc k) h = refl
field_start_total (w ∷ ws) zero h = absurd (not-suc-le-zero h)
field_start_total (w ∷ ws) (suc k) h = ap (λ (x : ℕ). w + x) (field_start_total ws k (le_of_suc-le-suc h))

-- a stored number's field is one of the line's
pub field_of_inside : (n j : ℕ) → 0 < n → field_of n j < n
unfolding field_of
field_of_inside n j h = mod-lt j h

-- a stored number is the one at its field of its line, and no other
pub stored_at : (n j : ℕ) → line_of n j * n + field_of n j ≡ j
unfolding line_of field_of
stored_at n j = div-add-mod' j n

line_of_ordered : (n i j : ℕ) → 0 < n → i ≤ j → line_of n i ≤ line_of n j
unfolding line_of
line_of_ordered n i j p h = let below : i / n * n ≤ i = div-mul-le_self i n in (le-div_iff_mul-le p).1 (omega arith)

-- stored numbers stand in order and apart: a later one is on a later line, or past the columns of the earlier one
pub stored_apart : (ws : List ℕ) (i j : ℕ) → 0 < length ws → i < j
    → (line_of (length ws) i < line_of (length ws) j)
    ⊎ ((line_of (length ws) i ≡ line_of (length ws) j) × (field_past ws (field_of (length ws) i) ≤ field_start ws (field_of (length ws) j)))
stored_apart ws i j p h =
    ⊎_elim
    (λ e. inr (e, field_past_before ws _ _ (later e)))
    inl
    (eq-or-lt_of_le (line_of_ordered (length ws) i j p (omega arith)))
  where
    later : line_of (length ws) i ≡ line_of (length ws) j → field_of (length ws) i < field_of (length ws) j
    later e =
        let first : line_of (length ws) i * length ws + field_of (length ws) i ≡ i = stored_at (length ws) i in
        let second : line_of (length ws) j * length ws + field_of (length ws) j ≡ j = stored_at (length ws) j in
        let same : line_of (length ws) i * length ws ≡ line_of (length ws) j * length ws = ap (λ (x : ℕ). x * length ws) e in
        omega arith
