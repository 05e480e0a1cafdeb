-- How many lines hold a count of numbers, a line at a time.
use Rattle.std.specs.Prelude.{◌≡◌, refl, [], ◌∷◌, ℕ, zero, suc, ◌+◌, ◌-◌, ◌<◌, ◌≤◌, ◌/◌, length}
use Rattle.std.proofs.Common.{ap, ⊎_elim, add-one, arith}
use Rattle.std.proofs.Math.Nat.{div-eq_of_lt, div-eq-sub-div}
use Rattle.laws.specs.ChoiceLaws.{below_or_not}
use Rattle.record_table.specs.Row.{Row, first_fields}
use Rattle.theory.specs.Due.{lines_for, number_rows, rows_holding}

-- no numbers take no line
lines_for_none : (n : ℕ) → lines_for n 0 ≡ 0
unfolding lines_for
lines_for_none zero = refl
lines_for_none (suc n) = div-eq_of_lt (omega arith)

-- a line taken off, full or not, the lines are those of what is left
lines_for_left : (n left : ℕ) → 0 < n → 0 < left → (left + (n - 1) - n) / n ≡ (left - n + (n - 1)) / n
lines_for_left n left p q =
    ⊎_elim
    (λ (h : left < n). rw (div-eq_of_lt {n = left + (n - 1) - n} {m = n} (omega arith), div-eq_of_lt {n = left - n + (n - 1)} {m = n} (omega arith)) refl)
    (λ (h : n ≤ left). ap (λ (x : ℕ). x / n) (omega arith))
    (below_or_not left n)

-- some numbers take one line more than those left when it is full
lines_for_more : (n left : ℕ) → 0 < n → 0 < left → lines_for n left ≡ suc (lines_for n (left - n))
unfolding lines_for
lines_for_more n left p q = rw (div-eq-sub-div {m = n} {n = left + (n - 1)} p (omega arith), add-one) (ap suc (lines_for_left n left p q))

-- a list of no numbers has no rows
pub list_rows_none : (r : Row) → rows_holding r 0 ≡ []
unfolding number_rows
list_rows_none r = rw (lines_for_none (length r.fields)) refl

-- any other has a line with as much of the row as is left, then the rows of what is left after a full line
pub list_rows_more : (r : Row) (left : ℕ) → 0 < length r.fields → 0 < left
    → rows_holding r left ≡ first_fields left r ∷ rows_holding r (left - length r.fields)
unfolding number_rows
list_rows_more r left p q = rw (lines_for_more (length r.fields) left p q) refl
