-- The last data line that the writer lays out ends with its last counted number: nothing is cut off it.
use Rattle.std.specs.Prelude.{◌≡◌, refl, List, [], ◌∷◌, ◌++◌, ℕ, zero, suc, ◌+◌, ◌-◌, ◌*◌, ◌≤◌, ◌<◌, ℤ, length, drop}
use Rattle.std.proofs.Common.{ap, ◌∙◌, zero-mul, suc-mul, arith, length-append, length-drop, drop_of_length-le, take_all}
use Rattle.layout.specs.Columns.{field_start, field_past, line_of, field_of}
use Rattle.layout.specs.ColumnsLaws.{field_start_next, field_of_inside, stored_at}
use Rattle.layout.specs.Layout.{layout_of, fields_of}
use Rattle.layout.specs.LayoutLaws.{fields_of_some}
use Rattle.parts.specs.Padding.{last_field, counted_past}
use Rattle.decimal.specs.Decimal.{field_text}
use Rattle.decimal.specs.DecimalLaws.{field_text_length}
use Rattle.rewriter.specs.Rewriter.{cut_last}
use Rattle.writer.specs.Writer.{decimals_of}
use Rattle.writer_laws.specs.DataLines.{fields_text, data_lines}

-- of lines only the last is cut
cut_last_more : (k : ℕ) (l : List ℕ) (ls : List (List ℕ)) → 0 < length ls → cut_last k (l ∷ ls) ≡ l ∷ cut_last k ls
unfolding cut_last
cut_last_more k l [] h = absurd (omega arith)
cut_last_more k l (m ∷ ls) h = refl

cut_last_append : (k : ℕ) (a b : List (List ℕ)) → 0 < length b → cut_last k (a ++ b) ≡ a ++ cut_last k b
cut_last_append k [] b h = refl
cut_last_append k (l ∷ a) b h = cut_last_more k l (a ++ b) (omega (arith, length-append a b)) ∙ ap (◌∷◌ l) (cut_last_append k a b h)

-- a line of so many numbers ends where the next field begins
fields_few : (ws : List ℕ) (xs ss : List ℤ) → length (fields_text ws xs ss) ≤ field_start ws (length xs)
unfolding fields_text field_start
fields_few [] xs ss = omega arith
fields_few (w ∷ ws) [] ss = omega arith
fields_few (w ∷ ws) (x ∷ xs) [] = omega arith
fields_few (w ∷ ws) (x ∷ xs) (s ∷ ss) =
    omega (arith, length-append (field_text w (decimals_of w) x s) (fields_text ws xs ss), field_text_length w (decimals_of w) x s, fields_few ws xs ss)

lines_none : (f : ℕ) (ws : List ℕ) (ss : List ℤ) → data_lines f ws [] ss ≡ []
unfolding data_lines
lines_none zero ws ss = refl
lines_none (suc f) ws ss = refl

lines_some : (f : ℕ) (ws : List ℕ) (xs ss : List ℤ) → 0 < length xs → length xs ≤ f → 0 < length (data_lines f ws xs ss)
unfolding data_lines
lines_some zero ws xs ss p h = absurd (omega arith)
lines_some (suc f) ws [] ss p h = absurd (omega arith)
lines_some (suc f) ws (x ∷ xs) ss p h = omega arith

-- the data lines, where q full ones come before the last
lines_uncut : (f : ℕ) (ws : List ℕ) (q : ℕ) (xs ss : List ℤ) → 0 < length ws → length xs ≤ f → q * length ws < length xs → length xs ≤ suc q * length ws
    → cut_last (field_start ws (length xs - q * length ws)) (data_lines f ws xs ss) ≡ data_lines f ws xs ss
unfolding data_lines cut_last
lines_uncut zero ws q xs ss p h l m = absurd (omega arith)
lines_uncut (suc f) ws q [] ss p h l m = absurd (omega arith)
lines_uncut (suc f) ws zero (x ∷ xs) ss p h l m =
    let z : 0 * length ws ≡ 0 = zero-mul (length ws) in
    let w : 1 * length ws ≡ 0 * length ws + length ws = suc-mul 0 (length ws) in
    let n : length (x ∷ xs) - 0 * length ws ≡ length (x ∷ xs) = omega arith in
    let few : length (x ∷ xs) ≤ length ws = omega arith in
    let past : drop (length ws) (x ∷ xs) ≡ [] = drop_of_length-le (x ∷ xs) few in
    rw (past, lines_none f ws (drop (length ws) ss), n)
    (ap (λ (l : List ℕ). l ∷ []) (take_all (field_start ws (length (x ∷ xs))) (fields_text ws (x ∷ xs) ss) (fields_few ws (x ∷ xs) ss)))
lines_uncut (suc f) ws (suc q) (x ∷ xs) ss p h l m =
    let ys : List ℤ = drop (length ws) (x ∷ xs) in
    let ts : List ℤ = drop (length ws) ss in
    let z : suc q * length ws ≡ q * length ws + length ws = suc-mul q (length ws) in
    let w : suc (suc q) * length ws ≡ suc q * length ws + length ws = suc-mul (suc q) (length ws) in
    let n : length ys ≡ length (x ∷ xs) - length ws = length-drop (length ws) (x ∷ xs) in
    let k : length ys - q * length ws ≡ length (x ∷ xs) - suc q * length ws = omega arith in
    cut_last_more _ (fields_text ws (x ∷ xs) ss) (data_lines f ws ys ts) (lines_some f ws ys ts (omega arith) (omega arith))
    ∙ ap (◌∷◌ (fields_text ws (x ∷ xs) ss)) (rw k at (lines_uncut f ws q ys ts p (omega arith) (omega arith) (omega arith)))

-- after any lines
pub data_uncut : (c : ℕ) → c < 8 → (before : List (List ℕ)) (xs ss : List ℤ) → 0 < length xs
    → cut_last (counted_past c (length xs)) (before ++ data_lines (length xs) (layout_of c).widths xs ss) ≡ before ++ data_lines (length xs) (layout_of c).widths xs ss
unfolding counted_past last_field fields_of
data_uncut c h before xs ss some =
    let ws : List ℕ = (layout_of c).widths in
    let t : ℕ = length xs in
    let q : ℕ = line_of (length ws) (t - 1) in
    let f : ℕ = field_of (length ws) (t - 1) in
    let s : line_of (length ws) (t - 1) * length ws + field_of (length ws) (t - 1) ≡ t - 1 = stored_at (length ws) (t - 1) in
    let i : field_of (length ws) (t - 1) < length ws = field_of_inside (length ws) (t - 1) (fields_of_some c h) in
    let m : t - line_of (length ws) (t - 1) * length ws ≡ suc (field_of (length ws) (t - 1)) = omega arith in
    let k : field_start ws (t - q * length ws) ≡ field_past ws f = ap (field_start ws) m ∙ field_start_next ws f in
    let w : suc q * length ws ≡ q * length ws + length ws = suc-mul q (length ws) in
    cut_last_append _ before (data_lines t ws xs ss) (lines_some t ws xs ss some (omega arith))
    ∙ ap (λ (x : List (List ℕ)). before ++ x) (rw k at (lines_uncut t ws q xs ss (fields_of_some c h) (omega arith) (omega arith) (omega arith)))
