-- The widths of every case of a 58 are such that a field may have them.
use Rattle.std.specs.Prelude.{◌≡◌, ℕ, ◌<◌, ◌≤◌, Bool, true, ◌&&◌, List, [], ◌∷◌, length, take, nat_le, refl}
use Rattle.std.proofs.Common.{arith, leb-true}
use Rattle.laws.specs.ChoiceLaws.{and_left, and_right}
use Rattle.laws.specs.RangesLaws.{in_range}
use Rattle.laws.specs.Table.{tabulate}
use Rattle.laws.specs.TableLaws.{agree_below}
use Rattle.layout.specs.Layout.{layouts, layout_of, fields_of, values_of, cell_of}
use Rattle.layout.specs.LayoutLaws.{fields_of_some, widths_six}
use Rattle.usual_columns.specs.Cells.{Wide}

abbrev all_wide : List ℕ → Bool
all_wide [] = true
all_wide (w ∷ ws) = (nat_le 9 w && nat_le w 25) && all_wide ws

wide_sound : (ws : List ℕ) → all_wide ws ≡ true → Wide ws
wide_sound [] h = Wide.none
wide_sound (w ∷ ws) h =
    let t = and_left (nat_le 9 w && nat_le w 25) (all_wide ws) h in
    Wide.more (leb-true 9 w (and_left (nat_le 9 w) (nat_le w 25) t)) (leb-true w 25 (and_right (nat_le 9 w) (nat_le w 25) t))
    (wide_sound ws (and_right (nat_le 9 w && nat_le w 25) (all_wide ws) h))

pub layout_wide : (c : ℕ) → c < 8 → Wide (layout_of c).widths
unfolding layout_of layouts
layout_wide c h = wide_sound (layout_of c).widths (in_range (λ (i : ℕ). all_wide (layout_of i).widths) true 0 8 c refl (omega arith) h)

pub layout_some : (c : ℕ) → c < 8 → 0 < length (layout_of c).widths
unfolding fields_of
layout_some c h = fields_of_some c h

-- the code has them in a row of six, with zeros past the last
pub six_widths : (c : ℕ) (l : List ℕ) → c < 8 → l ≡ tabulate (cell_of c) 0 6 → take (fields_of c) l ≡ (layout_of c).widths
unfolding cell_of layout_of layouts fields_of values_of
six_widths c l h e = rw e (agree_below (λ (i : ℕ). take (fields_of i) (tabulate (cell_of i) 0 6)) (λ (i : ℕ). (layout_of i).widths) 8 c refl h)

pub fields_six : (c : ℕ) → fields_of c ≤ 6
unfolding fields_of
fields_six c = widths_six c
