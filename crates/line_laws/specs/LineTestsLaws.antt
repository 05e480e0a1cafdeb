-- The tests of a line by itself agree with what the line is, in both directions.
use Rattle.std.specs.Prelude.{◌≡◌, refl, Bool, true, false, ◌&&◌, List, ℕ, ◌-◌, ◌≤◌, length, replicate}
use Rattle.std.proofs.Common.{sym, ap, ◌∙◌}
use Rattle.laws.specs.ChoiceLaws.{and_left, false_not_true}
use Rattle.text.specs.Blank.{Blanks, all_blank}
use Rattle.text.specs.BlankLaws.{all_blank_complete, all_blank_sound, all_blank_append, blanks_append, blanks_take, blanks_replicate}
use Rattle.line.specs.Line.{filled}
use Rattle.line.specs.LineLaws.{filled_short}
use Rattle.delimiter.specs.Kind.{is_delimiter}
use Rattle.delimiter.proofs.KindLaws.{is_delimiter_complete, is_delimiter_sound, delimiter_not_blank}
use Rattle.theory.specs.Proper.{Inside}

-- A blank line.

pub blank_line_complete : {cs : List ℕ} → Blanks cs → all_blank (filled cs) ≡ true
unfolding filled
blank_line_complete b = all_blank_complete (blanks_take 80 (blanks_append b (blanks_replicate 80)))

pub blank_line_sound : (cs : List ℕ) → length cs ≤ 80 → all_blank (filled cs) ≡ true → Blanks cs
blank_line_sound cs h e =
    let f : all_blank cs && all_blank (replicate (80 - length cs) 32) ≡ true = sym (ap all_blank (filled_short cs h) ∙ all_blank_append cs _) ∙ e in
    all_blank_sound cs (and_left (all_blank cs) _ f)

-- A line inside a set.

pub inside_complete : (cs : List ℕ) → Inside cs → is_delimiter (filled cs) ≡ false
inside_complete cs n = by (is_delimiter (filled cs)) refl
  where
    by : (t : Bool) → is_delimiter (filled cs) ≡ t → t ≡ false
    by true e = absurd (n (is_delimiter_sound (filled cs) e))
    by false e = refl

pub inside_sound : (cs : List ℕ) → is_delimiter (filled cs) ≡ false → Inside cs
inside_sound cs e d = false_not_true (sym e ∙ is_delimiter_complete d)

-- a blank line is no delimiter
pub blank_inside : {cs : List ℕ} → Blanks cs → Inside cs
blank_inside {cs} b d = false_not_true (sym (delimiter_not_blank (filled cs) d) ∙ blank_line_complete b)
