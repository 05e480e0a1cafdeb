-- What is kept of the lines of a set: lines of the same set, with no blanks at line ends, spelled the same.
use Rattle.std.specs.Prelude.{◌≡◌, refl, Bool, false, List, [], ◌∷◌, map, ℕ, suc, ◌-◌, ◌≤◌, eqb, length, get_or, take}
use Rattle.std.proofs.Common.{sym, ap, subst, ◌∙◌, append-nil, arith, length-take, take_all}
use Rattle.std.proofs.Math.Bool.{true}
use Rattle.std.proofs.lemmas.List.{length-map}
use Rattle.std.proofs.Math.ListN.{get_or-map}
use Rattle.laws.specs.Choice.{pick}
use Rattle.text.specs.Blank.{Blanks.none as no_blank}
use Rattle.text.specs.Text.{Unpadded, TextIn, text_in_lem, trimmed}
use Rattle.text.proofs.TextLaws.{trimmed_complete, trimmed_sound, trimmed_most}
use Rattle.line.specs.Line.{columns, without_return, filled}
use Rattle.field.specs.Item.{Item}
use Rattle.record_table.specs.Row.{Row}
use Rattle.record.specs.Written.{Written}
use Rattle.theory.specs.Sets.{Set}
use Rattle.theory.specs.Proper.{Inside, TypedLines, PlainLines, SetLines}
use Rattle.line_laws.specs.Short.{Short}
use Rattle.parts.specs.Parts.{Part}
use Rattle.parts.specs.Function.{part_case, stored_of}
use Rattle.parts.specs.Padding.{counted_past, padding_of}
use Rattle.parts_laws.specs.Holds.{columns_of, Holds}
use Rattle.parts_laws.specs.Declares.{set_case}
use Rattle.parts_laws.specs.DeclaresLaws.{case_held}
use Rattle.parts_laws.specs.Stored.{stored_count}
use Rattle.parts_laws.specs.PaddingLaws.{stored_held, ended_unpadded}
use Rattle.rewriter.specs.Rewriter.{kept_of, cut_last, unpadded}
use Rattle.rewriter.proofs.BodyLaws.{kept_of_most}
use Rattle.rewriter.specs.Fair.{Fair, FairLines, Inner}
use Rattle.rewriter.proofs.RewriterLaws.{filled_text, cut_columns, cut_fair}
use Rattle.rewriter_laws.specs.Form.{Trimmed, counted_columns, EndsBy, SameLines}
use Rattle.rewriter_laws.specs.CutLaws.{stored_58, cut_short, cut_lines}

-- One line.

unpadded_text : {t l : List ℕ} → TextIn t l → Unpadded t
unpadded_text (text_in_lem bl u b) = u

text_alone : {t : List ℕ} → Unpadded t → TextIn t t
text_alone {t} u = subst (TextIn t) (append-nil t) (text_in_lem [] u no_blank)

-- what is kept is the text of the line
kept_in_lem : (l : List ℕ) → TextIn (kept_of l) (columns true l)
unfolding kept_of
kept_in_lem l = trimmed_sound (columns true l)

kept_text_lem : {t : List ℕ} (l : List ℕ) → TextIn t (columns true l) → kept_of l ≡ t
unfolding kept_of
kept_text_lem l h = trimmed_complete h

text_kept : {t : List ℕ} (l : List ℕ) → TextIn t (columns true l) → TextIn t (kept_of l)
text_kept l h = rw (kept_text_lem l h) (text_alone (unpadded_text h))

-- it has no more columns, and the same when filled with blanks
pub kept_most : (l : List ℕ) → length (columns true l) ≤ 80 → length (kept_of l) ≤ 80
unfolding kept_of
kept_most l h = omega (arith, trimmed_most (columns true l))

module _ (l : List ℕ) (h : length (columns true l) ≤ 80) where
  filled_kept : filled (kept_of l) ≡ filled (columns true l)
  unfolding kept_of
  filled_kept = filled_text (trimmed_sound (columns true l)) h

  inside_kept : Inside (columns true l) → Inside (kept_of l)
  inside_kept n = rw filled_kept n

  written_kept : {r : Row} {is : List Item} → Written r is (filled (columns true l)) → Written r is (filled (kept_of l))
  written_kept w = rw filled_kept w

-- The lines of a set.

typed_kept : {rs : List Row} {iss : List (List Item)} (ls : List (List ℕ)) → TypedLines rs iss (columns_of ls) → Short (columns_of ls) → TypedLines rs iss (map kept_of ls)
typed_kept [] TypedLines.none s = TypedLines.none
typed_kept (l ∷ ls) (TypedLines.more w n t) (Short.more h s) = TypedLines.more (written_kept l h w) (inside_kept l h n) (typed_kept ls t s)

plain_kept : {iss : List (List Item)} (ls : List (List ℕ)) → PlainLines iss (columns_of ls) → Short (columns_of ls) → PlainLines iss (map kept_of ls)
plain_kept [] PlainLines.none s = PlainLines.none
plain_kept (l ∷ ls) (PlainLines.more w n p) (Short.more h s) = PlainLines.more (text_kept l w) (inside_kept l h n) (plain_kept ls p s)

-- they are lines of the same set
set_kept : {s : Set} (ls : List (List ℕ)) → SetLines s (columns_of ls) → Short (columns_of ls) → SetLines s (map kept_of ls)
set_kept ls (SetLines.typed e l) s = SetLines.typed e (typed_kept ls l s)
set_kept ls (SetLines.plain e l) s = SetLines.plain e (plain_kept ls l s)

-- what is kept has no blanks at line ends
pub body_trimmed : (ls : List (List ℕ)) → Trimmed (map kept_of ls)
body_trimmed [] = Trimmed.none
body_trimmed (l ∷ ls) = Trimmed.more (unpadded_text (kept_in_lem l)) (body_trimmed ls)

-- Lines of which the last is cut.

-- what is kept of a fair line that is cut
pub kept_cut : (k : ℕ) (l : List ℕ) → Fair l → kept_of (take k l) ≡ trimmed (take k (columns true l))
unfolding kept_of
kept_cut k l f = ap trimmed (cut_columns k l f)

kept_few : (k : ℕ) (l : List ℕ) → length (kept_of (take k l)) ≤ k
kept_few k l = omega (arith, kept_of_most (take k l), length-take k l)

-- it ends with the last column that counts at the latest
pub body_ends : (k : ℕ) (ls : List (List ℕ)) → EndsBy k (map kept_of (cut_last k ls))
unfolding cut_last
body_ends k [] = EndsBy.none
body_ends k (l ∷ []) = EndsBy.last (kept_few k l)
body_ends k (l ∷ m ∷ []) = EndsBy.more (body_ends k (m ∷ []))
body_ends k (l ∷ m ∷ n ∷ ls) = EndsBy.more (body_ends k (m ∷ n ∷ ls))

-- it is spelled the same
cut_same : (k : ℕ) (l : List ℕ) → Fair l → TextIn (trimmed (take k (columns true l))) (take k (kept_of (take k l)))
cut_same k l f =
    let whole : take k (kept_of (take k l)) ≡ kept_of (take k l) = take_all k (kept_of (take k l)) (kept_few k l) in
    rw (whole, kept_cut k l f) (text_alone (unpadded_text (trimmed_sound (take k (columns true l)))))

pub body_same : (k : ℕ) {ls : List (List ℕ)} → Inner ls → SameLines k (columns_of ls) (map kept_of (cut_last k ls))
unfolding cut_last
body_same k Inner.none = SameLines.none
body_same k (Inner.more {l} f c Inner.none) = SameLines.last (trimmed_sound (take k (columns true l))) (cut_same k l f)
body_same k (Inner.more {l} f c (Inner.more g d Inner.none)) =
    SameLines.more (kept_in_lem l) (text_alone (unpadded_text (kept_in_lem l))) (body_same k (Inner.more g d Inner.none))
body_same k (Inner.more {l} f c (Inner.more g d (Inner.more h e i))) =
    SameLines.more (kept_in_lem l) (text_alone (unpadded_text (kept_in_lem l))) (body_same k (Inner.more g d (Inner.more h e i)))

-- and no other lines are both
line_only : {t cs : List ℕ} (l : List ℕ) → TextIn t (columns true l) → TextIn t cs → Unpadded cs → cs ≡ kept_of l
line_only {t} {cs} l x y u =
    let p : kept_of l ≡ t = kept_text_lem l x in
    let q : trimmed cs ≡ t = trimmed_complete y in
    let r : trimmed cs ≡ cs = trimmed_complete (text_alone u) in
    cc

last_only : {t cs : List ℕ} (k : ℕ) (l : List ℕ) → Fair l → TextIn t (take k (columns true l)) → TextIn t (take k cs) → Unpadded cs → length cs ≤ k
    → cs ≡ kept_of (take k l)
last_only {t} {cs} k l f x y u h =
    let p : kept_of (take k l) ≡ t = kept_cut k l f ∙ trimmed_complete x in
    let w : take k cs ≡ cs = take_all k cs h in
    let q : trimmed cs ≡ t = ap trimmed (sym w) ∙ trimmed_complete y in
    let r : trimmed cs ≡ cs = trimmed_complete (text_alone u) in
    cc

pub body_only : (k : ℕ) {ls css : List (List ℕ)} → Inner ls → SameLines k (columns_of ls) css → Trimmed css → EndsBy k css → css ≡ map kept_of (cut_last k ls)
unfolding cut_last
body_only k Inner.none SameLines.none b e = refl
body_only k (Inner.more {l} f c Inner.none) (SameLines.last x y) (Trimmed.more u b) (EndsBy.last h) = rw (last_only k l f x y u h) refl
body_only k (Inner.more {l} f c (Inner.more g d i)) (SameLines.more x y s) (Trimmed.more u b) (EndsBy.more e) =
    rw (line_only l x y u, body_only k (Inner.more g d i) s b e) refl

-- lines are spelled as themselves
pub lines_same : (k : ℕ) (css : List (List ℕ)) → SameLines k css css
lines_same k [] = SameLines.none
lines_same k (cs ∷ []) = SameLines.last (trimmed_sound (take k cs)) (trimmed_sound (take k cs))
lines_same k (cs ∷ ds ∷ css) = SameLines.more (trimmed_sound cs) (trimmed_sound cs) (lines_same k (ds ∷ css))

-- The lines of a set without padding.

-- they are those of which the last is cut to the columns that count
whole_line : (l : List ℕ) → Fair l → kept_of (take 80 l) ≡ kept_of l
unfolding kept_of
whole_line l f = ap trimmed (cut_columns 80 l f ∙ take_all 80 (columns true l) f.short)

whole_cut : {ls : List (List ℕ)} → Inner ls → map kept_of (cut_last 80 ls) ≡ map kept_of ls
unfolding cut_last
whole_cut Inner.none = refl
whole_cut (Inner.more {l} f c Inner.none) = rw (whole_line l f) refl
whole_cut (Inner.more {l} f c (Inner.more g d i)) = ap (◌∷◌ (kept_of l)) (whole_cut (Inner.more g d i))

pub unpadded_cut : {s : Set} {p : Part} → Holds s p → Inner p.body → map kept_of (unpadded p) ≡ map kept_of (cut_last (counted_columns s) p.body)
unfolding unpadded counted_columns
unpadded_cut {s} {p} h i = rw (stored_held h) (by (eqb (stored_count s) 0) refl)
  where
    by : (t : Bool) → eqb (stored_count s) 0 ≡ t
        → map kept_of (pick t p.body (cut_last (counted_past (part_case p) (stored_count s)) p.body))
        ≡ map kept_of (cut_last (pick t 80 (counted_past (set_case s) (stored_count s))) p.body)
    by true e = sym (whole_cut i)
    by false e = rw (case_held h (stored_58 s e)) refl

-- fair ones
inner_fair : {ls : List (List ℕ)} → Inner ls → FairLines ls
inner_fair Inner.none = FairLines.none
inner_fair (Inner.more f c i) = FairLines.more f (inner_fair i)

cut_fair_lines : (k : ℕ) {ls : List (List ℕ)} → Inner ls → FairLines (cut_last k ls)
unfolding cut_last
cut_fair_lines k Inner.none = FairLines.none
cut_fair_lines k (Inner.more {l} f c Inner.none) = FairLines.more (cut_fair k l f) FairLines.none
cut_fair_lines k (Inner.more f c (Inner.more g d i)) = FairLines.more f (cut_fair_lines k (Inner.more g d i))

pub unpadded_fair : (p : Part) → Inner p.body → FairLines (unpadded p)
unfolding unpadded
unpadded_fair p i = by (eqb (stored_of p) 0)
  where
    by : (t : Bool) → FairLines (pick t p.body (cut_last (counted_past (part_case p) (stored_of p)) p.body))
    by true = inner_fair i
    by false = cut_fair_lines (counted_past (part_case p) (stored_of p)) i

-- lines of the same set
columns_cut : (k : ℕ) {ls : List (List ℕ)} → Inner ls → columns_of (cut_last k ls) ≡ cut_last k (columns_of ls)
unfolding cut_last
columns_cut k Inner.none = refl
columns_cut k (Inner.more {l} f c Inner.none) = rw (cut_columns k l f) refl
columns_cut k (Inner.more {l} f c (Inner.more g d i)) = ap (◌∷◌ (columns true l)) (columns_cut k (Inner.more g d i))

pub lines_kept : {s : Set} {p : Part} → Holds s p → Inner p.body → SetLines s (map kept_of (unpadded p))
lines_kept {s} {p} h i =
    let k : ℕ = counted_columns s in
    let cut = columns_cut k i in
    rw (unpadded_cut h i) (set_kept (cut_last k p.body) (rw cut (cut_lines h.lines h.short)) (rw cut (cut_short k h.short)))

-- Lines of which the last ends with its last counted column at the latest have no padding.

ends_last : {k : ℕ} {css : List (List ℕ)} → EndsBy k css → length (get_or css (length css - 1) []) ≤ k
ends_last EndsBy.none = omega arith
ends_last (EndsBy.last h) = h
ends_last (EndsBy.more {css = css} e) = let z : suc (suc (length css)) - 1 ≡ suc (suc (length css) - 1) = omega arith in rw z (ends_last e)

pub held_unpadded : {s : Set} {p : Part} → Holds s p → EndsBy (counted_columns s) (columns_of p.body) → padding_of p ≡ 0
unfolding counted_columns padding_of columns without_return
held_unpadded {s} {p} h x = by (eqb (stored_count s) 0) refl x
  where
    by : (t : Bool) → eqb (stored_count s) 0 ≡ t → EndsBy (pick t 80 (counted_past (set_case s) (stored_count s))) (columns_of p.body) → padding_of p ≡ 0
    by true e y = rw (stored_held h, e) refl
    by false e y =
        let n : length (columns_of p.body) ≡ length p.body = length-map p.body (columns true) in
        let m : get_or (columns_of p.body) (length p.body - 1) [] ≡ columns true (get_or p.body (length p.body - 1) [])
        = get_or-map (columns true) p.body (length p.body - 1) [] in
        ended_unpadded p (rw (stored_held h, case_held h (stored_58 s e)) (rw (n, m) at (ends_last y)))
