-- What is kept of fair lines, the lines of a text laid out, and that the sets of a file of fair lines are fair.
use Rattle.std.specs.Prelude.{◌≡◌, refl, Bool, false, List, [], ◌∷◌, ◌++◌, map, ℕ, zero, suc, ◌+◌, ◌-◌, ◌≤◌, eqb, length, take, replicate}
use Rattle.std.proofs.Common.{sym, ap, ◌∙◌, append_assoc, arith, ne_eqb, length-append, length-take}
use Rattle.std.proofs.Math.Bool.{true}
use Prim.{tt}
use Rattle.std.proofs.lemmas.List.{replicate-append-replicate}
use Rattle.std.proofs.Math.Seq.{take-nil}
use Rattle.laws.specs.Choice.{pick}
use Rattle.laws.specs.Cut.{cut, text}
use Rattle.text.specs.Blank.{Blanks, Blanks.none as no_blank, Blanks.one as blank, all_blank}
use Rattle.text.specs.Text.{TextIn, text_in_lem, trimmed}
use Rattle.text.proofs.TextLaws.{trimmed_take}
use Rattle.line.specs.Line.{Allowed, Allowed.none as no_byte, Allowed.more as byte, columns, without_return, filled, line_fault, passed}
use Rattle.line.specs.LineLaws.{filled_short, line_fault_sound}
use Rattle.delimiter.specs.Kind.{is_delimiter, then_blank}
use Rattle.parts.specs.Parts.{closes, part, PartState, outside, opened, inside, parts_from, parts_of}
use Rattle.output.specs.Output.{ended}
use Rattle.rewriter.specs.Rewriter.{kept_of, lines_text}
use Rattle.rewriter.specs.Fair.{Fair, FairLines, FairLines.none as no_line, FairLines.more as line}
use Rattle.rewriter.specs.Fair.{Inner, Inner.none as empty, Inner.more as inner, FairSets, FairSets.none as no_set, FairSets.more as set, FairStand, plain_delimiter}

-- such a line is refused for nothing by itself
pub fair_passed : (l : List ℕ) → line_fault true (columns true l) ≡ passed → Fair l
fair_passed l h = let r = line_fault_sound true (columns true l) h in record { bytes = r.2; short = r.1 }

-- what is kept of a fair line
allowed_take : (n : ℕ) {cs : List ℕ} → Allowed cs → Allowed (take n cs)
allowed_take zero a = no_byte
allowed_take (suc n) no_byte = no_byte
allowed_take (suc n) (byte l u a) = byte l u (allowed_take n a)

blanks_all : {bl : List ℕ} → Blanks bl → bl ≡ replicate (length bl) 32
blanks_all no_blank = refl
blanks_all (blank b) = ap (◌∷◌ 32) (blanks_all b)

pub filled_text : {t l : List ℕ} → TextIn t l → length l ≤ 80 → filled t ≡ filled l
filled_text (text_in_lem {t} bl u b) h =
    let n : length (t ++ bl) ≡ length t + length bl = length-append t bl in
    let k : 80 - length t ≡ length bl + (80 - length (t ++ bl)) = omega arith in
    let m : ℕ = 80 - length (t ++ bl) in
    let blanks : bl ++ replicate m 32 ≡ replicate (length bl + m) 32
    = ap (λ (x : List ℕ). x ++ replicate m 32) (blanks_all b) ∙ replicate-append-replicate {A = ℕ} (length bl) m 32 in
    filled_short t (omega arith) ∙ rw k (sym (filled_short (t ++ bl) h ∙ append_assoc t bl _ ∙ ap (λ (x : List ℕ). t ++ x) blanks))

module _ (l : List ℕ) (f : Fair l) where
  pub kept_allowed : Allowed (kept_of l)
  unfolding kept_of
  kept_allowed = rw (← trimmed_take (columns true l)) (allowed_take (length (trimmed (columns true l))) f.bytes)

-- the columns of a fair line that is cut are its first ones
return_one : (b : ℕ) → 32 ≤ b → without_return (b ∷ []) ≡ b ∷ []
unfolding without_return
return_one b l = rw (ne_eqb b 13 (λ e. omega arith)) refl

cut_return : (k : ℕ) (l : List ℕ) → Allowed (without_return l) → without_return (take k l) ≡ take k (without_return l)
unfolding without_return
cut_return zero l a = refl
cut_return (suc k) [] a = refl
cut_return (suc k) (b ∷ []) a = ap (λ (x : List ℕ). without_return (b ∷ x)) (take-nil k) ∙ by (eqb b 13)
  where
    by : (t : Bool) → pick t [] (b ∷ []) ≡ take (suc k) (pick t [] (b ∷ []))
    by true = refl
    by false = sym (ap (◌∷◌ b) (take-nil k))
cut_return (suc zero) (b ∷ c ∷ l) (byte lo hi a) = return_one b lo
cut_return (suc (suc k)) (b ∷ c ∷ l) (byte lo hi a) = ap (◌∷◌ b) (cut_return (suc k) (c ∷ l) a)

pub cut_columns : (k : ℕ) (l : List ℕ) → Fair l → columns true (take k l) ≡ take k (columns true l)
unfolding columns
cut_columns k l f = cut_return k l f.bytes

pub cut_fair : (k : ℕ) (l : List ℕ) → Fair l → Fair (take k l)
cut_fair k l f = record {
  bytes = rw (cut_columns k l f) (allowed_take k f.bytes);
  short = rw (cut_columns k l f) (omega (arith, length-take k (columns true l), f.short));
}

-- the lines of a text
pub cut_ended : {t : List ℕ} → Allowed t → (rest : List ℕ) → cut (ended t ++ rest) ≡ text (t ∷ (cut rest).lines) (cut rest).rest
unfolding cut
cut_ended no_byte rest = refl
cut_ended (byte {b} l u a) rest = rw (ne_eqb b 10 (λ e. omega arith), cut_ended a rest) refl

pub cut_lines : {ls : List (List ℕ)} → Inner ls → (rest : List ℕ) → cut (lines_text ls ++ rest) ≡ text (map kept_of ls ++ (cut rest).lines) (cut rest).rest
unfolding lines_text
cut_lines empty rest = refl
cut_lines (inner {l} {ls} f c i) rest = rw (append_assoc, cut_ended (kept_allowed l f) (lines_text ls ++ rest), cut_lines i rest) refl

pub delimiter_closes : closes plain_delimiter ≡ true
unfolding closes columns without_return filled is_delimiter then_blank all_blank
delimiter_closes = refl

-- the sets of a file of fair lines are fair
pub inner_append : {a b : List (List ℕ)} → Inner a → Inner b → Inner (a ++ b)
inner_append empty r = r
inner_append (inner f c i) r = inner f c (inner_append i r)

fair_outside : (l : List ℕ) (n at : ℕ) (t : Bool) → FairStand (pick t (opened n at l) outside)
fair_outside l n at true = tt
fair_outside l n at false = tt

fair_inside : (m b : ℕ) (o v : List ℕ) (bs : List (List ℕ)) (l : List ℕ) (n at : ℕ) (ls : List (List ℕ)) (t : Bool) → closes l ≡ t → Fair l → Inner bs
    → ((s : PartState) → FairStand s → FairSets (parts_from s (suc n) (at + suc (length l)) ls))
    → FairSets (pick t (part m b o v bs l ∷ []) [] ++ parts_from (pick t outside (inside m b o v (bs ++ (l ∷ [])))) (suc n) (at + suc (length l)) ls)
fair_inside m b o v bs l n at ls true e f i h = set i (h outside tt)
fair_inside m b o v bs l n at ls false e f i h = h (inside m b o v (bs ++ (l ∷ []))) (inner_append i (inner f e empty))

sets_fair : {ls : List (List ℕ)} → FairLines ls → (s : PartState) (n at : ℕ) → FairStand s → FairSets (parts_from s n at ls)
unfolding parts_from
sets_fair no_line s n at g = no_set
sets_fair (line {l} {ls} f r) outside n at g = sets_fair r (pick (closes l) (opened n at l) outside) (suc n) (at + suc (length l)) (fair_outside l n at (closes l))
sets_fair (line {l} {ls} f r) (opened m b o) n at g = sets_fair r (inside m b o l []) (suc n) (at + suc (length l)) empty
sets_fair (line {l} {ls} f r) (inside m b o v bs) n at g =
    fair_inside m b o v bs l n at ls (closes l) refl f g (λ s k. sets_fair r s (suc n) (at + suc (length l)) k)

pub file_fair : (file : List ℕ) → FairLines (cut file).lines → FairSets (parts_of file)
unfolding parts_of
file_fair file f = sets_fair f outside 0 0 tt
