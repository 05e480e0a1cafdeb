-- The bytes of a set in a text, from its first byte to the byte past its closing line, are its lines, each with its LF.
use Rattle.std.specs.Prelude.{◌≡◌, refl, Bool, true, false, List, [], ◌∷◌, ◌++◌, ℕ, zero, suc, ◌+◌, ◌-◌, eqb, length, take, drop}
use Rattle.std.proofs.Common.{sym, ap, subst, ◌∙◌, append_assoc, arith, length-append, take_at, drop_at}
use Rattle.laws.specs.Choice.{pick}
use Rattle.laws.specs.Cut.{text, onto, cut}
use Rattle.theory.specs.Sets.{Set}
use Rattle.line_laws.specs.Ends.{joined}
use Rattle.line_laws.proofs.EndsLaws.{cut_joined}
use Rattle.parts.specs.Parts.{Part, bytes_in, past_of, through_of}
use Rattle.parts.specs.PartsLaws.{bytes_in_append, lines_past}
use Rattle.parts_laws.specs.Holds.{AtPlaces}
use Rattle.parts_laws.specs.Text.{lines_of, Cut}

joined_append : (a b : List (List ℕ)) (r : List ℕ) → joined (a ++ b) r ≡ joined a [] ++ joined b r
unfolding joined
joined_append [] b r = refl
joined_append (l ∷ a) b r = rw (joined_append a b r, append_assoc) refl

pub joined_length : (a : List (List ℕ)) → length (joined a []) ≡ bytes_in a
unfolding joined bytes_in
joined_length [] = refl
joined_length (l ∷ a) = length-append l (10 ∷ joined a []) ∙ rw (joined_length a) (omega arith)

lines_first : (p : Part) (after : List (List ℕ)) → p.opening ∷ p.number ∷ (p.body ++ (p.closing ∷ after)) ≡ lines_of p ++ after
lines_first p after = ap (λ (x : List (List ℕ)). p.opening ∷ p.number ∷ x) (sym (append_assoc p.body (p.closing ∷ []) after))

first_cut : (n at : ℕ) (p : Part) (before after : List (List ℕ)) → p.lines ≡ n + length before → p.bytes ≡ at + bytes_in before
    → Cut n at p (before ++ (p.opening ∷ p.number ∷ (p.body ++ (p.closing ∷ after))))
first_cut n at p before after l b = record { before = before; after = after; whole = ap (◌++◌ before) (lines_first p after); bytes = b; lines = l }

later_cut : (n at : ℕ) (q p : Part) (before after : List (List ℕ)) → q.lines ≡ n + length before → q.bytes ≡ at + bytes_in before
    → Cut (through_of q) (past_of q) p after → Cut n at p (before ++ (q.opening ∷ q.number ∷ (q.body ++ (q.closing ∷ after))))
unfolding through_of past_of
later_cut n at q p before after l b c =
    record {
      before = before ++ (lines_of q ++ c.before);
      after = c.after;
      whole =
          ap (◌++◌ before) (lines_first q after)
          ∙ ap (λ (x : List (List ℕ)). before ++ (lines_of q ++ x)) c.whole
          ∙ ap (◌++◌ before) (sym (append_assoc (lines_of q) c.before (lines_of p ++ c.after)))
          ∙ sym (append_assoc before (lines_of q ++ c.before) (lines_of p ++ c.after));
      bytes = rw (bytes_in_append before (lines_of q ++ c.before), bytes_in_append (lines_of q) c.before) (omega (arith, c.bytes));
      lines = rw (length-append before (lines_of q ++ c.before), length-append (lines_of q) c.before) (omega (arith, c.lines));
    }

-- where set k stands
pub stand_cut : {n at : ℕ} {ss : List Set} {ps : List Part} {ls : List (List ℕ)} (k : ℕ) (p : Part) (qs : List Part) → AtPlaces n at ss ps ls → drop k ps ≡ p ∷ qs → Cut n at p ls
stand_cut zero p qs (AtPlaces.end b) e = let z : 0 ≡ suc (length qs) = ap length e in absurd (omega arith)
stand_cut (suc k) p qs (AtPlaces.end b) e = let z : 0 ≡ suc (length qs) = ap length e in absurd (omega arith)
stand_cut {n} {at} zero p qs (AtPlaces.more {p = q} before after b l c h r) e =
    let z : q ≡ p = cc in
    subst (λ (x : Part). Cut n at x (before ++ (q.opening ∷ q.number ∷ (q.body ++ (q.closing ∷ after))))) z (first_cut n at q before after l c)
stand_cut {n} {at} (suc k) p qs (AtPlaces.more {p = q} before after b l c h r) e = later_cut n at q p before after l c (stand_cut {n = through_of q} {at = past_of q} k p qs r e)

-- the bytes of set k
pub part_bytes : {ss : List Set} (bytes : List ℕ) {ps : List Part} (k : ℕ) (p : Part) (qs : List Part) → AtPlaces 0 0 ss ps (cut bytes).lines → drop k ps ≡ p ∷ qs
    → take (past_of p - p.bytes) (drop p.bytes bytes) ≡ joined (lines_of p) []
unfolding past_of
part_bytes bytes k p qs s e =
    let c = stand_cut k p qs s e in
    let t : bytes ≡ joined c.before [] ++ (joined (lines_of p) [] ++ joined c.after (cut bytes).rest)
    = sym (cut_joined bytes) ∙ ap (λ (x : List (List ℕ)). joined x (cut bytes).rest) c.whole
    ∙ joined_append c.before (lines_of p ++ c.after) (cut bytes).rest ∙ rw (joined_append (lines_of p) c.after (cut bytes).rest) refl in
    let a : length (joined c.before []) ≡ p.bytes = joined_length c.before ∙ omega (arith, c.bytes) in
    let d : drop p.bytes bytes ≡ joined (lines_of p) [] ++ joined c.after (cut bytes).rest
    = ap (drop p.bytes) t ∙ drop_at (joined c.before []) (joined (lines_of p) [] ++ joined c.after (cut bytes).rest) p.bytes a in
    let w : length (joined (lines_of p) []) ≡ (p.bytes + bytes_in (lines_of p)) - p.bytes = joined_length (lines_of p) ∙ omega arith in
    rw d (take_at (joined (lines_of p) []) (joined c.after (cut bytes).rest) ((p.bytes + bytes_in (lines_of p)) - p.bytes) w)

-- the first lines of a text, by their bytes, are cut into themselves
abbrev Firsts : List ℕ → Type 0
Firsts f = (a b : List (List ℕ)) → (cut f).lines ≡ a ++ b → cut (take (bytes_in a) f) ≡ text a []

firsts_onto : (x : ℕ) (f : List ℕ) (ls a b : List (List ℕ)) → eqb x 10 ≡ false → (cut f).lines ≡ ls → Firsts f → (onto x ls (cut f).rest).lines ≡ a ++ b
    → cut (take (bytes_in a) (x ∷ f)) ≡ text a []
unfolding cut bytes_in
firsts_onto x f ls [] b e q h g = refl
firsts_onto x f [] (l ∷ a) b e q h g = let z : 0 ≡ suc (length (a ++ b)) = ap length g in absurd (omega arith)
firsts_onto x f (m ∷ ms) (l ∷ a) b e q h g =
    let u : l ≡ x ∷ m = cc in
    let v : ms ≡ a ++ b = cc in
    let z : suc (suc (length m)) + bytes_in a ≡ suc (suc (length m) + bytes_in a) = omega arith in
    rw (u, z) (rw (e, h (m ∷ a) b (q ∙ ap (◌∷◌ m) v)) refl)

firsts_case : (x : ℕ) (f : List ℕ) (t : Bool) → eqb x 10 ≡ t → Firsts f → (a b : List (List ℕ))
    → (pick t (text ([] ∷ (cut f).lines) (cut f).rest) (onto x (cut f).lines (cut f).rest)).lines ≡ a ++ b → cut (take (bytes_in a) (x ∷ f)) ≡ text a []
unfolding cut bytes_in
firsts_case x f true e h [] b g = refl
firsts_case x f true e h (l ∷ a) b g =
    let u : l ≡ [] = cc in
    let v : (cut f).lines ≡ a ++ b = cc in
    let z : 1 + bytes_in a ≡ suc (bytes_in a) = omega arith in
    rw (u, z) (rw (e, h a b v) refl)
firsts_case x f false e h a b g = firsts_onto x f (cut f).lines a b e refl h g

firsts : (f : List ℕ) → Firsts f
unfolding cut bytes_in
firsts [] [] b g = refl
firsts [] (l ∷ a) b g = let z : 0 ≡ suc (length (a ++ b)) = ap length g in absurd (omega arith)
firsts (x ∷ f) a b g = firsts_case x f (eqb x 10) refl (firsts f) a b g

-- the bytes of set k are cut into its lines
pub part_cut : {ss : List Set} (bytes : List ℕ) {ps : List Part} (k : ℕ) (p : Part) (qs : List Part) → AtPlaces 0 0 ss ps (cut bytes).lines → drop k ps ≡ p ∷ qs
    → cut (take (past_of p - p.bytes) (drop p.bytes bytes)) ≡ text (lines_of p) []
unfolding past_of
part_cut bytes k p qs s e =
    let c = stand_cut k p qs s e in
    let x = lines_past bytes 0 c.before (lines_of p ++ c.after) (omega arith) c.whole in
    let b : 0 + bytes_in c.before ≡ p.bytes = sym c.bytes in
    let w : (p.bytes + bytes_in (lines_of p)) - p.bytes ≡ bytes_in (lines_of p) = omega arith in
    rw w (firsts (drop p.bytes bytes) (lines_of p) c.after (rw b at x.lines))
