-- The parts of a file, line by line and set by set.
use Rattle.std.specs.Prelude.{◌≡◌, refl, List, [], ◌∷◌, ◌++◌, ℕ, suc, ◌+◌, ◌-◌, ◌≤◌, ◌<◌, length, take, drop}
use Rattle.std.proofs.Common.{sym, ap, ◌∙◌, ⊎_elim, add-zero, arith, length-drop, length-take-le, drop-drop}
use Rattle.laws.specs.ChoiceLaws.{below_or_not}
use Rattle.laws.specs.Cut.{cut, line_len, Text}
use Rattle.laws.specs.CutLaws.{cut_line, cut_open}
use Rattle.parts.specs.Parts.{bytes_in, Past}

-- bytes of lines in two parts
pub bytes_in_append : (a b : List (List ℕ)) → bytes_in (a ++ b) ≡ bytes_in a + bytes_in b
unfolding bytes_in
bytes_in_append [] b = omega arith
bytes_in_append (l ∷ a) b = rw (bytes_in_append a b) (omega arith)

-- the lines of a file from the byte at on: one that ends at e, or none
module _ (f : List ℕ) (at e : ℕ) (a : at ≤ length f) (q : e ≡ at + line_len (drop at f)) where
  pub lines_at_lem : e < length f → (cut (drop at f)).lines ≡ take (e - at) (drop at f) ∷ (cut (drop (e + 1) f)).lines
  lines_at_lem h =
      let n : line_len (drop at f) ≡ e - at = omega arith in
      let m : line_len (drop at f) < length (drop at f) = simp length-drop (omega arith) in
      let k : at + (line_len (drop at f) + 1) ≡ e + 1 = omega arith in
      ap (λ (t : Text). t.lines) (cut_line (drop at f) m) ∙ rw (drop-drop, k, n) refl

  pub line_length : e < length f → at + suc (length (take (e - at) (drop at f))) ≡ e + 1
  line_length h =
      let m : e - at ≤ length (drop at f) = simp length-drop (omega arith) in
      rw (length-take-le (e - at) (drop at f) m) (omega arith)

  pub lines_end : length f ≤ e → (cut (drop at f)).lines ≡ []
  lines_end h = ap (λ (t : Text). t.lines) (cut_open (drop at f) (simp length-drop (omega arith)))

past_one : (f : List ℕ) (at : ℕ) (l : List ℕ) (pre post : List (List ℕ)) → at ≤ length f → (cut (drop at f)).lines ≡ l ∷ (pre ++ post)
    → ((b : ℕ) → b ≤ length f → (cut (drop b f)).lines ≡ pre ++ post → Past f b pre post) → Past f at (l ∷ pre) post
unfolding bytes_in
past_one f at l pre post a c ih = ⊎_elim here none (below_or_not (at + line_len (drop at f)) (length f))
  where
    here : at + line_len (drop at f) < length f → Past f at (l ∷ pre) post
    here h =
        let e : ℕ = at + line_len (drop at f) in
        let q : l ∷ (pre ++ post) ≡ take (e - at) (drop at f) ∷ (cut (drop (e + 1) f)).lines = sym c ∙ lines_at_lem f at e a refl h in
        let x : l ≡ take (e - at) (drop at f) = cc in
        let r : (cut (drop (e + 1) f)).lines ≡ pre ++ post = cc in
        let b : at + suc (length l) ≡ e + 1 = rw x (line_length f at e a refl h) in
        let s : Past f (e + 1) pre post = ih (e + 1) (omega arith) r in
        let z : at + (suc (length l) + bytes_in pre) ≡ (e + 1) + bytes_in pre = omega arith in
        record { within = rw z s.within; lines = rw z s.lines }

    none : length f ≤ at + line_len (drop at f) → Past f at (l ∷ pre) post
    none h =
        let q : l ∷ (pre ++ post) ≡ [] = sym c ∙ lines_end f at (at + line_len (drop at f)) a refl h in
        let z : suc (length (pre ++ post)) ≡ 0 = ap length q in
        absurd (omega arith)

pub lines_past : (f : List ℕ) (at : ℕ) (pre post : List (List ℕ)) → at ≤ length f → (cut (drop at f)).lines ≡ pre ++ post → Past f at pre post
unfolding bytes_in
lines_past f at [] post a c = record { within = omega arith; lines = rw add-zero c }
lines_past f at (l ∷ pre) post a c = past_one f at l pre post a c (λ b p q. lines_past f b pre post p q)
