-- Lines skipped by their LFs: a block at once, a line at once, and where the lines of a set begin.
use Rattle.std.specs.Prelude.{◌≡◌, Bool, true, false, eqb, take, drop}
use Rattle.std.proofs.Math.Path.{refl, sym}
use Rattle.std.proofs.Common.{ap, ◌∙◌, zero-add, add-one, length-drop, drop-drop, take_all}
use mathlib.Core.List.{List, [], ◌∷◌, ◌++◌, append_assoc}
use Prim.Native.Nat.{ℕ, zero, suc, ◌+◌, ◌-◌, ◌≤◌, ◌<◌}
use native.Mathlib.Omega.{arith}
use Rattle.std.proofs.Math.ListN.{length, length-append}
use Rattle.std.proofs.Math.Seq.{take_at}
use Rattle.std.proofs.lemmas.List.{take-append-le}
use Rattle.laws.specs.Choice.{pick}
use Rattle.laws.specs.Cut.{text, cut, onto, line_len}
use Rattle.line.specs.LineLaws.{line_len_most}
use Rattle.parts.specs.Parts.{bytes_in, Part, line_start, closing_start, past_of}
use Rattle.parts.specs.Set.{Standing}
use Rattle.parts.specs.SetLaws.{start_sum, line_ended}
use Rattle.parts.specs.Mark.{ends_in}
use Rattle.parts.specs.Skip.{past_ends, Skipped}

pub past_none : (k : ℕ) → past_ends k [] ≡ 0
unfolding past_ends
past_none zero = refl
past_none (suc k) = refl

pub past_most : (k : ℕ) (l : List ℕ) → past_ends k l ≤ length l
unfolding past_ends
past_most zero l = omega arith
past_most (suc k) [] = omega arith
past_most (suc k) (b ∷ l) = by (eqb b 10) (past_most k l) (past_most (suc k) l)
  where
    by : (t : Bool) → past_ends k l ≤ length l → past_ends (suc k) l ≤ length l → suc (pick t (past_ends k l) (past_ends (suc k) l)) ≤ suc (length l)
    by true g h = omega arith
    by false g h = omega arith

-- m bytes that hold fewer LFs
past_block : (m k : ℕ) (l : List ℕ) → m ≤ length l → ends_in (take m l) < k → past_ends k l ≡ m + past_ends (k - ends_in (take m l)) (drop m l)
unfolding past_ends ends_in
past_block zero k l h e = let z : k - 0 ≡ k = omega arith in rw z (omega arith)
past_block (suc m) k [] h e = absurd (omega arith)
past_block (suc m) zero (b ∷ l) h e = absurd (omega arith)
past_block (suc m) (suc k) (b ∷ l) h e = by (eqb b 10) e (past_block m k l (omega arith)) (past_block m (suc k) l (omega arith))
  where
    by : (t : Bool) → pick t (suc (ends_in (take m l))) (ends_in (take m l)) < suc k
        → (ends_in (take m l) < k → past_ends k l ≡ m + past_ends (k - ends_in (take m l)) (drop m l))
        → (ends_in (take m l) < suc k → past_ends (suc k) l ≡ m + past_ends (suc k - ends_in (take m l)) (drop m l))
        → suc (pick t (past_ends k l) (past_ends (suc k) l)) ≡ suc m + past_ends (suc k - pick t (suc (ends_in (take m l))) (ends_in (take m l))) (drop m l)
    by true e g h =
        let z : suc k - suc (ends_in (take m l)) ≡ k - ends_in (take m l) = omega arith in
        rw z (omega (arith, g (omega arith)))
    by false e g h = omega (arith, h e)

-- the line that begins the bytes, and bytes that are none
pub past_line : (k : ℕ) (l : List ℕ) → line_len l < length l → past_ends (suc k) l ≡ suc (line_len l) + past_ends k (drop (line_len l + 1) l)
unfolding past_ends line_len
past_line k [] h = absurd (omega arith)
past_line k (b ∷ l) h = by (eqb b 10) h (past_line k l)
  where
    by : (t : Bool) → pick t 0 (suc (line_len l)) < suc (length l) → (line_len l < length l → past_ends (suc k) l ≡ suc (line_len l) + past_ends k (drop (line_len l + 1) l))
        → suc (pick t (past_ends k l) (past_ends (suc k) l)) ≡ suc (pick t 0 (suc (line_len l))) + past_ends k (drop (pick t 0 (suc (line_len l)) + 1) (b ∷ l))
    by true h ih = omega arith
    by false h ih =
        let z : drop (suc (line_len l) + 1) (b ∷ l) ≡ drop (line_len l + 1) l = rw (add-one, add-one) refl in
        rw z (omega (arith, ih (omega arith)))

pub past_open : (k : ℕ) (l : List ℕ) → length l ≤ line_len l → past_ends (suc k) l ≡ length l
unfolding past_ends line_len
past_open k [] h = refl
past_open k (b ∷ l) h = by (eqb b 10) h (past_open k l)
  where
    by : (t : Bool) → suc (length l) ≤ pick t 0 (suc (line_len l)) → (length l ≤ line_len l → past_ends (suc k) l ≡ length l)
        → suc (pick t (past_ends k l) (past_ends (suc k) l)) ≡ suc (length l)
    by true h ih = absurd (omega arith)
    by false h ih = ap suc (ih (omega arith))

-- i LFs and then k
past_further : (i k : ℕ) (l : List ℕ) → past_ends i l + past_ends k (drop (past_ends i l) l) ≡ past_ends (i + k) l
unfolding past_ends
past_further zero k l = rw (zero-add k) (zero-add (past_ends k l))
past_further (suc i) k [] = let z : suc i + k ≡ suc (i + k) = omega arith in rw z (omega (arith, past_none k))
past_further (suc i) k (b ∷ l) = let z : suc i + k ≡ suc (i + k) = omega arith in rw z (by (eqb b 10) (past_further i k l) (rw z at (past_further (suc i) k l)))
  where
    by : (t : Bool) → past_ends i l + past_ends k (drop (past_ends i l) l) ≡ past_ends (i + k) l
        → past_ends (suc i) l + past_ends k (drop (past_ends (suc i) l) l) ≡ past_ends (suc (i + k)) l
        → suc (pick t (past_ends i l) (past_ends (suc i) l)) + past_ends k (drop (pick t (past_ends i l) (past_ends (suc i) l)) l)
        ≡ suc (pick t (past_ends (i + k) l) (past_ends (suc (i + k)) l))
    by true g h = omega arith
    by false g h = omega arith

-- lines as the file is cut
pub past_lines : (k : ℕ) (l : List ℕ) → k ≤ length (cut l).lines → past_ends k l ≡ bytes_in (take k (cut l).lines)
unfolding past_ends cut bytes_in
past_lines zero l h = refl
past_lines (suc k) [] h = absurd (omega arith)
past_lines (suc k) (b ∷ l) h = by (eqb b 10) (cut l).lines refl h (past_lines k l) (past_lines (suc k) l)
  where
    by : (t : Bool) (ls : List (List ℕ)) → (cut l).lines ≡ ls
        → suc k ≤ length (pick t (text ([] ∷ ls) (cut l).rest) (onto b ls (cut l).rest)).lines
        → (k ≤ length (cut l).lines → past_ends k l ≡ bytes_in (take k (cut l).lines))
        → (suc k ≤ length (cut l).lines → past_ends (suc k) l ≡ bytes_in (take (suc k) (cut l).lines))
        → suc (pick t (past_ends k l) (past_ends (suc k) l)) ≡ bytes_in (take (suc k) (pick t (text ([] ∷ ls) (cut l).rest) (onto b ls (cut l).rest)).lines)
    by true ls e h f g =
        let q : past_ends k l ≡ bytes_in (take k ls) = f (rw e (omega arith)) ∙ rw e refl in
        omega arith
    by false [] e h f g = absurd (omega arith)
    by false (x ∷ ls) e h f g =
        let q : past_ends (suc k) l ≡ bytes_in (take (suc k) (x ∷ ls)) = g (rw e h) ∙ rw e refl in
        omega arith

-- one block more, and one line more
module _ (f : List ℕ) (from k at left : ℕ) (s : Skipped f from k at left) where
  pub skipped_block : (m ends : ℕ) → at + m ≤ length f → ends ≡ ends_in (take m (drop at f)) → ends < left → Skipped f from k (at + m) (left - ends)
  skipped_block m ends h q l =
      let b = past_block m left (drop at f) (omega (arith, length-drop at f)) (rw q at l) in
      let c : past_ends left (drop at f) ≡ m + past_ends (left - ends) (drop (at + m) f) = b ∙ rw (q, drop-drop m at f) refl in
      record { within = omega arith; same = omega (arith, s.same) }

  pub skipped_line : (e : ℕ) → e ≡ at + line_len (drop at f) → 0 < left → e < length f → Skipped f from k (e + 1) (left - 1)
  skipped_line e q l h =
      let z : suc (left - 1) ≡ left = omega arith in
      let y : at + (line_len (drop at f) + 1) ≡ e + 1 = omega arith in
      let b = past_line (left - 1) (drop at f) (omega (arith, length-drop at f)) in
      let d : drop (line_len (drop at f) + 1) (drop at f) ≡ drop (e + 1) f = rw (drop-drop (line_len (drop at f) + 1) at f, y) refl in
      let c : past_ends left (drop at f) ≡ suc (line_len (drop at f)) + past_ends (left - 1) (drop (e + 1) f) = ap (λ (x : ℕ). past_ends x (drop at f)) (sym z) ∙ b ∙ rw d refl in
      record { within = omega arith; same = omega (arith, s.same) }

  pub skipped_open : (e : ℕ) → e ≡ at + line_len (drop at f) → 0 < left → length f ≤ e → (e ≡ from + past_ends k (drop from f)) × (e ≤ length f)
  skipped_open e q l h =
      let z : suc (left - 1) ≡ left = omega arith in
      let b : past_ends left (drop at f) ≡ length (drop at f) = ap (λ (x : ℕ). past_ends x (drop at f)) (sym z) ∙ past_open (left - 1) (drop at f) (omega (arith, length-drop at f)) in
      let m : e ≤ length f = omega (arith, s.within, line_len_most (drop at f), length-drop at f) in
      (omega (arith, s.same, s.within, length-drop at f), m)

  pub skipped_done : left ≤ 0 → at ≡ from + past_ends k (drop from f)
  unfolding past_ends
  skipped_done h = let z : left ≡ 0 = omega arith in let c : at + 0 ≡ from + past_ends k (drop from f) = rw z at s.same in omega arith

pub skipped_start : (f : List ℕ) (from k : ℕ) → from ≤ length f → Skipped f from k from k
skipped_start f from k h = record { within = h; same = refl }

closing_start_lem : (p : Part) → line_start p (length p.body) ≡ closing_start p
unfolding line_start closing_start
closing_start_lem p = rw (take_all (length p.body) p.body (omega arith)) refl

-- Where the lines of a set begin, by the LFs from its first on.

abbrev pub line_byte : List ℕ → Part → ℕ → ℕ
line_byte file p k = line_start p 0 + past_ends k (drop (line_start p 0) file)

pub byte_further : (file : List ℕ) (p : Part) (i k x y : ℕ) → x ≡ line_byte file p i → y ≡ x + past_ends k (drop x file) → y ≡ line_byte file p (i + k)
byte_further file p i k x y e q =
    let l : List ℕ = drop (line_start p 0) file in
    let d : drop x file ≡ drop (past_ends i l) l = ap (λ (z : ℕ). drop z file) e ∙ sym (drop-drop (past_ends i l) (line_start p 0) file) in
    let y' : y ≡ x + past_ends k (drop (past_ends i l) l) = q ∙ rw d refl in
    omega (arith, past_further i k l)

module _ (file : List ℕ) (n at : ℕ) (p : Part) (ps : List Part) (s : Standing file n at p ps) where
  pub byte_start : (k : ℕ) → k ≤ length p.body → line_byte file p k ≡ line_start p k
  byte_start k h =
      let l : length (p.body ++ (p.closing ∷ s.more)) ≡ length p.body + suc (length s.more) = length-append p.body (p.closing ∷ s.more) in
      let b = past_lines k (drop (line_start p 0) file) (rw s.own (omega arith)) in
      let c : past_ends k (drop (line_start p 0) file) ≡ bytes_in (take k p.body) = b ∙ rw (s.own, take-append-le k p.body (p.closing ∷ s.more) h) refl in
      omega (arith, start_sum file n at p ps s k)

  pub byte_closing : line_byte file p (length p.body) ≡ closing_start p
  byte_closing = byte_start (length p.body) (omega arith) ∙ closing_start_lem p

  pub byte_past : line_byte file p (length p.body + 1) ≡ past_of p
  unfolding past_of line_start bytes_in
  byte_past =
      let whole : List (List ℕ) = p.body ++ (p.closing ∷ []) in
      let w : p.body ++ (p.closing ∷ s.more) ≡ whole ++ s.more = sym (append_assoc p.body (p.closing ∷ []) s.more) in
      let l : length whole ≡ length p.body + 1 = length-append p.body (p.closing ∷ []) in
      let m : length (whole ++ s.more) ≡ length whole + length s.more = length-append whole s.more in
      let b = past_lines (length p.body + 1) (drop (line_start p 0) file) (rw (s.own, w) (omega arith)) in
      let c : past_ends (length p.body + 1) (drop (line_start p 0) file) ≡ bytes_in whole = b ∙ rw (s.own, w, take_at whole s.more (length p.body + 1) l) refl in
      omega arith

  -- past a line
  pub byte_line : (k x e : ℕ) → k < length p.body → x ≡ line_byte file p k → e ≡ x + line_len (drop x file) → e + 1 ≡ line_byte file p (k + 1)
  unfolding past_ends
  byte_line k x e h q r =
      let z : x ≡ line_start p k = q ∙ byte_start k (omega arith) in
      let l : line_len (drop x file) < length (drop x file) = rw z (line_ended file n at p ps s k h) in
      let b : past_ends 1 (drop x file) ≡ suc (line_len (drop x file)) + 0 = past_line 0 (drop x file) l in
      byte_further file p k 1 x (e + 1) q (omega arith)
