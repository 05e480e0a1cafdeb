-- What is kept of the lines of a set, line by line.
use Rattle.std.specs.Prelude.{◌≡◌, Bool, leb, eqb, drop}
use Rattle.std.proofs.Math.Path.{refl, ap}
use Rattle.std.proofs.Common.{sym, ◌∙◌, ⊎_elim, length-append}
use Rattle.std.proofs.Math.Bool.{true, false}
use mathlib.Core.List.{List, [], ◌∷◌, ◌++◌, map, append_assoc, append-nil}
use Prim.Native.Nat.{ℕ, suc, ◌+◌, ◌-◌, ◌≤◌, ◌<◌, min}
use native.Mathlib.Omega.{arith}
use borrow.Author.Tests.{le-leb, lt-leb}
use Rattle.std.proofs.Math.ListN.{length, take, length-take, drop_of_length-le}
use Rattle.std.proofs.Math.Seq.{take-take, take_all, drop-cons}
use Rattle.laws.specs.Choice.{pick}
use Rattle.laws.specs.ChoiceLaws.{below_or_not}
use Rattle.laws.specs.Cut.{cut, line_len}
use Rattle.text.specs.Text.{trimmed}
use Rattle.text.proofs.TextLaws.{trimmed_take, trimmed_most}
use Rattle.line.specs.Line.{columns}
use Rattle.line.specs.LineLaws.{columns_take, columns_within, line_len_within}
use Rattle.parts.specs.Parts.{bytes_in, Part, line_start, last_line, last_start, closing_start}
use Rattle.parts.specs.PartsLaws.{lines_at_lem, line_length, lines_end, lines_past}
use Rattle.parts.specs.Set.{Standing}
use Rattle.parts.specs.SetLaws.{start_before, start_sum, split, line_text}
use Rattle.parts.specs.Function.{part_case, stored_of}
use Rattle.parts.specs.Padding.{counted_past}
use Rattle.parts.specs.declared.Counted.{Counted}
use Rattle.parts.specs.Counted.{declares, counts, counted_by}
use Rattle.output.specs.Output.{ended}
use Rattle.rewriter.specs.Rewriter.{kept_of, lines_text, cut_last, unpadded}
use Rattle.rewriter.specs.Body.{lines_to, lines_in, body_text, cut_text, last_text}

-- what is kept of a line is its first bytes
pub kept_of_most : (l : List ℕ) → length (kept_of l) ≤ length l
unfolding kept_of
kept_of_most l = omega (arith, trimmed_most (columns true l), columns_within true l)

kept_of_take : (l : List ℕ) → take (length (kept_of l)) l ≡ kept_of l
unfolding kept_of
kept_of_take l =
    let m : length (trimmed (columns true l)) ≤ length (columns true l) = trimmed_most (columns true l) in
    sym (take-take (length (trimmed (columns true l))) (length (columns true l)) l m)
    ∙ ap (take (length (trimmed (columns true l)))) (sym (columns_take true l)) ∙ trimmed_take (columns true l)

-- by its columns
pub kept_columns : (l : List ℕ) (n r : ℕ) → n ≡ length (columns true l) → r ≡ length (trimmed (take n l)) → r ≡ length (kept_of l)
unfolding kept_of
kept_columns l n r e q = q ∙ rw (e, ← columns_take true l) refl

-- of the line of a file from the byte at to the byte e
module _ (f : List ℕ) (at e k : ℕ) (q : k ≡ length (kept_of (take (e - at) (drop at f)))) where
  pub kept_within : k ≤ e - at
  kept_within = omega (arith, kept_of_most (take (e - at) (drop at f)), length-take (e - at) (drop at f))

  pub kept_part : take (at + k - at) (drop at f) ≡ kept_of (take (e - at) (drop at f))
  kept_part =
      let z : at + k - at ≡ k = omega arith in
      rw (z, ← take-take k (e - at) (drop at f) kept_within, q) (kept_of_take (take (e - at) (drop at f)))

-- a line of which only its first k bytes count
module _ (f : List ℕ) (at e k : ℕ) (q : e ≡ at + line_len (drop at f)) where
  pub cut_least : (n : ℕ) → n ≡ min k (e - at) → length (kept_of (take (at + n - at) (drop at f))) ≡ length (cut_text k at f)
  unfolding cut_text
  cut_least n h = ⊎_elim short whole (below_or_not k (e - at))
    where
      short : k < e - at → length (kept_of (take (at + n - at) (drop at f))) ≡ length (kept_of (take k (take (line_len (drop at f)) (drop at f))))
      short l =
          let z : at + n - at ≡ k = omega arith in
          rw (z, take-take k (line_len (drop at f)) (drop at f) (omega arith)) refl

      whole : e - at ≤ k → length (kept_of (take (at + n - at) (drop at f))) ≡ length (kept_of (take k (take (line_len (drop at f)) (drop at f))))
      whole l =
          let z : at + n - at ≡ line_len (drop at f) = omega arith in
          let m : length (take (line_len (drop at f)) (drop at f)) ≤ k = omega (arith, length-take (line_len (drop at f)) (drop at f)) in
          rw (z, take_all k (take (line_len (drop at f)) (drop at f)) m) refl

module _ (f : List ℕ) (at k r : ℕ) (a : at ≤ length f) (q : r ≡ length (cut_text k at f)) where
  cut_most : r ≤ length (take k (take (line_len (drop at f)) (drop at f)))
  unfolding cut_text
  cut_most = omega (arith, q, kept_of_most (take k (take (line_len (drop at f)) (drop at f))))

  cut_few : (r ≤ k) × (r ≤ line_len (drop at f))
  cut_few =
      let l = length-take k (take (line_len (drop at f)) (drop at f)) in
      let m = length-take (line_len (drop at f)) (drop at f) in
      (omega (arith, cut_most, l), omega (arith, cut_most, l, m))

  pub cut_within : at + r ≤ length f
  cut_within = omega (arith, a, cut_few.1, line_len_within f at a)

  pub cut_part : take (at + r - at) (drop at f) ≡ cut_text k at f
  unfolding cut_text
  cut_part =
      let z : at + r - at ≡ r = omega arith in
      let whole : List ℕ = take (line_len (drop at f)) (drop at f) in
      let short : take r (take k whole) ≡ take r (drop at f) = take-take r k whole cut_few.0 ∙ take-take r (line_len (drop at f)) (drop at f) cut_few.1 in
      rw z (sym short ∙ ap (λ (x : ℕ). take x (take k whole)) q ∙ kept_of_take (take k whole))

-- with its LF, by where the lines stop
module _ (f : List ℕ) (k stop at : ℕ) where
  pub last_stops : stop ≤ at → last_text k stop at f ≡ []
  unfolding last_text
  last_stops h = rw (le-leb stop at h) refl

  pub last_begins : at < stop → last_text k stop at f ≡ ended (cut_text k at f)
  unfolding last_text
  last_begins h = rw (lt-leb stop at h) refl

pub last_most : (f : List ℕ) (k stop at : ℕ) → at ≤ length f → length (last_text k stop at f) ≤ suc (length f)
last_most f k stop at a =
    ⊎_elim
    (λ (h : at < stop). rw (last_begins f k stop at h) (omega (arith, length-append (cut_text k at f) (10 ∷ []), cut_within f at k _ a refl)))
    (λ (h : stop ≤ at). rw (last_stops f k stop at h) (omega arith))
    (below_or_not at stop)

-- the lines of a file that begin before a byte: where they stop, at the end of the file, one line more
lines_to_stops : (stop at : ℕ) (ls : List (List ℕ)) → stop ≤ at → lines_to stop at ls ≡ []
unfolding lines_to
lines_to_stops stop at [] h = refl
lines_to_stops stop at (l ∷ ls) h = rw (le-leb stop at h) refl

module _ (stop : ℕ) (f : List ℕ) (at : ℕ) where
  pub body_stops : stop ≤ at → body_text stop at f ≡ []
  unfolding lines_in lines_text
  body_stops h = rw (lines_to_stops stop at (cut (drop at f)).lines h) refl

  pub body_ends : (e : ℕ) → at ≤ length f → e ≡ at + line_len (drop at f) → length f ≤ e → body_text stop at f ≡ []
  unfolding lines_in lines_to lines_text
  body_ends e a q h = rw (lines_end f at e a q h) refl

  pub body_line : (e : ℕ) → at < stop → at ≤ length f → e ≡ at + line_len (drop at f) → e < length f
      → body_text stop at f ≡ ended (kept_of (take (e - at) (drop at f))) ++ body_text stop (e + 1) f
  unfolding lines_in lines_to lines_text
  body_line e h a q l = rw (lines_at_lem f at e a q l, lt-leb stop at h, line_length f at e a q l) refl

  -- by the bytes that are kept of it
  pub body_kept : (e k : ℕ) → at < stop → at ≤ length f → e ≡ at + line_len (drop at f) → e < length f
      → k ≡ length (kept_of (take (e - at) (drop at f))) → body_text stop at f ≡ ended (take (at + k - at) (drop at f)) ++ body_text stop (e + 1) f
  body_kept e k h a q l c = rw (body_line e h a q l, kept_part f at e k c) refl

  pub body_line_length : (e k : ℕ) → at < stop → at ≤ length f → e ≡ at + line_len (drop at f) → e < length f
      → k ≡ length (kept_of (take (e - at) (drop at f))) → length (body_text stop at f) ≡ (k + 1) + length (body_text stop (e + 1) f)
  body_line_length e k h a q l c = rw (body_line e h a q l, c) (simp length-append (omega arith))

-- lines that begin before the byte past them
lines_to_front : (at : ℕ) (front rest : List (List ℕ)) → lines_to (at + bytes_in front) at (front ++ rest) ≡ front
unfolding lines_to bytes_in
lines_to_front at [] rest = lines_to_stops (at + 0) at rest (omega arith)
lines_to_front at (l ∷ front) rest =
    let z : at + (suc (length l) + bytes_in front) ≡ (at + suc (length l)) + bytes_in front = omega arith in
    let more : lines_to (at + (suc (length l) + bytes_in front)) (at + suc (length l)) (front ++ rest) ≡ front = rw z (lines_to_front (at + suc (length l)) front rest) in
    rw (z, lt-leb ((at + suc (length l)) + bytes_in front) at (omega arith)) (ap (λ (t : List (List ℕ)). l ∷ t) more)

closing_lines : (p : Part) → closing_start p ≡ line_start p 0 + bytes_in p.body
unfolding line_start closing_start bytes_in
closing_lines p = omega arith

last_closing : (p : Part) → length p.body ≤ last_line p → last_start p ≡ closing_start p
unfolding last_start line_start closing_start
last_closing p h = rw (take_all (last_line p) p.body h) refl

-- one line after the other
pub lines_text_append : (a b : List (List ℕ)) → lines_text (a ++ b) ≡ lines_text a ++ lines_text b
unfolding lines_text
lines_text_append [] b = refl
lines_text_append (l ∷ a) b = rw (lines_text_append a b) (sym (append_assoc (ended (kept_of l)) (lines_text a) (lines_text b)))

-- lines of which the last is cut: those before it, and it
cut_last_split : (k : ℕ) (ls : List (List ℕ)) → cut_last k ls ≡ take (length ls - 1) ls ++ map (take k) (drop (length ls - 1) ls)
unfolding cut_last
cut_last_split k [] = refl
cut_last_split k (l ∷ []) = refl
cut_last_split k (l ∷ m ∷ ls) =
    let z : suc (suc (length ls)) - 1 ≡ suc (length ls) = omega arith in
    let w : suc (length ls) - 1 ≡ length ls = omega arith in
    rw z (ap (◌∷◌ l) (rw w at (cut_last_split k (m ∷ ls))))

module _ (file : List ℕ) (n at : ℕ) (p : Part) (ps : List Part) (s : Standing file n at p ps) where
  -- the lines of a set are those that begin before its closing delimiter, or before its line k
  pub lines_own : lines_in (closing_start p) (line_start p 0) file ≡ p.body
  unfolding lines_in
  lines_own = rw (s.own, closing_lines p) (lines_to_front (line_start p 0) p.body (p.closing ∷ s.more))

  front_own : (k : ℕ) → lines_in (line_start p k) (line_start p 0) file ≡ take k p.body
  unfolding lines_in
  front_own k =
      rw (s.own ∙ split file n at p ps s k, ← start_sum file n at p ps s k)
      (lines_to_front (line_start p 0) (take k p.body) (drop k p.body ++ (p.closing ∷ s.more)))

  -- what is kept of its last line
  last_none : (k : ℕ) → length p.body ≤ last_line p → last_text k (closing_start p) (last_start p) file ≡ lines_text (map (take k) (drop (last_line p) p.body))
  unfolding last_text lines_text
  last_none k h = rw (last_closing p h, le-leb (closing_start p) (closing_start p) (omega arith), drop_of_length-le p.body h) refl

  last_line_lem : (k : ℕ) → last_line p < length p.body → last_text k (closing_start p) (last_start p) file ≡ lines_text (map (take k) (drop (last_line p) p.body))
  unfolding last_text cut_text lines_text last_start
  last_line_lem k h =
      let past : length p.body ≤ suc (last_line p) = omega arith in
      rw (
        lt-leb (closing_start p) (line_start p (last_line p)) (start_before file n at p ps s (last_line p) h),
        line_text file n at p ps s (last_line p) h,
        drop-cons p.body (last_line p) [] h,
        drop_of_length-le p.body past,
      ) (sym (append-nil _))

  -- what is kept of its lines, by the columns that count of the last
  kept_by : (k : ℕ) (t : Bool) → (c : Counted) → c ≡ pick t (counts (closing_start p) 0) (counts (last_start p) k)
      → body_text c.line (line_start p 0) file ++ last_text c.past (closing_start p) c.line file ≡ lines_text (pick t p.body (cut_last k p.body))
  unfolding last_text last_start
  kept_by k true c e = rw (e, lines_own, le-leb (closing_start p) (closing_start p) (omega arith)) (append-nil (lines_text p.body))
  kept_by k false c e = rw e (front_last ∙ ap lines_text (sym (cut_last_split k p.body)))
    where
      front_last : body_text (last_start p) (line_start p 0) file ++ last_text k (closing_start p) (last_start p) file
          ≡ lines_text (take (last_line p) p.body ++ map (take k) (drop (last_line p) p.body))
      front_last =
          rw (front_own (last_line p), lines_text_append)
          (ap (λ (x : List ℕ). lines_text (take (last_line p) p.body) ++ x) (⊎_elim (last_line_lem k) (last_none k) (below_or_not (last_line p) (length p.body))))

  pub kept_own : (c : Counted) → c ≡ counted_by (declares (part_case p) (stored_of p)) (last_start p) (closing_start p)
      → body_text c.line (line_start p 0) file ++ last_text c.past (closing_start p) c.line file ≡ lines_text (unpadded p)
  unfolding unpadded
  kept_own c e = kept_by (counted_past (part_case p) (stored_of p)) (eqb (stored_of p) 0) c e

-- what is kept is no longer than the lines
pub lines_text_most : (ls : List (List ℕ)) → length (lines_text ls) ≤ bytes_in ls
unfolding lines_text bytes_in
lines_text_most [] = omega arith
lines_text_most (l ∷ ls) =
    let a : length (kept_of l) ≤ length l = kept_of_most l in
    let b : length (lines_text ls) ≤ bytes_in ls = lines_text_most ls in
    simp length-append (omega arith)

-- nor than they were with padding
cut_last_most : (k : ℕ) (ls : List (List ℕ)) → bytes_in (cut_last k ls) ≤ bytes_in ls
unfolding cut_last bytes_in
cut_last_most k [] = omega arith
cut_last_most k (l ∷ []) = omega (arith, length-take k l)
cut_last_most k (l ∷ m ∷ ls) = let h : bytes_in (cut_last k (m ∷ ls)) ≤ bytes_in (m ∷ ls) = cut_last_most k (m ∷ ls) in omega arith

pub unpadded_most : (p : Part) → bytes_in (unpadded p) ≤ bytes_in p.body
unfolding unpadded
unpadded_most p = by (eqb (stored_of p) 0)
  where
    by : (t : Bool) → bytes_in (pick t p.body (cut_last (counted_past (part_case p) (stored_of p)) p.body)) ≤ bytes_in p.body
    by true = omega arith
    by false = cut_last_most (counted_past (part_case p) (stored_of p)) p.body

lines_to_most : (stop at : ℕ) (ls : List (List ℕ)) → bytes_in (lines_to stop at ls) ≤ bytes_in ls
unfolding lines_to bytes_in
lines_to_most stop at [] = omega arith
lines_to_most stop at (l ∷ ls) = by (leb stop at) (lines_to_most stop (at + suc (length l)) ls)
  where
    by : (t : Bool) → bytes_in (lines_to stop (at + suc (length l)) ls) ≤ bytes_in ls
        → bytes_in (pick t [] (l ∷ lines_to stop (at + suc (length l)) ls)) ≤ suc (length l) + bytes_in ls
    by true b = omega arith
    by false b = omega arith

pub body_most : (stop at : ℕ) (f : List ℕ) → at ≤ length f → at + length (body_text stop at f) ≤ length f
unfolding lines_in
body_most stop at f h =
    let x = lines_past f at (cut (drop at f)).lines [] h (sym (append-nil (cut (drop at f)).lines)) in
    omega (arith, x.within, lines_to_most stop at (cut (drop at f)).lines, lines_text_most (lines_to stop at (cut (drop at f)).lines))
