-- The first set of a file by its two delimiters, and where its last line begins.
use Rattle.std.specs.Prelude.{◌≡◌, Bool, true, false, Some, None, eqb, drop}
use Rattle.std.proofs.Math.Path.{refl, sym, ap}
use Rattle.std.proofs.Common.{subst, ◌∙◌, ⊎_elim, add-one, get_or-drop, length-take-le, take_all}
use mathlib.Core.List.{List, [], ◌∷◌, ◌++◌, append_assoc, append-nil}
use Prim.Native.Nat.{ℕ, zero, suc, ◌+◌, ◌-◌, ◌≤◌, ◌<◌}
use native.Mathlib.Omega.{arith}
use Rattle.std.proofs.lemmas.Bool.{eqb-false}
use Rattle.std.proofs.lemmas.Option.{none-some}
use Rattle.std.proofs.Math.ListN.{length, get_or, take, length-append}
use Rattle.std.proofs.Math.Seq.{take-suc}
use Rattle.laws.specs.Choice.{pick}
use Rattle.laws.specs.ChoiceLaws.{below_or_not}
use Rattle.laws.specs.Cut.{cut, line_len}
use Rattle.line.specs.LineLaws.{line_len_most}
use Rattle.delimiter.specs.Kind.{dataset_number}
use Rattle.parts.specs.declared.Mark.{Mark}
use Rattle.parts.specs.Parts.{columns_in, closes, bytes_in, Part, part, Past, outside, opened, inside, parts_from, dataset_of, line_start, last_start, closing_start, past_of, through_of}
use Rattle.parts.specs.PartsLaws.{bytes_in_append, lines_at_lem, line_length, lines_end, lines_past}
use Rattle.parts.specs.Scan.{extent, first_of}
use Rattle.parts.specs.Set.{remaining}
use Rattle.parts.specs.SetLaws.{line_len_end, line_ends, first_line, lines_bytes}
use Rattle.parts.specs.Mark.{mark, mark_from, marked, Marked, LastLine}

-- no delimiter: no set opens, and none is closed
record Unmarked (n at : ℕ) (ls : List (List ℕ)) : Type 0 where
  opens : parts_from outside n at ls ≡ []
  ends : (a b : ℕ) (o v : List ℕ) (bs : List (List ℕ)) → parts_from (inside a b o v bs) n at ls ≡ []

unmarked_by : (n at : ℕ) (l : List ℕ) (ls : List (List ℕ)) (t : Bool) → closes l ≡ t
    → None ≡ pick t (Some (mark n at (at + suc (length l)))) (mark_from (suc n) (at + suc (length l)) ls)
    → (None ≡ mark_from (suc n) (at + suc (length l)) ls → Unmarked (suc n) (at + suc (length l)) ls) → Unmarked n at (l ∷ ls)
unfolding parts_from
unmarked_by n at l ls true c e ih = absurd (none-some _ e)
unmarked_by n at l ls false c e ih =
    let r = ih e in
    record { opens = rw c r.opens; ends = λ a b o v bs. rw c (r.ends a b o v (bs ++ (l ∷ []))) }

unmarked : (n at : ℕ) (ls : List (List ℕ)) → None ≡ mark_from n at ls → Unmarked n at ls
unfolding parts_from mark_from
unmarked n at [] e = record { opens = refl; ends = λ a b o v bs. refl }
unmarked n at (l ∷ ls) e = unmarked_by n at l ls (closes l) refl e (unmarked (suc n) (at + suc (length l)) ls)

-- a delimiter
marked_by : (n at : ℕ) (l : List ℕ) (ls : List (List ℕ)) (m : Mark) (t : Bool) → closes l ≡ t
    → Some m ≡ pick t (Some (mark n at (at + suc (length l)))) (mark_from (suc n) (at + suc (length l)) ls)
    → (Some m ≡ mark_from (suc n) (at + suc (length l)) ls → Marked (suc n) (at + suc (length l)) ls m) → Marked n at (l ∷ ls) m
unfolding parts_from bytes_in
marked_by n at l ls m true c e ih =
    let same : m ≡ mark n at (at + suc (length l)) = cc in
    let x : m.lines ≡ n = ap (λ (y : Mark). y.lines) same in
    let y : m.at ≡ at = ap (λ (y : Mark). y.at) same in
    let z : m.past ≡ at + suc (length l) = ap (λ (y : Mark). y.past) same in
    record {
      before = [];
      line = l;
      after = ls;
      lines = refl;
      count = omega arith;
      bytes = omega arith;
      past = omega arith;
      opens = rw (c, x, y, z, add-one n) refl;
      ends = λ a b o v bs. rw (c, x, z, add-one n, append-nil bs) refl;
    }
marked_by n at l ls m false c e ih =
    let r = ih e in
    record {
      before = l ∷ r.before;
      line = r.line;
      after = r.after;
      lines = ap (◌∷◌ l) r.lines;
      count = omega (arith, r.count);
      bytes = omega (arith, r.bytes);
      past = omega (arith, r.past);
      opens = rw c r.opens;
      ends = λ a b o v bs. rw c (r.ends a b o v (bs ++ (l ∷ [])) ∙ rw (append_assoc bs (l ∷ []) r.before) refl);
    }

pub marked_found : (n at : ℕ) (ls : List (List ℕ)) (m : Mark) → Some m ≡ mark_from n at ls → Marked n at ls m
unfolding mark_from
marked_found n at [] m e = absurd (none-some _ (sym e))
marked_found n at (l ∷ ls) m e = marked_by n at l ls m (closes l) refl e (marked_found (suc n) (at + suc (length l)) ls m)

-- no byte of a line is an LF
before_end : (l : List ℕ) (k : ℕ) → k < line_len l → get_or l k 0 ≡ 10 → ⊥
unfolding line_len
before_end [] k h e = omega arith
before_end (b ∷ l) k h e = by (eqb b 10) refl k h e (before_end l)
  where
    by : (t : Bool) → eqb b 10 ≡ t → (k : ℕ) → k < pick t 0 (suc (line_len l)) → get_or (b ∷ l) k 0 ≡ 10 → ((j : ℕ) → j < line_len l → get_or l j 0 ≡ 10 → ⊥) → ⊥
    by true q k h e ih = omega arith
    by false q zero h e ih = eqb-false b 10 q e
    by false q (suc k) h e ih = ih k (omega arith) e

some_lines : (ls : List (List ℕ)) → 0 < bytes_in ls → 0 < length ls
unfolding bytes_in
some_lines [] h = absurd (omega arith)
some_lines (l ∷ ls) h = omega arith

module _ (f : List ℕ) where
  -- a line begins after an LF
  after_lf : (from : ℕ) (pre post : List (List ℕ)) → from ≤ length f → (cut (drop from f)).lines ≡ pre ++ post → 0 < length pre → get_or f (from + bytes_in pre - 1) 0 ≡ 10
  unfolding bytes_in
  after_lf from [] post w c h = absurd (omega arith)
  after_lf from (l ∷ []) post w c h =
      let t : take (line_len (drop from f)) (drop from f) ≡ l = first_line f from l post w c in
      let n : line_len (drop from f) ≡ length l = sym (length-take-le _ (drop from f) (line_len_most (drop from f))) ∙ ap length t in
      let z : from + (suc (length l) + 0) - 1 ≡ from + line_len (drop from f) = omega arith in
      rw z (sym (get_or-drop from f (line_len (drop from f)) 0) ∙ line_len_end (drop from f) (line_ends f from l post w c))
  after_lf from (l ∷ k ∷ pre) post w c h =
      let p : Past f from (l ∷ []) ((k ∷ pre) ++ post) = lines_past f from (l ∷ []) ((k ∷ pre) ++ post) w c in
      let b : from + bytes_in (l ∷ []) ≡ from + suc (length l) = omega arith in
      let z : from + (suc (length l) + bytes_in (k ∷ pre)) ≡ (from + suc (length l)) + bytes_in (k ∷ pre) = omega arith in
      rw z (after_lf (from + suc (length l)) (k ∷ pre) post (rw b at p.within) (rw b at p.lines) (omega arith))

  module _ (from at closing : ℕ) (w : from ≤ length f) (g : LastLine f from closing at) where
    -- the last line is the one from there on
    last_from : (pre : List (List ℕ)) (l : List ℕ) (post : List (List ℕ)) → (cut (drop from f)).lines ≡ pre ++ (l ∷ post)
        → closing ≡ from + bytes_in pre + suc (length l) → at ≡ from + bytes_in pre
    last_from pre l post c e =
        let q : Past f from pre (l ∷ post) = lines_past f from pre (l ∷ post) w c in
        let s : ℕ = from + bytes_in pre in
        let t : take (line_len (drop s f)) (drop s f) ≡ l = first_line f s l post q.within q.lines in
        let n : line_len (drop s f) ≡ length l = sym (length-take-le _ (drop s f) (line_len_most (drop s f))) ∙ ap length t in
        let b : at < closing = g.before (omega arith) in
        ⊎_elim
        (λ (h : at < s). let k : 0 < length pre = some_lines pre (omega (arith, g.onward)) in
        absurd (g.whole (s - 1) (omega arith) (omega arith) (after_lf from pre (l ∷ post) w c k)))
        (λ (h : s ≤ at).
        ⊎_elim
        (λ (j : s < at). let z : s + (at - 1 - s) ≡ at - 1 = omega arith in
        let x : get_or (drop s f) (at - 1 - s) 0 ≡ 10 = get_or-drop s f (at - 1 - s) 0 ∙ rw z (g.starts (omega arith)) in
        absurd (before_end (drop s f) (at - 1 - s) (omega arith) x))
        (λ (j : at ≤ s). omega arith)
        (below_or_not s at))
        (below_or_not at s)

    pub last_own : (pre post : List (List ℕ)) → (cut (drop from f)).lines ≡ pre ++ post → closing ≡ from + bytes_in pre
        → at ≡ from + bytes_in (take (length pre - 1) pre)
    unfolding bytes_in
    last_own [] post c e = g.none (omega arith) ∙ omega arith
    last_own (k ∷ ls) post c e =
        let pre : List (List ℕ) = k ∷ ls in
        let q : List (List ℕ) = take (length ls) pre in
        let l : List ℕ = get_or pre (length ls) [] in
        let z : length pre - 1 ≡ length ls = omega arith in
        let d : pre ≡ q ++ (l ∷ []) = sym (take_all (suc (length ls)) pre (omega arith)) ∙ take-suc pre (length ls) [] (omega arith) in
        let b : bytes_in pre ≡ bytes_in q + suc (length l) = ap bytes_in d ∙ bytes_in_append q (l ∷ []) ∙ omega arith in
        rw z (last_from q l post (c ∙ ap (λ (x : List (List ℕ)). x ++ post) d ∙ append_assoc q (l ∷ []) post) (omega arith))

-- a set that is not closed, or not opened, is none
none_first : (ps : List Part) → ps ≡ [] → None ≡ first_of ps
unfolding first_of
none_first ps e = rw e refl

-- a delimiter of a file is within it
pub record Fits (f : List ℕ) (at : ℕ) (m : Mark) : Type 0 where
  pub lines : m.lines ≤ m.at
  pub onward : at ≤ m.at
  pub later : m.at < m.past
  pub within : m.past ≤ length f

mark_past : (n at : ℕ) (ls : List (List ℕ)) (m : Mark) (k : Marked n at ls m) → m.past ≡ m.at + suc (length k.line)
unfolding bytes_in
mark_past n at ls m k = omega (arith, k.past, k.bytes, bytes_in_append k.before (k.line ∷ []))

module _ (f : List ℕ) (n at : ℕ) (m : Mark) (a : at ≤ length f) where
  past_mark : (k : Marked n at (cut (drop at f)).lines m) → Past f at (k.before ++ (k.line ∷ [])) k.after
  past_mark k = lines_past f at _ _ a (k.lines ∙ sym (append_assoc k.before (k.line ∷ []) k.after))

  mark_fits : n ≤ at → Marked n at (cut (drop at f)).lines m → Fits f at m
  mark_fits few k = record {
    lines = omega (arith, k.count, k.bytes, lines_bytes k.before);
    onward = omega (arith, k.bytes);
    later = omega (arith, mark_past n at _ m k);
    within = omega (arith, k.past, (past_mark k).within);
  }

-- a set by its delimiters m and c and the LF of its number line, which is the byte e
pub record Bounds (f : List ℕ) (m : Mark) (e : ℕ) (c : Mark) (p : Part) : Type 0 where
  pub lines : m.lines ≡ p.lines
  pub first : m.at ≡ p.bytes
  pub number : dataset_number (columns_in (take (e - m.past) (drop m.past f))) ≡ dataset_of p
  pub body : e + 1 ≡ line_start p 0
  pub closing : c.at ≡ closing_start p
  pub past : c.past ≡ past_of p
  pub through : c.lines + 1 ≡ through_of p

-- where a set stands, by its numbers
extent_of : (p : Part) (ps : List Part) (v b l c e t : ℕ) → v ≡ dataset_of p → b ≡ line_start p 0 → l ≡ last_start p → c ≡ closing_start p → e ≡ past_of p → t ≡ through_of p
    → Some (extent p.lines p.bytes v b l c e t) ≡ first_of (p ∷ ps)
unfolding first_of
extent_of p ps v b l c e t q r w x y z = rw (q, r, w, x, y, z) refl

module _ (f : List ℕ) (n at : ℕ) (a : at ≤ length f) (few : n ≤ at) where
  pub never_opened : None ≡ marked f n at → None ≡ first_of (remaining f n at)
  never_opened q = none_first _ (unmarked n at _ q).opens

  module _ (m : Mark) (q : Some m ≡ marked f n at) where
    abbrev opening : Marked n at (cut (drop at f)).lines m
    opening = marked_found n at (cut (drop at f)).lines m q

    past_at : m.past ≡ m.at + suc (length opening.line)
    past_at = mark_past n at _ m opening

    after_it : (cut (drop m.past f)).lines ≡ opening.after
    after_it = ap (λ (x : ℕ). (cut (drop x f)).lines) opening.past ∙ (past_mark f n at m a opening).lines

    pub fits : Fits f at m
    fits = mark_fits f n at m a few opening

    -- no number line, or one up to the byte e
    module _ (e : ℕ) (r : e ≡ m.past + line_len (drop m.past f)) where
      pub never_numbered : length f ≤ e → None ≡ first_of (remaining f n at)
      unfolding parts_from
      never_numbered k =
          let z : opening.after ≡ [] = sym after_it ∙ lines_end f m.past e fits.within r k in
          none_first _ (opening.opens ∙ ap (λ (x : List (List ℕ)). parts_from (opened m.lines m.at opening.line) (m.lines + 1) m.past x) z)

      module _ (k : e < length f) where
        abbrev number : List ℕ
        number = take (e - m.past) (drop m.past f)

        number_at : opening.after ≡ number ∷ (cut (drop (e + 1) f)).lines
        number_at = sym after_it ∙ lines_at_lem f m.past e fits.within r k

        number_past : m.past + suc (length number) ≡ e + 1
        number_past = line_length f m.past e fits.within r k

        inside_it : remaining f n at ≡ parts_from (inside m.lines m.at opening.line number []) (m.lines + 2) (e + 1) (cut (drop (e + 1) f)).lines
        unfolding parts_from
        inside_it =
            let z : suc (m.lines + 1) ≡ m.lines + 2 = omega arith in
            opening.opens
            ∙ ap (λ (x : List (List ℕ)). parts_from (opened m.lines m.at opening.line) (m.lines + 1) m.past x) number_at
            ∙ rw (number_past, z) refl

        pub never_closed : None ≡ marked f (m.lines + 2) (e + 1) → None ≡ first_of (remaining f n at)
        never_closed s = none_first _ (inside_it ∙ (unmarked (m.lines + 2) (e + 1) _ s).ends m.lines m.at opening.line number [])

        module _ (c : Mark) (s : Some c ≡ marked f (m.lines + 2) (e + 1)) where
          pub closing_fits : Fits f (e + 1) c
          closing_fits =
              let o = fits in
              mark_fits f (m.lines + 2) (e + 1) c (omega arith) (omega (arith, o.lines, o.later)) (marked_found (m.lines + 2) (e + 1) _ c s)

          abbrev closing : Marked (m.lines + 2) (e + 1) (cut (drop (e + 1) f)).lines c
          closing = marked_found (m.lines + 2) (e + 1) (cut (drop (e + 1) f)).lines c s

          abbrev set : Part
          set = part m.lines m.at opening.line number closing.before closing.line

          set_first : remaining f n at ≡ set ∷ parts_from outside (c.lines + 1) c.past closing.after
          set_first = inside_it ∙ closing.ends m.lines m.at opening.line number []

          bounds : Bounds f m e c set
          unfolding dataset_of line_start closing_start past_of through_of bytes_in
          bounds = record {
            lines = refl;
            first = refl;
            number = refl;
            body = omega (arith, past_at, number_past);
            closing = omega (arith, past_at, number_past, closing.bytes);
            past = omega (arith, past_at, number_past, closing.past);
            through = omega (arith, closing.count, length-append closing.before (closing.line ∷ []));
          }

          pub set_bounds : (p : Part) (ps : List Part) → remaining f n at ≡ p ∷ ps → Bounds f m e c p
          set_bounds p ps q =
              let w : set ∷ parts_from outside (c.lines + 1) c.past closing.after ≡ p ∷ ps = sym set_first ∙ q in
              let z : set ≡ p = cc in
              subst (Bounds f m e c) z bounds

          module _ (last : ℕ) (g : LastLine f (e + 1) c.at last) where
            last_at : last ≡ last_start set
            unfolding last_start line_start bytes_in
            last_at =
                omega (arith, past_at, number_past, last_own f (e + 1) last c.at (omega arith) g closing.before _ closing.lines closing.bytes)

            pub set_found : (v : ℕ) → v ≡ dataset_number (columns_in number)
                → Some (extent m.lines m.at v (e + 1) last c.at c.past (c.lines + 1)) ≡ first_of (remaining f n at)
            set_found v w =
                let b = bounds in
                extent_of set _ v _ _ _ _ _ (w ∙ b.number) b.body last_at b.closing b.past b.through ∙ sym (ap first_of set_first)

-- where there is a set, its delimiters and its number line are found
module _ (f : List ℕ) (n at : ℕ) (a : at ≤ length f) (few : n ≤ at) (p : Part) (ps : List Part) (h : remaining f n at ≡ p ∷ ps) where
  not_nowhere : {A : Type 0} → None ≡ first_of (remaining f n at) → A
  unfolding first_of
  not_nowhere z = absurd (none-some _ (z ∙ ap first_of h))

  pub opening_found : None ≡ marked f n at → ⊥
  opening_found q = not_nowhere (never_opened f n at a few q)

  module _ (m : Mark) (q : Some m ≡ marked f n at) (e : ℕ) (r : e ≡ m.past + line_len (drop m.past f)) where
    pub number_ended : e < length f
    number_ended = ⊎_elim (λ (k : e < length f). k) (λ (k : length f ≤ e). not_nowhere (never_numbered f n at a few m q e r k)) (below_or_not e (length f))

    pub opening_fits : Fits f at m
    opening_fits = fits f n at a few m q

    pub closing_found : None ≡ marked f (m.lines + 2) (e + 1) → ⊥
    closing_found s = not_nowhere (never_closed f n at a few m q e r number_ended s)

    pub part_bounds : (c : Mark) → Some c ≡ marked f (m.lines + 2) (e + 1) → Bounds f m e c p
    part_bounds c s = set_bounds f n at a few m q e r number_ended c s p ps h
