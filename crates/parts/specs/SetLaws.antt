-- A set as it stands in a file: the lines around it, those inside it, and what is left after it.
use Rattle.std.specs.Prelude.{◌≡◌, Bool, true, false, ℕ, zero, suc, ◌+◌, ◌-◌, ◌≤◌, ◌<◌, eqb, length, get_or, take, drop}
use Rattle.std.proofs.Math.Path.{refl}
use Rattle.std.proofs.Common.{sym, ap, subst, ◌∙◌, ⊎_elim, le_refl, length-append, length-drop, take-append-drop, drop-cons, take_all, length-take-le, get_or-drop}
use mathlib.Core.List.{List, [], ◌∷◌, ◌++◌, append_assoc, append-nil}
use native.Mathlib.Omega.{arith}
use borrow.Author.Tests.{le-leb, lt-leb, eqb-true}
use Rattle.std.proofs.Math.ListN.{get_or-eq_default}
use Rattle.line.specs.LineLaws.{line_len_most}
use Rattle.laws.specs.Choice.{pick}
use Rattle.laws.specs.ChoiceLaws.{below_or_not}
use Rattle.laws.specs.Cut.{cut, line_len}
use Rattle.parts.specs.Parts.{columns_in, line_of, closes, bytes_in, Part, part, outside, opened, inside, parts_from, line_start, closing_start, past_of, through_of}
use Rattle.parts.specs.PartsLaws.{bytes_in_append, lines_past, lines_at_lem, line_length, lines_end}
use Rattle.parts.specs.ScanLaws.{fitting_number, fitting_line}
use Rattle.parts.specs.Scan.{skip_to, columns_at, Fitting}
use Rattle.parts.specs.Set.{Among, remaining, Standing, Somewhere}

-- the same from inside it, with the lines so far
record Within (m b : ℕ) (o v : List ℕ) (bs ls : List (List ℕ)) (p : Part) (ps : List Part) : Type 0 where
  own : List (List ℕ)
  more : List (List ℕ)
  lines : ls ≡ own ++ (p.closing ∷ more)
  same : p ≡ part m b o v (bs ++ own) p.closing
  rest : ps ≡ parts_from outside (through_of p) (past_of p) more

-- the line that closes it
within_closing : (m b : ℕ) (o v : List ℕ) (bs : List (List ℕ)) (n at : ℕ) (l : List ℕ) (ls : List (List ℕ)) (p : Part) (ps : List Part)
    → Fitting (inside m b o v bs) n at → part m b o v bs l ∷ parts_from outside (suc n) (at + suc (length l)) ls ≡ p ∷ ps
    → Within m b o v bs (l ∷ ls) p ps
unfolding bytes_in past_of through_of
within_closing m b o v bs n at l ls p ps (f, g) h =
    let q : p ≡ part m b o v bs l = cc in
    let r : ps ≡ parts_from outside (suc n) (at + suc (length l)) ls = cc in
    let t : through_of p ≡ suc n = rw (q, length-append bs (l ∷ [])) (omega arith) in
    let e : past_of p ≡ at + suc (length l) = rw (q, bytes_in_append bs (l ∷ [])) (omega arith) in
    record { own = []; more = ls; lines = rw q refl; same = rw (append-nil, q) refl; rest = rw (t, e) r }

-- a line of it
within_line : (m b : ℕ) (o v : List ℕ) (bs : List (List ℕ)) (l : List ℕ) (ls : List (List ℕ)) (p : Part) (ps : List Part)
    → Within m b o v (bs ++ (l ∷ [])) ls p ps → Within m b o v bs (l ∷ ls) p ps
within_line m b o v bs l ls p ps w =
    record {
      own = l ∷ w.own;
      more = w.more;
      lines = ap (◌∷◌ l) w.lines;
      same = w.same ∙ ap (λ (x : List (List ℕ)). part m b o v x p.closing) (append_assoc bs (l ∷ []) w.own);
      rest = w.rest;
    }

within_by : (m b : ℕ) (o v : List ℕ) (bs : List (List ℕ)) (n at : ℕ) (l : List ℕ) (ls : List (List ℕ)) (p : Part) (ps : List Part) (t : Bool)
    → Fitting (inside m b o v bs) n at
    → (parts_from (inside m b o v (bs ++ (l ∷ []))) (suc n) (at + suc (length l)) ls ≡ p ∷ ps → Within m b o v (bs ++ (l ∷ [])) ls p ps)
    → pick t (part m b o v bs l ∷ []) [] ++ parts_from (pick t outside (inside m b o v (bs ++ (l ∷ [])))) (suc n) (at + suc (length l)) ls ≡ p ∷ ps
    → Within m b o v bs (l ∷ ls) p ps
within_by m b o v bs n at l ls p ps true f h e = within_closing m b o v bs n at l ls p ps f e
within_by m b o v bs n at l ls p ps false f h e = within_line m b o v bs l ls p ps (h e)

within : (m b : ℕ) (o v : List ℕ) (bs : List (List ℕ)) (n at : ℕ) (ls : List (List ℕ)) (p : Part) (ps : List Part) → Fitting (inside m b o v bs) n at
    → parts_from (inside m b o v bs) n at ls ≡ p ∷ ps → Within m b o v bs ls p ps
unfolding parts_from
within m b o v bs n at [] p ps f e = let z : 0 ≡ suc (length ps) = ap length e in absurd (omega arith)
within m b o v bs n at (l ∷ ls) p ps f e =
    within_by m b o v bs n at l ls p ps (closes l) f
    (within m b o v (bs ++ (l ∷ [])) (suc n) (at + suc (length l)) ls p ps (fitting_line m b o v bs n at l f)) e

-- after its opening delimiter and its number line
numbered_among : (n at : ℕ) (o v : List ℕ) (own more : List (List ℕ)) (p : Part) (ps : List Part) → p ≡ part n at o v own p.closing
    → ps ≡ parts_from outside (through_of p) (past_of p) more → Among n at (o ∷ v ∷ (own ++ (p.closing ∷ more))) p ps
unfolding bytes_in
numbered_among n at o v own more p ps q r =
    let a : p.opening ≡ o = ap (λ (x : Part). x.opening) q in
    let b : p.number ≡ v = ap (λ (x : Part). x.number) q in
    let c : p.body ≡ own = ap (λ (x : Part). x.body) q in
    let d : p.lines ≡ n = ap (λ (x : Part). x.lines) q in
    let e : p.bytes ≡ at = ap (λ (x : Part). x.bytes) q in
    record { before = []; more = more; lines = rw (a, b, c) refl; count = omega arith; bytes = omega arith; rest = r }

opened_among : (n at : ℕ) (o : List ℕ) (ls : List (List ℕ)) (p : Part) (ps : List Part)
    → parts_from (opened n at o) (suc n) (at + suc (length o)) ls ≡ p ∷ ps → Among n at (o ∷ ls) p ps
unfolding parts_from
opened_among n at o [] p ps e = let z : 0 ≡ suc (length ps) = ap length e in absurd (omega arith)
opened_among n at o (v ∷ ls) p ps e =
    let w = within n at o v [] (suc (suc n)) ((at + suc (length o)) + suc (length v)) ls p ps (fitting_number n at o v (suc n) (at + suc (length o)) (refl, refl)) e in
    subst (λ (x : List (List ℕ)). Among n at (o ∷ v ∷ x) p ps) (sym w.lines) (numbered_among n at o v w.own w.more p ps w.same w.rest)

-- a line before it
among_line : (n at : ℕ) (l : List ℕ) (ls : List (List ℕ)) (p : Part) (ps : List Part) → Among (suc n) (at + suc (length l)) ls p ps → Among n at (l ∷ ls) p ps
unfolding bytes_in
among_line n at l ls p ps a =
    record { before = l ∷ a.before; more = a.more; lines = ap (◌∷◌ l) a.lines; count = omega (arith, a.count); bytes = omega (arith, a.bytes); rest = a.rest }

among_by : (n at : ℕ) (l : List ℕ) (ls : List (List ℕ)) (p : Part) (ps : List Part) (t : Bool)
    → (parts_from outside (suc n) (at + suc (length l)) ls ≡ p ∷ ps → Among (suc n) (at + suc (length l)) ls p ps)
    → parts_from (pick t (opened n at l) outside) (suc n) (at + suc (length l)) ls ≡ p ∷ ps → Among n at (l ∷ ls) p ps
among_by n at l ls p ps true h e = opened_among n at l ls p ps e
among_by n at l ls p ps false h e = among_line n at l ls p ps (h e)

pub among : (n at : ℕ) (ls : List (List ℕ)) (p : Part) (ps : List Part) → parts_from outside n at ls ≡ p ∷ ps → Among n at ls p ps
unfolding parts_from
among n at [] p ps e = let z : 0 ≡ suc (length ps) = ap length e in absurd (omega arith)
among n at (l ∷ ls) p ps e = among_by n at l ls p ps (closes l) (among (suc n) (at + suc (length l)) ls p ps) e

-- as many bytes as lines, at least
pub lines_bytes : (ls : List (List ℕ)) → length ls ≤ bytes_in ls
unfolding bytes_in
lines_bytes [] = omega arith
lines_bytes (l ∷ ls) = let m : length ls ≤ bytes_in ls = lines_bytes ls in omega arith

pub standing : (file : List ℕ) (n at : ℕ) (p : Part) (ps : List Part) → at ≤ length file → remaining file n at ≡ p ∷ ps → Standing file n at p ps
unfolding line_start closing_start past_of through_of bytes_in
standing file n at p ps a e =
    let m = among n at (cut (drop at file)).lines p ps e in
    let whole : List (List ℕ) = p.opening ∷ p.number ∷ (p.body ++ (p.closing ∷ [])) in
    let w : m.before ++ (p.opening ∷ p.number ∷ (p.body ++ (p.closing ∷ m.more))) ≡ (m.before ++ whole) ++ m.more = rw (append_assoc, append_assoc) refl in
    let v : m.before ++ (p.opening ∷ p.number ∷ (p.body ++ (p.closing ∷ m.more))) ≡ (m.before ++ (p.opening ∷ p.number ∷ [])) ++ (p.body ++ (p.closing ∷ m.more)) = rw append_assoc refl in
    let x = lines_past file at (m.before ++ whole) m.more a (m.lines ∙ w) in
    let y = lines_past file at (m.before ++ (p.opening ∷ p.number ∷ [])) (p.body ++ (p.closing ∷ m.more)) a (m.lines ∙ v) in
    let i : at + bytes_in (m.before ++ whole) ≡ past_of p = rw (bytes_in_append m.before whole) (omega (arith, m.bytes)) in
    let j : at + bytes_in (m.before ++ (p.opening ∷ p.number ∷ [])) ≡ line_start p 0 = rw (bytes_in_append m.before (p.opening ∷ p.number ∷ [])) (omega (arith, m.bytes)) in
    let b : length whole ≤ bytes_in whole = lines_bytes whole in
    let k : length m.before ≤ bytes_in m.before = lines_bytes m.before in
    let c : bytes_in (p.body ++ (p.closing ∷ [])) ≡ bytes_in p.body + (suc (length p.closing) + 0) = bytes_in_append p.body (p.closing ∷ []) in
    record {
      more = m.more;
      count = omega (arith, m.count, m.bytes);
      from = omega (arith, m.bytes);
      inside = rw j at y.within;
      own = rw j at y.lines;
      later = omega arith;
      past = rw i at x.within;
      rest = m.rest ∙ ap (parts_from outside (through_of p) (past_of p)) (sym (rw i at x.lines));
    }

-- the first byte of its lines
abbrev base : Part → ℕ
base p = p.bytes + bytes_in (p.opening ∷ p.number ∷ [])

line_start_base : (p : Part) → line_start p 0 ≡ base p
unfolding line_start bytes_in
line_start_base p = omega arith

line_start_line : (p : Part) (k : ℕ) → base p + bytes_in (take k p.body) ≡ line_start p k
unfolding line_start
line_start_line p k = refl

closing_start_base : (p : Part) → closing_start p ≡ base p + bytes_in p.body
unfolding closing_start
closing_start_base p = refl

-- line k of a set, by its bytes
skip_own : (k : ℕ) (body : List (List ℕ)) (c : List ℕ) (more : List (List ℕ)) (at : ℕ)
    → skip_to k (at + bytes_in body) at (body ++ (c ∷ more)) ≡ at + bytes_in (take k body)
unfolding skip_to bytes_in
skip_own zero body c more at = omega arith
skip_own (suc k) [] c more at = rw (le-leb (at + 0) at (omega arith)) (omega arith)
skip_own (suc k) (l ∷ body) c more at =
    let z : at + (suc (length l) + bytes_in body) ≡ (at + suc (length l)) + bytes_in body = omega arith in
    rw (z, lt-leb ((at + suc (length l)) + bytes_in body) at (omega arith), skip_own k body c more (at + suc (length l))) (omega arith)

module _ (file : List ℕ) (n at : ℕ) (p : Part) (ps : List Part) (s : Standing file n at p ps) where
  pub line_at_lem : (k : ℕ) → skip_to k (closing_start p) (line_start p 0) (cut (drop (line_start p 0) file)).lines ≡ line_start p k
  line_at_lem k =
      let z : line_start p 0 ≡ base p = line_start_base p in
      let e : closing_start p ≡ base p + bytes_in p.body = closing_start_base p in
      rw (s.own, z, e) (skip_own k p.body p.closing s.more (base p) ∙ line_start_line p k)

-- a loop that skips lines: where they stop, at the end of the file, one line more
pub skip_stops : (k stop at : ℕ) (ls : List (List ℕ)) → stop ≤ at → skip_to k stop at ls ≡ at
unfolding skip_to
skip_stops zero stop at ls h = refl
skip_stops (suc k) stop at [] h = refl
skip_stops (suc k) stop at (l ∷ ls) h = rw (le-leb stop at h) refl

pub skip_none : (k stop at : ℕ) (ls : List (List ℕ)) → ls ≡ [] → skip_to k stop at ls ≡ at
unfolding skip_to
skip_none zero stop at ls e = refl
skip_none (suc k) stop at ls e = rw e refl

skip_line : (k stop at : ℕ) (l : List ℕ) (ls : List (List ℕ)) → 0 < k → at < stop → skip_to k stop at (l ∷ ls) ≡ skip_to (k - 1) stop (at + suc (length l)) ls
unfolding skip_to
skip_line zero stop at l ls p h = absurd (omega arith)
skip_line (suc k) stop at l ls p h = let z : suc k - 1 ≡ k = omega arith in rw (lt-leb stop at h, z) refl

pub skip_next : (f : List ℕ) (k stop at e : ℕ) → 0 < k → at < stop → at ≤ length f → e ≡ at + line_len (drop at f) → e < length f
    → skip_to k stop at (cut (drop at f)).lines ≡ skip_to (k - 1) stop (e + 1) (cut (drop (e + 1) f)).lines
skip_next f k stop at e p h a q l = rw (lines_at_lem f at e a q l) (skip_line k stop at _ _ p h ∙ rw (line_length f at e a q l) refl)

pub skip_done : (k stop at : ℕ) (ls : List (List ℕ)) → k ≡ 0 → skip_to k stop at ls ≡ at
unfolding skip_to
skip_done k stop at ls e = rw e refl

-- the columns of a line, by where it stops
module _ (f : List ℕ) (stop at : ℕ) where
  pub columns_at_none : stop ≤ at → columns_in (take (at - at) (drop at f)) ≡ columns_at stop at f
  unfolding columns_at
  columns_at_none h = let z : at - at ≡ 0 = omega arith in rw (le-leb stop at h, z) refl

  pub columns_at_line : (e : ℕ) → at < stop → e ≡ at + line_len (drop at f) → columns_in (take (e - at) (drop at f)) ≡ columns_at stop at f
  unfolding columns_at
  columns_at_line e h q = let z : e - at ≡ line_len (drop at f) = omega arith in rw (lt-leb stop at h, z) refl

-- the LF of a line
pub line_len_end : (l : List ℕ) → line_len l < length l → get_or l (line_len l) 0 ≡ 10
unfolding line_len
line_len_end [] h = absurd (omega arith)
line_len_end (b ∷ l) h = by (eqb b 10) refl h (line_len_end l)
  where
    by : (t : Bool) → eqb b 10 ≡ t → pick t 0 (suc (line_len l)) < suc (length l) → (line_len l < length l → get_or l (line_len l) 0 ≡ 10)
        → get_or (b ∷ l) (pick t 0 (suc (line_len l))) 0 ≡ 10
    by true e h ih = eqb-true b 10 e
    by false e h ih = ih (omega arith)

-- a line that begins at a byte has its LF
pub line_ends : (f : List ℕ) (at : ℕ) (l : List ℕ) (ls : List (List ℕ)) → at ≤ length f → (cut (drop at f)).lines ≡ l ∷ ls → line_len (drop at f) < length (drop at f)
line_ends f at l ls a c =
    ⊎_elim (λ (h : at + line_len (drop at f) < length f). omega (arith, length-drop at f))
    (λ (h : length f ≤ at + line_len (drop at f)). let z : suc (length ls) ≡ 0 = ap length (sym c ∙ lines_end f at (at + line_len (drop at f)) a refl h) in absurd (omega arith))
    (below_or_not (at + line_len (drop at f)) (length f))

-- the line that begins at a byte is the first of the lines from there on
pub first_line : (f : List ℕ) (at : ℕ) (l : List ℕ) (ls : List (List ℕ)) → at ≤ length f → (cut (drop at f)).lines ≡ l ∷ ls → take (line_len (drop at f)) (drop at f) ≡ l
first_line f at l ls a c = ⊎_elim here none (below_or_not (at + line_len (drop at f)) (length f))
  where
    here : at + line_len (drop at f) < length f → take (line_len (drop at f)) (drop at f) ≡ l
    here h =
        let z : at + line_len (drop at f) - at ≡ line_len (drop at f) = omega arith in
        let q : l ∷ ls ≡ take (line_len (drop at f)) (drop at f) ∷ (cut (drop (at + line_len (drop at f) + 1) f)).lines = rw z at (sym c ∙ lines_at_lem f at (at + line_len (drop at f)) a refl h) in
        cc

    none : length f ≤ at + line_len (drop at f) → take (line_len (drop at f)) (drop at f) ≡ l
    none h =
        let q : l ∷ ls ≡ [] = sym c ∙ lines_end f at (at + line_len (drop at f)) a refl h in
        let z : suc (length ls) ≡ 0 = ap length q in
        absurd (omega arith)

-- a list from its place k on
drop_get_d : (k : ℕ) (l : List (List ℕ)) → k < length l → drop k l ≡ get_or l k [] ∷ drop (suc k) l
drop_get_d k l h = drop-cons l k [] h

bytes_in_most : (k : ℕ) (ls : List (List ℕ)) → bytes_in (take k ls) ≤ bytes_in ls
unfolding bytes_in
bytes_in_most zero ls = omega arith
bytes_in_most (suc k) [] = omega arith
bytes_in_most (suc k) (l ∷ ls) = let m : bytes_in (take k ls) ≤ bytes_in ls = bytes_in_most k ls in omega arith

bytes_in_less : (k : ℕ) (ls : List (List ℕ)) → k < length ls → bytes_in (take k ls) < bytes_in ls
unfolding bytes_in
bytes_in_less zero [] h = absurd (omega arith)
bytes_in_less zero (l ∷ ls) h = omega arith
bytes_in_less (suc k) [] h = absurd (omega arith)
bytes_in_less (suc k) (l ∷ ls) h = let m : bytes_in (take k ls) < bytes_in ls = bytes_in_less k ls (omega arith) in omega arith

module _ (file : List ℕ) (n at : ℕ) (p : Part) (ps : List Part) (s : Standing file n at p ps) where
  -- no line begins past the closing delimiter
  pub line_before : (k : ℕ) → line_start p k ≤ closing_start p
  unfolding line_start closing_start
  line_before k = let e : bytes_in (take k p.body) ≤ bytes_in p.body = bytes_in_most k p.body in omega arith

  pub line_within : (k : ℕ) → line_start p k ≤ length file
  line_within k = omega (arith, line_before k, s.later, s.past)

  pub start_before : (k : ℕ) → k < length p.body → line_start p k < closing_start p
  unfolding line_start closing_start
  start_before k h = let m : bytes_in (take k p.body) < bytes_in p.body = bytes_in_less k p.body h in omega arith

  pub start_sum : (k : ℕ) → line_start p 0 + bytes_in (take k p.body) ≡ line_start p k
  unfolding line_start bytes_in
  start_sum k = omega arith

  pub split : (k : ℕ) → p.body ++ (p.closing ∷ s.more) ≡ take k p.body ++ (drop k p.body ++ (p.closing ∷ s.more))
  split k = ap (λ (x : List (List ℕ)). x ++ (p.closing ∷ s.more)) (sym (take-append-drop k p.body)) ∙ append_assoc (take k p.body) (drop k p.body) (p.closing ∷ s.more)

  -- line k of a set is the first of the file's lines from there on
  record Here (k : ℕ) : Type 0 where
    text : take (line_len (drop (line_start p k) file)) (drop (line_start p k) file) ≡ get_or p.body k []
    size : length (get_or p.body k []) ≡ line_len (drop (line_start p k) file)
    ended : line_len (drop (line_start p k) file) < length (drop (line_start p k) file)

  here : (k : ℕ) → k < length p.body → Here k
  here k h =
      let y = lines_past file (line_start p 0) (take k p.body) (drop k p.body ++ (p.closing ∷ s.more)) s.inside (s.own ∙ split k) in
      let e : line_start p 0 + bytes_in (take k p.body) ≡ line_start p k = start_sum k in
      let c : (cut (drop (line_start p k) file)).lines ≡ get_or p.body k [] ∷ (drop (suc k) p.body ++ (p.closing ∷ s.more)) = rw e at y.lines ∙ rw (drop_get_d k p.body h) refl in
      let f : take (line_len (drop (line_start p k) file)) (drop (line_start p k) file) ≡ get_or p.body k [] = first_line file (line_start p k) _ _ (line_within k) c in
      record {
        text = f;
        size = ap length (sym f) ∙ length-take-le _ (drop (line_start p k) file) (line_len_most (drop (line_start p k) file));
        ended = line_ends file (line_start p k) _ _ (line_within k) c;
      }

  pub line_text : (k : ℕ) → k < length p.body → take (line_len (drop (line_start p k) file)) (drop (line_start p k) file) ≡ get_or p.body k []
  line_text k h = (here k h).text

  pub line_ended : (k : ℕ) → k < length p.body → line_len (drop (line_start p k) file) < length (drop (line_start p k) file)
  line_ended k h = (here k h).ended

  -- its columns
  inside_columns : (k : ℕ) → k < length p.body → columns_at (closing_start p) (line_start p k) file ≡ line_of p k
  unfolding columns_at line_of
  inside_columns k h = let l : line_start p k < closing_start p = start_before k h in rw (lt-leb (closing_start p) (line_start p k) l, (here k h).text) refl

  outside_columns : (k : ℕ) → length p.body ≤ k → columns_at (closing_start p) (line_start p k) file ≡ line_of p k
  unfolding columns_at line_of line_start closing_start
  outside_columns k h =
      rw (take_all k p.body h, get_or-eq_default p.body [] h, le-leb _ _ (le_refl ((p.bytes + bytes_in (p.opening ∷ p.number ∷ [])) + bytes_in p.body))) refl

  pub line_columns : (k : ℕ) → columns_at (closing_start p) (line_start p k) file ≡ line_of p k
  line_columns k = ⊎_elim (inside_columns k) (outside_columns k) (below_or_not k (length p.body))

  -- its bytes, and its LF
  inside_bytes : (k : ℕ) → k < length p.body → take (length (get_or p.body k [])) (drop (line_start p k) file) ≡ get_or p.body k []
  inside_bytes k h = let l = here k h in rw l.size l.text

  pub line_bytes : (k : ℕ) → take (length (get_or p.body k [])) (drop (line_start p k) file) ≡ get_or p.body k []
  line_bytes k =
      ⊎_elim (inside_bytes k)
      (λ (h : length p.body ≤ k). let z : get_or p.body k [] ≡ [] = get_or-eq_default p.body [] h in rw z refl)
      (below_or_not k (length p.body))

  pub line_end_lem : (k : ℕ) → k < length p.body → get_or file (line_start p k + length (get_or p.body k [])) 0 ≡ 10
  line_end_lem k h =
      let l = here k h in
      rw l.size (sym (get_or-drop (line_start p k) file (line_len (drop (line_start p k) file)) 0) ∙ line_len_end (drop (line_start p k) file) l.ended)

pub somewhere : (file : List ℕ) (i n at : ℕ) (ls : List Part) (p : Part) (ps : List Part) → at ≤ length file → remaining file n at ≡ ls → drop i ls ≡ p ∷ ps → Somewhere file p ps
somewhere file zero n at ls p ps a r e = record { before = n; from = at; stands = standing file n at p ps a (r ∙ e) }
somewhere file (suc i) n at [] p ps a r e = let z : 0 ≡ suc (length ps) = ap length e in absurd (omega arith)
somewhere file (suc i) n at (q ∷ qs) p ps a r e =
    let s : Standing file n at q qs = standing file n at q qs a r in
    somewhere file i (through_of q) (past_of q) qs p ps s.past (sym s.rest) e
