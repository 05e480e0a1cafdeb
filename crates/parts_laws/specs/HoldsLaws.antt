-- The parts of a proper writing are its sets.
use Rattle.std.specs.Prelude.{◌≡◌, refl, true, false, List, [], ◌∷◌, ◌++◌, ℕ, suc, ◌+◌, length}
use Rattle.std.proofs.Common.{sym, ap, subst, ◌∙◌, append_assoc, append-nil, add-zero, arith, length-append}
use Rattle.line.specs.Line.{columns, filled}
use Rattle.delimiter.specs.Kind.{Delimiter, NumberLine}
use Rattle.delimiter.proofs.KindLaws.{is_delimiter_complete}
use Rattle.theory.specs.Sets.{Set}
use Rattle.theory.specs.Proper.{Inside, SetLines, BlankLines, Lines}
use Rattle.line_laws.specs.LineTestsLaws.{inside_complete, blank_inside}
use Rattle.line_laws.specs.NoDelimiter.{NoDelimiter}
use Rattle.line_laws.specs.NoDelimiterLaws.{set_none}
use Rattle.line_laws.specs.Short.{Short}
use Rattle.line_laws.specs.ShortLaws.{short_left, short_right}
use Rattle.parts.specs.Parts.{closes, bytes_in, Part, part, outside, inside, parts_from, past_of, through_of}
use Rattle.parts.specs.PartsLaws.{bytes_in_append}
use Rattle.parts_laws.specs.Text.{lines_of}
use Rattle.parts_laws.specs.Holds.{columns_of, Holds, AtPlaces, Open, none, more}

line_open : (l : List ℕ) → Inside (columns true l) → closes l ≡ false
unfolding closes
line_open l n = inside_complete (columns true l) n

line_closes : (l : List ℕ) → Delimiter (filled (columns true l)) → closes l ≡ true
unfolding closes
line_closes l d = is_delimiter_complete d

blank_open : (ls : List (List ℕ)) → BlankLines (columns_of ls) → Open ls
blank_open [] b = none
blank_open (l ∷ ls) (BlankLines.more b bs) = more (line_open l (blank_inside b)) (blank_open ls bs)

inside_open : (ls : List (List ℕ)) → NoDelimiter (columns_of ls) → Open ls
inside_open [] a = none
inside_open (l ∷ ls) (NoDelimiter.more n a) = more (line_open l n) (inside_open ls a)

-- lines whose columns come in two parts
record Split (ls a b : List (List ℕ)) : Type 0 where
  first : List (List ℕ)
  second : List (List ℕ)
  whole : ls ≡ first ++ second
  one : columns_of first ≡ a
  two : columns_of second ≡ b

split : (a b ls : List (List ℕ)) → columns_of ls ≡ a ++ b → Split ls a b
split [] b ls e = record { first = []; second = ls; whole = refl; one = refl; two = e }
split (c ∷ a) b [] e = let z : 0 ≡ suc (length (a ++ b)) = ap length e in absurd (omega arith)
split (c ∷ a) b (l ∷ ls) e =
    let h : columns true l ≡ c = cc in
    let t : columns_of ls ≡ a ++ b = cc in
    let s = split a b ls t in
    record { first = l ∷ s.first; second = s.second; whole = ap (◌∷◌ l) s.whole; one = rw (h, s.one) refl; two = s.two }

-- lines outside sets that are no delimiters are passed over
skip_open : (n at : ℕ) (bs ls : List (List ℕ)) → Open bs → parts_from outside n at (bs ++ ls) ≡ parts_from outside (n + length bs) (at + bytes_in bs) ls
unfolding parts_from bytes_in
skip_open n at [] ls o = rw (add-zero, add-zero) refl
skip_open n at (b ∷ bs) ls (more c o) =
    let p : suc n + length bs ≡ n + suc (length bs) = omega arith in
    let q : (at + suc (length b)) + bytes_in bs ≡ at + (suc (length b) + bytes_in bs) = omega arith in
    rw c (skip_open (suc n) (at + suc (length b)) bs ls o ∙ rw (p, q) refl)

-- the lines of a set and its closing delimiter
close_open : (m b : ℕ) (o v : List ℕ) (acc : List (List ℕ)) (n at : ℕ) (bs : List (List ℕ)) (c : List ℕ) (ls : List (List ℕ)) → Open bs → closes c ≡ true
    → parts_from (inside m b o v acc) n at (bs ++ (c ∷ ls))
    ≡ part m b o v (acc ++ bs) c ∷ parts_from outside (suc (n + length bs)) ((at + bytes_in bs) + suc (length c)) ls
unfolding parts_from bytes_in
close_open m b o v acc n at [] c ls x d = rw (d, add-zero, add-zero, append-nil) refl
close_open m b o v acc n at (l ∷ bs) c ls (more e x) d =
    let p : suc (suc n + length bs) ≡ suc (n + suc (length bs)) = omega arith in
    let q : ((at + suc (length l)) + bytes_in bs) + suc (length c) ≡ (at + (suc (length l) + bytes_in bs)) + suc (length c) = omega arith in
    rw e (close_open m b o v (acc ++ (l ∷ [])) (suc n) (at + suc (length l)) bs c ls x d ∙ rw (append_assoc, p, q) refl)

-- one line and those after it
record Head (ls : List (List ℕ)) (c : List ℕ) (b : List (List ℕ)) : Type 0 where
  line : List ℕ
  rest : List (List ℕ)
  whole : ls ≡ line ∷ rest
  one : columns true line ≡ c
  two : columns_of rest ≡ b

head : (c : List ℕ) (b ls : List (List ℕ)) → columns_of ls ≡ c ∷ b → Head ls c b
head c b [] e = let z : 0 ≡ suc (length b) = ap length e in absurd (omega arith)
head c b (l ∷ ls) e = record { line = l; rest = ls; whole = refl; one = cc; two = cc }

-- a set and the lines around it
record Around (ls before body after : List (List ℕ)) (first number last : List ℕ) : Type 0 where
  blanks : List (List ℕ)
  opening : List ℕ
  numbered : List ℕ
  own : List (List ℕ)
  closing : List ℕ
  later : List (List ℕ)
  whole : ls ≡ blanks ++ (opening ∷ numbered ∷ (own ++ (closing ∷ later)))
  of_blanks : columns_of blanks ≡ before
  of_opening : columns true opening ≡ first
  of_numbered : columns true numbered ≡ number
  of_own : columns_of own ≡ body
  of_closing : columns true closing ≡ last
  of_later : columns_of later ≡ after

around : (ls before body after : List (List ℕ)) (first number last : List ℕ) → columns_of ls ≡ before ++ (first ∷ number ∷ (body ++ (last ∷ after)))
    → Around ls before body after first number last
around ls before body after first number last e =
    let s = split before (first ∷ number ∷ (body ++ (last ∷ after))) ls e in
    let o = head first (number ∷ (body ++ (last ∷ after))) s.second s.two in
    let v = head number (body ++ (last ∷ after)) o.rest o.two in
    let b = split body (last ∷ after) v.rest v.two in
    let c = head last after b.second b.two in
    record {
      blanks = s.first;
      opening = o.line;
      numbered = v.line;
      own = b.first;
      closing = c.line;
      later = c.rest;
      whole = s.whole ∙ ap (λ (x : List (List ℕ)). s.first ++ x)
          (o.whole ∙ ap (◌∷◌ o.line) (v.whole ∙ ap (◌∷◌ v.line) (b.whole ∙ ap (λ (x : List (List ℕ)). b.first ++ x) c.whole)));
      of_blanks = s.one;
      of_opening = o.one;
      of_numbered = v.one;
      of_own = b.one;
      of_closing = c.one;
      of_later = c.two;
    }

-- the first part is that set
first_part : (n at : ℕ) (bs : List (List ℕ)) (o v : List ℕ) (own : List (List ℕ)) (c : List ℕ) (ls : List (List ℕ)) (p : Part)
    → Open bs → closes o ≡ true → Open own → closes c ≡ true → p ≡ part (n + length bs) (at + bytes_in bs) o v own c
    → parts_from outside n at (bs ++ (o ∷ v ∷ (own ++ (c ∷ ls)))) ≡ p ∷ parts_from outside (through_of p) (past_of p) ls
unfolding parts_from through_of past_of bytes_in
first_part n at bs o v own c ls p x y z w e =
    let a : suc (suc (suc (n + length bs)) + length own) ≡ (n + length bs) + suc (suc (length (own ++ (c ∷ [])))) = rw (length-append own (c ∷ [])) (omega arith) in
    let b : ((((at + bytes_in bs) + suc (length o)) + suc (length v)) + bytes_in own) + suc (length c)
    ≡ (at + bytes_in bs) + (suc (length o) + (suc (length v) + bytes_in (own ++ (c ∷ [])))) = rw (bytes_in_append own (c ∷ [])) (omega arith) in
    skip_open n at bs (o ∷ v ∷ (own ++ (c ∷ ls))) x
    ∙ rw (y, e) (close_open (n + length bs) (at + bytes_in bs) o v [] (suc (suc (n + length bs))) (((at + bytes_in bs) + suc (length o)) + suc (length v)) own c ls z w ∙ rw (a, b) refl)

-- the lines of a set are one part
pub held_part : {s : Set} {p : Part} → Holds s p → parts_from outside 0 0 (lines_of p) ≡ part 0 0 p.opening p.number p.body p.closing ∷ []
unfolding parts_from bytes_in
held_part {p = p} h =
    first_part 0 0 [] p.opening p.number p.body p.closing [] (part 0 0 p.opening p.number p.body p.closing)
    none (line_closes p.opening h.opening) (inside_open p.body (set_none h.lines)) (line_closes p.closing h.closing) refl

-- only blank lines: no part
no_part : (n at : ℕ) (ls : List (List ℕ)) → Open ls → parts_from outside n at ls ≡ []
unfolding parts_from
no_part n at ls o = ap (parts_from outside n at) (sym (append-nil ls)) ∙ skip_open n at ls [] o

-- the parts of lines that write a list of sets are its sets, at their places
pub lines_stand : {ss : List Set} {css : List (List ℕ)} → Lines ss css → Short css → (n at : ℕ) (ls : List (List ℕ)) → columns_of ls ≡ css
    → AtPlaces n at ss (parts_from outside n at ls) ls
lines_stand (Lines.end b) sh n at ls e = rw (no_part n at ls (blank_open ls (subst BlankLines (sym e) b))) (AtPlaces.end (subst BlankLines (sym e) b))
lines_stand (Lines.more {s} {ss} first numbered last before body later b d v l c w) sh n at ls e =
    let a = around ls before body later first numbered last e in
    let inner : Short (body ++ (last ∷ later)) = short_right (first ∷ numbered ∷ []) (body ++ (last ∷ later)) (short_right before (first ∷ numbered ∷ (body ++ (last ∷ later))) sh) in
    let own : Short (columns_of a.own) = subst Short (sym a.of_own) (short_left body (last ∷ later) inner) in
    let past : Short later = short_right (last ∷ []) later (short_right body (last ∷ later) inner) in
    let p : Part = part (n + length a.blanks) (at + bytes_in a.blanks) a.opening a.numbered a.own a.closing in
    let bb : BlankLines (columns_of a.blanks) = subst BlankLines (sym a.of_blanks) b in
    let dd : Delimiter (filled (columns true a.opening)) = subst (λ (x : List ℕ). Delimiter (filled x)) (sym a.of_opening) d in
    let vv : NumberLine s.number (filled (columns true a.numbered)) = subst (λ (x : List ℕ). NumberLine s.number (filled x)) (sym a.of_numbered) v in
    let ll : SetLines s (columns_of a.own) = subst (SetLines s) (sym a.of_own) l in
    let cc' : Delimiter (filled (columns true a.closing)) = subst (λ (x : List ℕ). Delimiter (filled x)) (sym a.of_closing) c in
    let f : parts_from outside n at (a.blanks ++ (a.opening ∷ a.numbered ∷ (a.own ++ (a.closing ∷ a.later)))) ≡ p ∷ parts_from outside (through_of p) (past_of p) a.later
    = first_part n at a.blanks a.opening a.numbered a.own a.closing a.later p
    (blank_open a.blanks bb) (line_closes a.opening dd) (inside_open a.own (set_none ll)) (line_closes a.closing cc') refl in
    let t : AtPlaces n at (s ∷ ss) (p ∷ parts_from outside (through_of p) (past_of p) a.later) (a.blanks ++ (a.opening ∷ a.numbered ∷ (a.own ++ (a.closing ∷ a.later))))
    = AtPlaces.more a.blanks a.later bb refl refl (record { opening = dd; number = vv; lines = ll; closing = cc'; short = own })
    (lines_stand w past (through_of p) (past_of p) a.later a.of_later) in
    subst (λ (x : List (List ℕ)). AtPlaces n at (s ∷ ss) (parts_from outside n at x) x) (sym a.whole)
    (subst (λ (x : List Part). AtPlaces n at (s ∷ ss) x (a.blanks ++ (a.opening ∷ a.numbered ∷ (a.own ++ (a.closing ∷ a.later))))) (sym f) t)
