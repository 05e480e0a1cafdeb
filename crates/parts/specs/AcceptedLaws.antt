-- An accepted file has as many sets as its walk has seen open, and their delimiters and number lines are whole.
use Rattle.std.specs.Prelude.{◌≡◌, Bool, List, [], ◌∷◌, ◌++◌, ℕ, zero, suc, ◌+◌, ◌≤◌, ◌<◌, ltb, length}
use Rattle.std.proofs.Math.Path.{refl}
use Rattle.std.proofs.Common.{sym, ap, ◌∙◌, arith, ltb-true, length-append}
use Rattle.std.proofs.Math.Bool.{true, false}
use Rattle.laws.specs.Choice.{pick}
use Rattle.laws.specs.ChoiceLaws.{false_not_true}
use Rattle.laws.specs.Cut.{cut, over, judge}
use Rattle.text.specs.Blank.{all_blank}
use Rattle.line.specs.declared.Refusal.{Refusal}
use Rattle.line.specs.Line.{columns, refusal, first_bad, line_fault, filled}
use Rattle.line.specs.LineLaws.{columns_within, filled_length}
use Rattle.delimiter.specs.Kind.{is_delimiter, dataset_number}
use Rattle.delimiter.proofs.KindLaws.{is_delimiter_sound, delimiter_not_blank, dataset_number_sound}
use Rattle.record_table.specs.TypedSets.{kind_of, is_typed}
use Rattle.record.specs.Check.{row_refusal}
use Rattle.walk.specs.declared.Place.{Place}
use Rattle.walk.specs.declared.Place.TheVariants.{Outside, Number, Plain, Typed}
use Rattle.walk.specs.declared.Due.{Due}
use Rattle.walk.specs.declared.State.{State}
use Rattle.std.specs.Prelude.{Result, Ok, Err}
use Rattle.walk.specs.Due.{opening, may_close, may_continue, row_due, after}
use Rattle.walk.specs.Step.{state, start, unless, outside_step, number_step, plain_step, typed_step, place_step, step_of}
use Rattle.walk.specs.Step as Walk
use Rattle.judge.specs.declared.Reply.{Reply}
use Rattle.judge.specs.Judge.{reply, at_line, line_outcome, line_step, Run, going, refused, on_outcome, run_step, at_end, run_end, judged}
use Rattle.judge.specs.JudgeLaws.{over_refused}
use Rattle.judge.specs.RefusalLaws.{refusal_sure}
use Rattle.judge.specs.Lines.{Account, LinesJudged}
use Rattle.parts.specs.Parts.{columns_in, closes, Part, part, PartState, outside, opened, inside, next, ended, parts_from, parts_of}
use Rattle.parts.specs.SixLaws.{delimiter_six, number_six}
use Rattle.parts.specs.Accepted.{Alike, out, number, plain, typed, open_in, AllSixes, none, more, Stepped, Walked}

never : {A : Type 0} (f : Refusal) (t : State) → Err f ≡ Ok t → A
never f t e = let z : ◌≡◌ {A = ℕ} 0 1 = cc in absurd (omega arith)

stepped_to : (pl : Place) (k : ℕ) (t u : State) (p : PartState) (n at : ℕ) (l : List ℕ) → ◌≡◌ {A = Result State Refusal} (Ok u) (Ok t) → Stepped pl k u p n at l → Stepped pl k t p n at l
stepped_to pl k t u p n at l e s = let z : t ≡ u = cc in rw z s

-- a blank line is no delimiter
blank_open : (l : List ℕ) → all_blank (columns_in l) ≡ true → is_delimiter (columns_in l) ≡ true → ⊥
blank_open l a d = let z : false ≡ true = sym (delimiter_not_blank (columns_in l) (is_delimiter_sound (columns_in l) d)) ∙ a in false_not_true z

-- at least six bytes
columns_six : (l : List ℕ) → 6 ≤ length (columns true l) → 6 ≤ length l
columns_six l h = omega (arith, columns_within true l)

delimiter_long : (l : List ℕ) → is_delimiter (columns_in l) ≡ true → 6 ≤ length l
delimiter_long l d = columns_six l (delimiter_six (columns true l) (is_delimiter_sound (columns_in l) d))

number_long : (l : List ℕ) → ltb 0 (dataset_number (columns_in l)) ≡ true → 6 ≤ length l
number_long l h =
    let long : 6 ≤ length (columns_in l) = omega (arith, filled_length (columns true l)) in
    columns_six l (number_six (columns true l) (dataset_number_sound (columns_in l) _ long refl (ltb-true 0 (dataset_number (columns_in l)) h)))

all_append : {ps qs : List Part} → AllSixes ps → AllSixes qs → AllSixes (ps ++ qs)
all_append none q = q
all_append (more s p) q = more s (all_append p q)

module _ (k n at : ℕ) (l : List ℕ) (t : State) where
  outside_by : (a d c : Bool) → all_blank (columns_in l) ≡ a → is_delimiter (columns_in l) ≡ d
      → pick a (Ok (state Outside k)) (pick d (pick c (Ok (state Number (k + 1))) (Err (refusal 15 1))) (Err (refusal 5 1))) ≡ Ok t
      → Stepped Outside k t outside n at l
  unfolding closes
  outside_by true true c p q h = absurd (blank_open l p q)
  outside_by true false c p q h = stepped_to _ _ _ _ _ _ _ _ h (record { alike = rw q out; count = omega arith; sixes = none })
  outside_by false true true p q h = stepped_to _ _ _ _ _ _ _ _ h (record { alike = rw q (number (delimiter_long l q)); count = omega arith; sixes = none })
  outside_by false true false p q h = never _ t h
  outside_by false false c p q h = never _ t h

  outside_step_lem : outside_step k (columns_in l) ≡ Ok t → Stepped Outside k t outside n at l
  unfolding outside_step
  outside_step_lem h = outside_by (all_blank (columns_in l)) (is_delimiter (columns_in l)) (ltb k 4096) refl refl h

  number_by_lem : (m b : ℕ) (o : List ℕ) (c u : Bool) → 6 ≤ length o → ltb 0 (dataset_number (columns_in l)) ≡ c
      → pick c (Ok (state (pick u (Typed (opening (kind_of (dataset_number (columns_in l))))) Plain) k)) (Err (refusal 6 1)) ≡ Ok t
      → Stepped Number k t (opened m b o) n at l
  number_by_lem m b o true true g q h = stepped_to _ _ _ _ _ _ _ _ h (record { alike = typed g (number_long l q); count = omega arith; sixes = none })
  number_by_lem m b o true false g q h = stepped_to _ _ _ _ _ _ _ _ h (record { alike = plain g (number_long l q); count = omega arith; sixes = none })
  number_by_lem m b o false u g q h = never _ t h

  number_step_lem : (m b : ℕ) (o : List ℕ) → 6 ≤ length o → number_step k (columns_in l) ≡ Ok t → Stepped Number k t (opened m b o) n at l
  unfolding number_step Walk.opened
  number_step_lem m b o g h = number_by_lem m b o (ltb 0 (dataset_number (columns_in l))) (is_typed (dataset_number (columns_in l))) g refl h

  module _ (m b : ℕ) (o v : List ℕ) (ls : List (List ℕ)) (x : 6 ≤ length o) (y : 6 ≤ length v) where
    closed : is_delimiter (columns_in l) ≡ true → AllSixes (part m b o v ls l ∷ [])
    closed q = more (record { opening = x; number = y; closing = delimiter_long l q }) none

    plain_by : (d : Bool) → is_delimiter (columns_in l) ≡ d → pick {A = Result State Refusal} d (Ok (state Outside k)) (Ok (state Plain k)) ≡ Ok t → Stepped Plain k t (inside m b o v ls) n at l
    unfolding closes
    plain_by true q h = stepped_to _ _ _ _ _ _ _ _ h (record { alike = rw q out; count = rw q (omega arith); sixes = rw q (closed q) })
    plain_by false q h = stepped_to _ _ _ _ _ _ _ _ h (record { alike = rw q (plain x y); count = rw q (omega arith); sixes = rw q none })

    plain_step_lem : plain_step k (columns_in l) ≡ Ok t → Stepped Plain k t (inside m b o v ls) n at l
    unfolding plain_step
    plain_step_lem h = plain_by (is_delimiter (columns_in l)) refl h

    -- a row's refusal, or the state that follows
    unless_by : (f : Refusal) (u : State) (j : ℕ) → f.number ≡ j → unless f u ≡ Ok t → ◌≡◌ {A = Result State Refusal} (Ok u) (Ok t)
    unless_by f u zero e h = rw e at h
    unless_by f u (suc j) e h = never _ t (rw e at h)

    typed_by : (w z : Due) (f : Refusal) (d c e : Bool) → is_delimiter (columns_in l) ≡ d
        → pick d (pick c (Ok (state Outside k)) (Err (refusal 7 1))) (pick e (unless f (state (Typed z) k)) (Err (refusal 8 1))) ≡ Ok t
        → Stepped (Typed w) k t (inside m b o v ls) n at l
    unfolding closes
    typed_by w z f true true e q h = stepped_to _ _ _ _ _ _ _ _ h (record { alike = rw q out; count = rw q (omega arith); sixes = rw q (closed q) })
    typed_by w z f true false e q h = never _ t h
    typed_by w z f false c true q h = stepped_to _ _ _ _ _ _ _ _ (unless_by f _ f.number refl h) (record { alike = rw q (typed x y); count = rw q (omega arith); sixes = rw q none })
    typed_by w z f false c false q h = never _ t h

    typed_step_lem : (w : Due) → typed_step w k (columns_in l) ≡ Ok t → Stepped (Typed w) k t (inside m b o v ls) n at l
    unfolding typed_step
    typed_step_lem w h =
        typed_by w (after w (columns_in l)) (row_refusal (row_due w) (columns_in l)) (is_delimiter (columns_in l)) (may_close w) (may_continue w) refl h

  place_step_lem : (pl : Place) (p : PartState) → Alike pl p → place_step pl k (columns_in l) ≡ Ok t → Stepped pl k t p n at l
  place_step_lem Outside outside out h = outside_step_lem h
  place_step_lem Number (opened m b o) (number g) h = number_step_lem m b o g h
  place_step_lem Plain (inside m b o v ls) (plain x y) h = plain_step_lem m b o v ls x y h
  place_step_lem (Typed d) (inside m b o v ls) (typed x y) h = typed_step_lem m b o v ls x y d h
  place_step_lem Outside (opened m b o) x4 h = elim x4 [ ]
  place_step_lem Outside (inside m b o v ls) x5 h = elim x5 [ ]
  place_step_lem Number outside x4 h = elim x4 [ ]
  place_step_lem Number (inside m b o v ls) x5 h = elim x5 [ ]
  place_step_lem Plain outside x5 h = elim x5 [ ]
  place_step_lem Plain (opened m b o) x6 h = elim x6 [ ]
  place_step_lem (Typed d) outside x6 h = elim x6 [ ]
  place_step_lem (Typed d) (opened m b o) x7 h = elim x7 [ ]

-- a line's own refusals come before
own_by : (s t : State) (f : Refusal) (cs : List ℕ) (j : ℕ) → f.number ≡ j → line_outcome s f cs ≡ Ok t → step_of s (filled cs) ≡ Ok t
own_by s t f cs zero e h = rw e at h
own_by s t f cs (suc j) e h = never _ t (rw e at h)

line_step_lem : (s t : State) (p : PartState) (n at : ℕ) (l : List ℕ) → Alike s.place p → line_step s l ≡ Ok t → Stepped s.place s.sets t p n at l
unfolding line_step step_of
line_step_lem s t p n at l a h =
    let f : Refusal = line_fault true (columns true l) in
    place_step_lem s.sets n at l t s.place p a (own_by s t f (columns true l) f.number refl h)

-- lines that are not refused
stopped : {A : Type 0} (r : Reply) (ls : List (List ℕ)) (t : State) (m : ℕ) → over run_step (refused r) ls ≡ going t m → A
stopped r ls t m h = let e : refused r ≡ going t m = sym (over_refused r ls) ∙ h in let z : ◌≡◌ {A = ℕ} 0 1 = cc in absurd (omega arith)

ran_on : (s : State) (p : PartState) (c n at m : ℕ) (l : List ℕ) (ls : List (List ℕ)) (t : State) (o : Result State Refusal) → Alike s.place p → line_step s l ≡ o
    → over run_step (on_outcome c o) ls ≡ going t m
    → ((u : State) → Alike u.place (next p n at l) → over run_step (going u (c + 1)) ls ≡ going t m
    → Walked u t (parts_from (next p n at l) (suc n) (at + suc (length l)) ls))
    → Walked s t (ended p l ++ parts_from (next p n at l) (suc n) (at + suc (length l)) ls)
ran_on s p c n at m l ls t (Ok u) a q h ih =
    let x = line_step_lem s u p n at l a q in
    let y = ih u x.alike h in
    let both = length-append (ended p l) (parts_from (next p n at l) (suc n) (at + suc (length l)) ls) in
    record { count = omega (arith, x.count, y.count, both); sixes = all_append x.sixes y.sixes }
ran_on s p c n at m l ls t (Err f) a q h ih = stopped _ ls t m h

ran : (ls : List (List ℕ)) (s : State) (p : PartState) (c n at m : ℕ) (t : State) → Alike s.place p → over run_step (going s c) ls ≡ going t m
    → Walked s t (parts_from p n at ls)
unfolding over parts_from
ran [] s p c n at m t a h = let z : s ≡ t = cc in record { count = rw z (omega arith); sixes = none }
ran (l ∷ ls) s p c n at m t a h =
    ran_on s p c n at m l ls t (line_step s l) a refl h (λ u b g. ran ls u (next p n at l) (c + 1) (suc n) (at + suc (length l)) m t b g)

-- a file that is accepted ends outside sets
open_by : (s : State) (n : ℕ) (b : ℕ) (bs : List ℕ) → (line_fault false (b ∷ bs)).number ≤ 0 → ⊥
unfolding line_fault
open_by s n b bs h = by (ltb 0 (first_bad 1 (b ∷ bs))) (ltb 80 (length (b ∷ bs))) h
  where
    by : (x y : Bool) → (pick x (refusal 2 (first_bad 1 (b ∷ bs))) (pick y (refusal 3 1) (refusal 4 1))).number ≤ 0 → ⊥
    by true y h = omega arith
    by false true h = omega arith
    by false false h = omega arith

end_by : (pl : Place) (k n : ℕ) → (at_end pl k n).number ≤ 0 → pl ≡ Outside
end_by Outside k n h = refl
end_by Number k n h = absurd (omega arith)
end_by Plain k n h = absurd (omega arith)
end_by (Typed d) k n h = absurd (omega arith)

ends_outside : (s : State) (n : ℕ) (rest : List ℕ) → (run_end (going s n) rest).number ≤ 0 → s.place ≡ Outside
ends_outside s n [] h = end_by s.place s.sets n h
ends_outside s n (b ∷ bs) h = absurd (open_by s n b bs h)

file_walked : (file : List ℕ) (s : State) (n : ℕ) → going s n ≡ over run_step (going start 0) (cut file).lines → Walked start s (parts_of file)
unfolding parts_of
file_walked file s n g = ran (cut file).lines start outside 0 0 0 n s out (sym g)

pub sets_opened : (file rest : List ℕ) (r : Account) → LinesJudged start 0 file 0 r → r.number ≡ 0 → (run_end (going r.state r.lines) rest).number ≤ 0
    → r.state.sets ≡ length (parts_of file)
sets_opened file rest r j z h =
    let g : going r.state r.lines ≡ over run_step (going start 0) (cut file).lines = rw z at j.run in
    let e : open_in r.state.place ≡ 0 = ap open_in (ends_outside r.state r.lines rest h) in
    omega (arith, (file_walked file r.state r.lines g).count)

-- a file that is accepted is not refused on its way
some_by : (s : State) (c : ℕ) (l : List ℕ) (ls : List (List ℕ)) (r : Reply) (o : Result State Refusal) → line_step s l ≡ o → over run_step (on_outcome c o) ls ≡ refused r
    → ((u : State) → over run_step (going u (c + 1)) ls ≡ refused r → 0 < r.number) → 0 < r.number
some_by s c l ls r (Ok u) q h ih = ih u h
some_by s c l ls r (Err f) q h ih =
    let e : refused (at_line c f) ≡ refused r = sym (over_refused (at_line c f) ls) ∙ h in
    let z : at_line c f ≡ r = cc in
    rw (← z) (refusal_sure s l f q)

refused_some : (ls : List (List ℕ)) (s : State) (c : ℕ) (r : Reply) → over run_step (going s c) ls ≡ refused r → 0 < r.number
unfolding over
refused_some [] s c r h = let z : ◌≡◌ {A = ℕ} 0 1 = cc in absurd (omega arith)
refused_some (l ∷ ls) s c r h = some_by s c l ls r (line_step s l) refl h (λ u g. refused_some ls u (c + 1) r g)

-- so it has only whole ones
whole_by : (file rest : List ℕ) (x : Run) → over run_step (going start 0) (cut file).lines ≡ x → (run_end x rest).number ≤ 0 → AllSixes (parts_of file)
whole_by file rest (going s n) e h = (file_walked file s n (sym e)).sixes
whole_by file rest (refused r) e h = let z : 0 < r.number = refused_some (cut file).lines start 0 r e in absurd (omega arith)

pub sets_whole : (file : List ℕ) → (judged file).number ≤ 0 → AllSixes (parts_of file)
unfolding judged judge
sets_whole file h = by (ltb 16777216 (length file)) h
  where
    by : (t : Bool) → (pick t (reply 1 0) (run_end (over run_step (going start 0) (cut file).lines) (cut file).rest)).number ≤ 0 → AllSixes (parts_of file)
    by true q = absurd (omega arith)
    by false q = whole_by file (cut file).rest _ refl q
