-- Whatever is read as a list of sets is a writing of it, of 4,096 sets at most.
use Rattle.std.specs.Prelude.{◌≡◌, refl, Bool, true, false, List, [], ◌∷◌, ◌++◌, ℕ, zero, suc, ◌≤◌, ◌<◌, ltb, length}
use Rattle.std.proofs.Common.{sym, ap, ◌∙◌, subst, append_assoc, append-nil, arith, ltb-true, length-append}
use Rattle.laws.specs.Choice.{pick}
use Rattle.text.specs.Blank.{Blanks, all_blank}
use Rattle.text.specs.Text.{trimmed}
use Rattle.text.proofs.TextLaws.{trimmed_sound}
use Rattle.line.specs.Line.{filled}
use Rattle.line.specs.LineLaws.{filled_length}
use Rattle.delimiter.specs.Kind.{Delimiter, NumberLine, is_delimiter, dataset_number}
use Rattle.delimiter.proofs.KindLaws.{is_delimiter_sound, dataset_number_sound}
use Rattle.field.specs.Item.{Item, text}
use Rattle.record_table.specs.TypedSets.{kind_of, is_typed}
use Rattle.record.specs.Check.{items_of, row_refusal}
use Rattle.walk.specs.Due.{opening, may_close, may_continue, row_due, after, after_items}
use Rattle.walk.specs.declared.Due.{Due}
use Rattle.theory.specs.Sets.{Set, set}
use Rattle.theory.specs.Proper.{BlankLines, PlainLines, SetLines, Lines}
use Rattle.judge_laws.specs.ListReader.{Reading, outside, number, plain, typed, bad, closed, opened, typed_on, read_line, read_lines}
use Rattle.line_laws.specs.Short.{Short}
use Rattle.line_laws.specs.LineTestsLaws.{blank_line_sound, inside_sound}
use Rattle.judge_laws.specs.RowTestsLaws.{row_due_sound}
use Rattle.judge_laws.specs.TypedRun.{TypedRun}
use Rattle.judge_laws.specs.TypedRunLaws.{run_typed_lines}

-- At most 4,096 sets.

-- a state's sets are 4,096 at most, with the one that is being read
abbrev Within : Reading → Type 0
Within (outside acc) = length acc ≤ 4096
Within (number acc) = length acc < 4096
Within (plain acc v c) = length acc < 4096
Within (typed acc v c d) = length acc < 4096
Within bad = Unit {0}

within_pick : (t : Bool) (r s : Reading) → (t ≡ true → Within r) → Within s → Within (pick t r s)
within_pick true r s p q = p refl
within_pick false r s p q = q

within_closed : (acc : List Set) (s : Set) → length acc < 4096 → Within (outside (acc ++ (s ∷ [])))
within_closed acc s h = rw length-append (omega arith)

within_typed_on : (n : ℕ) (r : Reading) → Within r → Within (typed_on n r)
within_typed_on zero r w = w
within_typed_on (suc n) r w = tt

-- a line keeps to that, and so do lines
within_line : (r : Reading) (cs : List ℕ) → Within r → Within (read_line r cs)
within_line (outside acc) cs w =
    within_pick (all_blank (filled cs)) (outside acc) _ (λ e. w)
    (within_pick (is_delimiter (filled cs)) _ bad (λ e. within_pick (ltb (length acc) 4096) (number acc) bad (ltb-true (length acc) 4096) tt) tt)
within_line (number acc) cs w =
    within_pick (ltb 0 (dataset_number (filled cs))) _ bad (λ e. within_pick (is_typed (dataset_number (filled cs))) _ _ (λ t. w) w) tt
within_line (plain acc v c) cs w = within_pick (is_delimiter (filled cs)) (closed acc v c) _ (λ e. within_closed acc (set v c) w) w
within_line (typed acc v c d) cs w =
    within_pick (is_delimiter (filled cs)) _ _ (λ e. within_pick (may_close d) (closed acc v c) bad (λ k. within_closed acc (set v c) w) tt)
    (within_pick (may_continue d) _ bad (λ k. within_typed_on (row_refusal (row_due d) (filled cs)).number _ w) tt)
within_line bad cs w = tt

within_lines : (css : List (List ℕ)) (r : Reading) → Within r → Within (read_lines r css)
unfolding read_lines
within_lines [] r w = w
within_lines (cs ∷ css) r w = within_lines css (read_line r cs) (within_line r cs w)

-- What is left to be read, by the state.

-- outside sets: sets
data Sets (acc m : List Set) : List (List ℕ) → Type 0 where
  sets : {ss : List Set} {css : List (List ℕ)} → Lines ss css → m ≡ acc ++ ss → Sets acc m css

-- in a set of the number v, with lines so far of the items c: lines as P says, the closing delimiter, and sets
data Rest (P : List (List Item) → List (List ℕ) → Type 0) (acc : List Set) (v : ℕ) (c : List (List Item)) (m : List Set) : List (List ℕ) → Type 0 where
  rest : {iss : List (List Item)} {ss : List Set} (last : List ℕ) (body later : List (List ℕ)) → P iss body → Delimiter (filled last)
      → Lines ss later → m ≡ acc ++ (set v (c ++ iss) ∷ ss) → Rest P acc v c m (body ++ (last ∷ later))

-- the lines of a set of the number v
abbrev Body : ℕ → List (List Item) → List (List ℕ) → Type 0
Body v iss css = SetLines (set v iss) css

-- after an opening delimiter: a number line, and what is left of its set
data Numbered (acc m : List Set) : List (List ℕ) → Type 0 where
  numbered : {cs : List ℕ} {css : List (List ℕ)} (v : ℕ) → NumberLine v (filled cs) → Rest (Body v) acc v [] m css → Numbered acc m (cs ∷ css)

-- a blank line in front
sets_blank : {acc m : List Set} {css : List (List ℕ)} (cs : List ℕ) → Blanks cs → Sets acc m css → Sets acc m (cs ∷ css)
sets_blank cs b (sets l e) = sets (front l) e
  where
    front : {ss : List Set} {css : List (List ℕ)} → Lines ss css → Lines ss (cs ∷ css)
    front (Lines.end bs) = Lines.end (BlankLines.more b bs)
    front (Lines.more first num last before body later bs d n s e l) = Lines.more first num last (cs ∷ before) body later (BlankLines.more b bs) d n s e l

-- an opening delimiter in front
sets_delimiter : {acc m : List Set} {css : List (List ℕ)} (cs : List ℕ) → Delimiter (filled cs) → Numbered acc m css → Sets acc m (cs ∷ css)
sets_delimiter cs d (numbered {cs = num} v n (rest last body later s e l q)) = sets (Lines.more cs num last [] body later BlankLines.none d n s e l) q

-- a closing delimiter in front
rest_close : (P : List (List Item) → List (List ℕ) → Type 0) (v : ℕ) (c : List (List Item)) {acc m : List Set} {css : List (List ℕ)} (cs : List ℕ)
    → P [] [] → Delimiter (filled cs) → Sets (acc ++ (set v c ∷ [])) m css → Rest P acc v c m (cs ∷ css)
rest_close P v c cs p d (sets {css} l q) = rest cs [] css p d l (q ∙ rw (append_assoc, append-nil) refl)

-- a line of the set in front
rest_line : (P Q : List (List Item) → List (List ℕ) → Type 0) {acc m : List Set} {v : ℕ} {c : List (List Item)} {css : List (List ℕ)}
    (is : List Item) (cs : List ℕ) → ((iss : List (List Item)) (body : List (List ℕ)) → P iss body → Q (is ∷ iss) (cs ∷ body))
    → Rest P acc v (c ++ (is ∷ [])) m css → Rest Q acc v c m (cs ∷ css)
rest_line P Q is cs f (rest {iss} last body later p d l q) = rest last (cs ∷ body) later (f iss body p) d l (q ∙ rw append_assoc refl)

-- lines of another account
rest_as : (P Q : List (List Item) → List (List ℕ) → Type 0) {acc m : List Set} {v : ℕ} {c : List (List Item)} {css : List (List ℕ)}
    → ((iss : List (List Item)) (body : List (List ℕ)) → P iss body → Q iss body) → Rest P acc v c m css → Rest Q acc v c m css
rest_as P Q f (rest {iss} last body later p d l q) = rest last body later (f iss body p) d l q

-- 0 for a state outside sets, 1 for any other
abbrev unfinished : Reading → ℕ
unfinished (outside acc) = 0
unfinished (number acc) = 1
unfinished (plain acc v c) = 1
unfinished (typed acc v c d) = 1
unfinished bad = 1

-- such a state is not the end of a file
not_outside : {A : Type 0} (r : Reading) (m : List Set) → unfinished r ≡ 1 → r ≡ outside m → A
not_outside r m u h = absurd (omega (arith, ap unfinished h))

-- a refused line is not taken back
pub bad_stays : (css : List (List ℕ)) → read_lines bad css ≡ bad
unfolding read_lines
bad_stays [] = refl
bad_stays (cs ∷ css) = bad_stays css

not_bad : {A : Type 0} (css : List (List ℕ)) (m : List Set) → read_lines bad css ≡ outside m → A
not_bad css m h = not_outside bad m refl (sym (bad_stays css) ∙ h)

-- what lines are that are read as the sets m, from each state
record Sound (css : List (List ℕ)) : Type 0 where
  of_outside : (acc m : List Set) → read_lines (outside acc) css ≡ outside m → Sets acc m css
  of_number : (acc m : List Set) → read_lines (number acc) css ≡ outside m → Numbered acc m css
  of_plain : (acc : List Set) (v : ℕ) (c : List (List Item)) (m : List Set) → read_lines (plain acc v c) css ≡ outside m → Rest PlainLines acc v c m css
  of_typed : (acc : List Set) (v : ℕ) (c : List (List Item)) (d : Due) (m : List Set) → read_lines (typed acc v c d) css ≡ outside m
      → Rest (TypedRun d) acc v c m css

-- one line more in front, by the reader's tests of it
module _ (cs : List ℕ) (css : List (List ℕ)) (short : length cs ≤ 80) (ih : Sound css) where
  outside_case : (acc m : List Set) (blank delimiter room : Bool) → all_blank (filled cs) ≡ blank → is_delimiter (filled cs) ≡ delimiter
      → read_lines (pick blank (outside acc) (pick delimiter (pick room (number acc) bad) bad)) css ≡ outside m → Sets acc m (cs ∷ css)
  outside_case acc m true delimiter room b d h = sets_blank cs (blank_line_sound cs short b) (ih.of_outside acc m h)
  outside_case acc m false true true b d h = sets_delimiter cs (is_delimiter_sound (filled cs) d) (ih.of_number acc m h)
  outside_case acc m false true false b d h = not_bad css m h
  outside_case acc m false false room b d h = not_bad css m h

  opened_case : (acc : List Set) (v : ℕ) (m : List Set) (t : Bool) → is_typed v ≡ t
      → read_lines (pick t (typed acc v [] (opening (kind_of v))) (plain acc v [])) css ≡ outside m → Rest (Body v) acc v [] m css
  opened_case acc v m true t h =
      rest_as (TypedRun (opening (kind_of v))) (Body v) (λ iss body r. SetLines.typed t (run_typed_lines v iss body t r)) (ih.of_typed acc v [] _ m h)
  opened_case acc v m false t h = rest_as PlainLines (Body v) (λ iss body l. SetLines.plain t l) (ih.of_plain acc v [] m h)

  number_case : (acc m : List Set) (v : ℕ) (some : Bool) → dataset_number (filled cs) ≡ v → ltb 0 v ≡ some
      → read_lines (pick some (opened acc v) bad) css ≡ outside m → Numbered acc m (cs ∷ css)
  number_case acc m v true e s h =
      numbered v (dataset_number_sound (filled cs) v (rw (filled_length cs) (omega arith)) e (ltb-true 0 v s)) (opened_case acc v m (is_typed v) refl h)
  number_case acc m v false e s h = not_bad css m h

  plain_case : (acc : List Set) (v : ℕ) (c : List (List Item)) (m : List Set) (t : Bool) → is_delimiter (filled cs) ≡ t
      → read_lines (pick t (closed acc v c) (plain acc v (c ++ ((text (trimmed cs) ∷ []) ∷ [])))) css ≡ outside m → Rest PlainLines acc v c m (cs ∷ css)
  plain_case acc v c m true e h = rest_close PlainLines v c cs PlainLines.none (is_delimiter_sound (filled cs) e) (ih.of_outside _ m h)
  plain_case acc v c m false e h =
      rest_line PlainLines PlainLines _ cs (λ iss body l. PlainLines.more (trimmed_sound cs) (inside_sound cs e) l) (ih.of_plain acc v _ m h)

  typed_case : (acc : List Set) (v : ℕ) (c : List (List Item)) (d : Due) (m : List Set) (t k o : Bool) (n : ℕ) → is_delimiter (filled cs) ≡ t → may_close d ≡ k → may_continue d ≡ o
      → (row_refusal (row_due d) (filled cs)).number ≡ n
      → read_lines (pick t (pick k (closed acc v c) bad)
      (pick o (typed_on n (typed acc v (c ++ (items_of (row_due d).fields 0 (filled cs) ∷ [])) (after d (filled cs)))) bad)) css ≡ outside m
      → Rest (TypedRun d) acc v c m (cs ∷ css)
  typed_case acc v c d m true true o n e k g f h = rest_close (TypedRun d) v c cs (TypedRun.closed k) (is_delimiter_sound (filled cs) e) (ih.of_outside _ m h)
  typed_case acc v c d m true false o n e k g f h = not_bad css m h
  typed_case acc v c d m false q false n e k g f h = not_bad css m h
  typed_case acc v c d m false q true zero e k g f h =
      let is : List Item = items_of (row_due d).fields 0 (filled cs) in
      rest_line (TypedRun (after_items d is)) (TypedRun d) is cs (λ iss body r. TypedRun.more g (row_due_sound d cs f) (inside_sound cs e) r)
      (ih.of_typed acc v _ _ m h)
  typed_case acc v c d m false q true (suc n) e k g f h = not_bad css m h

-- from each state, by the lines
sound : {css : List (List ℕ)} → Short css → Sound css
unfolding read_lines
sound Short.none = record {
  of_outside = λ acc m h. let e : m ≡ acc = cc in sets (Lines.end BlankLines.none) (e ∙ sym (append-nil acc));
  of_number = λ acc m h. not_outside (number acc) m refl h;
  of_plain = λ acc v c m h. not_outside (plain acc v c) m refl h;
  of_typed = λ acc v c d m h. not_outside (typed acc v c d) m refl h;
}
sound (Short.more {cs} {css} short s) = record {
  of_outside = λ acc m h. outside_case cs css short (sound s) acc m _ _ (ltb (length acc) 4096) refl refl h;
  of_number = λ acc m h. number_case cs css short (sound s) acc m _ _ refl refl h;
  of_plain = λ acc v c m h. plain_case cs css short (sound s) acc v c m _ refl h;
  of_typed = λ acc v c d m h. typed_case cs css short (sound s) acc v c d m _ _ _ _ refl refl refl refl h;
}

-- what is read as a list of sets is a writing of it, of 4,096 sets at most
pub reader_sound : (css : List (List ℕ)) (m : List Set) → Short css → read_lines (outside []) css ≡ outside m → Lines m css × (length m ≤ 4096)
reader_sound css m s h = (of ((sound s).of_outside [] m h), subst Within h (within_lines css (outside []) (omega arith)))
  where
    of : Sets [] m css → Lines m css
    of (sets l e) = rw e l
