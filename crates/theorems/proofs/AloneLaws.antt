-- A set of an accepted file is accepted alone, and every call answers of it as in the whole file.
use Rattle.std.specs.Prelude.{◌≡◌, refl, Bool, true, false, List, [], ◌∷◌, ◌++◌, map, ℕ, suc, ◌+◌, ◌-◌, ◌<◌, ◌≤◌, ltb, eqb, Float, drop, Ok, Err}
use Rattle.std.proofs.Common.{sym, ◌∙◌, ⊎_elim, append-nil, zero-mul, arith, lt-ltb, le-ltb, eqb-true, length-append}
use Rattle.std.proofs.Math.Path.{ap}
use Rattle.std.proofs.lemmas.List.{map-append}
use Rattle.std.proofs.lemmas.Bool.{eqb-false}
use Rattle.std.proofs.Math.ListN.{length}
use Rattle.laws.specs.Choice.{pick}
use Rattle.laws.specs.ChoiceLaws.{below_or_not}
use Rattle.laws.specs.Cut.{text, cut}
use Rattle.line.specs.Line.{columns}
use Rattle.real.specs.Real.{Real}
use Rattle.record_table.specs.TypedSets.{header_lines}
use Rattle.judge.specs.Judge.{judged}
use Rattle.parts.specs.Parts as Parts
use Rattle.parts.specs.Parts.{Part, parts_of, bytes_in, past_of, dataset_of}
use Rattle.parts.specs.PartsLaws.{bytes_in_append}
use Rattle.parts.specs.Function as Function
use Rattle.parts.specs.Padding.{padding_of}
use Rattle.parts.specs.Set.{Somewhere}
use Rattle.parts.specs.SetLaws.{somewhere}
use Rattle.lister.specs.Lister.{entry, rows_of}
use Rattle.reader.specs.Reader.{Said, Shown, refused, sets_from, shown_of, stored_number, value_of, number_from, value_from}
use Rattle.values.specs.Values.{all_from, all_values}
use Rattle.rewriter.specs.Rewriter.{unpadded, rewritten_set, rewritten, rewritten_file}
use Rattle.rewriter_laws.proofs.RewritingLaws.{bytes_most}
use Rattle.theory.specs.Sets.{Set}
use Rattle.theory.specs.Proper.{BlankLines, Lines, Ended, Proper}
use Rattle.line_laws.specs.Ends.{AllPass}
use Rattle.line_laws.proofs.EndsLaws.{ended_complete, ended_sound}
use Rattle.parts_laws.specs.Holds.{columns_of, Holds, AtPlaces}
use Rattle.parts_laws.specs.HoldsLaws.{held_part}
use Rattle.parts_laws.specs.Text.{lines_of}
use Rattle.parts_laws.specs.TextLaws.{joined_length, stand_cut, part_bytes, part_cut}
use Rattle.parts_laws.specs.Declares.{declared}
use Rattle.parts_laws.specs.CaseLaws.{declared_some}
use Rattle.parts_laws.specs.Stored.{stored_count, stored_item}
use Rattle.theorems.specs.Answers.{real_of_item, value_said, all_said}
use Rattle.theorems.proofs.AnswersLaws.{number_answered, number_past, number_other, number_asked, value_answered, value_past, value_other, value_asked, all_by_list, all_other, all_asked}
use Rattle.theorems.specs.Alone.{alone_in, sets_alone, together, at_start, row_alone, said_behind, Alone}
use Rattle.theorems.specs.Stands.{SetAt}
use Rattle.judge_laws.specs.HeldLaws.{part_held}
use Rattle.judge_laws.specs.JudgeLaws.{proper_accepted, accepted_zero}
use Rattle.theorems.specs.ListerLaws.{lister_places, lister_answers, set_holds}

-- What the reader answers of a set, whatever file it stands in.

abbrev number_by : Set → Part → ℕ → Said Shown
number_by s p j = pick (ltb j (stored_count s)) (shown_of (Function.first_byte p j) (Function.past_byte p j) (real_of_item (stored_item s j))) (refused 18 0)

abbrev value_by : Set → ℕ → Said Float
value_by s i = pick (ltb i (declared s)) (value_said s i) (refused 18 0)

abbrev all_by : Set → Said Float
all_by s = pick (ltb 0 (declared s)) (all_said s) (refused 18 0)

-- a set that is no 58 declares no value
none_declared : (s : Set) → eqb s.number 58 ≡ false → declared s ≡ 0
unfolding declared
none_declared s e = rw e refl

none_stored : (s : Set) → eqb s.number 58 ≡ false → stored_count s ≡ 0
unfolding stored_count
none_stored s e = rw (none_declared s e) (zero-mul _)

stands : {p : Part} {ps : List Part} (bytes : List ℕ) (k : ℕ) → drop k (parts_of bytes) ≡ p ∷ ps → Somewhere bytes p ps
unfolding parts_of
stands {p} {ps} bytes k d = somewhere bytes k 0 0 (parts_of bytes) p ps (omega arith) refl d

-- a set as it stands in an accepted file
module _ {s : Set} {p : Part} {ps : List Part} (bytes : List ℕ) (k : ℕ) (z : (judged bytes).number ≡ 0) (d : drop k (parts_of bytes) ≡ p ∷ ps) (h : Holds s p) where
  number_from_lem : (j : ℕ) (t : Bool) → eqb s.number 58 ≡ t → number_from bytes (p ∷ ps) j ≡ number_by s p j
  number_from_lem j true e =
      let n : s.number ≡ 58 = eqb-true s.number 58 e in
      ⊎_elim (λ (l : j < stored_count s). number_answered bytes ps (stands bytes k d) h n j l ∙ rw (lt-ltb j (stored_count s) l) refl)
      (λ (l : stored_count s ≤ j). number_past bytes ps (stands bytes k d) h n j l ∙ rw (le-ltb j (stored_count s) l) refl) (below_or_not j (stored_count s))
  number_from_lem j false e = number_other bytes ps h (eqb-false s.number 58 e) j ∙ rw (le-ltb j (stored_count s) (omega (arith, none_stored s e))) refl

  value_from_lem : (i : ℕ) (t : Bool) → eqb s.number 58 ≡ t → value_from bytes (p ∷ ps) i ≡ value_by s i
  value_from_lem i true e =
      let n : s.number ≡ 58 = eqb-true s.number 58 e in
      ⊎_elim (λ (l : i < declared s). value_answered bytes ps (stands bytes k d) h n i l ∙ rw (lt-ltb i (declared s) l) refl)
      (λ (l : declared s ≤ i). value_past bytes ps (stands bytes k d) h n i l ∙ rw (le-ltb i (declared s) l) refl) (below_or_not i (declared s))
  value_from_lem i false e = value_other bytes ps h (eqb-false s.number 58 e) i ∙ rw (le-ltb i (declared s) (omega (arith, none_declared s e))) refl

  all_from_lem : (t : Bool) → eqb s.number 58 ≡ t → all_from bytes (p ∷ ps) ≡ all_by s
  all_from_lem true e =
      let n : s.number ≡ 58 = eqb-true s.number 58 e in
      all_by_list bytes ps (stands bytes k d) h n ∙ rw (lt-ltb 0 (declared s) (declared_some h.lines n)) refl
  all_from_lem false e = all_other bytes ps h (eqb-false s.number 58 e) ∙ rw (none_declared s e) refl

  number_is : (j : ℕ) → stored_number bytes (suc k) j ≡ number_by s p j
  unfolding sets_from
  number_is j = number_asked bytes (suc k) j z ∙ rw d (number_from_lem j (eqb s.number 58) refl)

  value_is : (i : ℕ) → value_of bytes (suc k) i ≡ value_by s i
  unfolding sets_from
  value_is i = value_asked bytes (suc k) i z ∙ rw d (value_from_lem i (eqb s.number 58) refl)

  all_is : all_values bytes (suc k) ≡ all_by s
  unfolding sets_from
  all_is = all_asked bytes (suc k) z ∙ rw d (all_from_lem (eqb s.number 58) refl)

-- Its columns and its row, wherever it stands.

first_behind : (p : Part) (j : ℕ) → Function.first_byte p j ≡ p.bytes + Function.first_byte (at_start p) j
unfolding Function.first_byte Function.data_line Function.part_case Parts.line_start Parts.line_of
first_behind p j = omega arith

past_behind : (p : Part) (j : ℕ) → Function.past_byte p j ≡ p.bytes + Function.past_byte (at_start p) j
unfolding Function.past_byte Function.data_line Function.part_case Parts.line_start Parts.line_of
past_behind p j = omega arith

shown_behind_lem : (b x y : ℕ) (r : Real) → shown_of (b + x) (b + y) r ≡ said_behind b (shown_of x y r)
shown_behind_lem b x y (Err _) = refl
shown_behind_lem b x y (Ok n) = refl

pick_behind : (b x y : ℕ) (r : Real) (t : Bool) → pick t (shown_of (b + x) (b + y) r) (refused 18 0) ≡ said_behind b (pick t (shown_of x y r) (refused 18 0))
pick_behind b x y r true = shown_behind_lem b x y r
pick_behind b x y r false = refl

number_behind : (s : Set) (p : Part) (j : ℕ) → number_by s p j ≡ said_behind p.bytes (number_by s (at_start p) j)
number_behind s p j =
    rw (first_behind p j, past_behind p j)
    (pick_behind p.bytes (Function.first_byte (at_start p) j) (Function.past_byte (at_start p) j) (real_of_item (stored_item s j)) (ltb j (stored_count s)))

past_alone : (p : Part) → past_of (at_start p) ≡ past_of p - p.bytes
unfolding past_of
past_alone p = omega arith

data_alone : (p : Part) → Function.data_start (at_start p) ≡ Function.data_start p - p.bytes
unfolding Function.data_start dataset_of Parts.line_start
data_alone p = by (Parts.is_function p)
  where
    by : (t : Bool) → pick t (Parts.line_start (at_start p) header_lines) 0 ≡ pick t (Parts.line_start p header_lines) 0 - p.bytes
    by true = omega arith
    by false = omega arith

row_alone_lem : (p : Part) → rows_of (at_start p ∷ []) ≡ row_alone p
unfolding rows_of entry row_alone dataset_of Function.count_of Function.stored_of Function.part_case padding_of Parts.line_of
row_alone_lem p = rw (past_alone p, data_alone p) refl

-- Its lines, taken out of the file's.

pass_left : (a b : List (List ℕ)) → AllPass (a ++ b) → AllPass a
pass_left [] b x = AllPass.none
pass_left (l ∷ a) b (AllPass.more h x) = AllPass.more h (pass_left a b x)

pass_right : (a b : List (List ℕ)) → AllPass (a ++ b) → AllPass b
pass_right [] b x = x
pass_right (l ∷ a) b (AllPass.more h x) = pass_right a b x

held_lines : {s : Set} {p : Part} → Holds s p → Lines (s ∷ []) (columns_of (lines_of p))
held_lines {s} {p} h =
    let e : columns_of (p.body ++ (p.closing ∷ [])) ≡ columns_of p.body ++ (columns true p.closing ∷ []) = map-append (columns true) p.body (p.closing ∷ []) in
    rw e (Lines.more (columns true p.opening) (columns true p.number) (columns true p.closing) [] (columns_of p.body) []
    BlankLines.none h.opening h.number h.lines h.closing (Lines.end BlankLines.none))

held_first : {s : Set} {p : Part} → Holds s p → Holds s (at_start p)
held_first h = record { opening = h.opening; number = h.number; lines = h.lines; closing = h.closing; short = h.short }

-- a part of an accepted file
module _ {sets : List Set} {bytes : List ℕ} (w : Proper sets bytes) (k : ℕ) (p : Part) (ps : List Part) (d : drop k (parts_of bytes) ≡ p ∷ ps) where
  alone_cut : cut (alone_in bytes p) ≡ text (lines_of p) []
  unfolding alone_in
  alone_cut = part_cut bytes k p ps (lister_places w) d

  alone_length : length (alone_in bytes p) ≡ bytes_in (lines_of p)
  unfolding alone_in
  alone_length = ap length (part_bytes bytes k p ps (lister_places w) d) ∙ joined_length (lines_of p)

  alone_most : length (alone_in bytes p) ≤ length bytes
  unfolding past_of
  alone_most = omega (arith, alone_length, (stands bytes k d).stands.past)

  alone_pass : AllPass (lines_of p)
  alone_pass =
      let c = stand_cut k p ps (lister_places w) d in
      pass_left (lines_of p) c.after (pass_right c.before (lines_of p ++ c.after) (rw c.whole at (ended_complete w.ends).pass))

  alone_ended : Ended (columns_of (lines_of p)) (alone_in bytes p)
  alone_ended = rw alone_cut at (ended_sound (alone_in bytes p) (rw alone_cut refl) (rw alone_cut alone_pass))

  module _ {s : Set} (h : Holds s p) where
    alone_proper : Proper (s ∷ []) (alone_in bytes p)
    alone_proper = record {
      columns = columns_of (lines_of p);
      ends = alone_ended;
      lines = held_lines h;
      some = omega arith;
      most = omega arith;
      short = omega (arith, alone_most, w.short);
    }

    alone_parts : parts_of (alone_in bytes p) ≡ at_start p ∷ []
    unfolding parts_of
    alone_parts = rw alone_cut (held_part h)

    alone_rewritten : rewritten_file (alone_in bytes p) ≡ rewritten_set p
    unfolding rewritten rewritten_set unpadded dataset_of Function.count_of Function.stored_of Function.part_case Parts.line_of
    alone_rewritten = rw alone_parts (append-nil (rewritten_set p))

-- THE SET ALONE. The bytes of set k of an accepted file, from its row's fourth number to its fifth, are a file of just that set, and every call
-- answers of it as of set k in the whole file.
pub set_alone : {sets : List Set} {bytes : List ℕ} → Proper sets bytes → {k : ℕ} {s : Set} {p : Part} → SetAt sets bytes k s p → Alone bytes (alone_in bytes p) k s p
set_alone {sets} {bytes} w {k} {s} {p} at =
    let ps = at.others in
    let d = at.stands in
    let h : Holds s p = set_holds w at in
    let v : Proper (s ∷ []) (alone_in bytes p) = alone_proper w k p ps d h in
    let a : parts_of (alone_in bytes p) ≡ at_start p ∷ [] = alone_parts w k p ps d h in
    let z = accepted_zero w in
    let y = accepted_zero v in
    record {
      proper = v;
      judge = proper_accepted v ∙ rw (alone_cut w k p ps d) refl;
      parts = a;
      listed = λ rows l. let x = lister_answers v rows l in (x.0, x.1 ∙ rw (a, row_alone_lem p) refl);
      number = λ j. number_is bytes k z d h j ∙ number_behind s p j ∙ ap (said_behind p.bytes) (sym (number_is (alone_in bytes p) 0 y a (held_first h) j));
      value = λ i. value_is bytes k z d h i ∙ sym (value_is (alone_in bytes p) 0 y a (held_first h) i);
      all_values_lem = all_is bytes k z d h ∙ sym (all_is (alone_in bytes p) 0 y a (held_first h));
      rewritten = alone_rewritten w k p ps d h;
    }

-- Of all sets together.

rewritten_each : (bytes : List ℕ) (ps : List Part) → ((k : ℕ) (q : Part) (qs : List Part) → drop k ps ≡ q ∷ qs → rewritten_file (alone_in bytes q) ≡ rewritten_set q)
    → rewritten ps ≡ together (map rewritten_file (map (alone_in bytes) ps))
unfolding rewritten together
rewritten_each bytes [] h = refl
rewritten_each bytes (q ∷ ps) h = rw (h 0 q ps refl, rewritten_each bytes ps (λ k r rs e. h (suc k) r rs e)) refl

-- The file is rewritten as its sets alone are, one after the other.
pub rewritten_alone : {sets : List Set} {bytes : List ℕ} → Proper sets bytes → rewritten_file bytes ≡ together (map rewritten_file (sets_alone bytes))
unfolding sets_alone
rewritten_alone {sets} {bytes} w =
    rewritten_each bytes (parts_of bytes) (λ k q qs e. alone_rewritten w k q qs e (part_held k q qs (lister_places w) e).1)

lengths_each : {n at : ℕ} {ss : List Set} {ps : List Part} {ls : List (List ℕ)} (bytes : List ℕ) → AtPlaces n at ss ps ls
    → ((k : ℕ) (q : Part) (qs : List Part) → drop k ps ≡ q ∷ qs → length (alone_in bytes q) ≡ bytes_in (lines_of q)) → length (together (map (alone_in bytes) ps)) ≤ bytes_in ls
unfolding together bytes_in
lengths_each bytes (AtPlaces.end b) h = omega arith
lengths_each bytes (AtPlaces.more {p = p} {ps = ps} before after b i j x r) h =
    let m : length (together (map (alone_in bytes) ps)) ≤ bytes_in after = lengths_each bytes r (λ k q qs e. h (suc k) q qs e) in
    rw (length-append, bytes_in_append before _, bytes_in_append p.body _) (omega (arith, m, rw (bytes_in_append p.body (p.closing ∷ [])) at (h 0 p ps refl)))

-- The sets alone have together no more bytes than the file: to read each of them is one pass more.
pub alone_bytes : {sets : List Set} {bytes : List ℕ} → Proper sets bytes → length (together (sets_alone bytes)) ≤ length bytes
unfolding sets_alone
alone_bytes {bytes = bytes} w = omega (arith, bytes_most bytes, lengths_each bytes (lister_places w) (λ k q qs e. alone_length w k q qs e))
