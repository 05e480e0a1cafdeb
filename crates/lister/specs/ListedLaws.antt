-- The 58s of an accepted file are complete, and what is found of a set are its row's numbers.
use Rattle.std.specs.Prelude.{◌≡◌, refl, Bool, List, [], ◌∷◌, ℕ, suc, ◌-◌, ◌≤◌, ◌<◌, eqb, length}
use Rattle.std.proofs.Common.{sym, ◌∙◌, add-one, eqb-true}
use Rattle.std.proofs.Math.Bool.{true, false}
use native.Mathlib.Omega.{arith}
use Rattle.laws.specs.Choice.{pick}
use Rattle.text.specs.Blank.{all_blank}
use Rattle.layout.specs.Layout.{fields_of, layout_of}
use Rattle.layout.specs.LayoutLaws.{fields_of_some, widths_six}
use Rattle.record_table.specs.TypedSets.{header_lines}
use Rattle.judge.specs.Judge.{judged}
use Rattle.parts.specs.Parts.{Part, parts_of, dataset_of, line_start, line_of, last_line, past_of, through_of, is_function}
use Rattle.parts.specs.Function.{part_case, stored_of, data_start}
use Rattle.parts.specs.Padding.{last_field, remainder, padding_in, padding_of}
use Rattle.parts.specs.Set.{Standing}
use Rattle.parts.specs.SetLaws.{line_before}
use Rattle.parts.specs.TurnLaws.{closing_from}
use Rattle.theory.specs.Sets.{Set}
use Rattle.parts_laws.specs.Holds.{Holds, AtPlaces}
use Rattle.parts_laws.specs.DeclaresLaws.{number_held, case_held}
use Rattle.parts_laws.specs.CaseLaws.{case_eight}
use Rattle.parts_laws.specs.PaddingLaws.{stored_held, last_of}
use Rattle.parts_laws.proofs.PaddedLaws.{stored_some}
use Rattle.parts_laws.proofs.OrderLaws.{body_length}
use Rattle.judge_laws.specs.JudgeLaws.{zero_proper}
use Rattle.judge_laws.specs.HeldLaws.{proper_places}
use Rattle.lister.specs.Lister.{entry}
use Rattle.lister.specs.Listed.{listed_of, row_of, Complete, AllComplete, Small}

held_complete : {s : Set} {p : Part} → Holds s p → is_function p ≡ true → Complete p
held_complete {s} {p} h f =
    let e : s.number ≡ 58 = sym (number_held h) ∙ eqb-true (dataset_of p) 58 f in
    let c = case_held h e in
    let t = stored_held h in
    let eight = case_eight h.lines e in
    let some = stored_some h.lines e in
    record {
      eight = rw c eight;
      some = rw t some;
      lines = body_length h e ∙ rw (c, t, last_of _ _ (fields_of_some _ eight) some) refl;
    }

all_complete : {n at : ℕ} {ss : List Set} {ps : List Part} {ls : List (List ℕ)} → AtPlaces n at ss ps ls → AllComplete ps
all_complete (AtPlaces.end b) = AllComplete.none
all_complete (AtPlaces.more before after b i j h r) = AllComplete.more (held_complete h) (all_complete r)

pub accepted_complete : (file : List ℕ) → (judged file).number ≤ 0 → AllComplete (parts_of file)
accepted_complete file z = all_complete (proper_places (zero_proper file z).1)

-- the first of some sets
pub some_first : (ps : List Part) → 0 < length ps → (p : Part) × ((qs : List Part) × (ps ≡ p ∷ qs))
some_first [] h = absurd (omega arith)
some_first (p ∷ qs) h = (p, (qs, refl))

pub complete_first : {ps : List Part} (p : Part) (qs : List Part) → AllComplete ps → ps ≡ p ∷ qs → (is_function p ≡ true → Complete p) × AllComplete qs
complete_first p qs a e = by (rw e at a)
  where
    by : AllComplete (p ∷ qs) → (is_function p ≡ true → Complete p) × AllComplete qs
    by (AllComplete.more f r) = (f, r)

-- the row of a set, as it is found
pub row_own : (p : Part) → row_of (listed_of p) ≡ entry p
unfolding row_of listed_of entry
row_own p = rw (add-one p.lines) refl

-- its numbers are small
padding_most : (p : Part) → padding_of p ≤ 6
unfolding padding_of padding_in fields_of
padding_most p = by (eqb (stored_of p) 0) (all_blank (remainder (part_case p) (stored_of p) (line_of p (last_line p))))
  where
    by : (t u : Bool) → pick t 0 (pick u 0 (length (layout_of (part_case p)).widths - suc (last_field (part_case p) (stored_of p)))) ≤ 6
    by true u = omega arith
    by false true = omega arith
    by false false = omega (arith, widths_six (part_case p))

through_more : (p : Part) → p.lines < through_of p
unfolding through_of
through_more p = omega arith

module _ (file : List ℕ) (n at : ℕ) (p : Part) (ps : List Part) (s : Standing file n at p ps) where
  data_most : data_start p ≤ past_of p
  unfolding data_start
  data_most = by (is_function p)
    where
      by : (t : Bool) → pick t (line_start p header_lines) 0 ≤ past_of p
      by true = omega (arith, line_before file n at p ps s header_lines, s.later)
      by false = omega arith

  pub small_own : n ≤ at → Small (length file) (listed_of p)
  unfolding listed_of
  small_own few = record {
    past = s.past;
    lines = omega (arith, through_more p, s.count, s.from, s.later, closing_from p);
    first = omega (arith, closing_from p, s.later);
    values = data_most;
    padding = padding_most p;
  }
