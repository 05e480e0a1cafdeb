-- What the judge accepts has a real in each stored number's columns.
use Rattle.std.specs.Prelude.{◌≡◌, Some, ℕ, zero, suc, ◌+◌, ◌-◌, ◌*◌, ◌≤◌, ◌<◌, length, get_or, take, drop}
use Rattle.std.proofs.Math.Path.{refl}
use Rattle.std.proofs.Common.{sym, ap, subst, ◌∙◌, zero-mul, length-drop, length-take-le}
use Rattle.std.proofs.Math.Logic.{⊎_elim}
use mathlib.Core.List.{List, ◌∷◌}
use native.Mathlib.Omega.{arith}
use borrow.Author.Tests.{eqb-true, ltb-true, le-leb}
use Rattle.laws.specs.ChoiceLaws.{and_left, and_right}
use Rattle.real.specs.Real.{real_of}
use Rattle.layout.specs.Columns.{field_of, field_past}
use Rattle.layout.specs.ColumnsLaws.{field_of_inside}
use Rattle.layout.specs.Layout.{layout_of, fields_of, numbers_of}
use Rattle.layout.specs.LayoutLaws.{fields_of_some}
use Rattle.parts.specs.Parts.{Part, is_function, dataset_of}
use Rattle.parts.specs.Set.{Somewhere}
use Rattle.parts.specs.Function.{part_case, count_of, stored_of, first_byte, past_byte}
use Rattle.judge.specs.declared.Reply.{Reply}
use Rattle.judge.specs.Judge.{judged}
use Rattle.theory.specs.Sets.{Set}
use Rattle.parts_laws.specs.Holds.{Holds}
use Rattle.parts_laws.specs.DeclaresLaws.{number_held}
use Rattle.parts_laws.specs.Stored.{stored_count}
use Rattle.parts_laws.proofs.ShownLaws.{stored_shown}
use Rattle.parts_laws.specs.PaddingLaws.{stored_held}
use Rattle.parts_laws.proofs.PaddedLaws.{stored_some}
use Rattle.parts_laws.proofs.OrderLaws.{past_within}
use Rattle.judge_laws.specs.HeldLaws.{accepted_held}
use Rattle.reader.specs.declared.Data.{Data}
use Rattle.reader.specs.Reader.{sets_from, read_in, read_of}
use Rattle.reader.specs.Find.{data_of}
use Rattle.reader.specs.FindLaws.{stands}
use Rattle.reader.specs.ReaderLaws.{own, Owned, data_owned}
use Rattle.reader.specs.SpanLaws.{first_own, past_own}
use Rattle.values.specs.LinesLaws.{width_either}
use Rattle.values.specs.Scale.{RealColumns}
use Rattle.values.specs.Accepted.{RealIn, AllReal}

-- a field has 13 or 20 columns
module _ (p : Part) (j : ℕ) (eight : part_case p < 8) where
  abbrev width : ℕ
  width = get_or (layout_of (part_case p)).widths (field_of (fields_of (part_case p)) j) 0

  field_columns : (first_byte p j + 13 ≤ past_byte p j) × (past_byte p j ≤ first_byte p j + 20)
  unfolding past_byte first_byte field_past
  field_columns =
      let either = width_either (part_case p) _ eight (field_of_inside (fields_of (part_case p)) j (fields_of_some (part_case p) eight)) in
      ⊎_elim (λ (e : width ≡ 13). (omega arith, omega arith)) (λ (e : width ≡ 20). (omega arith, omega arith)) either

-- a 58 of the list as it stands in the file
module _ (file : List ℕ) (p : Part) (ps : List Part) (w : Somewhere file p ps) (eight : part_case p < 8) (s : Set) (h : Holds s p) (e : s.number ≡ 58) where
  real_in_lem : (j : ℕ) → j < stored_count s → RealIn file (first_byte p j) (past_byte p j)
  real_in_lem j l =
      let x = stored_shown file ps w h e j l in
      let inside : past_byte p j ≤ length file = past_within file ps w h e j l in
      let n = length-take-le (past_byte p j - first_byte p j) (drop (first_byte p j) file) (simp length-drop (omega arith)) in
      let c = field_columns p j eight in
      record {
        inside = inside;
        columns = record { wide = omega arith; narrow = omega arith; minus = x.minus; coefficient = x.coefficient; scale = x.scale; spelling = x.spelling };
      }

  own_real : AllReal file (own file p ps w) (count_of p * numbers_of (part_case p))
  unfolding stored_of
  own_real =
      record {
        real = λ j l.
            let st = w.stands in
            rw (first_own file w.before w.from p ps st (count_of p) j, past_own file w.before w.from p ps st (count_of p) j)
            (real_in_lem j (rw (stored_held h) at l));
      }

-- a product of which something is left
some_left : (a b : ℕ) → 0 < a * b → 0 < a
some_left zero b h = absurd (omega (arith, zero-mul b))
some_left (suc a) b h = omega arith

-- the set asked for
set_held : (file : List ℕ) (set : ℕ) (p : Part) (ps : List Part) → (judged file).number ≤ 0 → sets_from file set ≡ p ∷ ps → (s : Set) × Holds s p
unfolding sets_from
set_held file zero p ps z q = let y : 0 ≡ suc (length ps) = ap length q in absurd (omega arith)
set_held file (suc k) p ps z q = accepted_held file z k p ps q

module _ (file : List ℕ) (r : Reply) (f : r ≡ judged file) (accepted : r.number ≤ 0) (set : ℕ) where
  module _ (d : Data) (q : Some d ≡ data_of (sets_from file set)) where
    abbrev o : Owned (sets_from file set) d
    o = data_owned (sets_from file set) d q

    held : (s : Set) × Holds s o.part
    held = set_held file set o.part o.others (rw f at accepted) o.first

    a58 : held.0.number ≡ 58
    a58 = sym (number_held held.1) ∙ eqb-true (dataset_of o.part) 58 (and_left (is_function o.part) _ o.eight)

    part_real : AllReal file (own file o.part o.others (stands file set o.part o.others o.first)) (count_of o.part * numbers_of (part_case o.part))
    part_real =
        let b = ltb-true (part_case o.part) 8 (and_right (is_function o.part) _ o.eight) in
        own_real file o.part o.others (stands file set o.part o.others o.first) b held.0 held.1 a58

    pub accepted_real : (n k : ℕ) → n ≡ d.count * k → k ≡ numbers_of d.case → AllReal file d n
    accepted_real n k m e = rw (m, e) (subst (λ (x : Data). AllReal file x (x.count * numbers_of x.case)) (sym o.own) part_real)

    -- and has values
    pub accepted_some : 0 < d.count
    unfolding stored_of
    accepted_some =
        let stored : 0 < stored_of o.part = rw (stored_held held.1) (stored_some held.1.lines a58) in
        subst (λ (x : Data). 0 < x.count) (sym o.own) (some_left (count_of o.part) (numbers_of (part_case o.part)) stored)

-- what is read in the columns of a real, by their first byte and their number
module _ {file : List ℕ} {a e : ℕ} (r : RealIn file a e) (w : ℕ) (f : a + w ≡ e) where
  pub columns_own : RealColumns (take (a + w - a) (drop a file))
  columns_own = rw f r.columns

  pub columns_read : read_of (real_of (take (a + w - a) (drop a file))) ≡ read_of (read_in file a e)
  unfolding read_in
  columns_read = rw (f, le-leb e (length file) r.inside) refl
