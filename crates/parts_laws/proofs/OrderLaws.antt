-- The own columns of the stored numbers of a 58 and of its padding: inside the set's lines, in order, and apart.
use Rattle.std.specs.Prelude.{◌≡◌, take}
use Rattle.std.proofs.Math.Path.{refl, subst}
use Rattle.std.proofs.Common.{sym, ◌∙◌}
use Rattle.std.proofs.Math.Logic.{⊎_elim}
use Rattle.std.proofs.Math.Bool.{true}
use mathlib.Core.List.{List, [], ◌∷◌}
use Prim.Native.Nat.{ℕ, zero, suc, ◌+◌, ◌<◌, ◌≤◌}
use Rattle.std.proofs.Math.Nat.{zero-div, zero-mod}
use native.Mathlib.Omega.{arith}
use Rattle.std.proofs.Math.ListN.{length, get_or}
use Rattle.std.proofs.lemmas.List.{length-map}
use Rattle.line.specs.Line.{columns}
use Rattle.line.specs.LineLaws.{columns_within}
use Rattle.real.proofs.RealLaws.{real_of_complete}
use Rattle.layout.specs.Columns.{field_start, field_past, line_of, field_of}
use Rattle.layout.specs.ColumnsLaws.{stored_apart}
use Rattle.layout.specs.Layout.{layout_of, fields_of}
use Rattle.layout.specs.LayoutLaws.{field_past_inside, fields_of_some}
use Rattle.record_table.specs.TypedSets.{header_lines}
use Rattle.theory.specs.Sets.{Set}
use Rattle.theory.specs.Due.{lines_for}
use Rattle.parts.specs.Parts as Parts
use Rattle.parts.specs.Function as Function
use Rattle.parts.specs.Padding.{padding_of}
use Rattle.parts.specs.Set.{Somewhere}
use Rattle.parts_laws.specs.Holds.{Holds}
use Rattle.parts_laws.specs.Declares.{set_case}
use Rattle.parts_laws.specs.DeclaresLaws.{case_held}
use Rattle.parts_laws.specs.Stored.{stored_count, own_columns}
use Rattle.parts_laws.specs.StoredLaws.{stored_case, set_data}
use Rattle.parts_laws.proofs.PaddedLaws.{stored_some, number_line, number_spelled}
use Rattle.parts_laws.specs.Field.{Spelled}
use Rattle.parts_laws.specs.BytesLaws.{reaches, value_some}

-- bytes of the first lines
pub bytes_in_next : (k : ℕ) (ls : List (List ℕ)) → k < length ls → Parts.bytes_in (take (suc k) ls) ≡ Parts.bytes_in (take k ls) + suc (length (get_or ls k []))
unfolding Parts.bytes_in
bytes_in_next zero [] h = absurd (omega arith)
bytes_in_next zero (l ∷ ls) h = omega arith
bytes_in_next (suc k) [] h = absurd (omega arith)
bytes_in_next (suc k) (l ∷ ls) h = let e : Parts.bytes_in (take (suc k) ls) ≡ Parts.bytes_in (take k ls) + suc (length (get_or ls k [])) = bytes_in_next k ls (omega arith) in omega arith

pub bytes_in_rise : (a b : ℕ) (ls : List (List ℕ)) → a ≤ b → Parts.bytes_in (take a ls) ≤ Parts.bytes_in (take b ls)
unfolding Parts.bytes_in
bytes_in_rise zero b ls h = omega arith
bytes_in_rise (suc a) zero ls h = absurd (omega arith)
bytes_in_rise (suc a) (suc b) [] h = omega arith
bytes_in_rise (suc a) (suc b) (l ∷ ls) h = let m : Parts.bytes_in (take a ls) ≤ Parts.bytes_in (take b ls) = bytes_in_rise a b ls (omega arith) in omega arith

bytes_in_all : (a : ℕ) (ls : List (List ℕ)) → Parts.bytes_in (take a ls) ≤ Parts.bytes_in ls
unfolding Parts.bytes_in
bytes_in_all zero ls = omega arith
bytes_in_all (suc a) [] = omega arith
bytes_in_all (suc a) (l ∷ ls) = let m : Parts.bytes_in (take a ls) ≤ Parts.bytes_in ls = bytes_in_all a ls in omega arith

-- a line begins past the one before it, and the closing delimiter past them all
module _ (p : Parts.Part) where
  pub lines_apart : (a b : ℕ) → a < length p.body → a < b → Parts.line_start p a + suc (length (get_or p.body a [])) ≤ Parts.line_start p b
  unfolding Parts.line_start
  lines_apart a b h l =
      let e : Parts.bytes_in (take (suc a) p.body) ≡ Parts.bytes_in (take a p.body) + suc (length (get_or p.body a [])) = bytes_in_next a p.body h in
      let m : Parts.bytes_in (take (suc a) p.body) ≤ Parts.bytes_in (take b p.body) = bytes_in_rise (suc a) b p.body l in
      omega arith

  pub line_closing : (a : ℕ) → a < length p.body → Parts.line_start p a + suc (length (get_or p.body a [])) ≤ Parts.closing_start p
  unfolding Parts.line_start Parts.closing_start
  line_closing a h =
      let e : Parts.bytes_in (take (suc a) p.body) ≡ Parts.bytes_in (take a p.body) + suc (length (get_or p.body a [])) = bytes_in_next a p.body h in
      let m : Parts.bytes_in (take (suc a) p.body) ≤ Parts.bytes_in p.body = bytes_in_all (suc a) p.body in
      omega arith

-- a number of a 58 in a text, stored or padding: its line is there, and its columns are columns of that line
module _ {s : Set} {p : Parts.Part} (h : Holds s p) (e : s.number ≡ 58) where
  -- how many there are
  abbrev numbers : ℕ
  numbers = stored_count s + padding_of p

  pub record Seated (j : ℕ) : Type 0 where
    pub line : header_lines + line_of (fields_of (Function.part_case p)) j < length p.body
    pub past : field_past (layout_of (Function.part_case p)).widths (field_of (fields_of (Function.part_case p)) j) ≤ length (get_or p.body (header_lines + line_of (fields_of (Function.part_case p)) j) [])
    pub some : field_start (layout_of (Function.part_case p)).widths (field_of (fields_of (Function.part_case p)) j)
        < field_past (layout_of (Function.part_case p)).widths (field_of (fields_of (Function.part_case p)) j)

  pub body_length : length p.body ≡ header_lines + lines_for (fields_of (set_case s)) (stored_count s)
  body_length = sym (length-map p.body (columns true)) ∙ (set_data h.lines e).count

  start_rise : (k : ℕ) → Parts.line_start p header_lines ≤ Parts.line_start p (header_lines + k)
  unfolding Parts.line_start
  start_rise k =
      let b : List (List ℕ) = p.body in
      let m : Parts.bytes_in (take header_lines b) ≤ Parts.bytes_in (take (header_lines + k) b) = bytes_in_rise header_lines (header_lines + k) b (omega arith) in
      omega arith

  pub seated : (j : ℕ) → j < numbers → Seated j
  unfolding own_columns Parts.line_of field_past
  seated j l =
      let q : Function.part_case p ≡ set_case s = case_held h e in
      let m : line_of (fields_of (set_case s)) j < lines_for (fields_of (set_case s)) (stored_count s) = number_line h e (stored_some h.lines e) j l in
      let n : line_of (fields_of (Function.part_case p)) j ≡ line_of (fields_of (set_case s)) j = rw q refl in
      let y = number_spelled h e (stored_some h.lines e) j l in
      let x : Spelled y.0 (own_columns (Function.part_case p) p j) = subst (λ (c : ℕ). Spelled y.0 (own_columns c p j)) (sym q) y.1 in
      let v = real_of_complete x.spelling in
      let w : 0 < get_or (layout_of (Function.part_case p)).widths (field_of (fields_of (Function.part_case p)) j) 0 = value_some _ _ _ v in
      let c : ℕ = Function.part_case p in
      let row : List ℕ = get_or p.body (header_lines + line_of (fields_of c) j) [] in
      let k : ℕ = field_of (fields_of c) j in
      let ws : List ℕ = (layout_of c).widths in
      let r = reaches (columns true row) (field_start ws k) (get_or ws k 0) _ (field_past_inside c k) v in
      record {
        line = omega (arith, body_length);
        past = omega (arith, r, columns_within true (get_or p.body (header_lines + line_of (fields_of (Function.part_case p)) j) []));
        some = omega arith;
      }

  -- some columns, inside the set's data lines
  pub columns_inside : (j : ℕ) → j < numbers
      → (Parts.line_start p header_lines ≤ Function.first_byte p j) × ((Function.first_byte p j < Function.past_byte p j) × (Function.past_byte p j ≤ Parts.closing_start p))
  unfolding Function.first_byte Function.past_byte Function.data_line
  columns_inside j l =
      let t = seated j l in
      let c : Parts.line_start p header_lines ≤ Parts.line_start p (header_lines + line_of (fields_of (Function.part_case p)) j) = start_rise (line_of (fields_of (Function.part_case p)) j) in
      (omega arith, (omega (arith, t.some), omega (arith, t.past, line_closing p (header_lines + line_of (fields_of (Function.part_case p)) j) t.line)))

  -- in order, and apart
  pub columns_apart : (i j : ℕ) → i < j → j < numbers → Function.past_byte p i ≤ Function.first_byte p j
  unfolding Function.first_byte Function.past_byte Function.data_line fields_of
  columns_apart i j o l =
      let b : 0 < fields_of (set_case s) = fields_of_some (set_case s) (stored_case s 0 (stored_some h.lines e)) in
      let m : 0 < length (layout_of (Function.part_case p)).widths = subst (λ (y : ℕ). 0 < length (layout_of y).widths) (sym (case_held h e)) b in
      let t = seated i (omega arith) in
      let n : ℕ = length (layout_of (Function.part_case p)).widths in
      ⊎_elim
      (λ q. omega (arith, t.past, lines_apart p (header_lines + line_of n i) (header_lines + line_of n j) t.line (omega arith)))
      (λ q. rw q.0 (omega (arith, q.1)))
      (stored_apart (layout_of (Function.part_case p)).widths i j m o)

-- a stored number's columns are bytes of the text
pub past_within : {s : Set} {p : Parts.Part} (bytes : List ℕ) (ps : List Parts.Part) → Somewhere bytes p ps → Holds s p → s.number ≡ 58 → (j : ℕ) → j < stored_count s
    → Function.past_byte p j ≤ length bytes
past_within bytes ps w h e j l = omega (arith, (columns_inside h e j (omega arith)).1.1, w.stands.later, w.stands.past)

-- the first stored number begins the data lines
pub first_column : (p : Parts.Part) → Function.first_byte p 0 ≡ Parts.line_start p header_lines
unfolding Function.first_byte Function.data_line line_of field_of field_start
first_column p = rw (zero-div (fields_of (Function.part_case p)), zero-mod (fields_of (Function.part_case p))) (omega arith)
