-- The numbers that the writer laid out are the stored numbers of the set, index by index.
use Rattle.std.specs.Prelude.{◌≡◌, refl, true, List, [], ◌∷◌, ◌++◌, map, ℤ, pos, nat_abs, take, drop, replicate, Ok}
use Rattle.std.proofs.Math.Path.{sym, ap}
use Rattle.std.proofs.Common.{subst, ◌∙◌, append_assoc, add-zero, suc-mul, zero-mul, arith, length-append, take_at, drop_at, drop-drop}
use Prim.Native.Nat.{ℕ, zero, suc, ◌+◌, ◌-◌, ◌*◌, ◌^◌, ◌≤◌, ◌<◌}
use Rattle.std.proofs.Math.Nat.{zero-add}
use Rattle.std.proofs.Math.ListN.{length, get_or, length-drop, get_or-append, get_or-map}
use Rattle.std.proofs.Math.Seq.{get_or-drop, get_or-append-add}
use Rattle.text.specs.Parts.{signed}
use Rattle.line.specs.Line.{filled}
use Rattle.line.specs.LineLaws.{filled_short, columns_allowed}
use Rattle.real.specs.declared.Number.{Number}
use Rattle.real.specs.Real.{Real, number_of}
use Rattle.real.proofs.RealLaws.{real_of_complete}
use Rattle.real.specs.EndLaws.{signed_size}
use Rattle.layout.specs.Columns.{field_start, line_of, field_of}
use Rattle.layout.specs.ColumnsLaws.{field_of_inside, stored_at}
use Rattle.layout.specs.Layout.{layout_of, fields_of}
use Rattle.layout.specs.LayoutLaws.{fields_of_some, total_inside}
use Rattle.field.specs.Item.{Item}
use Rattle.record_table.specs.Row.{Row}
use Rattle.record_table.specs.Records.{plain, records, record_of, no_record}
use Rattle.record_table.specs.TypedSets.{kind_of, sequence, typed_sets, header_lines, kind58}
use Rattle.record.specs.Written.{Written}
use Rattle.decimal.specs.Decimal.{field_text, SameNumber, ReadBack}
use Rattle.decimal.specs.DecimalLaws.{field_text_length, fits_read}
use Rattle.laws.specs.ChoiceLaws.{false_not_true}
use Rattle.laws.specs.Cut.{cut}
use Rattle.header.specs.Header.{header_of}
use Rattle.theory.specs.Sets.{Set}
use Rattle.theory.specs.Due.{lists_of, set_rows}
use Rattle.theory.specs.Proper.{SetLines}
use Rattle.parts.specs.Parts as Parts
use Rattle.parts_laws.specs.Holds.{Holds}
use Rattle.parts_laws.specs.Declares.{set_case}
use Rattle.parts_laws.specs.DeclaresLaws.{typed_line, typed_58, line_of_columns, number_held, case_held}
use Rattle.parts_laws.specs.Stored.{stored_count, stored_item, own_columns}
use Rattle.parts_laws.specs.StoredLaws.{stored_spelled}
use Rattle.parts_laws.specs.PaddingLaws.{stored_held}
use Rattle.parts_laws.specs.Field.{Spelled}
use Rattle.writer.specs.Writer.{decimals_of, width_at, fits_at}
use Rattle.rewriter_laws.specs.NumberLaws.{plain_number_again}
use Rattle.writer_laws.specs.DataLines.{fields_text, data_lines}
use Rattle.writer_laws.specs.HeaderRun.{Passed}
use Rattle.writer_laws.specs.DataTextLaws.{field_at}
use Rattle.writer_laws.specs.Line.{Fit}
use Rattle.writer_laws.specs.LineLaws.{fields_allowed, fields_length}
use Rattle.writer_laws.specs.DataRun.{AllFit, Roomy}
use Rattle.writer_laws.specs.DataRunLaws.{fit_same, fit_drop, fit_line, width_roomy}
use Rattle.writer_laws.specs.LentLaws.{lent_part, line_first_lem, lent_case, lent_stored}
use Rattle.writer_laws.specs.Back.{Back}

-- field k of a line
field_of_lem : (vs : List ℕ) (k : ℕ) (xs ss : List ℤ) (bl : List ℕ) → k < length vs → k < length xs → length xs ≡ length ss
    → take (get_or vs k 0) (drop (field_start vs k) (fields_text vs xs ss ++ bl)) ≡ field_text (get_or vs k 0) (decimals_of (get_or vs k 0)) (get_or xs k (pos 0)) (get_or ss k (pos 0))
unfolding fields_text field_start
field_of_lem [] k xs ss bl a b e = absurd (omega arith)
field_of_lem (v ∷ vs) k [] ss bl a b e = absurd (omega arith)
field_of_lem (v ∷ vs) k (x ∷ xs) [] bl a b e = absurd (omega arith)
field_of_lem (v ∷ vs) zero (x ∷ xs) (s ∷ ss) bl a b e =
    rw append_assoc (take_at (field_text v (decimals_of v) x s) (fields_text vs xs ss ++ bl) v (field_text_length v (decimals_of v) x s))
field_of_lem (v ∷ vs) (suc k) (x ∷ xs) (s ∷ ss) bl a b e =
    rw (
      append_assoc,
      ← (drop-drop (field_start vs k) v (field_text v (decimals_of v) x s ++ (fields_text vs xs ss ++ bl))),
      drop_at (field_text v (decimals_of v) x s) (fields_text vs xs ss ++ bl) v (field_text_length v (decimals_of v) x s),
    )
    (field_of_lem vs k xs ss bl (omega arith) (omega arith) (omega arith))

-- data line q
line_of_lem : (f : ℕ) (ws : List ℕ) (q : ℕ) (xs ss : List ℤ) → length xs ≤ f → q * length ws < length xs → 0 < length ws
    → get_or (data_lines f ws xs ss) q [] ≡ fields_text ws (drop (q * length ws) xs) (drop (q * length ws) ss)
unfolding data_lines
line_of_lem zero ws q xs ss h l p = absurd (omega arith)
line_of_lem (suc f) ws q [] ss h l p = absurd (omega arith)
line_of_lem (suc f) ws zero (x ∷ xs) ss h l p = rw (zero-mul (length ws)) refl
line_of_lem (suc f) ws (suc q) (x ∷ xs) ss h l p =
    let z : suc q * length ws ≡ length ws + q * length ws = suc-mul q (length ws) ∙ omega arith in
    line_of_lem f ws q (drop (length ws) (x ∷ xs)) (drop (length ws) ss) (rw length-drop (omega arith)) (rw length-drop (omega arith)) p
    ∙ rw (z, drop-drop (q * length ws) (length ws) (x ∷ xs), drop-drop (q * length ws) (length ws) ss) refl

-- number i fits
record FitAt (c j : ℕ) (x s : ℤ) : Type 0 where
  small : nat_abs x < 10 ^ 20
  fit : fits_at c j x s ≡ true

fit_at : {c j : ℕ} {xs ss : List ℤ} (i : ℕ) → AllFit c j xs ss → i < length xs → FitAt c (j + i) (get_or xs i (pos 0)) (get_or ss i (pos 0))
fit_at i AllFit.none h = absurd (omega arith)
fit_at {c} {j} zero (AllFit.more n f t) h = record { small = n; fit = rw add-zero f }
fit_at {c} {j} (suc i) (AllFit.more n f t) h = let z : j + suc i ≡ suc j + i = omega arith in rw z (fit_at i t (omega arith))

-- the rows of a 58's first eleven lines
header_row : (iss : List (List Item)) (i : ℕ) → i < header_lines → get_or (set_rows 58 iss) i (plain []) ≡ record_of (get_or (sequence kind58) i no_record)
unfolding set_rows kind_of sequence typed_sets record_of records
header_row iss i h =
    let ks : List ℕ = sequence kind58 in
    get_or-append (map record_of ks) (lists_of kind58 iss) (plain []) i h ∙ get_or-map record_of ks i no_record

rows_eleven : (iss : List (List Item)) (i : ℕ) → i < header_lines → i < length (set_rows 58 iss)
unfolding set_rows kind_of sequence typed_sets
rows_eleven iss i h = rw (length-append (map record_of (sequence kind58)) (lists_of kind58 iss)) (omega arith)

header_line : {s : Set} {css : List (List ℕ)} → SetLines s css → s.number ≡ 58 → (i : ℕ) → i < header_lines
    → Written (record_of (get_or (sequence kind58) i no_record)) (get_or s.lines i []) (filled (get_or css i []))
header_line (SetLines.typed {n} {iss} {css} t l) e i h =
    subst (λ (r : Row). Written r (get_or iss i []) (filled (get_or css i []))) (header_row iss i h) (typed_line i (rw e at l) (rows_eleven iss i h))
header_line (SetLines.plain {n} t l) e i h = false_not_true (sym (rw e at t) ∙ typed_58)

-- columns that spell an item and that show a number: the item is the number
item_back : (x s : ℤ) (i : Item) (cols : List ℕ) → Spelled i cols → ReadBack x s cols → Back x s i
item_back x s i cols p r =
    let e : r.number ≡ number_of p.minus p.coefficient p.scale = value_same (sym r.read ∙ real_of_complete p.spelling) in
    record {
      minus = p.minus;
      coefficient = p.coefficient;
      scale = p.scale;
      item = p.item;
      sign = ap (λ (v : Number). v.minus) (sym e) ∙ r.sign;
      same = subst (SameNumber (nat_abs x) s p.coefficient) (signed_size p.scale) (subst (λ (v : Number). SameNumber (nat_abs x) s v.coefficient (signed v.below v.scale)) e r.same);
    }
  where
    value_same : {a b : Number} → ◌≡◌ {A = Real} (Ok a) (Ok b) → a ≡ b
    value_same q = cc

module _ (header : List ℕ) (p : Passed header) (xs ss : List ℤ) (stored : length xs ≡ (header_of header).stored) (fit : AllFit (header_of header).case 0 xs ss) where
  abbrev c : ℕ
  c = (header_of header).case

  abbrev lent : Parts.Part
  lent = lent_part header p xs ss stored fit

  abbrev data_lines_lem : List (List ℕ)
  data_lines_lem = data_lines (length xs) (layout_of c).widths xs ss

  -- the data lines stand after the header's
  line_later : (q : ℕ) → Parts.line_of lent (header_lines + q) ≡ Parts.columns_in (get_or data_lines_lem q [])
  unfolding Parts.line_of
  line_later q = ap Parts.columns_in (ap (λ (n : ℕ). get_or ((cut header).lines ++ data_lines_lem) (n + q) []) (sym p.lines) ∙ get_or-append-add (cut header).lines data_lines_lem q [])

  -- the line of stored number j
  module _ (j : ℕ) (l : j < length xs) where
    abbrev q : ℕ
    q = line_of (fields_of c) j

    abbrev first : ℕ
    first = q * length (layout_of c).widths

    abbrev line : List ℕ
    line = fields_text (layout_of c).widths (drop first xs) (drop first ss)

    place : first + field_of (fields_of c) j ≡ j
    unfolding fields_of
    place = stored_at (fields_of c) j

    field : field_of (fields_of c) j < length (layout_of c).widths
    unfolding fields_of
    field = field_of_inside (fields_of c) j (fields_of_some c p.case_below)

    line_fit : Fit (layout_of c).widths (drop first xs) (drop first ss)
    unfolding fields_of
    line_fit =
        let z : field_of (fields_of c) first ≡ 0 = field_at (fields_of c) q 0 first (fields_of_some c p.case_below) (omega arith) in
        fit_line c p.case_below (layout_of c).widths (fit_drop first fit) (rw (zero-add, z) refl)

    line_columns : Parts.line_of lent (header_lines + q) ≡ line ++ replicate (80 - length line) 32
    line_columns =
        line_later q
        ∙ ap Parts.columns_in (line_of_lem (length xs) (layout_of c).widths q xs ss (omega arith) (omega (arith, place)) (omega (arith, field)))
        ∙ rw (columns_allowed (fields_allowed line_fit)) (filled_short line (omega (arith, fields_length (layout_of c).widths (drop first xs) (drop first ss), total_inside c)))

    own_text : own_columns c lent j ≡ field_text (width_at c j) (decimals_of (width_at c j)) (get_or xs j (pos 0)) (get_or ss j (pos 0))
    unfolding own_columns width_at
    own_text =
        let k : ℕ = field_of (fields_of c) j in
        let w : ℕ = get_or (layout_of c).widths k 0 in
        rw line_columns
        (field_of_lem (layout_of c).widths k (drop first xs) (drop first ss) (replicate (80 - length line) 32) field (rw length-drop (omega (arith, place))) (rw (length-drop, length-drop) (omega (arith, fit_same fit)))
        ∙ rw (get_or-drop first xs k (pos 0), get_or-drop first ss k (pos 0), place) refl)

    own_read : ReadBack (get_or xs j (pos 0)) (get_or ss j (pos 0)) (own_columns c lent j)
    unfolding fits_at
    own_read =
        let r : Roomy (width_at c j) = width_roomy c p.case_below j in
        let f : FitAt c (0 + j) (get_or xs j (pos 0)) (get_or ss j (pos 0)) = fit_at j fit l in
        rw own_text (fits_read (width_at c j) (decimals_of (width_at c j)) (get_or xs j (pos 0)) (get_or ss j (pos 0)) f.small r.digits r.room (rw zero-add at f.fit))

  module _ (s : Set) (h : Holds s lent) where
    pub set_number : s.number ≡ 58
    unfolding Parts.dataset_of
    set_number = sym (number_held h) ∙ plain_number_again 58 (omega arith) (omega arith)

    -- the items of its first eleven lines are written in the header's lines
    pub set_header : (i : ℕ) → i < header_lines → Written (record_of (get_or (sequence kind58) i no_record)) (get_or s.lines i []) (Parts.columns_in (get_or (cut header).lines i []))
    set_header i l = rw (← line_first_lem header p xs ss stored fit i l, line_of_columns lent i) (header_line h.lines set_number i l)

    pub set_case_lem : set_case s ≡ c
    set_case_lem = sym (case_held h set_number) ∙ lent_case header p xs ss stored fit

    pub set_stored : stored_count s ≡ length xs
    set_stored = sym (stored_held h) ∙ lent_stored header p xs ss stored fit

    pub stored_back : (j : ℕ) → j < length xs → Back (get_or xs j (pos 0)) (get_or ss j (pos 0)) (stored_item s j)
    stored_back j l =
        item_back (get_or xs j (pos 0)) (get_or ss j (pos 0)) (stored_item s j) (own_columns c lent j)
        (rw set_case_lem at (stored_spelled h set_number j (rw set_stored l))) (own_read j l)
