-- A data line whose columns and end pass the tables is one that the step of a line accepts.
use Rattle.std.specs.Prelude.{◌≡◌, Bool, true, ◌&&◌, ℕ, suc, ◌+◌, ◌-◌, ◌≤◌, ◌<◌, eqb, get_or, take, drop}
use Rattle.std.proofs.Math.Path.{refl, sym, ap}
use Rattle.std.proofs.Common.{◌∙◌, inl, inr, ⊎_elim, arith, length-drop, take-append-drop, drop-cons, take-take, take_all, get_or-drop}
use Rattle.std.proofs.Math.Bool.{false}
use mathlib.Core.List.{List, [], ◌∷◌, ◌++◌, map, append_assoc}
use borrow.Author.Tests.{eqb-true, ne_eqb, lt-ltb}
use Rattle.std.proofs.Math.ListN.{length, replicate, length-append, length-replicate}
use Rattle.std.proofs.Math.Seq.{take_at}
use Rattle.laws.specs.Cut.{line_len}
use Rattle.laws.specs.ChoiceLaws.{false_not_true}
use Rattle.laws.specs.Table.{tabulate}
use Rattle.text.specs.Blank.{Blanks}
use Rattle.text.specs.BlankLaws.{blanks_append, blanks_replicate}
use Rattle.line.specs.Line.{passed, Allowed, columns, line_fault, filled}
use Rattle.line.specs.LineLaws.{allowed_append, columns_allowed, columns_crlf, line_fault_complete, filled_short}
use Rattle.layout.specs.Columns.{field_start, field_past, total}
use Rattle.layout.specs.ColumnsLaws.{field_past_before}
use Rattle.layout.specs.Layout.{layout_of, fields_of, cell_of}
use Rattle.delimiter.specs.Kind.{is_delimiter}
use Rattle.real.specs.Spelling.{Letter}
use Rattle.real.specs.ByteLaws.{is_letter_sound}
use Rattle.record_table.specs.Row.{Field, Row, first_fields}
use Rattle.record_table.specs.Records.{E, data_row, no_record}
use Rattle.record_table.specs.PaddingLaws.{data_full}
use Rattle.record_table.specs.TypedSets.{typed_sets, sequence, kind58, header_lines}
use Rattle.record.specs.Check.{fields_refusal, taken, row_refusal}
use Rattle.record.specs.TakenLaws.{taken_is}
use Rattle.walk.specs.declared.State.{State}
use Rattle.walk.specs.declared.Due.{Due}
use Rattle.walk.specs.declared.Place.TheVariants.{Typed}
use Rattle.std.specs.Prelude.{Ok}
use Rattle.walk.specs.Due.{due, record_due, row_due, may_continue, settled, after, after_items, after_list}
use Rattle.walk.specs.DueLaws.{row_refusal_data, list_row_58, data_row_length}
use Rattle.walk.specs.Step.{state, typed_step, step_of}
use Rattle.usual.specs.declared.Shape.{Shape}
use Rattle.usual.specs.declared.Run.{Run}
use Rattle.usual.specs.declared.Ahead.{Ahead}
use Rattle.usual_columns.specs.declared.Tables.{Tables}
use Rattle.usual_columns.specs.Cells.{blank, any, row_cells, line_cells, table_cells, Wide, Fits, Passed}
use Rattle.usual_columns.specs.CellsLaws.{fits_split, fits_length, fits_passed}
use Rattle.usual_columns.specs.FieldLaws.{blanks_allowed, blanks_fit, line_len_allowed}
use Rattle.usual_columns.specs.RowLaws.{wide_at, row_length, row_allowed, row_passes, row_delimiter}
use Rattle.usual_columns.specs.WidthsLaws.{layout_wide, layout_some, six_widths}
use Rattle.usual.specs.Taken.{LineTaken, Taken, data_state, Ends, Shaped, Ready, LineOf, run, Ran, ahead, NoneAhead, RanAhead}

-- where the first line of bytes ends, and its columns: of bytes that may stand in columns, then LF or CR LF
record Ended (cs l : List ℕ) (n : ℕ) : Type 0 where
  length_is : line_len l ≡ n
  columns_are : columns true (take (line_len l) l) ≡ cs

ended_lf : {cs : List ℕ} (l r : List ℕ) → Allowed cs → l ≡ cs ++ (10 ∷ r) → Ended cs l (length cs)
unfolding line_len
ended_lf {cs} l r a e =
    let n : line_len l ≡ length cs = ap line_len e ∙ line_len_allowed (10 ∷ r) a ∙ omega arith in
    record { length_is = n; columns_are = ap (columns true) (rw (n, e) (take_at cs (10 ∷ r) (length cs) refl)) ∙ columns_allowed a }

ended_crlf : {cs : List ℕ} (l r : List ℕ) → Allowed cs → l ≡ cs ++ (13 ∷ 10 ∷ r) → Ended cs l (length cs + 1)
unfolding line_len
ended_crlf {cs} l r a e =
    let n : line_len l ≡ length cs + 1 = ap line_len e ∙ line_len_allowed (13 ∷ 10 ∷ r) a ∙ omega arith in
    let m : l ≡ (cs ++ (13 ∷ [])) ++ (10 ∷ r) = e ∙ sym (append_assoc cs (13 ∷ []) (10 ∷ r)) in
    let k : length (cs ++ (13 ∷ [])) ≡ length cs + 1 = length-append cs (13 ∷ []) in
    record { length_is = n; columns_are = ap (columns true) (rw (n, m) (take_at (cs ++ (13 ∷ [])) (10 ∷ r) (length cs + 1) k)) ∙ columns_crlf cs }

-- a line of a row's fields and blanks, by its widths
module _ (b : ℕ) (x : Letter b) (ws : List ℕ) (h : Wide ws) (n : ℕ) where
  pub line_length : total ws ≤ n → length (line_cells b 9 ws n) ≡ n
  unfolding line_cells
  line_length m = length-append (row_cells b 9 ws) (replicate (n - total ws) blank) ∙ rw (row_length b 9 h, length-replicate (n - total ws) blank) (omega arith)

  line_allowed : {cs : List ℕ} → Fits (line_cells b 9 ws n) cs → Allowed cs
  unfolding line_cells
  line_allowed f =
      let s = fits_split (row_cells b 9 ws) (replicate (n - total ws) blank) f in
      rw s.is (allowed_append (row_allowed b 9 x (omega arith) h s.fits_first) (blanks_allowed (n - total ws) s.fits_second))

  -- filled to 80 columns it is passed by its row, and no delimiter
  record Accepted (line : List ℕ) : Type 0 where
    refusal : fields_refusal (map E ws) line ≡ passed
    other : is_delimiter line ≡ false

  line_accepted : {cs : List ℕ} → 0 < length ws → length cs ≤ 80 → Fits (line_cells b 9 ws n) cs → Accepted (filled cs)
  unfolding line_cells
  line_accepted {cs} some most f =
      let s = fits_split (row_cells b 9 ws) (replicate (n - total ws) blank) f in
      let rest = s.second ++ replicate (80 - length cs) 32 in
      let is : filled cs ≡ s.first ++ rest
      = filled_short cs most ∙ ap (λ (m : List ℕ). m ++ replicate (80 - length cs) 32) s.is ∙ append_assoc s.first s.second (replicate (80 - length cs) 32) in
      let blanks : Blanks rest = blanks_append (blanks_fit (n - total ws) s.fits_second) (blanks_replicate (80 - length cs)) in
      record { refusal = row_passes b 9 x (omega arith) (filled cs) h is s.fits_first blanks; other = no_delimiter ws rest some is s.fits_first }
    where
      no_delimiter : (vs bl : List ℕ) {line r : List ℕ} → 0 < length vs → line ≡ r ++ bl → Fits (row_cells b 9 vs) r → is_delimiter line ≡ false
      no_delimiter [] bl p e f = absurd (omega arith)
      no_delimiter (w ∷ vs) bl {line = line} p e f = row_delimiter b 9 w vs line bl e f

-- the step of a full data line that is not the last
module _ (c l z k : ℕ) (more : fields_of c < l) where
  abbrev d : Due
  d = due kind58 header_lines c l z

  none_due : record_due d ≡ no_record
  unfolding record_due sequence typed_sets
  none_due = refl

  fields_taken : (line : List ℕ) → (taken (first_fields l (data_row c)) line).fields ≡ (data_row c).fields
  fields_taken line =
      taken_is (first_fields l (data_row c)) line (λ (r : Row). r.fields ≡ (data_row c).fields)
      (take_all l (data_row c).fields (omega (arith, data_row_length c))) (data_full l c)

  row_refusal_lem : (line : List ℕ) → fields_refusal (map E (layout_of c).widths) line ≡ passed → row_refusal (row_due d) line ≡ passed
  unfolding data_row
  row_refusal_lem line e =
      row_refusal_data d line (omega (arith, none_due)) c (list_row_58 d refl)
      ∙ ap (λ (fs : List Field). fields_refusal fs line) (fields_taken line) ∙ e

  after_is : (line : List ℕ) → after d line ≡ due kind58 header_lines c (l - fields_of c) z
  unfolding after_items after_list settled
  after_is line = rw (none_due, list_row_58 d refl, data_row_length c, ne_eqb (l - fields_of c) 0 (λ (e : l - fields_of c ≡ 0). omega arith)) refl

  step_is : (line : List ℕ) → is_delimiter line ≡ false → fields_refusal (map E (layout_of c).widths) line ≡ passed
      → step_of (data_state c l z k) line ≡ Ok (data_state c (l - fields_of c) z k)
  unfolding step_of typed_step may_continue
  step_is line other e = rw (other, none_due, lt-ltb 0 l (omega arith), row_refusal_lem line e, after_is line) refl

-- how long the lines of a shape are
pub ready_size : (h : Shape) (t : Tables) → Ready h t → (0 < h.size) × (h.size ≤ 82)
ready_size h t ready =
    ⊎_elim (λ (e : (h.mark ≡ 10) × (h.size ≡ h.columns + 1)). (omega arith, omega (arith, ready.shaped.columns_within)))
    (λ (e : (h.mark ≡ 13) × (h.size ≡ h.columns + 2)). (omega arith, omega (arith, ready.shaped.columns_within)))
    ready.shaped.ends

-- the widths that the code has of a shape's case, and the columns of its tables
module _ (h : Shape) (shaped : Shaped h) (l : List ℕ) (e : l ≡ tabulate (cell_of h.case) 0 6) where
  pub shape_widths : take h.fields l ≡ (layout_of h.case).widths
  shape_widths = rw shaped.fields_are (six_widths h.case l shaped.known e)

  pub shape_fits : Wide (take h.fields l) × (total (take h.fields l) ≤ 80) × (h.columns ≤ 80)
  shape_fits = rw shape_widths (layout_wide h.case shaped.known, omega (arith, shaped.row_within, shaped.columns_within), shaped.columns_within)

  pub shape_columns : (n : ℕ) → n ≡ total (take h.fields l) + (h.columns - total (take h.fields l)) → n ≡ h.columns
  shape_columns n q = let within = shaped.row_within in q ∙ rw shape_widths (omega arith)

-- the first field of a case stands before the end of its row
pub first_width : (c w past : ℕ) → c < 8 → w ≡ get_or (layout_of c).widths 0 0 → past ≡ field_start (layout_of c).widths 6 → (9 ≤ w) × (w ≤ past)
unfolding field_past field_start
first_width c w past h e f =
    (omega (arith, wide_at 0 (layout_wide c h) (layout_some c h)), omega (arith, field_past_before (layout_of c).widths 0 6 (omega arith)))

-- a line that passes the tables, with its end
module _ (h : Shape) (t : Tables) (ready : Ready h t) (b : List ℕ) (a : ℕ) (room : a + 82 ≤ length b) (p : Passed t b a 80) where
  abbrev ws : List ℕ
  ws = (layout_of h.case).widths

  wide : Wide ws
  wide = layout_wide h.case ready.shaped.known

  letter : Letter h.letter
  letter = is_letter_sound h.letter ready.shaped.letter_is

  cells_length : length (line_cells h.letter 9 ws h.columns) ≡ h.columns
  cells_length = line_length h.letter letter ws wide h.columns ready.shaped.row_within

  table_length : length (table_cells h.letter 9 ws h.columns) ≡ 80
  unfolding table_cells
  table_length =
      length-append (line_cells h.letter 9 ws h.columns) (replicate (80 - h.columns) any)
      ∙ rw (cells_length, length-replicate (80 - h.columns) any) (omega (arith, ready.shaped.columns_within))

  -- its columns
  record Line : Type 0 where
    cs : List ℕ
    fits : Fits (line_cells h.letter 9 ws h.columns) cs
    first : take h.columns (drop a b) ≡ cs

  all_fit : Fits (table_cells h.letter 9 ws h.columns) (take 80 (drop a b))
  all_fit =
      rw table_length at
      (fits_passed (table_cells h.letter 9 ws h.columns) t b a ready.laid (rw table_length (omega arith)) (rw table_length p))

  line : Line
  unfolding table_cells
  line =
      let s = fits_split (line_cells h.letter 9 ws h.columns) (replicate (80 - h.columns) any) all_fit in
      let n : length s.first ≡ h.columns = fits_length s.fits_first ∙ cells_length in
      record {
        cs = s.first;
        fits = s.fits_first;
        first =
            sym (take-take h.columns 80 (drop a b) ready.shaped.columns_within)
            ∙ ap (take h.columns) s.is ∙ take_at s.first s.second h.columns n;
      }

  cs_length : length line.cs ≡ h.columns
  cs_length = fits_length line.fits ∙ cells_length

  cs_allowed : Allowed line.cs
  cs_allowed = line_allowed h.letter letter ws wide h.columns line.fits

  -- what stands past its columns
  past : (k : ℕ) → k < 82 → drop k (drop a b) ≡ get_or b (a + k) 0 ∷ drop (suc k) (drop a b)
  past k m = drop-cons (drop a b) k 0 (simp length-drop (omega arith)) ∙ ap (λ (v : ℕ). v ∷ drop (suc k) (drop a b)) (get_or-drop a b k 0)

  front_is : drop a b ≡ line.cs ++ drop h.columns (drop a b)
  front_is = sym (take-append-drop h.columns (drop a b)) ∙ ap (λ (m : List ℕ). m ++ drop h.columns (drop a b)) line.first

  module _ (mark : get_or b (a + h.columns) 0 ≡ h.mark) (lf : get_or b (a + h.size - 1) 0 ≡ 10) where
    ended : Ended line.cs (drop a b) (h.size - 1)
    ended = by ready.shaped.ends
      where
        by : Ends h.columns h.mark h.size → Ended line.cs (drop a b) (h.size - 1)
        by (inl (m, s)) =
            let n : length line.cs ≡ h.size - 1 = cs_length ∙ omega arith in
            let at-end : drop h.columns (drop a b) ≡ 10 ∷ drop (suc h.columns) (drop a b)
            = past h.columns (omega (arith, ready.shaped.columns_within)) ∙ rw (mark, m) refl in
            rw n at (ended_lf (drop a b) (drop (suc h.columns) (drop a b)) cs_allowed (front_is ∙ ap (λ (m : List ℕ). line.cs ++ m) at-end))
        by (inr (m, s)) =
            let n : length line.cs + 1 ≡ h.size - 1 = ap (λ (k : ℕ). k + 1) cs_length ∙ omega arith in
            let k : a + suc h.columns ≡ a + h.size - 1 = omega arith in
            let at-lf : drop (suc h.columns) (drop a b) ≡ 10 ∷ drop (suc (suc h.columns)) (drop a b)
            = past (suc h.columns) (omega (arith, ready.shaped.columns_within)) ∙ rw (k, lf) refl in
            let at-end : drop h.columns (drop a b) ≡ 13 ∷ 10 ∷ drop (suc (suc h.columns)) (drop a b)
            = past h.columns (omega (arith, ready.shaped.columns_within)) ∙ rw (mark, m, at-lf) refl in
            rw n at
            (ended_crlf (drop a b) (drop (suc (suc h.columns)) (drop a b)) cs_allowed (front_is ∙ ap (λ (m : List ℕ). line.cs ++ m) at-end))

    pub line_taken : (l z k : ℕ) → h.fields < l → LineTaken b (data_state h.case l z k) a (data_state h.case (l - h.fields) z k) (a + h.size)
    line_taken l z k more =
        let size = ready_size h t ready in
        let most : length line.cs ≤ 80 = omega (arith, cs_length, ready.shaped.columns_within) in
        let fine = line_accepted h.letter letter ws wide h.columns (layout_some h.case ready.shaped.known) most line.fits in
        let due : fields_of h.case < l = omega (arith, ready.shaped.fields_are) in
        record {
          ends = omega (arith, ended.length_is);
          within = omega arith;
          whole = ap (line_fault true) ended.columns_are ∙ line_fault_complete true line.cs refl most cs_allowed;
          step =
              ap (λ (m : List ℕ). step_of (data_state h.case l z k) (filled m)) ended.columns_are
              ∙ step_is h.case l z k due (filled line.cs) fine.other fine.refusal
              ∙ ap (λ (n : ℕ). Ok (data_state h.case (l - n) z k)) (sym ready.shaped.fields_are);
        }

-- what a test says that a line passes
all_three : (x y z : Bool) → (x && y) && z ≡ true → (x ≡ true) × (y ≡ true) × (z ≡ true)
all_three true true true h = (refl, refl, refl)
all_three true true false h = false_not_true h
all_three true false z h = false_not_true h
all_three false y z h = false_not_true h

pub line_of_lem : (h : Shape) (t : Tables) (b : List ℕ) (a : ℕ) (p : Bool) → Ready h t → (p ≡ true → Passed t b a 80)
    → (eqb (get_or b (a + h.columns) 0) h.mark && eqb (get_or b (a + h.size - 1) 0) 10) && p ≡ true → 82 ≤ length b - a → LineOf h b a
line_of_lem h t b a p ready so_far test room =
    let all = all_three _ _ _ test in
    let mark : get_or b (a + h.columns) 0 ≡ h.mark = eqb-true (get_or b (a + h.columns) 0) h.mark all.0 in
    let lf : get_or b (a + h.size - 1) 0 ≡ 10 = eqb-true (get_or b (a + h.size - 1) 0) 10 all.1 in
    record { within = omega (arith, ready_size h t ready); taken = λ l z n more. line_taken h t ready b a (omega arith) (so_far all.2) mark lf l z n more }

-- one line more of a run
pub ran_more : (b : List ℕ) (c at left : ℕ) (h : Shape) (r : Run) → h.case ≡ c → 0 < h.size → Ran b c at left r → LineOf h b r.at → h.fields < r.left
    → Ran b c at left (run (r.lines + 1) (r.at + h.size) (r.left - h.fields))
ran_more b c at left h r e some ran line more =
    let l = rw e at line in
    record { taken = λ z n. Taken.more (ran.taken z n) (l.taken r.left z n more); within = line.within; few = omega (arith, ran.few) }

-- no line
pub ran_none : (b : List ℕ) (c at left : ℕ) (r : Run) → r ≡ run 0 at left → at ≤ length b → Ran b c at left r
ran_none b c at left r e h = rw e (record { taken = λ z n. Taken.none; within = h; few = omega arith })

pub ahead_none : (b : List ℕ) (s : State) (at : ℕ) (r : Ahead) → NoneAhead s at r → at ≤ length b → RanAhead b s at r
ahead_none b s at r n h =
    let waits = n.waits in
    rw n.is (record { taken = Taken.none; within = h; few = omega arith; moves = λ m. waits })

-- data lines of a 58
pub ahead_ran : (b : List ℕ) (d : Due) (n at wait : ℕ) (r : Run) → d.kind ≡ kind58 → d.at ≡ header_lines → Ran b d.case at d.left r → at < r.at
    → RanAhead b (state (Typed d) n) at (ahead (state (Typed (record d { left = r.left })) n) r.lines r.at wait)
ahead_ran b d n at wait r k a ran on =
    let e : data_state d.case d.left d.second n ≡ state (Typed d) n = rw (← k, ← a) refl in
    let f : data_state d.case r.left d.second n ≡ state (Typed (record d { left = r.left })) n = rw (← k, ← a) refl in
    record { taken = rw (← e, ← f) (ran.taken d.second n); within = ran.within; few = ran.few; moves = λ m. absurd (omega arith) }

pub ahead_at : (b : List ℕ) (s : State) (d : Due) (at : ℕ) (r : Ahead) → s.place ≡ Typed d → RanAhead b (state (Typed d) s.sets) at r → RanAhead b s at r
ahead_at b s d at r e h = rw (← e) at h

-- a run stays within the bytes
pub taken_within : {b : List ℕ} {s t : State} {from k to : ℕ} → from ≤ length b → Taken b s from t k to → to ≤ length b
taken_within h Taken.none = h
taken_within h (Taken.more r l) = l.within
