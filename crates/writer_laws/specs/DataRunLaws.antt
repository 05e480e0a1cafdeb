-- The data lines that the writer lays out are judged to the end of the set.
use Rattle.std.specs.Prelude.{◌≡◌, Bool, true, false, ◌&&◌, ℕ, zero, suc, ◌+◌, ◌-◌, ◌≤◌, ◌<◌, leb, eqb, ℤ, get_or, take, drop, replicate}
use Rattle.std.proofs.Math.Path.{refl}
use Rattle.std.proofs.Common.{sym, ap, subst, ◌∙◌, add-zero, arith, ne_eqb, eqb-true, leb-true, length-drop}
use mathlib.Core.List.{List, [], ◌∷◌, map}
use Rattle.std.proofs.Math.ListN.{length}
use Rattle.laws.specs.Choice.{pick}
use Rattle.laws.specs.ChoiceLaws.{and_left, and_right}
use Rattle.laws.specs.RangesLaws.{in_range}
use Rattle.laws.specs.Cut.{over}
use Rattle.line.specs.Line.{Allowed, filled}
use Rattle.line.specs.LineLaws.{filled_length, filled_short, columns_allowed}
use Rattle.text.specs.BlankLaws.{blanks_replicate}
use Rattle.layout.specs.Columns.{field_of, total}
use Rattle.layout.specs.ColumnsLaws.{field_of_inside}
use Rattle.layout.specs.Layout.{layouts, layout_of, fields_of}
use Rattle.layout.specs.LayoutLaws.{fields_of_some, total_inside}
use Rattle.record_table.specs.Row as Row
use Rattle.record_table.specs.Records.{E, data_row}
use Rattle.record_table.specs.TypedSets.{sequence, typed_sets, following}
use Rattle.record.specs.Written.{FieldsIn, InColumns, Written, Kept}
use Rattle.record_laws.specs.RowGroupLaws.{data_readable, data_together}
use Rattle.record_laws.specs.LineReadingLaws.{written_complete}
use Rattle.walk.specs.declared.Place.TheVariants.{Typed}
use Rattle.std.specs.Prelude.{Ok}
use Rattle.walk.specs.Due.{record_due, list_row, may_close, may_continue, row_due, settled, after_list, after, after_items}
use Rattle.walk.specs.DueLaws.{data_row_length, open_continues}
use Rattle.walk.specs.Step.{state, step_of, typed_step}
use Rattle.judge.specs.Judge.{line_step}
use Rattle.parts_laws.specs.StoredLaws.{map_take}
use Rattle.writer.specs.Writer.{decimals_of, width_at, fits_at}
use Rattle.writer_laws.specs.DataLines.{fields_text, data_lines}
use Rattle.writer_laws.specs.DataTextLaws.{From, widths, field_next, line_next, fields}
use Rattle.writer_laws.specs.FieldText.{Ends}
use Rattle.writer_laws.specs.Line.{Fit, items_back}
use Rattle.writer_laws.specs.LineLaws.{fields_in_lem, fields_allowed, fields_length, fields_end, fields_long, line_fair, line_kept, line_inside, line_open, line_passes}
use Rattle.writer_laws.specs.DataRun.{data_due, AllFit, AllFit.none as none, AllFit.more as more, Roomy, Neat, Ran}

-- what is due in the data
row_due_lem : (c left : ℕ) → row_due (data_due c left) ≡ Row.first_fields left (data_row c)
unfolding row_due record_due list_row sequence following typed_sets
row_due_lem c left = refl

not_closed : (c left : ℕ) → 0 < left → may_close (data_due c left) ≡ false
unfolding may_close record_due sequence typed_sets
not_closed c left h = ne_eqb left 0 (λ e. omega arith)

still_open : (c left : ℕ) → 0 < left → may_continue (data_due c left) ≡ true
still_open c left h = open_continues (data_due c left) (not_closed c left h)

-- after a line of it
settled_same : (c left : ℕ) → settled (data_due c left) ≡ data_due c left
unfolding settled
settled_same c left = by (eqb left 0) refl
  where
    by : (t : Bool) → eqb left 0 ≡ t → pick t (data_due c 0) (data_due c left) ≡ data_due c left
    by true e = rw (eqb-true left 0 e) refl
    by false e = refl

after_line : (c left : ℕ) (line : List ℕ) → after (data_due c left) line ≡ data_due c (left - fields_of c)
unfolding after_items after_list record_due list_row sequence following typed_sets
after_line c left line = rw (data_row_length c) (settled_same c (left - fields_of c))

-- a line of the data
module _ (c : ℕ) (w : ℕ) (ws : List ℕ) (x s : ℤ) (xs ss : List ℤ) (widths : (layout_of c).widths ≡ w ∷ ws) (fit : Fit (w ∷ ws) (x ∷ xs) (s ∷ ss)) where
  abbrev line : List ℕ
  line = fields_text (w ∷ ws) (x ∷ xs) (s ∷ ss)

  eighty : length line ≤ 80
  eighty = omega (arith, fields_length (w ∷ ws) (x ∷ xs) (s ∷ ss), subst (λ (v : List ℕ). total v ≤ 80) widths (total_inside c))

  line_written : Written (Row.first_fields (length (x ∷ xs)) (data_row c)) (items_back (w ∷ ws) (x ∷ xs) (s ∷ ss)) (filled line)
  unfolding data_row
  line_written = record {
    in_columns =
        InColumns.alone {line = filled line} (rw (widths, map_take (suc (length xs)) (w ∷ ws))
        (subst (λ (cols : List ℕ). FieldsIn (map E (take (suc (length xs)) (w ∷ ws))) (items_back (w ∷ ws) (x ∷ xs) (s ∷ ss)) cols) (sym (filled_short line eighty))
        (fields_in_lem fit (replicate (80 - length line) 32) (blanks_replicate (80 - length line)))));
    together = rw (widths, map_take (suc (length xs)) (w ∷ ws)) (data_together (take (suc (length xs)) (w ∷ ws)) (items_back (w ∷ ws) (x ∷ xs) (s ∷ ss)));
    kept = Kept.nothing;
  }

  data_step : (sets : ℕ) → line_step (state (Typed (data_due c (length (x ∷ xs)))) sets) line ≡ Ok (state (Typed (data_due c (length (x ∷ xs) - fields_of c))) sets)
  unfolding line_step step_of typed_step
  data_step sets =
      let a : Allowed line = fields_allowed fit in
      let e : Ends line = fields_end fit in
      rw (
        columns_allowed a,
        line_passes line a eighty e (fields_long fit),
        line_inside line a eighty e (fields_long fit),
        still_open c (suc (length xs)) (omega arith),
        after_line c (suc (length xs)) (filled line),
        row_due_lem c (suc (length xs)),
        (written_complete (filled line) (filled_length line) _ _ (data_readable (suc (length xs)) c) line_written).0,
      ) refl

pub fit_drop : {c j : ℕ} {xs ss : List ℤ} (k : ℕ) → AllFit c j xs ss → AllFit c (j + k) (drop k xs) (drop k ss)
fit_drop {j = j} zero f = rw (add-zero j) f
fit_drop (suc k) none = none
fit_drop {j = j} (suc k) (more n f t) = let z : j + suc k ≡ suc j + k = omega arith in rw z (fit_drop k t)

pub fit_same : {c j : ℕ} {xs ss : List ℤ} → AllFit c j xs ss → length xs ≡ length ss
fit_same none = refl
fit_same (more n f t) = ap suc (fit_same t)

-- every field has room for its decimals, and at most 20 columns
abbrev roomy : ℕ → Bool
roomy w = leb w 20 && (leb (decimals_of w) 17 && leb (decimals_of w + 7) w)

roomy_sound : (w : ℕ) → roomy w ≡ true → Roomy w
roomy_sound w t =
    let r : leb (decimals_of w) 17 && leb (decimals_of w + 7) w ≡ true = and_right (leb w 20) _ t in
    record { most = leb-true _ _ (and_left (leb w 20) _ t); digits = leb-true _ _ (and_left (leb (decimals_of w) 17) _ r); room = leb-true _ _ (and_right (leb (decimals_of w) 17) _ r) }

abbrev all_roomy : List ℕ → Bool
all_roomy [] = true
all_roomy (w ∷ ws) = roomy w && all_roomy ws

roomy_at : (ws : List ℕ) (k : ℕ) → k < length ws → all_roomy ws ≡ true → roomy (get_or ws k 0) ≡ true
roomy_at [] k h t = absurd (omega arith)
roomy_at (w ∷ ws) zero h t = and_left (roomy w) (all_roomy ws) t
roomy_at (w ∷ ws) (suc k) h t = roomy_at ws k (omega arith) (and_right (roomy w) (all_roomy ws) t)

abbrev roomy_case : ℕ → Bool
roomy_case c = all_roomy (layout_of c).widths

case_roomy : (c : ℕ) → c < 8 → roomy_case c ≡ true
unfolding layout_of layouts decimals_of
case_roomy c h = in_range roomy_case true 0 8 c refl (omega arith) (omega arith)

module _ (c : ℕ) (eight : c < 8) where
  pub width_roomy : (j : ℕ) → Roomy (width_at c j)
  unfolding width_at fields_of
  width_roomy j = roomy_sound _ (roomy_at (layout_of c).widths _ (field_of_inside (length (layout_of c).widths) j (fields_of_some c eight)) (case_roomy c eight))

  -- the numbers of one line fit in its fields
  pub fit_line : (vs : List ℕ) {j : ℕ} {xs ss : List ℤ} → AllFit c j xs ss → From c j vs → Fit vs xs ss
  unfolding fits_at
  fit_line [] f e = Fit.full
  fit_line (v ∷ vs) none e = Fit.done
  fit_line (v ∷ []) (more {j} n f t) e =
      let w = widths c j v [] (fields_of_some c eight) e in
      let r : Roomy v = rw w.own at (width_roomy j) in
      Fit.more r.digits r.room n (rw w.own at f) Fit.full
  fit_line (v ∷ u ∷ vs) (more {j} n f t) e =
      let w = widths c j v (u ∷ vs) (fields_of_some c eight) e in
      let r : Roomy v = rw w.own at (width_roomy j) in
      let g : From c (suc j) (u ∷ vs) = rw (field_next (fields_of c) j (omega (arith, w.left))) w.later in
      Fit.more r.digits r.room n (rw w.own at f) (fit_line (u ∷ vs) t g)

ran_none : (c n : ℕ) → Ran c 0 n []
unfolding over
ran_none c n = record { neat = Neat.none; run = rw (add-zero n) refl }

-- one line more
ran_more : (c n : ℕ) (w : ℕ) (ws : List ℕ) (x s : ℤ) (xs ss : List ℤ) (ls : List (List ℕ)) → (layout_of c).widths ≡ w ∷ ws → Fit (w ∷ ws) (x ∷ xs) (s ∷ ss)
    → Ran c (length (x ∷ xs) - fields_of c) (n + 1) ls → Ran c (length (x ∷ xs)) n (fields_text (w ∷ ws) (x ∷ xs) (s ∷ ss) ∷ ls)
unfolding over
ran_more c n w ws x s xs ss ls e f r =
    let l : List ℕ = fields_text (w ∷ ws) (x ∷ xs) (s ∷ ss) in
    let h : length l ≤ 80 = eighty c w ws x s xs ss e f in
    let a : Allowed l = fields_allowed f in
    let z : n + suc (length ls) ≡ n + 1 + length ls = omega arith in
    record {
      neat = Neat.more (line_fair l a h (fields_end f) (fields_long f)) (line_open l a h (fields_end f) (fields_long f)) (line_kept l a h (fields_end f) (fields_long f)) r.neat;
      run = rw (data_step c w ws x s xs ss e f 1, z) r.run;
    }

pub data_ran : (c : ℕ) → c < 8 → (k n j : ℕ) (xs ss : List ℤ) → field_of (fields_of c) j ≡ 0 → AllFit c j xs ss → length xs ≤ k
    → Ran c (length xs) n (data_lines k (layout_of c).widths xs ss)
unfolding data_lines fields_of
data_ran c h zero n j [] ss q f l = ran_none c n
data_ran c h (suc k) n j [] ss q f l = ran_none c n
data_ran c h zero n j (x ∷ xs) ss q f l = absurd (omega arith)
data_ran c h (suc k) n j (x ∷ xs) [] q f l = absurd (omega (arith, fit_same f))
data_ran c h (suc k) n j (x ∷ xs) (s ∷ ss) q f l =
    let p : 0 < fields_of c = fields_of_some c h in
    let m : fields_of c ≡ length (layout_of c).widths = fields c in
    let r = data_ran c h k (n + 1) (j + length (layout_of c).widths) (drop (length (layout_of c).widths) (x ∷ xs)) (drop (length (layout_of c).widths) (s ∷ ss))
    (rw m at (line_next (fields_of c) j p q)) (fit_drop (length (layout_of c).widths) f) (rw length-drop (omega arith)) in
    go (layout_of c).widths refl r
  where
    go : (vs : List ℕ) → (layout_of c).widths ≡ vs → Ran c (length (drop (length vs) (x ∷ xs))) (n + 1) (data_lines k vs (drop (length vs) (x ∷ xs)) (drop (length vs) (s ∷ ss)))
        → Ran c (length (x ∷ xs)) n (fields_text vs (x ∷ xs) (s ∷ ss) ∷ data_lines k vs (drop (length vs) (x ∷ xs)) (drop (length vs) (s ∷ ss)))
    go [] e r = absurd (omega (arith, fields_of_some c h, fields c ∙ ap length e))
    go (v ∷ vs) e r =
        let m : length (drop (length vs) xs) ≡ length (x ∷ xs) - fields_of c = length-drop (length vs) xs ∙ omega (arith, fields c ∙ ap length e) in
        ran_more c n v vs x s xs ss _ e (fit_line c h (v ∷ vs) f (rw q e)) (subst (λ (i : ℕ). Ran c i (n + 1) (data_lines k (v ∷ vs) (drop (length vs) xs) (drop (length vs) ss))) m r)
