-- A file of the header as it is lent and the data lines is accepted, and what it is rewritten to is what the writer lays out.
use Rattle.std.specs.Prelude.{◌≡◌, Bool, eqb, ℤ, get_or}
use Rattle.std.proofs.Math.Path.{refl, sym, ap}
use Rattle.std.proofs.Common.{◌∙◌, le-ltb}
use Rattle.std.proofs.Math.Bool.{true, false}
use mathlib.Core.List.{List, [], ◌∷◌, ◌++◌, map, append_assoc, append-nil}
use Prim.Native.Nat.{ℕ, suc, ◌+◌, ◌*◌, ◌≤◌, ◌<◌}
use native.Mathlib.Omega.{arith}
use Rattle.std.proofs.Math.ListN.{length, length-append, get_or-append}
use Rattle.laws.specs.Choice.{pick}
use Rattle.laws.specs.Run.{run}
use Rattle.laws.specs.Cut.{text, cut, over, judge}
use Rattle.laws.specs.CutLaws.{cut_append, over_append}
use Rattle.line.specs.Line.{columns, without_return, filled, line_fault, first_bad, is_allowed}
use Rattle.text.specs.Blank.{all_blank}
use Rattle.text.specs.Parts.{is_digit}
use Rattle.delimiter.specs.Kind.{is_delimiter, then_blank, dataset_number}
use Rattle.integer.specs.Integer.{integer_of, end_integer, step_integer, push}
use Rattle.layout.specs.Columns.{field_of}
use Rattle.layout.specs.Layout.{layout_of, fields_of, numbers_of}
use Rattle.layout.specs.LayoutLaws.{fields_of_some}
use Rattle.record_table.specs.TypedSets.{kind_of, is_typed, sequence, typed_sets, header_lines, kind58, line_seven}
use Rattle.record.specs.Declares.{case_in, count_in, stored_in}
use Rattle.walk.specs.declared.Due.{Due}
use Rattle.walk.specs.declared.State.{State}
use Rattle.walk.specs.declared.Place.TheVariants.{Outside, Number, Typed}
use Rattle.std.specs.Prelude.{Result, Ok}
use Rattle.line.specs.declared.Refusal.{Refusal}
use Rattle.walk.specs.Due.{due, record_due, may_close}
use Rattle.walk.specs.Step.{state, start, opened, step_of, outside_step, number_step, typed_step}
use Rattle.judge.specs.Judge.{judged, reply, line_step, Run, going, on_outcome, run_step, run_end}
use Rattle.header.specs.Header as Header
use Rattle.header.specs.Header.{header_of}
use Rattle.line_laws.specs.Ends.{joined}
use Rattle.line_laws.proofs.EndsLaws.{cut_joined}
use Rattle.parts.specs.Parts.{columns_in, Part, part, outside, inside, parts_from, parts_of, dataset_of, line_of}
use Rattle.parts.specs.Function.{part_case, count_of, stored_of}
use Rattle.parts.specs.Padding.{counted_past}
use Rattle.rewriter.specs.Rewriter.{plain_in, digit_or_blank, plain_number, delimiter_line, kept_of, lines_text, head_text, set_text, cut_last, unpadded, rewritten_set, rewritten, rewritten_file}
use Rattle.rewriter.proofs.BodyLaws.{lines_text_append}
use Rattle.rewriter.specs.Fair.{Inner, plain_delimiter}
use Rattle.rewriter.proofs.RewriterLaws.{inner_append, delimiter_closes, cut_lines}
use Rattle.decimal.specs.Decimal.{field_text}
use Rattle.decimal.specs.DecimalLaws.{field_text_length}
use Rattle.writer.specs.Writer.{decimals_of, width_at, line_end, data_text, written_set}
use Rattle.rewriter_laws.specs.NumberLaws.{plain_number_again}
use Rattle.writer_laws.specs.HeaderRun.{Passed}
use Rattle.writer_laws.specs.DataLines.{data_lines, lent_file}
use Rattle.writer_laws.specs.DataTextLaws.{field_zero, data_joined}
use Rattle.writer_laws.specs.DataRun.{data_due, AllFit, Neat, Ran}
use Rattle.writer_laws.specs.DataRunLaws.{fit_same, data_ran, width_roomy}
use Rattle.writer_laws.specs.UnpaddedLaws.{data_uncut}

-- lines that are kept as they are
neat_inner : {ls : List (List ℕ)} → Neat ls → Inner ls
neat_inner Neat.none = Inner.none
neat_inner (Neat.more f c k n) = Inner.more f c (neat_inner n)

neat_kept : {ls : List (List ℕ)} → Neat ls → map kept_of ls ≡ ls
neat_kept Neat.none = refl
neat_kept (Neat.more f c k n) = rw (k, neat_kept n) refl

neat_text : {ls : List (List ℕ)} → Neat ls → lines_text ls ≡ joined ls []
unfolding lines_text joined
neat_text Neat.none = refl
neat_text (Neat.more {l} f c k n) = rw (k, neat_text n) (append_assoc l (10 ∷ []) _)

-- bytes after a text whose last line has its LF
pub cut_after : (a t : List ℕ) → (cut a).rest ≡ [] → cut (a ++ t) ≡ text ((cut a).lines ++ (cut t).lines) (cut t).rest
cut_after a t e = cut_append a t ∙ rw e refl

over_end : (r : Run) → over run_step r [] ≡ r
unfolding over
over_end r = refl

pub over_line : (s : State) {t : State} (n : ℕ) (l : List ℕ) → line_step s l ≡ Ok t → (ls : List (List ℕ)) → over run_step (going s n) (l ∷ ls) ≡ over run_step (going t (n + 1)) ls
unfolding over
over_line s n l e ls = ap (λ (o : Result State Refusal). over run_step (on_outcome n o) ls) e

-- the lines that open and close a set
pub cut_head : (t : List ℕ) → cut (head_text 58 ++ t) ≡ text (plain_delimiter ∷ plain_number 58 ∷ (cut t).lines) (cut t).rest
unfolding cut head_text plain_number plain_in digit_or_blank
cut_head t = refl

pub opens : line_step start plain_delimiter ≡ Ok (state Number 1)
unfolding line_step columns without_return line_fault first_bad is_allowed filled step_of outside_step all_blank is_delimiter then_blank
opens = refl

pub numbered : line_step (state Number 1) (plain_number 58) ≡ Ok Header.opened
unfolding line_step columns without_return line_fault first_bad is_allowed filled step_of number_step plain_number plain_in digit_or_blank opened is_typed kind_of typed_sets dataset_number all_blank integer_of end_integer run step_integer is_digit push
numbered = refl

closed : (c : ℕ) → line_step (state (Typed (data_due c 0)) 1) plain_delimiter ≡ Ok (state Outside 1)
unfolding line_step columns without_return line_fault first_bad is_allowed filled step_of typed_step all_blank is_delimiter then_blank may_close record_due sequence typed_sets
closed c = refl

-- the lines of a set up to its closing delimiter
set_part : (m b : ℕ) (o v : List ℕ) {ls : List (List ℕ)} → Inner ls → (bs : List (List ℕ)) (n at : ℕ)
    → parts_from (inside m b o v bs) n at (ls ++ (plain_delimiter ∷ [])) ≡ part m b o v (bs ++ ls) plain_delimiter ∷ []
unfolding parts_from
set_part m b o v Inner.none bs n at = rw (delimiter_closes, append-nil bs) refl
set_part m b o v (Inner.more {l} {ls} f c i) bs n at = rw c (set_part m b o v i (bs ++ (l ∷ [])) (suc n) (at + suc (length l)) ∙ rw append_assoc refl)

one_part : (ls : List (List ℕ)) → Inner ls
    → parts_from outside 0 0 (plain_delimiter ∷ plain_number 58 ∷ (ls ++ (plain_delimiter ∷ []))) ≡ part 0 0 plain_delimiter (plain_number 58) ls plain_delimiter ∷ []
unfolding parts_from
one_part ls i = rw delimiter_closes (set_part 0 0 plain_delimiter (plain_number 58) i [] _ _)

-- a line has at most one byte more than columns
return_most : (l : List ℕ) → length l ≤ length (without_return l) + 1
unfolding without_return
return_most [] = omega arith
return_most (b ∷ []) = by (eqb b 13)
  where
    by : (t : Bool) → 1 ≤ length (pick t [] (b ∷ [])) + 1
    by true = omega arith
    by false = omega arith
return_most (b ∷ c ∷ cs) = omega (arith, return_most (c ∷ cs))

columns_most : (l : List ℕ) → length l ≤ length (columns true l) + 1
unfolding columns
columns_most l = return_most l

-- a data line has at most 21 bytes a number
end_most : (c j : ℕ) (xs : List ℤ) → length (line_end c j xs) ≤ 1
end_most c j [] = omega arith
end_most c j (x ∷ xs) = by (eqb (field_of (fields_of c) (suc j)) 0)
  where
    by : (t : Bool) → length {A = ℕ} (pick t (10 ∷ []) []) ≤ 1
    by true = omega arith
    by false = omega arith

data_bytes : (c : ℕ) → c < 8 → (j : ℕ) (xs ss : List ℤ) → length (data_text c j xs ss) ≤ 21 * length xs
unfolding data_text
data_bytes c h j [] ss = omega arith
data_bytes c h j (x ∷ xs) [] = omega arith
data_bytes c h j (x ∷ xs) (s ∷ ss) =
    let w : ℕ = width_at c j in
    omega (
      arith,
      length-append (field_text w (decimals_of w) x s) (line_end c j xs ++ data_text c (suc j) xs ss),
      field_text_length w (decimals_of w) x s,
      length-append (line_end c j xs) (data_text c (suc j) xs ss),
      end_most c j xs,
      (width_roomy c h j).most,
      data_bytes c h (suc j) xs ss,
    )

-- what the header leaves due
due_is : (d : Due) (k a c l s : ℕ) → d.kind ≡ k → d.at ≡ a → d.case ≡ c → d.left ≡ l → d.second ≡ s → d ≡ due k a c l s
due_is d k a c l s p q r t u = rw (← p, ← q, ← r, ← t, ← u) refl

module _ (header : List ℕ) (p : Passed header) (xs ss : List ℤ) (stored : length xs ≡ (header_of header).stored) (fit : AllFit (header_of header).case 0 xs ss) where
  abbrev pub c : ℕ
  c = (header_of header).case

  abbrev pub lines : List (List ℕ)
  lines = data_lines (length xs) (layout_of c).widths xs ss

  ran : (n : ℕ) → Ran c (length xs) n lines
  ran n = data_ran c p.case_below (length xs) n 0 xs ss (field_zero (fields_of c) (fields_of_some c p.case_below)) fit (omega arith)

  data_lines_lem : data_text c 0 xs ss ≡ lines_text lines
  data_lines_lem =
      data_joined c (length xs) 0 xs ss (fields_of_some c p.case_below) (field_zero (fields_of c) (fields_of_some c p.case_below)) (fit_same fit) (omega arith)
      ∙ sym (neat_text (ran 0).neat)

  cut_data : cut (data_text c 0 xs ss ++ delimiter_line) ≡ text (lines ++ (plain_delimiter ∷ [])) []
  unfolding cut
  cut_data = rw data_lines_lem (cut_lines (neat_inner (ran 0).neat) delimiter_line ∙ rw (neat_kept (ran 0).neat) refl)

  lent_cut : cut (lent_file header c xs ss) ≡ text (plain_delimiter ∷ plain_number 58 ∷ ((cut header).lines ++ (lines ++ (plain_delimiter ∷ [])))) []
  unfolding lent_file
  lent_cut = cut_head (header ++ (data_text c 0 xs ss ++ delimiter_line)) ∙ rw (cut_after header (data_text c 0 xs ss ++ delimiter_line) p.rest, cut_data) refl

  data_due_lem : p.due ≡ data_due c (length xs)
  data_due_lem = due_is p.due kind58 header_lines c (length xs) 0 p.kind p.at p.case (p.left ∙ sym stored) p.second

  lent_run : over run_step (going start 0) (plain_delimiter ∷ plain_number 58 ∷ ((cut header).lines ++ (lines ++ (plain_delimiter ∷ []))))
      ≡ going (state Outside 1) (2 + header_lines + length lines + 1)
  lent_run =
      over_line start 0 plain_delimiter opens _ ∙ over_line (state Number 1) 1 (plain_number 58) numbered _
      ∙ over_append run_step (going Header.opened 2) (cut header).lines (lines ++ (plain_delimiter ∷ []))
      ∙ ap (λ (r : Run). over run_step r (lines ++ (plain_delimiter ∷ []))) (p.run 2 ∙ ap (λ (d : Due). going (state (Typed d) 1) (2 + header_lines)) data_due_lem)
      ∙ over_append run_step (going (state (Typed (data_due c (length xs))) 1) (2 + header_lines)) lines (plain_delimiter ∷ [])
      ∙ ap (λ (r : Run). over run_step r (plain_delimiter ∷ [])) (ran (2 + header_lines)).run
      ∙ over_line (state (Typed (data_due c 0)) 1) (2 + header_lines + length lines) plain_delimiter (closed c) []
      ∙ over_end (going (state Outside 1) (2 + header_lines + length lines + 1))

  lent_judge : judge run_step run_end (going start 0) (lent_file header c xs ss) ≡ reply 0 (2 + header_lines + length lines + 1)
  unfolding judge
  lent_judge = rw (lent_cut, lent_run) refl

  -- a line of a header has at most 80 columns, a CR and an LF
  line_bytes : {ls : List (List ℕ)} → Inner ls → length (joined ls []) ≤ 82 * length ls
  unfolding joined
  line_bytes Inner.none = omega arith
  line_bytes (Inner.more {l} {ls} f n i) = omega (arith, f.short, columns_most l, length-append l (10 ∷ joined ls []), line_bytes i)

  header_bytes : length header ≤ 902
  header_bytes = omega (arith, ap length (sym (cut_joined header) ∙ ap (joined (cut header).lines) p.rest), line_bytes p.inner, p.lines)

  lent_length : length (lent_file header c xs ss) ≤ 16777216
  unfolding lent_file head_text plain_number plain_in digit_or_blank
  lent_length =
      omega (
        arith,
        header_bytes,
        data_bytes c p.case_below 0 xs ss,
        stored,
        p.stored_most,
        length-append header (data_text c 0 xs ss ++ delimiter_line),
        length-append (data_text c 0 xs ss) delimiter_line,
      )

  pub lent_accepted : judged (lent_file header c xs ss) ≡ reply 0 (2 + header_lines + length lines + 1)
  unfolding judged
  lent_accepted = rw (le-ltb 16777216 (length (lent_file header c xs ss)) lent_length) lent_judge

  -- the set that stands in it
  abbrev pub lent_part : Part
  lent_part = part 0 0 plain_delimiter (plain_number 58) ((cut header).lines ++ lines) plain_delimiter

  lent_inner : Inner ((cut header).lines ++ lines)
  lent_inner = inner_append p.inner (neat_inner (ran 0).neat)

  pub lent_parts : parts_of (lent_file header c xs ss) ≡ lent_part ∷ []
  unfolding parts_of
  lent_parts = rw (lent_cut, ← append_assoc (cut header).lines lines (plain_delimiter ∷ [])) (one_part ((cut header).lines ++ lines) lent_inner)

  -- the lines of the header stand first in it, and line 7 gives its case and how many numbers it stores
  pub line_first_lem : (i : ℕ) → i < header_lines → line_of lent_part i ≡ columns_in (get_or (cut header).lines i [])
  unfolding line_of
  line_first_lem i h = ap columns_in (get_or-append (cut header).lines lines [] i (omega (arith, p.lines)))

  pub lent_case : part_case lent_part ≡ c
  unfolding part_case
  lent_case = rw (line_first_lem line_seven (omega arith)) (sym p.seventh.case ∙ p.case)

  pub lent_stored : stored_of lent_part ≡ length xs
  unfolding stored_of count_of dataset_of stored_in
  lent_stored =
      let line : List ℕ = columns_in (get_or (cut header).lines line_seven []) in
      let k : case_in line ≡ c = sym p.seventh.case ∙ p.case in
      let n : count_in line * numbers_of c ≡ length xs = rw k at (sym p.seventh.left) ∙ p.left ∙ sym stored in
      rw (lent_case, plain_number_again 58 (omega arith) (omega arith), line_first_lem line_seven (omega arith)) n

  -- it has no padding
  lent_unpadded : unpadded lent_part ≡ (cut header).lines ++ lines
  unfolding unpadded
  lent_unpadded = rw (lent_case, lent_stored) (by (eqb (length xs) 0))
    where
      by : (t : Bool) → pick t ((cut header).lines ++ lines) (cut_last (counted_past c (length xs)) ((cut header).lines ++ lines)) ≡ (cut header).lines ++ lines
      by true = refl
      by false = data_uncut c p.case_below (cut header).lines xs ss (omega (arith, p.stored_some, stored))

  -- what it is rewritten to
  pub lent_rewritten : rewritten_file (lent_file header c xs ss) ≡ written_set header c xs ss
  unfolding rewritten rewritten_set set_text dataset_of written_set
  lent_rewritten =
      rw (lent_parts, plain_number_again 58 (omega arith) (omega arith), append-nil, lent_unpadded, lines_text_append (cut header).lines lines, ← data_lines_lem)
      (ap (λ (t : List ℕ). head_text 58 ++ t) (append_assoc (lines_text (cut header).lines) (data_text c 0 xs ss) delimiter_line))
