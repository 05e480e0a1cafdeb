-- A refusal stands before the state that would follow. What a delimiter does by the place where the file stands.
use Rattle.std.specs.Prelude.{◌≡◌, true, false, List, ℕ, zero, suc, ◌+◌, ◌≤◌, ◌<◌}
use Rattle.std.proofs.Math.Path.{refl}
use Rattle.std.proofs.Common.{arith}
use borrow.Author.Tests.{lt-ltb, le-ltb}
use Rattle.laws.specs.Run.{run}
use Rattle.text.specs.BlankLaws.{all_blank_complete}
use Rattle.text.specs.Parts.{is_digit}
use Rattle.integer.specs.Integer.{push, step_integer, end_integer, integer_of}
use Rattle.line.specs.Line.{refusal}
use Rattle.line.specs.declared.Refusal.{Refusal}
use Rattle.delimiter.specs.Kind.{Delimiter, delimiter, is_delimiter, dataset_number}
use Rattle.delimiter.proofs.KindLaws.{is_delimiter_complete, delimiter_not_blank}
use Rattle.record_table.specs.Records.{record_of, no_record}
use Rattle.record.specs.Check.{row_refusal}
use Rattle.walk.specs.declared.Due.{Due}
use Rattle.walk.specs.declared.Place.TheVariants.{Outside, Number, Plain, Typed}
use Rattle.walk.specs.declared.State.{State}
use Rattle.std.specs.Prelude.{Ok, Err}
use Rattle.walk.specs.Due.{record_due, row_due, may_close, may_continue, items_due, after_record, after_list, after_items}
use Rattle.walk.specs.Step.{state, unless, outside_step, number_step, plain_step, typed_step, place_step}

pub unless_here : (f : Refusal) (s : State) → 0 < f.number → unless f s ≡ Err f
unless_here f s h = go f.number f.column h
  where
    go : (n c : ℕ) → 0 < n → unless (refusal n c) s ≡ Err (refusal n c)
    go zero c h = absurd (omega arith)
    go (suc n) c h = refl

pub unless_on : (f : Refusal) (s : State) → f.number ≤ 0 → unless f s ≡ Ok s
unless_on f s h = go f.number f.column h
  where
    go : (n c : ℕ) → n ≤ 0 → unless (refusal n c) s ≡ Ok s
    go zero c h = refl
    go (suc n) c h = absurd (omega arith)

-- a delimiter in a number line's place has no number: -1 is below zero
delimiter_number : {line : List ℕ} → Delimiter line → dataset_number line ≡ 0
unfolding dataset_number integer_of run step_integer end_integer is_digit push
delimiter_number (delimiter b) = rw (all_blank_complete b) refl

-- a delimiter opens a set, or is refused, or closes one
module _ (n : ℕ) {line : List ℕ} (d : Delimiter line) where
  pub opens : n < 4096 → place_step Outside n line ≡ Ok (state Number (n + 1))
  unfolding outside_step
  opens h = simp (delimiter_not_blank line d, is_delimiter_complete d, lt-ltb _ _ h)

  pub opens_none : 4096 ≤ n → place_step Outside n line ≡ Err (refusal 15 1)
  unfolding outside_step
  opens_none h = simp (delimiter_not_blank line d, is_delimiter_complete d, le-ltb _ _ h)

  pub no_number : place_step Number n line ≡ Err (refusal 6 1)
  unfolding number_step
  no_number = rw (delimiter_number d) refl

  pub closes_plain : place_step Plain n line ≡ Ok (state Outside n)
  unfolding plain_step
  closes_plain = rw (is_delimiter_complete d) refl

  pub closes : (u : Due) → may_close u ≡ true → place_step (Typed u) n line ≡ Ok (state Outside n)
  unfolding typed_step
  closes u h = rw (is_delimiter_complete d, h) refl

  pub closes_early : (u : Due) → may_close u ≡ false → place_step (Typed u) n line ≡ Err (refusal 7 1)
  unfolding typed_step
  closes_early u h = rw (is_delimiter_complete d, h) refl

-- a line that is no delimiter, in a typed set: a record, a line of the list, or a line where the delimiter is due
module _ (d : Due) (n : ℕ) (line : List ℕ) (no : is_delimiter line ≡ false) where
  pub record_comes : record_due d < no_record
      → typed_step d n line ≡ unless (row_refusal (record_of (record_due d)) line) (state (Typed (after_record d (items_due d line))) n)
  unfolding typed_step may_continue after_items row_due
  record_comes h = rw (no, lt-ltb _ _ h) refl

  pub list_comes : no_record ≤ record_due d → 0 < d.left → typed_step d n line ≡ unless (row_refusal (row_due d) line) (state (Typed (after_list d)) n)
  unfolding typed_step may_continue after_items
  list_comes h l = rw (no, le-ltb _ _ h, lt-ltb _ _ l) refl

  pub none_comes : no_record ≤ record_due d → d.left ≤ 0 → typed_step d n line ≡ Err (refusal 8 1)
  unfolding typed_step may_continue
  none_comes h l = rw (no, le-ltb _ _ h, le-ltb _ _ l) refl
