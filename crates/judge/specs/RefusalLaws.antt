-- What holds of every refusal that a line gets; that it has a number, so that what is not refused goes on.
use Rattle.std.specs.Prelude.{◌≡◌, refl, Bool, false, ltb, length}
use Rattle.std.proofs.Math.Bool.{true}
use mathlib.Core.List.{List}
use Rattle.std.proofs.Common.{inl, inr, arith}
use Prim.{tt}
use Prim.Native.Nat.{ℕ, zero, suc, ◌+◌, ◌≤◌, ◌<◌}
use Rattle.laws.specs.Choice.{pick}
use Rattle.line.specs.declared.Refusal.{Refusal}
use Rattle.line.specs.Line.{refusal, passed, columns, first_bad, line_fault, filled}
use Rattle.text.specs.Blank.{all_blank}
use Rattle.delimiter.specs.Kind.{is_delimiter, dataset_number}
use Rattle.record_table.specs.Row.{Row}
use Rattle.record.specs.Check.{row_refusal}
use Rattle.record.specs.NumberLaws.{row_number}
use Rattle.walk.specs.declared.Place.{Place}
use Rattle.walk.specs.declared.Place.TheVariants.{Outside, Number, Plain, Typed}
use Rattle.walk.specs.declared.State.{State}
use Rattle.std.specs.Prelude.{Result, Ok, Err}
use Rattle.walk.specs.Due.{may_close, may_continue, row_due, after}
use Rattle.walk.specs.Step.{state, unless, outside_step, number_step, plain_step, typed_step, place_step, step_of}
use Rattle.judge.specs.Judge.{line_outcome, line_step}
use Rattle.judge.specs.Refusal.{Refusing, LineNumber}

-- a property of every refusal of a line
module _ (P : Refusal → Type 0) where
  picked : (t : Bool) (a b : Result State Refusal) → Refusing P a → Refusing P b → Refusing P (pick t a b)
  picked true a b p q = p
  picked false a b p q = q

  by_number : (n c : ℕ) (s : State) → (0 < n → P (refusal n c)) → Refusing P (unless (refusal n c) s)
  by_number zero c s h = tt
  by_number (suc n) c s h = h (omega arith)

  by_row : (f : Refusal) (s : State) → (0 < f.number → P f) → Refusing P (unless f s)
  by_row f s h = by_number f.number f.column s h

  -- it holds where it holds of those by the place where the line stands, which name column 1, of those by the row due, and of those by the
  -- line's own bytes and columns
  module _ (place : (n : ℕ) → 4 < n → n ≤ 15 → P (refusal n 1)) (row : (r : Row) (line : List ℕ) → 0 < (row_refusal r line).number → P (row_refusal r line))
      (own : (cs : List ℕ) → 0 < (line_fault true cs).number → P (line_fault true cs)) where
    at_place : (p : Place) (n : ℕ) (line : List ℕ) → Refusing P (place_step p n line)
    unfolding outside_step number_step plain_step typed_step
    at_place Outside n line =
        picked (all_blank line) _ _ tt
        (picked (is_delimiter line) _ _
        (picked (ltb n 4096) (Ok (state Number (n + 1))) (Err (refusal 15 1)) tt (place 15 (omega arith) (omega arith)))
        (place 5 (omega arith) (omega arith)))
    at_place Number n line = picked (ltb 0 (dataset_number line)) _ _ tt (place 6 (omega arith) (omega arith))
    at_place Plain n line = picked (is_delimiter line) (Ok (state Outside n)) (Ok (state Plain n)) tt tt
    at_place (Typed d) n line =
        picked (is_delimiter line) _ _
        (picked (may_close d) (Ok (state Outside n)) (Err (refusal 7 1)) tt (place 7 (omega arith) (omega arith)))
        (picked (may_continue d) _ (Err (refusal 8 1)) (by_row (row_refusal (row_due d) line) (state (Typed (after d line)) n) (row (row_due d) line))
        (place 8 (omega arith) (omega arith)))

    on_line : (s : State) (n c : ℕ) (cs : List ℕ) → (0 < n → P (refusal n c)) → Refusing P (line_outcome s (refusal n c) cs)
    unfolding step_of
    on_line s zero c cs h = at_place s.place s.sets (filled cs)
    on_line s (suc n) c cs h = h (omega arith)

    pub refusal_is : (s : State) (l : List ℕ) (f : Refusal) → line_step s l ≡ Err f → P f
    unfolding line_step
    refusal_is s l f e =
        let cs : List ℕ = columns true l in
        rw e at (on_line s (line_fault true cs).number (line_fault true cs).column cs (own cs))

-- the numbers that a line's refusal can have: 2 to 15, 24 and 25
own_number : (cs : List ℕ) → 0 < (line_fault true cs).number → LineNumber (line_fault true cs).number
unfolding line_fault
own_number cs h = by (ltb 0 (first_bad 1 cs)) (ltb 80 (length cs)) h
  where
    by : (bad long : Bool) → 0 < (pick bad (refusal 2 (first_bad 1 cs)) (pick long (refusal 3 1) passed)).number
        → LineNumber (pick bad (refusal 2 (first_bad 1 cs)) (pick long (refusal 3 1) passed)).number
    by true long h = (omega arith, inl (omega arith))
    by false true h = (omega arith, inl (omega arith))
    by false false h = absurd (omega arith)

pub line_number : (s : State) (l : List ℕ) (f : Refusal) → line_step s l ≡ Err f → LineNumber f.number
line_number =
    refusal_is (λ (f : Refusal). LineNumber f.number) (λ n p q. (omega arith, inl q))
    (row_number (λ (n : ℕ). 0 < n → LineNumber n) (λ h. absurd (omega arith)) (λ n p q h. (omega arith, inl (omega arith))) (λ n p q h. (omega arith, inr (p, q)))) own_number

-- a refusal has a number
pub refusal_sure : (s : State) (l : List ℕ) (f : Refusal) → line_step s l ≡ Err f → 0 < f.number
refusal_sure s l f e = omega (arith, (line_number s l f e).0)

-- a line with no refusal of its own passes
pub no_fault : (cs : List ℕ) → (line_fault true cs).number ≡ 0 → line_fault true cs ≡ passed
unfolding line_fault
no_fault cs h = by (ltb 0 (first_bad 1 cs)) (ltb 80 (length cs)) h
  where
    by : (bad long : Bool) → (pick bad (refusal 2 (first_bad 1 cs)) (pick long (refusal 3 1) passed)).number ≡ 0
        → pick bad (refusal 2 (first_bad 1 cs)) (pick long (refusal 3 1) passed) ≡ passed
    by true long e = absurd (omega arith)
    by false true e = absurd (omega arith)
    by false false e = refl
