-- A delimiter and a number line in their usual spelling: what their bytes say, and their step.
use Rattle.std.specs.Prelude.{◌≡◌, Bool, true, false, zero, suc, IfSome}
use Rattle.std.proofs.Math.Path.{refl}
use Rattle.std.proofs.Common.{sym, arith}
use mathlib.Core.List.{List}
use Prim.Native.Nat.{ℕ, ◌-◌, ◌<◌}
use borrow.Author.Tests.{lt-ltb}
use Rattle.std.proofs.Math.ListN.{length, replicate}
use Rattle.std.proofs.Math.Seq.{take_at, drop_at}
use Rattle.laws.specs.Choice.{above_zero}
use Rattle.text.specs.Blank.{Blanks}
use Rattle.text.specs.BlankLaws.{all_blank_complete, blanks_take, blanks_replicate}
use Rattle.text.specs.Parts.{Sign, Digits}
use Rattle.integer.specs.Spelling.{IntegerSpelling, spelled}
use Rattle.integer.specs.Integer.{integer_of}
use Rattle.integer.proofs.IntegerLaws.{integer_of_value}
use Rattle.line.specs.Line.{passed, Allowed, is_allowed, without_return, columns, first_bad, line_fault, filled}
use Rattle.line.specs.LineLaws.{allowed_append, line_fault_complete, filled_short}
use Rattle.delimiter.specs.Kind.{Delimiter, delimiter, positive, dataset_number}
use Rattle.delimiter.proofs.KindLaws.{positive_value}
use Rattle.walk.specs.declared.Place.TheVariants.{Number}
use Rattle.walk.specs.declared.State.{State}
use Rattle.std.specs.Prelude.{Result, Ok}
use Rattle.line.specs.declared.Refusal.{Refusal}
use Rattle.walk.specs.Step.{state, opened, number_step, step_of}
use Rattle.judge.specs.Judge.{line_step}
use Rattle.judge.specs.Plain.{plain_delimiter, PlainNumber}

-- its step is that of any delimiter
pub plain_step_lem : (s : State) (o : Result State Refusal) {l : List ℕ} → l ≡ plain_delimiter → ((line : List ℕ) → Delimiter line → o ≡ step_of s line) → o ≡ line_step s l
unfolding line_step columns without_return line_fault first_bad is_allowed filled
plain_step_lem s o e h = rw e (h (filled plain_delimiter) (delimiter (blanks_take 74 (blanks_replicate 80))))

-- what is read as an integer above zero holds only bytes that may stand in columns
blanks_allowed : {l : List ℕ} → Blanks l → Allowed l
blanks_allowed Blanks.none = Allowed.none
blanks_allowed (Blanks.one b) = Allowed.more {b = 32} (omega arith) (omega arith) (blanks_allowed b)

sign_allowed : {n : Bool} {l : List ℕ} → Sign n l → Allowed l
sign_allowed Sign.bare = Allowed.none
sign_allowed Sign.plus = Allowed.more {b = 43} (omega arith) (omega arith) Allowed.none
sign_allowed Sign.minus = Allowed.more {b = 45} (omega arith) (omega arith) Allowed.none

digits_allowed : {m v : ℕ} {l : List ℕ} → Digits m l v → Allowed l
digits_allowed Digits.none = Allowed.none
digits_allowed (Digits.more {m} {b} lo hi d) = Allowed.more {b = b} (omega arith) (omega arith) (digits_allowed d)

integer_allowed : {n : Bool} {v : ℕ} {l : List ℕ} → IntegerSpelling n v l → Allowed l
integer_allowed (spelled bl sg ds b s d h) = allowed_append (blanks_allowed b) (allowed_append (sign_allowed s) (digits_allowed d))

number_allowed : {v : ℕ} (cs : List ℕ) → 0 < v → v ≡ positive (integer_of cs) → Allowed cs
number_allowed {v} cs p e = integer_allowed (integer_of_value cs false v (positive_value (integer_of cs) v (omega arith) (sym e))).0

-- what is read of six columns where a number line is due
pub plain_number_due : (s : State) (cs : List ℕ) → s.place ≡ Number → length cs ≡ 6
    → IfSome (above_zero (positive (integer_of cs))) (λ v. (s.place ≡ Number) × (0 < v) × PlainNumber v cs)
plain_number_due s cs p l = by (positive (integer_of cs)) refl
  where
    by : (n : ℕ) → n ≡ positive (integer_of cs) → IfSome (above_zero n) (λ v. (s.place ≡ Number) × (0 < v) × PlainNumber v cs)
    by zero e = tt
    by (suc n) e = (p, omega arith, record { six = l; read = e })

-- a number line's step: a set of its number opens
module _ {v : ℕ} {cs : List ℕ} (p : 0 < v) (r : PlainNumber v cs) where
  pub plain_number_filled : dataset_number (filled cs) ≡ v
  unfolding dataset_number
  plain_number_filled =
      let blanks : List ℕ = replicate (80 - length cs) 32 in
      rw (filled_short cs (omega (arith, r.six)), take_at cs blanks 6 r.six, drop_at cs blanks 6 r.six, all_blank_complete (blanks_replicate (80 - length cs)))
      (sym r.read)

  pub plain_number_passes : line_fault true cs ≡ passed
  plain_number_passes = line_fault_complete true cs refl (omega (arith, r.six)) (number_allowed cs p r.read)

  pub plain_number_step : (s : State) → s.place ≡ Number → step_of s (filled cs) ≡ Ok (state (opened v) s.sets)
  unfolding step_of number_step
  plain_number_step s e = rw (e, plain_number_filled, lt-ltb 0 v p) refl

  pub plain_number_line_lem : (s : State) (l : List ℕ) → cs ≡ columns true l → s.place ≡ Number → Ok (state (opened v) s.sets) ≡ line_step s l
  unfolding line_step
  plain_number_line_lem s l q e = rw (← q, plain_number_passes) (sym (plain_number_step s e))
