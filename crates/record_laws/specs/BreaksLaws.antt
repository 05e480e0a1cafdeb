-- The first field that breaks a record's condition, where its fields pass: the records with a condition are 58's line 7 and 164's factors.
use Rattle.std.specs.Prelude.{◌≡◌, ◌⊎◌, Bool, ◌&&◌, ◌||◌, not, List, [], eqb, leb, ℤ, length, Ok, Err}
use Rattle.std.proofs.Math.Path.{refl}
use Rattle.std.proofs.Common.{sym, ◌∙◌, inl, inr, ⊎_elim, eqb-true}
use Rattle.std.proofs.Math.Bool.{true, false}
use Prim.Native.Nat.{ℕ, zero, suc, ◌+◌, ◌≤◌, ◌<◌}
use native.Mathlib.Omega.{arith}
use Rattle.std.proofs.lemmas.Bool.{eqb-false}
use Rattle.std.proofs.Math.ListN.{get_or-eq_default}
use Rattle.laws.specs.Choice.{pick}
use Rattle.laws.specs.ChoiceLaws.{false_not_true, below_or_not}
use Rattle.laws.specs.RangesLaws.{in_range}
use Rattle.text.specs.Blank.{Blanks}
use Rattle.integer.specs.Spelling.{IntegerSpelling, limit}
use Rattle.integer.specs.Integer.{Held, valued, integer_of}
use Rattle.integer.proofs.IntegerLaws.{integer_of_value, integer_of_complete}
use Rattle.integer.specs.declared.IntegerFault.TheVariants as I
use Rattle.real.specs.Spelling.{RealSpelling}
use Rattle.real.specs.Real.{real_of}
use Rattle.real.proofs.RealLaws.{real_of_complete, real_of_blank}
use Rattle.line.specs.Line.{refusal, passed}
use Rattle.line.specs.declared.Refusal.{Refusal}
use Rattle.codes.specs.Form.{real}
use Rattle.layout.specs.Columns.{field_start}
use Rattle.field.specs.Item.{is_zero_integer, is_zero_real, is_above_zero}
use Rattle.field.specs.Field.{integer_item, real_item}
use Rattle.field.specs.FieldLaws.{is_zero_integer_value}
use Rattle.record_table.specs.TabledLaws.{record_of_past}
use Rattle.record_table.specs.Row.{Field, Row, Condition, breach, none, zero_if_uneven, above_zero}
use Rattle.record_table.specs.Records.{X, records, record_of, no_record, data_form, unit_factors}
use Rattle.record.specs.Check.{breach_fault, items_of, condition_fault}
use Rattle.record.specs.Condition.{zero_integer_in, zero_real_in, above_in}
use Rattle.record.specs.ConditionLaws.{condition_fault_data_form, condition_fault_factors}
use Rattle.record_laws.specs.Fault.{left_of, own_columns, First, Passes, a_real, AllPass, Breaks, uneven, factor}

-- an integer read as 0 is spelled
zero_spelled : (cols : List ℕ) → is_zero_integer (integer_item (integer_of cols)) ≡ true → (n : Bool) × IntegerSpelling n 0 cols
zero_spelled cols h = of (integer_of cols) refl h
  where
    of : (i : Held) → integer_of cols ≡ i → is_zero_integer (integer_item i) ≡ true → (n : Bool) × IntegerSpelling n 0 cols
    of (Err f) e t = false_not_true t
    of (Ok i) e t =
        let z : i.size ≡ 0 = eqb-true i.size 0 (sym (is_zero_integer_value i.minus i.size) ∙ t) in
        (i.minus, rw z at (integer_of_value cols i.minus i.size e).0)

module _ {m : Bool} {c : ℕ} {s : ℤ} {cols : List ℕ} (r : RealSpelling m c s cols) where
  -- what is read of a real that is spelled
  zero_test : is_zero_real (real_item (real_of cols)) ≡ eqb c 0
  zero_test = rw (real_of_complete r) refl

  above_test : is_above_zero (real_item (real_of cols)) ≡ not m && not (eqb c 0)
  above_test = rw (real_of_complete r) refl

  -- a zero, by the test and by its spelling
  is_zero : is_zero_real (real_item (real_of cols)) ≡ true → c ≡ 0
  is_zero h = eqb-true c 0 (sym zero_test ∙ h)

  not_zero : is_zero_real (real_item (real_of cols)) ≡ false → c ≡ 0 → ⊥
  not_zero h = eqb-false c 0 (sym zero_test ∙ h)

  -- a real above zero: not so with a minus, nor with a coefficient of 0
  not_above : is_above_zero (real_item (real_of cols)) ≡ false → (m ≡ true) ⊎ (c ≡ 0)
  not_above h = by m (eqb c 0) refl refl (sym above_test ∙ h)
    where
      by : (n t : Bool) → m ≡ n → eqb c 0 ≡ t → not n && not t ≡ false → (m ≡ true) ⊎ (c ≡ 0)
      by true t e z h = inl e
      by false true e z h = inr (eqb-true c 0 z)
      by false false e z h = false_not_true (sym h)

  is_above : is_above_zero (real_item (real_of cols)) ≡ true → (m ≡ true) ⊎ (c ≡ 0) → ⊥
  is_above h (inl e) = false_not_true (rw e at (sym above_test ∙ h))
  is_above h (inr e) = by m (rw e at (sym above_test ∙ h))
    where
      by : (n : Bool) → not n && false ≡ true → ⊥
      by true h = false_not_true h
      by false h = false_not_true h

-- an integer spelled as 0 is read so
spelled_zero : {n : Bool} {cols : List ℕ} → IntegerSpelling n 0 cols → is_zero_integer (integer_item (integer_of cols)) ≡ true
spelled_zero {n} i = rw (integer_of_complete i) (by n)
  where
    by : (n : Bool) → is_zero_integer (integer_item (pick (leb 0 (limit n)) (valued n 0) (Err I.OutOfRange))) ≡ true
    by true = refl
    by false = refl

-- no columns spell no real
no_columns : {m : Bool} {c : ℕ} {s : ℤ} → RealSpelling m c s [] → ⊥
no_columns r = let e = sym (real_of_blank Blanks.none) ∙ real_of_complete r in let z : ◌≡◌ {A = ℕ} 0 1 = cc in omega arith

-- the records that ask something of their fields together, by one test of all
abbrev pub is_none : Condition → Bool
is_none none = true
is_none zero_if_uneven = false
is_none above_zero = false

abbrev named : ℕ → Bool
named k = is_none (record_of k).condition || (eqb k data_form || eqb k unit_factors)

pub is_none_lem : (c : Condition) → is_none c ≡ true → c ≡ none
is_none_lem none t = refl
is_none_lem zero_if_uneven t = false_not_true t
is_none_lem above_zero t = false_not_true t

asks : (k : ℕ) → ((record_of k).condition ≡ none) ⊎ ((k ≡ data_form) ⊎ (k ≡ unit_factors))
unfolding record_of records
asks k = ⊎_elim (λ h. by _ _ _ refl refl refl (in_range named true 0 no_record k refl (omega arith) h)) (λ h. inl (rw (record_of_past k h) refl)) (below_or_not k no_record)
  where
    by : (a b c : Bool) → is_none (record_of k).condition ≡ a → eqb k data_form ≡ b → eqb k unit_factors ≡ c → a || (b || c) ≡ true
        → ((record_of k).condition ≡ none) ⊎ ((k ≡ data_form) ⊎ (k ≡ unit_factors))
    by true b c p q r t = inl (is_none_lem _ p)
    by false true c p q r t = inr (inl (eqb-true k data_form q))
    by false false true p q r t = inr (inr (eqb-true k unit_factors r))
    by false false false p q r t = false_not_true t

-- what a row asks of its fields together, looked at on a line: it is kept, or broken by a first field
pub data Asked (r : Row) (line : List ℕ) : Refusal → Type 0 where
  kept : ((k : ℕ) → Breaks line r.fields r.condition k → ⊥) → Asked r line passed
  broken : (k : ℕ) → First (Breaks line r.fields r.condition) k → Asked r line (refusal 14 (left_of r.fields k + 1))

module _ (line : List ℕ) where
  -- 58's line 7
  module _ (fs : List Field) where
    spaced_real : {k : ℕ} → Passes line real (own_columns line fs k) → is_zero_real (real_item (real_of (own_columns line fs k))) ≡ false
        → (n : Bool) × IntegerSpelling n 0 (own_columns line fs 2) → 3 ≤ k → k ≤ 4 → Breaks line fs zero_if_uneven k
    spaced_real (a_real r) h i f t = uneven i.1 f t r (not_zero r h)

    spaced_even : is_zero_integer (integer_item (integer_of (own_columns line fs 2))) ≡ false → (k : ℕ) → Breaks line fs zero_if_uneven k → ⊥
    spaced_even h k (uneven i f t r n) = false_not_true (sym h ∙ spelled_zero i)

    spaced_zero : (k : ℕ) → (3 ≤ k → k ≤ 4 → is_zero_real (real_item (real_of (own_columns line fs k))) ≡ true) → Breaks line fs zero_if_uneven k → ⊥
    spaced_zero k z (uneven i f t r n) = n (is_zero r (z f t))

    -- 164's factors
    factor_real : {k : ℕ} → Passes line real (own_columns line fs k) → is_above_zero (real_item (real_of (own_columns line fs k))) ≡ false
        → Breaks line fs above_zero k
    factor_real (a_real r) h = factor r (not_above r h)

    -- past the last field there is no number
    past_empty : (k : ℕ) → length fs ≤ k → own_columns line fs k ≡ []
    past_empty k h = rw (get_or-eq_default fs (X 0) h) refl

    real_inside : {m : Bool} {c k : ℕ} {s : ℤ} → RealSpelling m c s (own_columns line fs k) → k < length fs
    real_inside {k = k} r = ⊎_elim (λ h. h) (λ (h : length fs ≤ k). absurd (no_columns (rw (past_empty k h) at r))) (below_or_not k (length fs))

    pub breaks_inside : {c : Condition} {k : ℕ} → Breaks line fs c k → k < length fs
    breaks_inside (uneven i f t r n) = real_inside r
    breaks_inside (factor r b) = real_inside r

    factor_above : (k : ℕ) → is_above_zero (real_item (real_of (own_columns line fs k))) ≡ true → Breaks line fs above_zero k → ⊥
    factor_above k z (factor r b) = is_above r z b

  three_four : (P : ℕ → Type 0) → P 3 → P 4 → (j : ℕ) → 3 ≤ j → j ≤ 4 → P j
  three_four P p q j f t =
      ⊎_elim (λ (l : j < 4). let e : j ≡ 3 = omega arith in rw e p) (λ (l : 4 ≤ j). let e : j ≡ 4 = omega arith in rw e q) (below_or_not j 4)

  -- the columns of 58's line 7 and of 164's factors
  abbrev form : List Field
  form = (record_of data_form).fields

  asked_form : AllPass line form → Asked (record_of data_form) line (condition_fault (record_of data_form) line)
  unfolding record_of records field_start
  asked_form p = rw (condition_fault_data_form line) (by (zero_integer_in 20 30 line) (zero_real_in 30 43 line) (zero_real_in 43 56 line) refl refl refl)
    where
      by : (a b c : Bool) → zero_integer_in 20 30 line ≡ a → zero_real_in 30 43 line ≡ b → zero_real_in 43 56 line ≡ c
          → Asked (record_of data_form) line (pick a (pick b (pick c passed (refusal 14 44)) (refusal 14 31)) passed)
      by false b c i m n = kept (spaced_even form i)
      by true false c i m n =
          broken 3 (record {
            here = spaced_real form (p 3 (omega arith)) m (zero_spelled _ i) (omega arith) (omega arith);
            before = λ j h. spaced_zero form j (λ f t. absurd (omega arith));
          })
      by true true false i m n =
          broken 4 (record {
            here = spaced_real form (p 4 (omega arith)) n (zero_spelled _ i) (omega arith) (omega arith);
            before = λ j h. spaced_zero form j (λ f t. let e : j ≡ 3 = omega arith in rw e m);
          })
      by true true true i m n = kept (λ k. spaced_zero form k (three_four (λ (j : ℕ). is_zero_real (real_item (real_of (own_columns line form j))) ≡ true) m n k))

  abbrev factors : List Field
  factors = (record_of unit_factors).fields

  abbrev Above : ℕ → Type 0
  Above k = is_above_zero (real_item (real_of (own_columns line factors k))) ≡ true

  two_above : Above 0 → Above 1 → (k : ℕ) → k < 2 → Breaks line factors above_zero k → ⊥
  two_above a b zero h x = factor_above factors 0 a x
  two_above a b (suc zero) h x = factor_above factors 1 b x
  two_above a b (suc (suc k)) h x = absurd (omega arith)

  three_above : Above 0 → Above 1 → Above 2 → (k : ℕ) → Breaks line factors above_zero k → ⊥
  unfolding record_of records
  three_above a b c zero x = factor_above factors 0 a x
  three_above a b c (suc zero) x = factor_above factors 1 b x
  three_above a b c (suc (suc zero)) x = factor_above factors 2 c x
  three_above a b c (suc (suc (suc k))) x = absurd (omega (arith, breaks_inside factors x))

  asked_factors : AllPass line factors → Asked (record_of unit_factors) line (condition_fault (record_of unit_factors) line)
  unfolding record_of records field_start
  asked_factors p = rw (condition_fault_factors line) (by (above_in 0 25 line) (above_in 25 50 line) (above_in 50 75 line) refl refl refl)
    where
      by : (a b c : Bool) → above_in 0 25 line ≡ a → above_in 25 50 line ≡ b → above_in 50 75 line ≡ c
          → Asked (record_of unit_factors) line (pick a (pick b (pick c passed (refusal 14 51)) (refusal 14 26)) (refusal 14 1))
      by false b c i m n = broken 0 (record { here = factor_real factors (p 0 (omega arith)) i; before = λ j h. absurd (omega arith) })
      by true false c i m n =
          broken 1 (record { here = factor_real factors (p 1 (omega arith)) m; before = λ j h. let e : j ≡ 0 = omega arith in rw e (factor_above factors 0 i) })
      by true true false i m n = broken 2 (record { here = factor_real factors (p 2 (omega arith)) n; before = two_above i m })
      by true true true i m n = kept (three_above i m n)

  -- a row that asks nothing
  breaks_some : {fs : List Field} {c : Condition} {k : ℕ} → Breaks line fs c k → c ≡ none → ⊥
  breaks_some (uneven i f t r n) e = let z : ◌≡◌ {A = ℕ} 0 1 = cc in omega arith
  breaks_some (factor r b) e = let z : ◌≡◌ {A = ℕ} 0 1 = cc in omega arith

  pub asked_nothing : (r : Row) → r.condition ≡ none → Asked r line (condition_fault r line)
  unfolding condition_fault breach
  asked_nothing r e =
      let p : breach_fault r.fields (breach r.condition (items_of r.fields 0 line)) ≡ passed = rw e refl in
      rw p (kept (λ k b. breaks_some b e))

  pub asked : (k : ℕ) → AllPass line (record_of k).fields → Asked (record_of k) line (condition_fault (record_of k) line)
  asked k p = ⊎_elim (asked_nothing (record_of k)) (λ q. ⊎_elim (λ e. rw e (asked_form (rw e at p))) (λ e. rw e (asked_factors (rw e at p))) q) (asks k)
