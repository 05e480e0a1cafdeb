-- The columns of a 58's numbers, as the page of theorems states them.
use Rattle.std.specs.Prelude.{◌≡◌, refl, List}
use Rattle.std.proofs.Math.Path.{sym, subst}
use Rattle.std.proofs.Common.{◌∙◌, ⊎_elim, zero-mul, suc-mul, mul-le-mul_right, div-lt_iff_lt-mul, arith, ne_eqb}
use Prim.Native.Nat.{ℕ, suc, ◌+◌, ◌*◌, ◌<◌, ◌≤◌}
use Rattle.laws.specs.ChoiceLaws.{below_or_not}
use Rattle.layout.specs.Columns.{line_of, field_of}
use Rattle.layout.specs.ColumnsLaws.{field_of_inside, stored_at}
use Rattle.layout.specs.Layout.{numbers_of}
use Rattle.field.specs.Item.{Item}
use Rattle.record_table.specs.TypedSets.{header_lines}
use Rattle.theory.specs.Sets.{Set}
use Rattle.theory.specs.Proper.{Proper}
use Rattle.parts.specs.Parts.{Part, line_start, last_line}
use Rattle.parts.specs.Parts as Parts
use Rattle.parts.specs.Function.{part_case, data_start, first_byte, past_byte}
use Rattle.parts.specs.Padding.{padding_in, padding_of}
use Rattle.parts_laws.specs.Holds.{Holds}
use Rattle.parts_laws.specs.Declares.{declared, set_case}
use Rattle.parts_laws.specs.DeclaresLaws.{number_held, case_held, declared_held}
use Rattle.parts_laws.specs.Stored.{stored_count, own_columns}
use Rattle.parts_laws.specs.Field.{Spelled}
use Rattle.parts_laws.specs.Whole.{Owned}
use Rattle.parts_laws.specs.PaddingLaws.{stored_held, last_held}
use Rattle.parts_laws.proofs.PaddedLaws.{stored_some, padding_held, padding_spelled}
use Rattle.parts_laws.proofs.WholeLaws.{byte_owned}
use Rattle.parts_laws.proofs.ShownLaws.{own_bytes_lem, stored_shown}
use Rattle.parts_laws.proofs.OrderLaws.{columns_inside, columns_apart, first_column}
use Rattle.parts_laws.specs.CaseLaws.{numbers_of_some, case_eight, declared_some}
use Rattle.theorems.specs.Answers.{own_bytes}
use Rattle.theorems.specs.Stands.{SetAt, At58}
use Rattle.theorems.specs.ListerLaws.{set_holds, set_somewhere}
use Rattle.theorems.specs.Columns.{Columns, DataByte, Within, OfValue, OfPadding, Belongs, to_value, to_padding}

-- the data lines of a 58 begin at its twelfth line
data_start_lem : {s : Set} {p : Part} → Holds s p → s.number ≡ 58 → data_start p ≡ line_start p header_lines
unfolding data_start
data_start_lem h e = rw (number_held h, e) refl

-- columns in the data lines
inside_data : (p : Part) (a b : ℕ) {B : Type 0} → data_start p ≡ a → (a ≤ b) × B → (data_start p ≤ b) × B
inside_data p a b e (l, r) = (rw e l, r)

-- number r of value i of so many, each of n numbers
pub value_number : (i r n count : ℕ) → i < count → r < n → i * n + r < count * n
value_number i r n count l m =
    let a : suc i * n ≤ count * n = mul-le-mul_right n l in
    omega (arith, suc-mul i n)

-- is of no other value
same_value : (n i j r t : ℕ) → r < n → t < n → i * n + r ≡ j * n + t → i ≡ j
same_value n i j r t a b e =
    ⊎_elim (λ (h : i < j). absurd (omega (arith, value_number i r n j h a)))
    (λ (h : j ≤ i). ⊎_elim (λ (g : j < i). absurd (omega (arith, value_number j t n i g b))) (λ (g : i ≤ j). omega arith) (below_or_not j i))
    (below_or_not i j)

-- columns that stand apart share no byte
within_once : (p : Part) (count : ℕ) → ((i j : ℕ) → i < j → j < count → past_byte p i ≤ first_byte p j)
    → (x i j : ℕ) → i < count → j < count → Within p i x → Within p j x → i ≡ j
within_once p count apart x i j a b v w =
    ⊎_elim (λ (h : i < j). absurd (omega (arith, apart i j h b, v.past, w.from)))
    (λ (h : j ≤ i). ⊎_elim (λ (g : j < i). absurd (omega (arith, apart j i g a, w.past, v.from))) (λ (g : i ≤ j). omega arith) (below_or_not j i))
    (below_or_not i j)

-- the value of a stored number
value_below : (n count j : ℕ) → 0 < n → j < count * n → line_of n j < count
unfolding line_of
value_below n count j p h = (div-lt_iff_lt-mul p).1 h

-- a stored number is one of a value's
of_value : (s : Set) (p : Part) (x : ℕ) → set_case s < 8 → Owned p (stored_count s) x → OfValue s p x
unfolding stored_count
of_value s p x c o =
    let j : ℕ = o.index in
    let n : 0 < numbers_of (set_case s) = numbers_of_some (set_case s) c in
    let q : line_of (numbers_of (set_case s)) j * numbers_of (set_case s) + field_of (numbers_of (set_case s)) j ≡ j = stored_at (numbers_of (set_case s)) j in
    record {
      value = line_of (numbers_of (set_case s)) j;
      some = value_below (numbers_of (set_case s)) (declared s) j n o.some;
      number = field_of (numbers_of (set_case s)) j;
      few = field_of_inside (numbers_of (set_case s)) j n;
      within = rw q (record { from = o.from; past = o.past });
    }

-- two values that have a byte are the same one
one_value : (s : Set) (p : Part) (x : ℕ) → ((i j : ℕ) → i < j → j < stored_count s → past_byte p i ≤ first_byte p j) → (a b : OfValue s p x) → a.value ≡ b.value
unfolding stored_count
one_value s p x apart a b =
    let n : ℕ = numbers_of (set_case s) in
    let below : (o : OfValue s p x) → o.value * n + o.number < declared s * n = λ o. value_number o.value o.number n (declared s) o.some o.few in
    same_value n a.value b.value a.number b.number a.few b.few
    (within_once p (stored_count s) apart x _ _ (below a) (below b) a.within b.within)

-- no byte is a value's and padding's
module _ (s : Set) (p : Part) (x : ℕ) (apart : (i j : ℕ) → i < j → j < stored_count s + padding_of p → past_byte p i ≤ first_byte p j) where
  not_both : OfValue s p x → OfPadding s p x → ⊥
  unfolding stored_count
  not_both v f =
      let n : ℕ = numbers_of (set_case s) in
      let i : v.value * n + v.number < declared s * n = value_number v.value v.number n (declared s) v.some v.few in
      omega (arith, apart (v.value * n + v.number) f.number (omega (arith, i, f.from)) f.below, v.within.past, f.within.from)

  -- a field's byte, by its number
  belongs : set_case s < 8 → Owned p (stored_count s + padding_of p) x → Belongs s p x
  belongs c o =
      ⊎_elim
      (λ (h : o.index < stored_count s).
      let v = of_value s p x c (record { index = o.index; some = h; from = o.from; past = o.past }) in
      to_value (record { of = v; only = λ other. one_value s p x (λ i j l m. apart i j l (omega arith)) other v }) (not_both v))
      (λ (h : stored_count s ≤ o.index).
      let f : OfPadding s p x = record { number = o.index; from = h; below = o.some; within = record { from = o.from; past = o.past } } in
      to_padding f (λ v. not_both v f))
      (below_or_not o.index (stored_count s))

-- a 58 of the list, as it stands
module _ {sets : List Set} {bytes : List ℕ} (p : Proper sets bytes) {k : ℕ} {s : Set} {q : Part} (a : At58 sets bytes k s q) where
  holds : Holds s q
  holds = set_holds p a.at

  pub values_in_columns : Columns bytes s q
  unfolding own_bytes
  values_in_columns =
      let start = data_start_lem holds a.number in
      record {
        count = declared_held holds;
        some = declared_some holds.lines a.number;
        case = case_held holds a.number;
        eight = case_eight holds.lines a.number;
        spelled = stored_shown bytes a.at.others (set_somewhere p a.at) holds a.number;
        begins = first_column q ∙ sym start;
        inside = λ j l. inside_data q _ _ start (columns_inside holds a.number j l);
        apart = columns_apart holds a.number;
      }

  pub bytes_of_values : (x : ℕ) → DataByte bytes q x → Belongs s q x
  bytes_of_values x d =
      let start = data_start_lem holds a.number in
      let owned = byte_owned bytes a.at.others (set_somewhere p a.at) holds a.number x (rw start at d.from) d.past d.no_blank d.no_lf d.no_cr in
      belongs s q x (columns_apart holds a.number) (case_eight holds.lines a.number) owned

  some_stored : 0 < stored_count s
  some_stored = stored_some holds.lines a.number

  -- the padding that the lister counts: by the last data line, and each of its numbers spells a real
  pub padding_counted : padding_of q ≡ padding_in (set_case s) (stored_count s) (Parts.line_of q (last_line q))
  padding_counted = rw (last_held holds a.number some_stored) (padding_held holds a.number some_stored)

  pub padding_real : (j : ℕ) → stored_count s ≤ j → j < stored_count s + padding_of q → (i : Item) × Spelled i (own_bytes bytes q j)
  unfolding own_bytes
  padding_real j from below =
      let x = padding_spelled holds a.number some_stored j from below in
      let own : Spelled x.0 (own_columns (part_case q) q j)
      = subst (λ (c : ℕ). Spelled x.0 (own_columns c q j)) (sym (case_held holds a.number)) x.1 in
      (x.0, subst (Spelled x.0) (own_bytes_lem bytes q a.at.others (set_somewhere p a.at) j x.0 own) own)

-- a set that is no 58 has none
pub padding_other : {sets : List Set} {bytes : List ℕ} → Proper sets bytes → {k : ℕ} {s : Set} {q : Part} → SetAt sets bytes k s q → (s.number ≡ 58 → ⊥) → padding_of q ≡ 0
unfolding padding_of stored_count declared
padding_other p {s = s} a n = rw (stored_held (set_holds p a), ne_eqb s.number 58 n, zero-mul) refl
