-- What the table of typed sets keeps, by one computed test of all its lines.
use Rattle.std.specs.Prelude.{◌≡◌, refl, Bool, true, false, ◌&&◌, [], ◌∷◌, map, ℕ, ◌<◌, ◌≤◌, ltb, length, get_or}
use Rattle.std.proofs.Common.{ap, arith, ltb-true}
use Rattle.std.proofs.Math.ListN.{get_or-eq_default}
use Rattle.laws.specs.ChoiceLaws.{and_left, and_right, false_not_true}
use Rattle.laws.specs.Ranges.{all_are}
use Rattle.laws.specs.RangesLaws.{in_range}
use Rattle.record_table.specs.Row.{Condition, none, zero_if_uneven, above_zero}
use Rattle.record_table.specs.Records.{no_record, records, record_of}
use Rattle.record_table.specs.TypedSets.{Following, nothing, list, lists, data_lines, TypedSet, typed_set, typed_sets, sequence, following}
use Rattle.record_table.specs.TypedSets.{kind58, kind82, kind151, kind164, kind1815, untyped, kind_of, header_lines}

-- the names of the kinds and the count of 58's records are the table's
pub kinds_named : map kind_of (58 ∷ 82 ∷ 151 ∷ 164 ∷ 1815 ∷ 1 ∷ []) ≡ kind58 ∷ kind82 ∷ kind151 ∷ kind164 ∷ kind1815 ∷ untyped ∷ []
unfolding kind_of typed_sets
kinds_named = refl

pub header_lines_lem : length (sequence kind58) ≡ header_lines
unfolding sequence typed_sets
header_lines_lem = refl

-- a row of a list: it has some field, and asks nothing of its fields together
abbrev asks_nothing : Condition → Bool
asks_nothing none = true
asks_nothing zero_if_uneven = false
asks_nothing above_zero = false

abbrev pub is_listed : ℕ → Bool
is_listed r = ltb 0 (length (record_of r).fields) && asks_nothing (record_of r).condition

-- what follows n records is counted by one of them, if it is counted
abbrev pub is_counted : ℕ → Following → Bool
is_counted n nothing = true
is_counted n (list r p i) = ltb p n && is_listed r
is_counted n (lists r p i j) = ltb p n && is_listed r
is_counted n (data_lines p) = ltb p n

abbrev is_record : ℕ → ℕ → Bool
is_record k a = ltb (get_or (sequence k) a no_record) no_record

abbrev is_sound : ℕ → Bool
is_sound k = ltb 0 (length (sequence k)) && (all_are (is_record k) true 0 (length (sequence k)) && is_counted (length (sequence k)) (following k))

all_sound : all_are is_sound true 0 untyped ≡ true
unfolding sequence following typed_sets record_of records
all_sound = refl

-- a typed set has some record, all of them are of the table of records, and one of them counts what follows, if it is counted
pub record Sound (k : ℕ) : Type 0 where
  pub some : 0 < length (sequence k)
  pub below : (a : ℕ) → a < length (sequence k) → get_or (sequence k) a no_record < no_record
  pub counted : is_counted (length (sequence k)) (following k) ≡ true

pub typed_sound : (k : ℕ) → k < untyped → Sound k
typed_sound k h =
    let n : ℕ = length (sequence k) in
    let s : is_sound k ≡ true = in_range is_sound true 0 untyped k all_sound (omega arith) h in
    let t : all_are (is_record k) true 0 n && is_counted n (following k) ≡ true = and_right (ltb 0 n) _ s in
    record {
      some = ltb-true 0 n (and_left (ltb 0 n) _ s);
      below = λ a l. ltb-true _ no_record (in_range (is_record k) true 0 n a (and_left (all_are (is_record k) true 0 n) _ t) (omega arith) (omega arith));
      counted = and_right (all_are (is_record k) true 0 n) _ t;
    }

-- past the table there are no records, and nothing follows them
pub sequence_past : (k : ℕ) → untyped ≤ k → sequence k ≡ []
unfolding sequence typed_sets
sequence_past k h = ap (λ (s : TypedSet). s.records) (get_or-eq_default typed_sets (typed_set 0 [] nothing) h)

pub following_past : (k : ℕ) → untyped ≤ k → following k ≡ nothing
unfolding following typed_sets
following_past k h = ap (λ (s : TypedSet). s.following) (get_or-eq_default typed_sets (typed_set 0 [] nothing) h)

-- a list that is counted: one of n records counts it, and its row has some field and asks nothing of its fields together
pub record Counted (n row place : ℕ) : Type 0 where
  pub within : place < n
  pub some : 0 < length (record_of row).fields
  pub free : (record_of row).condition ≡ none

asks_none : (c : Condition) → asks_nothing c ≡ true → c ≡ none
asks_none none t = refl
asks_none zero_if_uneven t = false_not_true t
asks_none above_zero t = false_not_true t

pub is_counted_lem : (n row place : ℕ) → ltb place n && is_listed row ≡ true → Counted n row place
is_counted_lem n row place t =
    let l : is_listed row ≡ true = and_right (ltb place n) (is_listed row) t in
    let w : Bool = ltb 0 (length (record_of row).fields) in
    record {
      within = ltb-true place n (and_left (ltb place n) (is_listed row) t);
      some = ltb-true 0 _ (and_left w _ l);
      free = asks_none (record_of row).condition (and_right w _ l);
    }
