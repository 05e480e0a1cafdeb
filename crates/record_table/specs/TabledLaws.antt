-- The code's rows hold the records.
use Rattle.std.specs.Prelude.{◌≡◌, refl, true, List, [], ℕ, zero, suc, ◌≤◌, leb, eqb, length, replicate}
use Rattle.std.proofs.Common.{leb-true, eqb-true, arith}
use Rattle.std.proofs.Math.ListN.{get_or-eq_default}
use Rattle.laws.specs.ChoiceLaws.{and_left, and_right}
use Rattle.layout.specs.Columns.{total}
use Rattle.record_table.specs.Records.{plain, records, record_of, field_list, no_record}
use Rattle.record_table.specs.Tabled.{Tabled, is_whole, Differs}

-- one of the code's rows gives the fields of record k
pub tabled : (fs ws : List ℕ) (row k : ℕ) → row ≡ k → field_list fs ws ≡ (record_of k).fields → is_whole fs ws ≡ true → Tabled row fs ws
unfolding is_whole
tabled fs ws row k e t w = record {
  listed = rw e t;
  fits = leb-true _ _ (and_left (leb (total ws) 80) _ w);
  forms_all = eqb-true _ _ (and_left (eqb (length fs) 12) _ (and_right (leb (total ws) 80) _ w));
  widths_all = eqb-true _ _ (and_right (eqb (length fs) 12) _ (and_right (leb (total ws) 80) _ w));
}

-- there is no record past the table
pub record_of_past : (k : ℕ) → no_record ≤ k → record_of k ≡ plain []
unfolding record_of records
record_of_past k h = get_or-eq_default records (plain []) h

pub tabled_past : (k : ℕ) → no_record ≤ k → Tabled k (replicate 12 0) (replicate 12 0)
unfolding field_list total
tabled_past k h = record {
  listed = rw (record_of_past k h) refl;
  fits = omega arith;
  forms_all = refl;
  widths_all = refl;
}

pub past : (n k : ℕ) → Differs n k → n ≤ k
unfolding Differs
past zero k d = omega arith
past (suc n) k (d, e) = let h : n ≤ k = past n k d in omega arith
