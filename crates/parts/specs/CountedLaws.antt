-- The columns of a 58's last line that count; what the code finds of them is the set's own.
use Rattle.std.specs.Prelude.{◌≡◌, Bool, true, false, List, ℕ, zero, suc, ◌+◌, ◌-◌, ◌*◌, ◌≤◌, ◌<◌, eqb, take, drop}
use Rattle.std.proofs.Math.Path.{refl}
use Rattle.std.proofs.Common.{ap, ◌∙◌, ⊎_elim, mul-zero, zero-mul, mul-le-mul_left, add-one, arith, le-ltb}
use Rattle.laws.specs.Choice.{pick}
use Rattle.laws.specs.ChoiceLaws.{below_or_not}
use Rattle.text.specs.Blank.{all_blank}
use Rattle.layout.specs.Columns.{field_start, total}
use Rattle.layout.specs.ColumnsLaws.{field_start_next, field_start_total, field_past_total, field_of_inside}
use Rattle.layout.specs.Layout.{layout_of, fields_of, numbers_of}
use Rattle.layout.specs.LayoutLaws.{fields_of_some, widths_six, total_inside}
use Rattle.record_table.specs.TypedSets.{line_seven}
use Rattle.record.specs.Declares.{case_in, count_in, stored_in}
use Rattle.walk.specs.DueLaws.{numbers_of_few}
use Rattle.parts.specs.declared.Extent.{Extent}
use Rattle.parts.specs.declared.Declared.{Declared}
use Rattle.parts.specs.declared.Counted.{Counted}
use Rattle.parts.specs.Parts.{Part, dataset_of, line_start, line_of, last_start, closing_start}
use Rattle.parts.specs.Scan.{line_from}
use Rattle.parts.specs.Function.{part_case, count_of, stored_of}
use Rattle.parts.specs.FunctionLaws.{line_from_own}
use Rattle.parts.specs.Set.{Standing}
use Rattle.parts.specs.Turn.{Turn}
use Rattle.parts.specs.Padding.{last_field, counted_past, remainder, padding_in}
use Rattle.parts.specs.Counted.{declares, counts, declared_at, counted_by, counted_at}

-- a value stores three numbers at most
pub stored_most : (i c k : ℕ) → k ≡ numbers_of c → i * k ≤ i * 3
stored_most i c k e = mul-le-mul_left i (rw e (numbers_of_few c))

-- where a number is stored there is a case
case_of_some : (n c : ℕ) → 0 < n * numbers_of c → c < 8
unfolding numbers_of
case_of_some n c h =
    ⊎_elim (λ (l : c < 8). l)
    (λ (g : 8 ≤ c). let z : 0 < n * 0 = rw (le-ltb c 8 g) at h in absurd (omega (arith, mul-zero n)))
    (below_or_not c 8)

pub not_zero : (n : ℕ) → (n ≡ 0 → ⊥) → 0 < n
not_zero zero f = absurd (f refl)
not_zero (suc n) f = omega arith

pub declared_case : (file : List ℕ) (e : Extent) (d : Declared) → d ≡ declared_at file e → (d.stored ≡ 0 → ⊥) → d.case < 8
unfolding declared_at stored_in
declared_case file e d q n = by (eqb e.number 58) q
  where
    seven : List ℕ
    seven = line_from e.closing e.body file line_seven

    by : (t : Bool) → d ≡ pick t (declares (case_in seven) (count_in seven * numbers_of (case_in seven))) (declares 0 0) → d.case < 8
    by true k =
        let s : d.stored ≡ count_in seven * numbers_of (case_in seven) = ap (λ (x : Declared). x.stored) k in
        let c : d.case ≡ case_in seven = ap (λ (x : Declared). x.case) k in
        rw c (case_of_some (count_in seven) (case_in seven) (omega (arith, s, not_zero d.stored n)))
    by false k = absurd (n (ap (λ (x : Declared). x.stored) k))

-- the last stored number is in a field of the line
pub last_inside : (c n : ℕ) → c < 8 → last_field c n < fields_of c
unfolding last_field
last_inside c n h = field_of_inside (fields_of c) (n - 1) (fields_of_some c h)

pub last_few : (c n : ℕ) → c < 8 → last_field c n < 6
unfolding fields_of
last_few c n h = omega (arith, last_inside c n h, widths_six c)

-- the columns past it, as the code has them
pub past_start : (c n k : ℕ) → k ≡ last_field c n → field_start (layout_of c).widths (k + 1) ≡ counted_past c n
unfolding counted_past
past_start c n k e = rw (e, add-one) (field_start_next (layout_of c).widths (last_field c n))

pub full_start : (c : ℕ) → field_start (layout_of c).widths (fields_of c) ≡ total (layout_of c).widths
unfolding fields_of
full_start c = field_start_total (layout_of c).widths _ (omega arith)

pub past_inside : (c n : ℕ) → counted_past c n ≤ total (layout_of c).widths
unfolding counted_past
past_inside c n = field_past_total (layout_of c).widths (last_field c n)

module _ (c n f k from past : ℕ) (a : f ≡ fields_of c) (b : k ≡ last_field c n)
    (x : from ≡ field_start (layout_of c).widths (k + 1)) (y : past ≡ field_start (layout_of c).widths f) where
  from_counted : from ≡ counted_past c n
  from_counted = x ∙ past_start c n k b

  past_full : past ≡ total (layout_of c).widths
  past_full = y ∙ rw a (full_start c)

  pub remainder_order : from ≤ past
  remainder_order = omega (arith, from_counted, past_full, past_inside c n)

  pub remainder_within : past ≤ 80
  remainder_within = omega (arith, past_full, total_inside c)

  pub padding_by : (cs : List ℕ) (r : Bool) → r ≡ all_blank (take (past - from) (drop from cs)) → pick r 0 (f - (k + 1)) ≡ padding_in c n cs
  unfolding padding_in remainder
  padding_by cs r e = rw (e, from_counted, past_full, a, b, add-one) refl

-- what is found is the set's own: a set that is no 58 declares nothing
counted_if : (t : Bool) (c n last closing : ℕ)
    → counted_by (pick t (declares c (n * numbers_of c)) (declares 0 0)) last closing ≡ counted_by (declares c (pick t n 0 * numbers_of c)) last closing
counted_if true c n last closing = refl
counted_if false c n last closing = rw (zero-mul (numbers_of c)) refl

module _ (file : List ℕ) (n at : ℕ) (e : Extent) (p : Part) (ps : List Part) (s : Standing file n at p ps)
    (number : e.number ≡ dataset_of p) (body : e.body ≡ line_start p 0) (last : e.last ≡ last_start p) (closing : e.closing ≡ closing_start p) where
  declared_of : declared_at file e ≡ pick (eqb (dataset_of p) 58) (declares (part_case p) (count_in (line_of p line_seven) * numbers_of (part_case p))) (declares 0 0)
  unfolding declared_at stored_in part_case
  declared_of = rw (number, body, closing, line_from_own file n at p ps s line_seven) refl

  counted_of : counted_at file e ≡ counted_by (declares (part_case p) (stored_of p)) (last_start p) (closing_start p)
  unfolding counted_at stored_of count_of
  counted_of =
      rw (declared_of, last, closing) (counted_if (eqb (dataset_of p) 58) (part_case p) (count_in (line_of p line_seven)) (last_start p) (closing_start p))

module _ (file : List ℕ) (n at : ℕ) (e : Extent) (t : Turn file n at e) where
  abbrev set : Part
  set = t.first.set

  pub counted_own : counted_at file e ≡ counted_by (declares (part_case set) (stored_of set)) (last_start set) (closing_start set)
  counted_own = let f = t.first in counted_of file n at e f.set f.others t.stands f.number f.body f.last f.closing

-- a line that is cut is in the file
pub counted_within : (file : List ℕ) (e : Extent) (k : Counted) (m : ℕ) → k ≡ counted_at file e → e.last ≤ m → e.closing ≤ m → k.line ≤ m
unfolding counted_at
counted_within file e k m q a b = by (eqb (declared_at file e).stored 0) q
  where
    by : (t : Bool) → k ≡ pick t (counts e.closing 0) (counts e.last (counted_past (declared_at file e).case (declared_at file e).stored)) → k.line ≤ m
    by true c = rw c b
    by false c = rw c a
