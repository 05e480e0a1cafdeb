-- A 58 of a list has one of the eight cases: its line 7 holds an ordinate type and a spacing of those listed, and it declares one to 65,536
-- values.
use Rattle.std.specs.Prelude.{◌≡◌, refl, ◌⊎◌, Bool, true, false, ◌||◌, List, [], ◌∷◌, ℕ, zero, suc, ◌<◌, ◌≤◌, eqb, leb, ℤ, pos, negsuc, length, get_or}
use Rattle.std.proofs.Common.{sym, ap, subst, ◌∙◌, inl, inr, ⊎_elim, arith, eqb-true, leb-true, lt-ltb}
use Rattle.laws.specs.ChoiceLaws.{and_left, and_right, false_not_true}
use Rattle.text.specs.Parts.{signed}
use Rattle.codes.specs.Rule.{Rule, keeps, one_of}
use Rattle.codes.specs.Form.{Form, skip, text, identification, real, integer, never, within, ordinate_type, count, spacing}
use Rattle.layout.specs.Layout as Layout
use Rattle.line.specs.Line.{filled}
use Rattle.field.specs.Item.{Item, natural}
use Rattle.record_table.specs.Row.{Field}
use Rattle.record_table.specs.Records.{I, X, records, record_of, data_form}
use Rattle.record_table.specs.TypedSets.{line_seven}
use Rattle.record_laws.specs.FieldsInLaws.{own_fields}
use Rattle.record.specs.Written.{Stands, a_text, a_identification, an_integer, a_blank, a_real, FieldsIn, rest, skipped, stands, Written}
use Rattle.record.specs.Declares.{natural_at, case_by, count_by}
use Rattle.theory.specs.Sets.{Set}
use Rattle.theory.specs.Proper.{SetLines}
use Rattle.parts_laws.specs.Declares.{declared, set_case}
use Rattle.parts_laws.specs.DeclaresLaws.{seventh, typed_58}

-- 1 for an integer that may not be blank, 0 for any other form
abbrev due : Form → ℕ
due skip = 0
due text = 0
due identification = 0
due real = 0
due (integer r never) = 1
due (integer r (within a b)) = 0

-- an integer that keeps its rule
record Keeps (r : Rule) (i : Item) : Type 0 where
  value : ℤ
  item : i ≡ Item.integer value
  kept : keeps r value ≡ true

integer_stands : (r : Rule) (f : Form) (i : Item) (own : List ℕ) → Stands f i own → f ≡ integer r never → Keeps r i
integer_stands r f i own (a_text t) e = absurd (omega (arith, ap due e))
integer_stands r f i own (a_identification t n) e = absurd (omega (arith, ap due e))
integer_stands r f i own (an_integer {r = u} {o = o} {n = n} {v = v} s h k) e =
    let q : u ≡ r = cc in
    record { value = signed n v; item = refl; kept = subst (λ (x : Rule). keeps x (signed n v) ≡ true) q k }
integer_stands r f i own (a_blank b) e = absurd (omega (arith, ap due e))
integer_stands r f i own (a_real s) e = absurd (omega (arith, ap due e))

-- the first item, and the others in the columns after it
record First (r : Rule) (fs : List Field) (is : List Item) : Type 0 where
  first : Item
  others : List Item
  cols : List ℕ
  items : is ≡ first ∷ others
  keeps_rule : Keeps r first
  after : FieldsIn fs others cols

first_item : {gs : List Field} {is : List Item} {cols : List ℕ} (r : Rule) (w : ℕ) (fs : List Field) → FieldsIn gs is cols
    → gs ≡ I w r ∷ fs → First r fs is
first_item r w fs (rest b) e = let z : 0 ≡ suc (length fs) = ap length e in absurd (omega arith)
first_item r w fs (skipped {w = v} {fs = hs} bl cols l b x) e =
    let q : X v ≡ I w r = cc in
    absurd (omega (arith, ap (λ (f : Field). due f.form) q))
first_item r w fs (stands {form = f} {w = v} {fs = hs} {i = i} {is = is} own cols l s x) e =
    let q : ◌≡◌ {A = Field} (record { form = f; width = v }) (I w r) = cc in
    let t : hs ≡ fs = cc in
    record {
      first = i;
      others = is;
      cols = cols;
      items = refl;
      keeps_rule = integer_stands r f i own s (ap (λ (y : Field). y.form) q);
      after = subst (λ (y : List Field). FieldsIn y is cols) t x;
    }

-- an ordinate type and a spacing of those listed name a case
or_cases : (a b : Bool) → a || b ≡ true → (a ≡ true) ⊎ (b ≡ true)
or_cases true b h = inl refl
or_cases false b h = inr h

spacing_case : (t u : ℕ) → Layout.case_for t 0 < 8 → Layout.case_for t 1 < 8 → u ≤ 1 → Layout.case_for t u < 8
spacing_case t zero p q h = p
spacing_case t (suc zero) p q h = q
spacing_case t (suc (suc u)) p q h = absurd (omega arith)

one_case : (t c u : ℕ) → eqb t c ≡ true → Layout.case_for c 0 < 8 → Layout.case_for c 1 < 8 → u ≤ 1 → Layout.case_for t u < 8
one_case t c u e p q h = rw (eqb-true t c e) (spacing_case c u p q h)

eight : (t u : ℕ) → one_of (2 ∷ 4 ∷ 5 ∷ 6 ∷ []) t ≡ true → u ≤ 1 → Layout.case_for t u < 8
unfolding Layout.case_for Layout.layouts
eight t u h l =
    ⊎_elim (λ e. one_case t 2 u e (omega arith) (omega arith) l)
    (λ g. ⊎_elim (λ e. one_case t 4 u e (omega arith) (omega arith) l)
    (λ g. ⊎_elim (λ e. one_case t 5 u e (omega arith) (omega arith) l)
    (λ g. ⊎_elim (λ e. one_case t 6 u e (omega arith) (omega arith) l) (λ e. false_not_true e) (or_cases (eqb t 6) false g))
    (or_cases (eqb t 5) _ g)) (or_cases (eqb t 4) _ g)) (or_cases (eqb t 2) _ h)

-- the numbers of two such items
items_case : (a b : ℤ) → keeps ordinate_type a ≡ true → keeps spacing b ≡ true → Layout.case_for (natural (Item.integer a)) (natural (Item.integer b)) < 8
unfolding keeps
items_case (pos t) (pos u) p q = eight t u p (leb-true u 1 (and_right (leb 0 u) (leb u 1) q))
items_case (pos t) (negsuc u) p q = false_not_true q
items_case (negsuc t) b p q = false_not_true p

pub record_case : (is : List Item) (line : List ℕ) → Written (record_of data_form) is line → case_by is < 8
unfolding record_of records case_by natural_at
record_case is line w =
    let x = first_item ordinate_type 10 _ (own_fields w.in_columns).1 refl in
    let y = first_item count 10 _ x.after refl in
    let z = first_item spacing 10 _ y.after refl in
    rw (x.items, y.items, z.items, x.keeps_rule.item, z.keeps_rule.item) (items_case x.keeps_rule.value z.keeps_rule.value x.keeps_rule.kept z.keeps_rule.kept)

pub case_eight : {s : Set} {css : List (List ℕ)} → SetLines s css → s.number ≡ 58 → set_case s < 8
unfolding set_case
case_eight (SetLines.typed {n} {iss} {css} t l) e = record_case (get_or iss line_seven []) (filled (get_or css line_seven [])) (seventh iss css (rw e at l))
case_eight (SetLines.plain {n} t l) e = false_not_true (sym (rw e at t) ∙ typed_58)

-- and declares one to 65,536 values
item_counted : (a : ℤ) → keeps count a ≡ true → (1 ≤ natural (Item.integer a)) × (natural (Item.integer a) ≤ 65536)
unfolding keeps
item_counted (pos v) k = (leb-true 1 v (and_left (leb 1 v) (leb v 65536) k), leb-true v 65536 (and_right (leb 1 v) (leb v 65536) k))
item_counted (negsuc v) k = false_not_true k

pub record_counted : (is : List Item) (line : List ℕ) → Written (record_of data_form) is line → (1 ≤ count_by is) × (count_by is ≤ 65536)
unfolding record_of records count_by natural_at
record_counted is line w =
    let x = first_item ordinate_type 10 _ (own_fields w.in_columns).1 refl in
    let y = first_item count 10 _ x.after refl in
    rw (x.items, y.items, y.keeps_rule.item) (item_counted y.keeps_rule.value y.keeps_rule.kept)

declared_counted : {s : Set} {css : List (List ℕ)} → SetLines s css → s.number ≡ 58 → (1 ≤ declared s) × (declared s ≤ 65536)
unfolding declared
declared_counted (SetLines.typed {n} {iss} {css} t l) e = rw e (record_counted (get_or iss line_seven []) (filled (get_or css line_seven [])) (seventh iss css (rw e at l)))
declared_counted (SetLines.plain {n} t l) e = false_not_true (sym (rw e at t) ∙ typed_58)

pub declared_some : {s : Set} {css : List (List ℕ)} → SetLines s css → s.number ≡ 58 → 1 ≤ declared s
declared_some l e = (declared_counted l e).0

pub declared_most : {s : Set} {css : List (List ℕ)} → SetLines s css → s.number ≡ 58 → declared s ≤ 65536
declared_most l e = (declared_counted l e).1

-- a value stores one number at least
pub numbers_of_some : (c : ℕ) → c < 8 → 0 < Layout.numbers_of c
unfolding Layout.numbers_of
numbers_of_some c h = rw (lt-ltb c 8 h) (omega arith)
