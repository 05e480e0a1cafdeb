-- The fields that may be left blank: where their items are all blank so are the columns that they name, and where these are blank so
-- are the items.
use Rattle.std.proofs.Math.Path.{◌≡◌}
use Rattle.std.specs.Prelude.{refl, ◌⊎◌, Bool, true, ◌&&◌, ◌||◌, ℕ, zero, suc, ◌+◌, ◌-◌, ◌≤◌, ◌<◌, eqb, leb, ℤ, length, get_or, take, drop, Ok, Err}
use Rattle.std.proofs.Common.{sym, ap, ◌∙◌, inl, inr, arith, eqb-true, leb-true, length-take, get_or-take, get_or-drop, get_or-append-add}
use Rattle.std.proofs.Math.Logic.{⊎_elim}
use Rattle.std.proofs.Math.Bool.{false}
use mathlib.Core.List.{List, [], ◌∷◌, ◌++◌}
use Rattle.std.proofs.Math.ListN.{get_or-append, get_or-eq_default}
use Rattle.laws.specs.ChoiceLaws.{and_left, and_right, and_both, below_or_not}
use Rattle.text.specs.Blank.{Blanks, none, one, all_blank}
use Rattle.text.specs.BlankLaws.{all_blank_complete, all_blank_sound}
use Rattle.integer.specs.Integer.{Held, integer_of}
use Rattle.integer.proofs.IntegerLaws.{integer_of_blank}
use Rattle.integer.specs.declared.IntegerFault.TheVariants.{Blank, Malformed, OutOfRange}
use Rattle.codes.specs.Form.{Form, skip, text, identification, real, integer, never, within, optional_of}
use Rattle.field.specs.Item.{Item}
use Rattle.field.specs.Field.{columns_of, may_blank, integer_number, field_number, integer_item, with_item}
use Rattle.record_table.specs.Row.{Field, Row, padding_fields, with_padding}
use Rattle.record.specs.Check.{fields_fault, items_of}
use Rattle.record.specs.CheckLaws.{or_else_passed}
use Rattle.record.specs.Written.{Stands, a_text, a_identification, an_integer, a_blank, a_real, FieldsIn, rest, skipped, stands, with_optional, optional_items, AllBlank, AllPresent, Together}
use Rattle.record_laws.specs.Group.{placed, placed_form, placed_from, Grouped, Inside}

-- Blanks, column by column.

pub blanks_at : {l : List ℕ} (k : ℕ) → Blanks l → get_or l k 32 ≡ 32
blanks_at k none = refl
blanks_at zero (one b) = refl
blanks_at (suc k) (one b) = blanks_at k b

blanks_each : (l : List ℕ) → ((k : ℕ) → get_or l k 32 ≡ 32) → Blanks l
blanks_each [] h = none
blanks_each (b ∷ l) h = let z : b ≡ 32 = h 0 in rw z (one (blanks_each l (λ k. h (suc k))))

-- column k of a field's own columns and of those after them
get_d_own : (own cols : List ℕ) (w k : ℕ) → length own ≡ w → k < w → get_or (own ++ cols) k 32 ≡ get_or own k 32
get_d_own own cols w k l h = get_or-append own cols 32 k (omega arith)

pub get_d_later : (own cols : List ℕ) (w k : ℕ) → length own ≡ w → w ≤ k → get_or (own ++ cols) k 32 ≡ get_or cols (k - w) 32
get_d_later own cols w k l h = let z : length own + (k - w) ≡ k = omega arith in ap (λ (x : ℕ). get_or (own ++ cols) x 32) (sym z) ∙ get_or-append-add own cols (k - w) 32

-- n columns from a on, one by one
columns_blank : (a n : ℕ) (line : List ℕ) → ((k : ℕ) → k < n → get_or line (a + k) 32 ≡ 32) → Blanks (take n (drop a line))
columns_blank a n line h = blanks_each (take n (drop a line)) each
  where
    each : (k : ℕ) → get_or (take n (drop a line)) k 32 ≡ 32
    each k =
        ⊎_elim (λ p. get_or-take n (drop a line) k 32 p ∙ get_or-drop a line k 32 ∙ h k p)
        (λ (p : n ≤ k). get_or-eq_default (take n (drop a line)) 32 (omega (arith, p, length-take n (drop a line)))) (below_or_not k n)

columns_at_lem : (a e : ℕ) (line : List ℕ) → Blanks (columns_of a e line) → (k : ℕ) → a ≤ k → k < e → get_or line k 32 ≡ 32
columns_at_lem a e line b k p q =
    let z : a + (k - a) ≡ k = omega arith in
    rw z at (sym (get_or-take (e - a) (drop a line) (k - a) 32 (omega arith) ∙ get_or-drop a line (k - a) 32) ∙ blanks_at (k - a) b)

-- One field.

optional_inside : (a e at w b d : ℕ) → placed a e at w (within b d) ≡ true → Inside a e at w b d
optional_inside a e at w b d h =
    let n = and_left (eqb b a && eqb d e) _ h in
    let l = and_right (eqb b a && eqb d e) _ h in
    record {
      from = eqb-true b a (and_left (eqb b a) _ n);
      past = eqb-true d e (and_right (eqb b a) _ n);
      first = leb-true a at (and_left (leb a at) _ l);
      last = leb-true (at + w) e (and_right (leb a at) _ l);
    }

others_outside : {A : Type 0} (a e at w k : ℕ) → placed a e at w never ≡ true → k < w → a ≤ at + k → at + k < e → A
others_outside {A} a e at w k h = by (leb e at) refl h
  where
    by : (t : Bool) → leb e at ≡ t → t || leb (at + w) a ≡ true → k < w → a ≤ at + k → at + k < e → A
    by true q g l p r = let z : e ≤ at = leb-true e at q in absurd (omega arith)
    by false q g l p r = let z : at + w ≤ a = leb-true (at + w) a g in absurd (omega arith)

integer_blank : {A : Type 0} (z : ℤ) → Item.integer z ≡ Item.blank → A
integer_blank z h = let y : ◌≡◌ {A = ℕ} 0 1 = cc in absurd (omega arith)

blank_first : {i : Item} {is : List Item} → AllBlank (i ∷ is) → i ≡ Item.blank
blank_first (AllBlank.cons n) = refl

blank_later : (i : Item) (is : List Item) → AllBlank (i ∷ is) → AllBlank is
blank_later i is (AllBlank.cons n) = n

present_first : {i : Item} {is : List Item} → AllPresent (i ∷ is) → i ≡ Item.blank → ⊥
present_first (AllPresent.cons m n) = m

present_later : (i : Item) (is : List Item) → AllPresent (i ∷ is) → AllPresent is
present_later i is (AllPresent.cons m n) = n

-- what is said of the items of a list, and so of the later ones, is said of those after a field's own
items_later : {f : Form} {i : Item} {own : List ℕ} (P : List Item → Type 0) (w : ℕ) (is : List Item) (fs : List Field)
    → ((j : Item) (js : List Item) → P (j ∷ js) → P js) → Stands f i own
    → P (optional_items (record { form = f; width = w } ∷ fs) (i ∷ is)) → P (optional_items fs is)
unfolding optional_items
items_later P w is fs t (a_text s) h = h
items_later P w is fs t (a_identification s m) h = h
items_later P w is fs t (an_integer {o = never} s l r) h = h
items_later P w is fs t (an_integer {o = within b d} s l r) h = t _ _ h
items_later P w is fs t (a_blank b) h = t _ _ h
items_later P w is fs t (a_real r) h = h

module _ (a e : ℕ) where
  -- From the items to the columns.

  -- a field of items that are all blank has blanks in the columns named
  own_blank : {f : Form} {i : Item} {own : List ℕ} (at w k : ℕ) (is os : List Item) → Stands f i own → placed_form a e at w f ≡ true
      → AllBlank (with_optional (optional_of f) (i ∷ is) os) → k < w → a ≤ at + k → at + k < e → get_or own k 32 ≡ 32
  own_blank at w k is os (a_text t) g n = others_outside a e at w k g
  own_blank at w k is os (a_identification t m) g n = others_outside a e at w k g
  own_blank at w k is os (an_integer {o = never} s l r) g n = others_outside a e at w k g
  own_blank at w k is os (an_integer {o = within b d} s l r) g n = integer_blank _ (blank_first n)
  own_blank at w k is os (a_blank b) g n = λ h p q. blanks_at k b
  own_blank at w k is os (a_real r) g n = others_outside a e at w k g

  named_blank : {fs : List Field} {is : List Item} {cols : List ℕ} → FieldsIn fs is cols → (at : ℕ) → placed_from a e fs at ≡ true
      → AllBlank (optional_items fs is) → (k : ℕ) → a ≤ at + k → at + k < e → get_or cols k 32 ≡ 32
  unfolding placed_from optional_items
  named_blank (rest b) at g n k p q = blanks_at k b
  named_blank (skipped {w} {fs} {is} bl cols l b r) at g n k p q =
      ⊎_elim (λ h. get_d_own bl cols w k l h ∙ blanks_at k b)
      (λ h. get_d_later bl cols w k l h ∙ named_blank r (at + w) g n (k - w) (omega arith) (omega arith)) (below_or_not k w)
  named_blank (stands {form} {w} {fs} {i} {is} own cols l s r) at g n k p q =
      let o = and_left (placed_form a e at w form) _ g in
      let t = and_right (placed_form a e at w form) _ g in
      let m = items_later AllBlank w is fs blank_later s n in
      ⊎_elim (λ h. get_d_own own cols w k l h ∙ own_blank at w k is _ s o n h p q)
      (λ h. get_d_later own cols w k l h ∙ named_blank r (at + w) t m (k - w) (omega arith) (omega arith)) (below_or_not k w)

  module _ (line : List ℕ) where
    -- the columns named are blank, or these items are present
    abbrev pub Leaves : List Item → Type 0
    Leaves is = Blanks (columns_of a e line) ⊎ AllPresent is

    -- items that are all blank or all present
    pub leaves_whole : {fs : List Field} {is : List Item} → FieldsIn fs is line → placed_from a e fs 0 ≡ true → Together (optional_items fs is)
        → Leaves (optional_items fs is)
    leaves_whole f g (Together.blank n) = inl (columns_blank a (e - a) line (λ k h. named_blank f 0 g n (a + k) (omega arith) (omega arith)))
    leaves_whole f g (Together.present n) = inr n

    -- the items after a field's own
    pub leaves_later : {f : Form} {i : Item} {own : List ℕ} (w : ℕ) (is : List Item) (fs : List Field) → Stands f i own
        → Leaves (optional_items (record { form = f; width = w } ∷ fs) (i ∷ is)) → Leaves (optional_items fs is)
    leaves_later w is fs s (inl b) = inl b
    leaves_later w is fs s (inr n) = inr (items_later AllPresent w is fs present_later s n)

    -- a blank item's field may be left blank on this line
    pub leaves_may : {f : Form} {i : Item} {own : List ℕ} (at w : ℕ) (is : List Item) (fs : List Field) → Stands f i own → placed_form a e at w f ≡ true
        → Leaves (optional_items (record { form = f; width = w } ∷ fs) (i ∷ is)) → i ≡ Item.blank → may_blank f line ≡ true
    unfolding optional_items may_blank
    leaves_may at w is fs (a_text s) g n q = let y : ◌≡◌ {A = ℕ} 0 1 = cc in absurd (omega arith)
    leaves_may at w is fs (a_identification s m) g n q = let y : ◌≡◌ {A = ℕ} 0 1 = cc in absurd (omega arith)
    leaves_may at w is fs (an_integer s l r) g n q = integer_blank _ q
    leaves_may at w is fs (a_blank {a = b} {e = d} s) g (inl n) q =
        let i = optional_inside a e at w b d g in
        rw (i.from, i.past) (all_blank_complete n)
    leaves_may at w is fs (a_blank s) g (inr n) q = absurd (present_first n refl)
    leaves_may at w is fs (a_real r) g n q = let y : ◌≡◌ {A = ℕ} 0 1 = cc in absurd (omega arith)

    -- From the columns to the items.

    -- where the columns named are blank, so is the item of a field that lies in them
    item_blank : (f : Form) (at w : ℕ) (is : List Item) (fs : List Field) → placed_form a e at w f ≡ true → Blanks (columns_of a e line) → AllBlank (optional_items fs is)
        → AllBlank (optional_items (record { form = f; width = w } ∷ fs) (with_item f (take w (drop at line)) is))
    unfolding optional_items
    item_blank skip at w is fs g b n = n
    item_blank text at w is fs g b n = n
    item_blank identification at w is fs g b n = n
    item_blank real at w is fs g b n = n
    item_blank (integer r never) at w is fs g b n = n
    item_blank (integer r (within c d)) at w is fs g b n =
        let i = optional_inside a e at w c d g in
        let o = columns_blank at w line (λ k h. columns_at_lem a e line b (at + k) (omega (arith, i.first)) (omega (arith, h, i.last))) in
        rw (integer_of_blank o) (AllBlank.cons n)

    items_blank : (fs : List Field) (at : ℕ) → placed_from a e fs at ≡ true → Blanks (columns_of a e line) → AllBlank (optional_items fs (items_of fs at line))
    unfolding placed_from items_of optional_items
    items_blank [] at g b = AllBlank.nil
    items_blank (f ∷ fs) at g b =
        item_blank f.form at f.width (items_of fs (at + f.width) line) fs (and_left (placed_form a e at f.width f.form) _ g) b
        (items_blank fs (at + f.width) (and_right (placed_form a e at f.width f.form) _ g) b)

    -- where they are not, a field that passes is not left blank
    item_present : (f : Form) (at w : ℕ) (own : List ℕ) (is : List Item) (fs : List Field) → placed_form a e at w f ≡ true → all_blank (columns_of a e line) ≡ false
        → field_number f (may_blank f line) own ≡ 0 → AllPresent (optional_items fs is) → AllPresent (optional_items (record { form = f; width = w } ∷ fs) (with_item f own is))
    unfolding optional_items field_number may_blank
    item_present skip at w own is fs g b p n = n
    item_present text at w own is fs g b p n = n
    item_present identification at w own is fs g b p n = n
    item_present real at w own is fs g b p n = n
    item_present (integer r never) at w own is fs g b p n = n
    item_present (integer r (within c d)) at w own is fs g b p n =
        let i = optional_inside a e at w c d g in
        of (integer_of own) (rw (i.from, i.past, b) at p)
      where
        of : (v : Held) → integer_number r false v ≡ 0 → AllPresent (integer_item v ∷ optional_items fs is)
        of (Err Blank) z = absurd (omega arith)
        of (Err Malformed) z = absurd (omega arith)
        of (Err OutOfRange) z = absurd (omega arith)
        of (Ok i) z = AllPresent.cons (λ q. integer_blank _ q) n

    items_present : (fs : List Field) (at : ℕ) → placed_from a e fs at ≡ true → all_blank (columns_of a e line) ≡ false → (fields_fault fs at line).number ≡ 0
        → AllPresent (optional_items fs (items_of fs at line))
    unfolding placed_from items_of fields_fault optional_items
    items_present [] at g b p = AllPresent.nil
    items_present (f ∷ fs) at g b p =
        let m = or_else_passed _ _ _ p in
        item_present f.form at f.width _ (items_of fs (at + f.width) line) fs (and_left (placed_form a e at f.width f.form) _ g) b m.0
        (items_present fs (at + f.width) (and_right (placed_form a e at f.width f.form) _ g) b m.1)

    -- the items of fields that pass are all blank or all present
    pub together_read : (fs : List Field) → placed_from a e fs 0 ≡ true → (fields_fault fs 0 line).number ≡ 0 → Together (optional_items fs (items_of fs 0 line))
    together_read fs g p = by (all_blank (columns_of a e line)) refl
      where
        by : (t : Bool) → all_blank (columns_of a e line) ≡ t → Together (optional_items fs (items_of fs 0 line))
        by true q = Together.blank (items_blank fs 0 g (all_blank_sound (columns_of a e line) q))
        by false q = Together.present (items_present fs 0 g q p)

-- the fields of a row without its padding
placed_left : (a e : ℕ) (fs gs : List Field) (at : ℕ) → placed_from a e (fs ++ gs) at ≡ true → placed_from a e fs at ≡ true
unfolding placed_from
placed_left a e [] gs at h = refl
placed_left a e (f ∷ fs) gs at h =
    let p = placed_form a e at f.width f.form in
    and_both p _ (and_left p _ h) (placed_left a e fs gs (at + f.width) (and_right p _ h))

pub own_grouped : (r : Row) → Grouped (with_padding r).fields → Grouped r.fields
own_grouped r g = record { from = g.from; past = g.past; lie = placed_left g.from g.past r.fields (padding_fields r) 0 g.lie }
