-- On a line that passes, each field shows its item in its own columns.
use Rattle.std.proofs.Math.Path.{◌≡◌, refl}
use Rattle.std.specs.Prelude.{false, ℕ, zero, suc, ◌+◌, ◌-◌, ◌<◌, ltb, length, get_or, take, drop, Ok, Err}
use mathlib.Core.List.{List, [], ◌∷◌, ◌++◌, append-nil}
use native.Mathlib.Omega.{arith}
use Rattle.std.proofs.Common.{le-ltb}
use Rattle.laws.specs.Choice.{pick}
use Rattle.text.specs.Text.{TextIn, trimmed}
use Rattle.text.proofs.TextLaws.{trimmed_sound}
use Rattle.integer.specs.Spelling.{IntegerSpelling}
use Rattle.integer.specs.Integer.{Held, integer_of}
use Rattle.integer.proofs.IntegerLaws.{integer_of_value}
use Rattle.integer.specs.declared.IntegerFault.TheVariants.{Blank, Malformed, OutOfRange}
use Rattle.real.specs.Real.{real_of}
use Rattle.real.proofs.RealLaws.{real_of_sound}
use Rattle.real.specs.Real.{Real}
use Rattle.real.specs.declared.RealFault.TheVariants as R
use Rattle.codes.specs.Rule.{Rule}
use Rattle.codes.specs.Form.{Form, skip, text, identification, real, integer}
use Rattle.field.specs.Item.{Item}
use Rattle.field.specs.Field.{columns_of, may_blank, integer_number, real_number, field_number, integer_item, real_item, with_item}
use Rattle.record_table.specs.Row.{Field, Row, padding_fields}
use Rattle.record.specs.Check.{fields_fault, items_of, taken}
use Rattle.record.specs.CheckLaws.{or_else_passed, past_width}
use Rattle.record.specs.TakenLaws.{taken_is}
use Rattle.reader.specs.Reader.{Said, said}
use Rattle.format_reader.specs.Question.{Seen, kind_of, counts, field_shown, real_shown, shown_from}
use Rattle.format_reader.specs.Question as Question
use Rattle.format_laws.specs.Asked.{left_blank, here, later, skipped, Shows, a_text, an_integer, a_real, FieldShows}
use Rattle.format_laws.specs.SameLaws.{or_left, or_right}

module _ (line : List ℕ) where
  -- the items of fields from the column at on are shown by these answers
  abbrev AllShow : List Field → ℕ → List Item → (ℕ → Said Seen) → Type 0
  AllShow fs at is s = (k : ℕ) → k < length is → FieldShows fs at k line (get_or is k Item.blank) (s k)

  -- the columns of one field, in front of others
  module _ (f : Field) (fs : List Field) (at : ℕ) where
    abbrev w : ℕ
    w = f.width

    abbrev cols : List ℕ
    cols = take w (drop at line)

    -- skipped columns in front
    over_skipped : {i : Item} {k : ℕ} {s : Said Seen} → f.form ≡ skip → FieldShows fs (at + w) k line i s → FieldShows (f ∷ fs) at k line i s
    over_skipped e x = record { field = x.field; first = x.first; own = skipped e x.own; shows = x.shows }

    -- an item in front of others, and its answer in front of theirs
    counted : (i : Item) (is : List Item) (x : Said Seen) (s : ℕ → Said Seen) → (f.form ≡ skip → ⊥) → Shows line at (at + w) i x → AllShow fs (at + w) is s
        → AllShow (f ∷ fs) at (i ∷ is) (λ k. pick (ltb k 1) x (s (k - 1)))
    counted i is x s n first rest zero h = record { field = f; first = at; own = here n; shows = first }
    counted i is x s n first rest (suc k) h =
        let e : suc k - 1 ≡ k = omega arith in
        let r = rest k (omega arith) in
        rw (le-ltb (suc k) 1 (omega arith), e) (record { field = r.field; first = r.first; own = later n r.own; shows = r.shows })

    text_shown : Shows line at (at + w) (Item.text (trimmed cols)) (said 0 1 (Question.columns at (at + w) ∷ []))
    text_shown = let t : TextIn (trimmed cols) (columns_of at (at + w) line) = rw (past_width at w) (trimmed_sound cols) in a_text t

    real_shown_lem : (i : Real) → real_of cols ≡ i → real_number i ≡ 0 → Shows line at (at + w) (real_item i) (real_shown at (at + w) i)
    real_shown_lem (Err R.Blank) e n = absurd (omega arith)
    real_shown_lem (Err R.Malformed) e n = absurd (omega arith)
    real_shown_lem (Ok v) e n = a_real v.minus v.coefficient v.below v.scale (rw (past_width at w) (real_of_sound cols v e).0)

    integer_shown : (r : Rule) (i : Held) → integer_of cols ≡ i → integer_number r false i ≡ 0
        → Shows line at (at + w) (integer_item i) (said 0 2 (Question.columns at (at + w) ∷ []))
    integer_shown r (Err Blank) e n = absurd (omega arith)
    integer_shown r (Err Malformed) e n = absurd (omega arith)
    integer_shown r (Err OutOfRange) e n = absurd (omega arith)
    integer_shown r (Ok i) e p =
        let t : IntegerSpelling i.minus i.size (columns_of at (at + w) line) = rw (past_width at w) (integer_of_value cols i.minus i.size e).0 in an_integer t

    field_shown_lem : (g : Form) → f.form ≡ g → (is : List Item) (s : ℕ → Said Seen) → field_number g (may_blank g line) cols ≡ 0 → may_blank g line ≡ false
        → AllShow fs (at + w) is s
        → AllShow (f ∷ fs) at (with_item g cols is) (λ k. pick (ltb k (counts (kind_of g))) (field_shown (kind_of g) at (at + w) line) (s (k - counts (kind_of g))))
    unfolding field_number kind_of counts field_shown
    field_shown_lem skip q is s n b rest k h =
        let e : k - 0 ≡ k = omega arith in
        rw (le-ltb k 0 (omega arith), e) (over_skipped q (rest k h))
    field_shown_lem text q is s n b rest k h = counted _ is _ s (λ z. let o : ◌≡◌ {A = ℕ} 0 1 = cc in omega arith) text_shown rest k h
    field_shown_lem identification q is s n b rest k h = counted _ is _ s (λ z. let o : ◌≡◌ {A = ℕ} 0 1 = cc in omega arith) text_shown rest k h
    field_shown_lem real q is s n b rest k h =
        rw (past_width at w) (counted _ is _ s (λ z. let o : ◌≡◌ {A = ℕ} 0 1 = cc in omega arith) (real_shown_lem (real_of cols) refl n) rest k h)
    field_shown_lem (integer r o) q is s n b rest k h =
        counted _ is _ s (λ z. let o : ◌≡◌ {A = ℕ} 0 1 = cc in omega arith) (integer_shown r (integer_of cols) refl (rw b at n)) rest k h

  -- the first fields of a line that passes, whatever fields are taken after them
  pub items_shown : (fs gs : List Field) (at : ℕ) → (fields_fault (fs ++ gs) at line).number ≡ 0 → left_blank (fs ++ gs) line ≡ false
      → (k : ℕ) → k < length (items_of fs at line) → FieldShows fs at k line (get_or (items_of fs at line) k Item.blank) (shown_from (fs ++ gs) at k line)
  unfolding fields_fault items_of shown_from left_blank
  items_shown [] gs at n b k h = absurd (omega arith)
  items_shown (f ∷ fs) gs at n b k h =
      let m = or_else_passed _ _ _ n in
      let l = or_left (may_blank f.form line) _ b in
      let rest = items_shown fs gs (at + f.width) m.1 (or_right (may_blank f.form line) _ b) in
      field_shown_lem f fs at f.form refl (items_of fs (at + f.width) line) (λ j. shown_from (fs ++ gs) (at + f.width) j line) m.0 l rest k h

  -- a row's own fields, with its padding or without
  module _ (r : Row) (k : ℕ) (h : k < length (items_of r.fields 0 line)) where
    abbrev Taken : List Field → Type 0
    Taken fs = (fields_fault fs 0 line).number ≡ 0 → left_blank fs line ≡ false
        → FieldShows r.fields 0 k line (get_or (items_of r.fields 0 line) k Item.blank) (shown_from fs 0 k line)

    pub row_shown : Taken (taken r line).fields
    row_shown =
        taken_is r line (λ (t : Row). Taken t.fields)
        (λ n b. rw (append-nil r.fields) at (items_shown r.fields [] 0 (rw (append-nil r.fields) n) (rw (append-nil r.fields) b) k h))
        (λ n b. items_shown r.fields (padding_fields r) 0 n b k h)
