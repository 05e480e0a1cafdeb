-- Where the column of a refusal lies.
use Rattle.std.specs.Prelude.{◌≡◌, refl, Bool, true, List, [], ◌∷◌, ℕ, zero, suc, ◌+◌, ◌≤◌, ◌<◌, length, drop}
use Rattle.std.proofs.Common.{ap, arith, length-append, length-drop}
use Rattle.laws.specs.Cut.{cut}
use Rattle.line.specs.Line.{refusal, columns, filled}
use Rattle.line.specs.LineLaws.{filled_length, columns_within}
use Rattle.line.specs.declared.Refusal.{Refusal}
use Rattle.codes.specs.Form.{Form, skip, text, identification, real, integer}
use Rattle.record_table.specs.Row.{Row, with_padding}
use Rattle.walk.specs.Due.{row_due}
use Rattle.walk.specs.declared.Due.{Due}
use Rattle.walk.specs.declared.Place.{Place}
use Rattle.walk.specs.declared.State.{State}
use Rattle.record_laws.specs.Fault.{field_at, left_of, FieldFault, text_blank, integer_blank, integer_malformed, out_of_range, against_rule, real_blank, real_malformed, TakenFault, RowFault}
use Rattle.record_laws.specs.StrayLaws.{stray_inside}
use Rattle.record_laws.specs.BreaksLaws.{breaks_inside}
use Rattle.line_laws.specs.Ends.{joined}
use Rattle.line_laws.proofs.EndsLaws.{cut_joined}
use Rattle.line_laws.specs.Fault.{LineFault}
use Rattle.line_laws.specs.FaultLaws.{byte_inside}
use Rattle.walk_laws.specs.BeginsLaws.{room, Begin, due_begin, padded_begin}
use Rattle.walk_laws.specs.Fault.{PlaceFault, outside, many, number, early, late, row, Fault, own, place, InLine}
use Rattle.walk_laws.specs.FileFault.{FileFault}

-- a refusal in column 1
first_column : (l : List ℕ) (n : ℕ) → (n ≡ 2 → ⊥) → InLine l (refusal n 1)
first_column l n h = record { from = omega arith; byte = λ e. absurd (h e); eighty = λ e. omega arith; first = λ a b. refl; opening = λ e. refl }

-- any other refusal but 2, in one of the 80 columns
other_column : (l : List ℕ) (n c : ℕ) → 9 < n → (n ≡ 15 → ⊥) → 1 ≤ c → c ≤ 80 → InLine l (refusal n c)
other_column l n c h o f t = record { from = f; byte = λ e. absurd (omega arith); eighty = λ e. t; first = λ a b. absurd (omega arith); opening = λ e. absurd (o e) }

-- no form has more room than the line
room_most : (f : Form) → room f ≤ 80
room_most skip = omega arith
room_most text = omega arith
room_most identification = omega arith
room_most real = omega arith
room_most (integer r o) = omega arith

-- a field that begins after x columns, where it may
field_column : (l : List ℕ) (x : ℕ) {line : List ℕ} {n : ℕ} {f : Form} {cols : List ℕ} → FieldFault line n f cols → x < room f → InLine l (refusal n (x + 1))
field_column l x (text_blank b) h = let e : x + 1 ≡ 1 = omega arith in rw e (first_column l 9 (λ q. omega arith))
field_column l x (integer_blank b o) h = other_column l _ (x + 1) (omega arith) (λ e. omega arith) (omega arith) (omega arith)
field_column l x (integer_malformed b s) h = other_column l 10 (x + 1) (omega arith) (λ e. omega arith) (omega arith) (omega arith)
field_column l x (out_of_range s g) h = other_column l 11 (x + 1) (omega arith) (λ e. omega arith) (omega arith) (omega arith)
field_column l x (against_rule s g k) h = other_column l 11 (x + 1) (omega arith) (λ e. omega arith) (omega arith) (omega arith)
field_column l x (real_blank b) h = other_column l _ (x + 1) (omega arith) (λ e. omega arith) (omega arith) (omega arith)
field_column l x (real_malformed b s) h = other_column l 12 (x + 1) (omega arith) (λ e. omega arith) (omega arith) (omega arith)

taken_column : (l line : List ℕ) (r : Row) {f : Refusal} → Begin r → length line ≤ 80 → TakenFault r line f → InLine l f
taken_column l line r a short (TakenFault.field n k h p w) = field_column l (left_of r.fields k) w (a k h)
taken_column l line r a short (TakenFault.stray c p s) = other_column l 13 c (omega arith) (λ e. omega arith) s.here.some (omega (arith, stray_inside s.here))
taken_column l line r a short (TakenFault.condition k p n b) =
    let g = a k (breaks_inside line r.fields b.here) in
    let t = room_most (field_at r.fields k).form in
    other_column l 14 (left_of r.fields k + 1) (omega arith) (λ e. omega arith) (omega arith) (omega arith)

row_column : (l line : List ℕ) (d : Due) {f : Refusal} → length line ≤ 80 → RowFault (row_due d) line f → InLine l f
row_column l line d short (RowFault.alone n w) = taken_column l line (row_due d) (due_begin d) short w
row_column l line d short (RowFault.padded n w) = taken_column l line (with_padding (row_due d)) (padded_begin d) short w

place_column : (l line : List ℕ) {sets : ℕ} {p : Place} {f : Refusal} → length line ≤ 80 → PlaceFault sets line p f → InLine l f
place_column l line short (outside b d) = first_column l 5 (λ e. omega arith)
place_column l line short (many d h) = first_column l 15 (λ e. omega arith)
place_column l line short (number n) = first_column l 6 (λ e. omega arith)
place_column l line short (early d m) = first_column l 7 (λ e. omega arith)
place_column l line short (late n m) = first_column l 8 (λ e. omega arith)
place_column l line short (row {d} n m w) = row_column l line d short w

-- a line's own refusal, whether it has its LF or not
pub own_column : (l : List ℕ) {ended : Bool} {cs : List ℕ} {f : Refusal} → length cs ≤ length l → LineFault ended cs f → InLine l f
own_column l h (LineFault.byte b) =
    let i = byte_inside b in
    record { from = i.0; byte = λ e. omega arith; eighty = λ e. absurd (e refl); first = λ x y. absurd (omega arith); opening = λ e. absurd (omega arith) }
own_column l h (LineFault.long a g) = first_column l 3 (λ e. omega arith)
own_column l h (LineFault.unended a g) = first_column l 4 (λ e. omega arith)

-- where the column of a line's refusal lies
pub fault_column : {s : State} {l : List ℕ} {f : Refusal} → Fault s l f → InLine l f
fault_column {l = l} (own w) = own_column l (columns_within true l) w
fault_column {l = l} (place a h w) = place_column l (filled (columns true l)) (omega (arith, filled_length (columns true l))) w

-- The same of a file's refusal: no line is longer than the file.

rest_most : (ls : List (List ℕ)) (r : List ℕ) → length r ≤ length (joined ls r)
unfolding joined
rest_most [] r = omega arith
rest_most (l ∷ ls) r = omega (arith, rest_most ls r, length-append l (10 ∷ joined ls r))

line_most : (k : ℕ) (ls : List (List ℕ)) (r l : List ℕ) (rest : List (List ℕ)) → drop k ls ≡ l ∷ rest → length l ≤ length (joined ls r)
unfolding joined
line_most k [] r l rest e = absurd (omega (arith, ap length e, length-drop {A = List ℕ} k []))
line_most zero (x ∷ ls) r l rest e = omega (arith, length-append x (10 ∷ joined ls r), ap length (let q : x ≡ l = cc in q))
line_most (suc k) (x ∷ ls) r l rest e = omega (arith, line_most k ls r l rest e, length-append x (10 ∷ joined ls r))

wider : {l m : List ℕ} {f : Refusal} → length l ≤ length m → InLine l f → InLine m f
wider h i = record { from = i.from; byte = λ e. omega (arith, i.byte e); eighty = i.eighty; first = i.first; opening = i.opening }

pub file_column : {bytes : List ℕ} {k : ℕ} {f : Refusal} → FileFault bytes k f → InLine bytes f
file_column {bytes} (FileFault.line k l ls t q w) = wider (rw (cut_joined bytes) at (line_most k (cut bytes).lines (cut bytes).rest l ls q)) (fault_column w)
file_column {bytes} (FileFault.unended t h w) = own_column bytes (rw (cut_joined bytes) at (rest_most (cut bytes).lines (cut bytes).rest)) w
file_column {bytes} (FileFault.inside t e o) = first_column bytes 7 (λ e. omega arith)
