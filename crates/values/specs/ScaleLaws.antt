-- The point and the last columns of a well spelled real tell whether it is in the exact path.
use Rattle.std.specs.Prelude.{◌≡◌, ◌⊎◌, Bool, true, false, ◌||◌, List, [], ◌∷◌, ◌++◌, ℕ, suc, ◌+◌, ◌-◌, ◌*◌, ◌%◌, ◌^◌, ◌≤◌, ◌<◌, eqb, ltb, length, get_or, Ok, not, cond}
use Rattle.std.specs.List.{prefix_len}
use Rattle.std.proofs.Math.Path.{refl}
use Rattle.std.proofs.Common.{sym, ap, ◌∙◌, inl, inr, zero-add, arith, length-append, get_or-append-add}
use Rattle.std.proofs.Math.Logic.{⊎_elim}
use borrow.Author.Tests.{lt-ltb, le-ltb, le-leb, lt-leb, ne_eqb}
use Rattle.laws.specs.Choice.{pick}
use Rattle.laws.specs.ChoiceLaws.{below_or_not}
use Rattle.text.specs.Blank as Blank
use Rattle.text.specs.Blank.{Blanks}
use Rattle.text.specs.Parts.{Sign, Digits, none, more}
use Rattle.real.specs.declared.Number.{Number}
use Rattle.real.specs.declared.Scan.{Scan}
use Rattle.real.specs.Spelling.{Letter, ExponentSign, TwoOrThree, two, three, ExponentSpelling, lettered, bare}
use Rattle.real.specs.Real.{at, is_letter, scaled, real_end, real_of}
use Rattle.real.specs.EndLaws.{real_end_value, real_end_minus, real_end_less, real_end_rest}
use Rattle.real.specs.StepLaws.{digit_below, below_more}
use Rattle.real.specs.Rest.{exponent, part, whole, FromStart, columns}
use Rattle.real.proofs.RestLaws.{spelled_rest}
use Rattle.real.proofs.RealLaws.{real_of_complete}
use Rattle.exact.specs.Exact.{exact_of}
use Rattle.reader.specs.Reader.{read_of}
use Rattle.values.specs.Fill.{refusal_of}
use Rattle.values.specs.Scale.{RealColumns, point_in, from_end, exponent_in, is_down, size_of, size_in, most_size}

-- the point's column, as the library counts those before it
pub point_prefix : (l : List ℕ) → prefix_len (λ (b : ℕ). not (eqb b 46)) l ≡ point_in l
unfolding point_in
point_prefix [] = refl
point_prefix (b ∷ bs) = go (eqb b 46) (prefix_len (λ (b : ℕ). not (eqb b 46)) bs) (point_in bs) (point_prefix bs)
  where
    go : (t : Bool) (n m : ℕ) → n ≡ m → cond (not t) (1 + n) 0 ≡ pick t 0 (suc m)
    go true n m e = refl
    go false n m e = omega arith

point_first : (r : List ℕ) → point_in (46 ∷ r) ≡ 0
unfolding point_in
point_first r = refl

-- no blank, sign or digit is a point
blanks_point : {bl : List ℕ} (r : List ℕ) → Blanks bl → point_in (bl ++ r) ≡ length bl + point_in r
unfolding point_in
blanks_point r Blank.none = omega arith
blanks_point r (Blank.one b) = ap suc (blanks_point r b) ∙ omega arith

sign_point : {n : Bool} {sg : List ℕ} (r : List ℕ) → Sign n sg → point_in (sg ++ r) ≡ length sg + point_in r
unfolding point_in
sign_point r Sign.bare = omega arith
sign_point r Sign.plus = omega arith
sign_point r Sign.minus = omega arith

digits_point : {m v : ℕ} {ds : List ℕ} (r : List ℕ) → Digits m ds v → point_in (ds ++ r) ≡ length ds + point_in r
unfolding point_in
digits_point r none = omega arith
digits_point r (more {b = b} low high d) = rw (ne_eqb b 46 (omega arith)) (ap suc (digits_point r d) ∙ omega arith)

-- digits after a number of k digits
digits_below : {m v : ℕ} {ds : List ℕ} (k : ℕ) → m < 10 ^ k → Digits m ds v → v < 10 ^ (k + length ds)
digits_below {m} k h none = let z : k + 0 ≡ k = omega arith in rw z h
digits_below {m} k h (more {b = b} {ds = ds} low high d) =
    let z : k + suc (length ds) ≡ k + 1 + length ds = omega arith in
    rw z (digits_below (k + 1) (digit_below k m b high h) d)

digit_value : (b : ℕ) → 48 ≤ b → b ≤ 57 → b % 16 ≡ b - 48
digit_value b low high = omega arith

-- two digits after a number, and three
record Two (m : ℕ) (ds : List ℕ) (v : ℕ) : Type 0 where
  tens : ℕ
  units : ℕ
  is : ds ≡ tens ∷ units ∷ []
  value : v ≡ m * 100 + (tens % 16 * 10 + units % 16)

record Three (ds : List ℕ) (v : ℕ) : Type 0 where
  hundreds : ℕ
  low : 48 ≤ hundreds
  high : hundreds ≤ 57
  rest : List ℕ
  is : ds ≡ hundreds ∷ rest
  others : Two (hundreds % 16) rest v

no_digits : {m v : ℕ} {ds : List ℕ} → Digits m ds v → length ds ≡ 0 → (ds ≡ []) × (v ≡ m)
no_digits none h = (refl, refl)
no_digits (more low high d) h = absurd (omega arith)

record One (m : ℕ) (ds : List ℕ) (v : ℕ) : Type 0 where
  units : ℕ
  is : ds ≡ units ∷ []
  value : v ≡ m * 10 + units % 16

one_digit : {m v : ℕ} {ds : List ℕ} → Digits m ds v → length ds ≡ 1 → One m ds v
one_digit none h = absurd (omega arith)
one_digit (more {b = b} low high d) h =
    let others = no_digits d (omega arith) in
    record { units = b; is = ap (λ (r : List ℕ). b ∷ r) others.0; value = omega (arith, others.1, digit_value b low high) }

two_digits : {m v : ℕ} {ds : List ℕ} → Digits m ds v → length ds ≡ 2 → Two m ds v
two_digits none h = absurd (omega arith)
two_digits (more {b = a} low high d) h =
    let others = one_digit d (omega arith) in
    record { tens = a; units = others.units; is = ap (λ (r : List ℕ). a ∷ r) others.is; value = omega (arith, digit_value a low high, others.value) }

three_digits : {v : ℕ} {ds : List ℕ} → Digits 0 ds v → length ds ≡ 3 → Three ds v
three_digits none h = absurd (omega arith)
three_digits (more {b = b} {ds = ds} low high d) h =
    let z : 0 * 10 + (b - 48) ≡ b % 16 = omega (arith, digit_value b low high) in
    record { hundreds = b; low = low; high = high; rest = ds; is = refl; others = two_digits (rw z at d) (omega arith) }

-- the bytes of an exponent told apart
letter_true : {b : ℕ} → Letter b → (is_letter b ≡ true) × (eqb b 45 ≡ false)
unfolding is_letter
letter_true Letter.E = (refl, refl)
letter_true Letter.e = (refl, refl)
letter_true Letter.D = (refl, refl)
letter_true Letter.d = (refl, refl)

no_letter : (b : ℕ) → b ≤ 57 → is_letter b ≡ false
unfolding is_letter
no_letter b h = rw (ne_eqb b 69 (omega arith), ne_eqb b 101 (omega arith), ne_eqb b 68 (omega arith), ne_eqb b 100 (omega arith)) refl

-- the last of a byte that is no letter and digits is none
last_none : {m v : ℕ} {ds : List ℕ} (b : ℕ) (r : List ℕ) → b ≤ 57 → Digits m ds v → is_letter (get_or (b ∷ (ds ++ r)) (length ds) 0) ≡ false
last_none b r h none = no_letter b h
last_none b r h (more {b = d} low high ds) = last_none d r high ds

sign_down : {n : Bool} {b : ℕ} → ExponentSign n b → (eqb b 45 ≡ n) × (ltb b 48 ≡ true)
sign_down ExponentSign.plus = (refl, refl)
sign_down ExponentSign.minus = (refl, refl)

or_none : (b : Bool) → b || false ≡ b
or_none true = refl
or_none false = refl

-- columns counted from the end stay where columns come before them
end_past : (a l : List ℕ) (k : ℕ) → k ≤ length l → from_end k (a ++ l) ≡ from_end k l
end_past a l k h =
    let z : length (a ++ l) - k ≡ length a + (length l - k) = omega (arith, length-append a l) in
    rw z (get_or-append-add a l (length l - k) 0)

end_same : (a l : List ℕ) → 4 ≤ length l → (is_down (a ++ l) ≡ is_down l) × (size_in (a ++ l) ≡ size_in l)
unfolding is_down
end_same a l h =
    let at : (k : ℕ) → k ≤ length l → from_end k (a ++ l) ≡ from_end k l = end_past a l in
    (rw (at 3 (omega arith), at 4 (omega arith)) refl, rw (at 3 (omega arith), at 2 (omega arith), at 1 (omega arith)) refl)

-- columns whose last four read as the exponent of this sign and size, and those whose exponent has so many columns before it
record Four (xn : Bool) (x : ℕ) (l : List ℕ) : Type 0 where
  long : length l ≡ 4
  down : is_down l ≡ xn
  size : size_in l ≡ x

record Ends (xn : Bool) (x before : ℕ) (l : List ℕ) : Type 0 where
  wide : 5 ≤ length l
  down : is_down l ≡ xn
  size : size_in l ≡ x
  start : exponent_in l ≡ before

past_either : (b : Bool) (a n : ℕ) → 5 ≤ n → pick b (a + n - 5) (a + n - 5 + 1) ≡ a + pick b (n - 5) (n - 5 + 1)
past_either true a n h = omega arith
past_either false a n h = omega arith

ends_past : {xn : Bool} {x k : ℕ} (a l : List ℕ) → Ends xn x k l → Ends xn x (length a + k) (a ++ l)
unfolding exponent_in
ends_past a l e =
    let wide = e.wide in
    let same = end_same a l (omega arith) in
    record {
      wide = omega (arith, length-append a l);
      down = same.0 ∙ e.down;
      size = same.1 ∙ e.size;
      start = rw (end_past a l 5 wide, length-append a l) (past_either (is_letter (from_end 5 l)) (length a) (length l) wide ∙ ap (λ (n : ℕ). length a + n) e.start);
    }

-- a letter, a sign and two digits, and a sign and three digits
two_read : {xn : Bool} {x b s : ℕ} {ds : List ℕ} → Letter b → ExponentSign xn s → Digits 0 ds x → length ds ≡ 2 → Four xn x (b ∷ s ∷ ds)
unfolding is_down size_of
two_read {xn} {x} {b} {s} letter sign digits n =
    let d = two_digits digits n in
    let g = sign_down sign in
    rw d.is (record { long = refl; down = rw (g.0, (letter_true letter).1) (or_none xn); size = rw g.1 (sym d.value) })

three_read : {xn : Bool} {x s : ℕ} {ds : List ℕ} → ExponentSign xn s → Digits 0 ds x → length ds ≡ 3 → Four xn x (s ∷ ds)
unfolding is_down size_of
three_read {xn} {x} {s} sign digits n =
    let d = three_digits digits n in
    rw (d.is, d.others.is)
    (record {
      long = refl;
      down = rw (ne_eqb d.hundreds 45 (omega (arith, d.low))) (sign_down sign).0;
      size = rw (le-ltb d.hundreds 48 d.low) (sym d.others.value);
    })

-- after the point and digits, and after a letter too
four_ends : {m v x : ℕ} {xn : Bool} {ds e : List ℕ} → Digits m ds v → Four xn x e → Ends xn x (suc (length ds)) (46 ∷ (ds ++ e))
unfolding exponent_in
four_ends {ds = ds} {e = e} digits f =
    let long = f.long in
    let z : length (46 ∷ (ds ++ e)) - 5 ≡ length ds = omega (arith, length-append ds e) in
    let same = end_same (46 ∷ ds) e (omega arith) in
    record { wide = omega (arith, length-append ds e); down = same.0 ∙ f.down; size = same.1 ∙ f.size; start = rw (z, last_none 46 e (omega arith) digits) (omega arith) }

five_ends : {x b : ℕ} {xn : Bool} {e : List ℕ} (ds : List ℕ) → Letter b → Four xn x e → Ends xn x (suc (length ds)) (46 ∷ (ds ++ (b ∷ e)))
unfolding exponent_in
five_ends {b = b} {e = e} ds letter f =
    let long = f.long in
    let z : suc (length e) - 5 ≡ 0 = omega arith in
    let y : suc (length ds) + 0 ≡ suc (length ds) = omega arith in
    let same = end_same (b ∷ []) e (omega arith) in
    let ends : Ends _ _ 0 (b ∷ e) = record { wide = omega arith; down = same.0 ∙ f.down; size = same.1 ∙ f.size; start = rw (z, (letter_true letter).0) refl } in
    rw y at (ends_past (46 ∷ ds) (b ∷ e) ends)

-- the exponent of a real, past its digits after the point
two_or_three : {n : ℕ} → TwoOrThree n → (n ≡ 2) ⊎ (n ≡ 3)
two_or_three two = inl refl
two_or_three three = inr refl

exponent_ends : {m v x : ℕ} {xn : Bool} {ds e : List ℕ} → Digits m ds v → ExponentSpelling xn x e → Ends xn x (suc (length ds)) (46 ∷ (ds ++ e))
exponent_ends {ds = ds} digits (lettered ex letter sign d t) =
    ⊎_elim (λ n. four_ends digits (two_read letter sign d n)) (λ n. five_ends ds letter (three_read sign d n)) (two_or_three t)
exponent_ends digits (bare ex sign d n) = four_ends digits (three_read sign d n)

exponent_small : {x : ℕ} {ds : List ℕ} → Digits 0 ds x → length ds ≤ 3 → x ≤ 999
exponent_small {x} {ds} d h = omega (arith, below_more x (0 + length ds) 3 (omega arith) (digits_below 0 (omega arith) d))

exponent_long : {xn : Bool} {x : ℕ} {e : List ℕ} → ExponentSpelling xn x e → (4 ≤ length e) × (x ≤ 999)
exponent_long (lettered ex letter sign d t) =
    ⊎_elim (λ n. (omega arith, exponent_small d (omega arith))) (λ n. (omega arith, exponent_small d (omega arith))) (two_or_three t)
exponent_long (bare ex sign d n) = (omega arith, exponent_small d (omega arith))

-- a number whose coefficient is in the exact path is refused by its scale
module _ (s : Scan) (small : s.coefficient ≤ 9007199254740992) where
  by_size : (b : Bool) (k : ℕ) → refusal_of (read_of (scaled s b k)) ≡ pick (ltb 22 k) 21 0
  unfolding read_of exact_of
  by_size b k =
      let path = le-leb s.coefficient 9007199254740992 small in
      ⊎_elim (λ (h : 22 < k). rw (path, lt-leb k 22 h, lt-ltb 22 k h) refl) (λ (h : k ≤ 22). rw (path, le-leb k 22 h, le-ltb 22 k h) refl) (below_or_not 22 k)

-- the scale's size is above 22
module _ (x f : ℕ) where
  outside_minus : f ≤ 22 → ltb (most_size true f) x ≡ ltb 22 (x + f)
  unfolding most_size
  outside_minus few =
      ⊎_elim
      (λ (h : 22 < x + f). rw (lt-ltb (22 - f) x (omega arith), lt-ltb 22 (x + f) h) refl)
      (λ (h : x + f ≤ 22). rw (le-ltb (22 - f) x (omega arith), le-ltb 22 (x + f) h) refl)
      (below_or_not 22 (x + f))

  outside_less : f ≤ 22 → x < f → ltb (most_size false f) x ≡ ltb 22 (f - x)
  unfolding most_size
  outside_less few h = rw (le-ltb (22 + f) x (omega arith), le-ltb 22 (f - x) (omega arith)) refl

  outside_rest : f ≤ x → ltb (most_size false f) x ≡ ltb 22 (x - f)
  unfolding most_size
  outside_rest l =
      ⊎_elim
      (λ (h : 22 + f < x). rw (lt-ltb (22 + f) x h, lt-ltb 22 (x - f) (omega arith)) refl)
      (λ (h : x ≤ 22 + f). rw (le-ltb (22 + f) x h, le-ltb 22 (x - f) (omega arith)) refl)
      (below_or_not (22 + f) x)

module _ (n : Bool) (c x f : ℕ) (small : c ≤ 9007199254740992) (low : x ≤ 999) (few : f ≤ 22) where
  abbrev ended : Bool → Scan
  ended xn = at 7 n c 0 f xn x

  abbrev Own : Bool → Type 0
  Own xn = refusal_of (read_of (real_end (ended xn))) ≡ pick (ltb (most_size xn f) x) 21 0

  -- by what is read, with a scale of this size
  own : (xn b : Bool) (k : ℕ) → real_end (ended xn) ≡ scaled (ended xn) b k → ltb (most_size xn f) x ≡ ltb 22 k → Own xn
  own xn b k e o = rw (e, o) (by_size (ended xn) small b k)

  scale_refused : (xn : Bool) → Own xn
  scale_refused true = own true _ (x + f) (real_end_minus (ended true) (omega arith) (omega arith) low refl) (outside_minus x f few)
  scale_refused false =
      ⊎_elim
      (λ (l : x < f). own false true (f - x) (real_end_less (ended false) (omega arith) (omega arith) low refl l) (outside_less x f few l))
      (λ (l : f ≤ x). own false false (x - f) (real_end_rest (ended false) (omega arith) (omega arith) low refl l) (outside_rest x f l))
      (below_or_not x f)

-- what the columns of a real show: its exponent begins past the point and the digits after it, and these and the exponent tell its refusal
record Shape (l : List ℕ) : Type 0 where
  after : ℕ
  few : after ≤ 15
  start : exponent_in l ≡ point_in l + suc after
  inside : point_in l < length l
  refusal_is : refusal_of (read_of (real_of l)) ≡ pick (ltb (most_size (is_down l) after) (size_in l)) 21 0

shape_from : {v : Number} {l : List ℕ} → length l ≤ 20 → real_of l ≡ Ok v → FromStart v l → Shape l
shape_from narrow read (columns {n} bl sg _ b g (whole ws _ dw (part {w = c} ps _ dp low high (exponent {xn} {x} {l = e} r q)))) =
    let long = exponent_long r in
    let tail : List ℕ = 46 ∷ (ps ++ e) in
    let many : length (bl ++ (sg ++ (ws ++ tail))) ≡ length bl + (length sg + (length ws + suc (length ps + length e))) = simp length-append refl in
    let point : point_in (bl ++ (sg ++ (ws ++ tail))) ≡ length bl + (length sg + length ws)
    = omega (arith, blanks_point (sg ++ (ws ++ tail)) b, sign_point (ws ++ tail) g, digits_point tail dw, point_first (ps ++ e)) in
    let ends = ends_past bl _ (ends_past sg _ (ends_past ws _ (exponent_ends dp r))) in
    let below = digits_below (0 + length ws) (digits_below 0 (omega arith) dw) dp in
    let small : c ≤ 9007199254740992 = omega (arith, below_more c (0 + length ws + length ps) 15 (omega arith) below) in
    let value = real_end_value (at 7 n c 0 (length ps) xn x) (omega arith) (omega arith) long.1 refl refl in
    let real : real_of (bl ++ (sg ++ (ws ++ tail))) ≡ real_end (at 7 n c 0 (length ps) xn x) = read ∙ ap Ok (rw zero-add at q) ∙ sym value in
    record {
      after = length ps;
      few = omega arith;
      start = omega (arith, ends.start);
      inside = omega arith;
      refusal_is = rw (real, ends.down, ends.size) (scale_refused n c x (length ps) small long.1 (omega arith) xn);
    }

-- by the columns that the code finds
module _ {l : List ℕ} (r : RealColumns l) where
  shape : Shape l
  shape = shape_from r.narrow (real_of_complete r.spelling) (spelled_rest r.spelling)

  pub point_inside : point_in l < length l
  point_inside = shape.inside

  module _ (e p : ℕ) (from : e ≡ exponent_in l) (point : p ≡ point_in l) where
    pub after_some : p + 1 ≤ e
    after_some = omega (arith, shape.start)

    pub after_few : e - p - 1 ≤ 22
    after_few = omega (arith, shape.start, shape.few)

    pub refusal_by : (m x : ℕ) → m ≡ most_size (is_down l) (e - p - 1) → x ≡ size_in l → (t : Bool) → ltb m x ≡ t → pick t 21 0 ≡ refusal_of (read_of (real_of l))
    refusal_by m x most size t h =
        let z : shape.after ≡ e - p - 1 = omega (arith, shape.start) in
        sym (shape.refusal_is ∙ rw (z, ← most, ← size, h) refl)
