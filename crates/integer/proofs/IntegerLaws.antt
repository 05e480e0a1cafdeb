-- What is read in columns agrees with how integers are spelled, in both directions, for any number of columns.
use Rattle.std.specs.Prelude.{◌≡◌, refl, Bool, true, false, List, [], ◌∷◌, ◌++◌, ℕ, ◌+◌, ◌-◌, ◌*◌, ◌≤◌, ◌<◌, min, leb, eqb, length, Ok, Err}
use Rattle.std.proofs.Common.{sym, ap, ◌∙◌, arith, leb-true, leb-false, eqb-true, lt-ltb, ne_eqb}
use Rattle.std.proofs.lemmas.Bool.{lt-leb}
use Rattle.laws.specs.Choice.{pick}
use Rattle.laws.specs.Run.{run}
use Rattle.laws.specs.RunLaws.{run_append}
use Rattle.text.specs.Blank.{Blanks, none, one}
use Rattle.text.specs.Parts.{Sign, bare, plus, minus, Digits, Digits.none as no_digit, more, is_digit}
use Rattle.text.specs.PartsLaws.{is_digit_low, is_digit_high, is_digit_complete}
use Rattle.integer.specs.Spelling.{IntegerSpelling, spelled, limit}
use Rattle.integer.specs.Integer.{Held, valued, scan, start, bad, push, step_integer, end_integer, integer_of}
use Rattle.integer.specs.declared.Scan.{Scan}
use Rattle.integer.specs.declared.IntegerFault.TheVariants.{Blank, Malformed, OutOfRange}

-- Digits and their test.

-- One byte: a digit; another byte after a sign or a digit; a first byte that begins no integer; a byte of a malformed field.

step_integer_digit : (p : ℕ) (n : Bool) (k b : ℕ) → p < 3 → is_digit b ≡ true → step_integer (scan p n k) b ≡ scan 2 n (push k (b - 48))
unfolding step_integer
step_integer_digit p n k b h e = simp (e, lt-ltb _ _ h)

step_integer_other : (p : ℕ) (n : Bool) (k b : ℕ) → 0 < p → is_digit b ≡ false → step_integer (scan p n k) b ≡ bad
unfolding step_integer
step_integer_other p n k b h e = simp (e, ne_eqb p 0 (omega arith))

step_integer_first : (b : ℕ) → is_digit b ≡ false → eqb b 32 ≡ false → eqb b 43 ≡ false → eqb b 45 ≡ false → step_integer start b ≡ bad
unfolding step_integer
step_integer_first b d bl pl mi = simp (d, bl, pl, mi)

step_integer_bad : (b : ℕ) (t : Bool) → is_digit b ≡ t → step_integer bad b ≡ bad
unfolding step_integer
step_integer_bad b true e = simp e
step_integer_bad b false e = step_integer_other 3 false 0 b (omega arith) e

-- The end after digits: by the range of the sign.

pub end_integer_number : (s : Scan) (n t : Bool) → s.phase ≡ 2 → s.minus ≡ n → leb s.size (limit n) ≡ t
    → end_integer s ≡ pick t (valued n s.size) (Err OutOfRange)
unfolding end_integer
end_integer_number s n t p m e = simp (p, m, e)

-- A spelling is read as what it spells.

-- the size that is kept: past the range it stays at 2^32
abbrev kept : ℕ → ℕ
kept v = min v 4294967296

push_kept : (m d : ℕ) → push (kept m) d ≡ kept (m * 10 + d)
unfolding push
push_kept m d = omega arith

run_digit : (p : ℕ) (n : Bool) (m b : ℕ) (l : List ℕ) → p < 3 → 48 ≤ b → b ≤ 57
    → run step_integer (scan p n (kept m)) (b ∷ l) ≡ run step_integer (scan 2 n (kept (m * 10 + (b - 48)))) l
unfolding run
run_digit p n m b l h lo hi =
    ap (λ (s : Scan). run step_integer s l)
    (step_integer_digit p n (kept m) b h (is_digit_complete b lo hi) ∙ ap (scan 2 n) (push_kept m (b - 48)))

run_digits : {m v : ℕ} {ds : List ℕ} (n : Bool) → Digits m ds v → run step_integer (scan 2 n (kept m)) ds ≡ scan 2 n (kept v)
unfolding run
run_digits n no_digit = refl
run_digits n (more {m} {b} {v} {ds} lo hi d) = run_digit 2 n m b ds (omega arith) lo hi ∙ run_digits n d

run_number : {m v : ℕ} {ds : List ℕ} (p : ℕ) (n : Bool) → p < 3 → Digits m ds v → 0 < length ds
    → run step_integer (scan p n (kept m)) ds ≡ scan 2 n (kept v)
run_number p n h no_digit s = absurd (omega arith)
run_number p n h (more {m} {b} {v} {ds} lo hi d) s = run_digit p n m b ds h lo hi ∙ run_digits n d

run_signed : {n : Bool} {v : ℕ} {sg ds : List ℕ} → Sign n sg → Digits 0 ds v → 0 < length ds
    → run step_integer start (sg ++ ds) ≡ scan 2 n (kept v)
unfolding run step_integer is_digit
run_signed bare d s = run_number 0 false (omega arith) d s
run_signed plus d s = run_number 1 false (omega arith) d s
run_signed minus d s = run_number 1 true (omega arith) d s

run_blanks : {l : List ℕ} → Blanks l → run step_integer start l ≡ start
unfolding run step_integer is_digit
run_blanks none = refl
run_blanks (one b) = run_blanks b

limit_kept : (n : Bool) → limit n < 4294967296
limit_kept true = omega arith
limit_kept false = omega arith

end_integer_kept : (n : Bool) (v : ℕ) (t : Bool) → leb v (limit n) ≡ t → end_integer (scan 2 n (kept v)) ≡ pick t (valued n v) (Err OutOfRange)
end_integer_kept n v true e =
    let same : kept v ≡ v = omega (arith, leb-true v (limit n) e, limit_kept n) in
    rw same (end_integer_number (scan 2 n v) n true refl refl e)
end_integer_kept n v false e =
    let past : limit n < kept v = omega (arith, leb-false v (limit n) e, limit_kept n) in
    end_integer_number (scan 2 n (kept v)) n false refl refl (lt-leb (kept v) (limit n) past)

-- a spelling is read as its value, or as out of range
pub integer_of_complete : {n : Bool} {v : ℕ} {l : List ℕ} → IntegerSpelling n v l
    → integer_of l ≡ pick (leb v (limit n)) (valued n v) (Err OutOfRange)
unfolding integer_of
integer_of_complete (spelled {n} {v} bl sg ds b s d h) =
    ap end_integer
    (run_append step_integer start bl (sg ++ ds) ∙ ap (λ (c : Scan). run step_integer c (sg ++ ds)) (run_blanks b) ∙ run_signed s d h)
    ∙ end_integer_kept n v (leb v (limit n)) refl

-- blanks are read as a blank field
pub integer_of_blank : {l : List ℕ} → Blanks l → integer_of l ≡ Err Blank
unfolding integer_of end_integer
integer_of_blank b = rw (run_blanks b) refl

-- What is read is spelled.

-- what is read from a state on
abbrev read_from : Scan → List ℕ → Held
read_from s l = end_integer (run step_integer s l)

read_from_bad : (l : List ℕ) → read_from bad l ≡ Err Malformed
unfolding run end_integer
read_from_bad [] = refl
read_from_bad (b ∷ l) = ap (λ (s : Scan). read_from s l) (step_integer_bad b (is_digit b) refl) ∙ read_from_bad l

-- the bytes after a sign or digits that spell m: digits, or they make the field malformed
data After (m : ℕ) (s : Scan) (l : List ℕ) : Type 0 where
  digits : {v : ℕ} → Digits m l v → After m s l
  refused : read_from s l ≡ Err Malformed → After m s l

after_digit : (p : ℕ) (n : Bool) (m k b : ℕ) (l : List ℕ) → p < 3 → is_digit b ≡ true
    → After (m * 10 + (b - 48)) (scan 2 n (push k (b - 48))) l → After m (scan p n k) (b ∷ l)
unfolding run
after_digit p n m k b l h e (digits d) = digits (more (is_digit_low b e) (is_digit_high b e) d)
after_digit p n m k b l h e (refused r) = refused (rw (step_integer_digit p n k b h e) r)

after_byte : (p : ℕ) (n : Bool) (m k b : ℕ) (l : List ℕ) (t : Bool) → 0 < p → p < 3 → is_digit b ≡ t
    → After (m * 10 + (b - 48)) (scan 2 n (push k (b - 48))) l → After m (scan p n k) (b ∷ l)
unfolding run
after_byte p n m k b l true g h e a = after_digit p n m k b l h e a
after_byte p n m k b l false g h e a = refused (rw (step_integer_other p n k b g e) (read_from_bad l))

after_digits : (n : Bool) (m k : ℕ) (l : List ℕ) → After m (scan 2 n k) l
after_digits n m k [] = digits no_digit
after_digits n m k (b ∷ l) = after_byte 2 n m k b l (is_digit b) (omega arith) (omega arith) refl (after_digits n (m * 10 + (b - 48)) _ l)

-- what the columns are, by what is read in them
abbrev Columns : List ℕ → Held → Type 0
Columns l (Ok i) = IntegerSpelling i.minus i.size l × (i.size ≤ limit i.minus)
Columns l (Err Blank) = Blanks l
Columns l (Err Malformed) = Unit {0}
Columns l (Err OutOfRange) = (n : Bool) × (v : ℕ) × IntegerSpelling n v l × (limit n < v)

columns_spelled : {n : Bool} {v : ℕ} {l : List ℕ} → IntegerSpelling n v l → Columns l (integer_of l)
columns_spelled {n} {v} {l} w = rw (integer_of_complete w) (by (leb v (limit n)) refl)
  where
    by : (t : Bool) → leb v (limit n) ≡ t → Columns l (pick t (valued n v) (Err OutOfRange))
    by true e = (w, leb-true v (limit n) e)
    by false e = (n, v, w, leb-false v (limit n) e)

columns_number : {n : Bool} {sg l : List ℕ} (s : Scan) → Sign n sg → 0 < length l → integer_of (sg ++ l) ≡ read_from s l → After 0 s l
    → Columns (sg ++ l) (integer_of (sg ++ l))
columns_number {n} {sg} {l} s g h e (digits d) = columns_spelled (spelled [] sg l none g d h)
columns_number s g h e (refused r) = rw (e ∙ r) tt

columns_sign : {n : Bool} {sg : List ℕ} → Sign n sg → ((l : List ℕ) → integer_of (sg ++ l) ≡ read_from (scan 1 n 0) l)
    → (l : List ℕ) → Columns (sg ++ l) (integer_of (sg ++ l))
unfolding run end_integer
columns_sign g e [] = rw (e []) tt
columns_sign {n} g e (b ∷ l) =
    columns_number (scan 1 n 0) g (omega arith) (e (b ∷ l))
    (after_byte 1 n 0 0 b l (is_digit b) (omega arith) (omega arith) refl (after_digits n _ _ l))

spelling_blank : {n : Bool} {v : ℕ} {l : List ℕ} → IntegerSpelling n v l → IntegerSpelling n v (32 ∷ l)
spelling_blank (spelled bl sg ds b s d h) = spelled (32 ∷ bl) sg ds (one b) s d h

columns_blank : (l : List ℕ) (o : Held) → Columns l o → Columns (32 ∷ l) o
columns_blank l (Ok i) (w, h) = (spelling_blank w, h)
columns_blank l (Err Blank) b = one b
columns_blank l (Err Malformed) u = tt
columns_blank l (Err OutOfRange) (n, v, w, h) = (n, v, spelling_blank w, h)

columns_first : (b : ℕ) (l : List ℕ) → step_integer start b ≡ bad → Columns (b ∷ l) (integer_of (b ∷ l))
unfolding integer_of run
columns_first b l e = rw (ap (λ (s : Scan). read_from s l) e ∙ read_from_bad l) tt

columns_byte : (b : ℕ) (l : List ℕ) (d bl pl mi : Bool) → is_digit b ≡ d → eqb b 32 ≡ bl → eqb b 43 ≡ pl → eqb b 45 ≡ mi
    → Columns l (integer_of l) → Columns (b ∷ l) (integer_of (b ∷ l))
unfolding integer_of run step_integer is_digit
columns_byte b l true _ _ _ e _ _ _ c =
    columns_number start bare (omega arith) refl (after_digit 0 false 0 0 b l (omega arith) e (after_digits false _ _ l))
columns_byte b l false true _ _ _ e _ _ c = rw (eqb-true b 32 e) (columns_blank l _ c)
columns_byte b l false false true _ _ _ e _ c = rw (eqb-true b 43 e) (columns_sign plus (λ l. refl) l)
columns_byte b l false false false true _ _ _ e c = rw (eqb-true b 45 e) (columns_sign minus (λ l. refl) l)
columns_byte b l false false false false d bl pl mi c = columns_first b l (step_integer_first b d bl pl mi)

columns : (l : List ℕ) → Columns l (integer_of l)
unfolding integer_of run end_integer
columns [] = none
columns (b ∷ l) = columns_byte b l (is_digit b) (eqb b 32) (eqb b 43) (eqb b 45) refl refl refl refl (columns l)

-- a value that is read is spelled, and in range
pub integer_of_value : (l : List ℕ) (n : Bool) (v : ℕ) → integer_of l ≡ valued n v → IntegerSpelling n v l × (v ≤ limit n)
integer_of_value l n v e = rw e at (columns l)

-- what is read as out of range is spelled, and out of range
pub integer_of_range : (l : List ℕ) → integer_of l ≡ Err OutOfRange → (n : Bool) × (v : ℕ) × IntegerSpelling n v l × (limit n < v)
integer_of_range l e = rw e at (columns l)

-- what is read as blank is blanks
pub integer_of_blanks : (l : List ℕ) → integer_of l ≡ Err Blank → Blanks l
integer_of_blanks l e = rw e at (columns l)

-- what is read as malformed is neither blanks nor a spelling
pub integer_of_malformed : (l : List ℕ) → integer_of l ≡ Err Malformed
    → (Blanks l → ⊥) × ((n : Bool) (v : ℕ) → IntegerSpelling n v l → ⊥)
integer_of_malformed l e = (
  λ b. let z : ◌≡◌ {A = ℕ} 0 1 = cc (integer_of_blank b) in omega arith,
  λ n v w. never n v (leb v (limit n)) (sym (integer_of_complete w) ∙ e),
)
  where
    never : (n : Bool) (v : ℕ) (t : Bool) → pick t (valued n v) (Err OutOfRange) ≡ Err Malformed → ⊥
    never n v true h = let z : ◌≡◌ {A = ℕ} 0 1 = cc in omega arith
    never n v false h = let z : ◌≡◌ {A = ℕ} 0 1 = cc in omega arith

-- what is neither blanks nor a spelling is read as malformed
pub integer_of_otherwise : (l : List ℕ) → (Blanks l → ⊥) → ((n : Bool) (v : ℕ) → IntegerSpelling n v l → ⊥) → integer_of l ≡ Err Malformed
integer_of_otherwise l b s = of (integer_of l) (columns l)
  where
    of : (o : Held) → Columns l o → o ≡ Err Malformed
    of (Ok i) (w, h) = absurd (s i.minus i.size w)
    of (Err Blank) r = absurd (b r)
    of (Err Malformed) u = refl
    of (Err OutOfRange) (n, v, w, h) = absurd (s n v w)
