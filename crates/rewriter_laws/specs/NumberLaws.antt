-- A number has one plain spelling in so many columns, which is its number line and is read back.
use Rattle.std.specs.Prelude.{◌≡◌, refl, false, List, [], ◌∷◌, ◌++◌, ℕ, zero, suc, ◌+◌, ◌-◌, ◌*◌, ◌/◌, ◌%◌, ◌^◌, ◌≤◌, ◌<◌, length, replicate}
use Rattle.std.proofs.Common.{sym, ap, subst, ◌∙◌, ⊎_elim, append_assoc, append-nil, add-zero, arith, length-append}
use Rattle.std.proofs.Math.Nat.{pow-succ'}
use Rattle.laws.specs.ChoiceLaws.{below_or_not}
use Rattle.text.specs.Blank.{Blanks, none, one}
use Rattle.text.specs.BlankLaws.{blanks_replicate}
use Rattle.text.specs.Parts.{bare, Digits, Digits.none as no_digit, more}
use Rattle.text.specs.PartsLaws.{digits_join}
use Rattle.integer.specs.Spelling.{IntegerSpelling, spelled}
use Rattle.line.specs.Line.{filled}
use Rattle.line.specs.LineLaws.{filled_short, columns_allowed}
use Rattle.delimiter.specs.Kind.{NumberLine, number_line, dataset_number}
use Rattle.delimiter.proofs.KindLaws.{dataset_number_complete}
use Rattle.parts.specs.Parts.{columns_in}
use Rattle.rewriter.specs.Rewriter.{plain_in, plain_number}
use Rattle.rewriter.proofs.PutLaws.{plain_in_length, plain_number_length}
use Rattle.rewriter.specs.PlainLaws.{plain_blank, digit_of, plain_number_allowed}
use Rattle.rewriter_laws.specs.Form.{Plainly, plainly}

-- What is laid out is spelled plainly.

digit_last : (m b v : ℕ) → 48 ≤ b → b ≤ 57 → m * 10 + (b - 48) ≡ v → Digits m (b ∷ []) v
digit_last m b v low high e = subst (Digits m (b ∷ [])) e (more low high no_digit)

-- a first digit, a digit more
plainly_first : {bl : List ℕ} (b v : ℕ) → Blanks bl → 48 < b → b ≤ 57 → b - 48 ≡ v → Plainly v (bl ++ (b ∷ []))
plainly_first {bl} b v r low high e = plainly bl [] r (λ (z : b ≡ 48). omega arith) (digit_last 0 b v (omega arith) high (omega arith))

plainly_next : {m : ℕ} {l : List ℕ} (b v : ℕ) → Plainly m l → 48 ≤ b → b ≤ 57 → m * 10 + (b - 48) ≡ v → Plainly v (l ++ (b ∷ []))
plainly_next b v (plainly {v = m} bl ds r n d) low high e = rw append_assoc (plainly bl (ds ++ (b ∷ [])) r n (digits_join d (digit_last m b v low high e)))

plain_in_plainly : (w v : ℕ) → 0 < v → v < 10 ^ w → Plainly v (plain_in w v)
unfolding plain_in
plain_in_plainly zero v p h = absurd (omega arith)
plain_in_plainly (suc w) v p h =
    ⊎_elim
    (λ q.
    rw (digit_of v p)
    (plainly_next (48 + v % 10) v (plain_in_plainly w (v / 10) q (let z : v < 10 * 10 ^ w = rw (← pow-succ') h in omega arith)) (omega arith) (omega arith) (omega arith)))
    (λ q.
    let z : v / 10 ≡ 0 = omega arith in
    rw (digit_of v p, z) (plainly_first (48 + v % 10) v (plain_blank w) (omega arith) (omega arith) (omega arith)))
    (below_or_not 0 (v / 10))

pub plain_number_plainly : (v : ℕ) → 1 ≤ v → v ≤ 999999 → Plainly v (plain_number v)
unfolding plain_number
plain_number_plainly v p h = plain_in_plainly 6 v p (omega arith)

-- and is a number line
plainly_spelled : {v : ℕ} {l : List ℕ} → Plainly v l → IntegerSpelling false v l
plainly_spelled (plainly {v} {d} bl ds r n g) = spelled bl [] (d ∷ ds) r bare g (omega arith)

plain_filled : (v : ℕ) → filled (plain_number v) ≡ plain_number v ++ replicate 74 32
plain_filled v =
    let n : length (plain_number v) ≡ 6 = plain_number_length v in
    rw (filled_short (plain_number v) (omega arith), n) refl

pub plain_number_line : (v : ℕ) → 1 ≤ v → v ≤ 999999 → NumberLine v (filled (plain_number v))
plain_number_line v p h =
    rw (plain_filled v) (number_line (plain_number v) (replicate 74 32) (plain_number_length v) (plainly_spelled (plain_number_plainly v p h)) p h (blanks_replicate 74))

-- which is read back
pub plain_number_again : (v : ℕ) → 1 ≤ v → v ≤ 999999 → dataset_number (columns_in (plain_number v)) ≡ v
plain_number_again v p h = rw (columns_allowed (plain_number_allowed v)) (dataset_number_complete (plain_number_line v p h))

-- What is spelled plainly is laid out so.

blanks_same : {a b : List ℕ} → Blanks a → Blanks b → length a ≡ length b → a ≡ b
blanks_same none none e = refl
blanks_same none (one b) e = absurd (omega arith)
blanks_same (one a) none e = absurd (omega arith)
blanks_same (one a) (one b) e = ap (◌∷◌ 32) (blanks_same a b (omega arith))

-- a digit more, any digits more
plain_in_digit : (w m b : ℕ) → 48 ≤ b → b ≤ 57 → 0 < m * 10 + (b - 48) → plain_in (suc w) (m * 10 + (b - 48)) ≡ plain_in w m ++ (b ∷ [])
unfolding plain_in
plain_in_digit w m b low high p =
    let q : (m * 10 + (b - 48)) / 10 ≡ m = omega arith in
    let r : 48 + (m * 10 + (b - 48)) % 10 ≡ b = omega arith in
    rw (digit_of (m * 10 + (b - 48)) p, q, r) refl

plain_in_digits : {m v : ℕ} {ds : List ℕ} → Digits m ds v → 0 < m → (w : ℕ) → plain_in (w + length ds) v ≡ plain_in w m ++ ds
plain_in_digits no_digit p w = rw (add-zero, append-nil) refl
plain_in_digits (more {m} {b} {v} {ds} low high d) p w =
    let e : w + suc (length ds) ≡ suc w + length ds = omega arith in
    rw e (plain_in_digits d (omega arith) (suc w) ∙ rw (plain_in_digit w m b low high (omega arith), append_assoc) refl)

plainly_only : {v : ℕ} {l : List ℕ} → Plainly v l → l ≡ plain_in (length l) v
plainly_only (plainly {v} {d} bl ds r n (more low high g)) =
    let e : length (bl ++ (d ∷ ds)) ≡ suc (length bl) + length ds = length-append bl (d ∷ ds) ∙ omega arith in
    let k : plain_in (length bl) 0 ≡ bl = blanks_same (plain_blank (length bl)) r (plain_in_length (length bl) 0) in
    let p : 0 < 0 * 10 + (d - 48) = positive d low n in
    sym (ap (λ (x : ℕ). plain_in x v) e ∙ plain_in_digits g p (suc (length bl)) ∙ rw (plain_in_digit (length bl) 0 d low high p, k, append_assoc) refl)
  where
    positive : (d : ℕ) → 48 ≤ d → (d ≡ 48 → ⊥) → 0 < 0 * 10 + (d - 48)
    positive d low n = ⊎_elim (λ (q : 48 < d). omega arith) (λ (q : d ≤ 48). absurd (n (omega arith))) (below_or_not 48 d)

-- so two plain spellings of a number in six columns are the same
pub plain_number_only : {v : ℕ} {l : List ℕ} → Plainly v l → length l ≡ 6 → l ≡ plain_number v
unfolding plain_number
plain_number_only {v} p n = plainly_only p ∙ ap (λ (x : ℕ). plain_in x v) n
