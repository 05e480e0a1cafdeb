-- Bytes laid one number after the other, and the reply and the buffer that they make.
use Rattle.std.specs.Prelude.{◌≡◌, Bool, ℕ, zero, suc, ◌+◌, ◌*◌, ◌/◌, ◌%◌, ◌≤◌, ◌<◌, Float, length, take, get_or}
use Rattle.std.proofs.Math.Path.{refl, ap}
use Rattle.std.proofs.Common.{◌∙◌, sym, add-one, arith, lt-ltb, le-ltb, append-nil, append_assoc, length-append, length-take-le, take_all}
use Rattle.std.proofs.Math.Bool.{true, false}
use mir.Val.{bool_byte}
use mathlib.Core.List.{List, [], ◌∷◌, ◌++◌}
use Rattle.std.proofs.Math.ListN.{drop}
use Rattle.laws.specs.Choice.{pick}
use Rattle.text.specs.Parts.{signed}
use Rattle.exact.specs.Bits.{bits_of}
use Rattle.output.specs.Output.{placed, bytes_of}
use Rattle.output.specs.OutputLaws.{placed_then, placed_first, bytes_of_length}
use Rattle.reader.specs.Reader.{shown, Said}
use Rattle.format_reader.specs.Question.{columns}
use Rattle.host.specs.Packed.{word, packed}
use Rattle.host.specs.Answer.{twos_complement, number_bytes, value_bytes, seen_bytes, field_bytes, reply_for, bytes_after}

-- one number's bytes after those of others
after : (out o₁ o₂ p t : List ℕ) → o₁ ≡ placed 0 p out → o₂ ≡ placed (length p) t o₁ → o₂ ≡ placed 0 (p ++ t) out
after out o₁ o₂ p t q r =
    let z : length p ≡ 0 + length p = omega arith in
    r ∙ rw (q, z) (placed_then 0 p out t (omega arith))

-- a stored number, part by part
module _ (o o₁ o₂ o₃ o₄ o₅ : List ℕ) (a e c : ℕ) (m b : Bool) (k : ℕ) where
  pub laid_number : o₁ ≡ placed 0 (bytes_of 4 a) o → o₂ ≡ placed 4 (bytes_of 4 e) o₁ → o₃ ≡ placed 8 (bytes_of 8 c) o₂
      → o₄ ≡ placed 16 (bytes_of 2 (twos_complement (signed b k))) o₃ → o₅ ≡ placed 18 (bytes_of 2 (bool_byte m)) o₄
      → o₅ ≡ number_bytes (shown a e m c b k) ++ drop 20 o
  unfolding number_bytes bytes_of
  laid_number q₁ q₂ q₃ q₄ q₅ =
      let r₂ = after o o₁ o₂ (bytes_of 4 a) (bytes_of 4 e) q₁ q₂ in
      let r₃ = after o o₂ o₃ (bytes_of 4 a ++ bytes_of 4 e) (bytes_of 8 c) r₂ q₃ in
      let r₄ = after o o₃ o₄ ((bytes_of 4 a ++ bytes_of 4 e) ++ bytes_of 8 c) (bytes_of 2 (twos_complement (signed b k))) r₃ q₄ in
      after o o₄ o₅ (((bytes_of 4 a ++ bytes_of 4 e) ++ bytes_of 8 c) ++ bytes_of 2 (twos_complement (signed b k))) (bytes_of 2 (bool_byte m)) r₄ q₅
      ∙ placed_first _ o
      ∙ ap (λ (x : List ℕ). ((((bytes_of 4 a ++ bytes_of 4 e) ++ bytes_of 8 c) ++ bytes_of 2 (twos_complement (signed b k))) ++ x) ++ drop 20 o) (sign m)
    where
      sign : (m : Bool) → bytes_of 2 (bool_byte m) ≡ pick m 1 0 ∷ 0 ∷ []
      sign true = refl
      sign false = refl

-- a field's columns
pub laid_columns : (o o₁ o₂ : List ℕ) (a e : ℕ) → o₁ ≡ placed 0 (bytes_of 4 a) o → o₂ ≡ placed 4 (bytes_of 4 e) o₁
    → o₂ ≡ field_bytes (columns a e ∷ []) ++ drop 8 o
unfolding field_bytes seen_bytes bytes_of
laid_columns o o₁ o₂ a e q₁ q₂ = after o o₁ o₂ (bytes_of 4 a) (bytes_of 4 e) q₁ q₂ ∙ placed_first _ o

-- the bytes of f64, one after the other
reals_length : (xs : List Float) → length (value_bytes xs) ≡ 8 * length xs
unfolding value_bytes
reals_length [] = refl
reals_length (x ∷ xs) = length-append (bytes_of 8 (bits_of x)) (value_bytes xs) ∙ omega (arith, bytes_of_length 8 (bits_of x), reals_length xs)

reals_next : (xs : List Float) (i : ℕ) (d : Float) → i < length xs → value_bytes (take (suc i) xs) ≡ value_bytes (take i xs) ++ bytes_of 8 (bits_of (get_or xs i d))
unfolding value_bytes
reals_next [] i d h = absurd (omega arith)
reals_next (x ∷ xs) zero d h = append-nil (bytes_of 8 (bits_of x))
reals_next (x ∷ xs) (suc i) d h =
    let b : List ℕ = bytes_of 8 (bits_of x) in
    ap (λ l. b ++ l) (reals_next xs i d (omega arith)) ∙ sym (append_assoc b (value_bytes (take i xs)) (bytes_of 8 (bits_of (get_or xs i d))))

module _ (xs : List Float) (o : List ℕ) where
  pub reals_none : o ≡ placed 0 (value_bytes (take 0 xs)) o
  unfolding value_bytes placed
  reals_none = refl

  pub reals_more : (o₁ o₂ : List ℕ) (i : ℕ) (d : Float) → i < length xs → o₁ ≡ placed 0 (value_bytes (take i xs)) o → o₂ ≡ placed (8 * i) (bytes_of 8 (bits_of (get_or xs i d))) o₁
      → o₂ ≡ placed 0 (value_bytes (take (i + 1) xs)) o
  reals_more o₁ o₂ i d h q r =
      let n : length (value_bytes (take i xs)) ≡ 8 * i = reals_length (take i xs) ∙ ap (λ k. 8 * k) (length-take-le i xs (omega arith)) in
      after o o₁ o₂ (value_bytes (take i xs)) (bytes_of 8 (bits_of (get_or xs i d))) q (rw n r) ∙ rw (add-one i, reals_next xs i d h) refl

  pub reals_all : (o₁ : List ℕ) (i : ℕ) → length xs ≤ i → o₁ ≡ placed 0 (value_bytes (take i xs)) o → o₁ ≡ value_bytes xs ++ drop (length (value_bytes xs)) o
  reals_all o₁ i h q = q ∙ rw (take_all i xs h) (placed_first (value_bytes xs) o)

pub reals_room : (xs : List Float) (n : ℕ) → length xs ≤ n / 8 → length (value_bytes xs) ≤ n
reals_room xs n h = rw (reals_length xs) (omega arith)

pub reals_short : (xs : List Float) (n : ℕ) → n / 8 < length xs → n < length (value_bytes xs)
reals_short xs n h = rw (reals_length xs) (omega arith)

-- a scale below zero by its size
pub twos_complement_below : (k n : ℕ) → k < 65536 → n < 65536 → (n + k) % 65536 ≡ 0 → n ≡ twos_complement (signed true k)
unfolding twos_complement
twos_complement_below zero n h l e = omega arith
twos_complement_below (suc k) n h l e = omega arith

pub twos_complement_above : (k : ℕ) → k < 65536 → k ≡ twos_complement (signed false k)
unfolding twos_complement
twos_complement_above k h = omega arith

-- the reply and the buffer afterwards, by the room that is lent
module _ (s : Said ℕ) (out : List ℕ) (r : ℕ) where
  abbrev Answered : List ℕ → Type 0
  Answered after = (r ≡ reply_for s (length out)) × (after ≡ bytes_after s out)

  pub answered_short : length out < length s.shown → r ≡ packed 20 0 → Answered out
  unfolding reply_for bytes_after
  answered_short h e = (e ∙ rw (lt-ltb _ _ h) refl, rw (lt-ltb _ _ h) refl)

  pub answered : (after : List ℕ) → length s.shown ≤ length out → r ≡ word s.reply
      → after ≡ s.shown ++ drop (length s.shown) out → Answered after
  unfolding reply_for bytes_after
  answered after h e q = (e ∙ rw (le-ltb _ _ h) refl, q ∙ rw (le-ltb _ _ h) refl)
