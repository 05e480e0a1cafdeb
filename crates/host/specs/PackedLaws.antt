-- A column fits its 25 bits, and the word loses nothing of a reply that fits it.
use Rattle.std.specs.Prelude.{◌≡◌, refl, Bool, true, false, ℕ, ◌+◌, ◌*◌, ◌%◌, ◌≤◌, ◌<◌, ltb, min}
use Rattle.std.proofs.Common.{sym, ◌∙◌, arith, ⊎_elim, lt-ltb, le-ltb, ltb-false}
use Rattle.laws.specs.Choice.{pick}
use Rattle.laws.specs.ChoiceLaws.{below_or_not}
use Rattle.judge.specs.declared.Reply.{Reply}
use Rattle.judge.specs.Judge.{reply_at}
use Rattle.host.specs.Packed.{column_bits, word, InWord, number_in, Carries}

pub column_bits_most : (c : ℕ) → column_bits c ≤ 33554431
unfolding column_bits
column_bits_most c = by (ltb 33554431 c) refl
  where
    by : (t : Bool) → ltb 33554431 c ≡ t → pick t 33554431 c ≤ 33554431
    by true e = omega arith
    by false e = ltb-false 33554431 c e

-- the smaller of two
pub column_bits_least : (c : ℕ) → min c 33554431 ≡ column_bits c
unfolding column_bits
column_bits_least c = ⊎_elim (λ l. rw (lt-ltb 33554431 c l) (omega arith)) (λ l. rw (le-ltb 33554431 c l) (omega arith)) (below_or_not 33554431 c)

word_whole : (r : Reply) → InWord r → word r ≡ r.number * 144115188075855872 + (r.column * 4294967296 + r.place)
unfolding word column_bits
word_whole r w =
    let n : r.number % 128 ≡ r.number = omega (arith, w.number) in
    let p : r.place % 4294967296 ≡ r.place = omega (arith, w.place) in
    rw (n, p, le-ltb 33554431 r.column w.column) refl

pub word_carries : (r : Reply) → InWord r → Carries (word r) r
word_carries r w =
    let e = word_whole r w in
    record {
      number = rw e (omega (arith, w.column, w.place));
      column = rw e (omega (arith, w.column, w.place));
      place = rw e (omega (arith, w.place));
    }

-- the number, whatever column and place are
pub word_number : (r : Reply) → r.number < 128 → number_in (word r) ≡ r.number
unfolding word
word_number r h = omega (arith, h, column_bits_most r.column)

same_reply : {n m p q c d : ℕ} → n ≡ m → p ≡ q → c ≡ d → reply_at n p c ≡ reply_at m q d
same_reply a b e = rw (a, b, e) refl

pub word_same : (r s : Reply) → InWord r → InWord s → word r ≡ word s → r ≡ s
word_same r s v w e =
    let x : r.number * 144115188075855872 + (r.column * 4294967296 + r.place) ≡ s.number * 144115188075855872 + (s.column * 4294967296 + s.place) =
    sym (word_whole r v) ∙ e ∙ word_whole s w in
    let n : r.number ≡ s.number = omega (arith, v.column, v.place, w.column, w.place) in
    let c : r.column ≡ s.column = omega (arith, v.place, w.place) in
    let p : r.place ≡ s.place = omega arith in
    same_reply n p c
