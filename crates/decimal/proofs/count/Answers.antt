-- `decimal::count` meets its contract.
use Rattle.std.proofs.Common.{◌≡◌, Bool, true, false, ℕ, ◌+◌, ◌*◌, ◌^◌, ◌≤◌, ◌<◌, ◌↔◌, Option, Some, None, IsSome, IfSome, refl, sym, ◌∙◌, true≢false, ltb, arith, ltb-true, ltb-false, rules}
use Rattle.std.specs.Option.{option_map_or}
use Rattle.decimal.specs.Decimal.{count}
use Rattle.decimal.specs.CountLaws.{count_log, count_one, few_digits}
use Rattle.decimal.proofs.count.Goals as goal

-- no power of ten is below 0 alone
none : (n : ℕ) (b : Bool) → ltb 0 n ≡ b → ((0 < n) × (2 ≤ 10) → ⊥) → 1 ≡ count n
none n true e z = absurd (z (ltb-true 0 n e, omega arith))
none n false e z = let least : n ≤ 0 = ltb-false 0 n e in sym (count_one n (omega arith))

-- by the power of ten below the number
counted : (n : ℕ) → n < 2 ^ 64 → (r : Option ℕ) → (IsSome r ↔ ((0 < n) × (2 ≤ 10))) → IfSome r (λ k. 10 ^ k ≤ n) → IfSome r (λ k. n < 10 * 10 ^ k)
    → option_map_or (λ d. d + 1) r 1 ≡ count n
counted n f None v l h = none n (ltb 0 n) refl (λ p. absurd (true≢false (sym (v.1 p))))
counted n f (Some k) v l h = sym (count_log n k (few_digits n k f l) l h)

pub returns : goal.returns
returns c =
    let log = c.checked_ilog.ensures in
    let more : c.map_or.result ≡ option_map_or (λ d. d + 1) c.checked_ilog.result 1 = search rules in
    more ∙ counted c.args.n c.ranges.n.fits c.checked_ilog.result log.variant log.power_le log.next_power_gt
