-- The next set of an accepted file: a 58 by its lines, any other by its delimiters.
use Rattle.std.specs.Prelude.{◌≡◌, refl, Option, Some, None, true, false, List, [], ◌∷◌, ℕ, ◌+◌, ◌-◌, ◌≤◌, ◌<◌, length, take, drop}
use Rattle.std.proofs.Common.{sym, ap, ◌∙◌, zero-mul, arith, eq-eqb, ne_eqb, length-append}
use Rattle.std.specs.Option.{IsSome}
use Rattle.laws.specs.Cut.{line_len}
use Rattle.delimiter.specs.Kind.{dataset_number}
use Rattle.parts.specs.declared.Mark.{Mark}
use Rattle.parts.specs.Parts.{Part, columns_in, dataset_of, through_of, is_function}
use Rattle.parts.specs.Function.{count_of, stored_of, data_start}
use Rattle.parts.specs.Padding.{padding_of}
use Rattle.parts.specs.Mark.{marked}
use Rattle.parts.specs.FirstLaws.{Fits, Bounds, opening_found, opening_fits, number_ended, closing_found, part_bounds}
use Rattle.parts.specs.Set.{remaining, Standing}
use Rattle.parts.specs.SetLaws.{standing}
use Rattle.lister.specs.declared.Function.{Function}
use Rattle.lister.specs.declared.Listed.{Listed}
use Rattle.lister.specs.Listed.{listed, listed_of, listed_first, function_of, AllComplete, At58}
use Rattle.lister.specs.ListedLaws.{some_first, complete_first}

listed_is : (ps : List Part) (p : Part) (qs : List Part) (l : Listed) → ps ≡ p ∷ qs → l ≡ listed_of p → l ≡ listed_first ps
unfolding listed_first
listed_is ps p qs l e q = q ∙ rw e refl

-- lines up to the end of a set
through_own : (p : Part) → p.lines + length p.body + 3 ≡ through_of p
unfolding through_of
through_own p = omega (arith, length-append p.body (p.closing ∷ []))

-- what no 58 has
plain_none : (p : Part) → is_function p ≡ false → (count_of p ≡ 0) × ((data_start p ≡ 0) × (padding_of p ≡ 0))
unfolding count_of data_start padding_of stored_of
plain_none p e = (rw e refl, (rw e refl, rw (e, zero-mul) refl))

function_lines : (f : Function) (p : Part) → f ≡ function_of p → f.lines ≡ length p.body
unfolding function_of
function_lines f p e = ap (λ (x : Function). x.lines) e

module _ (file : List ℕ) (n at : ℕ) (a : at ≤ length file) (few : n ≤ at) (complete : AllComplete (remaining file n at)) (some : 0 < length (remaining file n at)) where
  abbrev p : Part
  p = (some_first (remaining file n at) some).0

  abbrev ps : List Part
  ps = (some_first (remaining file n at) some).1.0

  first : remaining file n at ≡ p ∷ ps
  first = (some_first (remaining file n at) some).1.1

  stands : Standing file n at p ps
  stands = standing file n at p ps a first

  -- it has an opening delimiter
  pub opened : (o : Option Mark) → o ≡ marked file n at → IsSome o
  opened None q = absurd (opening_found file n at a few p ps first q)
  opened (Some m) q = refl

  module _ (m : Mark) (q : Some m ≡ marked file n at) (e : ℕ) (r : e ≡ m.past + line_len (drop m.past file)) where
    pub ended : e < length file
    ended = number_ended file n at a few p ps first m q e r

    pub opening : Fits file at m
    opening = opening_fits file n at a few p ps first m q e r

    bounds : (c : Mark) → Some c ≡ marked file (m.lines + 2) (e + 1) → Bounds file m e c p
    bounds c s = part_bounds file n at a few p ps first m q e r c s

    -- and a closing one
    pub closed : (o : Option Mark) → o ≡ marked file (m.lines + 2) (e + 1) → IsSome o
    closed None s = absurd (closing_found file n at a few p ps first m q e r s)
    closed (Some c) s = refl

    begun : (c : Mark) × Bounds file m e c p
    begun = by (marked file (m.lines + 2) (e + 1)) refl
      where
        by : (o : Option Mark) → o ≡ marked file (m.lines + 2) (e + 1) → (c : Mark) × Bounds file m e c p
        by None s = absurd (closing_found file n at a few p ps first m q e r s)
        by (Some c) s = (c, bounds c s)

    module _ (v : ℕ) (w : v ≡ dataset_number (columns_in (take (e - m.past) (drop m.past file)))) where
      number_own : v ≡ dataset_of p
      number_own = w ∙ begun.1.number

      function_is : v ≡ 58 → is_function p ≡ true
      function_is k = eq-eqb (dataset_of p) 58 (sym number_own ∙ k)

      plain_is : (v ≡ 58 → ⊥) → is_function p ≡ false
      plain_is k = ne_eqb (dataset_of p) 58 (λ (z : dataset_of p ≡ 58). k (number_own ∙ z))

      abbrev here : v ≡ 58 → At58 file (e + 1)
      here k =
          record {
            part = p;
            others = ps;
            stands = record { before = n; from = at; stands = stands };
            function = function_is k;
            complete = (complete_first p ps complete first).0 (function_is k);
            begins = begun.1.body;
          }

      pub at_58 : v ≡ 58 → At58 file (e + 1)
      at_58 k = here k

      module _ (k : v ≡ 58) (f : Function) (g : (s : At58 file (e + 1)) → f ≡ function_of s.part) where
        pub through_58 : m.lines + f.lines + 3 ≤ length file
        through_58 =
            let l = function_lines f p (g (here k)) in
            omega (arith, l, begun.1.lines, through_own p, stands.count, stands.from, stands.past)

        pub listed_58 : listed m.lines v f.count m.at f.past f.values f.padding (m.lines + f.lines + 3) ≡ listed_first (remaining file n at)
        unfolding listed_of function_of
        listed_58 = listed_is (remaining file n at) p ps _ first (rw (g (here k), begun.1.lines, begun.1.first, number_own, through_own p) refl)

      module _ (k : v ≡ 58 → ⊥) (c : Mark) (s : Some c ≡ marked file (m.lines + 2) (e + 1)) where
        pub through_plain : c.lines + 1 ≤ length file
        through_plain = omega (arith, (bounds c s).through, stands.count, stands.from, stands.past)

        pub listed_plain : listed m.lines v 0 m.at c.past 0 0 (c.lines + 1) ≡ listed_first (remaining file n at)
        unfolding listed_of
        listed_plain =
            let b = bounds c s in
            let z = plain_none p (plain_is k) in
            listed_is (remaining file n at) p ps _ first (rw (b.lines, b.first, b.past, b.through, number_own, z.0, z.1.0, z.1.1) refl)
