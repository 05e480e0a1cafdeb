-- One turn of a loop over the sets of a file.
use Rattle.std.specs.Prelude.{◌≡◌, refl, Option, Some, None, List, [], ℕ, ◌≤◌}
use Rattle.std.proofs.Common.{◌∙◌, arith}
use Rattle.parts.specs.declared.Extent.{Extent}
use Rattle.parts.specs.Parts.{Part, line_start, last_line, last_start, closing_start}
use Rattle.parts.specs.Scan.{first_of, First}
use Rattle.parts.specs.ScanLaws.{found_first, found_none}
use Rattle.parts.specs.Set.{remaining, Standing}
use Rattle.parts.specs.SetLaws.{standing, line_within}
use Rattle.parts.specs.Turn.{Between, Turn}

-- a set begins before its closing delimiter
pub closing_from : (p : Part) → p.bytes ≤ closing_start p
unfolding closing_start
closing_from p = omega arith

last_within : (p : Part) {k : ℕ} → line_start p (last_line p) ≤ k → last_start p ≤ k
unfolding last_start
last_within p h = h

same_place : (file : List ℕ) (m n a b : ℕ) → m ≡ n → a ≡ b → remaining file n b ≡ remaining file m a
same_place file m n a b p q = rw (p, q) refl

-- a loop over sets begins before the first byte
pub between_start : (file : List ℕ) (e : Option Extent) → e ≡ first_of (remaining file 0 0) → Between file 0 0 e
between_start file e q = record { within = omega arith; lines = omega arith; next = q }

-- and says where the next set stands as the code has it
pub next_is : (file : List ℕ) (n at : ℕ) (e later : Option Extent) → Between file n at e → later ≡ first_of (remaining file n at) → Between file n at later
next_is file n at e later b q = record { within = b.within; lines = b.lines; next = q }

module _ (file : List ℕ) (n at : ℕ) (e : Extent) (b : Between file n at (Some e)) where
  -- one turn
  pub turn : Turn file n at e
  turn =
      let f : First (remaining file n at) e = found_first (remaining file n at) e b.next in
      let s : Standing file n at f.set f.others = standing file n at f.set f.others b.within f.sets in
      let c : f.set.bytes ≤ closing_start f.set = closing_from f.set in
      record {
        first = f;
        stands = s;
        body = omega (arith, f.body, s.inside);
        last = rw f.last (last_within f.set (line_within file n at f.set f.others s (last_line f.set)));
        onward = omega (arith, f.past, s.from, s.later);
        within = omega (arith, f.past, s.past);
        lines = omega (arith, f.past, f.through, s.count, s.from, s.later, b.lines);
        others = s.rest ∙ same_place file _ _ _ _ f.through f.past;
      }

  -- and on past that set
  pub between_next : (later : Option Extent) → later ≡ first_of (remaining file e.through e.past) → Between file e.through e.past later
  between_next later q = let t = turn in record { within = t.within; lines = t.lines; next = q }

-- no set is left
pub between_none : (file : List ℕ) (n at : ℕ) → Between file n at None → remaining file n at ≡ []
between_none file n at b = found_none (remaining file n at) b.next
