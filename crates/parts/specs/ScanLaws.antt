-- What is found by numbers is where the next set stands; how many lines and bytes a set's lines are.
use Rattle.std.specs.Prelude.{◌≡◌, refl, Some, None, List, [], ◌∷◌, ◌++◌, ℕ, suc, ◌+◌, length}
use Rattle.std.proofs.Common.{sym, ap, arith, length-append}
use Rattle.std.proofs.lemmas.Option.{none-some}
use Rattle.parts.specs.declared.Extent.{Extent}
use Rattle.parts.specs.Parts.{bytes_in, Part, opened, inside, dataset_of, line_start, last_start, closing_start, past_of, through_of}
use Rattle.parts.specs.PartsLaws.{bytes_in_append}
use Rattle.parts.specs.Scan.{extent, first_of, Fitting, First}

-- the number line of a set
pub fitting_number : (m b : ℕ) (o l : List ℕ) (n at : ℕ) → Fitting (opened m b o) n at → Fitting (inside m b o l []) (suc n) (at + suc (length l))
unfolding bytes_in
fitting_number m b o l n at (p, q) = (omega arith, omega arith)

-- one line more of a set
pub fitting_line : (m b : ℕ) (o v : List ℕ) (ls : List (List ℕ)) (n at : ℕ) (l : List ℕ) → Fitting (inside m b o v ls) n at
    → Fitting (inside m b o v (ls ++ (l ∷ []))) (suc n) (at + suc (length l))
unfolding bytes_in
fitting_line m b o v ls n at l (p, q) = (rw length-append (omega arith), rw (bytes_in_append ls (l ∷ [])) (omega arith))

pub found_first : (ps : List Part) (e : Extent) → Some e ≡ first_of ps → First ps e
unfolding first_of
found_first [] e q = absurd (none-some _ (sym q))
found_first (p ∷ ps) e q =
    let z : e ≡ extent p.lines p.bytes (dataset_of p) (line_start p 0) (last_start p) (closing_start p) (past_of p) (through_of p) = cc in
    record {
      set = p;
      others = ps;
      sets = refl;
      lines = ap (λ (x : Extent). x.lines) z;
      first = ap (λ (x : Extent). x.first) z;
      number = ap (λ (x : Extent). x.number) z;
      body = ap (λ (x : Extent). x.body) z;
      last = ap (λ (x : Extent). x.last) z;
      closing = ap (λ (x : Extent). x.closing) z;
      past = ap (λ (x : Extent). x.past) z;
      through = ap (λ (x : Extent). x.through) z;
    }

pub found_none : (ps : List Part) → None ≡ first_of ps → ps ≡ []
unfolding first_of
found_none [] q = refl
found_none (p ∷ ps) q = absurd (none-some _ q)
