-- The code finds the set asked for, and its numbers.
use Rattle.std.specs.Prelude.{◌≡◌, Option, Some, None, true, List, [], ◌∷◌, ℕ, zero, suc, ◌+◌, ◌-◌, ◌≤◌, ◌<◌, length, drop}
use Rattle.std.proofs.Math.Path.{refl, ap}
use Rattle.std.proofs.Common.{sym, ◌∙◌, subst, arith, drop-drop}
use borrow.Author.Tests.{eq-eqb, ne_eqb, lt-ltb, le-ltb}
use Rattle.std.proofs.Math.Seq.{drop-nil}
use Rattle.record_table.specs.TypedSets.{line_seven}
use Rattle.record.specs.Declares.{case_in, count_in}
use Rattle.parts.specs.declared.Extent.{Extent}
use Rattle.parts.specs.Parts.{Part, parts_of, dataset_of, is_function, line_of, closing_start}
use Rattle.parts.specs.Scan.{line_from, first_of, First}
use Rattle.parts.specs.ScanLaws.{found_first, found_none}
use Rattle.parts.specs.Set.{remaining, Somewhere}
use Rattle.parts.specs.SetLaws.{somewhere}
use Rattle.parts.specs.Turn.{Between}
use Rattle.parts.specs.TurnLaws.{turn, between_none}
use Rattle.parts.specs.Function.{part_case, count_of}
use Rattle.parts.specs.FunctionLaws.{line_from_own}
use Rattle.reader.specs.Reader.{sets_from}
use Rattle.reader.specs.Find.{data58, data_of}

-- the sets of a file remain before its first byte
pub sets_remain : (file : List ℕ) → parts_of file ≡ remaining file 0 0
unfolding parts_of
sets_remain file = refl

-- one turn of the loop over sets, after i of them
module _ (file : List ℕ) (i n at : ℕ) (q : drop i (parts_of file) ≡ remaining file n at) where
  -- a set more is passed
  pub sets_left : (e : Extent) → Between file n at (Some e) → drop (i + 1) (parts_of file) ≡ remaining file e.through e.past
  sets_left e b = let w = turn file n at e b in sym (drop-drop 1 i (parts_of file)) ∙ ap (drop 1) (q ∙ w.first.sets) ∙ w.others

  -- no set is left
  pub no_set : (k : ℕ) → i ≤ k → Between file n at None → None ≡ first_of (drop k (parts_of file))
  no_set k h b =
      let z : i + (k - i) ≡ k = omega arith in
      let r : drop i (parts_of file) ≡ [] = q ∙ between_none file n at b in
      let d : drop k (parts_of file) ≡ [] = ap (λ (x : ℕ). drop x (parts_of file)) (sym z) ∙ sym (drop-drop (k - i) i (parts_of file)) ∙ ap (drop (k - i)) r ∙ drop-nil (k - i) in
      b.next ∙ ap first_of (between_none file n at b ∙ sym d)

  -- the set asked for
  pub set_found : (k : ℕ) → i ≤ k → k ≤ i → (e : Option Extent) → Between file n at e → e ≡ first_of (drop k (parts_of file))
  set_found k h l e b = let z : k ≡ i = omega arith in b.next ∙ ap first_of (sym q ∙ ap (λ (x : ℕ). drop x (parts_of file)) (sym z))

-- the set asked for stands in the file
pub stands : (file : List ℕ) (set : ℕ) (p : Part) (ps : List Part) → sets_from file set ≡ p ∷ ps → Somewhere file p ps
unfolding sets_from
stands file zero p ps e = let z : 0 ≡ suc (length ps) = ap length e in absurd (omega arith)
stands file (suc k) p ps e = somewhere file k 0 0 (parts_of file) p ps (omega arith) (sym (sets_remain file)) e

-- a set counted from 1
sets_from_some : (file : List ℕ) (set k : ℕ) → set ≡ suc k → sets_from file set ≡ drop k (parts_of file)
unfolding sets_from
sets_from_some file set k e = rw e refl

-- set 0
pub data_zero : (file : List ℕ) (set : ℕ) → set ≡ 0 → None ≡ data_of (sets_from file set)
unfolding sets_from data_of
data_zero file set e = rw e refl

module _ (file : List ℕ) (set k : ℕ) (some : set ≡ suc k) where
  sets_of : (e : Option Extent) → e ≡ first_of (drop k (parts_of file)) → e ≡ first_of (sets_from file set)
  sets_of e q = q ∙ ap first_of (sym (sets_from_some file set k some))

  -- no such set
  pub data_none : None ≡ first_of (drop k (parts_of file)) → None ≡ data_of (sets_from file set)
  unfolding data_of
  data_none q = rw (found_none (sets_from file set) (sets_of None q)) refl

  module _ (e : Extent) (q : Some e ≡ first_of (drop k (parts_of file))) where
    w : First (sets_from file set) e
    w = found_first (sets_from file set) e (sets_of (Some e) q)

    s : Somewhere file w.set w.others
    s = stands file set w.set w.others w.sets

    pub body_within : e.body ≤ length file
    body_within = subst (λ (x : ℕ). x ≤ length file) (sym w.body) s.stands.inside

    line_seven_lem : line_from e.closing e.body file line_seven ≡ line_of w.set line_seven
    line_seven_lem =
        ap (λ (x : ℕ). line_from x e.body file line_seven) w.closing ∙ ap (λ (x : ℕ). line_from (closing_start w.set) x file line_seven) w.body
        ∙ line_from_own file s.before s.from w.set w.others s.stands line_seven

    -- no 58
    pub data_other : (e.number ≡ 58 → ⊥) → None ≡ data_of (sets_from file set)
    unfolding data_of
    data_other h = rw (w.sets, ne_eqb (dataset_of w.set) 58 (λ z. h (w.number ∙ z))) refl

    module _ (h : e.number ≡ 58) (c : ℕ) (f : c ≡ case_in (line_from e.closing e.body file line_seven)) where
      case_own : c ≡ part_case w.set
      unfolding part_case
      case_own = f ∙ ap case_in line_seven_lem

      a58 : is_function w.set ≡ true
      a58 = eq-eqb (dataset_of w.set) 58 (sym w.number ∙ h)

      -- no case
      pub data_no_case : 8 ≤ c → None ≡ data_of (sets_from file set)
      unfolding data_of
      data_no_case l = rw (w.sets, a58, ← case_own, le-ltb c 8 l) refl

      -- a 58
      pub data_found : c < 8 → (n : ℕ) → n ≡ count_in (line_from e.closing e.body file line_seven) → Some (data58 e.body e.closing c n) ≡ data_of (sets_from file set)
      unfolding data_of count_of
      data_found l n g = rw (w.sets, a58, ← case_own, lt-ltb c 8 l, ← w.body, ← w.closing, ← line_seven_lem, ← g) refl
