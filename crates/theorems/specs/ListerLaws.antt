-- Where the sets of a list stand in a file, and what the lister says of them.
use Rattle.std.specs.Prelude.{◌≡◌, ℕ, zero, suc, ◌+◌, ◌*◌, ◌-◌, ◌<◌, ◌≤◌, drop}
use Rattle.std.proofs.Math.Path.{refl, ap}
use Rattle.std.proofs.Common.{sym, subst, ◌∙◌, arith, drop_of_length-le, drop-drop}
use mathlib.Core.List.{List, [], ◌∷◌, ◌++◌, map}
use borrow.Author.Tests.{lt-ltb, le-ltb}
use Rattle.std.proofs.Math.ListN.{length, take}
use Rattle.laws.specs.Cut.{cut}
use Rattle.judge.specs.Judge.{reply}
use Rattle.parts.specs.Parts.{Part, parts_of, dataset_of, past_of}
use Rattle.parts.specs.Function.{count_of, data_start}
use Rattle.parts.specs.Padding.{padding_of}
use Rattle.parts.specs.Set.{Somewhere}
use Rattle.parts.specs.SetLaws.{somewhere}
use Rattle.lister.specs.Lister.{row_numbers, entry, rows_of, list_reply, list_rows}
use Rattle.theory.specs.Sets.{Set}
use Rattle.theory.specs.Proper.{Proper}
use Rattle.line_laws.specs.Ends.{joined}
use Rattle.parts_laws.specs.Holds.{Holds, AtPlaces}
use Rattle.parts_laws.specs.Text.{lines_of}
use Rattle.parts_laws.specs.TextLaws.{part_bytes}
use Rattle.parts_laws.specs.Declares.{declared}
use Rattle.parts_laws.specs.DeclaresLaws.{number_held, declared_held, all_held, as_many, stand_at}
use Rattle.theorems.specs.Stands.{SetAt}
use Rattle.judge_laws.specs.HeldLaws.{proper_places}
use Rattle.judge_laws.specs.JudgeLaws.{proper_accepted}

-- the places 7k to 7k + 6 of rows are those of set k
row_at : {q : Part} {others : List Part} (k : ℕ) (parts : List Part) (rest : List ℕ) → drop k parts ≡ q ∷ others → take row_numbers (drop (row_numbers * k) (rows_of parts ++ rest)) ≡ entry q
unfolding rows_of entry
row_at zero parts rest e = rw e refl
row_at (suc k) [] rest e = absurd (omega (arith, ap length e))
row_at (suc k) (p ∷ parts) rest e =
    let next : row_numbers * suc k ≡ row_numbers + row_numbers * k = omega arith in
    ap (λ (n : ℕ). take row_numbers (drop n (rows_of (p ∷ parts) ++ rest))) next
    ∙ ap (take row_numbers) (sym (drop-drop (row_numbers * k) row_numbers (rows_of (p ∷ parts) ++ rest)))
    ∙ row_at k parts rest e

module _ {sets : List Set} {bytes : List ℕ} (p : Proper sets bytes) where
  pub lister_places : AtPlaces 0 0 sets (parts_of bytes) (cut bytes).lines
  lister_places = proper_places p

  pub parts_many : length (parts_of bytes) ≡ length sets
  parts_many = as_many lister_places

  -- past the last set
  pub no_parts : (k : ℕ) → length sets ≤ k → drop k (parts_of bytes) ≡ []
  no_parts k h = let m : length (parts_of bytes) ≤ k = omega (arith, parts_many) in drop_of_length-le (parts_of bytes) m

  pub set_stands : {s : Set} {later : List Set} (k : ℕ) → drop k sets ≡ s ∷ later → (q : Part) × SetAt sets bytes k s q
  set_stands {s} {later} k e =
      let f = stand_at k s later lister_places e in
      (f.part, record { later = later; listed = e; others = f.others; stands = f.sets })

  pub lister_answers : (rows : List ℕ) → row_numbers * length sets ≤ length rows
      → (list_reply bytes (length rows) ≡ reply 0 (length sets)) × (list_rows bytes rows ≡ rows_of (parts_of bytes) ++ drop (row_numbers * length sets) rows)
  unfolding list_reply list_rows
  lister_answers rows h =
      let room = le-ltb (length rows) (row_numbers * length sets) h in
      (rw (proper_accepted p, parts_many, room) refl, rw (proper_accepted p, parts_many, room) refl)

  pub lister_short : (room : ℕ) → room < row_numbers * length sets → list_reply bytes room ≡ reply 17 0
  unfolding list_reply
  lister_short room h = rw (proper_accepted p, parts_many, lt-ltb room (row_numbers * length sets) h) refl

  pub lister_numbers : (map dataset_of (parts_of bytes) ≡ map (λ (s : Set). s.number) sets) × (map count_of (parts_of bytes) ≡ map declared sets)
  lister_numbers =
      (all_held (λ (s : Set). s.number) dataset_of (λ s q h. number_held h) lister_places, all_held declared count_of (λ s q h. declared_held h) lister_places)

  -- a set of the list, as it stands
  module _ {k : ℕ} {s : Set} {q : Part} (a : SetAt sets bytes k s q) where
    pub lister_bytes : take (past_of q - q.bytes) (drop q.bytes bytes) ≡ joined (lines_of q) []
    lister_bytes = part_bytes bytes k q a.others lister_places a.stands

    pub set_holds : Holds s q
    set_holds =
        let f = stand_at k s a.later lister_places a.listed in
        let e : f.part ∷ f.others ≡ q ∷ a.others = sym f.sets ∙ a.stands in
        let z : f.part ≡ q = cc in
        subst (Holds s) z f.holds

    pub set_somewhere : Somewhere bytes q a.others
    unfolding parts_of
    set_somewhere = somewhere bytes k 0 0 (parts_of bytes) q a.others (omega arith) refl a.stands

    pub lister_row : (rows : List ℕ) → row_numbers * length sets ≤ length rows
        → take row_numbers (drop (row_numbers * k) (list_rows bytes rows)) ≡ suc q.lines ∷ s.number ∷ declared s ∷ q.bytes ∷ past_of q ∷ data_start q ∷ padding_of q ∷ []
    unfolding entry
    lister_row rows h =
        ap (λ (r : List ℕ). take row_numbers (drop (row_numbers * k) r)) (lister_answers rows h).1
        ∙ row_at k (parts_of bytes) (drop (row_numbers * length sets) rows) a.stands
        ∙ rw (number_held set_holds, declared_held set_holds) refl
