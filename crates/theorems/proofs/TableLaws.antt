-- The judge's replies are in document 01's table, with the line and column that C-14 says, and fit the word that carries them.
use Rattle.std.specs.Prelude.{◌≡◌, refl, Bool, true, false, List, [], ◌∷◌, ℕ, suc, ◌+◌, ◌≤◌, eqb, length}
use Rattle.std.proofs.Common.{ap, inl, ⊎_elim, arith, length-drop}
use Rattle.laws.specs.Choice.{pick}
use Rattle.laws.specs.ChoiceLaws.{below_or_not}
use Rattle.laws.specs.Cut as Cut
use Rattle.laws.specs.Cut.{onto, cut}
use Rattle.line.specs.declared.Refusal.{Refusal}
use Rattle.judge.specs.declared.Reply.{Reply}
use Rattle.judge.specs.Judge.{judged}
use Rattle.judge.specs.Refusal.{LineNumber}
use Rattle.judge.specs.RefusalLaws.{line_number}
use Rattle.host.specs.Packed.{InWord, word}
use Rattle.host.specs.PackedLaws.{word_same}
use Rattle.line_laws.specs.Fault.{LineFault}
use Rattle.walk_laws.specs.FaultLaws.{fault_refused}
use Rattle.walk_laws.specs.FaultColumnLaws.{file_column}
use Rattle.walk_laws.specs.FileFault.{FileFault, Judged}
use Rattle.walk_laws.specs.FileFaultLaws.{too_long_judged, judged_fault}
use Rattle.theorems.specs.Table.{InTable}

-- the number of a line's own refusal
pub own_number : {ended : Bool} {cs : List ℕ} {f : Refusal} → LineFault ended cs f → LineNumber f.number
own_number (LineFault.byte b) = (omega arith, inl (omega arith))
own_number (LineFault.long a g) = (omega arith, inl (omega arith))
own_number (LineFault.unended a g) = (omega arith, inl (omega arith))

-- the number and the line of a file's refusal
fault_number : {bytes : List ℕ} {k : ℕ} {f : Refusal} → FileFault bytes k f → LineNumber f.number
fault_number (FileFault.line {s} {f} k l ls t q w) = line_number s l f (fault_refused s l w)
fault_number (FileFault.unended t h w) = own_number w
fault_number (FileFault.inside t e o) = (omega arith, inl (omega arith))

fault_line : {bytes : List ℕ} {k : ℕ} {f : Refusal} → FileFault bytes k f → k ≤ length (cut bytes).lines
fault_line {bytes} (FileFault.line k l ls t q w) = omega (arith, length-drop k (cut bytes).lines, ap length q)
fault_line (FileFault.unended t h w) = omega arith
fault_line (FileFault.inside t e o) = omega arith

pub judge_table : (bytes : List ℕ) → InTable (length (cut bytes).lines) (judged bytes)
judge_table bytes = ⊎_elim (λ h. rw (too_long_judged bytes h) InTable.too_long) (λ h. by h (judged_fault bytes h)) (below_or_not 16777216 (length bytes))
  where
    by : {r : Reply} → length bytes ≤ 16777216 → Judged bytes r → InTable (length (cut bytes).lines) r
    by h Judged.accepted = InTable.accepted
    by h Judged.no_set = InTable.no_set
    by h (Judged.at_line_lem {k} {f} w) =
        let n = fault_number w in
        let i = file_column w in
        let most : f.column ≤ 16777216 = ⊎_elim (λ a. omega (arith, i.eighty (λ e. omega arith))) (λ a. omega (arith, i.byte (omega (arith, n.0)))) (below_or_not 2 f.number) in
        InTable.line f.number (k + 1) f.column n (omega arith) (omega (arith, fault_line w)) i.from i.eighty most

-- a file has no more lines than bytes
onto_lines : (b : ℕ) (ls : List (List ℕ)) (r : List ℕ) → length (onto b ls r).lines ≡ length ls
onto_lines b [] r = refl
onto_lines b (l ∷ ls) r = refl

lines_most : (bytes : List ℕ) → length (cut bytes).lines ≤ length bytes
unfolding cut
lines_most [] = omega arith
lines_most (b ∷ bytes) = go (eqb b 10) (lines_most bytes)
  where
    go : (t : Bool) → length (cut bytes).lines ≤ length bytes
        → length (pick t (Cut.text ([] ∷ (cut bytes).lines) (cut bytes).rest) (onto b (cut bytes).lines (cut bytes).rest)).lines ≤ suc (length bytes)
    go true h = omega arith
    go false h = omega (arith, onto_lines b (cut bytes).lines (cut bytes).rest)

table_word : {lines : ℕ} {r : Reply} → lines ≤ 16777216 → InTable lines r → InWord r
table_word h InTable.accepted = record { number = omega arith; column = omega arith; place = omega arith }
table_word h InTable.too_long = record { number = omega arith; column = omega arith; place = omega arith }
table_word h InTable.no_set = record { number = omega arith; column = omega arith; place = omega arith }
table_word h (InTable.line n p c w from last one eighty most) =
    record { number = ⊎_elim (λ a. omega arith) (λ a. omega (arith, a.1)) w.1; column = omega arith; place = omega arith }

pub judged_bounds : (bytes : List ℕ) → InWord (judged bytes)
judged_bounds bytes =
    ⊎_elim (λ h. rw (too_long_judged bytes h) (table_word {lines = 0} (omega arith) InTable.too_long))
    (λ h. table_word (omega (arith, lines_most bytes)) (judge_table bytes)) (below_or_not 16777216 (length bytes))

-- the word that carries a file's reply loses nothing of it
pub judged_word : (a b : List ℕ) → word (judged a) ≡ word (judged b) → judged a ≡ judged b
judged_word a b e = word_same (judged a) (judged b) (judged_bounds a) (judged_bounds b) e
