-- The question refuses a line for what is wrong with it, and for nothing else.
use Rattle.std.specs.Prelude.{◌≡◌, refl, true, false, ℕ, zero, suc, ◌+◌, ◌≤◌, ◌<◌, length, take, drop}
use Rattle.std.proofs.Common.{sym, ◌∙◌}
use Rattle.std.proofs.Math.Logic.{⊎_elim}
use mathlib.Core.List.{List, [], ◌∷◌}
use native.Mathlib.Omega.{arith}
use Rattle.laws.specs.ChoiceLaws.{below_or_not}
use Rattle.line.specs.Line.{passed, line_fault, filled}
use Rattle.line.specs.LineLaws.{line_fault_sound, line_fault_complete, filled_length}
use Rattle.line.specs.declared.Refusal.{Refusal}
use Rattle.codes.specs.Form.{Form}
use Rattle.field.specs.Field.{may_blank, field_number}
use Rattle.record_table.specs.Row.{Field}
use Rattle.record.specs.Check.{otherwise, stray_fault, stray}
use Rattle.record.specs.CheckLaws.{or_else_here, otherwise_here, otherwise_on}
use Rattle.judge.specs.RefusalLaws.{no_fault}
use Rattle.line_laws.specs.FaultLaws.{line_fault_fault, line_fault_only, line_some}
use Rattle.record_laws.specs.Fault.{First, FieldFault, text_blank, integer_blank, integer_malformed, out_of_range, against_rule, real_blank, real_malformed, Stray}
use Rattle.record_laws.specs.FieldFaultLaws.{fault_some, number_fault, fault_number}
use Rattle.record_laws.specs.FieldFaultLaws as FieldFaultLaws
use Rattle.record_laws.specs.LookedLaws.{first_same, Looked, right, wrong, FieldsFrom, looked_first, FieldsLooked, fields_all, same_field}
use Rattle.record_laws.specs.StrayLaws.{stray_first, stray_none}
use Rattle.format_reader.specs.Unruled.{looked_at, unruled_number, unruled_fault, unruled_refusal}
use Rattle.format_laws.specs.Asked.{as_format, left_blank}
use Rattle.format_laws.specs.SameLaws.{same_refusal}
use Rattle.format_laws.specs.Fault.{Ruled, nine, eleven, fourteen, Misspelled, WellSpelled, WellSpelledBefore, SpellingFault, LentFault}

unruled : {n : ℕ} → (n ≡ 9 → ⊥) → (n ≡ 11 → ⊥) → (n ≡ 14 → ⊥) → Ruled n → ⊥
unruled a b c nine = a refl
unruled a b c eleven = b refl
unruled a b c fourteen = c refl

same_ruled : {m n : ℕ} → m ≡ n → Ruled n → Ruled m
same_ruled e r = rw e r

module _ (line : List ℕ) where
  -- One field.

  abbrev LookedAs : Form → List ℕ → ℕ → Type 0
  LookedAs = Looked line (WellSpelled line) (Misspelled line)

  left_out : {n : ℕ} {f : Form} {cols : List ℕ} → Ruled n → FieldFault line n f cols → LookedAs f cols 0
  left_out r w = right (λ m v. same_ruled (FieldFaultLaws.one_way line v w) r)

  found : {n : ℕ} {f : Form} {cols : List ℕ} → FieldFault line n f cols → (n ≡ 9 → ⊥) → (n ≡ 11 → ⊥) → (n ≡ 14 → ⊥) → LookedAs f cols n
  found w a b c = wrong (fault_some line w) (record { fault = w; looked_at_lem = unruled a b c })

  fault_looked : {n : ℕ} {f : Form} {cols : List ℕ} → FieldFault line n f cols → LookedAs f cols (looked_at n)
  unfolding looked_at
  fault_looked (text_blank b) = left_out nine (text_blank b)
  fault_looked (integer_blank b o) = found (integer_blank b o) (λ e. omega arith) (λ e. omega arith) (λ e. omega arith)
  fault_looked (integer_malformed b s) = found (integer_malformed b s) (λ e. omega arith) (λ e. omega arith) (λ e. omega arith)
  fault_looked (out_of_range s h) = left_out eleven (out_of_range s h)
  fault_looked (against_rule s h k) = left_out eleven (against_rule s h k)
  fault_looked (real_blank b) = found (real_blank b) (λ e. omega arith) (λ e. omega arith) (λ e. omega arith)
  fault_looked (real_malformed b s) = found (real_malformed b s) (λ e. omega arith) (λ e. omega arith) (λ e. omega arith)

  looked : (f : Form) (cols : List ℕ) → LookedAs f cols (unruled_number f line cols)
  unfolding unruled_number looked_at
  looked f cols =
      ⊎_elim (λ h. fault_looked (number_fault line f cols h))
      (λ h.
      let e : field_number f (may_blank f line) cols ≡ 0 = omega arith in
      rw e (right (λ n w. absurd (omega (arith, fault_some line w, fault_number line w)))))
      (below_or_not 0 (field_number f (may_blank f line) cols))

  -- All fields.

  fields_from : (at : ℕ) (fs : List Field) → FieldsFrom line (WellSpelled line) (Misspelled line) at fs (unruled_fault fs at line)
  unfolding unruled_fault
  fields_from at [] = right (λ j h. absurd (omega arith))
  fields_from at (f ∷ fs) =
      looked_first line (WellSpelled line) (Misspelled line) at f fs _ (looked f.form (take f.width (drop at line))) (fields_from (at + f.width) fs)

  not_both : (n : ℕ) (f : Form) (cols : List ℕ) → WellSpelled line f cols → Misspelled line n f cols → ⊥
  not_both n f cols s w = w.looked_at_lem (s n w.fault)

  one_way : (n m : ℕ) (f : Form) (cols : List ℕ) → Misspelled line n f cols → Misspelled line m f cols → n ≡ m
  one_way n m f cols v w = FieldFaultLaws.one_way line v.fault w.fault

  module _ (fs : List Field) where
    -- a line passes, or is refused for what is wrong
    data Found : Refusal → Type 0 where
      clear : WellSpelledBefore line fs (length fs) → ((c : ℕ) → Stray line fs c → ⊥) → Found passed
      refused : {f : Refusal} → SpellingFault fs line f → Found f

    spelling_some : {f : Refusal} → SpellingFault fs line f → 0 < f.number
    spelling_some (SpellingFault.field n k h p w) = fault_some line w.fault
    spelling_some (SpellingFault.stray c p s) = omega arith

    same : {f g : Refusal} → SpellingFault fs line f → SpellingFault fs line g → f ≡ g
    same (SpellingFault.field n k h p v) (SpellingFault.field m j g q w) = same_field line (WellSpelled line) (Misspelled line) fs not_both one_way p v q w
    same (SpellingFault.field n k h p v) (SpellingFault.stray c q s) = absurd (not_both n _ _ (q k h) v)
    same (SpellingFault.stray c p s) (SpellingFault.field m j g q w) = absurd (not_both m _ _ (p j g) w)
    same (SpellingFault.stray c p s) (SpellingFault.stray d q t) = rw (first_same s t) refl

    none : {f : Refusal} → WellSpelledBefore line fs (length fs) → ((c : ℕ) → Stray line fs c → ⊥) → SpellingFault fs line f → ⊥
    none p n (SpellingFault.field m k h q w) = not_both m _ _ (p k h) w
    none p n (SpellingFault.stray c q s) = n c s.here

    by_stray : WellSpelledBefore line fs (length fs) → (c : ℕ) → (0 < c → First (Stray line fs) c) → (c ≡ 0 → (d : ℕ) → Stray line fs d → ⊥) → Found (stray_fault c)
    by_stray p zero some empty = clear p (empty refl)
    by_stray p (suc c) some empty = refused (SpellingFault.stray (suc c) p (some (omega arith)))

    module _ (short : length line ≤ 80) where
      by_fields : {g : Refusal} → FieldsLooked line (WellSpelled line) (Misspelled line) fs g → Found (otherwise g (stray_fault (stray fs 0 line)))
      by_fields (right p) = by_stray p (stray fs 0 line) (stray_first line short fs) (stray_none line short fs)
      by_fields (wrong n k h p s w) = rw (or_else_here n _ (stray_fault (stray fs 0 line)) s) (refused (SpellingFault.field n k h p w))

      looked_all : Found (unruled_refusal fs line)
      unfolding unruled_refusal
      looked_all = by_fields (fields_all line (WellSpelled line) (Misspelled line) fs (fields_from 0 fs))

      -- what a line is refused for is wrong with it
      pub unruled_fault_lem : 0 < (unruled_refusal fs line).number → SpellingFault fs line (unruled_refusal fs line)
      unruled_fault_lem p = of looked_all p
        where
          of : {f : Refusal} → Found f → 0 < f.number → SpellingFault fs line f
          of (clear q n) p = absurd (omega arith)
          of (refused w) p = w

      -- and a line with something wrong is refused for it
      pub unruled_only : {f : Refusal} → SpellingFault fs line f → (unruled_refusal fs line ≡ f) × (0 < f.number)
      unruled_only w = (of looked_all w, spelling_some w)
        where
          of : {f g : Refusal} → Found g → SpellingFault fs line f → g ≡ f
          of (clear p n) w = absurd (none p n w)
          of (refused v) w = same v w

-- A line lent alone.

module _ (fs : List Field) (lent : List ℕ) where
  abbrev pub lent_refusal : Refusal
  lent_refusal = otherwise (line_fault true lent) (unruled_refusal fs (filled lent))

  short : length (filled lent) ≤ 80
  short = omega (arith, filled_length lent)

  by_fields_fault : (line_fault true lent).number ≤ 0 → 0 < (unruled_refusal fs (filled lent)).number → LentFault fs lent (unruled_refusal fs (filled lent))
  by_fields_fault z p =
      let s = line_fault_sound true lent (no_fault lent (omega arith)) in
      LentFault.fields s.2 s.1 (unruled_fault_lem (filled lent) fs short p)

  pub lent_fault : 0 < lent_refusal.number → LentFault fs lent lent_refusal
  lent_fault p =
      ⊎_elim
      (λ h. let e = otherwise_here (line_fault true lent) (unruled_refusal fs (filled lent)) h in rw e (LentFault.own (line_fault_fault true lent h)))
      (λ h. let e = otherwise_on (line_fault true lent) (unruled_refusal fs (filled lent)) h in rw e (by_fields_fault h (rw e at p)))
      (below_or_not 0 (line_fault true lent).number)

  pub lent_only : {f : Refusal} → LentFault fs lent f → (lent_refusal ≡ f) × (0 < f.number)
  lent_only (LentFault.own w) =
      let e = line_fault_only w in
      let p = line_some w in
      (rw (← e) (otherwise_here (line_fault true lent) (unruled_refusal fs (filled lent)) (rw e p)), p)
  lent_only (LentFault.fields a h w) =
      let u = unruled_only (filled lent) fs short w in
      (rw (line_fault_complete true lent refl h a) u.0, u.1)

  -- none where nothing is wrong
  pub lent_none : ((f : Refusal) → LentFault fs lent f → ⊥) → lent_refusal.number ≡ 0
  lent_none n = ⊎_elim (λ h. absurd (n _ (lent_fault h))) (λ h. omega arith) (below_or_not 0 lent_refusal.number)

  pub lent_clear : lent_refusal.number ≡ 0 → (f : Refusal) → LentFault fs lent f → ⊥
  lent_clear z f w = let u = lent_only w in let e : lent_refusal ≡ f = u.0 in omega (arith, u.1, rw e at z)

-- what is wrong with a line by the fields of a FORMAT is what is wrong with it by those of the row that it reads as
module _ (fs : List Field) (lent : List ℕ) (b : left_blank fs (filled lent) ≡ false) where
  same_lent : lent_refusal (as_format fs) lent ≡ lent_refusal fs lent
  same_lent = rw (same_refusal (filled lent) fs b) refl

  pub same_faults : (f : Refusal) → (LentFault (as_format fs) lent f → LentFault fs lent f) × (LentFault fs lent f → LentFault (as_format fs) lent f)
  same_faults f = (λ w. of (as_format fs) fs (sym same_lent) w, λ w. of fs (as_format fs) same_lent w)
    where
      of : (gs hs : List Field) → lent_refusal hs lent ≡ lent_refusal gs lent → LentFault gs lent f → LentFault hs lent f
      of gs hs e w =
          let u = lent_only gs lent w in
          let q : lent_refusal hs lent ≡ f = e ∙ u.0 in
          rw q at (lent_fault hs lent (rw q u.1))
