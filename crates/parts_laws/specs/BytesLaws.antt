-- The own columns of a stored number are bytes of the text: a real reaches its field's last column, so no filled blank stands there.
use Rattle.std.specs.Prelude.{◌≡◌, refl, Bool, true, false, List, [], ◌∷◌, ◌++◌, ℕ, zero, suc, ◌+◌, ◌-◌, ◌<◌, ◌≤◌, ltb, length, get_or, take, drop, replicate, Ok, Err}
use Rattle.std.proofs.Common.{sym, ap, ◌∙◌, ⊎_elim, arith, ltb-false, length-drop, take-suc, take_at, drop-drop, get_or-take, get_or-drop, get_or-append-add}
use Rattle.std.proofs.lemmas.List.{get_or-replicate}
use Rattle.laws.specs.Choice.{pick}
use Rattle.laws.specs.ChoiceLaws.{below_or_not}
use Rattle.laws.specs.Run.{run}
use Rattle.laws.specs.RunLaws.{run_append}
use Rattle.text.specs.Parts.{is_digit}
use Rattle.line.specs.Line.{columns, filled}
use Rattle.line.specs.LineLaws.{columns_take, columns_within, filled_length}
use Rattle.real.specs.declared.Scan.{Scan}
use Rattle.real.specs.declared.Number.{Number}
use Rattle.real.specs.Real.{Real}
use Rattle.real.specs.Real.{start, malformed, scan_step, is_letter, on_blank, real_end, real_of}

-- 1 for a value, 0 for blank and malformed
abbrev valued : Real → ℕ
valued (Err _) = 0
valued (Ok v) = 1

end_blank : (s : Scan) (t : Bool) → ltb 0 s.phase ≡ t → valued (real_end (pick t malformed s)) ≡ 0
unfolding real_end
end_blank s true e = refl
end_blank s false e = let z : s.phase ≡ 0 = omega (arith, ltb-false 0 s.phase e) in rw z refl

step_blank : (s : Scan) → scan_step s 32 ≡ pick (ltb 0 s.phase) malformed s
unfolding scan_step is_digit is_letter on_blank
step_blank s = refl

blank_last : (x : List ℕ) → valued (real_of (x ++ (32 ∷ []))) ≡ 0
unfolding real_of run
blank_last x =
    rw (run_append scan_step start x (32 ∷ []), step_blank (run scan_step start x)) (end_blank (run scan_step start x) (ltb 0 (run scan_step start x).phase) refl)

-- columns past a short line are blanks
filled_blank : (cs : List ℕ) (i : ℕ) → length cs ≤ i → i < 80 → get_or (filled cs) i 0 ≡ 32
unfolding filled
filled_blank cs i h l =
    let z : length cs + (i - length cs) ≡ i = omega arith in
    get_or-take 80 (cs ++ replicate 80 32) i 0 l
    ∙ ap (λ (k : ℕ). get_or (cs ++ replicate 80 32) k 0) (sym z)
    ∙ get_or-append-add cs (replicate 80 32) (i - length cs) 0 ∙ get_or-replicate 80 (i - length cs) 32 0 (omega arith)

-- a field that holds a value stands in the line's own columns
pub reaches : (cs : List ℕ) (a w : ℕ) (v : Number) → a + w ≤ 80 → real_of (take w (drop a (filled cs))) ≡ Ok v → a + w ≤ length cs
unfolding real_of run real_end
reaches cs a zero v h e = let z : ◌≡◌ {A = ℕ} 0 1 = ap valued e in absurd (omega arith)
reaches cs a (suc w) v h e = ⊎_elim short (λ l. l) (below_or_not (length cs) (a + suc w))
  where
    short : length cs < a + suc w → a + suc w ≤ length cs
    short l =
        let n : w < length (drop a (filled cs)) = omega (arith, length-drop a (filled cs), filled_length cs) in
        let b : get_or (drop a (filled cs)) w 0 ≡ 32 = get_or-drop a (filled cs) w 0 ∙ filled_blank cs (a + w) (omega arith) (omega arith) in
        let x : take (suc w) (drop a (filled cs)) ≡ take w (drop a (filled cs)) ++ (32 ∷ []) = take-suc (drop a (filled cs)) w 0 n ∙ rw b refl in
        let z : ◌≡◌ {A = ℕ} 0 1 = sym (blank_last (take w (drop a (filled cs)))) ∙ ap (λ (y : List ℕ). valued (real_of y)) (sym x) ∙ ap valued e in
        absurd (omega arith)

-- a value has columns
pub value_some : (w : ℕ) (l : List ℕ) (v : Number) → real_of (take w l) ≡ Ok v → 0 < w
unfolding real_of run real_end
value_some zero l v e = let z : ◌≡◌ {A = ℕ} 0 1 = ap valued e in absurd (omega arith)
value_some (suc w) l v e = omega arith

-- a part inside the first m of a list
part_take : (a w m : ℕ) (l : List ℕ) → a + w ≤ m → take w (drop a (take m l)) ≡ take w (drop a l)
part_take zero zero m l h = refl
part_take zero (suc w) zero l h = absurd (omega arith)
part_take zero (suc w) (suc m) [] h = refl
part_take zero (suc w) (suc m) (x ∷ l) h = ap (◌∷◌ x) (part_take zero w m l (omega arith))
part_take (suc a) w zero l h = absurd (omega arith)
part_take (suc a) w (suc m) [] h = refl
part_take (suc a) w (suc m) (x ∷ l) h = part_take a w m l (omega arith)

-- such a field's columns are bytes of the text where the line begins at byte b
pub field_bytes_lem : (file l : List ℕ) (b a w : ℕ) (v : Number) → take (length l) (drop b file) ≡ l → a + w ≤ 80
    → real_of (take w (drop a (filled (columns true l)))) ≡ Ok v → take w (drop a (filled (columns true l))) ≡ take w (drop (b + a) file)
unfolding filled
field_bytes_lem file l b a w v q h e =
    let cs : List ℕ = columns true l in
    let r : a + w ≤ length (columns true l) = reaches (columns true l) a w v h e in
    let m : a + w ≤ length l = omega (arith, columns_within true l) in
    part_take a w 80 (columns true l ++ replicate 80 32) h
    ∙ sym (part_take a w (length (columns true l)) (columns true l ++ replicate 80 32) r)
    ∙ ap (λ (x : List ℕ). take w (drop a x)) (take_at (columns true l) (replicate 80 32) (length (columns true l)) refl ∙ columns_take true l)
    ∙ part_take a w (length (columns true l)) l r
    ∙ ap (λ (x : List ℕ). take w (drop a x)) (sym q)
    ∙ part_take a w (length l) (drop b file) m
    ∙ ap (take w) (drop-drop a b file)
