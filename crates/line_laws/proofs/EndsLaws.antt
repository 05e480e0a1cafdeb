-- The cut of a file's bytes agrees with document 01's line ends ("Each line ends in LF or CR LF and has at most 80 columns, its end
-- not counted"): the bytes are made of ended lines exactly when nothing is left after the last LF and every raw line passes, and
-- the lines' columns are then those of the raw lines.
use Rattle.std.specs.Prelude.{◌≡◌, refl, Bool, true, false, List, [], ◌∷◌, ◌++◌, map, ◌⊎◌, ℕ, ◌-◌, ◌≤◌, eqb, length}
use Rattle.std.proofs.Common.{◌∙◌, ap, append_assoc, append-nil, inl, inr, arith, eqb-true, ne_eqb}
use Rattle.std.proofs.Math.Logic.{⊎_map}
use Rattle.laws.specs.Choice.{pick}
use Rattle.laws.specs.Cut.{text, onto, cut}
use Rattle.line.specs.Line.{Allowed, none, more, without_return, columns, line_fault, passed}
use Rattle.line.specs.LineLaws.{columns_crlf, columns_lf, line_fault_complete, line_fault_sound, allowed_no_return}
use Rattle.theory.specs.Proper.{Ended}
use Rattle.line_laws.specs.Ends.{AllPass, CutInto, joined}

-- allowed bytes before a raw line belong to it: none is an LF
cut_allowed : {cs : List ℕ} → Allowed cs → (l : List ℕ) (ls : List (List ℕ)) (r bs : List ℕ) → cut bs ≡ text (l ∷ ls) r → cut (cs ++ bs) ≡ text ((cs ++ l) ∷ ls) r
unfolding cut
cut_allowed none l ls r bs e = e
cut_allowed (more {b} lo up a) l ls r bs e = rw (ne_eqb b 10 (λ h. omega arith), cut_allowed a l ls r bs e) refl

-- one more line in front: its columns, then bs, which is its end and the bytes of the other lines
cut_into_more :
    {cs bytes : List ℕ} {css : List (List ℕ)} (end bs : List ℕ) →
    Allowed cs →
    length cs ≤ 80 →
    columns true (cs ++ end) ≡ cs →
    cut bs ≡ text (end ∷ (cut bytes).lines) (cut bytes).rest →
    CutInto css bytes →
    CutInto (cs ∷ css) (cs ++ bs)
cut_into_more {cs} {bytes} end bs a s c e i =
    let q : cut (cs ++ bs) ≡ text ((cs ++ end) ∷ (cut bytes).lines) (cut bytes).rest = cut_allowed a end (cut bytes).lines (cut bytes).rest bs e in
    let p : line_fault true (columns true (cs ++ end)) ≡ passed = rw c (line_fault_complete true cs refl s a) in
    record { ended = rw q i.ended; pass = rw q (AllPass.more p i.pass); same = rw (q, c, i.same) refl }

-- ended lines are cut into themselves, and pass
pub ended_complete : {css : List (List ℕ)} {bytes : List ℕ} → Ended css bytes → CutInto css bytes
unfolding cut
ended_complete Ended.none = record { ended = refl; pass = AllPass.none; same = refl }
ended_complete (Ended.lf cs bytes a s e) =
    cut_into_more [] (10 ∷ bytes) a s (rw append-nil (columns_lf cs (allowed_no_return a (length cs - 1)))) refl (ended_complete e)
ended_complete (Ended.crlf cs bytes a s e) = cut_into_more (13 ∷ []) (13 ∷ 10 ∷ bytes) a s (columns_crlf cs) refl (ended_complete e)

-- the cut loses no byte
onto_joined : (b : ℕ) (ls : List (List ℕ)) (r : List ℕ) → joined (onto b ls r).lines (onto b ls r).rest ≡ b ∷ joined ls r
unfolding joined
onto_joined b [] r = refl
onto_joined b (l ∷ ls) r = refl

abbrev Joined : List ℕ → Type 0
Joined bytes = joined (cut bytes).lines (cut bytes).rest ≡ bytes

joined_case : (b : ℕ) (bs : List ℕ) (t : Bool) → eqb b 10 ≡ t → Joined bs → Joined (b ∷ bs)
unfolding cut joined
joined_case b bs true e h = rw e (rw (eqb-true b 10 e, h) refl)
joined_case b bs false e h = rw e (onto_joined b (cut bs).lines (cut bs).rest ∙ ap (◌∷◌ b) h)

pub cut_joined : (bytes : List ℕ) → Joined bytes
unfolding cut joined
cut_joined [] = refl
cut_joined (b ∷ bs) = joined_case b bs (eqb b 10) refl (cut_joined bs)

-- a raw line is its columns, or its columns and a CR
columns_cases : (l : List ℕ) → (columns true l ≡ l) ⊎ (columns true l ++ (13 ∷ []) ≡ l)
unfolding columns without_return
columns_cases [] = inl refl
columns_cases (b ∷ []) = one (eqb b 13) refl
  where
    one : (t : Bool) → eqb b 13 ≡ t → (pick t [] (b ∷ []) ≡ b ∷ []) ⊎ (pick t [] (b ∷ []) ++ (13 ∷ []) ≡ b ∷ [])
    one true e = inr (rw (eqb-true b 13 e) refl)
    one false e = inl refl
columns_cases (b ∷ c ∷ l) = ⊎_map (ap (◌∷◌ b)) (ap (◌∷◌ b)) (columns_cases (c ∷ l))

-- one more line in front: its raw line, with or without a CR, and an LF
ended_more :
    {cs l bytes : List ℕ} {css : List (List ℕ)} →
    (cs ≡ l) ⊎ (cs ++ (13 ∷ []) ≡ l) →
    Allowed cs →
    length cs ≤ 80 →
    Ended css bytes →
    Ended (cs ∷ css) (l ++ (10 ∷ bytes))
ended_more {cs} {l} {bytes} (inl c) a s e = rw (← c) (Ended.lf cs bytes a s e)
ended_more {cs} {l} {bytes} (inr c) a s e = rw (← c, append_assoc) (Ended.crlf cs bytes a s e)

-- raw lines that pass, each with its LF, are ended lines
all_pass_ended : {ls : List (List ℕ)} → AllPass ls → Ended (map (columns true) ls) (joined ls [])
unfolding joined
all_pass_ended AllPass.none = Ended.none
all_pass_ended (AllPass.more {l} h a) =
    let f = line_fault_sound true (columns true l) h in
    ended_more (columns_cases l) f.2 f.1 (all_pass_ended a)

-- bytes with nothing after the last LF, whose raw lines pass, are ended lines
pub ended_sound : (bytes : List ℕ) → (cut bytes).rest ≡ [] → AllPass (cut bytes).lines → Ended (map (columns true) (cut bytes).lines) bytes
ended_sound bytes e a =
    let q : joined (cut bytes).lines [] ≡ bytes = rw e at (cut_joined bytes) in
    rw q at (all_pass_ended a)
