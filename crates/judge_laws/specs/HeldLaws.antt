-- The parts of an accepted file are the sets of its list, in order, and each holds one.
use Rattle.std.specs.Prelude.{◌≡◌, List, [], ◌∷◌, ℕ, suc, ◌-◌, ◌≤◌, length, get_or, drop}
use Rattle.std.proofs.Common.{sym, ap, subst, ◌∙◌, arith, length-drop, drop-cons}
use Rattle.laws.specs.Cut.{cut}
use Rattle.judge.specs.Judge.{judged}
use Rattle.parts.specs.Parts.{Part, parts_of}
use Rattle.theory.specs.Sets.{Set, set}
use Rattle.theory.specs.Proper.{Proper}
use Rattle.line_laws.specs.Ends.{CutInto}
use Rattle.line_laws.proofs.EndsLaws.{ended_complete}
use Rattle.line_laws.specs.ShortLaws.{ended_short}
use Rattle.parts_laws.specs.Holds.{Holds, AtPlaces}
use Rattle.parts_laws.specs.HoldsLaws.{lines_stand}
use Rattle.parts_laws.specs.DeclaresLaws.{as_many, stand_at}
use Rattle.judge_laws.specs.JudgeLaws.{zero_proper}

pub proper_places : {sets : List Set} {bytes : List ℕ} → Proper sets bytes → AtPlaces 0 0 sets (parts_of bytes) (cut bytes).lines
unfolding parts_of
proper_places {sets} {bytes} p =
    let c : CutInto p.columns bytes = ended_complete p.ends in
    lines_stand p.lines (ended_short p.ends) 0 0 (cut bytes).lines c.same

-- each part holds a set
pub part_held : {n at : ℕ} {ss : List Set} {ps : List Part} {ls : List (List ℕ)} (k : ℕ) (p : Part) (qs : List Part) → AtPlaces n at ss ps ls → drop k ps ≡ p ∷ qs → (s : Set) × Holds s p
part_held {ss = ss} {ps = ps} k p qs a d =
    let l : length ps - k ≡ suc (length qs) = sym (length-drop k ps) ∙ ap length d in
    let f = stand_at k (get_or ss k (set 0 [])) (drop (suc k) ss) a (drop-cons ss k (set 0 []) (omega (arith, as_many a))) in
    let q : f.part ∷ f.others ≡ p ∷ qs = sym f.sets ∙ d in
    let same : f.part ≡ p = cc in
    (get_or ss k (set 0 []), subst (Holds (get_or ss k (set 0 []))) same f.holds)

pub accepted_held : (bytes : List ℕ) → (judged bytes).number ≤ 0 → (k : ℕ) (p : Part) (ps : List Part) → drop k (parts_of bytes) ≡ p ∷ ps → (s : Set) × Holds s p
accepted_held bytes z k p ps d = part_held k p ps (proper_places (zero_proper bytes z).1) d
