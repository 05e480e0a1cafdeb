-- Every proper writing has one that differs from it in padding alone and holds none.
use Rattle.std.specs.Prelude.{◌≡◌, refl, List, [], ◌∷◌, ◌++◌, map, ℕ, zero, suc, ◌≤◌, length, take}
use Rattle.std.proofs.Common.{sym, subst, arith, length-append, length-take, take_all}
use Rattle.line.specs.Line.{Allowed, Allowed.none as no_byte, Allowed.more as byte}
use Rattle.theory.specs.Sets.{Set}
use Rattle.theory.specs.Proper.{Lines, Ended, Proper}
use Rattle.line_laws.specs.Short.{Short}
use Rattle.line_laws.specs.ShortLaws.{ended_short, short_left, short_right}
use Rattle.line_laws.specs.NoDelimiterLaws.{set_none}
use Rattle.line_laws.specs.Ends.{joined}
use Rattle.parts.specs.Parts.{bytes_in, Part, parts_of}
use Rattle.parts.specs.PartsLaws.{bytes_in_append}
use Rattle.parts.specs.Padding.{padding_of}
use Rattle.parts_laws.specs.Holds.{AtPlaces}
use Rattle.rewriter.specs.Rewriter.{cut_last}
use Rattle.rewriter_laws.specs.Form.{counted_columns, EndsBy, Own, OwnLines}
use Rattle.rewriter_laws.specs.Differ.{SameBut, SameFile, PaddingAside}
use Rattle.rewriter_laws.specs.CutLaws.{cut_lines}
use Rattle.rewriter_laws.specs.Laid.{body_of}
use Rattle.rewriter_laws.specs.KeptLaws.{held_unpadded}
use Rattle.rewriter_laws.specs.OwnLaws.{own_only}
use Rattle.rewriter_laws.proofs.RewritingLaws.{proper_stand, proper_own}

-- Lines of which the last is cut.

cut_but : (k : ℕ) (css : List (List ℕ)) → SameBut k css (cut_last k css)
unfolding cut_last
cut_but k [] = SameBut.none
cut_but k (cs ∷ []) = SameBut.last (sym (take_all k (take k cs) (omega (arith, length-take k cs))))
cut_but k (cs ∷ ds ∷ []) = SameBut.more refl (cut_but k (ds ∷ []))
cut_but k (cs ∷ ds ∷ es ∷ css) = SameBut.more refl (cut_but k (ds ∷ es ∷ css))

cut_ends : (k : ℕ) (css : List (List ℕ)) → EndsBy k (cut_last k css)
unfolding cut_last
cut_ends k [] = EndsBy.none
cut_ends k (cs ∷ []) = EndsBy.last {cs = take k cs} (omega (arith, length-take k cs))
cut_ends k (cs ∷ ds ∷ []) = EndsBy.more (cut_ends k (ds ∷ []))
cut_ends k (cs ∷ ds ∷ es ∷ css) = EndsBy.more (cut_ends k (ds ∷ es ∷ css))

cut_bytes : (k : ℕ) (css : List (List ℕ)) → bytes_in (cut_last k css) ≤ bytes_in css
unfolding cut_last bytes_in
cut_bytes k [] = omega arith
cut_bytes k (cs ∷ []) = omega (arith, length-take k cs)
cut_bytes k (cs ∷ ds ∷ css) = omega (arith, cut_bytes k (ds ∷ css))

-- The rules on bytes and columns, line by line.

data Fine : List (List ℕ) → Type 0 where
  none : Fine []
  more : {cs : List ℕ} {css : List (List ℕ)} → Allowed cs → length cs ≤ 80 → Fine css → Fine (cs ∷ css)

ended_fine : {css : List (List ℕ)} {bytes : List ℕ} → Ended css bytes → Fine css
ended_fine Ended.none = Fine.none
ended_fine (Ended.lf cs bytes a h e) = Fine.more a h (ended_fine e)
ended_fine (Ended.crlf cs bytes a h e) = Fine.more a h (ended_fine e)

fine_ended : {css : List (List ℕ)} → Fine css → Ended css (joined css [])
unfolding joined
fine_ended Fine.none = Ended.none
fine_ended (Fine.more {cs} a h f) = Ended.lf cs _ a h (fine_ended f)

allowed_take : (k : ℕ) {cs : List ℕ} → Allowed cs → Allowed (take k cs)
allowed_take zero a = no_byte
allowed_take (suc k) no_byte = no_byte
allowed_take (suc k) (byte l u a) = byte l u (allowed_take k a)

-- what takes the place of a set's lines, and of those after them
fine_front : (a : List (List ℕ)) {b c : List (List ℕ)} → (Fine b → Fine c) → Fine (a ++ b) → Fine (a ++ c)
fine_front [] f h = f h
fine_front (cs ∷ a) f (Fine.more x y h) = Fine.more x y (fine_front a f h)

fine_cut : (k : ℕ) (a : List (List ℕ)) {b c : List (List ℕ)} → (Fine b → Fine c) → Fine (a ++ b) → Fine (cut_last k a ++ c)
unfolding cut_last
fine_cut k [] f h = f h
fine_cut k (cs ∷ []) f (Fine.more x y h) =
    let m : length (take k cs) ≤ 80 = omega (arith, length-take k cs) in
    Fine.more (allowed_take k x) m (f h)
fine_cut k (cs ∷ ds ∷ a) f (Fine.more x y h) = Fine.more x y (fine_cut k (ds ∷ a) f h)

fine_next : {cs : List ℕ} {b c : List (List ℕ)} → (Fine b → Fine c) → Fine (cs ∷ b) → Fine (cs ∷ c)
fine_next f (Fine.more x y h) = Fine.more x y (f h)

-- A file without its padding.

abbrev bare_lines : {ss : List Set} {css : List (List ℕ)} → Lines ss css → List (List ℕ)
bare_lines (Lines.end {css} b) = css
bare_lines (Lines.more {s} first number last before body after b d n l e w) =
    before ++ (first ∷ number ∷ (cut_last (counted_columns s) body ++ (last ∷ bare_lines w)))

abbrev bare_bodies : {ss : List Set} {css : List (List ℕ)} → Lines ss css → List (List (List ℕ))
bare_bodies (Lines.end b) = []
bare_bodies (Lines.more {s} first number last before body after b d n l e w) = cut_last (counted_columns s) body ∷ bare_bodies w

bare_fine : {ss : List Set} {css : List (List ℕ)} (w : Lines ss css) → Fine css → Fine (bare_lines w)
bare_fine (Lines.end b) f = f
bare_fine (Lines.more {s} first number last before body after b d n l e w) f =
    fine_front before (fine_next (fine_next (fine_cut (counted_columns s) body (fine_next (λ g. bare_fine w g))))) f

bare_bytes : {ss : List Set} {css : List (List ℕ)} (w : Lines ss css) → bytes_in (bare_lines w) ≤ bytes_in css
unfolding bytes_in
bare_bytes (Lines.end b) = omega arith
bare_bytes (Lines.more {s} first number last before body after b d n l e w) =
    rw (bytes_in_append before _, bytes_in_append (cut_last (counted_columns s) body) _, bytes_in_append before _, bytes_in_append body _)
    (omega (arith, cut_bytes (counted_columns s) body, bare_bytes w))

-- a set's own lines, and those after it
record ShortParts (body after : List (List ℕ)) : Type 0 where
  own : Short body
  later : Short after

parts_short : (first number last : List ℕ) (before body after : List (List ℕ)) → Short (before ++ (first ∷ number ∷ (body ++ (last ∷ after)))) → ShortParts body after
parts_short first number last before body after h =
    let g : Short (body ++ (last ∷ after)) = short_right (first ∷ number ∷ []) (body ++ (last ∷ after)) (short_right before _ h) in
    record { own = short_left body (last ∷ after) g; later = short_right (last ∷ []) after (short_right body (last ∷ after) g) }

bare_lines_lem : {ss : List Set} {css : List (List ℕ)} (w : Lines ss css) → Short css → Lines ss (bare_lines w)
bare_lines_lem (Lines.end b) h = Lines.end b
bare_lines_lem (Lines.more {s} first number last before body after b d n l e w) h =
    Lines.more first number last before (cut_last (counted_columns s) body) (bare_lines w) b d n (cut_lines l (parts_short first number last before body after h).own) e (bare_lines_lem w (parts_short first number last before body after h).later)

bare_same : {ss : List Set} {css : List (List ℕ)} (w : Lines ss css) → Short css → SameFile ss css (bare_lines w)
bare_same (Lines.end b) h = SameFile.end b
bare_same (Lines.more {s} first number last before body after b d n l e w) h =
    let k : ℕ = counted_columns s in
    SameFile.more first number last before body (cut_last k body) after (bare_lines w) b d (set_none l) (set_none (cut_lines l (parts_short first number last before body after h).own)) e (cut_but k body)
    (bare_same w (parts_short first number last before body after h).later)

bare_own : {ss : List Set} {css : List (List ℕ)} (w : Lines ss css) → Short css → Own (bare_bodies w) (bare_lines w)
bare_own (Lines.end b) h = Own.end b
bare_own (Lines.more {s} first number last before body after b d n l e w) h =
    let k : ℕ = counted_columns s in
    Own.more first number last before (cut_last k body) (bare_lines w) b d (set_none (cut_lines l (parts_short first number last before body after h).own)) e (bare_own w (parts_short first number last before body after h).later)

bare_unpadded : {n at : ℕ} {ss : List Set} {ps : List Part} {ls css : List (List ℕ)} → AtPlaces n at ss ps ls → (w : Lines ss css) → map body_of ps ≡ bare_bodies w
    → map padding_of ps ≡ map (λ (s : Set). 0) ss
bare_unpadded (AtPlaces.end b) (Lines.end c) e = refl
bare_unpadded (AtPlaces.more {s = s} {p = p} {ps = ps} front rest b i j h v) (Lines.more first number last before body after c d n l f w) e =
    let own : body_of p ≡ cut_last (counted_columns s) body = cc in
    let others : map body_of ps ≡ bare_bodies w = cc in
    rw (held_unpadded h (subst (EndsBy (counted_columns s)) (sym own) (cut_ends (counted_columns s) body)), bare_unpadded v w others) refl

-- its bytes
joined_bytes : (css : List (List ℕ)) → length (joined css []) ≡ bytes_in css
unfolding joined bytes_in
joined_bytes [] = refl
joined_bytes (cs ∷ css) = omega (arith, length-append cs (10 ∷ joined css []), joined_bytes css)

ended_bytes : {css : List (List ℕ)} {bytes : List ℕ} → Ended css bytes → bytes_in css ≤ length bytes
unfolding bytes_in
ended_bytes Ended.none = omega arith
ended_bytes (Ended.lf cs bytes a h e) = omega (arith, length-append cs (10 ∷ bytes), ended_bytes e)
ended_bytes (Ended.crlf cs bytes a h e) = omega (arith, length-append cs (13 ∷ 10 ∷ bytes), ended_bytes e)

module _ {sets : List Set} {bytes : List ℕ} (p : Proper sets bytes) where
  abbrev lines : List (List ℕ)
  lines = bare_lines p.lines

  abbrev bare : List ℕ
  bare = joined lines []

  short : Short p.columns
  short = ended_short p.ends

  bare_ends : Ended lines bare
  bare_ends = fine_ended (bare_fine p.lines (ended_fine p.ends))

  bare_proper : Proper sets bare
  bare_proper = record {
    columns = lines;
    ends = bare_ends;
    lines = bare_lines_lem p.lines short;
    some = p.some;
    most = p.most;
    short = omega (arith, p.short, joined_bytes lines, bare_bytes p.lines, ended_bytes p.ends);
  }

  bare_aside : PaddingAside sets bytes bare
  bare_aside = record { old = p.columns; new = lines; old_ends = p.ends; new_ends = bare_ends; same = bare_same p.lines short }

  bare_none : map padding_of (parts_of bare) ≡ map (λ (s : Set). 0) sets
  bare_none =
      let own : OwnLines (bare_bodies p.lines) bare = record { columns = lines; ends = bare_ends; own = bare_own p.lines short } in
      bare_unpadded (proper_stand bare_proper) p.lines (own_only (proper_own bare_proper) own)

  pub without_padding : (new : List ℕ) × (Proper sets new × (PaddingAside sets bytes new × (map padding_of (parts_of new) ≡ map (λ (s : Set). 0) sets)))
  without_padding = (bare, (bare_proper, (bare_aside, bare_none)))
