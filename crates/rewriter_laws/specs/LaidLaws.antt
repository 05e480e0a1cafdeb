-- What the sets of a proper writing are laid out as: lines of the same list, in rewritten form, spelled the same, no longer than the file.
use Rattle.std.specs.Prelude.{◌≡◌, refl, true, List, [], ◌∷◌, ◌++◌, map, ℕ, ◌≤◌}
use Rattle.std.proofs.Common.{sym, ap, subst, ◌∙◌, append_assoc, arith, length-append}
use Rattle.std.proofs.lemmas.List.{map-append}
use Rattle.std.proofs.Math.ListN.{length}
use Rattle.text.specs.BlankLaws.{blanks_replicate}
use Rattle.line.specs.Line.{Allowed, Allowed.none as no_byte, Allowed.more as byte, columns, filled}
use Rattle.line.specs.LineLaws.{columns_within}
use Rattle.delimiter.specs.Kind.{Delimiter, delimiter, NumberLine, number_line}
use Rattle.delimiter.proofs.KindLaws.{dataset_number_complete}
use Rattle.theory.specs.Sets.{Set}
use Rattle.theory.specs.Proper.{BlankLines, Lines, Ended}
use Rattle.line_laws.specs.Ends.{joined}
use Rattle.parts.specs.Parts.{bytes_in, Part, dataset_of}
use Rattle.parts.specs.PartsLaws.{bytes_in_append}
use Rattle.parts.specs.Padding.{padding_of}
use Rattle.parts_laws.specs.Holds.{columns_of, Holds, AtPlaces}
use Rattle.rewriter.specs.Rewriter.{plain_number, kept_of, lines_text, head_text, unpadded, set_text, rewritten_set, rewritten}
use Rattle.rewriter.proofs.BodyLaws.{lines_text_most, unpadded_most}
use Rattle.rewriter.proofs.PutLaws.{plain_number_length, set_text_length}
use Rattle.rewriter.specs.PlainLaws.{plain_number_allowed}
use Rattle.rewriter.specs.Fair.{FairLines, Inner, FairSets, laid, plain_delimiter}
use Rattle.rewriter.proofs.RewriterLaws.{kept_allowed}
use Rattle.rewriter_laws.specs.Form.{Plainly, counted_columns, EndsBy, PlainSets, LfEnded, Own, SameSets}
use Rattle.line_laws.specs.NoDelimiter.{NoDelimiter}
use Rattle.line_laws.specs.NoDelimiterLaws.{set_none}
use Rattle.parts.specs.SixLaws.{delimiter_six, number_six}
use Rattle.rewriter_laws.specs.NumberLaws.{plain_number_plainly, plain_number_line, plain_number_only}
use Rattle.rewriter_laws.specs.KeptLaws.{kept_most, body_trimmed, body_ends, body_same, body_only, lines_same, unpadded_cut, unpadded_fair, lines_kept, held_unpadded}
use Rattle.rewriter_laws.specs.Laid.{body_of, kept_in, bodies_of}

-- The text is its lines, each with an LF.

pub lf_ended : {css : List (List ℕ)} {bytes : List ℕ} → LfEnded css bytes → Ended css bytes
lf_ended LfEnded.none = Ended.none
lf_ended (LfEnded.more cs bytes a h e) = Ended.lf cs bytes a h (lf_ended e)

pub lf_joined : {css : List (List ℕ)} {bytes : List ℕ} → LfEnded css bytes → bytes ≡ joined css []
unfolding joined
lf_joined LfEnded.none = refl
lf_joined (LfEnded.more cs bytes a h e) = ap (λ (x : List ℕ). cs ++ (10 ∷ x)) (lf_joined e)

lines_joined : (ls rest : List (List ℕ)) → joined (map kept_of ls ++ rest) [] ≡ lines_text ls ++ joined rest []
unfolding joined lines_text
lines_joined [] rest = refl
lines_joined (l ∷ ls) rest = ap (λ (x : List ℕ). kept_of l ++ (10 ∷ x)) (lines_joined ls rest) ∙ simp append_assoc

pub laid_joined : (ps : List Part) → rewritten ps ≡ joined (laid ps) []
unfolding rewritten rewritten_set set_text head_text laid joined
laid_joined [] = refl
laid_joined (p ∷ ps) = rw (lines_joined (unpadded p) (plain_delimiter ∷ laid ps), ← laid_joined ps) (simp append_assoc)

-- The lines keep the rules on bytes and columns.

delimiter_allowed : Allowed plain_delimiter
delimiter_allowed = blank_byte (blank_byte (blank_byte (blank_byte (byte {b = 45} (omega arith) (omega arith) (byte {b = 49} (omega arith) (omega arith) no_byte)))))
  where
    blank_byte : {bs : List ℕ} → Allowed bs → Allowed (32 ∷ bs)
    blank_byte a = byte {b = 32} (omega arith) (omega arith) a

body_ended : {ls rest : List (List ℕ)} → FairLines ls → LfEnded rest (joined rest []) → LfEnded (map kept_of ls ++ rest) (joined (map kept_of ls ++ rest) [])
unfolding joined
body_ended FairLines.none e = e
body_ended (FairLines.more {l} f i) e = LfEnded.more (kept_of l) _ (kept_allowed l f) (kept_most l f.short) (body_ended i e)

pub laid_ended : {ps : List Part} → FairSets ps → LfEnded (laid ps) (joined (laid ps) [])
unfolding laid joined
laid_ended FairSets.none = LfEnded.none
laid_ended (FairSets.more {p} i s) =
    LfEnded.more plain_delimiter _ delimiter_allowed (omega arith)
    (LfEnded.more (plain_number (dataset_of p)) _ (plain_number_allowed (dataset_of p)) (omega (arith, plain_number_length (dataset_of p)))
    (body_ended (unpadded_fair p i) (LfEnded.more plain_delimiter _ delimiter_allowed (omega arith) (laid_ended s))))

-- One set.

delimiter_filled : Delimiter (filled plain_delimiter)
unfolding filled
delimiter_filled = delimiter (blanks_replicate 74)

number_bounds : {v : ℕ} {l : List ℕ} → NumberLine v l → (1 ≤ v) × (v ≤ 999999)
number_bounds (number_line field bl n s lo hi b) = (lo, hi)

columns_six : (l : List ℕ) → 6 ≤ length (columns true l) → 6 ≤ length l
columns_six l h = omega (arith, columns_within true l)

module _ {s : Set} {p : Part} (h : Holds s p) where
  -- its number
  held_number : dataset_of p ≡ s.number
  unfolding dataset_of
  held_number = dataset_number_complete h.number

  held_line : NumberLine s.number (filled (plain_number (dataset_of p)))
  held_line = let b = number_bounds h.number in rw held_number (plain_number_line s.number b.0 b.1)

  held_plainly : Plainly s.number (plain_number (dataset_of p))
  held_plainly = let b = number_bounds h.number in rw held_number (plain_number_plainly s.number b.0 b.1)

  -- its lines
  held_none : Inner p.body → NoDelimiter (kept_in p)
  held_none i = set_none (lines_kept h i)

  -- it is no longer than it was
  held_short : length (rewritten_set p) ≤ bytes_in (p.opening ∷ p.number ∷ (p.body ++ (p.closing ∷ [])))
  unfolding rewritten_set bytes_in
  held_short =
      let o : 6 ≤ length p.opening = columns_six p.opening (delimiter_six _ h.opening) in
      let v : 6 ≤ length p.number = columns_six p.number (number_six _ h.number) in
      let c : 6 ≤ length p.closing = columns_six p.closing (delimiter_six _ h.closing) in
      rw (set_text_length, bytes_in_append p.body _) (omega (arith, lines_text_most (unpadded p), unpadded_most p))

-- The sets of a list, as they stand in a text.

pub own_columns_lem : (before : List (List ℕ)) (o v : List ℕ) (body : List (List ℕ)) (c : List ℕ) (after : List (List ℕ))
    → columns_of (before ++ (o ∷ v ∷ (body ++ (c ∷ after)))) ≡ columns_of before ++ (columns true o ∷ columns true v ∷ (columns_of body ++ (columns true c ∷ columns_of after)))
own_columns_lem before o v body c after =
    map-append (columns true) before (o ∷ v ∷ (body ++ (c ∷ after)))
    ∙ ap (λ (x : List (List ℕ)). columns_of before ++ (columns true o ∷ columns true v ∷ x)) (map-append (columns true) body (c ∷ after))

-- their own lines in the text
pub stand_own : {n at : ℕ} {ss : List Set} {ps : List Part} {ls : List (List ℕ)} → AtPlaces n at ss ps ls → Own (map body_of ps) (columns_of ls)
stand_own (AtPlaces.end b) = Own.end b
stand_own (AtPlaces.more {p = p} {ps = ps} before after b i j h w) =
    subst (Own (body_of p ∷ map body_of ps)) (sym (own_columns_lem before p.opening p.number p.body p.closing after))
    (Own.more (columns true p.opening) (columns true p.number) (columns true p.closing) (columns_of before) (body_of p) (columns_of after)
    b h.opening (set_none h.lines) h.closing (stand_own w))

-- what they are laid out as: lines of the same list
pub laid_lines : {n at : ℕ} {ss : List Set} {ps : List Part} {ls : List (List ℕ)} → AtPlaces n at ss ps ls → FairSets ps → Lines ss (laid ps)
unfolding laid
laid_lines (AtPlaces.end b) FairSets.none = Lines.end BlankLines.none
laid_lines (AtPlaces.more {p = p} {ps = ps} before after b i j h w) (FairSets.more f g) =
    Lines.more plain_delimiter (plain_number (dataset_of p)) plain_delimiter [] (kept_in p) (laid ps)
    BlankLines.none delimiter_filled (held_line h) (lines_kept h f) delimiter_filled (laid_lines w g)

-- in rewritten form
pub laid_plain : {n at : ℕ} {ss : List Set} {ps : List Part} {ls : List (List ℕ)} → AtPlaces n at ss ps ls → FairSets ps → PlainSets ss (laid ps)
unfolding laid
laid_plain (AtPlaces.end b) FairSets.none = PlainSets.none
laid_plain (AtPlaces.more {s = s} {p = p} {ps = ps} before after b i j h w) (FairSets.more f g) =
    PlainSets.more {s = s} (plain_number (dataset_of p)) (kept_in p) (laid ps) (held_plainly h) (plain_number_length (dataset_of p)) (held_none h f) (body_trimmed (unpadded p))
    (rw (unpadded_cut h f) (body_ends (counted_columns s) p.body)) (laid_plain w g)

-- with these own lines
pub laid_own : {n at : ℕ} {ss : List Set} {ps : List Part} {ls : List (List ℕ)} → AtPlaces n at ss ps ls → FairSets ps → Own (map kept_in ps) (laid ps)
unfolding laid
laid_own (AtPlaces.end b) FairSets.none = Own.end BlankLines.none
laid_own (AtPlaces.more {p = p} {ps = ps} before after b i j h w) (FairSets.more f g) =
    Own.more plain_delimiter (plain_number (dataset_of p)) plain_delimiter [] (kept_in p) (laid ps) BlankLines.none delimiter_filled (held_none h f) delimiter_filled (laid_own w g)

-- spelled the same
pub kept_same : {n at : ℕ} {ss : List Set} {ps : List Part} {ls : List (List ℕ)} → AtPlaces n at ss ps ls → FairSets ps → SameSets ss (map body_of ps) (map kept_in ps)
kept_same (AtPlaces.end b) FairSets.none = SameSets.none
kept_same (AtPlaces.more {s = s} {p = p} before after b i j h w) (FairSets.more f g) =
    SameSets.more {s = s} {a = body_of p} {b = kept_in p} (rw (unpadded_cut h f) (body_same (counted_columns s) f)) (kept_same w g)

-- no longer than the text
pub laid_short : {n at : ℕ} {ss : List Set} {ps : List Part} {ls : List (List ℕ)} → AtPlaces n at ss ps ls → length (rewritten ps) ≤ bytes_in ls
unfolding rewritten bytes_in
laid_short (AtPlaces.end b) = omega arith
laid_short (AtPlaces.more {p = p} {ps = ps} before after b i j h w) =
    rw (length-append, bytes_in_append before _, bytes_in_append p.body _) (omega (arith, rw (bytes_in_append p.body (p.closing ∷ [])) at (held_short h), laid_short w))

-- Lines in rewritten form of the same list, spelled the same, are the lines laid out.

-- the own lines of sets are spelled as themselves
pub sets_same : {n at : ℕ} {ss : List Set} {ps : List Part} {ls : List (List ℕ)} → AtPlaces n at ss ps ls → SameSets ss (map body_of ps) (map body_of ps)
sets_same (AtPlaces.end b) = SameSets.none
sets_same (AtPlaces.more {s = s} {p = p} before after b i j h w) = SameSets.more (lines_same (counted_columns s) (body_of p)) (sets_same w)

pub plain_own : {ss : List Set} {css : List (List ℕ)} (w : PlainSets ss css) → Own (bodies_of w) css
plain_own PlainSets.none = Own.end BlankLines.none
plain_own (PlainSets.more number body after p n d t e w) = Own.more plain_delimiter number plain_delimiter [] body after BlankLines.none delimiter_filled d delimiter_filled (plain_own w)

-- set by set
pub plain_only : {n at : ℕ} {ss : List Set} {ps : List Part} {ls css : List (List ℕ)} → AtPlaces n at ss ps ls → FairSets ps → (w : PlainSets ss css)
    → SameSets ss (map body_of ps) (bodies_of w) → css ≡ laid ps
unfolding laid
plain_only (AtPlaces.end b) FairSets.none PlainSets.none SameSets.none = refl
plain_only (AtPlaces.more {s = s} {p = p} {ps = ps} before after b i j h w) (FairSets.more q r) (PlainSets.more number body later k n d t z v) (SameSets.more x y) =
    let e : number ≡ plain_number (dataset_of p) = plain_number_only k n ∙ ap plain_number (sym (held_number h)) in
    let f : body ≡ kept_in p = body_only (counted_columns s) q x t z ∙ sym (unpadded_cut h q) in
    let g : later ≡ laid ps = plain_only w r v y in
    rw (e, f, g) refl

-- and have no padding
pub plain_unpadded : {n at : ℕ} {ss : List Set} {ps : List Part} {ls css : List (List ℕ)} → AtPlaces n at ss ps ls → (w : PlainSets ss css) → map body_of ps ≡ bodies_of w
    → map padding_of ps ≡ map (λ (s : Set). 0) ss
plain_unpadded (AtPlaces.end b) PlainSets.none e = refl
plain_unpadded (AtPlaces.more {s = s} {p = p} {ps = ps} before after b i j h w) (PlainSets.more number body later k n d t z v) e =
    let own : body_of p ≡ body = cc in
    let rest : map body_of ps ≡ bodies_of v = cc in
    rw (held_unpadded h (subst (EndsBy (counted_columns s)) (sym own) z), plain_unpadded w v rest) refl
