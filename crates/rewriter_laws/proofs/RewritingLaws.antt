-- The rewriter gives a proper writing of the same list, and the one text in rewritten form that keeps the file's spellings.
use Rattle.std.specs.Prelude.{◌≡◌, refl, true, List, [], map, ℕ, ◌≤◌, length}
use Rattle.std.proofs.Common.{sym, ap, ◌∙◌, append-nil, arith}
use Rattle.std.proofs.lemmas.List.{length-map}
use Rattle.laws.specs.Cut.{cut}
use Rattle.line.specs.Line.{columns}
use Rattle.theory.specs.Sets.{Set}
use Rattle.theory.specs.Proper.{Proper}
use Rattle.line_laws.specs.Ends.{AllPass, joined}
use Rattle.line_laws.proofs.EndsLaws.{ended_complete}
use Rattle.line_laws.specs.ShortLaws.{ended_short}
use Rattle.parts.specs.Parts.{bytes_in, Part, parts_of}
use Rattle.parts.specs.PartsLaws.{lines_past}
use Rattle.parts.specs.Padding.{padding_of}
use Rattle.parts_laws.specs.Holds.{AtPlaces}
use Rattle.parts_laws.specs.HoldsLaws.{lines_stand}
use Rattle.rewriter.specs.Rewriter.{rewritten_file}
use Rattle.rewriter.specs.Fair.{FairLines, FairSets, laid}
use Rattle.rewriter.proofs.RewriterLaws.{fair_passed, file_fair}
use Rattle.rewriter_laws.specs.Form.{InForm, LfEnded, OwnLines, SameSets, KeepsSpellings}
use Rattle.rewriter_laws.specs.OwnLaws.{own_only}
use Rattle.rewriter_laws.specs.Differ.{PaddingAside}
use Rattle.rewriter_laws.specs.DifferLaws.{file_many, Alike, alike_laid, alike_lines, sets_alike}
use Rattle.rewriter_laws.specs.Laid.{body_of, kept_in, bodies_of}
use Rattle.rewriter_laws.specs.LaidLaws.{lf_ended, lf_joined, laid_joined, laid_ended, laid_lines, laid_plain, laid_own, laid_short}
use Rattle.rewriter_laws.specs.LaidLaws.{stand_own, kept_same, sets_same, plain_own, plain_only, plain_unpadded}

-- lines that pass are fair
pass_fair : {ls : List (List ℕ)} → AllPass ls → FairLines ls
pass_fair AllPass.none = FairLines.none
pass_fair (AllPass.more {l} h a) = FairLines.more (fair_passed l h) (pass_fair a)

-- a file's lines have no more bytes than the file
pub bytes_most : (file : List ℕ) → bytes_in (cut file).lines ≤ length file
bytes_most file = omega (arith, (lines_past file 0 (cut file).lines [] (omega arith) (sym (append-nil (cut file).lines))).within)

module _ {sets : List Set} {bytes : List ℕ} (p : Proper sets bytes) where
  -- the sets of a proper writing as they stand in it
  pub proper_stand : AtPlaces 0 0 sets (parts_of bytes) (cut bytes).lines
  unfolding parts_of
  proper_stand = lines_stand p.lines (ended_short p.ends) 0 0 (cut bytes).lines (ended_complete p.ends).same

  -- their own lines
  pub proper_own : OwnLines (map body_of (parts_of bytes)) bytes
  proper_own = record { columns = p.columns; ends = p.ends; own = rw (ended_complete p.ends).same at (stand_own proper_stand) }

  -- fair ones
  proper_fair : FairSets (parts_of bytes)
  proper_fair = file_fair bytes (pass_fair (ended_complete p.ends).pass)

  -- the lines that they are laid out in
  rewritten_ends : LfEnded (laid (parts_of bytes)) (rewritten_file bytes)
  rewritten_ends = rw (laid_joined (parts_of bytes)) (laid_ended proper_fair)

  -- what a proper writing is rewritten to is no longer
  pub rewritten_short : length (rewritten_file bytes) ≤ length bytes
  rewritten_short = omega (arith, laid_short proper_stand, bytes_most bytes)

  -- PROPER: it is a proper writing of the same list.
  pub rewritten_proper : Proper sets (rewritten_file bytes)
  rewritten_proper = record {
    columns = laid (parts_of bytes);
    ends = lf_ended rewritten_ends;
    lines = laid_lines proper_stand proper_fair;
    some = p.some;
    most = p.most;
    short = omega (arith, p.short, rewritten_short);
  }

  -- FORM: it is in rewritten form.
  pub rewritten_form : InForm sets (rewritten_file bytes)
  rewritten_form = record { columns = laid (parts_of bytes); ends = rewritten_ends; plain = laid_plain proper_stand proper_fair }

  -- SPELLINGS: it keeps the file's spellings.
  pub rewritten_keeps : KeepsSpellings sets bytes (rewritten_file bytes)
  rewritten_keeps = record {
    before = map body_of (parts_of bytes);
    after = map kept_in (parts_of bytes);
    in_old = proper_own;
    in_new = record { columns = laid (parts_of bytes); ends = lf_ended rewritten_ends; own = laid_own proper_stand proper_fair };
    same = kept_same proper_stand proper_fair;
  }

  -- UNPADDED: a proper writing in rewritten form has no padding.
  pub form_unpadded : InForm sets bytes → map padding_of (parts_of bytes) ≡ map (λ (s : Set). 0) sets
  form_unpadded f = plain_unpadded proper_stand f.plain (own_only proper_own (record { columns = f.columns; ends = lf_ended f.ends; own = plain_own f.plain }))

  -- ONLY: no other text is both.
  pub rewritten_only : (new : List ℕ) → InForm sets new → KeepsSpellings sets bytes new → new ≡ rewritten_file bytes
  rewritten_only new f k =
      let a : k.before ≡ map body_of (parts_of bytes) = own_only k.in_old proper_own in
      let b : k.after ≡ bodies_of f.plain = own_only k.in_new (record { columns = f.columns; ends = lf_ended f.ends; own = plain_own f.plain }) in
      let s : SameSets sets (map body_of (parts_of bytes)) (bodies_of f.plain) = rw (a, b) at k.same in
      lf_joined f.ends ∙ ap (λ (x : List (List ℕ)). joined x []) (plain_only proper_stand proper_fair f.plain s) ∙ sym (laid_joined (parts_of bytes))

  -- SAME: a proper writing in rewritten form is rewritten to itself.
  pub rewritten_same : InForm sets bytes → rewritten_file bytes ≡ bytes
  rewritten_same f =
      let b : List (List (List ℕ)) = map body_of (parts_of bytes) in
      sym (rewritten_only bytes f (record { before = b; after = b; in_old = proper_own; in_new = proper_own; same = sets_same proper_stand }))

-- PADDING: two files that differ in padding alone are rewritten to the same bytes, and each set opens on the same line.
module _ {a b : List Set} {x y : List ℕ} (p : Proper a x) (q : Proper b y) (d : PaddingAside a x y) where
  alike : Alike a (parts_of x) (parts_of y)
  alike = sets_alike refl d.same (proper_stand p) (proper_stand q) (ended_complete d.old_ends).same (ended_complete d.new_ends).same

  pub aside_rewritten : rewritten_file x ≡ rewritten_file y
  aside_rewritten =
      laid_joined (parts_of x)
      ∙ ap (λ (css : List (List ℕ)). joined css []) (alike_laid (proper_stand p) (proper_stand q) (proper_fair p) (proper_fair q) alike)
      ∙ sym (laid_joined (parts_of y))

  pub aside_opening : map (λ (r : Part). r.lines) (parts_of x) ≡ map (λ (r : Part). r.lines) (parts_of y)
  aside_opening = alike_lines alike

  pub aside_lines : length (cut x).lines ≡ length (cut y).lines
  aside_lines =
      let old : map (columns true) (cut x).lines ≡ d.old = (ended_complete d.old_ends).same in
      let new : map (columns true) (cut y).lines ≡ d.new = (ended_complete d.new_ends).same in
      sym (length-map (cut x).lines (columns true)) ∙ ap length old ∙ file_many d.same ∙ sym (ap length new) ∙ length-map (cut y).lines (columns true)
