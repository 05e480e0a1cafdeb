-- The set that the writer lays out, from the file with the header's lines as they are lent.
use Rattle.std.specs.Prelude.{◌≡◌, refl, List, [], ◌∷◌, ℕ, ℤ, length}
use Rattle.std.proofs.Common.{sym, ap, ◌∙◌, arith}
use Rattle.laws.specs.Cut.{cut}
use Rattle.header.specs.Header.{header_of}
use Rattle.parts.specs.Parts.{Part, parts_of}
use Rattle.rewriter_laws.proofs.RewritingLaws.{rewritten_proper, rewritten_form, rewritten_same}
use Rattle.rewriter_laws.specs.Form.{InForm}
use Rattle.writer_laws.specs.HeaderRun.{Passed}
use Rattle.writer_laws.specs.DataLines.{lent_file}
use Rattle.writer_laws.specs.DataRun.{AllFit}
use Rattle.writer_laws.specs.LentLaws.{lent_part, lent_parts, lent_rewritten}
use Rattle.writer_laws.specs.BackLaws.{set_number, set_header, set_case_lem, set_stored, stored_back}
use Rattle.theory.specs.Sets.{Set}
use Rattle.theory.specs.Proper.{Proper}
use Rattle.parts_laws.specs.Holds.{AtPlaces, end, more, Holds}
use Rattle.field.specs.Item.{Item}
use Rattle.parts_laws.specs.Stored.{stored_item}
use Rattle.writer_laws.specs.Back.{Back}
use Rattle.theorems.specs.Answers.{Answered}
use Rattle.theorems.specs.LaidOut.{written_text, LaidOut, ReadAs}

-- the one set of a file of one part
record OneSet (sets : List Set) (p : Part) : Type 0 where
  set : Set
  only : sets ≡ set ∷ []
  holds : Holds set p

none_left : {n at : ℕ} {sets : List Set} {ps : List Part} {ls : List (List ℕ)} → AtPlaces n at sets ps ls → ps ≡ [] → sets ≡ []
none_left (end b) e = refl
none_left (more before after b l y h t) e = absurd (omega (arith, ap length e))

one_set : {n at : ℕ} {sets : List Set} {ps : List Part} {ls : List (List ℕ)} (p : Part) → AtPlaces n at sets ps ls → ps ≡ p ∷ [] → OneSet sets p
one_set p (end b) e = absurd (omega (arith, ap length e))
one_set p (more {s = s} {ss = ss} {p = q} {ps = ps} before after b l y h t) e =
    let x : q ≡ p = cc in
    let r : ps ≡ [] = cc in
    record { set = s; only = rw (none_left t r) refl; holds = rw x at h }

module _ (header : List ℕ) (p : Passed header) (xs ss : List ℤ) (stored : length xs ≡ (header_of header).stored) (fit : AllFit (header_of header).case 0 xs ss) where
  pub laid_out : {sets : List Set} → Proper sets (lent_file header (header_of header).case xs ss)
      → AtPlaces 0 0 sets (parts_of (lent_file header (header_of header).case xs ss)) (cut (lent_file header (header_of header).case xs ss)).lines → LaidOut header xs ss
  laid_out {sets} q s =
      let o : OneSet sets (lent_part header p xs ss stored fit) = one_set (lent_part header p xs ss stored fit) s (lent_parts header p xs ss stored fit) in
      let l : Proper (o.set ∷ []) (lent_file header (header_of header).case xs ss) = rw o.only at q in
      let e = lent_rewritten header p xs ss stored fit in
      let w : Proper (o.set ∷ []) (written_text header xs ss) = rw e at (rewritten_proper l) in
      let f : InForm (o.set ∷ []) (written_text header xs ss) = rw e at (rewritten_form l) in
      record {
        set = o.set;
        number = set_number header p xs ss stored fit o.set o.holds;
        proper = w;
        eleven = p.lines;
        ended = p.rest;
        items = set_header header p xs ss stored fit o.set o.holds;
        lent = l;
        rewritten = e;
        form = f;
        again = rewritten_same w f;
        case = set_case_lem header p xs ss stored fit o.set o.holds;
        count = set_stored header p xs ss stored fit o.set o.holds;
        back = stored_back header p xs ss stored fit o.set o.holds;
      }

-- what the reader shows is the number given
pub read_as : {bytes : List ℕ} {j : ℕ} {x y : ℤ} {s : Set} {p : Part} → Back x y (stored_item s j) → Answered bytes 1 j s p → ReadAs bytes j x y
read_as {x = x} {y = y} b a =
    let i : Item.real a.sign a.coefficient a.scale ≡ Item.real b.minus b.coefficient b.scale = sym a.item ∙ b.item in
    let m : a.sign ≡ b.minus = cc in
    let c : a.coefficient ≡ b.coefficient = cc in
    let e : a.scale ≡ b.scale = cc in
    record {
      first = _;
      past = _;
      coefficient = a.coefficient;
      scale = a.scale;
      answer = rw (m ∙ b.sign) at a.answer;
      same = rw (c, e) b.same;
    }
