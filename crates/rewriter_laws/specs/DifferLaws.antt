-- Two files that differ in padding alone have one dataset number, one opening line and one rewritten text a set.
use Rattle.std.specs.Prelude.{◌≡◌, Bool, List, [], ◌∷◌, ◌++◌, map, ℕ, zero, suc, ◌+◌, ◌<◌, length, get_or, take}
use Rattle.std.proofs.Math.Path.{refl, sym, ap}
use Rattle.std.proofs.Common.{◌∙◌, arith, eqb-true, length-append}
use Rattle.std.proofs.Math.Bool.{true, false}
use Rattle.std.proofs.Math.Nat.{zero-mul}
use Rattle.std.proofs.Math.Dec.{eqb}
use Rattle.std.proofs.lemmas.List.{length-map}
use Rattle.laws.specs.Choice.{pick}
use Rattle.text.specs.Text.{trimmed}
use Rattle.line.specs.Line.{columns, filled}
use Rattle.delimiter.specs.Kind.{dataset_number}
use Rattle.layout.specs.Layout.{fields_of}
use Rattle.layout.specs.LayoutLaws.{fields_of_some}
use Rattle.record_table.specs.TypedSets.{header_lines, line_seven}
use Rattle.record.specs.Declares.{case_in}
use Rattle.theory.specs.Sets.{Set}
use Rattle.theory.specs.Proper.{BlankLines}
use Rattle.theory.specs.Due.{lines_for}
use Rattle.line_laws.specs.NoDelimiterLaws.{set_none}
use Rattle.parts.specs.Parts.{Part, through_of, past_of, dataset_of, line_of}
use Rattle.parts.specs.Function.{part_case, stored_of, count_of}
use Rattle.parts.specs.Padding.{counted_past}
use Rattle.parts_laws.specs.Holds.{columns_of, Holds, AtPlaces}
use Rattle.parts_laws.specs.Declares.{set_case}
use Rattle.parts_laws.specs.DeclaresLaws.{number_held, case_held, line_of_columns}
use Rattle.parts_laws.specs.Stored.{stored_count}
use Rattle.parts_laws.specs.StoredLaws.{stored_case, set_data, line_enough}
use Rattle.parts_laws.specs.PaddingLaws.{stored_held}
use Rattle.parts_laws.proofs.PaddedLaws.{stored_some}
use Rattle.rewriter.specs.Rewriter.{kept_of, cut_last}
use Rattle.rewriter.specs.Fair.{Inner, FairSets, laid}
use Rattle.rewriter_laws.specs.Form.{counted_columns}
use Rattle.rewriter_laws.specs.Differ.{SameBut, SameFile}
use Rattle.rewriter_laws.specs.OwnLaws.{Opens, not_open, one_way}
use Rattle.rewriter_laws.specs.Laid.{body_of, kept_in}
use Rattle.rewriter_laws.specs.CutLaws.{stored_58}
use Rattle.rewriter_laws.specs.KeptLaws.{kept_cut, unpadded_cut}
use Rattle.rewriter_laws.specs.LaidLaws.{own_columns_lem}

-- Lines that are the same but for the last.

but_many : {k : ℕ} {a b : List (List ℕ)} → SameBut k a b → length a ≡ length b
but_many SameBut.none = refl
but_many (SameBut.last e) = refl
but_many (SameBut.more e s) = ap suc (but_many s)

-- each before the last
but_line : {k : ℕ} {a b : List (List ℕ)} (j : ℕ) → SameBut k a b → suc j < length a → get_or a j [] ≡ get_or b j []
but_line j SameBut.none h = absurd (omega arith)
but_line j (SameBut.last e) h = absurd (omega arith)
but_line zero (SameBut.more e s) h = e
but_line (suc j) (SameBut.more e s) h = but_line j s (omega arith)

-- lines of files
pub file_many : {sets : List Set} {a b : List (List ℕ)} → SameFile sets a b → length a ≡ length b
file_many (SameFile.end b) = refl
file_many (SameFile.more first number last before a b old new e o k l c s r) =
    length-append before _ ∙ rw (length-append a (last ∷ old), but_many s, file_many r) (sym (length-append before _ ∙ rw (length-append b (last ∷ new)) refl))

-- the same is kept of a set's lines
but_kept : (k : ℕ) {ls ms : List (List ℕ)} → Inner ls → Inner ms → SameBut k (columns_of ls) (columns_of ms) → map kept_of (cut_last k ls) ≡ map kept_of (cut_last k ms)
unfolding cut_last kept_of
but_kept k Inner.none Inner.none SameBut.none = refl
but_kept k (Inner.more {l} f c Inner.none) (Inner.more {l = m} g d Inner.none) (SameBut.last e) =
    let same : kept_of (take k l) ≡ kept_of (take k m) = kept_cut k l f ∙ ap trimmed e ∙ sym (kept_cut k m g) in
    ap (λ (x : List ℕ). x ∷ []) same
but_kept k (Inner.more f c (Inner.more g d i)) (Inner.more h e Inner.none) s = absurd (omega (arith, but_many s))
but_kept k (Inner.more {l} f c (Inner.more g d i)) (Inner.more {l = m} h e (Inner.more u v j)) (SameBut.more w s) =
    let same : kept_of l ≡ kept_of m = ap trimmed w in
    rw (same, but_kept k (Inner.more g d i) (Inner.more u v j) s) refl
but_kept k Inner.none (Inner.more {l = m} {ls = ls} g d _) s = elim s [ ]
but_kept k (Inner.more {l = l} f c Inner.none) Inner.none s = elim s [ ]
but_kept k (Inner.more {l = l} f c Inner.none) (Inner.more {l = m} g d (Inner.more {ls = ls} u v j)) s = elim s [ ]
but_kept k (Inner.more {l = l} f c (Inner.more {ls = ls} g d i)) Inner.none s = elim s [ ]

-- One set.

-- the sets of two texts: they open on one line, and differ past the counted columns of the last line alone
pub data Alike : List Set → List Part → List Part → Type 0 where
  none : Alike [] [] []
  more : {s : Set} {ss : List Set} {p q : Part} {ps qs : List Part} → p.lines ≡ q.lines → columns true p.number ≡ columns true q.number
      → SameBut (counted_columns s) (body_of p) (body_of q) → Alike ss ps qs → Alike (s ∷ ss) (p ∷ ps) (q ∷ qs)

number_same : (p q : Part) → columns true p.number ≡ columns true q.number → dataset_of p ≡ dataset_of q
unfolding dataset_of
number_same p q e = ap (λ (cs : List ℕ). dataset_number (filled cs)) e

module _ {s t : Set} {p q : Part} (h : Holds s p) (g : Holds t q) (n : s.number ≡ t.number) {k : ℕ} (b : SameBut k (body_of p) (body_of q)) where
  -- of a 58, line 7
  seventh_same : s.number ≡ 58 → line_of p line_seven ≡ line_of q line_seven
  seventh_same e =
      let some : 0 < stored_count s = stored_some h.lines e in
      let f : ℕ = fields_of (set_case s) in
      let l : 0 < lines_for f (stored_count s) = omega (arith, line_enough f (stored_count s) 0 (fields_of_some (set_case s) (stored_case s 0 some)) some) in
      let c : length (body_of p) ≡ header_lines + lines_for f (stored_count s) = (set_data h.lines e).count in
      line_of_columns p line_seven ∙ ap filled (but_line line_seven b (omega arith)) ∙ sym (line_of_columns q line_seven)

  case_same : s.number ≡ 58 → set_case s ≡ set_case t
  unfolding part_case
  case_same e = sym (case_held h e) ∙ ap case_in (seventh_same e) ∙ case_held g (sym n ∙ e)

  stored_same : stored_count s ≡ stored_count t
  unfolding stored_of count_of part_case
  stored_same = sym (stored_held h) ∙ by (eqb s.number 58) refl ∙ stored_held g
    where
      by : (x : Bool) → eqb s.number 58 ≡ x → stored_of p ≡ stored_of q
      by true e = let w = seventh_same (eqb-true s.number 58 e) in rw (number_held h, number_held g, ← n, e, w) refl
      by false e = rw (number_held h, number_held g, ← n, e, zero-mul, zero-mul) refl

  counted_same : counted_columns s ≡ counted_columns t
  unfolding counted_columns
  counted_same = rw (← stored_same) (by (eqb (stored_count s) 0) refl)
    where
      by : (x : Bool) → eqb (stored_count s) 0 ≡ x
          → pick x 80 (counted_past (set_case s) (stored_count s)) ≡ pick x 80 (counted_past (set_case t) (stored_count s))
      by true e = refl
      by false e = rw (case_same (stored_58 s e)) refl

-- All sets.

pub alike_laid : {n at m to : ℕ} {a b : List Set} {ps qs : List Part} {ls ms : List (List ℕ)} → AtPlaces n at a ps ls → AtPlaces m to b qs ms
    → FairSets ps → FairSets qs → Alike a ps qs → laid ps ≡ laid qs
unfolding laid
alike_laid (AtPlaces.end b) (AtPlaces.end c) FairSets.none FairSets.none Alike.none = refl
alike_laid (AtPlaces.more {s = s} {p = p} before after b i j h v) (AtPlaces.more {s = t} {p = q} before' after' c i' j' g w) (FairSets.more f x) (FairSets.more f' y) (Alike.more e u d r) =
    let number : dataset_of p ≡ dataset_of q = number_same p q u in
    let counted : counted_columns s ≡ counted_columns t = counted_same h g (sym (number_held h) ∙ number ∙ number_held g) d in
    let cut : map kept_of (cut_last (counted_columns s) p.body) ≡ map kept_of (cut_last (counted_columns s) q.body) = but_kept (counted_columns s) f f' d in
    let kept : kept_in p ≡ kept_in q
    = unpadded_cut h f ∙ cut ∙ ap (λ (k : ℕ). map kept_of (cut_last k q.body)) counted ∙ sym (unpadded_cut g f') in
    rw (number, kept, alike_laid v w x y r) refl
alike_laid {m = m} {to = to} (Rattle.parts_laws.specs.Holds.end {n = n} {at = at} {ls = ls} b) (AtPlaces.more {s = t} {ss = ss} {p = q} {ps = ps} before' after' c i' j' g w) _ _ x71 = elim x71 [ ]
alike_laid {m = m} {to = to} {ms = ms} (AtPlaces.more {n = n} {at = at} {s = s} {ss = ss} {p = p} {ps = ps} before after b i j h v) (Rattle.parts_laws.specs.Holds.end c) _ _ x52 = elim x52 [ ]

pub alike_lines : {sets : List Set} {ps qs : List Part} → Alike sets ps qs → map (λ (p : Part). p.lines) ps ≡ map (λ (p : Part). p.lines) qs
alike_lines Alike.none = refl
alike_lines (Alike.more e u d r) = rw (e, alike_lines r) refl

-- a set as it stands, among the columns of lines
opens : {s : Set} (p : Part) (before after css : List (List ℕ)) → BlankLines (columns_of before) → Holds s p
    → columns_of (before ++ (p.opening ∷ p.number ∷ (p.body ++ (p.closing ∷ after)))) ≡ css
    → Opens (columns_of before) (columns true p.number) (body_of p) (columns_of after) css
opens p before after css b h e =
    record {
      first = columns true p.opening;
      last = columns true p.closing;
      blank = b;
      opening = h.opening;
      inside = set_none h.lines;
      closing = h.closing;
      lines = sym e ∙ own_columns_lem before p.opening p.number p.body p.closing after;
    }

through_same : (p q : Part) → p.lines ≡ q.lines → length p.body ≡ length q.body → through_of p ≡ through_of q
unfolding through_of
through_same p q e l = omega (arith, length-append p.body (p.closing ∷ []), length-append q.body (q.closing ∷ []))

many_columns : (a b : List (List ℕ)) {c : List (List ℕ)} → columns_of a ≡ c → columns_of b ≡ c → length a ≡ length b
many_columns a b e f = sym (length-map a (columns true)) ∙ ap length (e ∙ sym f) ∙ length-map b (columns true)

-- sets that stand in lines that are the same, padding aside
pub sets_alike : {n at m to : ℕ} {a b : List Set} {ps qs : List Part} {ls ms css dss : List (List ℕ)} → n ≡ m → SameFile a css dss → AtPlaces n at a ps ls → AtPlaces m to b qs ms
    → columns_of ls ≡ css → columns_of ms ≡ dss → Alike a ps qs
sets_alike z (SameFile.end b) (AtPlaces.end c) (AtPlaces.end d) e f = Alike.none
sets_alike z (SameFile.end b) (AtPlaces.end c) (AtPlaces.more {p = q} before after d i j g w) e f =
    absurd (not_open b (opens q before after _ d g f))
sets_alike z (SameFile.more first number last before x y old new b o k l c s r) (AtPlaces.more before' after d i j h v) (AtPlaces.end g) e f =
    absurd (not_open g (record { first = first; last = last; blank = b; opening = o; inside = l; closing = c; lines = f }))
sets_alike {n = n} {at = from} {m = m} {to = to} z (SameFile.more {s = s} first number last before x y old new b o k l c same r) (AtPlaces.more {p = p} front after d i j h v)
    (AtPlaces.more {p = q} front' after' d' i' j' g w) e f =
    let one = one_way (opens p front after _ d h e) (record { first = first; last = last; blank = b; opening = o; inside = k; closing = c; lines = refl }) in
    let two = one_way (opens q front' after' _ d' g f) (record { first = first; last = last; blank = b; opening = o; inside = l; closing = c; lines = refl }) in
    let at : p.lines ≡ q.lines = omega (arith, i, i', many_columns front front' one.blanks two.blanks) in
    let body : SameBut (counted_columns s) (body_of p) (body_of q) = rw (one.own, two.own) same in
    let many : length p.body ≡ length q.body = sym (length-map p.body (columns true)) ∙ but_many body ∙ length-map q.body (columns true) in
    Alike.more at (one.line ∙ sym two.line) body (sets_alike {n = through_of p} {at = past_of p} {m = through_of q} {to = past_of q} (through_same p q at many) r v w one.rest two.rest)
