-- What is kept of a run of lines that end bare is the run itself.
use Rattle.std.specs.Prelude.{◌≡◌, Bool, true, false, not, ◌&&◌, ◌||◌, ℕ, zero, suc, ◌+◌, ◌-◌, ◌≤◌, ◌<◌, eqb, length, get_or, take, drop}
use Rattle.std.proofs.Math.Path.{refl, ap}
use Rattle.std.proofs.Common.{◌⊎◌, inl, inr, sym, ◌∙◌, ⊎_elim, add-one, arith, eqb-true, ne_eqb, length-append, length-take, length-drop, take-append-drop, drop-cons, drop-drop, get_or-take, get_or-drop, length-take-le}
use mathlib.Core.List.{List, [], ◌∷◌, ◌++◌}
use Rattle.std.proofs.lemmas.Bool.{eqb-false, lt-leb}
use Rattle.std.proofs.Math.ListN.{get_or-eq_default}
use Rattle.std.proofs.lemmas.List.{drop-take, take-take}
use Rattle.laws.specs.ChoiceLaws.{and_left, and_right, and_assoc, false_not_true, below_or_not}
use Rattle.laws.specs.Cut.{cut, line_len, Text, onto}
use Rattle.laws.specs.CutLaws.{cut_append}
use Rattle.text.specs.Text.{trimmed}
use Rattle.line.specs.Line.{columns, without_return}
use Rattle.parts.specs.Parts.{bytes_in}
use Rattle.parts.specs.Mark.{LastLine}
use Rattle.output.specs.Output.{ended}
use Rattle.rewriter.specs.Rewriter.{kept_of, lines_text}
use Rattle.rewriter.specs.Body.{lines_to, lines_in, body_text}
use Rattle.rewriter.proofs.BodyLaws.{lines_text_append, body_line_length}
use Rattle.rewriter.specs.Run.{bare_in, Bare, Bared, Run, Whole, Ended}
use Rattle.rewriter.specs.Run.Whole.{none as no_line, more as line}
use Rattle.rewriter.specs.Run.Ended.{none as no_byte, last as lf, more as byte}

-- a loop over bytes that tests them
pub bare_next : (t : Bool) (b c : ℕ) (l bs m cs : List ℕ) → l ≡ b ∷ bs → m ≡ c ∷ cs
    → (t && not (eqb c 10 && (eqb b 32 || eqb b 13))) && bare_in bs cs ≡ t && bare_in l m
unfolding bare_in
bare_next t b c l bs m cs p q = rw (p, q) (sym (and_assoc t (not (eqb c 10 && (eqb b 32 || eqb b 13))) (bare_in bs cs)))

pub bare_end : (t : Bool) (l m : List ℕ) → (length l ≡ 0) ⊎ (length m ≡ 0) → t ≡ t && bare_in l m
unfolding bare_in
bare_end true [] m h = refl
bare_end true (b ∷ l) [] h = refl
bare_end true (b ∷ l) (c ∷ m) (inl h) = absurd (omega arith)
bare_end true (b ∷ l) (c ∷ m) (inr h) = absurd (omega arith)
bare_end false l m h = refl

-- one byte, by its test
bare_by : (f : List ℕ) (k : ℕ) (t u v : Bool) → eqb (get_or f (suc k) 0) 10 ≡ t → eqb (get_or f k 0) 32 ≡ u → eqb (get_or f k 0) 13 ≡ v → not (t && (u || v)) ≡ true → Bare f k
bare_by f k true true v a b c h = false_not_true h
bare_by f k true false true a b c h = false_not_true h
bare_by f k true false false a b c h = record { blank = λ e. eqb-false _ _ b; return = λ e. eqb-false _ _ c }
bare_by f k false u v a b c h = record { blank = λ e. absurd (eqb-false _ _ a e); return = λ e. absurd (eqb-false _ _ a e) }

bare_first : (m x y : ℕ) (a b us vs : List ℕ) → a ≡ x ∷ us → b ≡ y ∷ vs
    → bare_in (take (suc m) a) (take (suc m) b) ≡ not (eqb y 10 && (eqb x 32 || eqb x 13)) && bare_in (take m us) (take m vs)
unfolding bare_in
bare_first m x y a b us vs p q = rw (p, q) refl

-- a block of them
bare_block : (f : List ℕ) (m i : ℕ) → i + 1 + m ≤ length f → bare_in (take m (drop i f)) (take m (drop (i + 1) f)) ≡ true → (k : ℕ) → i ≤ k → k < i + m → Bare f k
bare_block f zero i h q k a b = absurd (omega arith)
bare_block f (suc m) i h q k a b =
    let y : i + 1 ≡ suc i = add-one i in
    let z : suc (suc i) ≡ suc i + 1 = omega arith in
    let c : drop i f ≡ get_or f i 0 ∷ drop (suc i) f = drop-cons f i 0 (omega arith) in
    let d : drop (i + 1) f ≡ get_or f (suc i) 0 ∷ drop (suc i + 1) f = rw (y, ← z) (drop-cons f (suc i) 0 (omega arith)) in
    let first : Bool = not (eqb (get_or f (suc i) 0) 10 && (eqb (get_or f i 0) 32 || eqb (get_or f i 0) 13)) in
    let others : Bool = bare_in (take m (drop (suc i) f)) (take m (drop (suc i + 1) f)) in
    let both : first && others ≡ true = sym (bare_first m _ _ _ _ _ _ c d) ∙ q in
    ⊎_elim (λ (l : i < k). bare_block f m (suc i) (omega arith) (and_right first others both) k l (omega arith))
    (λ (g : k ≤ i). let e : k ≡ i = omega arith in rw e (bare_by f i _ _ _ refl refl refl (and_left first others both)))
    (below_or_not i k)

-- a block of the first bytes of a file is one of the file
first_block : (f : List ℕ) (n at m : ℕ) → at + m ≤ n → take m (drop at (take n f)) ≡ take m (drop at f)
first_block f n at m h =
    let z : at + (n - at) ≡ n = omega arith in
    ap (λ (x : ℕ). take m (drop at (take x f))) (sym z) ∙ ap (take m) (drop-take at (n - at) f) ∙ take-take m (n - at) (drop at f) (omega arith)

module _ (f : List ℕ) (from closing at : ℕ) where
  pub bared_block : Bared f from closing at → at + 65 ≤ closing → closing ≤ length f
      → (x y : List ℕ) → x ≡ take 64 (drop at (take closing f)) → y ≡ take 64 (drop (at + 1) (take closing f)) → bare_in x y ≡ true → Bared f from closing (at + 64)
  bared_block p h w x y d e q =
      let k = d ∙ first_block f closing at 64 (omega arith) in
      let l = e ∙ first_block f closing (at + 1) 64 (omega arith) in
      let b : bare_in (take 64 (drop at f)) (take 64 (drop (at + 1) f)) ≡ true = rw (k, l) at q in
      record {
        onward = omega (arith, p.onward);
        inside = λ g. omega arith;
        bare = λ k l m. ⊎_elim (λ (g : k < at). p.bare k l g) (λ (g : at ≤ k). bare_block f 64 at (omega arith) b k g m) (below_or_not k at);
      }

-- lines that are kept whole, with their LFs, are the bytes
kept_byte : (b : ℕ) → (b ≡ 32 → ⊥) → (b ≡ 13 → ⊥) → kept_of (b ∷ []) ≡ b ∷ []
unfolding kept_of columns without_return trimmed
kept_byte b p q = rw (ne_eqb b 13 q, ne_eqb b 32 p) refl

kept_none : kept_of [] ≡ []
unfolding kept_of columns without_return trimmed
kept_none = refl

kept_more : (b d : ℕ) (l : List ℕ) → kept_of (d ∷ l) ≡ d ∷ l → kept_of (b ∷ d ∷ l) ≡ b ∷ d ∷ l
unfolding kept_of columns without_return trimmed
kept_more b d l e = rw e refl

record Same (u : List ℕ) : Type 0 where
  whole : Whole (cut u).lines
  bytes : lines_text (cut u).lines ≡ u
  rest : (cut u).rest ≡ []

-- a byte before the first of lines that are kept whole
byte_line : (b c : ℕ) (u : List ℕ) (ls : List (List ℕ)) (r : List ℕ) → Whole ls → lines_text ls ≡ c ∷ u → r ≡ [] → (c ≡ 10 → (b ≡ 32 → ⊥) × (b ≡ 13 → ⊥))
    → (t : Text) → t ≡ onto b ls r → (Whole t.lines) × ((lines_text t.lines ≡ b ∷ c ∷ u) × (t.rest ≡ []))
unfolding lines_text
byte_line b c u [] r w e q n t k = let z : 0 ≡ suc (length u) = ap length e in absurd (omega arith)
byte_line b c u ([] ∷ ls) r (line h w) e q n t k =
    let x : 10 ∷ lines_text ls ≡ c ∷ u = ap (λ (y : List ℕ). ended y ++ lines_text ls) (sym kept_none) ∙ e in
    let y : c ≡ 10 = cc in
    let m = n y in
    let o : kept_of (b ∷ []) ≡ b ∷ [] = kept_byte b m.0 m.1 in
    rw k (line o w, (rw o (ap (◌∷◌ b) x), q))
byte_line b c u ((d ∷ l) ∷ ls) r (line h w) e q n t k =
    let o : kept_of (b ∷ d ∷ l) ≡ b ∷ d ∷ l = kept_more b d l h in
    rw k (line o w, (rw o (ap (◌∷◌ b) (ap (λ (y : List ℕ). ended y ++ lines_text ls) (sym h) ∙ e)), q))

byte_same : (b c : ℕ) (u : List ℕ) (t : Bool) → eqb b 10 ≡ t → (c ≡ 10 → (b ≡ 32 → ⊥) × (b ≡ 13 → ⊥)) → Same (c ∷ u) → Same (b ∷ c ∷ u)
unfolding lines_text cut
byte_same b c u true e n s = record {
  whole = rw e (line kept_none s.whole);
  bytes = rw (e, kept_none, s.bytes) (rw (eqb-true b 10 e) refl);
  rest = rw e s.rest;
}
byte_same b c u false e n s =
    let r = byte_line b c u (cut (c ∷ u)).lines (cut (c ∷ u)).rest s.whole s.bytes s.rest n _ refl in
    record { whole = rw e r.0; bytes = rw e r.1.0; rest = rw e r.1.1 }

bytes_same : {u : List ℕ} → Ended u → ((k : ℕ) → Bare u k) → Same u
unfolding lines_text cut
bytes_same no_byte h = record { whole = no_line; bytes = refl; rest = refl }
bytes_same lf h = record { whole = line kept_none no_line; bytes = rw kept_none refl; rest = refl }
bytes_same (byte {b} {c} {l} e) h =
    byte_same b c l (eqb b 10) refl (λ q. ((h 0).blank q, (h 0).return q))
    (bytes_same e (λ k. record { blank = (h (suc k)).blank; return = (h (suc k)).return }))

ended_of : (u : List ℕ) → (0 < length u → get_or u (length u - 1) 0 ≡ 10) → Ended u
ended_of [] h = no_byte
ended_of (b ∷ []) h = let e : b ≡ 10 = h (omega arith) in rw e lf
ended_of (b ∷ c ∷ l) h =
    let z : suc (suc (length l)) - 1 ≡ suc (suc (length l) - 1) = omega arith in
    byte (ended_of (c ∷ l) (λ p. rw z at (h (omega arith))))

whole_length : {ls : List (List ℕ)} → Whole ls → length (lines_text ls) ≡ bytes_in ls
unfolding lines_text bytes_in
whole_length no_line = refl
whole_length (line {l} {ls} e w) =
    rw (e, length-append (ended l) (lines_text ls), length-append l (10 ∷ [])) (omega (arith, whole_length w))

-- lines before a byte
to_append : (stop at : ℕ) (ls ms : List (List ℕ)) → at + bytes_in ls ≤ stop → lines_to stop at (ls ++ ms) ≡ ls ++ lines_to stop (at + bytes_in ls) ms
unfolding lines_to bytes_in
to_append stop at [] ms h = let z : at ≡ at + 0 = omega arith in rw (← z) refl
to_append stop at (l ∷ ls) ms h =
    let z : at + (suc (length l) + bytes_in ls) ≡ (at + suc (length l)) + bytes_in ls = omega arith in
    rw (lt-leb stop at (omega arith), z) (ap (◌∷◌ l) (to_append stop (at + suc (length l)) ls ms (omega arith)))

-- a byte of a part is one of the whole
module _ (f : List ℕ) (from n : ℕ) where
  abbrev part : List ℕ
  part = take n (drop from f)

  part_byte : (k b : ℕ) → 0 < b → get_or part k 0 ≡ b → (k < n) × (get_or f (from + k) 0 ≡ b)
  part_byte k b p e =
      ⊎_elim (λ (l : k < n). (l, sym (get_or-take n (drop from f) k 0 l ∙ get_or-drop from f k 0) ∙ e))
      (λ (g : n ≤ k). let m : length part ≤ k = omega (arith, length-take n (drop from f)) in
      let z : 0 ≡ b = sym (get_or-eq_default part 0 m) ∙ e in absurd (omega arith))
      (below_or_not k n)

  part_bare : ((k : ℕ) → from ≤ k → k < from + n → Bare f k) → (k : ℕ) → Bare part k
  part_bare h k = record {
    blank = λ e g. let a = part_byte (suc k) 10 (omega arith) e in (h (from + k) (omega arith) (omega (arith, a.0))).blank (next a.1) (part_byte k 32 (omega arith) g).1;
    return = λ e g. let a = part_byte (suc k) 10 (omega arith) e in (h (from + k) (omega arith) (omega (arith, a.0))).return (next a.1) (part_byte k 13 (omega arith) g).1;
  }
    where
      next : get_or f (from + suc k) 0 ≡ 10 → get_or f (suc (from + k)) 0 ≡ 10
      next e = let z : from + suc k ≡ suc (from + k) = omega arith in rw z at e

module _ (f : List ℕ) (from closing at : ℕ) (o : from ≤ at) (w : at ≤ length f) (c : at ≤ closing)
    (lf : from < at → get_or f (at - 1) 0 ≡ 10) (h : (k : ℕ) → from ≤ k → k < at → Bare f k) where
  abbrev bytes : List ℕ
  bytes = take (at - from) (drop from f)

  bytes_length : length bytes ≡ at - from
  bytes_length = length-take-le (at - from) (drop from f) (omega (arith, length-drop from f))

  run_ended : Ended bytes
  run_ended = ended_of bytes ends
    where
      ends : 0 < length bytes → get_or bytes (length bytes - 1) 0 ≡ 10
      ends p =
          let n : ℕ = at - from in
          let m : 0 < n = rw bytes_length at p in
          let z : from + (n - 1) ≡ at - 1 = omega arith in
          rw bytes_length (get_or-take n (drop from f) (n - 1) 0 (omega arith) ∙ get_or-drop from f (n - 1) 0 ∙ rw z (lf (omega arith)))

  run_same : Same bytes
  run_same = bytes_same run_ended (part_bare f from (at - from) (λ k a b. h k a (omega arith)))

  run_cut : (cut (drop from f)).lines ≡ (cut bytes).lines ++ (cut (drop at f)).lines
  run_cut =
      let z : from + (at - from) ≡ at = omega arith in
      let d : drop from f ≡ bytes ++ drop at f = sym (take-append-drop (at - from) (drop from f)) ∙ rw (drop-drop (at - from) from f, z) refl in
      ap (λ (x : List ℕ). (cut x).lines) d ∙ ap (λ (x : Text). x.lines) (cut_append bytes (drop at f)) ∙ rw run_same.rest refl

  run_bytes : from + bytes_in (cut bytes).lines ≡ at
  run_bytes = omega (arith, sym (whole_length run_same.whole) ∙ ap length run_same.bytes ∙ bytes_length)

  pub run_text : Run f from closing at
  unfolding lines_in
  run_text =
      let ls : List (List ℕ) = (cut bytes).lines in
      let ms : List (List ℕ) = (cut (drop at f)).lines in
      let t : lines_to closing from (ls ++ ms) ≡ ls ++ lines_to closing at ms = to_append closing from ls ms (omega (arith, run_bytes)) ∙ rw run_bytes refl in
      record {
        onward = o;
        within = w;
        same = ap (λ (x : List (List ℕ)). lines_text (lines_to closing from x)) run_cut ∙ ap lines_text t ∙ lines_text_append ls (lines_to closing at ms) ∙ rw run_same.bytes refl;
      }

pub run_none : (f : List ℕ) (from closing : ℕ) → from ≤ length f → Run f from closing from
run_none f from closing w = let z : from - from ≡ 0 = omega arith in record { onward = omega arith; within = w; same = rw z refl }

-- up to the last line that begins in bare bytes
pub run_last : (f : List ℕ) (from closing stop at : ℕ) → from ≤ length f → closing ≤ length f → Bared f from closing stop → LastLine f from (stop + 1) at → Run f from closing at
run_last f from closing stop at w m b g = ⊎_elim some none (below_or_not from at)
  where
    some : from < at → Run f from closing at
    some l =
        let k : at < stop + 1 = g.before (omega (arith, b.onward)) in
        let i : stop < closing = b.inside (omega arith) in
        run_text f from closing at (omega arith) (omega arith) (omega arith) g.starts (λ j x y. b.bare j x (omega arith))

    none : at ≤ from → Run f from closing at
    none l = let z : at ≡ from = omega (arith, g.onward) in rw z (run_none f from closing w)

pub bared_within : (f : List ℕ) (from closing at : ℕ) → from ≤ length f → closing ≤ length f → Bared f from closing at → at ≤ length f
bared_within f from closing at w m b =
    ⊎_elim (λ (l : from < at). omega (arith, b.inside l)) (λ (g : at ≤ from). omega arith) (below_or_not from at)

-- the length of what is kept of a line and the run after it
module _ (f : List ℕ) (at e k past stop : ℕ) where
  pub run_length : at < stop → at ≤ length f → e ≡ at + line_len (drop at f) → e < length f → k ≡ length (kept_of (take (e - at) (drop at f))) → Run f (e + 1) stop past
      → length (body_text stop at f) ≡ (k + 1 + (past - (e + 1))) + length (body_text stop past f)
  run_length h a q l c r =
      let next : ℕ = e + 1 in
      let n : length (take (past - next) (drop next f)) ≡ past - next = length-take-le (past - next) (drop next f) (omega (arith, r.within, length-drop next f)) in
      let m : length (body_text stop next f) ≡ (past - next) + length (body_text stop past f)
      = ap length r.same ∙ length-append (take (past - next) (drop next f)) (body_text stop past f) ∙ rw n refl in
      omega (arith, m, body_line_length stop f at e k h a q l c)
