-- Items without brackets are read as they are spelled, in both directions. What stands from a byte on is given by `drop`.
use Rattle.std.specs.Prelude.{◌≡◌, refl, Bool, true, false, ◌&&◌, ◌||◌, List, [], ◌∷◌, ◌++◌, ℕ, suc, ◌+◌, ◌≤◌, ◌<◌, ltb, leb, eqb, length, drop, get_or}
use Rattle.std.proofs.Common.{sym, ap, ◌∙◌, append_assoc, arith, add-one, ltb-true, ltb-false, leb-true, eqb-true, lt-ltb, le-leb, length-append, drop-cons, drop-drop, get_or-drop}
use Rattle.std.proofs.Math.ListN.{get_or-eq_default}
use Rattle.std.proofs.Math.Seq.{drop-append_seam}
use Rattle.laws.specs.Choice.{pick}
use Rattle.laws.specs.ChoiceLaws.{false_not_true, and_left, and_right}
use Rattle.text.specs.Parts.{Digits, Digits.none as no_digit, more, is_digit}
use Rattle.format.specs.Format.{Kind, skip, text, integer, real, Count, once, times, Numeral, nought, from, Counted, Width, width, Letter, E, D, Plain, skips, texts, integers, reals}
use Rattle.format.specs.Reading.{Number, digits_before, number_of, count_of, Counting, Leaf, none, some, width_of, decimals_of, pointed, real_of, scaled_of, is_one, leaf_of}
use Rattle.format.specs.NumberLaws.{numeral_complete, number_sound, number_some, count_complete, count_sound, CountRead}

-- The byte at a place, what follows it, and what follows a few.

pub byte_at : (l : List ℕ) (at b : ℕ) (t : List ℕ) → drop at l ≡ b ∷ t → get_or l at 0 ≡ b
byte_at l at b t e =
    let same : at + 0 ≡ at = omega arith in
    ap (λ (k : ℕ). get_or l k 0) (sym same) ∙ sym (get_or-drop at l 0 0) ∙ ap (λ (r : List ℕ). get_or r 0 0) e

pub past_byte_lem : (l : List ℕ) (at b : ℕ) (t : List ℕ) → drop at l ≡ b ∷ t → drop (at + 1) l ≡ t
past_byte_lem l at b t e = sym (drop-drop 1 at l) ∙ ap (drop 1) e

pub past_bytes : (l : List ℕ) (at : ℕ) (ps t : List ℕ) → drop at l ≡ ps ++ t → drop (at + length ps) l ≡ t
past_bytes l at ps t e = sym (drop-drop (length ps) at l) ∙ ap (drop (length ps)) e ∙ drop-append_seam ps t

-- A spelling is read.

width_complete : {w : ℕ} {ws : List ℕ} (c : Count) (k : Kind) (at : ℕ) (l rest : List ℕ) → drop at l ≡ ws ++ rest → digits_before rest ≡ 0 → Width w ws
    → width_of c k at l ≡ some c k w (at + length ws)
unfolding width_of
width_complete c k at l rest e h (width {w} low high n) = rw (e, numeral_complete rest h n, le-leb 1 w low, le-leb w 80 high) refl

numeral_some : {v : ℕ} {ns : List ℕ} → Numeral v ns → 0 < length ns
numeral_some nought = omega arith
numeral_some (from low d) = omega arith

decimals_complete : {d : ℕ} {ds : List ℕ} (c : Count) (w at : ℕ) (l rest : List ℕ) → drop at l ≡ ds ++ rest → digits_before rest ≡ 0 → Numeral d ds → d ≤ w
    → decimals_of c w at l ≡ some c real w (at + length ds)
unfolding decimals_of
decimals_complete {d} {ds} c w at l rest e h n low = rw (e, numeral_complete rest h n, lt-ltb 0 (length ds) (numeral_some n), le-leb d w low) refl

point_first : (l : List ℕ) → digits_before (46 ∷ l) ≡ 0
unfolding digits_before is_digit
point_first l = refl

letter_real : {b : ℕ} → Letter b → eqb b 69 || eqb b 68 ≡ true
letter_real E = refl
letter_real D = refl

pub real_complete : {w : ℕ} {ps : List ℕ} (c : Count) (at : ℕ) (l rest : List ℕ) → drop at l ≡ ps ++ rest → digits_before rest ≡ 0 → Plain real w ps
    → real_of c at l ≡ some c real w (at + length ps)
unfolding real_of pointed
real_complete c at l rest e h (reals {b} {w} {d} {ws} {ds} letter wide n low) =
    let from-letter : drop at l ≡ b ∷ (ws ++ (46 ∷ (ds ++ rest))) = e ∙ ap (λ (r : List ℕ). b ∷ r) (append_assoc ws (46 ∷ ds) rest) in
    let from-width = past_byte_lem l at b (ws ++ (46 ∷ (ds ++ rest))) from-letter in
    let from-point = past_bytes l (at + 1) ws (46 ∷ (ds ++ rest)) from-width in
    let from-decimals = past_byte_lem l (at + 1 + length ws) 46 (ds ++ rest) from-point in
    let size : at + 1 + length ws + 1 + length ds ≡ at + length (b ∷ (ws ++ (46 ∷ ds))) = simp length-append (omega arith) in
    rw (
      byte_at l at b (ws ++ (46 ∷ (ds ++ rest))) from-letter,
      letter_real letter,
      width_complete c real (at + 1) l (46 ∷ (ds ++ rest)) from-width (point_first (ds ++ rest)) wide,
      byte_at l (at + 1 + length ws) 46 (ds ++ rest) from-point,
      decimals_complete c w (at + 1 + length ws + 1) l rest from-decimals h n low,
    ) (ap (some c real w) size)

pub leaf_complete : {k : Kind} {w : ℕ} {ps : List ℕ} (c : Count) (at : ℕ) (l rest : List ℕ) → drop at l ≡ ps ++ rest → digits_before rest ≡ 0 → Plain k w ps
    → leaf_of c at l ≡ some c k w (at + length ps)
unfolding leaf_of
leaf_complete c at l rest e h skips = rw (byte_at l at 88 rest e) refl
leaf_complete c at l rest e h (texts {w} {ws} wide) =
    let size : at + 1 + length ws ≡ at + suc (length ws) = omega arith in
    rw (byte_at l at 65 (ws ++ rest) e, width_complete c text (at + 1) l rest (past_byte_lem l at 65 (ws ++ rest) e) h wide) (ap (some c text w) size)
leaf_complete c at l rest e h (integers {w} {ws} wide) =
    let size : at + 1 + length ws ≡ at + suc (length ws) = omega arith in
    rw (byte_at l at 73 (ws ++ rest) e, width_complete c integer (at + 1) l rest (past_byte_lem l at 73 (ws ++ rest) e) h wide) (ap (some c integer w) size)
leaf_complete c at l rest e h (reals {b} {w} {d} {ws} {ds} E wide n low) = rw (byte_at l at 69 _ e) (real_complete c at l rest e h (reals E wide n low))
leaf_complete c at l rest e h (reals {b} {w} {d} {ws} {ds} D wide n low) = rw (byte_at l at 68 _ e) (real_complete c at l rest e h (reals D wide n low))

-- after 1P
pub scaled_complete : {w : ℕ} {cs ps : List ℕ} {c : Count} (at : ℕ) (l rest : List ℕ) → drop at l ≡ 80 ∷ (cs ++ (ps ++ rest)) → digits_before rest ≡ 0
    → digits_before (ps ++ rest) ≡ 0
    → Counted c cs → Plain real w ps → leaf_of (times 1) at l ≡ some c real w (at + 1 + length cs + length ps)
unfolding leaf_of scaled_of is_one
scaled_complete {w} {cs} {ps} {c} at l rest e h hp n p =
    let after = past_byte_lem l at 80 (cs ++ (ps ++ rest)) e in
    rw (byte_at l at 80 (cs ++ (ps ++ rest)) e, after, count_complete (ps ++ rest) hp n) (real_complete c (at + 1 + length cs) l rest (past_bytes l (at + 1) cs (ps ++ rest) after) h p)

-- What is read is spelled.

-- an item's bytes after its count, from byte at to before byte n
pub record Tail (d c : Count) (k : Kind) (w n at : ℕ) (l : List ℕ) : Type 0 where
  pub same : d ≡ c
  pub ps : List ℕ
  pub rest : List ℕ
  pub split : drop at l ≡ ps ++ rest
  pub size : at + length ps ≡ n
  pub plain : Plain k w ps

-- a width from byte at to before byte n
record WidthRead (d c : Count) (j k : Kind) (w n at : ℕ) (l : List ℕ) : Type 0 where
  same : d ≡ c
  kind : j ≡ k
  ws : List ℕ
  rest : List ℕ
  split : drop at l ≡ ws ++ rest
  size : at + length ws ≡ n
  wide : Width w ws

never : {A : Type 0} {c : Count} {k : Kind} {w n : ℕ} → ◌≡◌ {A = Leaf} none (some c k w n) → A
never e = let z : ◌≡◌ {A = ℕ} 0 1 = cc in absurd (omega arith)

width_sound : (d c : Count) (j k : Kind) (w n at : ℕ) (l : List ℕ) → width_of d j at l ≡ some c k w n → WidthRead d c j k w n at l
unfolding width_of
width_sound d c j k w n at l e = go (leb 1 v && leb v 80) refl e
  where
    v : ℕ
    v = (number_of (drop at l)).value

    go : (t : Bool) → (leb 1 v && leb v 80) ≡ t → ◌≡◌ {A = Leaf} (pick t (some d j v (at + (number_of (drop at l)).used)) none) (some c k w n) → WidthRead d c j k w n at l
    go true h e =
        let low = leb-true 1 v (and_left (leb 1 v) (leb v 80) h) in
        let high = leb-true v 80 (and_right (leb 1 v) (leb v 80) h) in
        let r = number_sound (drop at l) (number_some (drop at l) low) in
        let value : v ≡ w = cc in
        let end : at + (number_of (drop at l)).used ≡ n = cc in
        record { same = cc; kind = cc; ws = r.ns; rest = r.rest; split = r.split; size = ap (λ (x : ℕ). at + x) r.size ∙ end; wide = rw (← value) (width low high r.numeral) }
    go false h e = never e

record DecimalsRead (d c : Count) (k : Kind) (v w n at : ℕ) (l : List ℕ) : Type 0 where
  same : d ≡ c
  kind : real ≡ k
  wide : v ≡ w
  decimals : ℕ
  ds : List ℕ
  rest : List ℕ
  split : drop at l ≡ ds ++ rest
  size : at + length ds ≡ n
  numeral : Numeral decimals ds
  low : decimals ≤ v

decimals_sound : (d c : Count) (k : Kind) (v w n at : ℕ) (l : List ℕ) → decimals_of d v at l ≡ some c k w n → DecimalsRead d c k v w n at l
unfolding decimals_of
decimals_sound d c k v w n at l e = go (ltb 0 x.used && leb x.value v) refl e
  where
    x : Number
    x = number_of (drop at l)

    go : (t : Bool) → (ltb 0 x.used && leb x.value v) ≡ t → ◌≡◌ {A = Leaf} (pick t (some d real v (at + x.used)) none) (some c k w n) → DecimalsRead d c k v w n at l
    go true h e =
        let some-used = ltb-true 0 x.used (and_left (ltb 0 x.used) (leb x.value v) h) in
        let low = leb-true x.value v (and_right (ltb 0 x.used) (leb x.value v) h) in
        let r = number_sound (drop at l) some-used in
        let end : at + x.used ≡ n = cc in
        record { same = cc; kind = cc; wide = cc; decimals = x.value; ds = r.ns; rest = r.rest; split = r.split; size = ap (λ (y : ℕ). at + y) r.size ∙ end; numeral = r.numeral; low = low }
    go false h e = never e

-- a byte that is not 0 stands at a place
pub byte_there : (l : List ℕ) (at b : ℕ) → eqb (get_or l at 0) (suc b) ≡ true → drop at l ≡ suc b ∷ drop (at + 1) l
byte_there l at b h = go (ltb at (length l)) refl
  where
    is : get_or l at 0 ≡ suc b
    is = eqb-true (get_or l at 0) (suc b) h

    go : (t : Bool) → ltb at (length l) ≡ t → drop at l ≡ suc b ∷ drop (at + 1) l
    go true e = rw add-one (drop-cons l at 0 (ltb-true at (length l) e) ∙ ap (λ (x : ℕ). x ∷ drop (suc at) l) is)
    go false e = let z : ◌≡◌ {A = ℕ} 0 (suc b) = sym (get_or-eq_default l 0 (ltb-false at (length l) e)) ∙ is in absurd (omega arith)

-- the point and decimals after a width
point_sound : (d c : Count) (k : Kind) (w n at : ℕ) (b : ℕ) (l : List ℕ) → Letter b → drop at l ≡ b ∷ drop (at + 1) l → (x : Leaf) → width_of d real (at + 1) l ≡ x
    → pointed x l ≡ some c k w n
    → (real ≡ k) × Tail d c real w n at l
unfolding pointed
point_sound d c k w n at b l letter from-letter none wx e = never e
point_sound d c k w n at b l letter from-letter (some dx kx v m) wx e = go (eqb (get_or l m 0) 46) refl e
  where
    go : (t : Bool) → eqb (get_or l m 0) 46 ≡ t → ◌≡◌ {A = Leaf} (pick t (decimals_of dx v (m + 1) l) none) (some c k w n) → (real ≡ k) × Tail d c real w n at l
    go true h e =
        let x = width_sound d dx real kx v m (at + 1) l wx in
        let y = decimals_sound dx c k v w n (m + 1) l e in
        let from-point : drop m l ≡ 46 ∷ (y.ds ++ y.rest) = byte_there l m 45 h ∙ ap (λ (r : List ℕ). 46 ∷ r) y.split in
        let to-point : drop m l ≡ x.rest = ap (λ (a : ℕ). drop a l) (sym x.size) ∙ past_bytes l (at + 1) x.ws x.rest x.split in
        let whole : x.ws ++ x.rest ≡ (x.ws ++ (46 ∷ y.ds)) ++ y.rest = ap (λ (r : List ℕ). x.ws ++ r) (sym to-point ∙ from-point) ∙ sym (append_assoc x.ws (46 ∷ y.ds) y.rest) in
        let size : at + suc (length (x.ws ++ (46 ∷ y.ds))) ≡ n = simp length-append (omega (arith, x.size, y.size)) in
        let wide : Width w x.ws = rw (← y.wide) x.wide in (
          y.kind,
          record {
            same = x.same ∙ y.same;
            ps = b ∷ (x.ws ++ (46 ∷ y.ds));
            rest = y.rest;
            split = from-letter ∙ ap (λ (r : List ℕ). b ∷ r) (x.split ∙ whole);
            size = size;
            plain = reals letter wide y.numeral (omega (arith, y.low, y.wide));
          },
        )
    go false h e = never e

pub real_sound : (d c : Count) (k : Kind) (w n at : ℕ) (l : List ℕ) → real_of d at l ≡ some c k w n → (real ≡ k) × Tail d c real w n at l
unfolding real_of
real_sound d c k w n at l e = go (eqb (get_or l at 0) 69) refl e
  where
    go : (t : Bool) → eqb (get_or l at 0) 69 ≡ t → ◌≡◌ {A = Leaf} (pick (t || eqb (get_or l at 0) 68) (pointed (width_of d real (at + 1) l) l) none) (some c k w n)
        → (real ≡ k) × Tail d c real w n at l
    go true h e = point_sound d c k w n at 69 l E (byte_there l at 68 h) (width_of d real (at + 1) l) refl e
    go false h e = other (eqb (get_or l at 0) 68) refl e
      where
        other : (t : Bool) → eqb (get_or l at 0) 68 ≡ t → ◌≡◌ {A = Leaf} (pick t (pointed (width_of d real (at + 1) l) l) none) (some c k w n) → (real ≡ k) × Tail d c real w n at l
        other true h e = point_sound d c k w n at 68 l D (byte_there l at 67 h) (width_of d real (at + 1) l) refl e
        other false h e = never e

-- an item's bytes after a first count d that takes at bytes: the item's own count, or 1P, another count and a real
pub data LeafRead (d c : Count) (k : Kind) (w n at : ℕ) (l : List ℕ) : Type 0 where
  as_counted : Tail d c k w n at l → LeafRead d c k w n at l
  as_scaled : (j : ℕ) → d ≡ times 1 → real ≡ k → drop at l ≡ 80 ∷ drop (at + 1) l → CountRead c j (drop (at + 1) l) → Tail c c real w n (at + 1 + j) l → LeafRead d c k w n at l

width_tail : {d c : Count} {j k : Kind} {w n at b : ℕ} {l : List ℕ} → ((ws : List ℕ) → Width w ws → Plain j w (b ∷ ws)) → drop at l ≡ b ∷ drop (at + 1) l
    → WidthRead d c j k w n (at + 1) l → LeafRead d c k w n at l
width_tail {d} {c} {j} {k} {w} {n} {at} {b} {l} plain_of_lem first r =
    let size : at + suc (length r.ws) ≡ n = omega (arith, r.size) in
    rw (← r.kind) (as_counted (record {
      same = r.same;
      ps = b ∷ r.ws;
      rest = r.rest;
      split = first ∙ ap (λ (x : List ℕ). b ∷ x) r.split;
      size = size;
      plain = plain_of_lem r.ws r.wide;
    }))

real_tail : {d c : Count} {k : Kind} {w n at : ℕ} {l : List ℕ} → (real ≡ k) × Tail d c real w n at l → LeafRead d c k w n at l
real_tail (e, r) = rw (← e) (as_counted r)

scaled_tail : (d c : Count) (k : Kind) (w n at : ℕ) (l : List ℕ) → is_one d ≡ true → drop at l ≡ 80 ∷ drop (at + 1) l → (x : Counting) → count_of (drop (at + 1) l) ≡ x
    → scaled_of x (at + 1) l ≡ some c k w n → LeafRead d c k w n at l
unfolding scaled_of is_one
scaled_tail once c k w n at l one first x cx e = false_not_true one
scaled_tail (times m) c k w n at l one first none cx e = never e
scaled_tail (times m) c k w n at l one first (some q j) cx e =
    let r = real_sound q c k w n (at + 1 + j) l e in
    let same : q ≡ c = r.1.same in
    as_scaled j (ap times (eqb-true m 1 one)) r.0 first (rw same at (count_sound (drop (at + 1) l) q j cx)) (rw same at r.1)

pub leaf_sound : (d c : Count) (k : Kind) (w n at : ℕ) (l : List ℕ) → leaf_of d at l ≡ some c k w n → LeafRead d c k w n at l
unfolding leaf_of
leaf_sound d c k w n at l e = x_or (eqb (get_or l at 0) 88) refl e
  where
    p_or : (t : Bool) → eqb (get_or l at 0) 80 ≡ t
        → ◌≡◌ {A = Leaf} (pick t (pick (is_one d) (scaled_of (count_of (drop (at + 1) l)) (at + 1) l) none) (real_of d at l)) (some c k w n) → LeafRead d c k w n at l
    p_or true h e = one_or (is_one d) refl e
      where
        one_or : (t : Bool) → is_one d ≡ t → ◌≡◌ {A = Leaf} (pick t (scaled_of (count_of (drop (at + 1) l)) (at + 1) l) none) (some c k w n) → LeafRead d c k w n at l
        one_or true o e = scaled_tail d c k w n at l o (byte_there l at 79 h) (count_of (drop (at + 1) l)) refl e
        one_or false o e = never e
    p_or false h e = real_tail (real_sound d c k w n at l e)

    a_or : (t : Bool) → eqb (get_or l at 0) 65 ≡ t
        → ◌≡◌ {A = Leaf} (pick t (width_of d text (at + 1) l) (pick (eqb (get_or l at 0) 80) (pick (is_one d) (scaled_of (count_of (drop (at + 1) l)) (at + 1) l) none) (real_of d at l))) (some c k w n) → LeafRead d c k w n at l
    a_or true h e = width_tail (λ ws. texts) (byte_there l at 64 h) (width_sound d c text k w n (at + 1) l e)
    a_or false h e = p_or (eqb (get_or l at 0) 80) refl e

    i_or : (t : Bool) → eqb (get_or l at 0) 73 ≡ t
        → ◌≡◌ {A = Leaf} (pick t (width_of d integer (at + 1) l) (pick (eqb (get_or l at 0) 65) (width_of d text (at + 1) l) (pick (eqb (get_or l at 0) 80) (pick (is_one d) (scaled_of (count_of (drop (at + 1) l)) (at + 1) l) none) (real_of d at l)))) (some c k w n) → LeafRead d c k w n at l
    i_or true h e = width_tail (λ ws. integers) (byte_there l at 72 h) (width_sound d c integer k w n (at + 1) l e)
    i_or false h e = a_or (eqb (get_or l at 0) 65) refl e

    x_or : (t : Bool) → eqb (get_or l at 0) 88 ≡ t
        → ◌≡◌ {A = Leaf} (pick t (some d skip 1 (at + 1)) (pick (eqb (get_or l at 0) 73) (width_of d integer (at + 1) l) (pick (eqb (get_or l at 0) 65) (width_of d text (at + 1) l) (pick (eqb (get_or l at 0) 80) (pick (is_one d) (scaled_of (count_of (drop (at + 1) l)) (at + 1) l) none) (real_of d at l))))) (some c k w n) → LeafRead d c k w n at l
    x_or true h e =
        let kind : skip ≡ k = cc in
        let one : 1 ≡ w = cc in
        let end : at + 1 ≡ n = cc in
        let here : Plain k w (88 ∷ []) = rw (← kind, ← one) skips in
        as_counted (record { same = cc; ps = 88 ∷ []; rest = drop (at + 1) l; split = byte_there l at 87 h; size = end; plain = here })
    x_or false h e = i_or (eqb (get_or l at 0) 73) refl e

-- the number 1 is written as one digit
digits_least : {m v : ℕ} {ds : List ℕ} → Digits m ds v → m ≤ v
digits_least no_digit = omega arith
digits_least (more low high r) = omega (arith, digits_least r)

one_ends : {m v : ℕ} {ds : List ℕ} → 1 ≤ m → v ≡ 1 → Digits m ds v → (m ≡ 1) × (ds ≡ [])
one_ends p e no_digit = (e, refl)
one_ends p e (more low high r) = absurd (omega (arith, digits_least r))

pub one_spelled : {v : ℕ} {ns : List ℕ} → v ≡ 1 → Numeral v ns → ns ≡ 49 ∷ []
one_spelled e nought = absurd (omega arith)
one_spelled e (from {b} low (more l h r)) =
    let ends = one_ends (omega arith) e r in
    let is : b ≡ 49 = omega (arith, ends.0) in
    rw (is, ends.1) refl

-- a width that is read is at most 80
pub width_most : (d c : Count) (j k : Kind) (w n at : ℕ) (l : List ℕ) → width_of d j at l ≡ some c k w n → w ≤ 80
width_most d c j k w n at l e = most (width_sound d c j k w n at l e).wide
  where
    most : {v : ℕ} {ws : List ℕ} → Width v ws → v ≤ 80
    most (width low high m) = high
