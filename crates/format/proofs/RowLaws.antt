-- A FORMAT that fits is laid as its fields; the laws of the loops that lay them.
use Rattle.std.specs.Prelude.{◌≡◌, refl, Bool, true, false, List, [], ◌∷◌, ◌++◌, map, ℕ, zero, suc, ◌+◌, ◌-◌, ◌*◌, ◌≤◌, ◌<◌, min, eqb, length, take, get_or, set, replicate, Option, Some, None, option_and_then, option_map}
use Rattle.std.proofs.Common.{sym, ap, ◌∙◌, append_assoc, append-nil, add-one, arith, lt-ltb, le-ltb, eq-eqb, ne_eqb, length-append, take-suc, take-suc-set}
use Rattle.std.proofs.lemmas.List.{length-map, set_at, get_or_at}
use Rattle.laws.specs.Choice.{pick}
use Rattle.format.specs.Format.{Field, Count, number, Format, group, repeated, unblanked}
use Rattle.format.specs.Reading.{Parsed, none, some, closed, joined, leaf, Leaf}
use Rattle.format.specs.Laid.{kind_in, padded, kinds_of, widths_of, row_of}
use Rattle.format.specs.Measured.{capped, leaf_in, found}
use Rattle.format.specs.Row.{a_row, pushed, again_row, repeat_row, repeat_from, lay_plain, lay, Laying, a_laying, laid, closed_laid}
use Rattle.format.specs.declared.Kind as own
use Rattle.format.specs.declared.Kind.TheVariants.{Skip}
use Rattle.format.specs.declared.Tally.{Tally}
use Rattle.format.specs.declared.Leaf as code
use Rattle.format.specs.declared.Fields.{Fields}

pub pushed_more : (r : Fields) (k : own.Kind) (w : ℕ) → r.count < 80 → a_row (r.count + 1) (set r.kinds r.count k) (set r.widths r.count w) ≡ pushed r k w
unfolding pushed
pushed_more r k w h = rw (lt-ltb r.count 80 h) refl

-- a loop over fields: one more, the last place or the end
pub again_row_next : (past j : ℕ) (r s : Fields) → j < min past 80
    → s ≡ pushed r (get_or r.kinds j Skip) (get_or r.widths j 0) → again_row (past - (j + 1)) (j + 1) s ≡ again_row (past - j) j r
unfolding again_row
again_row_next past j r s h e =
    let one : past - j ≡ suc (past - (j + 1)) = omega arith in
    let few : j < 80 = omega arith in
    rw (one, e, lt-ltb j 80 few) refl

pub again_row_full : (m j : ℕ) (r : Fields) → 80 ≤ j → again_row m j r ≡ r
unfolding again_row
again_row_full zero j r h = refl
again_row_full (suc m) j r h = rw (le-ltb j 80 h) refl

pub again_row_done : (past j : ℕ) (r : Fields) → min past 80 ≤ j → again_row (past - j) j r ≡ r
unfolding again_row
again_row_done past j r h = go (past - j) refl
  where
    go : (m : ℕ) → past - j ≡ m → again_row m j r ≡ r
    go zero e = refl
    go (suc m) e = again_row_full (suc m) j r (omega arith)

pub repeat_row_next : (n i from past : ℕ) (r s : Fields) → i < n → s ≡ again_row (past - from) from r → repeat_row (n - (i + 1)) from past s ≡ repeat_row (n - i) from past r
unfolding repeat_row
repeat_row_next n i from past r s h e = let one : n - i ≡ suc (n - (i + 1)) = omega arith in rw (one, e) refl

pub repeat_row_end : (n i from past : ℕ) (r : Fields) → n ≤ i → repeat_row (n - i) from past r ≡ r
unfolding repeat_row
repeat_row_end n i from past r h = let none_left : n - i ≡ 0 = omega arith in rw none_left refl

-- The code's steps are the reading's.

-- what an item without brackets lays
abbrev pub laid_leaf : Fields → code.Leaf → Laying
laid_leaf r i = a_laying i.at (lay_plain r i.kind i.count i.width)

-- a group after its list, which is laid
abbrev pub group_laid : ℕ → Tally → List ℕ → Laying → Option Laying
group_laid from c l m = closed_laid from c l m.at m.row

pub laid_leaf_lem : (r : Fields) (x : Leaf) → laid r (leaf x) ≡ option_map (laid_leaf r) (leaf_in x)
unfolding laid leaf lay
laid_leaf_lem r none = refl
laid_leaf_lem r (some c k w at) = refl

pub laid_closed : (r : Fields) (c : Count) (k : ℕ) (l : List ℕ) (p : Parsed) → laid r (closed c l p) ≡ option_and_then (group_laid r.count (found c k) l) (laid r p)
unfolding closed laid lay
laid_closed r c k l none = refl
laid_closed r c k l (some t at) = go (eqb (get_or l at 0) 41)
  where
    go : (b : Bool) → laid r (pick b (some (group c t) (at + 1)) none) ≡ pick b (Some (a_laying (at + 1) (repeat_from (capped (number c) - 1) r.count (lay r t)))) None
    go true = refl
    go false = refl

pub laid_joined : (r : Fields) (t : Format) (p : Parsed) → laid r (joined t p) ≡ laid (lay r t) p
unfolding joined laid lay
laid_joined r t none = refl
laid_joined r t (some u at) = refl

-- Bytes without blanks, one after the other.

unblanked_snoc : (l : List ℕ) (b : ℕ) → unblanked (l ++ (b ∷ [])) ≡ pick (eqb b 32) (unblanked l) (unblanked l ++ (b ∷ []))
unfolding unblanked
unblanked_snoc [] b = refl
unblanked_snoc (a ∷ l) b = go (eqb a 32) (eqb b 32) (unblanked_snoc l b)
  where
    go : (s t : Bool) → unblanked (l ++ (b ∷ [])) ≡ pick t (unblanked l) (unblanked l ++ (b ∷ []))
        → pick s (unblanked (l ++ (b ∷ []))) (a ∷ unblanked (l ++ (b ∷ []))) ≡ pick t (pick s (unblanked l) (a ∷ unblanked l)) (pick s (unblanked l) (a ∷ unblanked l) ++ (b ∷ []))
    go true true e = e
    go true false e = e
    go false true e = ap (λ (x : List ℕ). a ∷ x) e
    go false false e = ap (λ (x : List ℕ). a ∷ x) e

-- a loop that keeps the bytes that are no blanks
module _ (l : List ℕ) (i : ℕ) (h : i < length l) where
  unblanked_next : unblanked (take (i + 1) l) ≡ pick (eqb (get_or l i 0) 32) (unblanked (take i l)) (unblanked (take i l) ++ (get_or l i 0 ∷ []))
  unblanked_next = let next : take (i + 1) l ≡ take i l ++ (get_or l i 0 ∷ []) = rw add-one (take-suc l i 0 h) in ap unblanked next ∙ unblanked_snoc (take i l) (get_or l i 0)

  module _ (out : List ℕ) (n : ℕ) (e : take n out ≡ unblanked (take i l)) where
    pub unblanked_blank : get_or l i 0 ≡ 32 → take n out ≡ unblanked (take (i + 1) l)
    unblanked_blank q = rw (unblanked_next, eq-eqb (get_or l i 0) 32 q) e

    pub unblanked_byte : (get_or l i 0 ≡ 32 → ⊥) → n < length out → take (n + 1) (set out n (get_or l i 0)) ≡ unblanked (take (i + 1) l)
    unblanked_byte q g = rw (unblanked_next, ne_eqb (get_or l i 0) 32 q, ← e, add-one) (take-suc-set out n (get_or l i 0) g)

pub kept_most : (t : Bool) (n : ℕ) → pick t n (n + 1) ≤ n + 1
kept_most true n = omega arith
kept_most false n = omega arith

-- A list filled to 80, and one more.
module _ {A : Type 0} (x : A) where
  padded_set : (l : List A) (v : A) → length l < 80 → set (padded x l) (length l) v ≡ padded x (l ++ (v ∷ []))
  unfolding padded
  padded_set l v h =
      let size = length-append l (v ∷ []) in
      let some_left : 80 - length l ≡ suc (80 - length (l ++ (v ∷ []))) = omega (arith, size) in
      rw some_left (set_at l x (replicate (80 - length (l ++ (v ∷ []))) x) v (length l) refl ∙ sym (append_assoc l (v ∷ []) (replicate (80 - length (l ++ (v ∷ []))) x)))

  padded_at : (p : List A) (v : A) (q : List A) (n : ℕ) → length p ≡ n → get_or (padded x (p ++ (v ∷ q))) n x ≡ v
  unfolding padded
  padded_at p v q n e =
      let rest : List A = replicate (80 - length (p ++ (v ∷ q))) x in
      ap (λ (y : List A). get_or y n x) (append_assoc p (v ∷ q) rest) ∙ get_or_at p v (q ++ rest) x n e

  module _ (f : Field → A) where
    map_append : (fs gs : List Field) → map f (fs ++ gs) ≡ map f fs ++ map f gs
    map_append [] gs = refl
    map_append (g ∷ fs) gs = ap (λ (y : List A). f g ∷ y) (map_append fs gs)

    more_set : (fs : List Field) (g : Field) → length fs < 80 → set (padded x (map f fs)) (length fs) (f g) ≡ padded x (map f (fs ++ (g ∷ [])))
    more_set fs g h =
        let size : length (map f fs) ≡ length fs = length-map fs f in
        ap (λ (n : ℕ). set (padded x (map f fs)) n (f g)) (sym size) ∙ padded_set (map f fs) (f g) (omega (arith, size)) ∙ ap (padded x) (sym (map_append fs (g ∷ [])))

    field_at : (pre : List Field) (g : Field) (gs : List Field) → get_or (padded x (map f (pre ++ (g ∷ gs)))) (length pre) x ≡ f g
    field_at pre g gs = ap (λ (y : List A). get_or (padded x y) (length pre) x) (map_append pre (g ∷ gs)) ∙ padded_at (map f pre) (f g) (map f gs) (length pre) (length-map pre f)

-- A row of fields and one field more, some more, and the same ones again.

abbrev kind_at : Field → own.Kind
kind_at f = kind_in f.kind

abbrev width_at : Field → ℕ
width_at f = f.width

pub row_pushed : (fs : List Field) (g : Field) → length fs < 80 → pushed (row_of fs) (kind_at g) (width_at g) ≡ row_of (fs ++ (g ∷ []))
row_pushed fs g h =
    let size : length fs + 1 ≡ length (fs ++ (g ∷ [])) = sym (length-append fs (g ∷ [])) in
    sym (pushed_more (row_of fs) (kind_at g) (width_at g) h) ∙ rw (size, more_set Skip kind_at fs g h, more_set 0 width_at fs g h) refl

-- one field more after fields of which some are looked at
one_later : (pre gs xs : List Field) (g : Field) → (pre ++ ((g ∷ gs) ++ xs)) ++ (g ∷ []) ≡ (pre ++ (g ∷ [])) ++ (gs ++ (xs ++ (g ∷ [])))
one_later pre gs xs g =
    let inner : ((g ∷ gs) ++ xs) ++ (g ∷ []) ≡ (g ∷ gs) ++ (xs ++ (g ∷ [])) = append_assoc (g ∷ gs) xs (g ∷ []) in
    append_assoc pre ((g ∷ gs) ++ xs) (g ∷ []) ∙ ap (λ (x : List Field). pre ++ x) inner ∙ sym (append_assoc pre (g ∷ []) (gs ++ (xs ++ (g ∷ []))))

row_again : (pre gs xs hs : List Field) → hs ≡ pre ++ (gs ++ xs) → length hs + length gs ≤ 80 → again_row (length gs) (length pre) (row_of hs) ≡ row_of (hs ++ gs)
unfolding again_row
row_again pre [] xs hs e k = ap row_of (sym (append-nil hs))
row_again pre (g ∷ gs) xs hs e k =
    let size : length hs ≡ length pre + length ((g ∷ gs) ++ xs) = ap length e ∙ length-append pre ((g ∷ gs) ++ xs) in
    let here : length pre < 80 = omega (arith, size) in
    let room : length hs < 80 = omega arith in
    let next : length (pre ++ (g ∷ [])) ≡ length pre + 1 = length-append pre (g ∷ []) in
    let grown : length (hs ++ (g ∷ [])) + length gs ≤ 80 = omega (arith, length-append hs (g ∷ [])) in
    let later = ap (λ (x : List Field). x ++ (g ∷ [])) e ∙ one_later pre gs xs g in
    let rest = row_again (pre ++ (g ∷ [])) gs (xs ++ (g ∷ [])) (hs ++ (g ∷ [])) later grown in
    let whole : (hs ++ (g ∷ [])) ++ gs ≡ hs ++ (g ∷ gs) = append_assoc hs (g ∷ []) gs in
    let kind : get_or (kinds_of hs) (length pre) Skip ≡ kind_at g = ap (λ (x : List Field). get_or (kinds_of x) (length pre) Skip) e ∙ field_at Skip kind_at pre g (gs ++ xs) in
    let width : get_or (widths_of hs) (length pre) 0 ≡ width_at g = ap (λ (x : List Field). get_or (widths_of x) (length pre) 0) e ∙ field_at 0 width_at pre g (gs ++ xs) in
    rw (lt-ltb (length pre) 80 here, kind, width, row_pushed hs g room, ← next) (rest ∙ ap row_of whole)

repeated_more : (n : ℕ) (gs : List Field) → gs ++ repeated n gs ≡ repeated n gs ++ gs
unfolding repeated
repeated_more zero gs = append-nil gs
repeated_more (suc n) gs = ap (λ (x : List Field). gs ++ x) (repeated_more n gs) ∙ sym (append_assoc gs (repeated n gs) gs)

length_repeated : (n : ℕ) (gs : List Field) → length (repeated n gs) ≡ n * length gs
unfolding repeated
length_repeated zero gs = omega arith
length_repeated (suc n) gs = omega (arith, length-append gs (repeated n gs), length_repeated n gs)

row_repeated : (m : ℕ) (fs gs xs hs : List Field) → hs ≡ fs ++ (gs ++ xs) → length hs + m * length gs ≤ 80
    → repeat_row m (length fs) (length (fs ++ gs)) (row_of hs) ≡ row_of (hs ++ repeated m gs)
unfolding repeat_row repeated
row_repeated zero fs gs xs hs e k = ap row_of (sym (append-nil hs))
row_repeated (suc m) fs gs xs hs e k =
    let those : length (fs ++ gs) - length fs ≡ length gs = omega (arith, length-append fs gs) in
    let once_more : length hs + length gs ≤ 80 = omega arith in
    let grown : length (hs ++ gs) + m * length gs ≤ 80 = omega (arith, length-append hs gs) in
    let inner : (fs ++ (gs ++ xs)) ++ gs ≡ fs ++ (gs ++ (xs ++ gs)) = append_assoc fs (gs ++ xs) gs ∙ ap (λ (x : List Field). fs ++ x) (append_assoc gs xs gs) in
    let later = ap (λ (x : List Field). x ++ gs) e ∙ inner in
    rw (those, row_again fs gs xs hs e once_more) (row_repeated m fs gs (xs ++ gs) (hs ++ gs) later grown ∙ ap row_of (append_assoc hs gs (repeated m gs)))

-- fields n times, n from 1
pub row_times : (n : ℕ) (fs gs : List Field) → 1 ≤ n → length fs + n * length gs ≤ 80 → repeat_from (n - 1) (length fs) (row_of (fs ++ gs)) ≡ row_of (fs ++ repeated n gs)
unfolding repeated
row_times zero fs gs h k = absurd (omega arith)
row_times (suc m) fs gs h k =
    let fewer : suc m - 1 ≡ m = omega arith in
    let size = length-append fs gs in
    let all_fit : length (fs ++ gs) + m * length gs ≤ 80 = omega (arith, size) in
    let there : fs ++ gs ≡ fs ++ (gs ++ []) = ap (λ (x : List Field). fs ++ x) (sym (append-nil gs)) in
    rw fewer (row_repeated m fs gs [] (fs ++ gs) there all_fit ∙ ap row_of (append_assoc fs gs (repeated m gs)))
