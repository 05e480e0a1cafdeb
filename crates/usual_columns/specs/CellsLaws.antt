-- How tables grow column by column, and what they say of the bytes that pass.
use Rattle.std.specs.Prelude.{◌≡◌, ℕ, zero, suc, ◌+◌, ◌-◌, ◌%◌, ◌<◌, ◌≤◌, Bool, true, false, ◌&&◌, ◌||◌, ◌⊎◌, List, [], ◌∷◌, ◌++◌, map, length, get_or, take, drop, set, replicate, ◌==◌, nat_le, slice_index, slice_index_or, slice_set, refl}
use Rattle.std.proofs.Common.{sym, ap, ◌∙◌, inl, inr, append_assoc, append-nil, arith, below_more, leb-true, eqb-true, length-append, length-drop, get_or-take, get_or-drop, length-take-le}
use Rattle.std.proofs.lemmas.List.{length-map, length-replicate, replicate-append-replicate}
use Rattle.std.proofs.Math.ListN.{get_or-map, get_or-append}
use Rattle.std.proofs.Math.Seq.{set-append_seam}
use Rattle.laws.specs.ChoiceLaws.{and_left, and_right}
use Rattle.usual_columns.specs.declared.Cell.{Cell}
use Rattle.usual_columns.specs.declared.Tables.{Tables}
use Rattle.usual_columns.specs.Cells.{cell, digit, Takes, Fits, none, more, tables, Begins, Laid, Grown, Passed}

map_append : (f : Cell → ℕ) (a b : List Cell) → map f (a ++ b) ≡ map f a ++ map f b
map_append f [] b = refl
map_append f (c ∷ a) b = ap (λ (l : List ℕ). f c ∷ l) (map_append f a b)

map_replicate : (f : Cell → ℕ) (n : ℕ) (c : Cell) → map f (replicate n c) ≡ replicate n (f c)
map_replicate f zero c = refl
map_replicate f (suc n) c = ap (λ (l : List ℕ). f c ∷ l) (map_replicate f n c)

-- one column more
begins_set : (ns l : List ℕ) (d v : ℕ) → length ns < 80 → Begins ns d l → Begins (ns ++ (v ∷ [])) d (slice_set l (length ns) v)
begins_set ns l d v h b =
    let n : length (ns ++ (v ∷ [])) ≡ length ns + 1 = length-append ns (v ∷ []) in
    let k : 80 - length ns ≡ suc (80 - (length ns + 1)) = omega arith in
    let split : l ≡ ns ++ (d ∷ replicate (80 - (length ns + 1)) d) = b.is ∙ ap (λ (m : ℕ). ns ++ replicate m d) k in
    record {
      few = omega arith;
      is =
          ap (λ (m : List ℕ). set m (length ns) v) split
          ∙ set-append_seam ns d (replicate (80 - (length ns + 1)) d) v
          ∙ rw (n, append_assoc ns (v ∷ []) (replicate (80 - (length ns + 1)) d)) refl;
    }

-- as many as one likes of those that stand there already
begins_more : (ns l : List ℕ) (d n : ℕ) → length ns + n ≤ 80 → Begins ns d l → Begins (ns ++ replicate n d) d l
begins_more ns l d n h b =
    let m : length (ns ++ replicate n d) ≡ length ns + n = length-append ns (replicate n d) ∙ rw (length-replicate n d) refl in
    let k : 80 - length ns ≡ n + (80 - (length ns + n)) = omega arith in
    record {
      few = omega arith;
      is = b.is ∙ rw (m, append_assoc ns (replicate n d) (replicate (80 - (length ns + n)) d), replicate-append-replicate n (80 - (length ns + n)) d, ← k) refl;
    }

-- by what a column takes
module _ (f : Cell → ℕ) (cs : List Cell) (l : List ℕ) (at : ℕ) (e : length cs ≡ at) where
  part_set : (c : Cell) → at < 80 → Begins (map f cs) (f digit) l → Begins (map f (cs ++ (c ∷ []))) (f digit) (slice_set l at (f c))
  part_set c h b =
      let n : length (map f cs) ≡ at = length-map cs f ∙ e in
      rw (map_append f cs (c ∷ []), ← n) (begins_set (map f cs) l (f digit) (f c) (omega arith) b)

  part_digits : (n : ℕ) → at + n ≤ 80 → Begins (map f cs) (f digit) l → Begins (map f (cs ++ replicate n digit)) (f digit) l
  part_digits n h b =
      let m : length (map f cs) ≡ at = length-map cs f ∙ e in
      rw (map_append f cs (replicate n digit), map_replicate f n digit) (begins_more (map f cs) l (f digit) n (omega arith) b)

pub grown_set : (t : Tables) (at l s a : ℕ) → at < 80 → Grown at (cell l s a ∷ []) t (tables (slice_set t.lo at l) (slice_set t.span at s) (slice_set t.alt at a))
grown_set t at l s a h cs e d =
    record {
      los_are = part_set (λ (c : Cell). c.lo) cs t.lo at e (cell l s a) h d.los_are;
      spans_are = part_set (λ (c : Cell). c.span) cs t.span at e (cell l s a) h d.spans_are;
      alts_are = part_set (λ (c : Cell). c.alt) cs t.alt at e (cell l s a) h d.alts_are;
    }

pub grown_digits : (t : Tables) (at n : ℕ) → at + n ≤ 80 → Grown at (replicate n digit) t t
grown_digits t at n h cs e d =
    record {
      los_are = part_digits (λ (c : Cell). c.lo) cs t.lo at e n h d.los_are;
      spans_are = part_digits (λ (c : Cell). c.span) cs t.span at e n h d.spans_are;
      alts_are = part_digits (λ (c : Cell). c.alt) cs t.alt at e n h d.alts_are;
    }

-- nothing more, and more after more
pub grown_none : (at : ℕ) (t : Tables) → Grown at [] t t
grown_none at t cs e d = rw (append-nil cs) d

pub grown_on : (at : ℕ) (a b : List Cell) (t u v : Tables) (m : ℕ) → m ≡ at + length a → Grown at a t u → Grown m b u v → Grown at (a ++ b) t v
grown_on at a b t u v m e g h cs n d = rw (← append_assoc cs a b) (h (cs ++ a) (length-append cs a ∙ omega arith) (g cs n d))

-- four columns, one after the other
pub grown_four : (at : ℕ) (a b c d : Cell) (t u v w x : Tables) → Grown at (a ∷ []) t u → Grown (at + 1) (b ∷ []) u v → Grown (at + 2) (c ∷ []) v w → Grown (at + 3) (d ∷ []) w x
    → Grown at (a ∷ b ∷ c ∷ d ∷ []) t x
grown_four at a b c d t u v w x g h i j =
    let two : Grown at (a ∷ b ∷ []) t v = grown_on at (a ∷ []) (b ∷ []) t u v (at + 1) refl g h in
    let three : Grown at (a ∷ b ∷ c ∷ []) t w = grown_on at (a ∷ b ∷ []) (c ∷ []) t v w (at + 2) refl two i in
    grown_on at (a ∷ b ∷ c ∷ []) (d ∷ []) t w x (at + 3) refl three j

-- a field's first columns, of which the third is a digit, and its last ones, of which the last is
pub grown_start : (at : ℕ) (a b d : Cell) (t u v x : Tables) → at + 4 ≤ 80 → Grown at (a ∷ []) t u → Grown (at + 1) (b ∷ []) u v → Grown (at + 3) (d ∷ []) v x
    → Grown at (a ∷ b ∷ digit ∷ d ∷ []) t x
grown_start at a b d t u v x h g i j = grown_four at a b digit d t u v v x g i (grown_digits v (at + 2) 1 (omega arith)) j

pub grown_exponent : (at : ℕ) (a b c : Cell) (t u v x : Tables) → at + 4 ≤ 80 → Grown at (a ∷ []) t u → Grown (at + 1) (b ∷ []) u v → Grown (at + 2) (c ∷ []) v x
    → Grown at (a ∷ b ∷ c ∷ digit ∷ []) t x
grown_exponent at a b c t u v x h g i j = grown_four at a b c digit t u v x x g i j (grown_digits x (at + 3) 1 (omega arith))

-- a loop over columns that take the same: none, one more, all
module _ (at : ℕ) (c : Cell) where
  pub grown_begin : (t : Tables) → Grown at (replicate (at - at) c) t t
  grown_begin t = let z : at - at ≡ 0 = omega arith in rw z (grown_none at t)

  pub grown_next : (i : ℕ) (t u v : Tables) → at ≤ i → Grown at (replicate (i - at) c) t u → Grown i (c ∷ []) u v → Grown at (replicate (i + 1 - at) c) t v
  grown_next i t u v h g m =
      let n : i + 1 - at ≡ i - at + 1 = omega arith in
      let s : replicate (i - at) c ++ (c ∷ []) ≡ replicate (i - at + 1) c = replicate-append-replicate (i - at) 1 c in
      rw (n, ← s) (grown_on at (replicate (i - at) c) (c ∷ []) t u v i (rw (length-replicate (i - at) c) (omega arith)) g m)

  pub grown_all : (i past : ℕ) (t u : Tables) → past ≤ i → i ≤ past → Grown at (replicate (i - at) c) t u → Grown at (replicate (past - at) c) t u
  grown_all i past t u h m g = let e : past ≡ i = omega arith in rw e g

-- one byte more is taken
either : (a b : Bool) → a || b ≡ true → (a ≡ true) ⊎ (b ≡ true)
either true b h = inl refl
either false b h = inr h

pub takes : (l s a b r : ℕ) → (r + l) % 256 ≡ b → nat_le r s || (b == a) ≡ true → Takes (cell l s a) b
takes l s a b r e h = go (either (nat_le r s) (b == a) h)
  where
    go : (nat_le r s ≡ true) ⊎ ((b == a) ≡ true) → Takes (cell l s a) b
    go (inl h) = inl (r, leb-true r s h, e)
    go (inr h) = inr (eqb-true b a h)

-- a loop over the columns: none, one more
pub passed_none : (t : Tables) (s : List ℕ) (at : ℕ) → Passed t s at 0
unfolding Passed
passed_none t s at k h = absurd (omega arith)

pub passed_more : (t : Tables) (s : List ℕ) (at i r : ℕ) (ok : Bool) → (ok ≡ true → Passed t s at i) → (r + slice_index t.lo i) % 256 ≡ slice_index s (at + i)
    → ok && (nat_le r (slice_index t.span i) || slice_index s (at + i) == slice_index t.alt i) ≡ true → Passed t s at (i + 1)
unfolding Passed
passed_more t s at i r ok so_far e h =
    below_more _ i (so_far (and_left ok _ h)) (takes (slice_index t.lo i) (slice_index t.span i) (slice_index t.alt i) (slice_index s (at + i)) r e (and_right ok _ h))

pub passed_all : (t : Tables) (s : List ℕ) (at i : ℕ) → 80 ≤ i → i ≤ 80 → Passed t s at i → Passed t s at 80
passed_all t s at i h m p = let e : i ≡ 80 = omega arith in rw e at p

-- bytes that pass column by column fit the columns
fits_by : (cs : List Cell) (l : List ℕ) → length cs ≡ length l
    → ((k : ℕ) → k < length cs → Takes (slice_index_or cs k (cell 0 0 0)) (slice_index l k)) → Fits cs l
fits_by [] [] e p = none
fits_by [] (b ∷ l) e p = absurd (omega arith)
fits_by (c ∷ cs) [] e p = absurd (omega arith)
fits_by (c ∷ cs) (b ∷ l) e p = more (p 0 (omega arith)) (fits_by cs l (omega arith) (λ k h. p (suc k) (omega arith)))

part_at : (f : Cell → ℕ) (cs : List Cell) (l : List ℕ) (k : ℕ) → f (cell 0 0 0) ≡ 0 → Begins (map f cs) (f digit) l → k < length cs → slice_index l k ≡ f (slice_index_or cs k (cell 0 0 0))
part_at f cs l k z b h =
    let n : k < length (map f cs) = rw (length-map cs f) h in
    ap (λ (m : List ℕ). slice_index m k) b.is ∙ get_or-append (map f cs) (replicate (80 - length (map f cs)) (f digit)) 0 k n
    ∙ ap (λ (d : ℕ). get_or (map f cs) k d) (sym z) ∙ get_or-map f cs k (cell 0 0 0)

pub fits_passed : (cs : List Cell) (t : Tables) (s : List ℕ) (at : ℕ) → Laid cs t → at + length cs ≤ length s → Passed t s at (length cs)
    → Fits cs (take (length cs) (drop at s))
unfolding Passed
fits_passed cs t s at d h p =
    fits_by cs (take (length cs) (drop at s)) (sym (length-take-le (length cs) (drop at s) (simp length-drop (omega arith)))) same
  where
    same : (k : ℕ) → k < length cs → Takes (slice_index_or cs k (cell 0 0 0)) (slice_index (take (length cs) (drop at s)) k)
    same k l =
        rw (
          ← part_at (λ (c : Cell). c.lo) cs t.lo k refl d.los_are l,
          ← part_at (λ (c : Cell). c.span) cs t.span k refl d.spans_are l,
          ← part_at (λ (c : Cell). c.alt) cs t.alt k refl d.alts_are l,
          get_or-take (length cs) (drop at s) k 0 l,
          get_or-drop at s k 0,
        )
        (p k l)

-- bytes that fit are as many as the columns; they fall apart as the columns do
pub fits_length : {cs : List Cell} {l : List ℕ} → Fits cs l → length l ≡ length cs
fits_length none = refl
fits_length (more t f) = ap suc (fits_length f)

pub record Split (a b : List Cell) (l : List ℕ) : Type 0 where
  pub first : List ℕ
  pub second : List ℕ
  pub is : l ≡ first ++ second
  pub fits_first : Fits a first
  pub fits_second : Fits b second

pub fits_split : (a b : List Cell) {l : List ℕ} → Fits (a ++ b) l → Split a b l
fits_split [] b {l} f = record { first = []; second = l; is = refl; fits_first = none; fits_second = f }
fits_split (c ∷ a) b (more {b = x} t f) =
    let s = fits_split a b f in
    record { first = x ∷ s.first; second = s.second; is = ap (λ (m : List ℕ). x ∷ m) s.is; fits_first = more t s.fits_first; fits_second = s.fits_second }
