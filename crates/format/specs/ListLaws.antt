-- Items and lists are read as they are spelled, in both directions.
use Rattle.std.specs.Prelude.{◌≡◌, refl, Bool, true, false, List, [], ◌∷◌, ◌++◌, ℕ, zero, suc, ◌+◌, ◌≤◌, ◌<◌, eqb, length, drop, get_or}
use Rattle.std.proofs.Common.{sym, ap, ◌∙◌, append_assoc, arith, length-append, get_or-drop}
use Rattle.laws.specs.Choice.{pick}
use Rattle.text.specs.Parts.{Digits.none as no_digit, Digits.more as digit, is_digit}
use Rattle.format.specs.Format.{Kind, real, Count, times, Format, plain, group, join, from, Counted, left_out, written, E, D, Plain, skips, texts, integers, reals, Sort, item, list, Spelled, counted, scaled, brackets, last, more}
use Rattle.format.specs.Reading.{digits_before, Counting, count_of, Leaf, Parsed, none, some, leaf_of, leaf, closed, joined, item_after, list_after, item_of, list_of}
use Rattle.format.specs.NumberLaws.{count_complete, count_sound, CountRead}
use Rattle.format.specs.LeafLaws.{byte_at, past_byte_lem, past_bytes, byte_there, Tail, LeafRead, as_counted, as_scaled, leaf_complete, leaf_sound, scaled_complete, one_spelled}

-- what may follow an item, and a list
pub data Follows : Sort → List ℕ → Type 0 where
  end : {s : Sort} → Follows s []
  bracket : {s : Sort} {l : List ℕ} → Follows s (41 ∷ l)
  comma : {l : List ℕ} → Follows item (44 ∷ l)

follows_digits : {s : Sort} {rest : List ℕ} → Follows s rest → digits_before rest ≡ 0
unfolding digits_before is_digit
follows_digits end = refl
follows_digits bracket = refl
follows_digits comma = refl

follows_item : {rest : List ℕ} → Follows list rest → Follows item rest
follows_item end = end
follows_item bracket = bracket

follows_list : {rest : List ℕ} → Follows list rest → eqb (get_or rest 0 0) 44 ≡ false
follows_list end = refl
follows_list bracket = refl

plain_digits : {k : Kind} {w : ℕ} {ps : List ℕ} (rest : List ℕ) → Plain k w ps → digits_before (ps ++ rest) ≡ 0
unfolding digits_before is_digit
plain_digits rest skips = refl
plain_digits rest (texts w) = refl
plain_digits rest (integers w) = refl
plain_digits rest (reals E w n low) = refl
plain_digits rest (reals D w n low) = refl

plain_byte : {k : Kind} {w : ℕ} {ps : List ℕ} (rest : List ℕ) → Plain k w ps → eqb (get_or (ps ++ rest) 0 0) 40 ≡ false
plain_byte rest skips = refl
plain_byte rest (texts w) = refl
plain_byte rest (integers w) = refl
plain_byte rest (reals E w n low) = refl
plain_byte rest (reals D w n low) = refl

plain_some : {k : Kind} {w : ℕ} {ps : List ℕ} → Plain k w ps → 0 < length ps
plain_some skips = omega arith
plain_some (texts w) = omega arith
plain_some (integers w) = omega arith
plain_some (reals l w n low) = omega arith

first_of : (l : List ℕ) (at : ℕ) (t : List ℕ) → drop at l ≡ t → get_or l at 0 ≡ get_or t 0 0
first_of l at t e =
    let same : at + 0 ≡ at = omega arith in
    ap (λ (k : ℕ). get_or l k 0) (sym same) ∙ sym (get_or-drop at l 0 0) ∙ ap (λ (r : List ℕ). get_or r 0 0) e

p_first : (t : List ℕ) → digits_before (80 ∷ t) ≡ 0
unfolding digits_before is_digit
p_first t = refl

bracket_first : (t : List ℕ) → digits_before (40 ∷ t) ≡ 0
unfolding digits_before is_digit
bracket_first t = refl

-- One step of the reading, by what stands there.

pub item_leaf : (m : ℕ) (l : List ℕ) (at : ℕ) (d : Count) (k : ℕ) → count_of (drop at l) ≡ some d k → eqb (get_or l (at + k) 0) 40 ≡ false
    → item_of (suc m) l at ≡ leaf (leaf_of d (at + k) l)
unfolding item_of item_after
item_leaf m l at d k e h = rw (e, h) refl

pub item_group : (m : ℕ) (l : List ℕ) (at : ℕ) (d : Count) (k : ℕ) → count_of (drop at l) ≡ some d k → eqb (get_or l (at + k) 0) 40 ≡ true
    → item_of (suc m) l at ≡ closed d l (list_of m l (at + k + 1))
unfolding item_of item_after
item_group m l at d k e h = rw (e, h) refl

pub item_none : (m : ℕ) (l : List ℕ) (at : ℕ) → count_of (drop at l) ≡ none → item_of (suc m) l at ≡ none
unfolding item_of item_after
item_none m l at e = rw e refl

pub list_last : (m : ℕ) (l : List ℕ) (at : ℕ) (t : Format) (k : ℕ) → item_of m l at ≡ some t k → eqb (get_or l k 0) 44 ≡ false → list_of (suc m) l at ≡ some t k
unfolding list_of list_after
list_last m l at t k e h = rw (e, h) refl

pub list_more : (m : ℕ) (l : List ℕ) (at : ℕ) (t : Format) (k : ℕ) → item_of m l at ≡ some t k → eqb (get_or l k 0) 44 ≡ true → list_of (suc m) l at ≡ joined t (list_of m l (k + 1))
unfolding list_of list_after
list_more m l at t k e h = rw (e, h) refl

pub list_none : (m : ℕ) (l : List ℕ) (at : ℕ) → item_of m l at ≡ none → list_of (suc m) l at ≡ none
unfolding list_of list_after
list_none m l at e = rw e refl

-- A spelling is read.

abbrev parsed : Sort → ℕ → List ℕ → ℕ → Parsed
parsed item n l at = item_of n l at
parsed list n l at = list_of n l at

-- how many bytes must be left: those of an item, one more than those of a list
abbrev bytes : Sort → List ℕ → ℕ
bytes item ws = length ws
bytes list ws = suc (length ws)

counted_read : {c : Count} {k : Kind} {w : ℕ} {cs ps : List ℕ} (m : ℕ) (l : List ℕ) (at : ℕ) (rest : List ℕ) → drop at l ≡ (cs ++ ps) ++ rest → digits_before rest ≡ 0
    → Counted c cs → Plain k w ps → item_of (suc m) l at ≡ some (plain c k w) (at + length (cs ++ ps))
unfolding leaf
counted_read {c} {k} {w} {cs} {ps} m l at rest e h n p =
    let split = e ∙ append_assoc cs ps rest in
    let here = past_bytes l at cs (ps ++ rest) split in
    let count : count_of (drop at l) ≡ some c (length cs) = ap count_of split ∙ count_complete (ps ++ rest) (plain_digits rest p) n in
    let byte : eqb (get_or l (at + length cs) 0) 40 ≡ false = rw (first_of l (at + length cs) (ps ++ rest) here) (plain_byte rest p) in
    let size : at + length cs + length ps ≡ at + length (cs ++ ps) = simp length-append (omega arith) in
    item_leaf m l at c (length cs) count byte ∙ ap leaf (leaf_complete c (at + length cs) l rest here h p) ∙ ap (some (plain c k w)) size

one_counted : Counted (times 1) (49 ∷ [])
one_counted =
    let low : 48 ≤ 49 = omega arith in
    let high : 49 ≤ 57 = omega arith in
    let above : 49 ≤ 49 = omega arith in
    let some-count : 1 ≤ 1 = omega arith in
    written some-count (from above (digit low high no_digit))

scaled_read : {c : Count} {w : ℕ} {cs ps : List ℕ} (m : ℕ) (l : List ℕ) (at : ℕ) (rest : List ℕ) → drop at l ≡ 49 ∷ 80 ∷ ((cs ++ ps) ++ rest) → digits_before rest ≡ 0
    → Counted c cs → Plain real w ps → item_of (suc m) l at ≡ some (plain c real w) (at + length (49 ∷ 80 ∷ (cs ++ ps)))
unfolding leaf
scaled_read {c} {w} {cs} {ps} m l at rest e h n p =
    let tail : List ℕ = cs ++ (ps ++ rest) in
    let split : drop at l ≡ 49 ∷ 80 ∷ tail = e ∙ ap (λ (x : List ℕ). 49 ∷ 80 ∷ x) (append_assoc cs ps rest) in
    let here = past_byte_lem l at 49 (80 ∷ tail) split in
    let count : count_of (drop at l) ≡ some (times 1) 1 = ap count_of split ∙ count_complete (80 ∷ tail) (p_first tail) one_counted in
    let byte : eqb (get_or l (at + 1) 0) 40 ≡ false = rw (byte_at l (at + 1) 80 tail here) refl in
    let size : at + 1 + 1 + length cs + length ps ≡ at + suc (suc (length (cs ++ ps))) = simp length-append (omega arith) in
    item_leaf m l at (times 1) 1 count byte ∙ ap leaf (scaled_complete (at + 1) l rest here h (plain_digits rest p) n p) ∙ ap (some (plain c real w)) size

brackets_read : {c : Count} {cs : List ℕ} (t : Format) (ts : List ℕ) (m : ℕ) (l : List ℕ) (at : ℕ) (rest : List ℕ) → drop at l ≡ cs ++ (40 ∷ (ts ++ (41 ∷ rest)))
    → Counted c cs → list_of m l (at + length cs + 1) ≡ some t (at + length cs + 1 + length ts)
    → item_of (suc m) l at ≡ some (group c t) (at + length (cs ++ (40 ∷ (ts ++ (41 ∷ [])))))
unfolding closed
brackets_read {c} {cs} t ts m l at rest e n r =
    let tail = ts ++ (41 ∷ rest) in
    let here = past_bytes l at cs (40 ∷ tail) e in
    let inside = past_byte_lem l (at + length cs) 40 tail here in
    let close = byte_at l (at + length cs + 1 + length ts) 41 rest (past_bytes l (at + length cs + 1) ts (41 ∷ rest) inside) in
    let count : count_of (drop at l) ≡ some c (length cs) = ap count_of e ∙ count_complete (40 ∷ tail) (bracket_first tail) n in
    let byte : eqb (get_or l (at + length cs) 0) 40 ≡ true = rw (byte_at l (at + length cs) 40 tail here) refl in
    let size : at + length cs + 1 + length ts + 1 ≡ at + length (cs ++ (40 ∷ (ts ++ (41 ∷ [])))) = simp length-append (omega arith) in
    item_group m l at c (length cs) count byte ∙ ap (closed c l) r ∙ rw close (ap (some (group c t)) size)

last_read : (t : Format) (ts : List ℕ) (m : ℕ) (l : List ℕ) (at : ℕ) (rest : List ℕ) → drop at l ≡ ts ++ rest → Follows list rest → item_of m l at ≡ some t (at + length ts)
    → list_of (suc m) l at ≡ some t (at + length ts)
last_read t ts m l at rest e f r = list_last m l at t (at + length ts) r (rw (first_of l (at + length ts) rest (past_bytes l at ts rest e)) (follows_list f))

more_read : (t u : Format) (ts us : List ℕ) (m : ℕ) (l : List ℕ) (at : ℕ) (rest : List ℕ) → drop at l ≡ ts ++ (44 ∷ (us ++ rest)) → item_of m l at ≡ some t (at + length ts)
    → list_of m l (at + length ts + 1) ≡ some u (at + length ts + 1 + length us) → list_of (suc m) l at ≡ some (join t u) (at + length (ts ++ (44 ∷ us)))
unfolding joined
more_read t u ts us m l at rest e first rests =
    let here = past_bytes l at ts (44 ∷ (us ++ rest)) e in
    let byte : eqb (get_or l (at + length ts) 0) 44 ≡ true = rw (byte_at l (at + length ts) 44 (us ++ rest) here) refl in
    let size : at + length ts + 1 + length us ≡ at + length (ts ++ (44 ∷ us)) = simp length-append (omega arith) in
    list_more m l at t (at + length ts) first byte ∙ ap (joined t) rests ∙ ap (some (join t u)) size

pub read_complete : {s : Sort} {t : Format} {ws : List ℕ} → Spelled s t ws → (l : List ℕ) (at : ℕ) (rest : List ℕ) → drop at l ≡ ws ++ rest → Follows s rest → (n : ℕ)
    → bytes s ws ≤ n
    → parsed s n l at ≡ some t (at + length ws)
read_complete (counted {cs = cs} {ps = ps} n p) l at rest e f zero h = absurd (omega (arith, length-append cs ps, plain_some p))
read_complete (counted n p) l at rest e f (suc m) h = counted_read m l at rest e (follows_digits f) n p
read_complete (scaled n p) l at rest e f zero h = absurd (omega arith)
read_complete (scaled n p) l at rest e f (suc m) h = scaled_read m l at rest e (follows_digits f) n p
read_complete (brackets {cs = cs} {ts = ts} n s) l at rest e f zero h = absurd (omega (arith, length-append cs (40 ∷ (ts ++ (41 ∷ [])))))
read_complete (brackets {t = t} {cs = cs} {ts = ts} n s) l at rest e f (suc m) h =
    let room : suc (length ts) ≤ m = omega (arith, length-append cs (40 ∷ (ts ++ (41 ∷ []))), length-append ts (41 ∷ [])) in
    let tail = ts ++ (41 ∷ rest) in
    let split : drop at l ≡ cs ++ (40 ∷ tail) = e ∙ append_assoc cs (40 ∷ (ts ++ (41 ∷ []))) rest ∙ ap (λ (x : List ℕ). cs ++ (40 ∷ x)) (append_assoc ts (41 ∷ []) rest) in
    let inside = past_byte_lem l (at + length cs) 40 tail (past_bytes l at cs (40 ∷ tail) split) in
    brackets_read t ts m l at rest split n (read_complete s l (at + length cs + 1) (41 ∷ rest) inside bracket m room)
read_complete (last s) l at rest e f zero h = absurd (omega arith)
read_complete (last {t} {ts} s) l at rest e f (suc m) h = last_read t ts m l at rest e f (read_complete s l at rest e (follows_item f) m (omega arith))
read_complete (more s r) l at rest e f zero h = absurd (omega arith)
read_complete (more {t} {u} {ts} {us} s r) l at rest e f (suc m) h =
    let size = length-append ts (44 ∷ us) in
    let room : length ts ≤ m = omega arith in
    let rooms : suc (length us) ≤ m = omega arith in
    let split : drop at l ≡ ts ++ (44 ∷ (us ++ rest)) = e ∙ append_assoc ts (44 ∷ us) rest in
    let after = past_byte_lem l (at + length ts) 44 (us ++ rest) (past_bytes l at ts (44 ∷ (us ++ rest)) split) in
    more_read t u ts us m l at rest split (read_complete s l at (44 ∷ (us ++ rest)) split comma m room) (read_complete r l (at + length ts + 1) rest after f m rooms)

-- What is read is spelled.

-- the bytes ws stand at byte at, and spell the format
pub record Read (s : Sort) (t : Format) (n : ℕ) (l : List ℕ) (at : ℕ) : Type 0 where
  pub ws : List ℕ
  pub rest : List ℕ
  pub split : drop at l ≡ ws ++ rest
  pub size : at + length ws ≡ n
  pub spelled : Spelled s t ws

never : {A : Type 0} {t : Format} {n : ℕ} → ◌≡◌ {A = Parsed} none (some t n) → A
never e = let z : ◌≡◌ {A = ℕ} 0 1 = cc in absurd (omega arith)

-- the same read, said of an equal format and end
read_is : {s : Sort} {t u : Format} {n k : ℕ} {l : List ℕ} {at : ℕ} → ◌≡◌ {A = Parsed} (some u k) (some t n) → Read s u k l at → Read s t n l at
read_is {s} {t} {u} {n} {k} e r = let p : u ≡ t = cc in let q : k ≡ n = cc in rw (← p, ← q) r

-- what stands after a count, and after what is read
after_count : (l : List ℕ) (at : ℕ) {d : Count} {k : ℕ} (r : CountRead d k (drop at l)) → drop (at + k) l ≡ r.rest
after_count l at r = ap (λ (j : ℕ). drop (at + j) l) (sym r.size) ∙ past_bytes l at r.cs r.rest r.split

pub after_read : {s : Sort} {t : Format} {n : ℕ} {l : List ℕ} {at : ℕ} (r : Read s t n l at) → drop n l ≡ r.rest
after_read {s} {t} {n} {l} {at} r = ap (λ (j : ℕ). drop j l) (sym r.size) ∙ past_bytes l at r.ws r.rest r.split

counted_sound : {d c : Count} {k : Kind} {w n at j : ℕ} {l : List ℕ} → CountRead d j (drop at l) → Tail d c k w n (at + j) l → Read item (plain c k w) n l at
counted_sound {d} {c} {k} {w} {n} {at} {j} {l} r x =
    let whole : drop at l ≡ (r.cs ++ x.ps) ++ x.rest = r.split ∙ ap (λ (y : List ℕ). r.cs ++ y) (sym (after_count l at r) ∙ x.split) ∙ sym (append_assoc r.cs x.ps x.rest) in
    let size : at + length (r.cs ++ x.ps) ≡ n = simp length-append (omega (arith, r.size, x.size)) in
    record { ws = r.cs ++ x.ps; rest = x.rest; split = whole; size = size; spelled = counted (rw x.same at r.counted) x.plain }

scale_sound : {cs : List ℕ} {d : Count} → d ≡ times 1 → Counted d cs → cs ≡ 49 ∷ []
scale_sound e left_out = let z : ◌≡◌ {A = ℕ} 0 1 = cc in absurd (omega arith)
scale_sound e (written {n} s ns) = let one : n ≡ 1 = cc in one_spelled one ns

scaled_sound : {d c : Count} {w n at i : ℕ} {l : List ℕ} (j : ℕ) → d ≡ times 1 → drop (at + i) l ≡ 80 ∷ drop (at + i + 1) l → CountRead d i (drop at l)
    → CountRead c j (drop (at + i + 1) l)
    → Tail c c real w n (at + i + 1 + j) l → Read item (plain c real w) n l at
scaled_sound {d} {c} {w} {n} {at} {i} {l} j one first r q x =
    let ones = scale_sound one r.counted in
    let place : i ≡ 1 = sym r.size ∙ ap length ones in
    let second : drop (at + i + 1) l ≡ (q.cs ++ x.ps) ++ x.rest = q.split ∙ ap (λ (y : List ℕ). q.cs ++ y) (sym (after_count l (at + i + 1) q) ∙ x.split) ∙ sym (append_assoc q.cs x.ps x.rest) in
    let scale : r.rest ≡ 80 ∷ ((q.cs ++ x.ps) ++ x.rest) = sym (after_count l at r) ∙ first ∙ ap (λ (y : List ℕ). 80 ∷ y) second in
    let whole : drop at l ≡ 49 ∷ 80 ∷ ((q.cs ++ x.ps) ++ x.rest) = r.split ∙ ap (λ (y : List ℕ). y ++ r.rest) ones ∙ ap (λ (y : List ℕ). 49 ∷ y) scale in
    let size : at + suc (suc (length (q.cs ++ x.ps))) ≡ n = simp length-append (omega (arith, place, q.size, x.size)) in
    record { ws = 49 ∷ 80 ∷ (q.cs ++ x.ps); rest = x.rest; split = whole; size = size; spelled = scaled q.counted x.plain }

leaf_read : {d c : Count} {k : Kind} {w n at i : ℕ} {l : List ℕ} → CountRead d i (drop at l) → LeafRead d c k w n (at + i) l → Read item (plain c k w) n l at
leaf_read r (as_counted x) = counted_sound r x
leaf_read r (as_scaled j one e first q x) = rw (← e) (scaled_sound j one first r q x)

leaf_item : (d : Count) (i : ℕ) (l : List ℕ) (at : ℕ) (t : Format) (n : ℕ) → CountRead d i (drop at l) → (x : Leaf) → leaf_of d (at + i) l ≡ x → leaf x ≡ some t n
    → Read item t n l at
unfolding leaf
leaf_item d i l at t n r none lx e = never e
leaf_item d i l at t n r (some c k w j) lx e = read_is e (leaf_read r (leaf_sound d c k w j (at + i) l lx))

group_item : (d : Count) (i : ℕ) (l : List ℕ) (at : ℕ) (t : Format) (n : ℕ) → CountRead d i (drop at l) → drop (at + i) l ≡ 40 ∷ drop (at + i + 1) l → (x : Parsed)
    → ((u : Format) (j : ℕ) → x ≡ some u j → Read list u j l (at + i + 1)) → closed d l x ≡ some t n → Read item t n l at
unfolding closed
group_item d i l at t n r first none inside e = never e
group_item d i l at t n r first (some u j) inside e = go (eqb (get_or l j 0) 41) refl e
  where
    go : (b : Bool) → eqb (get_or l j 0) 41 ≡ b → ◌≡◌ {A = Parsed} (pick b (some (group d u) (j + 1)) none) (some t n) → Read item t n l at
    go false h e = never e
    go true h e =
        let q = inside u j refl in
        let tail = drop (j + 1) l in
        let closing : q.rest ≡ 41 ∷ tail = sym (after_read q) ∙ byte_there l j 40 h in
        let within : drop (at + i + 1) l ≡ (q.ws ++ (41 ∷ [])) ++ tail = q.split ∙ ap (λ (y : List ℕ). q.ws ++ y) closing ∙ sym (append_assoc q.ws (41 ∷ []) tail) in
        let opening : r.rest ≡ (40 ∷ (q.ws ++ (41 ∷ []))) ++ tail = sym (after_count l at r) ∙ first ∙ ap (λ (y : List ℕ). 40 ∷ y) within in
        let whole : drop at l ≡ (r.cs ++ (40 ∷ (q.ws ++ (41 ∷ [])))) ++ tail = r.split ∙ ap (λ (y : List ℕ). r.cs ++ y) opening ∙ sym (append_assoc r.cs (40 ∷ (q.ws ++ (41 ∷ []))) tail) in
        let size : at + length (r.cs ++ (40 ∷ (q.ws ++ (41 ∷ [])))) ≡ j + 1 = simp length-append (omega (arith, r.size, q.size)) in
        read_is e (record { ws = r.cs ++ (40 ∷ (q.ws ++ (41 ∷ []))); rest = tail; split = whole; size = size; spelled = brackets r.counted q.spelled })

more_list : (l : List ℕ) (at : ℕ) (t u : Format) (k n : ℕ) → Read item t k l at → drop k l ≡ 44 ∷ drop (k + 1) l → (x : Parsed)
    → ((v : Format) (j : ℕ) → x ≡ some v j → Read list v j l (k + 1)) → joined t x ≡ some u n → Read list u n l at
unfolding joined
more_list l at t u k n r first none rests e = never e
more_list l at t u k n r first (some v j) rests e =
    let q = rests v j refl in
    let comma-then : r.rest ≡ (44 ∷ q.ws) ++ q.rest = sym (after_read r) ∙ first ∙ ap (λ (y : List ℕ). 44 ∷ y) q.split in
    let whole : drop at l ≡ (r.ws ++ (44 ∷ q.ws)) ++ q.rest = r.split ∙ ap (λ (y : List ℕ). r.ws ++ y) comma-then ∙ sym (append_assoc r.ws (44 ∷ q.ws) q.rest) in
    let size : at + length (r.ws ++ (44 ∷ q.ws)) ≡ j = simp length-append (omega (arith, r.size, q.size)) in
    read_is e (record { ws = r.ws ++ (44 ∷ q.ws); rest = q.rest; split = whole; size = size; spelled = more r.spelled q.spelled })

item_cases : (m : ℕ) (l : List ℕ) (at : ℕ) (t : Format) (n : ℕ) → ((k : ℕ) (u : Format) (j : ℕ) → list_of m l k ≡ some u j → Read list u j l k)
    → (x : Counting) → count_of (drop at l) ≡ x → item_of (suc m) l at ≡ some t n → Read item t n l at
item_cases m l at t n lists none cx e = never (sym (item_none m l at cx) ∙ e)
item_cases m l at t n lists (some d i) cx e = go (eqb (get_or l (at + i) 0) 40) refl
  where
    r : CountRead d i (drop at l)
    r = count_sound (drop at l) d i cx

    go : (b : Bool) → eqb (get_or l (at + i) 0) 40 ≡ b → Read item t n l at
    go true h = group_item d i l at t n r (byte_there l (at + i) 39 h) (list_of m l (at + i + 1)) (λ u j q. lists (at + i + 1) u j q) (sym (item_group m l at d i cx h) ∙ e)
    go false h = leaf_item d i l at t n r (leaf_of d (at + i) l) refl (sym (item_leaf m l at d i cx h) ∙ e)

list_cases : (m : ℕ) (l : List ℕ) (at : ℕ) (u : Format) (n : ℕ) → ((k : ℕ) (t : Format) (j : ℕ) → list_of m l k ≡ some t j → Read list t j l k)
    → (x : Parsed) → item_of m l at ≡ x → ((t : Format) (j : ℕ) → x ≡ some t j → Read item t j l at) → list_of (suc m) l at ≡ some u n → Read list u n l at
list_cases m l at u n lists none ix items e = never (sym (list_none m l at ix) ∙ e)
list_cases m l at u n lists (some t k) ix items e = go (eqb (get_or l k 0) 44) refl
  where
    r : Read item t k l at
    r = items t k refl

    go : (b : Bool) → eqb (get_or l k 0) 44 ≡ b → Read list u n l at
    go true h = more_list l at t u k n r (byte_there l k 43 h) (list_of m l (k + 1)) (λ v j q. lists (k + 1) v j q) (sym (list_more m l at t k ix h) ∙ e)
    go false h = read_is (sym (list_last m l at t k ix h) ∙ e) (record { ws = r.ws; rest = r.rest; split = r.split; size = r.size; spelled = last r.spelled })

mutual
  unfolding item_of

  pub item_sound : (m : ℕ) (l : List ℕ) (at : ℕ) (t : Format) (n : ℕ) → item_of m l at ≡ some t n → Read item t n l at
  item_sound zero l at t n e = never e
  item_sound (suc m) l at t n e = item_cases m l at t n (λ k u j q. list_sound m l k u j q) (count_of (drop at l)) refl e

  pub list_sound : (m : ℕ) (l : List ℕ) (at : ℕ) (t : Format) (n : ℕ) → list_of m l at ≡ some t n → Read list t n l at
  list_sound zero l at t n e = never e
  list_sound (suc m) l at t n e = list_cases m l at t n (λ k u j q. list_sound m l k u j q) (item_of m l at) refl (λ u j q. item_sound m l at u j q) e
