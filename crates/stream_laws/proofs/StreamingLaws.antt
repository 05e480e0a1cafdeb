-- A file judged while it arrives is judged as the whole file, however it is cut into bursts. A burst takes what a record says of the bytes so far to
-- what those bytes with the burst give; so bursts bring a fresh record to what their joined bytes give. A burst's answer is 1 past the limit and
-- otherwise that of the finished lines, and "so far" counts them. The end's answer is the whole file's, asked again too. A refusal that a burst has told
-- is the end's, unless the file gets too long. After the end was asked, a burst is answered 23 and changes nothing. Of any record that is not ended,
-- one made up otherwise too: a burst adds its length to the running length, and past the limit is past for good.
use Rattle.std.specs.Prelude.{◌≡◌, refl, Bool, true, false, List, [], ◌∷◌, ◌++◌, ◌⊎◌, ℕ, ◌+◌, ◌≤◌, ◌<◌, ltb, eqb, length, Ok, Err}
use Rattle.std.proofs.Common.{sym, ap, ◌∙◌, append-nil, append_assoc, inl, inr, ⊎_elim, arith, lt-ltb, le-ltb, length-append}
use Prim.{tt}
use Rattle.laws.specs.Choice.{pick}
use Rattle.laws.specs.ChoiceLaws.{below_or_not}
use Rattle.laws.specs.Cut.{cut, over, judge}
use Rattle.laws.specs.CutLaws.{cut_append, over_append}
use Rattle.walk.specs.declared.Place.{Place}
use Rattle.walk.specs.declared.Place.TheVariants.{Outside, Number, Plain, Typed}
use Rattle.std.specs.Prelude.{Result}
use Rattle.walk.specs.declared.State.{State}
use Rattle.line.specs.declared.Refusal.{Refusal}
use Rattle.walk.specs.Step.{start}
use Rattle.judge.specs.declared.Reply.{Reply}
use Rattle.judge.specs.Judge.{Run, going, refused, reply, line_step, on_outcome, run_step, at_end, run_end, judged}
use Rattle.judge.specs.JudgeLaws.{over_refused}
use Rattle.stream.specs.declared.Stream.{Stream}
use Rattle.stream.specs.Stream.{OpenLine, open_of, longer, in_limit, past, kept, line_end, arrived, step_of, seen, Stepped, so_far, answer_of, end_reply, closed}
use Rattle.stream.specs.OpenLineLaws.{end_open}
use Rattle.stream.specs.StreamLaws.{arrived_refused, seen_closed}
use Rattle.stream_laws.specs.Streaming.{finished, after, run_answer, burst_answer, joined, Bursts, none, more}
use Rattle.stream_laws.specs.OpenLaws.{kept_append}

-- a fresh record says what no bytes give
pub fresh_after : in_limit (going start 0) (open_of []) 0 ≡ after []
unfolding after finished over cut
fresh_after = refl

-- the bytes so far, past the limit or within
after_past : (a : List ℕ) → 16777216 < length a → after a ≡ past
unfolding after
after_past a h = rw (lt-ltb 16777216 (length a) h) refl

after_within : (a : List ℕ) → length a ≤ 16777216 → after a ≡ kept (finished a) (open_of (cut a).rest) (length a)
unfolding after
after_within a h = rw (le-ltb 16777216 (length a) h) refl

-- one burst more, from the open line of the bytes so far
step_kept : (r : Run) (o : OpenLine) (b : List ℕ) (n : ℕ) → step_of (kept r o n) b ≡ pick (ltb 16777216 (n + length b)) past (arrived r o (cut b).lines (cut b).rest (n + length b))
unfolding step_of
step_kept (going s m) o b n = refl
step_kept (refused p) o b n =
    let none = arrived_refused p (open_of []) (cut b).lines (cut b).rest (n + length b) in
    ap (pick (ltb 16777216 (n + length b)) past) (none ∙ sym (arrived_refused p o (cut b).lines (cut b).rest (n + length b)))

after_append : (a b : List ℕ)
    → after (a ++ b) ≡ pick (ltb 16777216 (length a + length b)) past (arrived (finished a) (open_of (cut a).rest) (cut b).lines (cut b).rest (length a + length b))
unfolding after finished
after_append a b =
    rw (length-append a b)
    (ap (pick (ltb 16777216 (length a + length b)) past) (kept_append (going start 0) a b (length a + length b)))

-- A burst takes what the bytes so far give to what they give with the burst.
pub step_after : (a b : List ℕ) → step_of (after a) b ≡ after (a ++ b)
unfolding step_of
step_after a b =
    ⊎_elim
    (λ h. rw (after_past a h) (sym (after_past (a ++ b) (omega (arith, length-append a b)))))
    (λ h. rw (after_within a h) (step_kept (finished a) (open_of (cut a).rest) b (length a) ∙ sym (after_append a b)))
    (below_or_not 16777216 (length a))

-- the answer of a burst
so_far_kept : (r : Run) (o : OpenLine) (n : ℕ) → so_far (kept r o n) ≡ run_answer r
so_far_kept (going s m) o n = refl
so_far_kept (refused p) o n = refl

pub answer_after : (a : List ℕ) → answer_of false (after a) ≡ burst_answer a
unfolding answer_of after
answer_after a = go (ltb 16777216 (length a))
  where
    go : (t : Bool) → so_far (pick t past (kept (finished a) (open_of (cut a).rest) (length a))) ≡ pick t (Err (reply 1 0)) (run_answer (finished a))
    go true = refl
    go false = so_far_kept (finished a) (open_of (cut a).rest) (length a)

-- a run that goes on counts its lines
abbrev Counts : Run → ℕ → Type 0
Counts (going s m) n = m ≡ n
Counts (refused p) n = Unit

outcome_counts : (o : Result State Refusal) (m : ℕ) → Counts (on_outcome m o) (m + 1)
outcome_counts (Ok s) m = refl
outcome_counts (Err f) m = tt

step_counts : (r : Run) (l : List ℕ) (n : ℕ) → Counts r n → Counts (run_step r l) (n + 1)
step_counts (going s m) l n h = rw (← h) (outcome_counts (line_step s l) m)
step_counts (refused p) l n h = tt

over_counts : (r : Run) (ls : List (List ℕ)) (n : ℕ) → Counts r n → Counts (over run_step r ls) (n + length ls)
unfolding over
over_counts r [] n h = let e : n + 0 ≡ n = omega arith in rw e h
over_counts r (l ∷ ls) n h =
    let e : n + length (l ∷ ls) ≡ n + 1 + length ls = omega arith in
    rw e (over_counts (run_step r l) ls (n + 1) (step_counts r l n h))

-- "'so far' with the number of finished lines"
pub lines_after : (a : List ℕ) (n : ℕ) → burst_answer a ≡ Ok n → n ≡ length (cut a).lines
unfolding finished
lines_after a n h = go (ltb 16777216 (length a)) (finished a) h (over_counts (going start 0) (cut a).lines 0 refl)
  where
    go : (t : Bool) (r : Run) → pick t (Err (reply 1 0)) (run_answer r) ≡ Ok n → Counts r (0 + length (cut a).lines) → n ≡ length (cut a).lines
    go true r h k = cc
    go false (going s m) h k = let e : m ≡ n = cc in omega arith
    go false (refused p) h k = cc

-- the end's answer
end_kept : (r : Run) (l : List ℕ) (n : ℕ) → end_reply (kept r (open_of l) n) ≡ run_end r l
end_kept (going s m) l n = end_open (going s m) l
end_kept (refused p) l n = refl

pub end_after : (a : List ℕ) → end_reply (after a) ≡ judged a
unfolding after judged judge finished
end_after a = go (ltb 16777216 (length a))
  where
    go : (t : Bool) → end_reply (pick t past (kept (finished a) (open_of (cut a).rest) (length a))) ≡ pick t (reply 1 0) (run_end (finished a) (cut a).rest)
    go true = refl
    go false = end_kept (finished a) (cut a).rest (length a)

-- Bursts bring a fresh record to what their bytes give, however they are cut.
bursts_further : {c r : Stream} {bs : List (List ℕ)} (a : List ℕ) → c.ended ≡ false → seen c ≡ after a → Bursts c bs r → (r.ended ≡ false) × (seen r ≡ after (a ++ joined bs))
unfolding joined
bursts_further a e h none = (e, rw append-nil h)
bursts_further a e h (more {d = d} {b = b} {bs = bs} s k) =
    let g : seen d ≡ after (a ++ b) = s.further e ∙ rw h (step_after a b) in
    rw (append_assoc a b (joined bs)) at (bursts_further (a ++ b) (s.ended ∙ e) g k)

pub bursts_after : {c r : Stream} {bs : List (List ℕ)} → c.ended ≡ false → seen c ≡ in_limit (going start 0) (open_of []) 0 → Bursts c bs r → (r.ended ≡ false) × (seen r ≡ after (joined bs))
bursts_after e h k = bursts_further [] e (h ∙ fresh_after) k

-- One burst more: what is said below of the last burst's answer is so said of each.
pub bursts_end : {c r t : Stream} {bs : List (List ℕ)} {b : List ℕ} → Bursts c bs r → Stepped r b t → Bursts c (bs ++ (b ∷ [])) t
bursts_end none s = more s none
bursts_end (more u k) s = more u (bursts_end k s)

-- a run that is refused
run_told : (x : Run) (f : Reply) → run_answer x ≡ Err f → x ≡ refused f
run_told (going s m) f h = cc
run_told (refused r) f h = let e : r ≡ f = cc in rw e refl

-- A refusal that a burst has told is the whole file's, if that is not too long.
pub told_stays : (a b : List ℕ) (f : Reply) → burst_answer a ≡ Err f → length (a ++ b) ≤ 16777216 → judged (a ++ b) ≡ f
unfolding judged judge finished
told_stays a b f h l =
    let m : length a ≤ 16777216 = omega (arith, length-append a b) in
    let t : run_answer (finished a) ≡ Err f = rw (le-ltb 16777216 (length a) m) at h in
    let e : finished a ≡ refused f = run_told (finished a) f t in
    rw (le-ltb 16777216 (length (a ++ b)) l, cut_append a b, over_append run_step (going start 0) (cut a).lines (cut ((cut a).rest ++ b)).lines, e, over_refused f (cut ((cut a).rest ++ b)).lines) refl

-- Where it is "so far", no finished line is refused: a file that ends here is refused, if at all, on the line after them, or has no set.
abbrev Beyond : ℕ → Reply → Type 0
Beyond n r = (r ≡ reply 0 n) ⊎ ((r ≡ reply 16 0) ⊎ (r.place ≡ n + 1))

end_beyond : (p : Place) (sets n : ℕ) → Beyond n (at_end p sets n)
end_beyond Outside sets n = go (eqb sets 0)
  where
    go : (t : Bool) → Beyond n (pick t (reply 16 0) (reply 0 n))
    go true = inr (inl refl)
    go false = inl refl
end_beyond Number sets n = inr (inr refl)
end_beyond Plain sets n = inr (inr refl)
end_beyond (Typed d) sets n = inr (inr refl)

pub so_far_beyond : (a : List ℕ) (n : ℕ) → burst_answer a ≡ Ok n → (judged a ≡ reply 0 n) ⊎ ((judged a ≡ reply 16 0) ⊎ ((judged a).place ≡ n + 1))
unfolding judged judge finished
so_far_beyond a n h = go (ltb 16777216 (length a)) (finished a) (cut a).rest h
  where
    go : (t : Bool) (r : Run) (l : List ℕ) → pick t (Err (reply 1 0)) (run_answer r) ≡ Ok n → Beyond n (pick t (reply 1 0) (run_end r l))
    go true r l h = let z : n ≡ n + 1 = cc in absurd (omega arith)
    go false (going s m) [] h = let e : m ≡ n = cc in rw e (end_beyond s.place s.sets n)
    go false (going s m) (b ∷ bs) h = let e : m ≡ n = cc in rw e (inr (inr refl))
    go false (refused p) l h = let z : n ≡ n + 1 = cc in absurd (omega arith)

-- asking for the end again changes nothing
pub closed_again : (r : Stream) → closed (closed r) ≡ closed r
unfolding closed
closed_again r = refl

-- 23, "a burst after the end was asked, first of all": the record stays as it is.
pub after_end : {t : Stream} {b : List ℕ} (r : Stream) → Stepped (closed r) b t → (t ≡ closed r) × (answer_of t.ended (seen t) ≡ Err (reply 23 0))
unfolding closed answer_of
after_end r s = (s.untouched refl, rw s.ended refl)

-- What any record says, one made up otherwise too: past the limit is past for good,
pub past_stays : (b : List ℕ) → step_of past b ≡ past
unfolding step_of
past_stays b = refl

-- and until then the running length grows by the burst's, so it never falls.
pub length_grows : {r' : Run} {o' : OpenLine} {n' : ℕ} (r : Run) (o : OpenLine) (n : ℕ) (b : List ℕ) → step_of (in_limit r o n) b ≡ in_limit r' o' n' → n' ≡ n + length b
unfolding step_of
length_grows {r'} {o'} {n'} r o n b h = go (ltb 16777216 (n + length b)) (cut b).lines h
  where
    kept_grows : (x : Run) (p : OpenLine) → kept x p (n + length b) ≡ in_limit r' o' n' → n' ≡ n + length b
    kept_grows (going s m) p h = cc
    kept_grows (refused f) p h = cc

    go : (t : Bool) (ls : List (List ℕ)) → pick t past (arrived r o ls (cut b).rest (n + length b)) ≡ in_limit r' o' n' → n' ≡ n + length b
    go true ls h = cc
    go false [] h = kept_grows r (longer o (cut b).rest) h
    go false (l ∷ ls) h = kept_grows (over run_step (line_end r (longer o l)) ls) (open_of (cut b).rest) h

-- What is said of a fresh record brought up to date by bursts.
module _ {c r : Stream} {bs : List (List ℕ)} (e : c.ended ≡ false) (h : seen c ≡ in_limit (going start 0) (open_of []) 0) (k : Bursts c bs r) where
  -- The answer of the last burst, if there is one, is that of the bytes so far.
  pub any_cut_answer : answer_of r.ended (seen r) ≡ burst_answer (joined bs)
  any_cut_answer =
      let b = bursts_after e h k in
      ap (λ (t : Bool). answer_of t (seen r)) b.0 ∙ ap (answer_of false) b.1 ∙ answer_after (joined bs)

  -- "However it is cut, bursts of no bytes too, the end answer is the whole file's, asked again too."
  pub any_cut : end_reply (seen r) ≡ judged (joined bs)
  any_cut = rw (bursts_after e h k).1 (end_after (joined bs))

  pub any_cut_again : end_reply (seen (closed r)) ≡ judged (joined bs)
  any_cut_again = rw (seen_closed r) any_cut

  -- and after a burst that was answered 23.
  pub any_cut_later : {t : Stream} {b : List ℕ} → Stepped (closed r) b t → end_reply (seen t) ≡ judged (joined bs)
  any_cut_later s = rw (after_end r s).0 any_cut_again
