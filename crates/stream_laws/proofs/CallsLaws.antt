-- What a host is told that lends the record: after the start, however the file is cut into bursts, the end's reply is the judge's for the whole of
-- it, asked again too; each burst is answered by the bytes so far; a burst after the end is 23 and touches nothing.
use Rattle.std.specs.Prelude.{◌≡◌, refl, false, List, [], ◌∷◌, ◌++◌, ℕ, set, Result}
use Rattle.std.proofs.Common.{sym, ap, subst, ◌∙◌, arith, length-append, length-drop, length-set, set-set}
use Rattle.std.proofs.Math.ListN.{length, drop, length-replicate}
use Rattle.judge.specs.declared.Reply.{Reply}
use Rattle.judge.specs.Judge.{reply, judged}
use Rattle.stream.specs.declared.Stream.{Stream}
use Rattle.stream.specs.Stream.{seen, Stepped, answer_of, paper, closed, fresh_record}
use Rattle.stream.specs.StreamLaws.{fresh_says}
use Rattle.stream_c.specs.Lent.{numbers_room, line_room, unused_bytes, is_short, stream_of, numbers_of, start_numbers, start_line, end_of, end_numbers, Untouched, Brought, Burst}
use Rattle.stream_c.specs.LentLaws.{room, read_again, fresh_fits, end_closes}
use Rattle.stream_laws.specs.Streaming.{burst_answer, joined, Bursts}
use Rattle.stream_laws.specs.Streaming as S
use Rattle.stream_laws.proofs.StreamingLaws.{bursts_end, any_cut, any_cut_again, any_cut_answer}
use Rattle.stream_laws.specs.Calls.{Calls, none, more}

-- room that is enough stays enough
short_same : (ns bs ns₁ bs₁ : List ℕ) → length ns₁ ≡ length ns → length bs₁ ≡ length bs → is_short ns bs ≡ false → is_short ns₁ bs₁ ≡ false
short_same ns bs ns₁ bs₁ p q s = rw (p, q) s

-- a burst on a record whose end was not asked
record Further (ns bs b ns₁ bs₁ : List ℕ) : Type 0 where
  stepped : Stepped (stream_of ns bs) b (stream_of ns₁ bs₁)
  open_still : (stream_of ns₁ bs₁).ended ≡ false

further : {A : Type 0} {form : Reply → A} {ns bs b ns₁ bs₁ : List ℕ} {r : A} → (stream_of ns bs).ended ≡ false → Brought form ns bs b ns₁ bs₁ r → Further ns bs b ns₁ bs₁
further {ns = ns} {bs = bs} {b = b} e w =
    record {
      stepped = subst (Stepped (stream_of ns bs) b) (sym w.again) w.stepped;
      open_still = ap (λ (c : Stream). c.ended) w.again ∙ w.stepped.ended ∙ e;
    }

-- the record that the buffers stand for is brought up to date by the same bursts
record Kept (ns bs : List ℕ) (bursts : List (List ℕ)) (ns' bs' : List ℕ) : Type 0 where
  bursts_on : Bursts (stream_of ns bs) bursts (stream_of ns' bs')
  long : is_short ns' bs' ≡ false
  open_still : (stream_of ns' bs').ended ≡ false

calls_kept : {A : Type 0} {form : Reply → A} {ns bs ns' bs' : List ℕ} {bursts : List (List ℕ)} → is_short ns bs ≡ false → (stream_of ns bs).ended ≡ false
    → Calls form ns bs bursts ns' bs' → Kept ns bs bursts ns' bs'
calls_kept s e none = record { bursts_on = S.none; long = s; open_still = e }
calls_kept s e (more {ns = ns} {bs = bs} {ns₁ = ns₁} {bs₁ = bs₁} w p q k) =
    let f = further e (w.further s e) in
    let t = calls_kept (short_same ns bs ns₁ bs₁ p q s) f.open_still k in
    record { bursts_on = S.more f.stepped t.bursts_on; long = t.long; open_still = t.open_still }

-- the start lays out a fresh record, in room of the same length
module _ (ns bs : List ℕ) (s : is_short ns bs ≡ false) where
  pub start_fresh : stream_of (start_numbers ns bs) (start_line ns bs) ≡ fresh_record
  unfolding start_numbers start_line
  start_fresh = rw s (read_again fresh_record (drop numbers_room ns) (unused_bytes ++ drop line_room bs) fresh_fits)

  start_long : is_short (start_numbers ns bs) (start_line ns bs) ≡ false
  unfolding start_numbers start_line numbers_of fresh_record
  start_long =
      let w = room (length ns) (length bs) s in
      let a : length (start_numbers ns bs) ≡ length ns = rw s (simp (length-append, length-drop) (omega arith)) in
      let b : length (start_line ns bs) ≡ length bs = rw s (simp (length-append, length-replicate, length-drop) (omega arith)) in
      short_same ns bs (start_numbers ns bs) (start_line ns bs) a b s

-- the end marks it
marked : (ns bs : List ℕ) → is_short ns bs ≡ false → end_numbers ns bs ≡ set ns 11 1
unfolding end_numbers
marked ns bs s = rw s refl

-- what is said of a record that was started and then brought up to date by bursts
module _ {A : Type 0} {form : Reply → A} (ns bs : List ℕ) (s : is_short ns bs ≡ false) {ns' bs' : List ℕ} {bursts : List (List ℕ)}
    (k : Calls form (start_numbers ns bs) (start_line ns bs) bursts ns' bs') where
  kept_on : Kept (start_numbers ns bs) (start_line ns bs) bursts ns' bs'
  kept_on = calls_kept (start_long ns bs s) (ap (λ (c : Stream). c.ended) (start_fresh ns bs s) ∙ fresh_says.1) k

  from_fresh : Bursts fresh_record bursts (stream_of ns' bs')
  from_fresh = subst (λ (c : Stream). Bursts c bursts (stream_of ns' bs')) (start_fresh ns bs s) kept_on.bursts_on

  -- the end's reply is the judge's
  pub calls_end : end_of ns' bs' ≡ judged (joined bursts)
  unfolding end_of
  calls_end = rw kept_on.long (any_cut fresh_says.1 fresh_says.0 from_fresh)

  -- the end only marks the record
  end_marks : end_numbers ns' bs' ≡ set ns' 11 1
  end_marks = marked ns' bs' kept_on.long

  end_long : is_short (end_numbers ns' bs') bs' ≡ false
  end_long = rw end_marks (short_same ns' bs' (set ns' 11 1) bs' (length-set ns' 11 1) refl kept_on.long)

  end_closed : stream_of (end_numbers ns' bs') bs' ≡ closed (stream_of ns' bs')
  end_closed = rw end_marks (end_closes ns' bs' (room (length ns') (length bs') kept_on.long).0)

  -- asked again it is the same
  pub calls_again : end_of (end_numbers ns' bs') bs' ≡ judged (joined bursts)
  unfolding end_of
  calls_again = rw (end_long, end_closed) (any_cut_again fresh_says.1 fresh_says.0 from_fresh)

  -- the end marks the record once and for all, so this and the next hold however often it is asked
  pub calls_marked : end_numbers (end_numbers ns' bs') bs' ≡ end_numbers ns' bs'
  calls_marked = marked (end_numbers ns' bs') bs' end_long ∙ rw end_marks (set-set ns' 11 1 1)

  -- a burst more is answered by the bytes so far with it
  pub calls_answer : {b ns'' bs'' : List ℕ} {r : A} → Burst form ns' bs' b ns'' bs'' r → r ≡ form (paper (burst_answer (joined (bursts ++ (b ∷ [])))))
  calls_answer w =
      let u = w.further kept_on.long kept_on.open_still in
      let f = further kept_on.open_still u in
      u.said ∙ ap (λ (c : Stream). form (paper (answer_of c.ended (seen c)))) (sym u.again)
      ∙ ap (λ (a : Result ℕ Reply). form (paper a)) (any_cut_answer fresh_says.1 fresh_says.0 (bursts_end from_fresh f.stepped))

  -- after the end it is 23, and nothing is touched
  pub calls_late : {b ns'' bs'' : List ℕ} {r : A} → Burst form (end_numbers ns' bs') bs' b ns'' bs'' r → Untouched (end_numbers ns' bs') bs' ns'' bs'' × (r ≡ form (reply 23 0))
  unfolding closed
  calls_late w = w.ended end_long (ap (λ (c : Stream). c.ended) end_closed)
