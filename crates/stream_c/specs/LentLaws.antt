-- A record that was laid out is read again as itself; the buffers after a start, a burst and the end.
use Rattle.std.specs.Prelude.{◌≡◌, Bool, ◌||◌, List, [], ◌∷◌, ◌++◌, ℕ, ◌+◌, ◌%◌, ◌≤◌, ◌<◌, ltb, length, get_or, take, drop, set, min}
use Rattle.std.proofs.Math.Path.{refl}
use Rattle.std.proofs.Common.{sym, ap, ◌∙◌, append_assoc, arith, ltb-false, lt-ltb, le-ltb, ⊎_elim, eq-eqb, ne_eqb, length-append, drop_at, drop-drop, get_or-set_same, get_or-set_other}
use Rattle.std.proofs.Math.Bool.{true, false}
use borrow.Rule.Slice.PartMut.{put_mid}
use mir.Val.{bool_byte}
use Rattle.std.proofs.Math.Seq.{take_at}
use Rattle.laws.specs.Choice.{pick}
use Rattle.laws.specs.ChoiceLaws.{false_not_true, below_or_not}
use Rattle.walk.specs.declared.Place.{Place}
use Rattle.walk.specs.declared.Place.TheVariants.{Outside, Number, Plain, Typed}
use Rattle.walk.specs.Step.{state}
use Rattle.judge.specs.declared.Reply.{Reply}
use Rattle.judge.specs.Judge.{reply}
use Rattle.stream.specs.declared.Stream.{Stream}
use Rattle.stream.specs.Stream.{seen, closed, Stepped, answer_of, paper, end_reply, fresh_record}
use Rattle.output.specs.Output.{placed}
use Rattle.output.specs.OutputLaws.{placed_then, placed_first}
use Rattle.stream_c.specs.Lent.{numbers_room, line_room, place_of, stream_of, place_numbers, count_numbers, unused_numbers, unused_bytes, byte_of, numbers_of, Fits}
use Rattle.stream_c.specs.Lent.{numbers_after, line_after, is_short, start_reply, start_numbers, start_line, end_of, end_numbers, Burst, same}

-- numbers p at the start, then q after them, by a part that is lent
laid_after : (p q ns ns₁ : List ℕ) (n m : ℕ) → length p ≡ n → ns₁ ≡ p ++ drop n ns → put_mid n m ns₁ q ≡ (p ++ q) ++ drop (n + m) ns
laid_after p q ns ns₁ n m l e =
    let t : take n ns₁ ≡ p = rw e (take_at p (drop n ns) n l) in
    let d : drop n ns₁ ≡ drop n ns = rw e (drop_at p (drop n ns) n l) in
    rw (t, d, drop-drop m n ns, append_assoc p q (drop (n + m) ns)) refl

place_length : (p : Place) → length (place_numbers p) ≡ 6
place_length Outside = refl
place_length Number = refl
place_length Plain = refl
place_length (Typed d) = refl

-- a refusal's number, by the smaller of two
pub byte_least : (n : ℕ) → min n 255 ≡ byte_of n
unfolding byte_of
byte_least n = ⊎_elim (λ l. rw (lt-ltb 255 n l) (omega arith)) (λ l. rw (le-ltb 255 n l) (omega arith)) (below_or_not 255 n)

-- the number of a flag
flag_of : (b : Bool) → bool_byte b ≡ pick b 1 0
flag_of true = refl
flag_of false = refl

-- a record's numbers, laid one part after the other
module _ (c : Stream) (ns : List ℕ) where
  used_length : length (place_numbers c.state.place ++ count_numbers c) ≡ 12
  used_length = length-append (place_numbers c.state.place) (count_numbers c) ∙ rw (place_length c.state.place) refl

  pub laid_record : (f : ℕ) → f ≡ bool_byte c.ended
      → put_mid 12 4 (put_mid 6 6 (place_numbers c.state.place ++ drop 6 ns) (c.state.sets ∷ c.lines ∷ c.number ∷ c.total ∷ c.held ∷ f ∷ [])) (c.column ∷ unused_numbers)
      ≡ numbers_after c ns
  unfolding numbers_of
  laid_record f g =
      let used = laid_after (place_numbers c.state.place) (count_numbers c) ns (place_numbers c.state.place ++ drop 6 ns) 6 6 (place_length c.state.place) refl in
      rw (g, flag_of c.ended) (laid_after (place_numbers c.state.place ++ count_numbers c) (c.column ∷ unused_numbers) ns _ 12 4 used_length used)

-- a record's line, then the bytes that it does not use
pub laid_line : (p line l₁ l₂ : List ℕ) (past : ℕ) → length p ≡ 81 → past ≡ 0 + length p → l₁ ≡ placed 0 p line → l₂ ≡ placed past unused_bytes l₁
    → l₂ ≡ p ++ (unused_bytes ++ drop line_room line)
laid_line p line l₁ l₂ past h q e f =
    let n : length (p ++ unused_bytes) ≡ line_room = length-append p unused_bytes ∙ rw h refl in
    f ∙ rw (q, e) (placed_then 0 p line unused_bytes (omega arith)) ∙ placed_first (p ++ unused_bytes) line ∙ rw (n, append_assoc p unused_bytes (drop line_room line)) refl

-- the room of a record
pub room : (n m : ℕ) → ltb n numbers_room || ltb m line_room ≡ false → (numbers_room ≤ n) × (line_room ≤ m)
room n m e = go (ltb n numbers_room) refl (ltb m line_room) refl e
  where
    go : (s : Bool) → ltb n numbers_room ≡ s → (t : Bool) → ltb m line_room ≡ t → s || t ≡ false → (numbers_room ≤ n) × (line_room ≤ m)
    go true p t q h = false_not_true (sym h)
    go false p true q h = false_not_true (sym h)
    go false p false q h = (ltb-false n numbers_room p, ltb-false m line_room q)

-- a record that was laid out is read again as itself
module _ (sets lines number column total held : ℕ) (pending x y : List ℕ) (s : sets < 4294967296) (n : number < 256) (l : length pending ≡ 81) where
  abbrev made : Place → Bool → Stream
  made p e = record { state = state p sets; lines = lines; number = number; column = column; total = total; pending = pending; held = held; ended = e }

  sets_same : sets % 4294967296 ≡ sets
  sets_same = omega arith

  number_same : byte_of number ≡ number
  unfolding byte_of
  number_same = rw (le-ltb 255 number (omega arith)) refl

  parts_again : (p : Place) (e : Bool) → stream_of (numbers_of (made p e) ++ x) (pending ++ y) ≡ made p e
  unfolding stream_of place_of numbers_of
  parts_again Outside true = rw (sets_same, number_same, take_at pending y 81 l) refl
  parts_again Outside false = rw (sets_same, number_same, take_at pending y 81 l) refl
  parts_again Number true = rw (sets_same, number_same, take_at pending y 81 l) refl
  parts_again Number false = rw (sets_same, number_same, take_at pending y 81 l) refl
  parts_again Plain true = rw (sets_same, number_same, take_at pending y 81 l) refl
  parts_again Plain false = rw (sets_same, number_same, take_at pending y 81 l) refl
  parts_again (Typed d) true = rw (sets_same, number_same, take_at pending y 81 l) refl
  parts_again (Typed d) false = rw (sets_same, number_same, take_at pending y 81 l) refl

pub read_again : (c : Stream) (x y : List ℕ) → Fits c → stream_of (numbers_of c ++ x) (c.pending ++ y) ≡ c
read_again c x y f = parts_again c.state.sets c.lines c.number c.column c.total c.held c.pending x y f.sets f.number f.pending c.state.place c.ended

-- a fresh record fits
pub fresh_fits : Fits fresh_record
unfolding fresh_record
fresh_fits = record { sets = omega arith; number = omega arith; pending = refl }

-- the end closes the record
pub end_closes : (ns bs : List ℕ) → numbers_room ≤ length ns → stream_of (set ns 11 1) bs ≡ closed (stream_of ns bs)
unfolding stream_of place_of closed
end_closes ns bs h =
    let k : (j : ℕ) → (j ≡ 11 → ⊥) → get_or (set ns 11 1) j 0 ≡ get_or ns j 0 = λ j l. get_or-set_other ns 11 j 1 0 l in
    rw (
      get_or-set_same ns 11 1 0 (omega arith),
      k 0 (λ e. omega arith),
      k 1 (λ e. omega arith),
      k 2 (λ e. omega arith),
      k 3 (λ e. omega arith),
      k 4 (λ e. omega arith),
      k 5 (λ e. omega arith),
      k 6 (λ e. omega arith),
      k 7 (λ e. omega arith),
      k 8 (λ e. omega arith),
      k 9 (λ e. omega arith),
      k 10 (λ e. omega arith),
      k 12 (λ e. omega arith),
    ) refl

-- a start, by the room
module _ (ns bs : List ℕ) where
  abbrev Started : List ℕ → List ℕ → Reply → Type 0
  Started ns' bs' r = (r ≡ start_reply ns bs) × (ns' ≡ start_numbers ns bs) × (bs' ≡ start_line ns bs)

  pub start_short : is_short ns bs ≡ true → Started ns bs (reply 20 0)
  unfolding start_reply start_numbers start_line
  start_short s = (rw s refl, rw s refl, rw s refl)

  pub start_lays : is_short ns bs ≡ false → (c : Stream) → c ≡ fresh_record → (ns' bs' : List ℕ) → ns' ≡ numbers_after c ns → bs' ≡ line_after c bs → Started ns' bs' (reply 0 0)
  unfolding start_reply start_numbers start_line
  start_lays s c e ns' bs' p q = (rw s refl, rw (s, ← e) p, rw (s, ← e) q)

-- an end, by the room
module _ (ns bs : List ℕ) where
  abbrev Ended : List ℕ → Reply → Type 0
  Ended ns' r = (r ≡ end_of ns bs) × (ns' ≡ end_numbers ns bs)

  pub end_short : is_short ns bs ≡ true → Ended ns (reply 20 0)
  unfolding end_of end_numbers
  end_short s = (rw s refl, rw s refl)

  pub end_says : is_short ns bs ≡ false → (c : Stream) → c ≡ stream_of ns bs → (r : Reply) → r ≡ end_reply (seen c) → Ended (set ns 11 1) r
  unfolding end_of end_numbers
  end_says s c e r q = (rw (s, ← e) q, rw s refl)

-- whether the end was asked
asked : (ns bs : List ℕ) → 0 < get_or ns 11 0 → (stream_of ns bs).ended ≡ true
unfolding stream_of
asked ns bs h = rw (ne_eqb (get_or ns 11 0) 0 (λ e. omega arith)) refl

not_asked : (ns bs : List ℕ) → get_or ns 11 0 ≤ 0 → (stream_of ns bs).ended ≡ false
unfolding stream_of
not_asked ns bs h = rw (eq-eqb (get_or ns 11 0) 0 (omega arith)) refl

-- a burst, by the room and by whether the end was asked
module _ (ns bs b : List ℕ) where
  pub burst_short : is_short ns bs ≡ true → Burst same ns bs b ns bs (reply 20 0)
  burst_short s =
      record {
        short = λ h. (record { numbers = refl; line = refl }, refl);
        ended = λ h. false_not_true (sym h ∙ s);
        further = λ h. false_not_true (sym h ∙ s);
      }

  module _ (s : is_short ns bs ≡ false) where
    pub burst_ended : 0 < get_or ns 11 0 → Burst same ns bs b ns bs (reply 23 0)
    burst_ended h =
        record {
          short = λ t. false_not_true (sym s ∙ t);
          ended = λ t e. (record { numbers = refl; line = refl }, refl);
          further = λ t e. false_not_true (sym e ∙ asked ns bs h);
        }

    pub burst_further : get_or ns 11 0 ≤ 0 → (c : Stream) → c ≡ stream_of ns bs → (left : Stream) → Stepped c b left → Fits left
        → (ns' bs' : List ℕ) → ns' ≡ numbers_after left ns → bs' ≡ line_after left bs
        → (r : Reply) → r ≡ paper (answer_of left.ended (seen left)) → Burst same ns bs b ns' bs' r
    burst_further h c q left w f ns' bs' p l r a =
        record {
          short = λ t. false_not_true (sym s ∙ t);
          ended = λ t e. false_not_true (sym (not_asked ns bs h) ∙ e);
          further = λ t e. record { left = left; stepped = rw (← q) w; numbers = p; line = l; again = rw (p, l) (read_again left (drop numbers_room ns) (unused_bytes ++ drop line_room bs) f); said = a };
        }

-- the same, with the reply in another form
pub burst_in : {A : Type 0} (form : Reply → A) (ns bs b ns' bs' : List ℕ) (r : Reply) → Burst same ns bs b ns' bs' r → Burst form ns bs b ns' bs' (form r)
burst_in form ns bs b ns' bs' r k =
    record {
      short = λ h. ((k.short h).0, ap form (k.short h).1);
      ended = λ h e. ((k.ended h e).0, ap form (k.ended h e).1);
      further = λ h e.
          record {
            left = (k.further h e).left;
            stepped = (k.further h e).stepped;
            numbers = (k.further h e).numbers;
            line = (k.further h e).line;
            again = (k.further h e).again;
            said = ap form (k.further h e).said;
          };
    }
