-- The standing record as plain data, for a host that lends it: 16 numbers, of which the last three are 0, and a line of 96 bytes, of which the last
-- 15 are 0.
use Rattle.std.specs.Prelude.{◌≡◌, Bool, true, false, not, ◌||◌, List, [], ◌∷◌, ◌++◌, ℕ, ◌%◌, ◌<◌, ltb, eqb, length, get_or, take, drop, set, replicate}
use Rattle.laws.specs.Choice.{pick}
use Rattle.walk.specs.declared.Due.{Due}
use Rattle.walk.specs.declared.Place.{Place}
use Rattle.walk.specs.declared.Place.TheVariants.{Outside, Number, Plain, Typed}
use Rattle.walk.specs.Step.{state}
use Rattle.judge.specs.declared.Reply.{Reply}
use Rattle.judge.specs.Judge.{reply}
use Rattle.stream.specs.declared.Stream.{Stream}
use Rattle.stream.specs.Stream.{seen, Stepped, answer_of, paper, end_reply, fresh_record}

-- the room of a record: so many numbers and so many bytes
abbrev pub numbers_room : ℕ
numbers_room = 16

abbrev pub line_room : ℕ
line_room = 96

-- fewer are too short
abbrev pub is_short : List ℕ → List ℕ → Bool
is_short ns bs = ltb (length ns) numbers_room || ltb (length bs) line_room

-- the record that numbers and a line stand for: any do
abbrev pub due_of : List ℕ → Due
due_of ns = record { kind = get_or ns 1 0; at = get_or ns 2 0; case = get_or ns 3 0; left = get_or ns 4 0; second = get_or ns 5 0 }

unfoldable pub place_of : List ℕ → Place
place_of ns =
    pick (eqb (get_or ns 0 0) 0) Outside
    (pick (eqb (get_or ns 0 0) 1) Number
    (pick (eqb (get_or ns 0 0) 2) Plain
    (Typed (due_of ns))))

-- a refusal's number, 255 where it is more: no line can have it
unfoldable pub byte_of : ℕ → ℕ
byte_of n = pick (ltb 255 n) 255 n

unfoldable pub stream_of : List ℕ → List ℕ → Stream
stream_of ns bs =
    record {
      state = state (place_of ns) (get_or ns 6 0 % 4294967296);
      lines = get_or ns 7 0;
      number = byte_of (get_or ns 8 0);
      column = get_or ns 12 0;
      total = get_or ns 9 0;
      pending = take 81 bs;
      held = get_or ns 10 0;
      ended = not (eqb (get_or ns 11 0) 0);
    }

-- a record's numbers; those that a place does not use are 0
abbrev pub place_numbers : Place → List ℕ
place_numbers Outside = 0 ∷ 0 ∷ 0 ∷ 0 ∷ 0 ∷ 0 ∷ []
place_numbers Number = 1 ∷ 0 ∷ 0 ∷ 0 ∷ 0 ∷ 0 ∷ []
place_numbers Plain = 2 ∷ 0 ∷ 0 ∷ 0 ∷ 0 ∷ 0 ∷ []
place_numbers (Typed d) = 3 ∷ d.kind ∷ d.at ∷ d.case ∷ d.left ∷ d.second ∷ []

abbrev pub count_numbers : Stream → List ℕ
count_numbers c = c.state.sets ∷ c.lines ∷ c.number ∷ c.total ∷ c.held ∷ pick c.ended 1 0 ∷ []

-- those that no record uses
abbrev pub unused_numbers : List ℕ
unused_numbers = replicate 3 0

abbrev pub unused_bytes : List ℕ
unused_bytes = replicate 15 0

unfoldable pub numbers_of : Stream → List ℕ
numbers_of c = (place_numbers c.state.place ++ count_numbers c) ++ (c.column ∷ unused_numbers)

-- a record whose parts fit their types, as every program's do
pub record Fits (c : Stream) : Type 0 where
  pub sets : c.state.sets < 4294967296
  pub number : c.number < 256
  pub pending : length c.pending ≡ 81

-- the buffers with a record laid out at their start
abbrev pub numbers_after : Stream → List ℕ → List ℕ
numbers_after c ns = numbers_of c ++ drop numbers_room ns

abbrev pub line_after : Stream → List ℕ → List ℕ
line_after c bs = c.pending ++ (unused_bytes ++ drop line_room bs)

-- the start: a fresh record is laid out
unfoldable pub start_reply : List ℕ → List ℕ → Reply
start_reply ns bs = pick (is_short ns bs) (reply 20 0) (reply 0 0)

unfoldable pub start_numbers : List ℕ → List ℕ → List ℕ
start_numbers ns bs = pick (is_short ns bs) ns (numbers_after fresh_record ns)

unfoldable pub start_line : List ℕ → List ℕ → List ℕ
start_line ns bs = pick (is_short ns bs) bs (line_after fresh_record bs)

-- the end: the whole file's reply, and the record says that it was asked
unfoldable pub end_of : List ℕ → List ℕ → Reply
end_of ns bs = pick (is_short ns bs) (reply 20 0) (end_reply (seen (stream_of ns bs)))

unfoldable pub end_numbers : List ℕ → List ℕ → List ℕ
end_numbers ns bs = pick (is_short ns bs) ns (set ns 11 1)

-- a burst on the buffers ns and bs, which leaves ns' and bs' and replies r, in a form of replies. Refused: nothing is touched
pub record Untouched (ns bs ns' bs' : List ℕ) : Type 0 where
  pub numbers : ns' ≡ ns
  pub line : bs' ≡ bs

-- brought up to date: the record `left` is laid out, and is what the buffers then stand for
pub record Brought {A : Type 0} (form : Reply → A) (ns bs b ns' bs' : List ℕ) (r : A) : Type 0 where
  pub left : Stream
  pub stepped : Stepped (stream_of ns bs) b left
  pub numbers : ns' ≡ numbers_after left ns
  pub line : bs' ≡ line_after left bs
  pub again : stream_of ns' bs' ≡ left
  pub said : r ≡ form (paper (answer_of left.ended (seen left)))

-- 20 where the room is too short, then 23 "a burst after the end was asked"
pub record Burst {A : Type 0} (form : Reply → A) (ns bs b ns' bs' : List ℕ) (r : A) : Type 0 where
  pub short : is_short ns bs ≡ true → Untouched ns bs ns' bs' × (r ≡ form (reply 20 0))
  pub ended : is_short ns bs ≡ false → (stream_of ns bs).ended ≡ true → Untouched ns bs ns' bs' × (r ≡ form (reply 23 0))
  pub further : is_short ns bs ≡ false → (stream_of ns bs).ended ≡ false → Brought form ns bs b ns' bs' r

-- a reply as it is
abbrev pub same : Reply → Reply
same r = r
