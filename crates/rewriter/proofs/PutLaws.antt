-- A dataset number spelled plainly, the length of a file rewritten, and its sets one by one.
use Rattle.std.specs.Prelude.{◌≡◌, None, Bool, true, false, leb, length, drop, set}
use Rattle.std.proofs.Math.Path.{refl}
use Rattle.std.proofs.Common.{sym, ap, ◌∙◌, add-one, arith, length-append, length-set, drop-cons, drop-set-lt, get_or-set_same}
use mathlib.Core.List.{List, [], ◌∷◌, ◌++◌, append_assoc, append-nil}
use Prim.Native.Nat.{ℕ, zero, suc, ◌+◌, ◌-◌, ◌*◌, ◌/◌, ◌≤◌, ◌<◌}
use borrow.Author.Tests.{lt-ltb, le-ltb, le-leb, leb-true, leb-false, ne_eqb}
use Rattle.std.proofs.Math.Seq.{drop-length}
use Rattle.parts.specs.Parts.{bytes_in, Part, parts_of, dataset_of, line_start, last_start, closing_start, past_of, through_of}
use Rattle.parts.specs.PartsLaws.{bytes_in_append}
use Rattle.parts.specs.declared.Extent.{Extent}
use Rattle.parts.specs.Set.{remaining, Standing}
use Rattle.parts.specs.SetLaws.{standing}
use Rattle.parts.specs.Accepted.{Sixes, AllSixes, more}
use Rattle.parts.specs.AcceptedLaws.{sets_whole}
use Rattle.parts.specs.Function.{part_case, stored_of}
use Rattle.parts.specs.declared.Counted.{Counted}
use Rattle.parts.specs.Counted.{declares, counted_by, counted_at}
use Rattle.parts.specs.CountedLaws.{counted_own}
use Rattle.parts.specs.Turn.{Between, Turn}
use Rattle.parts.specs.TurnLaws.{between_none}
use Rattle.judge.specs.declared.Reply.{Reply}
use Rattle.judge.specs.Judge.{judged, reply}
use Rattle.output.specs.Output.{Put, ended, placed}
use Rattle.output.specs.OutputLaws.{put_start, put_done, put_room, put_next}
use Rattle.rewriter.specs.Rewriter.{digit_or_blank, plain_in, plain_number, delimiter_line, lines_text, head_text, unpadded, set_text, rewritten_set, rewritten, rewritten_file, rewrite_reply, rewrite_out}
use Rattle.rewriter.specs.Body.{body_text, last_text, front_by, last_by, set_at}
use Rattle.rewriter.proofs.BodyLaws.{lines_text_most, unpadded_most, kept_own}

-- a number has as many columns as it is given
pub plain_in_length : (w v : ℕ) → length (plain_in w v) ≡ w
unfolding plain_in
plain_in_length zero v = refl
plain_in_length (suc w) v = length-append (plain_in w (v / 10)) _ ∙ rw (plain_in_length w (v / 10), add-one) refl

pub plain_number_length : (v : ℕ) → length (plain_number v) ≡ 6
unfolding plain_number
plain_number_length v = plain_in_length 6 v

-- a loop that lays out digits from the last: one column more, all of them
plain_digit : (i v : ℕ) (row : List ℕ) → i < length row → plain_in i (v / 10) ++ drop i (set row i (digit_or_blank v)) ≡ plain_in (suc i) v ++ drop (suc i) row
unfolding plain_in
plain_digit i v row h =
    let l : i < length (set row i (digit_or_blank v)) = simp length-set h in
    let q : i < suc i = omega arith in
    rw (drop-cons (set row i (digit_or_blank v)) i 0 l, get_or-set_same, drop-set-lt, append_assoc) refl

pub plain_next : (i v : ℕ) (row : List ℕ) → 0 < i → i ≤ length row
    → plain_in (i - 1) (v / 10) ++ drop (i - 1) (set row (i - 1) (digit_or_blank v)) ≡ plain_in i v ++ drop i row
plain_next i v row p h = let e : suc (i - 1) ≡ i = omega arith in plain_digit (i - 1) v row (omega arith) ∙ rw e refl

pub plain_start : (v : ℕ) (row : List ℕ) → length row ≡ 6 → plain_in 6 v ++ drop 6 row ≡ plain_number v
unfolding plain_number
plain_start v row h = rw (← h, drop-length, append-nil) refl

pub plain_done : (i v : ℕ) (row : List ℕ) → i ≤ 0 → row ≡ plain_in i v ++ drop i row
unfolding plain_in
plain_done i v row h = let e : i ≡ 0 = omega arith in rw e refl

-- the length of a set
head_text_length : (v : ℕ) → length (head_text v) ≡ 14
unfolding head_text
head_text_length v = let n : length (plain_number v) ≡ 6 = plain_number_length v in simp length-append (omega arith)

pub set_text_length : (v : ℕ) (ls : List (List ℕ)) → length (set_text v ls) ≡ length (lines_text ls) + 21
unfolding set_text
set_text_length v ls = let n : length (head_text v) ≡ 14 = head_text_length v in simp length-append (omega arith)

-- the lines that open a set, put one after the other
module _ (at v : ℕ) (out : List ℕ) (fits : at + length (head_text v) ≤ length out) where
  head_pieces : head_text v ≡ delimiter_line ++ ended (plain_number v)
  unfolding head_text
  head_pieces = refl

  pub delimiter_room : at + length delimiter_line ≤ length out
  delimiter_room = put_room at (head_text v) out at (head_text v) out (put_start at (head_text v) out) fits delimiter_line (ended (plain_number v)) head_pieces

  module _ (r : ℕ) (now row : List ℕ) (q : r ≡ at + length delimiter_line) (o : now ≡ placed at delimiter_line out) (n : row ≡ plain_number v) where
    opened : Put at (head_text v) out r (ended row) now
    opened =
        put_next at (head_text v) out at (head_text v) out (put_start at (head_text v) out) fits delimiter_line (ended row)
        (head_pieces ∙ rw n refl) r now q o

    pub number_room : r + length (ended row) ≤ length now
    number_room = put_room at (head_text v) out r (ended row) now opened fits (ended row) [] (sym (append-nil (ended row)))

    pub head_done : (past : ℕ) (then : List ℕ) → past ≡ r + length (ended row) → then ≡ placed r (ended row) now
        → (past ≡ at + length (head_text v)) × (then ≡ placed at (head_text v) out)
    head_done past then e p =
        put_done at (head_text v) out past [] then
        (put_next at (head_text v) out r (ended row) now opened fits (ended row) [] (sym (append-nil (ended row))) past then e p) refl

-- a set, put piece by piece
module _ (at : ℕ) (file : List ℕ) (e : Extent) (k : Counted) (c : k ≡ counted_at file e) (out : List ℕ) (fits : at + length (set_at file e) ≤ length out) where
  abbrev text : List ℕ
  text = set_at file e

  abbrev closing : List ℕ
  closing = last_by file e k ++ delimiter_line

  set_pieces : text ≡ head_text e.number ++ (front_by file e k ++ closing)
  unfolding set_at
  set_pieces = rw c refl

  pub head_room : at + length (head_text e.number) ≤ length out
  head_room = put_room at text out at text out (put_start at text out) fits (head_text e.number) (front_by file e k ++ closing) set_pieces

  module _ (r : ℕ) (now : List ℕ) (q : r ≡ at + length (head_text e.number)) (o : now ≡ placed at (head_text e.number) out) where
    headed : Put at text out r (front_by file e k ++ closing) now
    headed = put_next at text out at text out (put_start at text out) fits (head_text e.number) (front_by file e k ++ closing) set_pieces r now q o

    pub front_room : r + length (front_by file e k) ≤ length now
    front_room = put_room at text out r (front_by file e k ++ closing) now headed fits (front_by file e k) closing refl

    module _ (s : ℕ) (then : List ℕ) (f : s ≡ r + length (front_by file e k)) (p : then ≡ placed r (front_by file e k) now) where
      fronted : Put at text out s closing then
      fronted = put_next at text out r (front_by file e k ++ closing) now headed fits (front_by file e k) closing refl s then f p

      pub last_room : s + length (last_by file e k) ≤ length then
      last_room = put_room at text out s closing then fronted fits (last_by file e k) delimiter_line refl

      module _ (u : ℕ) (later : List ℕ) (g : u ≡ s + length (last_by file e k)) (l : later ≡ placed s (last_by file e k) then) where
        filled : Put at text out u delimiter_line later
        filled = put_next at text out s closing then fronted fits (last_by file e k) delimiter_line refl u later g l

        pub closing_room : u + length delimiter_line ≤ length later
        closing_room = put_room at text out u delimiter_line later filled fits delimiter_line [] refl

        pub set_done : (past : ℕ) (last : List ℕ) → past ≡ u + length delimiter_line → last ≡ placed u delimiter_line later
            → (past ≡ at + length text) × (last ≡ placed at text out)
        set_done past last x y = put_done at text out past [] last (put_next at text out u delimiter_line later filled fits delimiter_line [] refl past last x y) refl

-- its length
pub set_at_length : (file : List ℕ) (e : Extent) (k : Counted) → k ≡ counted_at file e → length (set_at file e) ≡ (length (front_by file e k) + length (last_by file e k)) + 21
unfolding set_at
set_at_length file e k c = let n : length (head_text e.number) ≡ 14 = head_text_length e.number in rw (← c) (simp length-append (omega arith))

-- the bytes of a set
past_of_most : (p : Part) → p.bytes + (bytes_in p.body + 3) ≤ past_of p
unfolding past_of bytes_in
past_of_most p = rw (bytes_in_append p.body (p.closing ∷ [])) (omega arith)

-- sets rewritten are at most seven times as long
set_most : (p : Part) → length (rewritten_set p) ≤ bytes_in p.body + 21
unfolding rewritten_set
set_most p = omega (arith, set_text_length (dataset_of p) (unpadded p), lines_text_most (unpadded p), unpadded_most p)

pub rewritten_most : (file : List ℕ) (n at : ℕ) (ps : List Part) → at ≤ length file → remaining file n at ≡ ps → length (rewritten ps) ≤ 7 * (length file - at)
unfolding rewritten
rewritten_most file n at [] a e = omega arith
rewritten_most file n at (p ∷ ps) a e =
    let s = standing file n at p ps a e in
    let m : length (rewritten ps) ≤ 7 * (length file - past_of p) = rewritten_most file (through_of p) (past_of p) ps s.past (sym s.rest) in
    simp length-append (omega (arith, set_most p, past_of_most p, s.from, s.past))

-- those of an accepted file are no longer than they were
set_fits : (p : Part) → Sixes p → p.bytes + length (rewritten_set p) ≤ past_of p
unfolding past_of bytes_in
set_fits p s = rw (bytes_in_append p.body (p.closing ∷ [])) (omega (arith, set_most p, s.opening, s.number, s.closing))

rewritten_fits : (file : List ℕ) (n at : ℕ) (ps : List Part) → at ≤ length file → remaining file n at ≡ ps → AllSixes ps → at + length (rewritten ps) ≤ length file
unfolding rewritten
rewritten_fits file n at [] a e w = omega arith
rewritten_fits file n at (p ∷ ps) a e (more x w) =
    let s = standing file n at p ps a e in
    let m : past_of p + length (rewritten ps) ≤ length file = rewritten_fits file (through_of p) (past_of p) ps s.past (sym s.rest) w in
    simp length-append (omega (arith, set_fits p x, s.from))

pub remaining_file : (file : List ℕ) → remaining file 0 0 ≡ parts_of file
unfolding parts_of
remaining_file file = refl

pub rewritten_start : (file : List ℕ) → rewritten (remaining file 0 0) ≡ rewritten_file file
rewritten_start file = ap rewritten (remaining_file file)

pub file_most : (file : List ℕ) → length (rewritten_file file) ≤ 7 * length file
file_most file = omega (arith, rewritten_most file 0 0 (parts_of file) (omega arith) (remaining_file file))

file_fits : (file : List ℕ) → (judged file).number ≤ 0 → length (rewritten_file file) ≤ length file
file_fits file h = omega (arith, rewritten_fits file 0 0 (parts_of file) (omega arith) (remaining_file file) (sets_whole file h))

pub file_room : (file : List ℕ) (room : ℕ) → (judged file).number ≤ 0 → length file ≤ room → true ≡ leb (length (rewritten_file file)) room
file_room file room h r = sym (le-leb (length (rewritten_file file)) room (omega (arith, file_fits file h)))

-- one turn of the loop over sets: from the byte at on, the set that stands where e says
module _ (file : List ℕ) (n at : ℕ) (e : Extent) where
  text_of : (p : Part) (ps : List Part) → remaining file n at ≡ p ∷ ps → Standing file n at p ps → ps ≡ remaining file e.through e.past
      → e.number ≡ dataset_of p → e.body ≡ line_start p 0 → e.closing ≡ closing_start p
      → (k : Counted) → counted_at file e ≡ k → k ≡ counted_by (declares (part_case p) (stored_of p)) (last_start p) (closing_start p)
      → rewritten (remaining file n at) ≡ set_at file e ++ rewritten (remaining file e.through e.past)
  unfolding rewritten rewritten_set set_text set_at
  text_of p ps sets s rest number body closing k found counted =
      let front : List ℕ = body_text k.line (line_start p 0) file in
      let last : List ℕ = last_text k.past (closing_start p) k.line file in
      rw (found, sets, ← rest, number, body, closing, ← kept_own file n at p ps s k counted)
      (ap (λ (x : List ℕ). (head_text (dataset_of p) ++ x) ++ rewritten ps) (append_assoc front last delimiter_line))

  pub turn_text : Turn file n at e → rewritten (remaining file n at) ≡ set_at file e ++ rewritten (remaining file e.through e.past)
  turn_text t =
      let f = t.first in
      text_of f.set f.others f.sets t.stands t.others f.number f.body f.closing _ refl (counted_own file n at e t)

  -- its lines are in the file
  pub turn_within : Turn file n at e → (e.body ≤ length file) × ((e.last ≤ length file) × (e.closing ≤ length file))
  turn_within t = (t.body, (t.last, omega (arith, t.first.closing, t.stands.later, t.stands.past)))

pub turn_none : (file : List ℕ) (n at : ℕ) → Between file n at None → rewritten (remaining file n at) ≡ []
unfolding rewritten
turn_none file n at b = rw (between_none file n at b) refl

pub turn_length : (file : List ℕ) (n at : ℕ) (e : Extent) → Turn file n at e
    → length (rewritten (remaining file n at)) ≡ length (set_at file e) + length (rewritten (remaining file e.through e.past))
turn_length file n at e t =
    omega (arith, ap length (turn_text file n at e t), length-append (set_at file e) (rewritten (remaining file e.through e.past)))

-- the set that stands there, put into the buffer
module _ (file out : List ℕ) (fits : length (rewritten_file file) ≤ length out) (n at : ℕ) (e : Extent) (t : Turn file n at e) (past : ℕ) (now : List ℕ)
    (p : Put 0 (rewritten_file file) out past (rewritten (remaining file n at)) now) where
  abbrev rest : List ℕ
  rest = rewritten (remaining file e.through e.past)

  pub set_room : past + length (set_at file e) ≤ length now
  set_room = put_room 0 (rewritten_file file) out past (rewritten (remaining file n at)) now p (omega arith) (set_at file e) rest (turn_text file n at e t)

  pub set_next : (r : ℕ) (then : List ℕ) → r ≡ past + length (set_at file e) → then ≡ placed past (set_at file e) now → Put 0 (rewritten_file file) out r rest then
  set_next r then q o =
      put_next 0 (rewritten_file file) out past (rewritten (remaining file n at)) now p (omega arith) (set_at file e) rest (turn_text file n at e t) r then q o

-- the buffer after a refusal, and after a text
refused_out : (file out : List ℕ) (r : Reply) → r ≡ rewrite_reply file (length out) → 0 < r.number → out ≡ rewrite_out file out
unfolding rewrite_out
refused_out file out r q h = rw (← q, ne_eqb r.number 0 (λ e. omega arith)) refl

accepted_out : (file out : List ℕ) (r : Reply) → r ≡ rewrite_reply file (length out) → r.number ≡ 0 → placed 0 (rewritten_file file) out ≡ rewrite_out file out
unfolding rewrite_out placed
accepted_out file out r q h =
    let z : 0 + length (rewritten_file file) ≡ length (rewritten_file file) = omega arith in
    rw (← q, h, z) refl

-- the three replies, and the buffer after each
module _ (file out : List ℕ) (j : Reply) (q : j ≡ judged file) where
  refused_reply : 0 < j.number → j ≡ rewrite_reply file (length out)
  unfolding rewrite_reply
  refused_reply h = rw (← q, lt-ltb 0 j.number h) refl

  pub refused_both : 0 < j.number → (j ≡ rewrite_reply file (length out)) × (out ≡ rewrite_out file out)
  refused_both h = (refused_reply h, refused_out file out j (refused_reply h) h)

  module _ (h : j.number ≤ 0) where
    abbrev n : ℕ
    n = length (rewritten_file file)

    pub room_known : (r : Bool) → r ≡ leb n (length out) → r ≡ true → n ≤ length out
    room_known r f t = leb-true n (length out) (sym f ∙ t)

    short_reply : length out < n → reply 20 0 ≡ rewrite_reply file (length out)
    unfolding rewrite_reply
    short_reply s = rw (← q, le-ltb 0 j.number h, lt-ltb (length out) n s) refl

    pub short_both : (r : Bool) → r ≡ leb n (length out) → r ≡ false → (reply 20 0 ≡ rewrite_reply file (length out)) × (out ≡ rewrite_out file out)
    short_both r f t =
        let s : length out < n = leb-false n (length out) (sym f ∙ t) in
        (short_reply s, refused_out file out (reply 20 0) (short_reply s) (omega arith))

    accepted_reply : n ≤ length out → reply 0 n ≡ rewrite_reply file (length out)
    unfolding rewrite_reply
    accepted_reply s = rw (← q, le-ltb 0 j.number h, le-ltb (length out) n s) refl

    pub accepted_both : n ≤ length out → (now : List ℕ) → now ≡ placed 0 (rewritten_file file) out
        → (reply 0 n ≡ rewrite_reply file (length out)) × (now ≡ rewrite_out file out)
    accepted_both s now o = (accepted_reply s, o ∙ accepted_out file out (reply 0 n) (accepted_reply s) refl)
