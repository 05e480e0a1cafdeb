-- Answers as bytes in a lent buffer: for a stored number "20 bytes, little-endian: first byte u32, past byte u32, coefficient
-- u64, scale i16, sign u8 (1 if negative), a zero byte", for a value "one to three f64, 8 little-endian bytes each, abscissa first"; for a line's
-- field by a FORMAT (02, C-15) first byte u32 and past byte u32, little-endian, for a real the same 20 bytes as for a stored number.
use Rattle.std.specs.Prelude.{List, [], ◌∷◌, ◌++◌, ℕ, ◌-◌, ◌%◌, ltb, Float, ℤ, pos, negsuc, length, drop}
use Rattle.laws.specs.Choice.{pick}
use Rattle.exact.specs.Bits.{bits_of}
use Rattle.output.specs.Output.{bytes_of}
use Rattle.judge.specs.declared.Reply.{Reply}
use Rattle.reader.specs.Reader.{Said, said, refused_by, Shown, scale_of}
use Rattle.format_reader.specs.Question.{Seen, columns, number}
use Rattle.host.specs.Packed.{word, packed}

-- an i16 as its 16 bits, two's complement: what it is modulo 2^16
unfoldable pub twos_complement : ℤ → ℕ
twos_complement (pos n) = n % 65536
twos_complement (negsuc n) = 65535 - n % 65536

unfoldable pub number_bytes : Shown → List ℕ
number_bytes s =
    bytes_of 4 s.first
    ++ (bytes_of 4 s.past
    ++ (bytes_of 8 s.coefficient
    ++ (bytes_of 2 (twos_complement (scale_of s))
    ++ (pick s.sign 1 0 ∷ 0 ∷ []))))

unfoldable pub value_bytes : List Float → List ℕ
value_bytes [] = []
value_bytes (x ∷ xs) = bytes_of 8 (bits_of x) ++ value_bytes xs

-- an answer shown as bytes. For a stored number the place is 20, for a value its kind. A refusal shows nothing
unfoldable pub number_shown : Reply → List Shown → Said ℕ
number_shown r [] = refused_by r
number_shown r (s ∷ ss) = said r.number 20 (number_bytes s)

abbrev pub number_answer : Said Shown → Said ℕ
number_answer s = number_shown s.reply s.shown

abbrev pub value_answer : Said Float → Said ℕ
value_answer s = record { reply = s.reply; shown = value_bytes s.shown }

unfoldable pub seen_bytes : Seen → List ℕ
seen_bytes (columns a e) = bytes_of 4 a ++ bytes_of 4 e
seen_bytes (number x) = number_bytes x

unfoldable pub field_bytes : List Seen → List ℕ
field_bytes [] = []
field_bytes (x ∷ xs) = seen_bytes x ++ field_bytes xs

abbrev pub field_answer : Said Seen → Said ℕ
field_answer s = record { reply = s.reply; shown = field_bytes s.shown }

-- the reply, given how many bytes are lent: 20 "output too short" where they are fewer than the answer's, else what the answer says
unfoldable pub reply_for : Said ℕ → ℕ → ℕ
reply_for s lent = pick (ltb lent (length s.shown)) (packed 20 0) (word s.reply)

-- the lent bytes afterwards. "A refusal leaves every lent buffer untouched; a buffer longer than the answer keeps the rest"
unfoldable pub bytes_after : Said ℕ → List ℕ → List ℕ
bytes_after s out = pick (ltb (length out) (length s.shown)) out (s.shown ++ drop (length s.shown) out)
