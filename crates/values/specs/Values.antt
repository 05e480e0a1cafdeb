-- All values of a set at once: the C host's call `uff_values` ("every value of the set, abscissa, real, imaginary in turn", answering the
-- "number of f64 filled"). It says what the reader's values say, one after the other (EachLaws: `all_each`, `all_refused`).
use Rattle.std.specs.Prelude.{List, [], ◌∷◌, ◌++◌, map, ℕ, ltb, eqb, Float, length, drop}
use Rattle.laws.specs.Choice.{pick}
use Rattle.exact.specs.Bits.{bits_of}
use Rattle.parts.specs.Parts.{Part}
use Rattle.parts.specs.Function.{stored_of}
use Rattle.judge.specs.declared.Reply.{Reply}
use Rattle.judge.specs.Judge.{judged, reply}
use Rattle.reader.specs.Reader.{Said, refused, judged_first, sets_from, real_in, reads, whole, values_in}

-- "value i has the numbers ik to ik + k − 1": the stored numbers in order are the values in turn, and as many f64 are shown. 18 "no such set
-- .., or not a 58": no set, or one without values; 21, or any refusal of a number, is the whole question's
abbrev pub all_from : List ℕ → List Part → Said Float
all_from file [] = refused 18 0
all_from file (p ∷ ps) =
    pick (ltb 0 (values_in p)) (whole (stored_of p) [] (reads (real_in file p) 0 (stored_of p))) (refused 18 0)

-- all values of a set, counted from 1
unfoldable pub all_values : List ℕ → ℕ → Said Float
all_values file set = judged_first (judged file) (all_from file (sets_from file set))

-- the reply where so many places are lent: the refusal; 20, "output too short"; otherwise the number of f64
abbrev pub reply_in : Said Float → ℕ → Reply
reply_in s places =
    pick (ltb 0 s.reply.number) s.reply
    (pick (ltb places (length s.shown)) (reply 20 0) (reply 0 s.reply.place))

unfoldable pub all_reply : List ℕ → ℕ → ℕ → Reply
all_reply file set places = reply_in (all_values file set) places

-- the places, each the 64 bits of an f64, afterwards: as they were where the reply is a refusal, otherwise the values' bit patterns, "past
-- which it keeps its contents"
abbrev pub places_in : Said Float → List ℕ → List ℕ
places_in s out =
    pick (eqb (reply_in s (length out)).number 0) (map bits_of s.shown ++ drop (length s.shown) out) out

unfoldable pub all_places : List ℕ → ℕ → List ℕ → List ℕ
all_places file set out = places_in (all_values file set) out
