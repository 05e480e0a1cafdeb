-- What calls answer: the reader's questions by the list alone, where they are refused, a stored number as it stands in a text, a buffer that is filled.
use Rattle.std.specs.Prelude.{◌≡◌, Bool, List, [], ◌∷◌, ◌++◌, ℕ, suc, ◌*◌, ◌-◌, ◌<◌, ℤ, nat_abs, Float, length, take, drop, Ok, Err}
use Rattle.real.specs.Real.{below_zero}
use Rattle.real.specs.Spelling.{RealSpelling}
use Rattle.real.specs.Real.{Real}
use Rattle.real.specs.declared.RealFault.TheVariants.{Blank}
use Rattle.real.specs.Real as Real
use Rattle.field.specs.Item.{Item}
use Rattle.parts.specs.Parts.{Part}
use Rattle.parts.specs.Function.{first_byte, past_byte}
use Rattle.layout.specs.Layout.{numbers_of}
use Rattle.judge.specs.declared.Reply.{Reply}
use Rattle.judge.specs.Judge.{judged, reply}
use Rattle.lister.specs.Lister.{list_reply}
use Rattle.reader.specs.Reader.{Said, said, refused_by, refused, shown, reads, whole, value_kind, value_with, stored_number, value_of}
use Rattle.values.specs.Values.{all_values}
use Rattle.rewriter.specs.Rewriter.{rewrite_reply}
use Rattle.host.specs.Packed.{word}
use Rattle.theory.specs.Sets.{Set}
use Rattle.parts_laws.specs.Declares.{declared, set_case}
use Rattle.parts_laws.specs.Stored.{stored_count, stored_item}

-- an item that is a real, as a number; no stored number is any other item
abbrev pub real_of_item : Item → Real
real_of_item (Item.text t) = Err Blank
real_of_item (Item.integer z) = Err Blank
real_of_item Item.blank = Err Blank
real_of_item (Item.real n c s) = Ok (Real.number_of n c s)

-- value i of a 58 of the list: what the reader's rule makes of its stored numbers
unfoldable pub value_said : Set → ℕ → Said Float
value_said s i = value_with (λ (j : ℕ). real_of_item (stored_item s j)) (set_case s) i

-- all values of a 58 of the list: the f64 of its stored numbers, in order
unfoldable pub all_said : Set → Said Float
all_said s = whole (stored_count s) [] (reads (λ (j : ℕ). real_of_item (stored_item s j)) 0 (stored_count s))

-- the bytes of a stored number's own columns
unfoldable pub own_bytes : List ℕ → Part → ℕ → List ℕ
own_bytes bytes p j = take (past_byte p j - first_byte p j) (drop (first_byte p j) bytes)

-- stored number j of a set of the list that is this part of the text, as the reader answers for set k, from 1: the first and past byte of its own
-- columns, and the sign, coefficient and scale of the list's item, which the bytes there spell
pub record Answered (bytes : List ℕ) (k j : ℕ) (s : Set) (p : Part) : Type 0 where
  pub sign : Bool
  pub coefficient : ℕ
  pub scale : ℤ
  pub answer : stored_number bytes k j ≡ said 0 0 (shown (first_byte p j) (past_byte p j) sign coefficient (below_zero scale) (nat_abs scale) ∷ [])
  pub item : stored_item s j ≡ Item.real sign coefficient scale
  pub spelled : RealSpelling sign coefficient scale (own_bytes bytes p j)

-- these f64 are as many as a 58 of the list, set k from 0, stores numbers, and the question for each value shows its own part of them
pub record InTurn (bytes : List ℕ) (k : ℕ) (s : Set) (n : ℕ) (xs : List Float) : Type 0 where
  pub counted : n ≡ stored_count s
  pub long : length xs ≡ n
  pub value : (i : ℕ) → i < declared s
      → value_of bytes (suc k) i ≡ said 0 (value_kind (set_case s)) (take (numbers_of (set_case s)) (drop (i * numbers_of (set_case s)) xs))

-- every question for this set is 18, "no such set, number or field, or not a 58"
pub record NoSuch (bytes : List ℕ) (k i : ℕ) : Type 0 where
  pub number : stored_number bytes k i ≡ refused 18 0
  pub value : value_of bytes k i ≡ refused 18 0
  pub all : all_values bytes k ≡ refused 18 0

-- "The lister, reader and rewriter judge first": each answers what the judge does, and shows nothing
pub record AsJudged (bytes : List ℕ) (k i room : ℕ) : Type 0 where
  pub lister : list_reply bytes room ≡ judged bytes
  pub number : stored_number bytes k i ≡ refused_by (judged bytes)
  pub value : value_of bytes k i ≡ refused_by (judged bytes)
  pub all : all_values bytes k ≡ refused_by (judged bytes)
  pub rewriter : rewrite_reply bytes room ≡ judged bytes

-- a call that fills a buffer answers "the length, past which it keeps its contents": this much was laid into what stood there before
pub record Filled (text : List ℕ) (r : Reply) (before after : List ℕ) : Type 0 where
  pub answer : r ≡ reply 0 (length text)
  pub laid : after ≡ text ++ drop (length text) before

-- the same of a stored number, a value or a field that C asks for, whose word has this place
pub record FilledBy (text : List ℕ) (place w : ℕ) (before after : List ℕ) : Type 0 where
  pub answer : w ≡ word (reply 0 place)
  pub laid : after ≡ text ++ drop (length text) before

-- a field's kind, which is its place, and its bytes: a text or an integer has 8, a real 20
pub data KindBytes : (kind bytes : ℕ) → Type 0 where
  text : KindBytes 1 8
  integer : KindBytes 2 8
  real : KindBytes 3 20
