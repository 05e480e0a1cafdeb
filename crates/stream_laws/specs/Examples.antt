-- Bursts and what they answer, computed from the definitions.
use Rattle.std.specs.Prelude.{◌≡◌, refl, true, false, List, [], ◌∷◌, ◌++◌, ℕ, replicate, Result, Ok, Err}
use Rattle.std.proofs.Common.{sym, ap, ◌∙◌, arith}
use Prim.Native.String as S
use Prim.Native.String.{String}
use Prim.Native.Char.{code}
use Rattle.laws.specs.ChoiceLaws.{false_not_true}
use Rattle.laws.specs.Run.{run}
use Rattle.laws.specs.Cut.{cut, over}
use Rattle.text.specs.Blank.{all_blank}
use Rattle.text.specs.Parts.{is_digit}
use Rattle.integer.specs.Integer as I
use Rattle.integer.specs.Integer.{step_integer, end_integer, integer_of}
use Rattle.line.specs.Line.{is_allowed, without_return, columns, first_bad, line_fault, filled}
use Rattle.delimiter.specs.Kind.{then_blank, is_delimiter, dataset_number}
use Rattle.record_table.specs.TypedSets.{kind_of, is_typed, typed_sets}
use Rattle.walk.specs.Step as W
use Rattle.walk.specs.Step.{start, opened, outside_step, number_step, plain_step}
use Rattle.judge.specs.declared.Reply.{Reply}
use Rattle.judge.specs.Judge.{going, reply, reply_at, line_step}
use Rattle.stream.specs.declared.Stream.{Stream}
use Rattle.stream.specs.Stream.{open_of, longer, columns_of, fault_of, open_outcome, Seen, in_limit, past, step_of, seen, Stepped, answer_of, end_reply, closed}

-- a burst's step as it is computed: to open this name is to open every definition that it computes with, but those of a set's lines
unfoldable computed_step : Seen → List ℕ → Seen
unfolding step_of answer_of open_of longer columns_of fault_of open_outcome over cut is_allowed without_return columns first_bad line_fault line_step
computed_step seen burst = step_of seen burst

abbrev bytes : String → List ℕ
bytes S.[] = []
bytes (S.◌∷◌ c s) = code c ∷ bytes s

-- the answers of bursts to a record, in order
abbrev answers : Seen → List (List ℕ) → List (Result ℕ Reply)
answers s [] = []
answers s (b ∷ bs) = answer_of false (step_of s b) ∷ answers (step_of s b) bs

-- and what the end answers after them
abbrev ends : Seen → List (List ℕ) → Reply
ends s [] = end_reply s
ends s (b ∷ bs) = ends (step_of s b) bs

abbrev fresh : Seen
fresh = in_limit (going start 0) (open_of []) 0

abbrev length_of : Seen → ℕ
length_of past = 0
length_of (in_limit r o n) = n

abbrev lines_of : Result ℕ Reply → ℕ
lines_of (Ok n) = n
lines_of (Err r) = 0

-- each CR ends a burst, and its LF begins the next; the last burst has no bytes. A judge that takes a burst's end for a line's end refuses it.
abbrev returns : List (List ℕ)
returns = (bytes "    -1" ++ (13 ∷ [])) ∷ ((10 ∷ bytes "  2420") ++ (13 ∷ [])) ∷ ((10 ∷ bytes "    -1") ++ (13 ∷ [])) ∷ (10 ∷ []) ∷ [] ∷ []

pub returns_accepted : (answers fresh returns ≡ Ok 0 ∷ Ok 1 ∷ Ok 2 ∷ Ok 3 ∷ Ok 3 ∷ []) × (ends fresh returns ≡ reply 0 3)
unfolding computed_step run all_blank is_digit I.push step_integer end_integer integer_of filled then_blank is_delimiter dataset_number kind_of is_typed typed_sets opened outside_step number_step plain_step W.step_of
returns_accepted = (refl, refl)

-- a CR that ends a burst and has no LF after it is a byte not allowed. A judge that drops it at once accepts the line.
pub return_alone : answers fresh ((bytes "    -" ++ (13 ∷ [])) ∷ (bytes "1" ++ (10 ∷ [])) ∷ []) ≡ Ok 0 ∷ Err (reply_at 2 1 6) ∷ []
unfolding computed_step
return_alone = refl

-- a line of 85 bytes, the 83rd of them not allowed. A judge that keeps only its first bytes answers 3, and one that counts from a burst's first byte column 1.
pub late_byte : answers fresh (replicate 82 32 ∷ (9 ∷ []) ∷ (32 ∷ 32 ∷ []) ∷ (10 ∷ []) ∷ []) ≡ Ok 0 ∷ Ok 0 ∷ Ok 0 ∷ Err (reply_at 2 1 83) ∷ []
unfolding computed_step
late_byte = refl

-- 84 blanks, then CR LF: 3, since the CR belongs to the end
pub late_return : answers fresh (replicate 84 32 ∷ (13 ∷ []) ∷ (10 ∷ []) ∷ []) ≡ Ok 0 ∷ Ok 0 ∷ Err (reply_at 3 1 1) ∷ []
unfolding computed_step
late_return = refl

-- 84 blanks and a CR, then CR LF: the first CR is a byte not allowed, at its own column; and so it is where the file ends with it
pub late_returns : answers fresh (replicate 84 32 ∷ (13 ∷ []) ∷ (13 ∷ 10 ∷ []) ∷ []) ≡ Ok 0 ∷ Ok 0 ∷ Err (reply_at 2 1 85) ∷ []
unfolding computed_step
late_returns = refl

pub last_return : ends fresh (replicate 84 32 ∷ (13 ∷ []) ∷ []) ≡ reply_at 2 1 85
unfolding step_of open_of longer columns_of fault_of over cut is_allowed first_bad
last_return = refl

-- Wrong calls on a lent record, each with an input on which it breaks the promise: a burst that does not store the record, one that answers for the
-- record before it, an end that does not mark the record.
pub not_stored : (c : Stream) → c.ended ≡ false → seen c ≡ fresh → Stepped c (bytes "x") c → ⊥
unfolding step_of cut over
not_stored c e h s = let z : fresh ≡ step_of fresh (bytes "x") = sym h ∙ s.further e ∙ ap (λ (x : Seen). step_of x (bytes "x")) h in omega (arith, ap length_of z)

pub told_before : answer_of false fresh ≡ answer_of false (step_of fresh (10 ∷ [])) → ⊥
unfolding step_of answer_of open_of longer columns_of fault_of open_outcome over cut all_blank is_allowed without_return columns first_bad line_fault filled line_step W.step_of outside_step
told_before e = omega (arith, ap lines_of e)

pub not_marked : (c : Stream) → c.ended ≡ false → c ≡ closed c → ⊥
unfolding closed
not_marked c e h = let z : c.ended ≡ true = ap (λ (x : Stream). x.ended) h in false_not_true (sym e ∙ z)
