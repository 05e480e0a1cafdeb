-- A refused call leaves what it is lent as it was.
use Rattle.std.specs.Prelude.{◌≡◌, refl, Bool, true, false, List, [], ◌∷◌, ◌++◌, ℕ, zero, suc, ◌<◌, ltb, eqb, ℤ, Float, length, drop, Ok, Err}
use Rattle.std.proofs.Common.{ap, arith, ne_eqb}
use Rattle.laws.specs.Choice.{pick}
use Rattle.judge.specs.declared.Reply.{Reply}
use Rattle.judge.specs.Judge.{judged, reply}
use Rattle.parts.specs.Parts.{Part}
use Rattle.parts.specs.Function.{stored_of, first_byte, past_byte}
use Rattle.lister.specs.Lister.{list_reply, list_rows}
use Rattle.real.specs.Real.{Real}
use Rattle.reader.specs.Reader.{Read}
use Rattle.reader.specs.Reader as Reader
use Rattle.reader.specs.Reader.{Said, Shown, judged_first, sets_from, shown_of, real_in, number_from, stored_number, whole, value_with, values_in, value_from, value_of}
use Rattle.values.specs.Values.{all_reply, all_places}
use Rattle.rewriter.specs.Rewriter.{rewrite_reply, rewrite_out}
use Rattle.writer.specs.Writer.{write_reply, write_out}
use Rattle.host.specs.Packed.{word, number_in}
use Rattle.host.specs.PackedLaws.{column_bits_most}
use Rattle.host.specs.Answer.{value_bytes, number_shown, number_answer, value_answer, reply_for, bytes_after}
use Rattle.theorems.proofs.TableCallsLaws.{of_either}

-- the calls whose buffers are laid by their reply
kept_by : (number : ℕ) (after before : List ℕ) → 0 < number → pick (eqb number 0) after before ≡ before
kept_by number after before h = rw (ne_eqb number 0 (λ z. omega arith)) refl

pub lister_kept : (bytes rows : List ℕ) → 0 < (list_reply bytes (length rows)).number → list_rows bytes rows ≡ rows
unfolding list_rows
lister_kept bytes rows h = kept_by (list_reply bytes (length rows)).number _ rows h

pub all_kept : (bytes : List ℕ) (k : ℕ) (out : List ℕ) → 0 < (all_reply bytes k (length out)).number → all_places bytes k out ≡ out
unfolding all_reply all_places
all_kept bytes k out h = kept_by (all_reply bytes k (length out)).number _ out h

pub rewriter_kept : (bytes out : List ℕ) → 0 < (rewrite_reply bytes (length out)).number → rewrite_out bytes out ≡ out
unfolding rewrite_out
rewriter_kept bytes out h = kept_by (rewrite_reply bytes (length out)).number _ out h

pub writer_kept : (header : List ℕ) (xs ss : List ℤ) (out : List ℕ) → 0 < (write_reply header xs ss (length out)).number → write_out header xs ss out ≡ out
unfolding write_out
writer_kept header xs ss out h = kept_by (write_reply header xs ss (length out)).number _ out h

-- an answer that shows nothing where it is refused
abbrev Quiet : {A : Type 0} → Said A → Type 0
Quiet s = 0 < s.reply.number → s.shown ≡ []

quiet_judged : {A : Type 0} (r : Reply) (s : Said A) → Quiet s → Quiet (judged_first r s)
quiet_judged r s q = of_either Quiet (ltb 0 r.number) (Reader.refused_by r) s (λ h. refl) q

quiet_shown : (a e : ℕ) (x : Real) → Quiet (shown_of a e x)
quiet_shown a e (Ok n) h = absurd (omega arith)
quiet_shown a e (Err _) h = refl

quiet_number : (bytes : List ℕ) (ps : List Part) (j : ℕ) → Quiet (number_from bytes ps j)
quiet_number bytes [] j = λ h. refl
quiet_number bytes (p ∷ ps) j =
    let shown : Said Shown = shown_of (first_byte p j) (past_byte p j) (real_in bytes p j) in
    of_either Quiet (ltb j (stored_of p)) shown (Reader.refused 18 0) (quiet_shown (first_byte p j) (past_byte p j) (real_in bytes p j)) (λ h. refl)

quiet_whole : (place : ℕ) (xs : List Float) (rs : List Read) → Quiet (whole place xs rs)
unfolding whole
quiet_whole place xs [] h = absurd (omega arith)
quiet_whole place xs (Ok x ∷ rs) h = quiet_whole place (xs ++ (x ∷ [])) rs h
quiet_whole place xs (Err n ∷ rs) h = refl

quiet_value : (bytes : List ℕ) (ps : List Part) (i : ℕ) → Quiet (value_from bytes ps i)
unfolding value_with
quiet_value bytes [] i = λ h. refl
quiet_value bytes (p ∷ ps) i = of_either Quiet (ltb i (values_in p)) _ (Reader.refused 18 0) (quiet_whole _ [] _) (λ h. refl)

-- the same of the bytes shown
quiet_number_bytes : (s : Said Shown) → Quiet s → Quiet (number_answer s)
unfolding number_shown
quiet_number_bytes s q = by s.shown q
  where
    by : (xs : List Shown) → (0 < s.reply.number → xs ≡ []) → Quiet (number_shown s.reply xs)
    by [] e h = refl
    by (x ∷ xs) e h = absurd (omega (arith, ap length (e h)))

quiet_value_bytes : (s : Said Float) → Quiet s → Quiet (value_answer s)
unfolding value_bytes
quiet_value_bytes s q h = rw (q h) refl

-- a word of number 0 has number 0
word_none : (r : Reply) → r.number ≡ 0 → number_in (word r) ≡ 0
unfolding word
word_none r e = let c = column_bits_most r.column in rw e (omega (arith, c))

refused_word : (r : Reply) → 0 < number_in (word r) → 0 < r.number
refused_word r h = by r.number refl
  where
    by : (n : ℕ) → r.number ≡ n → 0 < n
    by zero e = absurd (omega (arith, word_none r e))
    by (suc n) e = omega arith

pub answer_kept : (s : Said ℕ) (out : List ℕ) → Quiet s → 0 < number_in (reply_for s (length out)) → bytes_after s out ≡ out
unfolding reply_for bytes_after
answer_kept s out q h = by (ltb (length out) (length s.shown)) h
  where
    by : (t : Bool) → 0 < number_in (pick t (word (reply 20 0)) (word s.reply)) → pick t out (s.shown ++ drop (length s.shown) out) ≡ out
    by true h = refl
    by false h = rw (q (refused_word s.reply h)) refl

pub number_kept : (bytes : List ℕ) (k j : ℕ) (out : List ℕ) → 0 < number_in (reply_for (number_answer (stored_number bytes k j)) (length out))
    → bytes_after (number_answer (stored_number bytes k j)) out ≡ out
unfolding stored_number
number_kept bytes k j out h =
    answer_kept (number_answer (stored_number bytes k j)) out
    (quiet_number_bytes (stored_number bytes k j) (quiet_judged (judged bytes) (number_from bytes (sets_from bytes k) j) (quiet_number bytes (sets_from bytes k) j))) h

pub value_kept : (bytes : List ℕ) (k i : ℕ) (out : List ℕ) → 0 < number_in (reply_for (value_answer (value_of bytes k i)) (length out))
    → bytes_after (value_answer (value_of bytes k i)) out ≡ out
unfolding value_of
value_kept bytes k i out h =
    answer_kept (value_answer (value_of bytes k i)) out
    (quiet_value_bytes (value_of bytes k i) (quiet_judged (judged bytes) (value_from bytes (sets_from bytes k) i) (quiet_value bytes (sets_from bytes k) i))) h
