-- What the writer lays out, and what judge, rewriter and reader say of it.
use Rattle.std.specs.Prelude.{◌≡◌, List, [], ◌∷◌, map, ℤ, pos, get_or}
use Rattle.std.proofs.Math.Path.{refl, sym}
use Rattle.std.proofs.Common.{ap, ◌∙◌}
use Rattle.std.proofs.Math.Bool.{true}
use Prim.Native.Nat.{ℕ, suc, ◌+◌, ◌<◌, ◌≤◌}
use native.Mathlib.Omega.{arith}
use borrow.Author.Tests.{lt-ltb, le-ltb, eq-eqb}
use Rattle.std.proofs.Math.ListN.{length}
use Rattle.judge.specs.Judge.{judged, reply}
use Rattle.header.specs.Header.{header_of}
use Rattle.parts.specs.Parts.{parts_of}
use Rattle.parts.specs.Padding.{padding_of}
use Rattle.rewriter.specs.Rewriter.{rewritten_file}
use Rattle.rewriter_laws.proofs.RewritingLaws.{form_unpadded}
use Rattle.writer.specs.Writer.{fits_at, first_unfit, laid_reply, write_reply, write_out}
use Rattle.writer_laws.specs.DataLines.{lent_file}
use Rattle.writer_laws.specs.HeaderRunLaws.{header_passed}
use Rattle.writer_laws.specs.LentLaws.{lent_accepted}
use Rattle.writer_laws.specs.Reply.{Coefficients}
use Rattle.writer_laws.specs.ReplyLaws.{answered, answered_fit}
use Rattle.theorems.specs.Answers.{Filled}
use Rattle.judge_laws.specs.JudgeLaws.{accepted_proper, accepted_zero}
use Rattle.theorems.specs.ListerLaws.{lister_places, set_stands}
use Rattle.theorems.proofs.ReaderLaws.{reader_numbers}
use Rattle.theorems.specs.LaidOut.{written_text, Writable, LaidOut, ReadAs}
use Rattle.theorems.specs.LaidOutLaws.{laid_out, read_as}

-- where every number fits none is found that does not
none_unfit : (c j : ℕ) (xs ss : List ℤ) → length xs ≡ length ss
    → ((i : ℕ) → i < length xs → fits_at c (j + i) (get_or xs i (pos 0)) (get_or ss i (pos 0)) ≡ true) → first_unfit c j xs ss ≡ j + length xs
unfolding first_unfit
none_unfit c j [] ss e h = omega arith
none_unfit c j (x ∷ xs) [] e h = absurd (omega arith)
none_unfit c j (x ∷ xs) (s ∷ ss) e h =
    let at_j : j ≡ j + 0 = omega arith in
    let here : fits_at c j x s ≡ true = ap (λ (n : ℕ). fits_at c n x s) at_j ∙ h 0 (omega arith) in
    let next : (i : ℕ) → i < length xs → fits_at c (suc j + i) (get_or xs i (pos 0)) (get_or ss i (pos 0)) ≡ true = λ i l.
    let at_i : suc j + i ≡ j + suc i = omega arith in
    ap (λ (n : ℕ). fits_at c n (get_or xs i (pos 0)) (get_or ss i (pos 0))) at_i ∙ h (suc i) (omega arith) in
    let rest = none_unfit c (suc j) xs ss (omega arith) next in
    rw here (omega (arith, rest))

module _ (header : List ℕ) (xs ss : List ℤ) where
  pub writer_writes : (room : ℕ) → Writable header xs ss
      → (length (written_text header xs ss) ≤ room → write_reply header xs ss room ≡ reply 0 (length (written_text header xs ss)))
      × (room < length (written_text header xs ss) → write_reply header xs ss room ≡ reply 20 0)
  unfolding write_reply laid_reply
  writer_writes room w =
      let many : length xs ≡ length ss = w.coefficients ∙ sym w.scales in
      let c : ℕ = (header_of header).case in
      let each : (i : ℕ) → i < length xs → fits_at c (0 + i) (get_or xs i (pos 0)) (get_or ss i (pos 0)) ≡ true = λ i l. let at_i : 0 + i ≡ i = omega arith in rw at_i (w.fit i l) in
      let all = none_unfit c 0 xs ss many each in
      let fit = le-ltb (first_unfit c 0 xs ss) (length xs) (omega (arith, all)) in
      let coefficients = eq-eqb (length xs) (header_of header).stored w.coefficients in
      let scales = eq-eqb (length ss) (header_of header).stored w.scales in (
        λ h. rw (w.passes, coefficients, scales, fit, le-ltb room (length (written_text header xs ss)) h) refl,
        λ h. rw (w.passes, coefficients, scales, fit, lt-ltb room (length (written_text header xs ss)) h) refl,
      )

  pub writer_lays : (room : ℕ) → Coefficients xs → (write_reply header xs ss room).number ≡ 0 → LaidOut header xs ss
  writer_lays room k z =
      let a = answered header xs ss room z in
      let f = answered_fit header xs ss room k a in
      let p = header_passed header a.passes in
      let q = accepted_proper (lent_file header (header_of header).case xs ss) _ (lent_accepted header p xs ss a.stored f) in
      laid_out header p xs ss a.stored f q.1 (lister_places q.1)

  pub writer_answers : (out : List ℕ) → (write_reply header xs ss (length out)).number ≡ 0
      → (length (written_text header xs ss) ≤ length out) × Filled (written_text header xs ss) (write_reply header xs ss (length out)) out (write_out header xs ss out)
  unfolding write_out
  writer_answers out z =
      let a = answered header xs ss (length out) z in
      (a.short, record { answer = a.reply_is; laid = rw a.reply_is refl })

module _ {header : List ℕ} {xs ss : List ℤ} (l : LaidOut header xs ss) where
  pub writer_accepted : ((judged (written_text header xs ss)).number ≡ 0) × (rewritten_file (written_text header xs ss) ≡ written_text header xs ss)
  writer_accepted = (accepted_zero l.proper, l.again)

  -- it has no padding
  pub writer_unpadded : map padding_of (parts_of (written_text header xs ss)) ≡ 0 ∷ []
  writer_unpadded = form_unpadded l.proper l.form

  pub writer_read : (j : ℕ) → j < length xs → ReadAs (written_text header xs ss) j (get_or xs j (pos 0)) (get_or ss j (pos 0))
  writer_read j h =
      let a = set_stands l.proper 0 refl in
      read_as (l.back j h) (reader_numbers l.proper (record { at = a.1; number = l.number }) j (rw l.count h))
