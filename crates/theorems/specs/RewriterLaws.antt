-- What the rewriter answers of a proper writing.
use Rattle.std.specs.Prelude.{◌≡◌, List, map, ℕ, ◌<◌, ◌≤◌, length}
use Rattle.std.proofs.Math.Path.{refl}
use borrow.Author.Tests.{lt-ltb, le-ltb}
use Rattle.judge.specs.Judge.{reply}
use Rattle.parts.specs.Parts.{parts_of}
use Rattle.parts.specs.Padding.{padding_of}
use Rattle.rewriter.specs.Rewriter.{rewritten_file, rewrite_reply, rewrite_out}
use Rattle.rewriter_laws.specs.Form.{InForm, KeepsSpellings}
use Rattle.rewriter_laws.proofs.RewritingLaws.{rewritten_short, rewritten_proper, rewritten_form, rewritten_keeps, rewritten_only, rewritten_same, form_unpadded}
use Rattle.theory.specs.Sets.{Set}
use Rattle.theory.specs.Proper.{Proper}
use Rattle.theorems.specs.Answers.{Filled}
use Rattle.judge_laws.specs.JudgeLaws.{proper_accepted, proper_unique}

-- files that are rewritten to the same bytes have one list
pub one_list : {a b : List Set} {x y : List ℕ} → Proper a x → Proper b y → rewritten_file x ≡ rewritten_file y → a ≡ b
one_list p q e = proper_unique (rewritten_proper p) (rw (← e) at (rewritten_proper q))

module _ {sets : List Set} {bytes : List ℕ} (p : Proper sets bytes) where
  pub rewriter_keeps : Proper sets (rewritten_file bytes) × (InForm sets (rewritten_file bytes) × KeepsSpellings sets bytes (rewritten_file bytes))
  rewriter_keeps = (rewritten_proper p, (rewritten_form p, rewritten_keeps p))

  pub rewriter_only : (new : List ℕ) → InForm sets new → KeepsSpellings sets bytes new → new ≡ rewritten_file bytes
  rewriter_only new f k = rewritten_only p new f k

  pub rewriter_unpadded : map padding_of (parts_of (rewritten_file bytes)) ≡ map (λ (s : Set). 0) sets
  rewriter_unpadded = form_unpadded (rewritten_proper p) (rewritten_form p)

  pub rewriter_again : rewritten_file (rewritten_file bytes) ≡ rewritten_file bytes
  rewriter_again = rewritten_same (rewritten_proper p) (rewritten_form p)

  pub rewriter_no_longer : length (rewritten_file bytes) ≤ length bytes
  rewriter_no_longer = rewritten_short p

  pub rewriter_answers : (out : List ℕ) → length (rewritten_file bytes) ≤ length out → Filled (rewritten_file bytes) (rewrite_reply bytes (length out)) out (rewrite_out bytes out)
  unfolding rewrite_out rewrite_reply
  rewriter_answers out h =
      let room = le-ltb (length out) (length (rewritten_file bytes)) h in
      record { answer = rw (proper_accepted p, room) refl; laid = rw (proper_accepted p, room) refl }

  pub rewriter_short : (room : ℕ) → room < length (rewritten_file bytes) → rewrite_reply bytes room ≡ reply 20 0
  unfolding rewrite_reply
  rewriter_short room h = rw (proper_accepted p, lt-ltb room (length (rewritten_file bytes)) h) refl
