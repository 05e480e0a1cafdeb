-- A burst after the open line of a text gives what the bytes of both give.
use Rattle.std.specs.Prelude.{◌≡◌, refl, Bool, true, false, List, [], ◌∷◌, ◌++◌, ℕ, eqb}
use Rattle.std.proofs.Common.{sym, ap, ◌∙◌}
use Rattle.laws.specs.Choice.{pick}
use Rattle.laws.specs.Cut.{Text, text, onto, cut, over}
use Rattle.laws.specs.CutLaws.{over_append}
use Rattle.judge.specs.Judge.{Run, run_step}
use Rattle.stream.specs.Stream.{OpenLine, open_of, longer, kept, line_end, arrived}
use Rattle.stream.specs.OpenLineLaws.{longer_append, end_line}
use Rattle.stream_laws.specs.Open.{text_then, kept_text}

-- bytes in two parts, each cut into lines
then_none : (ms : List (List ℕ)) (r' : List ℕ) → text ms r' ≡ text_then [] [] ms r'
then_none [] r' = refl
then_none (m ∷ ms) r' = refl

then_line : (ls : List (List ℕ)) (r : List ℕ) (ms : List (List ℕ)) (r' : List ℕ)
    → text ([] ∷ (text_then ls r ms r').lines) (text_then ls r ms r').rest ≡ text_then ([] ∷ ls) r ms r'
then_line ls r [] r' = refl
then_line ls r (m ∷ ms) r' = refl

then_onto : (x : ℕ) (ls : List (List ℕ)) (r : List ℕ) (ms : List (List ℕ)) (r' : List ℕ)
    → onto x (text_then ls r ms r').lines (text_then ls r ms r').rest ≡ text_then (onto x ls r).lines (onto x ls r).rest ms r'
then_onto x [] r [] r' = refl
then_onto x [] r (m ∷ ms) r' = refl
then_onto x (l ∷ ls) r [] r' = refl
then_onto x (l ∷ ls) r (m ∷ ms) r' = refl

-- a byte before a text, by whether it is an LF
abbrev with_byte : ℕ → Bool → Text → Text
with_byte x t u = pick t (text ([] ∷ u.lines) u.rest) (onto x u.lines u.rest)

then_byte : (x : ℕ) (t : Bool) (ls : List (List ℕ)) (r : List ℕ) (ms : List (List ℕ)) (r' : List ℕ)
    → with_byte x t (text_then ls r ms r') ≡ text_then (with_byte x t (text ls r)).lines (with_byte x t (text ls r)).rest ms r'
then_byte x true ls r ms r' = then_line ls r ms r'
then_byte x false ls r ms r' = then_onto x ls r ms r'

cut_then : (a b : List ℕ) → cut (a ++ b) ≡ text_then (cut a).lines (cut a).rest (cut b).lines (cut b).rest
unfolding cut
cut_then [] b = then_none (cut b).lines (cut b).rest
cut_then (x ∷ a) b = ap (with_byte x (eqb x 10)) (cut_then a b) ∙ then_byte x (eqb x 10) (cut a).lines (cut a).rest (cut b).lines (cut b).rest

-- what is kept of both
then_kept : (r : Run) (ls : List (List ℕ)) (q : List ℕ) (ms : List (List ℕ)) (q' : List ℕ) (n : ℕ)
    → kept_text r (text_then ls q ms q') n ≡ arrived (over run_step r ls) (open_of q) ms q' n
unfolding over
then_kept r ls q [] q' n = ap (λ (o : OpenLine). kept (over run_step r ls) o n) (sym (longer_append q q'))
then_kept r ls q (m ∷ ms) q' n =
    let line : line_end (over run_step r ls) (longer (open_of q) m) ≡ run_step (over run_step r ls) (q ++ m) = rw (longer_append q m) (end_line (over run_step r ls) (q ++ m)) in
    ap (λ (x : Run). kept x (open_of q') n) (over_append run_step r ls ((q ++ m) ∷ ms) ∙ ap (λ (x : Run). over run_step x ms) (sym line))

pub kept_append : (r : Run) (a b : List ℕ) (n : ℕ) → kept_text r (cut (a ++ b)) n ≡ arrived (over run_step r (cut a).lines) (open_of (cut a).rest) (cut b).lines (cut b).rest n
kept_append r a b n = ap (λ (t : Text). kept_text r t n) (cut_then a b) ∙ then_kept r (cut a).lines (cut a).rest (cut b).lines (cut b).rest n
