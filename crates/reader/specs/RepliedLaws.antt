-- What a value of a refused number answers.
use Rattle.std.specs.Prelude.{◌≡◌, refl, List, ◌∷◌, ℕ, Float, Result, Ok, Err, IsErrAnd}
use Rattle.std.proofs.Common.{sym, ap, ◌∙◌, arith}
use Rattle.judge.specs.declared.Reply.{Reply}
use Rattle.judge.specs.Judge.{reply}
use Rattle.reader.specs.declared.Numbers.{Numbers}
use Rattle.reader.specs.Reader.{refused_by, Read, replied, whole, paper}

-- an f64 is the number's own
pub replied_value : (a : Read) {y : Float} → replied a ≡ Ok y → a ≡ Ok y
replied_value (Ok x) h = cc
replied_value (Err n) h = let z : ◌≡◌ {A = ℕ} 0 1 = cc in absurd (omega arith)

-- a reply is the whole question's
pub replied_refusal : (a : Read) (place : ℕ) (xs : List Float) (rs : List Read) {r : Reply} → replied a ≡ Err r → refused_by r ≡ whole place xs (a ∷ rs)
unfolding whole
replied_refusal (Ok x) place xs rs h = let z : ◌≡◌ {A = ℕ} 0 1 = cc in absurd (omega arith)
replied_refusal (Err n) place xs rs {r} h = let e : reply n 0 ≡ r = cc in rw e refl

-- and it comes back as it is
pub returned : {r : Reply} (s : Result Numbers Reply) → IsErrAnd s (λ e. e ≡ r) → paper s ≡ refused_by r
returned (Ok v) h = absurd h
returned (Err e) h = ap refused_by h
