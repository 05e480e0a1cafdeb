-- The judge's step of a line agrees with the reader's.
use Rattle.std.specs.Prelude.{◌≡◌, refl, Bool, true, false, List, [], ◌∷◌, ◌++◌, ℕ, zero, suc, ◌+◌, ltb, length}
use Prim.{tt}
use Rattle.std.proofs.Common.{arith, length-append}
use Rattle.laws.specs.Choice.{pick}
use Rattle.text.specs.Blank.{all_blank}
use Rattle.line.specs.Line.{filled, refusal}
use Rattle.line.specs.declared.Refusal.{Refusal}
use Rattle.delimiter.specs.Kind.{is_delimiter, dataset_number}
use Rattle.field.specs.Item.{Item}
use Rattle.record_table.specs.TypedSets.{is_typed}
use Rattle.record.specs.Check.{row_refusal}
use Rattle.walk.specs.declared.Due.{Due}
use Rattle.walk.specs.declared.Place.TheVariants.{Outside, Plain, Typed}
use Rattle.std.specs.Prelude.{Result, Ok, Err}
use Rattle.walk.specs.declared.State.{State}
use Rattle.walk.specs.Due.{may_close, may_continue, row_due}
use Rattle.walk.specs.Step as Step
use Rattle.theory.specs.Sets.{Set, set}
use Rattle.judge_laws.specs.ListReader.{Reading, outside, number, plain, typed, bad, closed, typed_on, read_line}
use Rattle.judge_laws.specs.Image.{Standing, image, Agrees, stands, refused}

-- a refusal of some number
agrees_refused : (n c : ℕ) → Agrees (Err (refusal (suc n) c)) bad
agrees_refused n c = refused {f = refusal (suc n) c} (omega arith)

-- two choices by one test agree where their parts do
agrees_pick : (t : Bool) {o o' : Result State Refusal} {r r' : Reading} → Agrees o r → Agrees o' r' → Agrees (pick t o o') (pick t r r')
agrees_pick true a b = a
agrees_pick false a b = b

-- a set that closes was counted when it opened
agrees_closed : (acc : List Set) (v : ℕ) (iss : List (List Item)) → Agrees (Ok (Step.state Outside (length acc + 1))) (closed acc v iss)
agrees_closed acc v iss =
    let e : length (acc ++ (set v iss ∷ [])) ≡ length acc + 1 = length-append acc (set v iss ∷ []) in
    rw e at (stands (closed acc v iss) tt)

-- a set that opens is typed or plain
agrees_opened :
    (acc : List Set) (v : ℕ) (d : Due) (t : Bool) →
    Agrees (Ok (Step.state (pick t (Typed d) Plain) (length acc + 1))) (pick t (typed acc v [] d) (plain acc v []))
agrees_opened acc v d true = stands (typed acc v [] d) tt
agrees_opened acc v d false = stands (plain acc v []) tt

-- a line of a typed set is refused by its row or not
agrees_unless : (f : Refusal) (r : Reading) → Standing r → Agrees (Step.unless f (image r)) (typed_on f.number r)
agrees_unless f r s = go f.number refl
  where
    go : (n : ℕ) → f.number ≡ n → Agrees (Step.unless f (image r)) (typed_on f.number r)
    go zero e = rw e (stands r s)
    go (suc n) e = rw e (agrees_refused n f.column)

-- the step of the image is the image of the step, or both are refused
pub step_image : (r : Reading) (cs : List ℕ) → Standing r → Agrees (Step.step_of (image r) (filled cs)) (read_line r cs)
unfolding Step.step_of Step.outside_step Step.number_step Step.plain_step Step.typed_step Step.opened
step_image (outside acc) cs s =
    agrees_pick (all_blank (filled cs)) (stands (outside acc) tt)
    (agrees_pick (is_delimiter (filled cs))
    (agrees_pick (ltb (length acc) 4096) (stands (number acc) tt) (agrees_refused 14 1))
    (agrees_refused 4 1))
step_image (number acc) cs s =
    let v = dataset_number (filled cs) in
    agrees_pick (ltb 0 v) (agrees_opened acc v _ (is_typed v)) (agrees_refused 5 1)
step_image (plain acc v iss) cs s = agrees_pick (is_delimiter (filled cs)) (agrees_closed acc v iss) (stands (plain acc v _) tt)
step_image (typed acc v iss d) cs s =
    agrees_pick (is_delimiter (filled cs)) (agrees_pick (may_close d) (agrees_closed acc v iss) (agrees_refused 6 1))
    (agrees_pick (may_continue d) (agrees_unless (row_refusal (row_due d) (filled cs)) (typed acc v _ _) tt) (agrees_refused 7 1))
step_image bad cs s = absurd s
