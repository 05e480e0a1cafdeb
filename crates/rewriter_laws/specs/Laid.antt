-- The own lines of a set, and what is kept of them.
use Rattle.std.specs.Prelude.{List, [], ◌∷◌, map, ℕ}
use Rattle.parts.specs.Parts.{Part}
use Rattle.rewriter.specs.Rewriter.{kept_of, unpadded}
use Rattle.theory.specs.Sets.{Set}
use Rattle.parts_laws.specs.Holds.{columns_of}
use Rattle.rewriter_laws.specs.Form.{PlainSets}

-- the own lines of a part, and what is kept of them
abbrev pub body_of : Part → List (List ℕ)
body_of p = columns_of p.body

abbrev pub kept_in : Part → List (List ℕ)
kept_in p = map kept_of (unpadded p)

-- the own lines of sets in rewritten form
abbrev pub bodies_of : {ss : List Set} {css : List (List ℕ)} → PlainSets ss css → List (List (List ℕ))
bodies_of PlainSets.none = []
bodies_of (PlainSets.more number body after p n d t e w) = body ∷ bodies_of w
