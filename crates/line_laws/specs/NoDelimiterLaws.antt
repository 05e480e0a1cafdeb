-- The lines of a set are no delimiters.
use Rattle.std.specs.Prelude.{List, ℕ}
use Rattle.field.specs.Item.{Item}
use Rattle.record_table.specs.Row.{Row}
use Rattle.theory.specs.Sets.{Set}
use Rattle.theory.specs.Proper.{TypedLines, PlainLines, SetLines}
use Rattle.line_laws.specs.NoDelimiter.{NoDelimiter}

-- the lines of a set are such lines
typed_none : {rs : List Row} {iss : List (List Item)} {css : List (List ℕ)} → TypedLines rs iss css → NoDelimiter css
typed_none TypedLines.none = NoDelimiter.none
typed_none (TypedLines.more w n l) = NoDelimiter.more n (typed_none l)

plain_none : {iss : List (List Item)} {css : List (List ℕ)} → PlainLines iss css → NoDelimiter css
plain_none PlainLines.none = NoDelimiter.none
plain_none (PlainLines.more t n l) = NoDelimiter.more n (plain_none l)

pub set_none : {s : Set} {css : List (List ℕ)} → SetLines s css → NoDelimiter css
set_none (SetLines.typed t l) = typed_none l
set_none (SetLines.plain t l) = plain_none l
