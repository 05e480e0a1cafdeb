-- The sets of a text, and their own lines, are had one way only.
use Rattle.std.specs.Prelude.{◌≡◌, refl, List, [], ◌∷◌, ◌++◌, ℕ}
use Rattle.std.proofs.Common.{sym, ◌∙◌, arith}
use Rattle.line.specs.Line.{filled}
use Rattle.delimiter.specs.Kind.{Delimiter}
use Rattle.theory.specs.Proper.{BlankLines}
use Rattle.line_laws.proofs.EndsLaws.{ended_complete}
use Rattle.line_laws.specs.LineTestsLaws.{blank_inside}
use Rattle.rewriter_laws.specs.Form.{Own, OwnLines}
use Rattle.line_laws.specs.NoDelimiter.{NoDelimiter, none, more}

-- no blank line is a delimiter
blank_none : {css : List (List ℕ)} → BlankLines css → NoDelimiter css
blank_none BlankLines.none = none
blank_none (BlankLines.more b bs) = more (blank_inside b) (blank_none bs)

-- a delimiter is not among lines of which none is one
not_among : {css : List (List ℕ)} → NoDelimiter css → (a : List (List ℕ)) (x : List ℕ) (r : List (List ℕ)) → Delimiter (filled x) → css ≡ a ++ (x ∷ r) → ⊥
not_among none [] x r d e = let z : ◌≡◌ {A = ℕ} 0 1 = cc in omega arith
not_among none (c ∷ a) x r d e = let z : ◌≡◌ {A = ℕ} 0 1 = cc in omega arith
not_among (more {cs} n m) [] x r d e = let q : x ≡ cs = cc in n (rw q at d)
not_among (more n m) (c ∷ a) x r d e = not_among m a x r d (cc)

-- the lines before a first delimiter, and those after it
record Same (a b r s : List (List ℕ)) : Type 0 where
  front : a ≡ b
  rest : r ≡ s

first_only : {a b : List (List ℕ)} → NoDelimiter a → NoDelimiter b → (x y : List ℕ) (r s : List (List ℕ)) → Delimiter (filled x) → Delimiter (filled y)
    → a ++ (x ∷ r) ≡ b ++ (y ∷ s) → Same a b r s
first_only none none x y r s d f e = record { front = refl; rest = cc }
first_only none (more {cs} n m) x y r s d f e = let q : x ≡ cs = cc in absurd (n (rw q at d))
first_only (more {cs} n m) none x y r s d f e = let q : y ≡ cs = cc in absurd (n (rw q at f))
first_only (more {css = a} n m) (more {css = b} k l) x y r s d f e =
    let i : Same a b r s = first_only m l x y r s d f (cc) in
    record { front = cc; rest = i.rest }

-- lines that begin with blank ones and a set: the blank ones, the set's delimiters, number line and own lines, and what follows
pub record Opens (before : List (List ℕ)) (number : List ℕ) (body after css : List (List ℕ)) : Type 0 where
  pub first : List ℕ
  pub last : List ℕ
  pub blank : BlankLines before
  pub opening : Delimiter (filled first)
  pub inside : NoDelimiter body
  pub closing : Delimiter (filled last)
  pub lines : css ≡ before ++ (first ∷ number ∷ (body ++ (last ∷ after)))

-- blank lines alone do not
pub not_open : {before : List (List ℕ)} {number : List ℕ} {body after css : List (List ℕ)} → BlankLines css → Opens before number body after css → ⊥
not_open {before} b o = not_among (blank_none b) before o.first _ o.opening o.lines

pub record OneWay (before before' : List (List ℕ)) (number number' : List ℕ) (body body' after after' : List (List ℕ)) : Type 0 where
  pub blanks : before ≡ before'
  pub line : number ≡ number'
  pub own : body ≡ body'
  pub rest : after ≡ after'

-- and any do one way only
pub one_way : {before before' : List (List ℕ)} {number number' : List ℕ} {body body' after after' css : List (List ℕ)}
    → Opens before number body after css → Opens before' number' body' after' css → OneWay before before' number number' body body' after after'
one_way {number = number} {number'} {body} {body'} {after} {after'} p q =
    let o = first_only (blank_none p.blank) (blank_none q.blank) p.first q.first (number ∷ (body ++ (p.last ∷ after)))
    (number' ∷ (body' ++ (q.last ∷ after'))) p.opening q.opening (sym p.lines ∙ q.lines) in
    let c : body ++ (p.last ∷ after) ≡ body' ++ (q.last ∷ after') = cc o.rest in
    let i = first_only p.inside q.inside p.last q.last after after' p.closing q.closing c in
    record { blanks = o.front; line = cc o.rest; own = i.front; rest = i.rest }

-- lines have own lines of sets one way only
own_same : {p q : List (List (List ℕ))} {css dss : List (List ℕ)} → Own p css → Own q dss → css ≡ dss → p ≡ q
own_same (Own.end b) (Own.end c) e = refl
own_same (Own.end b) (Own.more first number last before body after c d n f w) e =
    absurd (not_open b (record { first = first; last = last; blank = c; opening = d; inside = n; closing = f; lines = e }))
own_same (Own.more first number last before body after b d n f w) (Own.end c) e =
    absurd (not_open c (record { first = first; last = last; blank = b; opening = d; inside = n; closing = f; lines = sym e }))
own_same (Own.more {bodies = p} first number last before body after b d n f w) (Own.more {bodies = q} first' number' last' before' body' after' b' d' n' f' w') e =
    let i = one_way
    (record { first = first; last = last; blank = b; opening = d; inside = n; closing = f; lines = refl })
    (record { first = first'; last = last'; blank = b'; opening = d'; inside = n'; closing = f'; lines = e }) in
    let h : p ≡ q = own_same w w' i.rest in
    cc i.own

-- and a text has its lines one way only
pub own_only : {a b : List (List (List ℕ))} {bytes : List ℕ} → OwnLines a bytes → OwnLines b bytes → a ≡ b
own_only p q = own_same p.own q.own (sym (ended_complete p.ends).same ∙ (ended_complete q.ends).same)
