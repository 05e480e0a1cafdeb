-- Delimiters by where they stand in a file, and what a block of bytes says of them.
use Rattle.std.specs.Prelude.{◌≡◌, Bool, true, not, Option, Some, None, ◌&&◌, List, [], ◌∷◌, ◌++◌, ℕ, suc, ◌+◌, ◌-◌, ◌≤◌, ◌<◌, eqb, length, get_or, drop}
use Rattle.laws.specs.Choice.{pick}
use Rattle.laws.specs.Cut.{cut, line_len}
use Rattle.parts.specs.declared.Mark.{Mark}
use Rattle.parts.specs.declared.Spot.{Spot}
use Rattle.parts.specs.Parts.{closes, bytes_in, part, outside, opened, inside, parts_from}

abbrev pub mark : ℕ → ℕ → ℕ → Mark
mark n at e = record { lines = n; at = at; past = e }

-- the first delimiter among lines, which n lines and at bytes come before
unfoldable pub mark_from : ℕ → ℕ → List (List ℕ) → Option Mark
mark_from n at [] = None
mark_from n at (l ∷ ls) = pick (closes l) (Some (mark n at (at + suc (length l)))) (mark_from (suc n) (at + suc (length l)) ls)

-- the same among the lines of a file that begin at the byte at
abbrev pub marked : List ℕ → ℕ → ℕ → Option Mark
marked f n at = mark_from n at (cut (drop at f)).lines

-- the same among the lines after the one that the byte i is in, which n lines come before
unfoldable pub mark_after : List ℕ → ℕ → ℕ → Option Mark
mark_after f n i = marked f (n + 1) (i + line_len (drop i f) + 1)

-- whether no LF of the first bytes has a minus beside it in the second
unfoldable pub quiet : List ℕ → List ℕ → Bool
quiet [] cs = true
quiet (b ∷ bs) [] = true
quiet (b ∷ bs) (c ∷ cs) = not (eqb b 10 && eqb c 45) && quiet bs cs

-- how many LFs are among bytes
unfoldable pub ends_in : List ℕ → ℕ
ends_in [] = 0
ends_in (b ∷ bs) = pick (eqb b 10) (suc (ends_in bs)) (ends_in bs)

-- from a byte in a line that n lines come before to another, with no delimiter between
pub record Passed (f : List ℕ) (i n : ℕ) (s : Spot) : Type 0 where
  pub same : mark_after f s.lines s.at ≡ mark_after f n i
  pub onward : i ≤ s.at
  pub within : s.at ≤ length f
  pub few : s.lines ≤ s.at

-- the last of the lines from a byte on that stop before another
pub record LastLine (f : List ℕ) (from closing at : ℕ) : Type 0 where
  pub onward : from ≤ at
  pub before : from < closing → at < closing
  pub none : closing ≤ from → at ≡ from
  pub starts : from < at → get_or f (at - 1) 0 ≡ 10
  pub whole : (k : ℕ) → at ≤ k → k < closing - 1 → get_or f k 0 ≡ 10 → ⊥

-- a delimiter among lines: those before it and after it, and what it does to sets
pub record Marked (n at : ℕ) (ls : List (List ℕ)) (m : Mark) : Type 0 where
  pub before : List (List ℕ)
  pub line : List ℕ
  pub after : List (List ℕ)
  pub lines : ls ≡ before ++ (line ∷ after)
  pub count : m.lines ≡ n + length before
  pub bytes : m.at ≡ at + bytes_in before
  pub past : m.past ≡ at + bytes_in (before ++ (line ∷ []))
  pub opens : parts_from outside n at ls ≡ parts_from (opened m.lines m.at line) (m.lines + 1) m.past after
  pub ends : (a b : ℕ) (o v : List ℕ) (bs : List (List ℕ)) → parts_from (inside a b o v bs) n at ls ≡ part a b o v (bs ++ before) line ∷ parts_from outside (m.lines + 1) m.past after
