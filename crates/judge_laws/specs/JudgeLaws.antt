-- The judge accepts the proper writings and nothing else, and each is a proper writing of one list.
use Rattle.std.specs.Prelude.{◌≡◌, refl, true, List, [], map, ℕ, ◌≤◌, length}
use Rattle.std.proofs.Common.{sym, ap, ◌∙◌, arith}
use Rattle.laws.specs.Cut.{cut}
use Rattle.line.specs.Line.{columns}
use Rattle.judge.specs.declared.Reply.{Reply}
use Rattle.judge.specs.Judge.{judged, reply}
use Rattle.theory.specs.Sets.{Set}
use Rattle.theory.specs.Proper.{Ended, Proper}
use Rattle.line_laws.specs.Ends.{CutInto}
use Rattle.line_laws.proofs.EndsLaws.{ended_complete, ended_sound}
use Rattle.line_laws.specs.ShortLaws.{ended_short}
use Rattle.judge_laws.specs.ListReader.{outside, read_lines}
use Rattle.judge_laws.specs.ListReaderCompleteLaws.{reader_complete}
use Rattle.judge_laws.specs.ListReaderSoundLaws.{reader_sound}
use Rattle.judge_laws.specs.Accepted.{Accepted}
use Rattle.judge_laws.specs.AcceptedLaws.{zero_accepted, accepted_judged}

-- the columns of a file's lines
abbrev lines : List ℕ → List (List ℕ)
lines bytes = map (columns true) (cut bytes).lines

-- what is accepted is proper
accepted_by : (bytes : List ℕ) (n : ℕ) → Accepted bytes n → (sets : List Set) × Proper sets bytes
accepted_by bytes n a =
    let e : Ended (lines bytes) bytes = ended_sound bytes a.ended a.pass in
    let r = reader_sound (lines bytes) a.sets (ended_short e) a.read in
    (a.sets, record { columns = lines bytes; ends = e; lines = r.0; some = a.some; most = r.1; short = a.short })

-- by the reply's number alone
pub zero_proper : (bytes : List ℕ) → (judged bytes).number ≤ 0 → (sets : List Set) × Proper sets bytes
zero_proper bytes h = accepted_by bytes (length (cut bytes).lines) (zero_accepted bytes h)

pub accepted_proper : (bytes : List ℕ) (n : ℕ) → judged bytes ≡ reply 0 n → (sets : List Set) × Proper sets bytes
accepted_proper bytes n h = zero_proper bytes (omega (arith, ap (λ (r : Reply). r.number) h))

-- what is proper is read as its list
proper_read : {sets : List Set} {bytes : List ℕ} → Proper sets bytes → read_lines (outside []) (lines bytes) ≡ outside sets
proper_read {sets} {bytes} p =
    let c : CutInto p.columns bytes = ended_complete p.ends in
    rw c.same (reader_complete [] p.lines (omega (arith, p.most)))

pub proper_accepted : {sets : List Set} {bytes : List ℕ} → Proper sets bytes → judged bytes ≡ reply 0 (length (cut bytes).lines)
proper_accepted {sets} {bytes} p =
    let c : CutInto p.columns bytes = ended_complete p.ends in
    accepted_judged bytes
    (record { short = p.short; ended = c.ended; pass = c.pass; lines = refl; sets = sets; read = proper_read p; some = p.some })

pub accepted_zero : {sets : List Set} {bytes : List ℕ} → Proper sets bytes → (judged bytes).number ≡ 0
accepted_zero p = ap (λ (r : Reply). r.number) (proper_accepted p)

-- no file is a proper writing of two lists, since the reader gives one
pub proper_unique : {a b : List Set} {bytes : List ℕ} → Proper a bytes → Proper b bytes → a ≡ b
proper_unique {a} {b} p q = let e : outside a ≡ outside b = sym (proper_read p) ∙ proper_read q in cc
