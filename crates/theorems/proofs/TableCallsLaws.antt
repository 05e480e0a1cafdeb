-- The calls' replies are in document 01's table: the refusal of a line has a column, any other reply has none.
use Rattle.std.specs.Prelude.{◌≡◌, refl, Bool, true, false, ◌&&◌, List, [], ◌∷◌, ◌++◌, ℕ, zero, suc, ◌+◌, ◌*◌, ◌≤◌, ◌<◌, ltb, eqb, Option, Some, None, Float, ℤ, length, Ok, Err}
use Rattle.std.proofs.Common.{inl, inr, arith, ltb-true}
use Prim.{Unit, tt}
use Rattle.laws.specs.Choice.{pick}
use Rattle.laws.specs.Cut.{cut, over, judge}
use Rattle.line.specs.declared.Refusal.{Refusal}
use Rattle.line.specs.Line.{columns, refusal, line_fault}
use Rattle.walk.specs.declared.Place.{Place}
use Rattle.walk.specs.declared.Place.TheVariants.{Outside, Number, Plain, Typed}
use Rattle.std.specs.Prelude.{Result}
use Rattle.walk.specs.declared.State.{State}
use Rattle.judge.specs.declared.Reply.{Reply}
use Rattle.judge.specs.Judge.{judged, reply, at_line, line_step, Run, going, refused, on_outcome}
use Rattle.judge.specs.Refusal.{LineNumber}
use Rattle.judge.specs.RefusalLaws.{line_number}
use Rattle.real.specs.Real.{Real}
use Rattle.exact.specs.Exact.{exact_of}
use Rattle.layout.specs.Layout.{numbers_of}
use Rattle.record_table.specs.TypedSets.{header_lines}
use Rattle.parts.specs.Parts.{Part, parts_of}
use Rattle.parts.specs.Function.{part_case, stored_of, first_byte, past_byte}
use Rattle.lister.specs.Lister.{row_numbers, list_reply}
use Rattle.reader.specs.Reader.{Read}
use Rattle.reader.specs.Reader as Reader
use Rattle.reader.specs.Reader.{Said, refused_by, judged_first, sets_from, real_in, shown_of, number_from, stored_number, on_exact, read_of, reads, whole, value_kind, value_with, values_in, value_from, value_of}
use Rattle.values.specs.Values.{all_from, all_values, reply_in, all_reply}
use Rattle.rewriter.specs.Rewriter.{rewritten_file, rewrite_reply}
use Rattle.header.specs.Header.{Answer}
use Rattle.header.specs.Header.{refused_at, opened, past_fault, header_step, leaves, header_end, header_of}
use Rattle.writer.specs.Writer.{first_unfit, written_set, laid_reply, write_reply}
use Rattle.line_laws.specs.Fault.{LineFault}
use Rattle.line_laws.specs.FaultLaws.{line_fault_fault}
use Rattle.writer_laws.specs.HeaderRefusedLaws.{refused_place}
use Rattle.walk_laws.specs.FaultLaws.{refused_fault}
use Rattle.walk_laws.specs.FaultColumnLaws.{own_column, fault_column}
use Rattle.judge.specs.JudgeLaws.{unended_some}
use Rattle.theorems.specs.Table as Table
use Rattle.theorems.specs.Table.{InTable, Replied, line, answered, other, CallsInTable}
use Rattle.theorems.proofs.TableLaws.{own_number, judge_table}

-- what holds of both holds of the one chosen
pub of_either : {A : Type 0} (P : A → Type 0) (t : Bool) (a b : A) → P a → P b → P (pick t a b)
of_either P true a b p q = p
of_either P false a b p q = q

-- the numbers of the calls' own replies
abbrev Own : ℕ → Type 0
Own n = (16 ≤ n) × (n ≤ 23)

-- a refusal of the calls' own
own : (n : ℕ) → Own n → Replied (reply n 0)
own n h = other n (inr h)

judged_replied : (bytes : List ℕ) → Replied (judged bytes)
judged_replied bytes = by (judge_table bytes)
  where
    by : {lines : ℕ} {r : Reply} → InTable lines r → Replied r
    by {lines} InTable.accepted = answered lines
    by InTable.too_long = other 1 (inl refl)
    by InTable.no_set = own 16 (omega arith, omega arith)
    by (InTable.line n p c w from last one eighty most) = line n p c w from one

-- the judge's reply, otherwise another refusal where the room is too short, otherwise 0
in_room : (bytes : List ℕ) (short : Bool) (n place : ℕ) → Own n
    → Replied (pick (ltb 0 (judged bytes).number) (judged bytes) (pick short (reply n 0) (reply 0 place)))
in_room bytes short n place h =
    of_either Replied (ltb 0 (judged bytes).number) (judged bytes) (pick short (reply n 0) (reply 0 place)) (judged_replied bytes)
    (of_either Replied short (reply n 0) (reply 0 place) (own n h) (answered place))

-- the reader's refusals: the judge's, 18 and 21
abbrev RepliedSaid : {A : Type 0} → Said A → Type 0
RepliedSaid s = Replied s.reply

no_such : Own 18
no_such = (omega arith, omega arith)

replied_after : {A : Type 0} (bytes : List ℕ) (s : Said A) → RepliedSaid s → RepliedSaid (judged_first (judged bytes) s)
replied_after bytes s h = of_either RepliedSaid (ltb 0 (judged bytes).number) (refused_by (judged bytes)) s (judged_replied bytes) h

replied_asked : {A : Type 0} (t : Bool) (s : Said A) → RepliedSaid s → RepliedSaid (pick t s (Reader.refused 18 0))
replied_asked t s h = of_either RepliedSaid t s (Reader.refused 18 0) h (own 18 no_such)

replied_shown : (a e : ℕ) (x : Real) → RepliedSaid (shown_of a e x)
replied_shown a e (Ok n) = answered 0
replied_shown a e (Err _) = own 18 no_such

replied_number : (bytes : List ℕ) (ps : List Part) (j : ℕ) → RepliedSaid (number_from bytes ps j)
replied_number bytes [] j = own 18 no_such
replied_number bytes (p ∷ ps) j =
    replied_asked (ltb j (stored_of p)) (shown_of (first_byte p j) (past_byte p j) (real_in bytes p j)) (replied_shown (first_byte p j) (past_byte p j) (real_in bytes p j))

-- of one number, and of several
abbrev OwnRead : Read → Type 0
OwnRead (Ok x) = Unit
OwnRead (Err n) = Own n

own_exact : (x : Option Float) → OwnRead (on_exact x)
own_exact (Some x) = tt
own_exact None = (omega arith, omega arith)

own_read : (x : Real) → OwnRead (read_of x)
unfolding read_of
own_read (Ok n) = own_exact (exact_of n.minus n.coefficient n.below n.scale)
own_read (Err _) = no_such

data AllOwn : List Read → Type 0 where
  nil : AllOwn []
  more : {r : Read} {rs : List Read} → OwnRead r → AllOwn rs → AllOwn (r ∷ rs)

own_reads : (g : ℕ → Real) (j k : ℕ) → AllOwn (reads g j k)
unfolding reads
own_reads g j zero = nil
own_reads g j (suc k) = more (own_read (g j)) (own_reads g (suc j) k)

replied_whole : (place : ℕ) (xs : List Float) (rs : List Read) → AllOwn rs → RepliedSaid (whole place xs rs)
unfolding whole
replied_whole place xs [] h = answered place
replied_whole place xs (Ok x ∷ rs) (more a h) = replied_whole place (xs ++ (x ∷ [])) rs h
replied_whole place xs (Err n ∷ rs) (more a h) = own n a

replied_value : (bytes : List ℕ) (ps : List Part) (i : ℕ) → RepliedSaid (value_from bytes ps i)
unfolding value_with
replied_value bytes [] i = own 18 no_such
replied_value bytes (p ∷ ps) i =
    let c : ℕ = part_case p in
    replied_asked (ltb i (values_in p)) (value_with (real_in bytes p) c i) (replied_whole (value_kind c) [] _ (own_reads (real_in bytes p) (i * numbers_of c) (numbers_of c)))

replied_all : (bytes : List ℕ) (ps : List Part) → RepliedSaid (all_from bytes ps)
replied_all bytes [] = own 18 no_such
replied_all bytes (p ∷ ps) =
    replied_asked (ltb 0 (values_in p)) (whole (stored_of p) [] (reads (real_in bytes p) 0 (stored_of p))) (replied_whole (stored_of p) [] _ (own_reads (real_in bytes p) 0 (stored_of p)))

replied_places : (s : Said Float) (places : ℕ) → RepliedSaid s → Replied (reply_in s places)
replied_places s places h =
    let room : Bool = ltb places (length s.shown) in
    of_either Replied (ltb 0 s.reply.number) s.reply (pick room (reply 20 0) (reply 0 s.reply.place)) h
    (of_either Replied room (reply 20 0) (reply 0 s.reply.place) (own 20 (omega arith, omega arith)) (answered s.reply.place))

pub calls_table : (bytes : List ℕ) (k i room : ℕ) → CallsInTable bytes k i room
unfolding list_reply stored_number value_of all_reply all_values rewrite_reply
calls_table bytes k i room =
    record {
      lister = in_room bytes (ltb room (row_numbers * length (parts_of bytes))) 17 (length (parts_of bytes)) (omega arith, omega arith);
      number = replied_after bytes (number_from bytes (sets_from bytes k) i) (replied_number bytes (sets_from bytes k) i);
      value = replied_after bytes (value_from bytes (sets_from bytes k) i) (replied_value bytes (sets_from bytes k) i);
      all = replied_places (judged_first (judged bytes) (all_from bytes (sets_from bytes k))) room (replied_after bytes (all_from bytes (sets_from bytes k)) (replied_all bytes (sets_from bytes k)));
      rewriter = in_room bytes (ltb room (length (rewritten_file bytes))) 20 (length (rewritten_file bytes)) (omega arith, omega arith);
    }

-- the refusal of a line of the writer's header
abbrev Lined : Refusal → Type 0
Lined f = LineNumber f.number × (1 ≤ f.column)

at_line_lem : (n : ℕ) (f : Refusal) → Lined f → Replied (at_line n f)
at_line_lem n f h = line f.number (n + 1) f.column h.0 (omega arith) h.1

own_lined : {ended : Bool} {cs : List ℕ} {f : Refusal} → LineFault ended cs f → Lined f
own_lined {cs = cs} w = (own_number w, (own_column cs (omega arith) w).from)

past_lined : (n c : ℕ) → (0 < n → Lined (refusal n c)) → Lined (past_fault (refusal n c))
past_lined zero c h = ((omega arith, inl (omega arith)), omega arith)
past_lined (suc n) c h = h (omega arith)

abbrev RepliedRun : Run → Type 0
RepliedRun (going s n) = Unit
RepliedRun (refused r) = Replied r

header_step_replied : (r : Run) (l : List ℕ) → RepliedRun r → RepliedRun (header_step r l)
header_step_replied (going s n) l h =
    let own-fault : Refusal = line_fault true (columns true l) in
    let late : Refusal = past_fault own-fault in
    of_either RepliedRun (ltb n header_lines) (on_outcome n (line_step s l)) (refused (at_line n late)) (go (line_step s l) refl)
    (at_line_lem n late (past_lined own-fault.number own-fault.column (λ k. own_lined (line_fault_fault true (columns true l) k))))
  where
    go : (o : Result State Refusal) → line_step s l ≡ o → RepliedRun (on_outcome n o)
    go (Ok t) e = tt
    go (Err f) e = at_line_lem n f (line_number s l f e, (fault_column (refused_fault s l f e)).from)
header_step_replied (refused r) l h = h

header_lines_replied : (ls : List (List ℕ)) (r : Run) → RepliedRun r → RepliedRun (over header_step r ls)
unfolding over
header_lines_replied [] r h = h
header_lines_replied (l ∷ ls) r h = header_lines_replied ls (header_step r l) (header_step_replied r l h)

-- a header's reply that names a line; `leaves` has replies that name none, for places that eleven lines do not leave
abbrev IfLined : Answer → Type 0
IfLined h = 1 ≤ h.reply.place → Replied h.reply

leaves_replied : (p : Place) → IfLined (leaves p)
leaves_replied Outside h = absurd (omega arith)
leaves_replied Number h = absurd (omega arith)
leaves_replied Plain h = absurd (omega arith)
leaves_replied (Typed d) h = answered 0

header_end_replied : (r : Run) (rest : List ℕ) → RepliedRun r → IfLined (header_end r rest)
header_end_replied (going s n) [] h =
    of_either IfLined (ltb n header_lines) (refused_at n (refusal 7 1)) (leaves s.place)
    (λ a. at_line_lem n (refusal 7 1) ((omega arith, inl (omega arith)), omega arith)) (leaves_replied s.place)
header_end_replied (going s n) (x ∷ xs) h = λ a. at_line_lem n (line_fault false (x ∷ xs)) (own_lined (line_fault_fault false (x ∷ xs) (unended_some (x ∷ xs))))
header_end_replied (refused r) rest h = λ a. h

header_lined : (header : List ℕ) → IfLined (header_of header)
unfolding header_of judge
header_lined header =
    header_end_replied (over header_step (going opened 0) (cut header).lines) (cut header).rest (header_lines_replied (cut header).lines (going opened 0) tt)

header_replied : (header : List ℕ) → 0 < (header_of header).reply.number → Replied (header_of header).reply
header_replied header h = header_lined header (refused_place header h).0

laid_replied : (header : List ℕ) (c stored : ℕ) (xs ss : List ℤ) (room : ℕ) → Replied (laid_reply header c stored xs ss room)
unfolding laid_reply
laid_replied header c stored xs ss room =
    let size : ℕ = length (written_set header c xs ss) in
    let unfit : ℕ = first_unfit c 0 xs ss in
    let lay : Reply = pick (ltb room size) (reply 20 0) (reply 0 size) in
    let fit : Reply = pick (ltb unfit (length xs)) (reply 19 unfit) lay in
    of_either Replied (eqb (length xs) stored && eqb (length ss) stored) fit (reply 22 0)
    (of_either Replied (ltb unfit (length xs)) (reply 19 unfit) lay (Table.unfit unfit)
    (of_either Replied (ltb room size) (reply 20 0) (reply 0 size) (own 20 (omega arith, omega arith)) (answered size)))
    (own 22 (omega arith, omega arith))

pub writer_table : (header : List ℕ) (xs ss : List ℤ) (room : ℕ) → Replied (write_reply header xs ss room)
unfolding write_reply
writer_table header xs ss room = by (ltb 0 (header_of header).reply.number) refl
  where
    laid : Reply
    laid = laid_reply header (header_of header).case (header_of header).stored xs ss room

    by : (t : Bool) → ltb 0 (header_of header).reply.number ≡ t → Replied (pick t (header_of header).reply laid)
    by true e = header_replied header (ltb-true 0 (header_of header).reply.number e)
    by false e = laid_replied header (header_of header).case (header_of header).stored xs ss room
