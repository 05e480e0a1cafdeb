-- THE PAGE OF THEOREMS: the three demands, C-11, C-13, C-14 and C-15, sentence by sentence, each with the theorems that carry it; what is proved stands in the files that
-- they cite. A file is a list of bytes. Every call is proved to answer, for all bytes and numbers, by definitions that are named here, in its `ensures`: C
-- gets `word` of a reply, a stored number or a value by `reply_for`, a burst by `Burst word` (crates/host/src/lib.rt); for C-11 also crates/stream_mut/src/lib.rt.
-- `judged` is the judge's reply, and `Proper sets bytes` says from a list of sets alone that a text is a proper writing of it.
use Rattle.std.specs.Prelude.{◌≡◌, true, false, List, [], ◌∷◌, ◌++◌, map, ◌⊎◌, ℕ, suc, ◌+◌, ◌*◌, ◌^◌, ◌-◌, ◌<◌, ◌≤◌, Float, ℤ, pos, length, get_or, take, drop, Ok, Err}
use Rattle.std.specs.Float.{binary64}
use Rattle.std.specs.Float.Ieee.{round}
use Rattle.laws.specs.Cut.{cut}
use Rattle.real.specs.Real.{real_of}
use Rattle.exact.specs.Exact.{magnitude_of}
use Rattle.exact.specs.Bits.{bits_of}
use Rattle.layout.specs.Columns.{field_start}
use Rattle.layout.specs.Layout.{layout_of, numbers_of}
use Rattle.line.specs.declared.Refusal.{Refusal}
use Rattle.field.specs.Field.{columns_of}
use Rattle.field.specs.Item.{Item}
use Rattle.record_table.specs.Row.{padding_fields, first_fields}
use Rattle.record_table.specs.Records.{plain, record_of, data_row}
use Rattle.record_table.specs.TypedSets.{header_lines}
use Rattle.record.specs.Check.{remainder_in}
use Rattle.judge.specs.declared.Reply.{Reply}
use Rattle.judge.specs.Judge.{judged, reply, reply_at, at_line}
use Rattle.parts.specs.Parts.{Part, parts_of, dataset_of, past_of, line_of, last_line}
use Rattle.parts.specs.Function.{part_case, count_of, data_start, first_byte, past_byte}
use Rattle.parts.specs.Padding.{padding_in, padding_of}
use Rattle.reader.specs.Reader.{Shown, said, refused, shown_of, stored_number, value_kind, value_of, value_with}
use Rattle.values.specs.Values.{all_values, all_reply, all_places}
use Rattle.rewriter.specs.Rewriter.{head_text, rewritten_file, rewrite_reply, rewrite_out}
use Rattle.header.specs.Header.{header_of}
use Rattle.writer.specs.Writer.{write_reply, write_out}
use Rattle.stream.specs.declared.Stream.{Stream}
use Rattle.stream.specs.Stream.{seen, Stepped, answer_of, paper, end_reply, closed, fresh_record}
use Rattle.stream_c.specs.Lent.{is_short, stream_of, start_reply, start_numbers, start_line, end_of, end_numbers, Untouched, Burst, same}
use Rattle.lister.specs.Lister.{row_numbers, rows_of, list_reply, list_rows}
use Rattle.host.specs.Packed.{InWord, word, number_in, Carries}
use Rattle.host.specs.Answer.{number_bytes, value_bytes, number_answer, value_answer, reply_for, bytes_after}
use Rattle.theory.specs.Sets.{Set}
use Rattle.theory.specs.Due.{rows_holding}
use Rattle.theory.specs.Proper.{Proper}
use Rattle.line_laws.specs.Ends as Ends
use Rattle.parts_laws.specs.Holds.{AtPlaces}
use Rattle.parts_laws.specs.Text.{lines_of}
use Rattle.parts_laws.specs.Declares.{declared, set_case}
use Rattle.parts_laws.specs.Stored.{stored_count, stored_item}
use Rattle.parts_laws.specs.Field.{Spelled}
use Rattle.rewriter_laws.specs.Form.{InForm, KeepsSpellings}
use Rattle.rewriter_laws.specs.Differ.{PaddingAside}
use Rattle.writer_laws.specs.Reply.{Coefficients}
use Rattle.writer_laws.specs.HeaderRefused.{twelfth_fault}
use Rattle.walk_laws.specs.Fault.{InLine}
use Rattle.walk_laws.specs.FileFault.{FileFault, Judged}
use Rattle.stream_laws.specs.Streaming.{burst_answer, joined, Bursts}
use Rattle.stream_laws.specs.Calls.{Calls}
use Rattle.theorems.specs.Table.{InTable, Replied, CallsInTable, BurstInTable}
use Rattle.theorems.specs.Stands.{SetAt, At58}
use Rattle.theorems.specs.Answers.{Answered, NoSuch, AsJudged, InTurn, Filled, FilledBy, KindBytes, value_said, all_said, own_bytes}
use Rattle.theorems.specs.Rounded.{OnceOr21}
use Rattle.theorems.specs.Columns.{Columns, DataByte, Belongs}
use Rattle.theorems.specs.Same.{SameAnswers}
use Rattle.theorems.specs.Alone.{alone_in, sets_alone, together, Alone}
use Rattle.theorems.specs.LaidOut.{written_text, Writable, LaidOut, ReadAs}
use Rattle.exact.specs.ExactLaws as ExactLaws
use Rattle.record_table.specs.PaddingLaws as RowLaws
use Rattle.record.specs.TakenLaws as TakenLaws
use Rattle.host.specs.PackedLaws as PackedLaws
use Rattle.parts_laws.specs.PaddingLaws as PaddingLaws
use Rattle.rewriter_laws.proofs.UnpaddedLaws as UnpaddedLaws
use Rattle.writer_laws.specs.HeaderRefusedLaws as HeaderRefusedLaws
use Rattle.walk_laws.specs.FaultColumnLaws as FaultColumnLaws
use Rattle.walk_laws.specs.FileFaultLaws as FileFaultLaws
use Rattle.stream_laws.proofs.StreamingLaws as StreamingLaws
use Rattle.stream_laws.proofs.CallsLaws as CallsLaws
use Rattle.theorems.proofs.TableLaws as TableLaws
use Rattle.theorems.proofs.TableCallsLaws as TableCallsLaws
use Rattle.judge_laws.specs.JudgeLaws as JudgeLaws
use Rattle.theorems.specs.ListerLaws as ListerLaws
use Rattle.theorems.proofs.ColumnsLaws as ColumnsLaws
use Rattle.theorems.proofs.ReaderLaws as ReaderLaws
use Rattle.theorems.specs.LentLaws as LentLaws
use Rattle.theorems.proofs.RoundedLaws as RoundedLaws
use Rattle.theorems.proofs.ValuesLaws as ValuesLaws
use Rattle.theorems.specs.RewriterLaws as RewriterLaws
use Rattle.theorems.proofs.SameLaws as SameLaws
use Rattle.theorems.proofs.AloneLaws as AloneLaws
use Rattle.theorems.proofs.WriterLaws as WriterLaws
use Rattle.theorems.proofs.KeptLaws as KeptLaws
use Rattle.theorems.proofs.ArrivalLaws as ArrivalLaws
use Rattle.format.specs.Format as Format
use Rattle.format.specs.Format.{Format}
use Rattle.format.specs.Reading.{fields, reading_of}
use Rattle.format.specs.ReadingLaws as ReadingLaws
use Rattle.line.specs.Line.{columns, filled}
use Rattle.record_table.specs.Row.{Field}
use Rattle.record_table.specs.Records.{no_record, trace_entries, order_lists}
use Rattle.record.specs.Check.{taken}
use Rattle.walk.specs.Due.{record_due, row_due, may_continue}
use Rattle.walk.specs.declared.Due.{Due}
use Rattle.walk.specs.declared.Place.TheVariants.{Typed}
use Rattle.walk.specs.declared.State.{State}
use Rattle.judge.specs.Judge.{line_step}
use Rattle.reader.specs.Reader.{refused_by}
use Rattle.format_reader.specs.Question.{Seen}
use Rattle.format_reader.specs.Question as Question
use Rattle.host.specs.Answer.{seen_bytes, field_answer}
use Rattle.format_laws.specs.Asked.{as_format, ReadsAs, left_blank, Asked}
use Rattle.format_laws.specs.Fault.{Ruled, LentFault}
use Rattle.format_laws.proofs.FaultLaws as FormatFaultLaws
use Rattle.format_laws.specs.Printed.{print_at, case_at, is_among, entries_text, orders_text, last_text, printed_for}
use Rattle.format_laws.specs.Printed as Printed
use Rattle.format_laws.specs.Said.{NoFormat, LineRefused, NoField, FieldSaid}
use Rattle.format_laws.specs.SameLaws as FormatLaws
use Rattle.format_laws.proofs.PrintedLaws as PrintedLaws
use Rattle.format_laws.proofs.DueLaws as PrintedDueLaws
use Rattle.format_laws.proofs.JudgeLaws as QuestionJudgeLaws
use Rattle.format_laws.proofs.SaidLaws as SaidLaws
use Rattle.theorems.proofs.QuestionLaws.{ItemsShown}
use Rattle.theorems.proofs.QuestionLaws as QuestionLaws
use Rattle.theorems.specs.AsReader.{data_columns, data_field, AsReader}
use Rattle.theorems.proofs.AsReaderLaws as AsReaderLaws
use Rattle.theorems.specs.Reached.{Reached, DueLine, printed_text}
use Rattle.theorems.specs.ReachedLaws as ReachedLaws

-- DEMAND 1. "Every call takes every string of bytes and every number, and ends.": what each answers is proved for all of them.
-- "A bad file or a bad question gets a number from document 01's table, with the line where the table says so."
pub judge_table : (bytes : List ℕ) → InTable (length (cut bytes).lines) (judged bytes)
judge_table = TableLaws.judge_table

pub judge_first : (bytes : List ℕ) → 0 < (judged bytes).number → (k i room : ℕ) → AsJudged bytes k i room
judge_first = ReaderLaws.judge_first

pub calls_table : (bytes : List ℕ) (k i room : ℕ) → CallsInTable bytes k i room
calls_table = TableCallsLaws.calls_table

pub writer_table : (header : List ℕ) (xs ss : List ℤ) (room : ℕ) → Replied (write_reply header xs ss room)
writer_table = TableCallsLaws.writer_table

-- of bursts, 127, 1 or the refusal of a finished line; 20 for a record that is too short and 23 after the end are in `Burst`
pub burst_table : (bytes : List ℕ) → BurstInTable (length (cut bytes).lines) (paper (burst_answer bytes))
burst_table = ArrivalLaws.burst_table

-- a set by its number from 1, a stored number or a value by its index from 0
module _ {sets : List Set} {bytes : List ℕ} (p : Proper sets bytes) where
  pub reader_no_set : (k i : ℕ) → (k ≡ 0) ⊎ (length sets < k) → NoSuch bytes k i
  reader_no_set = ReaderLaws.reader_no_set p

  pub reader_not_58 : {k : ℕ} {s : Set} {q : Part} → SetAt sets bytes k s q → (s.number ≡ 58 → ⊥) → (i : ℕ) → NoSuch bytes (suc k) i
  reader_not_58 = ReaderLaws.reader_not_58 p

  -- 02, C-13: padding is "never located, never shown": the numbers of a set end with its last counted one
  pub reader_past : {k : ℕ} {s : Set} {q : Part} → At58 sets bytes k s q → (i : ℕ)
      → (stored_count s ≤ i → stored_number bytes (suc k) i ≡ refused 18 0) × (declared s ≤ i → value_of bytes (suc k) i ≡ refused 18 0)
  reader_past = ReaderLaws.reader_past p

  -- 17 and 20, where an answer has less room than it takes ("17 counts seven places", 02, C-13); 1 is `refusal_too_long` below
  pub lister_short : (room : ℕ) → room < row_numbers * length sets → list_reply bytes room ≡ reply 17 0
  lister_short = ListerLaws.lister_short p

  pub rewriter_short : (room : ℕ) → room < length (rewritten_file bytes) → rewrite_reply bytes room ≡ reply 20 0
  rewriter_short = RewriterLaws.rewriter_short p

pub number_short : (bytes : List ℕ) (k j : ℕ) (x : Shown) → stored_number bytes k j ≡ said 0 0 (x ∷ []) → (room : ℕ) → room < 20
    → reply_for (number_answer (stored_number bytes k j)) room ≡ word (reply 20 0)
number_short = LentLaws.number_short

pub value_short : (bytes : List ℕ) (k i n : ℕ) (xs : List Float) → value_of bytes k i ≡ said 0 n xs → (room : ℕ) → room < 8 * length xs
    → reply_for (value_answer (value_of bytes k i)) room ≡ word (reply 20 0)
value_short = LentLaws.value_short

pub all_short : (bytes : List ℕ) (k n room : ℕ) (xs : List Float) → all_values bytes k ≡ said 0 n xs → room < length xs → all_reply bytes k room ≡ reply 20 0
all_short = ValuesLaws.all_short

-- "A refused call alters no byte of a buffer lent to it."
pub lister_kept : (bytes rows : List ℕ) → 0 < (list_reply bytes (length rows)).number → list_rows bytes rows ≡ rows
lister_kept = KeptLaws.lister_kept

pub number_kept : (bytes : List ℕ) (k j : ℕ) (out : List ℕ)
    → 0 < number_in (reply_for (number_answer (stored_number bytes k j)) (length out)) → bytes_after (number_answer (stored_number bytes k j)) out ≡ out
number_kept = KeptLaws.number_kept

pub value_kept : (bytes : List ℕ) (k i : ℕ) (out : List ℕ)
    → 0 < number_in (reply_for (value_answer (value_of bytes k i)) (length out)) → bytes_after (value_answer (value_of bytes k i)) out ≡ out
value_kept = KeptLaws.value_kept

pub all_kept : (bytes : List ℕ) (k : ℕ) (out : List ℕ) → 0 < (all_reply bytes k (length out)).number → all_places bytes k out ≡ out
all_kept = KeptLaws.all_kept

pub rewriter_kept : (bytes out : List ℕ) → 0 < (rewrite_reply bytes (length out)).number → rewrite_out bytes out ≡ out
rewriter_kept = KeptLaws.rewriter_kept

pub writer_kept : (header : List ℕ) (xs ss : List ℤ) (out : List ℕ) → 0 < (write_reply header xs ss (length out)).number → write_out header xs ss out ≡ out
writer_kept = KeptLaws.writer_kept

pub start_kept : (ns bs : List ℕ) → 0 < (start_reply ns bs).number → (start_numbers ns bs ≡ ns) × (start_line ns bs ≡ bs)
start_kept = ArrivalLaws.start_kept

pub burst_kept : {ns bs b ns' bs' : List ℕ} {r : Reply} → Burst same ns bs b ns' bs' r → (r.number ≡ 20) ⊎ (r.number ≡ 23) → Untouched ns bs ns' bs'
burst_kept = ArrivalLaws.burst_kept

pub burst_kept_word : {ns bs b ns' bs' : List ℕ} {w : ℕ} → Burst word ns bs b ns' bs' w → (number_in w ≡ 20) ⊎ (number_in w ≡ 23) → Untouched ns bs ns' bs'
burst_kept_word = ArrivalLaws.burst_kept_word

pub end_kept : (ns bs : List ℕ) → (end_of ns bs).number ≡ 20 → end_numbers ns bs ≡ ns
end_kept = ArrivalLaws.end_kept

-- "No caller has to check first.": no call has a `requires`.

-- DEMAND 2. "Records, columns and numbers mean what the published dataset descriptions and document 01 say.": the definitions under `Proper`.
-- "A number read is the decimal number in its columns, exactly, or rounded once where 01 says so.": `reader_numbers`, `value_by_bytes`, `value_rounded` below, and
pub rounded_once : (c k : ℕ) → c ≤ 9007199254740992 → k ≤ 22
    → (magnitude_of c false k ≡ round binary64 false (c * 10 ^ k) 1) × (magnitude_of c true k ≡ round binary64 false c (10 ^ k))
rounded_once c k h g = (ExactLaws.magnitude_of_times c k h g, ExactLaws.magnitude_of_divided c k h g)

-- "Numbers the writer has laid out read back as equal numbers, and rewriting an accepted file keeps its sets.": `rewriter_keeps` below, and, of
-- coefficients that an i64 can have,
pub writer_lays : (header : List ℕ) (xs ss : List ℤ) (room : ℕ) → Coefficients xs → (write_reply header xs ss room).number ≡ 0 → LaidOut header xs ss
writer_lays = WriterLaws.writer_lays

-- and the other way about: where header and numbers can be laid out it answers the length, or 20 for lack of room
pub writer_writes : (header : List ℕ) (xs ss : List ℤ) (room : ℕ) → Writable header xs ss
    → (length (written_text header xs ss) ≤ room → write_reply header xs ss room ≡ reply 0 (length (written_text header xs ss)))
    × (room < length (written_text header xs ss) → write_reply header xs ss room ≡ reply 20 0)
writer_writes = WriterLaws.writer_writes

pub writer_answers : (header : List ℕ) (xs ss : List ℤ) (out : List ℕ) → (write_reply header xs ss (length out)).number ≡ 0
    → (length (written_text header xs ss) ≤ length out) × Filled (written_text header xs ss) (write_reply header xs ss (length out)) out (write_out header xs ss out)
writer_answers = WriterLaws.writer_answers

module _ {header : List ℕ} {xs ss : List ℤ} (l : LaidOut header xs ss) where
  pub writer_accepted : ((judged (written_text header xs ss)).number ≡ 0) × (rewritten_file (written_text header xs ss) ≡ written_text header xs ss)
  writer_accepted = WriterLaws.writer_accepted l

  pub writer_unpadded : map padding_of (parts_of (written_text header xs ss)) ≡ 0 ∷ []
  writer_unpadded = WriterLaws.writer_unpadded l

  pub writer_read : (j : ℕ) → j < length xs → ReadAs (written_text header xs ss) j (get_or xs j (pos 0)) (get_or ss j (pos 0))
  writer_read = WriterLaws.writer_read l

-- DEMAND 3. "Document 01 says from a list of sets, without the judge, which texts are proper writings of it.": `Proper`.
-- 02, C-13: "In the last data line the full line's columns past the counted numbers are either all blank or all filled with well-formed reals up to the full
-- line. Those are padding": `InColumns` (`record` Written) says so of a line and its row's padding, which is what is cut off from a data line that holds
-- only what is left; lines before the last have none, and no line of any other record, however few of its fields are due
pub padding_of_row : (n c : ℕ) → padding_fields (first_fields n (data_row c)) ≡ drop n (data_row c).fields
padding_of_row = RowLaws.data_padding

pub remainder_of_row : (c n : ℕ) (line : List ℕ)
    → remainder_in (first_fields n (data_row c)) line ≡ columns_of (field_start (layout_of c).widths n) (field_start (layout_of c).widths 6) line
remainder_of_row = TakenLaws.data_remainder

pub padding_last : (c left k : ℕ) → suc k < length (rows_holding (data_row c) left) → padding_fields (get_or (rows_holding (data_row c) left) k (plain [])) ≡ []
padding_last = PaddingLaws.full_unpadded

pub padding_none : (n k : ℕ) → padding_fields (first_fields n (record_of k)) ≡ []
padding_none = PaddingLaws.record_unpadded

-- "Whatever string of bytes a file is, it is accepted exactly when it is a proper writing of some list."
pub accepted_proper : (bytes : List ℕ) (n : ℕ) → judged bytes ≡ reply 0 n → (sets : List Set) × Proper sets bytes
accepted_proper = JudgeLaws.accepted_proper

pub proper_accepted : {sets : List Set} {bytes : List ℕ} → Proper sets bytes → judged bytes ≡ reply 0 (length (cut bytes).lines)
proper_accepted = JudgeLaws.proper_accepted

-- "That list is the only one, and all answers show it."
pub proper_unique : {a b : List Set} {bytes : List ℕ} → Proper a bytes → Proper b bytes → a ≡ b
proper_unique = JudgeLaws.proper_unique

module _ {sets : List Set} {bytes : List ℕ} (p : Proper sets bytes) where
  -- "The lister's number of sets, dataset numbers and, for a 58, declared counts are that list's, in order.", and where each set stands
  pub lister_answers : (rows : List ℕ) → row_numbers * length sets ≤ length rows
      → (list_reply bytes (length rows) ≡ reply 0 (length sets)) × (list_rows bytes rows ≡ rows_of (parts_of bytes) ++ drop (row_numbers * length sets) rows)
  lister_answers = ListerLaws.lister_answers p

  pub lister_numbers : (map dataset_of (parts_of bytes) ≡ map (λ (s : Set). s.number) sets) × (map count_of (parts_of bytes) ≡ map declared sets)
  lister_numbers = ListerLaws.lister_numbers p

  pub lister_places : AtPlaces 0 0 sets (parts_of bytes) (cut bytes).lines
  lister_places = ListerLaws.lister_places p

  pub set_stands : {s : Set} {later : List Set} (k : ℕ) → drop k sets ≡ s ∷ later → (q : Part) × SetAt sets bytes k s q
  set_stands = ListerLaws.set_stands p

  module _ {k : ℕ} {s : Set} {q : Part} (a : SetAt sets bytes k s q) where
    pub lister_row : (rows : List ℕ) → row_numbers * length sets ≤ length rows
        → take row_numbers (drop (row_numbers * k) (list_rows bytes rows)) ≡ suc q.lines ∷ s.number ∷ declared s ∷ q.bytes ∷ past_of q ∷ data_start q ∷ padding_of q ∷ []
    lister_row = ListerLaws.lister_row p a

    pub lister_other : (s.number ≡ 58 → ⊥) → padding_of q ≡ 0
    lister_other = ColumnsLaws.padding_other p a

    pub lister_bytes : take (past_of q - q.bytes) (drop q.bytes bytes) ≡ Ends.joined (lines_of q) []
    lister_bytes = ListerLaws.lister_bytes p a

  -- "The reader's numbers are that list's, index by index.": set k of the list, from 0, is s, a 58, and stands in the file as the part q
  module _ {k : ℕ} {s : Set} {q : Part} (a : At58 sets bytes k s q) where
    pub reader_numbers : (j : ℕ) → j < stored_count s → Answered bytes (suc k) j s q
    reader_numbers = ReaderLaws.reader_numbers p a

    pub reader_values : (i : ℕ) → i < declared s → value_of bytes (suc k) i ≡ value_said s i
    reader_values = ReaderLaws.reader_values p a

    -- each f64 of a value is its item rounded once, with its sign; 21 exactly where an item is outside the exact path
    pub value_rounded : (i : ℕ) → i < declared s → OnceOr21 s (i * numbers_of (set_case s)) (numbers_of (set_case s)) (value_kind (set_case s)) (value_of bytes (suc k) i)
    value_rounded = RoundedLaws.value_rounded p a

    pub all_of_list : all_values bytes (suc k) ≡ all_said s
    all_of_list = ValuesLaws.all_of_list p a

    pub all_in_turn : (n : ℕ) (xs : List Float) → all_values bytes (suc k) ≡ said 0 n xs → InTurn bytes k s n xs
    all_in_turn = ValuesLaws.all_in_turn p a

    pub all_answers : (n : ℕ) (xs : List Float) (out : List ℕ) → all_values bytes (suc k) ≡ said 0 n xs → n ≤ length out
        → Filled (map bits_of xs) (all_reply bytes (suc k) (length out)) out (all_places bytes (suc k) out)
    all_answers = ValuesLaws.all_answers p a

    pub all_refused_one : (m l : ℕ) → 0 < m → all_values bytes (suc k) ≡ refused m l → (i : ℕ) × ((i < declared s) × (value_of bytes (suc k) i ≡ refused m l))
    all_refused_one = ValuesLaws.all_refused_one p a

  -- "What the rewriter gives is again a proper writing of that list, the one in document 01's rewritten form that keeps the file's spellings."
  pub rewriter_keeps : Proper sets (rewritten_file bytes) × (InForm sets (rewritten_file bytes) × KeepsSpellings sets bytes (rewritten_file bytes))
  rewriter_keeps = RewriterLaws.rewriter_keeps p

  pub rewriter_only : (new : List ℕ) → InForm sets new → KeepsSpellings sets bytes new → new ≡ rewritten_file bytes
  rewriter_only = RewriterLaws.rewriter_only p

  -- padding is "dropped by the rewriter"
  pub rewriter_unpadded : map padding_of (parts_of (rewritten_file bytes)) ≡ map (λ (s : Set). 0) sets
  rewriter_unpadded = RewriterLaws.rewriter_unpadded p

  -- what is rewritten stays so, and is no longer than the file
  pub rewriter_again : rewritten_file (rewritten_file bytes) ≡ rewritten_file bytes
  rewriter_again = RewriterLaws.rewriter_again p

  pub rewriter_no_longer : length (rewritten_file bytes) ≤ length bytes
  rewriter_no_longer = RewriterLaws.rewriter_no_longer p

  pub rewriter_answers : (out : List ℕ) → length (rewritten_file bytes) ≤ length out → Filled (rewritten_file bytes) (rewrite_reply bytes (length out)) out (rewrite_out bytes out)
  rewriter_answers = RewriterLaws.rewriter_answers p

  -- A set alone: its bytes, from its row's fourth number to its fifth, are a file of just that set, of which every call answers as in the whole file
  pub set_alone : {k : ℕ} {s : Set} {q : Part} → SetAt sets bytes k s q → Alone bytes (alone_in bytes q) k s q
  set_alone = AloneLaws.set_alone p

  pub rewritten_alone : rewritten_file bytes ≡ together (map rewritten_file (sets_alone bytes))
  rewritten_alone = AloneLaws.rewritten_alone p

  pub alone_bytes : length (together (sets_alone bytes)) ≤ length bytes
  alone_bytes = AloneLaws.alone_bytes p

  module _ {k : ℕ} {s : Set} {q : Part} (a : At58 sets bytes k s q) where
    -- "In each dataset 58 of an accepted file the declared count of values is there, each in its own columns, in order, not overlapping, inside the
    -- set's delimiters."
    pub values_in_columns : Columns bytes s q
    values_in_columns = ColumnsLaws.values_in_columns p a

    -- "Every non-blank byte of the data lines, their ends aside, belongs to exactly one of these values" or (02, C-13) "to padding"
    pub bytes_of_values : (x : ℕ) → DataByte bytes q x → Belongs s q x
    bytes_of_values = ColumnsLaws.bytes_of_values p a

    -- 02, C-13: "the seventh number, which counts the text's padding": the fields of the full line past the counted ones where a byte of them is no
    -- blank, 0 otherwise (`padding_in`); each of them is one of the "well-formed reals"
    pub padding_counted : padding_of q ≡ padding_in (set_case s) (stored_count s) (line_of q (last_line q))
    padding_counted = ColumnsLaws.padding_counted p a

    pub padding_real : (j : ℕ) → stored_count s ≤ j → j < stored_count s + padding_of q → (i : Item) × Spelled i (own_bytes bytes q j)
    padding_real = ColumnsLaws.padding_real p a

    -- "No number shown of a value comes from columns other than its own, whatever the others hold."
    pub number_by_bytes : (j : ℕ) → j < stored_count s → stored_number bytes (suc k) j ≡ shown_of (first_byte q j) (past_byte q j) (real_of (own_bytes bytes q j))
    number_by_bytes = ReaderLaws.number_by_bytes p a

    pub value_by_bytes : (i : ℕ) → i < declared s → value_of bytes (suc k) i ≡ value_with (λ (j : ℕ). real_of (own_bytes bytes q j)) (set_case s) i
    value_by_bytes = ReaderLaws.value_by_bytes p a

-- so of two 58s, of one file or of two
module _ {sets sets' : List Set} {bytes bytes' : List ℕ} (p : Proper sets bytes) (p' : Proper sets' bytes') {k k' : ℕ} {s s' : Set} {q q' : Part}
    (a : At58 sets bytes k s q) (a' : At58 sets' bytes' k' s' q') where
  pub own_bytes_number : (j j' : ℕ) → j < stored_count s → j' < stored_count s' → own_bytes bytes q j ≡ own_bytes bytes' q' j' → stored_item s j ≡ stored_item s' j'
  own_bytes_number = ReaderLaws.own_bytes_number p p' a a'

  pub own_bytes_decide : set_case s ≡ set_case s' → (i i' : ℕ) → i < declared s → i' < declared s'
      → ((r : ℕ) → r < numbers_of (set_case s) → own_bytes bytes q (i * numbers_of (set_case s) + r) ≡ own_bytes bytes' q' (i' * numbers_of (set_case s) + r))
      → value_of bytes (suc k) i ≡ value_of bytes' (suc k') i'
  own_bytes_decide = ReaderLaws.own_bytes_decide p p' a a'

-- 02, C-13: "the seventh number .. is neither of the list nor among the numbers shown": two files that differ in padding alone, line ends aside, have one list,
-- the same rewritten bytes and the same answers to every question, byte places and sevenths aside; two with different sevenths are in `cases` Examples
module _ {a b : List Set} {x y : List ℕ} (p : Proper a x) (q : Proper b y) (d : PaddingAside a x y) where
  pub padding_aside : (a ≡ b) × (rewritten_file x ≡ rewritten_file y)
  padding_aside = SameLaws.padding_aside p q d

  pub padding_answers : SameAnswers x y
  padding_answers = SameLaws.padding_answers p q d

-- and every file has one without padding that differs from it in padding alone
pub padding_out : {sets : List Set} {bytes : List ℕ} → Proper sets bytes
    → (bare : List ℕ) × (Proper sets bare × (PaddingAside sets bytes bare × (map padding_of (parts_of bare) ≡ map (λ (s : Set). 0) sets)))
padding_out = UnpaddedLaws.without_padding

-- no two lists have a rewritten text in common
pub one_list : {a b : List Set} {x y : List ℕ} → Proper a x → Proper b y → rewritten_file x ≡ rewritten_file y → a ≡ b
one_list = RewriterLaws.one_list

-- the bytes that C is given of an answer, which `reader_numbers` and `reader_values` say by the list: of a stored number 20, of a value the bit patterns of its
-- f64, the lowest byte first
pub number_answers : (bytes : List ℕ) (k j : ℕ) (x : Shown) → stored_number bytes k j ≡ said 0 0 (x ∷ []) → (out : List ℕ) → 20 ≤ length out
    → FilledBy (number_bytes x) 20 (reply_for (number_answer (stored_number bytes k j)) (length out)) out (bytes_after (number_answer (stored_number bytes k j)) out)
number_answers = LentLaws.number_answers

pub value_answers : (bytes : List ℕ) (k i n : ℕ) (xs : List Float) → value_of bytes k i ≡ said 0 n xs → (out : List ℕ) → 8 * length xs ≤ length out
    → FilledBy (value_bytes xs) n (reply_for (value_answer (value_of bytes k i)) (length out)) out (bytes_after (value_answer (value_of bytes k i)) out)
value_answers = LentLaws.value_answers

-- C-11. "The collector sends a capture in bursts. The receiving program, in Rattle, lends one standing record, which each burst brings up to date in place, then asks for
-- the end." (`Bursts`)
-- "However it is cut, bursts of no bytes too, the end answer is the whole file's, asked again too."
pub any_cut : {r : Stream} {bursts : List (List ℕ)} → Bursts fresh_record bursts r
    → (end_reply (seen r) ≡ judged (joined bursts)) × ((end_reply (seen (closed r)) ≡ judged (joined bursts)) × (closed (closed r) ≡ closed r))
any_cut = ArrivalLaws.any_cut

-- "A burst's answer is 1 once the running length is past the limit, otherwise the refusal of the earliest bad line whose LF has come, otherwise "so far"
-- with the number of finished lines."
pub any_cut_answer : {r : Stream} {bursts : List (List ℕ)} → Bursts fresh_record bursts r → answer_of r.ended (seen r) ≡ burst_answer (joined bursts)
any_cut_answer = ArrivalLaws.any_cut_answer

pub burst_too_long : (bytes : List ℕ) → 16777216 < length bytes → burst_answer bytes ≡ Err (reply 1 0)
burst_too_long = ArrivalLaws.burst_too_long

pub lines_after : (bytes : List ℕ) (n : ℕ) → burst_answer bytes ≡ Ok n → n ≡ length (cut bytes).lines
lines_after = StreamingLaws.lines_after

-- a refusal once told is that of every file that begins so; where it is "so far", none of the finished lines is refused
pub told_stays : (a b : List ℕ) (r : Reply) → burst_answer a ≡ Err r → length (a ++ b) ≤ 16777216 → judged (a ++ b) ≡ r
told_stays = StreamingLaws.told_stays

pub so_far_beyond : (bytes : List ℕ) (n : ℕ) → burst_answer bytes ≡ Ok n
    → (judged bytes ≡ reply 0 n) ⊎ ((judged bytes ≡ reply 16 0) ⊎ ((judged bytes).place ≡ n + 1))
so_far_beyond = StreamingLaws.so_far_beyond

-- "A fresh record starts a new file; one grown otherwise is safe, its answers unpromised.": safe, since no call of `stream_mut` or host has a `requires`
pub start_fresh : (ns bs : List ℕ) → is_short ns bs ≡ false → stream_of (start_numbers ns bs) (start_line ns bs) ≡ fresh_record
start_fresh = CallsLaws.start_fresh

-- "Demand 3 reads for the end answer, and demand 1's untouched buffers don't cover the record, but for 23.": 23 by `burst_kept`, `after_end` and `calls_late`
pub arrived_proper : {r : Stream} {bursts : List (List ℕ)} → Bursts fresh_record bursts r → (n : ℕ) → end_reply (seen r) ≡ reply 0 n
    → (sets : List Set) × Proper sets (joined bursts)
arrived_proper = ArrivalLaws.arrived_proper

pub proper_arrived : {r : Stream} {bursts : List (List ℕ)} → Bursts fresh_record bursts r → {sets : List Set} → Proper sets (joined bursts)
    → end_reply (seen r) ≡ reply 0 (length (cut (joined bursts)).lines)
proper_arrived = ArrivalLaws.proper_arrived

-- "Refusals: 23, a burst after the end was asked, first of all."
pub after_end : {t : Stream} {b : List ℕ} (r : Stream) → Stepped (closed r) b t → (t ≡ closed r) × (answer_of t.ended (seen t) ≡ Err (reply 23 0))
after_end = StreamingLaws.after_end

-- the same for a host, which lends the record as numbers and bytes, with the replies in its form
module _ {A : Type 0} {form : Reply → A} (ns bs : List ℕ) (s : is_short ns bs ≡ false) {ns' bs' : List ℕ} {bursts : List (List ℕ)}
    (k : Calls form (start_numbers ns bs) (start_line ns bs) bursts ns' bs') where
  pub calls_end : (end_of ns' bs' ≡ judged (joined bursts))
      × ((end_of (end_numbers ns' bs') bs' ≡ judged (joined bursts)) × (end_numbers (end_numbers ns' bs') bs' ≡ end_numbers ns' bs'))
  calls_end = (CallsLaws.calls_end ns bs s k, (CallsLaws.calls_again ns bs s k, CallsLaws.calls_marked ns bs s k))

  pub calls_answer : {b ns'' bs'' : List ℕ} {r : A} → Burst form ns' bs' b ns'' bs'' r → r ≡ form (paper (burst_answer (joined (bursts ++ (b ∷ [])))))
  calls_answer = CallsLaws.calls_answer ns bs s k

  pub calls_late : {b ns'' bs'' : List ℕ} {r : A} → Burst form (end_numbers ns' bs') bs' b ns'' bs'' r → Untouched (end_numbers ns' bs') bs' ns'' bs'' × (r ≡ form (reply 23 0))
  calls_late = CallsLaws.calls_late ns bs s k

-- C-14. "Every refusal of a line now carries the column too: of the first such byte for 2 and 13, the field's first column for 10, 11, 12, 14, 24 and 25,
-- otherwise 1.", "For 14 it is the earliest offending field.", "24, integer field blank, and 25, real field blank, in the places of 10 and 12, which keep the
-- rest": a reply that names a line is the refusal of the earliest bad line, and `walk_laws` Fault says from that line what is wrong there, and at which column.
-- 02, C-13: "13 no longer covers the full line's fields; a remainder neither blank nor well-formed is 12 at its first blank or bad field", and 25 there for "a
-- blank field in a remainder too": by `RowFault` (`record_laws` Fault) the counted fields come first, then those of a remainder that is not blank, then 13
pub refusal_sound : (bytes : List ℕ) → length bytes ≤ 16777216 → Judged bytes (judged bytes)
refusal_sound = FileFaultLaws.judged_fault

pub refusal_complete : (bytes : List ℕ) {k : ℕ} {f : Refusal} → length bytes ≤ 16777216 → FileFault bytes k f → judged bytes ≡ at_line k f
refusal_complete = FileFaultLaws.fault_judged

-- it is from 1, at most 80 but for 2, for 2 at most the file's bytes, and 1 for 3 to 9 and 15
pub refusal_column : {bytes : List ℕ} {k : ℕ} {f : Refusal} → FileFault bytes k f → InLine bytes f
refusal_column = FaultColumnLaws.file_column

-- "Any other reply of number and place carries 0.": `judge_table`, `calls_table` and `writer_table`, of bursts `any_cut` and `calls_answer`; and
pub refusal_too_long : (bytes : List ℕ) → 16777216 < length bytes → judged bytes ≡ reply 1 0
refusal_too_long = FileFaultLaws.too_long_judged

-- the word that carries a reply to C gives its number, column and place back; a file's reply is within its bounds (`InWord`)
pub word_carries : (r : Reply) → InWord r → Carries (word r) r
word_carries = PackedLaws.word_carries

pub reply_bounds : (bytes : List ℕ) → InWord (judged bytes)
reply_bounds = TableLaws.judged_bounds

pub reply_word : (a b : List ℕ) → word (judged a) ≡ word (judged b) → judged a ≡ judged b
reply_word = TableLaws.judged_word

-- the writer's header is refused as the file that it opens, two lines up, where that is no longer than a file may be; past eleven lines, for its twelfth
module _ (header : List ℕ) (h : 0 < (header_of header).reply.number) where
  pub header_judged : (length (cut header).lines ≤ header_lines) ⊎ ((header_of header).reply.place ≤ header_lines) → length (head_text 58 ++ header) ≤ 16777216
      → judged (head_text 58 ++ header) ≡ reply_at (header_of header).reply.number ((header_of header).reply.place + 2) (header_of header).reply.column
  header_judged = HeaderRefusedLaws.refused_judged header h

  pub header_twelfth : header_lines < length (cut header).lines → header_lines < (header_of header).reply.place
      → (header_of header).reply ≡ at_line header_lines (twelfth_fault (get_or (cut header).lines header_lines []))
  header_twelfth = HeaderRefusedLaws.past_refused header h

-- C-15. "read a line's fields, by number from 0", by a FORMAT that is typed in: `Question.answer_of text k line`, field k of a line lent alone;
-- C gets it by `reply_for` (`uff_field`). What it can answer, and why: field k in its own columns, by a FORMAT that fits, of a line with which nothing is wrong by its
-- fields; 26, 27 and 18; and the line's own refusal, for what is wrong with it (`format_laws` Fault)
pub question_table : (text : List ℕ) (k : ℕ) (line : List ℕ) → FieldSaid text k line (Question.answer_of text k line)
question_table = SaidLaws.question_said

-- the bytes that C is given of a field: its kind is the place, 1 a text, 2 an integer, 3 a real
pub question_answers : (text : List ℕ) (k : ℕ) (line : List ℕ) (kind : ℕ) (x : Seen) → Question.answer_of text k line ≡ said 0 kind (x ∷ [])
    → (out : List ℕ) → length (seen_bytes x) ≤ length out
    → FilledBy (seen_bytes x) kind (reply_for (field_answer (Question.answer_of text k line)) (length out)) out (bytes_after (field_answer (Question.answer_of text k line)) out)
question_answers = QuestionLaws.field_answers

pub question_bytes : (text : List ℕ) (k : ℕ) (line : List ℕ) (kind : ℕ) (x : Seen) → Question.answer_of text k line ≡ said 0 kind (x ∷ [])
    → KindBytes kind (length (seen_bytes x))
question_bytes = QuestionLaws.field_bytes_lem

pub question_kept : (text : List ℕ) (k : ℕ) (line out : List ℕ) → 0 < number_in (reply_for (field_answer (Question.answer_of text k line)) (length out))
    → bytes_after (field_answer (Question.answer_of text k line)) out ≡ out
question_kept = QuestionLaws.field_kept

pub question_short : (text : List ℕ) (k : ℕ) (line : List ℕ) (kind : ℕ) (x : Seen) → Question.answer_of text k line ≡ said 0 kind (x ∷ [])
    → (room : ℕ) → room < length (seen_bytes x) → reply_for (field_answer (Question.answer_of text k line)) room ≡ word (reply 20 0)
question_short = QuestionLaws.field_short

-- "Items are I and A with width, .. no list is empty.", "An A item with its own count is one text", "Widths are 1 to 80, decimals at most the width.", "The text is at
-- most 120 bytes, with groups three deep, optional outer brackets not counted.": `format` Format says by a grammar which texts are FORMATs (`Text`), which of them
-- fit (`Fits`), and their fields. What is read is one, every one is read, and as one list of fields only
pub format_sound : (bytes : List ℕ) (fs : List Format.Field) → reading_of bytes ≡ fields fs → ReadingLaws.ReadAs fs bytes
format_sound = ReadingLaws.reading_sound

pub format_complete : {t : Format} {bytes : List ℕ} → Format.Text t bytes → Format.Fits t → reading_of bytes ≡ fields (Format.fields_of t)
format_complete = ReadingLaws.reading_complete

pub format_one : {t u : Format} {bytes : List ℕ} → Format.Text t bytes → Format.Text u bytes → t ≡ u
format_one = ReadingLaws.reading_one

-- "Refusals: 26, text malformed or too long; then 27, deeper than three or over 80 columns; then the line's own; then 18."
pub format_malformed : (bytes : List ℕ) → NoFormat bytes → (k : ℕ) (line : List ℕ) → Question.answer_of bytes k line ≡ refused 26 0
format_malformed bytes n k line = (QuestionLaws.text_first bytes k line).0 (ReadingLaws.malformed_reading bytes n)

pub format_large : {t : Format} {bytes : List ℕ} → Format.Text t bytes → (Format.Fits t → ⊥) → (k : ℕ) (line : List ℕ) → Question.answer_of bytes k line ≡ refused 27 0
format_large {bytes = bytes} x n k line = (QuestionLaws.text_first bytes k line).1 (ReadingLaws.reading_large x n)

pub format_line : (bytes : List ℕ) (k : ℕ) (line : List ℕ) {f : Refusal} → LineRefused bytes line f → Question.answer_of bytes k line ≡ refused_by (at_line 0 f)
format_line bytes k line = SaidLaws.line_said bytes k line

pub format_no_field : (bytes : List ℕ) (k : ℕ) (line : List ℕ) → NoField bytes k line → Question.answer_of bytes k line ≡ refused 18 0
format_no_field = SaidLaws.no_field_said

-- and each for nothing else: 26 where the bytes are no FORMAT, 27 where they are one that does not fit, 18 where nothing is wrong with the line by its fields and these,
-- X aside, are no more than k; the line's own as `question_table` has it
pub only_malformed : (bytes : List ℕ) (k : ℕ) (line : List ℕ) → (Question.answer_of bytes k line).reply.number ≡ 26 → NoFormat bytes
only_malformed = SaidLaws.said_malformed

pub only_large : (bytes : List ℕ) (k : ℕ) (line : List ℕ) → (Question.answer_of bytes k line).reply.number ≡ 27 → ReadingLaws.TooLarge bytes
only_large = SaidLaws.said_large

pub only_no_field : (bytes : List ℕ) (k : ℕ) (line : List ℕ) → (Question.answer_of bytes k line).reply.number ≡ 18 → NoField bytes k line
only_no_field = SaidLaws.said_no_field

-- "For every record of document 01 and every line, reading by the printed FORMAT gives the same fields or the same refusal as the built-in reader, before 9, 11 and 14
-- are looked at": of any fields of a row, by any text that reads as them; `format_laws` Printed has the printed texts, each of which reads as its record
pub format_same : (text : List ℕ) (fs : List Field) → ReadsAs text fs → (k : ℕ) (line : List ℕ) → left_blank fs (filled line) ≡ false
    → Question.answer_of text k line ≡ Question.field_of fs k line
format_same = FormatLaws.by_format

-- and what is wrong with a line by the FORMAT's fields is what is wrong with it by the row's, 9, 11 and 14 not looked at
pub format_faults : (fs : List Field) (line : List ℕ) → left_blank fs (filled line) ≡ false → (f : Refusal)
    → (LentFault (as_format fs) line f → LentFault fs line f) × (LentFault fs line f → LentFault (as_format fs) line f)
format_faults = FormatFaultLaws.same_faults

pub record_printed : (k : ℕ) → k < no_record → is_among Printed.records k ≡ true
record_printed = PrintedLaws.is_printed

pub record_reads : (i : ℕ) → i < length Printed.records → ReadsAs (print_at i).text (record_of (print_at i).number).fields
record_reads = PrintedLaws.record_reads

pub case_reads : (i : ℕ) → i < length Printed.cases → ReadsAs (case_at i).text (data_row (case_at i).number).fields
case_reads = PrintedLaws.case_reads

-- "a last line of numbers is read by the FORMAT of what it holds, C-13's remainder counting whole unless blank"
pub entries_read : (n : ℕ) → 1 ≤ n → n ≤ 8 → ReadsAs (entries_text n) (take n (record_of trace_entries).fields)
entries_read = PrintedLaws.entries_reads

pub orders_read : (n : ℕ) → 1 ≤ n → n ≤ 5 → ReadsAs (orders_text n) (take n (record_of order_lists).fields)
orders_read = PrintedLaws.orders_reads

pub last_reads : (c n : ℕ) (line : List ℕ) → c < 8 → 1 ≤ n → n ≤ 6 → ReadsAs (last_text c n line) (taken (first_fields n (data_row c)) line).fields
last_reads = PrintedLaws.last_reads

-- for what is due in a file: a record by each of its prints; and every line by one FORMAT, `printed_for`, the record's or that of the list's full line cut to what it holds,
-- whole where a 58's remainder is not blank
pub print_reads : (d : Due) (line : List ℕ) (i : ℕ) → i < length Printed.records → (print_at i).number ≡ record_due d → record_due d < no_record
    → ReadsAs (print_at i).text (taken (row_due d) line).fields
print_reads = PrintedDueLaws.print_due

pub due_reads : {s : State} → Reached s → (d : Due) → s.place ≡ Typed d → may_continue d ≡ true
    → (line : List ℕ) → ReadsAs (printed_for d line) (taken (row_due d) line).fields
due_reads = ReachedLaws.reached_reads

-- the built-in reader is the judge's: in a state s where a row is due, on a line of bytes l before its LF, by a text that reads as the row's fields. Where the judge passes
-- the line field k shows the list's item k in its own columns; where it refuses it, but for 9, 11 and 14, the question has the same number and column; where a field
-- is shown it passes the line, or refuses it with 9, 11 or 14
module _ {s : State} {l text : List ℕ} (a : Asked s l text) where
  pub judge_passes : (t : State) → line_step s l ≡ Ok t → ItemsShown a
  judge_passes = QuestionLaws.items_shown a

  pub judge_refuses : (f : Refusal) → line_step s l ≡ Err f → (Ruled f.number → ⊥) → (k : ℕ) → Question.answer_of text k (columns true l) ≡ refused_by (at_line 0 f)
  judge_refuses = QuestionJudgeLaws.refused_same a

  pub field_shown_lem : (k : ℕ) → (Question.answer_of text k (columns true l)).reply.number ≡ 0 → (f : Refusal) → line_step s l ≡ Err f → Ruled f.number
  field_shown_lem = QuestionJudgeLaws.shown_passes a

-- so of every line of a file where a row is due, with no number field that may be blank left blank, by its printed FORMAT
module _ {s : State} {l : List ℕ} (a : DueLine s l) where
  pub due_asked : Asked s l (printed_text a)
  due_asked = ReachedLaws.due_asked a

  pub due_passes : (t : State) → line_step s l ≡ Ok t → ItemsShown due_asked
  due_passes = judge_passes due_asked

  pub due_refuses : (f : Refusal) → line_step s l ≡ Err f → (Ruled f.number → ⊥)
      → (k : ℕ) → Question.answer_of (printed_text a) k (columns true l) ≡ refused_by (at_line 0 f)
  due_refuses = judge_refuses due_asked

  pub due_shown : (k : ℕ) → (Question.answer_of (printed_text a) k (columns true l)).reply.number ≡ 0
      → (f : Refusal) → line_step s l ≡ Err f → Ruled f.number
  due_shown = field_shown_lem due_asked

-- "a real as the reader shows it": of a 58 of the list, stored number j by a FORMAT of its data line's fields, or of the first n of them, where it is shown
pub data_as_reader : {sets : List Set} {bytes : List ℕ} (p : Proper sets bytes) {k : ℕ} {s : Set} {q : Part} (a : At58 sets bytes k s q) (j : ℕ) → j < stored_count s
    → (text : List ℕ) (n : ℕ) → ReadsAs text (take n (data_row (part_case q)).fields) → data_field q j < n
    → (Question.answer_of text (data_field q j) (data_columns q j)).reply.number ≡ 0 → AsReader bytes (suc k) j q (Question.answer_of text (data_field q j) (data_columns q j))
data_as_reader = AsReaderLaws.as_reader
