-- A complete 58 of a file, by the LFs of its lines.
use Rattle.std.specs.Prelude.{◌≡◌, List, ℕ, ◌+◌, ◌-◌, ◌*◌, ◌/◌, ◌≤◌, ◌<◌, length, take, drop}
use Rattle.std.proofs.Math.Path.{refl, ap}
use Rattle.std.proofs.Common.{sym, ◌∙◌, arith}
use borrow.Author.Tests.{ne_eqb}
use Rattle.laws.specs.Cut.{line_len}
use Rattle.layout.specs.Columns.{line_of}
use Rattle.layout.specs.Layout.{fields_of, numbers_of}
use Rattle.record_table.specs.TypedSets.{line_seven}
use Rattle.record.specs.Declares.{case_in, count_in}
use Rattle.parts.specs.Parts as Parts
use Rattle.parts.specs.Parts.{Part, columns_in, bytes_in, line_start, last_line, closing_start, past_of}
use Rattle.parts.specs.Function.{part_case, count_of, stored_of, data_start}
use Rattle.parts.specs.Padding.{padding_in, padding_of}
use Rattle.parts.specs.Set.{Standing}
use Rattle.parts.specs.SetLaws.{lines_bytes, line_text, line_within}
use Rattle.parts.specs.Skip.{past_ends}
use Rattle.parts.specs.SkipLaws.{line_byte, byte_further, byte_start, byte_closing, byte_past, byte_line}
use Rattle.lister.specs.declared.DataForm.{DataForm}
use Rattle.lister.specs.Listed.{data_form_of, function_of, At58}

closing_bytes : (p : Part) → bytes_in p.body ≤ closing_start p
unfolding closing_start
closing_bytes p = omega arith

-- the columns of a line, up to its LF
pub line_taken : (file : List ℕ) (at e : ℕ) → e ≡ at + line_len (drop at file) → columns_in (take (e - at) (drop at file)) ≡ columns_in (take (line_len (drop at file)) (drop at file))
line_taken file at e q = let z : e - at ≡ line_len (drop at file) = omega arith in rw z refl

module _ (file : List ℕ) (body : ℕ) (s : At58 file body) where
  abbrev set : Part
  set = s.part

  abbrev standing : Standing file s.stands.before s.stands.from s.part s.others
  standing = s.stands.stands

  pub body_within : body ≤ length file
  body_within = rw s.begins standing.inside

  body_byte : body ≡ line_byte file set 0
  unfolding past_ends
  body_byte = omega (arith, s.begins)

  byte_within : (k : ℕ) → k ≤ length set.body → line_byte file set k ≤ length file
  byte_within k h = rw (byte_start file _ _ set _ standing k h) (line_within file _ _ set _ standing k)

  -- the columns of a line that begins at x
  columns_at_lem : (k x : ℕ) (cs : List ℕ) → k < length set.body → x ≡ line_byte file set k → cs ≡ columns_in (take (line_len (drop x file)) (drop x file)) → cs ≡ Parts.line_of set k
  unfolding Parts.line_of
  columns_at_lem k x cs h e q =
      let z : x ≡ line_start set k = e ∙ byte_start file _ _ set _ standing k (omega arith) in
      q ∙ rw (z, line_text file _ _ set _ standing k h) refl

  -- line 7, and the data lines
  module _ (seven eight : ℕ) (row : List ℕ) (a : seven ≡ body + past_ends line_seven (drop body file)) (b : eight ≡ seven + line_len (drop seven file) + 1)
      (r : row ≡ columns_in (take (line_len (drop seven file)) (drop seven file))) where
    seven_byte : seven ≡ line_byte file set 6
    seven_byte = byte_further file set 0 6 body seven body_byte a

    eight_byte : eight ≡ line_byte file set 7
    eight_byte = b ∙ byte_line file _ _ set _ standing 6 seven _ (omega (arith, s.complete.lines)) seven_byte refl

    pub eight_within : eight ≤ length file
    eight_within = rw eight_byte (byte_within 7 (omega (arith, s.complete.lines)))

    row_seven : row ≡ Parts.line_of set line_seven
    row_seven = columns_at_lem 6 seven row (omega (arith, s.complete.lines)) seven_byte r

    pub form_own : (c n v : ℕ) → c ≡ case_in row → n ≡ count_in row → v ≡ eight + past_ends 4 (drop eight file) → record { case = c; count = n; values = v } ≡ data_form_of set
    unfolding data_form_of part_case count_of data_start
    form_own c n v e f g =
        let d : v ≡ line_byte file set 11 = byte_further file set 7 4 eight v eight_byte g in
        let z : v ≡ line_start set 11 = d ∙ byte_start file _ _ set _ standing 11 (omega (arith, s.complete.lines)) in
        rw (e, f, z, row_seven, s.function) refl

  -- what is declared, and then the last line and the closing delimiter
  module _ (d : DataForm) (own : d ≡ data_form_of set) where
    pub case_own : d.case ≡ part_case set
    unfolding data_form_of
    case_own = ap (λ (x : DataForm). x.case) own

    count_own : d.count ≡ count_of set
    unfolding data_form_of
    count_own = ap (λ (x : DataForm). x.count) own

    data_own : d.values ≡ data_start set
    unfolding data_form_of
    data_own = ap (λ (x : DataForm). x.values) own

    data_byte : d.values ≡ line_byte file set 11
    unfolding data_start
    data_byte = data_own ∙ rw s.function (sym (byte_start file _ _ set _ standing 11 (omega (arith, s.complete.lines))))

    pub data_within : d.values ≤ length file
    data_within = rw data_byte (byte_within 11 (omega (arith, s.complete.lines)))

    pub stored_own : (k : ℕ) → k ≡ numbers_of d.case → d.count * k ≡ stored_of set
    unfolding stored_of
    stored_own k g = rw (g, case_own, count_own) refl

    module _ (k f : ℕ) (e : k ≡ numbers_of d.case) (g : f ≡ fields_of d.case) where
      abbrev full : ℕ
      full = (d.count * k - 1) / f

      -- as many lines as hold the numbers
      pub full_lines : 11 + full + 1 ≡ length set.body
      unfolding line_of
      full_lines =
          let z : full ≡ line_of (fields_of (part_case set)) (stored_of set - 1) = rw (stored_own k e, g, case_own) refl in
          omega (arith, s.complete.lines)

      pub full_most : full ≤ length file
      full_most = omega (arith, full_lines, lines_bytes set.body, byte_within (length set.body) (omega arith), byte_closing file _ _ set _ standing, closing_bytes set)

      module _ (last closing : ℕ) (row : List ℕ) (l : last ≡ d.values + past_ends full (drop d.values file))
          (c : closing ≡ last + line_len (drop last file) + 1) (t : row ≡ columns_in (take (line_len (drop last file)) (drop last file))) where
        last_byte : last ≡ line_byte file set (11 + full)
        last_byte = byte_further file set 11 full d.values last data_byte l

        closing_byte : closing ≡ line_byte file set (length set.body)
        closing_byte =
            c ∙ byte_line file _ _ set _ standing (11 + full) last _ (omega (arith, full_lines)) last_byte refl ∙ ap (line_byte file set) full_lines

        pub closing_within : closing ≤ length file
        closing_within = rw closing_byte (byte_within (length set.body) (omega arith))

        row_last : row ≡ Parts.line_of set (last_line set)
        row_last =
            let z : 11 + full ≡ last_line set = omega (arith, full_lines) in
            columns_at_lem (11 + full) last row (omega (arith, full_lines)) last_byte t ∙ ap (Parts.line_of set) z

        pub function_own : (p e : ℕ) → p ≡ padding_in d.case (d.count * k) row → e ≡ closing + past_ends 1 (drop closing file)
            → record { count = d.count; values = d.values; padding = p; past = e; lines = 11 + full + 1 } ≡ function_of set
        unfolding function_of padding_of
        function_own p q h i =
            let some = ne_eqb (stored_of set) 0 (λ (z : stored_of set ≡ 0). omega (arith, s.complete.some)) in
            let end : q ≡ past_of set = byte_further file set (length set.body) 1 closing q closing_byte i ∙ byte_past file _ _ set _ standing in
            rw (h, end, row_last, full_lines, stored_own k e, case_own, count_own, data_own, some) refl
