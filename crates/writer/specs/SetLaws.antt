-- The set, put piece by piece, and the replies.
use Rattle.std.specs.Prelude.{◌≡◌, Bool, ◌&&◌, ◌⊎◌, ℕ, suc, ◌+◌, ◌-◌, ◌≤◌, ◌<◌, leb, eqb, ℤ}
use Rattle.std.proofs.Math.Path.{refl, sym}
use Rattle.std.proofs.Common.{ap, ◌∙◌, inl, inr, length-append}
use Rattle.std.proofs.Math.Bool.{true, false}
use mathlib.Core.List.{List, [], ◌∷◌, ◌++◌, append-nil}
use native.Mathlib.Omega.{arith}
use borrow.Author.Tests.{lt-ltb, le-ltb, le-leb, lt-leb, leb-true, leb-false, eq-eqb, ne_eqb}
use Rattle.std.proofs.Math.ListN.{length}
use Rattle.laws.specs.Cut.{cut}
use Rattle.parts.specs.Parts.{bytes_in}
use Rattle.parts.specs.PartsLaws.{lines_past}
use Rattle.judge.specs.declared.Reply.{Reply}
use Rattle.judge.specs.Judge.{reply}
use Rattle.header.specs.declared.Header.{Header}
use Rattle.std.specs.Prelude.{Ok, Err}
use Rattle.header.specs.HeaderLaws.{result_refused, result_passes}
use Rattle.header.specs.Header.{result_of, header_of}
use Rattle.rewriter.specs.Rewriter.{head_text, lines_text, delimiter_line, set_text}
use Rattle.output.specs.Output.{Put, placed}
use Rattle.output.specs.OutputLaws.{put_start, put_done, put_room, put_next}
use Rattle.rewriter.specs.Body.{lines_to, lines_in, body_text}
use Rattle.rewriter.proofs.PutLaws.{set_text_length}
use Rattle.writer.specs.Writer.{first_unfit, data_text, written_set, laid_reply, write_reply, write_out}
use Rattle.writer.specs.Lines.{data_len, set_len}
use Rattle.writer.specs.WriterLaws.{data_text_length}

-- every line begins before the end of the header
lines_to_all : (stop at : ℕ) (ls : List (List ℕ)) → at + bytes_in ls ≤ stop → lines_to stop at ls ≡ ls
unfolding lines_to bytes_in
lines_to_all stop at [] h = refl
lines_to_all stop at (l ∷ ls) h = rw (lt-leb stop at (omega arith), lines_to_all stop (at + suc (length l)) ls (omega arith)) refl

pub header_lines_lem : (f : List ℕ) → body_text (length f) 0 f ≡ lines_text (cut f).lines
unfolding lines_in
header_lines_lem f =
    let x = lines_past f 0 (cut f).lines [] (omega arith) (sym (append-nil (cut f).lines)) in
    rw (lines_to_all (length f) 0 (cut f).lines x.within) refl

-- the length of the set: of its opening lines and its closing delimiter, of the header lines, of the numbers
head_text_length : (v : ℕ) → length (head_text v) ≡ 14
unfolding set_text lines_text
head_text_length v = omega (arith, set_text_length v [], length-append (head_text v) delimiter_line)

pub set_length : (header : List ℕ) (c : ℕ) (xs ss : List ℤ) → length ss ≡ length xs → length (written_set header c xs ss) ≡ set_len header c (length xs)
unfolding written_set set_len
set_length header c xs ss e =
    let h : length (head_text 58) ≡ 14 = head_text_length 58 in
    let d : length (data_text c 0 xs ss) ≡ data_len c 0 (length xs) = data_text_length c 0 xs ss e in
    simp length-append (omega arith)

-- whether it fits, part by part
module _ (header : List ℕ) (c n room : ℕ) where
  pub fits_opening : room < 21 → false ≡ leb (set_len header c n) room
  unfolding set_len
  fits_opening h = sym (lt-leb _ room (omega arith))

  module _ (k : ℕ) (q : k ≡ length (body_text (length header) 0 header)) where
    lines_length : k ≡ length (lines_text (cut header).lines)
    lines_length = q ∙ ap length (header_lines_lem header)

    pub fits_lines : room - 21 < k → false ≡ leb (set_len header c n) room
    unfolding set_len
    fits_lines h = sym (lt-leb _ room (omega (arith, lines_length)))

    pub fits_data : 21 ≤ room → k ≤ room - 21 → (t : Bool) → t ≡ leb (data_len c 0 n) (room - 21 - k) → t ≡ leb (set_len header c n) room
    unfolding set_len
    fits_data o h true e = sym (le-leb _ room (omega (arith, lines_length, leb-true (data_len c 0 n) (room - 21 - k) (sym e))))
    fits_data o h false e = sym (lt-leb _ room (omega (arith, lines_length, leb-false (data_len c 0 n) (room - 21 - k) (sym e))))

-- the set, put piece by piece
module _ (header : List ℕ) (c : ℕ) (xs ss : List ℤ) (out : List ℕ) (fits : length (written_set header c xs ss) ≤ length out) where
  whole : List ℕ
  whole = written_set header c xs ss

  body : List ℕ
  body = body_text (length header) 0 header

  fits_at_lem : 0 + length whole ≤ length out
  unfolding whole
  fits_at_lem = omega arith

  pieces : whole ≡ head_text 58 ++ (body ++ (data_text c 0 xs ss ++ delimiter_line))
  unfolding whole body written_set
  pieces = rw (header_lines_lem header) refl

  pub opening_room : 0 + length (head_text 58) ≤ length out
  opening_room = put_room 0 whole out 0 whole out (put_start 0 whole out) fits_at_lem (head_text 58) (body ++ (data_text c 0 xs ss ++ delimiter_line)) pieces

  module _ (r : ℕ) (now : List ℕ) (q : r ≡ 0 + length (head_text 58)) (o : now ≡ placed 0 (head_text 58) out) where
    opened : Put 0 whole out r (body ++ (data_text c 0 xs ss ++ delimiter_line)) now
    opened = put_next 0 whole out 0 whole out (put_start 0 whole out) fits_at_lem (head_text 58) (body ++ (data_text c 0 xs ss ++ delimiter_line)) pieces r now q o

    pub lines_room : r + length (body_text (length header) 0 header) ≤ length now
    unfolding body
    lines_room = put_room 0 whole out r (body ++ (data_text c 0 xs ss ++ delimiter_line)) now opened fits_at_lem body (data_text c 0 xs ss ++ delimiter_line) refl

    module _ (s : ℕ) (then : List ℕ) (f : s ≡ r + length (body_text (length header) 0 header)) (p : then ≡ placed r (body_text (length header) 0 header) now) where
      lined : Put 0 whole out s (data_text c 0 xs ss ++ delimiter_line) then
      unfolding body
      lined = put_next 0 whole out r (body ++ (data_text c 0 xs ss ++ delimiter_line)) now opened fits_at_lem body (data_text c 0 xs ss ++ delimiter_line) refl s then f p

      pub data_room : s + length (data_text c 0 xs ss) ≤ length then
      data_room = put_room 0 whole out s (data_text c 0 xs ss ++ delimiter_line) then lined fits_at_lem (data_text c 0 xs ss) delimiter_line refl

      module _ (u : ℕ) (last : List ℕ) (g : u ≡ s + length (data_text c 0 xs ss)) (m : last ≡ placed s (data_text c 0 xs ss) then) where
        filled : Put 0 whole out u delimiter_line last
        filled = put_next 0 whole out s (data_text c 0 xs ss ++ delimiter_line) then lined fits_at_lem (data_text c 0 xs ss) delimiter_line refl u last g m

        pub closing_room : u + length delimiter_line ≤ length last
        closing_room = put_room 0 whole out u delimiter_line last filled fits_at_lem delimiter_line [] refl

        pub set_done : (past : ℕ) (end : List ℕ) → past ≡ u + length delimiter_line → end ≡ placed u delimiter_line last
            → (past ≡ length (written_set header c xs ss)) × (end ≡ placed 0 (written_set header c xs ss) out)
        unfolding whole
        set_done past end e n =
            let d = put_done 0 whole out past [] end (put_next 0 whole out u delimiter_line last filled fits_at_lem delimiter_line [] refl past end e n) refl in
            (omega (arith, d.0), d.1)

neither : (t : Bool) → t && false ≡ false
neither true = refl
neither false = refl

-- the buffer after a refusal, and after the set
module _ (header : List ℕ) (xs ss : List ℤ) (out : List ℕ) where
  refused_out : (r : Reply) → r ≡ write_reply header xs ss (length out) → 0 < r.number → out ≡ write_out header xs ss out
  unfolding write_out
  refused_out r q h = rw (← q, ne_eqb r.number 0 (λ e. omega arith)) refl

  refused : (r : Reply) → r ≡ write_reply header xs ss (length out) → 0 < r.number → (r ≡ write_reply header xs ss (length out)) × (out ≡ write_out header xs ss out)
  refused r q h = (q, refused_out r q h)

  accepted_out : (r : Reply) → r ≡ write_reply header xs ss (length out) → r.number ≡ 0 → placed 0 (written_set header (header_of header).case xs ss) out ≡ write_out header xs ss out
  unfolding write_out placed
  accepted_out r q h =
      let z : 0 + length (written_set header (header_of header).case xs ss) ≡ length (written_set header (header_of header).case xs ss) = omega arith in
      rw (← q, h, z) refl

  -- the replies in their order, and the buffer after each
  pub header_both : (r : Reply) → Err r ≡ result_of (header_of header)
      → (r ≡ write_reply header xs ss (length out)) × (out ≡ write_out header xs ss out)
  unfolding write_reply
  header_both r q =
      let g = result_refused (header_of header) r q in
      refused r (rw (lt-ltb 0 (header_of header).reply.number g.0) g.1) (rw g.1 g.0)

  module _ (h : Header) (q : Ok h ≡ result_of (header_of header)) where
    passes : laid_reply header h.case h.stored xs ss (length out) ≡ write_reply header xs ss (length out)
    unfolding write_reply
    passes =
        let g = result_passes (header_of header) h q in
        rw (le-ltb 0 (header_of header).reply.number g.0, g.1, g.2) refl

    count_reply : (eqb (length xs) h.stored && eqb (length ss) h.stored) ≡ false → reply 22 0 ≡ laid_reply header h.case h.stored xs ss (length out)
    unfolding laid_reply
    count_reply e = rw e refl

    pub count_both : (length xs ≡ h.stored → ⊥) ⊎ (length ss ≡ h.stored → ⊥)
        → (reply 22 0 ≡ write_reply header xs ss (length out)) × (out ≡ write_out header xs ss out)
    count_both (inl n) = refused (reply 22 0) (count_reply (rw (ne_eqb (length xs) h.stored n) refl) ∙ passes) (omega arith)
    count_both (inr n) = refused (reply 22 0) (count_reply (rw (ne_eqb (length ss) h.stored n) (neither (eqb (length xs) h.stored))) ∙ passes) (omega arith)

    module _ (a : length xs ≡ h.stored) (b : length ss ≡ h.stored) (at : ℕ) (u : at ≡ first_unfit h.case 0 xs ss) where
      unfit_reply : at < length xs → reply 19 at ≡ laid_reply header h.case h.stored xs ss (length out)
      unfolding laid_reply
      unfit_reply l = rw (eq-eqb (length xs) h.stored a, eq-eqb (length ss) h.stored b, ← u, lt-ltb at (length xs) l) refl

      pub unfit_both : at < length xs → (reply 19 at ≡ write_reply header xs ss (length out)) × (out ≡ write_out header xs ss out)
      unfit_both l = refused (reply 19 at) (unfit_reply l ∙ passes) (omega arith)

      module _ (l : length xs ≤ at) (t : Bool) (f : t ≡ leb (set_len header h.case (length xs)) (length out)) where
        short_reply : t ≡ false → reply 20 0 ≡ laid_reply header h.case h.stored xs ss (length out)
        unfolding laid_reply
        short_reply e =
            let n : length (written_set header h.case xs ss) ≡ set_len header h.case (length xs) = set_length header h.case xs ss (b ∙ sym a) in
            rw (eq-eqb (length xs) h.stored a, eq-eqb (length ss) h.stored b, ← u, le-ltb at (length xs) l, n, lt-ltb (length out) _ (leb-false _ _ (sym f ∙ e))) refl

        pub short_both : t ≡ false → (reply 20 0 ≡ write_reply header xs ss (length out)) × (out ≡ write_out header xs ss out)
        short_both e = refused (reply 20 0) (short_reply e ∙ passes) (omega arith)

        module _ (e : t ≡ true) where
          pub set_room : length (written_set header h.case xs ss) ≤ length out
          set_room = rw (set_length header h.case xs ss (b ∙ sym a)) (leb-true _ _ (sym f ∙ e))

          accepted_reply : (n : ℕ) → n ≡ length (written_set header h.case xs ss) → reply 0 n ≡ laid_reply header h.case h.stored xs ss (length out)
          unfolding laid_reply
          accepted_reply n k =
              rw (eq-eqb (length xs) h.stored a, eq-eqb (length ss) h.stored b, ← u, le-ltb at (length xs) l, ← k, le-ltb (length out) n (rw k set_room)) refl

          pub accepted_both : (n : ℕ) → n ≡ length (written_set header h.case xs ss) → (now : List ℕ) → now ≡ placed 0 (written_set header h.case xs ss) out
              → (reply 0 n ≡ write_reply header xs ss (length out)) × (now ≡ write_out header xs ss out)
          accepted_both n k now o =
              let r : reply 0 n ≡ write_reply header xs ss (length out) = accepted_reply n k ∙ passes in
              (r, o ∙ rw (result_passes (header_of header) h q).1 (accepted_out (reply 0 n) r refl))
