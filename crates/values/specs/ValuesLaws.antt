-- What the code answers by where a 58's numbers are is the answer for all values.
use Rattle.std.specs.Prelude.{◌≡◌, Some, None, Bool, true, false, ◌&&◌, ℕ, ◌+◌, ◌*◌, ◌≤◌, ◌<◌, ltb, Float, length}
use Rattle.std.proofs.Math.Path.{refl, sym}
use Rattle.std.proofs.Common.{ap, ◌∙◌, arith}
use Rattle.std.proofs.lemmas.Option.{none-some}
use mathlib.Core.List.{List, [], ◌∷◌}
use borrow.Author.Tests.{lt-ltb, le-ltb, ne_eqb}
use Rattle.laws.specs.Choice.{pick}
use Rattle.laws.specs.ChoiceLaws.{and_right}
use Rattle.layout.specs.Layout.{numbers_of}
use Rattle.parts.specs.Parts.{Part, is_function, line_start, closing_start}
use Rattle.parts.specs.Set.{Somewhere}
use Rattle.parts.specs.Function.{part_case, count_of, stored_of}
use Rattle.judge.specs.declared.Reply.{Reply}
use Rattle.judge.specs.Judge.{judged, reply}
use Rattle.reader.specs.declared.Data.{Data}
use Rattle.reader.specs.Reader.{Said, said, refused, refused_by, sets_from, real_in, reads, whole, values_in}
use Rattle.reader.specs.Find.{data58, data_of, real_at}
use Rattle.reader.specs.FindLaws.{stands}
use Rattle.reader.specs.ReaderLaws.{values_none, reads_same, own, real_own, Owned, data_owned}
use Rattle.values.specs.Values.{all_from, all_values, reply_in, places_in, all_reply, all_places}
use Rattle.values.specs.Fill.{refusal_in, floats_in, patterns_put}
use Rattle.values.specs.FillLaws.{whole_refused, whole_shown, shown_length, patterns_shown}

-- by where the numbers are
unfoldable all_by : List ℕ → Data → Said Float
all_by file d =
    pick (ltb 0 d.count) (whole (d.count * numbers_of d.case) [] (reads (real_at file d) 0 (d.count * numbers_of d.case))) (refused 18 0)

by_part : (file : List ℕ) (p : Part) (ps : List Part) (s : Somewhere file p ps) → is_function p && ltb (part_case p) 8 ≡ true
    → all_by file (own file p ps s) ≡ all_from file (p ∷ ps)
unfolding all_by values_in stored_of
by_part file p ps s e =
    rw (and_right (is_function p) (ltb (part_case p) 8) e, reads_same (real_at file (own file p ps s)) (real_in file p) 0 0 (count_of p * numbers_of (part_case p)) (λ r l. real_own file p ps s (0 + r))) refl

by_sets : (file : List ℕ) (set : ℕ) (d : Data) → Some d ≡ data_of (sets_from file set) → all_by file d ≡ all_from file (sets_from file set)
by_sets file set d q =
    let f : Owned (sets_from file set) d = data_owned (sets_from file set) d q in
    ap (all_by file) f.own ∙ by_part file f.part f.others (stands file set f.part f.others f.first) f.eight ∙ ap (all_from file) (sym f.first)

-- where the first is no 58 of one of the eight cases
by_none : (file : List ℕ) (sets : List Part) → None ≡ data_of sets → refused 18 0 ≡ all_from file sets
unfolding data_of
by_none file [] q = refl
by_none file (p ∷ ps) q = by (is_function p && ltb (part_case p) 8) refl q
  where
    by : (t : Bool) → is_function p && ltb (part_case p) 8 ≡ t → None ≡ pick t (Some (data58 (line_start p 0) (closing_start p) (part_case p) (count_of p))) None
        → refused 18 0 ≡ all_from file (p ∷ ps)
    by true e q = absurd (none-some _ q)
    by false e q = sym (rw (values_none p e) refl)

-- a refusal leaves the places
refused_reply : (s : Said Float) (r : Reply) (out : List ℕ) → s ≡ refused_by r → 0 < r.number → (r ≡ reply_in s (length out)) × (out ≡ places_in s out)
refused_reply s r out e h =
    (rw (e, lt-ltb 0 r.number h) refl, rw (e, lt-ltb 0 r.number h, ne_eqb r.number 0 (λ z. omega arith)) refl)

-- the call's replies, and the places after each
module _ (file : List ℕ) (set : ℕ) (out : List ℕ) (r : Reply) (f : r ≡ judged file) where
  pub refused_first : 0 < r.number → (r ≡ all_reply file set (length out)) × (out ≡ all_places file set out)
  unfolding all_reply all_places all_values
  refused_first h = refused_reply (all_values file set) r out (rw (← f, lt-ltb 0 r.number h) refl) h

  pub none_there : r.number ≤ 0 → None ≡ data_of (sets_from file set) → (reply 18 0 ≡ all_reply file set (length out)) × (out ≡ all_places file set out)
  unfolding all_reply all_places all_values
  none_there z q =
      let e : all_values file set ≡ refused 18 0 = rw (← f, le-ltb 0 r.number z) (sym (by_none file (sets_from file set) q)) in
      refused_reply (all_values file set) (reply 18 0) out e (omega arith)

  module _ (z : r.number ≤ 0) (d : Data) (q : Some d ≡ data_of (sets_from file set)) where
    by_data : all_values file set ≡ all_by file d
    unfolding all_values
    by_data = rw (← f, le-ltb 0 r.number z) (sym (by_sets file set d q))

    pub none_counted : d.count ≡ 0 → (reply 18 0 ≡ all_reply file set (length out)) × (out ≡ all_places file set out)
    unfolding all_reply all_places all_by
    none_counted e = refused_reply (all_values file set) (reply 18 0) out (by_data ∙ rw e refl) (omega arith)

    module _ (some : 0 < d.count) (count k m : ℕ) (many : count ≡ d.count * k) (numbers : k ≡ numbers_of d.case) (first : m ≡ refusal_in (reads (real_at file d) 0 count)) where
      by_numbers : all_values file set ≡ whole count [] (reads (real_at file d) 0 count)
      unfolding all_by
      by_numbers = by_data ∙ rw (lt-ltb 0 d.count some, ← numbers, ← many) refl

      pub one_refused : 0 < m → (reply m 0 ≡ all_reply file set (length out)) × (out ≡ all_places file set out)
      unfolding all_reply all_places
      one_refused h = refused_reply (all_values file set) (reply m 0) out (by_numbers ∙ whole_refused (real_at file d) 0 count count [] (rw first at h) ∙ rw (← first) refl) h

      module _ (h : m ≤ 0) where
        shows : all_values file set ≡ said 0 count (floats_in (reads (real_at file d) 0 count))
        shows = by_numbers ∙ whole_shown (real_at file d) 0 count count [] (rw first at h)

        as_many : length (floats_in (reads (real_at file d) 0 count)) ≡ count
        as_many = shown_length (real_at file d) 0 count (rw first at h)

        pub too_few : length out < count → (reply 20 0 ≡ all_reply file set (length out)) × (out ≡ all_places file set out)
        unfolding all_reply all_places
        too_few l = (rw (shows, as_many, lt-ltb (length out) count l) refl, rw (shows, as_many, lt-ltb (length out) count l) refl)

        pub all_filled : count ≤ length out → (after : List ℕ) → after ≡ patterns_put (reads (real_at file d) 0 count) out
            → (reply 0 count ≡ all_reply file set (length out)) × (after ≡ all_places file set out)
        unfolding all_reply all_places
        all_filled l after e = (
          rw (shows, as_many, le-ltb (length out) count l) refl,
          e ∙ patterns_shown (real_at file d) 0 count out (rw first at h) l ∙ sym (rw (shows, as_many, le-ltb (length out) count l) refl),
        )
