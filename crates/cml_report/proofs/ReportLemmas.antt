-- How the report's first part goes on with one more entry.
use Rattle.std.proofs.Common.{◌≡◌, ℕ, zero, suc, ◌+◌, ◌<◌, ◌≤◌, Bool, true, false, ltb, List, [], ◌∷◌, ◌++◌, length, drop, filter}
use Rattle.std.proofs.Common.{slice_get, Option, Some, None, IfSome, inl, inr, refl, sym, ap, ◌∙◌, arith, add-one}
use Rattle.std.specs.Prelude.{string_bytes}
use Rattle.std.specs.Option.{option_map_or, option_and_then}
use Rattle.std.proofs.lemmas.Option.{same_Some, none-some, slice_get_past, slice_get_within}
use Rattle.std.proofs.lemmas.List.{append_assoc}
use Rattle.std.proofs.lemmas.List.Splits.{join_with_byte-slice_split}
use Rattle.std.proofs.lemmas.Bool.{le-ltb, lt-ltb, cases_lt}
use Rattle.cml_board.specs.{Entry, Who, before}
use Rattle.cml_grammar.specs.{Step, Given, Lines, SourceLine, names_of, NamesAreGiven}
use Rattle.cml_report.specs.{History, declared_count, Progress, history_of, IsNextOf, Tallied, entry_lines, entry_line, next_step}
use Rattle.cml_report.specs.{line_text, given_word, object_lines_from, object_line, positions_where}
use Rattle.cml_report.proofs.ListLemmas.{filter_at}
use Rattle.cml_report.proofs.LineLemmas.{stands}
use Rattle.cml_report.proofs.KindLemmas.{length_filter}
use Rattle.cml_report.proofs.QueueLemmas.{position_is, positions_count}

dropped : (xs : List Given) (k : ℕ) (x : Given) → slice_get xs k ≡ Some x → drop k xs ≡ x ∷ drop (k + 1) xs
dropped [] k x found = absurd (none-some x found)
dropped (y ∷ ys) zero x found = ap (λ z. z ∷ ys) (same_Some y x found)
dropped (y ∷ ys) (suc k) x found = let ih = rw add-one at (dropped ys k x found) in rw add-one ih

module _ (script : Lines) where
  -- the text of the caller's next step
  pub text_of_next : (history : History) (who : Who) (s : Step) → IsNextOf script history who s
      → option_map_or line_text (next_step script history who) [] ≡ string_bytes s.line.text
  text_of_next history who s is =
      ap (λ o. option_map_or line_text (option_and_then (slice_get script.steps) o) []) is.next
      ∙ ap (λ o. option_map_or line_text o []) is.line
      ∙ join_with_byte-slice_split 32 (string_bytes s.line.text)

  -- one more entry after the declared objects, and one that makes such an object
  pub line_more : (before : History) (entry : Entry (List ℕ)) → declared_count script ≤ length before
      → entry_lines script (entry ∷ before) ≡ entry_lines script before ++ entry_line script before entry
  line_more before entry ge =
      let test : ltb (length before) (declared_count script) ≡ false = le-ltb _ _ ge in
      rw test refl

  pub no_line : (before : History) (entry : Entry (List ℕ)) → length before < declared_count script
      → entry_lines script (entry ∷ before) ≡ entry_lines script before
  no_line before entry lt =
      let test : ltb (length before) (declared_count script) ≡ true = lt-ltb _ _ lt in
      rw test refl

  -- one more object
  pub object_lines_more : (history : History) (tally : Tallied) (at : ℕ) (names : List Given) (given : Given) (written : List ℕ)
      → slice_get names at ≡ Some given → (written ++ object_line script history tally at given) ++ object_lines_from script history tally
      (at + 1) (drop (at + 1) names) ≡ written ++ object_lines_from script history tally at (drop at names)
  object_lines_more history tally at names given written found =
      append_assoc written (object_line script history tally at given)
      (object_lines_from script history tally (at + 1) (drop (at + 1) names))
      ∙ ap (λ n. written ++ (object_line script history tally at given ++ object_lines_from script history tally n (drop (at + 1) names)))
      (add-one at)
      ∙ ap (λ l. written ++ object_lines_from script history tally at l) (sym (dropped names at given found))

-- what a follower tells after this many entries
module _ (p : Progress) (script : Lines) (journal : List (Entry (List ℕ))) (k : ℕ) (s : p.script ≡ script)
    (j : p.journal ≡ journal) (f : p.followed ≡ k) where
  pub begun_at : declared_count p.script ≤ length (history_of p) → declared_count script ≤ length (before journal k)
  begun_at ge = rw (sym s, sym j, sym f) ge

  pub not_begun_at : (declared_count p.script ≤ length (history_of p) → ⊥) → length (before journal k) < declared_count script
  not_begun_at never =
      elim (cases_lt (length (before journal k)) (declared_count script)) [ inl lt ↦ lt | inr ge ↦ absurd (never (rw (s, j, f) ge)) ]

  pub entry_at : (entry : Entry (List ℕ)) → entry_line p.script (history_of p) entry ≡ entry_line script (before journal k) entry
  entry_at entry = rw (s, j, f) refl

-- the name of a declaration
pub word_at : (script : Lines) (at : ℕ) (line : SourceLine) (g : Given) → NamesAreGiven (names_of script) script.declarations script.steps
    → slice_get script.declarations at ≡ Some line → slice_get (names_of script) at ≡ Some g
    → given_word (slice_get script.declarations at) ≡ g.0
word_at script at line g given found named =
    let declares = given.declares at line found in
    ap given_word found ∙ ap (λ o. option_map_or (λ word. word) o []) declares.2
    ∙ ap (λ (x : Given). x.0) (same_Some _ _ (sym declares.3 ∙ named))

-- the lines that pass a test are those at their positions
pub placed_line : (test : SourceLine → Bool) (lines : List SourceLine) (n : ℕ)
    → slice_get (filter test lines) n ≡ option_and_then (slice_get lines) (slice_get (positions_where test 0 lines) n)
placed_line test lines n = by_place (slice_get (positions_where test 0 lines) n) refl
  where
    by_place : (o : Option ℕ) → slice_get (positions_where test 0 lines) n ≡ o
        → slice_get (filter test lines) n ≡ option_and_then (slice_get lines) o
    by_place None e = slice_get_past (filter test lines) n (short (length (positions_where test 0 lines)) refl e)
      where
        short : (m : ℕ) → length (positions_where test 0 lines) ≡ m
            → slice_get (positions_where test 0 lines) n ≡ None → length (filter test lines) ≤ n
        short m long none = elim (cases_lt n (length (positions_where test 0 lines))) [
          | inl lt ↦ let there = stands (positions_where test 0 lines) n lt in absurd (none-some there.0 (sym none ∙ there.1))
          | inr ge ↦ omega (arith, ge, positions_count test 0 lines, length_filter test lines)
        ]
    by_place (Some i) e =
        let there = position_is test 0 lines n i e in
        let same : there.place ≡ i = omega (arith, there.at) in
        ap (slice_get (filter test lines)) (sym there.behind) ∙ filter_at test lines there.place there.line there.found there.seated
        ∙ sym there.found ∙ ap (slice_get lines) same

pub placed_within : (test : SourceLine → Bool) (lines : List SourceLine) (n : ℕ) (r : Option ℕ)
    → r ≡ slice_get (positions_where test 0 lines) n → IfSome r (λ at. at < length lines)
placed_within test lines n None e = tt
placed_within test lines n (Some at) e =
    let there = position_is test 0 lines n at (sym e) in
    omega (arith, slice_get_within lines there.place there.line there.found, there.at)
