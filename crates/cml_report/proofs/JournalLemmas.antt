-- The entries before a position of a journal.
use Rattle.std.proofs.Common.{◌≡◌, ℕ, ◌+◌, ◌<◌, ◌≤◌, Bool, List, [], ◌∷◌, length, get_or, reverse, take, slice_get, Some, ap, ◌∙◌, arith}
use Rattle.std.proofs.lemmas.List.{length-reverse, length-take-le, reverse-append}
use Rattle.cml_board.specs.{Entry, before}
use mir.Val.{bool_byte}
use Rattle.cml_report.specs.{one_if, how_many}
use Rattle.cml_report.proofs.ListLemmas.{read_at, taken_more}
use Rattle.cml_report.proofs.LineLemmas.{byte_more}

module _ (journal : List (Entry (List ℕ))) where
  pub before_more : (k : ℕ) (entry : Entry (List ℕ)) → slice_get journal k ≡ Some entry → before journal (k + 1) ≡ entry ∷ before journal k
  before_more k entry found = ap reverse (taken_more journal k entry found) ∙ reverse-append (take k journal) (entry ∷ [])

  pub before_length : (k : ℕ) → k ≤ length journal → length (before journal k) ≡ k
  before_length k le = length-reverse (take k journal) ∙ length-take-le k journal le

  -- this many of the entries before a position pass a test
  pub record AreCountedBefore (p : Entry (List ℕ) → Bool) (k n : ℕ) : Type 0 where
    pub count : n ≡ how_many p (before journal k)
    pub few : n ≤ k

  pub entry_counted : (p : Entry (List ℕ) → Bool) (k n byte : ℕ) (entry : Entry (List ℕ)) (t : Bool) → k < length journal
      → entry ≡ get_or journal k entry → AreCountedBefore p k n → byte ≡ bool_byte t → t ≡ p entry → AreCountedBefore p (k + 1) (n + byte)
  entry_counted p k n byte entry t within is so_far one same =
      let more = ap (how_many p) (before_more k entry (read_at journal k entry within is)) in
      let all : how_many p (before journal (k + 1)) ≡ n + one_if (p entry) = omega (arith, so_far.count, more) in
      let on = byte_more n (how_many p (before journal (k + 1))) byte k t (p entry) all one same so_far.few in
      record { count = on.0; few = on.1 }
