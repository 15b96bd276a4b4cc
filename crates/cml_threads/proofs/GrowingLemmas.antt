-- How a pending journal goes on from what it had at first.
use Rattle.std.proofs.Common.{List, ◌++◌, ◌≡◌, sym, ap, ◌∙◌, take, length, min, arith}
use Rattle.std.proofs.lemmas.List.{length-take, take-append-le}
use Rattle.cml_board.specs.{Entry}
use Rattle.cml_threads.specs.{BeginsWith, Grows, PendingView, all_of}

module _ {M : Type 0} where
  -- what a list begins with, it begins with when more is added
  pub still_begins : (start xs ys : List (Entry M)) → take (length start) xs ≡ start → take (length start) (xs ++ ys) ≡ start
  still_begins start xs ys had =
      let long : min (length start) (length xs) ≡ length start = sym (length-take (length start) xs) ∙ ap length had in
      take-append-le (length start) xs ys (omega (arith, long)) ∙ had

  -- a pending journal that grows still has what it had at first
  pub goes_on : (start : List (Entry M)) (old new : PendingView M) → BeginsWith start old → Grows old new → BeginsWith start new
  goes_on start old new had grown =
      ap (take (length start)) grown.1 ∙ (still_begins start (all_of old) grown.0 had)
