-- What is found among a board's objects.
use Rattle.std.proofs.Common.{◌≡◌, ℕ, ◌<◌, ◌≤◌, List, length, get_or, slice_get, Option, Some, None, IfSome, MatchOption}
use Rattle.std.proofs.Common.{sym, ap, ◌∙◌, arith}
use Rattle.std.specs.Borrow.{Bor}
use Rattle.std.proofs.lemmas.List.{length-map}
use Rattle.std.proofs.lemmas.Option.{slice_get_past}
use Rattle.cml_log.specs.Log.{Log}
use Rattle.cml_board.specs.{Entry, Object, origin_of, made, map_log, seen_all, shown, Stands}
use Rattle.cml_board.specs.Shown.{Shown}
use Rattle.cml_board.specs.Keeps.{Keeps}
use Rattle.cml_board.proofs.PlacingLemmas.{seen_read}
use Rattle.cml_board.proofs.LookingLemmas.{stands_at}

module _ {A M : Type 0} where
  pub found_object : (chunk : ℕ) (log : A → Log M) (board : Shown M) (past journal : List (Entry M)) (limit : ℕ)
      (objects xs : List (Object M A)) {reserved : ℕ}
      → shown log past journal limit objects reserved ≡ board → Keeps chunk board → xs ≡ objects
      → (name : ℕ) (r : Option (Bor (Object M A))) (Q : Bor (Object M A) → Type 0)
      → IfSome r (λ x. x.now ≡ get_or xs name x.now) → MatchOption r (length xs ≤ name) (λ x. (name < length xs) × Q x)
      → MatchOption r (origin_of board.history name ≡ None) (λ x. Stands chunk board name (map_log log x.now))
  found_object chunk log board past journal limit objects xs view keeps same name None Q reads beyond =
      slice_get_past (made board.history) name
      (omega (
        arith,
        keeps.shows.all,
        ap (λ (b : Shown M). length b.objects) view,
        length-map objects (map_log log),
        ap length same,
        beyond,
      ))
  found_object chunk log board past journal limit objects xs view keeps same name (Some x) Q reads within =
      stands_at chunk board name (map_log log x.now) keeps
      (sym (ap (λ (b : Shown M). slice_get b.objects name) view)
      ∙ ap (λ os. slice_get (seen_all log os) name) (sym same)
      ∙ seen_read log xs name x.now within.0 reads)
