-- Which steps go by lanes, and that what they send to is declared.
use Rattle.std.proofs.Common.{◌≡◌, ℕ, ◌<◌, true, List, [], length, map, get_or, slice_get, Option, Some, None, refl}
use Rattle.std.proofs.Common.{sym, ap, ap₂, subst, ◌∙◌, inl, inr}
use Rattle.std.specs.Prelude.{All}
use Rattle.std.specs.Option.{option_map_or, option_and_then}
use Rattle.std.proofs.lemmas.Option.{slice_get-get_or, same_Some}
use Rattle.std.proofs.lemmas.Bool.{cases_lt, false≢true}
use Rattle.cml_calls.specs.{Kind, Give, Ask, admits, given}
use Rattle.cml_calls.specs.declared.kind.Kind.TheVariants as kind
use Rattle.cml_calls.specs.declared.table.Give.TheVariants as give
use Rattle.cml_calls.specs.declared.table.Ask.TheVariants as ask
use Rattle.cml_grammar.specs.{Action, Step, SourceLine, Lines, names_of, action_of, seat_of_step, source_of, ReadsStep, UsesWell}
use Rattle.cml_grammar.specs.declared.forms.Action.TheVariants as action
use Rattle.cml_report.specs.declared.route.Route.TheVariants as route
use Rattle.cml_report.specs.{feed_route, feed_at, route_of, route_of_line, IsKnown, IsObjectAt, route_at}
use Rattle.cml_script.specs.{by_feed, act_of, act_of_line}
use Rattle.cml_report.proofs.ListLemmas.{mapped_at}
use Rattle.cml_report.proofs.LineLemmas.{all_at, step_route}
use Rattle.cml_report.proofs.FitLemmas.{used_taker}
use Rattle.cml_report.proofs.UseLemmas.{given_port}

no_lane : (o : Option ℕ) (capacity : ℕ) → feed_route o ≡ route.Lane capacity → ⊥
no_lane None capacity e = cc
no_lane (Some feed) capacity e = cc

-- what asks an object alone goes by no lane
asks_by_none : (script : Lines) (seat : Option ℕ) (ask : Ask) (at capacity : ℕ)
    → route_of script seat (action.Ask ask at) ≡ route.Lane capacity → ⊥
asks_by_none script seat ask.Poll at capacity e = no_lane (feed_at script at) capacity e
asks_by_none script seat ask at capacity e = cc

-- a name that a step gives is a port's, so that any other was declared
declared_name : (script : Lines) (known : IsKnown script) (at : ℕ) (k : Kind) → IsObjectAt (names_of script) at k
    → (Some kind.Port ≡ Some k → ⊥) → at < length script.declarations
declared_name script known at k is other = elim (cases_lt at (length script.declarations)) [
  | inl lt ↦ lt
  | inr ge ↦ absurd (other (given_port script [] known at k ge is))
]

no_port : (script : Lines) (seat : Option ℕ) (give : Give) (at capacity : ℕ) (m : List ℕ)
    → route_of script seat (action.Give give at m) ≡ route.Lane capacity → admits (given give).takers kind.Port ≡ true → ⊥
no_port script seat give.Send at capacity m e takes = false≢true takes
no_port script seat give.Cast at capacity m e takes = false≢true takes
no_port script seat give at capacity m e takes = cc

module _ (script : Lines) (items : List Step) (i capacity : ℕ) (d : Step) (lines : map (λ x. source_of x.line) items ≡ script.steps)
    (reads : All (ReadsStep (names_of script)) items) (within : i < length items) (goes : route_at script i ≡ route.Lane capacity) where
  abbrev step : Step
  step = get_or items i d

  found : slice_get items i ≡ Some step
  found = slice_get-get_or items i d within

  -- how the step goes that asks for this
  lane_goes : (a : Action) → step.action ≡ a → route_of script (Some step.seat) a ≡ route.Lane capacity
  lane_goes a is =
      ap (route_of script (Some step.seat)) (sym is)
      ∙ sym (step_route script step (all_at (ReadsStep (names_of script)) items i step reads found))
      ∙ sym (ap (λ l. option_map_or (route_of_line script) l route.Seat)
      (mapped_at (λ x. source_of x.line) items script.steps i step lines found)) ∙ goes

  pub lane_gives : (ask : Ask) (at : ℕ) → step.action ≡ action.Ask ask at → ⊥
  lane_gives ask at is = asks_by_none script (Some step.seat) ask at capacity (lane_goes (action.Ask ask at) is)

  -- and what it gives goes to a declared object: a port takes nothing that goes by a lane
  pub lane_target : IsKnown script → (give : Give) (at : ℕ) (m : List ℕ)
      → step.action ≡ action.Give give at m → at < length script.declarations
  lane_target known give at m is =
      let uses : UsesWell (names_of script) (action.Give give at m) =
      subst (UsesWell (names_of script)) is (all_at (ReadsStep (names_of script)) items i step reads found).uses in
      let taker = used_taker (names_of script) (action.Give give at m) uses in
      declared_name script known at taker.0 taker.1
      (λ e. no_port script (Some step.seat) give at capacity m (lane_goes (action.Give give at m) is)
      (ap (admits (given give).takers) (same_Some _ _ e) ∙ taker.2))

-- what it does
pub lane_acts : (script : Lines) (items : List Step) (i capacity : ℕ) (d : Step) (line : SourceLine) (a : Action)
    → map (λ x. source_of x.line) items ≡ script.steps → All (ReadsStep (names_of script)) items → i < length items
    → slice_get script.steps i ≡ Some line
    → route_of_line script line ≡ route.Lane capacity → (get_or items i d).action ≡ a
    → act_of_line script line ≡ act_of script (route.Lane capacity) a
lane_acts script items i capacity d line a lines reads within found goes is =
    let s = get_or items i d in
    let here = slice_get-get_or items i d within in
    let same : line ≡ source_of s.line = same_Some _ _ (sym found ∙ mapped_at (λ x. source_of x.line) items script.steps i s lines here) in
    let acts : action_of (names_of script) line.words ≡ Some a =
    ap (λ (l : SourceLine). action_of (names_of script) l.words) same
    ∙ (all_at (ReadsStep (names_of script)) items i s reads here).action ∙ ap Some is in
    ap₂ (λ w o. option_and_then (act_of script w) o) goes acts

-- what goes by a feed polls it
pub feed_acts : (script : Lines) (line : SourceLine) (feed : ℕ) → route_of_line script line ≡ route.Feed feed
    → act_of_line script line ≡ Some (by_feed feed)
feed_acts script line feed goes = ap (λ w. option_and_then (act_of script w) (action_of (names_of script) line.words)) goes
    ∙ by_action (action_of (names_of script) line.words) goes
  where
    by_action : (o : Option Action) → option_map_or (route_of script (seat_of_step (names_of script) line.words)) o route.Seat
        ≡ route.Feed feed → option_and_then (act_of script (route.Feed feed)) o ≡ Some (by_feed feed)
    by_action None e = cc
    by_action (Some a) e = refl
