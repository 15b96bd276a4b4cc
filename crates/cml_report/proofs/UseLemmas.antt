-- The name that a thread's next step uses has an object of its kind.
use Rattle.std.proofs.Common.{◌≡◌, ℕ, ◌<◌, ◌≤◌, true, false, eqb, List, length, map, slice_get, Option, Some, None, IsSome, IfSome}
use Rattle.std.proofs.Common.{MatchOption, refl, sym, ap, subst, ◌∙◌, arith, inl, inr}
use Rattle.std.specs.Prelude.{All}
use Rattle.std.specs.Option.{option_map, option_map_or}
use Rattle.std.proofs.lemmas.Option.{none-some, same_Some, slice_get_within}
use Rattle.std.proofs.lemmas.List.{length-map}
use Rattle.std.proofs.lemmas.Bool.{cases_lt, eqb-true, eq-eqb, false≢true}
use Rattle.cml_board.specs.{Name, kind_of, Lawful}
use Rattle.cml_calls.specs.{Kind}
use Rattle.cml_calls.specs.declared.kind.Kind.TheVariants as kind
use Rattle.cml_board.specs.declared.entry.Who.TheVariants.{Seat}
use Rattle.cml_grammar.specs.{Action, Declaration, Step, Given, kind_named, SourceLine, Lines, names_of, IsGivenAt, is_giving}
use Rattle.cml_grammar.specs.{names_before, source_of, ReadsStep, UsesWell, UsesEarlier, MayUse, used_by}
use Rattle.cml_report.specs.{Binding, IsOfScript, History, is_seated, is_called, earlier, performed, next_position, declared_count}
use Rattle.cml_report.specs.{object_of, made_of, binding_of, port_bound, port_made, IsKnown, IsObject, IsObjectAt}
use Rattle.cml_report.specs.declared.binding.Binding.TheVariants as binding
use Rattle.cml_report.proofs.ListLemmas.{mapped_at, counted_mono}
use Rattle.cml_report.proofs.LineLemmas.{all_at, step_seated, called_seated, giving_called}
use Rattle.cml_report.proofs.QueueLemmas.{position_is}
use Rattle.cml_report.proofs.GivingLemmas.{names_le}
use Rattle.cml_report.proofs.BindingLemmas.{AreSteps, bound_port, gave}
use Rattle.cml_report.proofs.FitLemmas.{used_taker}
use Rattle.cml_report.proofs.KeptLemmas.{object_declared, object_given, made_declared, made_given, declared_stands, declared_kind}

pub used_object : (names : List Given) (a : Action) → UsesWell names a → IsObject names (used_by a)
used_object names a uses = let taker = used_taker names a uses in (taker.0, taker.1)

the_some : (o : Option ℕ) → IsSome o → (n : ℕ) × (o ≡ Some n)
the_some None some = absurd (false≢true some)
the_some (Some n) some = (n, refl)

pub made_option : (r : Option Name) (o p : Option ℕ) → r ≡ option_map (λ n. record { 0 = n }) o → o ≡ p
    → MatchOption r (p ≡ None) (λ name. p ≡ Some name.0)
made_option r None p e same = subst (λ (x : Option Name). MatchOption x (p ≡ None) (λ name. p ≡ Some name.0)) (sym e) (sym same)
made_option r (Some n) p e same = subst (λ (x : Option Name). MatchOption x (p ≡ None) (λ name. p ≡ Some name.0)) (sym e) (sym same)

module _ (script : Lines) (history : History) (known : IsKnown script) where
  -- a name that a step of this thread gave, before those that it performs next
  own_name : (seat i k at : ℕ) (line : SourceLine) → AreSteps script history → next_position script history (Seat seat) ≡ Some i → k < i
      → slice_get script.steps k ≡ Some line → is_seated script seat line ≡ true → is_giving line ≡ true
      → at ≡ names_before script.declarations script.steps k → length script.declarations ≤ at
      → (n : ℕ) × (object_of script history at ≡ Some n)
  own_name seat i k at line steps next lt found seated gives same ge =
      let there = position_is (is_called script seat) 0 script.steps (performed history seat) i next in
      let called = giving_called script k seat line known.asks found gives seated in
      let counted = counted_mono (is_called script seat) script.steps k there.place line (omega (arith, lt, there.at)) found called in
      let done : earlier script seat k < performed history seat = omega (arith, counted, there.behind) in
      let bound = gave script known.asks known.seats history k seat line steps found called gives done in
      let object = the_some (port_bound (binding_of script history at))
      (subst (λ n. IsSome (port_bound (binding_of script history n))) (sym same) bound) in
      (object.0, object_given script history at ge ∙ object.1)

  -- the name that a thread's next step uses has an object
  pub used_stands_for : (items : List Step) (i seat : ℕ) (s : Step) → AreSteps script history
      → map (λ x. source_of x.line) items ≡ script.steps → All (ReadsStep (names_of script)) items → UsesEarlier script items
      → slice_get items i ≡ Some s → next_position script history (Seat seat) ≡ Some i → declared_count script ≤ length history
      → (n : ℕ) × (object_of script history (used_by s.action) ≡ Some n)
  used_stands_for items i seat s steps lines reads uses_earlier item next declared =
      elim (cases_lt (used_by s.action) (length script.declarations)) [
        | inl lt ↦
            let d =
            declared_stands script history known.named (used_by s.action) declared lt (used_object (names_of script) s.action read.uses) in
            (d.0, object_declared script history (used_by s.action) lt ∙ d.1)
        | inr ge ↦ elim (known.given.each (used_by s.action) read.yours.0 read.yours.1) [
          | inl lt ↦ absurd (omega (arith, lt, ge))
          | inr given ↦ by_step ge given
        ]
      ]
    where
      read : ReadsStep (names_of script) s
      read = all_at (ReadsStep (names_of script)) items i s reads item

      mine : s.seat ≡ seat
      mine =
          let there = position_is (is_called script seat) 0 script.steps (performed history seat) i next in
          let here : i ≡ there.place = omega (arith, there.at) in
          let same : there.line ≡ source_of s.line = same_Some _ _ (sym there.found ∙ ap (slice_get script.steps) (sym here)
          ∙ mapped_at (λ (x : Step). source_of x.line) items script.steps i s lines item) in
          eqb-true s.seat seat (sym (step_seated script s seat read) ∙ ap (is_seated script seat) (sym same)
          ∙ called_seated script seat there.line there.seated)

      by_step : length script.declarations ≤ used_by s.action → IsGivenAt script.declarations script.steps (used_by s.action)
          → (n : ℕ) × (object_of script history (used_by s.action) ≡ Some n)
      by_step ge (k, line, found, gives, same) =
          let port = known.given.steps k line found gives in
          let named = same_Some _ _ (sym read.yours.1 ∙ ap (slice_get (names_of script)) same ∙ port.4) in
          let owner : port.1 ≡ seat = subst (λ (g : Given). MayUse s.seat g.1) named read.yours.2 ∙ mine in
          let seated : is_seated script seat line ≡ true =
          ap (λ o. option_map_or (λ t. eqb t seat) o false) port.3 ∙ eq-eqb port.1 seat owner in
          let lt : k < i = elim (cases_lt k i) [
            | inl lt ↦ lt
            | inr le ↦ absurd (omega (arith, names_le script i k le, uses_earlier i s item, same))
          ] in
          own_name seat i k (used_by s.action) line steps next lt found seated gives same ge

  -- a name that a step gives is a port's
  pub given_port : (at : ℕ) (k : Kind) → length script.declarations ≤ at → IsObjectAt (names_of script) at k → Some kind.Port ≡ Some k
  given_port at k ge is = elim (known.given.each at (is.0, is.1) is.2) [
    | inl lt ↦ absurd (omega (arith, lt, ge))
    | inr given ↦
        let port = known.given.steps given.0 given.1 given.2 given.3 in
        ap (λ (g : Given). kind_named g.1) (same_Some _ _ (sym port.4 ∙ ap (slice_get (names_of script)) (sym given.4) ∙ is.2)) ∙ is.3
  ]

  -- a name's object is of the name's kind
  pub object_kind_at : (at n : ℕ) (k : Kind) → IsOfScript script history → Lawful history → object_of script history at ≡ Some n
      → IsObjectAt (names_of script) at k → kind_of history n ≡ Some k
  object_kind_at at n k own lawful object named = elim (cases_lt at (length script.declarations)) [
    | inl lt ↦ declared_kind script history known.named at n k own lawful lt (sym (object_declared script history at lt) ∙ object) named
    | inr ge ↦ bound_port script known.asks known.seats history at n own lawful (sym (object_given script history at ge) ∙ object)
        ∙ given_port at k ge named
  ]

  -- what was made for a name is its object
  made_stands : (at n : ℕ) → made_of script history at ≡ Some n → object_of script history at ≡ Some n
  made_stands at n made = elim (cases_lt at (length script.declarations)) [
    | inl lt ↦ object_declared script history at lt ∙ sym (made_declared script history at lt) ∙ made
    | inr ge ↦ object_given script history at ge ∙ by_binding (binding_of script history at) (sym (made_given script history at ge) ∙ made)
  ]
    where
      by_binding : (b : Binding) → port_made b ≡ Some n → port_bound b ≡ Some n
      by_binding binding.Unbound e = absurd (none-some n e)
      by_binding (binding.Made name) e = e
      by_binding (binding.Closed name) e = absurd (none-some n e)

  -- what is looked up as made for a name is of the name's kind
  pub made_kind : (at : ℕ) (r : Option Name) → IsOfScript script history → Lawful history
      → MatchOption r (made_of script history at ≡ None) (λ name. made_of script history at ≡ Some name.0)
      → IfSome r (λ name. (k : Kind) → IsObjectAt (names_of script) at k → kind_of history name.0 ≡ Some k)
  made_kind at None own lawful made = tt
  made_kind at (Some name) own lawful made = λ k named. object_kind_at at name.0 k own lawful (made_stands at name.0 made) named

pub object_within : (names : List Given) (at : ℕ) → IsObject names at → at < length names
object_within names at object = slice_get_within names at (object.1.0, object.1.1) object.1.2

pub declared_length : (items : List Declaration) (script other : Lines) → map (λ d. source_of d.line) items ≡ script.declarations
    → script ≡ other → length items ≡ length other.declarations
declared_length items script other lines same = sym (length-map items (λ (d : Declaration). source_of d.line)) ∙ ap length lines
    ∙ ap (λ (s : Lines). length s.declarations) same
