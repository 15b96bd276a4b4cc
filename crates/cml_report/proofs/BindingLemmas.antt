-- What the steps of a history gave the names: each step that was performed and gives a name gave it a port.
use Rattle.std.proofs.Common.{◌≡◌, ◌≢◌, ℕ, ◌+◌, ◌<◌, ◌≤◌, Bool, true, false, cond, eqb, ltb, [], ◌∷◌, ◌++◌, length, take, slice_get, Option}
use Rattle.std.proofs.Common.{Some, None, MatchBool, IsTrue, IsSome, IfSome, ◌⊎◌, refl, sym, ap, subst, ◌∙◌, arith, inl, inr, List}
use Rattle.std.specs.Prelude.{⊤, not}
use Rattle.std.specs.Option.{option_map, option_map_or, option_and_then}
use Rattle.std.proofs.lemmas.Option.{same_Some, none-some, option_and_then_some}
use Rattle.std.proofs.lemmas.Bool.{cases_lt, cases_eq, eq-eqb, ne_eqb, false≢true, true≢false}
use Rattle.cml_calls.specs.declared.table.Give.TheVariants as give
use Rattle.cml_calls.specs.declared.table.Ask.TheVariants as ask
use Rattle.cml_board.specs.{Name, Call, Who, Reply, Entry, Origin, port, kind_by, copy_of, Lawful, Fits, made, begun_by, if_made, new_name}
use Rattle.cml_board.specs.{origin_of, kind_of, is_open, answer, sent, got}
use Rattle.cml_board.specs.declared.call.Call.TheVariants as call
use Rattle.cml_calls.specs.declared.kind.Kind.TheVariants as kind
use Rattle.cml_board.specs.declared.entry.Who.TheVariants.{Seat, Lane, Feed}
use Rattle.cml_board.specs.declared.entry.Reply.TheVariants as reply
use Rattle.cml_calls.specs.{is_port}
use Rattle.cml_board.proofs.ClosingLemmas.{kind_kept}
use Rattle.cml_grammar.specs.{Action, SourceLine, Lines, names_of, action_of, is_giving, names_before, gives_name}
use Rattle.cml_grammar.specs.declared.forms.Action.TheVariants as action
use Rattle.cml_report.specs.{one_if, how_many, IsOfScript, IsNextOfThread, IsOfCaller, History, IsDeclaration, maker, is_feed, objects_of}
use Rattle.cml_report.specs.{is_called, is_seat, earlier, performed, declared_count, object_of, call_on, call_of, step_call, next_position}
use Rattle.cml_report.specs.{given_by, gives_next, bound_by, binding_of, port_bound, is_of_thread, HasSeats, AsksForPorts}
use Rattle.cml_report.proofs.ListLemmas.{slice_get_pushed}
use Rattle.cml_report.proofs.GivingLemmas.{giver, given_at, given_line, given_once, next_at, none_other, gives_as, gives_that}
use Rattle.cml_report.proofs.LineLemmas.{called_seated}
use Rattle.cml_report.proofs.FitLemmas.{called_on}

-- a call that asks for a port
abbrev pub asks_port : Call (List ℕ) → Bool
asks_port (call.NewPort name) = true
asks_port (call.CopyPort name) = true
asks_port _ = false

-- the call of a step that gives a name asks for a port
call_asks : (a : Action) (name : Name) → asks_port (call_on a name) ≡ gives_name a
call_asks (action.Give give.Send at message) name = refl
call_asks (action.Give give at message) name = refl
call_asks (action.Ask ask.NewPort at) name = refl
call_asks (action.Ask ask at) name = refl

step_asks : (script : Lines) (before : History) (i : ℕ) (c : Call (List ℕ)) (line : SourceLine) → AsksForPorts script
    → slice_get script.steps i ≡ Some line → step_call script before i ≡ Some c → is_giving line ≡ true → asks_port c ≡ true
step_asks script before i c line asks found calls gives =
    option_and_then_some (call_of (object_of script before)) (action_of (names_of script) line.words) c
    (sym (ap (option_and_then
    (λ (l : SourceLine). option_and_then (call_of (object_of script before)) (action_of (names_of script) l.words))) found) ∙ calls)
    (λ a is called.
    let on = called_on (object_of script before) a c called in
    ap asks_port (sym on.1) ∙ call_asks a on.0 ∙ asks i line a found is ∙ gives)

-- What a call that asks for a port gives.

-- an origin that a port has
record IsPortAt (history : History) (n : ℕ) : Type 0 where
  channel : ℕ
  start : ℕ
  origin : origin_of history n ≡ Some (port channel start)

port_origin : (o : Option Origin) → IsSome (option_map kind_by o) → IfSome (option_map kind_by o) (λ k. IsTrue (is_port k))
    → (c : ℕ) × (s : ℕ) × (o ≡ Some (port c s))
port_origin (Some (port c s)) some is = (c, s, refl)
port_origin o some is = cc

-- the reply binds a port
record Binds (before : History) (asked : Call (List ℕ)) (r : Reply (List ℕ)) : Type 0 where
  object : ℕ
  bound : port_bound (bound_by asked r) ≡ Some object
  kind : (entry : Entry (List ℕ)) → entry.call ≡ asked → entry.reply ≡ r → kind_of (entry ∷ before) object ≡ Some kind.Port

made_port : (before : History) (asked : Call (List ℕ)) (c s : ℕ) → begun_by (made before) before asked ≡ port c s ∷ []
    → Binds before asked (new_name before)
made_port before asked c s begun = record {
  object = length (made before);
  bound = refl;
  kind = λ entry called replied.
      let origins : if_made entry.reply (begun_by (made before) before entry.call) ≡ port c s ∷ [] =
      ap (λ r. if_made r (begun_by (made before) before entry.call)) replied ∙ ap (begun_by (made before) before) called ∙ begun in
      ap (λ os. option_map kind_by (slice_get (made before ++ os) (length (made before)))) origins
      ∙ ap (option_map kind_by) (slice_get_pushed (made before) (port c s) (length (made before)) refl);
}

binds : (before : History) (asked : Call (List ℕ)) (r : Reply (List ℕ)) → asks_port asked ≡ true → Fits before asked
    → answer before asked ≡ Some r → Binds before asked r
binds before (call.NewPort name) r asks fits answers =
    subst (Binds before (call.NewPort name)) (same_Some _ _ answers)
    (made_port before (call.NewPort name) name.0 (length (sent before name.0)) refl)
binds before (call.CopyPort name) r asks fits answers = by_open (is_open before name.0) answers
  where
    original : (c : ℕ) × (s : ℕ) × (origin_of before name.0 ≡ Some (port c s))
    original = port_origin (origin_of before name.0) fits.0 fits.1

    by_open : (t : Bool) → cond t (Some (new_name before)) (Some reply.Closed) ≡ Some r → Binds before (call.CopyPort name) r
    by_open true e =
        subst (Binds before (call.CopyPort name)) (same_Some _ _ e)
        (made_port before (call.CopyPort name) original.0 (original.1 + length (got before name.0))
        (ap (λ o. copy_of o (length (got before name.0))) original.2))
    by_open false e = subst (Binds before (call.CopyPort name)) (same_Some _ _ e) (record {
      object = name.0;
      bound = refl;
      kind = λ entry called replied. kind_kept entry before name.0 kind.Port (ap (option_map kind_by) original.2);
    })
binds before c r asks fits answers = absurd (false≢true asks)

-- a call that asks for a port is given one
abbrev pub GivesPort : Entry (List ℕ) → Type 0
GivesPort entry = asks_port entry.call ≡ true → IsSome (port_bound (bound_by entry.call entry.reply))

-- each entry is no thread's, or the next step of its thread
abbrev pub AreSteps : Lines → History → Type 0
AreSteps script [] = ⊤
AreSteps script (entry ∷ before) =
    ((is_of_thread entry.who ≡ false) ⊎ (IsNextOfThread script before entry × GivesPort entry)) × AreSteps script before

-- a declared object is made by no thread
pub maker_is_none : (script : Lines) (k : ℕ) → is_of_thread (maker script k) ≡ false
maker_is_none script k =
    elim (option_map_or (is_feed script) (slice_get (objects_of script) k) false) as (λ t.
    is_of_thread (cond t (Feed (how_many (is_feed script) (take k (objects_of script)))) (Seat 0)) ≡ false) [ true ↦ refl | false ↦ refl ]

pub lawful_gives : (before : History) (entry : Entry (List ℕ)) → Fits before entry.call
    → answer before entry.call ≡ Some entry.reply → GivesPort entry
lawful_gives before entry fits answers = λ asks. subst IsSome (sym (binds before entry.call entry.reply asks fits answers).bound) refl

pub script_steps : (script : Lines) (history : History) → IsOfScript script history → Lawful history → AreSteps script history
script_steps script [] own lawful = tt
script_steps script (entry ∷ before) own lawful =
    (by_bool (ltb (length before) (declared_count script)) own.0, script_steps script before own.1 lawful.2)
  where
    by_caller : (w : Who) → entry.who ≡ w → IsOfCaller script before entry w
        → (is_of_thread entry.who ≡ false) ⊎ (IsNextOfThread script before entry × GivesPort entry)
    by_caller (Seat s) e next = inr (next, lawful_gives before entry lawful.0 lawful.1)
    by_caller (Lane l) e laid = inl (ap is_of_thread e)
    by_caller (Feed f) e fed = inl (ap is_of_thread e)

    by_bool : (t : Bool) → MatchBool t (IsDeclaration script before entry) (IsOfCaller script before entry entry.who)
        → (is_of_thread entry.who ≡ false) ⊎ (IsNextOfThread script before entry × GivesPort entry)
    by_bool true declares = inl (ap is_of_thread declares.by ∙ maker_is_none script (length before))
    by_bool false own = by_caller entry.who refl own

-- what no thread made was not made by a seat from 1 on
pub none_seated : (seat : ℕ) → 1 ≤ seat → (who : Who) → is_of_thread who ≡ false → is_seat seat who ≡ false
none_seated seat low (Lane l) other = refl
none_seated seat low (Feed f) other = refl
none_seated seat low (Seat s) other =
    ne_eqb s seat (λ same. true≢false (ap not (sym (ne_eqb s 0 (λ first. omega (arith, low, same, first)))) ∙ other))

-- the next step is of some thread
next_seat : (script : Lines) (before : History) (who : Who) (i : ℕ) → next_position script before who ≡ Some i → (s : ℕ) × (who ≡ Seat s)
next_seat script before (Seat s) i e = (s, refl)
next_seat script before who i e = cc

module _ (script : Lines) (asks : AsksForPorts script) (seats : HasSeats script) where
  -- a step that gives a name asks for a port
  next_asks : (before : History) (entry : Entry (List ℕ)) (at : ℕ) → IsNextOfThread script before entry
      → giver script before entry.who ≡ Some at → asks_port entry.call ≡ true
  next_asks before entry at n gives =
      let line = given_line script n.step at (sym (ap (option_and_then (given_by script)) n.next) ∙ gives) in
      step_asks script before n.step entry.call line.0 asks line.1 n.calls line.2

  other_gives_nothing : (before : History) (entry : Entry (List ℕ)) → is_of_thread entry.who ≡ false → giver script before entry.who ≡ None
  other_gives_nothing before entry by = ap (option_and_then (given_by script)) (none_other script before seats entry.who by)

  -- one entry more
  pub bound_more : (before : History) (entry : Entry (List ℕ)) (at : ℕ) (g : Option ℕ) → giver script before entry.who ≡ g
      → binding_of script (entry ∷ before) at
      ≡ cond (option_map_or (λ n. eqb n at) g false) (bound_by entry.call entry.reply) (binding_of script before at)
  bound_more before entry at g e =
      ap (λ t. cond t (bound_by entry.call entry.reply) (binding_of script before at)) (gives_as script before entry.who at g e)

  -- the object of a name that a step gave is a port
  pub bound_port : (history : History) (at n : ℕ) → IsOfScript script history → Lawful history
      → port_bound (binding_of script history at) ≡ Some n → kind_of history n ≡ Some kind.Port
  bound_port [] at n own lawful bound = absurd (none-some n bound)
  bound_port (entry ∷ before) at n own lawful bound =
      by_gives (gives_next script before entry.who at) refl bound (bound_port before at n own.1 lawful.2)
    where
      now : giver script before entry.who ≡ Some at → port_bound (bound_by entry.call entry.reply) ≡ Some n
          → kind_of (entry ∷ before) n ≡ Some kind.Port
      now gives is = elim (script_steps script (entry ∷ before) own lawful).0 [
        | inl first ↦ absurd (none-some at (sym (other_gives_nothing before entry first) ∙ gives))
        | inr next ↦
            let b = binds before entry.call entry.reply (next_asks before entry at next.0 gives) lawful.0 lawful.1 in
            ap (kind_of (entry ∷ before)) (same_Some _ _ (sym is ∙ b.bound)) ∙ b.kind entry refl refl
      ]

      by_gives : (t : Bool) → gives_next script before entry.who at ≡ t
          → port_bound (cond t (bound_by entry.call entry.reply) (binding_of script before at)) ≡ Some n
          → (port_bound (binding_of script before at) ≡ Some n → kind_of before n ≡ Some kind.Port)
          → kind_of (entry ∷ before) n ≡ Some kind.Port
      by_gives true e is earlier_one = now (gives_that script before entry.who at e) is
      by_gives false e is earlier_one = kind_kept entry before n kind.Port (earlier_one is)

  gave_more : (before : History) (entry : Entry (List ℕ)) (i seat : ℕ) (line : SourceLine)
      → (is_of_thread entry.who ≡ false) ⊎ (IsNextOfThread script before entry × GivesPort entry) → slice_get script.steps i ≡ Some line
      → is_called script seat line ≡ true → is_giving line ≡ true
      → (earlier script seat i < performed before seat
      → IsSome (port_bound (binding_of script before (names_before script.declarations script.steps i))))
      → earlier script seat i < performed (entry ∷ before) seat
      → IsSome (port_bound (binding_of script (entry ∷ before) (names_before script.declarations script.steps i)))
  gave_more before entry i seat line either found seated gives ih done =
      elim either [ inl first ↦ declared first | inr next ↦ stepped next.0 next.1 ]
    where
      at : ℕ
      at = names_before script.declarations script.steps i

      given : given_by script i ≡ Some at
      given = given_at script i line found ∙ ap (λ t. cond t (Some at) None) gives

      same : (g : Option ℕ) → giver script before entry.who ≡ g → option_map_or (λ n. eqb n at) g false ≡ false
          → IsSome (port_bound (binding_of script before at)) → IsSome (port_bound (binding_of script (entry ∷ before) at))
      same g e unlike some = subst (λ b. IsSome (port_bound b))
          (sym (bound_more before entry at g e ∙ ap (λ t. cond t (bound_by entry.call entry.reply) (binding_of script before at)) unlike))
          some

      counted : (by : ℕ) → entry.who ≡ Seat by → performed (entry ∷ before) seat ≡ one_if (eqb by seat) + performed before seat
      counted by e = ap (λ w. one_if (is_seat seat w) + performed before seat) e

      declared : is_of_thread entry.who ≡ false → IsSome (port_bound (binding_of script (entry ∷ before) at))
      declared other =
          let low = (seats i line seat found (called_seated script seat line seated)).0 in
          same None (other_gives_nothing before entry other) refl
          (ih (omega (arith, done, ap one_if (none_seated seat low entry.who other))))

      stepped : IsNextOfThread script before entry → GivesPort entry → IsSome (port_bound (binding_of script (entry ∷ before) at))
      stepped next gives_port = elim (cases_eq next.step i) [
        | inl here ↦
            let gives_now : giver script before entry.who ≡ Some at = ap (option_and_then (given_by script)) next.next
            ∙ ap (given_by script) here ∙ given in
            subst (λ x. IsSome (port_bound x)) (sym (bound_more before entry at (Some at) gives_now
            ∙ ap (λ t. cond t (bound_by entry.call entry.reply) (binding_of script before at)) (eq-eqb at at refl)))
            (gives_port (next_asks before entry at next gives_now))
        | inr other ↦
            same (given_by script next.step) (ap (option_and_then (given_by script)) next.next) (not_that other) (ih (fewer other))
      ]
        where
          not_that : next.step ≢ i → option_map_or (λ n. eqb n at) (given_by script next.step) false ≡ false
          not_that other = by_given (given_by script next.step) refl
            where
              by_given : (g : Option ℕ) → given_by script next.step ≡ g → option_map_or (λ n. eqb n at) g false ≡ false
              by_given None e = refl
              by_given (Some n) e = ne_eqb n at (λ z. other (given_once script next.step i at (e ∙ ap Some z) given))

          fewer : next.step ≢ i → earlier script seat i < performed before seat
          fewer other =
              let by = next_seat script before entry.who next.step next.next in
              elim (cases_eq by.0 seat) [
                | inl mine ↦ elim (cases_lt (earlier script seat i) (performed before seat)) [
                  | inl lt ↦ lt
                  | inr ge ↦
                      let equal : earlier script seat i ≡ performed before seat =
                      omega (arith, ge, done, counted by.0 by.1, ap one_if (eq-eqb by.0 seat mine)) in
                      let there : next_position script before (Seat seat) ≡ Some i = next_at script before seat i line found seated equal in
                      absurd (other (same_Some _ _ (sym next.next ∙ ap (next_position script before) by.1
                      ∙ ap (λ s. next_position script before (Seat s)) mine ∙ there)))
                ]
                | inr theirs ↦
                    let test : eqb by.0 seat ≡ false = ne_eqb by.0 seat theirs in
                    omega (arith, done, counted by.0 by.1, ap one_if test)
              ]

  -- each step that was performed and gives a name gave it a port
  pub gave : (history : History) (i seat : ℕ) (line : SourceLine) → AreSteps script history → slice_get script.steps i ≡ Some line
      → is_called script seat line ≡ true → is_giving line ≡ true → earlier script seat i < performed history seat
      → IsSome (port_bound (binding_of script history (names_before script.declarations script.steps i)))
  gave [] i seat line steps found seated gives done = absurd (omega (arith, done))
  gave (entry ∷ before) i seat line steps found seated gives done =
      gave_more before entry i seat line steps.0 found seated gives (gave before i seat line steps.1 found seated gives) done
