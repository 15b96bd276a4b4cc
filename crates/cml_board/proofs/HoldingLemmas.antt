-- Variables, what they hold, and what calls on them are answered.
use Rattle.std.proofs.Common.{◌≡◌, ◌≢◌, ℕ, true, false, List, slice_get, Option, Some, None, is_some, cond, IsTrue}
use Rattle.std.proofs.Common.{IsSome, IfSome, refl, sym, ap, subst, ◌∙◌}
use Rattle.std.specs.Option.{option_map, option_map_or, option_and_then}
use Rattle.std.proofs.lemmas.Bool.{false≢true}
use Rattle.cml_log.specs.Log.{Log}
use Rattle.cml_board.specs.{Name, Entry, Form, Object, kind_by, asked_call, variable_call, reads_variable, held, Fits, kind_of, answer}
use Rattle.cml_board.specs.{new_name, is_a, facts_of, held_in, HasVariable, SetsHeld, KeepsVariables, Agrees}
use Rattle.cml_board.specs.Shown.{Shown}
use Rattle.cml_board.specs.Keeps.{Keeps}
use Rattle.cml_calls.specs.{Kind, Ask, is_variable, is_mvar, asked}
use Rattle.cml_calls.specs.declared.kind.Kind.TheVariants as kind
use Rattle.cml_board.specs.declared.call.Call.TheVariants as call
use Rattle.cml_calls.specs.declared.table.Ask.TheVariants as ask
use Rattle.cml_board.specs.declared.entry.Reply.TheVariants.{Done, Got, Nothing, Put}
use Rattle.cml_board.specs.declared.object.Form.TheVariants.{Once, Mutable}
use Rattle.cml_board.specs.declared.object.Object.TheVariants.{Mailbox, Channel, Port, Variable}
use Rattle.cml_board.proofs.LookingLemmas.{none_made}

variable_kind : (k : Option Kind) → IsSome k → IfSome k (λ kind. IsTrue (is_variable kind)) → option_map_or is_variable k false ≡ true
variable_kind None some is = absurd (false≢true some)
variable_kind (Some k) some is = is

mvar_kind : (k : Option Kind) → IsSome k → IfSome k (λ kind. IsTrue (is_mvar kind)) → option_map_or is_variable k false ≡ true
mvar_kind None some is = absurd (false≢true some)
mvar_kind (Some kind.MVar) some is = refl
mvar_kind (Some other) some is = absurd (false≢true is)

not_variable : (k : Option Kind) (other : Kind) → k ≡ Some other → is_variable other ≡ false → option_map_or is_variable k false ≡ true → ⊥
not_variable k other same isnt is = false≢true (sym isnt ∙ ap (λ o. option_map_or is_variable o false) (sym same) ∙ is)

module _ {M : Type 0} where
  -- a call on a variable names one
  pub put_variable : (h : List (Entry M)) (name : Name) (message : M) → Fits h (call.Put name message) → is_a is_variable h name.0 ≡ true
  put_variable h name message fits = variable_kind (kind_of h name.0) fits.0 fits.1

  pub swap_variable : (h : List (Entry M)) (name : Name) (message : M) → Fits h (call.Swap name message) → is_a is_variable h name.0 ≡ true
  swap_variable h name message fits = mvar_kind (kind_of h name.0) fits.0 fits.1

  pub look_variable : (h : List (Entry M)) (asks : Ask) (name : Name) → reads_variable asks ≡ true → Fits h (asked_call asks name)
      → is_a is_variable h name.0 ≡ true
  look_variable h ask.Get name is fits = variable_kind (kind_of h name.0) fits.0 fits.1
  look_variable h ask.GetPoll name is fits = variable_kind (kind_of h name.0) fits.0 fits.1
  look_variable h ask.Take name is fits = mvar_kind (kind_of h name.0) fits.0 fits.1
  look_variable h ask.TakePoll name is fits = mvar_kind (kind_of h name.0) fits.0 fits.1
  look_variable h other name is fits = absurd (false≢true is)

  -- one that makes a variable is answered everywhere
  pub fits_making : (h : List (Entry M)) (form : Form) → Fits h (variable_call form)
  fits_making h Once = (tt, tt)
  fits_making h Mutable = (tt, tt)

  pub answer_making : (h : List (Entry M)) (form : Form) → answer h (variable_call form) ≡ Some (new_name h)
  answer_making h Once = refl
  answer_making h Mutable = refl

  -- what the others are answered
  pub answer_filled : (h : List (Entry M)) (name : Name) (message : M) → held h name.0 ≡ None → answer h (call.Put name message) ≡ Some Done
  answer_filled h name message empty = rw empty refl

  some_held : (value : Option M) → value ≢ None → is_some value ≡ true
  some_held None full = absurd (full refl)
  some_held (Some message) full = refl

  pub answer_full : (h : List (Entry M)) (name : Name) (message : M) → held h name.0 ≢ None → answer h (call.Put name message) ≡ Some Put
  answer_full h name message full = ap (λ t. Some (cond t Put Done)) (some_held (held h name.0) full)

  pub answer_swapped : (h : List (Entry M)) (name : Name) (message old : M) → held h name.0 ≡ Some old
      → answer h (call.Swap name message) ≡ Some (Got old)
  answer_swapped h name message old full = rw full refl

  pub answer_read : (h : List (Entry M)) (asks : Ask) (name : Name) (message : M)
      → reads_variable asks ≡ true → held h name.0 ≡ Some message
      → answer h (asked_call asks name) ≡ Some (Got message)
  answer_read h ask.Get name message is full = rw full refl
  answer_read h ask.GetPoll name message is full = rw full refl
  answer_read h ask.Take name message is full = rw full refl
  answer_read h ask.TakePoll name message is full = rw full refl
  answer_read h other name message is full = absurd (false≢true is)

  pub answer_empty : (h : List (Entry M)) (asks : Ask) (name : Name) → reads_variable asks ≡ true
      → (asked asks).blocks ≡ false → held h name.0 ≡ None
      → answer h (asked_call asks name) ≡ Some Nothing
  answer_empty h ask.Get name is polls empty = absurd (false≢true (sym polls))
  answer_empty h ask.GetPoll name is polls empty = rw empty refl
  answer_empty h ask.Take name is polls empty = absurd (false≢true (sym polls))
  answer_empty h ask.TakePoll name is polls empty = rw empty refl
  answer_empty h other name is polls empty = absurd (false≢true is)

  -- what isn't empty holds something
  pub some_message : (value : Option M) → value ≢ None → (message : M) × (value ≡ Some message)
  some_message None full = absurd (full refl)
  some_message (Some message) full = (message, refl)

  -- there is a variable under its name
  pub variable_stands : (chunk : ℕ) (board : Shown M) (name : ℕ) → Keeps chunk board
      → is_a is_variable board.history name ≡ true → HasVariable board.objects name
  variable_stands chunk board name keeps is = by_option (slice_get board.objects name) refl
    where
      by_object : (object : Object M (Log M)) → slice_get board.objects name ≡ Some object
          → Agrees (facts_of board.history name) object → HasVariable board.objects name
      by_object (Mailbox log key) found agrees =
          absurd (not_variable (kind_of board.history name) kind.Mailbox (ap (option_map kind_by) agrees.0) refl is)
      by_object (Channel log) found agrees =
          absurd (not_variable (kind_of board.history name) kind.Channel (ap (option_map kind_by) agrees) refl is)
      by_object (Port p) found agrees =
          absurd (not_variable (kind_of board.history name) kind.Port (ap (option_map kind_by) agrees.0) refl is)
      by_object (Variable form value) found agrees = record { form = form; held = value; found = found }

      by_option : (o : Option (Object M (Log M))) → slice_get board.objects name ≡ o → HasVariable board.objects name
      by_option (Some object) found = by_object object found (keeps.shows.each name object found)
      by_option None none =
          absurd
          (false≢true (sym (ap (λ o. option_map_or is_variable (option_map kind_by o) false) (none_made chunk board name keeps none)) ∙ is))

  -- and holds what the history tells
  pub variable_holds : (chunk : ℕ) (board : Shown M) (name : ℕ) (form : Form) (value : Option M) → Keeps chunk board
      → slice_get board.objects name ≡ Some (Variable form value) → held board.history name ≡ value
  variable_holds chunk board name form value keeps found = (keeps.shows.each name (Variable form value) found).1

  pub keeps_variables : (chunk : ℕ) (board : Shown M) → Keeps chunk board → KeepsVariables board
  keeps_variables chunk board keeps = λ name is.
      let stands = variable_stands chunk board name keeps is in
      ap (option_and_then held_in) stands.found
      ∙ ap (λ value. Some value) (sym (variable_holds chunk board name stands.form stands.held keeps stands.found))

  -- so what it held before it was given another value is what the history told
  pub was_held : (chunk : ℕ) {a b : Shown M} → a ≡ b → Keeps chunk a → (after : List (Object M (Log M))) (name : ℕ) (was value : Option M)
      → SetsHeld a.objects after name was value → held b.history name ≡ was
  was_held chunk {a} {b} view keeps after name was value sets =
      subst (λ (s : Shown M). held s.history name ≡ was) view (variable_holds chunk a name sets.form was keeps sets.found)
