-- What calls are answered, and which fit.
use Rattle.std.proofs.Common.{◌≡◌, ◌≢◌, true, false, Bool, List, [], ◌∷◌, slice_get, Option, Some, None, IsTrue, IsSome, IfSome, refl, ◌∙◌}
use Rattle.std.specs.Option.{option_map_or}
use Rattle.std.proofs.lemmas.Bool.{false≢true}
use Rattle.cml_board.specs.{Name, Call, Entry, given_call, asked_call, adds, takes_next, asks_port, object_in, takes, Fits, kind_of}
use Rattle.cml_board.specs.{is_open, owed, answer, new_name, is_a}
use Rattle.cml_calls.specs.{Kind, Ask, Give, is_receiver}
use Rattle.cml_board.specs.declared.call.Call.TheVariants.{CopyPort, ClosePort, Recv, Poll}
use Rattle.cml_board.specs.declared.entry.Reply.TheVariants.{Done, Got, Nothing, Closed}
use Rattle.cml_calls.specs.declared.table.Ask.TheVariants as ask
use Rattle.cml_calls.specs.declared.table.Give.TheVariants as give

module _ {M : Type 0} where
  pub answer_put : (h : List (Entry M)) (gives : Give) (name : Name) (message : M) → adds gives ≡ true
      → answer h (given_call gives name message) ≡ Some Done
  answer_put h give.Send name message is = refl
  answer_put h give.Cast name message is = refl
  answer_put h other name message is = absurd (false≢true is)

  pub answer_closed : (h : List (Entry M)) (asks : Ask) (name : Name) → asks_port asks ≡ true → is_open h name.0 ≡ false
      → answer h (asked_call asks name) ≡ Some Closed
  answer_closed h ask.Recv name is closed = rw closed refl
  answer_closed h ask.Poll name is closed = rw closed refl
  answer_closed h ask.CopyPort name is closed = rw closed refl
  answer_closed h ask.ClosePort name is closed = rw closed refl
  answer_closed h other name is closed = absurd (false≢true is)

  pub answer_nothing : (h : List (Entry M)) (name : Name) → is_open h name.0 ≡ true → owed h name.0 ≡ []
      → answer h (Poll name) ≡ Some Nothing
  answer_nothing h name opened none = rw (opened, none) refl

  pub answer_taken : (h : List (Entry M)) (asks : Ask) (name : Name) (message : M) → takes_next asks ≡ true → is_open h name.0 ≡ true
      → slice_get (owed h name.0) 0 ≡ Some message → answer h (asked_call asks name) ≡ Some (Got message)
  answer_taken h ask.Recv name message is opened first = rw (opened, first) refl
  answer_taken h ask.Poll name message is opened first = rw (opened, first) refl
  answer_taken h other name message is opened first = absurd (false≢true is)

  -- a message that is owed is there to be taken
  pub some_owed : (messages : List M) → messages ≢ [] → (message : M) × (slice_get messages 0 ≡ Some message)
  some_owed [] owes = absurd (owes refl)
  some_owed (message ∷ messages) owes = (message, refl)

  pub answer_copied : (h : List (Entry M)) (name : Name) → is_open h name.0 ≡ true → answer h (CopyPort name) ≡ Some (new_name h)
  answer_copied h name opened = rw opened refl

  pub answer_shut : (h : List (Entry M)) (name : Name) → is_open h name.0 ≡ true → answer h (ClosePort name) ≡ Some Done
  answer_shut h name opened = rw opened refl

  -- an object of the right kind takes the call
  fits_kind : (test : Kind → Bool) (kind : Option Kind) (call : Call M) → ((k : Kind) → takes k call ≡ test k)
      → option_map_or test kind false ≡ true
      → IsSome kind × IfSome kind (λ k. IsTrue (takes k call))
  fits_kind test None call same is = absurd (false≢true is)
  fits_kind test (Some k) call same is = (refl, same k ∙ is)

  pub fits_by : (test : Kind → Bool) (h : List (Entry M)) (name : Name) (call : Call M) → object_in call ≡ Some name
      → ((k : Kind) → takes k call ≡ test k) → is_a test h name.0 ≡ true → Fits h call
  fits_by test h name call on same is = rw on (fits_kind test (kind_of h name.0) call same is)

  pub fits_taking : (h : List (Entry M)) (asks : Ask) (name : Name) → takes_next asks ≡ true
      → is_a is_receiver h name.0 ≡ true → Fits h (asked_call asks name)
  fits_taking h ask.Recv name takes is = fits_by is_receiver h name (Recv name) refl (λ k. refl) is
  fits_taking h ask.Poll name takes is = fits_by is_receiver h name (Poll name) refl (λ k. refl) is
  fits_taking h other name takes is = absurd (false≢true takes)
