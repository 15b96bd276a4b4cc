-- A call is taken apart and put together again, and what is said of its parts is said of it.
use Rattle.std.proofs.Common.{◌≡◌, refl, subst}
use Rattle.cml_calls.specs.{Make, Give, Ask}
use Rattle.cml_calls.specs.declared.table.Make.TheVariants as make
use Rattle.cml_calls.specs.declared.table.Give.TheVariants as give
use Rattle.cml_calls.specs.declared.table.Ask.TheVariants as ask
use Rattle.cml_board.specs.{Name, Call, parts_of, made_call, given_call, asked_call, call_of}
use Rattle.cml_board.specs.declared.parts.Parts.{Parts}
use Rattle.cml_board.specs.declared.call.Call.TheVariants as call
use Rattle.cml_board.specs.declared.parts.Parts.TheVariants as parts

module _ {M : Type 0} where
  pub made_parts : (m : Make) → parts_of {M = M} (made_call m) ≡ parts.Make m
  made_parts make.Mailbox = refl
  made_parts other = refl

  pub given_parts : (g : Give) (name : Name) (message : M) → parts_of (given_call g name message) ≡ parts.Give g name message
  given_parts give.Send name message = refl
  given_parts other name message = refl

  pub asked_parts : (a : Ask) (name : Name) → parts_of {M = M} (asked_call a name) ≡ parts.Ask a name
  asked_parts ask.NewPort name = refl
  asked_parts other name = refl

  -- what was put together is taken apart again
  pub parts_again : (p : Parts M) → parts_of (call_of p) ≡ p
  parts_again (parts.Make m) = made_parts m
  parts_again (parts.Fill message) = refl
  parts_again (parts.Give g name message) = given_parts g name message
  parts_again (parts.Ask a name) = asked_parts a name

  -- and what was taken apart is put together again
  pub call_again : (c : Call M) → call_of (parts_of c) ≡ c
  call_again call.NewMailbox = refl
  call_again other = refl

  -- so what holds of the calls of each row holds of each call
  pub by_row : (P : Call M → Type 0) → ((m : Make) → P (made_call m)) → ((message : M) → P (call.MVarInit message))
      → ((g : Give) (name : Name) (message : M) → P (given_call g name message)) → ((a : Ask) (name : Name) → P (asked_call a name))
      → (c : Call M) → P c
  by_row P makes fills gives asks c = subst P (call_again c) (by_parts (parts_of c))
    where
      by_parts : (p : Parts M) → P (call_of p)
      by_parts (parts.Make m) = makes m
      by_parts (parts.Fill message) = fills message
      by_parts (parts.Give g name message) = gives g name message
      by_parts (parts.Ask a name) = asks a name
