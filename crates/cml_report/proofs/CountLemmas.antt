-- What a board's readers tell of an object of a known kind.
use Rattle.std.proofs.Common.{◌≡◌, ℕ, List, inl, inr, Bool, true, false, ◌&&◌, Option, Some, None, IsSome, refl, ap, ◌∙◌}
use Rattle.std.specs.Option.{option_map, option_map_or}
use Rattle.std.proofs.lemmas.Option.{none-some}
use Rattle.cml_calls.specs.{Kind, is_variable}
use Rattle.cml_calls.specs.declared.kind.Kind.TheVariants as kind
use Rattle.cml_board.specs.{Origin, port, kind_by, only_if, start_in, Lawful, kind_of, is_open}
use Rattle.cml_board.proofs.ClosingLemmas.{mailbox_open}
use Rattle.cml_grammar.specs.declared.names.Named.TheVariants as called
use Rattle.cml_grammar.specs.{Given, IsVariableAt}
use Rattle.cml_report.specs.{History, IsObjectAt}

-- an object of the right kind has the number
pub some_count : (test : Kind → Bool) (o : Option Kind) (k : Kind) (n : ℕ) (r : Option ℕ) → r ≡ only_if (option_map_or test o false) n
    → o ≡ Some k → test k ≡ true → IsSome r
some_count test o k n r told is passes = rw (told, is, passes) refl

-- and an open one has what it is owed
pub some_owed : (test : Kind → Bool) (o : Option Kind) (k : Kind) (opened : Bool) (n : ℕ) (r : Option ℕ)
    → r ≡ only_if (option_map_or test o false && opened) n → o ≡ Some k → test k ≡ true → opened ≡ true → IsSome r
some_owed test o k opened n r told is passes e = rw (told, is, passes, e) refl

-- a variable has something that it holds, or nothing
pub some_held : {X : Type 0} (o : Option Kind) (k : Kind) (n : Option (List ℕ)) (f : Option X → Option (List ℕ)) (r : Option (Option X))
    → option_map f r ≡ only_if (option_map_or is_variable o false) n → o ≡ Some k → is_variable k ≡ true → IsSome r
some_held o k n f None told is passes =
    absurd (none-some n (told ∙ ap (λ x. only_if (option_map_or is_variable x false) n) is ∙ ap (λ t. only_if t n) passes))
some_held o k n f (Some x) told is passes = refl

pub some_start : (o : Option Origin) (r : Option ℕ) → r ≡ start_in o → option_map kind_by o ≡ Some kind.Port → IsSome r
some_start (Some (port source start)) r told is = rw told refl
some_start o r told is = cc

-- the kind of an object of a board that shows this history
pub kind_there : (a b : History) (name : ℕ) (k : Kind) → a ≡ b → kind_of b name ≡ Some k → kind_of a name ≡ Some k
kind_there a b name k same is = ap (λ h. kind_of h name) same ∙ is

pub open_there : (a b : History) (name : ℕ) → a ≡ b → Lawful b → kind_of b name ≡ Some kind.Mailbox → is_open a name ≡ true
open_there a b name same lawful is = ap (λ h. is_open h name) same ∙ mailbox_open b name lawful is

pub variable_held : {X : Type 0} (names : List Given) (at : ℕ) (a b : History) (name : ℕ) (n : Option (List ℕ))
    (f : Option X → Option (List ℕ)) (r : Option (Option X)) → a ≡ b → IsVariableAt names at
    → ((k : Kind) → IsObjectAt names at k → kind_of b name ≡ Some k)
    → option_map f r ≡ only_if (option_map_or is_variable (kind_of a name) false) n → IsSome r
variable_held names at a b name n f r same (inl (word, found)) kinds told =
    some_held (kind_of a name) kind.IVar n f r told
    (kind_there a b name kind.IVar same (kinds kind.IVar (word, called.IVar, found, refl))) refl
variable_held names at a b name n f r same (inr (word, found)) kinds told =
    some_held (kind_of a name) kind.MVar n f r told
    (kind_there a b name kind.MVar same (kinds kind.MVar (word, called.MVar, found, refl))) refl
