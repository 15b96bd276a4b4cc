use Rattle.std.proofs.Common.{refl, sym, ◌≡◌, ◌∙◌, List, Option, Some, None, option_map}
use Rattle.clap.specs.Words.{Row, Text, found_of, one_of, one_text, rows_of, subcommand_rows_of}
use Rattle.clap.specs.declared.parser.matches.Found.{Found}
use Rattle.clap.proofs.WalkLemmas.{one_text-rows}
use Rattle.cml.specs.{Finds, HasOrder, Order}
use Rattle.cml.proofs.command_line.order_in.Goals as goal

mapped_twice : {A : Type 0} (first : A → Text × List Row) (o : Option A)
    → option_map (λ a. (first a).0) o ≡ option_map (λ found. found.0) (option_map first o)
mapped_twice first None = refl
mapped_twice first (Some a) = refl

-- a name and what was found there, where these were entered
entered_as : (entered : Option (Text × List Row)) (name : Text) (found : Found) (order : Order)
    → Some name ≡ option_map (λ found. found.0) entered
    → Some (rows_of found) ≡ option_map (λ found. found.1) entered → HasOrder entered order → Finds name (one_text found) order
entered_as None name found order n r has = absurd has
entered_as (Some (entered, rows)) name found order n r has =
    let named : entered ≡ name = cc in
    let all : rows ≡ rows_of found = cc in
    let same : (λ id. one_of id (rows_of found)) ≡ one_text found = λ i id. sym (one_text-rows found id) i in
    rw (← same, ← named, ← all) has

pub returns : goal.returns
returns c = λ order has. c.order_of.ensures order (entered_as (subcommand_rows_of c.args.matches.now) c.in_ok-name.name.now
    (found_of c.in_ok-name.found.now) order
    (c.in_ok-name.ensures.name ∙ mapped_twice _ _) c.in_ok-name.ensures.rows has)
