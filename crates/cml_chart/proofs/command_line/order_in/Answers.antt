use Rattle.std.proofs.Common.{◌≡◌, ◌∙◌, ℕ, Option, Some, None, Result, Ok, Err, codes, subst}
use Rattle.std.specs.Option.{SomeIff}
use Rattle.std.specs.Str.Parse.{ExplainsUnsignedError, HasUnsignedDigitsIfOk, ParsesUnsigned, digits_value, without_leading_plus}
use Rattle.clap.specs.Words.{Text, ReadsOne, found_of}
use Rattle.clap.proofs.WalkLemmas.{first_value-rows, one_text-rows}
use Rattle.cml_chart.specs.{IsFlag, IsRow, TellsNumber}
use Rattle.cml_chart.proofs.command_line.order_in.Goals as goal

-- `get_one` reads a text as the number that it tells
row_is_told : (E : Type 0) (G : Text → Result ℕ E → Type 0) (text : Text) (row : Option ℕ)
    → ((read : Result ℕ E) → G text read → ParsesUnsigned 64 10 text read)
    → ReadsOne G text row → SomeIff row (TellsNumber text) (digits_value 10 (without_leading_plus text))
row_is_told E G text (Some n) only h = only (Ok n) h
row_is_told E G text None only h = only (Err h.0) h.1

row_of : (E : Type 0) (G : Text → Result ℕ E → Type 0) (found : Option Text) (row : Option ℕ)
    → ((text : Text) (read : Result ℕ E) → G text read → ParsesUnsigned 64 10 text read)
    → (found ≡ None → row ≡ None) → ((text : Text) → found ≡ Some text → ReadsOne G text row) → IsRow found row
row_of E G found row only none value = record { none = none; told = λ text is. row_is_told E G text row (only text) (value text is) }

pub returns : goal.returns
returns c =
    let found = found_of c.args.matches.now in
    record {
      text = subst (λ o. IsFlag o c.get_flag.result) (one_text-rows found (codes "text"))
          (record { none = c.get_flag.ensures.none; set = c.get_flag.ensures.value; unset = c.get_flag.ensures.other });
      from = subst (λ o. IsRow o c.get_one.result) (one_text-rows found (codes "from"))
          (row_of _ (λ text x. ParsesUnsigned 64 10 text x × ExplainsUnsignedError 10 text x × HasUnsignedDigitsIfOk text x) _ _
          (λ text x g. g.0) c.get_one.ensures.none c.get_one.ensures.value);
      to = subst (λ o. IsRow o c.get_one-2.result) (one_text-rows found (codes "to"))
          (row_of _ (λ text x. ParsesUnsigned 64 10 text x × ExplainsUnsignedError 10 text x × HasUnsignedDigitsIfOk text x) _ _
          (λ text x g. g.0) c.get_one-2.ensures.none c.get_one-2.ensures.value);
      script = c.get_str.ensures ∙ first_value-rows found (codes "script");
    }
