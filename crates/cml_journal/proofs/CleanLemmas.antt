-- A line that was written has only bytes that a line may have.
use Rattle.std.proofs.Common.{◌==◌, ◌≡◌, ℕ, ◌<◌, ◌^◌, Bool, true, false, ◌||◌, nat_lt, nat_le, List, [], ◌∷◌, ◌++◌, Option}
use Rattle.std.proofs.Common.{Some, None, refl, ap, ◌∙◌, arith}
use Rattle.std.specs.Prelude.{codes, IfSome}
use Rattle.std.specs.Fmt.{decimal}
use Rattle.std.specs.List.{list_any, list_all}
use Rattle.std.proofs.lemmas.Bool.{and_parts, or_parts, leb-true, lt-ltb, ltb-true, ltb-false, ne_eqb, false_from_ne_true}
use Rattle.std.proofs.lemmas.List.Folds.{list_any-append}
use Rattle.cml_board.specs.{Name, Call, Entry, Who, Reply, object_in, message_of, row_of}
use Rattle.cml_board.specs.declared.entry.Who.TheVariants.{Seat, Lane, Feed}
use Rattle.cml_board.specs.declared.entry.Reply.TheVariants.{Done, Made, Got, Nothing, Put, Closed}
use Rattle.cml_calls.specs.{is_text_byte}
use Rattle.cml_grammar.specs.{is_bad_byte}
use Rattle.cml_journal.specs.NumberLaws.{number_printed}
use Rattle.cml_journal.specs.{IsWritten, who_word, who_number, who_text, field, call_text, reply_text, line_of, ReplyFits, HasLine}
use Rattle.cml_journal.specs.{numbered_line, has_end}
use Rattle.cml_board.proofs.PartsLemmas.{by_row}
use Rattle.cml_journal.proofs.CallLemmas.{made_word, given_word, asked_word, made_row, given_row, asked_row}

abbrev pub is_dirty : List ℕ → Bool
is_dirty bytes = list_any is_bad_byte bytes

printed_byte : (b : ℕ) → is_text_byte b ≡ true → is_bad_byte b ≡ false
printed_byte b h =
    let parts = and_parts (nat_le 33 b) (nat_le b 126) h in
    let low = leb-true 33 b parts.0 in
    let high = leb-true b 126 parts.1 in
    ap (λ t. t || nat_lt 126 b) (false_from_ne_true (nat_lt b 32) (λ t. absurd (omega (arith, low, ltb-true b 32 t))))
    ∙ false_from_ne_true (nat_lt 126 b) (λ t. absurd (omega (arith, high, ltb-true 126 b t)))

pub printed_clean : (word : List ℕ) → list_all is_text_byte word ≡ true → is_dirty word ≡ false
printed_clean [] h = refl
printed_clean (b ∷ bs) h =
    let parts = and_parts (is_text_byte b) (list_all is_text_byte bs) h in
    ap (λ t. t || is_dirty bs) (printed_byte b parts.0) ∙ printed_clean bs parts.1

pub both_clean : (front rest : List ℕ) → is_dirty front ≡ false → is_dirty rest ≡ false → is_dirty (front ++ rest) ≡ false
both_clean front rest one other = list_any-append is_bad_byte front rest ∙ ap (λ t. t || is_dirty rest) one ∙ other

number_clean : (n : ℕ) → n < 2 ^ 64 → is_dirty (decimal n) ≡ false
number_clean n small = printed_clean (decimal n) (number_printed n (lt-ltb n (2 ^ 64) small))

pub numbered_clean : (word : List ℕ) (n : ℕ) → is_dirty word ≡ false → n < 2 ^ 64 → is_dirty (numbered_line word n) ≡ false
numbered_clean word n clean small = both_clean word (32 ∷ decimal n) clean (number_clean n small)

who_word_clean : (who : Who) → is_dirty (who_word who) ≡ false
who_word_clean (Seat n) = refl
who_word_clean (Lane n) = refl
who_word_clean (Feed n) = refl

word_clean : {M : Type 0} (call : Call M) → is_dirty (row_of call).word ≡ false
word_clean {M} call =
    by_row (λ (k : Call M). is_dirty (row_of k).word ≡ false)
    (λ m. ap (λ r. is_dirty r.word) (made_row M m) ∙ (made_word m).2)
    (λ message. refl)
    (λ g name message. ap (λ r. is_dirty r.word) (given_row g name message) ∙ (given_word g).3)
    (λ a name. ap (λ r. is_dirty r.word) (asked_row M a name) ∙ (asked_word a).4)
    call

object_clean : (o : Option Name) → IfSome o (λ (name : Name). name.0 < 2 ^ 64)
    → is_dirty (field (λ (name : Name). decimal name.0) o) ≡ false
object_clean None small = refl
object_clean (Some name) small = number_clean name.0 small

message_clean : {M : Type 0} (text : M → List ℕ) (fits : M → Bool) (read : List ℕ → Option M) (written : IsWritten text fits read)
    (o : Option M) → IfSome o (λ message. fits message ≡ true) → is_dirty (field text o) ≡ false
message_clean text fits read written None fit = refl
message_clean text fits read written (Some message) fit = printed_clean (text message) (written.printed message fit)

reply_clean : {M : Type 0} (text : M → List ℕ) (fits : M → Bool) (read : List ℕ → Option M) (written : IsWritten text fits read)
    (reply : Reply M) → ReplyFits fits reply → is_dirty (reply_text text reply) ≡ false
reply_clean text fits read written Done fit = refl
reply_clean text fits read written (Made name) fit = both_clean (codes "made") (32 ∷ decimal name.0) refl (number_clean name.0 fit)
reply_clean text fits read written (Got message) fit = printed_clean (text message) (written.printed message fit)
reply_clean text fits read written Nothing fit = refl
reply_clean text fits read written Put fit = refl
reply_clean text fits read written Closed fit = refl

pub line_clean : {M : Type 0} (text : M → List ℕ) (fits : M → Bool) (read : List ℕ → Option M) (written : IsWritten text fits read)
    (entry : Entry M) → HasLine fits entry → is_dirty (line_of text entry) ≡ false
line_clean text fits read written entry has =
    both_clean (who_text entry.who ++ 32 ∷ call_text text entry.call) (58 ∷ 32 ∷ reply_text text entry.reply)
    (both_clean (who_text entry.who) (32 ∷ call_text text entry.call)
    (numbered_clean (who_word entry.who) (who_number entry.who) (who_word_clean entry.who) has.who)
    (both_clean ((row_of entry.call).word ++ field (λ (name : Name). decimal name.0) (object_in entry.call))
    (field text (message_of entry.call))
    (both_clean (row_of entry.call).word (field (λ (name : Name). decimal name.0) (object_in entry.call)) (word_clean entry.call)
    (object_clean (object_in entry.call) has.object))
    (message_clean text fits read written (message_of entry.call) has.message)))
    (reply_clean text fits read written entry.reply has.reply)

pub clean_no_end : (bytes : List ℕ) → is_dirty bytes ≡ false → has_end bytes ≡ false
clean_no_end [] h = refl
clean_no_end (b ∷ bs) h =
    let parts = or_parts (is_bad_byte b) (is_dirty bs) h in
    let high = ltb-false b 32 (or_parts (nat_lt b 32) (nat_lt 126 b) parts.0).0 in
    ap (λ t. t || has_end bs) (ap (λ t. t || (b == 10)) (ne_eqb b 0 (λ e. omega (arith, high, e)))
    ∙ ne_eqb b 10 (λ e. omega (arith, high, e))) ∙ clean_no_end bs parts.1
