-- A station's customers are numbered in order, whatever is called, and so those that were served are the first.
use Rattle.std.proofs.Common.{ℕ, zero, suc, ◌≡◌, ◌+◌, ◌<◌, ◌≤◌, ◌^◌, inl, inr, Bool, false, List, [], ◌∷◌, ◌++◌, length, take}
use Rattle.std.proofs.Common.{reverse, Option, Some, None, refl, sym, ◌∙◌, ap, subst, arith, length-append}
use Rattle.std.specs.Prelude.{◌≢◌, slice_get, unwrap_or}
use Rattle.std.specs.Option.{option_map, option_map_or}
use Rattle.std.proofs.lemmas.Option.{same_Some, none-some}
use Rattle.std.proofs.lemmas.Bool.{cases_eq}
use Rattle.std.proofs.Math.Arith.{le_of_le-suc-ne}
use Rattle.std.proofs.Math.Nat.{min-le_right}
use Rattle.std.proofs.lemmas.List.{append-nil, take-append-le, length-reverse}
use Rattle.std.proofs.Math.Seq.{take-append_seam, take-length}
use Rattle.cml_log.specs.{owed_items}
use Rattle.cml_calls.specs.{is_source, is_receiver, Kind}
use Rattle.cml_calls.specs.declared.kind.Kind.TheVariants.{Mailbox}
use Rattle.cml_board.specs.{Name, Call, Who, Entry, Reply, Origin, kind_by, made, kind_of, sent, sent_by, got, got_by, if_made, begun_by}
use Rattle.cml_board.specs.{no_entries, entries_in, sent_count, got_count, only_if, KeepsMailboxes, full_at, Applies}
use Rattle.cml_board.specs.declared.outcome.Outcome.{Outcome}
use Rattle.cml_board.specs.Answered.{Answered as Shown_answer}
use Rattle.cml_board.specs.Shown.{Shown}
use Rattle.cml_board.specs.declared.call.Call.TheVariants.{NewMailbox}
use Rattle.cml_board.specs.declared.entry.Who.TheVariants.{Seat}
use Rattle.cml_board.specs.declared.entry.Reply.TheVariants.{Made}
use Rattle.cml_board.specs.declared.outcome.Outcome.TheVariants.{Answered, WouldWait, Refused}
use Rattle.cml_board.proofs.ListLemmas.{slice_get-append_some}
use Rattle.cml_queueing.specs.{numbers, IsServer, IsStation, ServesInOrder}

-- the numbers

length-numbers : (n : ℕ) → length (numbers n) ≡ n
length-numbers zero = refl
length-numbers (suc n) = length-append (numbers n) (n ∷ []) ∙ (omega (arith, length-numbers n))

-- the first of the first numbers are the first numbers
take-numbers : (n k : ℕ) → k ≤ n → take k (numbers n) ≡ numbers k
take-numbers zero zero within = refl
take-numbers zero (suc k) within = absurd (omega (arith, within))
take-numbers (suc n) k within =
    let whole : take (suc n) (numbers (suc n)) ≡ numbers (suc n) =
    subst (λ (m : ℕ). take m (numbers (suc n)) ≡ numbers (suc n)) (length-numbers (suc n)) (take-length (numbers (suc n))) in
    elim (cases_eq k (suc n)) [
      | inl all ↦ subst (λ (m : ℕ). take m (numbers (suc n)) ≡ numbers m) (sym all) whole
      | inr fewer ↦
          let less : k ≤ n = le_of_le-suc-ne within fewer in
          let within_front : k ≤ length (numbers n) = omega (arith, less, length-numbers n) in
          take-append-le k (numbers n) (n ∷ []) within_front ∙ take-numbers n k less
    ]

-- what a list of them begins with is one of them too
front-numbers : (xs ys : List ℕ) (n : ℕ) → xs ++ ys ≡ numbers n → xs ≡ numbers (length xs)
front-numbers xs ys n e =
    let within : length xs ≤ n = omega (arith, length-append xs ys, ap length e, length-numbers n) in
    sym (take-append_seam xs ys) ∙ ap (take (length xs)) e ∙ take-numbers n (length xs) within

-- one more number
pushed : (xs : List ℕ) → xs ≡ numbers (length xs) → xs ++ length xs ∷ [] ≡ numbers (length (xs ++ length xs ∷ []))
pushed xs e =
    let more : length (xs ++ length xs ∷ []) ≡ suc (length xs) = length-append xs (length xs ∷ []) ∙ omega arith in
    ap (λ (l : List ℕ). l ++ length xs ∷ []) e ∙ sym (ap numbers more)

-- an object's kind lasts

origin_in : (origin : Option Origin) (kind : Kind) → option_map kind_by origin ≡ Some kind → (found : Origin) × (origin ≡ Some found)
origin_in None kind e = absurd (none-some kind e)
origin_in (Some found) kind e = (found, refl)

kind_lasts : (entry : Entry ℕ) (before : List (Entry ℕ)) (name : ℕ) (kind : Kind) → kind_of before name ≡ Some kind
    → kind_of (entry ∷ before) name ≡ Some kind
kind_lasts entry before name kind e =
    let found = origin_in (slice_get (made before) name) kind e in
    let more = if_made entry.reply (begun_by (made before) before entry.call) in
    ap (option_map kind_by) (slice_get-append_some (made before) more name found.0 found.1 ∙ sym found.1) ∙ e

-- an entry that sends nothing to the line, and doesn't receive from it or is a server's
grown : (entry : Entry ℕ) (servers : ℕ) (before : List (Entry ℕ)) → sent_by entry.call 0 ≡ []
    → (got_by entry.call entry.reply 0 ≢ [] → IsServer servers entry.who)
    → IsStation (record { servers = servers; history = before }) → IsStation (record { servers = servers; history = entry ∷ before })
grown entry servers before none by is =
    let same : sent before 0 ++ sent_by entry.call 0 ≡ sent before 0 =
    ap (λ (l : List ℕ). sent before 0 ++ l) none ∙ append-nil (sent before 0) in
    record {
      line = kind_lasts entry before 0 Mailbox is.line;
      customers = same ∙ is.customers ∙ ap (λ (l : List ℕ). numbers (length l)) (sym same);
      servers = (by, is.servers);
    }

-- an entry by which the next customer joins the line
grown_by_one : (entry : Entry ℕ) (servers : ℕ) (before : List (Entry ℕ)) → sent_by entry.call 0 ≡ length (sent before 0) ∷ []
    → got_by entry.call entry.reply 0 ≡ []
    → IsStation (record { servers = servers; history = before }) → IsStation (record { servers = servers; history = entry ∷ before })
grown_by_one entry servers before one none is =
    let same : sent before 0 ++ sent_by entry.call 0 ≡ sent before 0 ++ length (sent before 0) ∷ [] =
    ap (λ (l : List ℕ). sent before 0 ++ l) one in
    record {
      line = kind_lasts entry before 0 Mailbox is.line;
      customers = same ∙ pushed (sent before 0) is.customers ∙ ap (λ (l : List ℕ). numbers (length l)) (sym same);
      servers = (λ some. absurd (some none), is.servers);
    }

counted : (servers : ℕ) (history : List (Entry ℕ)) → IsStation (record { servers = servers; history = history })
    → unwrap_or (sent_count history 0) 0 ≡ length (sent history 0)
counted servers history is =
    ap (λ (kind : Option Kind). unwrap_or (only_if (option_map_or is_source kind false) (length (sent history 0))) 0) is.line

-- the same history
same_place : (servers : ℕ) (one other : List (Entry ℕ)) → other ≡ one → IsStation (record { servers = servers; history = one })
    → IsStation (record { servers = servers; history = other })
same_place servers one other e is = subst (λ (h : List (Entry ℕ)). IsStation (record { servers = servers; history = h })) (sym e) is

-- a call that sends nothing to the line and receives nothing from it, however it ends
pub kept : (chunk : ℕ) (sure : Bool) (servers : ℕ) (old new : Shown ℕ) (who : Who) (call : Call ℕ) (outcome : Outcome ℕ)
    → Applies chunk sure old new who call outcome
    → sent_by call 0 ≡ [] → ((reply : Reply ℕ) → got_by call reply 0 ≡ []) → IsStation (record { servers = servers; history = old.history })
    → IsStation (record { servers = servers; history = new.history })
kept chunk sure servers old new who call (Refused refusal back) applies none nothing is =
    same_place servers old.history new.history applies.2.history is
kept chunk sure servers old new who call (WouldWait back) applies none nothing is =
    same_place servers old.history new.history applies.4.history is
kept chunk sure servers old new who call (Answered answer) applies none nothing is =
    same_place servers _ new.history applies.5.history (grown _ servers old.history none (λ some. absurd (some (nothing answer.reply))) is)

-- a call of a server that sends nothing to the line, however it ends
pub kept_by_server : (chunk : ℕ) (sure : Bool) (servers seat : ℕ) (old new : Shown ℕ) (call : Call ℕ) (outcome : Outcome ℕ)
    → Applies chunk sure old new (Seat seat) call outcome
    → sent_by call 0 ≡ [] → 1 ≤ seat → seat ≤ servers → IsStation (record { servers = servers; history = old.history })
    → IsStation (record { servers = servers; history = new.history })
kept_by_server chunk sure servers seat old new call (Refused refusal back) applies none least most is =
    same_place servers old.history new.history applies.2.history is
kept_by_server chunk sure servers seat old new call (WouldWait back) applies none least most is =
    same_place servers old.history new.history applies.4.history is
kept_by_server chunk sure servers seat old new call (Answered answer) applies none least most is =
    same_place servers _ new.history applies.5.history
    (grown _ servers old.history none (λ some. record { seat = seat; by = refl; least = least; most = most }) is)

-- a call by which the next customer joins the line, however it ends
pub joined : (chunk : ℕ) (sure : Bool) (servers : ℕ) (old new : Shown ℕ) (who : Who) (call : Call ℕ) (number : ℕ) (outcome : Outcome ℕ)
    → Applies chunk sure old new who call outcome
    → sent_by call 0 ≡ number ∷ [] → ((reply : Reply ℕ) → got_by call reply 0 ≡ []) → number ≡ unwrap_or (sent_count old.history 0) 0
    → IsStation (record { servers = servers; history = old.history })
    → IsStation (record { servers = servers; history = new.history })
joined chunk sure servers old new who call number (Refused refusal back) applies one nothing next is =
    same_place servers old.history new.history applies.2.history is
joined chunk sure servers old new who call number (WouldWait back) applies one nothing next is =
    same_place servers old.history new.history applies.4.history is
joined chunk sure servers old new who call number (Answered answer) applies one nothing next is =
    same_place servers _ new.history applies.5.history
    (grown_by_one _ servers old.history (one ∙ ap (λ (n : ℕ). n ∷ []) (next ∙ counted servers old.history is)) (nothing answer.reply) is)

-- the first call makes the line

first_line : (servers : ℕ) (who : Who) (reply : Reply ℕ) (name : Name) → reply ≡ Made name
    → IsStation (record { servers = servers; history = (record { who = who; call = NewMailbox; reply = reply }) ∷ [] })
first_line servers who reply name e =
    subst (λ (r : Reply ℕ). IsStation (record { servers = servers; history = (record { who = who; call = NewMailbox; reply = r }) ∷ [] }))
    (sym e)
    (record { line = refl; customers = refl; servers = (λ some. absurd (some refl), tt) })

pub begun : (chunk : ℕ) (sure : Bool) (servers : ℕ) (old new : Shown ℕ) (who : Who) (answer : Shown_answer ℕ)
    → Applies chunk sure old new who NewMailbox (Answered answer)
    → old.history ≡ no_entries → IsStation (record { servers = servers; history = new.history })
begun chunk sure servers old new who answer applies none =
    let entry : Entry ℕ = record { who = who; call = NewMailbox; reply = answer.reply } in
    let told : answer.reply ≡ Made (record { 0 = length (made old.history) }) = sym (same_Some _ _ applies.2) in
    same_place servers _ new.history (applies.5.history ∙ ap (λ (h : List (Entry ℕ)). entry ∷ h) none)
    (first_line servers who answer.reply _ told)

-- what the board says of the line gives the order in which customers were served
pub served_in_order : (board : Shown ℕ) (servers served : ℕ) → KeepsMailboxes board
    → IsStation (record { servers = servers; history = board.history }) → served ≡ unwrap_or (got_count board.history 0) 0
    → ServesInOrder (record { servers = servers; history = board.history }) served
served_in_order board servers served keeps is e =
    let own = keeps 0 is.line in
    let in_order =
    front-numbers (got board.history 0) (owed_items own.0.log own.0.key) (length (sent board.history 0)) (own.1 ∙ is.customers) in
    let all : unwrap_or (got_count board.history 0) 0 ≡ length (got board.history 0) =
    ap (λ (kind : Option Kind). unwrap_or (only_if (option_map_or is_receiver kind false) (length (got board.history 0))) 0) is.line in
    record { order = in_order ∙ ap numbers (sym (e ∙ all)); servers = is.servers }

-- the positions of a journal's entries are numbers of 64 bits
pub numbered : (board : Shown ℕ) (from : ℕ) (entries : List (Entry ℕ)) → reverse entries ++ board.past ≡ board.history
    → entries_in board.history ≤ full_at board
    → from ≡ entries_in board.past → from + length entries < 2 ^ 64
numbered board from entries e within begins =
    omega (
      arith,
      length-append (reverse entries) board.past,
      length-reverse entries,
      ap length e,
      within,
      begins,
      min-le_right (entries_in board.past + board.limit) 18446744073709551615,
    )
