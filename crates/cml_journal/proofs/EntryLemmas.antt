-- What is read of a line was written so, and what was written is read again.
use Rattle.std.proofs.Common.{◌≡◌, ℕ, Bool, true, false, if◌then◌else◌, List, ◌∷◌, ◌++◌, Option, Some, None, Result, Ok, Err}
use Rattle.std.proofs.Common.{refl, sym, ap, subst, ◌∙◌, append_assoc, inl, inr}
use Rattle.std.specs.Prelude.{codes, IfOk}
use Rattle.std.specs.Fmt.{decimal}
use Rattle.std.specs.Str.{bytes_eq}
use Rattle.std.proofs.lemmas.Option.{none-some}
use Rattle.cml_board.specs.{Name, Call, Entry, Who, Reply, row_of, may_have}
use Rattle.cml_board.specs.declared.entry.Reply.TheVariants.{Done, Made, Got, Nothing, Put, Closed}
use Rattle.cml_journal.specs.{What, Unread, IsWritten, who_text, call_text, reply_text, line_of, ReplyFits, HasLine, ◌>>=◌, ok_or, Gives}
use Rattle.cml_journal.specs.{cut, name_in, who_at, call_at, made_known, told_by, told_in, reply_in, entry_in}
use Rattle.cml_journal.specs.declared.fault.What.TheVariants.{UnknownWord, BadMessage, WrongReply}
use Rattle.cml_journal.proofs.CutWordsLemmas.{cut_again, cut_none, cut_takes, printed_no_space}
use Rattle.cml_journal.proofs.WordLemmas.{bind_ok, ok_is, some_from_ok, chosen, passed, same_bytes, name_takes, name_again}
use Rattle.cml_journal.proofs.WordLemmas.{who_takes, who_again}
use Rattle.cml_journal.proofs.CallLemmas.{call_takes, call_again}

-- ---- replies
-- a message's word is no other word that is no message
other_word : {M : Type 0} (text : M → List ℕ) (fits : M → Bool) (read : List ℕ → Option M)
    (written : IsWritten text fits read) (message : M) (word : List ℕ)
    → fits message ≡ true → read word ≡ None → bytes_eq (text message) word ≡ false
other_word text fits read written message word fit none = by (bytes_eq (text message) word) refl
  where
    by : (t : Bool) → bytes_eq (text message) word ≡ t → t ≡ false
    by false e = refl
    by true e = absurd (none-some message (sym none ∙ ap read (sym (same_bytes (text message) word e)) ∙ written.again message fit))

abbrev made_reply : {M : Type 0} → Name → Reply M
made_reply name = Made name

reply_again : {M : Type 0} (text : M → List ℕ) (fits : M → Bool) (read : List ℕ → Option M)
    (written : IsWritten text fits read) (reply : Reply M)
    → ReplyFits fits reply → reply_in read (reply_text text reply) ≡ Ok reply
unfolding reply_in told_in made_known
reply_again text fits read written Done fit = refl
reply_again text fits read written Nothing fit = refl
reply_again text fits read written Put fit = refl
reply_again text fits read written Closed fit = refl
reply_again {M} text fits read written (Made name) fit =
    ap (told_by read (codes "made" ++ 32 ∷ decimal name.0)) (cut_again (codes "made") (decimal name.0) refl)
    ∙ ap (λ (r : Result Name What). r >>= λ found. Ok (made_reply {M = M} found)) (name_again name fit)
reply_again {M} text fits read written (Got message) fit =
    let word = text message in
    let other : (w : List ℕ) → read w ≡ None → bytes_eq word w ≡ false = λ w none. other_word text fits read written message w fit none in
    let told : told_in read word ≡ Ok (Got message) =
    ap (told_by read word) (cut_none word (printed_no_space word (written.printed message fit)))
    ∙ ap (λ (o : Option M). ok_or BadMessage o >>= λ found. Ok (Got found)) (written.again message fit) in
    ap (λ t. if t then Ok Done else (if bytes_eq word (codes "none") then Ok Nothing
    else (if bytes_eq word (codes "put") then Ok Put else (if bytes_eq word (codes "closed") then Ok Closed else told_in read word))))
    (other (codes "done") written.apart.0)
    ∙ ap (λ t. if t then Ok Nothing else (if bytes_eq word (codes "put") then Ok Put
    else (if bytes_eq word (codes "closed") then Ok Closed else told_in read word))) (other (codes "none") written.apart.1)
    ∙ ap (λ t. if t then Ok Put else (if bytes_eq word (codes "closed") then Ok Closed else told_in read word))
    (other (codes "put") written.apart.2)
    ∙ ap (λ t. if t then Ok Closed else told_in read word) (other (codes "closed") written.apart.3)
    ∙ told

-- what was read of a reply
abbrev IsReply : {M : Type 0} → (M → List ℕ) → (M → Bool) → List ℕ → Reply M → Type 0
IsReply text fits word reply = (word ≡ reply_text text reply) × ReplyFits fits reply

told_takes : {M : Type 0} (text : M → List ℕ) (fits : M → Bool) (read : List ℕ → Option M)
    (written : IsWritten text fits read) (word : List ℕ) (reply : Reply M)
    → told_in read word ≡ Ok reply → IsReply text fits word reply
unfolding told_in made_known
told_takes {M} text fits read written word reply e = by (cut word) refl e
  where
    by : (o : Option (List ℕ × List ℕ)) → cut word ≡ o → told_by read word o ≡ Ok reply → IsReply text fits word reply
    by None is f =
        let a = bind_ok (ok_or BadMessage (read word)) (λ found. Ok (Got found)) reply f in
        subst (IsReply text fits word) (ok_is (Got a.0) reply a.2) (written.only word a.0 (some_from_ok BadMessage (read word) a.0 a.1))
    by (Some parts) is f =
        elim (chosen (bytes_eq parts.0 (codes "made")) (made_known parts.1) (Err UnknownWord) (Ok reply) f) [
          | inl h ↦
              let a = bind_ok (name_in parts.1) (λ found. Ok (made_reply {M = M} found)) reply h.1 in
              let n = name_takes parts.1 a.0 a.1 in
              let whole : word ≡ codes "made" ++ 32 ∷ decimal a.0.0 =
              cut_takes word parts is ∙ ap (λ (w : List ℕ). w ++ 32 ∷ parts.1) (same_bytes parts.0 (codes "made") h.0)
              ∙ ap (λ (w : List ℕ). codes "made" ++ 32 ∷ w) n.0 in
              subst (IsReply text fits word) (ok_is (Made a.0) reply a.2) (whole, n.1)
          | inr h ↦ let e : Err UnknownWord ≡ Ok reply = h.1 in absurd cc
        ]

reply_takes : {M : Type 0} (text : M → List ℕ) (fits : M → Bool) (read : List ℕ → Option M)
    (written : IsWritten text fits read) (word : List ℕ) (reply : Reply M)
    → reply_in read word ≡ Ok reply → IsReply text fits word reply
unfolding reply_in
reply_takes {M} text fits read written word reply e =
    elim (chosen (bytes_eq word (codes "done")) (Ok Done) _ (Ok reply) e) [
      | inl h ↦ subst (IsReply text fits word) (ok_is Done reply h.1) (same_bytes word (codes "done") h.0, tt)
      | inr h ↦ elim (chosen (bytes_eq word (codes "none")) (Ok Nothing) _ (Ok reply) h.1) [
        | inl h ↦ subst (IsReply text fits word) (ok_is Nothing reply h.1) (same_bytes word (codes "none") h.0, tt)
        | inr h ↦ elim (chosen (bytes_eq word (codes "put")) (Ok Put) _ (Ok reply) h.1) [
          | inl h ↦ subst (IsReply text fits word) (ok_is Put reply h.1) (same_bytes word (codes "put") h.0, tt)
          | inr h ↦ elim (chosen (bytes_eq word (codes "closed")) (Ok Closed) _ (Ok reply) h.1) [
            | inl h ↦ subst (IsReply text fits word) (ok_is Closed reply h.1) (same_bytes word (codes "closed") h.0, tt)
            | inr h ↦ told_takes text fits read written word reply h.1
          ]
        ]
      ]
    ]

-- ---- entries
entry_parts : (who call reply : List ℕ) → (who ++ 32 ∷ call) ++ 58 ∷ 32 ∷ reply ≡ who ++ 32 ∷ (call ++ 58 ∷ 32 ∷ reply)
entry_parts who call reply = append_assoc who (32 ∷ call) (58 ∷ 32 ∷ reply)

pub entry_again : {M : Type 0} (text : M → List ℕ) (fits : M → Bool) (read : List ℕ → Option M)
    (written : IsWritten text fits read) (entry : Entry M)
    → HasLine fits entry → entry_in read (line_of text entry) ≡ Ok entry
unfolding entry_in
entry_again {M} text fits read written entry has =
    let call = call_text text entry.call in
    let reply = reply_text text entry.reply in
    let ends : Call M → Reply M → Result (Entry M) What = λ c r. if may_have (row_of c) r
    then Ok (record { who = entry.who; call = c; reply = r }) else Err WrongReply in
    ap (entry_in read) (entry_parts (who_text entry.who) call reply)
    ∙ ap (λ (r : Result (Who × List ℕ) What). r >>= λ who. call_at read who.1 >>= λ c. reply_in read c.1 >>= λ q. if may_have (row_of c.0) q
    then Ok (record { who = who.0; call = c.0; reply = q }) else Err WrongReply) (who_again entry.who (call ++ 58 ∷ 32 ∷ reply) has.who)
    ∙ ap (λ (r : Result (Call M × List ℕ) What). r >>= λ c. reply_in read c.1 >>= λ q. ends c.0 q)
    (call_again text fits read written reply entry.call (record { object = has.object; message = has.message }))
    ∙ ap (λ (r : Result (Reply M) What). r >>= λ q. ends entry.call q) (reply_again text fits read written entry.reply has.reply)
    ∙ ap (λ t. if t then Ok entry else Err WrongReply) has.lawful

pub entry_takes : {M : Type 0} (text : M → List ℕ) (fits : M → Bool) (read : List ℕ → Option M)
    (written : IsWritten text fits read) (line : List ℕ) (entry : Entry M)
    → entry_in read line ≡ Ok entry → (line ≡ line_of text entry) × HasLine fits entry
unfolding entry_in
entry_takes {M} text fits read written line entry e =
    let a = bind_ok (who_at line) (λ who. call_at read who.1 >>= λ c. reply_in read c.1 >>= λ q. if may_have (row_of c.0) q
    then Ok (record { who = who.0; call = c.0; reply = q }) else Err WrongReply) entry e in
    let b = bind_ok (call_at read a.0.1) (λ c. reply_in read c.1 >>= λ q. if may_have (row_of c.0) q
    then Ok (record { who = a.0.0; call = c.0; reply = q }) else Err WrongReply) entry a.2 in
    let c = bind_ok (reply_in read b.0.1)
    (λ q. if may_have (row_of b.0.0) q then Ok (record { who = a.0.0; call = b.0.0; reply = q }) else Err WrongReply) entry b.2 in
    let who = who_takes line a.0 a.1 in
    let call = call_takes text fits read written a.0.1 b.0 b.1 in
    let reply = reply_takes text fits read written b.0.1 c.0 c.1 in
    let made : Entry M = record { who = a.0.0; call = b.0.0; reply = c.0 } in
    let whole : line ≡ line_of text made =
    who.0 ∙ ap (λ (w : List ℕ). who_text a.0.0 ++ 32 ∷ w) (call.parts ∙ ap (λ (w : List ℕ). call_text text b.0.0 ++ 58 ∷ 32 ∷ w) reply.0)
    ∙ sym (entry_parts (who_text a.0.0) (call_text text b.0.0) (reply_text text c.0)) in
    let (lawful, same) = passed (may_have (row_of b.0.0) c.0) made entry WrongReply c.2 in
    subst (λ (n : Entry M). (line ≡ line_of text n) × HasLine fits n) same
    (whole, record { who = who.1; object = call.whole.object; message = call.whole.message; reply = reply.1; lawful = lawful })

-- two entries with the same line are the same
pub entry_by_line : {M : Type 0} (text : M → List ℕ) (fits : M → Bool) (read : List ℕ → Option M)
    (written : IsWritten text fits read) (one other : Entry M)
    → HasLine fits one → HasLine fits other → line_of text one ≡ line_of text other → one ≡ other
entry_by_line text fits read written one other has had same =
    ok_is one other (sym (entry_again text fits read written one has) ∙ ap (entry_in read) same
    ∙ entry_again text fits read written other had)

pub entry_found : {M : Type 0} (text : M → List ℕ) (fits : M → Bool) (read : List ℕ → Option M) (written : IsWritten text fits read)
    (line : List ℕ) (r : Result (Entry M) Unread)
    → Gives (λ entry. entry) r (entry_in read line) → IfOk r (λ entry. (line ≡ line_of text entry) × HasLine fits entry)
entry_found text fits read written line (Ok entry) given = entry_takes text fits read written line entry given
entry_found text fits read written line (Err e) given = tt
