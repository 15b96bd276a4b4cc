-- What is read of a call was written so, and what was written is read again.
use Rattle.std.proofs.Common.{◌≡◌, ℕ, ◌<◌, ◌^◌, Bool, true, false, List, [], ◌∷◌, ◌++◌, Option, Some, None, Result, Ok}
use Rattle.std.proofs.Common.{Err, refl, sym, ap, subst, ◌∙◌, append_assoc}
use Rattle.std.specs.Prelude.{IfSome}
use Rattle.std.specs.Fmt.{decimal}
use Rattle.std.specs.Str.{bytes_eq}
use Rattle.std.specs.List.{list_any}
use Rattle.std.proofs.lemmas.List.{append-nil}
use Rattle.cml_calls.specs.{Make, Give, Ask, made, filled, given, asked, makes, gives, asks, make_of, give_of, ask_of}
use Rattle.cml_calls.specs.declared.table.Make.TheVariants as make
use Rattle.cml_calls.specs.declared.table.Give.TheVariants as give
use Rattle.cml_calls.specs.declared.table.Ask.TheVariants as ask
use Rattle.cml_board.specs.{Name, Call, object_among, message_among, row_among, object_in, message_of, row_of, made_call, given_call}
use Rattle.cml_board.specs.{asked_call}
use Rattle.cml_board.specs.declared.parts.Parts.{Parts}
use Rattle.cml_board.specs.declared.call.Call.TheVariants.{MVarInit}
use Rattle.cml_board.proofs.PartsLemmas.{made_parts, given_parts, asked_parts, by_row}
use Rattle.cml_grammar.specs.{is_bad_byte}
use Rattle.cml_journal.specs.{What, IsWritten, field, call_text, ◌>>=◌, ok_or, without_colon, word_at, last_at, name_in, made_in, given_at}
use Rattle.cml_journal.specs.{asked_at, filled_at, called_by, called_at, call_by, call_at}
use Rattle.cml_journal.specs.declared.fault.What.TheVariants.{UnknownWord, BadMessage}
use Rattle.cml_journal.proofs.CutWordsLemmas.{has_space, printed_no_space, colon_no_space, colon_again, colon_takes}
use Rattle.cml_journal.proofs.WordLemmas.{bind_ok, ok_is, some_from_ok, found_passes, same_bytes, word_takes, word_again, last_takes}
use Rattle.cml_journal.proofs.WordLemmas.{last_again, name_takes, name_again, number_no_space}

-- what a call's text and parts are, by its row
abbrev text_among : {M : Type 0} → (M → List ℕ) → Parts M → List ℕ
text_among text parts =
    (row_among parts).word ++ field (λ (name : Name). decimal name.0) (object_among parts) ++ field text (message_among parts)

made_text : {M : Type 0} (text : M → List ℕ) (m : Make)
    → (call_text text (made_call m) ≡ (made m).word) × (object_in (made_call {M = M} m) ≡ None) × (message_of (made_call {M = M} m) ≡ None)
made_text text m =
    (ap (text_among text) (made_parts m) ∙ (append-nil _ ∙ append-nil _), ap object_among (made_parts m), ap message_among (made_parts m))

given_text : {M : Type 0} (text : M → List ℕ) (g : Give) (name : Name) (message : M)
    → (call_text text (given_call g name message) ≡ ((given g).word ++ 32 ∷ decimal name.0) ++ 32 ∷ text message)
    × (object_in (given_call g name message) ≡ Some name) × (message_of (given_call g name message) ≡ Some message)
given_text text g name message =
    let same = given_parts g name message in (ap (text_among text) same, ap object_among same, ap message_among same)

asked_text : {M : Type 0} (text : M → List ℕ) (a : Ask) (name : Name)
    → (call_text text (asked_call a name) ≡ ((asked a).word ++ 32 ∷ decimal name.0) ++ [])
    × (object_in (asked_call {M = M} a name) ≡ Some name) × (message_of (asked_call {M = M} a name) ≡ None)
asked_text text a name = let same = asked_parts a name in (ap (text_among text) same, ap object_among same, ap message_among same)

-- what the words of the table are
pub made_word : (m : Make) → (has_space (made m).word ≡ false) × (make_of (made m).word ≡ Some m)
    × (list_any is_bad_byte (made m).word ≡ false)
made_word make.Mailbox = (refl, refl, refl)
made_word make.Channel = (refl, refl, refl)
made_word make.IVar = (refl, refl, refl)
made_word make.MVar = (refl, refl, refl)

pub given_word : (g : Give) → (has_space (given g).word ≡ false) × (without_colon (given g).word ≡ None) × (give_of (given g).word ≡ Some g)
    × (list_any is_bad_byte (given g).word ≡ false)
given_word give.Send = (refl, refl, refl, refl)
given_word give.Cast = (refl, refl, refl, refl)
given_word give.Put = (refl, refl, refl, refl)
given_word give.Swap = (refl, refl, refl, refl)

pub asked_word : (a : Ask) → (has_space (asked a).word ≡ false) × (without_colon (asked a).word ≡ None) × (give_of (asked a).word ≡ None)
    × (ask_of (asked a).word ≡ Some a) × (list_any is_bad_byte (asked a).word ≡ false)
asked_word ask.NewPort = (refl, refl, refl, refl, refl)
asked_word other = (refl, refl, refl, refl, refl)

-- a call's numbers are below 2 ^ 64, and its message can be written
pub record CallFits {M : Type 0} (fits : M → Bool) (call : Call M) : Type 0 where
  pub object : IfSome (object_in call) (λ (name : Name). name.0 < 2 ^ 64)
  pub message : IfSome (message_of call) (λ message. fits message ≡ true)

abbrev SmallName : Option Name → Type 0
SmallName o = IfSome o (λ (name : Name). name.0 < 2 ^ 64)

abbrev FitMessage : {M : Type 0} → (M → Bool) → Option M → Type 0
FitMessage fits o = IfSome o (λ message. fits message ≡ true)

-- what was read of a call
pub record TakesCall {M : Type 0} (text : M → List ℕ) (fits : M → Bool) (line : List ℕ) (call : Call M) (rest : List ℕ) : Type 0 where
  pub parts : line ≡ call_text text call ++ 58 ∷ 32 ∷ rest
  pub whole : CallFits fits call

-- ---- what was written is read again
call_again_made : {M : Type 0} (text : M → List ℕ) (fits : M → Bool) (read : List ℕ → Option M) (rest : List ℕ) (m : Make)
    → call_at read (call_text text (made_call m) ++ 58 ∷ 32 ∷ rest) ≡ Ok (made_call m, rest)
unfolding call_at made_in
call_again_made {M} text fits read rest m =
    let word = (made m).word in
    let known = made_word m in
    ap (λ (w : List ℕ). call_at read (w ++ 58 ∷ 32 ∷ rest)) (made_text text m).0
    ∙ ap (call_at read) (sym (append_assoc word (58 ∷ []) (32 ∷ rest)))
    ∙ ap (λ (r : Result (List ℕ × List ℕ) What). r >>= λ next. call_by read next.0 (without_colon next.0) next.1)
    (word_again (word ++ 58 ∷ []) rest (colon_no_space word known.0))
    ∙ ap (λ (o : Option (List ℕ)). call_by read (word ++ 58 ∷ []) o rest) (colon_again word)
    ∙ ap (λ (o : Option Make). (ok_or UnknownWord o >>= λ k. Ok (made_call {M = M} k)) >>= λ call. Ok (call, rest)) known.1

call_again_behind : {M : Type 0} (read : List ℕ → Option M) (word rest : List ℕ) → has_space word ≡ false → without_colon word ≡ None
    → call_at read (word ++ 32 ∷ rest) ≡ called_at read word rest
unfolding call_at
call_again_behind read word rest space colon =
    ap (λ (r : Result (List ℕ × List ℕ) What). r >>= λ next. call_by read next.0 (without_colon next.0) next.1) (word_again word rest space)
    ∙ ap (λ (o : Option (List ℕ)). call_by read word o rest) colon

call_again_filled : {M : Type 0} (text : M → List ℕ) (fits : M → Bool) (read : List ℕ → Option M) (written : IsWritten text fits read)
    (rest : List ℕ) (message : M) → fits message ≡ true
    → call_at read (call_text text (MVarInit message) ++ 58 ∷ 32 ∷ rest) ≡ Ok (MVarInit message, rest)
unfolding called_at filled_at
call_again_filled {M} text fits read written rest message fit =
    call_again_behind read filled.word (text message ++ 58 ∷ 32 ∷ rest) refl refl
    ∙ ap (λ (r : Result (List ℕ × List ℕ) What). r >>= λ last. ok_or BadMessage (read last.0) >>= λ found. Ok (MVarInit found, last.1))
    (last_again (text message) rest (printed_no_space (text message) (written.printed message fit)))
    ∙ ap (λ (o : Option M). ok_or BadMessage o >>= λ found. Ok (MVarInit found, rest)) (written.again message fit)

call_again_given : {M : Type 0} (text : M → List ℕ) (fits : M → Bool) (read : List ℕ → Option M) (written : IsWritten text fits read)
    (rest : List ℕ) (g : Give) (name : Name) (message : M)
    → name.0 < 2 ^ 64 → fits message ≡ true
    → call_at read (call_text text (given_call g name message) ++ 58 ∷ 32 ∷ rest) ≡ Ok (given_call g name message, rest)
unfolding called_at given_at
call_again_given {M} text fits read written rest g name message small fit =
    let word = (given g).word in
    let known = given_word g in
    let number = decimal name.0 in
    let last = text message ++ 58 ∷ 32 ∷ rest in
    ap (λ (w : List ℕ). call_at read (w ++ 58 ∷ 32 ∷ rest)) (given_text text g name message).0
    ∙ ap (call_at read) (append_assoc (word ++ 32 ∷ number) (32 ∷ text message) (58 ∷ 32 ∷ rest)
    ∙ append_assoc word (32 ∷ number) (32 ∷ last))
    ∙ call_again_behind read word (number ++ 32 ∷ last) known.0 known.1
    ∙ ap (λ (o : Option Give). called_by read o (ask_of word) (bytes_eq word filled.word) (number ++ 32 ∷ last)) known.2
    ∙ ap (λ (r : Result (List ℕ × List ℕ) What). r >>= λ object. name_in object.0 >>= λ n. last_at object.1 >>= λ l.
    ok_or BadMessage (read l.0) >>= λ found. Ok (given_call g n found, l.1)) (word_again number last (number_no_space name.0 small))
    ∙ ap (λ (r : Result Name What). r >>= λ n. last_at last >>= λ l. ok_or BadMessage (read l.0) >>= λ found.
    Ok (given_call g n found, l.1)) (name_again name small)
    ∙ ap (λ (r : Result (List ℕ × List ℕ) What). r >>= λ l. ok_or BadMessage (read l.0) >>= λ found. Ok (given_call g name found, l.1))
    (last_again (text message) rest (printed_no_space (text message) (written.printed message fit)))
    ∙ ap (λ (o : Option M). ok_or BadMessage o >>= λ found. Ok (given_call g name found, rest)) (written.again message fit)

call_again_asked : {M : Type 0} (text : M → List ℕ) (read : List ℕ → Option M) (rest : List ℕ) (a : Ask) (name : Name)
    → name.0 < 2 ^ 64 → call_at read (call_text text (asked_call a name) ++ 58 ∷ 32 ∷ rest) ≡ Ok (asked_call a name, rest)
unfolding called_at asked_at
call_again_asked {M} text read rest a name small =
    let word = (asked a).word in
    let known = asked_word a in
    let number = decimal name.0 in
    ap (λ (w : List ℕ). call_at read (w ++ 58 ∷ 32 ∷ rest)) ((asked_text text a name).0 ∙ append-nil (word ++ 32 ∷ number))
    ∙ ap (call_at read) (append_assoc word (32 ∷ number) (58 ∷ 32 ∷ rest))
    ∙ call_again_behind read word (number ++ 58 ∷ 32 ∷ rest) known.0 known.1
    ∙ ap (λ (o : Option Give). called_by read o (ask_of word) (bytes_eq word filled.word) (number ++ 58 ∷ 32 ∷ rest)) known.2
    ∙ ap (λ (o : Option Ask). called_by read None o (bytes_eq word filled.word) (number ++ 58 ∷ 32 ∷ rest)) known.3
    ∙ ap (λ (r : Result (List ℕ × List ℕ) What). r >>= λ last. name_in last.0 >>= λ n. Ok (asked_call {M = M} a n, last.1))
    (last_again number rest (number_no_space name.0 small))
    ∙ ap (λ (r : Result Name What). r >>= λ n. Ok (asked_call {M = M} a n, rest)) (name_again name small)

pub call_again : {M : Type 0} (text : M → List ℕ) (fits : M → Bool) (read : List ℕ → Option M)
    (written : IsWritten text fits read) (rest : List ℕ) (call : Call M)
    → CallFits fits call → call_at read (call_text text call ++ 58 ∷ 32 ∷ rest) ≡ Ok (call, rest)
call_again {M} text fits read written rest call =
    by_row (λ (k : Call M). CallFits fits k → call_at read (call_text text k ++ 58 ∷ 32 ∷ rest) ≡ Ok (k, rest))
    (λ m whole. call_again_made text fits read rest m)
    (λ message whole. call_again_filled text fits read written rest message whole.message)
    (λ g name message whole. call_again_given text fits read written rest g name message
    (subst SmallName (given_text text g name message).1 whole.object)
    (subst (FitMessage fits) (given_text text g name message).2 whole.message))
    (λ a name whole. call_again_asked text read rest a name (subst SmallName (asked_text text a name).1 whole.object))
    call

-- ---- what was read was written so
last_message_takes : {M : Type 0} (text : M → List ℕ) (fits : M → Bool) (read : List ℕ → Option M)
    (written : IsWritten text fits read) (word : List ℕ) (message : M)
    → ok_or BadMessage (read word) ≡ Ok message → (word ≡ text message) × (fits message ≡ true)
last_message_takes text fits read written word message e = written.only word message (some_from_ok BadMessage (read word) message e)

made_takes : {M : Type 0} (text : M → List ℕ) (fits : M → Bool) (word : List ℕ) (call : Call M) → made_in word ≡ Ok call
    → (word ≡ call_text text call) × CallFits fits call
unfolding made_in
made_takes {M} text fits word call e =
    let a = bind_ok (ok_or UnknownWord (make_of word)) (λ m. Ok (made_call m)) call e in
    let m = a.0 in
    let known = made_text text m in
    let same = same_bytes word (made m).word
    (found_passes (λ k. bytes_eq word (made k).word) makes m (some_from_ok UnknownWord (make_of word) m a.1)) in
    let whole : CallFits fits (made_call m) = record {
      object = subst SmallName (sym known.1) tt;
      message = subst (FitMessage fits) (sym known.2) tt;
    } in
    subst (λ (k : Call M). (word ≡ call_text text k) × CallFits fits k) (ok_is (made_call m) call a.2) (same ∙ sym known.0, whole)

given_takes : {M : Type 0} (text : M → List ℕ) (fits : M → Bool) (read : List ℕ → Option M) (written : IsWritten text fits read)
    (word line : List ℕ) (g : Give) (x : Call M × List ℕ)
    → word ≡ (given g).word → given_at read g line ≡ Ok x → TakesCall text fits (word ++ 32 ∷ line) x.0 x.1
unfolding given_at
given_takes {M} text fits read written word line g x is_word e =
    let a = bind_ok (word_at line) (λ object. name_in object.0 >>= λ n. last_at object.1 >>= λ l. ok_or BadMessage (read l.0) >>= λ found.
    Ok (given_call g n found, l.1)) x e in
    let b =
    bind_ok (name_in a.0.0) (λ n. last_at a.0.1 >>= λ l. ok_or BadMessage (read l.0) >>= λ found. Ok (given_call g n found, l.1)) x a.2 in
    let c = bind_ok (last_at a.0.1) (λ l. ok_or BadMessage (read l.0) >>= λ found. Ok (given_call g b.0 found, l.1)) x b.2 in
    let d = bind_ok (ok_or BadMessage (read c.0.0)) (λ found. Ok (given_call g b.0 found, c.0.1)) x c.2 in
    let number = decimal b.0.0 in
    let n = name_takes a.0.0 b.0 b.1 in
    let m = last_message_takes text fits read written c.0.0 d.0 d.1 in
    let known = given_text text g b.0 d.0 in
    let last = text d.0 ++ 58 ∷ 32 ∷ c.0.1 in
    let behind : line ≡ number ++ 32 ∷ last =
    word_takes line a.0 a.1 ∙ ap (λ (w : List ℕ). w ++ 32 ∷ a.0.1) n.0
    ∙ ap (λ (w : List ℕ). number ++ 32 ∷ w) (last_takes a.0.1 c.0 c.1 ∙ ap (λ (w : List ℕ). w ++ 58 ∷ 32 ∷ c.0.1) m.0) in
    let grouped = append_assoc ((given g).word ++ 32 ∷ number) (32 ∷ text d.0) (58 ∷ 32 ∷ c.0.1)
    ∙ append_assoc (given g).word (32 ∷ number) (32 ∷ last) in
    let parts : word ++ 32 ∷ line ≡ call_text text (given_call g b.0 d.0) ++ 58 ∷ 32 ∷ c.0.1 =
    ap (λ (w : List ℕ). w ++ 32 ∷ line) is_word ∙ ap (λ (r : List ℕ). (given g).word ++ 32 ∷ r) behind ∙ sym grouped
    ∙ ap (λ (w : List ℕ). w ++ 58 ∷ 32 ∷ c.0.1) (sym known.0) in
    let whole : CallFits fits (given_call g b.0 d.0) = record {
      object = subst SmallName (sym known.1) n.1;
      message = subst (FitMessage fits) (sym known.2) m.1;
    } in
    subst (λ (y : Call M × List ℕ). TakesCall text fits (word ++ 32 ∷ line) y.0 y.1) (ok_is (given_call g b.0 d.0, c.0.1) x d.2)
    (record { parts = parts; whole = whole })

asked_takes : {M : Type 0} (text : M → List ℕ) (fits : M → Bool) (word line : List ℕ) (q : Ask) (x : Call M × List ℕ)
    → word ≡ (asked q).word → asked_at q line ≡ Ok x → TakesCall text fits (word ++ 32 ∷ line) x.0 x.1
unfolding asked_at
asked_takes {M} text fits word line q x is_word e =
    let a = bind_ok (last_at line) (λ last. name_in last.0 >>= λ n. Ok (asked_call q n, last.1)) x e in
    let b = bind_ok (name_in a.0.0) (λ n. Ok (asked_call q n, a.0.1)) x a.2 in
    let number = decimal b.0.0 in
    let n = name_takes a.0.0 b.0 b.1 in
    let known = asked_text text q b.0 in
    let behind : line ≡ number ++ 58 ∷ 32 ∷ a.0.1 = last_takes line a.0 a.1 ∙ ap (λ (w : List ℕ). w ++ 58 ∷ 32 ∷ a.0.1) n.0 in
    let parts : word ++ 32 ∷ line ≡ call_text text (asked_call q b.0) ++ 58 ∷ 32 ∷ a.0.1 =
    ap (λ (w : List ℕ). w ++ 32 ∷ line) is_word ∙ ap (λ (r : List ℕ). (asked q).word ++ 32 ∷ r) behind
    ∙ sym (append_assoc (asked q).word (32 ∷ number) (58 ∷ 32 ∷ a.0.1))
    ∙ ap (λ (w : List ℕ). w ++ 58 ∷ 32 ∷ a.0.1) (sym (known.0 ∙ append-nil ((asked q).word ++ 32 ∷ number))) in
    let whole : CallFits fits (asked_call q b.0) = record {
      object = subst SmallName (sym known.1) n.1;
      message = subst (FitMessage fits) (sym known.2) tt;
    } in
    subst (λ (y : Call M × List ℕ). TakesCall text fits (word ++ 32 ∷ line) y.0 y.1) (ok_is (asked_call q b.0, a.0.1) x b.2)
    (record { parts = parts; whole = whole })

filled_takes : {M : Type 0} (text : M → List ℕ) (fits : M → Bool) (read : List ℕ → Option M) (written : IsWritten text fits read)
    (word line : List ℕ) (x : Call M × List ℕ)
    → word ≡ filled.word → filled_at read line ≡ Ok x → TakesCall text fits (word ++ 32 ∷ line) x.0 x.1
unfolding filled_at
filled_takes {M} text fits read written word line x is_word e =
    let a = bind_ok (last_at line) (λ last. ok_or BadMessage (read last.0) >>= λ found. Ok (MVarInit found, last.1)) x e in
    let b = bind_ok (ok_or BadMessage (read a.0.0)) (λ found. Ok (MVarInit found, a.0.1)) x a.2 in
    let m = last_message_takes text fits read written a.0.0 b.0 b.1 in
    let behind : line ≡ text b.0 ++ 58 ∷ 32 ∷ a.0.1 = last_takes line a.0 a.1 ∙ ap (λ (w : List ℕ). w ++ 58 ∷ 32 ∷ a.0.1) m.0 in
    let parts : word ++ 32 ∷ line ≡ call_text text (MVarInit b.0) ++ 58 ∷ 32 ∷ a.0.1 =
    ap (λ (w : List ℕ). w ++ 32 ∷ line) is_word ∙ ap (λ (r : List ℕ). filled.word ++ 32 ∷ r) behind in
    subst (λ (y : Call M × List ℕ). TakesCall text fits (word ++ 32 ∷ line) y.0 y.1) (ok_is (MVarInit b.0, a.0.1) x b.2)
    (record { parts = parts; whole = record { object = tt; message = m.1 } })

called_takes : {M : Type 0} (text : M → List ℕ) (fits : M → Bool) (read : List ℕ → Option M) (written : IsWritten text fits read)
    (word line : List ℕ) (x : Call M × List ℕ)
    → called_at read word line ≡ Ok x → TakesCall text fits (word ++ 32 ∷ line) x.0 x.1
unfolding called_at
called_takes {M} text fits read written word line x e = by (give_of word) refl (ask_of word) refl (bytes_eq word filled.word) refl e
  where
    by : (og : Option Give) → give_of word ≡ og → (oa : Option Ask) → ask_of word ≡ oa → (t : Bool) → bytes_eq word filled.word ≡ t
        → called_by read og oa t line ≡ Ok x → TakesCall text fits (word ++ 32 ∷ line) x.0 x.1
    by (Some g) is_give oa is_ask t is_filled f = given_takes text fits read written word line g x
        (same_bytes word (given g).word (found_passes (λ k. bytes_eq word (given k).word) gives g is_give)) f
    by None is_give (Some q) is_ask t is_filled f = asked_takes text fits word line q x
        (same_bytes word (asked q).word (found_passes (λ k. bytes_eq word (asked k).word) asks q is_ask)) f
    by None is_give None is_ask true is_filled f = filled_takes text fits read written word line x (same_bytes word filled.word is_filled) f
    by None is_give None is_ask false is_filled f = let e : Err UnknownWord ≡ Ok x = f in absurd cc

pub call_takes : {M : Type 0} (text : M → List ℕ) (fits : M → Bool) (read : List ℕ → Option M) (written : IsWritten text fits read)
    (line : List ℕ) (x : Call M × List ℕ)
    → call_at read line ≡ Ok x → TakesCall text fits line x.0 x.1
unfolding call_at
call_takes {M} text fits read written line x e =
    let a = bind_ok (word_at line) (λ next. call_by read next.0 (without_colon next.0) next.1) x e in
    subst (λ (l : List ℕ). TakesCall text fits l x.0 x.1) (sym (word_takes line a.0 a.1)) (by a.0.0 a.0.1 (without_colon a.0.0) refl a.2)
  where
    by : (word rest : List ℕ) (o : Option (List ℕ)) → without_colon word ≡ o → call_by read word o rest ≡ Ok x
        → TakesCall text fits (word ++ 32 ∷ rest) x.0 x.1
    by word rest None is f = called_takes text fits read written word rest x f
    by word rest (Some bare) is f =
        let b = bind_ok (made_in bare) (λ call. Ok (call, rest)) x f in
        let m = made_takes text fits bare b.0 b.1 in
        let parts : word ++ 32 ∷ rest ≡ call_text text b.0 ++ 58 ∷ 32 ∷ rest =
        ap (λ (w : List ℕ). w ++ 32 ∷ rest) (colon_takes word bare is) ∙ append_assoc bare (58 ∷ []) (32 ∷ rest)
        ∙ ap (λ (w : List ℕ). w ++ 58 ∷ 32 ∷ rest) m.0 in
        subst (λ (y : Call M × List ℕ). TakesCall text fits (word ++ 32 ∷ rest) y.0 y.1) (ok_is (b.0, rest) x b.2)
        (record { parts = parts; whole = m.1 })

-- ---- rows
pub made_row : (M : Type 0) (m : Make) → row_of (made_call {M = M} m) ≡ made m
made_row M m = ap row_among (made_parts m)

pub given_row : {M : Type 0} (g : Give) (name : Name) (message : M) → row_of (given_call g name message) ≡ given g
given_row g name message = ap row_among (given_parts g name message)

pub asked_row : (M : Type 0) (a : Ask) (name : Name) → row_of (asked_call {M = M} a name) ≡ asked a
asked_row M a name = ap row_among (asked_parts a name)
