-- Histories that leave the same answer each later call alike.
use Rattle.std.proofs.Common.{◌≡◌, ℕ, zero, suc, ◌+◌, ◌<◌, ◌≤◌, inl, inr, Bool, true, false, not, ◌&&◌, cond, List, [], ◌∷◌}
use Rattle.std.proofs.Common.{◌++◌, length, map, drop, slice_get, Option, Some, None, is_some, unwrap_or, IsTrue, IsSome, IfSome, refl}
use Rattle.std.proofs.Common.{sym, ap, subst, ◌∙◌, arith}
use Rattle.std.specs.Option.{option_map, option_map_or}
use Rattle.std.proofs.lemmas.Bool.{cases_lt, false≢true}
use Rattle.std.proofs.lemmas.List.{append-nil, map-append, length-map, drop_at, drop-drop}
use Rattle.std.proofs.lemmas.Option.{slice_get-map, slice_get_past, same_Some}
use Rattle.cml_calls.specs.declared.kind.Kind.{Kind}
use Rattle.cml_calls.specs.declared.kind.Kind.TheVariants as kind
use Rattle.cml_board.specs.declared.call.Name.{Name}
use Rattle.cml_board.specs.declared.call.Call.{Call}
use Rattle.cml_board.specs.declared.call.Call.TheVariants.{NewMailbox, NewChannel, NewPort, CopyPort, ClosePort, NewIVar, NewMVar}
use Rattle.cml_board.specs.declared.call.Call.TheVariants.{MVarInit, Send, Cast, Recv, Poll, Put, Get, GetPoll, Take, TakePoll, Swap}
use Rattle.cml_board.specs.declared.entry.Reply.{Reply}
use Rattle.cml_board.specs.declared.entry.Reply.TheVariants.{Done, Made, Got, Nothing, Closed}
use Rattle.cml_board.specs.declared.entry.Reply.TheVariants as reply
use Rattle.cml_board.specs.declared.entry.Entry.{Entry}
use Rattle.cml_board.specs.Origins.{Origin, mailbox, channel, port, ivar, mvar, kind_by, source_by, start_by, copy_of}
use Rattle.cml_board.specs.Objects.{object_in, takes}
use Rattle.cml_calls.specs.Kinds.{is_receiver, is_port, is_variable}
use Rattle.cml_board.specs.Held.{left_by, held}
use Rattle.cml_board.specs.History.{Lawful, Fits, answer, made, if_made, begun_by, origin_of, kind_of, is_open, closes}
use Rattle.cml_board.specs.History.{sent, sent_by, got, got_by, owed, received, given, new_name, where_open}
use Rattle.cml_board.specs.Counts.{is_a, channel_in, channel_of}
use Rattle.cml_compact.specs.{LeavesTheSame}
use Rattle.cml_board.proofs.HoldingLemmas.{put_variable, swap_variable, look_variable}
use Rattle.cml_calls.specs.declared.table.Ask.TheVariants as ask
use Rattle.cml_board.proofs.UnmadeLemmas.{untold, unmade, unmade_sent, unmade_got}
use Rattle.cml_board.proofs.SplittingLemmas.{get_behind, origin_split}
use Rattle.cml_board.proofs.ReceivingLemmas.{open_before, received_open, waiting_since}

-- an object without its place: a port that starts at the front of its channel
abbrev unplaced : Origin → Origin
unplaced (port source start) = port source 0
unplaced origin = origin

kind_unplaced : (origin : Origin) → kind_by (unplaced origin) ≡ kind_by origin
kind_unplaced (port source start) = refl
kind_unplaced mailbox = refl
kind_unplaced channel = refl
kind_unplaced ivar = refl
kind_unplaced mvar = refl

pub kind_told : (origin : Option Origin) → option_map kind_by (option_map unplaced origin) ≡ option_map kind_by origin
kind_told (Some origin) = ap Some (kind_unplaced origin)
kind_told None = refl

source_told : (o : ℕ) (origin : Option Origin) → source_by o (option_map unplaced origin) ≡ source_by o origin
source_told o (Some (port source start)) = refl
source_told o (Some mailbox) = refl
source_told o (Some channel) = refl
source_told o (Some ivar) = refl
source_told o (Some mvar) = refl
source_told o None = refl

pub channel_told : (origin : Option Origin) → channel_in (option_map unplaced origin) ≡ channel_in origin
channel_told (Some (port source start)) = refl
channel_told (Some mailbox) = refl
channel_told (Some channel) = refl
channel_told (Some ivar) = refl
channel_told (Some mvar) = refl
channel_told None = refl

-- a copy is one of the same channel
abbrev copied_of : Option Origin → List Origin
copied_of (Some (port source start)) = port source 0 ∷ []
copied_of origin = []

copied_told : (origin : Option Origin) (k : ℕ) → map unplaced (copy_of origin k) ≡ copied_of (option_map unplaced origin)
copied_told (Some (port source start)) k = refl
copied_told (Some mailbox) k = refl
copied_told (Some channel) k = refl
copied_told (Some ivar) k = refl
copied_told (Some mvar) k = refl
copied_told None k = refl

copy_told : (one two : Option Origin) (m n : ℕ) → option_map unplaced one ≡ option_map unplaced two
    → map unplaced (copy_of one m) ≡ map unplaced (copy_of two n)
copy_told one two m n same = copied_told one m ∙ ap copied_of same ∙ sym (copied_told two n)

-- an object without its place is known by its kind and its channel
abbrev name_or : Option Name → ℕ
name_or (Some name) = name.0
name_or None = 0

abbrev rebuilt : Option Kind → Option Name → Option Origin
rebuilt None from = None
rebuilt (Some kind.Mailbox) from = Some mailbox
rebuilt (Some kind.Channel) from = Some channel
rebuilt (Some kind.Port) from = Some (port (name_or from) 0)
rebuilt (Some kind.IVar) from = Some ivar
rebuilt (Some kind.MVar) from = Some mvar

rebuilds : (origin : Option Origin) → rebuilt (option_map kind_by origin) (channel_in origin) ≡ option_map unplaced origin
rebuilds None = refl
rebuilds (Some mailbox) = refl
rebuilds (Some channel) = refl
rebuilds (Some (port source start)) = refl
rebuilds (Some ivar) = refl
rebuilds (Some mvar) = refl

-- lists are equal item by item
same_items : {X : Type 0} (xs ys : List X) → ((k : ℕ) → slice_get xs k ≡ slice_get ys k) → xs ≡ ys
same_items [] [] same = refl
same_items [] (y ∷ ys) same = let e : None ≡ Some y = same 0 in cc
same_items (x ∷ xs) [] same = let e : Some x ≡ None = same 0 in cc
same_items (x ∷ xs) (y ∷ ys) same =
    ap (λ z. z ∷ xs) (same_Some x y (same 0)) ∙ ap (λ zs. y ∷ zs) (same_items xs ys (λ k. same (suc k)))

-- the only item of a list, or none
one_at : (P : Option Origin → Type 0) (x : Origin) (j : ℕ) → P (Some x) → P None → P (slice_get (x ∷ []) j)
one_at P x zero here none = here
one_at P x (suc j) here none = none

receiver_kind : (k : Option Kind) → IsSome k → IfSome k (λ kind. IsTrue (is_receiver kind)) → option_map_or is_receiver k false ≡ true
receiver_kind None some is = absurd (false≢true some)
receiver_kind (Some kind) some is = is

port_receives : (k : Option Kind) → IsSome k → IfSome k (λ kind. IsTrue (is_port kind)) → option_map_or is_receiver k false ≡ true
port_receives None some is = absurd (false≢true some)
port_receives (Some kind.Port) some is = refl
port_receives (Some other) some is = absurd (false≢true is)

abbrev Receives : Option Origin → Type 0
Receives origin = option_map_or is_receiver (option_map kind_by origin) false ≡ true

module _ {M : Type 0} where
  -- the same as one equation for all objects, in the order of their names
  pub record Alike (old new : List (Entry M)) : Type 0 where
    pub objects : map unplaced (made new) ≡ map unplaced (made old)
    pub opened : (name : ℕ) → is_open new name ≡ is_open old name
    pub owed : (name : ℕ) → is_a is_receiver old name ≡ true → is_open old name ≡ true → owed new name ≡ owed old name
    pub held : (name : ℕ) → is_a is_variable old name ≡ true → held new name ≡ held old name

  origin_alike : (old new : List (Entry M)) (k : ℕ) → Alike old new
      → option_map unplaced (origin_of new k) ≡ option_map unplaced (origin_of old k)
  origin_alike old new k alike =
      sym (slice_get-map unplaced (made new) k) ∙ ap (λ origins. slice_get origins k) alike.objects ∙ slice_get-map unplaced (made old) k

  pub kind_alike : (old new : List (Entry M)) (k : ℕ) → Alike old new → kind_of new k ≡ kind_of old k
  kind_alike old new k alike =
      sym (kind_told (origin_of new k)) ∙ ap (option_map kind_by) (origin_alike old new k alike) ∙ kind_told (origin_of old k)

  pub channel_alike : (old new : List (Entry M)) (k : ℕ) → Alike old new → channel_of new k ≡ channel_of old k
  channel_alike old new k alike =
      sym (channel_told (origin_of new k)) ∙ ap channel_in (origin_alike old new k alike) ∙ channel_told (origin_of old k)

  source_alike : (old new : List (Entry M)) (k : ℕ) → Alike old new → source_by k (origin_of new k) ≡ source_by k (origin_of old k)
  source_alike old new k alike =
      sym (source_told k (origin_of new k)) ∙ ap (source_by k) (origin_alike old new k alike) ∙ source_told k (origin_of old k)

  pub count_alike : (old new : List (Entry M)) → Alike old new → length (made new) ≡ length (made old)
  count_alike old new alike = sym (length-map (made new) unplaced) ∙ ap length alike.objects ∙ length-map (made old) unplaced

  name_alike : (old new : List (Entry M)) → Alike old new → new_name new ≡ new_name old
  name_alike old new alike = ap (λ n. Made (record { 0 = n })) (count_alike old new alike)

  -- the same calls fit
  made_alike : (old new : List (Entry M)) (object : Option Name) → Alike old new
      → IfSome object (λ name. IsSome (kind_of old name.0)) → IfSome object (λ name. IsSome (kind_of new name.0))
  made_alike old new (Some name) alike is = subst (λ k. IsSome k) (sym (kind_alike old new name.0 alike)) is
  made_alike old new None alike is = is

  taken_alike : (old new : List (Entry M)) (call : Call M) (object : Option Name) → Alike old new
      → IfSome object (λ name. IfSome (kind_of old name.0) (λ kind. IsTrue (takes kind call)))
      → IfSome object (λ name. IfSome (kind_of new name.0) (λ kind. IsTrue (takes kind call)))
  taken_alike old new call (Some name) alike is =
      subst (λ k. IfSome k (λ kind. IsTrue (takes kind call))) (sym (kind_alike old new name.0 alike)) is
  taken_alike old new call None alike is = is

  pub fits_alike : (old new : List (Entry M)) (call : Call M) → Alike old new → Fits old call → Fits new call
  fits_alike old new call alike fits =
      (made_alike old new (object_in call) alike fits.0, taken_alike old new call (object_in call) alike fits.1)

  -- of a closed port it doesn't matter what it would give
  where_alike : (old new : List (Entry M)) (o : ℕ) (one two : Option (Reply M)) → Alike old new → (is_open old o ≡ true → one ≡ two)
      → where_open new o one ≡ where_open old o two
  where_alike old new o one two alike same = ap (λ t. cond t one (Some Closed)) (alike.opened o) ∙ by_open (is_open old o) refl
    where
      by_open : (t : Bool) → is_open old o ≡ t → cond t one (Some Closed) ≡ cond t two (Some Closed)
      by_open true is = same is
      by_open false is = refl

  received_alike : (old new : List (Entry M)) (name : Name) → Alike old new → IsSome (kind_of old name.0)
      → IfSome (kind_of old name.0) (λ kind. IsTrue (is_receiver kind)) → is_open old name.0 ≡ true
      → received (owed new name.0) ≡ received (owed old name.0)
  received_alike old new name alike some is opened = ap received (alike.owed name.0 (receiver_kind (kind_of old name.0) some is) opened)

  -- so each call that fits is answered alike
  pub answer_alike : (old new : List (Entry M)) (call : Call M) → Alike old new → Fits old call → answer new call ≡ answer old call
  answer_alike old new NewMailbox alike fits = ap Some (name_alike old new alike)
  answer_alike old new NewChannel alike fits = ap Some (name_alike old new alike)
  answer_alike old new (NewPort name) alike fits = ap Some (name_alike old new alike)
  answer_alike old new NewIVar alike fits = ap Some (name_alike old new alike)
  answer_alike old new NewMVar alike fits = ap Some (name_alike old new alike)
  answer_alike old new (MVarInit message) alike fits = ap Some (name_alike old new alike)
  answer_alike old new (CopyPort name) alike fits =
      where_alike old new name.0 (Some (new_name new)) (Some (new_name old)) alike (λ opened. ap Some (name_alike old new alike))
  answer_alike old new (ClosePort name) alike fits = where_alike old new name.0 (Some Done) (Some Done) alike (λ opened. refl)
  answer_alike old new (Send name message) alike fits = refl
  answer_alike old new (Cast name message) alike fits = refl
  answer_alike old new (Recv name) alike fits =
      where_alike old new name.0 (received (owed new name.0)) (received (owed old name.0)) alike
      (received_alike old new name alike fits.0 fits.1)
  answer_alike old new (Poll name) alike fits =
      where_alike old new name.0 (Some (unwrap_or (received (owed new name.0)) Nothing))
      (Some (unwrap_or (received (owed old name.0)) Nothing)) alike
      (λ opened. ap (λ first. Some (unwrap_or first Nothing)) (received_alike old new name alike fits.0 fits.1 opened))
  answer_alike old new (Put name message) alike fits =
      ap (λ has. Some (cond (is_some has) reply.Put Done)) (alike.held name.0 (put_variable old name message fits))
  answer_alike old new (Get name) alike fits = ap given (alike.held name.0 (look_variable old ask.Get name refl fits))
  answer_alike old new (GetPoll name) alike fits =
      ap (λ has. Some (unwrap_or (given has) Nothing)) (alike.held name.0 (look_variable old ask.GetPoll name refl fits))
  answer_alike old new (Take name) alike fits = ap given (alike.held name.0 (look_variable old ask.Take name refl fits))
  answer_alike old new (TakePoll name) alike fits =
      ap (λ has. Some (unwrap_or (given has) Nothing)) (alike.held name.0 (look_variable old ask.TakePoll name refl fits))
  answer_alike old new (Swap name message) alike fits = ap given (alike.held name.0 (swap_variable old name message fits))

  -- a call makes the same object
  begun_alike : (old new : List (Entry M)) (call : Call M) → Alike old new
      → map unplaced (begun_by (made new) new call) ≡ map unplaced (begun_by (made old) old call)
  begun_alike old new (CopyPort name) alike =
      copy_told (origin_of new name.0) (origin_of old name.0) (length (got new name.0)) (length (got old name.0))
      (origin_alike old new name.0 alike)
  begun_alike old new (NewPort name) alike = refl
  begun_alike old new call alike = refl

  if_made_alike : (old new : List (Entry M)) (call : Call M) (reply : Reply M) → Alike old new
      → map unplaced (if_made reply (begun_by (made new) new call)) ≡ map unplaced (if_made reply (begun_by (made old) old call))
  if_made_alike old new call (Made n) alike = begun_alike old new call alike
  if_made_alike old new call reply alike = refl

  objects_alike : (old new : List (Entry M)) (entry : Entry M) → Alike old new
      → map unplaced (made (entry ∷ new)) ≡ map unplaced (made (entry ∷ old))
  objects_alike old new entry alike =
      map-append unplaced (made new) (if_made entry.reply (begun_by (made new) new entry.call))
      ∙ ap (λ xs. xs ++ map unplaced (if_made entry.reply (begun_by (made new) new entry.call))) alike.objects
      ∙ ap (λ xs. map unplaced (made old) ++ xs) (if_made_alike old new entry.call entry.reply alike)
      ∙ sym (map-append unplaced (made old) (if_made entry.reply (begun_by (made old) old entry.call)))

  -- what is owed to a receiver after one entry more: what was owed before, and what the entry sent, without what it received
  owed_next : (h : List (Entry M)) (entry : Entry M) (o : ℕ) → Lawful (entry ∷ h) → is_a is_receiver h o ≡ true
      → is_open (entry ∷ h) o ≡ true
      → owed (entry ∷ h) o ≡ drop (length (got (entry ∷ []) o)) (owed h o ++ sent (entry ∷ []) (source_by o (origin_of h o)))
  owed_next h entry o lawful is opened =
      let since : List (Entry M) = entry ∷ [] in
      let was : is_open h o ≡ true = open_before h since o opened in
      let some : o < length (made h) = made_receiver h o is in
      let still : is_a is_receiver (entry ∷ h) o ≡ true =
      ap (λ begun. option_map_or is_receiver (option_map kind_by begun) false) (origin_split h since o some) ∙ is in
      sym (drop_at (got since o) (owed (entry ∷ h) o) (length (got since o)) refl)
      ∙ ap (drop (length (got since o))) (received_open 1 h since o lawful still opened ∙ waiting_since 1 h since o lawful is was)
    where
      made_receiver : (h : List (Entry M)) (o : ℕ) → is_a is_receiver h o ≡ true → o < length (made h)
      made_receiver h o is = elim (cases_lt o (length (made h))) [
        | inl within ↦ within
        | inr behind ↦
            absurd (false≢true (sym (ap (λ origin. option_map_or is_receiver (option_map kind_by origin) false)
            (slice_get_past (made h) o behind)) ∙ is))
      ]

  -- what is owed to a new receiver: what its original is, if it is a copy, and else nothing
  abbrev owed_new : List (Entry M) → Call M → List M
  owed_new h (CopyPort name) = owed h name.0
  owed_new h call = []

  abbrev IsOwedNew : List (Entry M) → Call M → ℕ → Option Origin → Type 0
  IsOwedNew h call o origin =
      Receives origin → drop (start_by origin) (sent h (source_by o origin) ++ sent_by call (source_by o origin)) ≡ owed_new h call

  owed_begun : (h : List (Entry M)) (call : Call M) (o j : ℕ) → Lawful h → length (made h) ≤ o
      → IsOwedNew h call o (slice_get (begun_by (made h) h call) j)
  owed_begun h NewMailbox o j lawful past =
      one_at (IsOwedNew h NewMailbox o) mailbox j (λ is. ap (λ xs. xs ++ []) (unmade_sent h o lawful past)) (λ is. absurd (false≢true is))
  owed_begun h NewChannel o j lawful past =
      one_at (IsOwedNew h NewChannel o) channel j (λ is. absurd (false≢true is)) (λ is. absurd (false≢true is))
  owed_begun h NewIVar o j lawful past = one_at (IsOwedNew h NewIVar o) ivar j (λ is. absurd (false≢true is)) (λ is. absurd (false≢true is))
  owed_begun h NewMVar o j lawful past = one_at (IsOwedNew h NewMVar o) mvar j (λ is. absurd (false≢true is)) (λ is. absurd (false≢true is))
  owed_begun h (MVarInit message) o j lawful past =
      one_at (IsOwedNew h (MVarInit message) o) mvar j (λ is. absurd (false≢true is)) (λ is. absurd (false≢true is))
  owed_begun h (NewPort name) o j lawful past =
      one_at (IsOwedNew h (NewPort name) o) (port name.0 (length (sent h name.0))) j
      (λ is. drop_at (sent h name.0) [] (length (sent h name.0)) refl) (λ is. absurd (false≢true is))
  owed_begun h (CopyPort name) o j lawful past = copied (origin_of h name.0) refl
    where
      copied : (origin : Option Origin) → origin_of h name.0 ≡ origin
          → IsOwedNew h (CopyPort name) o (slice_get (copy_of origin (length (got h name.0))) j)
      copied (Some (port source start)) e =
          one_at (IsOwedNew h (CopyPort name) o) (port source (start + length (got h name.0))) j
          (λ is. ap (drop (start + length (got h name.0))) (append-nil (sent h source))
          ∙ sym (drop-drop (length (got h name.0)) start (sent h source))
          ∙ ap (λ x. drop (length (got h name.0)) (drop (start_by x) (sent h (source_by name.0 x)))) (sym e)) (λ is. absurd (false≢true is))
      copied origin e = λ is. absurd (false≢true is)
  owed_begun h call o j lawful past = λ is. absurd (false≢true is)

  owed_made : (h : List (Entry M)) (call : Call M) (reply : Reply M) (o j : ℕ) → Lawful h → length (made h) ≤ o
      → IsOwedNew h call o (slice_get (if_made reply (begun_by (made h) h call)) j)
  owed_made h call (Made n) o j lawful past = owed_begun h call o j lawful past
  owed_made h call reply o j lawful past = λ is. absurd (false≢true is)

  owed_fresh : (h : List (Entry M)) (entry : Entry M) (o : ℕ) → Lawful (entry ∷ h) → length (made h) ≤ o
      → is_a is_receiver (entry ∷ h) o ≡ true
      → owed (entry ∷ h) o ≡ owed_new h entry.call
  owed_fresh h entry o lawful past is =
      let begun = if_made entry.reply (begun_by (made h) h entry.call) in
      let there = get_behind (made h) begun o past in
      let none : got (entry ∷ h) o ≡ [] =
      ap (λ xs. xs ++ got_by entry.call entry.reply o) (unmade_got h o lawful.2 past)
      ∙ (untold h entry.call entry.reply o lawful.0.0 past).1 in
      ap (λ xs. drop (length xs) (drop (start_by (origin_of (entry ∷ h) o)) (sent (entry ∷ h) (source_by o (origin_of (entry ∷ h) o)))))
      none
      ∙ ap (λ x. drop (start_by x) (sent (entry ∷ h) (source_by o x))) there.1
      ∙ owed_made h entry.call entry.reply o there.0 lawful.2 past (subst (λ x. Receives x) there.1 is)

  -- a port that was copied was open
  copied_open : (h : List (Entry M)) (name : Name) (reply : Reply M) (j : ℕ) → answer h (CopyPort name) ≡ Some reply
      → Receives (slice_get (if_made reply (begun_by (made h) h (CopyPort name))) j) → is_open h name.0 ≡ true
  copied_open h name (Made n) j answered is = by_open (is_open h name.0) refl
    where
      by_open : (t : Bool) → is_open h name.0 ≡ t → t ≡ true
      by_open true e = refl
      by_open false e =
          let other : ◌≡◌ {A =
          Option (Reply M)} (Some Closed) (Some (Made n)) = sym (ap (λ t. cond t (Some (new_name h)) (Some Closed)) e) ∙ answered in cc
  copied_open h name reply j answered is = absurd (false≢true is)

  owed_new_alike : (old new : List (Entry M)) (call : Call M) (reply : Reply M) (j : ℕ) → Alike old new → Fits old call
      → answer old call ≡ Some reply
      → Receives (slice_get (if_made reply (begun_by (made old) old call)) j) → owed_new new call ≡ owed_new old call
  owed_new_alike old new (CopyPort name) reply j alike fits answered is =
      alike.owed name.0 (port_receives (kind_of old name.0) fits.0 fits.1) (copied_open old name reply j answered is)
  owed_new_alike old new call reply j alike fits answered is = refl

  -- they are alike after an entry more
  owed_alike : (old new : List (Entry M)) (entry : Entry M) (o : ℕ) → Lawful (entry ∷ old) → Lawful (entry ∷ new) → Alike old new
      → is_a is_receiver (entry ∷ old) o ≡ true → is_open (entry ∷ old) o ≡ true → owed (entry ∷ new) o ≡ owed (entry ∷ old) o
  owed_alike old new entry o lawful follows alike is opened = elim (cases_lt o (length (made old))) [
    | inl was ↦
        let since : List (Entry M) = entry ∷ [] in
        let before : is_a is_receiver old o ≡ true =
        ap (λ x. option_map_or is_receiver (option_map kind_by x) false) (sym (origin_split old since o was)) ∙ is in
        let other : is_a is_receiver new o ≡ true = ap (λ k. option_map_or is_receiver k false) (kind_alike old new o alike) ∙ before in
        let still : is_open (entry ∷ new) o ≡ true = ap (λ b. b && not (closes entry.call entry.reply o)) (alike.opened o) ∙ opened in
        owed_next new entry o follows other still
        ∙ ap (λ xs. drop (length (got since o)) (xs ++ sent since (source_by o (origin_of new o))))
        (alike.owed o before (open_before old since o opened))
        ∙ ap (λ s. drop (length (got since o)) (owed old o ++ sent since s)) (source_alike old new o alike)
        ∙ sym (owed_next old entry o lawful before opened)
    | inr past ↦
        let beyond : length (made new) ≤ o = omega (arith, count_alike old new alike, past) in
        let there = get_behind (made old) (if_made entry.reply (begun_by (made old) old entry.call)) o past in
        let same : kind_of (entry ∷ new) o ≡ kind_of (entry ∷ old) o =
        sym (kind_told (origin_of (entry ∷ new) o))
        ∙ ap (option_map kind_by) (sym (slice_get-map unplaced (made (entry ∷ new)) o)
        ∙ ap (λ xs. slice_get xs o) (objects_alike old new entry alike) ∙ slice_get-map unplaced (made (entry ∷ old)) o)
        ∙ kind_told (origin_of (entry ∷ old) o) in
        owed_fresh new entry o follows beyond (ap (λ k. option_map_or is_receiver k false) same ∙ is)
        ∙ owed_new_alike old new entry.call entry.reply there.0 alike lawful.0 lawful.1 (subst (λ x. Receives x) there.1 is)
        ∙ sym (owed_fresh old entry o lawful past is)
  ]

  -- a variable that is new held nothing before
  held_before : (old new : List (Entry M)) (entry : Entry M) (o : ℕ) → Lawful (entry ∷ old) → Lawful (entry ∷ new) → Alike old new
      → is_a is_variable (entry ∷ old) o ≡ true → held new o ≡ held old o
  held_before old new entry o lawful follows alike is = elim (cases_lt o (length (made old))) [
    | inl was ↦
        alike.held o (ap (λ x. option_map_or is_variable (option_map kind_by x) false) (sym (origin_split old (entry ∷ []) o was)) ∙ is)
    | inr past ↦
        let beyond : length (made new) ≤ o = omega (arith, count_alike old new alike, past) in
        ap (λ f. f.held) (unmade new o follows.2 beyond) ∙ sym (ap (λ f. f.held) (unmade old o lawful.2 past))
  ]

  alike_next : (old new : List (Entry M)) (entry : Entry M) → Lawful (entry ∷ old) → Lawful (entry ∷ new) → Alike old new
      → Alike (entry ∷ old) (entry ∷ new)
  alike_next old new entry lawful follows alike = record {
    objects = objects_alike old new entry alike;
    opened = λ o. ap (λ b. b && not (closes entry.call entry.reply o)) (alike.opened o);
    owed = λ o is opened. owed_alike old new entry o lawful follows alike is opened;
    held = λ o is. ap (unwrap_or (left_by entry.call entry.reply o)) (held_before old new entry o lawful follows alike is);
  }

  -- so what may follow the one may follow the other, and they are alike after it
  pub alike_later : (old new since : List (Entry M)) → Lawful new → Alike old new → Lawful (since ++ old)
      → Lawful (since ++ new) × Alike (since ++ old) (since ++ new)
  alike_later old new [] lawful alike follows = (lawful, alike)
  alike_later old new (entry ∷ before) lawful alike follows =
      let earlier = alike_later old new before lawful alike follows.2 in
      let next : Lawful (entry ∷ (before ++ new)) = (
        fits_alike (before ++ old) (before ++ new) entry.call earlier.1 follows.0,
        answer_alike (before ++ old) (before ++ new) entry.call earlier.1 follows.0 ∙ follows.1,
        earlier.0,
      ) in
      (next, alike_next (before ++ old) (before ++ new) entry follows next earlier.1)

  pub alike_from : (old new : List (Entry M)) → LeavesTheSame old new → Alike old new
  alike_from old new same = record {
    objects = same_items (map unplaced (made new)) (map unplaced (made old)) (λ k.
        slice_get-map unplaced (made new) k ∙ sym (rebuilds (origin_of new k)) ∙ ap (λ x. rebuilt x (channel_of new k)) (same.kinds k)
        ∙ ap (rebuilt (kind_of old k)) (same.channels k) ∙ rebuilds (origin_of old k) ∙ sym (slice_get-map unplaced (made old) k));
    opened = same.opened;
    owed = same.owed;
    held = same.held;
  }

  pub alike_same : (old new : List (Entry M)) → Alike old new → LeavesTheSame old new
  alike_same old new alike = record {
    kinds = λ k. kind_alike old new k alike;
    channels = λ k. channel_alike old new k alike;
    opened = alike.opened;
    owed = alike.owed;
    held = alike.held;
  }

  -- it goes both ways
  pub same_back : (old new : List (Entry M)) → LeavesTheSame old new → LeavesTheSame new old
  same_back old new same = record {
    kinds = λ k. sym (same.kinds k);
    channels = λ k. sym (same.channels k);
    opened = λ k. sym (same.opened k);
    owed =
        λ k is opened. sym (same.owed k (ap (λ x. option_map_or is_receiver x false) (sym (same.kinds k)) ∙ is)
        (sym (same.opened k) ∙ opened));
    held = λ k is. sym (same.held k (ap (λ x. option_map_or is_variable x false) (sym (same.kinds k)) ∙ is));
  }

  pub follows_same : (old new since : List (Entry M)) → Lawful new → LeavesTheSame old new → Lawful (since ++ old) → Lawful (since ++ new)
  follows_same old new since lawful same follows = (alike_later old new since lawful (alike_from old new same) follows).0
