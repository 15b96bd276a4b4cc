-- What the check of a journal returns to C.
use Rattle.std.specs.Prelude.{ℕ, ◌==◌, if◌then◌else◌, ◌≡◌, ◌+◌, ◌<◌, ◌≤◌, ◌^◌, ◌⊎◌, List, [], ◌∷◌, length, drop, slice_get}
use Rattle.std.specs.Prelude.{Option, Some, None, Result, Ok, Err, ⊤}
use Rattle.std.specs.Option.{option_map, option_or}
use Rattle.cml_calls.specs.{filled, make_at, give_at, ask_at}
use Rattle.cml_board.specs.{message_of, made_call, given_call, asked_call, Call, Name, Entry, Reply, Who, Feeds, Pauses, count_of}
use Rattle.cml_board.specs.{verdict_of}
use Rattle.cml_board.specs.declared.call.Call.TheVariants as call
use Rattle.cml_board.specs.declared.entry.Reply.TheVariants as reply
use Rattle.cml_board.specs.declared.entry.Who.TheVariants as who
use Rattle.cml_c.specs.declared.checked_entries.Parts.{Parts}
use Rattle.cml_c.specs.declared.code.Code.{Code}
use Rattle.cml_c.specs.declared.code.Code.TheVariants.{Done, NoSuch, NoMemory, OutOfBounds, Unlawful}
use Rattle.cml_c.specs.declared.entries.SeryugoEntry.{SeryugoEntry}
use Rattle.cml_c.specs.declared.entries.SeryugoMaker.{SeryugoMaker}
use Rattle.cml_c.specs.declared.owned.Owned.{Owned}
use Rattle.cml_c.specs.declared.owned.Resource.{Resource}
use Rattle.cml_c.specs.declared.owned.Resource.TheVariants.{Journal}
use Rattle.cml_c.specs.Codes.{number}
use Rattle.cml_c.specs.Entries.{maker_of, call_kind, call_object, reply_kind, reply_name, reply_message}
use Rattle.cml_c.specs.Handles.{Seen, IsWrong, OnBytes, OnChecker}
use Rattle.cml_c.specs.Messages.{NotCopied}

-- the code of a verdict
abbrev pub told_verdict : Result ⊤ ℕ → Code
told_verdict (Ok done) = Done
told_verdict (Err at) = Unlawful

-- the entries are lawful after those before, or one is not
pub record Judges {M : Type 0} (entries : List (Entry M)) (code : ℕ) (old new : Seen M) : Type 0 where
  pub verdict : Result ⊤ ℕ
  pub feeds : Feeds old entries new verdict
  pub told : code ≡ number (told_verdict verdict)

-- or there is no memory to go on, and some were seen; or they would be more than a position can tell
abbrev pub FeedsIn : {M : Type 0} → List (Entry M) → ℕ → Seen M → Seen M → Type 0
FeedsIn entries code old new =
    Judges entries code old new
    ⊎ ((code ≡ number NoMemory) × Pauses old entries new)
    ⊎ ((code ≡ number OutOfBounds) × (2 ^ 64 ≤ count_of old + length entries) × (new ≡ old))

-- the journal has this place, and the entries from there on are fed; or it is shorter
pub record FeedsFrom {M : Type 0} (journal : List (Entry M)) (place code : ℕ) (old new : Seen M) : Type 0 where
  pub feeds : ((place ≤ length journal) × FeedsIn (drop place journal) code old new)
      ⊎ ((length journal < place) × (code ≡ number NoSuch) × (new ≡ old))

-- the handle leads to a journal that was taken, which stays, and its entries are fed to a checker; else nothing is changed
abbrev pub FeedsTaken : {M : Type 0} → ℕ → ℕ → Resource M → Resource M → Seen M → Seen M → Type 0
FeedsTaken place code (Journal taken) left old new = (left ≡ Journal taken) × FeedsFrom taken.items place code old new
FeedsTaken place code other left old new = IsWrong (new ≡ old) code other left

abbrev pub FeedsJournal : {M : Type 0} → ℕ → ℕ → Resource M → Resource M → Resource M → Resource M → Type 0
FeedsJournal place code old new journal left = OnChecker (FeedsTaken place code journal left) (left ≡ journal) code old new

-- who made a call, and its reply, in the order of their kinds
abbrev pub makers : ℕ → List Who
makers number_of = who.Seat number_of ∷ who.Lane number_of ∷ who.Feed number_of ∷ []

-- the call that has this number in the table
abbrev pub call_at : {M : Type 0} → ℕ → Name → M → Option (Call M)
call_at kind object message =
    option_or (option_map made_call (make_at kind))
    (option_or (option_map (λ give. given_call give object message) (give_at kind))
    (option_or (option_map (λ ask. asked_call ask object) (ask_at kind))
    (if filled.number == kind then Some (call.MVarInit message) else None)))

abbrev pub replies : {M : Type 0} → Name → M → List (Reply M)
replies name message = reply.Done ∷ reply.Made name ∷ reply.Got message ∷ reply.Nothing ∷ reply.Put ∷ reply.Closed ∷ []

-- the entry that has all three, if each kind is one
abbrev pub entry_of : {M : Type 0} → Option Who → Option (Call M) → Option (Reply M) → Option (Entry M)
entry_of (Some who) (Some call) (Some reply) = Some (record { who = who; call = call; reply = reply })
entry_of who call reply = None

abbrev pub who_in : SeryugoMaker → Option Who
who_in maker = slice_get (makers maker.number) maker.kind

-- the entry that C has, whose messages are numbers
abbrev pub entry_in : SeryugoEntry → Option (Entry ℕ)
entry_in given = entry_of (who_in given.maker)
    (call_at given.call.kind (record { 0 = given.call.object }) given.call.message)
    (slice_get (replies (record { 0 = given.reply.given }) given.reply.given) given.reply.kind)

-- the same of bytes, by its parts
abbrev pub entry_with : Parts → Option (Entry (List ℕ))
entry_with given = entry_of (who_in given.maker)
    (call_at given.call (record { 0 = given.object }) given.sent)
    (slice_get (replies (record { 0 = given.name }) given.got) given.reply)

-- a message, or none of its bytes
abbrev pub or_empty : Option (List ℕ) → List ℕ
or_empty (Some message) = message
or_empty None = []

-- the parts of an entry, as C is shown them
abbrev pub parts_of : Entry (List ℕ) → Parts
parts_of entry = record {
  maker = maker_of entry.who;
  call = call_kind entry.call;
  object = call_object entry.call;
  sent = or_empty (message_of entry.call);
  reply = reply_kind entry.reply;
  name = reply_name entry.reply;
  got = or_empty (reply_message entry.reply);
}

-- it is fed to the checker, if it is one; else nothing is changed
abbrev pub FeedsEntry : {M : Type 0} → Option (Entry M) → ℕ → Seen M → Seen M → Type 0
FeedsEntry (Some entry) code old new = FeedsIn (entry ∷ []) code old new
FeedsEntry None code old new = (code ≡ number OutOfBounds) × (new ≡ old)

-- the same of bytes, which are copied first, or there is no memory for them, or they are too many
pub record CopiesNeither (sent got : List ℕ) (code : ℕ) (old new : Owned) : Type 0 where
  pub refused : NotCopied sent code ⊎ NotCopied got code
  pub kept : new ≡ old

abbrev pub FeedsParts : Parts → Owned → Owned → ℕ → Type 0
FeedsParts given old new code = OnBytes (OnChecker (FeedsEntry (entry_with given) code)) ⊤ code old new
    ⊎ CopiesNeither given.sent given.got code old new

-- the verdict and how many entries were found lawful are written, and the checker is as it was
pub record TellsVerdict {M : Type 0} (code after : ℕ) (old new : Seen M) : Type 0 where
  pub told : code ≡ number (told_verdict (verdict_of old))
  pub count : after ≡ count_of old
  pub checker : new ≡ old
