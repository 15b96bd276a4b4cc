-- What was kept at a cut is all that is still read: no object's place is before it, and no object made later begins before it.
use Rattle.std.proofs.Common.{◌≡◌, ℕ, zero, suc, ◌+◌, ◌-◌, ◌*◌, ◌/◌, ◌≤◌, min, inl, inr, Bool, true, false, ◌&&◌, cond, eqb, List, []}
use Rattle.std.proofs.Common.{◌∷◌, ◌++◌, length, drop, slice_get, Option, Some, refl, sym, ap, subst, ◌∙◌, arith}
use Rattle.std.proofs.Math.Nat.{mul-div-le, mul-le-mul_left}
use Rattle.std.proofs.lemmas.Nat.{le-div}
use Rattle.std.proofs.lemmas.Bool.{cases_lt, eqb-true, and_parts, and_from, false≢true}
use Rattle.std.proofs.lemmas.List.{length-drop, drop-drop, drop-append-le}
use Rattle.cml_board.specs.{Name, Call, Reply, Entry, Origin, mailbox, channel, port, ivar, mvar, start_by, copy_of, Lawful, answer}
use Rattle.cml_board.specs.{new_name, made, if_made, begun_by, origin_of, is_open, sent, got, place, reads_by, reads, least_of, least_place}
use Rattle.cml_board.specs.{kept_from, base_of, reads_since, least_since, kept_since, place_since, open_since, stream_start, stream_since}
use Rattle.cml_board.specs.{messages_since}
use Rattle.cml_board.specs.declared.call.Call.TheVariants.{NewMailbox, NewChannel, NewPort, CopyPort, NewIVar, NewMVar, MVarInit}
use Rattle.cml_board.specs.declared.entry.Reply.TheVariants.{Made, Closed}
use Rattle.cml_board.proofs.UnmadeLemmas.{unmade_sent}
use Rattle.cml_board.proofs.KeepingLemmas.{least_of-le_end, least_of-le_place, least_of-ge, reader_made}
use Rattle.cml_board.proofs.ReceivedLemmas.{slice_get-append_within}
use Rattle.cml_board.proofs.SplittingLemmas.{get_behind, lawful_past, sent_split, length-sent_split, length-got_split}
use Rattle.cml_board.proofs.SplittingLemmas.{open_split, made_split}
use Rattle.cml_board.proofs.ResumingLemmas.{count_told, open_told, made_told, origin_told, place_told}

-- the start of a chunk is no later than that of a later place's
chunk_grows : (chunk a b : ℕ) → a ≤ b → chunk * (a / chunk) ≤ chunk * (b / chunk)
chunk_grows zero a b later = omega arith
chunk_grows (suc c) a b later =
    let quotients : a / suc c ≤ b / suc c = le-div (a / suc c) b (suc c) (omega arith) (omega (arith, mul-div-le a (suc c))) in
    mul-le-mul_left (suc c) quotients

-- who reads, and is open now, read while it was open
reads_earlier : (k : ℕ) (origin : Option Origin) (was more : Bool) (source : ℕ) → reads_by k origin (was && more) source ≡ true
    → reads_by k origin was source ≡ true
reads_earlier k (Some mailbox) was more source reading = reading
reads_earlier k (Some (port from start)) was more source reading =
    let both = and_parts (was && more) (eqb from source) reading in
    and_from was (eqb from source) (and_parts was more both.0).0 both.1
reads_earlier k origin was more source reading = absurd (false≢true reading)

-- who reads this begins no earlier
abbrev Begins : ℕ → ℕ → ℕ → Option Origin → Type 0
Begins bound k source origin = (opened : Bool) → reads_by k origin opened source ≡ true → bound ≤ start_by origin

begins_none : (bound k source j : ℕ) → Begins bound k source (slice_get [] j)
begins_none bound k source j opened reading = absurd (false≢true reading)

begins_one : (bound k source : ℕ) (origin : Origin) (j : ℕ) → Begins bound k source (Some origin)
    → Begins bound k source (slice_get (origin ∷ []) j)
begins_one bound k source origin zero begins = begins
begins_one bound k source origin (suc j) begins = begins_none bound k source j

module _ {M : Type 0} where
  -- only an open port is copied
  copied_open : (opened : Bool) (given : Option (Reply M)) (n : Name) → cond opened given (Some Closed) ≡ Some (Made n) → opened ≡ true
  copied_open true given n is = refl
  copied_open false given n is = absurd (cc)

  -- each object that reads a mailbox or a channel, and was not closed before the cut, stood no earlier then, or begins no earlier,
  -- than the least place there at the cut
  abbrev pub StandLater : List (Entry M) → List (Entry M) → ℕ → Type 0
  StandLater past since source = (k : ℕ) → reads_by k (origin_of (since ++ past) k) (is_open past k) source ≡ true
      → least_place past source ≤ start_by (origin_of (since ++ past) k) + length (got past k)

  -- so an object that a call makes begins no earlier: a mailbox has no messages yet, a port begins at its channel's end, and a
  -- copy at its original's place
  made_later : (past since : List (Entry M)) (source k j : ℕ) (call : Call M) (n : Name) → Lawful (since ++ past)
      → answer (since ++ past) call ≡ Some (Made n)
      → length (made (since ++ past)) ≤ k → StandLater past since source
      → Begins (least_place past source) k source (slice_get (begun_by (made (since ++ past)) (since ++ past) call) j)
  made_later past since source k j NewMailbox n lawful answered new stand =
      begins_one (least_place past source) k source mailbox j (λ opened reading.
      let same : k ≡ source = eqb-true k source reading in
      let behind : length (made past) ≤ source = omega (arith, same, new, made_split past since) in
      let none : length (sent past source) ≡ 0 = ap length (unmade_sent past source (lawful_past past since lawful) behind) in
      omega (arith, least_of-le_end past source (length (made past)), none))
  made_later past since source k j NewChannel n lawful answered new stand =
      begins_one (least_place past source) k source channel j (λ opened reading. absurd (false≢true reading))
  made_later past since source k j NewIVar n lawful answered new stand =
      begins_one (least_place past source) k source ivar j (λ opened reading. absurd (false≢true reading))
  made_later past since source k j NewMVar n lawful answered new stand =
      begins_one (least_place past source) k source mvar j (λ opened reading. absurd (false≢true reading))
  made_later past since source k j (MVarInit message) n lawful answered new stand =
      begins_one (least_place past source) k source mvar j (λ opened reading. absurd (false≢true reading))
  made_later past since source k j (NewPort name) n lawful answered new stand =
      begins_one (least_place past source) k source (port name.0 (length (sent (since ++ past) name.0))) j (λ opened reading.
      let same : name.0 ≡ source = eqb-true name.0 source (and_parts opened (eqb name.0 source) reading).1 in
      omega (
        arith,
        least_of-le_end past source (length (made past)),
        length-sent_split past since name.0,
        ap (λ s. length (sent past s)) same,
      ))
  made_later past since source k j (CopyPort name) n lawful answered new stand = copied (origin_of (since ++ past) name.0) refl
    where
      opened : is_open past name.0 ≡ true
      opened =
          (and_parts (is_open past name.0) (is_open since name.0)
          (sym (open_split past since name.0)
          ∙ copied_open (is_open (since ++ past) name.0) (Some (new_name (since ++ past))) n answered)).0

      copied : (origin : Option Origin) → origin_of (since ++ past) name.0 ≡ origin
          → Begins (least_place past source) k source (slice_get (copy_of origin (length (got (since ++ past) name.0))) j)
      copied (Some (port from start)) is =
          begins_one (least_place past source) k source (port from (start + length (got (since ++ past) name.0))) j (λ t reading.
          let same : eqb from source ≡ true = (and_parts t (eqb from source) reading).1 in
          let stood = stand name.0 (ap (λ o. reads_by name.0 o (is_open past name.0) source) is
          ∙ and_from (is_open past name.0) (eqb from source) opened same) in
          omega (arith, stood, ap start_by is, length-got_split past since name.0))
      copied origin is = begins_none (least_place past source) k source j
  made_later past since source k j call n lawful answered new stand = begins_none (least_place past source) k source j

  begun_later : (past since : List (Entry M)) (source k j : ℕ) (call : Call M) (reply : Reply M) → Lawful (since ++ past)
      → answer (since ++ past) call ≡ Some reply
      → length (made (since ++ past)) ≤ k → StandLater past since source
      → Begins (least_place past source) k source (slice_get (if_made reply (begun_by (made (since ++ past)) (since ++ past) call)) j)
  begun_later past since source k j call (Made n) lawful answered new stand =
      made_later past since source k j call n lawful answered new stand
  begun_later past since source k j call reply lawful answered new stand = begins_none (least_place past source) k source j

  -- so they are all at later places
  pub stood_later : (past since : List (Entry M)) (source : ℕ) → Lawful (since ++ past) → StandLater past since source
  stood_later past [] source lawful k reading =
      least_of-le_place past source (length (made past)) k (reader_made past source k reading) reading
  stood_later past (entry ∷ before) source lawful k reading = elim (cases_lt k (length (made (before ++ past)))) [
    | inl was ↦
        let same : origin_of (entry ∷ (before ++ past)) k ≡ origin_of (before ++ past) k =
        slice_get-append_within (made (before ++ past))
        (if_made entry.reply (begun_by (made (before ++ past)) (before ++ past) entry.call)) k was in
        subst (λ origin. least_place past source ≤ start_by origin + length (got past k)) (sym same)
        (stood_later past before source lawful.2 k (ap (λ origin. reads_by k origin (is_open past k) source) (sym same) ∙ reading))
    | inr new ↦
        let there =
        get_behind (made (before ++ past)) (if_made entry.reply (begun_by (made (before ++ past)) (before ++ past) entry.call)) k new in
        let begins : least_place past source
        ≤ start_by (slice_get (if_made entry.reply (begun_by (made (before ++ past)) (before ++ past) entry.call)) there.0) =
        begun_later past before source k there.0 entry.call entry.reply lawful.2 lawful.1 new (stood_later past before source lawful.2)
        (is_open past k) (ap (λ origin. reads_by k origin (is_open past k) source) (sym there.1) ∙ reading) in
        omega (arith, begins, ap start_by there.1)
  ]

  -- so the least place only grows
  least_grows : (past since : List (Entry M)) (source : ℕ) → Lawful (since ++ past)
      → least_place past source ≤ least_place (since ++ past) source
  least_grows past since source lawful =
      least_of-ge (since ++ past) source (least_place past source) (length (made (since ++ past)))
      (omega (arith, least_of-le_end past source (length (made past)), length-sent_split past since source)) (λ k within reading.
      let before : reads_by k (origin_of (since ++ past) k) (is_open past k) source ≡ true =
      reads_earlier k (origin_of (since ++ past) k) (is_open past k) (is_open since k) source
      (ap (λ t. reads_by k (origin_of (since ++ past) k) t source) (sym (open_split past since k)) ∙ reading) in
      omega (arith, stood_later past since source lawful k before, length-got_split past since k))

  -- and what is kept begins no earlier
  pub kept_grows : (chunk : ℕ) (past since : List (Entry M)) (source : ℕ) → Lawful (since ++ past)
      → kept_from chunk past source ≤ kept_from chunk (since ++ past) source
  kept_grows chunk past since source lawful =
      chunk_grows chunk (least_place past source) (least_place (since ++ past) source) (least_grows past since source lawful)

  pub kept_from-le_least : (chunk : ℕ) (h : List (Entry M)) (source : ℕ) → kept_from chunk h source ≤ least_place h source
  kept_from-le_least chunk h source = mul-div-le (least_place h source) chunk

  kept_from-le_end : (chunk : ℕ) (h : List (Entry M)) (source : ℕ) → kept_from chunk h source ≤ length (sent h source)
  kept_from-le_end chunk h source = omega (arith, kept_from-le_least chunk h source, least_of-le_end h source (length (made h)))

  -- they give the least place, and what is kept
  reads_told : (chunk : ℕ) (past since : List (Entry M)) (source k : ℕ) → Lawful (since ++ past)
      → reads_since (base_of chunk past) since source k ≡ reads (since ++ past) source k
  reads_told chunk past since source k lawful =
      ap (λ origin. reads_by k origin (open_since (base_of chunk past) since k) source) (origin_told chunk past since k lawful)
      ∙ ap (λ t. reads_by k (origin_of (since ++ past) k) t source) (open_told chunk past since k)

  least_told : (chunk : ℕ) (past since : List (Entry M)) (source n : ℕ) → Lawful (since ++ past)
      → least_since (base_of chunk past) since source n ≡ least_of (since ++ past) source n
  least_told chunk past since source zero lawful = count_told chunk past since source
  least_told chunk past since source (suc n) lawful =
      let b = base_of chunk past in
      let least = least_since b since source n in
      ap (λ t. cond t (min (place_since b since n) least) least) (reads_told chunk past since source n lawful)
      ∙ ap (λ at. cond (reads (since ++ past) source n) (min at least) least) (place_told chunk past since n lawful)
      ∙ ap (λ l. cond (reads (since ++ past) source n) (min (place (since ++ past) n) l) l) (least_told chunk past since source n lawful)

  pub kept_told : (chunk : ℕ) (past since : List (Entry M)) (source : ℕ) → Lawful (since ++ past)
      → kept_since chunk (base_of chunk past) since source ≡ kept_from chunk (since ++ past) source
  kept_told chunk past since source lawful =
      ap (λ origins. chunk * (least_since (base_of chunk past) since source (length origins) / chunk)) (made_told chunk past since lawful)
      ∙ ap (λ at. chunk * (at / chunk)) (least_told chunk past since source (length (made (since ++ past))) lawful)

  -- the stream is what the whole history sent from the first place kept at the cut on
  stream_start_told : (chunk : ℕ) (past : List (Entry M)) (source : ℕ)
      → stream_start (base_of chunk past) source ≡ kept_from chunk past source
  stream_start_told chunk past source =
      omega (arith, length-drop (kept_from chunk past source) (sent past source), kept_from-le_end chunk past source)

  stream_told : (chunk : ℕ) (past since : List (Entry M)) (source : ℕ)
      → stream_since (base_of chunk past) since source ≡ drop (kept_from chunk past source) (sent (since ++ past) source)
  stream_told chunk past since source =
      sym (drop-append-le (kept_from chunk past source) (sent past source) (sent since source) (kept_from-le_end chunk past source))
      ∙ ap (drop (kept_from chunk past source)) (sym (sent_split past since source))

  -- so from a later place on it is what the whole history sent from there on
  pub stream_from : (chunk : ℕ) (past since : List (Entry M)) (source at : ℕ) → kept_from chunk past source ≤ at
      → drop (at - stream_start (base_of chunk past) source) (stream_since (base_of chunk past) since source)
      ≡ drop at (sent (since ++ past) source)
  stream_from chunk past since source at later =
      let first = kept_from chunk past source in
      let whole = sent (since ++ past) source in
      let all : first + (at - first) ≡ at = omega arith in
      ap (λ n. drop (at - n) (stream_since (base_of chunk past) since source)) (stream_start_told chunk past source)
      ∙ ap (drop (at - first)) (stream_told chunk past since source) ∙ drop-drop (at - first) first whole ∙ ap (λ n. drop n whole) all

  pub messages_told : (chunk : ℕ) (past since : List (Entry M)) (source : ℕ) → Lawful (since ++ past)
      → messages_since chunk (base_of chunk past) since source ≡ drop (kept_from chunk (since ++ past) source) (sent (since ++ past) source)
  messages_told chunk past since source lawful =
      ap (λ at. drop (at - stream_start (base_of chunk past) source) (stream_since (base_of chunk past) since source))
      (kept_told chunk past since source lawful)
      ∙ stream_from chunk past since source (kept_from chunk (since ++ past) source) (kept_grows chunk past since source lawful)
