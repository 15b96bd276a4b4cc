-- Lemmas on what a log holds of the items that were ever pushed, for this crate and its callers.
use Rattle.std.proofs.Common.{◌≡◌, ℕ, ◌+◌, ◌-◌, ◌*◌, ◌/◌, ◌<◌, ◌≤◌, List, [], ◌∷◌, ◌++◌, length, drop, Some, None}
use Rattle.std.proofs.Common.{refl, sym, ap, subst, ◌∙◌, arith}
use Rattle.std.proofs.Math.Nat.{mul-div-le, zero-div}
use Rattle.std.proofs.lemmas.List.{length-append, length-drop, drop-drop, drop-append-le}
use Rattle.cml_log.specs.Log.{Log}
use Rattle.cml_log.specs.{empty_log, least, next_of, IsOpen, place_of, owed_items, trimmed, with_item, with_place, Opens, IsTidy}
use Rattle.cml_log.specs.Holds.{Holds}
use Rattle.cml_log.proofs.LeastLemmas.{least-le_end}
use Rattle.cml_log.proofs.LogLemmas.{IsTrimmable, place_at-open, next_of-trimmed, kept-trimmed, first-le_place, IsTidy-trimmed}
use Rattle.cml_log.proofs.LogLemmas.{IsTidy-open_cursor, IsTidy-copy_cursor, IsTrimmable-with_item, IsTrimmable-advance}
use Rattle.cml_log.proofs.LogLemmas.{IsTrimmable-close, next_of-opened}

module _ {T : Type 0} where
  -- nothing past the end of the stream is freed
  pub Holds-first_le : (chunk : ℕ) (l : Log T) (stream : List T) → Holds chunk l stream → l.first ≤ length stream
  Holds-first_le chunk l stream holds =
      omega (arith, holds.first, mul-div-le (least (length stream) l.places) chunk, least-le_end (length stream) l.places)

  -- the next place is the number of items that were pushed
  pub Holds-next : (chunk : ℕ) (l : Log T) (stream : List T) → Holds chunk l stream → next_of l ≡ length stream
  Holds-next chunk l stream holds =
      omega (arith, Holds-first_le chunk l stream holds, ap length holds.kept, length-drop l.first stream)

  pub Holds-tidy : (chunk : ℕ) (l : Log T) (stream : List T) → Holds chunk l stream → IsTidy chunk l
  Holds-tidy chunk l stream holds =
      let same = Holds-next chunk l stream holds in
      record {
        first = holds.first ∙ ap (λ end. chunk * (least end l.places / chunk)) (sym same);
        within = λ key place found. omega (arith, same, holds.within key place found);
      }

  -- a tidy log holds a stream of which it shows the end
  pub Holds-from_tidy : (chunk : ℕ) (l : Log T) (stream : List T) → IsTidy chunk l → next_of l ≡ length stream
      → l.kept ≡ drop l.first stream → Holds chunk l stream
  Holds-from_tidy chunk l stream tidy same kept =
      record {
        first = tidy.first ∙ ap (λ end. chunk * (least end l.places / chunk)) same;
        kept = kept;
        within = λ key place found. omega (arith, same, tidy.within key place found);
      }

  -- what a cursor has still to read is the stream from its place on
  pub Holds-owed : (chunk : ℕ) (l : Log T) (stream : List T) (key : ℕ) → Holds chunk l stream → IsOpen l key
      → owed_items l key ≡ drop (place_of l key) stream
  Holds-owed chunk l stream key holds opened =
      let low = first-le_place chunk l key (place_of l key) (Holds-tidy chunk l stream holds) (place_at-open l key opened) in
      let both : l.first + (place_of l key - l.first) ≡ place_of l key = omega arith in
      ap (drop (place_of l key - l.first)) holds.kept ∙ drop-drop (place_of l key - l.first) l.first stream ∙ ap (λ n. drop n stream) both

  -- no open cursor's item was freed, nor any after it
  pub Holds-first_le_place : (chunk : ℕ) (l : Log T) (stream : List T) (key : ℕ) → Holds chunk l stream
      → IsOpen l key → l.first ≤ place_of l key
  Holds-first_le_place chunk l stream key holds opened =
      first-le_place chunk l key (place_of l key) (Holds-tidy chunk l stream holds) (place_at-open l key opened)

  -- a new log holds nothing
  pub Holds-empty : (chunk : ℕ) → Holds {T = T} chunk empty_log []
  Holds-empty chunk =
      record {
        first = rw (zero-div chunk) (omega arith);
        kept = refl;
        within = λ key place found. absurd (cc);
      }

  -- trimming a log that shows the end of a stream
  pub Holds-trimmed : (chunk : ℕ) (l : Log T) (stream : List T) → IsTrimmable chunk l → next_of l ≡ length stream
      → l.kept ≡ drop l.first stream → Holds chunk (trimmed chunk l) stream
  Holds-trimmed chunk l stream ready same shown =
      Holds-from_tidy chunk (trimmed chunk l) stream (IsTidy-trimmed chunk l ready) (next_of-trimmed chunk l ready.kept ∙ same)
      (kept-trimmed chunk l stream ready.kept shown)

  -- a push adds to the stream
  pub Holds-push : (chunk : ℕ) (old new : Log T) (stream : List T) (item : T) → Holds chunk old stream
      → new ≡ trimmed chunk (with_item old item) → Holds chunk new (stream ++ item ∷ [])
  Holds-push chunk old new stream item holds changed =
      let low = Holds-first_le chunk old stream holds in
      let shown : old.kept ++ item ∷ [] ≡ drop old.first (stream ++ item ∷ []) =
      ap (λ ks. ks ++ item ∷ []) holds.kept ∙ sym (drop-append-le old.first stream (item ∷ []) low) in
      let same : next_of (with_item old item) ≡ length (stream ++ item ∷ []) =
      omega (arith, Holds-next chunk old stream holds, length-append old.kept (item ∷ []), length-append stream (item ∷ [])) in
      subst (λ l. Holds chunk l (stream ++ item ∷ [])) (sym changed)
      (Holds-trimmed chunk (with_item old item) (stream ++ item ∷ [])
      (IsTrimmable-with_item chunk old item (Holds-tidy chunk old stream holds)) same shown)

  -- each other change leaves it
  pub Holds-advance : (chunk : ℕ) (old new : Log T) (stream : List T) (key : ℕ) → Holds chunk old stream → IsOpen old key
      → 0 < length (owed_items old key) → new ≡ trimmed chunk (with_place old key (Some (place_of old key + 1))) → Holds chunk new stream
  Holds-advance chunk old new stream key holds opened owed changed =
      subst (λ l. Holds chunk l stream) (sym changed)
      (Holds-trimmed chunk (with_place old key (Some (place_of old key + 1))) stream
      (IsTrimmable-advance chunk old key (Holds-tidy chunk old stream holds) opened owed) (Holds-next chunk old stream holds) holds.kept)

  pub Holds-close : (chunk : ℕ) (old new : Log T) (stream : List T) (key : ℕ) → Holds chunk old stream → IsOpen old key
      → new ≡ trimmed chunk (with_place old key None) → Holds chunk new stream
  Holds-close chunk old new stream key holds opened changed =
      subst (λ l. Holds chunk l stream) (sym changed)
      (Holds-trimmed chunk (with_place old key None) stream (IsTrimmable-close chunk old key (Holds-tidy chunk old stream holds) opened)
      (Holds-next chunk old stream holds) holds.kept)

  Holds-opened : (chunk : ℕ) (old new : Log T) (stream : List T) (key place : ℕ) → Holds chunk old stream → Opens old new key place
      → IsTidy chunk new → Holds chunk new stream
  Holds-opened chunk old new stream key place holds opens tidy =
      Holds-from_tidy chunk new stream tidy (next_of-opened old new key place opens ∙ Holds-next chunk old stream holds)
      (opens.kept ∙ holds.kept ∙ ap (λ n. drop n stream) (sym opens.first))

  pub Holds-open_cursor : (chunk : ℕ) (old new : Log T) (stream : List T) (key : ℕ) → Holds chunk old stream
      → Opens old new key (next_of old) → Holds chunk new stream
  Holds-open_cursor chunk old new stream key holds opens =
      Holds-opened chunk old new stream key (next_of old) holds opens
      (IsTidy-open_cursor chunk old new key (Holds-tidy chunk old stream holds) opens)

  pub Holds-copy_cursor : (chunk : ℕ) (old new : Log T) (stream : List T) (source key : ℕ) → Holds chunk old stream → IsOpen old source
      → Opens old new key (place_of old source) → Holds chunk new stream
  Holds-copy_cursor chunk old new stream source key holds opened opens =
      Holds-opened chunk old new stream key (place_of old source) holds opens
      (IsTidy-copy_cursor chunk old new source key (Holds-tidy chunk old stream holds) opened opens)
