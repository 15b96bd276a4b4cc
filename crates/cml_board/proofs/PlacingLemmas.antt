-- A change of one object is a change of the list of all.
use Rattle.std.proofs.Common.{◌≡◌, ℕ, zero, suc, ◌-◌, ◌<◌, List, [], ◌∷◌, ◌++◌, length, get_or, slice_get, slice_set}
use Rattle.std.proofs.Common.{Option, Some, sym, ap, subst, ◌∙◌, arith}
use Rattle.std.specs.Option.{option_and_then}
use Rattle.std.proofs.lemmas.List.{length-map, map-append, map-set}
use Rattle.std.proofs.lemmas.Option.{same_Some, none-some, slice_get_within}
use Rattle.cml_log.specs.Log.{Log}
use Rattle.cml_log.specs.{place_of}
use Rattle.cml_board.specs.{Object, Name, map_log, seen_all, log_in, held_in, with_held, log_at, on_log, shut, HasLog, HasVariable, OpensIn}
use Rattle.cml_board.specs.{OpensAt, AddsPort, ClosesPort, SetsHeld, open_port, closed_port}
use Rattle.cml_board.specs.declared.object.Object.TheVariants.{Mailbox, Channel, Port, Variable}
use Rattle.cml_board.specs.declared.object.Reading.TheVariants.{Open, Closed}

module _ {M A B : Type 0} where
  pub seen_set : (log : A → B) (f : B → B) (xs : List (Object M A)) (i : ℕ) (x y : Object M A) → i < length xs → x ≡ get_or xs i x
      → map_log log y ≡ map_log f (map_log log x) → seen_all log (slice_set xs i y) ≡ on_log f (seen_all log xs) i
  seen_set log f [] i x y within read changed = absurd (omega arith)
  seen_set log f (z ∷ xs) zero x y within read changed =
      ap (λ o. o ∷ seen_all log xs) (changed ∙ ap (λ o. map_log f (map_log log o)) read)
  seen_set log f (z ∷ xs) (suc i) x y within read changed =
      ap (λ os. map_log log z ∷ os) (seen_set log f xs i x y (omega arith) read changed)

  pub seen_kept : (log : A → B) (xs : List (Object M A)) (i : ℕ) (x y : Object M A) → i < length xs → x ≡ get_or xs i x
      → map_log log y ≡ map_log log x → seen_all log (slice_set xs i y) ≡ seen_all log xs
  seen_kept log [] i x y within read same = absurd (omega arith)
  seen_kept log (z ∷ xs) zero x y within read same =
      ap (λ o. o ∷ seen_all log xs) (same ∙ ap (map_log log) read)
  seen_kept log (z ∷ xs) (suc i) x y within read same =
      ap (λ os. map_log log z ∷ os) (seen_kept log xs i x y (omega arith) read same)

  pub seen_read : (log : A → B) (xs : List (Object M A)) (i : ℕ) (x : Object M A) → i < length xs → x ≡ get_or xs i x
      → slice_get (seen_all log xs) i ≡ Some (map_log log x)
  seen_read log [] i x within read = absurd (omega arith)
  seen_read log (z ∷ xs) zero x within read = ap (λ o. Some (map_log log o)) (sym read)
  seen_read log (z ∷ xs) (suc i) x within read = seen_read log xs i x (omega arith) read

  pub log_read : (log : A → B) (xs : List (Object M A)) (i : ℕ) (x : Object M A) → i < length xs → x ≡ get_or xs i x
      → log_at (seen_all log xs) i ≡ log_in (map_log log x)
  log_read log xs i x within read = ap (option_and_then log_in) (seen_read log xs i x within read)

  pub seen_pushed : (log : A → B) (xs ys : List (Object M A)) (x : Object M A) → ys ≡ xs ++ x ∷ []
      → seen_all log ys ≡ seen_all log xs ++ map_log log x ∷ []
  seen_pushed log xs ys x pushed = ap (seen_all log) pushed ∙ map-append (map_log log) xs (x ∷ [])

module _ {A M : Type 0} where
  -- one more cursor in an object's log is one more in the list
  pub opens_at : (log : A → Log M) (xs : List (Object M A)) (i : ℕ) (x y : Object M A) (key : ℕ) (from : Log M → ℕ)
      → i < length xs → x ≡ get_or xs i x
      → OpensIn (map_log log x) (map_log log y) key from → OpensAt (seen_all log xs) (seen_all log (slice_set xs i y)) i key from
  opens_at log xs i x y key from within read opens = record {
    stands = record { log = opens.was; found = log_read log xs i x within read ∙ opens.found };
    log = opens.log;
    opens = opens.opens;
    changed = seen_set log (λ _. opens.log) xs i x y within read opens.changed;
  }

  pub log_within : (log : A → Log M) (xs : List (Object M A)) (i : ℕ) → HasLog (seen_all log xs) i → i < length xs
  log_within log xs i stands = by_length xs i stands.log stands.found
    where
      by_length : (xs : List (Object M A)) (i : ℕ) (l : Log M) → log_at (seen_all log xs) i ≡ Some l → i < length xs
      by_length [] i l found = absurd (none-some l found)
      by_length (x ∷ xs) zero l found = omega arith
      by_length (x ∷ xs) (suc i) l found = omega (arith, by_length xs i l found)

  -- memory was reserved, and the object in whose log it is shows the same
  pub kept_reserved : (log : A → Log M) (olds xs : List (Object M A)) (i : ℕ) (x y : Object M A) → HasLog (seen_all log olds) i
      → xs ≡ olds → x ≡ get_or xs i x → map_log log y ≡ map_log log x → seen_all log (slice_set xs i y) ≡ seen_all log olds
  kept_reserved log olds xs i x y stands same read kept =
      seen_kept log xs i x y (omega (arith, log_within log olds i stands, ap length same)) read kept ∙ ap (seen_all log) same

  -- memory was reserved, and a port was added after it
  pub adds_port : (log : A → Log M) (olds xs ys : List (Object M A)) (source : Name) (x y : Object M A)
      (key start : ℕ) (from : Log M → ℕ) (was : Log M)
      → HasLog (seen_all log olds) source.0 → xs ≡ olds → x ≡ get_or xs source.0 x → OpensIn (map_log log x) (map_log log y) key from
      → log_in (map_log log x) ≡ Some was → start ≡ from was
      → ys ≡ slice_set xs source.0 y ++ Port (record { channel = source; start = start; reading = Open key }) ∷ []
      → AddsPort (seen_all log olds) (seen_all log ys) source.0 from
  unfolding opens_at
  adds_port log olds xs ys source x y key start from was stands reserved read opens found starts pushed =
      let within : source.0 < length xs = omega (arith, log_within log olds source.0 stands, ap length reserved) in
      let after = slice_set xs source.0 y in
      let same : was ≡ opens.was = same_Some _ _ (sym found ∙ opens.found) in
      subst (λ os. AddsPort (seen_all log os) (seen_all log ys) source.0 from) reserved (record {
        key = key;
        after = seen_all log after;
        opens = opens_at log xs source.0 x y key from within read opens;
        changed =
            seen_pushed log after ys (Port (record { channel = source; start = start; reading = Open key })) pushed
            ∙ ap (λ s. seen_all log after ++ open_port source.0 s key ∷ []) (starts ∙ ap from same);
      })

  -- a port was closed
  pub closes_port : (chunk : ℕ) (log : A → Log M) (xs : List (Object M A)) (name source : Name) (x y : Object M A)
      (start key place : ℕ) (was : Log M)
      → source.0 < length xs → x ≡ get_or xs source.0 x → log_in (map_log log x) ≡ Some was → place ≡ place_of was key
      → map_log log y ≡ map_log (shut chunk key) (map_log log x)
      → ClosesPort chunk (seen_all log xs)
      (seen_all log
      (slice_set (slice_set xs source.0 y) name.0 (Port (record { channel = source; start = start; reading = Closed (place - start) }))))
      name.0 source.0 start key
  closes_port chunk log xs name source x y start key place was within read found at changed =
      let shut_log = slice_set xs source.0 y in
      record {
        log = was;
        found = log_read log xs source.0 x within read ∙ found;
        changed =
            map-set (map_log log) shut_log name.0 (Port (record { channel = source; start = start; reading = Closed (place - start) }))
            ∙ ap (λ os. slice_set os name.0 (closed_port source.0 start (place - start)))
            (seen_set log (shut chunk key) xs source.0 x y within read changed)
            ∙ ap (λ p. slice_set (on_log (shut chunk key) (seen_all log xs) source.0) name.0 (closed_port source.0 start (p - start))) at;
      }

  -- a variable was given another value
  pub sets_held : (log : A → Log M) (xs : List (Object M A)) (i : ℕ) (x y : Object M A) (was value : Option M)
      → i < length xs → x ≡ get_or xs i x
      → held_in x ≡ Some was → y ≡ with_held value x → SetsHeld (seen_all log xs) (seen_all log (slice_set xs i y)) i was value
  sets_held log xs i x y was value within read holds changed = by_object x y read holds changed
    where
      by_object : (x y : Object M A) → x ≡ get_or xs i x → held_in x ≡ Some was → y ≡ with_held value x
          → SetsHeld (seen_all log xs) (seen_all log (slice_set xs i y)) i was value
      by_object (Mailbox l key) y read holds changed = absurd (none-some was holds)
      by_object (Channel l) y read holds changed = absurd (none-some was holds)
      by_object (Port p) y read holds changed = absurd (none-some was holds)
      by_object (Variable form held) y read holds changed = record {
        form = form;
        found = seen_read log xs i (Variable form held) within read ∙ ap (λ h. Some (Variable form h)) (same_Some _ _ holds);
        changed = map-set (map_log log) xs i y ∙ ap (λ o. slice_set (seen_all log xs) i (map_log log o)) changed;
      }

  pub variable_within : (log : A → Log M) (xs : List (Object M A)) (i : ℕ) → HasVariable (seen_all log xs) i → i < length xs
  variable_within log xs i stands =
      omega (arith, slice_get_within (seen_all log xs) i (Variable stands.form stands.held) stands.found, length-map xs (map_log log))
