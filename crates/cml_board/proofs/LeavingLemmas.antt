-- What the calls on variables tell.
use Rattle.std.proofs.Common.{◌≡◌, ◌≢◌, ℕ, true, false, cond, List, [], ◌∷◌, ◌++◌, length, slice_get, Option, Some}
use Rattle.std.proofs.Common.{None, unwrap_or, refl, sym, ap, ◌∙◌}
use Rattle.std.proofs.lemmas.Bool.{eq-eqb, ne_eqb, false≢true}
use Rattle.std.proofs.lemmas.List.{append-nil}
use Rattle.cml_board.specs.{Name, Call, Who, Reply, Entry, Origin, asked_call, reads_variable, empties, only_at, left_by, held, made}
use Rattle.cml_board.specs.{if_made, begun_by, origin_of, sent_by, got_by, closes, facts_of}
use Rattle.cml_board.specs.declared.call.Call.TheVariants as call
use Rattle.cml_calls.specs.{Ask}
use Rattle.cml_calls.specs.declared.table.Ask.TheVariants as ask
use Rattle.cml_board.specs.declared.entry.Reply.TheVariants.{Done, Got, Nothing, Put}
use Rattle.cml_board.proofs.UnmadeLemmas.{facts_equal, none_at}
use Rattle.cml_board.proofs.TellingLemmas.{noted, stays_open, none_sent, none_got, same_facts}

module _ {M : Type 0} where
  -- a call that makes, sends, receives and closes nothing
  pub record Spares (asked : Call M) (reply : Reply M) : Type 0 where
    pub makes : (origins : List Origin) (h : List (Entry M)) → if_made reply (begun_by origins h asked) ≡ []
    pub sends : (k : ℕ) → sent_by asked k ≡ []
    pub gets : (k : ℕ) → got_by asked reply k ≡ []
    pub shuts : (k : ℕ) → closes asked reply k ≡ false

  spared_origin : (h : List (Entry M)) (who : Who) (asked : Call M) (reply : Reply M) (k : ℕ) → Spares asked reply
      → origin_of (noted who asked reply ∷ h) k ≡ origin_of h k
  spared_origin h who asked reply k spares =
      ap (λ origins. slice_get (made h ++ origins) k) (spares.makes (made h) h) ∙ ap (λ origins. slice_get origins k) (append-nil (made h))

  pub spared_made : (h : List (Entry M)) (who : Who) (asked : Call M) (reply : Reply M) → Spares asked reply
      → length (made (noted who asked reply ∷ h)) ≡ length (made h)
  spared_made h who asked reply spares =
      ap (λ origins. length (made h ++ origins)) (spares.makes (made h) h) ∙ ap length (append-nil (made h))

  -- where it leaves nothing in a variable, nothing changes
  pub spared_same : (h : List (Entry M)) (who : Who) (asked : Call M) (reply : Reply M) (k : ℕ)
      → Spares asked reply → left_by asked reply k ≡ None
      → facts_of (noted who asked reply ∷ h) k ≡ facts_of h k
  spared_same h who asked reply k spares leaves =
      same_facts h (noted who asked reply) k (spared_origin h who asked reply k spares) (spares.sends k)
      (spares.gets k) (spares.shuts k) leaves

  -- one that leaves this in a variable changes what it holds
  pub record Sets (asked : Call M) (reply : Reply M) (name : Name) (value : Option M) : Type 0 where
    pub spares : Spares asked reply
    pub leaves : (k : ℕ) → left_by asked reply k ≡ only_at name k value

  pub set_here : (h : List (Entry M)) (who : Who) (asked : Call M) (reply : Reply M) (name : Name) (value : Option M)
      → Sets asked reply name value
      → facts_of (noted who asked reply ∷ h) name.0 ≡ record (facts_of h name.0) { held = value }
  set_here h who asked reply name value sets =
      let entry : Entry M = noted who asked reply in
      facts_equal (facts_of (entry ∷ h) name.0) (record (facts_of h name.0) { held = value })
      (spared_origin h who asked reply name.0 sets.spares) (stays_open h entry name.0 (sets.spares.shuts name.0))
      (none_sent h entry name.0 (sets.spares.sends name.0)) (none_got h entry name.0 (sets.spares.gets name.0))
      (ap (λ left. unwrap_or left (held h name.0))
      (sets.leaves name.0 ∙ ap (λ t. cond t (Some value) None) (eq-eqb name.0 name.0 refl)))

  -- and nothing else
  pub set_other : (h : List (Entry M)) (who : Who) (asked : Call M) (reply : Reply M) (name : Name) (value : Option M) (k : ℕ)
      → Sets asked reply name value
      → k ≢ name.0 → facts_of (noted who asked reply ∷ h) k ≡ facts_of h k
  set_other h who asked reply name value k sets other =
      spared_same h who asked reply k sets.spares (sets.leaves k ∙ none_at name k value (ne_eqb name.0 k (λ same. other (sym same))))

  -- a put, which finds a variable empty or full
  pub filled_sets : (name : Name) (message : M) → Sets (call.Put name message) Done name (Some message)
  filled_sets name message = record {
    spares = record { makes = λ origins h. refl; sends = λ k. refl; gets = λ k. refl; shuts = λ k. refl };
    leaves = λ k. refl;
  }

  pub full_spares : (name : Name) (message : M) → Spares (call.Put name message) Put
  full_spares name message = record { makes = λ origins h. refl; sends = λ k. refl; gets = λ k. refl; shuts = λ k. refl }

  -- a swap
  pub swapped_sets : (name : Name) (message old : M) → Sets (call.Swap name message) (Got old) name (Some message)
  swapped_sets name message old = record {
    spares = record { makes = λ origins h. refl; sends = λ k. refl; gets = λ k. refl; shuts = λ k. refl };
    leaves = λ k. refl;
  }

  -- a call that reads
  pub read_spares : (asks : Ask) (name : Name) (message : M) → reads_variable asks ≡ true → Spares (asked_call asks name) (Got message)
  read_spares ask.Get name message is = record { makes = λ origins h. refl; sends = λ k. refl; gets = λ k. refl; shuts = λ k. refl }
  read_spares ask.GetPoll name message is = record { makes = λ origins h. refl; sends = λ k. refl; gets = λ k. refl; shuts = λ k. refl }
  read_spares ask.Take name message is = record { makes = λ origins h. refl; sends = λ k. refl; gets = λ k. refl; shuts = λ k. refl }
  read_spares ask.TakePoll name message is = record { makes = λ origins h. refl; sends = λ k. refl; gets = λ k. refl; shuts = λ k. refl }
  read_spares other name message is = absurd (false≢true is)

  pub read_leaves : (asks : Ask) (name : Name) (message : M) (k : ℕ) → reads_variable asks ≡ true → empties asks ≡ false
      → left_by (asked_call asks name) (Got message) k ≡ None
  read_leaves ask.Get name message k is stays = refl
  read_leaves ask.GetPoll name message k is stays = refl
  read_leaves ask.Take name message k is stays = absurd (false≢true (sym stays))
  read_leaves ask.TakePoll name message k is stays = absurd (false≢true (sym stays))
  read_leaves other name message k is stays = absurd (false≢true is)

  pub taken_sets : (asks : Ask) (name : Name) (message : M) → empties asks ≡ true → Sets (asked_call asks name) (Got message) name None
  taken_sets ask.Take name message takes = record { spares = read_spares ask.Take name message refl; leaves = λ k. refl }
  taken_sets ask.TakePoll name message takes = record { spares = read_spares ask.TakePoll name message refl; leaves = λ k. refl }
  taken_sets other name message takes = absurd (false≢true takes)

  -- and one that finds nothing
  pub empty_spares : (asks : Ask) (name : Name) → reads_variable asks ≡ true → Spares (asked_call {M = M} asks name) Nothing
  empty_spares ask.Get name is = record { makes = λ origins h. refl; sends = λ k. refl; gets = λ k. refl; shuts = λ k. refl }
  empty_spares ask.GetPoll name is = record { makes = λ origins h. refl; sends = λ k. refl; gets = λ k. refl; shuts = λ k. refl }
  empty_spares ask.Take name is = record { makes = λ origins h. refl; sends = λ k. refl; gets = λ k. refl; shuts = λ k. refl }
  empty_spares ask.TakePoll name is = record { makes = λ origins h. refl; sends = λ k. refl; gets = λ k. refl; shuts = λ k. refl }
  empty_spares other name is = absurd (false≢true is)

  pub empty_leaves : (asks : Ask) (name : Name) (k : ℕ) → reads_variable asks ≡ true
      → left_by (asked_call {M = M} asks name) Nothing k ≡ None
  empty_leaves ask.Get name k is = refl
  empty_leaves ask.GetPoll name k is = refl
  empty_leaves ask.Take name k is = refl
  empty_leaves ask.TakePoll name k is = refl
  empty_leaves other name k is = absurd (false≢true is)
