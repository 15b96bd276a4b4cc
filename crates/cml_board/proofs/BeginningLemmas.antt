-- What the calls that make an object tell of it.
use Rattle.std.proofs.Common.{◌≡◌, ℕ, ◌+◌, cond, List, length, Some, None, unwrap_or, refl, sym, ap, ◌∙◌}
use Rattle.std.proofs.lemmas.Bool.{eq-eqb, ne_eqb}
use Rattle.cml_board.specs.{Name, Entry, Form, mailbox, channel, port, mvar, copy_of, variable_call, made, origin_of, sent, got, begun_as}
use Rattle.cml_board.specs.declared.call.Call.TheVariants.{NewMailbox, NewChannel, NewPort, CopyPort, MVarInit}
use Rattle.cml_board.specs.declared.object.Form.TheVariants.{Once, Mutable}
use Rattle.cml_board.proofs.UnmadeLemmas.{none_at}
use Rattle.cml_board.proofs.TellingLemmas.{Makes}

module _ {M : Type 0} where
  pub mailbox_makes : (h : List (Entry M)) (n : Name) → Makes h NewMailbox n mailbox None
  mailbox_makes h n =
      record { begins = refl; sends = λ k. refl; gets = λ k reply. refl; shuts = λ k reply. refl; leaves = refl; others = λ k other. refl }

  pub channel_makes : (h : List (Entry M)) (n : Name) → Makes h NewChannel n channel None
  channel_makes h n =
      record { begins = refl; sends = λ k. refl; gets = λ k reply. refl; shuts = λ k reply. refl; leaves = refl; others = λ k other. refl }

  -- a port, at its channel's end
  pub port_makes : (h : List (Entry M)) (c n : Name) → Makes h (NewPort c) n (port c.0 (length (sent h c.0))) None
  port_makes h c n =
      record { begins = refl; sends = λ k. refl; gets = λ k reply. refl; shuts = λ k reply. refl; leaves = refl; others = λ k other. refl }

  -- a port, at another port's place
  pub copy_makes : (h : List (Entry M)) (p n : Name) (source start : ℕ) → origin_of h p.0 ≡ Some (port source start)
      → Makes h (CopyPort p) n (port source (start + length (got h p.0))) None
  copy_makes h p n source start begun = record {
    begins = ap (λ o. copy_of o (length (got h p.0))) begun;
    sends = λ k. refl;
    gets = λ k reply. refl;
    shuts = λ k reply. refl;
    leaves = refl;
    others = λ k other. refl;
  }

  -- an empty variable
  pub variable_makes : (h : List (Entry M)) (form : Form) (n : Name) → Makes h (variable_call form) n (begun_as form) None
  variable_makes h Once n =
      record { begins = refl; sends = λ k. refl; gets = λ k reply. refl; shuts = λ k reply. refl; leaves = refl; others = λ k other. refl }
  variable_makes h Mutable n =
      record { begins = refl; sends = λ k. refl; gets = λ k reply. refl; shuts = λ k reply. refl; leaves = refl; others = λ k other. refl }

  -- an m-variable that holds something from the start
  pub full_makes : (h : List (Entry M)) (message : M) (n : Name) → n.0 ≡ length (made h) → Makes h (MVarInit message) n mvar (Some message)
  full_makes h message n next = record {
    begins = refl;
    sends = λ k. refl;
    gets = λ k reply. refl;
    shuts = λ k reply. refl;
    leaves = ap (λ t. unwrap_or (cond t (Some (Some message)) None) None) (eq-eqb n.0 (length (made h)) next);
    others = λ k other. none_at n k (Some message) (ne_eqb n.0 k (λ same. other (sym same ∙ next)));
  }
