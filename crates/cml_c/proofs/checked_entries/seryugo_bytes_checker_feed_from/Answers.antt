use Rattle.std.proofs.Common.{rules, ◌∙◌, subst, inl, Option, List, ℕ}
use Rattle.std.specs.Prelude.{⊤}
use Rattle.cml_board.specs.{Entry}
use Rattle.cml_c.specs.{entry_with, FeedsEntry, OnBytes, OnChecker}
use Rattle.cml_c.proofs.checked_entries.seryugo_bytes_checker_feed_from.Goals as goal

pub returns : goal.returns
returns c =
    inl (subst (λ (entry : Option (Entry (List ℕ))).
    OnBytes (OnChecker (FeedsEntry entry c.feed_bytes.result)) ⊤ c.feed_bytes.result c.args.checker.now.owned c.feed_bytes.new.checker)
    (c.into_entry.ensures ∙ (λ i. entry_with (record {
      maker = c.args.maker.now;
      call = c.args.call;
      object = c.args.object;
      sent = c.in-Ok.ensures.copied i;
      reply = c.args.reply;
      name = c.args.name;
      got = c.in-Ok-copied.ensures.copied i;
    })))
    (search rules))
