use Rattle.std.proofs.Common.{ap, arith, length}
use Rattle.std.proofs.lemmas.List.{length-map}
use Rattle.std.specs.Prelude.{String, string_bytes}
use Rattle.std.specs.Global.{Global}
use Rattle.cml_grammar.specs.{Named, Given}
use Rattle.cml_report.proofs.plan.Plan.new.Goals as goal

pub returns-clause-known : goal.returns-clause-known
returns-clause-known c = record {
  named = c.in_ok-numbers.ensures.named;
  seats = c.in_ok-turns.ensures.seats;
  given = c.names.ensures.given;
  asks = c.in_ok-givings.ensures.asks;
}

pub invariant_of-result : goal.invariant_of-result
invariant_of-result c = record {
  known = record {
    named = c.in_ok-numbers.ensures.named;
    seats = c.in_ok-turns.ensures.seats;
    given = c.names.ensures.given;
    asks = c.in_ok-givings.ensures.asks;
  };
  total = omega (
    arith,
    c.len.ensures.len,
    length-map {B = Given} c.names.result.now.entries (λ (e : String Global × Named). (string_bytes e.0, e.1)),
    ap length c.names.ensures.names,
  );
  numbered = c.in_ok-numbers.ensures.numbers;
  fed = c.in_ok-feeds.ensures;
  queued = c.in_ok-queues.ensures;
  turned = c.in_ok-turns.ensures.queues;
  giving = c.in_ok-givings.ensures.givings;
}
