use Rattle.cml_grammar.specs.{texts_of}
use Rattle.cml_grammar.proofs.RingLemmas.{feed_said}
use Rattle.cml_grammar.proofs.meaning.feed_by.Goals as goal

pub returns : goal.returns
returns c = simp (
  (feed_said (texts_of c.args.names.now.entries) c.args.rest.now c.requires).1,
  c.given_seat.ensures,
  c.given_position.ensures,
  c.given_capacity.ensures,
)
