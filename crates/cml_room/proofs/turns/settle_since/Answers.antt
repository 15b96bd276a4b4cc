use Rattle.cml_room.proofs.BringingLemmas.{Brings, since_brings}
use Rattle.cml_room.proofs.turns.settle_since.Goals.{After-latest_news-news}
use Rattle.cml_room.proofs.turns.settle_since.Goals as goal

brings : (g : _) (c : After-latest_news-news g) → Brings c.latest_news-news.result c.requires.before.board c.args.floor.now.board
brings g c = since_brings c.args.before c.requires.before c.args.floor.now c.board.result.now c.latest_news-news.result
    c.requires.had c.requires.deed c.board.ensures.board c.latest_news-news.ensures.none c.latest_news-news.ensures.latest

pub settle-requires-clause-was : goal.settle-requires-clause-was
settle-requires-clause-was g c = record {
  before = c.requires.before;
  watched = c.requires.watched;
  follows = (brings g (goal.at.settle-requires-clause-was g c).After-latest_news-news).follows;
}

pub settle-requires-clause-of : goal.settle-requires-clause-of
settle-requires-clause-of g c = (brings g (goal.at.settle-requires-clause-of g c).After-latest_news-news).of

pub returns-clause-settles : goal.returns-clause-settles
returns-clause-settles g c = (c.latest_news-news.result, c.settle.ensures.settles)
