use Rattle.std.proofs.Common.{◌∙◌, sym}
use Rattle.examples.proofs.EndLemmas.{sets_off, stands}
use Rattle.examples.proofs.games.avalanche.Goals as goal

pub drop_chips-avalanche-requires-clause-stable : goal.drop_chips-avalanche-requires-clause-stable
drop_chips-avalanche-requires-clause-stable c = stands _ _ c.in_ok-outcome.ensures.played
    (sym c.is_closed.ensures ∙ c.if-not-is_closed.false) c.in_ok-pile.pile c.in_ok-pile.ensures.game
    c.in_ok-pile.ensures.chips

pub returns : goal.returns
returns c = sets_off c.args.game c.in_ok-outcome.outcome c.in_ok-outcome.ensures.played c.in_ok-pile.pile
    c.drop_chips-avalanche.result.0 c.in_ok-pile.ensures.game c.in_ok-pile.ensures.chips c.args.vertex c.args.count
    c.drop_chips-avalanche.result.1 c.drop_chips-avalanche.ensures.avalanche
