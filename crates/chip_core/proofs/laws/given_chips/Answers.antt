use Rattle.chip_core.proofs.NumberLemmas.{unfed_is_the_start, feeds_are_sent}
use Rattle.chip_core.proofs.MessageLemmas.{given_is_fed}
use Rattle.chip_core.proofs.GivenLemmas.{played_is_game, given_by_the_record, unfed_records}
use Rattle.chip_core.proofs.laws.given_chips.Goals as goal

pub returns : goal.returns
returns c = record {
  fed = given_is_fed;
  unfed = unfed_is_the_start;
  sent = feeds_are_sent;
  game = played_is_game;
  recorded = given_by_the_record;
  unfed_record = λ g game some_ring log legal off. unfed_records g game some_ring off log legal;
}
