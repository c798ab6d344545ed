use Rattle.chip_core.proofs.MessageLemmas.{sent_stands, opening_messages, in_order_from_the_opening}
use Rattle.chip_core.proofs.MessageLemmas.{held_from_the_opening}
use Rattle.chip_core.proofs.laws.messages.Goals as goal

pub returns : goal.returns
returns c = record {
  sent = λ g game some_ring log legal xs e. sent_stands g game some_ring log xs e legal;
  opening = opening_messages;
  in_order = in_order_from_the_opening;
  held = held_from_the_opening;
}
