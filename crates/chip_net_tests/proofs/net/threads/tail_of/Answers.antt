use Rattle.std.proofs.lemmas.List.Elements.{All-take, All-drop}
use Rattle.std.proofs.Common.{◌≡◌}
use Rattle.chip_net_tests.proofs.net.threads.tail_of.Goals as goal

pub returns-in_err-tail-clause-first : goal.returns-in_err-tail-clause-first
returns-in_err-tail-clause-first c = rw c.in_err-tail.ensures.err c.requires

pub returns-clause-first : goal.returns-clause-first
returns-clause-first c = rw c.in_ok-tail.ensures.items (All-take (λ a. a.net ≡ c.args.net.now) _ _ c.requires)

pub returns-clause-tail : goal.returns-clause-tail
returns-clause-tail c = rw c.in_ok-tail.ensures.tail (All-drop (λ a. a.net ≡ c.args.net.now) _ _ c.requires)
