use Rattle.chip_actor.proofs.Names.{◌∙◌, sym, arith, the_view, out_on}
use Rattle.chip_actor.proofs.MakingLemmas.{may_claim, message_count, claim_sealed, claim_made}
use Rattle.chip_actor.proofs.actor.ActorState.claim.Goals as goal

pub claim-requires-clause-clear : goal.claim-requires-clause-clear
claim-requires-clause-clear c =
    (may_claim (the_view c.self.inside) c.args.slot.edge c.args.seen
    (rw (← c.self.view_is) at c.requires.can)).clear

pub claim-requires-clause-word : goal.claim-requires-clause-word
claim-requires-clause-word c =
    (may_claim (the_view c.self.inside) c.args.slot.edge c.args.seen
    (rw (← c.self.view_is) at c.requires.can)).word

pub claim-requires-clause-count : goal.claim-requires-clause-count
claim-requires-clause-count c = let may = may_claim (the_view c.self.inside) c.args.slot.edge c.args.seen
    (rw (← c.self.view_is) at c.requires.can) in (may.some_chips, may.few_chips)

pub overflow_add-self : goal.overflow_add-self
overflow_add-self c = let may = may_claim (the_view c.self.inside) c.args.slot.edge c.args.seen
    (rw (← c.self.view_is) at c.requires.can) in let few = may.few_refused in omega arith

pub overflow_sub-self : goal.overflow_sub-self
overflow_sub-self c =
    let may = may_claim (the_view c.self.inside) c.args.slot.edge c.args.seen
    (rw (← c.self.view_is) at c.requires.can) in
    let count = message_count c.args.seen (out_on c.self.inside.outs c.args.slot.edge).pending
    (out_on c.self.inside.outs c.args.slot.edge).link c.in-Some.message (sym c.in-Some.is ∙ c.claim.ensures.message) in
    let enough = may.pending in omega arith

pub overflow_add-self-2 : goal.overflow_add-self-2
overflow_add-self-2 c = let may = may_claim (the_view c.self.inside) c.args.slot.edge c.args.seen
    (rw (← c.self.view_is) at c.requires.can) in let few = may.few_unput in omega arith

pub sent_at-requires-clause-room : goal.sent_at-requires-clause-room
sent_at-requires-clause-room c =
    (may_claim (the_view c.self.inside) c.args.slot.edge c.args.seen
    (rw (← c.self.view_is) at c.requires.can)).room

pub returns-in_default : goal.returns-in_default
returns-in_default c = rw (← c.self.view_is)
    (claim_sealed (the_view c.self.inside) c.args.slot.edge c.args.seen c.claim.new.self c.claim.ensures.after
    (sym c.in_default.is ∙ c.claim.ensures.message))

pub returns : goal.returns
returns c = rw (← c.self.view_is)
    (claim_made (the_view c.self.inside) c.args.slot.edge c.args.seen c.claim.new.self c.sent_at.new.self
    c.in-Some.message c.claim.ensures.after (sym c.in-Some.is
    ∙ c.claim.ensures.message) c.sent_at.ensures.sends c.sent_at.ensures.sound)
