use Rattle.chip_actor.proofs.Names.{◌≡◌, set, OutEnd, out_ends_of, out_on, out_after_claim, ChangesOut}
use Rattle.chip_actor.proofs.EndLemmas.{written_out, apart_out, found_out, claim_keeps, claim_taken, claim_refused}
use Rattle.chip_actor.proofs.ends.outs.Outs.claim.Goals.{After-index_mut-out}
use Rattle.chip_actor.proofs.ends.outs.Outs.claim.Goals as goal

-- the end that was found is the edge's
is : (c : After-index_mut-out) → c.index_mut-out.result.now ≡ out_on c.args.self.now c.args.slot.edge
is c = found_out c.self.view_is c.self.invariant c.requires.slot c.index_mut-out.ensures.value

pub claimed-requires-clause-clear : goal.claimed-requires-clause-clear
claimed-requires-clause-clear c =
    rw (is (goal.at.claimed-requires-clause-clear c).After-index_mut-out) c.requires.clear

pub claimed-requires-clause-word : goal.claimed-requires-clause-word
claimed-requires-clause-word c = rw (is (goal.at.claimed-requires-clause-word c).After-index_mut-out) c.requires.word

pub claimed-requires-clause-count : goal.claimed-requires-clause-count
claimed-requires-clause-count c =
    rw (is (goal.at.claimed-requires-clause-count c).After-index_mut-out) c.requires.count

-- what a claim leaves at the place that was found
wrote : (c : After-index_mut-out) → (new : OutEnd) → new ≡ out_after_claim c.args.word c.index_mut-out.result.now
    → ChangesOut c.args.self.now (out_ends_of (set c.self.inside.ends.items c.args.slot.index new)) c.args.slot.edge
    (out_after_claim c.args.word)
wrote c new eq =
    let old : OutEnd = c.index_mut-out.result.now in
    written_out c.self.view_is c.self.invariant c.requires.slot c.index_mut-out.ensures.value new
    (rw eq (claim_keeps c.args.word old.pending old.link)) (out_after_claim c.args.word) eq

pub returns-clause-message : goal.returns-clause-message
returns-clause-message c =
    rw (← is (goal.at.returns-clause-message c).After-index_mut-out) c.in_ok-message.ensures.message

pub returns-clause-after : goal.returns-clause-after
returns-clause-after c =
    let o : OutEnd = c.index_mut-out.result.now in
    wrote (goal.at.returns-clause-after c).After-index_mut-out (record o { pending = 0; link = c.claimed.new.self })
    (rw c.claimed.ensures.after (claim_taken c.args.word o c.in_ok-message.message c.in_ok-message.ensures.message))

pub returns-in_err-message-clause-message : goal.returns-in_err-message-clause-message
returns-in_err-message-clause-message c =
    rw (c.from_residual.ensures, ← is (goal.at.returns-in_err-message-clause-message c).After-index_mut-out)
    c.in_err-message.ensures.message

pub returns-in_err-message-clause-after : goal.returns-in_err-message-clause-after
returns-in_err-message-clause-after c =
    let o : OutEnd = c.index_mut-out.result.now in
    wrote (goal.at.returns-in_err-message-clause-after c).After-index_mut-out (record o { link = c.claimed.new.self })
    (rw c.claimed.ensures.after (claim_refused c.args.word o c.in_err-message.ensures.message))

pub invariant_of-self : goal.invariant_of-self
invariant_of-self c =
    let old : OutEnd = c.index_mut-out.result.now in
    apart_out c.self.view_is c.self.invariant c.requires.slot c.index_mut-out.ensures.value
    (record old { link = c.claimed.new.self })
    (rw c.claimed.ensures.after (claim_keeps c.args.word old.pending old.link))

pub invariant_of-self-2 : goal.invariant_of-self-2
invariant_of-self-2 c =
    let old : OutEnd = c.index_mut-out.result.now in
    apart_out c.self.view_is c.self.invariant c.requires.slot c.index_mut-out.ensures.value
    (record old { pending = 0; link = c.claimed.new.self })
    (rw c.claimed.ensures.after (claim_keeps c.args.word old.pending old.link))
