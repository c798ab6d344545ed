-- Serves Ends.antt, Actor.antt.
-- Each call that makes an event: what its parts require, and its result.
use Rattle.chip_actor.proofs.Names.{nat_tests, ◌≡◌, ◌≢◌, ℕ, zero, suc, ◌+◌, ◌-◌, ◌*◌, ◌<◌, ◌≤◌, ◌^◌, ◌%◌, Bool, cond}
use Rattle.chip_actor.proofs.Names.{if◌then◌else◌, eqb, length, sum, Option, Some, None, IsTrue}
use Rattle.chip_actor.proofs.Names.{option_to_list, refl, ap, ◌∙◌, arith, eq-eqb, Contains, sum_below}
use Rattle.chip_actor.proofs.Names.{tested_term, one_at_most, Message, claims_in, TailState, HeadState, claim_words}
use Rattle.chip_actor.proofs.Names.{put_of, tail_after_clear, message_claimed, message_taken, head_after_take, Tail}
use Rattle.chip_actor.proofs.Names.{claims_of, message_limit, Books, IsSound, sent_of, settled_of, Gets, Acknowledges}
use Rattle.chip_actor.proofs.Names.{Sends, Settles, parent_goes_with_all, within_owed, all_edges, tail_of, mult_of}
use Rattle.chip_actor.proofs.Names.{Cause, cause, Take, Ack, Fire, Clear, Claim, Put, Halt, Settle, Reply, message_of}
use Rattle.chip_actor.proofs.Names.{Done, Got, Sent, Empty, Full, Sealed, OutEnd, OutEnds, InEnds, out_on}
use Rattle.chip_actor.proofs.Names.{in_on, ChangesOut, ChangesOuts, ChangesIn, out_after_clear, out_after_claim}
use Rattle.chip_actor.proofs.Names.{out_after_put, out_after_fire, Actor, SomePart, WhateverPart}
use Rattle.chip_actor.proofs.Names.{is_passive_now, ActorMakes, CanDo, rules_met, at_most_one}
use Rattle.chip_actor.proofs.StandingLemmas.{out_inside, may_ack_is, few_fired}
use Rattle.chip_actor.proofs.SteppingLemmas.{takes, takes_none, settles, acknowledges, halts, clears, may_look, claims}
use Rattle.chip_actor.proofs.SteppingLemmas.{is_refused, puts, fires}
use Rattle.chip_detect.specs.Books as books
use Rattle.chip_detect.specs.Acknowledging as detector

-- ---- a take

-- a message came out of a cell that was not empty
pub message_seen : (seen : ℕ) (h : HeadState) (m : Message) → Some m ≡ message_taken seen h → seen ≢ 0
message_seen seen h m is none = grind (arith, nat_tests)

pub take_made : (a : Actor) (e seen : ℕ) (is : InEnds) (b : Books) (m : Message)
    → ChangesIn a.ins is e (head_after_take seen) → Some m ≡ message_taken seen (in_on a.ins e) → Gets a.detect b e
    → IsSound b
    → ActorMakes a (record a { chips = a.chips + seen; ins = is; detect = b }) (Take e) seen (Got m)
take_made a e seen is b m change message gets sound = λ g s stands can.
    let some = message_seen seen (in_on a.ins e) m message in
    let fits = can.2 some in
    let here = stands.ins e can.0 in
    let is_message : m ≡ message_of e (length (s.into e).got) seen = grind (arith, nat_tests) in (
      takes g s a stands e seen can.0 can.1 some fits.0 is change b gets sound,
      grind (arith, nat_tests),
      refl,
    )

pub take_empty : (a : Actor) (e seen : ℕ) (is : InEnds) → ChangesIn a.ins is e (head_after_take seen)
    → None ≡ message_taken seen (in_on a.ins e) → ActorMakes a (record a { ins = is }) (Take e) seen Empty
take_empty a e seen is change message = λ g s stands can.
    let none : seen ≡ 0 = grind (arith, nat_tests) in
    (takes_none g s a stands e seen none is change, grind (arith, nat_tests), refl)

-- ---- a settle

pub settle_made : (a : Actor) (e seen more : ℕ) (b : Books) → more ≡ seen - settled_of a.detect e
    → Settles a.detect b e more → IsSound b → ActorMakes a (record a { detect = b }) (Settle e) seen (Done more)
settle_made a e seen more b is change sound = λ g s stands can. (
  settles g s a stands e seen can.0 can.1 b (rw (← is) change) sound,
  rw (is, stands.books.settled e can.0) refl,
  refl,
)

-- ---- an acknowledgement

pub ack_made : (a : Actor) (e seen count : ℕ) (b : Books) → count ≡ detector.may_ack a.detect e (is_passive_now a)
    → Acknowledges a.detect b e count → IsSound b → ActorMakes a (record a { detect = b }) (Ack e) seen (Done count)
ack_made a e seen count b is change sound = λ g s stands can.
    let all = is ∙ may_ack_is g s a stands e can.0 in
    let within : count ≤ books.owed a.detect e =
    (let w = within_owed e a.detect.parent (books.owed a.detect e) (books.all_owed a.detect) (books.deficit a.detect)
    (is_passive_now a) in omega arith) in (
      acknowledges g s a stands e count can.0 can.1 all b change sound
          (parent_goes_with_all a.detect b e count stands.books.sound within change) seen,
      ap Done all,
      refl,
    )

-- ---- a halt

pub halt_made : (a : Actor) (seen : ℕ) (halt : Option Cause) (n : ℕ) → WhateverPart a (λ g s. halt ≡ cause g a.vertex s)
    → n ≡ (if eqb a.refused 0 then 1 else 0) → ActorMakes a (record a { halt = halt }) (Halt a.vertex) seen (Done n)
halt_made a seen halt n is reply = λ g s stands can. (
  halts g s a stands a.vertex seen refl can.1 halt (is g s stands),
  rw (reply, stands.refused) refl,
  refl,
)

-- ---- a look at a cell

abbrev pub clear_reply : Option (ℕ × ℕ) → Reply
clear_reply None = Full
clear_reply (Some words) = Done words.0

pub clear_made : (a : Actor) (e seen : ℕ) (os : OutEnds) (words : Option (ℕ × ℕ))
    → words ≡ claim_words (tail_after_clear seen (out_on a.outs e).link) → ChangesOut a.outs os e (out_after_clear seen)
    → ActorMakes a (record a { outs = os }) (Clear e) seen (clear_reply words)
clear_made a e seen os words is change = λ g s stands can.
    let link : Tail = (s.out e).link in
    let looked = Rattle.chip_link.proofs.StatesLemmas.tail_clears e g.ring link seen
    (may_look g s a stands e can.0 can.1) in (
      clears g s a stands e seen can.0 can.1 os change,
      rw (is, stands.outs e can.0, looked) (grind (arith, nat_tests)),
      refl,
    )

-- ---- a claim

-- terms of at most 1 add up to no more than their number
few_terms : (n : ℕ) (t : ℕ → Bool) (f : ℕ → ℕ) → ((e : ℕ) → f e ≤ 1) → sum_below n (λ e. cond (t e) (f e) 0) ≤ n
few_terms zero t f ones = omega arith
few_terms (suc n) t f ones =
    let before = few_terms n t f ones in let here = ones n in grind (arith, nat_tests)

pub record MayClaim (a : Actor) (e seen : ℕ) : Type 0 where
  pub clear : IsTrue (out_on a.outs e).link.clear
  pub word : claims_in seen ≡ (out_on a.outs e).link.claims
  pub some_chips : 1 ≤ (out_on a.outs e).pending
  pub few_chips : (out_on a.outs e).pending ≤ 2 ^ 40
  pub pending : (out_on a.outs e).pending ≤ a.pending
  pub few_unput : a.unput < 2 ^ 32
  pub few_refused : a.refused < 2 ^ 32
  pub room : sent_of a.detect e < message_limit

pub may_claim : (a : Actor) (e seen : ℕ) → SomePart a (λ g s. CanDo g s a.vertex (Claim e) seen) → MayClaim a e seen
may_claim a e seen (g, s, stands, can) =
    let at = can.0 in
    let met = rules_met g (Claim e) s can.1 in
    let out = stands.kept.outs e at in
    let pends = out.clear_pends met.0 met.2 in
    let fewer = out.fewer_yet met.0 pends in
    let fired = few_fired g s a stands in
    let here = stands.outs e at in
    let pending-is : (out_on a.outs e).pending ≡ (s.out e).pending = rw here refl in
    let of-all = tested_term (all_edges g) (λ i. eqb (tail_of g i) a.vertex) (λ i. (s.out i).pending) e (omega arith)
    (eq-eqb _ _ at) in
    let all-is = stands.pending in
    let few-unput = few_terms (all_edges g) (λ i. eqb (tail_of g i) a.vertex)
    (λ i. length (option_to_list (s.out i).link.held)) (λ i. at_most_one (s.out i).link.held) in
    let few-refused = few_terms (all_edges g) (λ i. eqb (tail_of g i) a.vertex) (λ i. cond (s.out i).link.refused 1 0)
    (λ i. one_at_most (s.out i).link.refused) in
    let unput-is = stands.unput in let refused-is = stands.refused in
    let edges = stands.knows.setting.game.graph_fits.few_edges in
    let vertices = stands.knows.setting.game.graph_fits.few_vertices in
    let made = out.all_made in
    let sent = stands.books.sent e at in
    record {
      clear = rw here met.2;
      word = rw here can.2;
      some_chips = omega arith;
      few_chips = (let few = stands.few_pending in omega arith);
      pending = omega arith;
      few_unput = omega arith;
      few_refused = omega arith;
      room = omega arith;
    }

pub claim_made : (a : Actor) (e seen : ℕ) (os : OutEnds) (b : Books) (m : Message)
    → ChangesOut a.outs os e (out_after_claim seen)
    → Some m ≡ message_claimed seen (out_on a.outs e).pending (out_on a.outs e).link → Sends a.detect b e → IsSound b
    → ActorMakes a (record a { outs = os; detect = b; pending = a.pending - m.count; unput = a.unput + 1 }) (Claim e) seen
    (Sent m)
claim_made a e seen os b m change message sends sound = λ g s stands can.
    let n : ℕ = claims_of (s.out e).link in
    let here = stands.outs e can.0 in let hit : seen ≡ n = grind (arith, nat_tests) in
    let is_message : m ≡ message_of e n (s.out e).pending = grind (arith, nat_tests) in (
      rw is_message (claims g s a stands e seen can.0 can.1 os change hit b sends sound),
      grind (arith, nat_tests),
      refl,
    )

pub claim_sealed : (a : Actor) (e seen : ℕ) (os : OutEnds) → ChangesOut a.outs os e (out_after_claim seen)
    → None ≡ message_claimed seen (out_on a.outs e).pending (out_on a.outs e).link
    → ActorMakes a (record a { outs = os; refused = a.refused + 1 }) (Claim e) seen Sealed
claim_sealed a e seen os change message = λ g s stands can.
    let n : ℕ = claims_of (s.out e).link in
    let here = stands.outs e can.0 in let miss : seen ≢ n = (λ z. grind (arith, nat_tests)) in
    (is_refused g s a stands e seen can.0 can.1 os change miss, grind (arith, nat_tests), refl)

-- ---- a put

-- there is a message to put
pub some_unput : (a : Actor) (e seen : ℕ) → SomePart a (λ g s. CanDo g s a.vertex (Put e) seen) → 1 ≤ a.unput
some_unput a e seen (g, s, stands, can) =
    let met = rules_met g (Put e) s can.1 in
    let one : length (option_to_list (s.out e).link.held) ≡ 1 = rw met.1.1 refl in
    let of-all = tested_term (all_edges g) (λ i. eqb (tail_of g i) a.vertex)
    (λ i. length (option_to_list (s.out i).link.held)) e met.0 (eq-eqb _ _ can.0) in
    let all-is = stands.unput in
    omega arith

pub put_made : (a : Actor) (e seen : ℕ) (os : OutEnds) (held : ℕ × ℕ) → put_of (out_on a.outs e).link ≡ Some held
    → ChangesOut a.outs os e out_after_put
    → ActorMakes a (record a { outs = os; unput = a.unput - 1 }) (Put e) seen (Done held.1)
put_made a e seen os held is change = λ g s stands can.
    let met = rules_met g (Put e) s can.1 in
    let count : ℕ = met.1.0 in
    let cell : ℕ = (claims_of (s.out e).link - 1) % g.ring in
    let was = rw (stands.outs e can.0, met.1.1) at is in
    let same : held ≡ (cell, count) = cc in
    let total : count ≡ sum (option_to_list (s.out e).link.held) = rw met.1.1 (omega arith) in
    (puts g s a stands e seen can.0 can.1 os change, rw (same, ← total) refl, refl)

-- ---- a firing

pub fire_fits : (a : Actor) (k seen : ℕ) → SomePart a (λ g s. CanDo g s a.vertex (Fire a.vertex k) seen) → (e : ℕ)
    → Contains a.outs.edges e → k * (out_on a.outs e).mult < 2 ^ 64
fire_fits a k seen (g, s, stands, can) e among =
    let met = rules_met g (Fire a.vertex k) s can.1 in
    let at = Rattle.chip_actor.proofs.StandingLemmas.is_out g s a stands e among in
    let here = ap (λ (o : OutEnd). o.mult) (stands.outs e at) in
    let inside = out_inside g s a stands e at in
    let one = tested_term (all_edges g) (λ i. eqb (tail_of g i) a.vertex) (mult_of g) e (omega arith) (eq-eqb _ _ at) in
    let whole = Rattle.chip_part.proofs.EdgeLemmas.over_outs_graph g a.vertex stands.knows.vertex (mult_of g) in
    let few = stands.few_chips in
    let cost = met.7 in
    let less : (out_on a.outs e).mult ≤ Rattle.chip_graph.specs.Multigraph.degree g.game.graph a.vertex = omega arith in
    let most = Rattle.std.proofs.Math.Nat.mul-le-mul_left k less in
    omega arith

pub fire_made : (a : Actor) (k seen : ℕ) (os : OutEnds) → ChangesOuts a.outs os (out_after_fire k)
    → ActorMakes a (record a { chips = a.chips - k * a.degree; fired = a.fired + k; outs = os; pending = k * a.degree })
    (Fire a.vertex k) seen (Done (a.fired + k))
fire_made a k seen os change = λ g s stands can. (
  fires g s a stands a.vertex k seen refl can.1 os change,
  rw stands.fired refl,
  refl,
)

-- the message that a claim sent carries what was pending
pub message_count : (word n : ℕ) (t : TailState) (m : Message) → Some m ≡ message_claimed word n t → m.count ≡ n
message_count word n t m is = grind (arith, nat_tests)
