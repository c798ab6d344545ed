-- Serves Flooding.antt.
-- The invariant of a flood under each event, and that it ends with exactly the reachable processes marked.
use Rattle.chip_flooding.proofs.Names.{◌≡◌, ◌≢◌, ℕ, ◌+◌, ◌<◌, ◌≤◌, Bool, true, false, cond, List, [], ◌∷◌, get_or, set}
use Rattle.chip_flooding.proofs.Names.{replicate, sym, ap, ◌∙◌, arith, rules, length-set, nat_tests, length-replicate}
use Rattle.chip_flooding.proofs.Names.{get_or-replicate, get_or_past, get_or_read, dite, dec_lt, ℕ_discrete}
use Rattle.chip_flooding.proofs.Names.{quiet_closes, counted, World, Send, Get, Ack, Settle, Work, Happens, IsQuiescent}
use Rattle.chip_flooding.proofs.Names.{HasClosedRoot, Network, IsPath, is_marked, MarksReached, Marking, IsFlooding}
use Rattle.chip_flooding.proofs.Names.{IsFlooded, due_on, net, world, State, IsTopology, AreOpeningProcesses, IsLegalState, allowed}
use Rattle.chip_flooding.proofs.RunLemmas.{set_at}

-- p reads an edge that is another process's
pub passes : (n : Network) (w : World) (marked : List Bool) (done : List ℕ) (p e : ℕ) → n.tail e ≢ p
    → IsFlooding n w marked done p e → IsFlooding n w marked done p (e + 1)
passes n w marked done p e tail was = let same = λ (i : ℕ). ap n.tail {x = i} {y = e} in search (rules, arith, nat_tests)

module _ (net : Network) (old new : World) (marked : List Bool) (done : List ℕ) where
  pub sends : (p e : ℕ) → net.tail e ≡ p → is_marked marked p ≡ true → IsFlooding net old marked done p e
      → Happens net old (Send e) new → IsFlooding net new marked done p (e + 1)
  sends p e tail mark was step = let k = counted net old new (Send e) step in search (rules, arith, nat_tests)

  pub rests : (p first : ℕ) → net.edges ≤ first → IsFlooding net old marked done p first → Happens net old (Work p) new
      → (new p).passive ≡ true → IsFlooding net new marked done net.parts net.edges
  rests p first all was step passive = let k = counted net old new (Work p) step in search (rules, arith, nat_tests)

  pub gets : (e p : ℕ) (b : Bool) → e < net.edges → p ≡ net.head e → p < net.parts → b ≡ is_marked marked p
      → is_marked marked (net.tail e) ≡ true → get_or done e 0 ≡ 0 → IsFlooding net old marked done net.parts net.edges
      → Happens net old (Get e) new → IsFlooding net new (set marked p true) (set done e 1) p (cond b net.edges 0)
  gets e p b l head part mark tail none was step =
      let marks = λ (q : ℕ). set_at marked p q true false (rw was.all_marked part) in record {
        all_marked = length-set marked p true ∙ was.all_marked;
        all_done = length-set done e 1 ∙ was.all_done;
        root = let m = marks net.root in let b = was.root in grind (arith, nat_tests);
        reached = λ q on. let way = was.reached (net.tail e) tail in let m = marks q in dite (ℕ_discrete q p)
            (λ z. (e ∷ way.0, (l, sym (z ∙ head), way.1))) (λ other. was.reached q (grind (arith, nat_tests)));
        passive = λ q m other. let s = step.others q in let b = was.passive q m in grind (arith, nat_tests);
        edges = λ i m. let k = counted net old new (Get e) step i in let b = was.edges i m in let t = marks (net.tail i) in
            let h = marks (net.head i) in let d = set_at done e i 1 0 (rw was.all_done l) in search (rules, arith, nat_tests);
      }

  -- an acknowledgement, which the tail settles at once
  pub answers : (mid : World) (e n : ℕ) → e < net.edges → get_or done e 0 ≡ 1 → n ≡ 1
      → IsFlooding net old marked done net.parts net.edges → Happens net old (Ack e n) mid
      → Happens net mid (Settle e n) new → IsFlooding net new marked (set done e 2) net.parts net.edges
  answers mid e n l got one was acks hears = let a = counted net old mid (Ack e n) acks in
      let b = counted net mid new (Settle e n) hears in let d = λ (i : ℕ). set_at done e i 2 0 (rw was.all_done l) in
      let all = length-set done e 2 in search (rules, arith, nat_tests)

-- at the end
pub marks_reached : (m : Marking) → let n = net m.run in IsFlooded m → IsQuiescent n (world m.run) → MarksReached n m.marked.items
marks_reached m was quiescent = record { count_is = was.all_marked; each = λ p l. (was.reached p, λ way. along way.0 p way.1) }
  where
    along : (es : List ℕ) (p : ℕ) → IsPath (net m.run) es p → is_marked m.marked.items p ≡ true
    along [] p at = rw at was.root
    along (e ∷ es) p (l, head, way) = rw (← head) (let a = was.edges e l in let b = quiescent.delivered e l in
        let tail = along es ((net m.run).tail e) way in grind (arith, nat_tests))

-- ---- the beginning

pub starts : (s : State) → let n = net s in IsTopology s.topology → AreOpeningProcesses s.topology n.parts s.processes
    → IsFlooding n (world s) (set (replicate n.parts false) n.root true) (replicate n.edges 0) n.root 0
starts s is opening = let n = net s in let none = replicate n.parts false in
    let off : (q : ℕ) → is_marked none q ≡ false = λ q. dite (dec_lt q n.parts) (get_or-replicate n.parts q false false)
    (λ no. get_or_past none q false (rw length-replicate (omega arith))) in
    let marks = λ (q : ℕ). set_at none n.root q true false (rw length-replicate is.network.root) in record {
      all_marked = length-set none n.root true ∙ length-replicate n.parts false;
      all_done = length-replicate n.edges 0;
      root = let m = marks n.root in grind (arith, nat_tests);
      reached = λ q on. let m = marks q in let o = off q in ([], grind (arith, nat_tests));
      passive = λ q l other. (opening.each q l).part.passive other;
      edges = λ e l. let done : get_or {A = ℕ} (replicate n.edges 0) e 0 ≡ 0 = get_or-replicate n.edges e 0 0 l in
          let tail = (opening.each (n.tail e) (is.network.tails e l)).part.fresh.outs in
          let head = (opening.each (n.head e) (is.network.heads e l)).part.fresh.ins in search (rules, arith, nat_tests);
    }

-- ---- it goes on until the root is closed

-- what may be acknowledged is one message, which is unanswered
pub one_due : (m : Marking) (e d : ℕ) → e < (net m.run).edges → 0 < due_on m e → IsFlooded m → d ≡ get_or m.done.items e d
    → 0 < d → (allowed m.run e ≡ 1) × (get_or m.done.items e 0 ≡ 1)
one_due m e d l some was done got = let b = was.edges e l in let all = was.all_done in
    let is = get_or_read m.done.items e d (omega arith) done 0 in search (rules, arith, nat_tests)

-- where nothing is due on any edge the root is closed
pub idle_is_closed : (m : Marking) → IsLegalState m.run → IsFlooded m → ((e : ℕ) → e < (net m.run).edges → due_on m e ≡ 0)
    → HasClosedRoot (net m.run) (world m.run)
idle_is_closed m is was idle = quiet_closes (net m.run) is.topology.network
    (world m.run) (search (rules, arith, nat_tests)) is.log is.legal (search (rules, arith, nat_tests))
