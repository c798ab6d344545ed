-- Serves Core.antt, Messages.antt.
-- The messages in the replies are those of the parts; nothing is sent on a sealed edge.
use Rattle.chip_core.proofs.Names.{nat_tests, ◌≡◌, ℕ, ◌+◌, ◌*◌, ◌<◌, ◌≤◌, Bool, true, false, cond, eqb, List, []}
use Rattle.chip_core.proofs.Names.{◌∷◌, ◌++◌, length, sum, take, drop, option_to_list, Option, Some, None, refl, sym}
use Rattle.chip_core.proofs.Names.{ap, ◌∙◌, arith, true≢false, append_assoc, append-nil, length-append, or_right}
use Rattle.chip_core.proofs.Names.{cond-true, cond-false, take-append-le, take-append-drop, drop_at, append_cancel_left}
use Rattle.chip_core.proofs.Names.{nil_from_length, sum_by-cons, sum_by-append, IsGame, Setting, by_test}
use Rattle.chip_core.proofs.Names.{sent_counts, claims_of, after_claim, IsPrefix, numbered, numbered-append}
use Rattle.chip_core.proofs.Names.{length-numbered, numbered_at, length-sent_counts, NotNow, mult_of, start_of}
use Rattle.chip_core.proofs.Names.{root_edge, first_put, message_of, link_after, got_after, saw, rules_met, first_few}
use Rattle.chip_core.proofs.Names.{first_sent, Log, Event, Take, Clear, Claim, Put, Seal, Feed, Rule, unmet_rule}
use Rattle.chip_core.proofs.Names.{part_of, reply_of, part_in, out_in, into_in, fired_by, sees, IsLegalLog, answer}
use Rattle.chip_core.proofs.Names.{step, log_after, replies_to, tail_of, graph_edges, Message, sent_by, delivered_by}
use Rattle.chip_core.proofs.Names.{is_seal_of, sent_in, sent_after_seal, is_seal, was_sealed, messages_from}
use Rattle.chip_core.proofs.Names.{counts_in_flight, in_flight, to_deliver, delivered_on, AreInOrderFrom, chips_in}
use Rattle.chip_core.proofs.Names.{chips_given, held, OpeningMessages, InOrderFromTheOpening}
use Rattle.chip_core.proofs.LogLemmas.{edge_sound, link_step, got_step}
use Rattle.chip_core.proofs.PositionLemmas.{held_is}
use Rattle.chip_core.proofs.NumberLemmas.{seals_stand}
use Rattle.chip_core.proofs.ReachingLemmas.{run_legal, step_legal}

-- ---- counts as messages

is_numbered : (e n : ℕ) (xs : List ℕ) → messages_from e n xs ≡ numbered e n xs
is_numbered e n [] = refl
is_numbered e n (x ∷ xs) = let a = is_numbered e (n + 1) xs in cc

pub messages-append : (e n : ℕ) (xs ys : List ℕ)
    → messages_from e n (xs ++ ys) ≡ messages_from e n xs ++ messages_from e (n + length xs) ys
messages-append e n xs ys =
    let a = is_numbered e n (xs ++ ys) in let b = numbered-append e n xs ys in let c = is_numbered e n xs in
    let d = is_numbered e (n + length xs) ys in cc

pub length-messages : (e n : ℕ) (xs : List ℕ) → length (messages_from e n xs) ≡ length xs
length-messages e n xs = let a = is_numbered e n xs in let b = length-numbered e n xs in cc

pub messages_in_order : (e n : ℕ) (xs : List ℕ) → AreInOrderFrom e n (messages_from e n xs)
messages_in_order e n xs p m is = numbered_at e n xs p m
    (let a = is_numbered e n xs in cc)

chips_messages : (e n : ℕ) (xs : List ℕ) → chips_in (messages_from e n xs) ≡ sum xs
chips_messages e n [] = refl
chips_messages e n (x ∷ xs) =
    let a = sum_by-cons (λ (m : Message). m.count) (message_of e n x) (messages_from e (n + 1) xs) in
    let b = sum_by-cons (λ (y : ℕ). y) x xs in
    let c = chips_messages e (n + 1) xs in
    omega arith

-- one more count, in the resulting list
push : (e : ℕ) (xs : List ℕ) (n c : ℕ) → n ≡ length xs
    → messages_from e 0 (xs ++ c ∷ []) ≡ messages_from e 0 xs ++ message_of e n c ∷ []
push e xs n c is = let a = messages-append e 0 xs (c ∷ []) in let b : 0 + length xs ≡ n = omega arith in cc

-- ---- replies that report no message

not_sent : (e : ℕ) (x : Event) (r : Rule) → sent_by e x (NotNow r) ≡ []
not_sent e (Claim i) r = refl
not_sent e _ r = refl

not_delivered : (e : ℕ) (x : Event) (r : Rule) → delivered_by e x (NotNow r) ≡ []
not_delivered e (Take i) r = refl
not_delivered e _ r = refl

not_seal : (e : ℕ) (x : Event) (r : Rule) → is_seal_of e x (NotNow r) ≡ false
not_seal e (Seal i) r = refl
not_seal e _ r = refl

module _ (g : Setting) where
  -- ---- seals

  no_send : (log : Log) (e : ℕ) → was_sealed log e ≡ true → (x : Event) (o : Option Rule)
      → sent_by e x (answer g log x o).1 ≡ []
  no_send log e was x (Some r) = not_sent e x r
  no_send log e was (Claim i) None = let stand = seals_stand g log i in grind (arith, nat_tests)
  no_send log e was (Feed i k) None = let stand = seals_stand g log i in grind (arith, nat_tests)
  no_send log e was _ _ = refl

  stays_sealed : (log : Log) (e : ℕ) → was_sealed log e ≡ true → (x : Event) (o : Option Rule)
      → was_sealed (answer g log x o).0 e ≡ true
  stays_sealed log e was x (Some r) = was
  stays_sealed log e was x None = or_right (is_seal e x) (was_sealed log e) was

  -- nothing is sent on a sealed edge
  pub sealed_before : (log : Log) (xs : List Event) (e : ℕ) → was_sealed log e ≡ true
      → sent_in e xs (replies_to g log xs) ≡ []
  sealed_before log [] e was = refl
  sealed_before log (x ∷ xs) e was =
      let o : Option Rule = unmet_rule g x (part_in g log (part_of g x)) in
      let a = no_send log e was x o in let b = sealed_before (step g log x).0 xs e (stays_sealed log e was x o) in cc

  now_sealed : (log : Log) (e : ℕ) (x : Event) (o : Option Rule) → is_seal_of e x (answer g log x o).1 ≡ true
      → was_sealed (answer g log x o).0 e ≡ true
  now_sealed log e x (Some r) is = absurd (true≢false (let a = not_seal e x r in cc))
  now_sealed log e (Seal i) None is = cc
  now_sealed log e _ _ is = absurd (true≢false (sym is))

  -- nothing is sent after a seal
  pub nothing_after_seal : (log : Log) (xs : List Event) (e : ℕ) → sent_after_seal e xs (replies_to g log xs) ≡ []
  nothing_after_seal log [] e = refl
  nothing_after_seal log (x ∷ xs) e =
      let next : Log = (step g log x).0 in
      let here : Bool = is_seal_of e x (step g log x).1 in
      by_test here
      (λ on. cond-true here (sent_in e xs (replies_to g next xs)) (sent_after_seal e xs (replies_to g next xs)) on
      ∙ sealed_before next xs e (now_sealed log e x (unmet_rule g x (part_in g log (part_of g x))) on))
      (λ off. (let c = cond-false here (sent_in e xs (replies_to g next xs)) (sent_after_seal e xs
      (replies_to g next xs)) off in let d = nothing_after_seal next xs e in cc))

  -- ---- what was delivered

  -- all that was ever delivered on e
  abbrev got_at : Log → ℕ → List Message
  got_at log e = messages_from e 0 (into_in g log e).got

  got_event : (x : Event) (log : Log) (e : ℕ) → messages_from e 0 (got_after x (sees g log x) e (into_in g log e))
      ≡ got_at log e ++ delivered_by e x (reply_of g x (sees g log x) (part_in g log (part_of g x)))
  got_event (Take i) log e = let got = (into_in g log e).got in let none = append-nil (got_at log e) in
      let more = push e got (length got) (sees g log (Take i)) refl in grind (arith, nat_tests)
  got_event _ log e = sym (append-nil (got_at log e))

  got_answer : (log : Log) (x : Event) (o : Option Rule) (e : ℕ)
      → got_at (answer g log x o).0 e ≡ got_at log e ++ delivered_by e x (answer g log x o).1
  got_answer log x None e = let a = got_step g (saw x (sees g log x)) log e in let b = got_event x log e in cc
  got_answer log x (Some r) e = let a = not_delivered e x r in let b = append-nil (got_at log e) in cc

  -- after a run: what was delivered before it, and in its replies
  delivered_is : (log : Log) (xs : List Event) (e : ℕ)
      → got_at (log_after g log xs) e ≡ got_at log e ++ delivered_on g log xs e
  delivered_is log [] e = sym (append-nil (got_at log e))
  delivered_is log (x ∷ xs) e =
      let a = delivered_is (step g log x).0 xs e in
      let b = got_answer log x (unmet_rule g x (part_in g log (part_of g x))) e in
      let c = append_assoc (got_at log e) (delivered_by e x (step g log x).1) (delivered_on g
      (step g log x).0 xs e) in cc

  module _ (game : IsGame g.game) (some_ring : 0 < g.ring) where
    -- ---- what was sent

    -- all that was ever sent on e
    abbrev sent_at : Log → ℕ → List Message
    sent_at log e = messages_from e 0 (sent_counts (out_in g log e).link)

    -- a claim or a feed of the edge i with this count
    claim_sent : (log : Log) (i count seen : ℕ) → (out_in g log i).link.held ≡ None → (e : ℕ)
        → messages_from e 0 (sent_counts (cond (eqb i e) (after_claim count seen (out_in g log e).link) (out_in g log e).link))
        ≡ sent_at log e ++ cond (eqb i e) (cond (eqb seen (claims_of (out_in g log i).link))
        (message_of i (claims_of (out_in g log i).link) count ∷ []) []) []
    claim_sent log i count seen none e =
        let t = (out_in g log e).link in let more = push e (sent_counts t) (claims_of t) count (sym (length-sent_counts t)) in
        let put = append-nil t.put in let same = append-nil (sent_at log e) in grind (arith, nat_tests)

    sent_event : (x : Event) (log : Log) (e : ℕ) → IsLegalLog g log
        → unmet_rule g x (part_in g log (part_of g x)) ≡ None
        → messages_from e 0 (sent_counts (link_after x (sees g log x) e (out_in g log e))) ≡ sent_at log e
        ++ sent_by e x (reply_of g x (sees g log x) (part_in g log (part_of g x)))
    sent_event (Clear i) log e legal met = let same = append-nil (sent_at log e) in grind (arith, nat_tests)
    sent_event (Put i) log e legal met = let same = append-nil (sent_at log e) in
        let put = append-nil (sent_counts (out_in g log e).link) in grind (arith, nat_tests)
    sent_event (Claim i) log e legal met =
        let none = (edge_sound g game some_ring log legal i).quiet
        (rules_met g (Claim i) (part_in g log (tail_of g i)) met).2 in
        let sent = claim_sent log i (out_in g log i).pending (sees g log (Claim i)) none e in grind (arith, nat_tests)
    sent_event (Feed i k) log e legal met =
        let none = (edge_sound g game some_ring log legal i).quiet
        (rules_met g (Feed i k) (part_in g log (tail_of g i)) met).5 in
        let sent = claim_sent log i k (sees g log (Feed i k)) none e in grind (arith, nat_tests)
    sent_event _ log e legal met = sym (append-nil (sent_at log e))

    sent_answer : (log : Log) (x : Event) (o : Option Rule) (e : ℕ) → unmet_rule g x (part_in g log (part_of g x)) ≡ o
        → IsLegalLog g log → sent_at (answer g log x o).0 e ≡ sent_at log e ++ sent_by e x (answer g log x o).1
    sent_answer log x None e met legal =
        let a = link_step g (saw x (sees g log x)) log e in let b = sent_event x log e legal met in cc
    sent_answer log x (Some r) e met legal = let a = not_sent e x r in let b = append-nil (sent_at log e) in cc

    -- after a run: what was sent before it, and in its replies
    sent_is : (log : Log) (xs : List Event) (e : ℕ) → IsLegalLog g log
        → sent_at (log_after g log xs) e ≡ sent_at log e ++ sent_in e xs (replies_to g log xs)
    sent_is log [] e legal = sym (append-nil (sent_at log e))
    sent_is log (x ∷ xs) e legal =
        let a = sent_is (step g log x).0 xs e (step_legal g log x legal) in
        let b = sent_answer log x (unmet_rule g x (part_in g log (part_of g x))) e refl legal in
        let c = append_assoc (sent_at log e) (sent_by e x (step g log x).1) (sent_in e xs (replies_to g
        (step g log x).0 xs)) in cc

    -- ---- what is in flight

    -- what was delivered and what is in flight is what was sent
    in_flight_is : (log : Log) (e : ℕ) → IsLegalLog g log → sent_at log e ≡ got_at log e ++ in_flight g log e
    in_flight_is log e legal =
        let s = edge_sound g game some_ring log legal e in
        let t = (out_in g log e).link in
        let got = (into_in g log e).got in
        let front : got ≡ take (length got) (sent_counts t) =
        (let a = take-append-le (length got) t.put (option_to_list t.held) s.behind in cc) in
        let whole : got ++ counts_in_flight g log e
        ≡ sent_counts t = (let b = take-append-drop (length got) (sent_counts t) in cc) in
        let c = messages-append e 0 got (counts_in_flight g log e) in
        let d : 0 + length got ≡ length got = omega arith in grind (arith, nat_tests)

    -- all that was sent after a run: what was delivered before it, and what it had to deliver
    all_sent : (log : Log) (xs : List Event) (e : ℕ) → IsLegalLog g log
        → sent_at (log_after g log xs) e ≡ got_at log e ++ to_deliver g log xs e
    all_sent log xs e legal =
        let a = sent_is log xs e legal in let b = in_flight_is log e legal in
        let c = append_assoc (got_at log e) (in_flight g log e) (sent_in e xs (replies_to g log xs)) in cc

    -- the prefix law, with what is left
    pub left_is : (log : Log) (xs : List Event) (e : ℕ) → IsLegalLog g log
        → delivered_on g log xs e ++ in_flight g (log_after g log xs) e ≡ to_deliver g log xs e
    left_is log xs e legal =
        let after : Log = log_after g log xs in
        append_cancel_left (got_at log e) (delivered_on g log xs e ++ in_flight g after e) (to_deliver g log xs e)
        (let a = append_assoc (got_at log e) (delivered_on g log xs e) (in_flight g after e) in
        let b = delivered_is log xs e in let c = in_flight_is after e (run_legal g log xs legal) in
        let d = all_sent log xs e legal in cc)

    pub delivers_prefix : (log : Log) (xs : List Event) (e : ℕ) → IsLegalLog g log
        → IsPrefix (delivered_on g log xs e) (to_deliver g log xs e)
    delivers_prefix log xs e legal = (in_flight g (log_after g log xs) e, left_is log xs e legal)

    -- what a run has to deliver is what the tail's part has after it, except for what was delivered before
    pub sent_stands : (log : Log) (xs : List Event) (e : ℕ) → IsLegalLog g log
        → to_deliver g log xs e ≡ messages_from e (length (into_in g log e).got)
        (drop (length (into_in g log e).got) (sent_counts (out_in g (log_after g log xs) e).link))
    sent_stands log xs e legal =
        let n : ℕ = length (into_in g log e).got in
        let all : List ℕ = sent_counts (out_in g (log_after g log xs) e).link in
        let front : length (got_at log e) ≡ n = length-messages e 0 (into_in g log e).got in
        let both = ap length (all_sent log xs e legal) in
        let long = length-messages e 0 all in
        let parts = length-append (got_at log e) (to_deliver g log xs e) in
        let enough : n ≤ length all = omega arith in
        let taken : length (take n all) ≡ n = Rattle.std.proofs.lemmas.List.length-take-le n all enough in
        let cut : messages_from e 0 all ≡ messages_from e 0 (take n all) ++ messages_from e n (drop n all) =
        (let a = take-append-drop n all in let b = messages-append e 0 (take n all) (drop n all) in
        let c : 0 + length (take n all) ≡ n = omega arith in cc) in
        let d = drop_at (got_at log e) (to_deliver g log xs e) n front in let f = all_sent log xs e legal in
        let h = drop_at (messages_from e 0 (take n all)) (messages_from e n (drop n all)) n
        (let k = length-messages e 0 (take n all) in grind (arith, nat_tests)) in cc

    pub sent_in_order : (log : Log) (xs : List Event) (e : ℕ) → IsLegalLog g log
        → AreInOrderFrom e (length (into_in g log e).got) (to_deliver g log xs e)
    sent_in_order log xs e legal = rw (sent_stands log xs e legal) (messages_in_order e (length
        (into_in g log e).got) (drop (length (into_in g log e).got) (sent_counts (out_in g
        (log_after g log xs) e).link)))

    -- ---- from the opening

    -- what was given is the start and what was fed
    pub given_is_fed : (xs : List Event) (v : ℕ) → chips_given g (log_after g [] xs) v
        ≡ start_of g v + chips_in (sent_in (root_edge g v) xs (replies_to g [] xs))
    given_is_fed xs v =
        let e : ℕ = root_edge g v in
        let sent : List Message = sent_in e xs (replies_to g [] xs) in
        let a = chips_messages e 0 (sent_counts (out_in g (log_after g [] xs) e).link) in
        let b = ap chips_in (sent_is [] xs e tt) in
        let c = sum_by-append (λ (m : Message). m.count) (sent_at [] e) sent in
        let d = chips_messages e 0 (sent_counts (out_in g [] e).link) in
        let f = first_sent g v in
        omega arith

    pub held_from_the_opening : (xs : List Event) (e : ℕ) → e < graph_edges g
        → chips_in (sent_in e xs (replies_to g [] xs)) + held g (log_after g [] xs) e
        ≡ mult_of g e * fired_by g (log_after g [] xs) (tail_of g e)
    held_from_the_opening xs e l =
        let after : Log = log_after g [] xs in
        let none : sent_at [] e ≡ [] = ap (messages_from e 0) (append-nil (first_put g e)
        ∙ nil_from_length (first_put g e) (first_few g e l)) in
        let sent : sent_in e xs (replies_to g [] xs)
        ≡ sent_at after e = (let a = sent_is [] xs e tt in grind (arith, nat_tests)) in
        let chips : chips_in (sent_in e xs (replies_to g [] xs)) ≡ sum (sent_counts (out_in g after e).link) =
        (let b = chips_messages e 0 (sent_counts (out_in g after e).link) in cc) in
        let all = held_is g game some_ring after (run_legal g [] xs tt) e l in
        omega arith

-- ---- the laws

pub opening_messages : OpeningMessages
opening_messages g e = ap (messages_from e 0) (append-nil (first_put g e))

pub in_order_from_the_opening : InOrderFromTheOpening
in_order_from_the_opening g game some_ring xs e p m is = let at = sent_in_order g game some_ring [] xs e tt p m is in
    (at.0, (let a : 0 + p ≡ p = omega arith in cc))
