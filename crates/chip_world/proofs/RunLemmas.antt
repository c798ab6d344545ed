-- Serves Run.antt.
-- A run of events, noted in order.
use Rattle.chip_world.proofs.Names.{nat_tests, ◌≡◌, ◌≢◌, ◌∙◌, ℕ, ◌+◌, ◌<◌, ◌≤◌, Bool, cond, eqb, List, [], ◌∷◌, ◌++◌}
use Rattle.chip_world.proofs.Names.{length, map, get_or, take, refl, sym, ap, arith, append_assoc, append-nil}
use Rattle.chip_world.proofs.Names.{length-set, get_or-set_same, get_or-set_other, length-append, vec_capacity}
use Rattle.chip_world.proofs.Names.{get_or-map, length-map, take_more, dite, ℕ_discrete, IsGame, Setting, Got, Sent}
use Rattle.chip_world.proofs.Names.{Log, Event, Take, Claim, Feed, Reply, step, log_after, replies_to, all_edges}
use Rattle.chip_world.proofs.Names.{Message, sent_by, delivered_by, sent_in, delivered_in, to_deliver, delivered_on, Notes}
use Rattle.chip_world.proofs.Names.{Lane, no_lane, lane_at, with_message, is_claim_of, is_take_of, count_among, Counts}
use Rattle.chip_world.proofs.Names.{sent_after, delivered_after, SentOnEdge, GotOnEdge, HasRoomForEvents, HasRooms, AreAllListed}
use Rattle.chip_world.proofs.Names.{IsNotedUpTo, IsRecordOf, IsHeldByReplies, held_from_the_opening}

-- ---- counts

pub count_push : (test : Event → Bool) (xs : List Event) (x : Event)
    → count_among test (xs ++ x ∷ []) ≡ count_among test xs + cond (test x) 1 0
count_push test [] x = let z : cond (test x) 1 0 + 0 ≡ 0 + cond (test x) 1 0 = omega arith in z
count_push test (y ∷ ys) x = let rest = count_push test ys x in omega arith

-- a list of counts after one more event
pub counted : (test : ℕ → Event → Bool) (edges : ℕ) (xs : List Event) (i : ℕ) (d : Event) (counts new : List ℕ)
    → i < length xs → Counts test edges (take i xs) counts → length new ≡ length counts
    → ((e : ℕ) → e < edges → get_or new e 0 ≡ get_or counts e 0 + cond (test e (get_or xs i d)) 1 0)
    → Counts test edges (take (i + 1) xs) new
counted test edges xs i d counts new l so_far same change =
    let x : Event = get_or xs i d in
    let longer : take (i + 1) xs ≡ take i xs ++ x ∷ [] = take_more xs i d l in
    record {
      count_is = same ∙ so_far.count_is;
      each = λ e m. (let was = so_far.each e m in let now = change e m in
          let push = count_push (test e) (take i xs) x in rw longer (omega arith));
      few = λ e m. (let was = so_far.few e m in let now = change e m in let long = length-append (take i xs) (x ∷ []) in
          rw longer (grind (arith, nat_tests)));
    }

-- ---- a message of an event is on an edge of the game

pub sent_on_edge : (g : Setting) (log : Log) (x : Event) (r : Reply) → r ≡ (step g log x).1
    → SentOnEdge x r (all_edges g)
sent_on_edge g log (Claim e) (Sent m) is = grind (arith, nat_tests)
sent_on_edge g log (Feed e k) (Sent m) is = grind (arith, nat_tests)
sent_on_edge g log _ _ is = tt

pub got_on_edge : (g : Setting) (log : Log) (x : Event) (r : Reply) → r ≡ (step g log x).1 → GotOnEdge x r (all_edges g)
got_on_edge g log (Take e) (Got m) is = grind (arith, nat_tests)
got_on_edge g log _ _ is = tt

-- ---- the lists after an event

-- for each edge some messages more, at most those that the event may bring, and the same room
record Longer (lanes new : List Lane) (more : ℕ → List Message) (most : ℕ → ℕ) : Type 0 where
  edges : length new ≡ length lanes
  messages : (e : ℕ) → e < length lanes → (lane_at new e).messages ≡ (lane_at lanes e).messages ++ more e
  capacity : (e : ℕ) → e < length lanes → (lane_at new e).capacity ≡ (lane_at lanes e).capacity
  few : (e : ℕ) → length (more e) ≤ most e

no_message : (lanes : List Lane) (most : ℕ → ℕ) → Longer lanes lanes (λ e. []) most
no_message lanes most = record {
  edges = refl;
  messages = λ e l. sym (append-nil (lane_at lanes e).messages);
  capacity = λ e l. refl;
  few = λ e. omega arith;
}

one_message : (lanes : List Lane) (i : ℕ) (m : Message)
    → Longer lanes (with_message i m lanes) (λ e. cond (eqb i e) (m ∷ []) []) (λ e. cond (eqb i e) 1 0)
one_message lanes i m = record {
  edges = length-set lanes i _;
  messages = λ e l. dite (ℕ_discrete i e) (λ same. let at = here e l same in grind (arith, nat_tests))
      (λ other. let at = there e other in let none = append-nil (lane_at lanes e).messages in grind (arith, nat_tests));
  capacity = λ e l. dite (ℕ_discrete i e) (λ same. rw (here e l same)) (λ other. rw (there e other));
  few = λ e. grind (arith, nat_tests);
}
  where
    here : (e : ℕ) → e < length lanes → i ≡ e → lane_at (with_message i m lanes) e
        ≡ (let n : Lane = record (lane_at lanes e) { messages = (lane_at lanes e).messages ++ m ∷ [] } in n)
    here e l same = rw same (get_or-set_same lanes e _ no_lane l)

    there : (e : ℕ) → i ≢ e → lane_at (with_message i m lanes) e ≡ lane_at lanes e
    there e other = get_or-set_other lanes i e _ no_lane (λ z. other (sym z))

sent_longer : (x : Event) (r : Reply) (lanes : List Lane)
    → Longer lanes (sent_after x r lanes) (λ e. sent_by e x r) (λ e. cond (is_claim_of e x) 1 0)
sent_longer (Claim i) (Sent m) lanes = one_message lanes i m
sent_longer (Feed i k) (Sent m) lanes = one_message lanes i m
sent_longer _ _ lanes = no_message lanes _

got_longer : (x : Event) (r : Reply) (lanes : List Lane)
    → Longer lanes (delivered_after x r lanes) (λ e. delivered_by e x r) (λ e. cond (is_take_of e x) 1 0)
got_longer (Take i) (Got m) lanes = one_message lanes i m
got_longer _ _ lanes = no_message lanes _

module _ (lanes new : List Lane) (more : ℕ → List Message) (most : ℕ → ℕ) (long : Longer lanes new more most) where
  room_rest : (test : ℕ → Event → Bool) (x : Event) (rest : List Event) → ((e : ℕ) → most e ≡ cond (test e x) 1 0)
      → HasRoomForEvents test (x ∷ rest) lanes → HasRoomForEvents test rest new
  room_rest test x rest is has e l =
      let edges = long.edges in let m : e < length lanes = omega arith in
      let a = has e m in let few = long.few e in let k = is e in
      rw (long.messages e m, long.capacity e m, length-append) (omega arith)

  listed_more : (edges : ℕ) (all rest : ℕ → List Message) → AreAllListed edges all lanes (λ e. more e ++ rest e)
      → AreAllListed edges all new rest
  listed_more edges all rest listed = record {
    count_is = long.edges ∙ listed.count_is;
    each = λ e l. rw (long.messages e (rw listed.count_is l), append_assoc) (listed.each e l);
  }

-- ---- one event of a run

module _ (x : Event) (rest : List Event) (r : Reply) (n new : Notes) (replies : new.replies.items ≡ n.replies.items
    ++ r ∷ []) (sent : new.sent ≡ sent_after x r n.sent) (delivered : new.delivered ≡ delivered_after x r n.delivered)
  where
    -- room for what comes after it
    pub rooms_rest : vec_capacity new.replies ≡ vec_capacity n.replies → HasRooms (x ∷ rest) n → HasRooms rest new
    rooms_rest room has = record {
      replies = (let a = has.replies in let b = ap (λ (l : List Reply). length l) replies in
          let d = length-append n.replies.items (r ∷ []) in let f = n.replies.ok.0 in let h = new.replies.ok.0 in
          omega arith);
      sent = rw sent
          (room_rest n.sent _ _ _ (sent_longer x r n.sent) is_claim_of x rest (λ e. refl) has.sent);
      delivered = rw delivered
          (room_rest n.delivered _ _ _ (got_longer x r n.delivered) is_take_of x rest (λ e. refl) has.delivered);
    }

    pub noted_more : (g : Setting) (log : Log) (xs : List Event) (now : Log) → r ≡ (step g now x).1
        → IsNotedUpTo g log xs now (x ∷ rest) n → IsNotedUpTo g log xs (step g now x).0 rest new
    noted_more g log xs now is noted =
        let left : List Reply = replies_to g (step g now x).0 rest in
        record {
          after = noted.after;
          replies = rw (replies, append_assoc, is) noted.replies;
          sent = rw sent (listed_more n.sent _ _ _ (sent_longer x r n.sent) (all_edges g) (to_deliver g log xs)
              (λ e. sent_in e rest left) (rw is noted.sent));
          delivered = rw delivered (listed_more n.delivered _ _ _ (got_longer x r n.delivered) (all_edges g)
              (delivered_on g log xs) (λ e. delivered_in e rest left) (rw is noted.delivered));
        }

-- all is listed
listed : (edges : ℕ) (all : ℕ → List Message) (lanes : List Lane) → AreAllListed edges all lanes (λ e. [])
    → (lists : List (List Message)) → lists ≡ map (λ (lane : Lane). lane.messages) lanes
    → (length lists ≡ edges) × ((e : ℕ) → e < edges → get_or lists e [] ≡ all e)
listed edges all lanes are lists is = (
  rw (is, length-map) are.count_is,
  λ e l. rw (is, get_or-map (λ (lane : Lane). lane.messages) lanes e no_lane [] (rw are.count_is l), are.each e l)
      (sym (append-nil (lane_at lanes e).messages)),
)

pub all_noted : (g : Setting) (log : Log) (xs : List Event) (now : Log) (n : Notes) (replies : List Reply)
    (sent delivered : List (List Message)) → IsNotedUpTo g log xs now [] n
    → replies ≡ n.replies.items → sent ≡ map (λ (lane : Lane). lane.messages) n.sent
    → delivered ≡ map (λ (lane : Lane). lane.messages) n.delivered → IsRecordOf g log xs replies sent delivered
all_noted g log xs now n replies sent delivered noted replies_are sent_is delivered_is =
    let first = listed (all_edges g) (to_deliver g log xs) n.sent noted.sent sent sent_is in
    let second = listed (all_edges g) (delivered_on g log xs) n.delivered noted.delivered delivered delivered_is in
    record {
      replies_are = rw (replies_are, noted.replies, append-nil);
      sent_each = first.0;
      sent_on_edge = first.1;
      delivered_each = second.0;
      delivered_on_edge = second.1;
    }

-- what is held in a run from the opening, by its replies
pub held_by_replies : (g : Setting) → IsGame g.game → 0 < g.ring → (log : Log) (xs : List Event) (replies : List Reply)
    → replies ≡ replies_to g log xs → log ≡ [] → IsHeldByReplies g (log_after g log xs) xs replies
held_by_replies g game some_ring log xs replies is opening =
    rw (is, opening) (held_from_the_opening g game some_ring xs)
