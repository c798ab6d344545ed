-- Serves SharedWords.antt. The messages sent on an edge and not delivered, by the cells of its ring and what its tail
-- holds.
use Rattle.chip_world.proofs.Names.{◌≡◌, ◌≢◌, ℕ, ◌+◌, ◌-◌, ◌%◌, ◌<◌, ◌≤◌, List, [], ◌∷◌, ◌++◌, length, sum, get_or}
use Rattle.chip_world.proofs.Names.{take, length-drop, length-take-le, Option, Some, None, option_to_list, refl}
use Rattle.chip_world.proofs.Names.{arith, ⊎_elim, inl, inr, get_or_past, get_or_append_left, get_or_push}
use Rattle.chip_world.proofs.Names.{get_or-drop, take_more, dite, dec_lt, Setting, Tail, claims_of, sent_counts, Sound}
use Rattle.chip_world.proofs.Names.{WordsShow, none_held, one_held, length-sent_counts, message_of, Message, messages_from}
use Rattle.chip_world.proofs.Names.{counts_in_flight, messages-append, into_in, Log, out_in}

-- nothing is held, or one count is
hand : (held : Option ℕ) → Rattle.std.proofs.Common.◌⊎◌ (held ≡ None) ((count : ℕ) × (held ≡ Some count))
hand None = inl refl
hand (Some count) = inr (count, refl)

module _ (ring word : ℕ) (cell : ℕ → ℕ) (t : Tail) (got : List ℕ) (stop : Option ℕ) (ok : Sound ring t got stop)
    (is : WordsShow ring word cell t got stop) (place : ℕ) (later : length got ≤ place) (before : place < claims_of t) where
  -- what is in flight fits into the ring
  within : place < length got + ring
  within = ⊎_elim
      (λ none. let n = none_held t none in let w = ok.within in omega arith)
      (λ some. let n = one_held t some.0 some.1 in let f = ok.free some.0 some.1 in omega arith)
      (hand t.held)

  cell_is : cell (place % ring) ≡ get_or t.put place 0
  cell_is = is.ring_is place later within

  pub count_in_cell : cell (place % ring) ≢ 0 → cell (place % ring) ≡ get_or (sent_counts t) place 0
  count_in_cell some = dite (dec_lt place (length t.put))
      (λ l. rw (cell_is, get_or_append_left t.put (option_to_list t.held) 0 place l))
      (λ past. absurd (some (rw cell_is (get_or_past t.put place 0 (omega arith)))))

  pub count_in_hand : cell (place % ring) ≡ 0 → sum (option_to_list t.held) ≡ get_or (sent_counts t) place 0
  count_in_hand zero = dite (dec_lt place (length t.put))
      (λ l. (let some = ok.counted place l in let c = cell_is in absurd (omega arith)))
      (λ past. ⊎_elim
      (λ none. let n = none_held t none in absurd (omega arith))
      (λ some.
      let n = one_held t some.0 some.1 in
      rw (some.1, get_or_push t.put some.0 0 place (omega arith)) (omega arith))
      (hand t.held))

-- ---- the messages in flight, in order

module _ (g : Setting) (log : Log) (e : ℕ) where
  flight_long : (first : ℕ) → first ≡ length (into_in g log e).got
      → length (counts_in_flight g log e) ≡ claims_of (out_in g log e).link - first
  flight_long first is = let n = length-sent_counts (out_in g log e).link in rw length-drop (omega arith)

  pub flight_more : (first place count : ℕ) (ms : List Message) → first ≡ length (into_in g log e).got → first ≤ place
      → place < claims_of (out_in g log e).link → count ≡ get_or (sent_counts (out_in g log e).link) place 0
      → ms ≡ messages_from e first (take (place - first) (counts_in_flight g log e))
      → ms ++ message_of e place count ∷ []
      ≡ messages_from e first (take ((place + 1) - first) (counts_in_flight g log e))
  flight_more first place count ms is later before count_is so_far =
      let cs : List ℕ = counts_in_flight g log e in
      let k : ℕ = place - first in
      let long = flight_long first is in
      let inside : k < length cs = omega arith in
      let there : length (into_in g log e).got + k ≡ place = omega arith in
      let here : get_or cs k 0 ≡ count = rw (get_or-drop, there, count_is) in
      let short : length (take k cs) ≡ k = length-take-le k cs (omega arith) in
      let at : first + length (take k cs) ≡ place = omega arith in
      let next : (place + 1) - first ≡ k + 1 = omega arith in
      rw (so_far, next, take_more cs k 0 inside, messages-append e first (take k cs) (get_or cs k 0 ∷ []), here, at)
