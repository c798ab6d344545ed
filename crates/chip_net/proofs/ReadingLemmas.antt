-- Serves Finish.antt, Roots.antt.
-- The reads of a closed root: each is in the log, with its word.
use Rattle.chip_net.proofs.Names.{◌≡◌, ℕ, zero, suc, ◌+◌, ◌<◌, ◌&&◌, Bool, not, cond, List, [], ◌∷◌, ◌++◌, length}
use Rattle.chip_net.proofs.Names.{get_or, Contains, refl, sym, ap, ◌∙◌, arith, length-append, get_or_push}
use Rattle.chip_net.proofs.Names.{get_or_append_left, map-append, length-map, Contains-append_right, filter_below}
use Rattle.chip_net.proofs.Names.{fired_in, is_halted_in, is_by_limit_in, Setting, IsSetting, root}
use Rattle.chip_net.proofs.Names.{stopper, deficit_of, saw, Log, Step, Read, Part, part_in, word_of_part}
use Rattle.chip_net.proofs.Names.{IsClosed, IsLegalLog, done_by, part_by, fed_in, reads_tell, own_in, RootKnown}
use Rattle.chip_net.proofs.Names.{root_part, root_deficit, root_after, has_ended, IsRootOver, ReadsAt, reads_from}
use Rattle.chip_net.proofs.Names.{IsReadOut, ReadingsState, readings_after, AreRead, IsReading, picked_ext}
use Rattle.chip_net.proofs.ViewingLemmas.{part_append, done_more, done_else}
use Rattle.chip_net.proofs.Names.{append_assoc}

-- a read that saw this
abbrev read : ℕ → ℕ → Step
read v seen = saw (Read v) seen

-- ---- a record of reads

reads_at : (v : ℕ) (ws : List ℕ) (k : ℕ) → k < length ws → (u : ℕ) → u ≡ v + k
    → Contains (reads_from v ws) (read u (get_or ws k 0))
reads_at v [] k l u is = absurd (omega arith)
reads_at v (w ∷ ws) zero l u is = (0, omega arith, ap (λ (n : ℕ). (read n w)) (omega arith))
reads_at v (w ∷ ws) (suc k) l u is = Contains-append_right (read v w ∷ []) (reads_from (suc v) ws)
    (read u (get_or ws k 0)) (reads_at (suc v) ws k (omega arith) u (omega arith))

reads_push : (v : ℕ) (ws : List ℕ) (w u : ℕ) → u ≡ v + length ws
    → reads_from v (ws ++ w ∷ []) ≡ reads_from v ws ++ (read u w) ∷ []
reads_push v [] w u is = ap (λ (n : ℕ). (read n w) ∷ []) (omega arith)
reads_push v (x ∷ xs) w u is = rw (reads_push (suc v) xs w u (omega arith))

-- they leave the part as it is
reads_same : (g : Setting) (s : Part) (v : ℕ) (ws : List ℕ) → part_by g s (reads_from v ws) ≡ s
reads_same g s v [] = refl
reads_same g s v (w ∷ ws) = reads_same g s (suc v) ws

pub reads_part : (r : RootKnown) (ws : List ℕ) → root_part (root_after r (reads_from 0 ws)) ≡ root_part r
reads_part r ws = rw part_append (reads_same r.net.setting (root_part r) 0 ws)

-- and feed nothing
pub reads_feed_none : (g : Setting) (did : List Step) (v : ℕ) (ws : List ℕ)
    → fed_in g (did ++ reads_from v ws) ≡ fed_in g did
reads_feed_none g [] v [] = refl
reads_feed_none g [] v (w ∷ ws) = reads_feed_none g [] (suc v) ws
reads_feed_none g (x ∷ xs) v ws = rw (reads_feed_none g xs v ws)

-- if the log has them, each has the word of its vertex
pub reads_say : (g : Setting) → IsSetting g → (log : Log) → IsLegalLog g log → (did : List Step) (ws : List ℕ)
    → did ++ reads_from 0 ws ≡ done_by g (root g) log → (v : ℕ) → v < length ws
    → (v < g.game.graph.vertices) × IsClosed g log × (get_or ws v 0 ≡ word_of_part (part_in g log v))
reads_say g setting log legal did ws is v l =
    let x : Step = read v (get_or ws v 0) in
    reads_tell g setting.game setting.some_ring log legal x v (own_in g (root g) log x
    (rw (← is) (Contains-append_right did (reads_from 0 ws) x (reads_at 0 ws v l v (omega arith))))) refl

pub still_over : {old now : RootKnown} {readings : ReadingsState} {v : ℕ} → IsReading old now readings v → IsRootOver old
    → IsRootOver now
still_over {old = old} reading over =
    let same = reads_part old reading.words in (
      ap root_deficit reading.record_is ∙ ap (deficit_of old.net.setting (root old.net.setting)) same ∙ over.0,
      ap has_ended reading.record_is ∙ ap (λ (s : Part). s.ended) same ∙ over.1,
    )

-- ---- one word more in the readings

module _ (words : List ℕ) (t : ReadingsState) (is : AreRead words t.fired t.over t.sealed) (w : ℕ) where
  pick_more : (test : ℕ → Bool) (before : List ℕ) → before ≡ filter_below (λ v. test (get_or words v 0)) (length words)
      → before ++ cond (test w) (length t.fired ∷ []) []
      ≡ filter_below (λ v. test (get_or (words ++ w ∷ []) v 0)) (length (words ++ w ∷ []))
  pick_more test before before_is =
      let now : ℕ → Bool = λ v. test (get_or (words ++ w ∷ []) v 0) in
      let count : length (words ++ w ∷ []) ≡ suc (length words) = omega (arith, length-append {A = ℕ}) in
      let front = picked_ext (λ v. test (get_or words v 0)) now (length words)
      (λ v l. rw (get_or_append_left words (w ∷ []) 0 v l)) in
      let vertex : length t.fired ≡ length words = rw is.fired (length-map words fired_in) in
      rw (count, before_is, front, vertex, get_or_push words w 0 (length words) refl)

  abbrev more : ReadingsState
  more = readings_after (fired_in w) (is_halted_in w) (is_by_limit_in w) t

  pub readings_more : AreRead (words ++ w ∷ []) more.fired more.over more.sealed
  readings_more = record {
    fired = rw (is.fired, map-append);
    over = pick_more is_by_limit_in t.over is.over;
    sealed = pick_more (λ x. is_halted_in x && not (is_by_limit_in x)) t.sealed is.sealed;
  }

-- ---- one read more

module _ {old now then : RootKnown} {readings : ReadingsState} {v seen : ℕ} (setting : IsSetting old.net.setting)
    (reading : IsReading old now readings v) (reads : ReadsAt now then v seen) where
  abbrev g : Setting
  g = now.net.setting

  abbrev x : Step
  x = read v seen

  abbrev words : List ℕ
  words = reading.words ++ seen ∷ []

  abbrev log : Log
  log = x ∷ reads.1.log

  setting' : IsSetting g
  setting' = rw reading.record_is setting

  record_is : root_after now (x ∷ []) ≡ root_after old (reads_from 0 words)
  record_is = let c = reading.count_is in
      rw (reading.record_is, append_assoc, reads_push 0 reading.words seen v (omega arith))

  root_did : now.did ++ x ∷ [] ≡ done_by g (root g) log
  root_did = rw (done_more g (root g) x reads.1.log refl, reads.1.has.1.root_did)

  count : length words ≡ v + 1
  count = let a = length-append reading.words (seen ∷ []) in let c = reading.count_is in omega arith

  say : (u : ℕ) → u < length words
      → (u < g.game.graph.vertices) × IsClosed g log × (get_or words u 0 ≡ word_of_part (part_in g log u))
  say = reads_say g setting' log (reads.1.legal, reads.1.has.0) old.did words
      (sym (ap (λ (r : RootKnown). r.did) record_is) ∙ root_did)

  read_out : IsReadOut then words
  read_out = rw reads.0 (record {
    log = log;
    legal = (reads.1.legal, reads.1.has.0);
    has = (
      record {
        root_did = root_did;
        stopper_did = λ did e.
            rw (done_else g (stopper g) x reads.1.log (λ z. omega arith)) (reads.1.has.1.stopper_did did e);
      },
      (say v (omega (arith, count))).1,
      λ u l. (say u l).2,
    );
  })

  pub reads_more : IsReading old then (readings_after (fired_in seen) (is_halted_in seen) (is_by_limit_in seen) readings)
      (v + 1)
  reads_more = record {
    words = words;
    count_is = count;
    record_is = reads.0 ∙ record_is;
    told = λ some. read_out;
    tallied = readings_more reading.words readings reading.tallied seen;
    room_is = (let r = reading.room_is in omega arith);
  }
