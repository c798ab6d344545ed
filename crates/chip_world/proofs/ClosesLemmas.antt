-- Serves Rounds.antt.
-- More rounds than the number of steps that can count close the root.
use Rattle.chip_world.proofs.Names.{◌≡◌, ◌⊎◌, ℕ, zero, suc, ◌+◌, ◌-◌, ◌<◌, ◌≤◌, List, [], ◌∷◌, ◌++◌, length, reverse}
use Rattle.chip_world.proofs.Names.{refl, ap, ◌∙◌, arith, inl, inr, ⊎_elim, append_assoc, Option}
use Rattle.chip_world.proofs.Names.{Contains-append_left, dite, ℕ_discrete, IsGame, Setting, graph_edges, root_edge}
use Rattle.chip_world.proofs.Names.{saw, met_rules, Log, Step, Settle, Rule, part_in, sees, IsLegalLog}
use Rattle.chip_world.proofs.Names.{IsClosed, answer, log_after, tail_of, work_in, steps_at_most, fed_so_far}
use Rattle.chip_world.proofs.Names.{AreFiringBounds, HasEnd, RootHasPut, HasTurn, HasRound, part_kept, run_legal}
use Rattle.chip_world.proofs.Names.{log_after-append, work_grows, round_closes, ends_longer, few_after, Drive, Closed}
use Rattle.chip_world.proofs.Names.{Unfinished, AreTurns, root_settles, IsWorldRound, AreOpenRounds, IsDrive}
use Rattle.std.proofs.Common.{Contains}
use Rattle.chip_world.proofs.OwnTurnLemmas.{turn_is_own, done_turn}

module _ (g : Setting) (game : IsGame g.game) (some_ring : 0 < g.ring) where
  -- a longer log, in which each of the first vertices made a whole turn
  record Turned (count : ℕ) (before after : Log) : Type 0 where
    more : Log
    longer : after ≡ more ++ before
    legal : IsLegalLog g after
    turns : (v : ℕ) → v < count → HasTurn g v before more

  later_turn : (v : ℕ) (before xs ys : Log) → HasTurn g v before xs → HasTurn g v before (ys ++ xs)
  later_turn v before xs ys turn = record {
    early = turn.early;
    middle = turn.middle;
    late = ys ++ turn.late;
    all_are = rw (turn.all_are, append_assoc);
    are_turn = turn.are_turn;
  }

  turned : (count : ℕ) (before after : Log) → IsLegalLog g before → AreTurns g count before after → Turned count before after
  turned zero before after legal same = record {
    more = [];
    longer = same;
    legal = rw same legal;
    turns = λ v l. absurd (omega arith);
  }
  turned (suc n) before after legal (between, turns, last) =
      let old = turned n before between legal turns in
      let ds : List Step = last.operations in
      let s = part_in g between n in
      let mine = turn_is_own g n s ds last.are_turn.0 (λ e is. ((part_kept g game between old.legal n).parents e is).1)
      last.are_turn.1 in
      let here : HasTurn g n before (reverse ds ++ old.more) = record {
        early = old.more;
        middle = reverse ds;
        late = [];
        all_are = refl;
        are_turn = rw (← old.longer, done_turn g n ds mine) last.are_turn;
      } in
      record {
        more = reverse ds ++ old.more;
        longer = rw (append_assoc, ← old.longer) last.all_made;
        legal = last.all_fit;
        turns = λ v l. dite (ℕ_discrete v n)
            (λ same. rw same here)
            (λ other. later_turn v before old.more (reverse ds) (old.turns v (omega arith)));
      }

  -- and one in which each of the first root edges was settled
  record Settled (count : ℕ) (before after : Log) : Type 0 where
    more : Log
    longer : after ≡ more ++ before
    settles : (v : ℕ) → v < count → (x : Step) × Contains more x × (x.event ≡ Settle (root_edge g v))

  settled : (count : ℕ) (before : Log) → count ≤ g.game.graph.vertices
      → Settled count before (log_after g before (root_settles g count))
  settled zero before few = record { more = []; longer = refl; settles = λ v l. absurd (omega arith) }
  settled (suc n) before few =
      let old = settled n before (omega arith) in
      let now : Log = log_after g before (root_settles g n) in
      let e : ℕ = root_edge g n in
      let x : Step = saw (Settle e) (sees g now (Settle e)) in
      record {
        more = x ∷ old.more;
        longer = log_after-append g before (root_settles g n) (Settle e ∷ [])
            ∙ ap (λ (o : Option Rule). (answer g now (Settle e) o).0)
            (met_rules g (Settle e) (part_in g now (tail_of g e)) (omega arith))
            ∙ ap (λ (l : Log). x ∷ l) old.longer;
        settles = λ v l. dite (ℕ_discrete v n)
            (λ same. rw same (x, (0, omega arith, refl), refl))
            (λ other. let found = old.settles v (omega arith) in let at = found.1 in let inside = at.1 in
            (found.0, (suc at.0, omega arith, at.2), found.2));
      }

  -- so a round is one
  record Round (before after : Log) : Type 0 where
    more : Log
    longer : after ≡ more ++ before
    legal : IsLegalLog g after
    has : HasRound g before more

  rounded : (before after : Log) → IsLegalLog g before → IsWorldRound g before after → Round before after
  rounded before after legal (between, turns, settles) =
      let n : ℕ = g.game.graph.vertices in
      let first = turned n before between legal turns in
      let then = settled n between (omega arith) in
      record {
        more = then.more ++ first.more;
        longer = rw (append_assoc, ← first.longer, ← then.longer) settles;
        legal = rw settles (run_legal g between (root_settles g n) first.legal);
        has = record {
          turns = λ v l. later_turn v before first.more then.more (first.turns v l);
          settles = λ e past l.
              let same : root_edge g (e - graph_edges g) ≡ e = omega arith in
              let found = then.settles (e - graph_edges g) (omega arith) in (
                found.0,
                Contains-append_left then.more first.more found.0 found.1,
                cc (found.2, same),
              );
        };
      }

  -- rounds after which the root is open count at least one step each
  record Drove (n : ℕ) (before after : Log) : Type 0 where
    more : Log
    longer : after ≡ more ++ before
    legal : IsLegalLog g after
    tells : IsClosed g after ⊎ (n + work_in g before ≤ work_in g after)

  drove : (n : ℕ) (before after : Log) → IsLegalLog g before → HasEnd g before → RootHasPut g before
      → AreOpenRounds g n before after → Drove n before after
  drove zero before after legal end put same =
      let worked = ap (work_in g) same in
      record { more = []; longer = same; legal = rw same legal; tells = inr (omega arith) }
  drove (suc n) before after legal end put (between, rounds, not_closed, last) =
      let old = drove n before between legal end put rounds in
      let round = rounded between after old.legal last in
      let all : after ≡ (round.more ++ old.more) ++ before = rw (append_assoc, ← old.longer) round.longer in
      let all_legal = rw all at round.legal in
      let ends = ends_longer g game some_ring (round.more ++ old.more) before all_legal end in
      let here_legal = rw round.longer at round.legal in
      let same : (round.more ++ old.more) ++ before ≡ round.more ++ between = rw (append_assoc, ← old.longer) in
      let here_end = rw same at ends.end in
      let here_put = rw same at (ends.put put) in
      let worked = ap (work_in g) round.longer in
      let grows = work_grows g round.more between in
      record {
        more = round.more ++ old.more;
        longer = all;
        legal = round.legal;
        tells = ⊎_elim (λ closed. absurd (not_closed closed))
            (λ some. dite (ℕ_discrete (work_in g (round.more ++ between)) (work_in g between))
            (λ idle. inl (rw round.longer
            (round_closes g game some_ring between round.more round.has here_legal idle here_put here_end)))
            (λ busy. inr (omega arith))) old.tells;
      }

  pub drive_closes : (before after : Log) → IsLegalLog g before → HasEnd g before → RootHasPut g before
      → (fired : ℕ → ℕ) → AreFiringBounds g before fired → (rounds : ℕ)
      → steps_at_most g.game (length (fed_so_far g before)) fired < rounds → (result : Drive)
      → IsDrive g rounds before after result → result ≡ Closed
  drive_closes before after legal end put fired bounds rounds enough Closed drive = refl
  drive_closes before after legal end put fired bounds rounds enough (Unfinished n) drive =
      let all = drive.answers in
      let is = drove drive.count before after legal end put drive.are_rounds in
      let after_legal = rw is.longer at is.legal in
      let few = few_after g game some_ring before (is.more ++ before)
      (ends_longer g game some_ring is.more before after_legal end) after_legal fired bounds in
      let worked = ap (work_in g) is.longer in
      absurd (⊎_elim (λ closed. all.2 closed) (λ some. let count = all.1 in absurd (omega arith)) is.tells)
