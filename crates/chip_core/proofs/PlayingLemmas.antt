-- Serves Playing.antt.
-- If nothing is sealed, fair schedules play the game.
use Rattle.chip_core.proofs.Names.{◌≡◌, ℕ, false, cond, eqb, eqb-true, [], ◌∷◌, Option, Some, None, refl}
use Rattle.chip_core.proofs.Names.{arith, ◌<◌, ◌++◌, true≢false, nat_tests, IsGame, tested_none, after_claim}
use Rattle.chip_core.proofs.Names.{word_of, Setting, refusals, cause, link_after, halt_after, stop_after, at_edge}
use Rattle.chip_core.proofs.Names.{is_none_of, Log, Event, Clear, Claim, Put, Halt, Feed, Seal, Part, part_of, part_in}
use Rattle.chip_core.proofs.Names.{does, out_in, stop_in, sees, IsLegalLog, IsClosed, tail_of, all_edges, log_after}
use Rattle.chip_core.proofs.Names.{is_by_seal, SealsNone, EndsAsPlayed, UnsealedHaltsNone, FairSchedulesPlay}
use Rattle.chip_core.proofs.Names.{FairRoundsPlay}
use Rattle.chip_core.proofs.LogLemmas.{link_step, stop_step}
use Rattle.chip_core.proofs.NumberLemmas.{seals_stand}
use Rattle.chip_core.proofs.ReachingLemmas.{run_legal}
use Rattle.chip_core.proofs.OutcomeLemmas.{outcomes_tell}
use Rattle.chip_core.proofs.ScheduleLemmas.{fair_schedules_close, fair_rounds_close}

-- a sealed edge was not open before
was_open : (x : Event) (seen e : ℕ) (stop : Option ℕ) → stop_after x seen e stop ≡ None → stop ≡ None
was_open (Seal i) seen e None is = refl
was_open (Seal i) seen e (Some n) is = grind (arith, nat_tests)
was_open x seen e stop is = is

-- without a refusal a seal is no cause
cause_step : (g : Setting) (v : ℕ) (s : Part) → refusals g v s ≡ 0 → is_by_seal (cause g v s) ≡ false
cause_step g v s none = grind (arith, nat_tests)

module _ (g : Setting) where
  -- an event that sees no seal leaves no refusal
  module _ (log : Log) (open_yet : (e : ℕ) → stop_in g log e ≡ None)
      (none : (e : ℕ) → (out_in g log e).link.refused ≡ false) where
    claimed : (i e seen count : ℕ) → seen ≡ word_of (out_in g log i).link (stop_in g log i)
        → (cond (eqb i e) (after_claim count seen (out_in g log e).link) (out_in g log e).link).refused ≡ false
    claimed i e seen count is = let now = open_yet i in let off = none e in grind (arith, nat_tests)

    refused_step : (x : Event) (seen : ℕ) → seen ≡ sees g log x → (e : ℕ)
        → (link_after x seen e (out_in g log e)).refused ≡ false
    refused_step (Clear i) seen is e = let off = none e in grind (arith, nat_tests)
    refused_step (Claim i) seen is e = claimed i e seen (out_in g log e).pending is
    refused_step (Put i) seen is e = let off = none e in grind (arith, nat_tests)
    refused_step (Feed i k) seen is e = claimed i e seen k is
    refused_step x seen is e = none e

    halt_step : ((v : ℕ) → is_by_seal (part_in g log v).halt ≡ false) → (x : Event)
        → is_by_seal (halt_after g x (part_in g log (part_of g x))) ≡ false
    halt_step old (Halt v) = cause_step g v (part_in g log v) (tested_none (all_edges g) (λ e. eqb (tail_of g e) v)
        (λ e. cond ((part_in g log v).out e).link.refused 1 0) (λ e l on. (let a = eqb-true (tail_of g e) v on in
        let b = none e in cc)))
    halt_step old x = old (part_of g x)

  -- if nothing is sealed, no claim is refused, and no seal halts a vertex
  pub unsealed_refuses : (log : Log) → IsLegalLog g log → ((e : ℕ) → stop_in g log e ≡ None)
      → ((e : ℕ) → (out_in g log e).link.refused ≡ false) × ((v : ℕ) → is_by_seal (part_in g log v).halt ≡ false)
  unsealed_refuses [] legal none = ((λ e. refl), (λ v. refl))
  unsealed_refuses (x ∷ log) legal none =
      let before : (e : ℕ) → stop_in g log e ≡ None =
      (λ e. was_open x.event x.seen e (stop_in g log e) (let a = stop_step g x log e in let b = none e in cc)) in
      let old = unsealed_refuses log legal.0 before in (
        (λ e. (let c = link_step g x log e in let d = refused_step log before old.0 x.event x.seen legal.1.1 e in
            cc)),
        at_edge (λ _ (s : Part). is_by_seal s.halt ≡ false) (part_of g x.event) (λ v. does g x (part_in g log v))
            (part_in g log) (halt_step log before old.0 old.1 x.event) old.1,
      )

pub unsealed_halts_none : UnsealedHaltsNone
unsealed_halts_none g game some_ring log legal open_all v l is = true≢false (let a = (unsealed_refuses g log legal
    (λ e. is_none_of (stop_in g log e) (let b = seals_stand g log e in let c = open_all e in cc))).1 v in cc)

pub plays_out : (g : Setting) → IsGame g.game → 0 < g.ring → (log : Log) → IsLegalLog g log → SealsNone log → IsClosed g log
    → EndsAsPlayed g log
plays_out g game some_ring log legal open_all closed = (
  closed,
  λ o is.
      (outcomes_tell g game some_ring log legal o is).played closed (unsealed_halts_none g game some_ring log legal open_all),
)

pub fair_schedules_play : FairSchedulesPlay
fair_schedules_play g game some_ring log legal end fired all n more xs has open_all =
    plays_out g game some_ring (log_after g log xs) (run_legal g log xs legal) open_all
    (fair_schedules_close g game some_ring log legal end fired all n more xs has)

pub fair_rounds_play : FairRoundsPlay
fair_rounds_play g game some_ring before legal end put fired all n more xs longer has open_all =
    plays_out g game some_ring (xs ++ before) longer open_all
    (fair_rounds_close g game some_ring before legal end put fired all n more xs longer has)
