-- Serves Core.antt.
-- What a reply leaves by which nothing was done, and concatenated runs.
use Rattle.chip_core.proofs.Names.{nat_tests, arith, ◌≡◌, ℕ, suc, true, false, List, [], ◌∷◌, ◌++◌, length, Option}
use Rattle.chip_core.proofs.Names.{Some, None, refl, sym, ap, true≢false, Setting, saw, at_edge, Log, Event, Seal, End}
use Rattle.chip_core.proofs.Names.{Rule, Part, unmet_rule, part_of, does, reply_of, part_in, sees, answer, step}
use Rattle.chip_core.proofs.Names.{replies_to, log_after, counts_as_work, is_idle, DifferInNotes, IdleStepsLeave}
use Rattle.chip_core.proofs.Names.{RunsGoOn}
use Rattle.chip_core.proofs.IdleLemmas.{bare, idle_does}

-- parts that are equal except for their notes, their seals and the end differ only in their notes, if the seals and the
-- end are equal
leaves : (s t : Part) → bare s ≡ bare t → ((e : ℕ) → s.stop e ≡ t.stop e) → s.ended ≡ t.ended → DifferInNotes s t
leaves s t same stop ended = record {
  chips = ap (λ (p : Part). p.chips) same;
  fired = ap (λ (p : Part). p.fired) same;
  halt = ap (λ (p : Part). p.halt) same;
  parent = ap (λ (p : Part). p.parent) same;
  put = λ e. ap (λ (p : Part). (p.out e).link.put) same;
  held = λ e. ap (λ (p : Part). (p.out e).link.held) same;
  pending = λ e. ap (λ (p : Part). (p.out e).pending) same;
  settled = λ e. ap (λ (p : Part). (p.out e).settled) same;
  got = λ e. ap (λ (p : Part). (p.into e).got) same;
  acked = λ e. ap (λ (p : Part). (p.into e).acked) same;
  stop = stop;
  ended = ended;
}

module _ (g : Setting) where
  idle_uncounted : (x : Event) (seen : ℕ) (s : Part) → is_idle (reply_of g x seen s) ≡ true
      → counts_as_work g s (saw x seen) ≡ false
  idle_uncounted _ seen s idle = grind (arith, nat_tests)

  -- the part that acts
  acting_leaves : (x : Event) (seen : ℕ) (s : Part) → is_idle (reply_of g x seen s) ≡ true
      → DifferInNotes (does g (saw x seen) s) s
  acting_leaves (Seal e) seen s idle = absurd (true≢false (sym idle))
  acting_leaves End seen s idle = absurd (true≢false (sym idle))
  acting_leaves x seen s idle =
      leaves (does g (saw x seen) s) s (idle_does g x seen s (idle_uncounted x seen s idle)) (λ e. refl) refl

  answer_leaves : (log : Log) (x : Event) (o : Option Rule) → is_idle (answer g log x o).1 ≡ true → (p : ℕ)
      → DifferInNotes (part_in g (answer g log x o).0 p) (part_in g log p)
  answer_leaves log x (Some r) idle p = leaves (part_in g log p) (part_in g log p) refl (λ e. refl) refl
  answer_leaves log x None idle p = at_edge (λ q (s : Part). DifferInNotes s (part_in g log q)) (part_of g x)
      (λ q. does g (saw x (sees g log x)) (part_in g log q)) (part_in g log)
      (acting_leaves x (sees g log x) (part_in g log (part_of g x)) idle)
      (λ q. leaves (part_in g log q) (part_in g log q) refl (λ e. refl) refl) p

  pub length_replies : (log : Log) (xs : List Event) → length (replies_to g log xs) ≡ length xs
  length_replies log [] = refl
  length_replies log (x ∷ xs) = ap suc (length_replies (step g log x).0 xs)

  pub replies-append : (log : Log) (xs ys : List Event)
      → replies_to g log (xs ++ ys) ≡ replies_to g log xs ++ replies_to g (log_after g log xs) ys
  replies-append log [] ys = refl
  replies-append log (x ∷ xs) ys = let a = replies-append (step g log x).0 xs ys in cc

  pub log_after-append : (log : Log) (xs ys : List Event)
      → log_after g log (xs ++ ys) ≡ log_after g (log_after g log xs) ys
  log_after-append log [] ys = refl
  log_after-append log (x ∷ xs) ys = log_after-append (step g log x).0 xs ys

-- ---- the laws

pub idle_steps_leave : IdleStepsLeave
idle_steps_leave g log x idle = answer_leaves g log x (unmet_rule g x (part_in g log (part_of g x))) idle

pub runs_go_on : RunsGoOn
runs_go_on g log xs ys = (length_replies g log xs, replies-append g log xs ys, log_after-append g log xs ys)
