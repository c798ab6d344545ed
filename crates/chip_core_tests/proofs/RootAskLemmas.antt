-- Serves RootAsking.antt.
-- The requests of the tests to a root, in order.
use Rattle.std.proofs.Common.{◌≡◌, ℕ, ◌+◌, ◌<◌, true, ◌&&◌, List, length, drop, get_or, Option, Ok}
use Rattle.std.proofs.Common.{Err}
use Rattle.std.proofs.Common.{is_some, refl, sym, ap, ◌∙◌, subst, ⊎_elim, eqb-true, true≢false}
use Rattle.std.proofs.lemmas.Bool.{and_parts, or_cases}
use Rattle.std.proofs.lemmas.List.{drop_more}
use Rattle.chip_part.specs.Setting.{Setting}
use Rattle.chip_part.specs.declared.act.Act.{Act}
use Rattle.chip_part.specs.Edges.{root_edge}
use Rattle.chip_part.specs.Part.{Part}
use Rattle.chip_part.specs.declared.rule.Rule.{Rule}
use Rattle.chip_part.specs.Rules.{Event, Take, Ack, Fire, Clear, Claim, Put, Halt, Settle, Seal, Read, Feed, End}
use Rattle.chip_part.specs.Rules.{unmet_rule}
use Rattle.chip_part.specs.declared.reply.Reply.TheVariants.{NotNow}
use Rattle.chip_part.specs.declared.reply.Reply.{Reply}
use Rattle.chip_part.specs.Steps.{part_and_reply, saw}
use Rattle.chip_part.specs.Acting.{act_of, verdict}
use Rattle.chip_actor.specs.Root.{Root, RootStandsFor, SomeRoot, RootCanDo, RootMakes}
use Rattle.chip_part.specs.Acting.{is_of_root, FitsRoot}
use Rattle.chip_core_tests.specs.RootAsking.{root_fits_seen, may_ask_root, may_play_root, RootAnswers}
use Rattle.chip_core_tests.proofs.AskLemmas.{verdict_ok, verdict_err, fits_from_test}

-- what the test computes
root_fits_from_test : (g : Setting) (s : Part) (x : Event) (seen : ℕ) → root_fits_seen g s x seen ≡ true
    → FitsRoot g s x seen
root_fits_from_test g s (Take e) seen is = fits_from_test s (Take e) seen is
root_fits_from_test g s (Claim e) seen is = fits_from_test s (Claim e) seen is
root_fits_from_test g s (Settle e) seen is = fits_from_test s (Settle e) seen is
root_fits_from_test g s (Feed e k) seen is = eqb-true _ _ is
root_fits_from_test g s End seen is = fits_from_test s (Settle (root_edge g 0)) seen is
root_fits_from_test g s _ seen is = tt

module _ (g : Setting) (s : Part) (r : Root) (stands : RootStandsFor g s r) (x : Event) (seen : ℕ)
    (may : may_ask_root g s x seen ≡ true) where
  pub root_mine : is_of_root g x ≡ true
  root_mine = (and_parts _ _ may).0

  pub root_may_do : (act : Act) → verdict (unmet_rule g x s) (act_of g x s) ≡ Ok act → RootCanDo g s x seen
  root_may_do act given =
      let met = (verdict_ok _ _ _ given).0 in (
        root_mine,
        met,
        root_fits_from_test g s x seen (⊎_elim (λ some. absurd (true≢false (sym some ∙ ap is_some met)))
            (λ fits. fits) (or_cases _ _ (and_parts _ _ may).1)),
      )

  pub root_made : (act : Act) → verdict (unmet_rule g x s) (act_of g x s) ≡ Ok act → (new : Root) (reply : Reply)
      → RootMakes r new x seen reply
      → RootStandsFor g (part_and_reply g (saw x seen) s (unmet_rule g x s)).0 new
      × (reply ≡ (part_and_reply g (saw x seen) s (unmet_rule g x s)).1)
  root_made act given new reply makes =
      subst (λ (u : Option Rule). RootStandsFor g (part_and_reply g (saw x seen) s u).0 new
      × (reply ≡ (part_and_reply g (saw x seen) s u).1))
      (sym (verdict_ok _ _ _ given).0) (makes g s stands (root_may_do act given))

  pub root_refused : (rule : Rule) → verdict (unmet_rule g x s) (act_of g x s) ≡ Err rule
      → RootStandsFor g (part_and_reply g (saw x seen) s (unmet_rule g x s)).0 r
      × (NotNow rule ≡ (part_and_reply g (saw x seen) s (unmet_rule g x s)).1)
  root_refused rule given =
      subst (λ (u : Option Rule). RootStandsFor g (part_and_reply g (saw x seen) s u).0 r
      × (NotNow rule ≡ (part_and_reply g (saw x seen) s u).1))
      (sym (verdict_err _ _ _ given)) (stands, refl)

-- ---- a list of requests

module _ (xs : List (Event × ℕ × Reply)) where
  -- the requests from a place on are allowed
  abbrev pub MayPlayRoot : Root → ℕ → Type 0
  MayPlayRoot r i = SomeRoot r (λ g s. may_play_root g s (drop i xs) ≡ true)

  play_root_first : (g : Setting) (s : Part) (i : ℕ) (d : Event × ℕ × Reply) → i < length xs
      → may_play_root g s (drop i xs) ≡ true
      → (may_ask_root g s (get_or xs i d).0 (get_or xs i d).1
      && may_play_root g (part_and_reply g (saw ((get_or xs i d).0) ((get_or xs i d).1)) s
      (unmet_rule g (get_or xs i d).0 s)).0 (drop (i + 1) xs)) ≡ true
  play_root_first g s i d within all = subst (λ (ys : List (Event × ℕ × Reply)). may_play_root g s ys ≡ true)
      (drop_more xs i d within) all

  pub ask_root_now : (r : Root) (i : ℕ) (d : Event × ℕ × Reply) → i < length xs → MayPlayRoot r i
      → SomeRoot r (λ g s. may_ask_root g s (get_or xs i d).0 (get_or xs i d).1 ≡ true)
  ask_root_now r i d within (g, s, stands, all) =
      (g, s, stands, (and_parts _ _ (play_root_first g s i d within all)).0)

  pub ask_root_next : (r new : Root) (reply : Reply) (i : ℕ) (d : Event × ℕ × Reply) → i < length xs → MayPlayRoot r i
      → RootAnswers r new (get_or xs i d).0 (get_or xs i d).1 reply → MayPlayRoot new (i + 1)
  ask_root_next r new reply i d within (g, s, stands, all) answers =
      let both = and_parts _ _ (play_root_first g s i d within all) in
      let after : Part = (part_and_reply g (saw ((get_or xs i d).0) ((get_or xs i d).1)) s
      (unmet_rule g (get_or xs i d).0 s)).0 in
      (g, after, (answers g s stands both.0).0, both.1)
