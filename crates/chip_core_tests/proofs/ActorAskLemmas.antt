-- Serves Asking.antt, ActorAsking.antt.
-- The requests of the tests to an actor, in order.
use Rattle.std.proofs.Common.{◌≡◌, ◌≢◌, ℕ, ◌+◌, ◌<◌, ◌≤◌, true, ◌&&◌, List, [], ◌∷◌, ◌++◌, length, drop, get_or, Option}
use Rattle.std.proofs.Common.{None, Ok, Err, is_some, refl, sym, ap, ◌∙◌, subst, ⊎_elim, eqb-true}
use Rattle.std.proofs.Common.{true≢false}
use Rattle.std.proofs.lemmas.Bool.{and_parts, or_cases}
use Rattle.std.proofs.lemmas.List.{drop_more}
use Rattle.std.proofs.Math.ListN.{drop_of_length-le}
use Rattle.chip_part.specs.Setting.{Setting}
use Rattle.chip_part.specs.declared.act.Act.{Act}
use Rattle.chip_part.specs.declared.act.Act.TheVariants as Do
use Rattle.chip_part.specs.Part.{Part}
use Rattle.chip_part.specs.declared.rule.Rule.{Rule}
use Rattle.chip_part.specs.Rules.{Event}
use Rattle.chip_part.specs.Rules.{unmet_rule}
use Rattle.chip_part.specs.declared.reply.Reply.TheVariants.{NotNow}
use Rattle.chip_part.specs.declared.reply.Reply.{Reply}
use Rattle.chip_part.specs.Steps.{Step, part_of, does, part_and_reply, saw}
use Rattle.chip_part.specs.Acting.{act_of, event_of, verdict, FitsSeen, CanDo, IsOperationDue}
use Rattle.chip_actor.specs.Actor.{ActorMakes}
use Rattle.chip_actor.specs.Actor.{Actor, StandsFor, SomePart}
use Rattle.chip_part.specs.declared.cursor.Cursor.{Cursor}
use Rattle.chip_part.specs.Cursor.{IsUnderWay}
use Rattle.chip_actor.specs.Turning.{TurnContinues}
use Rattle.chip_core_tests.specs.Asking.{may_ask, may_play, may_see_all}
use Rattle.chip_core_tests.specs.ActorAsking.{AnswersFor}
use Rattle.chip_part.proofs.CursorLemmas.{event_of_act}
use Rattle.chip_core_tests.proofs.AskLemmas.{verdict_ok, verdict_err, fits_from_test}

module _ (g : Setting) (s : Part) (a : Actor) (stands : StandsFor g s a) (x : Event) (seen : ℕ)
    (may : may_ask g a.vertex s x seen ≡ true) where
  pub ask_mine : part_of g x ≡ a.vertex
  ask_mine = eqb-true _ _ (and_parts _ _ may).0

  may_do : unmet_rule g x s ≡ None → CanDo g s a.vertex x seen
  may_do met = (
    ask_mine,
    met,
    fits_from_test s x seen (⊎_elim (λ some. absurd (true≢false (sym some ∙ ap is_some met)))
        (λ fits. fits) (or_cases _ _ (and_parts _ _ may).1)),
  )

  module _ (act : Act) (given : verdict (unmet_rule g x s) (act_of g x s) ≡ Ok act) where
    told : event_of a.vertex act ≡ x
    told = ap (event_of a.vertex) (verdict_ok _ _ _ given).1 ∙ event_of_act g a.vertex stands.knows.vertex s x ask_mine
        (verdict_ok _ _ _ given).0

    pub ask_due : IsOperationDue g s a.vertex (record { act = act; seen = seen })
    ask_due = (
      subst (λ (y : Event). CanDo g s a.vertex y seen) (sym told) (may_do (verdict_ok _ _ _ given).0),
      (verdict_ok _ _ _ given).1 ∙ ap (λ (y : Event). act_of g y s) (sym told),
    )

    pub ask_made : (new : Actor) (reply : Reply) → ActorMakes a new (event_of a.vertex act) seen reply
        → StandsFor g (part_and_reply g (saw x seen) s (unmet_rule g x s)).0 new
        × (reply ≡ (part_and_reply g (saw x seen) s (unmet_rule g x s)).1) × (new.vertex ≡ a.vertex)
    ask_made new reply makes =
        subst (λ (u : Option Rule). StandsFor g (part_and_reply g (saw x seen) s u).0 new
        × (reply ≡ (part_and_reply g (saw x seen) s u).1) × (new.vertex ≡ a.vertex))
        (sym (verdict_ok _ _ _ given).0)
        (subst (λ (y : Event). ActorMakes a new y seen reply) told makes g s stands (may_do (verdict_ok _ _ _ given).0))

  pub ask_refused : (rule : Rule) → verdict (unmet_rule g x s) (act_of g x s) ≡ Err rule
      → StandsFor g (part_and_reply g (saw x seen) s (unmet_rule g x s)).0 a
      × (NotNow rule ≡ (part_and_reply g (saw x seen) s (unmet_rule g x s)).1) × (a.vertex ≡ a.vertex)
  ask_refused rule given =
      subst (λ (u : Option Rule). StandsFor g (part_and_reply g (saw x seen) s u).0 a
      × (NotNow rule ≡ (part_and_reply g (saw x seen) s u).1) × (a.vertex ≡ a.vertex))
      (sym (verdict_err _ _ _ given))
      (stands, refl, refl)

-- ---- a list of requests

module _ (xs : List (Event × ℕ × Reply)) (turn : List (Act × ℕ)) where
  -- the requests from a place on are allowed, and the turn made then
  abbrev pub MayPlay : Actor → ℕ → Type 0
  MayPlay a i = SomePart a (λ g s. may_play g a.vertex s (drop i xs) turn ≡ true)

  play_first : (g : Setting) (v : ℕ) (s : Part) (i : ℕ) (d : Event × ℕ × Reply) → i < length xs
      → may_play g v s (drop i xs) turn ≡ true
      → (may_ask g v s (get_or xs i d).0 (get_or xs i d).1
      && may_play g v (part_and_reply g (saw ((get_or xs i d).0) ((get_or xs i d).1)) s
      (unmet_rule g (get_or xs i d).0 s)).0 (drop (i + 1) xs) turn) ≡ true
  play_first g v s i d within all = subst (λ (ys : List (Event × ℕ × Reply)). may_play g v s ys turn ≡ true)
      (drop_more xs i d within) all

  pub ask_now : (a : Actor) (i : ℕ) (d : Event × ℕ × Reply) → i < length xs → MayPlay a i
      → SomePart a (λ g s. may_ask g a.vertex s (get_or xs i d).0 (get_or xs i d).1 ≡ true)
  ask_now a i d within (g, s, stands, all) = (g, s, stands, (and_parts _ _ (play_first g a.vertex s i d within all)).0)

  pub ask_next : (a new : Actor) (reply : Reply) (i : ℕ) (d : Event × ℕ × Reply) → i < length xs → MayPlay a i
      → AnswersFor a new (get_or xs i d).0 (get_or xs i d).1 reply → MayPlay new (i + 1)
  ask_next a new reply i d within (g, s, stands, all) answers =
      let both = and_parts _ _ (play_first g a.vertex s i d within all) in
      let after : Part = (part_and_reply g (saw ((get_or xs i d).0) ((get_or xs i d).1)) s
      (unmet_rule g (get_or xs i d).0 s)).0 in
      let made = answers g s stands both.0 in
      (g, after, made.0, subst (λ (v : ℕ). may_play g v after (drop (i + 1) xs) turn ≡ true) (sym made.2) both.1)

  pub ask_over : (a : Actor) (i : ℕ) → length xs ≤ i → MayPlay a i
      → SomePart a (λ g s. may_see_all g a.vertex s turn ≡ true)
  ask_over a i over (g, s, stands, all) = (
    g,
    s,
    stands,
    subst (λ (ys : List (Event × ℕ × Reply)). may_play g a.vertex s ys turn ≡ true)
        (drop_of_length-le xs over) all,
  )

-- ---- a turn

-- a turn is under way at this cursor, and these operations may see the words beside them
abbrev pub IsTurning : Actor → Cursor → List (Act × ℕ) → Type 0
IsTurning a cursor os = SomePart a (λ g s. (first : Part) × (done : List Step)
    × IsUnderWay g a.vertex first done cursor s × (may_see_all g a.vertex s os ≡ true))

module _ (a : Actor) (cursor next : Cursor) (act : Act) (os : List (Act × ℕ)) (i : ℕ) (d : Act × ℕ)
    (within : i < length os) (turning : IsTurning a cursor (drop i os)) (continues : TurnContinues a cursor act next)
    (is : act ≡ (get_or os i d).0) (some : act ≢ Do.End) where
  pub turn_due : SomePart a (λ g s. IsOperationDue g s a.vertex (record { act = (get_or os i d).0; seen = (get_or os i d).1 }))
  turn_due = from turning
    where
      from : IsTurning a cursor (drop i os)
          → SomePart a (λ g s. IsOperationDue g s a.vertex (record { act = (get_or os i d).0; seen = (get_or os i d).1 }))
      from (g, s, stands, (first, done, way, all)) =
          let step = (continues g s stands).steps some first done way in
          let fits = and_parts _ _ (subst (λ (xs : List (Act × ℕ)). may_see_all g a.vertex s xs ≡ true)
          (drop_more os i d within) all) in (
            g,
            s,
            stands,
            subst (λ (x : Act). CanDo g s a.vertex (event_of a.vertex x) (get_or os i d).1
                × (x ≡ act_of g (event_of a.vertex x) s)) is (
                  (
                    step.mine,
                    step.met,
                    subst (λ (x : Act). FitsSeen s (event_of a.vertex x) (get_or os i d).1) (sym is)
                        (fits_from_test s _ _ fits.0),
                  ),
                  step.needed,
                ),
          )

  pub turn_goes_on : (new : Actor) (reply : Reply)
      → ActorMakes a new (event_of a.vertex (get_or os i d).0) (get_or os i d).1 reply → IsTurning new next (drop (i + 1) os)
  turn_goes_on new reply makes = from turning
    where
      from : IsTurning a cursor (drop i os) → IsTurning new next (drop (i + 1) os)
      from (g, s, stands, (first, done, way, all)) =
          let seen : ℕ = (get_or os i d).1 in
          let step = (continues g s stands).steps some first done way in
          let fits = and_parts _ _ (subst (λ (xs : List (Act × ℕ)). may_see_all g a.vertex s xs ≡ true)
          (drop_more os i d within) all) in
          let can = subst (λ (x : Act). CanDo g s a.vertex (event_of a.vertex x) seen) is (
            step.mine,
            step.met,
            subst (λ (x : Act). FitsSeen s (event_of a.vertex x) seen) (sym is)
                (fits_from_test s _ _ fits.0),
          ) in
          let made = makes g s stands can in
          let x : Event = event_of a.vertex (get_or os i d).0 in
          let after : Part = does g (saw x seen) s in
          let way' = subst (λ (y : Act). IsUnderWay g a.vertex first
          (done ++ saw (event_of a.vertex y) seen ∷ []) next
          (does g (saw (event_of a.vertex y) seen) s)) is (step.goes_on seen) in (
            g,
            after,
            made.0,
            (
              first,
              done ++ saw x seen ∷ [],
              subst
                  (λ (v : ℕ). IsUnderWay g v first (done ++ saw x seen ∷ []) next after)
                  (sym made.2) way',
              subst (λ (v : ℕ). may_see_all g v after (drop (i + 1) os) ≡ true) (sym made.2) fits.1,
            ),
          )
