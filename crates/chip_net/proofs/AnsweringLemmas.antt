-- Serves Tokens.antt.
-- The result of a turn.
use Rattle.chip_net.proofs.Names.{◌≡◌, ℕ, ◌<◌, Bool, true, false, List, [], ◌∷◌, refl, sym, ap, ◌∙◌, arith}
use Rattle.chip_net.proofs.Names.{TableId, Setting, Actor, StandsFor, is_passive, work_of, idle_turn_rests}
use Rattle.chip_net.proofs.Names.{Turn, Worked, Waiting, Idle, History, IsAlone, NetId, ActorKnown, part_known, known}
use Rattle.chip_net.proofs.Names.{table_of, me_of, AnswersTurn, MakesTurn, MakesTurnBy, Mine}

module _ (own after : ActorKnown) (work : ℕ) (made : MakesTurnBy own after work) where
  makes : (answer : Turn)
      → AnswersTurn own.net.setting own.vertex (work_of own.net.setting (part_known own) made.steps) (part_known after) answer
      → MakesTurn own after answer
  makes answer answers = record {
    steps = made.steps;
    record_is = made.record_is;
    is_turn = made.is_turn;
    bounded = made.bounded;
    answers = answers;
  }

  pub worked : 0 < work → MakesTurn own after (Worked work)
  worked some = makes (Worked work) (sym made.work_is, some)

  module _ (none : work ≡ 0) (a : Actor) (vertex : a.vertex ≡ own.vertex)
      (stands : StandsFor own.net.setting (part_known after) a) where
    -- what the actor reports of its state holds of the part after the turn
    passive_is : (b : Bool) → b ≡ is_passive own.net.setting a.vertex (part_known after)
        → is_passive own.net.setting own.vertex (part_known after) ≡ b
    passive_is b said = rw (said, vertex)

    pub waiting : false ≡ is_passive own.net.setting a.vertex (part_known after) → MakesTurn own after Waiting
    waiting said = makes Waiting (made.work_is ∙ none, passive_is false said)

    pub idle : true ≡ is_passive own.net.setting a.vertex (part_known after) → MakesTurn own after Idle
    idle said = makes Idle (
      made.work_is ∙ none,
      passive_is true said,
      idle_turn_rests own.net.setting own.vertex (part_known own) made.steps (part_known after) made.is_turn
          (made.work_is ∙ none)
          (rw vertex at stands.kept) (passive_is true said),
    )

-- ---- an actor with its part

module _ (table : TableId) (g : Setting) (v room : ℕ) (me knew : Mine) (own : ActorKnown)
    (view_is : known (table_of me.0.parts table) g v room (me_of me.0.parts me knew).0 ≡ own) (net : NetId)
    (net_is : own.net ≡ net) (some : 0 < net.table.words) where
  -- it is of a net, so it has its part
  pub has_part : (table_of me.0.parts table ≡ table) × (me_of me.0.parts me knew ≡ me)
  has_part = by_parts me.0.parts (ap (λ (k : ActorKnown). k.net.table) view_is ∙ ap (λ (n : NetId). n.table) net_is)
    where
      by_parts : (ps : List History) → table_of ps table ≡ net.table → (table_of ps table ≡ table) × (me_of ps me knew ≡ me)
      by_parts [] none = let z = ap (λ (t : TableId). t.words) none in absurd (omega (arith, z, some))
      by_parts (x ∷ xs) is = (refl, refl)

  pub own_is : known table g v room me.0 ≡ own
  own_is = rw (has_part.0, has_part.1) at view_is

pub alone_has_part : (v : ℕ) (table : TableId) (me knew : Mine) → IsAlone v me.0
    → (table_of me.0.parts table ≡ table) × (me_of me.0.parts me knew ≡ me)
alone_has_part v table me knew alone = rw alone (refl, refl)
