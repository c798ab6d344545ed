-- Serves Worked.antt, Rounds.antt.
-- The worked drives, phase by phase.
use Rattle.chip_world.proofs.Names.{◌≡◌, ℕ, [], ◌∷◌, refl, arith, Part, opening_part, does, saw, Take, Ack, Settle}
use Rattle.chip_world.proofs.Names.{closed_is, IsTurnAfter, IsRootOpen, lone_sink, OneRoundCloses, NoRoundLeavesOpen}

still_open : IsRootOpen lone_sink []
still_open closed = let none : ◌≡◌ {A = ℕ} 1 0 = closed.1 0 (omega arith) refl in absurd (omega arith)

turn_of_sink : IsTurnAfter lone_sink 0 [] (saw (Ack 0) 0 ∷ saw (Take 0) 5 ∷ [])
turn_of_sink =
    let s1 : Part = does lone_sink (saw (Take 0) 5) (opening_part lone_sink) in
    let s2 : Part = does lone_sink (saw (Ack 0) 0) s1 in
    record {
      operations = saw (Take 0) 5 ∷ saw (Ack 0) 0 ∷ [];
      are_turn = (
        s2,
        (
          saw (Take 0) 5 ∷ [],
          s1,
          saw (Ack 0) 0 ∷ [],
          refl,
          (saw (Take 0) 5 ∷ [], s1, [], refl, (5, [], refl, (refl, refl)), (refl, refl)),
          (
            [],
            s1,
            saw (Ack 0) 0 ∷ [],
            refl,
            (refl, refl),
            (
              [],
              s1,
              saw (Ack 0) 0 ∷ [],
              refl,
              (refl, refl),
              (
                [],
                s1,
                saw (Ack 0) 0 ∷ [],
                refl,
                (refl, refl),
                (
                  [],
                  s1,
                  saw (Ack 0) 0 ∷ [],
                  refl,
                  (refl, refl),
                  (
                    [],
                    s1,
                    saw (Ack 0) 0 ∷ [],
                    refl,
                    (refl, refl),
                    (
                      saw (Ack 0) 0
                          ∷ [],
                      s2,
                      [],
                      refl,
                      (saw (Ack 0) 0 ∷ [], s2, [], refl, (0, [], refl, (refl, refl)), (refl, refl)),
                      (refl, refl),
                    ),
                  ),
                ),
              ),
            ),
          ),
        ),
      );
      all_made = refl;
      all_fit = ((tt, (refl, refl)), (refl, refl));
    }

pub one_round_closes : OneRoundCloses
one_round_closes = record {
  count = 1;
  within = omega arith;
  are_rounds = ([], refl, still_open, (saw (Ack 0) 0 ∷ saw (Take 0) 5 ∷ [], ([], refl, turn_of_sink), refl));
  answers = (closed_is lone_sink (saw (Settle 0) 1 ∷ saw (Ack 0) 0 ∷ saw (Take 0) 5 ∷ [])).0 (refl, refl);
}

pub no_round_leaves_open : NoRoundLeavesOpen
no_round_leaves_open = record { count = 0; within = omega arith; are_rounds = refl; answers = (refl, refl, still_open) }
