-- Serves Enough.antt.
-- The rounds that close a game are more than its steps that count.
use Rattle.chip_world.proofs.Names.{◌≡◌, ℕ, zero, suc, ◌+◌, ◌*◌, ◌<◌, length, sum, min, arith, add-mul, suc-mul}
use Rattle.chip_world.proofs.Names.{IsGame, sum_below, fires_at_distance, Setting, Log, IsLegalLog}
use Rattle.chip_world.proofs.Names.{played_game, steps_at_most, fed_so_far, feeds_fit, distance_bounds, WorldState}
use Rattle.chip_world.proofs.Names.{ClosesBy, rounds_to_close, ClosesIn, Drive}

alike : (n c : ℕ) → sum_below n (λ v. c) ≡ n * c
alike zero c = Rattle.std.proofs.Common.sym (Rattle.std.proofs.Common.zero-mul c)
alike (suc n) c = let a = alike n c in let b = suc-mul n c in omega arith

-- a common factor of the firings and five times the messages
factor : (n m c k : ℕ) → m * c ≡ k → n * c + 5 * k ≡ (n + 5 * m) * c
factor n m c k is = let a = add-mul n (5 * m) c in let b : (5 * m) * c ≡ 5 * (m * c) = Rattle.std.proofs.Common.mul_assoc 5 m c in omega arith

more_than_steps : (g : Setting) → IsGame g.game → 0 < g.ring → (log : Log) → IsLegalLog g log → (distance : ℕ)
    → steps_at_most g.game (length (fed_so_far g log)) (λ v. min g.game.limit
    (fires_at_distance g.game.graph (sum (played_game g log).start) distance))
    < rounds_to_close (played_game g log) distance
more_than_steps g game some_ring log legal distance =
    let c : ℕ = min g.game.limit (fires_at_distance g.game.graph (sum (played_game g log).start) distance) in
    let n : ℕ = g.game.graph.vertices in
    let m : ℕ = length g.game.graph.edges in
    let a = alike n c in let b = alike m c in
    let f = factor n m c (m * c) Rattle.std.proofs.Common.refl in
    let h = feeds_fit g game some_ring log legal in
    omega arith

-- so a drive that closes by more rounds than steps closes in this number of rounds
pub closes_in : (old : WorldState) (rounds : ℕ) (result : Drive) → ClosesBy old rounds result → ClosesIn old rounds result
closes_in old rounds result by g log stands end put distance is enough =
    let few = more_than_steps g stands.is_setting.game stands.is_setting.some_ring log stands.legal distance in
    by g log stands end put _
    (distance_bounds g stands.is_setting.game stands.is_setting.some_ring log stands.legal distance is) (omega arith)
