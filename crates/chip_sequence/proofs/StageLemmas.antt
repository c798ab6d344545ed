-- Serves Stages.antt, Sequence.antt.
-- Plays in several stages: what they lead to, and that they add up.
use Rattle.chip_sequence.proofs.Names.{◌≡◌, ℕ, ◌+◌, List, [], ◌∷◌, ◌++◌, slice_index, refl, arith, Multigraph, IsGraph}
use Rattle.chip_sequence.proofs.Names.{position_after, IsFiringSequence, counts, HasEnded, IsWholePlay}
use Rattle.chip_sequence.specs.Stages.{LeadsTo, AreStages, counts_of_all, left_by_all, StagesAddUp}
use Rattle.chip_sequence.specs.Stages.{PlayedIsStage}
use Rattle.chip_sequence.proofs.FiringLemmas.{counts-append, position-append, sequence-append}
use Rattle.chip_sequence.proofs.BoundLemmas.{same_ends}

-- nothing fired
pub leads_none : (G : Multigraph) (x : ℕ → ℕ) → LeadsTo G x (λ v. 0) x
leads_none G x = ([], record { sequence = tt; counted = λ v. refl; position = λ v. refl })

-- one after the other
pub leads_both : (G : Multigraph) (x f y h z : ℕ → ℕ) → LeadsTo G x f y → LeadsTo G y h z
    → LeadsTo G x (λ v. f v + h v) z
leads_both G x f y h z one two =
    let vs : List ℕ = one.0 in
    let ws : List ℕ = two.0 in
    let there : y ≡ position_after G x vs = (λ i u. one.1.position u i) in (
      vs ++ ws,
      record {
        sequence = sequence-append G vs ws x one.1.sequence (rw there at two.1.sequence);
        counted = λ u. omega (arith, one.1.counted u, two.1.counted u, counts-append vs ws u);
        position = λ u. rw (position-append G vs ws x, ← there) (two.1.position u);
      },
    )

-- all stages are one
pub leads_all : (G : Multigraph) (x : ℕ → ℕ) (stages : List ((ℕ → ℕ) × (ℕ → ℕ))) → AreStages G x stages
    → LeadsTo G x (counts_of_all stages) (left_by_all x stages)
leads_all G x [] are = leads_none G x
leads_all G x ((f, y) ∷ rest) are =
    leads_both G x f y (counts_of_all rest) (left_by_all y rest) are.0 (leads_all G y rest are.1)

-- every continuation to an end has, with the counts before, the counts and the end of every play that ends
pub ends_alike : (G : Multigraph) → IsGraph G → (x f y : ℕ → ℕ) → LeadsTo G x f y → (ws : List ℕ)
    → IsFiringSequence G y ws → HasEnded G y ws
    → (vs : List ℕ) → IsFiringSequence G x vs → HasEnded G x vs
    → ((v : ℕ) → f v + counts ws v ≡ counts vs v) × ((v : ℕ) → position_after G y ws v ≡ position_after G x vs v)
ends_alike G good x f y one ws ok ended vs ok' ended' =
    let us : List ℕ = one.0 in
    let there : y ≡ position_after G x us = (λ i u. one.1.position u i) in
    let goes : position_after G x (us ++ ws) ≡ position_after G y ws = rw there (position-append G us ws x) in
    let same = same_ends G good x (us ++ ws) vs (sequence-append G us ws x one.1.sequence (rw there at ok))
    (λ v can. ended v (rw goes at can)) ok' ended' in
    (λ v. omega (arith, one.1.counted v, counts-append us ws v, same.0 v), λ v. rw (← goes) (same.1 v))

pub stages_add_up : StagesAddUp
stages_add_up G good x stages are =
    ends_alike G good x (counts_of_all stages) (left_by_all x stages) (leads_all G x stages are)

pub played_is_stage : PlayedIsStage
played_is_stage g o played =
    let vs : List ℕ = played.ends.0 in
    let whole : IsWholePlay g.graph (slice_index g.start) g.limit vs = played.ends.1 in
    (vs, record { sequence = whole.sequence; counted = played.counted vs whole; position = played.position vs whole })
