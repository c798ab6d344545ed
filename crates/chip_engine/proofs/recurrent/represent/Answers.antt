use Rattle.std.proofs.Common.{◌≡◌, ◌↔◌, ◌∙◌, ℕ, List, slice_index, inl, inr}
use Rattle.chip_graph.specs.Multigraph.{Multigraph}
use Rattle.chip_recurrent.proofs.EquivalentLemmas.{represents_itself}
use Rattle.chip_engine.specs.RecurrentCommand.{TellsWhether}
use Rattle.chip_engine.proofs.recurrent.represent.Goals as goal

-- what a status says of one, it says of the other
tells_too : {P Q : Type 0} (status : ℕ) → P ↔ Q → TellsWhether P status → TellsWhether Q status
tells_too status same (inl (done, p)) = inl (done, same.0 p)
tells_too status same (inr (other, refuted)) = inr (other, λ q. refuted (same.1 q))

pub returns-in-Ok : goal.returns-in-Ok
returns-in-Ok c =
    let G : Multigraph = c.args.game.graph in
    let start : List ℕ = c.args.game.start in
    let chips = c.in_ok-chips.ensures.items ∙ c.start.ensures.value in
    let read : c.deref.result.now ≡ start = c.deref.ensures.value ∙ chips in
    let compared : c.deref-in-Ok.result.now ≡ start = c.deref-in-Ok.ensures.value ∙ chips in
    let found = rw (c.into_graph.ensures.value, read) at c.in-Ok.ensures in
    let c' : List ℕ = c.in-Ok.found.chips.items in
    let says = rw (found.0, compared) at c.in_ok-compare-in-Ok.ensures.status in (
      c',
      found.1,
      found.2,
      c.in_ok-compare-in-Ok.ensures.text,
      tells_too _ (represents_itself G (slice_index start) (slice_index c') found.2) says,
    )
