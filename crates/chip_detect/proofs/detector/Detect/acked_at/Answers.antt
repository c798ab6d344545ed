use Rattle.std.proofs.Common.{◌≡◌, ◌≢◌, ◌≤◌, nat_eq, true, Some, None, Contains, sym, ◌∙◌, subst}
use Rattle.std.specs.Option.{option_eq}
use Rattle.chip_detect.specs.Tally.{open_on}
use Rattle.chip_detect.specs.Books.{Books, IsSound, in_edges}
use Rattle.chip_detect.specs.Acknowledging.{may_ack}
use Rattle.chip_detect.proofs.LookupsLemmas.{slot_among}
use Rattle.chip_detect.proofs.SoundnessLemmas.{freed, kept}
use Rattle.chip_detect.proofs.detector.Detect.acked_at.Goals as goal
use Rattle.chip_detect.proofs.detector.Detect.acked_at.Goals.{After-add_answers_at}
use Rattle.chip_detect.proofs.detector.Detect.acked_at.Goals.{else-eq-via-then-eq+else-open_at-eq0, else-eq-via-else-eq}

-- the books before the call
abbrev old : After-add_answers_at → Books
old c = record { ins = c.self.inside.ins; outs = c.self.inside.outs; parent = c.self.inside.parent }

into : (c : After-add_answers_at) → Contains (in_edges (old c)) c.args.slot.edge
into c = subst (λ (b : Books). Contains (in_edges b) c.args.slot.edge) (sym c.self.view_is)
    (slot_among _ c.args.slot c.requires.slot)

allowed : (c : After-add_answers_at) → c.args.count ≤ may_ack (old c) c.args.slot.edge true
allowed c = subst (λ (b : Books). c.args.count ≤ may_ack b c.args.slot.edge true) (sym c.self.view_is) c.requires.allowed

-- nothing is owed on the parent edge
free : (c : After-add_answers_at) → option_eq nat_eq c.self.inside.parent (Some c.args.slot.edge) ≡ true
    → open_on c.add_answers_at.new.self c.args.slot.edge ≡ 0
    → IsSound (record (old c) { ins = c.add_answers_at.new.self; parent = None })
free c = freed (old c) c.add_answers_at.new.self c.args.slot.edge c.args.count c.self.invariant (into c)
    (allowed c) c.add_answers_at.ensures.adds

-- the parent edge is another, or something is still owed on it
engaged : (c : After-add_answers_at)
    → (option_eq nat_eq c.self.inside.parent (Some c.args.slot.edge) ≡ true
    → open_on c.add_answers_at.new.self c.args.slot.edge ≢ 0) → IsSound (record (old c) { ins = c.add_answers_at.new.self })
engaged c = kept (old c) c.add_answers_at.new.self c.args.slot.edge c.args.count c.self.invariant (into c)
    (allowed c) c.add_answers_at.ensures.adds

pub invariant_of-self : goal.invariant_of-self
invariant_of-self c = free (goal.at.invariant_of-self c).After-add_answers_at (sym c.eq.ensures
    ∙ c.if-eq.true) (sym c.open_at.ensures ∙ c.if-open_at-eq0.true)

pub invariant_of-self-else-eq : goal.invariant_of-self-else-eq
invariant_of-self-else-eq c = engaged (goal.at.invariant_of-self-else-eq c).After-add_answers_at
    (λ same. absurd (cc (c.eq.ensures, c.if-eq.false, same)))

pub returns-then-open_at-eq0-clause-sound : goal.returns-then-open_at-eq0-clause-sound
returns-then-open_at-eq0-clause-sound c = free (goal.at.returns-then-open_at-eq0-clause-sound c).After-add_answers_at
    (sym c.eq.ensures ∙ c.if-eq.true) (sym c.open_at.ensures ∙ c.if-open_at-eq0.true)

pub returns-else-eq-clause-sound : goal.returns-else-eq-clause-sound
returns-else-eq-clause-sound c = elim c.else-eq.branch [
  | else-eq-via-then-eq+else-open_at-eq0 w ↦ rw w.self-is
      (engaged (goal.at.returns-else-eq-clause-sound c).After-add_answers_at
      (λ same unowed. w.if-open_at-eq0.false (w.open_at.ensures ∙ unowed)))
  | else-eq-via-else-eq w ↦ rw w.self-is (engaged (goal.at.returns-else-eq-clause-sound c).After-add_answers_at
      (λ same. absurd (cc (c.eq.ensures, w.if-eq.false, same))))
]
