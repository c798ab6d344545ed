-- Serves Views.antt, Rule.antt, Roots.antt.
-- The stopper: a seal of an edge.
use Rattle.chip_net.proofs.Names.{◌≡◌, ℕ, ◌<◌, not, [], ◌∷◌, ◌++◌, Option, Some, None, is_some, refl, sym, ap, ◌∙◌}
use Rattle.chip_net.proofs.Names.{arith, List, is_none, TableId, edge_word, claims_in, is_sealed_in}
use Rattle.chip_net.proofs.Names.{ReadsAs, claims_of, after_seal, IsSealedAt, read_edge, Setting, IsSetting, stopper}
use Rattle.chip_net.proofs.Names.{graph_edges, stop_after, Step, Event, Seal, Part, opening_part, part_in}
use Rattle.chip_net.proofs.Names.{out_in, stop_in, does, part_by, by_history, edge_sound, claims_most, seals_stand_law}
use Rattle.chip_net.proofs.Names.{SealedAt, Mine, did_in, part_of_view, IsAlone, Grows, StopperKnown, Seals}
use Rattle.chip_net.proofs.Names.{SealsTellAll}
use Rattle.chip_net.proofs.Names.{nat_tests, eq-eqb}
use Rattle.chip_net.proofs.ViewingLemmas.{part_append}
use Rattle.chip_net.proofs.RulingLemmas.{Due, Made, made}

not_some : (o : Option ℕ) → not (is_some o) ≡ is_none o
not_some o = grind (arith, nat_tests)

-- the number of claims is unchanged, whether this seal was the first or not
first_word : (n word : ℕ) (stop : Option ℕ) → IsSealedAt n stop → word ≡ edge_word n (is_some stop) → claims_in word ≡ n
    → after_seal word stop ≡ Some (claims_in word)
first_word n word None at is claims = ap Some (let z : word ≡ claims_in word = omega arith in z)
first_word n word (Some first) at is claims = ap Some (at ∙ sym claims)

module _ {g : Setting} (setting : IsSetting g) {me : Mine} {edge : ℕ} (due : Due g me (stopper g) (Seal edge))
    (inside : edge < graph_edges g) {seen : ℕ} {after : Mine} (told : Grows g (Seal edge) me seen after) where
  abbrev s : Part
  s = part_of_view g (stopper g) me.0

  m : Made g me (stopper g) (Seal edge) seen after
  m = made due seen after told

  pub still_stopper : IsAlone (stopper g) me.0 × (me.1 ≡ []) → IsAlone (stopper g) after.0 × (after.1 ≡ [])
  still_stopper keeps = (m.alone keeps.0, m.slots ∙ keeps.1)

  stop_is : stop_in g m.stepped.log edge ≡ s.stop edge
  stop_is = rw m.in_log

  abbrev claims : ℕ
  claims = claims_of (out_in g m.stepped.log edge).link

  word_is : seen ≡ edge_word claims (is_some (s.stop edge))
  word_is = rw stop_is at m.stepped.has.0.1

  reads : ReadsAs seen claims (is_some (s.stop edge))
  reads = let few = claims_most g setting.game setting.some_ring m.stepped.log m.stepped.legal edge in
      read_edge seen claims (is_some (s.stop edge)) (omega arith) word_is

  pub seals : {own : StopperKnown} {table : TableId}
      → record { net = record { table = table; setting = g }; did = did_in (stopper g) me.0 } ≡ own
      → {now : TableId} → now ≡ table → (answer : SealedAt) → answer.count ≡ claims_in seen
      → answer.first ≡ not (is_sealed_in seen)
      → Seals own (record { net = record { table = now; setting = g }; did = did_in (stopper g) after.0 }) edge answer
  seals view_is table_is answer count first = rw (← view_is) (record {
    inside = inside;
    seen = seen;
    record_is = rw (table_is, m.did_is);
    first_is = rw (first, reads.seal_is) (not_some (s.stop edge));
    count_is = rw (m.part_is, eq-eqb edge edge refl, count) (first_word claims seen (s.stop edge)
        (rw stop_is at (edge_sound g setting.game setting.some_ring m.stepped.log m.stepped.legal edge).sealed_at)
        word_is reads.claims_are);
  })

-- ---- the result of a seal stays valid

pub seal_stays : (x : Event) (seen e n : ℕ) (stop : Option ℕ) → stop ≡ Some n → stop_after x seen e stop ≡ Some n
seal_stays x seen e n stop is = grind (arith, nat_tests)

stays : (g : Setting) (xs : List Step) (s : Part) (e n : ℕ) → s.stop e ≡ Some n → (part_by g s xs).stop e ≡ Some n
stays g [] s e n is = is
stays g (x ∷ xs) s e n is = stays g xs (does g x s) e n (seal_stays x.event x.seen e n (s.stop e) is)

pub seals_tell_all : SealsTellAll
seals_tell_all receipt actors o setting run old new edge answer seals same later did_is =
    let g : Setting = receipt.net.setting in
    let first : (part_by g (opening_part g) new.did).stop edge ≡ Some answer.count =
    rw same at seals.count_is in
    let part : part_in g run.log (stopper g) ≡ part_by g (part_by g (opening_part g) new.did) later =
    rw (by_history g run.log (stopper g), ← run.agrees.stopper_did (new.did ++ later) did_is, part_append) in
    (seals_stand_law g setting.game setting.some_ring run.log run.legal edge).1 answer.count
    (ap (λ (p : Part). p.stop edge) part ∙ stays g later (part_by g (opening_part g) new.did) edge answer.count first)
