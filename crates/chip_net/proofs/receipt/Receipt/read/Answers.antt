use Rattle.chip_net.proofs.Names.{◌≡◌, refl, sym, subst, root, stopper, met_rules, Read}
use Rattle.chip_net.proofs.Names.{of_vertex, index_of, did_in, root_part, IsRootOver}
use Rattle.chip_net.specs.contracts.receipt.Receipt.{the_view}
use Rattle.chip_net.proofs.RulingLemmas.{Due, words_at, Made, made, event_asked, event_told}
use Rattle.chip_net.proofs.RootingLemmas.{known_after}
use Rattle.chip_net.proofs.FinishingLemmas.{fired_word_is}
use Rattle.chip_net.proofs.receipt.Receipt.read.Goals.{After-words, After-load}
use Rattle.chip_net.proofs.receipt.Receipt.read.Goals as goal

-- the receipt is of this net
net_is : (c : After-words) → (the_view c.self.inside).net ≡ c.args.net.now
net_is c = rw (← c.self.view_is) at c.requires.net

due : (c : After-words) → Due c.self.inside.setting.value c.self.inside.seat.me (root c.self.inside.setting.value)
    (Read c.args.vertex)
due c =
    let over : IsRootOver (the_view c.self.inside) = subst IsRootOver (sym c.self.view_is) c.requires.over in
    record {
      mine = refl;
      has = c.self.invariant.0;
      met = met_rules c.self.inside.setting.value (Read c.args.vertex) (root_part (the_view c.self.inside)) (
        rw (← c.self.view_is) at c.requires.vertex,
        over.0,
        over.1,
      );
    }

at : (c : After-words) → c.fired_word-word.result ≡ index_of c.self.inside.setting.value (of_vertex c.args.vertex)
at c = rw (c.fired_word-word.ensures, c.setting.ensures.value, ← net_is c)

pub load-requires : goal.load-requires
load-requires c =
    let d = (goal.at.load-requires c).After-words in
    event_asked (words_at (net_is d) c.words.ensures) (due d) _ (at d) Read refl _ refl _

read : (c : After-load) → Made c.self.inside.setting.value c.self.inside.seat.me (root c.self.inside.setting.value)
    (Read c.args.vertex) c.load.result c.load.new.seat.me
read c =
    let d = (goal.at.After-load c).After-words in
    made (due d) _ _ (event_told (words_at (net_is d) c.words.ensures) (due d) _ (at d) Read refl _ _ c.load.ensures.2)

pub invariant_of-self : goal.invariant_of-self
invariant_of-self c = ((read (goal.at.invariant_of-self c).After-load).has, c.self.invariant.1)

pub returns-clause-reads : goal.returns-clause-reads
returns-clause-reads c =
    let m = read (goal.at.returns-clause-reads c).After-load in
    let g = c.self.inside.setting.value in (
      known_after m c.self.view_is c.load.ensures.0,
      rw (← c.self.view_is) (record {
        log = m.stepped.log;
        legal = m.stepped.legal;
        has = (
          m.stepped.has.0,
          record {
            root_did = m.stepped.has.1 (root g) (did_in (root g) c.self.inside.seat.me.0) c.self.invariant.0;
            stopper_did = m.stepped.has.1 (stopper g);
          },
        );
      }),
    )

pub returns-clause-word : goal.returns-clause-word
returns-clause-word c =
    let m = read (goal.at.returns-clause-word c).After-load in
    fired_word_is c.self.inside.setting.value c.self.invariant.1 m.stepped.log m.stepped.legal c.args.vertex
    c.load.result
    m.stepped.has.0.1
