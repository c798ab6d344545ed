use Rattle.chip_crew.proofs.Names.{◌≡◌, ℕ, List, Option, Some, None, refl, is_some}
use Rattle.chip_crew.proofs.Names.{rules, Bor, MatchResult-weaker, option_copied, option_zip}
use Rattle.chip_crew.proofs.Names.{Asked, asked_of, IsCrewFor}
use Rattle.chip_crew.proofs.RunLemmas.{ours_by, new_turns}
use Rattle.chip_crew.proofs.FinishingLemmas.{may_begin, plan_fits, finished_by, stopped_by}
use Rattle.chip_crew.proofs.LeadingLemmas.{none_sealed, may_seal}
use Rattle.chip_crew.proofs.play.run_with.Goals as goal

-- there are feeds where their list is known
copied_some : (feeds : Option (Bor (List (ℕ × ℕ)))) → is_some feeds ≡ is_some (option_copied feeds)
copied_some None = refl
copied_some (Some feeds) = refl

pub play_on-requires-clause-asked : goal.play_on-requires-clause-asked
play_on-requires-clause-asked g c κs within = record {
  net_is = refl;
  plan_is = refl;
  few_turns = (plan_fits c.args.game (option_copied c.args.feeds) c.args.plan c.in_ok-ring.ensures.0).2;
  gate = λ worker turn answer may. may;
}

pub play_on-requires-clause-opened : goal.play_on-requires-clause-opened
play_on-requires-clause-opened g c κs within =
    let opened = c.in_ok-opened.opened in
    let asked : Asked = asked_of opened.net c.args.plan c.args.sharing (option_copied c.args.feeds)
    (g.G.Gate.may_answer c.args.gate.now) in
    let can = c.in_ok-ring.ensures.0 in
    let setting = rw (c.new-setting.ensures, c.in_ok-ring.ensures.1, c.is_some.ensures, copied_some c.args.feeds)
    at c.in_ok-opened.ensures.setting in
    let fits = plan_fits c.args.game (option_copied c.args.feeds) c.args.plan can in
    let sealed = none_sealed asked.crew c.args.game c.args.plan.seal opened.stopper (rw c.is_some-2.ensures
    at c.in_ok-opened.ensures.stopper) fits.3 (rw setting refl) in
    record {
      leads = record {
        root = rw c.is_some-2.ensures at c.in_ok-opened.ensures.root;
        feeds = refl;
        seal = sealed;
        goes_on = refl;
        can = record {
          net_is = rw c.in_ok-opened.ensures.root refl;
          may = may_begin c.args.game (option_copied c.args.feeds) c.args.plan opened.net opened.root _ can
              setting c.in_ok-opened.ensures.root;
          seal = may_seal asked.crew c.args.plan.seal 0 (option_zip opened.stopper c.args.plan.seal) sealed;
          closed = λ is. cc;
        };
      };
      each = ours_by asked.crew c.new-setting.result.game.graph.vertices opened.actors.items
          (rw c.in_ok-opened.ensures.setting refl) c.in_ok-opened.ensures.count
          c.in_ok-opened.ensures.actors;
      count = search rules;
      no_turns = new_turns opened.net c.args.plan.trace_rows opened.actors.items (λ v less.
          c.in_ok-opened.ensures.actors v (rw c.in_ok-opened.ensures.count at less));
      some = search rules;
      workers_are = refl;
      some_workers = fits.0;
      few_workers = fits.1;
    }

pub returns : goal.returns
returns g c =
    let feeds = option_copied c.args.feeds in
    let asked : Asked = asked_of c.in_ok-opened.opened.net c.args.plan c.args.sharing feeds
    (g.G.Gate.may_answer c.args.gate.now) in
    let opened : IsCrewFor c.args.sharing c.args.game feeds c.args.plan asked.crew = record {
      can = c.in_ok-ring.ensures.0;
      setting = rw (c.new-setting.ensures, c.in_ok-ring.ensures.1, c.is_some.ensures, copied_some c.args.feeds)
          at c.in_ok-opened.ensures.setting;
      room = refl;
      workers = refl;
      sharing = refl;
    } in
    record {
      finished = MatchResult-weaker c.play_on.result c.play_on.ensures.finished
          (λ f has. finished_by feeds c.args.plan asked.crew f has c.args.sharing c.args.game opened) (λ e none. none);
      fault = MatchResult-weaker c.play_on.result c.play_on.ensures.stopped (λ f none. none)
          (λ e why. stopped_by c.args.sharing c.args.game asked e opened why);
    }
