use Rattle.std.proofs.Common.{inl, inr, refl}
use Rattle.chip_command.proofs.CommandLemmas.{handed_on}
use Rattle.chip_command.proofs.InputLemmas.{known, unread, is_game}
use Rattle.chip_command.proofs.inputs.read_game.Goals as goal

pub returns-in_err-graph : goal.returns-in_err-graph
returns-in_err-graph g c = rw (handed_on _ c.from_residual.ensures.1)
    (λ graph_text graph_is chips_text chips_is. inl (unread c.in_err-graph.ensures graph_text graph_is))

pub returns-in_err-start : goal.returns-in_err-start
returns-in_err-start g c = rw (handed_on _ c.from_residual-in_err-start.ensures.1)
    (λ graph_text graph_is chips_text chips_is. inr (inl (
      c.in_ok-graph.graph,
      known c.in_ok-graph.ensures graph_text graph_is,
      rw c.vertices.ensures.value at (unread c.in_err-start.ensures chips_text chips_is),
    )))

pub returns-in_err-new : goal.returns-in_err-new
returns-in_err-new g c = rw (handed_on _ c.from_residual-in_err-new.ensures.1)
    (λ graph_text graph_is chips_text chips_is. inr (inr (
      record { graph = c.in_ok-graph.graph; start = c.in_ok-start.start.items; limit = c.args.limit },
      record {
        graph = known c.in_ok-graph.ensures graph_text graph_is;
        start = rw c.vertices.ensures.value at (known c.in_ok-start.ensures chips_text chips_is);
        limited = refl;
      },
      c.in_err-new.field-0.0,
      c.in_err-new.ensures,
      refl,
    )))

pub returns : goal.returns
returns g c = rw c.in_ok-new.ensures.0 (
    let fits = is_game _ c.vertices.ensures.graph c.in_ok-new.ensures.1 in record {
      game = fits;
      means = λ graph_text graph_is chips_text chips_is. record {
        named = record {
          graph = known c.in_ok-graph.ensures graph_text graph_is;
          start = rw c.vertices.ensures.value at (known c.in_ok-start.ensures chips_text chips_is);
          limited = refl;
        };
        game = fits;
      };
    })
