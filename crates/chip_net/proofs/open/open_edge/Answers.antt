use Rattle.chip_net.proofs.Names.{◌≡◌, get_or, arith}
use Rattle.chip_net.proofs.Names.{start_of}
use Rattle.chip_net.proofs.OpeningLemmas.{opens_message}
use Rattle.chip_net.proofs.open.open_edge.Goals as goal

pub returns-then-chips-gt0 : goal.returns-then-chips-gt0
returns-then-chips-gt0 c =
    let g = c.args.setting.now in
    let v = c.args.vertex in
    let chips : get_or c.start.result.now v 0 ≡ start_of g v = rw (c.start.ensures.value, c.game.ensures.value) in
    let some = c.if-chips-gt0.true in
    rw (c.edge_word-word.ensures, c.cell_word-cell.ensures, c.root_edge-edge.ensures.value, chips)
    (opens_message g v c.requires.vertex c.args.words.now.items c.requires.words c.game.ensures.setting.some_ring
    (λ z. omega arith))
