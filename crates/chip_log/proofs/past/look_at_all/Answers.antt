use Rattle.chip_log.proofs.Names.{◌≡◌, [], ◌∙◌, arith}
use Rattle.chip_log.proofs.PastLemmas.{past_of_split}
use Rattle.chip_log.proofs.LoopLemmas.{no_row, turn_room, turn_looked, kept_sized, within, start_split}
use Rattle.chip_log.proofs.past.look_at_all.Goals as goal

pub look-requires : goal.look-requires
look-requires c =
    let inv = c.loop-left.invariant in
    turn_room c.args.rows.now c.args.sizes c.requires.order inv.ends c.args.claim.process
    c.args.claim.row c.loop-left.left no_row (omega arith) (omega arith) inv.kept c.loop-left.books inv.sized inv.split inv.books
    inv.short

pub loop-left-init : goal.loop-left-init
loop-left-init c = record {
  claimer = c.requires.claimer;
  sized = c.requires.sized;
  ends = c.requires.order.log.ends;
  kept = [];
  short = let a = within c.args.rows.now c.requires.order.log c.args.claim c.requires.claim in omega arith;
  split = start_split c.args.rows.now c.requires.order.log c.args.claim c.requires.claim;
  books = c.requires.made;
}

pub loop-left-preserved : goal.loop-left-preserved
loop-left-preserved c =
    let inv = c.loop-left.invariant in
    let found = turn_looked c.args.rows.now c.args.sizes c.requires.order inv.ends
    c.args.claim.process c.args.claim.row c.loop-left.left no_row (omega arith) (omega arith) inv.kept c.loop-left.books
    inv.sized inv.split inv.books inv.short c.look.new.self inv.claimer c.look.ensures.passes c.look.ensures.keeps in
    record {
      claimer = c.look.ensures.keeps.claimer ∙ inv.claimer;
      sized = kept_sized c.args.sizes _ _ c.loop-left.books c.look.new.self inv.sized c.look.ensures.passes.same
          c.look.ensures.keeps;
      ends = inv.ends;
      kept = found.0;
      short = let a = found.1.2 in let b = inv.short in omega arith;
      split = found.1.0;
      books = found.1.1;
    }

pub returns : goal.returns
returns c =
    let inv = c.loop-left.invariant in
    let none_left : c.loop-left.left ≡ 0 = (let e = c.loop-left-test.false in omega arith) in
    record {
      sized = inv.sized;
      past = inv.kept;
      is_past = past_of_split c.args.rows.now inv.ends c.args.claim.process c.args.claim.row inv.kept
          (rw none_left at inv.split);
      keeps = inv.books.keeps;
    }
